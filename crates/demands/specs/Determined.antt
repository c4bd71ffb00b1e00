-- The answer of an add, computed: all that an add leaves free is which cover of those that its way allows is taken, and the order of its tables.
-- And what the answers of later adds depend on. Internal definitions: the laws are in DeterminedLaws.
use Rattle.std.specs.Prelude.{ℕ, ◌≡◌, Bool, true, false, cond, ◌&&◌, T, leb}
use Rattle.std.proofs.Common.{leb→le}
use Rattle.lists.specs.Trusted.Lists.{Every}
use Rattle.lists.specs.Cases.{and_split}
use Rattle.lists.specs.Trusted.Checked.{Checked, passed, refused as unread}
use Rattle.tree.specs.declared.Kind.{Kind}
use Rattle.tree.specs.Trusted.Limits.{code_base}
use Rattle.tree.specs.Trusted.Tree.{Node, leaf, gate, Edges}
use Rattle.tree.specs.Measures.{proper}
use Rattle.plan.specs.Least.{least_tables}
use Rattle.cover.specs.Trusted.Tables.{code_levels}
use Rattle.cover.specs.Trusted.CoverTables.{Circuit}
use Rattle.levels.specs.Trusted.Levels.{Fastest}
use Rattle.levels.proofs.Found.{fastest_is}
use Rattle.table.specs.Trusted.Rules.{IsNet}
use Rattle.part.specs.Trusted.Parts.{tables_of, available}
use Rattle.part.specs.Trusted.Ways.{Way, least, fastest}
use Rattle.part.specs.Trusted.SoundTest.{sound}
use Rattle.part.specs.Trusted.Answers.{Answer, accepted, refused}
use Rattle.part.specs.Trusted.Add.{is_driven, net_read}
use Rattle.part.specs.Trusted.Tries.{adding}
use Rattle.demands.specs.Trusted.Calls.{Call, sheets_of}
use Rattle.part.specs.declared.Part.{Part}

-- the number that the search finds, which is the least number of a sheet that was read (`least-number` in DeterminedLaws)
unfoldable pub least_number : ℕ → Circuit → ℕ
least_number k s = least_tables k s.tree

-- a number with this property where a test holds, else 0
number_where : (P : ℕ → Type 0) (b : Bool) → (T b → (n : ℕ) × P n) → (n : ℕ) × (T b → P n)
number_where P true f = let x = f tt in (x.0, λ h. x.1)
number_where P false f = (0, λ h. absurd h)

-- the fewest tables of the covers of a gate with the least root level, where there are covers
pub fastest_of : (lev : ℕ → ℕ) (K : ℕ) (k : Kind) (es : Edges) →
    (n : ℕ) × (T (leb 2 K && proper (gate k es)) → (d : ℕ) × Fastest lev K (gate k es) n d)
fastest_of lev K k es =
    number_where (λ n. (d : ℕ) × Fastest lev K (gate k es) n d) (leb 2 K && proper (gate k es))
    (λ h. let x = and_split (leb 2 K) (proper (gate k es)) h in let y = fastest_is K lev (leb→le 2 K x.0) k es x.1 in (y.0, (y.1, y.2)))

abbrev pub fastest_number : (lev : ℕ → ℕ) (K : ℕ) → Node → ℕ
fastest_number lev K (leaf n) = 0
fastest_number lev K (gate k es) = (fastest_of lev K k es).0

-- the number of a sheet that was read, in each way (`number_is` in DeterminedLaws)
abbrev pub number_in : Way → Part → Circuit → ℕ
number_in least p s = least_number p.k s
number_in fastest p s = fastest_number (code_levels code_base (tables_of p)) p.k s.tree

-- what the number of a sheet depends on besides K: in the way `fastest` the levels of the nets, those of free ones being 0
abbrev pub LevelsAlike : Way → Part → Part → Type 0
LevelsAlike least p q = Unit {0}
LevelsAlike fastest p q = (n : ℕ) → IsNet n → code_levels code_base (tables_of p) n ≡ code_levels code_base (tables_of q) n

-- two parts that differ in nothing that the answer of an add in the way w depends on
pub record Alike (w : Way) (p q : Part) : Type 0 where
  pub k : p.k ≡ q.k
  pub capacity : p.capacity ≡ q.capacity
  pub used : p.used ≡ q.used
  pub reservation : p.reservation ≡ q.reservation
  pub sound : sound p ≡ sound q
  pub driven : (n : ℕ) → IsNet n → is_driven n (tables_of p) ≡ is_driven n (tables_of q)
  pub read : (n : ℕ) → IsNet n → net_read n (tables_of p) ≡ net_read n (tables_of q)
  pub levels : LevelsAlike w p q

-- every sheet that the call adds has its tables chosen in the way w; a reservation adds none
abbrev pub AddsBy : Way → Call → Type 0
AddsBy w c = Every (λ x. x.0 ≡ adding → x.1 ≡ w) (sheets_of c)

abbrev pub offered : Way → Part → Circuit → Answer
offered w p s =
    cond (is_driven s.out (tables_of p)) (refused 21 0)
    (cond (net_read s.out (tables_of p)) (refused 22 0)
    (cond (leb (number_in w p s) (available p)) accepted (refused 23 0)))

abbrev pub taken : Way → Part → Checked Circuit → Answer
taken w p (passed s) = offered w p s
taken w p (unread number place) = refused number place

abbrev pub answer_of : Way → Part → Checked Circuit → Answer
answer_of w p v = cond (sound p) (taken w p v) (refused 20 0)
