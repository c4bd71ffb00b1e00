-- Every worked example is right: one computed test over the whole table of rows, by the computed best key and the table of the
-- whole tree, both of the joined tree.
use Rattle.std.specs.Prelude.{ℕ, ◌≤◌, ◌≡◌, Bool, true, false, ◌&&◌, List, [], ◌∷◌, T, leb, eqb}
use Rattle.std.proofs.Common.{◌∙◌, leb→le, eqb→eq}
use Rattle.std.proofs.Math.Option.{Option, some, none}
use Rattle.lists.specs.Cases.{and_split}
use Rattle.lists.specs.Trusted.Lists.{Every}
use Rattle.lists.specs.ListLaws.{every_none, every_cons}
use Rattle.tree.specs.Trusted.Tree.{Node, leaf, gate}
use Rattle.tree.specs.Measures.{proper}
use Rattle.cover.specs.Trusted.Cover.{Least}
use Rattle.plan.specs.Key.{pack, better}
use Rattle.plan.specs.Subsets.{least_of}
use Rattle.plan.specs.Least.{least_tables, least_is}
use Rattle.cover.proofs.Whole.{whole, one_table}
use Rattle.joined.specs.Trusted.Joined.{joined_tree}
use Rattle.worked.specs.Worked.{Row, Shown, Right, worked}

abbrev is_gate : Node → Bool
is_gate (leaf n) = false
is_gate (gate k es) = true

-- what a row asks of the computed key
abbrev count_right : Row → Bool
count_right r =
    leb 2 r.inputs && (is_gate (joined_tree r.tree) && (proper (joined_tree r.tree) && eqb (least_tables r.inputs (joined_tree r.tree)) r.count))

-- and of the table of the whole tree
abbrev truth_right : Row → Option ℕ → Bool
truth_right r none = true
truth_right r (some x) = eqb r.count 1 && eqb (whole 0 r.inverted (joined_tree r.tree)).truth x

abbrev all_right : List Row → Bool
all_right [] = true
all_right (r ∷ rs) = count_right r && (truth_right r r.truth && all_right rs)

gate_count : (K : ℕ) (t : Node) (n : ℕ) → 2 ≤ K → T (is_gate t) → T (proper t) → least_tables K t ≡ n → Least K t n
gate_count K (leaf m) n two g p e = absurd g
gate_count K (gate k es) n two g p e = rw e at (least_is K two k es p)

row_count : (r : Row) → T (count_right r) → Least r.inputs (joined_tree r.tree) r.count
row_count r h =
    let a = and_split (leb 2 r.inputs) _ h in
    let b = and_split (is_gate (joined_tree r.tree)) _ a.1 in
    let c = and_split (proper (joined_tree r.tree)) _ b.1 in
    gate_count r.inputs (joined_tree r.tree) r.count (leb→le _ _ a.0) b.0 c.0 (eqb→eq _ _ c.1)

row_truth : (r : Row) (o : Option ℕ) → T (truth_right r o) → Shown r o
row_truth r none h = tt
row_truth r (some x) h = λ base out c o e.
    let a = and_split (eqb r.count 1) _ h in
    rw (one_table base out r.inverted o (e ∙ eqb→eq _ _ a.0)) (every_cons (eqb→eq _ _ a.1) (every_none _))

rows_right : (rs : List Row) → T (all_right rs) → Every Right rs
rows_right [] h = every_none _
rows_right (r ∷ rs) h =
    let p = and_split (count_right r) _ h in
    let q = and_split (truth_right r r.truth) _ p.1 in
    every_cons (record { least = row_count r p.0; shown = row_truth r r.truth q.0 }) (rows_right rs q.1)

pub worked_right : Every Right worked
unfolding pack better least_of
worked_right = rows_right worked tt
