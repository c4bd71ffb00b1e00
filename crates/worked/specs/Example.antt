-- One sheet, net 5 = not (1 and 4 and (2 or not 3)), in tables of two inputs: the definitions computed, and met.
-- The AND gate is split in two, of which the lower has the fanins 1 and 4; the plan says so, and its run makes the cover.
use Rattle.std.specs.Prelude.{ℕ, ◌+◌, ◌≡◌, refl, Bool, true, false, not, List, [], ◌∷◌, eqb}
use Rattle.std.proofs.Common.{arith}
use Rattle.lists.specs.Trusted.Lists.{Every, here, there, empty, more}
use Rattle.lists.specs.Sequences.{upto}
use Rattle.lists.specs.ListLaws.{every_none, every_cons, permuted_refl}
use Rattle.tree.specs.declared.Kind.TheVariants.{And as and, Or as or}
use Rattle.tree.specs.Trusted.Limits.{code_base}
use Rattle.tree.specs.Trusted.Tree.{leaf, gate, Edges, none, edge, turned}
use Rattle.tree.specs.Measures.{value}
use Rattle.cover.specs.Trusted.Cover.{Cover, net, top, Fanins, end, old, new, same, split, done, match, rooted}
use Rattle.plan.specs.Key.{key, KeyJoined, leaf_key, held, cut, pack, better}
use Rattle.plan.specs.Subsets.{least_of}
use Rattle.plan.specs.Least.{least_is}
use Rattle.plan.specs.declared.Token.{Token}
use Rattle.plan.specs.declared.Token.TheVariants.{Push as push, Join as join}
use Rattle.plan.specs.Plans.{fanin, binary, Planned, made, Runs, stop, pushed, joined}
use Rattle.cover.specs.Trusted.Tables.{LookupTable, numbered, settled}
use Rattle.cover.specs.Trusted.Placed.{records, records*}
use Rattle.plan.specs.Placings.{placings}
use Rattle.cover.specs.Trusted.CoverTables.{Circuit, LeastCoverTables}
use Rattle.cover.specs.Legal.{Legal}
use Rattle.cover.proofs.CoverValueLaws.{added_met}

abbrev edges : Edges
edges = edge false (leaf 1) (edge false (leaf 4) (edge false (gate or (edge false (leaf 2) (edge true (leaf 3) none))) none))

abbrev sheet : Circuit
sheet = record { tree = gate and edges; out = 5; inverted = true }

-- ---- the plan: 1 with 4, and then the OR gate with that, both placed

abbrev plan : List Token
plan = push 2 ∷ push 0 ∷ push 1 ∷ join false false ∷ join true true ∷ []

low : KeyJoined 2 false false leaf_key leaf_key (key 0 2)
low = record { left = leaf_key; right = leaf_key; took_left = held; took_right = held; fits = omega arith; is = refl }

high : KeyJoined 2 true true (key 0 2) (key 0 2) (key 2 2)
high = record { left = key 1 1; right = key 1 1; took_left = cut (omega arith); took_right = cut (omega arith); fits = omega arith; is = refl }

planned : Planned 2 (leaf_key ∷ leaf_key ∷ key 0 2 ∷ []) (upto 3) plan (key 2 2)
planned = record {
  order = 2 ∷ 0 ∷ 1 ∷ [];
  denotes = binary (fanin 2 (omega arith)) (binary (fanin 0 (omega arith)) (fanin 1 (omega arith)) low) high;
  once = more (there (there here)) (more here (more here empty));
}

abbrev inner : Fanins
inner = old false (net 2) (old true (net 3) end)

abbrev body : Fanins
body = old false (top 1 or inner) (new 2 (old false (net 1) (old false (net 4) end)) end)

abbrev fanins : List (Bool × Cover)
fanins = (false, net 1) ∷ (false, net 4) ∷ (false, top 0 or inner) ∷ []

abbrev its_run : Runs fanins plan [] (made body ∷ [])
its_run = pushed (pushed (pushed (joined 0 0 refl refl (joined {l = true} {r = true} 1 2 (omega arith) (omega arith) stop))))

-- ---- the tables

abbrev cover : Cover
cover = top 3 and body

abbrev part : List LookupTable
part =
    record { drives = 0; inputs = 2 ∷ 3 ∷ []; truth = 0b1011 } ∷ record { drives = 0; inputs = 1 ∷ 4 ∷ []; truth = 0b1000 }
    ∷ record { drives = 5; inputs = (code_base + 1) ∷ (code_base + 2) ∷ []; truth = 0b0111 } ∷ []

its_records : records code_base cover 5 true ≡ numbered 0 part
its_records = refl

-- the run places all but the root's
its_placings : placings code_base and fanins its_run ≡ records* code_base body and
its_placings = refl

-- with net 3 alone true, and with net 3 alone false
its_values : (settled code_base part (λ n. eqb n 3) 5 ≡ true) × (settled code_base part (λ n. not (eqb n 3)) 5 ≡ false)
its_values = (refl, refl)

-- ---- the sheet is added

two : {A : Type 0} (P : A → Type 0) {x y : A} → P x → P y → Every P (x ∷ y ∷ [])
two P p q = every_cons p (every_cons q (every_none _))

legal : Legal code_base sheet
legal = record {
  out_net = omega arith;
  leaf_nets_lem = every_cons (omega arith) (every_cons (omega arith) (two _ (omega arith) (omega arith)));
  leaf_once = (
    every_cons (omega arith) (two _ (omega arith) (omega arith)),
    (two _ (omega arith) (omega arith), (every_cons (omega arith) (every_none _), (every_none _, tt))),
  );
}

added : LeastCoverTables code_base 2 [] part sheet
unfolding pack better least_of
added = record {
  added = record {
    cover = cover;
    covers = record {
      split = split (match (there here) same (match (there here) same (match here (split (match here same (match here same done))) done)));
      root = rooted;
      fits = omega arith;
    };
    taken = permuted_refl _;
    earlier = every_cons (two _ (omega arith) (omega arith)) (two _ (two _ (omega arith) (omega arith)) (two _ (omega arith) (omega arith)));
    last = refl;
  };
  fewest = least_is 2 (omega arith) and edges tt;
}

its_meaning : (σ : ℕ → Bool) → settled code_base part σ 5 ≡ turned true (value sheet.tree (settled code_base part σ))
its_meaning = added_met code_base 2 [] part sheet legal added.added
