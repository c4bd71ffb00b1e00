-- What good input is, computed at its limits, and how many leaves a key asks for.
use Rattle.std.specs.Prelude.{ℕ, ◌≡◌, refl, Bool, true, false, [], ◌∷◌}
use Rattle.plan.specs.declared.Key.{Key}
use Rattle.plan.specs.Key.{key, leaf_key}
use Rattle.plan.specs.Volume.{fewest_leaves}
use Rattle.plan.specs.PlanOf.{fanin_test, good_input}

-- two fanins, of which the second has the key, and others past them
unfoldable two : ℕ → ℕ → Key → Bool
two K count a = good_input K count (leaf_key ∷ a ∷ key 255 9 ∷ [])

good : (two 2 2 leaf_key ≡ true) × (two 6 2 (key 255 6) ≡ true)
unfolding two good_input fanin_test
good = (refl, refl)

bad_limits : (two 1 2 leaf_key ≡ false) × (two 7 2 leaf_key ≡ false) × (two 4 1 leaf_key ≡ false) × (two 4 11 leaf_key ≡ false)
unfolding two good_input fanin_test
bad_limits = (refl, refl, refl, refl)

bad_keys : (two 4 2 (key 0 0) ≡ false) × (two 4 2 (key 0 5) ≡ false) × (two 4 3 leaf_key ≡ false)
unfolding two good_input fanin_test
bad_keys = (refl, refl, refl)

-- of a leaf, and of a gate of five leaves at K 2: four tables, so three below the root's two inputs
leaves_asked : (fewest_leaves leaf_key ≡ 1) × (fewest_leaves (key 3 2) ≡ 5)
leaves_asked = (refl, refl)
