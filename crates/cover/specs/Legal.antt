-- What the laws of an added sheet ask of it. Internal definitions: that every sheet that is read is so is in sheet/specs/TreeLaws (`read_drawn`).
use Rattle.std.specs.Prelude.{ℕ, ◌<◌, ◌≢◌}
use Rattle.lists.specs.Trusted.Lists.{Every, Distinct}
use Rattle.tree.specs.Measures.{leaves}
use Rattle.cover.specs.Trusted.CoverTables.{Circuit}

-- its nets lie from 1 to below the base, no net stands at two leaves, and it does not read the net that it drives
pub record Legal (base : ℕ) (s : Circuit) : Type 0 where
  pub out_net : (0 < s.out) × (s.out < base)
  pub leaf_nets_lem : Every (λ x. (0 < x) × (x < base) × (x ≢ s.out)) (leaves s.tree)
  pub leaf_once : Distinct (leaves s.tree)
