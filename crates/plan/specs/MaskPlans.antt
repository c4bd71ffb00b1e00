-- Plans that a search by masks writes: one for each mask, of the plans for a submask and for the rest.
use Rattle.std.specs.Prelude.{ℕ, ◌-◌, ◌^◌, ◌<◌, Bool, List, [], ◌∷◌, ◌++◌, length, get_or}
use Rattle.std.proofs.Common.{add-zero, pow_pos}
use Rattle.lists.specs.Trusted.Lists.{Inserted, Permuted, empty, more}
use Rattle.lists.specs.Sequences.{upto}
use Rattle.lists.specs.ListLaws.{permuted_append, permuted_trans}
use Rattle.lists.specs.MixLaws.{mix_append}
use Rattle.lists.specs.NumberLaws.{upto_length, upto_at}
use Rattle.plan.specs.declared.Key.{Key}
use Rattle.plan.specs.Key.{leaf_key, KeyJoined}
use Rattle.plan.specs.Masks.{select, MaskWithin}
use Rattle.plan.specs.MaskLaws.{select_top, select_none, select_mix}
use Rattle.plan.specs.declared.Token.{Token}
use Rattle.plan.specs.declared.Token.TheVariants.{Push as push, Join as join}
use Rattle.plan.specs.Plans.{fanin, binary, Planned}

-- a plan for the fanins at the set bits of the mask s
abbrev pub MaskPlanned : ℕ → List Key → ℕ → List Token → Key → Type 0
MaskPlanned K ks s = Planned K ks (select s (upto (length ks)))

module _ {K : ℕ} {ks : List Key} where
  -- a mask of one bit
  pub mask_plan_one : (h : ℕ) → h < length ks → MaskPlanned K ks (2 ^ h) (push h ∷ []) (get_or ks h leaf_key)
  mask_plan_one h l = record { order = h ∷ []; denotes = fanin h l; once = only }
    where
      ns : List ℕ
      ns = upto (length ks)

      top : Inserted h (select (2 ^ h) ns) (select 0 ns)
      top = rw (add-zero (2 ^ h), upto_at (length ks) h 0 l) at (select_top ns h 0 0 (rw (upto_length (length ks)) l) (pow_pos h))

      only : Permuted (h ∷ []) (select (2 ^ h) ns)
      only = more (rw (select_none ns) at top) empty

  -- a mask of more
  pub mask_plan_join : (u s : ℕ) {p q : List Token} {a b k : Key} {l r : Bool} → MaskWithin u s →
      MaskPlanned K ks (s - u) p a → MaskPlanned K ks u q b → KeyJoined K l r a b k → MaskPlanned K ks s (p ++ (q ++ (join l r ∷ []))) k
  mask_plan_join u s w x y z = record {
    order = x.order ++ y.order;
    denotes = binary x.denotes y.denotes z;
    once = permuted_trans (permuted_append x.once y.once) (mix_append (select_mix (upto (length ks)) u s w));
  }
