-- A cover's level depends on nothing but the levels of the nets that its tree reads; and so do the least root level and the fewest
-- tables.
use Rattle.std.specs.Prelude.{ℕ, ◌+◌, max, ◌≡◌, refl}
use Rattle.std.proofs.Common.{sym, ap, ap₂, ◌∙◌}
use Rattle.lists.specs.ListLaws.{every_head, every_left, every_right, permuted_from}
use Rattle.tree.specs.Trusted.Tree.{Node}
use Rattle.tree.specs.Measures.{leaves}
use Rattle.cover.specs.Trusted.Cover.{Cover, net, top, Fanins, end, old, new, pick, SplitOf, CoverOf}
use Rattle.cover.specs.Eval.{Agree}
use Rattle.cover.specs.Nets.{nets, nets*, split_nets}
use Rattle.levels.specs.Trusted.Levels.{level, levels, Fastest}

module _ (d e : ℕ → ℕ) where
  mutual
    nets_level : (c : Cover) → Agree d e (nets c) → level d c ≡ level e c
    nets_level (net n) h = every_head h
    nets_level (top m k fs) h = ap (λ l. pick m l (1 + l)) (nets_levels fs h)

    nets_levels : (fs : Fanins) → Agree d e (nets* fs) → levels d fs ≡ levels e fs
    nets_levels end h = refl
    nets_levels (old i c fs) h = ap₂ max (nets_level c (every_left (nets c) (nets* fs) h)) (nets_levels fs (every_right (nets c) (nets* fs) h))
    nets_levels (new m s fs) h =
        ap₂ (λ a b. max (pick m a (1 + a)) b) (nets_levels s (every_left (nets* s) (nets* fs) h)) (nets_levels fs (every_right (nets* s) (nets* fs) h))

  pub split_level : {t : Node} {c : Cover} → SplitOf t c → Agree d e (leaves t) → level d c ≡ level e c
  split_level {c = c} s h = nets_level c (permuted_from (split_nets s) h)

pub fastest_same : {lev lev' : ℕ → ℕ} {K : ℕ} {t : Node} {n d : ℕ} → Agree lev lev' (leaves t) → Fastest lev K t n d → Fastest lev' K t n d
fastest_same {lev} {lev'} {K} {t} h f = record {
  some = let x = f.some in (x.0, x.1, sym (same x.0 x.1) ∙ x.2, x.3);
  none_lower = λ c o. rw (same c o) at (f.none_lower c o);
  none_fewer = λ c o e. f.none_fewer c o (same c o ∙ e);
}
  where
    same : (c : Cover) → CoverOf K t c → level lev c ≡ level lev' c
    same c o = split_level lev lev' o.split h
