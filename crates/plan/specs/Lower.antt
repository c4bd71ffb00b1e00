-- No cover has a better key than the best one, so that the best key bounds the number of tables of every cover from below.
-- By induction over the cover: the fanins of each split gate are above some tree of joins over the drawn fanins' best keys.
use Rattle.std.specs.Prelude.{ℕ, zero, suc, ◌+◌, ◌≤◌, Bool, List, []}
use Rattle.std.proofs.Common.{add-zero, zero-add, arith}
use Rattle.lists.specs.Trusted.Lists.{Permuted, empty, more}
use Rattle.lists.specs.Sequences.{Mix, left, Paired, no_pair, pair}
use Rattle.lists.specs.MixLaws.{mix_none, mix_all, paired_insert, paired_split}
use Rattle.tree.specs.Trusted.Tree.{Node, Edges}
use Rattle.plan.specs.declared.Key.{Key}
use Rattle.plan.specs.Key.{key, leaf_key, ◌≼◌}
use Rattle.plan.specs.KeyLaws.{≼_refl, ≼_trans, join_low}
use Rattle.plan.specs.Reach.{Reach, one, both, LeastReach, Best, at_leaf, at_gate, Bests, at_end, at_edge}
use Rattle.plan.specs.ReachLaws.{reach_permuted}
use Rattle.cover.specs.Trusted.Cover.{
  Cover,
  net,
  top,
  Fanins,
  end,
  old,
  new,
  pick,
  arity,
  frontier,
  tables,
  tables*,
  width,
  widths,
  Fits,
  Fits*,
  SplitOf,
  same,
  split,
  Matched,
  done,
  match,
  CoverOf,
  Rooted,
  rooted,
}

-- `r` is no worse than `c` tables below `w` inputs
record Over (r : Key) (c w : ℕ) : Type 0 where
  low : r ≼ key c w
  wide : 1 ≤ w

-- choosing does not make it better
raise : {r : Key} (m c w : ℕ) → Over r c w → Over r (pick m 0 1 + c) (pick m w 1)
raise zero c w h = rw zero-add h
raise (suc m) c w h = record { low = omega (arith, h.low.count); wide = omega arith }

module _ (K : ℕ) where
  -- the best keys of a gate's fanins, as the cover has them
  abbrev Keyed : List (Bool × Cover) → List Key → Type 0
  Keyed = Paired (λ q k. (t : Node) × SplitOf t q.1 × Best K t k)

  -- the drawn gate's fanins have them in another order
  keyed_matched : {es : Edges} {xs : List (Bool × Cover)} {ks : List Key} →
      Matched es xs → Bests K es ks → (js : List Key) × Permuted ks js × Keyed xs js
  keyed_matched done at_end = ([], empty, no_pair)
  keyed_matched (match j s m) (at_edge b bs) =
      let r = keyed_matched m bs in
      let q = paired_insert j (_, s, b) r.2 in
      (q.0, more q.1 r.1, q.2)

  -- some tree of joins over `ks` is no worse than `c` tables below `w` inputs
  abbrev Above : List Key → ℕ → ℕ → Type 0
  Above ks c w = (r : Key) × Reach K ks r × Over r c w

  -- the same of any number of fanins
  data Sum : ℕ → List Key → ℕ → ℕ → Type 0 where
    nothing : Sum 0 [] 0 0
    some : {n : ℕ} {ks : List Key} {c w : ℕ} → Above ks c w → Sum n ks c w

  -- two fanins or more are some
  sum_above : {n c w : ℕ} {ks : List Key} → 2 ≤ n → Sum n ks c w → Above ks c w
  sum_above h nothing = absurd (omega arith)
  sum_above h (some a) = a

  -- a table that fits is as wide as what it holds
  held_fits : (m w : ℕ) → pick m (Unit {0}) (w ≤ K) → pick m w 1 ≤ K → w ≤ K
  held_fits zero w f h = h
  held_fits (suc m) w f h = f

  -- the best key of a gate, by what any cover of its fanins is above
  gate_over : {es : Edges} {xs : List (Bool × Cover)} {ks : List Key} {r : Key} {c w : ℕ} →
      Matched es xs → Bests K es ks → LeastReach K ks r → ((js : List Key) → Keyed xs js → Above js c w) → Over r c w
  gate_over m bs l f =
      let q = keyed_matched m bs in
      let a = f q.0 q.2 in
      record { low = ≼_trans (l.least a.0 (reach_permuted a.1 q.1)) a.2.low; wide = a.2.wide }

  module _ (two : 2 ≤ K) where
    add : {ks js ls : List Key} {n c d v w : ℕ} →
        Mix ks js ls → Above ks c v → Sum n js d w → v + w ≤ K → Above ls (c + d) (v + w)
    add {c = c} {v = v} m a nothing f = rw (add-zero c, add-zero v, ← mix_all m) a
    add m a (some b) f =
        let x = a.2 in
        let y = b.2 in
        let l = join_low K two x.low y.low x.wide y.wide f in
        (_, both m a.1 b.1, record { low = l; wide = omega (arith, x.wide) })

    mutual
      lower : (c : Cover) {t : Node} {r : Key} → SplitOf t c → Best K t r → Fits c K → width c ≤ K → Over r (tables c) (width c)
      lower (net n) same at_leaf f w = record { low = ≼_refl leaf_key; wide = omega arith }
      lower (top m k fs) (split mt) (at_gate bs l) f w =
          let v = held_fits m (widths fs) f.1 w in
          raise m _ _ (gate_over mt bs l (λ js d. sum_above f.0 (lower* fs d f.2 v)))

      lower* : (fs : Fanins) {ks : List Key} → Keyed (frontier fs) ks → Fits* fs K → widths fs ≤ K →
          Sum (arity fs) ks (tables* fs) (widths fs)
      lower* end no_pair f w = nothing
      lower* (old i c fs) (pair b d) f w =
          let x = lower c b.1 b.2 f.0 (omega arith) in
          some (add (left (mix_none _)) (_, one, x) (lower* fs d f.1 (omega arith)) w)
      lower* (new m s fs) d f w =
          let q = paired_split (frontier s) (frontier fs) d in
          let v = held_fits m (widths s) f.0.1 (omega arith) in
          let a = sum_above f.0.0 (lower* s q.3 f.0.2 v) in
          some (add q.2 (a.0, a.1, raise m _ _ a.2) (lower* fs q.4 f.1 (omega arith)) w)

    -- below a chosen root stand at least the best key's tables
    root_over : {t : Node} {r : Key} {c : Cover} → Rooted c → SplitOf t c → Best K t r → Fits c K → r.below + 1 ≤ tables c
    root_over {r = r} (rooted {fs}) (split mt) (at_gate bs l) f =
        let o : Over r (tables* fs) (widths fs) = gate_over mt bs l (λ js d. sum_above f.0 (lower* fs d f.2 f.1)) in
        omega (arith, o.low.count)

    pub root_low : {t : Node} {r : Key} → Best K t r → (c : Cover) → CoverOf K t c → r.below + 1 ≤ tables c
    root_low b c o = root_over o.root o.split b o.fits
