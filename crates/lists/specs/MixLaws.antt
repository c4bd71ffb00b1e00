-- Laws of mixes, and of two lists taken element by element: a mix in another order, what holds of every element of a mix, and
-- the counterparts of a list that is put in another order or taken apart.
use Rattle.std.specs.Prelude.{◌≡◌, refl, ◌⊎◌, List, [], ◌∷◌, ◌++◌}
use Rattle.std.proofs.Common.{ap, inl, inr}
use Rattle.lists.specs.Trusted.Lists.{Every, Inserted, here, there, Permuted, empty, more}
use Rattle.lists.specs.Sequences.{Mix, neither, left, right, Paired, no_pair, pair}
use Rattle.lists.specs.ListLaws.{every_cons, every_head, every_tail, inserted_right, permuted_insert, permuted_sym}

module _ {A : Type 0} where
  pub mix_swap : {xs ys zs : List A} → Mix xs ys zs → Mix ys xs zs
  mix_swap neither = neither
  mix_swap (left m) = right (mix_swap m)
  mix_swap (right m) = left (mix_swap m)

  pub mix_none : (xs : List A) → Mix [] xs xs
  mix_none [] = neither
  mix_none (x ∷ xs) = right (mix_none xs)

  pub mix_all : {xs ys : List A} → Mix xs [] ys → xs ≡ ys
  mix_all neither = refl
  mix_all (left {x} m) = ap (λ ys. x ∷ ys) (mix_all m)

  pub every_mix : {P : A → Type 0} {xs ys zs : List A} → Mix xs ys zs → Every P xs → Every P ys → Every P zs
  every_mix neither u v = u
  every_mix (left m) u v = every_cons (every_head u) (every_mix m (every_tail u) v)
  every_mix (right m) u v = every_cons (every_head v) (every_mix m u (every_tail v))

  pub mix_every : {P : A → Type 0} {xs ys zs : List A} → Mix xs ys zs → Every P zs → Every P xs × Every P ys
  mix_every neither w = (w, w)
  mix_every (left m) w = let p = mix_every m (every_tail w) in (every_cons (every_head w) p.0, p.1)
  mix_every (right m) w = let p = mix_every m (every_tail w) in (p.0, every_cons (every_head w) p.1)

  -- an element of a mix is an element of one of the two lists
  draw : {x : A} {ws xs ys zs : List A} → Inserted x ws zs → Mix xs ys ws →
      ((us : List A) × Inserted x xs us × Mix us ys zs) ⊎ ((vs : List A) × Inserted x ys vs × Mix xs vs zs)
  draw here (left m) = inl (_, here, m)
  draw here (right m) = inr (_, here, m)
  draw (there i) (left m) = elim (draw i m) [ inl r ↦ inl (_, there r.1, left r.2) | inr r ↦ inr (r.0, r.1, left r.2) ]
  draw (there i) (right m) = elim (draw i m) [ inl r ↦ inl (r.0, r.1, right r.2) | inr r ↦ inr (_, there r.1, right r.2) ]

  -- a mix in another order is a mix of the two lists in other orders
  pub mix_permuted : {ws xs ys zs : List A} → Permuted zs ws → Mix xs ys ws →
      (us : List A) × (vs : List A) × Permuted us xs × Permuted vs ys × Mix us vs zs
  mix_permuted empty neither = ([], [], empty, empty, neither)
  mix_permuted (more i p) m =
      elim (draw i m) [
        | inl d ↦ let r = mix_permuted p d.2 in (_, r.1, more d.1 r.2, r.3, left r.4)
        | inr d ↦ let r = mix_permuted p d.2 in (r.0, _, r.2, more d.1 r.3, right r.4)
      ]

  pub mix_append : {xs ys zs : List A} → Mix xs ys zs → Permuted (xs ++ ys) zs
  mix_append neither = empty
  mix_append (left m) = more here (mix_append m)
  mix_append (right {xs = xs} m) = permuted_sym (more (inserted_right xs here) (permuted_sym (mix_append m)))

-- ---- two lists, element by element

module _ {A B : Type 0} {R : A → B → Type 0} where
  pub paired_insert : {x : A} {y : B} {xs xs' : List A} {ys : List B} → Inserted x xs' xs → R x y → Paired R xs ys →
      (ys' : List B) × Inserted y ys' ys × Paired R xs' ys'
  paired_insert here h p = (_, here, pair h p)
  paired_insert (there i) h (pair g p) = let q = paired_insert i h p in (_, there q.1, pair g q.2)

  -- the first in another order
  pub paired_permuted : {xs xs' : List A} {ys : List B} → Permuted xs xs' → Paired R xs ys →
      (ys' : List B) × Permuted ys' ys × Paired R xs' ys'
  paired_permuted empty no_pair = (_, empty, no_pair)
  paired_permuted (more i p) (pair h q) =
      let r = paired_permuted p q in
      let s = paired_insert i h r.2 in
      (_, permuted_insert s.1 r.1, s.2)

  pub paired_append : {xs xs' : List A} {ys ys' : List B} → Paired R xs ys → Paired R xs' ys' → Paired R (xs ++ xs') (ys ++ ys')
  paired_append no_pair q = q
  paired_append (pair h p) q = pair h (paired_append p q)

  pub paired_split : (xs xs' : List A) {ys : List B} → Paired R (xs ++ xs') ys →
      (us : List B) × (vs : List B) × Mix us vs ys × Paired R xs us × Paired R xs' vs
  paired_split [] xs' {ys} p = ([], ys, mix_none ys, no_pair, p)
  paired_split (x ∷ xs) xs' (pair h p) = let q = paired_split xs xs' p in (_, q.1, left q.2, pair h q.3, q.4)

  -- the second as a mix
  pub paired_mix : {xs : List A} {us vs ys : List B} → Mix us vs ys → Paired R xs ys →
      (ws : List A) × (zs : List A) × Mix ws zs xs × Paired R ws us × Paired R zs vs
  paired_mix neither no_pair = ([], [], neither, no_pair, no_pair)
  paired_mix (left m) (pair {xs = xs} h p) = let q = paired_mix {xs = xs} m p in (_, q.1, left q.2, pair h q.3, q.4)
  paired_mix (right m) (pair {xs = xs} h p) = let q = paired_mix {xs = xs} m p in (q.0, _, right q.2, q.3, pair h q.4)
