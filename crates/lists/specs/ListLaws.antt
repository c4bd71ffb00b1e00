-- Laws of lists: of what holds of every element, of an element put in, and of other orders.
-- Those of mixes are in MixLaws, and those of lists of numbers in NumberLaws.
use Rattle.std.specs.Prelude.{ℕ, zero, suc, ◌≤◌, ◌<◌, ◌≡◌, refl, ◌≢◌, List, [], ◌∷◌, ◌++◌, map, length, get_or, take, drop, replicate}
use Rattle.std.proofs.Common.{arith, sym, ap, ap₂, ◌∙◌, subst, ⊎_elim, append_assoc}
use mathlib.Core.List.Memᴰ
use Rattle.std.proofs.Math.Seq.{drop-nil}
use Rattle.lists.specs.Trusted.Lists.{◌∈◌, first, later, Every, Inserted, here, there, Permuted, empty, more, gather}

module _ {A : Type 0} where
  -- ---- every element

  pub not_first : {a x : A} {xs : List A} → a ≢ x → a ∈ x ∷ xs → a ∈ xs
  not_first n (first e) = absurd (n e)
  not_first n (later m) = m

  pub every_none : (P : A → Type 0) → Every P []
  every_none P a m = absurd (Memᴰ.not-nil m)

  pub every_cons : {P : A → Type 0} {x : A} {xs : List A} → P x → Every P xs → Every P (x ∷ xs)
  every_cons {P} h f a (first e) = subst P (sym e) h
  every_cons h f a (later m) = f a m

  pub every_head : {P : A → Type 0} {x : A} {xs : List A} → Every P (x ∷ xs) → P x
  every_head {x} h = h x (first refl)

  pub every_tail : {P : A → Type 0} {x : A} {xs : List A} → Every P (x ∷ xs) → Every P xs
  every_tail h a m = h a (later m)

  pub every_at : {P : A → Type 0} (xs : List A) (i : ℕ) (z : A) → Every P xs → i < length xs → P (get_or xs i z)
  every_at [] i z h l = absurd (omega arith)
  every_at (x ∷ xs) zero z h l = every_head h
  every_at {P} (x ∷ xs) (suc i) z h l = every_at {P = P} xs i z (every_tail h) (omega arith)

  pub every_append : {P : A → Type 0} (xs ys : List A) → Every P xs → Every P ys → Every P (xs ++ ys)
  every_append xs ys f g a m = ⊎_elim (f a) (g a) (Memᴰ.append_cases xs m)

  pub every_take : {P : A → Type 0} (n : ℕ) (xs : List A) → Every P xs → Every P (take n xs)
  every_take zero xs h = every_none _
  every_take (suc n) [] h = every_none _
  every_take (suc n) (x ∷ xs) h = every_cons (every_head h) (every_take n xs (every_tail h))

  pub every_drop : {P : A → Type 0} (n : ℕ) (xs : List A) → Every P xs → Every P (drop n xs)
  every_drop zero xs h = h
  every_drop (suc n) [] h = every_none _
  every_drop (suc n) (x ∷ xs) h = every_drop n xs (every_tail h)

  pub every_replicate : (P : A → Type 0) (n : ℕ) (x : A) → P x → Every P (replicate n x)
  every_replicate P zero x h = every_none _
  every_replicate P (suc n) x h = every_cons h (every_replicate P n x h)

  pub every_left : {P : A → Type 0} (xs ys : List A) → Every P (xs ++ ys) → Every P xs
  every_left xs ys h a m = h a (Memᴰ.append_left ys m)

  pub every_right : {P : A → Type 0} (xs ys : List A) → Every P (xs ++ ys) → Every P ys
  every_right xs ys h a m = h a (Memᴰ.append_right xs m)

  -- ---- one element put in

  pub inserted_to : {P : A → Type 0} {x : A} {xs ys : List A} → Inserted x xs ys → Every P (x ∷ ys) → Every P xs
  inserted_to here h = h
  inserted_to (there i) h = every_cons (every_head (every_tail h)) (inserted_to i (every_cons (every_head h) (every_tail (every_tail h))))

  pub inserted_from : {P : A → Type 0} {x : A} {xs ys : List A} → Inserted x xs ys → Every P xs → Every P (x ∷ ys)
  inserted_from here h = h
  inserted_from (there i) h =
      let r = inserted_from i (every_tail h) in
      every_cons (every_head r) (every_cons (every_head h) (every_tail r))

  pub inserted_left : {x : A} {xs ys : List A} (zs : List A) → Inserted x xs ys → Inserted x (xs ++ zs) (ys ++ zs)
  inserted_left zs here = here
  inserted_left zs (there i) = there (inserted_left zs i)

  pub inserted_right : {x : A} {xs ys : List A} (zs : List A) → Inserted x xs ys → Inserted x (zs ++ xs) (zs ++ ys)
  inserted_right [] i = i
  inserted_right (z ∷ zs) i = there (inserted_right zs i)

  -- put in after another, it can be put in before it
  inserted_swap : {x y : A} {xs ys zs : List A} → Inserted x xs ys → Inserted y ys zs →
      (ws : List A) × Inserted y xs ws × Inserted x ws zs
  inserted_swap here j = (_, there j, here)
  inserted_swap (there i) here = (_, here, i)
  inserted_swap (there i) (there j) = let r = inserted_swap i j in (_, there r.1, there r.2)

  -- ---- another order

  -- what holds of every element holds of every element in another order
  pub permuted_to : {P : A → Type 0} {xs ys : List A} → Permuted xs ys → Every P xs → Every P ys
  permuted_to empty h = h
  permuted_to (more i p) h = inserted_to i (every_cons (every_head h) (permuted_to p (every_tail h)))

  pub permuted_refl : (xs : List A) → Permuted xs xs
  permuted_refl [] = empty
  permuted_refl (x ∷ xs) = more here (permuted_refl xs)

  pub permuted_insert : {x : A} {xs ys zs : List A} → Inserted x xs ys → Permuted ys zs → Permuted xs (x ∷ zs)
  permuted_insert here p = more here p
  permuted_insert (there i) (more j p) = more (there j) (permuted_insert i p)

  pub permuted_sym : {xs ys : List A} → Permuted xs ys → Permuted ys xs
  permuted_sym empty = empty
  permuted_sym (more i p) = permuted_insert i (permuted_sym p)

  pub permuted_from : {P : A → Type 0} {xs ys : List A} → Permuted xs ys → Every P ys → Every P xs
  permuted_from p = permuted_to (permuted_sym p)

  -- an element put in can be taken out of any other order
  permuted_draw : {x : A} {xs ys zs : List A} → Inserted x xs ys → Permuted xs zs →
      (ws : List A) × Inserted x zs ws × Permuted ys ws
  permuted_draw here (more i p) = (_, i, p)
  permuted_draw (there j) (more i p) =
      let r = permuted_draw j p in
      let q = inserted_swap i r.1 in
      (_, q.1, more q.2 r.2)

  pub permuted_trans : {xs ys zs : List A} → Permuted xs ys → Permuted ys zs → Permuted xs zs
  permuted_trans empty q = q
  permuted_trans (more i p) q = let r = permuted_draw i q in more r.1 (permuted_trans p r.2)

  pub permuted_append : {ws xs ys zs : List A} → Permuted ws xs → Permuted ys zs → Permuted (ws ++ ys) (xs ++ zs)
  permuted_append empty q = q
  permuted_append {zs = zs} (more i p) q = more (inserted_left zs i) (permuted_append p q)

  pub permuted_swap : (xs ys zs : List A) → Permuted (xs ++ (ys ++ zs)) (ys ++ (xs ++ zs))
  permuted_swap [] ys zs = permuted_refl _
  permuted_swap (x ∷ xs) ys zs = more (inserted_right ys here) (permuted_swap xs ys zs)

  pub inserted_length : {x : A} {xs ys : List A} → Inserted x xs ys → length xs ≡ suc (length ys)
  inserted_length here = omega arith
  inserted_length (there i) = omega (arith, inserted_length i)

  pub permuted_length : {xs ys : List A} → Permuted xs ys → length xs ≡ length ys
  permuted_length empty = refl
  permuted_length (more i p) = omega (arith, inserted_length i, permuted_length p)

-- ---- lists one after the other

module _ {A B : Type 0} (f : A → List B) where
  pub gather_append : (xs ys : List A) → gather f (xs ++ ys) ≡ gather f xs ++ gather f ys
  gather_append [] ys = refl
  gather_append (x ∷ xs) ys = ap (◌++◌ (f x)) (gather_append xs ys) ∙ sym (append_assoc (f x) (gather f xs) (gather f ys))

  pub gather_inserted : {x : A} {xs ys : List A} → Inserted x xs ys → Permuted (gather f xs) (gather f (x ∷ ys))
  gather_inserted here = permuted_refl _
  gather_inserted {x} (there {y = y} {ys = ys} i) =
      permuted_trans (permuted_append (permuted_refl (f y)) (gather_inserted i)) (permuted_swap (f y) (f x) (gather f ys))

  pub gather_permuted : {xs ys : List A} → Permuted xs ys → Permuted (gather f xs) (gather f ys)
  gather_permuted empty = empty
  gather_permuted (more {x = x} i p) = permuted_trans (permuted_append (permuted_refl (f x)) (gather_permuted p)) (permuted_sym (gather_inserted i))

  pub gather_map : {C : Type 0} (g : C → A) (xs : List C) → gather f (map g xs) ≡ gather (λ x. f (g x)) xs
  gather_map g [] = refl
  gather_map g (x ∷ xs) = ap (◌++◌ (f (g x))) (gather_map g xs)

pub gather_same : {A B : Type 0} (f g : A → List B) (xs : List A) → Every (λ x. f x ≡ g x) xs → gather f xs ≡ gather g xs
gather_same f g [] h = refl
gather_same f g (x ∷ xs) h = ap₂ ◌++◌ (every_head h) (gather_same f g xs (every_tail h))

pub interchange : {A : Type 0} (ws xs ys zs : List A) → Permuted ((ws ++ xs) ++ (ys ++ zs)) ((ws ++ ys) ++ (xs ++ zs))
interchange ws xs ys zs = simp append_assoc (permuted_append (permuted_refl ws) (permuted_swap xs ys zs))

pub drop_past : {A : Type 0} (n : ℕ) (xs : List A) → length xs ≤ n → drop n xs ≡ []
drop_past n [] l = drop-nil n
drop_past zero (x ∷ xs) l = absurd (omega arith)
drop_past (suc n) (x ∷ xs) l = drop_past n xs (omega arith)

-- within a list it does not matter what stands past its end
pub get_d_any : {A : Type 0} (xs : List A) (i : ℕ) (y z : A) → i < length xs → get_or xs i y ≡ get_or xs i z
get_d_any [] i y z h = absurd (omega arith)
get_d_any (x ∷ xs) zero y z h = refl
get_d_any (x ∷ xs) (suc i) y z h = get_d_any xs i y z (omega arith)

pub every_map : {A B : Type 0} (P : B → Type 0) (f : A → B) (xs : List A) → Every (λ x. P (f x)) xs → Every P (map f xs)
every_map P f [] h = every_none _
every_map P f (x ∷ xs) h = every_cons (every_head h) (every_map P f xs (every_tail h))

pub map_at : {A B : Type 0} (f : A → B) (xs : List A) (i : ℕ) (x : A) (y : B) → i < length xs → get_or (map f xs) i y ≡ f (get_or xs i x)
map_at f [] i x y l = absurd (omega arith)
map_at f (a ∷ xs) zero x y l = refl
map_at f (a ∷ xs) (suc i) x y l = map_at f xs i x y (omega arith)
