-- Laws of masks: submasks; the loop `u = (u - 1) & r`, which meets the submasks of r from the greatest down; and the elements
-- that a mask selects, which are mixed of those of a submask and of the rest.
use Rattle.std.specs.Prelude.{ℕ, zero, suc, ◌+◌, ◌-◌, ◌*◌, ◌/◌, ◌%◌, ◌^◌, ◌≤◌, ◌<◌, ◌≡◌, refl, List, [], ◌∷◌, length, get_or}
use Rattle.std.proofs.Common.{zero-add, zero-mul, one-mul, arith, sym, ap, ◌∙◌, pow_pos}
use Rattle.std.proofs.Math.Decide.{dec_lt}
use Rattle.std.proofs.Math.Logic.{by_cases}
use Rattle.std.proofs.Math.Arith.{bin_ind}
use Rattle.std.specs.Int.Bits.{bit_and, and_step, and_zero_l}
use Rattle.std.proofs.lemmas.Nat.{and_block, and_le_l, and_le_r}
use Rattle.lists.specs.Trusted.Lists.{Every, Inserted, here, there}
use Rattle.lists.specs.Sequences.{Mix, neither, left, right}
use Rattle.lists.specs.ListLaws.{every_cons, every_head, every_tail, inserted_length}
use Rattle.cover.specs.Trusted.Cover.{pick}
use Rattle.plan.specs.Masks.{select, MaskWithin}

-- ---- submasks

-- by the lowest bit and the others
within_half : (u r : ℕ) → MaskWithin u r → (u % 2 ≤ r % 2) × MaskWithin (u / 2) (r / 2)
within_half u r w = let e = and_step u r in (omega arith, omega arith)

within_whole : (u r : ℕ) → u % 2 ≤ r % 2 → MaskWithin (u / 2) (r / 2) → MaskWithin u r
within_whole u r l w = omega (arith, and_step u r)

pub within_le : (u r : ℕ) → MaskWithin u r → u ≤ r
within_le u r w = omega (arith, and_le_r u r)

-- what two masks have in common is a submask of each
pub within_and : (u r : ℕ) → MaskWithin (bit_and u r) r
within_and =
    bin_ind (λ u. (r : ℕ) → MaskWithin (bit_and u r) r) (λ r. rw (and_zero_l r) (and_zero_l r)) λ u f r.
    let e : bit_and u r / 2 ≡ bit_and (u / 2) (r / 2) = omega (arith, and_step u r) in
    within_whole (bit_and u r) r (omega (arith, and_step u r)) (rw e (f (r / 2)))

-- a submask of what stands below the highest bit is one of the whole
pub within_top : (h r u : ℕ) → r < 2 ^ h → MaskWithin u r → MaskWithin u (2 ^ h + r)
within_top h r u l w =
    let b = and_block h 0 1 u r (omega (arith, within_le u r w)) l in
    (simp (zero-mul, one-mul, zero-add) at b) ∙ w

-- ---- the loop over the submasks of r, from u to the next

pub next_within : (u r : ℕ) → MaskWithin (bit_and (u - 1) r) r
next_within u r = within_and (u - 1) r

pub next_less : (u r : ℕ) → 0 < u → bit_and (u - 1) r < u
next_less u r h = omega (arith, and_le_l (u - 1) r)

-- no submask is passed over
pub next_greatest : (u r x : ℕ) → MaskWithin u r → MaskWithin x r → x < u → x ≤ bit_and (u - 1) r
next_greatest =
    bin_ind (λ u. (r x : ℕ) → MaskWithin u r → MaskWithin x r → x < u → x ≤ bit_and (u - 1) r) (λ r x v w h. absurd (omega arith)) λ u f r x v w h.
    let a = within_half u r v in
    let b = within_half x r w in
    let s = and_step (u - 1) r in
    by_cases (dec_lt (u % 2) 1)
    (λ l.
    let e : (u - 1) / 2 ≡ u / 2 - 1 = omega arith in
    omega (arith, rw e at s, f (r / 2) (x / 2) a.1 b.1 (omega arith)))
    (λ l.
    let e : (u - 1) / 2 ≡ u / 2 = omega arith in
    omega (arith, rw e at s))

-- ---- the highest bit

pub top_bit : (m s : ℕ) → 0 < s → s < 2 ^ m → (h : ℕ) × (r : ℕ) × (h < m) × (r < 2 ^ h) × (s ≡ 2 ^ h + r)
top_bit zero s p l = absurd (omega arith)
top_bit (suc m) s p l =
    by_cases (dec_lt s (2 ^ m))
    (λ k. let q = top_bit m s p k in (q.0, q.1, omega arith, q.3, q.4))
    (λ k. (m, s - 2 ^ m, omega arith, omega arith, omega arith))

-- ---- what a mask selects

module _ {A : Type 0} where
  mix_pick : (k : A) {xs ys zs : List A} (a b c : ℕ) → c ≡ a + b → c < 2 → Mix xs ys zs →
      Mix (pick a xs (k ∷ xs)) (pick b ys (k ∷ ys)) (pick c zs (k ∷ zs))
  mix_pick k zero zero zero e l m = m
  mix_pick k zero zero (suc c) e l m = absurd (omega arith)
  mix_pick k zero (suc b) zero e l m = absurd (omega arith)
  mix_pick k zero (suc b) (suc c) e l m = right m
  mix_pick k (suc a) zero zero e l m = absurd (omega arith)
  mix_pick k (suc a) zero (suc c) e l m = left m
  mix_pick k (suc a) (suc b) zero e l m = absurd (omega arith)
  mix_pick k (suc a) (suc b) (suc c) e l m = absurd (omega arith)

  -- by its lowest bit and the others
  select_cons : (k : A) (ks : List A) (s b t : ℕ) → s % 2 ≡ b → s / 2 ≡ t →
      select s (k ∷ ks) ≡ pick b (select t ks) (k ∷ select t ks)
  select_cons k ks s b t p q = λ i. pick (p i) (select (q i) ks) (k ∷ select (q i) ks)

  -- a submask and the rest
  pub select_mix : (ks : List A) (u r : ℕ) → MaskWithin u r → Mix (select (r - u) ks) (select u ks) (select r ks)
  select_mix [] u r w = neither
  select_mix (k ∷ ks) u r w =
      let h = within_half u r w in
      let l = within_le (u / 2) (r / 2) h.1 in
      rw (select_cons k ks (r - u) (r % 2 - u % 2) (r / 2 - u / 2) (omega arith) (omega arith))
      (mix_pick k (r % 2 - u % 2) (u % 2) (r % 2) (omega arith) (omega arith) (select_mix ks (u / 2) (r / 2) h.1))

  -- `xs` is what is left of the mask r without some submask, and `ys` is what that submask selects
  abbrev pub Parted : List A → ℕ → List A → List A → Type 0
  Parted ks r xs ys = (u : ℕ) × MaskWithin u r × (xs ≡ select (r - u) ks) × (ys ≡ select u ks)

  parted_cons : (k : A) (ks : List A) (r d a b : ℕ) (xs ys : List A) → r % 2 ≡ d → d ≡ a + b → Parted ks (r / 2) xs ys →
      Parted (k ∷ ks) r (pick a xs (k ∷ xs)) (pick b ys (k ∷ ys))
  parted_cons k ks r d a b xs ys e f (u, w, p, q) =
      let l = within_le u (r / 2) w in
      let h : (2 * u + b) / 2 ≡ u = omega arith in (
        2 * u + b,
        within_whole (2 * u + b) r (omega arith) (rw h w),
        ap (λ zs. pick a zs (k ∷ zs)) p ∙ sym (select_cons k ks (r - (2 * u + b)) a (r / 2 - u) (omega arith) (omega arith)),
        ap (λ zs. pick b zs (k ∷ zs)) q ∙ sym (select_cons k ks (2 * u + b) b u (omega arith) h),
      )

  -- every mix of what a mask selects is of that kind
  parted_pick : (k : A) (ks zs : List A) (r d : ℕ) {xs ys : List A} → r % 2 ≡ d →
      ((us vs : List A) → Mix us vs zs → Parted ks (r / 2) us vs) → Mix xs ys (pick d zs (k ∷ zs)) → Parted (k ∷ ks) r xs ys
  parted_pick k ks zs r zero e f m = parted_cons k ks r 0 0 0 _ _ e refl (f _ _ m)
  parted_pick k ks zs r (suc d) e f (left m) = parted_cons k ks r 1 1 0 _ _ (omega arith) refl (f _ _ m)
  parted_pick k ks zs r (suc d) e f (right m) = parted_cons k ks r 1 0 1 _ _ (omega arith) refl (f _ _ m)

  pub select_parted : (ks : List A) (r : ℕ) {xs ys : List A} → Mix xs ys (select r ks) → Parted ks r xs ys
  select_parted [] r neither = (0, and_zero_l r, refl, refl)
  select_parted (k ∷ ks) r m = parted_pick k ks (select (r / 2) ks) r (r % 2) refl (λ us vs m. select_parted ks (r / 2) m) m

  -- the highest bit puts its element in
  inserted_pick : (k : A) {x : A} {xs ys : List A} (d : ℕ) → Inserted x xs ys → Inserted x (pick d xs (k ∷ xs)) (pick d ys (k ∷ ys))
  inserted_pick k zero i = i
  inserted_pick k (suc d) i = there i

  pub select_top : (ks : List A) (h r : ℕ) (z : A) → h < length ks → r < 2 ^ h →
      Inserted (get_or ks h z) (select (2 ^ h + r) ks) (select r ks)
  select_top [] h r z l p = absurd (omega arith)
  select_top (k ∷ ks) zero r z l p =
      let e : r ≡ 0 = omega arith in
      rw e here
  select_top (k ∷ ks) (suc h) r z l p =
      rw (select_cons k ks (2 ^ suc h + r) (r % 2) (2 ^ h + r / 2) (omega arith) (omega arith))
      (inserted_pick k (r % 2) (select_top ks h (r / 2) z (omega arith) (omega arith)))

  -- so does each bit that the mask does not have
  pub select_bit : (ks : List A) (j r : ℕ) (z : A) → j < length ks → bit_and r (2 ^ j) ≡ 0 → Inserted (get_or ks j z) (select (r + 2 ^ j) ks) (select r ks)
  select_bit [] j r z l e = absurd (omega arith)
  select_bit (k ∷ ks) zero r z l e =
      let b : r % 2 ≡ 0 = omega (arith, and_step r 1) in
      rw (select_cons k ks (r + 1) 1 (r / 2) (omega arith) (omega arith), select_cons k ks r 0 (r / 2) b refl) here
  select_bit (k ∷ ks) (suc j) r z l e =
      let h : 2 ^ suc j / 2 ≡ 2 ^ j = omega arith in
      let a : bit_and (r / 2) (2 ^ suc j / 2) ≡ 0 = omega (arith, and_step r (2 ^ suc j)) in
      let b : bit_and (r / 2) (2 ^ j) ≡ 0 = rw h at a in
      rw (select_cons k ks (r + 2 ^ suc j) (r % 2) (r / 2 + 2 ^ j) (omega arith) (omega arith))
      (inserted_pick k (r % 2) (select_bit ks j (r / 2) z (omega arith) b))

  -- no bit selects nothing, and all bits select all
  pub select_none : (ks : List A) → select 0 ks ≡ []
  select_none [] = refl
  select_none (k ∷ ks) = select_none ks

  pub select_all : (ks : List A) (n : ℕ) → length ks ≡ n → select (2 ^ n - 1) ks ≡ ks
  select_all [] n e = refl
  select_all (k ∷ ks) zero e = absurd (omega arith)
  select_all (k ∷ ks) (suc n) e =
      let p = pow_pos n in
      select_cons k ks (2 ^ suc n - 1) 1 (2 ^ n - 1) (omega arith) (omega arith) ∙ ap (◌∷◌ k) (select_all ks n (omega arith))

  every_pick : {P : A → Type 0} (x : A) {xs : List A} (d : ℕ) → P x → Every P xs → Every P (pick d xs (x ∷ xs))
  every_pick x zero h f = f
  every_pick x (suc d) h f = every_cons h f

  pub select_every : {P : A → Type 0} (ks : List A) (s : ℕ) → Every P ks → Every P (select s ks)
  select_every [] s f = f
  select_every (k ∷ ks) s f = every_pick k (s % 2) (every_head f) (select_every ks (s / 2) (every_tail f))

  -- a mask that is not 0 selects something
  pub select_some : (ks : List A) (s : ℕ) (z : A) → 0 < s → s < 2 ^ length ks → 1 ≤ length (select s ks)
  select_some ks s z p l =
      let q = top_bit (length ks) s p l in
      rw q.4 (omega (arith, inserted_length (select_top ks q.0 q.1 z q.2 q.3)))
