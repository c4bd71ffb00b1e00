-- Laws of keys: the order, the better of two, and a join, which is the least of the four ways to hold or choose two operands.
-- A join grows with its operands, so that the best keys of the operands give the best join.
use Prim.Native.Nat.{ℕ, suc, ◌+◌, ◌≤◌, ◌<◌, min}
use Rattle.std.specs.Prelude.{◌≡◌, refl, cond, leb}
use Rattle.std.proofs.Common.{sym, add_comm, arith}
use Rattle.std.proofs.Math.Bool.{Bool}
use Rattle.std.proofs.Math.Nat.{min_comm}
use Rattle.lists.specs.Cases.{by_leb, if_leb}
use Rattle.plan.specs.declared.Key.{Key}
use Rattle.plan.specs.Key.{key, ◌≼◌, better, ◌⊕◌, pack, join, cuts, KeyTaken, held, cut, KeyJoined}
use Rattle.plan.specs.Volume.{fewest_leaves}

key_path : {a b : Key} → a.below ≡ b.below → a.width ≡ b.width → a ≡ b
key_path p q = λ i. key (p i) (q i)

-- the order, by its two cases
≼-cases : {a b : Key} (P : Type 0) → a ≼ b →
    (a.below < b.below → P) → (a.below ≡ b.below → a.width ≤ b.width → P) → P
≼-cases {a} {b} P h f g =
    by_leb (λ t. P) b.below a.below
    (λ k. let e : a.below ≡ b.below = omega (arith, h.count) in g e (h.inputs e))
    f

-- the same of two, with the four cases in a tuple, so that one `omega` proves them
≼-cases₂ : {a b c d : Key} (P : Type 0) → a ≼ b → c ≼ d →
    (a.below < b.below → c.below < d.below → P) ×
    (a.below < b.below → c.below ≡ d.below → c.width ≤ d.width → P) ×
    (a.below ≡ b.below → a.width ≤ b.width → c.below < d.below → P) ×
    (a.below ≡ b.below → a.width ≤ b.width → c.below ≡ d.below → c.width ≤ d.width → P) →
    P
≼-cases₂ P h k f = ≼-cases P h (λ p. ≼-cases P k (f.0 p) (f.1 p)) (λ p q. ≼-cases P k (f.2 p q) (f.3 p q))

pub ≼_refl : (a : Key) → a ≼ a
≼_refl a = omega arith

pub ≼_trans : {a b c : Key} → a ≼ b → b ≼ c → a ≼ c
≼_trans h k = ≼-cases₂ _ h k (omega arith)

pub ≼-antisym : {a b : Key} → a ≼ b → b ≼ a → a ≡ b
≼-antisym {a} {b} h k =
    let e : a.below ≡ b.below = omega (arith, h.count, k.count) in
    key_path e (omega (arith, h.inputs e, k.inputs (sym e)))

pub better_cases : (a b : Key) (P : Key → Type 0) → (a ≼ b → P a) → (b ≼ a → P b) → P (better a b)
unfolding better
better_cases a b P f g =
    if_leb P (suc a.below) b.below (λ h. f (omega arith)) λ h.
    if_leb P (suc b.below) a.below (λ k. g (omega arith)) λ k.
    if_leb P a.width b.width (λ l. f (omega arith)) (λ l. g (omega arith))

pub pack_cases : (K c w m : ℕ) (P : Key → Type 0) →
    (w ≤ K → P (key c w)) → (K < w → 1 + m ≤ K → P (key (c + 1) (1 + m))) → (K < w → K < 1 + m → P (key (c + 2) 2)) →
    P (pack K c w m)
unfolding pack
pack_cases K c w m P f g h = if_leb P w K f (λ p. if_leb P (1 + m) K (g p) (h p))

-- a key that is right in each of the three cases
pub is_pack : (r : Key) (K c w m : ℕ) →
    (w ≤ K → (r.below ≡ c) × (r.width ≡ w)) × (K < w → 1 + m ≤ K → (r.below ≡ c + 1) × (r.width ≡ 1 + m)) ×
    (K < w → K < 1 + m → (r.below ≡ c + 2) × (r.width ≡ 2)) →
    r ≡ pack K c w m
is_pack r K c w m h =
    pack_cases K c w m (λ p. r ≡ p) (λ f. let e = h.0 f in key_path e.0 e.1)
    (λ f g. let e = h.1 f g in key_path e.0 e.1)
    (λ f g. let e = h.2 f g in key_path e.0 e.1)

pub join_comm : (K : ℕ) (a b : Key) → join K a b ≡ join K b a
join_comm K a b = rw (add_comm a.below, add_comm a.width, min_comm a.width)

taken_above : {a b : Key} {c : Bool} → KeyTaken a c b → a ≼ b
taken_above {a} held = ≼_refl a
taken_above (cut h) = omega arith

taken_wide : {a b : Key} {c : Bool} → KeyTaken a c b → 1 ≤ a.width → 1 ≤ b.width
taken_wide held h = h
taken_wide (cut g) h = omega arith

way : {K : ℕ} {l c : Bool} {a b x y r : Key} → KeyTaken a l x → KeyTaken b c y → x.width + y.width ≤ K →
    (r.below ≡ x.below + y.below) × (r.width ≡ x.width + y.width) → KeyJoined K l c a b r
way {x = x} {y = y} t u f e = record { left = x; right = y; took_left = t; took_right = u; fits = f; is = key_path e.0 e.1 }

-- two choices by one test
if_leb₂ : {A B : Type 0} (P : A → B → Type 0) {x y : A} {u v : B} (m n : ℕ) →
    (m ≤ n → P x u) → (n < m → P y v) → P (cond (leb m n) x y) (cond (leb m n) u v)
if_leb₂ P {x} {y} {u} {v} = by_leb (λ t. P (cond t x y) (cond t u v))

module _ (K : ℕ) (two : 2 ≤ K) where
  -- a join is one of the four ways
  pub join_way : (a b : Key) → KeyJoined K (cuts K a b).0 (cuts K a b).1 a b (join K a b)
  unfolding pack cuts
  join_way a b =
      if_leb₂ By (a.width + b.width) K (λ h. way held held h (refl, refl)) λ h.
      if_leb₂ By (1 + min a.width b.width) K
      (λ k. if_leb (λ c. By c (key (a.below + b.below + 1) (1 + min a.width b.width))) a.width b.width
      (λ l. way held (cut (omega arith)) (omega arith) (omega arith))
      (λ l. way (cut (omega arith)) held (omega arith) (omega arith)))
      (λ k. way (cut (omega arith)) (cut (omega arith)) two (omega arith))
    where
      By : Bool × Bool → Key → Type 0
      By c = KeyJoined K c.0 c.1 a b

  -- and a lower bound of every way to hold two keys that are no better than its operands
  pub join_low : {a b x y : Key} → a ≼ x → b ≼ y → 1 ≤ x.width → 1 ≤ y.width → x.width + y.width ≤ K →
      join K a b ≼ x ⊕ y
  join_low {x = x} {y = y} h k u v l =
      pack_cases K _ _ _ (λ r. r ≼ x ⊕ y)
      (λ p. ≼-cases₂ _ h k (omega arith))
      (λ p q. ≼-cases₂ _ h k (omega arith))
      (λ p q. ≼-cases₂ _ h k (omega arith))

  pub join_mono : {a b x y : Key} → a ≼ x → b ≼ y → 1 ≤ x.width → 1 ≤ y.width → join K a b ≼ join K x y
  join_mono {x = x} {y = y} h k u v =
      let w = join_way x y in
      let s = w.took_left in
      let t = w.took_right in
      rw w.is (join_low (≼_trans h (taken_above s)) (≼_trans k (taken_above t)) (taken_wide s u) (taken_wide t v) w.fits)

  -- a join asks for no more leaves than its operands: what it places has two inputs or more
  pub join_leaves : (a b : Key) → fewest_leaves (join K a b) ≤ fewest_leaves a + fewest_leaves b
  join_leaves a b = pack_cases K _ _ _ (λ r. fewest_leaves r ≤ fewest_leaves a + fewest_leaves b) (omega arith) (omega arith) (omega arith)

  pub join_width : (a b : Key) → 1 ≤ a.width → 1 ≤ b.width → (2 ≤ (join K a b).width) × ((join K a b).width ≤ K)
  join_width a b u v = pack_cases K _ _ _ (λ r. (2 ≤ r.width) × (r.width ≤ K)) (omega arith) (omega arith) (omega arith)
