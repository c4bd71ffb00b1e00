-- Each mask is alike to itself, whatever the rows and the entries. Assumes nothing.
use Prim.Native.Nat.{ℕ, zero, suc, ◌+◌, ◌*◌, ◌/◌, ◌%◌, ◌^◌, ◌≤◌, ◌<◌}
use native.Mathlib.Omega.{arith}
use mathlib.Core.Path.{◌≡◌, refl, ap, ◌∙◌}
use mathlib.Core.List.{List, [], ◌∷◌}
use lib.ListN.{length, get_or}
use lib.Pow.{pow_mono}
use Rattle.lists.specs.Trusted.Lists.{sum}
use Rattle.lists.specs.ListLaws.{permuted_refl}
use Rattle.lists.specs.NumberLaws.{sum_permuted}
use Rattle.cover.specs.Trusted.Cover.{pick}
use Rattle.plan.specs.Masks.{select}
use Rattle.level_arrays.specs.Alike.{Label, no_label, MasksAlike, Likened}

-- labels that differ: each is twice the one before
marks : ℕ → ℕ → List Label
marks b zero = []
marks b (suc n) = (b, 0) ∷ marks (b + b) n

value : Label → ℕ
value l = l.0

marks_count : (b n : ℕ) → length (marks b n) ≡ n
unfolding marks
marks_count b zero = refl
marks_count b (suc n) = ap suc (marks_count (b + b) n)

least_value : (b n h : ℕ) → h < n → b ≤ value (get_or (marks b n) h no_label)
unfolding marks value
least_value b zero h l = absurd (omega arith)
least_value b (suc n) zero l = omega arith
least_value b (suc n) (suc h) l = omega (arith, least_value (b + b) n h (omega arith))

marks_differ : (b n g h : ℕ) → 0 < b → g < n → h < n → value (get_or (marks b n) g no_label) ≡ value (get_or (marks b n) h no_label) → g ≡ h
unfolding marks value
marks_differ b zero g h p l m e = absurd (omega arith)
marks_differ b (suc n) zero zero p l m e = refl
marks_differ b (suc n) zero (suc h) p l m e = absurd (omega (arith, e, least_value (b + b) n h (omega arith)))
marks_differ b (suc n) (suc g) zero p l m e = absurd (omega (arith, e, least_value (b + b) n g (omega arith)))
marks_differ b (suc n) (suc g) (suc h) p l m e = ap suc (marks_differ (b + b) n g h (omega arith) (omega arith) (omega arith) e)

picked : (m b : ℕ) (xs : List Label) → m < 2 → sum value (pick m xs ((b, 0) ∷ xs)) ≡ m * b + sum value xs
unfolding value
picked zero b xs l = omega arith
picked (suc zero) b xs l = omega arith
picked (suc (suc m)) b xs l = absurd (omega arith)

halves : (m q b : ℕ) → m * b + q * (b + b) ≡ (m + (q + q)) * b
halves m q b = grind arith

-- the bits of a mask make the mask
marks_sum : (b n s : ℕ) → s < 2 ^ n → sum value (select s (marks b n)) ≡ s * b
unfolding marks
marks_sum b zero s l = let e : s ≡ 0 = omega arith in rw e (omega arith)
marks_sum b (suc n) s l =
    let e : s % 2 + (s / 2 + s / 2) ≡ s = omega arith in
    picked (s % 2) b (select (s / 2) (marks (b + b) n)) (omega arith)
    ∙ ap (λ x. s % 2 * b + x) (marks_sum (b + b) n (s / 2) (omega arith)) ∙ halves (s % 2) (s / 2) b ∙ ap (λ x. x * b) e

alike_same : (n s t : ℕ) → s < 2 ^ n → t < 2 ^ n → MasksAlike (marks 1 n) s t → s ≡ t
alike_same n s t l m p = omega (arith, marks_sum 1 n s l, marks_sum 1 n t m, sum_permuted value p)

pub alike_itself : {K n : ℕ} {rows : ℕ → ℕ → ℕ} {own : ℕ → ℕ} {like : List ℕ} → ((s : ℕ) → s < 2 ^ n → get_or like s 0 ≡ s) →
    Likened K n rows own like
alike_itself {n = n} {rows = rows} {own = own} itself =
    let c = marks_count 1 n in record {
      labels = marks 1 n;
      count = c;
      rows_alike = λ g h w l m k e. ap (λ x. rows x w) (marks_differ 1 n g h (omega arith) (omega arith) (omega arith) (ap value e));
      owns_alike = λ h r g q l p r_low m o q_low a.
          let i : 2 ^ suc h ≤ 2 ^ n = pow_mono (omega arith) in
          let j : 2 ^ suc g ≤ 2 ^ n = pow_mono (omega arith) in
          ap own (alike_same n (2 ^ h + r) (2 ^ g + q) (omega arith) (omega arith) a);
      masks = record {
        low = λ s p l. omega (arith, itself s l);
        alike = λ s p l. rw (itself s l) (permuted_refl _);
      };
    }
