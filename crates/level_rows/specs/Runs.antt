-- Numbers written one after the other into a list, and the laws of it.
use Rattle.std.specs.Prelude.{ℕ, ◌+◌, ◌≤◌, ◌<◌, ◌≡◌, refl, List, length, get_or, set}
use Rattle.std.proofs.Common.{arith, ◌∙◌, length-set, get_or-set_same, get_or-set_other}
use Rattle.std.proofs.Math.Decide.{dec_lt}
use Rattle.std.proofs.Math.Logic.{by_cases}
use Rattle.level_arrays.specs.Arrays.{big}

-- `b` is `a` with n numbers written from a place on, and nothing else changed
pub record RunWritten (a b : List ℕ) (place n : ℕ) (f : ℕ → ℕ) : Type 0 where
  pub is : (w : ℕ) → w < n → get_or b (place + w) big ≡ f w
  pub before : (i : ℕ) → i < place → get_or b i big ≡ get_or a i big
  pub after : (i : ℕ) → place + n ≤ i → get_or b i big ≡ get_or a i big
  pub room : length b ≡ length a

pub run_none : (a : List ℕ) (place : ℕ) (f : ℕ → ℕ) → RunWritten a a place 0 f
run_none a place f = record { is = λ w l. absurd (omega arith); before = λ i l. refl; after = λ i l. refl; room = refl }

-- one number more
pub run_more : {a b : List ℕ} {place n : ℕ} {f : ℕ → ℕ} (v : ℕ) → RunWritten a b place n f → place + n < length a → v ≡ f n →
    RunWritten a (set b (place + n) v) place (n + 1) f
run_more {b = b} {place = place} {n = n} v p l e = record {
  is = λ w h.
      by_cases (dec_lt w n) (λ k. get_or-set_other b (place + n) (place + w) v big (λ q. absurd (omega arith)) ∙ p.is w k) λ k.
      let q : w ≡ n = omega arith in
      rw q (get_or-set_same b (place + n) v big (omega (arith, p.room)) ∙ e);
  before = λ i h. get_or-set_other b (place + n) i v big (λ q. omega arith) ∙ p.before i h;
  after = λ i h. get_or-set_other b (place + n) i v big (λ q. omega arith) ∙ p.after i (omega arith);
  room = length-set b (place + n) v ∙ p.room;
}
