-- Laws of flags packed into words: they read and write as a list of flags does, whatever its size.
use Rattle.std.specs.Prelude.{ℕ, zero, suc, ◌*◌, ◌/◌, ◌%◌, ◌^◌, ◌≤◌, ◌<◌, ◌≡◌, refl, Bool, true, ◌||◌, List, map, eqb, length, get_or, set, replicate}
use Rattle.std.proofs.Common.{arith, sym, ap₂, ◌∙◌, ne_eqb, length-set, get_or-set_same, get_or-set_other, ext_get_or}
use Rattle.std.proofs.Math.Path.{ap}
use Rattle.std.proofs.Math.Bool.{false}
use Rattle.std.specs.Int.Bits.{bit_or}
use Rattle.std.proofs.Math.ListN.{length-map, get_or-map, get_or-eq_default}
use Rattle.std.proofs.lemmas.List.{length-replicate, get_or-replicate}
use Rattle.lists.specs.Cases.{by_eqb, by_leb}
use Rattle.lists.specs.Sequences.{upto}
use Rattle.lists.specs.ListLaws.{get_d_any}
use Rattle.lists.specs.NumberLaws.{upto_length, upto_at}
use Rattle.lists.specs.TestLaws.{reflects_eq, reflects_same}
use Rattle.tree.specs.declared.Kind.TheVariants.{Or as or}
use Rattle.tree.specs.Trusted.Tree.{meet}
use Rattle.cover.specs.Trusted.Bits.{bit}
use Rattle.cover.specs.BitLaws.{bit_or_lem, bit_zero}
use Rattle.flags.specs.Flags.{flag_at, flags_of, raised}

-- ---- one word

bit_power : (k j : ℕ) → bit (2 ^ k) j ≡ eqb j k
bit_power zero zero = refl
bit_power zero (suc j) = bit_zero j ∙ sym (ne_eqb (suc j) 0 (λ e. absurd (omega arith)))
bit_power (suc k) zero = let e : 2 ^ suc k % 2 ≡ 0 = omega arith in ap (λ d. eqb d 1) e ∙ sym (ne_eqb 0 (suc k) (λ q. absurd (omega arith)))
bit_power (suc k) (suc j) =
    let e : 2 ^ suc k / 2 ≡ 2 ^ k = omega arith in
    ap (λ w. bit w j) e ∙ bit_power k j ∙ reflects_same (reflects_eq j k) (reflects_eq (suc j) (suc k)) (ap suc) (λ q. omega arith)

raised_bit : (w k j : ℕ) → bit (bit_or w (2 ^ k)) j ≡ (eqb j k || bit w j)
raised_bit w k j = bit_or_lem w (2 ^ k) j ∙ swapped (bit w j) (bit (2 ^ k) j) ∙ ap (λ b. b || bit w j) (bit_power k j)
  where
    swapped : (a b : Bool) → meet or a b ≡ (b || a)
    swapped true true = refl
    swapped true false = refl
    swapped false true = refl
    swapped false false = refl

-- ---- one flag

pub flag_none : (k n : ℕ) → flag_at (replicate k 0) n ≡ false
unfolding flag_at
flag_none k n =
    by_leb (λ b. bit (get_or (replicate k 0) (n / 64) 0) (n % 64) ≡ false) (suc (n / 64)) k
    (λ l. rw (get_or-replicate {A = ℕ} k (n / 64) 0 0 l) (bit_zero (n % 64)))
    (λ l. let o : length (replicate {A = ℕ} k 0) ≤ n / 64 = simp length-replicate (omega arith) in
    rw (get_or-eq_default {A = ℕ} (replicate k 0) 0 {n = n / 64} o) (bit_zero (n % 64)))

pub raised_length : (ws : List ℕ) (n : ℕ) → length (raised ws n) ≡ length ws
unfolding raised
raised_length ws n = length-set ws (n / 64) _

-- FLAG n OF THE WORDS WITH FLAG m RAISED, where they have flag n
pub raised_flag : (ws : List ℕ) (m n : ℕ) → n < 64 * length ws → flag_at (raised ws m) n ≡ (eqb n m || flag_at ws n)
unfolding flag_at raised
raised_flag ws m n l =
    by_eqb (λ b. bit (get_or (set ws (m / 64) w) (n / 64) 0) (n % 64) ≡ (eqb n m || bit (get_or ws (n / 64) 0) (n % 64))) (n / 64) (m / 64)
    (λ e. let i : m / 64 < length ws = omega arith in
    ap (λ a. bit (get_or (set ws (m / 64) w) a 0) (n % 64)) e
    ∙ ap (λ v. bit v (n % 64)) (get_or-set_same ws (m / 64) w 0 i)
    ∙ raised_bit (get_or ws (m / 64) 0) (m % 64) (n % 64)
    ∙ ap₂ ◌||◌ (same_flag e) (ap (λ a. bit (get_or ws a 0) (n % 64)) (sym e)))
    (λ d. ap (λ v. bit v (n % 64)) (get_or-set_other ws (m / 64) (n / 64) w 0 d)
    ∙ sym (ap (λ b. b || bit (get_or ws (n / 64) 0) (n % 64)) (ne_eqb n m (λ e. d (ap (λ a. a / 64) e)))))
  where
    w : ℕ
    w = bit_or (get_or ws (m / 64) 0) (2 ^ (m % 64))

    same_flag : n / 64 ≡ m / 64 → eqb (n % 64) (m % 64) ≡ eqb n m
    same_flag e = reflects_same (reflects_eq (n % 64) (m % 64)) (reflects_eq n m) (λ r. omega arith) (λ r. ap (λ a. a % 64) r)

-- ---- the flags below a size

module _ (size : ℕ) where
  pub flags_length : (ws : List ℕ) → length (flags_of size ws) ≡ size
  unfolding flags_of
  flags_length ws = length-map (upto size) (flag_at ws) ∙ upto_length size

  pub flags_at : (ws : List ℕ) (n : ℕ) → n < size → get_or (flags_of size ws) n false ≡ flag_at ws n
  unfolding flags_of
  flags_at ws n l = get_d_any (map (flag_at ws) (upto size)) n false (flag_at ws 0) (simp (length-map, upto_length) l) ∙ get_or-map (flag_at ws) (upto size) n 0 ∙ ap (flag_at ws) (upto_at size n 0 l)

  pub flags_none : (k : ℕ) → flags_of size (replicate k 0) ≡ replicate size false
  flags_none k =
      ext_get_or false (flags_of size (replicate k 0)) (replicate size false) (flags_length (replicate k 0) ∙ sym (length-replicate size false))
      (λ i l. let n : i < size = rw (flags_length (replicate k 0)) at l in
      flags_at (replicate k 0) i n ∙ flag_none k i ∙ sym (get_or-replicate size i false false n))

  -- THE FLAGS OF THE WORDS WITH FLAG n RAISED, where the words have all of them
  pub raised_flags : (ws : List ℕ) (n : ℕ) → size ≤ 64 * length ws → flags_of size (raised ws n) ≡ set (flags_of size ws) n true
  raised_flags ws n fit =
      ext_get_or false (flags_of size (raised ws n)) (set (flags_of size ws) n true)
      (flags_length (raised ws n) ∙ sym (length-set (flags_of size ws) n true ∙ flags_length ws))
      (λ i l. let m : i < size = rw (flags_length (raised ws n)) at l in
      flags_at (raised ws n) i m ∙ raised_flag ws n i (omega arith) ∙ here i m)
    where
      here : (i : ℕ) → i < size → (eqb i n || flag_at ws i) ≡ get_or (set (flags_of size ws) n true) i false
      here i l =
          by_eqb (λ b. (b || flag_at ws i) ≡ get_or (set (flags_of size ws) n true) i false) i n
          (λ e. let o : n < length (flags_of size ws) = omega (arith, flags_length ws) in
          sym (ap (λ a. get_or (set (flags_of size ws) n true) a false) e ∙ get_or-set_same (flags_of size ws) n true false o))
          (λ d. sym (get_or-set_other (flags_of size ws) n i true false d ∙ flags_at ws i l))
