-- What is kept of the records stands for their list: after none, after one more, and in the rules' tests.
use Rattle.std.specs.Prelude.{ℕ, suc, ◌+◌, ◌-◌, ◌*◌, ◌≤◌, ◌<◌, ◌≡◌, refl, ◌≢◌, Bool, true, false, cond, not, ◌&&◌, ◌||◌, List, [], ◌∷◌, ◌++◌, leb, eqb, length, get_or}
use Rattle.std.proofs.Common.{arith, sym, ap, ap₂, ◌∙◌, eq-eqb, ne_eqb, length-append}
use Rattle.std.proofs.lemmas.List.{length-replicate}
use Rattle.std.proofs.Math.ListN.{get_or-append, get_or-eq_default}
use Rattle.std.proofs.Math.Seq.{get_or-append_seam}
use Rattle.lists.specs.Cases.{by_eqb, by_leb}
use Rattle.lists.specs.Trusted.Tests.{all, elem}
use Rattle.lists.specs.TestLaws.{reflects_lt, reflects_eq, reflects_same, reflects_true}
use Rattle.flags.specs.Flags.{flag_at, raised}
use Rattle.flags.specs.FlagLaws.{flag_none, raised_length, raised_flag}
use Rattle.tree.specs.Trusted.Limits.{greatest_net, code_base}
use Rattle.table.specs.Trusted.Limits.{table_room}
use Rattle.table.specs.Trusted.Records.{reads, blank}
use Rattle.table.specs.Trusted.RecordTest.{is_code, is_padded, is_sized, sourced, clear, unclaimed, keeps_points}
use Rattle.table.specs.PrefixTest.{net_words, table_words, Stands, empty_prefix, claim_all, with_driver, prefix_after, sourced_in, unclaimed_in, keeps_points_in}
use Rattle.table.specs.declared.Table.{Table}
use Rattle.table.specs.declared.Prefix.{Prefix}

pub stands_none : Stands empty_prefix []
unfolding empty_prefix
stands_none = record {
  room = omega arith;
  count = refl;
  nets = length-replicate {A = ℕ} net_words 0;
  tables = length-replicate {A = ℕ} table_words 0;
  claimed = λ n l. ap not (flag_none net_words n);
  drives = λ t l. ap not (flag_none table_words t);
}

-- ---- one more record

claim_length : (c : List ℕ) (xs : List ℕ) → length (claim_all c xs) ≡ length c
claim_length c [] = refl
claim_length c (x ∷ xs) = claim_length (raised c x) xs ∙ raised_length c x

or_swap : (a b c : Bool) → a || (b || c) ≡ (b || a) || c
or_swap true true c = refl
or_swap true false c = refl
or_swap false true c = refl
or_swap false false c = refl

-- a net is claimed where it was or is one of these
claim_claims : (c : List ℕ) (xs : List ℕ) (n : ℕ) → n < 64 * length c → flag_at (claim_all c xs) n ≡ elem n xs || flag_at c n
claim_claims c [] n h = refl
claim_claims c (x ∷ xs) n h =
    claim_claims (raised c x) xs n (rw raised_length h) ∙ ap (λ b. elem n xs || b) (raised_flag c x n h)
    ∙ or_swap (elem n xs) (eqb n x) (flag_at c n)

eqb_swap : (m n : ℕ) → eqb m n ≡ eqb n m
eqb_swap m n = reflects_same (reflects_eq m n) (reflects_eq n m) sym sym

all_append : {A : Type 0} (f : A → Bool) (xs ys : List A) → all f (xs ++ ys) ≡ all f xs && all f ys
all_append f [] ys = refl
all_append f (x ∷ xs) ys = ap (λ b. f x && b) (all_append f xs ys) ∙ and_assoc (f x) (all f xs) (all f ys)
  where
    and_assoc : (a b c : Bool) → a && (b && c) ≡ (a && b) && c
    and_assoc true b c = refl
    and_assoc false b c = refl

none_of : (a b c : Bool) → not ((a || b) || c) ≡ not c && ((not a && not b) && true)
none_of true b true = refl
none_of true b false = refl
none_of false true true = refl
none_of false true false = refl
none_of false false true = refl
none_of false false false = refl

module _ (s : Prefix) (before : List Table) (r : Table) (h : Stands s before) (l : length before < table_room) where
  abbrev next : Prefix
  next = record { count = s.count + 1; claimed = claim_all s.claimed (r.net ∷ reads r); drives = with_driver s.drives r.net s.count }

  next_claimed : (n : ℕ) → n ≤ greatest_net → not (flag_at next.claimed n) ≡ all (clear n) (before ++ r ∷ [])
  next_claimed n m =
      ap not (claim_claims s.claimed (r.net ∷ reads r) n (omega (arith, h.nets)))
      ∙ none_of (eqb n r.net) (elem n (reads r)) (flag_at s.claimed n)
      ∙ ap₂ (λ a b. a && ((not b && not (elem n (reads r))) && true)) (h.claimed n m) (eqb_swap n r.net)
      ∙ sym (all_append (clear n) before (r ∷ []))

  -- the record at t, of those before and this one: this one, one of those, or none
  same_at : (t : ℕ) → t ≢ length before → get_or (before ++ r ∷ []) t blank ≡ get_or before t blank
  same_at t d =
      by_leb (λ b. get_or (before ++ r ∷ []) t blank ≡ get_or before t blank) t (length before)
      (λ m. get_or-append before (r ∷ []) blank t (omega (arith, d)))
      (λ m. let a : length (before ++ r ∷ []) ≤ t = simp length-append (omega arith) in
      let b : length before ≤ t = omega arith in
      get_or-eq_default (before ++ r ∷ []) blank a ∙ sym (get_or-eq_default before blank b))

  abbrev flags : Bool → List ℕ
  flags b = cond b s.drives (raised s.drives s.count)

  -- the record's own flag, and another's
  own_flag : (t : ℕ) → t < table_room → t ≡ length before → not (flag_at next.drives t) ≡ eqb r.net 0
  own_flag t m e =
      let o : length before ≤ t = omega arith in
      by_eqb (λ b. not (flag_at (flags b) t) ≡ b) r.net 0
      (λ z. h.drives t m ∙ ap (λ q. eqb q.net 0) (get_or-eq_default before blank {n = t} o))
      (λ z. ap not (raised_flag s.drives s.count t (omega (arith, h.tables)) ∙ ap (λ b. b || flag_at s.drives t) (eq-eqb t s.count (e ∙ sym h.count))))

  other_flag : (t : ℕ) → t < table_room → t ≢ length before → flag_at next.drives t ≡ flag_at s.drives t
  other_flag t m d =
      by_eqb (λ b. flag_at (flags b) t ≡ flag_at s.drives t) r.net 0
      (λ z. refl)
      (λ z. raised_flag s.drives s.count t (omega (arith, h.tables)) ∙ ap (λ b. b || flag_at s.drives t) (ne_eqb t s.count (λ e. d (e ∙ h.count))))

  next_drives : (t : ℕ) → t < table_room → not (flag_at next.drives t) ≡ eqb (get_or (before ++ r ∷ []) t blank).net 0
  next_drives t m =
      by_eqb (λ b. not (flag_at next.drives t) ≡ eqb (get_or (before ++ r ∷ []) t blank).net 0) t (length before)
      (λ e. own_flag t m e ∙ sym (rw (e, get_or-append_seam before r [] blank)))
      (λ d. ap not (other_flag t m d) ∙ h.drives t m ∙ sym (ap (λ q. eqb q.net 0) (same_at t d)))

  stands_next : Stands next (before ++ r ∷ [])
  stands_next = record {
    room = simp length-append (omega arith);
    count = simp length-append (omega (arith, h.count));
    nets = claim_length s.claimed (r.net ∷ reads r) ∙ h.nets;
    tables = by_eqb (λ b. length (flags b) ≡ table_words) r.net 0 (λ z. h.tables) (λ z. raised_length s.drives s.count ∙ h.tables);
    claimed = next_claimed;
    drives = next_drives;
  }

  pub stands_after : Stands (prefix_after s r) (before ++ r ∷ [])
  stands_after = let e = reflects_true (reflects_lt s.count table_room) (omega (arith, h.count)) in rw e stands_next

-- ---- the rules

module _ (s : Prefix) (before : List Table) (h : Stands s before) where
  -- an input that names a table is one of the records where its number is at most theirs
  source_stands : (x : ℕ) → sourced_in s.drives s.count x ≡ sourced before x
  source_stands x =
      rw h.count
      (by_leb (λ b. b || (leb x (code_base + length before) && not (flag_at s.drives (x - suc code_base))) ≡ b || (leb x (code_base + length before) && eqb (get_or before (x - suc code_base) blank).net 0)) x code_base
      (λ l. refl)
      (λ l. by_leb (λ b. b && not (flag_at s.drives (x - suc code_base)) ≡ b && eqb (get_or before (x - suc code_base) blank).net 0) x (code_base + length before)
      (λ m. h.drives (x - suc code_base) (omega (arith, h.room)))
      (λ m. refl)))

  all_stands : (xs : List ℕ) → all (sourced_in s.drives s.count) xs ≡ all (sourced before) xs
  all_stands [] = refl
  all_stands (x ∷ xs) = ap₂ ◌&&◌ (source_stands x) (all_stands xs)

  claim_stands : (r : Table) → r.net ≤ greatest_net → unclaimed_in s.claimed r ≡ unclaimed before r
  claim_stands r l = ap (λ b. eqb r.net 0 || (b && not (elem r.net (reads r)))) (h.claimed r.net l)

  -- THE POINTS OF A RECORD by what is kept are its points after the records
  pub points_stand : (k : ℕ) (r : Table) → keeps_points_in k s r ≡ keeps_points k before r
  points_stand k r =
      by_leb (λ b. is_padded r && ((b && all is_code (reads r)) && (is_sized k r && (all (sourced_in s.drives s.count) (reads r) && unclaimed_in s.claimed r)))
      ≡ is_padded r && ((b && all is_code (reads r)) && (is_sized k r && (all (sourced before) (reads r) && unclaimed before r)))) r.net greatest_net
      (λ l. ap₂ (λ a b. is_padded r && (all is_code (reads r) && (is_sized k r && (a && b)))) (all_stands (reads r)) (claim_stands r l))
      (λ l. refl)
