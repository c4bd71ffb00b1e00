-- Laws of one fanin: what its flag says, what comes of it, and the flags with one more.
use Prim.Native.Nat.{ℕ, suc, ◌+◌, ◌*◌, ◌≤◌, ◌<◌}
use native.Mathlib.Omega.{arith}
use native.Mathlib.Nat.{add-zero}
use mathlib.Core.Path.{◌≡◌, refl, sym, ap, ap₂, ◌∙◌, subst}
use mathlib.Core.Logic.{◌≢◌}
use mathlib.Core.Bool.{true, false, ◌||◌, or_assoc, or-false, or_comm}
use mathlib.Core.Option.{none, some}
use mathlib.Core.List.{List, [], ◌∷◌, ◌++◌}
use lib.Dec.{eqb, ltb}
use lib.ListN.{length, replicate, length-replicate, length-append}
use borrow.Author.Tests.{ne_eqb}
use Rattle.lists.specs.ListLaws.{every_head}
use Rattle.lists.specs.Trusted.Tests.{elem}
use Rattle.lists.specs.TestLaws.{reflects_eq, reflects_same}
use Rattle.flags.specs.Flags.{flag_at, raised}
use Rattle.flags.specs.FlagLaws.{flag_none, raised_length, raised_flag}
use Rattle.tree.specs.Trusted.Limits.{code_base}
use Rattle.lists.specs.Trusted.Checked.{passed, refused, ◌>>=◌, require, given}
use Rattle.sheet.specs.declared.Source.{Source}
use Rattle.sheet.specs.declared.Source.TheVariants.{Net as net, Gate as gate}
use Rattle.sheet.specs.Trusted.Limits.{most_gates, most_leaves}
use Rattle.sheet.specs.Trusted.Sheet.{net_of}
use Rattle.sheet.specs.Trusted.Read.{Seen, nothing, source_of, read_fanin}
use Rattle.sheet.specs.ReadLaws.{source_named}
use Rattle.sheet_fanin.specs.Fanins.{Flagged, flag_words, Marked, saw}

-- ---- what comes of a fanin

module _ (out g : ℕ) (seen : Seen) (n : ℕ) where
  pub fanin_none : source_of g n ≡ none → read_fanin out g seen n ≡ refused 8 (suc g)
  unfolding ◌>>=◌ given
  fanin_none e = rw e

  module _ (j : ℕ) (e : source_of g n ≡ some (gate j)) where
    pub gate_twice : elem j seen.gates ≡ true → read_fanin out g seen n ≡ refused 9 (suc g)
    unfolding ◌>>=◌ given require
    gate_twice m = rw (e, m)

    pub gate_once : elem j seen.gates ≡ false → read_fanin out g seen n ≡ passed (gate j, saw seen (gate j))
    unfolding ◌>>=◌ given require
    gate_once m = rw (e, m)

  module _ (m : ℕ) (e : source_of g n ≡ some (net m)) where
    pub net_twice : elem m seen.nets ≡ true → read_fanin out g seen n ≡ refused 10 (suc g)
    unfolding ◌>>=◌ given require
    net_twice a = rw (e, a)

    pub net_out : elem m seen.nets ≡ false → eqb m out ≡ true → read_fanin out g seen n ≡ refused 11 (suc g)
    unfolding ◌>>=◌ given require
    net_out a b = rw (e, a, b)

    pub net_many : elem m seen.nets ≡ false → eqb m out ≡ false → ltb (length seen.nets) most_leaves ≡ false → read_fanin out g seen n ≡ refused 12 (suc g)
    unfolding ◌>>=◌ given require
    net_many a b d = rw (e, a, b, d)

    pub net_once : elem m seen.nets ≡ false → eqb m out ≡ false → ltb (length seen.nets) most_leaves ≡ true →
        read_fanin out g seen n ≡ passed (net m, saw seen (net m))
    unfolding ◌>>=◌ given require
    net_once a b d = rw (e, a, b, d)

-- ---- flags

elem_end : (n : ℕ) (xs : List ℕ) (i : ℕ) → elem n (xs ++ (i ∷ [])) ≡ (elem n xs || eqb n i)
elem_end n [] i = or-false (eqb n i)
elem_end n (x ∷ xs) i = ap (λ b. eqb n x || b) (elem_end n xs i) ∙ sym (or_assoc (eqb n x) (elem n xs) (eqb n i))

-- a flag raised is a number more, whatever the size
flag_in : (base size : ℕ) (words : List ℕ) (xs : List ℕ) (i : ℕ) → base + size ≤ 64 * length words → Flagged base size words xs →
    Flagged base size (raised words (base + i)) (xs ++ (i ∷ []))
flag_in base size words xs i l h n k =
    raised_flag words (base + i) (base + n) (omega arith)
    ∙ (ap₂ ◌||◌ (reflects_same (reflects_eq (base + n) (base + i)) (reflects_eq n i) (λ e. omega arith) (ap (λ m. base + m))) (h n k)
    ∙ (or_comm (eqb n i) (elem n xs) ∙ sym (elem_end n xs i)))

-- and one that is raised elsewhere says nothing
flag_out : (base size : ℕ) (words : List ℕ) (xs : List ℕ) (i : ℕ) → base + size ≤ 64 * length words → ((n : ℕ) → n < size → base + n ≢ i) →
    Flagged base size words xs → Flagged base size (raised words i) xs
flag_out base size words xs i l d h n k =
    raised_flag words i (base + n) (omega arith) ∙ (ap (λ b. b || flag_at words (base + n)) (ne_eqb (base + n) i (d n k)) ∙ h n k)

pub marked_start : Marked (replicate flag_words 0) 0 nothing
marked_start = record {
  whole = length-replicate {A = ℕ} flag_words 0;
  nets = λ n l. flag_none flag_words (0 + n);
  gates = λ n l. flag_none flag_words (code_base + n);
  count = refl;
}

module _ (g n : ℕ) (few : g ≤ most_gates) where
  -- the flag at the number of a fanin
  module _ {words : List ℕ} {leaves : ℕ} {seen : Seen} (h : Marked words leaves seen) where
    pub net_flag : (m : ℕ) → source_of g n ≡ some (net m) → flag_at words n ≡ elem m seen.nets
    net_flag m e =
        let d = source_named g n (net m) e in
        let k = every_head d.is_net_lem in
        ap (λ i. flag_at words i) (let q : n ≡ 0 + m = omega (arith, d.code) in q) ∙ h.nets m (omega arith)

    pub gate_flag : (j : ℕ) → source_of g n ≡ some (gate j) → flag_at words n ≡ elem j seen.gates
    gate_flag j e =
        let d = source_named g n (gate j) e in
        let k = every_head d.is_before in
        ap (λ i. flag_at words i) (sym d.code) ∙ h.gates j (omega arith)

    pub marked_more : (s : Source) → source_of g n ≡ some s → Marked (raised words n) (leaves + length (net_of s)) (saw seen s)
    marked_more (net m) e =
        let d = source_named g n (net m) e in
        let k = every_head d.is_net_lem in
        let q : 0 + m ≡ n = omega (arith, d.code) in
        record {
          whole = raised_length words n ∙ h.whole;
          nets = subst (λ i. Flagged 0 code_base (raised words i) (seen.nets ++ (m ∷ []))) q
              (flag_in 0 code_base words seen.nets m (omega (arith, h.whole)) h.nets);
          gates = flag_out code_base (most_gates + 1) words seen.gates n (omega (arith, h.whole)) (λ i l z. omega arith) h.gates;
          count = length-append seen.nets (m ∷ []) ∙ ap (λ i. i + 1) h.count;
        }
    marked_more (gate j) e =
        let d = source_named g n (gate j) e in
        let k = every_head d.is_before in
        record {
          whole = raised_length words n ∙ h.whole;
          nets = flag_out 0 code_base words seen.nets n (omega (arith, h.whole)) (λ i l z. omega (arith, d.code)) h.nets;
          gates = subst (λ i. Flagged code_base (most_gates + 1) (raised words i) (seen.gates ++ (j ∷ []))) d.code
              (flag_in code_base (most_gates + 1) words seen.gates j (omega (arith, h.whole)) h.gates);
          count = h.count ∙ sym (add-zero leaves);
        }
