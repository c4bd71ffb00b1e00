-- A buffer that has room for all that can be printed is never too short: what is printed stands at its front.
use Rattle.std.specs.Prelude.{ℕ, ◌+◌, ◌≤◌, ◌≡◌, refl, List, length, take, drop, Result, Ok, Err}
use Rattle.std.proofs.Common.{arith, sym, ap, ◌∙◌, subst, take_at, drop_at, le-leb}
use Rattle.lists.specs.Trusted.Checked.{passed, refused as unwritten}
use Rattle.list_line.specs.Trusted.Writes.{WriteOutcome, pasted}
use Rattle.list_line.specs.PasteLaws.{paste_length}
use Rattle.listing.proofs.LineLaws.{fitted_in}
use Rattle.printing.specs.Promises.{WrittenAs}
use Rattle.program.specs.Promises.{AnsweredBy, AtFrontBy}
use Rattle.printing.specs.declared.NoRoom.{NoRoom}

-- what is written stands at the front
module _ (P : List ℕ → List ℕ → Type 0) (input line new old : List ℕ) (h : P input line) (room : 0 + length line ≤ length old) where
  written_front : (n : ℕ) → WrittenAs line (Ok n) new old → AtFrontBy P input n new old
  written_front n e =
      let i = e ∙ fitted_in old 0 {line = line} refl (le-leb (0 + length line) (length old) room) in
      let w : passed n ≡ passed (length line) = ap (λ (o : WriteOutcome). o.result) i in
      let c : length line ≡ n = cc in
      let d : 0 + length line ≡ n = omega arith in
      let b : new ≡ pasted old 0 line = ap (λ (o : WriteOutcome). o.bytes) i in
      record {
        prints = subst (P input) (sym (ap (take n) b ∙ take_at line (drop (0 + length line) old) n c)) h;
        within = omega (arith, ap length b, paste_length old 0 line room);
        rest = ap (drop n) b ∙ drop_at line (drop (0 + length line) old) n c ∙ ap (λ m. drop m old) d;
      }

  written_all : {x : NoRoom} → WrittenAs line (Err x) new old → ⊥
  written_all e =
      let f = e ∙ fitted_in old 0 {line = line} refl (le-leb (0 + length line) (length old) room) in
      let i : unwritten 14 0 ≡ passed (length line) = ap (λ (o : WriteOutcome). o.result) f in
      let z : ◌≡◌ {A = ℕ} 0 1 = cc in
      omega arith

-- the most bytes that are printed for an input
module _ {P : List ℕ → List ℕ → Type 0} (most : ℕ) (short : (input out : List ℕ) → P input out → length out ≤ most)
    {input new old : List ℕ} {r : Result ℕ NoRoom} (enough : most ≤ length old) (h : AnsweredBy P input r new old) where
  line_fits : 0 + length h.line ≤ length old
  line_fits = omega (arith, short input h.line h.prints)

  written_as : {s : Result ℕ NoRoom} → r ≡ s → WrittenAs h.line s new old
  written_as e = subst (λ s. WrittenAs h.line s new old) e h.written

  pub answered_front : {n : ℕ} → r ≡ Ok n → AtFrontBy P input n new old
  answered_front {n} e = written_front P input h.line new old h.prints line_fits n (written_as e)

  pub answered_whole : {x : NoRoom} → r ≡ Err x → ⊥
  answered_whole e = written_all P input h.line new old h.prints line_fits (written_as e)
