-- What the program prints is settled by the rules, but for which least covers are taken: `prints_determined`.
use Rattle.std.specs.Prelude.{ℕ, ◌<◌, ◌^◌, ◌≡◌, refl, true, false, List, [], ◌∷◌, take, drop}
use Rattle.std.proofs.Common.{arith, sym, ap, ap₂, ◌∙◌, take_at}
use Rattle.std.proofs.Math.Option.{Option, none, some}
use Rattle.decimal.specs.Trusted.Number.{Number, columns, field_number}
use Rattle.decimal.specs.Trusted.Columns.{field_of, signed_field_of}
use Rattle.decimal.specs.FieldLaws.{field_read_lem, signed_read}
use Rattle.sheet.specs.Trusted.Cut.{sheet_text}
use Rattle.part.specs.Trusted.Parts.{Shaped}
use Rattle.part.specs.Trusted.Sound.{Sound}
use Rattle.part.specs.Trusted.Ways.{least}
use Rattle.part.specs.Trusted.Answers.{Answer, accepted, refused}
use Rattle.part.specs.Trusted.Tries.{CallResult}
use Rattle.part.specs.Trusted.Add.{opened}
use Rattle.part.proofs.OpenLaws.{opened_shaped, opened_sound}
use Rattle.part.proofs.AddLaws.{not_refused}
use Rattle.demands.specs.Trusted.Calls.{Call, add, Promise, Chain, done, call, final}
use Rattle.demands.proofs.CallLaws.{call_kept}
use Rattle.listing.specs.Trusted.Listing.{list_of}
use Rattle.demands.specs.Determined.{Alike}
use Rattle.demands.proofs.DeterminedLaws.{alike_refl, add_alike}
use Rattle.part.specs.declared.Part.{Part}
use Rattle.list_line.specs.Line.{top_line}
use Rattle.listing.specs.Lines.{table_lines}
use Rattle.listing.proofs.LineLaws.{list_is}
use Rattle.opening.specs.Trusted.Opening.{opening_numbers, count, opened_by}
use Rattle.printing.specs.Trusted.RefusalLine.{refusal_line}
use Rattle.program.specs.Trusted.Program.{After, Prints}
use Rattle.program_laws.specs.Trusted.Runs.{Texts, end, stop, next, answers, used_counts, first_refusal, printed_by, Run, Determined, refusal, lists}
use Rattle.program_laws.proofs.ChainLaws.{mapped_run}

-- ---- two runs of a text, from parts that differ in nothing that an answer depends on

texts_alike : (p q : Part) → Shaped p → Shaped q → Alike least p q → (text : List ℕ) (r t : CallResult) → Promise p (add least text) r → Promise q (add least text) t →
    (r.answer ≡ t.answer) × Alike least r.part t.part
texts_alike p q f g l text r t h i = add_alike least p q f g l text r.part t.part r.answer t.answer h.0 i.0

-- the calls, the answers and the used counts are the same
record Agree (p q : Part) (cs ds : List Call) (rs ts : List CallResult) : Type 0 where
  calls : cs ≡ ds
  same : answers rs ≡ answers ts
  used : used_counts rs ≡ used_counts ts
  last : Alike least (final p rs) (final q ts)

texts_agree : {p q : Part} {text : List ℕ} {cs ds : List Call} {rs ts : List CallResult} → Texts text cs rs → Texts text ds ts →
    Chain p cs rs → Chain q ds ts → Shaped p → Shaped q → Alike least p q → Agree p q cs ds rs ts
texts_agree end end done done f g l = record { calls = refl; same = refl; used = refl; last = l }
texts_agree end (stop m n h e) c d f g l = absurd (omega arith)
texts_agree end (next h e t) c d f g l = absurd (omega arith)
texts_agree (stop m n h e) end c d f g l = absurd (omega arith)
texts_agree (next h e t) end c d f g l = absurd (omega arith)
texts_agree {p} {q} (stop {text = text} {r = r} m n h e) (stop {r = s} i j k o) (call a done) (call b done) f g l =
    let x = texts_alike p q f g l (sheet_text text).0 r s a b in
    record { calls = refl; same = ap (λ c. c ∷ []) x.0; used = ap (λ c. c ∷ []) x.1.used; last = x.1 }
texts_agree {p} {q} (stop {text = text} {r = r} m n h e) (next {r = s} k o u) (call a done) (call b d) f g l =
    absurd (not_refused e ((texts_alike p q f g l (sheet_text text).0 r s a b).0 ∙ o))
texts_agree {p} {q} (next {text = text} {r = r} h e t) (stop {r = s} i j k o) (call a c) (call b done) f g l =
    absurd (not_refused o (sym (texts_alike p q f g l (sheet_text text).0 r s a b).0 ∙ e))
texts_agree {p} {q} (next {text = text} {r = r} h e t) (next {r = s} k o u) (call a c) (call b d) f g l =
    let x = texts_alike p q f g l (sheet_text text).0 r s a b in
    let y = texts_agree {p = r.part} {q = s.part} t u c d (call_kept p f (add least (sheet_text text).0) r a).shaped (call_kept q g (add least (sheet_text text).0) s b).shaped x.1 in
    record { calls = ap (◌∷◌ (add least (sheet_text text).0)) y.calls; same = ap₂ ◌∷◌ x.0 y.same; used = ap₂ ◌∷◌ x.1.used y.used; last = y.last }

-- ---- what the two runs print

top_line_lem : (p : Part) (out : List ℕ) → out ≡ list_of p → take 19 out ≡ top_line p.k p.capacity p.used
top_line_lem p out e = ap (take 19) (e ∙ list_is p) ∙ take_at (top_line p.k p.capacity p.used) (table_lines p p.used) 19 refl

-- by the first refusal among the answers
printed_for : (p : Part) {out : List ℕ} (rs : List CallResult) {o : Option (ℕ × ℕ × ℕ)} → out ≡ printed_by p 0 rs → first_refusal 0 (answers rs) ≡ o →
    out ≡ elim o [ none ↦ list_of (final p rs) | some z ↦ refusal_line z.0 z.1 z.2 ]
printed_for p rs e i = e ∙ ap (λ (o : Option (ℕ × ℕ × ℕ)). elim o [ none ↦ list_of (final p rs) | some z ↦ refusal_line z.0 z.1 z.2 ]) i

module _ (input a b : List ℕ) (u v : Number) (good : opening_numbers input ≡ some (u, v)) where
  abbrev start : Part
  start = (opened (count u) (count v)).part

  runs_settled : (opened (count u) (count v)).answer ≡ accepted → Run (count u) (count v) (drop 13 input) a → Run (count u) (count v) (drop 13 input) b → Determined input a b
  runs_settled c x y = of (first_refusal 0 (answers x.results)) refl
    where
      agree : Agree start start x.calls y.calls x.results y.results
      agree = texts_agree x.texts y.texts x.chain y.chain (opened_shaped (count u) (count v)) (opened_shaped (count u) (count v)) (alike_refl least start)

      of : (o : Option (ℕ × ℕ × ℕ)) → first_refusal 0 (answers x.results) ≡ o → Determined input a b
      of none e =
          let f = printed_for start x.results x.printed e in
          let n = ap (first_refusal 0) (sym agree.same) ∙ e in
          let g = printed_for start y.results y.printed n in
          let l = agree.last in
          lists u v good (record {
            good = c;
            one = x;
            two = y;
            calls = agree.calls;
            all_accepted = (e, n);
            used = agree.used;
            list_one = f;
            list_two = g;
            top = top_line_lem (final start x.results) a f ∙ (λ i. top_line (l.k i) (l.capacity i) (l.used i)) ∙ sym (top_line_lem (final start y.results) b g);
          })
      of (some z) e =
          refusal z.0 z.1 z.2 (printed_for start x.results x.printed e)
          (printed_for start y.results y.printed (ap (first_refusal 0) (sym agree.same) ∙ e))

  opened_settled : (c : Answer) → (opened (count u) (count v)).answer ≡ c → After (record { part = start; answer = c }) (drop 13 input) a →
      After (record { part = start; answer = c }) (drop 13 input) b → Determined input a b
  opened_settled accepted e h i = runs_settled e (mapped_run (count u) (count v) (drop 13 input) a e h) (mapped_run (count u) (count v) (drop 13 input) b e i)
  opened_settled (refused number place) e h i = refusal number 0 place h i

-- WHAT IS PRINTED IS SETTLED, but for which least covers are taken
pub prints_determined : (input a b : List ℕ) → Prints input a → Prints input b → Determined input a b
prints_determined input a b = of (opening_numbers input) refl
  where
    of : (o : Option (Number × Number)) → opening_numbers input ≡ o → After (opened_by o) (drop 13 input) a → After (opened_by o) (drop 13 input) b → Determined input a b
    of none e h i = refusal 1 0 0 h i
    of (some z) e h i = opened_settled input a b z.0 z.1 e (opened (count z.0) (count z.1)).answer refl h i

-- ---- a list is no refusal: its first field has no minus sign

chain_last : {p : Part} {cs : List Call} {rs : List CallResult} → Chain p cs rs → Shaped p → Sound p → Sound (final p rs)
chain_last done f h = h
chain_last {p} (call {c = c} {r = r} a t) f h = let k = call_kept p f c r a in chain_last t k.shaped (k.sound h)

not_minus : (m n : ℕ) → ◌≡◌ {A = Option Number} (some (record { negative = true; magnitude = m })) (some (record { negative = false; magnitude = n })) → ⊥
not_minus m n e =
    let z : true ≡ false = ap (λ (o : Option Number). elim o [ none ↦ true | some x ↦ x.negative ]) e in
    let y : ◌≡◌ {A = ℕ} 0 1 = cc in
    omega arith

list_no_refusal : (p : Part) → Sound p → (number sheet place : ℕ) → 0 < number → number < 10 ^ 5 → refusal_line number sheet place ≡ list_of p → ⊥
list_no_refusal p s number sheet place h l e =
    let m : Number = record { negative = true; magnitude = number } in
    let f : signed_field_of columns m ≡ field_of columns p.k = ap (take 6) e in
    not_minus number p.k
    (sym (signed_read m (record { size = omega arith; sign = λ n. (h, omega arith) })) ∙ ap field_number f ∙ field_read_lem p.k (omega (arith, s.k_range.1)))

-- WHERE ONE OUTPUT IS A REFUSAL, EVERY OUTPUT IS IT. Its number, as all of 01's, leaves room for the sign.
pub refusal_determined : (input b : List ℕ) (number sheet place : ℕ) → 0 < number → number < 10 ^ 5 → Prints input (refusal_line number sheet place) → Prints input b →
    b ≡ refusal_line number sheet place
refusal_determined input b number sheet place h l p q = of (prints_determined input (refusal_line number sheet place) b p q)
  where
    of : Determined input (refusal_line number sheet place) b → b ≡ refusal_line number sheet place
    of (refusal m n o e f) = f ∙ sym e
    of (lists u v good x) = absurd (list_no_refusal (final (opened (count u) (count v)).part x.one.results) (chain_last x.one.chain (opened_shaped (count u) (count v)) (opened_sound (count u) (count v) x.good)) number sheet place h l x.list_one)
