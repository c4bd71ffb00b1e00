-- What a mapping program prints is a list of adds, of all sheets of the input up to the first refusal, and is settled by the rules, but for which covers
-- of those that the way allows are taken: `runs_settled`.
use Rattle.std.specs.Prelude.{ℕ, ◌<◌, ◌^◌, ◌≡◌, refl, true, false, List, [], ◌∷◌, take}
use Rattle.std.proofs.Common.{arith, sym, ap, ap₂, ◌∙◌}
use Rattle.std.proofs.Math.Option.{Option, none, some}
use Rattle.decimal.specs.Trusted.Number.{Number, columns, field_number}
use Rattle.decimal.specs.Trusted.Columns.{field_of, signed_field_of}
use Rattle.decimal.specs.FieldLaws.{field_read_lem, signed_read}
use Rattle.sheet.specs.Trusted.Cut.{sheet_text}
use Rattle.part.specs.Trusted.Parts.{Shaped}
use Rattle.part.specs.Trusted.Ways.{Way}
use Rattle.part.specs.Trusted.Answers.{Answer, accepted, refused}
use Rattle.part.specs.Trusted.Tries.{CallResult}
use Rattle.part.specs.Trusted.Add.{opened, Add}
use Rattle.part.proofs.OpenLaws.{opened_shaped}
use Rattle.part.proofs.AddLaws.{not_refused}
use Rattle.demands.specs.Trusted.Calls.{Call, add, one_sheet, Promise, Chain, done, call, final}
use Rattle.demands.specs.Trusted.Demands.{last_part}
use Rattle.demands.proofs.Theorems.{demand_2, demand_3}
use Rattle.demands.proofs.CallLaws.{call_kept}
use Rattle.demands.specs.Determined.{Alike}
use Rattle.part.specs.declared.Part.{Part}
use Rattle.list_line.specs.Line.{top_line}
use Rattle.printing.specs.Trusted.RefusalLine.{refusal_line}
use Rattle.sheets.specs.Trusted.Sheets.{SheetsPrint, ended, stopped, added}
use Rattle.program_laws.specs.Trusted.Runs.{answers, used_counts, first_refusal}
use Rattle.fast_laws.specs.Trusted.RunsBy.{TextsBy, end, stop, next, shown_by, RunBy, ListsBy, RefusalOr, refusal, lists}

module _ {w : Way} {shown : Part → List ℕ} where
  -- the calls, their results, and what these print
  shown_calls : {p : Part} {n : ℕ} {text out : List ℕ} → SheetsPrint w shown p n text out →
      (cs : List Call) × (rs : List CallResult) × Chain p cs rs × TextsBy w text cs rs × (out ≡ shown_by shown p n rs)
  shown_calls ended = ([], [], done, end, refl)
  shown_calls {p} {text = text} (stopped q number place l a) =
      let s = (sheet_text text).0 in
      (_, one_sheet w s p q (refused number place) ∷ [], call {c = add w s} (a, refl) done, stop number place l refl, refl)
  shown_calls {p} {text = text} (added q l a m) =
      let s = (sheet_text text).0 in
      let r = shown_calls m in
      (_, one_sheet w s p q accepted ∷ r.1, call {c = add w s} (a, refl) r.2, next l refl r.3, r.4)

  pub shown_run : (k capacity : ℕ) (text out : List ℕ) → (opened k capacity).answer ≡ accepted → SheetsPrint w shown (opened k capacity).part 0 text out →
      RunBy w shown k capacity text out
  shown_run k capacity text out a m =
      let c = shown_calls m in
      record {
        calls = c.0;
        results = c.1;
        chain = c.2;
        texts = c.3;
        printed = c.4;
        counted = demand_3 _ (opened_shaped k capacity) c.0 c.1 c.2;
        served = demand_2 k capacity a c.0 c.1 c.2;
      }

-- ---- two runs of a text

-- by the first refusal among the answers
shown_for : (shown : Part → List ℕ) (p : Part) {out : List ℕ} (rs : List CallResult) {o : Option (ℕ × ℕ × ℕ)} → out ≡ shown_by shown p 0 rs →
    first_refusal 0 (answers rs) ≡ o → out ≡ elim o [ none ↦ shown (final p rs) | some z ↦ refusal_line z.0 z.1 z.2 ]
shown_for shown p rs e i = e ∙ ap (λ (o : Option (ℕ × ℕ × ℕ)). elim o [ none ↦ shown (final p rs) | some z ↦ refusal_line z.0 z.1 z.2 ]) i

-- where R holds, two parts differ in nothing that an answer depends on; and an add to both keeps it
module _ {w : Way} (R : Part → Part → Type 0) (alike : (p q : Part) → R p q → Alike w p q)
    (adds : (p q : Part) → Shaped p → Shaped q → R p q → (text : List ℕ) (p' q' : Part) (a b : Answer) → Add w p text p' a → Add w q text q' b →
    (a ≡ b) × R p' q') where
  adds_alike : (p q : Part) → Shaped p → Shaped q → R p q → (text : List ℕ) (r t : CallResult) → Promise p (add w text) r → Promise q (add w text) t →
      (r.answer ≡ t.answer) × R r.part t.part
  adds_alike p q f g l text r t h i = adds p q f g l text r.part t.part r.answer t.answer h.0 i.0

  -- the calls, the answers and the used counts are the same
  record AgreeBy (p q : Part) (cs ds : List Call) (rs ts : List CallResult) : Type 0 where
    calls : cs ≡ ds
    same : answers rs ≡ answers ts
    used : used_counts rs ≡ used_counts ts
    last : R (final p rs) (final q ts)

  texts_by_agree : {p q : Part} {text : List ℕ} {cs ds : List Call} {rs ts : List CallResult} → TextsBy w text cs rs → TextsBy w text ds ts →
      Chain p cs rs → Chain q ds ts → Shaped p → Shaped q → R p q → AgreeBy p q cs ds rs ts
  texts_by_agree end end done done f g l = record { calls = refl; same = refl; used = refl; last = l }
  texts_by_agree end (stop m n h e) c d f g l = absurd (omega arith)
  texts_by_agree end (next h e t) c d f g l = absurd (omega arith)
  texts_by_agree (stop m n h e) end c d f g l = absurd (omega arith)
  texts_by_agree (next h e t) end c d f g l = absurd (omega arith)
  texts_by_agree {p} {q} (stop {text = text} {r = r} m n h e) (stop {r = s} i j k o) (call a done) (call b done) f g l =
      let x = adds_alike p q f g l (sheet_text text).0 r s a b in
      record { calls = refl; same = ap (λ c. c ∷ []) x.0; used = ap (λ c. c ∷ []) (alike r.part s.part x.1).used; last = x.1 }
  texts_by_agree {p} {q} (stop {text = text} {r = r} m n h e) (next {r = s} k o u) (call a done) (call b d) f g l =
      absurd (not_refused e ((adds_alike p q f g l (sheet_text text).0 r s a b).0 ∙ o))
  texts_by_agree {p} {q} (next {text = text} {r = r} h e t) (stop {r = s} i j k o) (call a c) (call b done) f g l =
      absurd (not_refused o (sym (adds_alike p q f g l (sheet_text text).0 r s a b).0 ∙ e))
  texts_by_agree {p} {q} (next {text = text} {r = r} h e t) (next {r = s} k o u) (call a c) (call b d) f g l =
      let x = adds_alike p q f g l (sheet_text text).0 r s a b in
      let y = texts_by_agree {p = r.part} {q = s.part} t u c d (call_kept p f (add w (sheet_text text).0) r a).shaped (call_kept q g (add w (sheet_text text).0) s b).shaped x.1 in
      record { calls = ap (◌∷◌ (add w (sheet_text text).0)) y.calls; same = ap₂ ◌∷◌ x.0 y.same; used = ap₂ ◌∷◌ (alike r.part s.part x.1).used y.used; last = y.last }

  -- WHAT TWO RUNS PRINT: the line of one refusal; or lists that are the same as far as `ListsBy` says, with R of their last parts, from which L follows
  pub runs_settled : (shown : Part → List ℕ) → ((p : Part) → take 19 (shown p) ≡ top_line p.k p.capacity p.used) → (k capacity : ℕ) {text a b : List ℕ} →
      (opened k capacity).answer ≡ accepted → R (opened k capacity).part (opened k capacity).part →
      RunBy w shown k capacity text a → RunBy w shown k capacity text b → {L : Type 0} →
      ((l : ListsBy w shown k capacity text a b) → R (last_part k capacity l.one.results) (last_part k capacity l.two.results) → L) → RefusalOr L a b
  runs_settled shown top k capacity {text} {a} {b} c r x y {L} found = of (first_refusal 0 (answers x.results)) refl
    where
      start : Part
      start = (opened k capacity).part

      agree : AgreeBy start start x.calls y.calls x.results y.results
      agree = texts_by_agree x.texts y.texts x.chain y.chain (opened_shaped k capacity) (opened_shaped k capacity) r

      of : (o : Option (ℕ × ℕ × ℕ)) → first_refusal 0 (answers x.results) ≡ o → RefusalOr L a b
      of none e =
          let f = shown_for shown start x.results x.printed e in
          let n = ap (first_refusal 0) (sym agree.same) ∙ e in
          let g = shown_for shown start y.results y.printed n in
          let l = alike (final start x.results) (final start y.results) agree.last in
          lists (found (record {
            good = c;
            one = x;
            two = y;
            calls = agree.calls;
            all_accepted = (e, n);
            used = agree.used;
            list_one = f;
            list_two = g;
            top = ap (take 19) f ∙ top (final start x.results) ∙ (λ i. top_line (l.k i) (l.capacity i) (l.used i)) ∙ sym (ap (take 19) g ∙ top (final start y.results));
          }) agree.last)
      of (some z) e =
          refusal z.0 z.1 z.2 (shown_for shown start x.results x.printed e)
          (shown_for shown start y.results y.printed (ap (first_refusal 0) (sym agree.same) ∙ e))

-- ---- a list is no refusal: its first field has no minus sign

not_negative : (m n : ℕ) → ◌≡◌ {A = Option Number} (some (record { negative = true; magnitude = m })) (some (record { negative = false; magnitude = n })) → ⊥
not_negative m n e =
    let z : true ≡ false = ap (λ (o : Option Number). elim o [ none ↦ true | some x ↦ x.negative ]) e in
    let y : ◌≡◌ {A = ℕ} 0 1 = cc in
    omega arith

module _ {w : Way} (shown : Part → List ℕ) (top : (p : Part) → take 19 (shown p) ≡ top_line p.k p.capacity p.used) where
  pub no_refusal : {k capacity : ℕ} {text b : List ℕ} (number sheet place : ℕ) → 0 < number → number < 10 ^ 5 →
      ListsBy w shown k capacity text (refusal_line number sheet place) b → ⊥
  no_refusal {k} {capacity} number sheet place h l x =
      let p = final (opened k capacity).part x.one.results in
      let m : Number = record { negative = true; magnitude = number } in
      let f : signed_field_of columns m ≡ field_of columns p.k = ap (take 6) (ap (take 19) x.list_one ∙ top p) in
      not_negative number p.k
      (sym (signed_read m (record { size = omega arith; sign = λ n. (h, omega arith) })) ∙ ap field_number f
      ∙ field_read_lem p.k (omega (arith, x.one.served.sound.k_range.1)))

-- so where one of two outputs is a refusal, the other is it
pub refusal_alone : {L : Type 0} {b : List ℕ} (number sheet place : ℕ) → (L → ⊥) → RefusalOr L (refusal_line number sheet place) b → b ≡ refusal_line number sheet place
refusal_alone number sheet place n (refusal m s p e f) = f ∙ sym e
refusal_alone number sheet place n (lists l) = absurd (n l)
