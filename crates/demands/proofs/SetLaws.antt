-- DEMAND 1 of adding a set: `set_told`. A sheet of a set is refused exactly where its own condition holds on the part with those ahead of it
-- added, whichever covers these have.
use Rattle.std.specs.Prelude.{ℕ, ◌+◌, ◌≡◌, refl, List, [], ◌∷◌, ◌++◌, length}
use Rattle.std.proofs.Common.{arith, sym, ap, ◌∙◌, subst}
use Rattle.set_lengths.specs.Trusted.Lengths.{Whole, cut}
use Rattle.part.specs.Trusted.Parts.{Shaped}
use Rattle.part.specs.Trusted.Sound.{Sound}
use Rattle.part.specs.Trusted.Ways.{least}
use Rattle.part.specs.Trusted.Answers.{Answer, accepted, refused}
use Rattle.part.specs.Trusted.Add.{Add}
use Rattle.part.specs.Trusted.Tries.{CallResult}
use Rattle.part.specs.Trusted.Sets.{InTurn, all, next, stop, turned_away, AddSet}
use Rattle.part.proofs.AddLaws.{not_refused}
use Rattle.part.specs.declared.Part.{Part}
use Rattle.demands.specs.Trusted.Calls.{add_set}
use Rattle.demands.specs.Trusted.Demands.{AddedAll, none_added, one_added, AddCondition, SetCondition, part_bad, not_whole, of_sheet, SetTold}
use Rattle.part.proofs.SetLaws.{SetCase, unsound_part, unfit, in_turn, set_case}
use Rattle.demands.proofs.CallLaws.{call_stays}
use Rattle.demands.specs.Determined.{Alike}
use Rattle.demands.proofs.DeterminedLaws.{alike_refl, alike_answer, add_answer, add_alike, add_shaped}
use Rattle.demands.proofs.ConditionLaws.{condition_answer, add_told}

-- a set that is turned down at a sheet: the condition that holds of it
record Found (i : ℕ) (sheets : List (List ℕ)) (p : Part) (position number place : ℕ) : Type 0 where
  ahead : List (List ℕ)
  one : List ℕ
  rest : List (List ℕ)
  part : Part
  sheets_are : sheets ≡ ahead ++ one ∷ rest
  added : AddedAll p ahead part
  condition : AddCondition least part one number place
  at : position ≡ i + length ahead

turn_found : {o : Part} {i : ℕ} {sheets : List (List ℕ)} {p : Part} {r : CallResult} → InTurn o i sheets p r → (number place : ℕ) → r.answer ≡ refused number place →
    Found i sheets p r.position number place
turn_found all number place e = absurd (not_refused e refl)
turn_found (next {text = text} x t) number place e =
    let f = turn_found t number place e in
    record {
      ahead = text ∷ f.ahead;
      one = f.one;
      rest = f.rest;
      part = f.part;
      sheets_are = ap (◌∷◌ text) f.sheets_are;
      added = one_added x f.added;
      condition = f.condition;
      at = omega (arith, f.at);
    }
turn_found (stop {text = text} {texts = rest} {p = p} {q = q} {number = m} {place = l} x) number place e = record {
  ahead = [];
  one = text;
  rest = rest;
  part = p;
  sheets_are = refl;
  added = none_added;
  condition = ((add_told least p text q (refused m l) x).refuses number place).0 e;
  at = omega arith;
}

-- and where none is, all are added
turn_all : {o : Part} {i : ℕ} {sheets : List (List ℕ)} {p : Part} {r : CallResult} → InTurn o i sheets p r → r.answer ≡ accepted →
    AddedAll p sheets r.part × (r.position ≡ 0)
turn_all all e = (none_added, refl)
turn_all (next x t) e = let y = turn_all t e in (one_added x y.0, y.1)
turn_all (stop x) e = absurd (not_refused refl e)

-- a sheet whose condition holds on a part that is alike
alike_told : {p p' : Part} {text : List ℕ} (q : Part) (a : Answer) {number place : ℕ} → Alike least p p' → Add least p text q a → AddCondition least p' text number place →
    a ≡ refused number place
alike_told {p} {p'} {text} q a g x c = add_answer least p text q a x ∙ alike_answer least p p' text g ∙ condition_answer least p' text c

turn_stops : {o : Part} {i : ℕ} {ahead : List (List ℕ)} {one : List ℕ} (rest : List (List ℕ)) {p p' q : Part} {r : CallResult} {number place : ℕ} →
    AddedAll p' ahead q → AddCondition least q one number place → InTurn o i (ahead ++ one ∷ rest) p r → Shaped p → Shaped p' → Alike least p p' →
    (r.answer ≡ refused number place) × (r.position ≡ i + length ahead)
turn_stops rest none_added c (next {q = q} x t) f f' g = absurd (not_refused (alike_told q accepted g x c) refl)
turn_stops rest none_added c (stop {q = q} x) f f' g = (alike_told q _ g x c, omega arith)
turn_stops rest (one_added {p = p'} {q = q'} y b) c (next {text = text} {p = p} {q = q} x t) f f' g =
    let k = add_alike least p p' f f' g text q q' accepted accepted x y in
    let z = turn_stops rest b c t (add_shaped least p f text q accepted x) (add_shaped least p' f' text q' accepted y) k.1 in
    (z.0, omega (arith, z.1))
turn_stops rest (one_added {p = p'} {q = q'} y b) c (stop {text = text} {p = p} {q = q} x) f f' g =
    absurd (not_refused refl (add_alike least p p' f f' g text q q' (refused _ _) accepted x y).0)

turn_whole : {o : Part} {i : ℕ} {sheets : List (List ℕ)} {p p' q : Part} {r : CallResult} → InTurn o i sheets p r → AddedAll p' sheets q → Shaped p → Shaped p' →
    Alike least p p' → r.answer ≡ accepted
turn_whole all none_added f f' g = refl
turn_whole (next {text = text} {p = p} {q = q} x t) (one_added {p = p'} {q = q'} y b) f f' g =
    turn_whole t b (add_shaped least p f text q accepted x) (add_shaped least p' f' text q' accepted y)
    (add_alike least p p' f f' g text q q' accepted accepted x y).1
turn_whole (stop {text = text} {p = p} {q = q} x) (one_added {p = p'} {q = q'} y b) f f' g =
    absurd (not_refused refl (add_alike least p p' f f' g text q q' (refused _ _) accepted x y).0)

module _ (p : Part) (shape : Shaped p) (lengths text : List ℕ) (r : CallResult) where
  -- a condition of the number, the place and the position that were given
  given_at : {m l i number place position : ℕ} → SetCondition p lengths text m l i → m ≡ number → l ≡ place → i ≡ position →
      SetCondition p lengths text number place position
  given_at {m} {l} {i} {number} {place} {position} c e f g =
      subst (λ x. SetCondition p lengths text x place position) e (subst (λ x. SetCondition p lengths text m x position) f (subst (SetCondition p lengths text m l) g c))

  condition_found : {number place position : ℕ} → SetCase p lengths text r → r.answer ≡ refused number place → r.position ≡ position →
      SetCondition p lengths text number place position
  condition_found (unsound_part n e) a i =
      given_at (part_bad n) (cc) (cc) (sym (ap (λ r. r.position) e) ∙ i)
  condition_found (unfit s n e) a i =
      given_at (not_whole s n) (cc) (cc) (sym (ap (λ r. r.position) e) ∙ i)
  condition_found {number} {place} (in_turn s w t) a i =
      let f = turn_found t number place a in
      given_at (of_sheet s w f.ahead f.one f.rest f.sheets_are f.part f.added number place f.condition) refl refl (omega (arith, f.at, i))

  away : (number : ℕ) → r ≡ turned_away p number → (r.answer ≡ refused number 0) × (r.position ≡ 0)
  away number e = (ap (λ r. r.answer) e, ap (λ r. r.position) e)

  condition_told : {number place position : ℕ} → SetCase p lengths text r → SetCondition p lengths text number place position →
      (r.answer ≡ refused number place) × (r.position ≡ position)
  condition_told (unsound_part n e) (part_bad m) = away 20 e
  condition_told (unsound_part n e) (not_whole s m) = absurd (n s)
  condition_told (unsound_part n e) (of_sheet s w ahead one rest i q b m l c) = absurd (n s)
  condition_told (unfit s n e) (part_bad m) = absurd (m s)
  condition_told (unfit s n e) (not_whole h m) = away 33 e
  condition_told (unfit s n e) (of_sheet h w ahead one rest i q b m l c) = absurd (n w)
  condition_told (in_turn s w t) (part_bad m) = absurd (m s)
  condition_told (in_turn s w t) (not_whole h m) = absurd (m w)
  condition_told (in_turn s w t) (of_sheet h v ahead one rest i q b m l c) =
      let z = turn_stops rest b c (subst (λ x. InTurn p 1 x p r) i t) shape shape (alike_refl least p) in
      (z.0, omega (arith, z.1))

  accepted_all : SetCase p lengths text r → r.answer ≡ accepted → Sound p × Whole lengths (length text) × AddedAll p (cut lengths text) r.part × (r.position ≡ 0)
  accepted_all (unsound_part n e) a = absurd (not_refused (ap (λ r. r.answer) e) a)
  accepted_all (unfit s n e) a = absurd (not_refused (ap (λ r. r.answer) e) a)
  accepted_all (in_turn s w t) a = let y = turn_all t a in (s, w, y.0, y.1)

  all_accepted : SetCase p lengths text r → Sound p → Whole lengths (length text) → (q : Part) → AddedAll p (cut lengths text) q → r.answer ≡ accepted
  all_accepted (unsound_part n e) s w q b = absurd (n s)
  all_accepted (unfit s n e) h w q b = absurd (n w)
  all_accepted (in_turn s w t) h v q b = turn_whole t b shape shape (alike_refl least p)

  pub set_told : AddSet p lengths text r → SetTold p lengths text r
  set_told h =
      let c = set_case p lengths text r h in
      record {
        refuses = λ m l i. (λ e. condition_found c e.0 e.1, condition_told c);
        accepts = (λ e. let z = accepted_all c e in (z.0, z.1, (r.part, z.2)), λ g. all_accepted c g.0 g.1 g.2.0 g.2.1);
        all = λ e. let z = accepted_all c e in (z.2, z.3);
        stays = λ m l e. call_stays p (add_set lengths text) r h m l e;
      }
