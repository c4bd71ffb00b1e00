-- A sheet: line 1, the gates, and what comes after them, put together.
use Prim.Native.Nat.{ℕ, ◌+◌, ◌-◌}
use mathlib.Core.Path.{◌≡◌, refl, ap, ◌∙◌}
use mathlib.Core.Bool.{Bool, true, false, not, ◌&&◌, ◌||◌}
use mathlib.Core.Option.{none, some}
use mathlib.Core.List.{List}
use lib.Dec.{ltb}
use lib.ListN.{length, drop, drop_of_length-le}
use lib.Seq.{drop-cons}
use borrow.Author.Tests.{ltb-true, ltb-false}
use Rattle.lists.specs.Trusted.Lists.{from}
use Rattle.lists.specs.Trusted.Checked.{Checked, passed, refused, ◌>>=◌, require, given}
use Rattle.std.specs.Prelude.{Result, Ok, Err}
use Rattle.sheet.specs.declared.SheetError.{SheetError}
use Rattle.sheet_gates.specs.declared.Lines.{Lines}
use Rattle.sheet.specs.declared.Next.{Next}
use Rattle.sheet.specs.Trusted.Line.{line, fields}
use Rattle.sheet.specs.Trusted.Sheet.{DrawnGate, DrawnSheet}
use Rattle.sheet.specs.Trusted.Read.{is_empty, Head as LineOne, Seen, nothing, read_left, read_unread, head_of, read_sheet}
use Rattle.sheet.specs.Trusted.Cut.{next_read}
use Rattle.sheet.specs.Trusted.Answers.{drawn_sheet, answered}
use Rattle.sheet.specs.Trusted.Promise.{next_step}
use Rattle.sheet_gates.specs.Gates.{GatesHeld}
use Rattle.sheet_reader.specs.Inside.{read_end, read_front}

abbrev Gates : Type 0
Gates = List DrawnGate × Seen × List ℕ

-- ---- after the gates

empty_drop : (end : ℕ) (text : List ℕ) → is_empty (drop end text) ≡ not (ltb end (length text))
empty_drop end text = of (ltb end (length text)) refl
  where
    of : (b : Bool) → ltb end (length text) ≡ b → is_empty (drop end text) ≡ not b
    of true e = ap is_empty (drop-cons text end 0 (ltb-true end (length text) e))
    of false e = ap is_empty (drop_of_length-le text (ltb-false end (length text) e))

-- bytes follow the last line, where none may
more_is : (last : Bool) (end : ℕ) (text : List ℕ) → (not last || is_empty (drop end text)) ≡ not (last && ltb end (length text))
more_is true end text = empty_drop end text
more_is false end text = refl

module _ (text : List ℕ) (l : Lines) (head : LineOne) (last : Bool) (a : Gates) (held : GatesHeld text head.count l a) where
  follows : {b : Bool} → (last && ltb l.end (length text)) ≡ b → (not last || is_empty a.2) ≡ not b
  follows f = ap (λ rest. not last || is_empty rest) held.rest ∙ (more_is last l.end text ∙ ap not f)

  pub end_more : (last && ltb l.end (length text)) ≡ true → read_end last head a ≡ refused 1 (head.count + 2)
  unfolding ◌>>=◌ require
  end_more f = rw (follows f)

  module _ (f : (last && ltb l.end (length text)) ≡ false) where
    pub end_unread : {number place : ℕ} → read_unread (from 1 (head.count - 1)) a.1.gates ≡ refused number place → read_end last head a ≡ refused number place
    unfolding ◌>>=◌ require
    end_unread u = rw (follows f, u)

    pub end_passed : read_unread (from 1 (head.count - 1)) a.1.gates ≡ passed tt →
        read_end last head a ≡ passed (record { out = head.out; inverted = head.inverted; gates = a.0 }, a.2)
    unfolding ◌>>=◌ require
    end_passed u = rw (follows f, u)

-- ---- line 1 and the gates

module _ (last : Bool) (head : LineOne) {m : Checked Gates} where
  pub gates_refused : {number place : ℕ} → m ≡ refused number place → (m >>= read_end last head) ≡ refused number place
  unfolding ◌>>=◌
  gates_refused e = ap (λ s. s >>= read_end last head) e

  pub gates_passed : {a : Gates} → m ≡ passed a → (m >>= read_end last head) ≡ read_end last head a
  unfolding ◌>>=◌
  gates_passed e = ap (λ s. s >>= read_end last head) e

module _ (last : Bool) (text : List ℕ) where
  pub front_none : line text ≡ none → read_front last text ≡ refused 1 1
  unfolding ◌>>=◌ given
  front_none e = rw e

  abbrev head_then : List ℕ → LineOne → Checked (DrawnSheet × List ℕ)
  head_then rest head = read_left head.out head.count 1 nothing rest >>= read_end last head

  module _ {bytes rest : List ℕ} (e : line text ≡ some (bytes, rest)) where
    front_some : read_front last text ≡ (head_of (fields bytes) >>= head_then rest)
    unfolding ◌>>=◌ given
    front_some = rw e

    pub front_refused : {number place : ℕ} → head_of (fields bytes) ≡ refused number place → read_front last text ≡ refused number place
    unfolding ◌>>=◌
    front_refused h = front_some ∙ ap (λ s. s >>= head_then rest) h

    pub front_passed : {head : LineOne} → head_of (fields bytes) ≡ passed head →
        read_front last text ≡ (read_left head.out head.count 1 nothing rest >>= read_end last head)
    unfolding ◌>>=◌
    front_passed h = front_some ∙ ap (λ s. s >>= head_then rest) h

-- ---- the definitions' two readings

pub front_next : (text : List ℕ) → read_front false text ≡ next_read text
unfolding ◌>>=◌ require
front_next text = refl

abbrev pub alone : DrawnSheet × List ℕ → Checked DrawnSheet
alone r = passed r.0

-- one step more at the end
then_step : {A B C : Type 0} (m : Checked A) (f : A → Checked C) (g : A → Checked B) (h : B → Checked C) → ((a : A) → f a ≡ (g a >>= h)) →
    (m >>= f) ≡ ((m >>= g) >>= h)
unfolding ◌>>=◌
then_step (passed a) f g h e = e a
then_step (refused number place) f g h e = refl

pub front_all : (text : List ℕ) → read_sheet text ≡ (read_front true text >>= alone)
unfolding ◌>>=◌
front_all text =
    then_step (given (line text) 1 1) _ _ alone (λ p.
    then_step (head_of (fields p.0)) _ _ alone (λ head.
    then_step (read_left head.out head.count 1 nothing p.1) _ _ alone (λ a.
    then_step (require (is_empty a.2) 1 (head.count + 2)) _ _ alone (λ u.
    then_step (read_unread (from 1 (head.count - 1)) a.1.gates) _ _ alone (λ v. refl)))))

pub answered_alone : (text : List ℕ) (r : Result Next SheetError) → (next_step text r >>= alone) ≡ answered (λ n. drawn_sheet n.sheet) r
unfolding ◌>>=◌
answered_alone text (Ok n) = refl
answered_alone text (Err e) = refl
