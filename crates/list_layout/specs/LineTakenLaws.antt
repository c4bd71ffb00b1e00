-- The lines by the numbers of their fields, as a reader has them.
use Prim.Native.Nat.{ℕ, suc, ◌+◌, ◌-◌, ◌*◌, ◌≤◌, ◌<◌}
use Rattle.std.proofs.Common.{add-one, arith, ap, ap₂, subst, ◌∙◌, drop_of_length-le, take-append-drop, drop-cons, get_or-take, length-take-le}
use Rattle.std.specs.Prelude.{◌≡◌, refl, Bool, true, false, cond, ◌&&◌, eqb, length, get_or, take, drop, replicate, Some, None, Option as Answer}
use Rattle.std.proofs.Math.Path.{sym}
use Rattle.std.proofs.Math.Option.{Option, none, some, bind}
use Rattle.std.proofs.lemmas.Option.{MatchOption-at_some, MatchOption-at_none}
use mathlib.Core.List.{List, ◌∷◌, ◌++◌, map}
use Rattle.lists.specs.Trusted.Tests.{within}
use Rattle.lists.specs.TestLaws.{reflects_within}
use Rattle.decimal.specs.Trusted.Number.{columns}
use Rattle.table.specs.Trusted.Limits.{input_room}
use Rattle.table.specs.Trusted.Records.{record_of}
use Rattle.table.specs.ResultLaws.{says_true}
use Rattle.table.specs.declared.Table.{Table}
use Rattle.list_layout.specs.declared.TableRead.{TableRead}
use Rattle.list_layout.specs.Trusted.Layout.{first_number, take_number, take_numbers, take_line_feed, take_top, take_table}
use Rattle.list_layout.specs.FieldLaws.{bind_some}
use Rattle.list_layout.specs.Taken.{narrow, input_count, NumbersTaken, NumbersThere, LineFeedTaken, TopThere, TopTaken, TableThere}
use Rattle.list_layout.specs.TakenLaws.{not_both, bind_none, bind_cong, bind_assoc, number_there, number_missing}

-- ---- the numbers of fields, by what was answered

module _ (text : List ℕ) (at n : ℕ) where
  pub taken_there : {r : Answer (List ℕ)} {numbers : List ℕ} → r ≡ Some numbers → NumbersTaken text at n r → NumbersThere text at n numbers
  taken_there {numbers = numbers} = MatchOption-at_some (take_numbers n (drop at text) ≡ none) (NumbersThere text at n) numbers

  pub taken_missing : {r : Answer (List ℕ)} → r ≡ None → NumbersTaken text at n r → take_numbers n (drop at text) ≡ none
  taken_missing = MatchOption-at_none (take_numbers n (drop at text) ≡ none) (NumbersThere text at n)

-- ---- the first three numbers

module _ {B : Type 0} where
  numbers_cons : (n : ℕ) (text : List ℕ) (H : List ℕ × List ℕ → Option B) →
      bind (take_numbers (suc n) text) H ≡ bind (take_number columns text) (λ x. bind (take_numbers n x.1) (λ q. H (x.0 ∷ q.0, q.1)))
  unfolding bind
  numbers_cons n text H =
      bind_assoc (take_number columns text) (λ x. bind (take_numbers n x.1) (λ q. some (x.0 ∷ q.0, q.1))) H
      ∙ bind_cong (take_number columns text) (λ x. bind_assoc (take_numbers n x.1) (λ q. some (x.0 ∷ q.0, q.1)) H)

  three_first : (text : List ℕ) (F : ℕ → ℕ → ℕ → List ℕ → Option B) →
      bind (take_number columns text) (λ x. bind (take_number columns x.1) (λ y. bind (take_number columns y.1) (λ z. F x.0 y.0 z.0 z.1)))
      ≡ bind (take_numbers 3 text) (λ q. F (get_or q.0 0 0) (get_or q.0 1 0) (get_or q.0 2 0) q.1)
  unfolding bind
  three_first text F =
      let H : List ℕ × List ℕ → Option B = λ q. F (get_or q.0 0 0) (get_or q.0 1 0) (get_or q.0 2 0) q.1 in
      sym (numbers_cons 2 text H
      ∙ bind_cong (take_number columns text) (λ x. numbers_cons 1 x.1 (λ q. H (x.0 ∷ q.0, q.1))
      ∙ bind_cong (take_number columns x.1) (λ y. numbers_cons 0 y.1 (λ q. H (x.0 ∷ y.0 ∷ q.0, q.1)))))

-- a step that is there where a test holds
bind_cond : {A B : Type 0} (b : Bool) (a : A) (g : A → Option B) → bind (cond b (some a) none) g ≡ cond b (g a) none
unfolding bind
bind_cond true a g = refl
bind_cond false a g = refl

-- ---- a line feed

line_feed_here : (text : List ℕ) (at : ℕ) → at < length text → take_line_feed (drop at text) ≡ cond (eqb (get_or text at 0) 10) (some (drop (at + 1) text)) none
line_feed_here text at h = ap take_line_feed (drop-cons text at 0 h) ∙ ap (λ n. cond (eqb (get_or text at 0) 10) (some (drop n text)) none) (sym (add-one at))

pub line_feed_there : (text : List ℕ) (at : ℕ) → at < length text → LineFeedTaken text at (eqb (get_or text at 0) 10)
line_feed_there text at h = record { same = line_feed_here text at h; ends = λ e. h }

pub line_feed_short : (text : List ℕ) (at : ℕ) → length text ≤ at → LineFeedTaken text at false
line_feed_short text at h = record { same = ap take_line_feed (drop_of_length-le text {i = at} h); ends = λ e. absurd (not_both e) }

-- ---- line 0

abbrev top_rest : ℕ → ℕ → ℕ → List ℕ → Option (ℕ × ℕ × ℕ × List ℕ)
top_rest k capacity used more = bind (take_line_feed more) (λ rest. some (k, capacity, used, rest))

pub top_not : (text : List ℕ) → take_numbers 3 text ≡ none → take_top text ≡ none
top_not text e = three_first text top_rest ∙ bind_none _ _ e

module _ (text numbers : List ℕ) (h : NumbersThere text 0 3 numbers) where
  top_is_lem : (b : Bool) → LineFeedTaken text 18 b → take_top text ≡ cond b (some (get_or numbers 0 0, get_or numbers 1 0, get_or numbers 2 0, drop 19 text)) none
  top_is_lem b g =
      three_first text top_rest
      ∙ bind_some _ _ h.same
      ∙ ap (λ o. bind o (λ rest. some (get_or (take 3 numbers) 0 0, get_or (take 3 numbers) 1 0, get_or (take 3 numbers) 2 0, rest))) g.same
      ∙ bind_cond b (drop 19 text) (λ rest. some (get_or (take 3 numbers) 0 0, get_or (take 3 numbers) 1 0, get_or (take 3 numbers) 2 0, rest))
      ∙ rw (get_or-take 3 numbers 0 0 (omega arith), get_or-take 3 numbers 1 0 (omega arith), get_or-take 3 numbers 2 0 (omega arith))

  pub top_unended : LineFeedTaken text 18 false → take_top text ≡ none
  top_unended g = top_is_lem false g

  pub top_there : LineFeedTaken text 18 true → TopThere text (record { k = get_or numbers 0 0; capacity = get_or numbers 1 0; used = get_or numbers 2 0 })
  top_there g = record {
    same = top_is_lem true g;
    ends = let l = g.ends refl in omega (arith, l);
  }

  pub top_is : (b : Bool) → LineFeedTaken text 18 b → TopTaken text (cond b (Some (record { k = get_or numbers 0 0; capacity = get_or numbers 1 0; used = get_or numbers 2 0 })) None)
  top_is true g = top_there g
  top_is false g = top_unended g

-- ---- the line of a table

-- after the inputs: the truth table and the line feed
abbrev after_inputs : ℕ → List ℕ × List ℕ → Option (Table × List ℕ)
after_inputs net q = bind (take_number 21 q.1) (λ x. bind (take_line_feed x.1) (λ rest. some (record_of 0 (record { drives = net; inputs = q.0; truth = x.0 }), rest)))

-- after the first three numbers
abbrev table_rest : ℕ → ℕ → ℕ → ℕ → List ℕ → Option (Table × List ℕ)
table_rest t number net u text = bind (cond (eqb number t) (cond (within 2 input_room u) (take_numbers u text) none) none) (after_inputs net)

rest_test : (t number net u : ℕ) (text : List ℕ) (b c : Bool) → eqb number t ≡ b → within 2 input_room u ≡ c →
    table_rest t number net u text ≡ cond (b && c) (bind (take_numbers u text) (after_inputs net)) none
unfolding bind
rest_test t number net u text true true e f = rw (e, f)
rest_test t number net u text true false e f = rw (e, f)
rest_test t number net u text false c e f = rw e

-- the first three numbers of the line are not laid out
pub line_not : (text : List ℕ) (at t : ℕ) → take_numbers 3 (drop at text) ≡ none → take_table t (drop at text) ≡ none
line_not text at t e = three_first (drop at text) (table_rest t) ∙ bind_none _ _ e

module _ (text : List ℕ) (at t : ℕ) (head : List ℕ) (h : NumbersThere text at 3 head) where
  abbrev first : ℕ
  first = get_or head 0 0

  abbrev net : ℕ
  net = get_or head 1 0

  abbrev three : ℕ
  three = get_or head 2 0

  abbrev inputs_from : List ℕ
  inputs_from = drop (at + 18) text

  -- they are those of table t's line
  abbrev its_head : Bool
  its_head = eqb first t && within 2 input_room three

  head_is_lem : take_table t (drop at text) ≡ cond its_head (bind (take_numbers three inputs_from) (after_inputs net)) none
  head_is_lem = three_first (drop at text) (table_rest t) ∙ bind_some _ _ h.same
      ∙ rw (get_or-take 3 head 0 0 (omega arith), get_or-take 3 head 1 0 (omega arith), get_or-take 3 head 2 0 (omega arith))
      (rest_test t first net three inputs_from (eqb first t) (within 2 input_room three) refl refl)

  pub head_not : input_count head t ≡ None → take_table t (drop at text) ≡ none
  head_not e = head_is_lem ∙ ap (λ b. cond b (bind (take_numbers three inputs_from) (after_inputs net)) none) (off its_head e)
    where
      off : (b : Bool) → cond b (Some three) None ≡ None → b ≡ false
      off false z = refl
      off true z = let no : ◌≡◌ {A = ℕ} 0 1 = cc in absurd (omega arith)

  pub record HeadTaken (n : ℕ) : Type 0 where
    pub count : (2 ≤ n) × (n ≤ input_room)
    pub same : take_table t (drop at text) ≡ bind (take_numbers n inputs_from) (after_inputs net)

  pub head_there : {n : ℕ} → input_count head t ≡ Some n → HeadTaken n
  head_there {n} d = by_test its_head refl d
    where
      right : (a b : Bool) → a && b ≡ true → b ≡ true
      right true b e = e
      right false b e = absurd (not_both e)

      by_test : (b : Bool) → its_head ≡ b → cond b (Some three) None ≡ Some n → HeadTaken n
      by_test false e f = let no : ◌≡◌ {A = ℕ} 0 1 = cc in absurd (omega arith)
      by_test true e f =
          let same : three ≡ n = cc in
          subst HeadTaken same (record {
            count = says_true (reflects_within 2 input_room three) (right (eqb first t) (within 2 input_room three) e);
            same = head_is_lem ∙ ap (λ b. cond b (bind (take_numbers three inputs_from) (after_inputs net)) none) e;
          })

  module _ {n : ℕ} (k : HeadTaken n) where
    abbrev place : ℕ
    place = at + 18 + columns * n

    pub inputs_not : take_numbers n (drop (at + 18) text) ≡ none → take_table t (drop at text) ≡ none
    inputs_not e = k.same ∙ bind_none _ _ e

    module _ (inputs : List ℕ) (g : NumbersThere text (at + 18) n inputs) where
      -- what is read after the inputs
      rest_is : take_table t (drop at text) ≡ after_inputs net (take n inputs, drop place text)
      rest_is = k.same ∙ bind_some _ _ g.same

      pub truth_not : first_number 21 (drop place text) ≡ none → take_table t (drop at text) ≡ none
      truth_not f = rest_is ∙ bind_none _ _ (number_missing 21 place text f)

      module _ {truth : ℕ} (f : first_number 21 (drop place text) ≡ some truth) where
        abbrev said : Table
        said = record_of 0 (record { drives = net; inputs = take n inputs; truth = truth })

        line_is_lem : (b : Bool) → LineFeedTaken text (place + 21) b → take_table t (drop at text) ≡ cond b (some (said, drop (place + 21 + 1) text)) none
        line_is_lem b l =
            rest_is ∙ bind_some _ _ (number_there 21 place text f) ∙ ap (λ o. bind o (λ rest. some (said, rest))) l.same
            ∙ bind_cond b (drop (place + 21 + 1) text) (λ rest. some (said, rest))

        pub feed_not : LineFeedTaken text (place + 21) false → take_table t (drop at text) ≡ none
        feed_not l = line_is_lem false l

        pub table_there : length inputs ≡ input_room → LineFeedTaken text (place + 21) true → (r : TableRead) → r.end ≡ place + 21 + 1 →
            r.table ≡ record { net = narrow net; count = n; inputs = map narrow inputs; truth = truth; level = 0 } → TableThere text at t r
        table_there w l r b c = record {
          says = said;
          same = line_is_lem true l ∙ sym (ap (λ n. some (said, drop n text)) b);
          held = c ∙ ap₂ (λ m xs. record { net = narrow net; count = m; inputs = map narrow xs; truth = truth; level = 0 }) (sym count) (sym whole);
          ends = let m = l.ends refl in omega (arith, m, b);
        }
          where
            xs : List ℕ
            xs = take n inputs

            count : length xs ≡ n
            count = length-take-le n inputs (omega (arith, w, k.count.1))

            whole : xs ++ replicate (input_room - length xs) 0 ≡ inputs
            whole = ap (λ m. xs ++ replicate (input_room - m) 0) count ∙ ap (λ l. xs ++ l) (sym g.padded) ∙ take-append-drop n inputs
