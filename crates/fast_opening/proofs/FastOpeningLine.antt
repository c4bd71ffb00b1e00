-- THE OPENING LINE IS A LINE OF THREE FIELDS, as a line of a sheet is one: its definition by columns says the same.
use Rattle.std.specs.Prelude.{ℕ, ◌<◌, ◌≡◌, cond, List, [], ◌∷◌, ◌++◌, length, get_or, take, drop}
use Rattle.std.proofs.Common.{arith, sym, ap, ap₂, ◌∙◌, append_assoc, append-nil, take-add, drop-drop}
use Rattle.std.proofs.Math.Option.{Option, none, some}
use Rattle.std.proofs.Math.ListN.{get_or-eq_default}
use Rattle.std.proofs.Math.Seq.{split_at}
use Rattle.lists.specs.ListLaws.{every_none, every_cons}
use Rattle.lists.specs.Cases.{by_eqb, by_leb}
use Rattle.decimal.specs.Trusted.Number.{Number, columns, field_number}
use Rattle.decimal.specs.Trusted.Columns.{signed_field_of}
use Rattle.decimal.specs.NumberLaws.{field_within}
use Rattle.decimal.specs.FieldText.{no_some, field_text}
use Rattle.sheet.specs.Trusted.Line.{line, with, fields}
use Rattle.drawing.specs.Trusted.Written.{fields_text, line_text}
use Rattle.drawing.specs.LineLaws.{line_written_lem, fields_written}
use Rattle.drawing.proofs.OneText.{fields_text_lem, line_text_lem}
use Rattle.fast_opening.specs.Trusted.FastOpening.{all_three, fast_numbers}
use Rattle.fast_opening.proofs.FastOpeningLaws.{three_numbers}

with_some : (o : Option Number) (p : Option (List Number)) {x : Number} {xs : List Number} → with o p ≡ some (x ∷ xs) → (o ≡ some x) × (p ≡ some xs)
with_some none p e = no_some e
with_some (some y) none e = no_some e
with_some (some y) (some ys) e = (cc, cc)

abbrev Three : Type 0
Three = Number × Number × Number

abbrev three_or : Three → Option Three → Three
three_or t none = t
three_or t (some p) = p

all_some : (o p q : Option Number) {x y z : Number} → all_three o p q ≡ some (x, y, z) → (o ≡ some x) × (p ≡ some y) × (q ≡ some z)
all_some none p q e = no_some e
all_some (some a) none q e = no_some e
all_some (some a) (some b) none e = no_some e
all_some (some a) (some b) (some d) e =
    let t = ap (three_or (a, b, d)) e in
    (ap (λ (r : Three). some r.0) t, ap (λ (r : Three). some r.1) t, ap (λ (r : Three). some r.2) t)

module _ (input : List ℕ) (x y z : Number) where
  abbrev first : List ℕ
  first = take columns input

  abbrev second : List ℕ
  second = take columns (drop 6 input)

  abbrev third : List ℕ
  third = take columns (drop 12 input)

  abbrev Found : Type 0
  Found = (get_or input 18 0 ≡ 10) × (field_number first ≡ some x) × (field_number second ≡ some y) × (field_number third ≡ some z)

  found : fast_numbers input ≡ some (x, y, z) → Found
  found =
      by_eqb (λ t. cond t (all_three (field_number first) (field_number second) (field_number third)) none ≡ some (x, y, z) → Found) (get_or input 18 0) 10
      (λ l f. let q = all_some (field_number first) (field_number second) (field_number third) f in (l, q.0, q.1, q.2))
      (λ l f. no_some f)

  feed_inside : get_or input 18 0 ≡ 10 → 18 < length input
  feed_inside l =
      by_leb (λ t. 18 < length input) (length input) 18
      (λ h. absurd (omega (arith, l, get_or-eq_default input 0 {n = 18} h)))
      (λ h. h)

  abbrev numbers : List Number
  numbers = x ∷ y ∷ z ∷ []

  -- what the columns hold is a line of three fields, and what follows it the rest of the text
  pub fast_line : fast_numbers input ≡ some (x, y, z) → (line input ≡ some (take 18 input, drop 19 input)) × (fields (take 18 input) ≡ some numbers)
  fast_line e =
      let f = found e in
      let rest = drop 19 input in
      let text : take 18 input ≡ fields_text numbers =
      take-add columns 12 input
      ∙ ap₂ ◌++◌ (field_text first f.1)
      (take-add columns columns (drop 6 input)
      ∙ ap₂ ◌++◌ (field_text second f.2)
      (ap (take columns) (drop-drop 6 6 input) ∙ field_text third f.3 ∙ sym (append-nil (signed_field_of columns z)))) in
      let whole : input ≡ take 18 input ++ (10 ∷ rest) = split_at input 18 0 (feed_inside f.0) ∙ ap (λ c. take 18 input ++ (c ∷ rest)) f.0 in (
        ap line (whole ∙ ap (λ l. l ++ (10 ∷ rest)) text ∙ sym (append_assoc (fields_text numbers) (10 ∷ []) rest))
            ∙ line_written_lem numbers rest
            ∙ ap (λ l. some (l, rest)) (sym text),
        ap fields text
            ∙ fields_written x (y ∷ z ∷ []) (omega arith)
            (every_cons (field_within first f.1) (every_cons (field_within second f.2) (every_cons (field_within third f.3) (every_none _)))),
      )

  -- and the other way round
  pub line_fast : {bytes rest : List ℕ} → line input ≡ some (bytes, rest) → fields bytes ≡ some numbers → (fast_numbers input ≡ some (x, y, z)) × (rest ≡ drop 19 input)
  line_fast {bytes} {rest} e f =
      let text : bytes ≡ fields_text numbers = fields_text_lem bytes numbers f in
      let whole : input ≡ line_text numbers ++ rest = line_text_lem input (bytes, rest) numbers e text in
      let last = with (field_number (signed_field_of columns z)) (some []) in
      let a = with_some (field_number (signed_field_of columns x)) (with (field_number (signed_field_of columns y)) last) (sym (ap fields text) ∙ f) in
      let b = with_some (field_number (signed_field_of columns y)) last a.1 in
      let d = with_some (field_number (signed_field_of columns z)) (some []) b.1 in (
        three_numbers input
            (ap (λ l. get_or l 18 0) whole)
            (ap (λ l. field_number (take columns l)) whole ∙ a.0)
            (ap (λ l. field_number (take columns (drop 6 l))) whole ∙ b.0)
            (ap (λ l. field_number (take columns (drop 12 l))) whole ∙ d.0),
        sym (ap (drop 19) whole),
      )
