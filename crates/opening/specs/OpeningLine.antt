-- THE OPENING LINE IS A LINE OF TWO FIELDS, as a sheet's first line is one: its definition by columns says the same.
use Rattle.std.specs.Prelude.{ℕ, ◌<◌, ◌≡◌, cond, List, [], ◌∷◌, ◌++◌, length, get_or, take, drop}
use Rattle.std.proofs.Common.{arith, sym, ap, ap₂, ◌∙◌, append_assoc, append-nil, take-add}
use Rattle.std.proofs.Math.Option.{Option, none, some}
use Rattle.std.proofs.Math.ListN.{get_or-eq_default}
use Rattle.std.proofs.Math.Seq.{split_at}
use Rattle.lists.specs.ListLaws.{every_none, every_cons}
use Rattle.lists.specs.Cases.{by_eqb, by_leb}
use Rattle.decimal.specs.Trusted.Number.{Number, columns, field_number}
use Rattle.decimal.specs.Trusted.Columns.{signed_field_of}
use Rattle.decimal.specs.NumberLaws.{field_within}
use Rattle.sheet.specs.Trusted.Line.{line, with, fields}
use Rattle.drawing.specs.Trusted.Written.{fields_text, line_text}
use Rattle.decimal.specs.FieldText.{no_some, field_text}
use Rattle.drawing.specs.LineLaws.{line_written_lem, fields_written}
use Rattle.drawing.proofs.OneText.{fields_text_lem, line_text_lem}
use Rattle.opening.specs.Trusted.Opening.{both, opening_numbers}
use Rattle.opening.specs.OpeningLaws.{two_numbers}

with_some : (o : Option Number) (p : Option (List Number)) {x : Number} {xs : List Number} → with o p ≡ some (x ∷ xs) → (o ≡ some x) × (p ≡ some xs)
with_some none p e = no_some e
with_some (some y) none e = no_some e
with_some (some y) (some ys) e = (cc, cc)

abbrev left_or : Number → Option (Number × Number) → Number
left_or a none = a
left_or a (some p) = p.0

abbrev right_or : Number → Option (Number × Number) → Number
right_or a none = a
right_or a (some p) = p.1

both_some : (o p : Option Number) {x y : Number} → both o p ≡ some (x, y) → (o ≡ some x) × (p ≡ some y)
both_some none p e = no_some e
both_some (some a) none e = no_some e
both_some (some a) (some b) e = (ap some (ap (left_or a) e), ap some (ap (right_or b) e))

module _ (input : List ℕ) (x y : Number) where
  abbrev first : List ℕ
  first = take columns input

  abbrev second : List ℕ
  second = take columns (drop columns input)

  found : opening_numbers input ≡ some (x, y) → (get_or input 12 0 ≡ 10) × (field_number first ≡ some x) × (field_number second ≡ some y)
  found =
      by_eqb (λ t. cond t (both (field_number first) (field_number second)) none ≡ some (x, y) → (get_or input 12 0 ≡ 10) × (field_number first ≡ some x) × (field_number second ≡ some y))
      (get_or input 12 0) 10 (λ z f. let q = both_some (field_number first) (field_number second) f in (z, q.0, q.1)) (λ z f. no_some f)

  feed_inside : get_or input 12 0 ≡ 10 → 12 < length input
  feed_inside z =
      by_leb (λ t. 12 < length input) (length input) 12
      (λ l. absurd (omega (arith, z, get_or-eq_default input 0 {n = 12} l)))
      (λ l. l)

  abbrev numbers : List Number
  numbers = x ∷ y ∷ []

  -- what the columns hold is a line of two fields, and what follows it the rest of the text
  pub opening_line : opening_numbers input ≡ some (x, y) → (line input ≡ some (take 12 input, drop 13 input)) × (fields (take 12 input) ≡ some numbers)
  opening_line e =
      let f = found e in
      let rest = drop 13 input in
      let text : take 12 input ≡ fields_text numbers =
      take-add columns columns input ∙ ap₂ ◌++◌ (field_text first f.1) (field_text second f.2 ∙ sym (append-nil (signed_field_of columns y))) in
      let whole : input ≡ take 12 input ++ (10 ∷ rest) = split_at input 12 0 (feed_inside f.0) ∙ ap (λ c. take 12 input ++ (c ∷ rest)) f.0 in (
        ap line (whole ∙ ap (λ l. l ++ (10 ∷ rest)) text ∙ sym (append_assoc (fields_text numbers) (10 ∷ []) rest))
            ∙ line_written_lem numbers rest
            ∙ ap (λ l. some (l, rest)) (sym text),
        ap fields text ∙ fields_written x (y ∷ []) (omega arith) (every_cons (field_within first f.1) (every_cons (field_within second f.2) (every_none _))),
      )

  -- and the other way round
  pub line_opening : {bytes rest : List ℕ} → line input ≡ some (bytes, rest) → fields bytes ≡ some numbers → (opening_numbers input ≡ some (x, y)) × (rest ≡ drop 13 input)
  line_opening {bytes} {rest} e f =
      let text : bytes ≡ fields_text numbers = fields_text_lem bytes numbers f in
      let whole : input ≡ line_text numbers ++ rest = line_text_lem input (bytes, rest) numbers e text in
      let a = with_some (field_number (signed_field_of columns x)) (with (field_number (signed_field_of columns y)) (some [])) (sym (ap fields text) ∙ f) in
      let b = with_some (field_number (signed_field_of columns y)) (some []) a.1 in (
        two_numbers input
            (ap (λ l. get_or l 12 0) whole)
            (ap (λ l. field_number (take columns l)) whole ∙ a.0)
            (ap (λ l. field_number (take columns (drop columns l))) whole ∙ b.0),
        sym (ap (drop 13) whole),
      )
