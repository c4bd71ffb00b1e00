-- Worked examples of the definitions, by computation: what columns read as, and what columns a number is written as.
use Rattle.std.specs.Prelude.{ℕ, ◌-◌, ◌^◌, ◌≡◌, refl, true, false, [], ◌∷◌, map, pos, negsuc, replicate}
use Rattle.std.proofs.Math.Option.{Option, none, some}
use Rattle.decimal.specs.Trusted.Number.{Number, field_number, word_number}
use Rattle.decimal.specs.Trusted.Columns.{field_of, signed_room, signed_field_of}
use Rattle.decimal.specs.Trusted.Reading.{number_of_int}

plus : ℕ → Option Number
plus n = some (record { negative = false; magnitude = n })

minus : ℕ → Option Number
minus n = some (record { negative = true; magnitude = n })

-- "     0", "   -10", "999999", "-99999", and the widest codes of fanins and table inputs (request 102), "-10255" and " 10800"
numbers_read :
    map field_number (
    (32 ∷ 32 ∷ 32 ∷ 32 ∷ 32 ∷ 48 ∷ []) ∷
    (32 ∷ 32 ∷ 32 ∷ 45 ∷ 49 ∷ 48 ∷ []) ∷
    (57 ∷ 57 ∷ 57 ∷ 57 ∷ 57 ∷ 57 ∷ []) ∷
    (45 ∷ 57 ∷ 57 ∷ 57 ∷ 57 ∷ 57 ∷ []) ∷
    (45 ∷ 49 ∷ 48 ∷ 50 ∷ 53 ∷ 53 ∷ []) ∷
    (32 ∷ 49 ∷ 48 ∷ 56 ∷ 48 ∷ 48 ∷ []) ∷
    [])
    ≡ plus 0 ∷ minus 10 ∷ plus 999999 ∷ minus 99999 ∷ minus 10255 ∷ plus 10800 ∷ []
unfolding plus minus
numbers_read = refl

-- blanks alone, "     -", "    -0", "    00", "   007", "    +5", a tab for a blank, "    5 ", five columns, seven columns
no_numbers :
    map field_number (
    replicate 6 32 ∷
    (32 ∷ 32 ∷ 32 ∷ 32 ∷ 32 ∷ 45 ∷ []) ∷
    (32 ∷ 32 ∷ 32 ∷ 32 ∷ 45 ∷ 48 ∷ []) ∷
    (32 ∷ 32 ∷ 32 ∷ 32 ∷ 48 ∷ 48 ∷ []) ∷
    (32 ∷ 32 ∷ 32 ∷ 48 ∷ 48 ∷ 55 ∷ []) ∷
    (32 ∷ 32 ∷ 32 ∷ 32 ∷ 43 ∷ 53 ∷ []) ∷
    (32 ∷ 32 ∷ 32 ∷ 32 ∷ 9 ∷ 53 ∷ []) ∷
    (32 ∷ 32 ∷ 32 ∷ 32 ∷ 53 ∷ 32 ∷ []) ∷
    (32 ∷ 32 ∷ 32 ∷ 32 ∷ 53 ∷ []) ∷
    (32 ∷ 32 ∷ 32 ∷ 32 ∷ 32 ∷ 32 ∷ 53 ∷ []) ∷
    [])
    ≡ replicate 10 none
no_numbers = refl

-- the greatest of 64 bits in 21 columns, "0", "  120"
words_read :
    map word_number (
    (32 ∷ 49 ∷ 56 ∷ 52 ∷ 52 ∷ 54 ∷ 55 ∷ 52 ∷ 52 ∷ 48 ∷ 55 ∷ 51 ∷ 55 ∷ 48 ∷ 57 ∷ 53 ∷ 53 ∷ 49 ∷ 54 ∷ 49 ∷ 53 ∷ []) ∷
    (48 ∷ []) ∷
    (32 ∷ 32 ∷ 49 ∷ 50 ∷ 48 ∷ []) ∷
    [])
    ≡ some (2 ^ 64 - 1) ∷ some 0 ∷ some 120 ∷ []
words_read = refl

-- one more than the greatest, the least of 21 digits, "-1", " 07", blanks alone, no column
no_words :
    map word_number (
    (32 ∷ 49 ∷ 56 ∷ 52 ∷ 52 ∷ 54 ∷ 55 ∷ 52 ∷ 52 ∷ 48 ∷ 55 ∷ 51 ∷ 55 ∷ 48 ∷ 57 ∷ 53 ∷ 53 ∷ 49 ∷ 54 ∷ 49 ∷ 54 ∷ []) ∷
    (49 ∷ 48 ∷ 48 ∷ 48 ∷ 48 ∷ 48 ∷ 48 ∷ 48 ∷ 48 ∷ 48 ∷ 48 ∷ 48 ∷ 48 ∷ 48 ∷ 48 ∷ 48 ∷ 48 ∷ 48 ∷ 48 ∷ 48 ∷ 48 ∷ []) ∷
    (45 ∷ 49 ∷ []) ∷
    (32 ∷ 48 ∷ 55 ∷ []) ∷
    (32 ∷ 32 ∷ 32 ∷ []) ∷
    [] ∷
    [])
    ≡ replicate 6 none
no_words = refl

-- 0 and 120 in four columns, the greatest of 64 bits in 21
fields_written :
    field_of 4 0 ∷ field_of 4 120 ∷ field_of 21 (2 ^ 64 - 1) ∷ []
    ≡ (32 ∷ 32 ∷ 32 ∷ 48 ∷ [])
    ∷ (32 ∷ 49 ∷ 50 ∷ 48 ∷ [])
    ∷ (32 ∷ 49 ∷ 56 ∷ 52 ∷ 52 ∷ 54 ∷ 55 ∷ 52 ∷ 52 ∷ 48 ∷ 55 ∷ 51 ∷ 55 ∷ 48 ∷ 57 ∷ 53 ∷ 53 ∷ 49 ∷ 54 ∷ 49 ∷ 53 ∷ [])
    ∷ []
fields_written = refl

-- -1, -120 and 5 in four columns; a minus sign takes one column
signs_written :
    map (λ v. signed_field_of 4 (number_of_int v)) (negsuc 0 ∷ negsuc 119 ∷ pos 5 ∷ [])
    ≡ (32 ∷ 32 ∷ 45 ∷ 49 ∷ []) ∷ (45 ∷ 49 ∷ 50 ∷ 48 ∷ []) ∷ (32 ∷ 32 ∷ 32 ∷ 53 ∷ []) ∷ []
signs_written = refl

-- -10255 and 10800 in six columns
codes_written :
    map (λ v. signed_field_of 6 (number_of_int v)) (negsuc 10254 ∷ pos 10800 ∷ [])
    ≡ (45 ∷ 49 ∷ 48 ∷ 50 ∷ 53 ∷ 53 ∷ []) ∷ (32 ∷ 49 ∷ 48 ∷ 56 ∷ 48 ∷ 48 ∷ []) ∷ []
codes_written = refl

sign_room : map (λ v. signed_room 4 (number_of_int v)) (negsuc 998 ∷ negsuc 999 ∷ pos 9999 ∷ pos 10000 ∷ []) ≡ true ∷ false ∷ true ∷ false ∷ []
sign_room = refl
