-- The lines of a text, each ended by a line feed, the byte 10. Internal definitions: the laws are in LineLaws.
use Rattle.std.specs.Prelude.{ℕ, suc, ◌-◌, cond, List, [], ◌∷◌, ◌++◌, eqb, take, replicate}
use Rattle.std.specs.List.{position_or_len}
use Rattle.refusals.specs.Trusted.Sentences.{Entry, ◌means◌, bytes_of}

-- the text after its first n lines
abbrev pub after_lines : ℕ → List ℕ → List ℕ
after_lines n [] = []
after_lines n (b ∷ bs) = cond (eqb n 0) (b ∷ bs) (after_lines (cond (eqb b 10) (n - 1) n) bs)

-- the line after the first n, without its line feed
abbrev pub text_line : ℕ → List ℕ → List ℕ
text_line n text = take (position_or_len (λ b. eqb b 10) (after_lines n text)) (after_lines n text)

-- the sentences of entries as the lines of their numbers, from line k on; a line before the next number is empty
abbrev pub text_from : ℕ → List Entry → List ℕ
text_from k [] = []
text_from k ((j means s) ∷ es) = replicate (j - k) 10 ++ (bytes_of s ++ (10 ∷ text_from (suc j) es))
