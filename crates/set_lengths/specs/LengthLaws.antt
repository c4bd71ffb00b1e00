-- The test of a set's lengths says what it is to say; and the lengths from one on, and their sum.
use Rattle.std.specs.Prelude.{ℕ, ◌+◌, ◌<◌, ◌≡◌, List, ◌∷◌, length, get_or, drop}
use Rattle.std.proofs.Common.{add-one, ap, ◌∙◌, drop-cons}
use Rattle.lists.specs.Trusted.Lists.{sum}
use Rattle.lists.specs.Trusted.Tests.{Reflects}
use Rattle.lists.specs.TestLaws.{reflects_eq, reflects_and, reflects_within, reflects_map}
use Rattle.set_lengths.specs.Trusted.Lengths.{most_sheets, Whole, is_whole}

pub whole_reflects : (lengths : List ℕ) (size : ℕ) → Reflects (is_whole lengths size) (Whole lengths size)
whole_reflects lengths size =
    reflects_map (λ h. record { some = h.0.0; few = h.0.1; add_up = h.1 }) (λ h. ((h.some, h.few), h.add_up))
    (reflects_and (reflects_within 1 most_sheets (length lengths)) (reflects_eq (sum (λ n. n) lengths) size))

module _ (lengths : List ℕ) (i : ℕ) (l : i < length lengths) where
  pub lengths_next : drop i lengths ≡ get_or lengths i 0 ∷ drop (i + 1) lengths
  lengths_next = drop-cons lengths i 0 l ∙ rw add-one

  pub sum_next : sum (λ n. n) (drop i lengths) ≡ get_or lengths i 0 + sum (λ n. n) (drop (i + 1) lengths)
  sum_next = ap (sum (λ n. n)) lengths_next
