-- Laws of what the first two fields of a gate's line say, and of the line up to its fanins.
use Prim.Native.Nat.{ℕ, suc, ◌+◌, ◌<◌}
use native.Mathlib.Omega.{arith}
use mathlib.Core.Path.{◌≡◌, refl, sym, ap, ◌∙◌}
use mathlib.Core.Bool.{true, false}
use mathlib.Core.Option.{none, some}
use mathlib.Core.List.{List, [], ◌∷◌, map}
use lib.Dec.{eqb}
use lib.ListN.{length, take, drop}
use lib.Seq.{take-nil}
use Rattle.lists.specs.Trusted.Checked.{passed, refused, ◌>>=◌, require, given}
use Rattle.tree.specs.declared.Kind.{Kind}
use Rattle.tree.specs.Trusted.Limits.{fewest_fanins, most_fanins}
use Rattle.decimal.specs.Trusted.Number.{Number}
use Rattle.sheet_line.specs.declared.FieldValue.{FieldValue}
use Rattle.sheet_line.specs.declared.Fields.{Fields}
use Rattle.sheet.specs.Trusted.Line.{line, fields}
use Rattle.sheet.specs.Trusted.Read.{counts, kind_of, gate_head_of}
use Rattle.sheet_line.specs.Inside.{value_of, values_of, gate_line}

pub gate_none : (g : ℕ) → gate_head_of g none ≡ refused 1 (suc g)
unfolding ◌>>=◌ given
gate_none g = refl

pub gate_few : (g : ℕ) (xs : List Number) → length xs < 2 → gate_head_of g (some xs) ≡ refused 1 (suc g)
unfolding ◌>>=◌ given
gate_few g [] l = refl
gate_few g (x ∷ []) l = refl
gate_few g (x ∷ y ∷ xs) l = absurd (omega arith)

module _ (g : ℕ) (x y : Number) (more : List Number) where
  pub gate_kind : kind_of x ≡ none → gate_head_of g (some (x ∷ y ∷ more)) ≡ refused 6 (suc g)
  unfolding ◌>>=◌ given
  gate_kind e = rw e

  pub gate_count : {k : Kind} → kind_of x ≡ some k → counts fewest_fanins most_fanins y ≡ false → gate_head_of g (some (x ∷ y ∷ more)) ≡ refused 7 (suc g)
  unfolding ◌>>=◌ require given
  gate_count e f = rw (e, f)

  pub gate_fields : {k : Kind} → kind_of x ≡ some k → counts fewest_fanins most_fanins y ≡ true → eqb (length more) y.magnitude ≡ false →
      gate_head_of g (some (x ∷ y ∷ more)) ≡ refused 1 (suc g)
  unfolding ◌>>=◌ require given
  gate_fields e f h = rw (e, f, h)

  pub gate_good : {k : Kind} → kind_of x ≡ some k → counts fewest_fanins most_fanins y ≡ true → eqb (length more) y.magnitude ≡ true →
      gate_head_of g (some (x ∷ y ∷ more)) ≡ passed (k, more)
  unfolding ◌>>=◌ require given
  gate_good e f h = rw (e, f, h)

-- ---- the line

fanins_drop : (xs : List FieldValue) (n : ℕ) → drop 2 (map value_of (take (suc (suc n)) xs)) ≡ map value_of (take n (drop 2 xs))
fanins_drop [] n = ap (map value_of) (sym (take-nil n))
fanins_drop (x ∷ []) n = ap (map value_of) (sym (take-nil n))
fanins_drop (x ∷ y ∷ xs) n = refl

-- the numbers of the fanins, where there are n
pub fanins_are : (f : Fields) (n : ℕ) → n + 2 ≡ f.count → drop 2 (values_of f) ≡ map value_of (take n (drop 2 f.numbers))
fanins_are f n e =
    ap (λ k. drop 2 (map value_of (take k f.numbers))) (let q : f.count ≡ suc (suc n) = omega arith in q) ∙ fanins_drop f.numbers n

module _ (g : ℕ) (text : List ℕ) where
  pub line_missing : line text ≡ none → gate_line g text ≡ refused 1 (suc g)
  unfolding ◌>>=◌ given
  line_missing e = rw e

  module _ {bytes rest : List ℕ} (e : line text ≡ some (bytes, rest)) where
    line_there : gate_line g text ≡ (gate_head_of g (fields bytes) >>= λ q. passed (q.0, q.1, rest))
    unfolding ◌>>=◌ given
    line_there = rw e

    pub gate_line_refused : {number place : ℕ} → gate_head_of g (fields bytes) ≡ refused number place → gate_line g text ≡ refused number place
    unfolding ◌>>=◌
    gate_line_refused h = line_there ∙ ap (λ m. m >>= λ q. passed (q.0, q.1, rest)) h

    pub line_passed : {kind : Kind} {xs : List Number} → gate_head_of g (fields bytes) ≡ passed (kind, xs) → gate_line g text ≡ passed (kind, xs, rest)
    unfolding ◌>>=◌
    line_passed h = line_there ∙ ap (λ m. m >>= λ q. passed (q.0, q.1, rest)) h
