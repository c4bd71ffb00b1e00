-- The first gate that is never read: what the flags say, gate by gate.
use Prim.Native.Nat.{ℕ, suc, ◌+◌, ◌-◌, ◌≤◌, ◌<◌}
use native.Mathlib.Omega.{arith}
use native.Mathlib.Numerals.{add-one}
use mathlib.Core.Path.{◌≡◌, sym, ap, ◌∙◌}
use mathlib.Core.Bool.{true, false}
use mathlib.Core.List.{List, ◌∷◌}
use Rattle.lists.specs.Trusted.Lists.{from}
use Rattle.lists.specs.Trusted.Tests.{elem}
use Rattle.tree.specs.Trusted.Limits.{code_base}
use Rattle.sheet.specs.Trusted.Limits.{most_gates}
use Rattle.lists.specs.Trusted.Checked.{refused, ◌>>=◌, require}
use Rattle.sheet.specs.Trusted.Read.{read_unread}
use Rattle.flags.specs.Flags.{flag_at}
use Rattle.sheet_fanin.specs.Fanins.{Flagged}

-- what is left to look at is the gates from g on
pub record Passed (words : List ℕ) (count g : ℕ) : Type 0 where
  pub least : 1 ≤ g
  pub same : (read : List ℕ) → Flagged code_base (most_gates + 1) words read → read_unread (from 1 (count - 1)) read ≡ read_unread (from g (count - g)) read

module _ (g : ℕ) (gs read : List ℕ) where
  unread_first : elem g read ≡ false → read_unread (g ∷ gs) read ≡ refused 13 (suc g)
  unfolding ◌>>=◌ require
  unread_first e = rw e

  unread_later : elem g read ≡ true → read_unread (g ∷ gs) read ≡ read_unread gs read
  unfolding ◌>>=◌ require
  unread_later e = rw e

module _ {words : List ℕ} {count g : ℕ} (p : Passed words count g) where
  module _ (more : g < count) (few : count ≤ most_gates) where
    one_more : from g (count - g) ≡ g ∷ from (g + 1) (count - (g + 1))
    one_more =
        ap (from g) (let q : count - g ≡ suc (count - (g + 1)) = omega arith in q) ∙ ap (λ n. g ∷ from n (count - (g + 1))) (sym (add-one g))

    pub passed_more : flag_at words (code_base + g) ≡ true → Passed words count (g + 1)
    passed_more e = record {
      least = omega arith;
      same = λ read h.
          p.same read h ∙ (ap (λ gs. read_unread gs read) one_more ∙ unread_later g (from (g + 1) (count - (g + 1))) read (sym (h g (omega arith)) ∙ e));
    }

    pub passed_first : flag_at words (code_base + g) ≡ false → (read : List ℕ) → Flagged code_base (most_gates + 1) words read →
        read_unread (from 1 (count - 1)) read ≡ refused 13 (g + 1)
    passed_first e read h =
        p.same read h
        ∙ (ap (λ gs. read_unread gs read) one_more
        ∙ (unread_first g (from (g + 1) (count - (g + 1))) read (sym (h g (omega arith)) ∙ e) ∙ ap (refused 13) (sym (add-one g))))
