-- A test's result as an equation, which is how a branch of the code has it, and what it says.
use Rattle.std.specs.Prelude.{◌≡◌, Bool, true, false, T}
use Rattle.std.proofs.Common.{sym, subst}
use Rattle.lists.specs.Trusted.Tests.{Reflects}

pub never_true : {A : Type 0} → false ≡ true → A
never_true e = absurd (subst T (sym e) tt)

module _ {b : Bool} {P : Type 0} where
  pub says_true : Reflects b P → b ≡ true → P
  says_true r e = r.to (subst T (sym e) tt)

  pub says_false : Reflects b P → b ≡ false → ¬ P
  says_false r e h = subst T e (r.from h)
