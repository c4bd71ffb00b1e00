-- What comes of something that can be turned down. Definitions only: the laws are in CheckedLaws.
use Rattle.std.specs.Prelude.{ℕ, Bool, true, false}
use Rattle.std.proofs.Math.Option.{Option, none, some}

-- a result, or the refusal's number and place
pub data Checked (A : Type 0) : Type 0 where
  passed : A → Checked A
  refused : (number place : ℕ) → Checked A

-- the one and then the other; the first refusal decides. It lets steps be written one under the other after `do`.
infixl 10 ◌>>=◌
unfoldable pub ◌>>=◌ : {A B : Type 0} → Checked A → (A → Checked B) → Checked B
◌>>=◌ (passed a) f = f a
◌>>=◌ (refused number place) f = refused number place

-- the test is passed, or there is a refusal with this number at this place
unfoldable pub require : Bool → (number place : ℕ) → Checked (Unit {0})
require true number place = passed tt
require false number place = refused number place

-- and so where there is nothing
unfoldable pub given : {A : Type 0} → Option A → (number place : ℕ) → Checked A
given (some a) number place = passed a
given none number place = refused number place
