-- What holds of what has passed: each step's own part, put together.
use Rattle.std.specs.Prelude.{ℕ, ◌≡◌, refl, Bool, true, false, T}
use Rattle.std.proofs.Common.{arith, subst}
use Rattle.std.proofs.Math.Option.{Option, none, some}
use Rattle.lists.specs.Trusted.Checked.{Checked, passed, refused, ◌>>=◌, require, given}

-- `P` holds of the result, if there is one
pub data Meets {A : Type 0} (P : A → Type 0) : Checked A → Type 0 where
  on : {a : A} → P a → Meets P (passed a)
  off : {number place : ℕ} → Meets P (refused number place)

pub meets_any : {A : Type 0} (m : Checked A) → Meets (λ a. Unit {0}) m
meets_any (passed a) = on tt
meets_any (refused number place) = off

pub meets_self : {A : Type 0} (m : Checked A) → Meets (λ a. m ≡ passed a) m
meets_self (passed a) = on refl
meets_self (refused number place) = off

pub meets_of : {A : Type 0} {P : A → Type 0} {m : Checked A} {a : A} → Meets P m → m ≡ passed a → P a
meets_of {P = P} (on {a = b} p) e = subst P (let q : b ≡ _ = cc in q) p
meets_of off e = let z : ◌≡◌ {A = ℕ} 0 1 = cc in absurd (omega arith)

pub meets_map : {A : Type 0} {P Q : A → Type 0} {m : Checked A} → ((a : A) → P a → Q a) → Meets P m → Meets Q m
meets_map h (on {a = a} p) = on (h a p)
meets_map h off = off

pub meets_bind : {A B : Type 0} {P : B → Type 0} {Q : A → Type 0} (m : Checked A) (f : A → Checked B) →
    Meets Q m → ((a : A) → Q a → Meets P (f a)) → Meets P (m >>= f)
unfolding ◌>>=◌
meets_bind m f (on {a = a} q) h = h a q
meets_bind m f off h = off

pub meets_require : {B : Type 0} {P : B → Type 0} (b : Bool) (number place : ℕ) (f : Unit {0} → Checked B) →
    (T b → Meets P (f tt)) → Meets P (require b number place >>= f)
unfolding ◌>>=◌ require
meets_require true number place f h = h tt
meets_require false number place f h = off

pub meets_given : {A B : Type 0} {P : B → Type 0} (o : Option A) (number place : ℕ) (f : A → Checked B) →
    ((a : A) → o ≡ some a → Meets P (f a)) → Meets P (given o number place >>= f)
unfolding ◌>>=◌ given
meets_given (some a) number place f h = h a refl
meets_given none number place f h = off
