-- What the functions hand over keeps the promise: of a list, and of a call on its part.
use Rattle.std.specs.Prelude.{ℕ, ◌≡◌, ◌≢◌, Bool, true, false, List, [], ◌∷◌, Result, Ok, Err}
use Rattle.std.proofs.Common.{arith, sym, ap, subst}
use Rattle.lists.specs.TestLaws.{by_either}
use Rattle.lists.specs.Trusted.Tests.{either}
use Rattle.lists.specs.Trusted.Checked.{Checked}
use Rattle.part_records.specs.declared.Reservation.{Reservation}
use Rattle.part.specs.Trusted.Parts.{released, Shaped}
use Rattle.part.specs.Trusted.Sound.{Sound}
use Rattle.part.specs.SoundLaws.{sound_reflects}
use Rattle.part.specs.Trusted.Ways.{least, reading}
use Rattle.part.specs.Trusted.Answers.{Answer, accepted, refused}
use Rattle.part.specs.Trusted.Tries.{CallResult}
use Rattle.part.specs.Trusted.Sets.{InTurn, all, next, stop, turned_away}
use Rattle.part.specs.Trusted.Reservations.{is_other, Commit}
use Rattle.part.proofs.AddLaws.{add_case, kept, not_refused}
use Rattle.part.proofs.ReserveLaws.{open_reflects, released_sound}
use Rattle.part.specs.declared.Part.{Part}
use Rattle.list_sets.specs.Told.{ReadBeside, told_of}
use Rattle.list_sets.specs.ListSetLaws.{by_unread, by_passed, told_of_accepted}
use Rattle.list_reservations.specs.Trusted.ListReservations.{reservation_code, outcome_code, CodeAfterList}

-- ---- the list

module _ (Gives : Part → CallResult → Type 0) (reservation : Reservation) (q : Part) (read : ℕ) (c : Checked Part) (h : ReadBeside c reservation q read) where
  pub code_unread : read ≢ 0 → CodeAfterList Gives c reservation read
  code_unread d = by_unread reservation q read (λ c. CodeAfterList Gives c reservation read) c h d (λ number line e. e)

  pub code_passed : read ≡ 0 → (x : CallResult) → Gives q x → (code : ℕ) → code ≡ outcome_code x.answer x.part →
      CodeAfterList Gives c reservation code
  code_passed z x g code e = by_passed reservation q read (λ c. CodeAfterList Gives c reservation code) c h z (λ p i. (x, subst (λ q. Gives q x) i g, e))

-- ---- the call

module _ (t : Result (Unit {0}) ℕ) (a : Answer) (e : t ≡ told_of 0 a) (p : Part) where
  pub outcome_refused : (code : ℕ) → t ≡ Err code → code ≡ outcome_code a p
  outcome_refused code f = of a e
    where
      of : (a : Answer) → t ≡ told_of 0 a → code ≡ outcome_code a p
      of accepted i = let z : ◌≡◌ {A = ℕ} 0 1 = cc in absurd (omega arith)
      of (refused number place) i = cc

  pub outcome_accepted : t ≡ Ok tt → reservation_code p.reservation ≡ outcome_code a p
  outcome_accepted f = ap (λ a. outcome_code a p) (sym (told_of_accepted t 0 a e f))

-- one sheet on a sound part with its reservation closed leaves a sound part
one_turn_sound : (p : Part) → Shaped p → Sound p → {text : List ℕ} {r : CallResult} → InTurn p 0 (text ∷ []) (released p) r → Sound r.part
one_turn_sound p shape s (next g all) =
    (kept (released p) (record { records = shape.records; inputs = shape.inputs }) (add_case least _ _ _ _ g)).sound (released_sound p s)
one_turn_sound p shape s (stop g) = s

-- an accepted commit leaves a sound part, since it got one
pub commit_list_sound : (p : Part) → Shaped p → (text : List ℕ) (r : CallResult) → Commit p text r → r.answer ≡ accepted → Sound r.part
unfolding Commit
commit_list_sound p shape text r c e =
    by_either (sound_reflects p) (λ s. by_either (open_reflects p) (λ o. of s (is_other p (reading least text))) (λ n. away 36)) (λ n. away 20) c
  where
    away : (number : ℕ) → r ≡ turned_away p number → Sound r.part
    away number i = absurd (not_refused (ap (λ o. o.answer) i) e)

    of : Sound p → (b : Bool) → either b (r ≡ turned_away p 36) (InTurn p 0 (text ∷ []) (released p) r) → Sound r.part
    of s true i = away 36 i
    of s false t = one_turn_sound p shape s t
