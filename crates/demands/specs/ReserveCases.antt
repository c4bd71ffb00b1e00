-- The cases of a reservation, of a commit and of a withdrawal: what each found, and what it gave.
use Rattle.std.specs.Prelude.{ℕ, zero, suc, ◌≡◌, refl, ◌≢◌, cond}
use Rattle.std.proofs.Common.{arith, subst}
use mathlib.Core.List.{List, [], ◌∷◌}
use Rattle.lists.specs.Trusted.Tests.{either}
use Rattle.lists.specs.TestLaws.{reflects_eq, reflects_not, by_reflects, by_either}
use Rattle.lists.specs.Trusted.Checked.{Checked, passed, refused as unread}
use Rattle.cover.specs.Trusted.CoverTables.{Circuit}
use Rattle.part_records.specs.Trusted.Reservations.{unreserved}
use Rattle.part.specs.Trusted.Parts.{released}
use Rattle.part.specs.Trusted.Sound.{Sound}
use Rattle.part.specs.SoundLaws.{sound_reflects}
use Rattle.part.specs.Trusted.Ways.{least, reading}
use Rattle.part.specs.Trusted.Answers.{accepted, refused}
use Rattle.part.specs.Trusted.Add.{Add}
use Rattle.part.specs.Trusted.Tries.{CallResult}
use Rattle.part.specs.Trusted.Sets.{InTurn, all, next, stop, turned_away}
use Rattle.part.specs.Trusted.Reservations.{reservation_open, Reserves, reserving_sheet, Reserve, is_other, Commit, withdrawn}
use Rattle.part.proofs.ReserveLaws.{open_reflects}
use Rattle.part.specs.declared.Part.{Part}

-- ---- whether a reservation is open

-- a number that is not other than 0
zero_of : (n : ℕ) → ¬ (n ≢ 0) → n ≡ 0
zero_of zero f = refl
zero_of (suc n) f = absurd (f (λ e. omega arith))

-- a sound part of which no tables are set aside has nothing reserved
pub nothing_reserved : (p : Part) → Sound p → p.reservation.count ≡ 0 → p.reservation ≡ unreserved
nothing_reserved p h e = let n = h.reservation.both.0 e in λ i. record { count = e i; net = n i }

module _ (p : Part) (text : List ℕ) where
  pub data ReserveCase (r : CallResult) : Type 0 where
    unsound_reserve : ¬ (Sound p) → r ≡ turned_away p 20 → ReserveCase r
    open_reserve : Sound p → p.reservation.count ≢ 0 → r ≡ turned_away p 35 → ReserveCase r
    tried_reserve : Sound p → p.reservation.count ≡ 0 → Reserves least p text r.part r.answer → r ≡ reserving_sheet least text p r.part r.answer →
        ReserveCase r

  pub reserve_case : (r : CallResult) → Reserve p text r → ReserveCase r
  unfolding Reserve
  reserve_case r =
      by_either (sound_reflects p)
      (λ h. by_either (open_reflects p) (open_reserve h) (λ n g. tried_reserve h (zero_of p.reservation.count n) g.0 g.1))
      unsound_reserve

  -- the sheet that is read, if one is, is for the net that is held
  abbrev pub ForNet : Type 0
  ForNet = (s : Circuit) → reading least text ≡ passed s → s.out ≡ p.reservation.net

  pub data CommitCase (r : CallResult) : Type 0 where
    unsound_commit : ¬ (Sound p) → r ≡ turned_away p 20 → CommitCase r
    closed_commit : Sound p → p.reservation.count ≡ 0 → r ≡ turned_away p 36 → CommitCase r
    other_commit : (s : Circuit) → Sound p → p.reservation.count ≢ 0 → reading least text ≡ passed s → s.out ≢ p.reservation.net → r ≡ turned_away p 36 →
        CommitCase r
    tried_commit : Sound p → p.reservation.count ≢ 0 → ForNet → InTurn p 0 (text ∷ []) (released p) r → CommitCase r

  net_case : (r : CallResult) → Sound p → p.reservation.count ≢ 0 → (v : Checked Circuit) → reading least text ≡ v →
      either (is_other p v) (r ≡ turned_away p 36) (InTurn p 0 (text ∷ []) (released p) r) → CommitCase r
  net_case r h o (unread number place) e = λ t. tried_commit h o (λ s i. let z : ◌≡◌ {A = ℕ} 0 1 = cc in absurd (omega arith)) t
  net_case r h o (passed s) e =
      by_either (reflects_not (reflects_eq s.out p.reservation.net)) (λ n i. other_commit s h o e n i)
      (λ n t. tried_commit h o (λ u i. let same : s ≡ u = cc in subst (λ x. x.out ≡ p.reservation.net) same (equal n)) t)
    where
      equal : ¬ (s.out ≢ p.reservation.net) → s.out ≡ p.reservation.net
      equal n = by_reflects (λ b. s.out ≡ p.reservation.net) (reflects_eq s.out p.reservation.net) (λ i. i) (λ i. absurd (n i))

  pub commit_case : (r : CallResult) → Commit p text r → CommitCase r
  unfolding Commit
  commit_case r =
      by_either (sound_reflects p)
      (λ h. by_either (open_reflects p) (λ o. net_case r h o (reading least text) refl) (λ n. closed_commit h (zero_of p.reservation.count n)))
      unsound_commit

-- one sheet, on the part p: it is added, or the part o is handed back
pub record OneTurn (o p : Part) (text : List ℕ) (r : CallResult) : Type 0 where
  pub after : Part
  pub rule : Add least p text after r.answer
  pub takes : r.answer ≡ accepted → r.part ≡ after
  pub stays : (number place : ℕ) → r.answer ≡ refused number place → r.part ≡ o

pub one_turn : {o p : Part} {i : ℕ} {text : List ℕ} {r : CallResult} → InTurn o i (text ∷ []) p r → OneTurn o p text r
one_turn (next {q = q} h all) =
    record { after = q; rule = h; takes = λ e. refl; stays = λ number place e. let z : ◌≡◌ {A = ℕ} 0 1 = cc in absurd (omega arith) }
one_turn (stop {q = q} h) =
    record { after = q; rule = h; takes = λ e. let z : ◌≡◌ {A = ℕ} 0 1 = cc in absurd (omega arith); stays = λ number place e. refl }

module _ (p : Part) where
  pub data WithdrawCase (r : CallResult) : Type 0 where
    unsound_withdraw : ¬ (Sound p) → r ≡ turned_away p 20 → WithdrawCase r
    closed_withdraw : Sound p → p.reservation.count ≡ 0 → r ≡ turned_away p 36 → WithdrawCase r
    open_withdraw : Sound p → p.reservation.count ≢ 0 → r ≡ record { part = released p; answer = accepted; position = 0; tries = [] } → WithdrawCase r

  pub withdraw_case : WithdrawCase (withdrawn p)
  unfolding withdrawn
  withdraw_case =
      by_reflects (λ b. WithdrawCase (cond b (cond (reservation_open p) closing (turned_away p 36)) (turned_away p 20))) (sound_reflects p)
      (λ h. by_reflects (λ b. WithdrawCase (cond b closing (turned_away p 36))) (open_reflects p) (λ n. open_withdraw h n refl)
      (λ n. closed_withdraw h (zero_of p.reservation.count n) refl))
      (λ n. unsound_withdraw n refl)
    where
      closing : CallResult
      closing = record { part = released p; answer = accepted; position = 0; tries = [] }
