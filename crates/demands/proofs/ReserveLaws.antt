-- DEMAND 1 of a reservation, a commit and a withdrawal: `reserve_told`, `commit_told` and `withdraw_told`; and THE GUARANTEE OF A RESERVATION,
-- `reservation_fits`.
use Rattle.std.specs.Prelude.{ℕ, ◌-◌, ◌≤◌, ◌≡◌, refl, ◌≢◌, List}
use Rattle.std.proofs.Common.{arith, sym, ap, ◌∙◌, subst}
use Rattle.lists.specs.Trusted.Checked.{passed}
use Rattle.cover.specs.Trusted.Cover.{Least}
use Rattle.cover.specs.Trusted.CoverTables.{Circuit}
use Rattle.part.specs.Trusted.Parts.{available, released, Shaped}
use Rattle.part.specs.Trusted.Sound.{Sound}
use Rattle.part.specs.Trusted.Ways.{least, reading, NumberBy}
use Rattle.part.proofs.WayLaws.{reading_below, number_unique, some_tables}
use Rattle.part.specs.Trusted.Answers.{Answer, accepted, refused}
use Rattle.part.specs.Trusted.Add.{Add}
use Rattle.part.specs.Trusted.Tries.{CallResult}
use Rattle.part.specs.Trusted.Sets.{turned_away}
use Rattle.part.specs.Trusted.Reservations.{SetAside, Reserved, Reserve, Commit, withdrawn}
use Rattle.part.proofs.AddLaws.{Kept, AddCase, unsound, misread, driven, read, full, taken, add_case, not_refused}
use Rattle.part.specs.declared.Part.{Part}
use Rattle.demands.specs.Trusted.Calls.{Call, add, add_set, reserve, commit, withdraw, Promise, Chain, done, call, final}
use Rattle.demands.specs.Trusted.Demands.{Passes, ReserveCondition, reserve_on_unsound, open_already, as_an_add, ReserveTold}
use Rattle.demands.specs.Trusted.Demands.{CommitCondition, commit_on_unsound, none_open, other_net, of_the_sheet, CommitTold}
use Rattle.demands.specs.Trusted.Demands.{WithdrawCondition, withdraw_on_unsound, nothing_open, WithdrawTold, ReservedAfter, LeavesOpen, StillOpen, Guaranteed}
use Rattle.demands.specs.ReserveCases.{ReserveCase, unsound_reserve, open_reserve, tried_reserve, reserve_case}
use Rattle.demands.specs.ReserveCases.{CommitCase, unsound_commit, closed_commit, other_commit, tried_commit, commit_case, one_turn}
use Rattle.demands.specs.ReserveCases.{WithdrawCase, unsound_withdraw, closed_withdraw, open_withdraw, withdraw_case}
use Rattle.demands.proofs.TryLaws.{same_sheet, same_number}
use Rattle.demands.proofs.CallLaws.{call_reserved, call_kept}
use Rattle.demands.proofs.CountLaws.{chain_kept}
use Rattle.demands.proofs.ConditionLaws.{moved, add_told}

-- ---- turned away before any sheet

away_answer : {p : Part} {number : ℕ} {r : CallResult} → r ≡ turned_away p number → r.answer ≡ refused number 0
away_answer e = ap (λ r. r.answer) e

away_stays : {p : Part} {number : ℕ} {r : CallResult} → r ≡ turned_away p number → r.part ≡ p
away_stays e = ap (λ r. r.part) e

-- the condition of the number that was given
given : (C : ℕ → ℕ → Type 0) {a : Answer} {m l number place : ℕ} → a ≡ refused m l → a ≡ refused number place → C m l → C number place
given C e f c = moved C c (cc) (cc)

-- ---- reserving

module _ (p : Part) (text : List ℕ) (r : CallResult) where
  reserve_found : {number place : ℕ} → ReserveCase p text r → r.answer ≡ refused number place → ReserveCondition p text number place
  reserve_found (unsound_reserve n e) a = given (ReserveCondition p text) (away_answer e) a (reserve_on_unsound n)
  reserve_found (open_reserve s n e) a = given (ReserveCondition p text) (away_answer e) a (open_already s n)
  reserve_found {number} {place} (tried_reserve s z g e) a =
      as_an_add s z number place (((add_told least p text g.0.0 r.answer g.0.1).refuses number place).0 a)

  reserve_given : {number place : ℕ} → ReserveCase p text r → ReserveCondition p text number place → r.answer ≡ refused number place
  reserve_given (unsound_reserve n e) (reserve_on_unsound m) = away_answer e
  reserve_given (unsound_reserve n e) (open_already s m) = absurd (n s)
  reserve_given (unsound_reserve n e) (as_an_add s z m l c) = absurd (n s)
  reserve_given (open_reserve s o e) (reserve_on_unsound m) = absurd (m s)
  reserve_given (open_reserve s o e) (open_already h m) = away_answer e
  reserve_given (open_reserve s o e) (as_an_add h z m l c) = absurd (o z)
  reserve_given (tried_reserve s z g e) (reserve_on_unsound m) = absurd (m s)
  reserve_given (tried_reserve s z g e) (open_already h m) = absurd (m z)
  reserve_given (tried_reserve s z g e) (as_an_add h y m l c) = ((add_told least p text g.0.0 r.answer g.0.1).refuses m l).1 c

  abbrev Fits : Type 0
  Fits = (s : Circuit) × (n : ℕ) × Passes least p text s × NumberBy least p s n × (n ≤ available p)

  reserve_fits : ReserveCase p text r → r.answer ≡ accepted → (p.reservation.count ≡ 0) × Fits
  reserve_fits (unsound_reserve n e) a = absurd (not_refused (away_answer e) a)
  reserve_fits (open_reserve s n e) a = absurd (not_refused (away_answer e) a)
  reserve_fits (tried_reserve s z g e) a = (z, (add_told least p text g.0.0 r.answer g.0.1).accepts.0 a)

  fits_reserve : ReserveCase p text r → p.reservation.count ≡ 0 → Fits → r.answer ≡ accepted
  fits_reserve (unsound_reserve n e) z f = absurd (n f.2.sound)
  fits_reserve (open_reserve s n e) z f = absurd (n z)
  fits_reserve (tried_reserve s o g e) z f = (add_told least p text g.0.0 r.answer g.0.1).accepts.1 f

  reserve_aside : ReserveCase p text r → r.answer ≡ accepted → SetAside least p text r.part
  reserve_aside (unsound_reserve n e) a = absurd (not_refused (away_answer e) a)
  reserve_aside (open_reserve s n e) a = absurd (not_refused (away_answer e) a)
  reserve_aside (tried_reserve s o g e) a = subst (λ x. Reserved least p text x r.part) a g.1

  reserve_stays : ReserveCase p text r → (number place : ℕ) → r.answer ≡ refused number place → r.part ≡ p
  reserve_stays (unsound_reserve n e) number place a = away_stays e
  reserve_stays (open_reserve s n e) number place a = away_stays e
  reserve_stays (tried_reserve s o g e) number place a = subst (λ x. Reserved least p text x r.part) a g.1

  pub reserve_told : Reserve p text r → ReserveTold p text r
  reserve_told h =
      let c = reserve_case p text r h in
      record {
        refuses = λ m l. (reserve_found c, reserve_given c);
        accepts = (reserve_fits c, λ f. fits_reserve c f.0 f.1);
        aside = reserve_aside c;
        stays = reserve_stays c;
      }

-- ---- committing

module _ (p : Part) (text : List ℕ) (r : CallResult) where
  commit_found : {number place : ℕ} → CommitCase p text r → r.answer ≡ refused number place → CommitCondition p text number place
  commit_found (unsound_commit n e) a = given (CommitCondition p text) (away_answer e) a (commit_on_unsound n)
  commit_found (closed_commit s z e) a = given (CommitCondition p text) (away_answer e) a (none_open s z)
  commit_found (other_commit u s o i d e) a = given (CommitCondition p text) (away_answer e) a (other_net u s o i d)
  commit_found {number} {place} (tried_commit s o f t) a =
      let x = one_turn t in
      of_the_sheet s o f number place (((add_told least (released p) text x.after r.answer x.rule).refuses number place).0 a)

  commit_given : {number place : ℕ} → CommitCase p text r → CommitCondition p text number place → r.answer ≡ refused number place
  commit_given (unsound_commit n e) (commit_on_unsound m) = away_answer e
  commit_given (unsound_commit n e) (none_open s z) = absurd (n s)
  commit_given (unsound_commit n e) (other_net u s o i d) = absurd (n s)
  commit_given (unsound_commit n e) (of_the_sheet s o f m l c) = absurd (n s)
  commit_given (closed_commit s z e) (commit_on_unsound m) = absurd (m s)
  commit_given (closed_commit s z e) (none_open h y) = away_answer e
  commit_given (closed_commit s z e) (other_net u h o i d) = absurd (o z)
  commit_given (closed_commit s z e) (of_the_sheet h o f m l c) = absurd (o z)
  commit_given (other_commit u s o i d e) (commit_on_unsound m) = absurd (m s)
  commit_given (other_commit u s o i d e) (none_open h z) = absurd (o z)
  commit_given (other_commit u s o i d e) (other_net v h n j k) = away_answer e
  commit_given (other_commit u s o i d e) (of_the_sheet h n f m l c) = absurd (d (f u i))
  commit_given (tried_commit s o f t) (commit_on_unsound m) = absurd (m s)
  commit_given (tried_commit s o f t) (none_open h z) = absurd (o z)
  commit_given (tried_commit s o f t) (other_net v h n j k) = absurd (k (f v j))
  commit_given (tried_commit s o f t) (of_the_sheet h n g m l c) =
      let x = one_turn t in
      ((add_told least (released p) text x.after r.answer x.rule).refuses m l).1 c

  abbrev Holds : Type 0
  Holds = (s : Circuit) × (n : ℕ) × Passes least (released p) text s × (s.out ≡ p.reservation.net) × NumberBy least p s n × (n ≤ p.capacity - p.used)

  commit_fits : CommitCase p text r → r.answer ≡ accepted → Sound p × (p.reservation.count ≢ 0) × Holds
  commit_fits (unsound_commit n e) a = absurd (not_refused (away_answer e) a)
  commit_fits (closed_commit s z e) a = absurd (not_refused (away_answer e) a)
  commit_fits (other_commit u s o i d e) a = absurd (not_refused (away_answer e) a)
  commit_fits (tried_commit s o f t) a =
      let x = one_turn t in
      let (u, n, g, l, m) = (add_told least (released p) text x.after r.answer x.rule).accepts.0 a in
      (s, o, (u, n, g, f u g.read, l, omega (arith, m)))

  fits_commit : CommitCase p text r → Sound p → p.reservation.count ≢ 0 → Holds → r.answer ≡ accepted
  fits_commit (unsound_commit n e) s o h = absurd (n s)
  fits_commit (closed_commit s z e) g o h = absurd (o z)
  fits_commit (other_commit u s n i d e) g o h = absurd (d (subst (λ x. x.out ≡ p.reservation.net) (same_sheet h.2.read i) h.3))
  fits_commit (tried_commit s n f t) g o h =
      let x = one_turn t in
      (add_told least (released p) text x.after r.answer x.rule).accepts.1 (h.0, h.1, h.2, h.4, omega (arith, h.5))

  commit_adds : CommitCase p text r → r.answer ≡ accepted → Add least (released p) text r.part accepted
  commit_adds (unsound_commit n e) a = absurd (not_refused (away_answer e) a)
  commit_adds (closed_commit s z e) a = absurd (not_refused (away_answer e) a)
  commit_adds (other_commit u s o i d e) a = absurd (not_refused (away_answer e) a)
  commit_adds (tried_commit s o f t) a =
      let x = one_turn t in
      subst (λ q. Add least (released p) text q accepted) (sym (x.takes a)) (subst (Add least (released p) text x.after) a x.rule)

  commit_stays : CommitCase p text r → (number place : ℕ) → r.answer ≡ refused number place → r.part ≡ p
  commit_stays (unsound_commit n e) number place a = away_stays e
  commit_stays (closed_commit s z e) number place a = away_stays e
  commit_stays (other_commit u s o i d e) number place a = away_stays e
  commit_stays (tried_commit s o f t) number place a = (one_turn t).stays number place a

  pub commit_told : Commit p text r → CommitTold p text r
  commit_told h =
      let c = commit_case p text r h in
      record {
        refuses = λ m l. (commit_found c, commit_given c);
        accepts = (commit_fits c, λ f. fits_commit c f.0 f.1 f.2);
        adds = commit_adds c;
        stays = commit_stays c;
      }

-- ---- withdrawing

module _ (p : Part) where
  no_withdraw_condition : {number place : ℕ} → Sound p → p.reservation.count ≢ 0 → WithdrawCondition p number place → ⊥
  no_withdraw_condition s o (withdraw_on_unsound n) = n s
  no_withdraw_condition s o (nothing_open h z) = o z

  unsound_condition : {number place : ℕ} → ¬ (Sound p) → WithdrawCondition p number place → refused 20 0 ≡ refused number place
  unsound_condition n (withdraw_on_unsound m) = refl
  unsound_condition n (nothing_open h z) = absurd (n h)

  closed_condition : {number place : ℕ} → Sound p → WithdrawCondition p number place → refused 36 0 ≡ refused number place
  closed_condition s (withdraw_on_unsound m) = absurd (m s)
  closed_condition s (nothing_open h z) = refl

  told : (r : CallResult) → WithdrawCase p r → WithdrawTold p r
  told r (unsound_withdraw n e) = record {
    refuses = λ m l. (λ a. given (WithdrawCondition p) (away_answer e) a (withdraw_on_unsound n), λ c. away_answer e ∙ unsound_condition n c);
    accepts = (λ a. absurd (not_refused (away_answer e) a), λ f. absurd (n f.0));
    closes = λ a. absurd (not_refused (away_answer e) a);
    stays = λ m l a. away_stays e;
  }
  told r (closed_withdraw s z e) = record {
    refuses = λ m l. (λ a. given (WithdrawCondition p) (away_answer e) a (nothing_open s z), λ c. away_answer e ∙ closed_condition s c);
    accepts = (λ a. absurd (not_refused (away_answer e) a), λ f. absurd (f.1 z));
    closes = λ a. absurd (not_refused (away_answer e) a);
    stays = λ m l a. away_stays e;
  }
  told r (open_withdraw s o e) = record {
    refuses = λ m l. (λ a. absurd (not_refused a (ap (λ r. r.answer) e)), λ c. absurd (no_withdraw_condition s o c));
    accepts = (λ a. (s, o), λ f. ap (λ r. r.answer) e);
    closes = λ a. ap (λ r. r.part) e;
    stays = λ m l a. absurd (not_refused a (ap (λ r. r.answer) e));
  }

  pub withdraw_told : WithdrawTold p (withdrawn p)
  withdraw_told = told (withdrawn p) (withdraw_case p)

-- ---- the guarantee

-- a call that does not close the reservation that is open leaves it as it is
leaves_reserved : (o : Part) → o.reservation.count ≢ 0 → (c : Call) (r : CallResult) → Promise o c r → LeavesOpen c r → r.part.reservation ≡ o.reservation
leaves_reserved o n c r h l = of r.answer refl (call_reserved o c r h)
  where
    accepted_by_lem : (c : Call) → LeavesOpen c r → r.answer ≡ accepted → ReservedAfter c accepted o.reservation r.part.reservation →
        r.part.reservation ≡ o.reservation
    accepted_by_lem (add w text) l e x = x
    accepted_by_lem (add_set lengths text) l e x = x
    accepted_by_lem (reserve text) l e x = absurd (n (ap (λ y. y.count) x))
    accepted_by_lem (commit text) l e x = absurd (l e)
    accepted_by_lem withdraw l e x = absurd (l e)

    of : (a : Answer) → r.answer ≡ a → ReservedAfter c r.answer o.reservation r.part.reservation → r.part.reservation ≡ o.reservation
    of accepted e x = accepted_by_lem c l e (subst (λ a. ReservedAfter c a o.reservation r.part.reservation) e x)
    of (refused number place) e x = subst (λ a. ReservedAfter c a o.reservation r.part.reservation) e x

stays_reserved : {p : Part} {cs : List Call} {rs : List CallResult} → Chain p cs rs → p.reservation.count ≢ 0 → StillOpen cs rs →
    (final p rs).reservation ≡ p.reservation
stays_reserved done n s = refl
stays_reserved {p} (call {c = c} {r = r} h t) n s =
    let e = leaves_reserved p n c r h s.0 in
    stays_reserved t (λ z. n (sym (ap (λ x. x.count) e) ∙ z)) s.1 ∙ e

-- an add of the same sheet is not refused for want of tables where its number of tables is left
never_full : (p : Part) (text : List ℕ) (q : Part) (place : ℕ) (s : Circuit) (n : ℕ) → reading least text ≡ passed s → NumberBy least p s n → n ≤ available p →
    Add least p text q (refused 23 place) → ⊥
never_full p text q place s n i l m h = of (add_case least p text q (refused 23 place) h)
  where
    of : AddCase least p text q (refused 23 place) → ⊥
    of (unsound k r) = omega (arith, same_number r.1 refl)
    of (misread number line g e r) = omega (arith, same_number r.1 refl, reading_below least text number line e)
    of (driven u g e d r) = omega (arith, same_number r.1 refl)
    of (read u g e d j r) = omega (arith, same_number r.1 refl)
    of (full u k g e f x y r) = omega (arith, m, y, number_unique least p s l (subst (λ v. NumberBy least p v k) (same_sheet e i) x))
    of (taken u g e f t room) = not_refused refl t.answer

-- WHERE EACH STATE FROM THE RESERVATION ON WAS PASSED ON UNTOUCHED AND IT IS STILL OPEN, the same sheet is never refused 23 at commit
pub reservation_fits : (p : Part) → Shaped p → (text : List ℕ) → Guaranteed p text
reservation_fits p shape text h promise a cs rs chain still r committed place e = of (commit_case last text r committed)
  where
    last : Part
    last = final h.part rs

    x : SetAside least p text h.part
    x = (reserve_told p text h promise).aside a

    found : (p.reservation.count ≡ 0) × Fits p text h
    found = (reserve_told p text h promise).accepts.0 a

    first : Kept p h.part
    first = call_kept p shape (reserve text) h promise

    kept : Kept h.part last
    kept = chain_kept chain first.shaped

    sound : Sound last
    sound = kept.sound (first.sound found.1.2.sound)

    count : h.part.reservation.count ≡ x.count
    count = ap (λ q. q.reservation.count) x.part

    same : last.reservation.count ≡ x.count
    same = ap (λ y. y.count) (stays_reserved chain (λ z. omega (arith, some_tables least p x.sheet x.count x.number, count, z)) still) ∙ count

    number : NumberBy least (released last) x.sheet x.count
    number = subst (λ k. Least k x.sheet.tree x.count) (sym (kept.same_k ∙ first.same_k)) x.number

    of : CommitCase last text r → ⊥
    of (unsound_commit n i) = omega (arith, same_number (away_answer i) e)
    of (closed_commit s z i) = omega (arith, same_number (away_answer i) e)
    of (other_commit u s o i d j) = omega (arith, same_number (away_answer j) e)
    of (tried_commit s o f t) =
        let y = one_turn t in
        never_full (released last) text y.after place x.sheet x.count x.read number (omega (arith, same, sound.reservation.fits))
        (subst (Add least (released last) text y.after) e y.rule)
