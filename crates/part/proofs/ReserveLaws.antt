-- Reserving, committing and withdrawing: what the functions hand over keeps the promise.
use Rattle.std.specs.Prelude.{ℕ, ◌+◌, ◌-◌, ◌≤◌, ◌≡◌, ◌≢◌, true, false, List, [], ◌∷◌, length}
use Rattle.std.proofs.Common.{arith, sym, ap, subst, ne_eqb}
use Rattle.std.proofs.Math.Path.{refl}
use Rattle.std.proofs.Math.Bool.{not}
use Rattle.lists.specs.Trusted.Tests.{Reflects}
use Rattle.lists.specs.TestLaws.{reflects_eq, reflects_not, reflects_true}
use Rattle.lists.specs.Trusted.Checked.{passed, refused as unread, ◌>>=◌}
use Rattle.cover.specs.Trusted.CoverTables.{Circuit}
use Rattle.sheet.specs.Trusted.Sheet.{DrawnSheet}
use Rattle.sheet.specs.Trusted.Read.{read_sheet}
use Rattle.joined.specs.Trusted.Covered.{covered}
use Rattle.part_records.specs.ReservationLaws.{none_reservable}
use Rattle.part.specs.Trusted.Parts.{with_reservation, released}
use Rattle.part.specs.Trusted.Sound.{Sound}
use Rattle.part.specs.Trusted.SoundTest.{sound}
use Rattle.part.specs.Trusted.Reading.{read_of}
use Rattle.part.specs.Trusted.Ways.{least, NumberBy}
use Rattle.part.proofs.WayLaws.{chosen_number}
use Rattle.part.specs.Trusted.Answers.{Answer, accepted, refused}
use Rattle.part.specs.Trusted.Add.{Offer, Add}
use Rattle.part.specs.Trusted.Tries.{CallResult}
use Rattle.part.specs.Trusted.Sets.{member, all, next, stop, turned_away}
use Rattle.part.specs.Trusted.Reservations.{reservation_open, Reserves, reserving_sheet, Reserve, is_other, Committed, Commit, withdrawn}
use Rattle.part.proofs.AddLaws.{AddCase, unsound, misread, driven, read, full, taken, add_case, not_refused}
use Rattle.part.proofs.StoringLaws.{add_misread, add_offered}
use Rattle.part.specs.declared.Part.{Part}

-- ---- whether a reservation is open

pub open_reflects : (p : Part) → Reflects (reservation_open p) (p.reservation.count ≢ 0)
open_reflects p = reflects_not (reflects_eq p.reservation.count 0)

-- ---- a part with its reservation closed

pub released_sound : (p : Part) → Sound p → Sound (released p)
released_sound p h = record {
  k_range = h.k_range;
  capacity_range = h.capacity_range;
  used_fits = h.used_fits;
  rest_blank = h.rest_blank;
  rules = h.rules;
  reservation = none_reservable (p.capacity - p.used);
}

-- ---- an add that was accepted, of the sheet s: the used count grew by the sheet's number

pub grown_number : (p : Part) (text : List ℕ) (q : Part) → Add least p text q accepted → (s : Circuit) → read_of text ≡ passed s →
    (p.used ≤ q.used) × NumberBy least p s (q.used - p.used)
grown_number p text q h s e = of (add_case least p text q accepted h)
  where
    of : AddCase least p text q accepted → (p.used ≤ q.used) × NumberBy least p s (q.used - p.used)
    of (unsound n r) = absurd (not_refused r.1 refl)
    of (misread number place g i r) = absurd (not_refused r.1 refl)
    of (driven u g i d r) = absurd (not_refused r.1 refl)
    of (read u g i d j r) = absurd (not_refused r.1 refl)
    of (full u n g i f l m r) = absurd (not_refused r.1 refl)
    of (taken u g i f t room) =
        let grown : q.used ≡ p.used + length t.new = ap (λ q. q.used) t.part in
        let less : q.used - p.used ≡ length t.new = omega arith in
        let same : u ≡ s = cc in
        (omega arith, subst (λ v. NumberBy least p v (q.used - p.used)) same (subst (NumberBy least p u) (sym less) (chosen_number least p u t.new t.chosen)))

-- ---- reserving

pub covered_read : (text : List ℕ) (d : DrawnSheet) → read_sheet text ≡ passed d → read_of text ≡ passed (covered d)
unfolding read_of ◌>>=◌
covered_read text d e = rw e refl

module _ (p : Part) (text : List ℕ) where
  pub aside_refused : (q : Part) (number place : ℕ) → Add least p text q (refused number place) → Reserves least p text p (refused number place)
  aside_refused q number place h = ((q, h), refl)

  pub aside_accepted : (q : Part) → Add least p text q accepted → (s : Circuit) → read_of text ≡ passed s →
      Reserves least p text (with_reservation p (record { count = q.used - p.used; net = s.out })) accepted
  aside_accepted q h s e =
      ((q, h), record { sheet = s; read = e; count = q.used - p.used; number = (grown_number p text q h s e).1; part = refl })

  pub reserve_unsound : sound p ≡ false → Reserve p text (turned_away p 20)
  unfolding Reserve
  reserve_unsound e = rw e refl

  module _ (h : sound p ≡ true) where
    pub reserve_open : reservation_open p ≡ true → Reserve p text (turned_away p 35)
    unfolding Reserve
    reserve_open e = rw h (rw e refl)

    pub reserve_tried : reservation_open p ≡ false → (q : Part) (a : Answer) → Reserves least p text q a → Reserve p text (reserving_sheet least text p q a)
    unfolding Reserve
    reserve_tried e q a g = rw h (rw e (g, refl))

-- ---- committing

module _ (p : Part) (text : List ℕ) where
  pub commit_unsound : sound p ≡ false → Commit p text (turned_away p 20)
  unfolding Commit
  commit_unsound e = rw e refl

  module _ (h : sound p ≡ true) where
    pub commit_closed : reservation_open p ≡ false → Commit p text (turned_away p 36)
    unfolding Commit
    commit_closed e = rw h (rw e refl)

    pub commit_tried : reservation_open p ≡ true → (r : CallResult) → Committed p text r → Commit p text r
    unfolding Commit
    commit_tried e r c = rw h (rw e c)

  -- the result of one sheet on the part with its reservation closed
  abbrev pub commit_sheet : Part → Part → Answer → CallResult
  commit_sheet o q a = record { part = o; answer = a; position = 0; tries = member text (released p) q a ∷ [] }

  module _ (h : Sound p) where
    pub commit_misread : (number line : ℕ) → read_sheet text ≡ unread number line → Committed p text (commit_sheet p (released p) (refused number line))
    unfolding read_of ◌>>=◌
    commit_misread number line e = rw e (stop (add_misread least (released p) text (released_sound p h) number line e))

    module _ (d : DrawnSheet) (e : read_sheet text ≡ passed d) where
      pub commit_other : d.out ≢ p.reservation.net → Committed p text (turned_away p 36)
      unfolding read_of ◌>>=◌
      commit_other n = rw e (rw (ne_eqb d.out p.reservation.net n) refl)

      module _ (n : d.out ≡ p.reservation.net) where
        same_net : is_other p (read_of text) ≡ false
        unfolding read_of ◌>>=◌
        same_net = rw e (ap not (reflects_true (reflects_eq d.out p.reservation.net) n))

        pub commit_refused : (q : Part) (number place : ℕ) → Offer least (released p) (covered d) q (refused number place) →
            Committed p text (commit_sheet p q (refused number place))
        commit_refused q number place o = rw same_net (stop (add_offered least (released p) text (released_sound p h) d e q (refused number place) o))

        pub commit_accepted : (q : Part) → Offer least (released p) (covered d) q accepted → Committed p text (commit_sheet q q accepted)
        commit_accepted q o = rw same_net (next (add_offered least (released p) text (released_sound p h) d e q accepted o) all)

-- ---- withdrawing

module _ (p : Part) where
  pub withdraw_unsound : sound p ≡ false → turned_away p 20 ≡ withdrawn p
  unfolding withdrawn
  withdraw_unsound e = rw e

  module _ (h : sound p ≡ true) where
    pub withdraw_closed : reservation_open p ≡ false → turned_away p 36 ≡ withdrawn p
    unfolding withdrawn
    withdraw_closed e = rw (h, e)

    pub withdraw_open : reservation_open p ≡ true → record { part = released p; answer = accepted; position = 0; tries = [] } ≡ withdrawn p
    unfolding withdrawn
    withdraw_open e = rw (h, e)
