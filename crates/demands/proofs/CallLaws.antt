-- What a call promises, as its tries: each is an add, and which sheets are tried; and what the call leaves as it was.
-- A further kind of call has its clause of `call_tries` and `call_tried` here, and all else of a list of calls goes by these.
use Rattle.std.specs.Prelude.{ℕ, ◌≡◌, refl, ◌⊎◌, List, [], ◌∷◌, ◌++◌, map}
use Rattle.std.proofs.Common.{arith, sym, ap, ◌∙◌, subst, inl, inr, ⊎_elim, append-nil}
use Rattle.lists.specs.Trusted.Lists.{Every}
use Rattle.lists.specs.ListLaws.{every_none, every_cons, every_head, every_tail}
use Rattle.part.specs.Trusted.Parts.{tables_of, Shaped}
use Rattle.part.specs.Trusted.Sound.{Sound}
use Rattle.part.specs.Trusted.Ways.{Way, least}
use Rattle.part.specs.Trusted.Answers.{Answer, accepted, refused}
use Rattle.part_records.specs.Trusted.Reservations.{unreserved}
use Rattle.part.specs.Trusted.Tries.{Purpose, adding, Try, CallResult}
use Rattle.part.specs.Trusted.Sets.{member, InTurn, all, next, stop, turned_away}
use Rattle.part.specs.Trusted.Reservations.{Reserved, Reserves, reserving_try, reserving_sheet, withdrawn}
use Rattle.part.proofs.AddLaws.{Kept, AddCase, unsound, misread, driven, read, full, taken, add_case, same_kept, kept_trans, not_refused}
use Rattle.part.proofs.ReserveLaws.{released_sound}
use Rattle.part.proofs.SetLaws.{SetCase, unsound_part, unfit, in_turn, set_case}
use Rattle.part.specs.declared.Part.{Part}
use Rattle.demands.specs.KeptLaws.{add_reserved, refused_stays, aside_kept}
use Rattle.demands.specs.Trusted.Calls.{Call, add, add_set, reserve, commit, withdraw, stands_upon, one_sheet, Promise, Chain, done, call, sheet_entries, if_accepted, accepted_by}
use Rattle.demands.specs.Trusted.Demands.{tried_of, OnEachOther, no_try, next_try, TriedSheets, before_any, every, up_to, sets_aside, ReservedAfter}
use Rattle.demands.specs.ReserveCases.{nothing_reserved, ReserveCase, unsound_reserve, open_reserve, tried_reserve, reserve_case}
use Rattle.demands.specs.ReserveCases.{CommitCase, unsound_commit, closed_commit, other_commit, tried_commit, commit_case}
use Rattle.demands.specs.ReserveCases.{WithdrawCase, unsound_withdraw, closed_withdraw, open_withdraw, withdraw_case}
use Rattle.demands.proofs.TryLaws.{Adds, Trying, CountGrown, none_grown, line_kept, line_grown}

-- ---- adding a set

turn_tries : {o p : Part} {i : ℕ} {sheets : List (List ℕ)} {r : CallResult} → InTurn o i sheets p r → Every Adds r.tries
turn_tries all = every_none _
turn_tries (next a t) = every_cons a (turn_tries t)
turn_tries (stop a) = every_cons a (every_none _)

turn_trying : {o p : Part} {i : ℕ} {sheets : List (List ℕ)} {r : CallResult} → InTurn o i sheets p r → Every Trying r.tries
turn_trying all = every_none _
turn_trying (next a t) = every_cons a (turn_trying t)
turn_trying (stop a) = every_cons a (every_none _)

-- an accepted set leaves what is reserved
turn_reserved : {o p : Part} {i : ℕ} {sheets : List (List ℕ)} {r : CallResult} → InTurn o i sheets p r → r.answer ≡ accepted → r.part.reservation ≡ p.reservation
turn_reserved all e = refl
turn_reserved (next a t) e = turn_reserved t e ∙ add_reserved (add_case least _ _ _ _ a)
turn_reserved (stop a) e = absurd (not_refused refl e)

-- the sheets of a set, by their texts
abbrev set_sheets : List (List ℕ) → List (Purpose × Way × List ℕ)
set_sheets = map (λ t. (adding, least, t))

-- how it ends: every sheet is taken, or one is refused
record Broken (o p : Part) (sheets : List (List ℕ)) (r : CallResult) : Type 0 where
  ahead : List Try
  last : Try
  rest : List (Purpose × Way × List ℕ)
  number : ℕ
  place : ℕ
  tries : r.tries ≡ ahead ++ last ∷ []
  tried : set_sheets sheets ≡ map tried_of r.tries ++ rest
  stand : OnEachOther p ahead last.before
  refuses : last.answer ≡ refused number place
  answer : r.answer ≡ last.answer
  stays : r.part ≡ o

record All (p : Part) (sheets : List (List ℕ)) (r : CallResult) : Type 0 where
  tried : map tried_of r.tries ≡ set_sheets sheets
  stand : OnEachOther p r.tries r.part
  answer : r.answer ≡ accepted

turn_ends : {o p : Part} {i : ℕ} {sheets : List (List ℕ)} {r : CallResult} → InTurn o i sheets p r → All p sheets r ⊎ Broken o p sheets r
turn_ends all = inl (record { tried = refl; stand = no_try; answer = refl })
turn_ends (next {text = text} {p = p} {q = q} a t) =
    ⊎_elim (λ x. inl (record { tried = ap (◌∷◌ (adding, least, text)) x.tried; stand = next_try {t = member text p q accepted} refl refl x.stand; answer = x.answer }))
    (λ x. inr (record {
      ahead = member text p q accepted ∷ x.ahead;
      last = x.last;
      rest = x.rest;
      number = x.number;
      place = x.place;
      tries = ap (◌∷◌ (member text p q accepted)) x.tries;
      tried = ap (◌∷◌ (adding, least, text)) x.tried;
      stand = next_try {t = member text p q accepted} refl refl x.stand;
      refuses = x.refuses;
      answer = x.answer;
      stays = x.stays;
    }))
    (turn_ends t)
turn_ends (stop {text = text} {texts = rest} {p = p} {q = q} {number = n} {place = l} a) =
    inr (record {
      ahead = [];
      last = member text p q (refused n l);
      rest = set_sheets rest;
      number = n;
      place = l;
      tries = refl;
      tried = refl;
      stand = no_try;
      refuses = refl;
      answer = refl;
      stays = refl;
    })

pub set_tries : (o : Part) (lengths text : List ℕ) (r : CallResult) → SetCase o lengths text r → Every Adds r.tries
set_tries o lengths text r (unsound_part n e) = subst (Every Adds) (sym (ap (λ r. r.tries) e)) (every_none _)
set_tries o lengths text r (unfit s n e) = subst (Every Adds) (sym (ap (λ r. r.tries) e)) (every_none _)
set_tries o lengths text r (in_turn s f t) = turn_tries t

-- ---- every kind of call

none_tried : {o : Part} {number : ℕ} {r : CallResult} → r ≡ turned_away o number → Every Trying r.tries
none_tried e = subst (Every Trying) (sym (ap (λ r. r.tries) e)) (every_none _)

-- EACH TRY is an add on the part that it stands on, or a reservation
pub call_tries : (o : Part) (c : Call) (r : CallResult) → Promise o c r → Every Trying r.tries
call_tries o (add w text) r h = subst (Every Trying) (sym (ap (λ r. r.tries) h.1)) (every_cons h.0 (every_none _))
call_tries o (add_set lengths text) r h = of (set_case o lengths text r h)
  where
    of : SetCase o lengths text r → Every Trying r.tries
    of (unsound_part n e) = none_tried e
    of (unfit s n e) = none_tried e
    of (in_turn s f t) = turn_trying t
call_tries o (reserve text) r h = of (reserve_case o text r h)
  where
    of : ReserveCase o text r → Every Trying r.tries
    of (unsound_reserve n e) = none_tried e
    of (open_reserve s n e) = none_tried e
    of (tried_reserve s n g e) = subst (Every Trying) (sym (ap (λ r. r.tries) e)) (every_cons g (every_none _))
call_tries o (commit text) r h = of (commit_case o text r h)
  where
    of : CommitCase o text r → Every Trying r.tries
    of (unsound_commit n e) = none_tried e
    of (closed_commit s n e) = none_tried e
    of (other_commit u s n i d e) = none_tried e
    of (tried_commit s n f t) = turn_trying t
call_tries o withdraw r h = of (withdraw_case o)
  where
    of : WithdrawCase o (withdrawn o) → Every Trying r.tries
    of (unsound_withdraw n e) = none_tried (h ∙ e)
    of (closed_withdraw s n e) = none_tried (h ∙ e)
    of (open_withdraw s n e) = subst (Every Trying) (sym (ap (λ r. r.tries) (h ∙ e))) (every_none _)

single_tried : (o : Part) (w : Way) (text : List ℕ) (r : CallResult) → Promise o (add w text) r → TriedSheets o (add w text) r
single_tried o w text r h = of r.answer refl
  where
    t : Try
    t = record { purpose = adding; way = w; text = text; before = o; after = r.part; answer = r.answer }

    tries : r.tries ≡ t ∷ []
    tries = ap (λ r. r.tries) h.1

    of : (a : Answer) → r.answer ≡ a → TriedSheets o (add w text) r
    of accepted e = every (ap (map tried_of) tries) (subst (λ ts. OnEachOther o ts r.part) (sym tries) (next_try {t = t} refl e no_try)) e
    of (refused number place) e =
        up_to [] t [] number place tries (sym (ap (map tried_of) tries) ∙ sym (append-nil (map tried_of r.tries))) no_try e refl (refused_stays w o text r.part r.answer number place h.0 e)

set_tried : (o : Part) (lengths text : List ℕ) (r : CallResult) → SetCase o lengths text r → TriedSheets o (add_set lengths text) r
set_tried o lengths text r (unsound_part n e) = before_any 20 (λ z. omega arith) e
set_tried o lengths text r (unfit s n e) = before_any 33 (λ z. omega arith) e
set_tried o lengths text r (in_turn s f t) =
    ⊎_elim (λ x. every x.tried x.stand x.answer)
    (λ x. up_to x.ahead x.last x.rest x.number x.place x.tries x.tried x.stand x.refuses x.answer x.stays)
    (turn_ends t)

reserve_tries : (o : Part) (text : List ℕ) (r : CallResult) → ReserveCase o text r → TriedSheets o (reserve text) r
reserve_tries o text r (unsound_reserve n e) = before_any 20 (λ z. omega arith) e
reserve_tries o text r (open_reserve s n e) = before_any 35 (λ z. omega arith) e
reserve_tries o text r (tried_reserve s n g e) = of r.answer refl g.1
  where
    t : Try
    t = reserving_try least text o r.part r.answer

    tries : r.tries ≡ t ∷ []
    tries = ap (λ r. r.tries) e

    of : (a : Answer) → r.answer ≡ a → Reserved least o text a r.part → TriedSheets o (reserve text) r
    of accepted i x = sets_aside text refl (e ∙ ap (reserving_sheet least text o r.part) i)
    of (refused number place) i x = up_to [] t [] number place tries (sym (ap (map tried_of) tries) ∙ sym (append-nil (map tried_of r.tries))) no_try i refl x

commit_tries : (o : Part) (text : List ℕ) (r : CallResult) → CommitCase o text r → TriedSheets o (commit text) r
commit_tries o text r (unsound_commit n e) = before_any 20 (λ z. omega arith) e
commit_tries o text r (closed_commit s n e) = before_any 36 (λ z. omega arith) e
commit_tries o text r (other_commit u s n i d e) = before_any 36 (λ z. omega arith) e
commit_tries o text r (tried_commit s n f t) =
    ⊎_elim (λ x. every x.tried x.stand x.answer)
    (λ x. up_to x.ahead x.last x.rest x.number x.place x.tries x.tried x.stand x.refuses x.answer x.stays)
    (turn_ends t)

withdraw_tries : (o : Part) (r : CallResult) → WithdrawCase o r → TriedSheets o withdraw r
withdraw_tries o r (unsound_withdraw n e) = before_any 20 (λ z. omega arith) e
withdraw_tries o r (closed_withdraw s n e) = before_any 36 (λ z. omega arith) e
withdraw_tries o r (open_withdraw s n e) = subst (TriedSheets o withdraw) (sym e) (every refl no_try refl)

-- WHICH SHEETS ARE TRIED
pub call_tried : (o : Part) (c : Call) (r : CallResult) → Promise o c r → TriedSheets o c r
call_tried o (add w text) r h = single_tried o w text r h
call_tried o (add_set lengths text) r h = set_tried o lengths text r (set_case o lengths text r h)
call_tried o (reserve text) r h = reserve_tries o text r (reserve_case o text r h)
call_tried o (commit text) r h = commit_tries o text r (commit_case o text r h)
call_tried o withdraw r h = withdraw_tries o r (subst (WithdrawCase o) (sym h) (withdraw_case o))

-- ---- what follows for each

-- each sheet stands on what those ahead of it left; only the last may be refused
pub data InLine : Part → List Try → Type 0 where
  nothing : {p : Part} → InLine p []
  last : {t : Try} → InLine t.before (t ∷ [])
  then : {t : Try} {ts : List Try} → t.purpose ≡ adding → t.answer ≡ accepted → InLine t.after ts → InLine t.before (t ∷ ts)

all_line : {p q : Part} {ts : List Try} → OnEachOther p ts q → InLine p ts
all_line no_try = nothing
all_line (next_try u e l) = then u e (all_line l)

last_line : {p : Part} {ts : List Try} (t : Try) → OnEachOther p ts t.before → InLine p (ts ++ t ∷ [])
last_line t h = of h refl
  where
    of : {p q : Part} {ts : List Try} → OnEachOther p ts q → q ≡ t.before → InLine p (ts ++ t ∷ [])
    of no_try e = subst (λ p. InLine p (t ∷ [])) (sym e) last
    of (next_try u i l) e = then u i (of l e)

tried_line : (o : Part) (c : Call) (r : CallResult) → TriedSheets o c r → InLine (stands_upon c o) r.tries
tried_line o c r (before_any n f e) = subst (InLine (stands_upon c o)) (sym (ap (λ r. r.tries) e)) nothing
tried_line o c r (every e l a) = all_line l
tried_line o c r (up_to ahead t rest number place e s l i j k) = subst (InLine (stands_upon c o)) (sym e) (last_line t l)
tried_line o c r (sets_aside text i e) =
    subst (λ d. InLine (stands_upon d o) r.tries) (sym i)
    (subst (InLine o) (sym (ap (λ r. r.tries) e)) (last {t = reserving_try least text o r.part accepted}))

not_none : {A : Type 0} (y : A) (xs ys : List A) → [] ≡ xs ++ y ∷ ys → ⊥
not_none y [] ys e = let i : ◌≡◌ {A = ℕ} 0 1 = cc in omega arith
not_none y (z ∷ xs) ys e = let i : ◌≡◌ {A = ℕ} 0 1 = cc in omega arith

ahead_of : {p : Part} {ts : List Try} → InLine p ts → (ahead : List Try) (t : Try) (rest : List Try) → ts ≡ ahead ++ t ∷ rest → OnEachOther p ahead t.before
ahead_of nothing ahead t rest e = absurd (not_none t ahead rest e)
ahead_of (last {t = u}) [] t rest e = let i : u ≡ t = cc in subst (λ v. OnEachOther u.before [] v.before) i no_try
ahead_of (last {t = u}) (b ∷ ahead) t rest e = absurd (not_none t ahead rest (cc))
ahead_of (then {t = u} w a l) [] t rest e = let i : u ≡ t = cc in subst (λ v. OnEachOther u.before [] v.before) i no_try
ahead_of (then {t = u} w a l) (b ∷ ahead) t rest e =
    let i : u ≡ b = cc in
    subst (λ v. OnEachOther u.before (v ∷ ahead) t.before) i (next_try {t = u} w a (ahead_of l ahead t rest (cc)))

pub call_line : (o : Part) (c : Call) (r : CallResult) → Promise o c r → InLine (stands_upon c o) r.tries
call_line o c r h = tried_line o c r (call_tried o c r h)

-- a try by itself is a call of its own
abbrev pub own_call : Try → CallResult
own_call t = one_sheet t.way t.text t.before t.after t.answer

pub line_chain : {p : Part} {ts : List Try} → InLine p ts → Every Adds ts → Chain p (map (λ t. add t.way t.text) ts) (map own_call ts)
line_chain nothing h = done
line_chain (last {t = t}) h = call {c = add t.way t.text} (every_head h, refl) done
line_chain (then {t = t} u e l) h = call {c = add t.way t.text} (every_head h, refl) (line_chain l (every_tail h))

-- EACH TRY stands on what those ahead of it left
pub call_ahead : (o : Part) (c : Call) (r : CallResult) → Promise o c r → (ahead : List Try) (t : Try) (rest : List Try) → r.tries ≡ ahead ++ t ∷ rest →
    OnEachOther (stands_upon c o) ahead t.before
call_ahead o c r h = ahead_of (call_line o c r h)

-- ON A PART THAT IS NOT SOUND a call answers 20, and leaves it as it is
pub unsound_call : (p : Part) (c : Call) (r : CallResult) → Promise p c r → ¬ (Sound p) → (r.part ≡ p) × (r.answer ≡ refused 20 0)
unsound_call p (add w text) r h n = of (add_case w p text r.part r.answer h.0)
  where
    of : AddCase w p text r.part r.answer → (r.part ≡ p) × (r.answer ≡ refused 20 0)
    of (unsound m x) = x
    of (misread number place s e x) = absurd (n s)
    of (driven d s e i x) = absurd (n s)
    of (read d s e i j x) = absurd (n s)
    of (full d m s e f l i x) = absurd (n s)
    of (taken d s e f t room) = absurd (n s)
unsound_call p (add_set lengths text) r h n = of (set_case p lengths text r h)
  where
    of : SetCase p lengths text r → (r.part ≡ p) × (r.answer ≡ refused 20 0)
    of (unsound_part m e) = (ap (λ r. r.part) e, ap (λ r. r.answer) e)
    of (unfit s m e) = absurd (n s)
    of (in_turn s w t) = absurd (n s)
unsound_call p (reserve text) r h n = of (reserve_case p text r h)
  where
    of : ReserveCase p text r → (r.part ≡ p) × (r.answer ≡ refused 20 0)
    of (unsound_reserve m e) = (ap (λ r. r.part) e, ap (λ r. r.answer) e)
    of (open_reserve s m e) = absurd (n s)
    of (tried_reserve s m g e) = absurd (n s)
unsound_call p (commit text) r h n = of (commit_case p text r h)
  where
    of : CommitCase p text r → (r.part ≡ p) × (r.answer ≡ refused 20 0)
    of (unsound_commit m e) = (ap (λ r. r.part) e, ap (λ r. r.answer) e)
    of (closed_commit s m e) = absurd (n s)
    of (other_commit u s m i d e) = absurd (n s)
    of (tried_commit s m f t) = absurd (n s)
unsound_call p withdraw r h n = of (withdraw_case p)
  where
    of : WithdrawCase p (withdrawn p) → (r.part ≡ p) × (r.answer ≡ refused 20 0)
    of (unsound_withdraw m e) = (ap (λ r. r.part) (h ∙ e), ap (λ r. r.answer) (h ∙ e))
    of (closed_withdraw s m e) = absurd (n s)
    of (open_withdraw s m e) = absurd (n s)

-- A CALL THAT IS TURNED DOWN hands back the part that it got
pub call_stays : (o : Part) (c : Call) (r : CallResult) → Promise o c r → (number place : ℕ) → r.answer ≡ refused number place → r.part ≡ o
call_stays o c r h number place e = of (call_tried o c r h)
  where
    of : TriedSheets o c r → r.part ≡ o
    of (before_any n f i) = ap (λ r. r.part) i
    of (every i l a) = absurd (not_refused e a)
    of (up_to ahead t rest m n i s l j k f) = f
    of (sets_aside text i a) = absurd (not_refused e (ap (λ r. r.answer) a))

-- WHAT IS RESERVED after a call
pub call_reserved : (o : Part) (c : Call) (r : CallResult) → Promise o c r → ReservedAfter c r.answer o.reservation r.part.reservation
call_reserved o c r h = of r.answer refl
  where
    taken_on : (d : Call) → c ≡ d → r.answer ≡ accepted → ReservedAfter d accepted o.reservation r.part.reservation
    taken_on (add w text) i e = add_reserved (add_case w o text r.part r.answer (subst (λ d. Promise o d r) i h).0)
    taken_on (add_set lengths text) i e = by_set (set_case o lengths text r (subst (λ d. Promise o d r) i h))
      where
        by_set : SetCase o lengths text r → r.part.reservation ≡ o.reservation
        by_set (unsound_part n x) = absurd (not_refused (ap (λ r. r.answer) x) e)
        by_set (unfit s n x) = absurd (not_refused (ap (λ r. r.answer) x) e)
        by_set (in_turn s w t) = turn_reserved t e
    taken_on (reserve text) i e = by_reserve (reserve_case o text r (subst (λ d. Promise o d r) i h))
      where
        by_reserve : ReserveCase o text r → o.reservation ≡ unreserved
        by_reserve (unsound_reserve n x) = absurd (not_refused (ap (λ r. r.answer) x) e)
        by_reserve (open_reserve s n x) = absurd (not_refused (ap (λ r. r.answer) x) e)
        by_reserve (tried_reserve s n g x) = nothing_reserved o s n
    taken_on (commit text) i e = by_commit (commit_case o text r (subst (λ d. Promise o d r) i h))
      where
        by_commit : CommitCase o text r → r.part.reservation ≡ unreserved
        by_commit (unsound_commit n x) = absurd (not_refused (ap (λ r. r.answer) x) e)
        by_commit (closed_commit s n x) = absurd (not_refused (ap (λ r. r.answer) x) e)
        by_commit (other_commit u s n j d x) = absurd (not_refused (ap (λ r. r.answer) x) e)
        by_commit (tried_commit s n f t) = turn_reserved t e
    taken_on withdraw i e = by_withdraw (subst (WithdrawCase o) (sym (subst (λ d. Promise o d r) i h)) (withdraw_case o))
      where
        by_withdraw : WithdrawCase o r → r.part.reservation ≡ unreserved
        by_withdraw (unsound_withdraw n x) = absurd (not_refused (ap (λ r. r.answer) x) e)
        by_withdraw (closed_withdraw s n x) = absurd (not_refused (ap (λ r. r.answer) x) e)
        by_withdraw (open_withdraw s n x) = ap (λ r. r.part.reservation) x

    of : (a : Answer) → r.answer ≡ a → ReservedAfter c r.answer o.reservation r.part.reservation
    of accepted e = subst (λ a. ReservedAfter c a o.reservation r.part.reservation) (sym e) (taken_on c refl e)
    of (refused number place) e =
        subst (λ a. ReservedAfter c a o.reservation r.part.reservation) (sym e) (ap (λ p. p.reservation) (call_stays o c r h number place e))

-- the part that the sheets of a call stand on
pub stands_kept : (c : Call) (o : Part) → Shaped o → Kept o (stands_upon c o)
stands_kept c o shape = record { same_k = refl; same_capacity = refl; shaped = record { records = shape.records; inputs = shape.inputs }; sound = of c }
  where
    of : (c : Call) → Sound o → Sound (stands_upon c o)
    of (add w text) h = h
    of (add_set lengths text) h = h
    of (reserve text) h = h
    of (commit text) h = released_sound o h
    of withdraw h = released_sound o h

module _ (o : Part) (shape : Shaped o) (c : Call) (r : CallResult) (h : Promise o c r) where
  -- the sheet that was reserved
  reserved_sheet : (text : List ℕ) → r ≡ reserving_sheet least text o r.part accepted → Reserves least o text r.part accepted
  reserved_sheet text e = every_head (subst (Every Trying) (ap (λ r. r.tries) e) (call_tries o c r h))

  pub call_same_tables : (text : List ℕ) → r ≡ reserving_sheet least text o r.part accepted → tables_of r.part ≡ tables_of o
  call_same_tables text e = ap tables_of (reserved_sheet text e).1.part

  pub call_kept : Kept o r.part
  call_kept = of (call_tried o c r h)
    where
      of : TriedSheets o c r → Kept o r.part
      of (before_any n f i) = same_kept o shape r.part (ap (λ r. r.part) i)
      of (every i l a) = let k = stands_kept c o shape in kept_trans k (line_kept l (call_tries o c r h) k.shaped)
      of (up_to ahead t rest m n i s l j k f) = same_kept o shape r.part f
      of (sets_aside text i e) = let g = reserved_sheet text e in aside_kept o shape text g.0.0 g.0.1 r.part g.1

  pub call_grown : CountGrown (accepted_by r) o.used r.part.used
  call_grown = of (call_tried o c r h)
    where
      none_accepted : (number place : ℕ) → r.answer ≡ refused number place → r.part ≡ o → CountGrown (accepted_by r) o.used r.part.used
      none_accepted number place e f =
          subst (λ a. CountGrown (if_accepted a (sheet_entries r.tries)) o.used r.part.used) (sym e) (none_grown o.used r.part.used (ap (λ p. p.used) f))

      of : TriedSheets o c r → CountGrown (accepted_by r) o.used r.part.used
      of (before_any n f i) = none_accepted n 0 (ap (λ r. r.answer) i) (ap (λ r. r.part) i)
      of (every i l a) =
          subst (λ a. CountGrown (if_accepted a (sheet_entries r.tries)) o.used r.part.used) (sym a)
          (line_grown l (call_tries o c r h) (stands_kept c o shape).shaped)
      of (up_to ahead t rest m n i s l j k f) = none_accepted m n (k ∙ j) f
      of (sets_aside text i e) =
          subst (λ es. CountGrown es o.used r.part.used) (sym (ap accepted_by e))
          (none_grown o.used r.part.used (ap (λ p. p.used) (reserved_sheet text e).1.part))
