-- Every answer of a list of calls that add in one way is settled: an add's by a definition that computes, and, since what is read and driven after
-- an add does not depend on the cover taken, nor, where it is one of the least root level, the level of its output net, those of a list of calls by the
-- part at the start. A further kind of call has its clause of `call_alike`, and a further way its clauses of `number_is`, `number_alike`,
-- `levels_after_lem` and what these are stated with.
use Rattle.std.specs.Prelude.{ℕ, ◌+◌, ◌-◌, ◌≤◌, ◌≡◌, refl, ◌⊎◌, true, ◌||◌, List, [], ◌∷◌, ◌++◌, map, T, leb, eqb, length}
use Rattle.std.proofs.Common.{arith, sym, ap, ap₂, ◌∙◌, subst, inl, inr, le→leb}
use Rattle.std.proofs.Math.Bool.{cond}
use Rattle.lists.specs.Trusted.Lists.{Every}
use Rattle.lists.specs.Cases.{and_both}
use Rattle.lists.specs.ListLaws.{every_head, every_tail}
use Rattle.lists.specs.Trusted.Tests.{elem, either}
use Rattle.lists.specs.TestLaws.{reflects_le, reflects_eq, reflects_or, reflects_elem, by_reflects, reflects_same, reflects_true}
use Rattle.tree.specs.Trusted.Limits.{code_base}
use Rattle.tree.specs.Trusted.Tree.{gate}
use Rattle.tree.specs.Measures.{proper}
use Rattle.tree.specs.Measures.{leaves}
use Rattle.lists.specs.Trusted.Checked.{Checked, passed, refused as unread}
use Rattle.plan.specs.Least.{least_tables, least_is}
use Rattle.cover.specs.Trusted.Cover.{Least}
use Rattle.cover.specs.Trusted.Tables.{LookupTable, code_levels}
use Rattle.cover.specs.Trusted.CoverTables.{Circuit, CoverTables, Fresh}
use Rattle.levels.specs.Trusted.Levels.{Fastest}
use Rattle.levels.proofs.Fastest.{fastest_unique}
use Rattle.levels.proofs.SameLaws.{fastest_same}
use Rattle.levels.proofs.CoverLevelLaws.{added_keeps, fastest_out}
use Rattle.table.specs.Trusted.Rules.{IsNet}
use Rattle.table.specs.ResultLaws.{says_true}
use Rattle.part.specs.Trusted.Parts.{tables_of, available, with_reservation, released, Shaped}
use Rattle.part.specs.Trusted.Sound.{Sound}
use Rattle.part.specs.Trusted.SoundTest.{sound}
use Rattle.part.specs.SoundLaws.{sound_reflects}
use Rattle.part.specs.Trusted.Nets.{Driven, Read}
use Rattle.part.specs.Trusted.Ways.{Way, least, fastest, reading, NumberBy, Chosen}
use Rattle.part.specs.Trusted.Answers.{Answer, accepted, refused}
use Rattle.part.specs.Trusted.Add.{is_driven, net_read, Refused, Accepted, Fill, Offer, Take, Add}
use Rattle.part.specs.Trusted.Tries.{Purpose, adding, CallResult}
use Rattle.part.specs.Trusted.Sets.{InTurn, all, next, stop, turned_away}
use Rattle.part.specs.Trusted.Reservations.{SetAside, Reserved}
use Rattle.part.proofs.ReserveLaws.{released_sound}
use Rattle.part_records.specs.Trusted.Reservations.{unreserved}
use Rattle.part_records.specs.declared.Reservation.{Reservation}
use Rattle.part.specs.ExtendedLaws.{extended_tables}
use Rattle.part.specs.ExtendLaws.{extended_sound}
use Rattle.part.specs.Readable.{Readable}
use Rattle.part.proofs.WayLaws.{reading_right, number_unique, chosen_added, chosen_number}
use Rattle.part.proofs.AddLaws.{driven_reflects, read_reflects, AddCase, unsound, misread, driven, read, full, taken as took, add_case, kept, not_refused}
use Rattle.demands.specs.KeptLaws.{aside_kept}
use Rattle.demands.specs.LeafLaws.{reads_after, reads_still, drives_after, drives_still}
use Rattle.demands.specs.Trusted.Calls.{Call, add, add_set, reserve, commit, withdraw, Promise, Chain, done, call, final}
use Rattle.demands.proofs.TryLaws.{same_sheet}
use Rattle.part.proofs.SetLaws.{SetCase, unsound_part, unfit, in_turn, set_case}
use Rattle.demands.specs.ReserveCases.{ReserveCase, unsound_reserve, open_reserve, tried_reserve, reserve_case}
use Rattle.demands.specs.ReserveCases.{CommitCase, unsound_commit, closed_commit, other_commit, tried_commit, commit_case}
use Rattle.demands.specs.ReserveCases.{WithdrawCase, unsound_withdraw, closed_withdraw, open_withdraw, withdraw_case}
use Rattle.demands.proofs.CallLaws.{stands_kept, call_kept}
use Rattle.demands.specs.Determined.{least_number, fastest_of, fastest_number, number_in, LevelsAlike, Alike, AddsBy, offered, taken, answer_of}
use Rattle.part.specs.declared.Part.{Part}

-- the number of a sheet that was read
pub number_is : (w : Way) (p : Part) → 2 ≤ p.k → (s : Circuit) → Readable s → NumberBy w p s (number_in w p s)
unfolding least_number
number_is least p two s r =
    let g = r.root in
    subst (λ t. NumberBy least p (record { tree = t; out = s.out; inverted = s.inverted }) (least_tables p.k t)) (sym g.2)
    (least_is p.k two g.0 g.1 (subst (λ t. T (proper t)) g.2 r.proper))
number_is fastest p two s r =
    let g = r.root in
    let lev = code_levels code_base (tables_of p) in
    subst (λ t. NumberBy fastest p (record { tree = t; out = s.out; inverted = s.inverted }) (fastest_number lev p.k t)) (sym g.2)
    ((fastest_of lev p.k g.0 g.1).1 (and_both (leb 2 p.k) (proper (gate g.0 g.1)) (le→leb 2 p.k two) (subst (λ t. T (proper t)) g.2 r.proper)))

-- ---- parts that are alike

levels_refl : (w : Way) (p : Part) → LevelsAlike w p p
levels_refl least p = tt
levels_refl fastest p = λ n h. refl

levels_sym : (w : Way) (p q : Part) → LevelsAlike w p q → LevelsAlike w q p
levels_sym least p q l = tt
levels_sym fastest p q l = λ n h. sym (l n h)

pub alike_refl : (w : Way) (p : Part) → Alike w p p
alike_refl w p = record { k = refl; capacity = refl; used = refl; reservation = refl; sound = refl; driven = λ n h. refl; read = λ n h. refl; levels = levels_refl w p }

alike_sym : {w : Way} {p q : Part} → Alike w p q → Alike w q p
alike_sym {w} {p} {q} g = record {
  k = sym g.k;
  capacity = sym g.capacity;
  used = sym g.used;
  reservation = sym g.reservation;
  sound = sym g.sound;
  driven = λ n h. sym (g.driven n h);
  read = λ n h. sym (g.read n h);
  levels = levels_sym w p q g.levels;
}

-- and so they are for the way `least`
alike_least : {w : Way} {p q : Part} → Alike w p q → Alike least p q
alike_least g = record { k = g.k; capacity = g.capacity; used = g.used; reservation = g.reservation; sound = g.sound; driven = g.driven; read = g.read; levels = tt }

-- ---- what an accepted sheet changes, of what an answer depends on

-- in the way `fastest` its output net has the least root level, and the level of every other net is as it was
abbrev LevelsAfter : Way → Part → Circuit → Part → Type 0
LevelsAfter least p s q = Unit {0}
LevelsAfter fastest p s q = (d : ℕ) × Fastest (code_levels code_base (tables_of p)) p.k s.tree (number_in fastest p s) d
    × ((n : ℕ) → IsNet n → code_levels code_base (tables_of q) n ≡ cond (eqb s.out n) d (code_levels code_base (tables_of p) n))

record After (w : Way) (p : Part) (s : Circuit) (q : Part) : Type 0 where
  k : q.k ≡ p.k
  capacity : q.capacity ≡ p.capacity
  used : q.used ≡ p.used + number_in w p s
  reservation : q.reservation ≡ p.reservation
  sound : sound q ≡ true
  driven : (n : ℕ) → IsNet n → is_driven n (tables_of q) ≡ (is_driven n (tables_of p) || eqb s.out n)
  read : (n : ℕ) → IsNet n → net_read n (tables_of q) ≡ (net_read n (tables_of p) || elem n (leaves s.tree))
  levels : LevelsAfter w p s q

-- the least root level, and the number of tables, of a sheet on a part that is alike
pub fastest_alike : (p q : Part) (s : Circuit) → Readable s → Alike fastest p q → {n d : ℕ} → Fastest (code_levels code_base (tables_of p)) p.k s.tree n d →
    Fastest (code_levels code_base (tables_of q)) q.k s.tree n d
fastest_alike p q s r g {n} {d} f =
    subst (λ k. Fastest (code_levels code_base (tables_of q)) k s.tree n d) g.k
    (fastest_same (λ x i. let l = r.legal.leaf_nets_lem x i in g.levels x (omega (arith, l.0, l.1))) f)

-- parts that are alike have one number for a sheet
number_alike : (w : Way) (p q : Part) (s : Circuit) → 2 ≤ p.k → Readable s → Alike w p q → number_in w p s ≡ number_in w q s
number_alike least p q s two r g = ap (λ k. least_number k s) g.k
number_alike fastest p q s two r g =
    let x = number_is fastest p two s r in
    number_unique fastest q s (x.0, fastest_alike p q s r g x.1) (number_is fastest q (omega (arith, g.k)) s r)

levels_alike : (w : Way) (p p' q q' : Part) (s : Circuit) → Readable s → Alike w p p' → LevelsAfter w p s q → LevelsAfter w p' s q' → LevelsAlike w q q'
levels_alike least p p' q q' s r g a b = tt
levels_alike fastest p p' q q' s r g a b = λ n h.
    a.2 n h ∙ ap₂ (cond (eqb s.out n)) (fastest_unique (fastest_alike p p' s r g a.1) b.1).1 (g.levels n h) ∙ sym (b.2 n h)

alike_after : (w : Way) (p p' q q' : Part) (s : Circuit) → 2 ≤ p.k → Readable s → Alike w p p' → After w p s q → After w p' s q' → Alike w q q'
alike_after w p p' q q' s two r g a b = record {
  k = a.k ∙ g.k ∙ sym b.k;
  capacity = a.capacity ∙ g.capacity ∙ sym b.capacity;
  used = a.used ∙ ap₂ ◌+◌ g.used (number_alike w p p' s two r g) ∙ sym b.used;
  reservation = a.reservation ∙ g.reservation ∙ sym b.reservation;
  sound = a.sound ∙ sym b.sound;
  driven = λ n h. a.driven n h ∙ ap (λ t. t || eqb s.out n) (g.driven n h) ∙ sym (b.driven n h);
  read = λ n h. a.read n h ∙ ap (λ t. t || elem n (leaves s.tree)) (g.read n h) ∙ sym (b.read n h);
  levels = levels_alike w p p' q q' s r g a.levels b.levels;
}

-- ---- one add

module _ (w : Way) (p : Part) (text : List ℕ) (q : Part) (a : Answer) where
  fill_answer : (s : Circuit) → Fill w p s (number_in w p s) q a → a ≡ cond (leb (number_in w p s) (available p)) accepted (refused 23 0)
  fill_answer s =
      by_reflects (λ b. either b (Accepted w p s q a) (Refused p 23 0 q a) → a ≡ cond b accepted (refused 23 0))
      (reflects_le (number_in w p s) (available p)) (λ l t. t.answer) (λ l r. r.1)

  offer_answer : Sound p → (s : Circuit) → reading w text ≡ passed s → Offer w p s q a → a ≡ offered w p s
  offer_answer h s e =
      by_reflects (λ b. either b (Refused p 21 0 q a) Others → a ≡ cond b (refused 21 0) others) (driven_reflects s.out (tables_of p))
      (λ d r. r.1)
      (λ d. by_reflects (λ b. either b (Refused p 22 0 q a) Last → a ≡ cond b (refused 22 0) last) (read_reflects s.out (tables_of p))
      (λ i r. r.1)
      (λ i o. fill_answer s (subst (λ n. Fill w p s n q a) (number_unique w p s o.1 (number_is w p h.k_range.0 s (reading_right w text s e))) o.2)))
    where
      Last : Type 0
      Last = (n : ℕ) × NumberBy w p s n × Fill w p s n q a

      Others : Type 0
      Others = either (net_read s.out (tables_of p)) (Refused p 22 0 q a) Last

      last : Answer
      last = cond (leb (number_in w p s) (available p)) accepted (refused 23 0)

      others : Answer
      others = cond (net_read s.out (tables_of p)) (refused 22 0) last

  take_answer : Sound p → (v : Checked Circuit) → reading w text ≡ v → Take w p v q a → a ≡ taken w p v
  take_answer h (passed s) e o = offer_answer h s e o
  take_answer h (unread number place) e r = r.1

  -- THE ANSWER OF AN ADD
  pub add_answer : Add w p text q a → a ≡ answer_of w p (reading w text)
  unfolding Add
  add_answer =
      by_reflects (λ b. either b (Take w p (reading w text) q a) (Refused p 20 0 q a) → a ≡ cond b (taken w p (reading w text)) (refused 20 0))
      (sound_reflects p) (λ h. take_answer h (reading w text) refl) (λ n r. r.1)

-- ---- adds on parts that are alike

module _ (w : Way) where
  alike_offered : (p q : Part) (s : Circuit) → 2 ≤ p.k → Readable s → Alike w p q → offered w p s ≡ offered w q s
  alike_offered p q s two r g = λ i.
      cond (g.driven s.out net i) (refused 21 0)
      (cond (g.read s.out net i) (refused 22 0) (cond (leb (number_alike w p q s two r g i) (g.capacity i - g.used i - (g.reservation i).count)) accepted (refused 23 0)))
    where
      net : IsNet s.out
      net = let l = r.legal.out_net in omega arith

  alike_taken : (p q : Part) (text : List ℕ) (v : Checked Circuit) → reading w text ≡ v → 2 ≤ p.k → Alike w p q → taken w p v ≡ taken w q v
  alike_taken p q text (passed s) e two g = alike_offered p q s two (reading_right w text s e) g
  alike_taken p q text (unread number place) e two g = refl

  pub alike_answer : (p q : Part) (text : List ℕ) → Alike w p q → answer_of w p (reading w text) ≡ answer_of w q (reading w text)
  alike_answer p q text g =
      by_reflects (λ b. sound q ≡ b → cond b (taken w p (reading w text)) (refused 20 0) ≡ answer_of w q (reading w text)) (sound_reflects p)
      (λ h e. alike_taken p q text (reading w text) refl h.k_range.0 g ∙ sym (ap (λ b. cond b (taken w q (reading w text)) (refused 20 0)) e))
      (λ n e. sym (ap (λ b. cond b (taken w q (reading w text)) (refused 20 0)) e)) (sym g.sound)

-- an add leaves the part as it was, or takes a sheet
abbrev Stays : Part → Part → Answer → Type 0
Stays p q a = (number : ℕ) × (place : ℕ) × Refused p number place q a

abbrev Takes : Way → Part → List ℕ → Part → Answer → Type 0
Takes w p text q a = (s : Circuit) × (reading w text ≡ passed s) × After w p s q × (a ≡ accepted) × Sound p

-- the levels after the tables chosen in each way
levels_after_lem : (w : Way) (p q : Part) (s : Circuit) (new : List LookupTable) → 2 ≤ p.k → Readable s → Chosen w p s new → tables_of q ≡ tables_of p ++ new → LevelsAfter w p s q
levels_after_lem least p q s new two r c e = tt
levels_after_lem fastest p q s new two r c e = (
  code_levels code_base (tables_of p ++ new) s.out,
  subst (λ n. Fastest (code_levels code_base (tables_of p)) p.k s.tree n (code_levels code_base (tables_of p ++ new) s.out))
      (number_unique fastest p s (chosen_number fastest p s new c) (number_is fastest p two s r)) (fastest_out r.legal c),
  λ n h. rw e (by_reflects (λ b. code_levels code_base (tables_of p ++ new) n ≡ cond b (code_levels code_base (tables_of p ++ new) s.out) (code_levels code_base (tables_of p) n))
      (reflects_eq s.out n) (λ i. ap (code_levels code_base (tables_of p ++ new)) (sym i)) (λ i. added_keeps c.added n (omega arith) (λ j. i (sym j)))),
)

module _ (w : Way) (p : Part) (shape : Shaped p) (text : List ℕ) where
  accepted_after : (s : Circuit) (q : Part) (a : Answer) → Sound p → reading w text ≡ passed s → Fresh s (tables_of p) → (t : Accepted w p s q a) →
      p.used + length t.new + p.reservation.count ≤ p.capacity → After w p s q
  accepted_after s q a h e f t room = record {
    k = ap (λ q. q.k) t.part;
    capacity = ap (λ q. q.capacity) t.part;
    used = ap (λ q. q.used) t.part ∙
        ap (λ n. p.used + n) (number_unique w p s (chosen_number w p s t.new t.chosen) (number_is w p h.k_range.0 s (reading_right w text s e)));
    reservation = ap (λ q. q.reservation) t.part;
    sound = reflects_true (sound_reflects q)
        (subst Sound (sym t.part) (extended_sound p shape.records h t.new s (reading_right w text s e).legal new_tables_lem f room));
    driven = λ n l. reflects_same (driven_reflects n (tables_of q)) (reflects_or (driven_reflects n (tables_of p)) (reflects_eq s.out n))
        (λ d. drives_after code_base p.k (tables_of p) t.new s new_tables_lem n l.0 (subst (λ ts. Driven n ts) grown d))
        (λ d. subst (λ ts. Driven n ts) (sym grown) (drives_still code_base p.k (tables_of p) t.new s new_tables_lem n d));
    read = λ n l. reflects_same (read_reflects n (tables_of q)) (reflects_or (read_reflects n (tables_of p)) (reflects_elem n (leaves s.tree)))
        (λ d. reads_after code_base p.k (tables_of p) t.new s new_tables_lem n (omega (arith, l.1)) (subst (λ ts. Read n ts) grown d))
        (λ d. subst (λ ts. Read n ts) (sym grown) (reads_still code_base p.k (tables_of p) t.new s new_tables_lem n d));
    levels = levels_after_lem w p q s t.new h.k_range.0 (reading_right w text s e) t.chosen grown;
  }
    where
      new_tables_lem : CoverTables code_base p.k (tables_of p) t.new s
      new_tables_lem = chosen_added w p s t.new t.chosen

      grown : tables_of q ≡ tables_of p ++ t.new
      grown = ap tables_of t.part ∙ extended_tables p shape.records h t.new

  stays_or_takes : {q : Part} {a : Answer} → AddCase w p text q a → Stays p q a ⊎ Takes w p text q a
  stays_or_takes (unsound n r) = inl (20, 0, r)
  stays_or_takes (misread number place h e r) = inl (number, place, r)
  stays_or_takes (driven s h e d r) = inl (21, 0, r)
  stays_or_takes (read s h e d i r) = inl (22, 0, r)
  stays_or_takes (full s n h e f l m r) = inl (23, 0, r)
  stays_or_takes (took s h e f t room) = inr (s, e, accepted_after s _ _ h e f t room, t.answer, h)

alike_step : (w : Way) (p p' q q' : Part) (text : List ℕ) (a b : Answer) → Alike w p p' → a ≡ b → Stays p q a ⊎ Takes w p text q a →
    Stays p' q' b ⊎ Takes w p' text q' b → Alike w q q'
alike_step w p p' q q' text a b g e (inl x) (inl y) =
    subst (λ o. Alike w o q') (sym x.2.0) (subst (λ o. Alike w p o) (sym y.2.0) g)
alike_step w p p' q q' text a b g e (inl x) (inr y) = absurd (not_refused x.2.1 (e ∙ y.3))
alike_step w p p' q q' text a b g e (inr x) (inl y) = absurd (not_refused y.2.1 (sym e ∙ x.3))
alike_step w p p' q q' text a b g e (inr x) (inr y) =
    alike_after w p p' q q' x.0 x.4.k_range.0 (reading_right w text x.0 x.1) g x.2 (subst (λ s. After w p' s q') (same_sheet y.1 x.1) y.2)

-- AN ADD on parts that are alike
pub add_alike : (w : Way) (p p' : Part) → Shaped p → Shaped p' → Alike w p p' → (text : List ℕ) (q q' : Part) (a a' : Answer) → Add w p text q a →
    Add w p' text q' a' → (a ≡ a') × Alike w q q'
add_alike w p p' f f' g text q q' a a' h h' = (
  same,
  alike_step w p p' q q' text a a' g same (stays_or_takes w p f text (add_case w p text q a h)) (stays_or_takes w p' f' text (add_case w p' text q' a' h')),
)
  where
    same : a ≡ a'
    same = add_answer w p text q a h ∙ alike_answer w p p' text g ∙ sym (add_answer w p' text q' a' h')

-- ---- calls on parts that are alike

-- what a caller sees of two results is the same but for the covers taken
pub record AlikeResults (w : Way) (r r' : CallResult) : Type 0 where
  pub answer : r.answer ≡ r'.answer
  pub position : r.position ≡ r'.position
  pub part : Alike w r.part r'.part

pub add_shaped : (w : Way) (p : Part) → Shaped p → (text : List ℕ) (q : Part) (a : Answer) → Add w p text q a → Shaped q
add_shaped w p f text q a h = (kept p f (add_case w p text q a h)).shaped

levels_reserved : (w : Way) (p p' : Part) (x x' : Reservation) → LevelsAlike w p p' → LevelsAlike w (with_reservation p x) (with_reservation p' x')
levels_reserved least p p' x x' l = tt
levels_reserved fastest p p' x x' l = l

module _ (w : Way) where
  -- a sheet that is added has this way
  abbrev OfWay : Purpose × Way × List ℕ → Type 0
  OfWay x = x.0 ≡ adding → x.1 ≡ w

  -- the sheets of a set or of a commit, added in turn, where w is their way
  turn_alike : {o o' p p' : Part} {i : ℕ} {sheets : List (List ℕ)} {r r' : CallResult} → InTurn o i sheets p r → InTurn o' i sheets p' r' → Shaped p → Shaped p' →
      Alike w o o' → Alike w p p' → Every OfWay (map (λ t. (adding, least, t)) sheets) → AlikeResults w r r'
  turn_alike all all f f' g k b = record { answer = refl; position = refl; part = k }
  turn_alike (next {text = text} {p = p} {q = q} x y) (next {p = p'} {q = q'} x' y') f f' g k b =
      let e = every_head b refl in
      let same = add_alike w p p' f f' k text q q' accepted accepted (subst (λ v. Add v p text q accepted) e x) (subst (λ v. Add v p' text q' accepted) e x') in
      let z = turn_alike y y' (add_shaped least p f text q accepted x) (add_shaped least p' f' text q' accepted x') g same.1 (every_tail b) in
      record { answer = z.answer; position = z.position; part = z.part }
  turn_alike (next {text = text} {p = p} {q = q} x y) (stop {p = p'} {q = q'} x') f f' g k b =
      absurd (not_refused refl (sym (add_alike least p p' f f' (alike_least k) text q q' accepted (refused _ _) x x').0))
  turn_alike (stop {text = text} {p = p} {q = q} x) (next {p = p'} {q = q'} x' y') f f' g k b =
      absurd (not_refused refl (add_alike least p p' f f' (alike_least k) text q q' (refused _ _) accepted x x').0)
  turn_alike (stop {text = text} {p = p} {q = q} {number = m} {place = l} x) (stop {p = p'} {q = q'} {number = m'} {place = l'} x') f f' g k b =
      record { answer = (add_alike least p p' f f' (alike_least k) text q q' (refused m l) (refused m' l') x x').0; position = refl; part = g }

  away_alike : (p p' : Part) (number : ℕ) (r r' : CallResult) → Alike w p p' → r ≡ turned_away p number → r' ≡ turned_away p' number → AlikeResults w r r'
  away_alike p p' number r r' g e e' = subst (λ x. AlikeResults w x r') (sym e) (subst (λ x. AlikeResults w (turned_away p number) x) (sym e') (record { answer = refl; position = refl; part = g }))

  sound_alike : (p q : Part) → Alike w p q → Sound p → Sound q
  sound_alike p q g s = says_true (sound_reflects q) (sym g.sound ∙ reflects_true (sound_reflects p) s)

  set_alike : (p p' : Part) → Shaped p → Shaped p' → Alike w p p' → (lengths text : List ℕ) (r r' : CallResult) → AddsBy w (add_set lengths text) →
      SetCase p lengths text r → SetCase p' lengths text r' → AlikeResults w r r'
  set_alike p p' f f' g lengths text r r' b (unsound_part n e) (unsound_part n' e') = away_alike p p' 20 r r' g e e'
  set_alike p p' f f' g lengths text r r' b (unsound_part n e) (unfit s' n' e') = absurd (n (sound_alike p' p (alike_sym g) s'))
  set_alike p p' f f' g lengths text r r' b (unsound_part n e) (in_turn s' w' t') = absurd (n (sound_alike p' p (alike_sym g) s'))
  set_alike p p' f f' g lengths text r r' b (unfit s n e) (unsound_part n' e') = absurd (n' (sound_alike p p' g s))
  set_alike p p' f f' g lengths text r r' b (unfit s n e) (unfit s' n' e') = away_alike p p' 33 r r' g e e'
  set_alike p p' f f' g lengths text r r' b (unfit s n e) (in_turn s' w' t') = absurd (n w')
  set_alike p p' f f' g lengths text r r' b (in_turn s w t) (unsound_part n' e') = absurd (n' (sound_alike p p' g s))
  set_alike p p' f f' g lengths text r r' b (in_turn s w t) (unfit s' n' e') = absurd (n' w)
  set_alike p p' f f' g lengths text r r' b (in_turn s w t) (in_turn s' w' t') = turn_alike t t' f f' g g b

  -- ---- reservations on parts that are alike

  count_alike : {p p' : Part} → Alike w p p' → p.reservation.count ≡ p'.reservation.count
  count_alike g = ap (λ x. x.count) g.reservation

  -- two parts that are alike, with another reservation each, and the same
  reserved_alike : {p p' : Part} (x x' : Reservation) → x ≡ x' → Alike w p p' → sound (with_reservation p x) ≡ sound (with_reservation p' x') →
      Alike w (with_reservation p x) (with_reservation p' x')
  reserved_alike {p} {p'} x x' e g s =
      record { k = g.k; capacity = g.capacity; used = g.used; reservation = e; sound = s; driven = g.driven; read = g.read; levels = levels_reserved w p p' x x' g.levels }

  released_alike : {p p' : Part} → Sound p → Sound p' → Alike w p p' → Alike w (released p) (released p')
  released_alike {p} {p'} h h' g =
      reserved_alike unreserved unreserved refl g (reflects_true (sound_reflects (released p)) (released_sound p h) ∙ sym (reflects_true (sound_reflects (released p')) (released_sound p' h')))

  aside_alike : (p p' : Part) → Shaped p → Shaped p' → Sound p → Sound p' → Alike w p p' → (text : List ℕ) (o o' q q' : Part) → Add least p text o accepted → Add least p' text o' accepted →
      SetAside least p text q → SetAside least p' text q' → Alike w q q'
  aside_alike p p' f f' s s' g text o o' q q' h h' x x' =
      let e = x.read in
      let e' = x'.read in
      let same : x.sheet ≡ x'.sheet = cc in
      let number : x.count ≡ x'.count =
      number_unique least p x.sheet x.number (subst (λ k. Least k x.sheet.tree x'.count) (sym g.k) (subst (λ u. NumberBy least p' u x'.count) (sym same) x'.number)) in
      let i : q ≡ with_reservation p (record { count = x.count; net = x.sheet.out }) = x.part in
      let i' : q' ≡ with_reservation p' (record { count = x'.count; net = x'.sheet.out }) = x'.part in
      let k = reflects_true (sound_reflects q) ((aside_kept p f text o h q x).sound s) in
      let k' = reflects_true (sound_reflects q') ((aside_kept p' f' text o' h' q' x').sound s') in
      subst (λ y. Alike w y q') (sym i) (subst (λ y. Alike w (with_reservation p (record { count = x.count; net = x.sheet.out })) y) (sym i')
      (reserved_alike (record { count = x.count; net = x.sheet.out }) (record { count = x'.count; net = x'.sheet.out })
      (λ j. record { count = number j; net = (same j).out }) g (ap sound (sym i) ∙ k ∙ sym k' ∙ ap sound i')))

  reserve_alike : (p p' : Part) → Shaped p → Shaped p' → Alike w p p' → (text : List ℕ) (r r' : CallResult) → ReserveCase p text r → ReserveCase p' text r' → AlikeResults w r r'
  reserve_alike p p' f f' g text r r' (unsound_reserve n e) (unsound_reserve n' e') = away_alike p p' 20 r r' g e e'
  reserve_alike p p' f f' g text r r' (unsound_reserve n e) (open_reserve s' o' e') = absurd (n (sound_alike p' p (alike_sym g) s'))
  reserve_alike p p' f f' g text r r' (unsound_reserve n e) (tried_reserve s' o' x' e') = absurd (n (sound_alike p' p (alike_sym g) s'))
  reserve_alike p p' f f' g text r r' (open_reserve s o e) (unsound_reserve n' e') = absurd (n' (sound_alike p p' g s))
  reserve_alike p p' f f' g text r r' (open_reserve s o e) (open_reserve s' o' e') = away_alike p p' 35 r r' g e e'
  reserve_alike p p' f f' g text r r' (open_reserve s o e) (tried_reserve s' o' x' e') = absurd (o (count_alike g ∙ o'))
  reserve_alike p p' f f' g text r r' (tried_reserve s o x e) (unsound_reserve n' e') = absurd (n' (sound_alike p p' g s))
  reserve_alike p p' f f' g text r r' (tried_reserve s o x e) (open_reserve s' o' e') = absurd (o' (sym (count_alike g) ∙ o))
  reserve_alike p p' f f' g text r r' (tried_reserve s o x e) (tried_reserve s' o' x' e') =
      let same = (add_alike least p p' f f' (alike_least g) text x.0.0 x'.0.0 r.answer r'.answer x.0.1 x'.0.1).0 in
      record { answer = same; position = ap (λ r. r.position) e ∙ sym (ap (λ r. r.position) e'); part = of r.answer refl (sym same) x.0.1 x'.0.1 x.1 x'.1 }
    where
      of : (a : Answer) {b b' : Answer} → b ≡ a → b' ≡ b → Add least p text x.0.0 b → Add least p' text x'.0.0 b' → Reserved least p text b r.part →
          Reserved least p' text b' r'.part → Alike w r.part r'.part
      of accepted i j h h' y y' =
          aside_alike p p' f f' s s' g text x.0.0 x'.0.0 r.part r'.part (subst (Add least p text x.0.0) i h) (subst (Add least p' text x'.0.0) (j ∙ i) h')
          (subst (λ a. Reserved least p text a r.part) i y) (subst (λ a. Reserved least p' text a r'.part) (j ∙ i) y')
      of (refused number place) i j h h' y y' =
          let e = subst (λ a. Reserved least p text a r.part) i y in
          let e' = subst (λ a. Reserved least p' text a r'.part) (j ∙ i) y' in
          subst (λ q. Alike w q r'.part) (sym e) (subst (Alike w p) (sym e') g)

  commit_alike : (p p' : Part) → Shaped p → Shaped p' → Alike w p p' → (text : List ℕ) (r r' : CallResult) → AddsBy w (commit text) → CommitCase p text r → CommitCase p' text r' → AlikeResults w r r'
  commit_alike p p' f f' g text r r' b (unsound_commit n e) (unsound_commit n' e') = away_alike p p' 20 r r' g e e'
  commit_alike p p' f f' g text r r' b (unsound_commit n e) (closed_commit s' o' e') = absurd (n (sound_alike p' p (alike_sym g) s'))
  commit_alike p p' f f' g text r r' b (unsound_commit n e) (other_commit u' s' o' i' d' e') = absurd (n (sound_alike p' p (alike_sym g) s'))
  commit_alike p p' f f' g text r r' b (unsound_commit n e) (tried_commit s' o' d' t') = absurd (n (sound_alike p' p (alike_sym g) s'))
  commit_alike p p' f f' g text r r' b (closed_commit s o e) (unsound_commit n' e') = absurd (n' (sound_alike p p' g s))
  commit_alike p p' f f' g text r r' b (closed_commit s o e) (closed_commit s' o' e') = away_alike p p' 36 r r' g e e'
  commit_alike p p' f f' g text r r' b (closed_commit s o e) (other_commit u' s' o' i' d' e') = away_alike p p' 36 r r' g e e'
  commit_alike p p' f f' g text r r' b (closed_commit s o e) (tried_commit s' o' d' t') = absurd (o' (sym (count_alike g) ∙ o))
  commit_alike p p' f f' g text r r' b (other_commit u s o i d e) (unsound_commit n' e') = absurd (n' (sound_alike p p' g s))
  commit_alike p p' f f' g text r r' b (other_commit u s o i d e) (closed_commit s' o' e') = away_alike p p' 36 r r' g e e'
  commit_alike p p' f f' g text r r' b (other_commit u s o i d e) (other_commit u' s' o' i' d' e') = away_alike p p' 36 r r' g e e'
  commit_alike p p' f f' g text r r' b (other_commit u s o i d e) (tried_commit s' o' d' t') = absurd (d (d' u i ∙ sym (ap (λ x. x.net) g.reservation)))
  commit_alike p p' f f' g text r r' b (tried_commit s o d t) (unsound_commit n' e') = absurd (n' (sound_alike p p' g s))
  commit_alike p p' f f' g text r r' b (tried_commit s o d t) (closed_commit s' o' e') = absurd (o (count_alike g ∙ o'))
  commit_alike p p' f f' g text r r' b (tried_commit s o d t) (other_commit u' s' o' i' d' e') = absurd (d' (d u' i' ∙ ap (λ x. x.net) g.reservation))
  commit_alike p p' f f' g text r r' b (tried_commit s o d t) (tried_commit s' o' d' t') =
      turn_alike t t' (stands_kept (commit text) p f).shaped (stands_kept (commit text) p' f').shaped g (released_alike s s' g) b

  withdraw_alike : (p p' : Part) → Alike w p p' → (r r' : CallResult) → WithdrawCase p r → WithdrawCase p' r' → AlikeResults w r r'
  withdraw_alike p p' g r r' (unsound_withdraw n e) (unsound_withdraw n' e') = away_alike p p' 20 r r' g e e'
  withdraw_alike p p' g r r' (unsound_withdraw n e) (closed_withdraw s' o' e') = absurd (n (sound_alike p' p (alike_sym g) s'))
  withdraw_alike p p' g r r' (unsound_withdraw n e) (open_withdraw s' o' e') = absurd (n (sound_alike p' p (alike_sym g) s'))
  withdraw_alike p p' g r r' (closed_withdraw s o e) (unsound_withdraw n' e') = absurd (n' (sound_alike p p' g s))
  withdraw_alike p p' g r r' (closed_withdraw s o e) (closed_withdraw s' o' e') = away_alike p p' 36 r r' g e e'
  withdraw_alike p p' g r r' (closed_withdraw s o e) (open_withdraw s' o' e') = absurd (o' (sym (count_alike g) ∙ o))
  withdraw_alike p p' g r r' (open_withdraw s o e) (unsound_withdraw n' e') = absurd (n' (sound_alike p p' g s))
  withdraw_alike p p' g r r' (open_withdraw s o e) (closed_withdraw s' o' e') = absurd (o (count_alike g ∙ o'))
  withdraw_alike p p' g r r' (open_withdraw s o e) (open_withdraw s' o' e') =
      subst (λ x. AlikeResults w x r') (sym e) (subst (λ x. AlikeResults w (record { part = released p; answer = accepted; position = 0; tries = [] }) x) (sym e')
      (record { answer = refl; position = refl; part = released_alike s s' g }))

  call_alike : (p p' : Part) → Shaped p → Shaped p' → Alike w p p' → (c : Call) (r r' : CallResult) → AddsBy w c → Promise p c r → Promise p' c r' → AlikeResults w r r'
  call_alike p p' f f' g (add v text) r r' b h h' =
      let e = every_head b refl in
      let z = add_alike w p p' f f' g text r.part r'.part r.answer r'.answer (subst (λ v. Add v p text r.part r.answer) e h.0)
      (subst (λ v. Add v p' text r'.part r'.answer) e h'.0) in
      record { answer = z.0; position = ap (λ r. r.position) h.1 ∙ sym (ap (λ r. r.position) h'.1); part = z.1 }
  call_alike p p' f f' g (add_set lengths text) r r' b h h' =
      set_alike p p' f f' g lengths text r r' b (set_case p lengths text r h) (set_case p' lengths text r' h')
  call_alike p p' f f' g (reserve text) r r' b h h' = reserve_alike p p' f f' g text r r' (reserve_case p text r h) (reserve_case p' text r' h')
  call_alike p p' f f' g (commit text) r r' b h h' = commit_alike p p' f f' g text r r' b (commit_case p text r h) (commit_case p' text r' h')
  call_alike p p' f f' g withdraw r r' b h h' =
      withdraw_alike p p' g r r' (subst (WithdrawCase p) (sym h) (withdraw_case p)) (subst (WithdrawCase p') (sym h') (withdraw_case p'))

-- what is seen of a result but for the part
abbrev pub seen : CallResult → Answer × ℕ
seen r = (r.answer, r.position)

-- EVERY ANSWER of a list of calls that add in one way is settled by the part at the start
pub answers_determined : (w : Way) {p p' : Part} {cs : List Call} {rs rs' : List CallResult} → Every (AddsBy w) cs → Chain p cs rs → Chain p' cs rs' →
    Shaped p → Shaped p' → Alike w p p' → (map seen rs ≡ map seen rs') × Alike w (final p rs) (final p' rs')
answers_determined w b done done f f' g = (refl, g)
answers_determined w {p} {p'} b (call {c = c} {r = r} h t) (call {r = r'} h' t') f f' g =
    let x = call_alike w p p' f f' g c r r' (every_head b) h h' in
    let y = answers_determined w (every_tail b) t t' (call_kept p f c r h).shaped (call_kept p' f' c r' h').shaped x.part in
    (ap₂ ◌∷◌ (ap₂ (λ a i. (a, i)) x.answer x.position) y.0, y.1)
