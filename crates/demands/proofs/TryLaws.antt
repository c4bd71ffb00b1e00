-- One sheet in a call, which is an add on the part that it stands on or a reservation: what it leaves as it was, what it brings, 23, and the
-- used count.
use Rattle.std.specs.Prelude.{ℕ, ◌+◌, ◌≡◌, refl, List, [], ◌∷◌, ◌++◌, length}
use Rattle.std.proofs.Common.{arith, sym, ap, ◌∙◌, subst}
use Rattle.lists.specs.Trusted.Lists.{◌∈◌, Every}
use Rattle.lists.specs.ListLaws.{every_head, every_tail}
use Rattle.lists.specs.Trusted.Checked.{Checked, passed, refused as unread}
use Rattle.cover.specs.Trusted.Tables.{LookupTable}
use Rattle.cover.specs.Trusted.CoverTables.{Circuit}
use Rattle.part.specs.Trusted.Parts.{in_use, tables_of, available, Shaped}
use Rattle.part.specs.Trusted.Sound.{Sound}
use Rattle.part.specs.Trusted.Ways.{Way, reading, NumberBy}
use Rattle.part.proofs.WayLaws.{reading_below, number_unique, chosen_number}
use Rattle.part.specs.Trusted.Answers.{Answer, accepted, refused}
use Rattle.part.specs.Trusted.Add.{Accepted, Add}
use Rattle.part.specs.Trusted.Tries.{Purpose, adding, reserving, Try}
use Rattle.part.specs.Trusted.Reservations.{SetAside, Reserved, Reserves}
use Rattle.part.specs.ExtendedLaws.{extended_in_use, extended_tables}
use Rattle.part.proofs.AddLaws.{Kept, AddCase, unsound, misread, driven, read, full, taken, add_case, kept, same_kept, kept_trans, not_refused}
use Rattle.part.specs.declared.Part.{Part}
use Rattle.demands.specs.KeptLaws.{add_reserved}
use Rattle.demands.specs.Trusted.Calls.{SheetEntry, entered, sheet_entries}
use Rattle.demands.specs.Trusted.Demands.{Passes, Total, none, more, Taken, Brings, RoomTold, Accounted, OnEachOther, no_try, next_try}

-- two readings
pub same_sheet : {v : Checked Circuit} {s t : Circuit} → v ≡ passed s → v ≡ passed t → s ≡ t
same_sheet e f = cc

not_read : {v : Checked Circuit} {number place : ℕ} {s : Circuit} → v ≡ unread number place → v ≡ passed s → ⊥
not_read e f = let z : ◌≡◌ {A = ℕ} 0 1 = cc in omega arith

-- two refusals
pub same_number : {a : Answer} {m l n k : ℕ} → a ≡ refused m l → a ≡ refused n k → m ≡ n
same_number e f = cc

-- ---- sums of numbers

-- there is only one
pub total_unique : {m n : ℕ} {es : List SheetEntry} → Total es m → Total es n → m ≡ n
total_unique none none = refl
total_unique (more {e = e} a l t) (more b i u) = omega (arith, number_unique e.way e.part e.sheet l i, total_unique t u)

pub total_append : {m n : ℕ} {es fs : List SheetEntry} → Total es m → Total fs n → Total (es ++ fs) (m + n)
total_append {n = n} {fs = fs} none u = let e : n ≡ 0 + n = omega arith in subst (Total fs) e u
total_append {n = n} {fs = fs} (more {e = e} {es = es} a {m = b} l t) u =
    let i : a + (b + n) ≡ a + b + n = omega arith in
    subst (Total (e ∷ (es ++ fs))) i (more a l (total_append t u))

-- the count v is u plus the sum of the sheets' numbers
pub record CountGrown (es : List SheetEntry) (u v : ℕ) : Type 0 where
  pub sum : ℕ
  pub total : Total es sum
  pub count : v ≡ u + sum

pub none_grown : (u v : ℕ) → v ≡ u → CountGrown [] u v
none_grown u v e = record { sum = 0; total = none; count = omega arith }

pub grown_append : {es fs : List SheetEntry} {u v w : ℕ} → CountGrown es u v → CountGrown fs v w → CountGrown (es ++ fs) u w
grown_append g h = record { sum = g.sum + h.sum; total = total_append g.total h.total; count = omega (arith, g.count, h.count) }

-- ---- the cases of an add, for 23

module _ {w : Way} {p : Part} {text : List ℕ} {q : Part} {a : Answer} where
  -- 23, or accepted
  case_room : AddCase w p text q a → (s : Circuit) → Passes w p text s → RoomTold (available p) w p s a
  case_room (unsound n r) s g = absurd (n g.sound)
  case_room (misread number place h e r) s g = absurd (not_read e g.read)
  case_room (driven u h e d r) s g = let i = same_sheet e g.read in absurd ((g.fresh d.0 d.1).0 (d.2 ∙ ap (λ x. x.out) i))
  case_room (read u h e d i r) s g =
      let j = same_sheet e g.read in
      absurd ((g.fresh i.0 i.1).1 (subst (λ x. x.out ∈ i.0.inputs) j i.2))
  case_room (full u n h e f l m r) s g =
      let b : NumberBy w p s n = subst (λ x. NumberBy w p x n) (same_sheet e g.read) l in
      record {
        some = (n, b);
        refuses = λ x c. (λ y. omega (arith, m, number_unique w p s b c), λ y. r.1);
        accepts = λ x c. (λ y. absurd (not_refused r.1 y), λ y. absurd (omega (arith, m, y, number_unique w p s b c)));
      }
  case_room (taken u h e f v room) s g =
      let b : NumberBy w p s (length v.new) = subst (λ x. NumberBy w p x (length v.new)) (same_sheet e g.read) (chosen_number w p u v.new v.chosen) in
      record {
        some = (length v.new, b);
        refuses = λ x c. (λ y. absurd (not_refused y v.answer), λ y. absurd (omega (arith, room, y, number_unique w p s b c)));
        accepts = λ x c. (λ y. omega (arith, room, number_unique w p s b c), λ y. v.answer);
      }

  -- 23 for no other
  case_only : AddCase w p text q a → a ≡ refused 23 0 → (s : Circuit) × Passes w p text s
  case_only (unsound n r) f = absurd (omega (arith, same_number r.1 f))
  case_only (misread number place h e r) f = absurd (omega (arith, same_number r.1 f, reading_below w text number place e))
  case_only (driven s h e d r) f = absurd (omega (arith, same_number r.1 f))
  case_only (read s h e d i r) f = absurd (omega (arith, same_number r.1 f))
  case_only (full s n h e g l m r) f = (s, record { sound = h; read = e; fresh = g })
  case_only (taken s h e g u room) f = absurd (not_refused f u.answer)

-- ---- one sheet

-- an add on the part that it stands on
abbrev pub Adds : Try → Type 0
Adds t = Add t.way t.before t.text t.after t.answer

-- what is promised of it, by what it is looked at for
abbrev RuleFor : Purpose → Try → Type 0
RuleFor adding t = Adds t
RuleFor reserving t = Reserves t.way t.before t.text t.after t.answer

abbrev pub Trying : Try → Type 0
Trying t = RuleFor t.purpose t

pub adds : (t : Try) → t.purpose ≡ adding → Trying t → Adds t
adds t u h = subst (λ x. RuleFor x t) u h

-- its sheet, if one is read and added
abbrev pub entries_of : Try → List SheetEntry
entries_of t = entered t.purpose t.way t.before (reading t.way t.text)

set_aside : {w : Way} {p : Part} {text : List ℕ} {a : Answer} {q : Part} → Reserved w p text a q → a ≡ accepted → SetAside w p text q
set_aside {w} {p} {text} {q = q} r e = subst (λ a. Reserved w p text a q) e r

module _ (t : Try) (shape : Shaped t.before) where
  abbrev Case : Type 0
  Case = AddCase t.way t.before t.text t.after t.answer

  case : Adds t → Case
  case h = add_case t.way t.before t.text t.after t.answer h

  pub try_kept : Adds t → Kept t.before t.after
  try_kept h = kept t.before shape (case h)

  accepted_taken : (s : Circuit) → Sound t.before → reading t.way t.text ≡ passed s → (u : Accepted t.way t.before s t.after t.answer) →
      Taken t s u.new
  accepted_taken s h e u = record {
    read = e;
    records = ap in_use u.part ∙ extended_in_use t.before shape.records h u.new;
    tables = ap tables_of u.part ∙ extended_tables t.before shape.records h u.new;
    cover = u.chosen;
    number = chosen_number t.way t.before s u.new u.chosen;
    used = ap (λ q. q.used) u.part;
  }

  -- the tables taken
  outcome_taken : Case → t.answer ≡ accepted → (s : Circuit) × (new : List LookupTable) × Passes t.way t.before t.text s × Taken t s new
  outcome_taken (unsound n r) f = absurd (not_refused r.1 f)
  outcome_taken (misread number place h e r) f = absurd (not_refused r.1 f)
  outcome_taken (driven s h e d r) f = absurd (not_refused r.1 f)
  outcome_taken (read s h e d i r) f = absurd (not_refused r.1 f)
  outcome_taken (full s n h e g l m r) f = absurd (not_refused r.1 f)
  outcome_taken (taken s h e g u room) f = (s, u.new, record { sound = h; read = e; fresh = g }, accepted_taken s h e u)

  pub try_taken : Adds t → t.answer ≡ accepted → (s : Circuit) × (new : List LookupTable) × Passes t.way t.before t.text s × Taken t s new
  try_taken h = outcome_taken (case h)

  -- ONE SHEET
  pub try_accounted : Trying t → Accounted (available t.before) t
  try_accounted = of t.purpose refl
    where
      of : (u : Purpose) → t.purpose ≡ u → RuleFor u t → Accounted (available t.before) t
      of adding e h = record {
        brings = λ a. subst (λ u. Brings u t) (sym e) (let (s, new, p, k) = try_taken h a in (s, new, k));
        room = case_room (case h);
        only = case_only (case h);
      }
      of reserving e h =
          let c = add_case t.way t.before t.text h.0.0 t.answer h.0.1 in
          record { brings = λ a. subst (λ u. Brings u t) (sym e) (set_aside h.1 a); room = case_room c; only = case_only c }

  pub try_grown : t.purpose ≡ adding → Adds t → t.answer ≡ accepted → CountGrown (entries_of t) t.before.used t.after.used
  try_grown u h e =
      let (s, new, p, k) = try_taken h e in
      let i : entries_of t ≡ record { way = t.way; part = t.before; sheet = s } ∷ [] =
      ap (λ x. entered x t.way t.before (reading t.way t.text)) u ∙ ap (entered adding t.way t.before) k.read in
      record {
        sum = length new + 0;
        total = subst (λ es. Total es (length new + 0)) (sym i) (more (length new) k.number none);
        count = omega (arith, k.used);
      }

-- ---- sheets that stand one on what the other left, each accepted

pub line_kept : {p q : Part} {ts : List Try} → OnEachOther p ts q → Every Trying ts → Shaped p → Kept p q
line_kept {p} no_try h shape = same_kept p shape p refl
line_kept (next_try {t = t} u e l) h shape = let k = try_kept t shape (adds t u (every_head h)) in kept_trans k (line_kept l (every_tail h) k.shaped)

pub line_reserved : {p q : Part} {ts : List Try} → OnEachOther p ts q → Every Trying ts → q.reservation ≡ p.reservation
line_reserved no_try h = refl
line_reserved (next_try {t = t} u e l) h =
    line_reserved l (every_tail h) ∙ add_reserved (add_case t.way t.before t.text t.after t.answer (adds t u (every_head h)))

pub line_grown : {p q : Part} {ts : List Try} → OnEachOther p ts q → Every Trying ts → Shaped p → CountGrown (sheet_entries ts) p.used q.used
line_grown {p} no_try h shape = none_grown p.used p.used refl
line_grown (next_try {t = t} u e l) h shape =
    let g = adds t u (every_head h) in
    grown_append (try_grown t shape u g e) (line_grown l (every_tail h) (try_kept t shape g).shaped)
