-- Demand 2: in a sound part each table has at most K inputs; and over every list of calls from an opening, in the last part the output
-- net of each accepted sheet has the value that its gates give.
use Rattle.std.specs.Prelude.{ℕ, ◌≤◌, ◌≡◌, refl, List, [], ◌∷◌, ◌++◌, length}
use Rattle.std.proofs.Common.{arith, sym, ap, ◌∙◌, subst, append_assoc, append-nil, length-take}
use mathlib.Core.List.Memᴰ
use Rattle.lists.specs.Trusted.Lists.{◌∈◌, first, later, Every}
use Rattle.lists.specs.ListLaws.{every_none, every_cons, every_head, every_tail, every_append, every_map}
use Rattle.lists.specs.Trusted.Checked.{passed}
use Rattle.tree.specs.Trusted.Limits.{code_base}
use Rattle.tree.specs.Trusted.Tree.{turned}
use Rattle.cover.specs.Trusted.Tables.{LookupTable}
use Rattle.cover.specs.Trusted.CoverTables.{Circuit}
use Rattle.cover.specs.History.{History, start, Met}
use Rattle.cover.proofs.HistoryLaws.{history_met}
use Rattle.sheet.specs.Trusted.Sheet.{DrawnSheet}
use Rattle.sheet.specs.Trusted.Trees.{tree_of}
use Rattle.sheet.specs.ValueLaws.{sheet_value_lem}
use Rattle.joined.proofs.JoinedLaws.{joined_value}
use Rattle.table.specs.Trusted.Records.{table_of}
use Rattle.part.specs.Trusted.Parts.{in_use, tables_of, Shaped}
use Rattle.part.specs.Trusted.Sound.{Sound}
use Rattle.part.specs.Trusted.Ways.{reading}
use Rattle.part.proofs.WayLaws.{reading_right, reading_drawn, chosen_added}
use Rattle.part.specs.Trusted.Answers.{accepted, refused}
use Rattle.part.specs.Trusted.Tries.{adding, Try, CallResult}
use Rattle.part.specs.Trusted.Add.{opened}
use Rattle.part.proofs.AddLaws.{not_refused}
use Rattle.part.proofs.OpenLaws.{opened_shaped, opened_empty}
use Rattle.demands.specs.Trusted.Calls.{Call, Promise, Chain, done, call, final, SheetEntry, entered, sheet_entries, if_accepted, accepted_by, accepted_in, Link, here, next}
use Rattle.demands.specs.Trusted.Demands.{OnEachOther, no_try, next_try, TriedSheets, before_any, every, up_to, sets_aside, values_in, last_part, Served, CallServed}
use Rattle.demands.proofs.TryLaws.{Adds, Trying, adds, entries_of, try_kept, try_taken}
use Rattle.demands.proofs.CallLaws.{call_tries, call_tried, stands_kept, call_same_tables, call_kept}
use Rattle.part.specs.declared.Part.{Part}

-- ---- inputs

pub sound_narrow : (p : Part) → Sound p → Every (λ t. length t.inputs ≤ p.k) (tables_of p)
sound_narrow p h = every_map (λ t. length t.inputs ≤ p.k) table_of (in_use p) (λ r m. rw length-take (omega (arith, (h.rules.sized r m).1)))

-- ---- what stays, and what is known of the whole part

-- the old tables stay, and those of a later part stand after them
record Grows (p q : Part) : Type 0 where
  more : List LookupTable
  tables : tables_of q ≡ tables_of p ++ more

same_grows : (p q : Part) → q ≡ p → Grows p q
same_grows p q e = record { more = []; tables = ap tables_of e ∙ sym (append-nil (tables_of p)) }

grows_trans : {p q r : Part} → Grows p q → Grows q r → Grows p r
grows_trans {p} g h = record {
  more = g.more ++ h.more;
  tables = h.tables ∙ ap (λ ts. ts ++ h.more) g.tables ∙ append_assoc (tables_of p) g.more h.more;
}

-- the part is made by adding sheets, those of `ss` and of `es` among them
record Made (k : ℕ) (q : Part) (ss : List Circuit) (es : List SheetEntry) : Type 0 where
  sheets : List Circuit
  history : History code_base k (tables_of q) sheets
  old : Every (λ s. s ∈ sheets) ss
  new : Every (λ e. e.sheet ∈ sheets) es

-- the sheet of a try has its tables, which stand unchanged in the part q; it is one of `es`
record Stands (t : Try) (q : Part) (es : List SheetEntry) : Type 0 where
  sheet : Circuit
  new : List LookupTable
  read : reading t.way t.text ≡ passed sheet
  tables : tables_of t.after ≡ tables_of t.before ++ new
  stay : Grows t.after q
  mine : record { way = t.way; part = t.before; sheet = sheet } ∈ es

stands_on : (t : Try) (q r : Part) (es fs : List SheetEntry) → Grows q r → Every (λ e. e ∈ fs) es → Stands t q es → Stands t r fs
stands_on t q r es fs g i s = record {
  sheet = s.sheet;
  new = s.new;
  read = s.read;
  tables = s.tables;
  stay = grows_trans s.stay g;
  mine = i _ s.mine;
}

-- what the sheets of accepted tries bring, from the part p to the part q
record Serves (k : ℕ) (p q : Part) (ts : List Try) (es : List SheetEntry) : Type 0 where
  grows : Grows p q
  made : (ss : List Circuit) → History code_base k (tables_of p) ss → Made k q ss es
  each : Every (λ t. Stands t q es) ts

serves_none : (k : ℕ) (p q : Part) → q ≡ p → Serves k p q [] []
serves_none k p q e = record {
  grows = same_grows p q e;
  made = λ ss h. record { sheets = ss; history = subst (λ q. History code_base k (tables_of q) ss) (sym e) h; old = λ s m. m; new = every_none _ };
  each = every_none _;
}

-- ---- one sheet, and then others

module _ (t : Try) (shape : Shaped t.before) (u : t.purpose ≡ adding) (h : Adds t) (a : t.answer ≡ accepted) where
  serves_cons : (q : Part) (ts : List Try) → Serves t.before.k t.after q ts (sheet_entries ts) → Serves t.before.k t.before q (t ∷ ts) (sheet_entries (t ∷ ts))
  serves_cons q ts v =
      let (s, new, p, k) = try_taken t shape h a in
      let e : entries_of t ≡ record { way = t.way; part = t.before; sheet = s } ∷ [] =
      ap (λ x. entered x t.way t.before (reading t.way t.text)) u ∙ ap (entered adding t.way t.before) k.read in
      record {
        grows = grows_trans (record { more = new; tables = k.tables }) v.grows;
        made = λ ss g.
            let added = History.add g (reading_right t.way t.text s k.read).legal (chosen_added t.way t.before s new k.cover) p.fresh in
            let n = v.made (s ∷ ss) (subst (λ ts. History code_base t.before.k ts (s ∷ ss)) (sym k.tables) added) in
            record {
              sheets = n.sheets;
              history = n.history;
              old = λ u i. n.old u (later i);
              new = every_append (entries_of t) (sheet_entries ts) (subst (Every (λ x. x.sheet ∈ n.sheets)) (sym e) (every_cons (n.old s (first refl)) (every_none _))) n.new;
            };
        each = every_cons
            (record {
              sheet = s;
              new = new;
              read = k.read;
              tables = k.tables;
              stay = v.grows;
              mine = Memᴰ.append_left (sheet_entries ts) (subst (λ es. record { way = t.way; part = t.before; sheet = s } ∈ es) (sym e) (first refl));
            })
            (λ u m. stands_on u q q (sheet_entries ts) (sheet_entries (t ∷ ts)) (same_grows q q refl) (λ x i. Memᴰ.append_right (entries_of t) i) (v.each u m));
      }

line_serves : {p q : Part} {ts : List Try} → OnEachOther p ts q → Every Trying ts → Shaped p → Serves p.k p q ts (sheet_entries ts)
line_serves {p} no_try h shape = serves_none p.k p p refl
line_serves {q = q} (next_try {t = t} {ts = ts} u a l) h shape =
    let g = adds t u (every_head h) in
    let k = try_kept t shape g in
    serves_cons t shape u g a q ts (subst (λ n. Serves n t.after q ts (sheet_entries ts)) k.same_k (line_serves l (every_tail h) k.shaped))

-- ---- a call: what it brings to the part, and of each of its sheets where it turns nothing down

record CallServes (k : ℕ) (p : Part) (r : CallResult) : Type 0 where
  grows : Grows p r.part
  made : (ss : List Circuit) → History code_base k (tables_of p) ss → Made k r.part ss (accepted_by r)
  each : r.answer ≡ accepted → Every (λ t. t.purpose ≡ adding → Stands t r.part (accepted_by r)) r.tries

call_serves : (o : Part) → Shaped o → (c : Call) (r : CallResult) → Promise o c r → CallServes o.k o r
call_serves o shape c r h = of (call_tried o c r h)
  where
    none_served : (number place : ℕ) → r.answer ≡ refused number place → r.part ≡ o → CallServes o.k o r
    none_served number place e f =
        let z = serves_none o.k o r.part f in
        let n : [] ≡ accepted_by r = ap (λ a. if_accepted a (sheet_entries r.tries)) (sym e) in
        record {
          grows = z.grows;
          made = subst (λ es. (ss : List Circuit) → History code_base o.k (tables_of o) ss → Made o.k r.part ss es) n z.made;
          each = λ a. absurd (not_refused e a);
        }

    of : TriedSheets o c r → CallServes o.k o r
    of (before_any n f e) = none_served n 0 (ap (λ r. r.answer) e) (ap (λ r. r.part) e)
    of (every e l a) =
        let s = line_serves l (call_tries o c r h) (stands_kept c o shape).shaped in
        let n : sheet_entries r.tries ≡ accepted_by r = ap (λ a. if_accepted a (sheet_entries r.tries)) (sym a) in
        record {
          grows = record { more = s.grows.more; tables = s.grows.tables };
          made = subst (λ es. (ss : List Circuit) → History code_base o.k (tables_of o) ss → Made o.k r.part ss es) n s.made;
          each = λ i t m u. subst (λ es. Every (λ t. Stands t r.part es) r.tries) n s.each t m;
        }
    of (up_to ahead t rest m n e s l i j f) = none_served m n (j ∙ i) f
    of (sets_aside text i e) =
        let z = call_same_tables o shape c r h text e in
        record {
          grows = record { more = []; tables = z ∙ sym (append-nil (tables_of o)) };
          made = subst (λ es. (ss : List Circuit) → History code_base o.k (tables_of o) ss → Made o.k r.part ss es) (sym (ap accepted_by e))
              (λ ss g. record { sheets = ss; history = subst (λ ts. History code_base o.k ts ss) (sym z) g; old = λ s m. m; new = every_none _ });
          each = λ a. subst (Every (λ t. t.purpose ≡ adding → Stands t r.part (accepted_by r))) (sym (ap (λ r. r.tries) e))
              (every_cons (λ u. let x : ◌≡◌ {A = ℕ} 0 1 = cc in absurd (omega arith)) (every_none _));
        }

-- ---- a chain of calls

chain_grows : {p : Part} {cs : List Call} {rs : List CallResult} → Chain p cs rs → Shaped p → Grows p (final p rs)
chain_grows {p} done shape = same_grows p p refl
chain_grows {p} (call {c = c} {r = r} h t) shape = grows_trans (call_serves p shape c r h).grows (chain_grows t (call_kept p shape c r h).shaped)

chain_made : {p : Part} {cs : List Call} {rs : List CallResult} → Chain p cs rs → Shaped p → (ss : List Circuit) → History code_base p.k (tables_of p) ss →
    Made p.k (final p rs) ss (accepted_in rs)
chain_made done shape ss g = record { sheets = ss; history = g; old = λ s m. m; new = every_none _ }
chain_made {p} (call {c = c} {r = r} {rs = rs} h t) shape ss g =
    let k = call_kept p shape c r h in
    let m = (call_serves p shape c r h).made ss g in
    let n = chain_made t k.shaped m.sheets (subst (λ n. History code_base n (tables_of r.part) m.sheets) (sym k.same_k) m.history) in
    record {
      sheets = n.sheets;
      history = subst (λ i. History code_base i (tables_of (final r.part rs)) n.sheets) k.same_k n.history;
      old = λ s i. n.old s (m.old s i);
      new = every_append (accepted_by r) (accepted_in rs) (λ e i. n.old e.sheet (m.new e i)) n.new;
    }

link_stands : {p o : Part} {cs : List Call} {rs : List CallResult} {es : List SheetEntry} {d : Call} {r : CallResult} → Link p cs rs es o d r → Chain p cs rs →
    Shaped p → r.answer ≡ accepted → Every (λ t. t.purpose ≡ adding → Stands t (final p rs) (accepted_in rs)) r.tries
link_stands {p} (here {d = d} {t = r} {rs = rs}) (call h g) shape a t m u =
    stands_on t r.part (final r.part rs) (accepted_by r) (accepted_by r ++ accepted_in rs) (chain_grows g (call_kept p shape d r h).shaped)
    (λ e i. Memᴰ.append_left (accepted_in rs) i) ((call_serves p shape d r h).each a t m u)
link_stands {p} (next {c = c} {r = r} {rs = rs} l) (call h g) shape a t m u =
    let last = final r.part rs in
    stands_on t last last (accepted_in rs) (accepted_by r ++ accepted_in rs) (same_grows last last refl) (λ e i. Memᴰ.append_right (accepted_by r) i)
    (link_stands l g (call_kept p shape c r h).shaped a t m u)

module _ (p : Part) (shape : Shaped p) (history : History code_base p.k (tables_of p) []) (cs : List Call) (rs : List CallResult) (chain : Chain p cs rs) where
  made : Made p.k (final p rs) [] (accepted_in rs)
  made = chain_made chain shape [] history

  stands_served : (t : Try) → Stands t (final p rs) (accepted_in rs) → (d : DrawnSheet) × (new : List LookupTable) × Served (final p rs) t d new
  stands_served t z =
      let (d, read, is) = reading_drawn t.way t.text z.sheet z.read in (
        d,
        z.new,
        record {
          read = read;
          tables = z.tables;
          stay = (z.stay.more, z.stay.tables);
          value = λ σ.
              let v = values_in (final p rs) σ in
              let met = history_met code_base p.k made.history σ z.sheet (made.new _ z.mine) in
              subst (Met v) (sym is) met ∙ ap (turned d.inverted) (joined_value v (tree_of d)) ∙ sym (sheet_value_lem v d);
        },
      )

  served : (es : List SheetEntry) (o : Part) (c : Call) (r : CallResult) → Link p cs rs es o c r → CallServed (final p rs) r
  served es o c r l a t m u = stands_served t (link_stands l chain shape a t m u)

-- DEMAND 2: every list of calls from an opening
pub opened_served : (k capacity : ℕ) → (opened k capacity).answer ≡ accepted → (cs : List Call) (rs : List CallResult) →
    Chain (opened k capacity).part cs rs → (es : List SheetEntry) (o : Part) (c : Call) (r : CallResult) →
    Link (opened k capacity).part cs rs es o c r → CallServed (last_part k capacity rs) r
opened_served k capacity a cs rs chain es o c r l =
    let e = opened_empty k capacity a in
    served (opened k capacity).part (opened_shaped k capacity) (subst (λ q. History code_base q.k (tables_of q) []) (sym e) start) cs rs chain es o c r l
