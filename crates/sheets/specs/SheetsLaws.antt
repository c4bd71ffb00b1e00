-- Laws of the sheets of an input: an answer and its number, one sheet, and sheets one after the other.
use Rattle.std.specs.Prelude.{ℕ, suc, ◌+◌, ◌≤◌, ◌<◌, ◌≡◌, refl, cond, List, [], ◌∷◌, length, drop, Ok, Err}
use Rattle.std.proofs.Common.{add-one, arith, sym, ap, ◌∙◌, subst, eq-eqb, ne_eqb, length-drop}
use Rattle.lists.specs.Trusted.Checked.{Checked, passed, refused as unread, ◌>>=◌}
use Rattle.sheet.specs.declared.Refusal.{Refusal}
use Rattle.sheet.specs.declared.Refusal.TheVariants.{Layout, OutputNet, GateCount, GateKind, FaninCount, NoSource, GateTwice, NetTwice, OutputLeaf, LeafCount, GateUnread}
use Rattle.sheet.specs.Trusted.Sheet.{DrawnSheet}
use Rattle.sheet.specs.Trusted.Read.{read_sheet}
use Rattle.sheet.specs.Trusted.Cut.{sheet_text, next_read}
use Rattle.sheet.specs.CutLaws.{leaving, next_is, text_less}
use Rattle.sheet.specs.Trusted.Formed.{WellFormed}
use Rattle.sheet.specs.ReadLaws.{read_formed}
use Rattle.sheet.specs.Trusted.Answers.{number_of, drawn_sheet}
use Rattle.sheet.specs.Trusted.Promise.{NextRead}
use Rattle.sheet.specs.declared.SheetError.{SheetError}
use Rattle.sheet.specs.declared.Next.{Next}
use Rattle.table.specs.Trusted.Limits.{table_room}
use Rattle.part.specs.Trusted.Parts.{Shaped}
use Rattle.part.specs.Trusted.Sound.{Sound}
use Rattle.part.specs.Trusted.Answers.{Answer, accepted, refused}
use Rattle.part.specs.Trusted.Ways.{Way}
use Rattle.part.proofs.WayLaws.{some_tables, chosen_number}
use Rattle.part.specs.Trusted.Add.{Offer, Add}
use Rattle.part.proofs.AddLaws.{AddCase, unsound, misread, driven, read, full, taken, add_case, add_sound, kept, not_refused}
use Rattle.joined_mapper.specs.JoinedMap.{circuit_of}
use Rattle.part.proofs.StoringLaws.{add_misread, add_offered}
use Rattle.part.specs.Trusted.AddAnswers.{add_refusal}
use Rattle.part.specs.declared.Part.{Part}
use Rattle.part.specs.declared.AddError.{AddError}
use Rattle.part.specs.declared.AddError.TheVariants.{Misread}
use Rattle.part.specs.declared.NumberedRefusal.{NumberedRefusal}
use Rattle.opening.specs.Promises.{told}
use Rattle.opening.specs.declared.Told.{Told}
use Rattle.printing.specs.Trusted.RefusalLine.{refusal_line}
use Rattle.sheets.specs.Trusted.Sheets.{SheetsPrint, ended, stopped, added}
use Rattle.sheets.specs.Promises.{Stepped, Ended}

-- ---- an answer and its number

pub number_some : (why : Refusal) → 0 < number_of why
number_some Layout = omega arith
number_some OutputNet = omega arith
number_some GateCount = omega arith
number_some GateKind = omega arith
number_some FaninCount = omega arith
number_some NoSource = omega arith
number_some GateTwice = omega arith
number_some NetTwice = omega arith
number_some OutputLeaf = omega arith
number_some LeafCount = omega arith
number_some GateUnread = omega arith

pub told_refused : (t : Told) → (t.number ≡ 0 → ⊥) → told t ≡ refused t.number t.line
told_refused t d = ap (λ b. cond b accepted (refused t.number t.line)) (ne_eqb t.number 0 d)

pub told_accepted : (t : Told) → t.number ≡ 0 → told t ≡ accepted
told_accepted t e = ap (λ b. cond b accepted (refused t.number t.line)) (eq-eqb t.number 0 e)

pub told_misread : (n line : ℕ) (why : Refusal) → n ≡ number_of why → told (record { number = n; line = line }) ≡ refused (number_of why) line
told_misread n line why e =
    told_refused (record { number = n; line = line }) (λ z. omega (arith, number_some why, e, z)) ∙ ap (λ m. refused m line) e

-- ---- an accepted sheet takes a table or more

pub grown : (w : Way) (p : Part) (text : List ℕ) (q : Part) (a : Answer) → Add w p text q a → a ≡ accepted → p.used < q.used
grown w p text q a h e = of (add_case w p text q a h)
  where
    of : AddCase w p text q a → p.used < q.used
    of (unsound n r) = absurd (not_refused r.1 e)
    of (misread number place s i r) = absurd (not_refused r.1 e)
    of (driven s h i d r) = absurd (not_refused r.1 e)
    of (read s h i d l r) = absurd (not_refused r.1 e)
    of (full s n h i f l m r) = absurd (not_refused r.1 e)
    of (taken s h i f t room) =
        omega (arith, some_tables w p s (length t.new) (chosen_number w p s t.new t.chosen), ap (λ (o : Part). o.used) t.part)

-- ---- the sheet at a place

leaving_passed : {A : Type 0} (rest d : List ℕ) (a : A) (m : Checked A) → leaving rest m ≡ passed (a, d) → (m ≡ passed a) × (rest ≡ d)
unfolding ◌>>=◌
leaving_passed {A} rest d a (passed b) e =
    let h : ◌≡◌ {A = A × List ℕ} (b, rest) (a, d) = cc in
    (ap (λ (p : A × List ℕ). passed p.0) h, ap (λ (p : A × List ℕ). p.1) h)
leaving_passed rest d a (unread number place) e = let z : ◌≡◌ {A = ℕ} 0 1 = cc in absurd (omega arith)

leaving_refused : {A : Type 0} (rest : List ℕ) (number place : ℕ) (m : Checked A) → leaving rest m ≡ unread number place → m ≡ unread number place
unfolding ◌>>=◌
leaving_refused rest number place (passed b) e = let z : ◌≡◌ {A = ℕ} 0 1 = cc in absurd (omega arith)
leaving_refused rest number place (unread n l) e = cc

-- the sheet that was read off the front is the one that its text is, and the rest is the text after it
record Front (input : List ℕ) (at end : ℕ) (s : DrawnSheet) : Type 0 where
  read : read_sheet (sheet_text (drop at input)).0 ≡ passed s
  rest : (sheet_text (drop at input)).1 ≡ drop end input
  after : at < end

front : (input : List ℕ) (at end : ℕ) (s : DrawnSheet) → at < length input → end ≤ length input → next_read (drop at input) ≡ passed (s, drop end input) →
    Front input at end s
front input at end s h w e =
    let t = drop at input in
    let (r, d) = leaving_passed _ _ s _ (sym (next_is t) ∙ e) in
    record {
      read = r;
      rest = d;
      after = omega (arith, text_less t (omega (arith, length-drop at input)), length-drop at input, ap length d, length-drop end input);
    }

-- refused as it is read, or offered to the part
module _ (input : List ℕ) (p : Part) (at : ℕ) (sound : Sound p) (inside : at < length input) where
  pub stepped_misread : (w : Way) (e : SheetError) → NextRead input (next_read (drop at input)) (Err e) → Stepped w input p at p (Err (Misread e))
  stepped_misread w e h =
      let text = (sheet_text (drop at input)).0 in
      let m : read_sheet text ≡ unread (number_of e.why) e.line = leaving_refused _ (number_of e.why) e.line _ (sym (next_is (drop at input)) ∙ h.same) in
      record { add = add_misread w p text sound (number_of e.why) e.line m; shaped = λ s. s; sound = sound; onwards = tt }

  module _ (n : Next) (h : NextRead input (next_read (drop at input)) (Ok n)) where
    read_front_lem : Front input at n.end (drawn_sheet n.sheet)
    read_front_lem = front input at n.end (drawn_sheet n.sheet) inside h.within h.same

    pub next_formed : WellFormed (drawn_sheet n.sheet)
    next_formed = read_formed (sheet_text (drop at input)).0 (drawn_sheet n.sheet) read_front_lem.read

    module _ (records : length p.tables ≡ table_room) (w : Way) (q : Part) where
      added_so : (a : Answer) → Offer w p (circuit_of n.sheet) q a → Add w p (sheet_text (drop at input)).0 q a
      added_so a o = add_offered w p (sheet_text (drop at input)).0 sound (drawn_sheet n.sheet) read_front_lem.read q a o

      pub stepped_refused : (why : AddError) → Offer w p (circuit_of n.sheet) q (add_refusal why) → Stepped w input p at q (Err why)
      stepped_refused why o =
          let g = added_so (add_refusal why) o in
          let c = add_case w p (sheet_text (drop at input)).0 q (add_refusal why) g in
          record { add = g; shaped = λ s. (kept p s c).shaped; sound = add_sound p records c sound; onwards = tt }

      pub stepped_added : Offer w p (circuit_of n.sheet) q accepted → Stepped w input p at q (Ok n.end)
      stepped_added o =
          let r = read_front_lem in
          let text = (sheet_text (drop at input)).0 in
          let g = added_so accepted o in
          let c = add_case w p text q accepted g in
          record {
            add = g;
            shaped = λ s. (kept p s c).shaped;
            sound = add_sound p records c sound;
            onwards = record { rest = r.rest; grown = grown w p text q accepted g refl; after = r.after; within = h.within };
          }

-- ---- sheets one after the other

-- `sheet` sheets were accepted up to the place: what comes of the rest is what comes of all
pub record SheetsSoFar (w : Way) (input : List ℕ) (opened : Part) (start : ℕ) (part : Part) (at sheet : ℕ) : Type 0 where
  pub sound : Sound part
  pub few : sheet ≤ part.used
  pub whole : (final : Part → List ℕ) (out : List ℕ) → SheetsPrint w final part sheet (drop at input) out → SheetsPrint w final opened 0 (drop start input) out

pub sheets_start : (w : Way) (input : List ℕ) (opened : Part) (start : ℕ) → Sound opened → SheetsSoFar w input opened start opened start 0
sheets_start w input opened start s = record { sound = s; few = omega arith; whole = λ final out m. m }

module _ {w : Way} {input : List ℕ} {opened part : Part} {start at sheet : ℕ} (h : SheetsSoFar w input opened start part at sheet) where
  pub few_sheets : sheet ≤ 800
  few_sheets = omega (arith, h.few, h.sound.used_fits, h.sound.capacity_range)

  so_far_all : (final : Part → List ℕ) → length input ≤ at → SheetsPrint w final opened 0 (drop start input) (final part)
  so_far_all final l = h.whole final (final part) (subst (λ t. SheetsPrint w final part sheet t (final part)) (sym (nothing (drop at input) (omega (arith, length-drop at input)))) ended)
    where
      nothing : (xs : List ℕ) → length xs ≡ 0 → xs ≡ []
      nothing [] e = refl
      nothing (x ∷ xs) e = absurd (omega arith)

  module _ (q : Part) (l : at < length input) where
    left : 0 < length (drop at input)
    left = omega (arith, length-drop at input)

    pub sheets_more : (end : ℕ) → Stepped w input part at q (Ok end) → SheetsSoFar w input opened start q end (sheet + 1)
    sheets_more end s = record {
      sound = s.sound;
      few = omega (arith, h.few, s.onwards.grown);
      whole = λ final out m. h.whole final out
          (added q left s.add
          (subst (λ x. SheetsPrint w final q (suc sheet) x out) (sym s.onwards.rest) (subst (λ n. SheetsPrint w final q n (drop end input) out) (add-one sheet) m)));
    }

    -- the loop's ends
    pub ended_stop : (why : AddError) → Stepped w input part at q (Err why) → (r : NumberedRefusal) → add_refusal why ≡ refused r.number r.line →
        r.sheet ≡ sheet + 1 → 0 < r.number → Ended w opened (drop start input) q (Err r)
    ended_stop why s r e i d = record {
      mapped = λ final. subst (λ n. SheetsPrint w final opened 0 (drop start input) (refusal_line r.number n r.line)) (sym (i ∙ add-one sheet))
          (h.whole final _ (stopped q r.number r.line left (subst (Add w part (sheet_text (drop at input)).0 q) e s.add)));
      sound = s.sound;
      numbered = d;
    }

  pub ended_all : length input ≤ at → Ended w opened (drop start input) part (Ok tt)
  ended_all l = record { mapped = λ final. so_far_all final l; sound = h.sound; numbered = tt }

-- the same, and the part keeps its shape
pub record ShapedSoFar (w : Way) (input : List ℕ) (opened : Part) (start : ℕ) (part : Part) (at sheet : ℕ) : Type 0 where
  pub so_far : SheetsSoFar w input opened start part at sheet
  pub shaped : Shaped opened → Shaped part

pub shaped_start : (w : Way) (input : List ℕ) (opened : Part) (start : ℕ) → Sound opened → ShapedSoFar w input opened start opened start 0
shaped_start w input opened start s = record { so_far = sheets_start w input opened start s; shaped = λ x. x }

pub shaped_more : {w : Way} {input : List ℕ} {opened part : Part} {start at sheet : ℕ} → ShapedSoFar w input opened start part at sheet → (q : Part) → at < length input →
    (end : ℕ) → Stepped w input part at q (Ok end) → ShapedSoFar w input opened start q end (sheet + 1)
shaped_more h q l end s = record { so_far = sheets_more h.so_far q l end s; shaped = λ x. s.shaped (h.shaped x) }
