-- Bounds on the sheets of an input: how long what is printed of them is, and how many bytes of the text decide it. An accepted sheet has at most
-- 138 bytes for each of its tables, of which a part has at most 800, and what comes of the next sheet is decided by as many bytes as 256
-- lines may have.
use Rattle.std.specs.Prelude.{ℕ, suc, ◌+◌, ◌-◌, ◌*◌, ◌≤◌, ◌≡◌, refl, List, ◌++◌, length}
use Rattle.std.proofs.Common.{arith, mul-le-mul_right, sym, ap, subst, length-append}
use Rattle.lists.specs.Trusted.Checked.{passed}
use Rattle.tree.specs.Measures.{leaves}
use Rattle.cover.specs.Trusted.CoverTables.{Circuit}
use Rattle.cover.specs.Nets.{cover_fewest}
use Rattle.sheet.specs.Trusted.Sheet.{DrawnSheet}
use Rattle.sheet.specs.Trusted.Trees.{tree_of}
use Rattle.sheet.specs.Trusted.Read.{read_sheet}
use Rattle.sheet.specs.Trusted.Cut.{sheet_text}
use Rattle.sheet.specs.CutLaws.{text_whole}
use Rattle.sheet.specs.SizeLaws.{read_short}
use Rattle.sheet.specs.FrontLaws.{sheet_room, front_read, front_rest}
use Rattle.joined.proofs.JoinedLaws.{joined_leaves}
use Rattle.table.specs.Trusted.Limits.{table_room}
use Rattle.part.specs.Trusted.Parts.{Shaped}
use Rattle.part.specs.Trusted.Sound.{Sound}
use Rattle.part.specs.Trusted.Ways.{Way, least, fastest, NumberBy}
use Rattle.part.specs.Trusted.Answers.{Answer, accepted}
use Rattle.part.specs.Trusted.Add.{Add}
use Rattle.part.specs.Trusted.Reading.{read_of}
use Rattle.part.proofs.AddLaws.{AddCase, unsound, misread, driven, read, full, taken, add_case, kept, not_refused}
use Rattle.part.proofs.WayLaws.{reading_drawn, some_tables, chosen_number}
use Rattle.part.specs.declared.Part.{Part}
use Rattle.sheets.specs.Trusted.Sheets.{SheetsPrint, ended, stopped, added}

-- ---- how long what is printed is

-- a refusal's line has 19 bytes
module _ {w : Way} {final : Part → List ℕ} (most : ℕ) (line : 19 ≤ most) (short : (p : Part) → Sound p → length (final p) ≤ most) where
  pub sheets_short : {p : Part} {n : ℕ} {text out : List ℕ} → Shaped p → Sound p → SheetsPrint w final p n text out → length out ≤ most
  sheets_short {p} f h ended = short p h
  sheets_short f h (stopped q number place l a) = line
  sheets_short {p} f h (added q l a m) =
      let k = kept p f (add_case w p _ q accepted a) in
      sheets_short k.shaped (k.sound h) m

-- ---- an accepted sheet

-- the most bytes of an accepted sheet for each of its tables
abbrev table_bytes : ℕ
table_bytes = 138

-- all tables of a part, and the sheet after them
abbrev pub sheets_enough : ℕ
sheets_enough = table_bytes * table_room + sheet_room

-- each table of a cover takes in at most K, and gives one
number_leaves : (w : Way) (p : Part) (s : Circuit) (n : ℕ) → NumberBy w p s n → length (leaves s.tree) - 1 ≤ (p.k - 1) * n
number_leaves least p s n l = let c = l.some in rw (← c.2) (cover_fewest p.k c.1)
number_leaves fastest p s n l = let c = l.1.some in rw (← c.3) (cover_fewest p.k c.1)

-- it was read, and is no longer than its tables allow
record Took (p : Part) (text : List ℕ) (q : Part) : Type 0 where
  sheet : DrawnSheet
  read : read_sheet text ≡ passed sheet
  short : table_bytes * p.used + length text ≤ table_bytes * q.used

took : (w : Way) (p : Part) (text : List ℕ) (q : Part) → Add w p text q accepted → Took p text q
took w p text q a = of (add_case w p text q accepted a)
  where
    of : AddCase w p text q accepted → Took p text q
    of (unsound n r) = absurd (not_refused r.1 refl)
    of (misread number place s i r) = absurd (not_refused r.1 refl)
    of (driven s h i d r) = absurd (not_refused r.1 refl)
    of (read s h i d l r) = absurd (not_refused r.1 refl)
    of (full s n h i f l m r) = absurd (not_refused r.1 refl)
    of (taken s h i f t room) =
        let (d, e, j) = reading_drawn w text s i in
        let n = chosen_number w p s t.new t.chosen in
        let k : (p.k - 1) * length t.new ≤ 5 * length t.new = mul-le-mul_right (length t.new) (omega (arith, h.k_range)) in
        record {
          sheet = d;
          read = e;
          short = omega (
            arith,
            number_leaves w p s (length t.new) n,
            some_tables w p s (length t.new) n,
            read_short text d e,
            ap length (joined_leaves (tree_of d)),
            ap (λ (x : Circuit). length (leaves x.tree)) j,
            ap (λ (o : Part). o.used) t.part,
          );
        }

-- ---- sheets one after the other

-- an add goes by what is read of the text
add_read : (w : Way) (p : Part) (text text₁ : List ℕ) (q : Part) (a : Answer) → read_sheet text₁ ≡ read_sheet text → Add w p text q a → Add w p text₁ q a
unfolding Add read_of
add_read least p text text₁ q a e h = rw e h
add_read fastest p text text₁ q a e h = rw e h

-- bytes after so many are not looked at
pub sheets_front : {w : Way} {final : Part → List ℕ} (more : List ℕ) {p : Part} {n : ℕ} {text out : List ℕ} → Shaped p → Sound p →
    sheets_enough ≤ table_bytes * p.used + length text → SheetsPrint w final p n text out → SheetsPrint w final p n (text ++ more) out
sheets_front more shape sound l ended = absurd (omega (arith, sound.used_fits, sound.capacity_range))
sheets_front {w} more {p} {text = text} shape sound l (stopped q number place h a) =
    let long : sheet_room ≤ length text = omega (arith, sound.used_fits, sound.capacity_range) in
    stopped {text = text ++ more} q number place (omega (arith, length-append text more)) (add_read w p (sheet_text text).0 (sheet_text (text ++ more)).0 q _ (front_read text more long) a)
sheets_front {w} {final} more {p} {n} {text} {out} shape sound l (added q h a m) =
    let t = took w p (sheet_text text).0 q a in
    let g = kept p shape (add_case w p (sheet_text text).0 q accepted a) in
    let e = front_rest text more t.sheet t.read in
    added {text = text ++ more} q (omega (arith, length-append text more))
    (subst (λ (r : List ℕ × List ℕ). Add w p r.0 q accepted) (sym e) a)
    (subst (λ (r : List ℕ × List ℕ). SheetsPrint w final q (suc n) r.1 out) (sym e)
    (sheets_front more g.shaped (g.sound sound) (omega (arith, t.short, length-append (sheet_text text).0 (sheet_text text).1, ap length (text_whole text))) m))
