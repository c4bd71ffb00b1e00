-- The tests of an output net over the records in use; and the mapping's records as a sheet's tables.
use Rattle.std.specs.Prelude.{ℕ, ◌+◌, ◌≤◌, ◌<◌, ◌≡◌, refl, Bool, true, false, ◌||◌, List, [], ◌∷◌, ◌++◌, map, eqb, length, get_or, take, drop, replicate, Option, Some, None, Ok, Err, ok_or, MatchOption}
use Rattle.std.proofs.Common.{arith, add-one, sym, ap, ap₂, ◌∙◌, subst, ⊎_elim, append_assoc, le-leb, length-append, take-suc, length-take-le, get_or-take}
use Rattle.std.proofs.Math.Bool.{or_assoc, or-false}
use Rattle.std.proofs.lemmas.Bool.{lt-leb}
use Rattle.std.proofs.lemmas.List.{length-map, length-replicate}
use Rattle.std.proofs.Math.ListN.{get_or-map}
use Rattle.std.proofs.Math.Seq.{take-length}
use Rattle.lists.specs.ListLaws.{every_at}
use Rattle.lists.specs.Trusted.Tests.{any, elem}
use Rattle.lists.specs.TestLaws.{reflects_true}
use Rattle.tree.specs.Trusted.Limits.{greatest_net, code_base}
use Rattle.lists.specs.Trusted.Checked.{passed, refused as unread, ◌>>=◌}
use Rattle.cover.specs.Trusted.Tables.{LookupTable, table_level, code_levels}
use Rattle.cover.specs.Eval.{every_numbered, Agree}
use Rattle.cover.specs.LevelLaws.{codes_most}
use Rattle.cover.proofs.CoverTableLaws.{added_tidy}
use Rattle.cover.specs.Trusted.CoverTables.{Circuit, CoverTables, LeastCoverTables}
use Rattle.levels.specs.Trusted.Levels.{level as coverLevel, Fastest}
use Rattle.levels.specs.Trusted.LevelTables.{FastestCoverTables}
use Rattle.levels.proofs.SameLaws.{split_level, fastest_same}
use Rattle.sheet.specs.Trusted.Sheet.{DrawnSheet}
use Rattle.sheet.specs.declared.Sheet.{Sheet as CodeSheet}
use Rattle.sheet.specs.Trusted.Read.{read_sheet}
use Rattle.sheet.specs.Trusted.Answers.{drawn_sheet}
use Rattle.sheet.specs.Trusted.Formed.{WellFormed}
use Rattle.joined.specs.Trusted.Covered.{covered}
use Rattle.table.specs.declared.Table.{Table}
use Rattle.table.specs.Trusted.Limits.{table_room}
use Rattle.table.specs.Trusted.Records.{reads, table_of, record_of, blank}
use Rattle.table.specs.RecordLaws.{after_length, after_at}
use Rattle.table.specs.Trusted.Rules.{Padded}
use Rattle.table.specs.ResultLaws.{says_true}
use Rattle.table.specs.LevelTest.{level_in, noted, LevelsStand}
use Rattle.table.specs.LevelTestLaws.{level_stands, levels_next}
use Rattle.table.specs.LoopLaws.{take_next, take_none}
use Rattle.pending.specs.declared.Lut.{Lut}
use Rattle.pending.specs.Luts.{lut_reads, lut_table}
use Rattle.pending.specs.Pendings.{MergeKept}
use Rattle.mapper_laws.specs.declared.Mapping.{Mapping}
use Rattle.mapper_laws.specs.CodeRun.{no_table}
use Rattle.mapper_laws.specs.CodeMap.{Sheetable, most_tables}
use Rattle.level_sheets.specs.Lined.{net_level}
use Rattle.level_mapping.specs.FastMapping.{LevelsLow}
use Rattle.joined_mapper.specs.JoinedMap.{circuit_of, JoinedMapped}
use Rattle.joined_level_mapper.specs.JoinedFast.{JoinedFast}
use Rattle.part.specs.Trusted.Parts.{in_use, tables_of, available}
use Rattle.part.specs.Trusted.Sound.{Sound}
use Rattle.part.specs.Trusted.SoundTest.{sound}
use Rattle.part.specs.SoundLaws.{sound_reflects, used_count}
use Rattle.part.specs.Trusted.Reading.{read_of}
use Rattle.part.specs.Trusted.Answers.{Answer, accepted, refused}
use Rattle.part.specs.Trusted.Ways.{Way, least, fastest, reading, NumberBy}
use Rattle.part.proofs.WayLaws.{chosen_number}
use Rattle.part.specs.Trusted.Add.{extended, is_driven, net_read, Fill, Offer, Add}
use Rattle.part.specs.ExtendedLaws.{extended_tables}
use Rattle.part.specs.Storing.{new_tables, new_records, stored, Storable, Offered, MappedBy}
use Rattle.part.specs.declared.Part.{Part}
use Rattle.part_records.specs.declared.Uses.{Uses}
use Rattle.part_records.specs.Uses.{with_table}

-- ---- the output net among the records in use

any_map : {A B : Type 0} (f : B → Bool) (g : A → B) (xs : List A) → any f (map g xs) ≡ any (λ x. f (g x)) xs
any_map f g [] = refl
any_map f g (x ∷ xs) = ap (λ b. f (g x) || b) (any_map f g xs)

pub used_padded : (p : Part) → Sound p → p.used ≤ length p.tables → (i : ℕ) (z : Table) → i < p.used → Padded (get_or p.tables i z)
used_padded p s room i z l =
    subst Padded (get_or-take p.used p.tables i z l)
    (every_at {P = Padded} (in_use p) i z s.rules.padded (omega (arith, length-take-le p.used p.tables room)))

-- the records before i were looked at: the net is used as they say, or by a record from i on
pub record Looked (p : Part) (n i : ℕ) (u : Uses) : Type 0 where
  pub driven : is_driven n (tables_of p) ≡ (u.driven || any (λ r. eqb r.net n) (drop i (in_use p)))
  pub read : net_read n (tables_of p) ≡ (u.read || any (λ r. elem n (reads r)) (drop i (in_use p)))

pub looked_none : (p : Part) (n : ℕ) → Looked p n 0 (record { driven = false; read = false })
looked_none p n = record {
  driven = any_map (λ t. eqb t.drives n) table_of (in_use p);
  read = any_map (λ t. elem n t.inputs) table_of (in_use p);
}

module _ {p : Part} {n i : ℕ} {u : Uses} (h : Looked p n i u) (room : p.used ≤ length p.tables) where
  pub looked_more : (z : Table) → i < p.used → Looked p n (i + 1) (with_table u (get_or p.tables i z) n)
  looked_more z l = record { driven = h.driven ∙ one u.driven (λ r. eqb r.net n); read = h.read ∙ one u.read (λ r. elem n (reads r)) }
    where
      one : (b : Bool) (f : Table → Bool) → (b || any f (drop i (in_use p))) ≡ (b || f (get_or p.tables i z) || any f (drop (i + 1) (in_use p)))
      one b f = ap (λ rs. b || any f rs) (take_next p.tables p.used i z room l) ∙ sym (or_assoc b (f (get_or p.tables i z)) (any f (drop (i + 1) (in_use p))))

  pub looked_all : p.used ≤ i → (is_driven n (tables_of p) ≡ u.driven) × (net_read n (tables_of p) ≡ u.read)
  looked_all l = (h.driven ∙ none u.driven (λ r. eqb r.net n), h.read ∙ none u.read (λ r. elem n (reads r)))
    where
      none : (b : Bool) (f : Table → Bool) → (b || any f (drop i (in_use p))) ≡ b
      none b f = ap (λ rs. b || any f rs) (take_none p.tables p.used i room l) ∙ or-false b

-- ---- 23, and the mapping's records stored

module _ (p : Part) (records : length p.tables ≡ table_room) (h : Sound p) (out : ℕ) (m : Mapping) (g : Storable out m) where
  abbrev new : List LookupTable
  new = new_tables m

  taken_count : length (take m.count m.tables) ≡ m.count
  taken_count = length-take-le m.count m.tables (omega (arith, g.room, g.few))

  new_count : length new ≡ m.count
  new_count = length-map (take m.count m.tables) lut_table ∙ taken_count

  pub new_room : length (new_records p m) ≡ m.count
  new_room = after_length (tables_of p) new ∙ new_count

  old_count : length (tables_of p) ≡ p.used
  old_count = length-map (in_use p) table_of ∙ used_count p records h

  -- ONE MORE RECORD is stored: the levels of the codes before it give its level
  module _ (levels : List ℕ) (n : ℕ) (l : n < m.count) (st : LevelsStand levels (tables_of p ++ take n new)) where
    abbrev lut : Lut
    lut = get_or m.tables n no_table

    abbrev level : ℕ
    level = level_in levels (lut_reads lut)

    is_new : get_or new n (lut_table no_table) ≡ lut_table lut
    is_new = get_or-map lut_table (take m.count m.tables) n no_table ∙ ap lut_table (get_or-take m.count m.tables n no_table l)

    level_is : level ≡ table_level (lut_table lut) (code_levels code_base (tables_of p ++ take n new))
    level_is = level_stands levels (tables_of p ++ take n new) st (lut_table lut)

    pub store_record : record { net = lut.net; count = lut.count; inputs = lut.inputs; truth = lut.truth; level = level } ≡ get_or (new_records p m) n blank
    store_record =
        ap (λ q. record { net = q.net; count = q.count; inputs = q.inputs; truth = q.truth; level = level }) (g.kept n l).padded
        ∙ ap (λ x. record_of x (lut_table lut)) level_is
        ∙ ap (λ t. record_of (table_level t (code_levels code_base (tables_of p ++ take n new))) t) (sym is_new)
        ∙ sym (after_at (tables_of p) new n blank (lut_table no_table) (omega (arith, l, new_count)))

    pub store_levels : p.used + n < table_room → LevelsStand (noted levels (p.used + n) lut.net level) (tables_of p ++ take (n + 1) new)
    store_levels room =
        subst (LevelsStand (noted levels (p.used + n) lut.net level)) more
        (subst (λ x. LevelsStand (noted levels (p.used + n) lut.net x) (ts ++ lut_table lut ∷ [])) (sym level_is)
        (subst (λ i. LevelsStand (noted levels i lut.net (table_level (lut_table lut) (code_levels code_base ts))) (ts ++ lut_table lut ∷ [])) count
        (levels_next levels ts st (lut_table lut) (omega (arith, count, room))
        (subst (λ t. t.drives ≤ greatest_net) is_new (every_at {P = λ t. t.drives ≤ greatest_net} new n (lut_table no_table) g.drives (omega (arith, l, new_count)))))))
      where
        ts : List LookupTable
        ts = tables_of p ++ take n new

        few : length (take n new) ≡ n
        few = length-take-le n new (omega (arith, l, new_count))

        count : length ts ≡ p.used + n
        count = length-append (tables_of p) (take n new) ∙ ap₂ ◌+◌ old_count few

        more : ts ++ lut_table lut ∷ [] ≡ tables_of p ++ take (n + 1) new
        more =
            append_assoc (tables_of p) (take n new) (lut_table lut ∷ [])
            ∙ ap (◌++◌ (tables_of p)) (ap (λ t. take n new ++ t ∷ []) (sym is_new) ∙ sym (take-suc new n (lut_table no_table) (omega (arith, l, new_count))) ∙ ap (λ i. take i new) (sym (add-one n)))

  stored_extended : stored p m ≡ extended p new
  stored_extended =
      ap₂ (λ n rs. record { k = p.k; capacity = p.capacity; used = p.used + n; reservation = p.reservation; tables = in_use p ++ rs ++ drop (p.used + n) p.tables }) (sym new_count)
      (ap (λ n. take n (new_records p m)) (sym new_room) ∙ take-length (new_records p m))

  -- the levels stand for the tables of the part that is stored
  pub levels_stored : (levels : List ℕ) → LevelsStand levels (tables_of p ++ take m.count new) → LevelsStand levels (tables_of (stored p m))
  levels_stored levels st =
      subst (LevelsStand levels) (sym (ap tables_of stored_extended ∙ extended_tables p records h new))
      (subst (λ ts. LevelsStand levels (tables_of p ++ ts)) (ap (λ n. take n new) (sym new_count) ∙ take-length new) st)

  module _ (d : is_driven out (tables_of p) ≡ false) (r : net_read out (tables_of p) ≡ false) where
    -- it is neither driven nor read, and its number is that of the mapping
    offer_room : (w : Way) (s : Circuit) → s.out ≡ out → NumberBy w p s (length new) → (q : Part) (a : Answer) → Fill w p s (length new) q a → Offer w p s q a
    offer_room w s o n q a f = rw (ap (λ n. is_driven n (tables_of p)) o ∙ d) (rw (ap (λ n. net_read n (tables_of p)) o ∙ r) (length new, n, f))

    pub offer_full : available p < m.count → Offered p out m p (refused 23 0)
    offer_full l w s o c =
        offer_room w s o (chosen_number w p s new (c old_count)) p (refused 23 0) (rw (lt-leb (length new) (available p) (omega (arith, l, new_count))) (refl, refl))

    pub offer_stored : m.count ≤ available p → Offered p out m (stored p m) accepted
    offer_stored l w s o c =
        offer_room w s o (chosen_number w p s new (c old_count)) (stored p m) accepted
        (rw (le-leb (length new) (available p) (omega (arith, l, new_count))) (record { new = new; chosen = c old_count; part = stored_extended; answer = refl }))

-- ---- a mapping of a sheet

pub sheet_mappable : (p : Part) → Sound p → (s : CodeSheet) → WellFormed (drawn_sheet s) → Sheetable p.k p.used s
sheet_mappable p h s w = record { table = h.k_range; before = omega (arith, h.used_fits, h.capacity_range.1); formed = w }

-- tables of a cover of it, after any others of that count, can be stored: a new table drives no net or the sheet's
cover_storable : (K used : ℕ) (s : CodeSheet) (m : Mapping) → length m.tables ≡ most_tables → m.count ≤ most_tables →
    ((i : ℕ) → i < m.count → MergeKept (get_or m.tables i no_table)) → ((old : List LookupTable) → length old ≡ used → CoverTables code_base K old (new_tables m) (circuit_of s)) →
    WellFormed (drawn_sheet s) → Storable s.out m
cover_storable K used s m room few kept tables w = record {
  net = w.out_net;
  room = room;
  few = few;
  kept = kept;
  drives = every_numbered (λ t. t.drives ≤ greatest_net) (length olds) (new_tables m)
      (λ q i. ⊎_elim (λ z. omega (arith, z)) (λ d. omega (arith, d.0, w.out_net))
      (added_tidy code_base K olds (new_tables m) (circuit_of s) (tables olds (length-replicate used (lut_table no_table))) q i).0);
}
  where
    olds : List LookupTable
    olds = replicate used (lut_table no_table)

-- in the way `least`
module _ (K used : ℕ) (s : CodeSheet) (m : Mapping) (j : JoinedMapped K used s m) where
  -- its tables are those of a least cover, after any others of that count
  mapped_least : (old : List LookupTable) → length old ≡ used → LeastCoverTables code_base K old (new_tables m) (circuit_of s)
  mapped_least old e = subst (LeastCoverTables code_base K old (new_tables m)) j.covers (j.mapped.least old e)

pub least_mapped : (p : Part) (s : CodeSheet) (m : Mapping) → WellFormed (drawn_sheet s) → JoinedMapped p.k p.used s m → MappedBy least p s m
least_mapped p s m w j = record {
  storable = cover_storable p.k p.used s m j.mapped.room j.mapped.few j.mapped.kept (λ old e. (mapped_least p.k p.used s m j old e).added) w;
  chosen = mapped_least p.k p.used s m j (tables_of p);
}

-- in the way `fastest`: by the levels of the part's codes, none of which is high
pub levels_low : {levels : List ℕ} {ts : List LookupTable} → LevelsStand levels ts → LevelsLow levels
levels_low {ts = ts} l = record { places = omega (arith, l.places); low = λ n. omega (arith, l.same n, codes_most code_base ts n, l.room) }

module _ (K used : ℕ) (levels : List ℕ) (s : CodeSheet) (m : Mapping) (j : JoinedFast K used (net_level levels) s m) where
  fast_cover : (old : List LookupTable) → length old ≡ used →
      (c : CoverTables code_base K old (new_tables m) (circuit_of s)) × Fastest (net_level levels) K (circuit_of s).tree m.count (coverLevel (net_level levels) c.cover)
  fast_cover old e =
      subst (λ u. (c : CoverTables code_base K old (new_tables m) u) × Fastest (net_level levels) K u.tree m.count (coverLevel (net_level levels) c.cover)) j.covers
      (j.mapped.fastest old e)

  -- its tables are those of a cover with the least root level, and of those one of the fewest tables
  fast_tables : (old : List LookupTable) → length old ≡ used → LevelsStand levels old → FastestCoverTables code_base K old (new_tables m) (circuit_of s)
  fast_tables old e l =
      let (c, f) = fast_cover old e in
      let count : m.count ≡ length (new_tables m) = sym (length-map (take m.count m.tables) lut_table ∙ length-take-le m.count m.tables (omega (arith, j.mapped.few, j.mapped.room))) in
      let same : (xs : List ℕ) → Agree (net_level levels) (code_levels code_base old) xs = λ xs x i. l.same x in
      record {
        added = c;
        fastest =
            subst (λ n. Fastest (code_levels code_base old) K (circuit_of s).tree n (coverLevel (code_levels code_base old) c.cover)) count
            (subst (Fastest (code_levels code_base old) K (circuit_of s).tree m.count) (split_level (net_level levels) (code_levels code_base old) c.covers.split (same _)) (fastest_same (same _) f));
      }

pub fastest_mapped : (p : Part) (levels : List ℕ) → LevelsStand levels (tables_of p) → (s : CodeSheet) (m : Mapping) → WellFormed (drawn_sheet s) →
    JoinedFast p.k p.used (net_level levels) s m → MappedBy fastest p s m
fastest_mapped p levels l s m w j = record {
  storable = cover_storable p.k p.used s m j.mapped.room j.mapped.few j.mapped.kept (λ old e. (fast_cover p.k p.used levels s m j old e).0) w;
  chosen = λ e. fast_tables p.k p.used levels s m j (tables_of p) e l;
}

-- ---- 20, the sheet's refusals, and a sheet that was read

-- each way reads what was read, with its chained gates joined
reading_unread : (w : Way) (text : List ℕ) (number line : ℕ) → read_sheet text ≡ unread number line → reading w text ≡ unread number line
unfolding read_of ◌>>=◌
reading_unread least text number line e = rw e refl
reading_unread fastest text number line e = rw e refl

reading_passed : (w : Way) (text : List ℕ) (s : DrawnSheet) → read_sheet text ≡ passed s → reading w text ≡ passed (covered s)
unfolding read_of ◌>>=◌
reading_passed least text s e = rw e refl
reading_passed fastest text s e = rw e refl

module _ (w : Way) (p : Part) (text : List ℕ) where
  pub add_unsound : sound p ≡ false → Add w p text p (refused 20 0)
  unfolding Add
  add_unsound e = rw e (refl, refl)

  module _ (h : Sound p) where
    pub add_misread : (number line : ℕ) → read_sheet text ≡ unread number line → Add w p text p (refused number line)
    unfolding Add
    add_misread number line e = rw (reflects_true (sound_reflects p) h, reading_unread w text number line e) (refl, refl)

    pub add_offered : (s : DrawnSheet) → read_sheet text ≡ passed s → (q : Part) (a : Answer) → Offer w p (covered s) q a → Add w p text q a
    unfolding Add
    add_offered s e q a o = rw (reflects_true (sound_reflects p) h, reading_passed w text s e) o

-- ---- the levels of a part, where it is sound

module _ {E : Type 0} (p : Part) (o : Option (List ℕ)) (h : MatchOption o (sound p ≡ false) (λ levels. (sound p ≡ true) × LevelsStand levels (tables_of p))) (e : E) where
  pub levels_refused : (d : E) → ok_or o e ≡ Err d → (sound p ≡ false) × (d ≡ e)
  levels_refused d i = of o h i
    where
      of : (o : Option (List ℕ)) → MatchOption o (sound p ≡ false) (λ levels. (sound p ≡ true) × LevelsStand levels (tables_of p)) → ok_or o e ≡ Err d →
          (sound p ≡ false) × (d ≡ e)
      of None g i = (g, cc)
      of (Some levels) g i = let z : ◌≡◌ {A = ℕ} 0 1 = cc in absurd (omega arith)

  pub levels_given : (levels : List ℕ) → ok_or o e ≡ Ok levels → (sound p ≡ true) × Sound p × LevelsStand levels (tables_of p)
  levels_given levels i = of o h i
    where
      of : (o : Option (List ℕ)) → MatchOption o (sound p ≡ false) (λ levels. (sound p ≡ true) × LevelsStand levels (tables_of p)) → ok_or o e ≡ Ok levels →
          (sound p ≡ true) × Sound p × LevelsStand levels (tables_of p)
      of None g i = let z : ◌≡◌ {A = ℕ} 0 1 = cc in absurd (omega arith)
      of (Some l) g i = let k : l ≡ levels = cc in (g.0, says_true (sound_reflects p) g.0, subst (λ l. LevelsStand l (tables_of p)) k g.1)
