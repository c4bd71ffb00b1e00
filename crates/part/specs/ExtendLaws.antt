-- A part with a sheet's tables added: which tables it has, that it keeps its shape, and that it stays sound.
use Prim.Native.Nat.{ℕ, zero, suc, ◌+◌, ◌-◌, ◌≤◌, ◌<◌}
use Rattle.std.proofs.Common.{arith, sym, ap, ◌∙◌, subst, length-append, length-drop, drop_at, drop-drop}
use Rattle.std.specs.Prelude.{◌≡◌, refl, ◌⊎◌, ◌≢◌, List, [], ◌∷◌, ◌++◌, map, length, drop}
use Rattle.std.proofs.Math.Path.{ap₂}
use Rattle.std.proofs.Math.Logic.{inl, inr, ⊎_elim}
use mathlib.Core.List.Memᴰ
use Rattle.std.proofs.lemmas.List.{length-map, length-replicate}
use Rattle.std.proofs.Math.Seq.{drop-append_seam}
use Rattle.lists.specs.Trusted.Lists.{◌∈◌, first, later, Every}
use Rattle.lists.specs.ListLaws.{every_append, every_take, every_drop, every_replicate}
use Rattle.tree.specs.Trusted.Limits.{code_base}
use Rattle.cover.specs.Trusted.Tables.{LookupTable, Placed, numbered, levels_after}
use Rattle.cover.specs.Eval.{numbered_is, every_numbered}
use Rattle.cover.specs.Trusted.Placed.{root_number}
use Rattle.cover.specs.Trusted.CoverTables.{Circuit, CoverTables, Fresh}
use Rattle.cover.specs.Legal.{Legal}
use Rattle.cover.proofs.CoverTableLaws.{added_sized, added_rising, added_tidy, added_inputs, added_drives}
use Rattle.table.specs.Trusted.Limits.{input_room, table_room}
use Rattle.table.specs.Trusted.Records.{table_of, record_of, records_after}
use Rattle.table.specs.RecordLaws.{read_back, every_record, after_back, after_levels}
use Rattle.table.specs.Trusted.Rules.{Padded, Coded, Sized, Sourced, DrivenOnce, ReadAfter, EveryTwo, places}
use Rattle.table.specs.RuleLaws.{places_after, Follows, rules_append}
use Rattle.part.specs.Trusted.Parts.{in_use, tables_of, Shaped}
use Rattle.part.specs.Trusted.Sound.{Sound}
use Rattle.part.specs.Trusted.Add.{extended}
use Rattle.part.specs.ExtendedLaws.{front_length, extended_in_use}
use Rattle.table.specs.declared.Table.{Table}
use Rattle.part.specs.declared.Part.{Part}

-- each number is that of a table
numbered_at : (n : ℕ) (ts : List LookupTable) (i : ℕ) → i < length ts → (q : Placed) × (q ∈ numbered n ts) × (q.0 ≡ suc (n + i))
numbered_at n [] i h = absurd (omega arith)
numbered_at n (t ∷ ts) zero h = ((suc n, t), first refl, omega arith)
numbered_at n (t ∷ ts) (suc i) h =
    let r = numbered_at (suc n) ts i (omega arith) in
    (r.0, later r.1, omega (arith, r.2))

-- ---- records and tables

record_padded : (t : LookupTable) (l : ℕ) → Padded (record_of l t)
record_padded t l = rw drop-append_seam (every_replicate (λ x. x ≡ 0) (input_room - length t.inputs) 0 refl)

record_room : (t : LookupTable) (l : ℕ) → length t.inputs ≤ input_room → length (record_of l t).inputs ≡ input_room
record_room t l h = simp (length-append, length-replicate) (omega arith)

-- ---- the tables of a sheet, after the records of a part

module _ (k : ℕ) (old : List Table) (new : List LookupTable) (s : Circuit) (legal : Legal code_base s)
    (a : CoverTables code_base k (map table_of old) new s) where
  ps : List Placed
  ps = numbered (length (map table_of old)) new

  places_new : places_after old (records_after (map table_of old) new) ≡ ps
  unfolding ps
  places_new = ap₂ numbered (sym (length-map old table_of)) (after_back (map table_of old) new)

  -- an input is a leaf of the sheet, or names an earlier one of the new tables
  input_cases : (Z : Type 0) (p : Placed) → p ∈ ps → (x : ℕ) → x ∈ p.1.inputs → ((0 < x) × (x < code_base) × (x ≢ s.out) → Z) →
      ((t : ℕ) × (x ≡ code_base + t) × (length (map table_of old) < t) × (t < p.0) → Z) → Z
  unfolding ps
  input_cases Z p m x i f g = ⊎_elim (λ l. f (legal.leaf_nets_lem x l)) g (added_inputs code_base k (map table_of old) new s a p m x i)

  -- what is driven is the output net, by one table
  drive_cases : (p : Placed) → p ∈ ps → (p.1.drives ≡ 0) ⊎ ((p.1.drives ≡ s.out) × (p.0 ≡ root_number a.cover))
  unfolding ps
  drive_cases p m = (added_tidy code_base k (map table_of old) new s a p m).0

  new_coded : Every (λ t. (l : ℕ) → Coded (record_of l t)) new
  unfolding ps
  new_coded = every_numbered (λ t. (l : ℕ) → Coded (record_of l t)) (length (map table_of old)) new (λ p m l. (
    ⊎_elim (λ e. omega arith) (λ e. omega (arith, e.0, legal.out_net)) (drive_cases p m),
    rw (ap (λ t. t.inputs) (read_back l p.1)) (λ x i. input_cases _ p m x i (λ n. inl (omega (arith, n))) (λ t. inr (omega (arith, t.1, t.2)))),
  ))

  new_sized : Every (λ t. (l : ℕ) → Sized k (record_of l t)) new
  unfolding ps
  new_sized = every_numbered (λ t. (l : ℕ) → Sized k (record_of l t)) (length (map table_of old)) new (λ p m l.
      let z = added_sized code_base k (map table_of old) new s a p m in
      (z.least, z.most, rw (ap (λ t. t.inputs) (read_back l p.1)) (added_rising code_base k (map table_of old) new s a legal p m), z.bits))

  new_sourced : Every (Sourced (places old ++ ps)) ps
  unfolding ps
  new_sourced p m x i h = input_cases _ p m x i (λ l. absurd (omega (arith, h, l))) found
    where
      found : (t : ℕ) × (x ≡ code_base + t) × (length (map table_of old) < t) × (t < p.0) →
          (q : Placed) × (q ∈ places old ++ ps) × (x ≡ code_base + q.0) × (q.0 < p.0) × (q.1.drives ≡ 0)
      found t =
          let l = numbered_is (length (map table_of old)) new p m in
          let q = numbered_at (length (map table_of old)) new (t.0 - suc (length (map table_of old))) (omega (arith, t.2, t.3, l.1)) in
          let e : q.0.0 ≡ t.0 = omega (arith, q.2, t.2) in (
            q.0,
            Memᴰ.append_right (places old) q.1,
            omega (arith, e, t.1),
            omega (arith, e, t.3),
            (added_drives code_base k (map table_of old) new s a q.0 q.1).0 (omega (arith, e, t.3, l.1)),
          )

  new_once : EveryTwo DrivenOnce ps
  new_once p m q j l e =
      ⊎_elim (λ z. absurd (omega arith)) (λ f. ⊎_elim (λ z. absurd (omega arith)) (λ g. f.1 ∙ sym g.1) (drive_cases q j)) (drive_cases p m)

  new_after : EveryTwo ReadAfter ps
  new_after p m q j l i =
      ⊎_elim (λ z. absurd (omega arith))
      (λ f. input_cases _ q j p.1.drives i (λ n. absurd (n.2 f.0)) (λ t. absurd (omega (arith, f.0, t.1, legal.out_net))))
      (drive_cases p m)

  new_fresh : Fresh s (map table_of old) →
      Every (λ p. 0 < p.1.drives → Every (λ q. (q.1.drives ≢ p.1.drives) × (¬ (p.1.drives ∈ q.1.inputs))) (places old)) ps
  new_fresh f p m l q j =
      ⊎_elim (λ z. absurd (omega arith))
      (λ d. subst (λ n. (q.1.drives ≢ n) × (¬ (n ∈ q.1.inputs))) (sym d.0) (f q.1 (numbered_is 0 (map table_of old) q j).2))
      (drive_cases p m)

  pub added_follows : Fresh s (map table_of old) → Follows k old (records_after (map table_of old) new)
  added_follows f = record {
    padded = every_record Padded levels new (λ t m. record_padded t);
    coded = every_record Coded levels new new_coded;
    sized = every_record (Sized k) levels new new_sized;
    sourced = rw places_new new_sourced;
    driven_once = rw places_new new_once;
    read_after = rw places_new new_after;
    fresh = rw places_new (new_fresh f);
    levels = after_levels (map table_of old) new ∙ sym (ap (levels_after code_base (map table_of old)) (after_back (map table_of old) new));
  }
    where
      levels : List ℕ
      levels = levels_after code_base (map table_of old) new

-- ---- the part

module _ (p : Part) (records : length p.tables ≡ table_room) (h : Sound p) (new : List LookupTable) where
  extended_rest : drop (extended p new).used (extended p new).tables ≡ drop (p.used + length new) p.tables
  extended_rest = drop_at (in_use p ++ records_after (tables_of p) new) (drop (p.used + length new) p.tables) (p.used + length new) (front_length p records h new)

  -- it has as many records
  pub extended_records : p.used + length new ≤ p.capacity → length (extended p new).tables ≡ table_room
  extended_records room =
      length-append (in_use p ++ records_after (tables_of p) new) (drop (p.used + length new) p.tables)
      ∙ omega (arith, front_length p records h new, length-drop (p.used + length new) p.tables, records, h.capacity_range.1, room)

  pub extended_shaped : Shaped p → p.used + length new ≤ p.capacity → Every (λ t. length t.inputs ≤ input_room) new → Shaped (extended p new)
  extended_shaped shape room w = record {
    records = extended_records room;
    inputs = every_append (in_use p ++ records_after (tables_of p) new) (drop (p.used + length new) p.tables)
        (every_append (in_use p) (records_after (tables_of p) new) (every_take p.used p.tables shape.inputs)
        (every_record (λ r. length r.inputs ≡ input_room) (levels_after code_base (tables_of p) new) new (λ t m l. record_room t l (w t m))))
        (every_drop (p.used + length new) p.tables shape.inputs);
  }

  pub extended_sound : (s : Circuit) → Legal code_base s → CoverTables code_base p.k (tables_of p) new s → Fresh s (tables_of p) →
      p.used + length new + p.reservation.count ≤ p.capacity → Sound (extended p new)
  extended_sound s l a f room = record {
    k_range = h.k_range;
    capacity_range = h.capacity_range;
    used_fits = omega (arith, room);
    rest_blank = rw extended_rest (rw drop-drop at (every_drop (length new) (drop p.used p.tables) h.rest_blank));
    rules = rw (extended_in_use p records h new) (rules_append p.k (in_use p) (records_after (tables_of p) new) h.rules (added_follows p.k (in_use p) new s l a f));
    reservation = record { fits = omega (arith, room); both = h.reservation.both; range = h.reservation.range };
  }
