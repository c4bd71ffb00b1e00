-- The cases of an add; and that it keeps soundness, the shape, K and the capacity.
use Rattle.std.specs.Prelude.{ℕ, ◌+◌, ◌≤◌, ◌<◌, ◌≡◌, refl, List, eqb}
use Rattle.std.proofs.Common.{arith, sym, ap, ◌∙◌, subst}
use Rattle.std.proofs.Math.ListN.{length}
use Rattle.lists.specs.Trusted.Lists.{Every}
use Rattle.lists.specs.Trusted.Tests.{elem}
use Rattle.lists.specs.TestLaws.{reflects_le, reflects_eq, reflects_any, reflects_elem, by_either}
use Rattle.lists.specs.Trusted.Tests.{Reflects}
use Rattle.tree.specs.Trusted.Limits.{code_base}
use Rattle.lists.specs.Trusted.Checked.{Checked, passed, refused as unread}
use Rattle.cover.specs.Eval.{every_numbered}
use Rattle.cover.specs.Trusted.Tables.{LookupTable}
use Rattle.cover.specs.Trusted.CoverTables.{Circuit, CoverTables, Fresh}
use Rattle.cover.proofs.CoverTableLaws.{added_sized}
use Rattle.table.specs.Trusted.Limits.{input_room, table_room}
use Rattle.part.specs.Trusted.Parts.{tables_of, available, Shaped}
use Rattle.part.specs.Trusted.Sound.{Sound}
use Rattle.part.specs.SoundLaws.{sound_reflects}
use Rattle.part.specs.Trusted.Ways.{Way, reading, NumberBy}
use Rattle.part.proofs.WayLaws.{reading_right, number_unique, chosen_added, chosen_number}
use Rattle.part.specs.Trusted.Answers.{Answer, accepted, refused}
use Rattle.part.specs.Trusted.Add.{is_driven, net_read, Refused, Accepted, Take, Add}
use Rattle.part.specs.Trusted.Nets.{Driven, Read}
use Rattle.part.specs.ExtendLaws.{extended_records, extended_shaped, extended_sound}
use Rattle.part.specs.declared.Part.{Part}

-- ---- adding

pub driven_reflects : (n : ℕ) (ts : List LookupTable) → Reflects (is_driven n ts) (Driven n ts)
driven_reflects n = reflects_any (λ t. eqb t.drives n) (λ t. reflects_eq t.drives n)

pub read_reflects : (n : ℕ) (ts : List LookupTable) → Reflects (net_read n ts) (Read n ts)
read_reflects n = reflects_any (λ t. elem n t.inputs) (λ t. reflects_elem n t.inputs)

fresh : (s : Circuit) (ts : List LookupTable) → ¬ (Driven s.out ts) → ¬ (Read s.out ts) → Fresh s ts
fresh s ts d r t m = (λ e. d (t, m, e), λ i. r (t, m, i))

-- what an add leaves as it was
pub record Kept (p q : Part) : Type 0 where
  pub same_k : q.k ≡ p.k
  pub same_capacity : q.capacity ≡ p.capacity
  pub shaped : Shaped q
  pub sound : Sound p → Sound q

pub kept_trans : {o p q : Part} → Kept o p → Kept p q → Kept o q
kept_trans g h = record {
  same_k = h.same_k ∙ g.same_k;
  same_capacity = h.same_capacity ∙ g.same_capacity;
  shaped = h.shaped;
  sound = λ s. h.sound (g.sound s);
}

-- what an add found, and what it gave
pub data AddCase (w : Way) (p : Part) (text : List ℕ) (q : Part) (a : Answer) : Type 0 where
  unsound : ¬ (Sound p) → Refused p 20 0 q a → AddCase w p text q a
  misread : (number place : ℕ) → Sound p → reading w text ≡ unread number place → Refused p number place q a → AddCase w p text q a
  driven : (s : Circuit) → Sound p → reading w text ≡ passed s → Driven s.out (tables_of p) → Refused p 21 0 q a → AddCase w p text q a
  read : (s : Circuit) → Sound p → reading w text ≡ passed s → ¬ (Driven s.out (tables_of p)) → Read s.out (tables_of p) → Refused p 22 0 q a →
      AddCase w p text q a
  full : (s : Circuit) (n : ℕ) → Sound p → reading w text ≡ passed s → Fresh s (tables_of p) → NumberBy w p s n → available p < n →
      Refused p 23 0 q a → AddCase w p text q a
  taken : (s : Circuit) → Sound p → reading w text ≡ passed s → Fresh s (tables_of p) → (t : Accepted w p s q a) → p.used + length t.new + p.reservation.count ≤ p.capacity →
      AddCase w p text q a

module _ (w : Way) (p : Part) (text : List ℕ) (q : Part) (a : Answer) where
  pub add_case : Add w p text q a → AddCase w p text q a
  unfolding Add
  add_case = by_either (sound_reflects p) (λ h. readings h (reading w text) refl) unsound
    where
      room : (h : Sound p) (s : Circuit) (n : ℕ) → NumberBy w p s n → n ≤ available p → (t : Accepted w p s q a) →
          p.used + length t.new + p.reservation.count ≤ p.capacity
      room h s n l le t = omega (arith, le, h.used_fits, h.reservation.fits, number_unique w p s l (chosen_number w p s t.new t.chosen))

      readings : Sound p → (v : Checked Circuit) → reading w text ≡ v → Take w p v q a → AddCase w p text q a
      readings h (unread number place) e = misread number place h e
      readings h (passed s) e =
          by_either (driven_reflects s.out (tables_of p)) (driven s h e)
          (λ d. by_either (read_reflects s.out (tables_of p)) (read s h e d)
          (λ r o. by_either (reflects_le o.0 (available p))
          (λ l t. taken s h e (fresh s (tables_of p) d r) t (room h s o.0 o.1 l t))
          (λ l. full s o.0 h e (fresh s (tables_of p) d r) o.1 (omega arith)) o.2))

-- an add keeps soundness, and how many records there are
module _ (p : Part) (records : length p.tables ≡ table_room) where
  pub add_sound : {w : Way} {text : List ℕ} {q : Part} {a : Answer} → AddCase w p text q a → Sound p → Sound q
  add_sound (unsound n r) g = subst Sound (sym r.0) g
  add_sound (misread number place h e r) g = subst Sound (sym r.0) g
  add_sound (driven s h e d r) g = subst Sound (sym r.0) g
  add_sound (read s h e d i r) g = subst Sound (sym r.0) g
  add_sound (full s n h e f l m r) g = subst Sound (sym r.0) g
  add_sound {w} {text} (taken s h e f t room) g =
      subst Sound (sym t.part) (extended_sound p records h t.new s (reading_right w text s e).legal (chosen_added w p s t.new t.chosen) f room)

  pub add_records : {w : Way} {text : List ℕ} {q : Part} {a : Answer} → AddCase w p text q a → length q.tables ≡ table_room
  add_records (unsound n r) = ap (λ q. length q.tables) r.0 ∙ records
  add_records (misread number place h e r) = ap (λ q. length q.tables) r.0 ∙ records
  add_records (driven s h e d r) = ap (λ q. length q.tables) r.0 ∙ records
  add_records (read s h e d i r) = ap (λ q. length q.tables) r.0 ∙ records
  add_records (full s n h e f l m r) = ap (λ q. length q.tables) r.0 ∙ records
  add_records (taken s h e f t room) = ap (λ q. length q.tables) t.part ∙ extended_records p records h t.new (omega (arith, room))

module _ (p : Part) (shape : Shaped p) where
  pub same_kept : (q : Part) → q ≡ p → Kept p q
  same_kept q e = subst (λ q. Kept p q) (sym e) (record { same_k = refl; same_capacity = refl; shaped = shape; sound = λ h. h })

  pub kept : {w : Way} {text : List ℕ} {q : Part} {a : Answer} → AddCase w p text q a → Kept p q
  kept (unsound n r) = same_kept _ r.0
  kept (misread number place h e r) = same_kept _ r.0
  kept (driven s h e d r) = same_kept _ r.0
  kept (read s h e d i r) = same_kept _ r.0
  kept (full s n h e f l m r) = same_kept _ r.0
  kept {w} {text} (taken s h e f t room) = subst (λ q. Kept p q) (sym t.part) (record {
    same_k = refl;
    same_capacity = refl;
    shaped = extended_shaped p shape.records h t.new shape (omega (arith, room)) narrow;
    sound = λ g. extended_sound p shape.records h t.new s (reading_right w text s e).legal added f room;
  })
    where
      added : CoverTables code_base p.k (tables_of p) t.new s
      added = chosen_added w p s t.new t.chosen

      narrow : Every (λ u. length u.inputs ≤ input_room) t.new
      narrow = every_numbered (λ u. length u.inputs ≤ input_room) (length (tables_of p)) t.new
          (λ x m. omega (arith, h.k_range.1, (added_sized code_base p.k (tables_of p) t.new s added x m).most))

-- two answers
pub not_refused : {number place : ℕ} {a : Answer} → a ≡ refused number place → a ≡ accepted → ⊥
not_refused e f = let z : ◌≡◌ {A = ℕ} 0 1 = cc in omega arith
