-- DEMAND 1, of each entry point that can turn something down: `Part::open`, `Part::add`, `write_line` and `write_list`, each about what its
-- contract says. The results are `opening_told`, `add_told`, `line_told` and `list_told`; Demands has what they say.
use Rattle.std.specs.Prelude.{ℕ, ◌+◌, ◌≤◌, ◌≡◌, refl, Bool, true, false, cond, List, leb, length}
use Rattle.std.proofs.Common.{arith, sym, ap, ◌∙◌, subst}
use Rattle.lists.specs.TestLaws.{reflects_le, reflects_true, by_reflects}
use Rattle.lists.specs.Trusted.Tests.{Reflects}
use Rattle.lists.specs.Trusted.Checked.{Checked, passed, refused as unwritten}
use Rattle.cover.specs.Trusted.CoverTables.{Circuit}
use Rattle.table.specs.Trusted.Limits.{KRange, CapacityRange}
use Rattle.part.specs.declared.Part.{Part}
use Rattle.part.specs.Trusted.Parts.{tables_of, available}
use Rattle.part.specs.Trusted.Sound.{Sound}
use Rattle.part.specs.Trusted.SoundTest.{sound}
use Rattle.part.specs.SoundLaws.{sound_reflects}
use Rattle.part.specs.Trusted.Ways.{Way, reading, NumberBy}
use Rattle.part.proofs.WayLaws.{reading_right, number_unique, chosen_number}
use Rattle.part.specs.Trusted.Answers.{Answer, accepted, refused}
use Rattle.part.specs.Trusted.Add.{opened, is_driven, net_read, Add}
use Rattle.part.proofs.OpenLaws.{opened_cases}
use Rattle.part.proofs.AddLaws.{driven_reflects, read_reflects, AddCase, unsound, misread, driven, read, full, taken, add_case, not_refused}
use Rattle.demands.specs.KeptLaws.{refused_stays}
use Rattle.demands.specs.Determined as Determined
use Rattle.demands.specs.Determined.{number_in, answer_of}
use Rattle.demands.proofs.DeterminedLaws.{number_is, add_answer}
use Rattle.listing.specs.Trusted.Listing.{line_of, list_of}
use Rattle.list_line.specs.Trusted.Writes.{pasted}
use Rattle.listing.specs.Lines.{turned_down, fitted, line_written, list_written}
use Rattle.demands.specs.Trusted.Demands.{OpeningCondition, bad_k, bad_capacity, OpeningTold, AddCondition, not_sound, out_driven, out_read, no_room, not_read, Passes, AddTold}
use Rattle.demands.specs.Trusted.Demands.{WriteCondition, part_unsound, not_there, too_short, WriteTold}

reflects_false : {b : Bool} {P : Type 0} → Reflects b P → ¬ P → b ≡ false
reflects_false r n = by_reflects (λ c. c ≡ false) r (λ h. absurd (n h)) (λ m. refl)

-- a condition of the number and the place that were given
pub moved : (C : ℕ → ℕ → Type 0) {m l number place : ℕ} → C m l → m ≡ number → l ≡ place → C number place
moved C {m} {l} {number} {place} c e f = subst (λ x. C x place) e (subst (C m) f c)

-- ---- opening

module _ (k capacity : ℕ) where
  pub opening_told : OpeningTold k capacity (opened k capacity)
  opening_told =
      opened_cases k capacity (OpeningTold k capacity)
      (λ g h. record {
        refuses = λ m l. (λ e. absurd (not_refused e refl), λ c. absurd (in_range g h c));
        accepts = (λ e. (g, h), λ x. refl);
        zeros = λ m l e. absurd (not_refused e refl);
      })
      (λ n. record {
        refuses = λ m l. (λ e. moved (OpeningCondition k capacity) (bad_k n) (cc) (cc), λ c. no_k n c);
        accepts = (λ e. absurd (not_refused refl e), λ x. absurd (n x.0));
        zeros = λ m l e. refl;
      })
      (λ g n. record {
        refuses = λ m l. (λ e. moved (OpeningCondition k capacity) (bad_capacity g n) (cc) (cc), λ c. no_capacity g c);
        accepts = (λ e. absurd (not_refused refl e), λ x. absurd (n x.1));
        zeros = λ m l e. refl;
      })
    where
      in_range : {m l : ℕ} → KRange k → CapacityRange capacity → OpeningCondition k capacity m l → ⊥
      in_range g h (bad_k n) = n g
      in_range g h (bad_capacity i n) = n h

      no_k : {m l : ℕ} → ¬ (KRange k) → OpeningCondition k capacity m l → refused 2 0 ≡ refused m l
      no_k n (bad_k i) = refl
      no_k n (bad_capacity g i) = absurd (n g)

      no_capacity : {m l : ℕ} → KRange k → OpeningCondition k capacity m l → refused 3 0 ≡ refused m l
      no_capacity g (bad_k n) = absurd (n g)
      no_capacity g (bad_capacity i n) = refl

-- ---- adding

module _ (w : Way) (p : Part) (text : List ℕ) where
  abbrev fits : Circuit → Bool
  fits s = leb (number_in w p s) (available p)

  fits_reflects : (s : Circuit) (n : ℕ) → Sound p → reading w text ≡ passed s → NumberBy w p s n → Reflects (fits s) (n ≤ available p)
  fits_reflects s n h e l =
      subst (λ m. Reflects (fits s) (m ≤ available p)) (number_unique w p s (number_is w p h.k_range.0 s (reading_right w text s e)) l)
      (reflects_le (number_in w p s) (available p))

  -- the answer of a sound part to what is read, and by the last three tests
  read_answer : Sound p → {v : Checked Circuit} → reading w text ≡ v → answer_of w p (reading w text) ≡ Determined.taken w p v
  read_answer h e = ap (λ b. cond b (Determined.taken w p (reading w text)) (refused 20 0)) (reflects_true (sound_reflects p) h) ∙ ap (Determined.taken w p) e

  tests_answer : (s : Circuit) {d r f : Bool} → Sound p → reading w text ≡ passed s → is_driven s.out (tables_of p) ≡ d → net_read s.out (tables_of p) ≡ r →
      fits s ≡ f → answer_of w p (reading w text) ≡ cond d (refused 21 0) (cond r (refused 22 0) (cond f accepted (refused 23 0)))
  tests_answer s h e x y z = read_answer h e ∙ (λ i. cond (x i) (refused 21 0) (cond (y i) (refused 22 0) (cond (z i) accepted (refused 23 0))))

  passes_answer : (s : Circuit) {f : Bool} → Passes w p text s → fits s ≡ f → answer_of w p (reading w text) ≡ cond f accepted (refused 23 0)
  passes_answer s g =
      tests_answer s g.sound g.read (reflects_false (driven_reflects s.out (tables_of p)) (λ d. (g.fresh d.0 d.1).0 d.2))
      (reflects_false (read_reflects s.out (tables_of p)) (λ r. (g.fresh r.0 r.1).1 r.2))

  pub condition_answer : {number place : ℕ} → AddCondition w p text number place → answer_of w p (reading w text) ≡ refused number place
  condition_answer (not_sound n) = ap (λ b. cond b (Determined.taken w p (reading w text)) (refused 20 0)) (reflects_false (sound_reflects p) n)
  condition_answer (not_read number place h e) = read_answer h e
  condition_answer (out_driven s h e d) = tests_answer s h e (reflects_true (driven_reflects s.out (tables_of p)) d) refl refl
  condition_answer (out_read s h e n r) =
      tests_answer s h e (reflects_false (driven_reflects s.out (tables_of p)) n) (reflects_true (read_reflects s.out (tables_of p)) r) refl
  condition_answer (no_room s n g l m) = passes_answer s g (reflects_false (fits_reflects s n g.sound g.read l) (λ x. omega (arith, m, x)))

  told : {a : Answer} {m l number place : ℕ} → a ≡ refused m l → a ≡ refused number place → AddCondition w p text m l → AddCondition w p text number place
  told e f c = moved (AddCondition w p text) c (cc) (cc)

  found : {q : Part} {a : Answer} {number place : ℕ} → AddCase w p text q a → a ≡ refused number place → AddCondition w p text number place
  found (unsound n r) e = told r.1 e (not_sound n)
  found (misread m l h g r) e = told r.1 e (not_read m l h g)
  found (driven s h g d r) e = told r.1 e (out_driven s h g d)
  found (read s h g d i r) e = told r.1 e (out_read s h g d i)
  found (full s n h g f l m r) e = told r.1 e (no_room s n (record { sound = h; read = g; fresh = f }) l m)
  found (taken s h g f t room) e = absurd (not_refused e t.answer)

  accepted_passes : {q : Part} {a : Answer} → AddCase w p text q a → a ≡ accepted →
      (s : Circuit) × (n : ℕ) × Passes w p text s × NumberBy w p s n × (n ≤ available p)
  accepted_passes (unsound n r) e = absurd (not_refused r.1 e)
  accepted_passes (misread m l h g r) e = absurd (not_refused r.1 e)
  accepted_passes (driven s h g d r) e = absurd (not_refused r.1 e)
  accepted_passes (read s h g d i r) e = absurd (not_refused r.1 e)
  accepted_passes (full s n h g f l m r) e = absurd (not_refused r.1 e)
  accepted_passes (taken s h g f t room) e =
      (s, length t.new, record { sound = h; read = g; fresh = f }, chosen_number w p s t.new t.chosen, omega (arith, room))

  pub add_told : (q : Part) (a : Answer) → Add w p text q a → AddTold w p text q a
  add_told q a h =
      let o = add_case w p text q a h in
      let e = add_answer w p text q a h in
      record {
        refuses = λ m l. (found o, λ c. e ∙ condition_answer c);
        accepts = (accepted_passes o, λ g. e ∙ passes_answer g.0 g.2 (reflects_true (fits_reflects g.0 g.1 g.2.sound g.2.read g.3) g.4));
        stays = λ m l r. refused_stays w p text q a m l h r;
      }

-- ---- writing a line, and the list

module _ (p : Part) (There : Type 0) (old : List ℕ) (at : ℕ) (new : List ℕ) where
  -- no two of the conditions hold
  one_only : {m l number place : ℕ} → WriteCondition p There old at new m l → WriteCondition p There old at new number place →
      ◌≡◌ {A = Checked ℕ} (unwritten m l) (unwritten number place)
  one_only (part_unsound n) (part_unsound i) = refl
  one_only (part_unsound n) (not_there h i) = absurd (n h)
  one_only (part_unsound n) (too_short h t l) = absurd (n h)
  one_only (not_there h n) (part_unsound i) = absurd (i h)
  one_only (not_there h n) (not_there g i) = refl
  one_only (not_there h n) (too_short g t l) = absurd (n t)
  one_only (too_short h t l) (part_unsound i) = absurd (i h)
  one_only (too_short h t l) (not_there g i) = absurd (i t)
  one_only (too_short h t l) (too_short g u m) = refl

  none_holds : {number place : ℕ} → Sound p → There → at + length new ≤ length old → WriteCondition p There old at new number place → ⊥
  none_holds h t l (part_unsound n) = n h
  none_holds h t l (not_there g n) = n t
  none_holds h t l (too_short g u m) = omega (arith, l, m)

  not_written : {number place count : ℕ} → unwritten number place ≡ passed count → ⊥
  not_written e = let z : ◌≡◌ {A = ℕ} 0 1 = cc in omega arith

  turned_told : (number : ℕ) → WriteCondition p There old at new number 0 → WriteTold p There old at new (turned_down number old)
  turned_told number c = record {
    refuses = λ m l. (λ e. moved (WriteCondition p There old at new) c (cc) (cc), λ d. one_only c d);
    writes = λ n. (λ e. absurd (not_written e), λ g. absurd (none_holds g.0 g.1 g.2 c));
    stays = λ m l e. refl;
    bytes = λ n e. absurd (not_written e);
  }

  written_told : Sound p → There → at + length new ≤ length old → WriteTold p There old at new (record { result = passed (length new); bytes = pasted old at new })
  written_told h t l = record {
    refuses = λ m k. (λ e. absurd (not_written (sym e)), λ c. absurd (none_holds h t l c));
    writes = λ n. (λ e. (h, t, l, (let i : length new ≡ n = cc in sym i)), λ g. ap passed (sym g.3));
    stays = λ m k e. absurd (not_written (sym e));
    bytes = λ n e. refl;
  }

  write_told : {b : Bool} → Reflects b There → WriteTold p There old at new (cond (sound p) (cond b (fitted old at new) (turned_down 15 old)) (turned_down 20 old))
  write_told {b} r =
      by_reflects (λ x. WriteTold p There old at new (cond x (cond b (fitted old at new) (turned_down 15 old)) (turned_down 20 old))) (sound_reflects p)
      (λ h. by_reflects (λ x. WriteTold p There old at new (cond x (fitted old at new) (turned_down 15 old))) r
      (λ t. by_reflects
      (λ x. WriteTold p There old at new (cond x (record { result = passed (length new); bytes = pasted old at new }) (turned_down 14 old)))
      (reflects_le (at + length new) (length old)) (written_told h t) (λ l. turned_told 14 (too_short h t (omega arith))))
      (λ n. turned_told 15 (not_there h n)))
      (λ n. turned_told 20 (part_unsound n))

module _ (p : Part) (old : List ℕ) (at : ℕ) where
  pub line_told : (line : ℕ) → WriteTold p (line ≤ p.used) old at (line_of p line) (line_written p line old at)
  line_told line = write_told p (line ≤ p.used) old at (line_of p line) (reflects_le line p.used)

  -- the list is always there
  pub list_told : WriteTold p (Unit {0}) old at (list_of p) (list_written p old at)
  list_told = write_told p (Unit {0}) old at (list_of p) {b = true} (record { to = λ t. tt; from = λ t. tt })
