-- The fanins of a gate one by one: one more gathered, one more compared, one more asked.
use Rattle.std.specs.Prelude.{ℕ, ◌+◌, ◌-◌, ◌≤◌, ◌<◌, ◌≡◌, refl, ◌≢◌, List, length, get_or, max, set, take}
use Rattle.std.proofs.Common.{arith, sym, ◌∙◌, length-set, length-take, get_or-take, get_or-set_same, get_or-set_other, below_none, below_more}
use Rattle.lists.specs.Cases.{by_leb}
use Rattle.lists.specs.Trusted.Lists.{Every, first}
use Rattle.sheet.specs.declared.Source.TheVariants.{Net, Gate}
use Rattle.sheet.specs.declared.Edge.{Edge}
use Rattle.sheet.specs.Trusted.Limits.{most_gates}
use Rattle.sheet.specs.Trusted.Sheet.{net_of, fanin_nets, fanin_gates}
use Rattle.sheet.specs.PlaceLaws.{no_edge, every_source}
use Rattle.level_arrays.specs.Arrays.{GreatestFan}
use Rattle.level_arrays.specs.declared.Fans.{Fans}
use Rattle.level_arrays.specs.declared.Draft.{Draft}
use Rattle.level_sheets.specs.SheetTrees.{gather_out}
use Rattle.level_sheets.specs.Lined.{FanOf, FansOf}
use Rattle.level_sheets.specs.Asking.{AskedOf}
use Rattle.level_fans.specs.FanSteps.{with_fan, first_fans, CanAsk}

-- ---- gathered

module _ (fs : List Edge) {i : ℕ} (l : i < length fs) where
  abbrev edge : Edge
  edge = get_or fs i no_edge

  -- what fanin i reads has its place
  pub net_placed : (levels : List ℕ) → Every (λ n. n < length levels) (fanin_nets fs) → {n : ℕ} → edge.source ≡ Net n → n < length levels
  net_placed levels r {n} e = r n (gather_out (λ f. net_of f.source) no_edge fs i l (rw e (first refl)))

  pub gate_placed : Every (λ j. (1 ≤ j) × (j ≤ most_gates)) (fanin_gates fs) → {j : ℕ} → edge.source ≡ Gate j → (1 ≤ j) × (j ≤ most_gates)
  gate_placed r {j} e = every_source {P = λ j. (1 ≤ j) × (j ≤ most_gates)} fs i j r l e

  -- and goes after the first i
  module _ (lev : ℕ → ℕ) (starts counts : List ℕ) {f : Fans} (g : FansOf lev starts counts (take i fs) f) (few : i < 10) where
    count_taken : f.count ≡ i
    count_taken = omega (arith, g.count, length-take i fs)

    next_fan : (a c j : ℕ) → FanOf lev starts counts edge.source a c j → FansOf lev starts counts (take (i + 1) fs) (with_fan f a c j)
    next_fan a c j o = record {
      count = omega (arith, count_taken, length-take (i + 1) fs);
      rooms = (length-set f.levels f.count a ∙ g.rooms.0, length-set f.lines f.count c ∙ g.rooms.1, length-set f.gates f.count j ∙ g.rooms.2);
      each = λ h m.
          let b : h < i + 1 = omega (arith, length-take (i + 1) fs) in
          rw (get_or-take (i + 1) fs h no_edge b, count_taken)
          (below_more
          (λ h. FanOf lev starts counts (get_or fs h no_edge).source (get_or (set f.levels i a) h 0) (get_or (set f.lines i c) h 0) (get_or (set f.gates i j) h 0)) i
          (λ h m.
          let n : h ≢ i = λ e. omega arith in
          rw (get_or-set_other f.levels i h a 0 n, get_or-set_other f.lines i h c 0 n, get_or-set_other f.gates i h j 0 n)
          (rw (get_or-take i fs h no_edge m) at (g.each h (omega (arith, length-take i fs)))))
          (let (p, q, r) = g.rooms in
          rw (get_or-set_same f.levels i a 0 (omega arith), get_or-set_same f.lines i c 0 (omega arith), get_or-set_same f.gates i j 0 (omega arith)) o)
          h b);
    }

    pub fan_net : {n : ℕ} → edge.source ≡ Net n → FansOf lev starts counts (take (i + 1) fs) (with_fan f (lev n) 0 0)
    fan_net {n} e = next_fan (lev n) 0 0 (rw e (refl, refl))

    pub fan_gate : {j : ℕ} → edge.source ≡ Gate j → FansOf lev starts counts (take (i + 1) fs) (with_fan f (get_or starts (j - 1) 0) (get_or counts (j - 1) 0) (j - 1))
    fan_gate {j} e = next_fan (get_or starts (j - 1) 0) (get_or counts (j - 1) 0) (j - 1) (rw e (refl, refl, refl))

-- ---- compared

module _ (f : Fans) where
  pub greatest_first : GreatestFan (first_fans 1 f) (get_or f.levels 0 0)
  greatest_first = record {
    within = below_more (λ h. get_or f.levels h 0 ≤ get_or f.levels 0 0) 0 (below_none _) (omega arith);
    met = (0, omega arith, refl);
  }

  module _ {n a : ℕ} (g : GreatestFan (first_fans n f) a) where
    pub greatest_kept : get_or f.levels n 0 ≤ a → GreatestFan (first_fans (n + 1) f) a
    greatest_kept b = record {
      within = below_more (λ h. get_or f.levels h 0 ≤ a) n g.within b;
      met = (g.met.0, omega (arith, g.met.1), g.met.2);
    }

    pub greatest_raised : a ≤ get_or f.levels n 0 → GreatestFan (first_fans (n + 1) f) (get_or f.levels n 0)
    greatest_raised b = record {
      within = below_more (λ h. get_or f.levels h 0 ≤ get_or f.levels n 0) n (λ h l. omega (arith, g.within h l)) (omega arith);
      met = (n, omega arith, refl);
    }

    pub greatest_fan_more : {b : ℕ} → b ≡ max a (get_or f.levels n 0) → GreatestFan (first_fans (n + 1) f) b
    greatest_fan_more e =
        rw e
        (by_leb (λ b. GreatestFan (first_fans (n + 1) f) (max a (get_or f.levels n 0))) a (get_or f.levels n 0)
        (λ l. let e : max a (get_or f.levels n 0) ≡ get_or f.levels n 0 = omega arith in rw e (greatest_raised l))
        (λ l. let e : max a (get_or f.levels n 0) ≡ a = omega arith in rw e (greatest_kept (omega arith))))

-- ---- asked

-- of the gate that fanin h reads
abbrev AskedAt : Fans → Draft → (bounds inputs : List ℕ) → ℕ → Type 0
AskedAt f d bounds inputs h = 0 < get_or f.lines h 0 → (get_or bounds (get_or f.gates h 0) 0 ≡ get_or d.bounds h 0) × (get_or inputs (get_or f.gates h 0) 0 ≡ get_or d.inputs h 0)

module _ (f : Fans) (d : Draft) (bounds inputs : List ℕ) where
  pub ask_none : AskedOf (first_fans 0 f) d bounds inputs bounds inputs
  ask_none = record { read = λ h l. absurd (omega arith); others = λ j u. (refl, refl) }

  module _ {n : ℕ} {bounds' inputs' : List ℕ} (a : AskedOf (first_fans n f) d bounds inputs bounds' inputs') where
    -- a net is not asked
    pub ask_net : get_or f.lines n 0 ≤ 0 → AskedOf (first_fans (n + 1) f) d bounds inputs bounds' inputs'
    ask_net z = record {
      read = below_more (AskedAt f d bounds' inputs') n a.read (λ o. absurd (omega arith));
      others = λ j u. a.others j (λ h l. u h (omega arith));
    }

    -- what was asked of other gates stays
    pub ask_gate : CanAsk f d → n < f.count → 0 < get_or f.lines n 0 → length bounds' ≡ 255 → length inputs' ≡ 255 →
        AskedOf (first_fans (n + 1) f) d bounds inputs (set bounds' (get_or f.gates n 0) (get_or d.bounds n 0)) (set inputs' (get_or f.gates n 0) (get_or d.inputs n 0))
    ask_gate c m o b i =
        let w = c.placed n m o in
        record {
          read =
              below_more (AskedAt f d (set bounds' (get_or f.gates n 0) (get_or d.bounds n 0)) (set inputs' (get_or f.gates n 0) (get_or d.inputs n 0))) n
              (λ h l p.
              let u : get_or f.gates h 0 ≢ get_or f.gates n 0 = λ e. omega (arith, c.apart h n (omega arith) m p o e) in
              let r = a.read h l p in
              (get_or-set_other bounds' _ _ _ 0 u ∙ r.0, get_or-set_other inputs' _ _ _ 0 u ∙ r.1))
              (λ p. (get_or-set_same bounds' _ _ 0 (omega arith), get_or-set_same inputs' _ _ 0 (omega arith)));
          others = λ j u.
              let v : j ≢ get_or f.gates n 0 = λ e. u n (omega arith) o (sym e) in
              let r = a.others j (λ h l. u h (omega arith)) in
              (get_or-set_other bounds' _ _ _ 0 v ∙ r.0, get_or-set_other inputs' _ _ _ 0 v ∙ r.1);
        }
