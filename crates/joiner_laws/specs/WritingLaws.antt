-- The gates that stay, written one after the other into a sheet: what stands there in the end is the joined sheet.
use Rattle.std.specs.Prelude.{ℕ, suc, ◌+◌, ◌-◌, ◌≤◌, ◌<◌, ◌≡◌, refl, true, false, not, cond, List, [], ◌∷◌, ◌++◌, map, T, length, get_or, take, drop, set}
use Rattle.std.proofs.Common.{arith, add-one, sym, ap, ap₂, ◌∙◌, subst, append-nil, length-append, length-set, get_or-take, get_or-set_same, get_or-set_other, take-suc}
use Rattle.std.proofs.lemmas.List.{map-append, length-map}
use Rattle.std.proofs.Math.Seq.{take-length}
use Rattle.lists.specs.Trusted.Lists.{Every, from}
use Rattle.lists.specs.Trusted.Tests.{elem}
use Rattle.lists.specs.Cases.{by_eqb}
use Rattle.lists.specs.ListLaws.{every_none, every_cons, every_head, permuted_length}
use Rattle.lists.specs.NumberLaws.{sum_append, from_length}
use Rattle.sheet.specs.declared.Source.{Source}
use Rattle.sheet.specs.declared.Source.TheVariants.{Net, Gate as reads}
use Rattle.sheet.specs.declared.Edge.{Edge}
use Rattle.sheet.specs.declared.Gate.{Gate}
use Rattle.sheet.specs.Trusted.Limits.{most_gates, fanin_room}
use Rattle.sheet.specs.Trusted.Sheet.{DrawnGate, DrawnSheet, gate_of, fanin_nets, fanin_gates, leaf_nets, gates_read}
use Rattle.sheet.specs.Trusted.Answers.{drawn_gate, drawn_gates}
use Rattle.sheet.specs.Trusted.Formed.{WellFormed}
use Rattle.sheet.specs.SizeLaws.{fanins_split}
use Rattle.sheet.specs.PlaceLaws.{no_gate, no_edge, every_source}
use Rattle.sheet.specs.StoreLaws.{drawn_same, taken_more, drawn_more, below_more}
use Rattle.gate_fanins.specs.Fanins.{place_in}
use Rattle.joined.specs.JoinedSheet.{gate_at, joined_gates, gone_gates, staying, new_number, new_source, new_fanin, new_gate, joined_sheet}
use Rattle.joined.specs.NumberingLaws.{staying_length, staying_last, staying_parts, number_up, number_same}
use Rattle.joined.proofs.SheetLaws.{joined_formed, joined_length, joined_reads}
use Rattle.joiner_laws.specs.declared.JoinedGate.{JoinedGate}
use Rattle.joiner_laws.specs.Joining.{GateIs}
use Rattle.joiner_laws.specs.Writing.{with_number, renumbered_edge, new_gates, fanin_total, GatesWriting, FaninsWriting}

-- ---- how many fanins there are

total_append : (ds es : List DrawnGate) → fanin_total (ds ++ es) ≡ fanin_total ds + fanin_total es
total_append = sum_append (λ d. length d.fanins)

total_read : (ds : List DrawnGate) → fanin_total ds ≡ length (leaf_nets ds) + length (gates_read ds)
total_read [] = refl
total_read (d ∷ ds) =
    omega (arith, total_read ds, fanins_split d.fanins, length-append (fanin_nets d.fanins) (leaf_nets ds), length-append (fanin_gates d.fanins) (gates_read ds))

-- a sheet has room for its own
total_most : (s : DrawnSheet) → WellFormed s → fanin_total s.gates ≤ fanin_room
total_most s w =
    omega (arith, total_read s.gates, w.leaf_count_lem, permuted_length w.read_once, from_length 1 (length s.gates - 1), w.gate_count)

-- ---- the gates that stay

module _ (s : DrawnSheet) (w : WellFormed s) where
  abbrev gs : List DrawnGate
  gs = s.gates

  abbrev joined : List DrawnGate
  joined = joined_gates [] gs

  abbrev gone : List ℕ
  gone = gone_gates [] gs

  -- the next gate, g + 1
  module _ (g : ℕ) where
    abbrev next : DrawnGate
    next = get_or joined g no_gate

    next_is : gate_at joined (suc g) ≡ next
    next_is = ap (λ i. get_or joined i no_gate) (let q : suc g - 1 ≡ g = omega arith in q)

    kept_more : elem (suc g) gone ≡ false → new_gates gs (suc g) ≡ new_gates gs g ++ (new_gate gone next ∷ [])
    kept_more e =
        ap (map (λ h. new_gate gone (gate_at joined h))) (staying_last gone g ∙ ap (λ b. staying gone (from 1 g) ++ cond b [] (suc g ∷ [])) e)
        ∙ (map-append (λ h. new_gate gone (gate_at joined h)) (staying gone (from 1 g)) (suc g ∷ []) ∙ ap (λ d. new_gates gs g ++ (new_gate gone d ∷ [])) next_is)

    kept_same : elem (suc g) gone ≡ true → new_gates gs (suc g) ≡ new_gates gs g
    kept_same e =
        ap (map (λ h. new_gate gone (gate_at joined h)))
        (staying_last gone g ∙ (ap (λ b. staying gone (from 1 g) ++ cond b [] (suc g ∷ [])) e ∙ append-nil (staying gone (from 1 g))))

    -- its fanins have room
    total_more : elem (suc g) gone ≡ false → fanin_total (new_gates gs (suc g)) ≡ fanin_total (new_gates gs g) + length next.fanins
    total_more e =
        omega (arith, ap fanin_total (kept_more e), total_append (new_gates gs g) (new_gate gone next ∷ []), length-map next.fanins (new_fanin gone))

    next_room : g < length gs → elem (suc g) gone ≡ false → fanin_total (new_gates gs g) + length next.fanins ≤ fanin_room
    next_room l e =
        let n = length joined in
        let rest = map (λ h. new_gate gone (gate_at joined h)) (staying gone (from (1 + suc g) (n - suc g))) in
        let parts : new_gates gs n ≡ new_gates gs (suc g) ++ rest =
        ap (map (λ h. new_gate gone (gate_at joined h))) (staying_parts gone (suc g) n (omega (arith, joined_length [] gs)))
        ∙ map-append (λ h. new_gate gone (gate_at joined h)) (staying gone (from 1 (suc g))) (staying gone (from (1 + suc g) (n - suc g))) in
        omega (arith, total_more e, ap fanin_total parts, total_append (new_gates gs (suc g)) rest, total_most (joined_sheet s) (joined_formed s w))

  -- a fanin of it, as the code has it
  module _ {g : ℕ} (l : g < length gs) {x : JoinedGate} (is : GateIs x (next g)) {i : ℕ} (m : i < length (next g).fanins) where
    pub edge_is : get_or (next g).fanins i no_edge ≡ get_or x.fanins i no_edge
    edge_is = ap (λ fs. get_or fs i no_edge) (sym is.fanins) ∙ get_or-take x.count x.fanins i no_edge (omega (arith, is.count))

    pub edge_reads : Every (λ j. (1 ≤ j) × (j ≤ g)) (gate_of (get_or x.fanins i no_edge).source)
    edge_reads = of (get_or x.fanins i no_edge).source refl
      where
        all : Every (λ j. (1 ≤ j) × (j ≤ g)) (fanin_gates (next g).fanins)
        all = subst (λ d. Every (λ j. (1 ≤ j) × (j ≤ g)) (fanin_gates d.fanins)) (next_is g)
            (λ j k. let b = joined_reads s w (suc g) (omega arith) (omega arith) j k in (b.0, omega (arith, b.1)))

        of : (z : Source) → (get_or x.fanins i no_edge).source ≡ z → Every (λ j. (1 ≤ j) × (j ≤ g)) (gate_of z)
        of (Net n) e = every_none _
        of (reads j) e = every_cons (every_source {P = λ j. (1 ≤ j) × (j ≤ g)} (next g).fanins i j all m (ap (λ f. f.source) edge_is ∙ e)) (every_none _)

  -- one gate more has its number
  numbers_more : {g : ℕ} (numbers : List ℕ) {n : ℕ} → ((j : ℕ) → j < g → get_or numbers j 0 ≡ new_number gone (suc j)) → g < length numbers → n ≡ new_number gone (suc g) →
      (j : ℕ) → j < g + 1 → get_or (set numbers g n) j 0 ≡ new_number gone (suc j)
  numbers_more {g} numbers {n} h l e j m =
      by_eqb (λ b. get_or (set numbers g n) j 0 ≡ new_number gone (suc j)) j g
      (λ i. rw i (get_or-set_same numbers g n 0 l ∙ e))
      (λ d. get_or-set_other numbers g j n 0 d ∙ h j (omega (arith, d, m)))

  -- no more gates, and no more fanins, than there is room for
  module _ {g : ℕ} {numbers : List ℕ} {kept used : ℕ} {gates : List Gate} {fanins : List Edge} (h : GatesWriting gs g numbers kept used gates fanins) where
    pub kept_few : kept ≤ g
    kept_few = omega (arith, h.count, staying_length gone (from 1 g), from_length 1 g)

    pub used_few : g < length gs → elem (suc g) gone ≡ false → used + length (next g).fanins ≤ fanin_room
    used_few l e = omega (arith, next_room g l e, h.total)

  -- ---- the first fanins of the next gate

  module _ {g : ℕ} {numbers : List ℕ} {kept used : ℕ} {gates : List Gate} {i : ℕ} {fanins : List Edge} (h : FaninsWriting gs g numbers kept used gates i fanins) where
    abbrev fs : List Edge
    fs = (next g).fanins

    -- one more
    module _ (l : i < length fs) (m : g < length gs) (e : elem (suc g) gone ≡ false) {f : Edge} (is : get_or fs i no_edge ≡ f) where
      pub put_room : used + i < fanin_room
      put_room = omega (arith, l, used_few h.before m e)

      renumbered_is : Every (λ j. (1 ≤ j) × (j ≤ g)) (gate_of f.source) → renumbered_edge f (get_or numbers (place_in f.source) 0) ≡ new_fanin gone f
      renumbered_is b = ap (λ z. record { inverted = f.inverted; source = z }) (of f.source b)
        where
          of : (z : Source) → Every (λ j. (1 ≤ j) × (j ≤ g)) (gate_of z) → with_number z (get_or numbers (place_in z) 0) ≡ new_source gone z
          of (Net n) b = refl
          of (reads j) b =
              let c = every_head b in
              ap reads (h.before.numbered (j - 1) (omega arith) ∙ ap (new_number gone) (let q : suc (j - 1) ≡ j = omega arith in q))

      pub fanin_put : Every (λ j. (1 ≤ j) × (j ≤ g)) (gate_of f.source) → {n : ℕ} → n ≡ get_or numbers (place_in f.source) 0 →
          FaninsWriting gs g numbers kept used gates (i + 1) (set fanins (used + i) (renumbered_edge f n))
      fanin_put b {n} d = record {
        before = record {
          at = h.before.at;
          count = h.before.count;
          numbered = h.before.numbered;
          written = drawn_same fanins (used + i) (renumbered_edge f n) (take kept gates) h.before.below (omega arith) ∙ h.before.written;
          below = h.before.below;
          total = h.before.total;
          number_room = h.before.number_room;
          gate_room = h.before.gate_room;
          fanin_room_lem = length-set fanins (used + i) (renumbered_edge f n) ∙ h.before.fanin_room_lem;
        };
        upto = omega arith;
        put =
            taken_more fanins used i (renumbered_edge f n) (omega (arith, put_room, h.before.fanin_room_lem))
            ∙ (ap₂ (λ xs x. xs ++ (x ∷ [])) h.put (ap (renumbered_edge f) d ∙ (renumbered_is b ∙ ap (new_fanin gone) (sym is)))
            ∙ (sym (map-append (new_fanin gone) (take i fs) (get_or fs i no_edge ∷ [])) ∙ ap (map (new_fanin gone)) (sym (ap (λ k. take k fs) (add-one i) ∙ take-suc fs i no_edge l))));
      }

    -- all of them: the gate is written
    module _ (l : length fs ≤ i) (m : g < length gs) (few : length gs ≤ most_gates) (e : elem (suc g) gone ≡ false) {x : JoinedGate} (is : GateIs x (next g)) where
      abbrev new : Gate
      new = record { kind = x.kind; count = x.count; first = used }

      new_is : drawn_gate fanins new ≡ new_gate gone (next g)
      new_is =
          ap₂ (λ k es. record { kind = k; fanins = es }) is.kind
          (ap (λ n. take n (drop used fanins)) (let q : x.count ≡ i = omega (arith, is.count, h.upto) in q)
          ∙ (h.put ∙ ap (map (new_fanin gone)) (ap (λ n. take n fs) (let q : i ≡ length fs = omega (arith, h.upto) in q) ∙ take-length fs)))

      kept_room : kept < most_gates
      kept_room = omega (arith, kept_few h.before, few)

      number : new_number gone (suc g) ≡ kept + 1
      number = omega (arith, h.before.count, number_up gone g (subst (λ b. T (not b)) (sym e) tt))

      pub gate_put : GatesWriting gs (g + 1) (set numbers g (kept + 1)) (kept + 1) (used + x.count) (set gates kept new) fanins
      gate_put = record {
        at = omega arith;
        count = rw (add-one g) (sym number);
        numbered = numbers_more numbers h.before.numbered (omega (arith, m, few, h.before.number_room)) (sym number);
        written =
            rw (add-one g) (drawn_more gates kept new (omega (arith, kept_room, h.before.gate_room)) fanins
            ∙ (ap₂ (λ xs y. xs ++ (y ∷ [])) h.before.written new_is ∙ sym (kept_more g e)));
        below = below_more gates kept new (omega (arith, kept_room, h.before.gate_room)) h.before.below (omega arith) (omega arith);
        total = rw (add-one g) (omega (arith, h.before.total, total_more g e, is.count));
        number_room = length-set numbers g (kept + 1) ∙ h.before.number_room;
        gate_room = length-set gates kept new ∙ h.before.gate_room;
        fanin_room_lem = h.before.fanin_room_lem;
      }

  -- ---- a gate that is gone

  pub gate_gone : {g : ℕ} {numbers : List ℕ} {kept used : ℕ} {gates : List Gate} {fanins : List Edge} → GatesWriting gs g numbers kept used gates fanins → g < length gs →
      length gs ≤ most_gates → elem (suc g) gone ≡ true → GatesWriting gs (g + 1) (set numbers g kept) kept used gates fanins
  gate_gone {g} {numbers} {kept} h m few e = record {
    at = omega arith;
    count = rw (add-one g) (sym number);
    numbered = numbers_more numbers h.numbered (omega (arith, m, few, h.number_room)) (sym number);
    written = rw (add-one g) (h.written ∙ sym (kept_same g e));
    below = h.below;
    total = rw (add-one g) (h.total ∙ ap fanin_total (sym (kept_same g e)));
    number_room = length-set numbers g kept ∙ h.number_room;
    gate_room = h.gate_room;
    fanin_room_lem = h.fanin_room_lem;
  }
    where
      number : new_number gone (suc g) ≡ kept
      number = omega (arith, h.count, number_same gone g (subst T (sym e) tt))

  -- ---- all gates

  pub writing_start : {numbers : List ℕ} {gates : List Gate} {fanins : List Edge} → length numbers ≡ most_gates → length gates ≡ most_gates → length fanins ≡ fanin_room →
      GatesWriting gs 0 numbers 0 0 gates fanins
  writing_start a b c = record {
    at = omega arith;
    count = refl;
    numbered = λ j l. absurd (omega arith);
    written = refl;
    below = every_none _;
    total = refl;
    number_room = a;
    gate_room = b;
    fanin_room_lem = c;
  }

  pub writing_end : {g : ℕ} {numbers : List ℕ} {kept used : ℕ} {gates : List Gate} {fanins : List Edge} → GatesWriting gs g numbers kept used gates fanins → length gs ≤ g →
      record { out = s.out; inverted = s.inverted; gates = drawn_gates fanins kept gates } ≡ joined_sheet s
  writing_end {g} h l =
      ap (λ ds. record { out = s.out; inverted = s.inverted; gates = ds })
      (h.written ∙ ap (new_gates gs) (let q : g ≡ length joined = omega (arith, h.at, joined_length [] gs) in q))
