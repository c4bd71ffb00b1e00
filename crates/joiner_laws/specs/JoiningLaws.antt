-- Gates joined one after the other, and each one's fanins from left to right: the code's steps give what the joined sheet has.
use Rattle.std.specs.Prelude.{ℕ, suc, ◌+◌, ◌-◌, ◌≤◌, ◌<◌, ◌≡◌, refl, ◌≢◌, Bool, true, false, cond, ◌&&◌, ◌||◌, List, [], ◌∷◌, ◌++◌, map, T, leb, length, get_or, take, drop, set, replicate}
use Rattle.std.proofs.Common.{arith, add-one, sym, ap, ap₂, ◌∙◌, subst, append_assoc, append-nil, leb→le, length-append, length-take, length-drop, length-set, drop-cons, get_or-set_same, get_or-set_other, take_all, take-suc, take-suc-set}
use Rattle.std.proofs.lemmas.List.{map-append, length-map, length-replicate, get_or-replicate, get_or_at}
use Rattle.std.proofs.Math.ListN.{get_or-append}
use Rattle.lists.specs.Trusted.Lists.{Every}
use Rattle.lists.specs.Trusted.Tests.{elem}
use Rattle.lists.specs.Cases.{by_eqb, and_split}
use Rattle.lists.specs.ListLaws.{every_none, every_cons, every_head, drop_past}
use Rattle.tree.specs.declared.Kind.{Kind}
use Rattle.tree.specs.Trusted.Limits.{most_fanins}
use Rattle.sheet.specs.declared.Source.{Source}
use Rattle.sheet.specs.declared.Source.TheVariants.{Net, Gate}
use Rattle.sheet.specs.declared.Edge.{Edge}
use Rattle.sheet.specs.Trusted.Limits.{most_gates}
use Rattle.sheet.specs.Trusted.Sheet.{DrawnGate, gate_of, fanin_gates}
use Rattle.sheet.specs.Trusted.Formed.{FaninCount}
use Rattle.sheet.specs.PlaceLaws.{no_gate, no_edge, every_source}
use Rattle.gate_fanins.specs.Fanins.{place_in}
use Rattle.joined.specs.Trusted.Joined.{chained}
use Rattle.joined.specs.JoinedSheet.{gate_at, joins_source, lower_fanins, turn_fanin, fanins_in_place, gone_by, joined_fanins, gone_into, joined_gate, joined_gates, gone_gates}
use Rattle.joiner_laws.specs.declared.JoinedGate.{JoinedGate}
use Rattle.joiner_laws.specs.Joining.{GateIs, with_edge, FaninsAdded, FaninsAdding, joins_lower, no_joined_gate, GatesAre, FlagsShow, GatesJoining, FaninsJoining, AllJoined}

-- ---- one gate

pub joined_few : {x : JoinedGate} {d : DrawnGate} → GateIs x d → x.count ≤ most_fanins
joined_few {x} h = omega (arith, h.count, h.room, ap length h.fanins, length-take x.count x.fanins)

pub gate_more : {x : JoinedGate} {d : DrawnGate} → GateIs x d → x.count < most_fanins → (f : Edge) →
    GateIs (with_edge x f) (record { kind = d.kind; fanins = d.fanins ++ (f ∷ []) })
gate_more {x} {d} h l f = record {
  kind = h.kind;
  count = omega (arith, h.count, length-append d.fanins (f ∷ []));
  fanins =
      ap (λ n. take n (set x.fanins x.count f)) (add-one x.count)
      ∙ (take-suc-set x.fanins x.count f (omega (arith, h.room)) ∙ ap (λ fs. fs ++ (f ∷ [])) h.fanins);
  room = length-set x.fanins x.count f ∙ h.room;
}

-- ---- the fanins of another gate more

pub adding_start : (x : JoinedGate) (v : Bool) (fs : List Edge) → FaninsAdding x v fs 0 x
adding_start x v fs = record { count = omega arith; added = λ d h. rw (append-nil d.fanins) h }

pub adding_next : {x : JoinedGate} {v : Bool} {fs : List Edge} {i : ℕ} {y : JoinedGate} → FaninsAdding x v fs i y → i < length fs → y.count < most_fanins →
    FaninsAdding x v fs (i + 1) (with_edge y (turn_fanin v (get_or fs i no_edge)))
adding_next {x} {v} {fs} {i} {y} h l r = record {
  count = omega (arith, h.count);
  added = λ d z. subst (λ es. GateIs (with_edge y (turn_fanin v (get_or fs i no_edge))) (record { kind = d.kind; fanins = es })) (more d) (gate_more (h.added d z) r (turn_fanin v (get_or fs i no_edge)));
}
  where
    more : (d : DrawnGate) → (d.fanins ++ map (turn_fanin v) (take i fs)) ++ (turn_fanin v (get_or fs i no_edge) ∷ []) ≡ d.fanins ++ map (turn_fanin v) (take (i + 1) fs)
    more d =
        append_assoc d.fanins (map (turn_fanin v) (take i fs)) (turn_fanin v (get_or fs i no_edge) ∷ [])
        ∙ ap (◌++◌ d.fanins) (sym (ap (map (turn_fanin v)) (ap (λ n. take n fs) (add-one i) ∙ take-suc fs i no_edge l) ∙ map-append (turn_fanin v) (take i fs) (get_or fs i no_edge ∷ [])))

pub adding_end : {x : JoinedGate} {v : Bool} {lower y : JoinedGate} {i : ℕ} → let fs = take lower.count lower.fanins in FaninsAdding x v fs i y → length fs ≤ i → FaninsAdded x v lower y
adding_end {x} {v} {lower} {y} {i} h l d e z is =
    subst (λ es. GateIs y (record { kind = d.kind; fanins = d.fanins ++ map (turn_fanin v) es })) (take_all i (take lower.count lower.fanins) l ∙ is.fanins) (h.added d z)

-- one gate more
gates_more : (xs : List JoinedGate) (ds : List DrawnGate) {g : ℕ} {x : JoinedGate} {d : DrawnGate} → GatesAre xs ds → length ds ≡ g → g < length xs → GateIs x d →
    GatesAre (set xs g x) (ds ++ (d ∷ []))
gates_more xs ds {g} {x} {d} h e l z j m =
    by_eqb (λ b. GateIs (get_or (set xs g x) j no_joined_gate) (get_or (ds ++ (d ∷ [])) j no_gate)) j g
    (λ i. rw (i, get_or-set_same xs g x no_joined_gate l, get_or_at ds d [] no_gate g e) z)
    (λ n. rw (get_or-set_other xs g j x no_joined_gate n, get_or-append ds (d ∷ []) no_gate j (inside n)) (h j (inside n)))
  where
    inside : j ≢ g → j < length ds
    inside n = omega (arith, n, m, length-append ds (d ∷ []))

-- ---- flags

or_true : (a b : Bool) → (a || (true || b)) ≡ true
or_true true b = refl
or_true false b = refl

or_false : (a : Bool) → (a || false) ≡ a
or_false true = refl
or_false false = refl

-- one flag more is up
flag_more : (flags : List Bool) (more all : List ℕ) (g : ℕ) → 1 ≤ g → g ≤ most_gates → length flags ≡ most_gates → FlagsShow flags (g ∷ more) all →
    FlagsShow (set flags (g - 1) true) more all
flag_more flags more all g p l room h j m =
    by_eqb (λ b. (get_or flags j false || (b || elem (suc j) more)) ≡ elem (suc j) all → (get_or (set flags (g - 1) true) j false || elem (suc j) more) ≡ elem (suc j) all) (suc j) g
    (λ e o. ap (λ b. b || elem (suc j) more) (ap (λ i. get_or (set flags i true) j false) (let q : g - 1 ≡ j = omega arith in q) ∙ get_or-set_same flags j true false (omega (arith, room))) ∙ (sym (or_true (get_or flags j false) (elem (suc j) more)) ∙ o))
    (λ n o. ap (λ b. b || elem (suc j) more) (get_or-set_other flags (g - 1) j true false (λ e. n (omega (arith, e)))) ∙ o)
    (h j m)

-- ---- the gate that a fanin reads

-- it is joined where the joined sheet has it so
joins_same : (xs : List JoinedGate) (ds : List DrawnGate) → GatesAre xs ds → (k : Kind) (n : ℕ) (i : Bool) (s : Source) →
    Every (λ j. (1 ≤ j) × (j ≤ length ds)) (gate_of s) → joins_source ds k n i s ≡ joins_lower k n i s (get_or xs (place_in s) no_joined_gate)
joins_same xs ds h k n i (Net m) b = refl
joins_same xs ds h k n i (Gate g) b =
    let c = every_head b in
    let is = h (g - 1) (omega arith) in
    ap₂ (λ j m. chained i k j && leb (n + m) most_fanins) (sym is.kind) (sym is.count)

-- and then it reads a gate, and there is room
joins_told : (k : Kind) (n : ℕ) (i : Bool) (s : Source) (x : JoinedGate) → joins_lower k n i s x ≡ true → (j : ℕ) × (s ≡ Gate j) × (n + x.count ≤ most_fanins)
joins_told k n i (Net m) x e = let z : ◌≡◌ {A = ℕ} 0 1 = cc in absurd (omega arith)
joins_told k n i (Gate j) x e = (j, refl, leb→le _ _ (and_split (chained i k x.kind) (leb (n + x.count) most_fanins) (subst T (sym e) tt)).1)

-- ---- a gate's fanins

-- the gates from one on
gates_from : (gs : List DrawnGate) (g : ℕ) (d : DrawnGate) → g < length gs → get_or gs g no_gate ≡ d → drop g gs ≡ d ∷ drop (suc g) gs
gates_from gs g d l e = drop-cons gs g no_gate l ∙ ap (λ d. d ∷ drop (suc g) gs) e

-- none yet
pub fanins_start : {gs : List DrawnGate} {g : ℕ} {d : DrawnGate} {xs : List JoinedGate} {flags : List Bool} {x : JoinedGate} → GatesJoining gs g xs flags → g < length gs →
    get_or gs g no_gate ≡ d → FaninCount d → GateIs x (record { kind = d.kind; fanins = [] }) → FaninsJoining gs g d xs 0 x flags
fanins_start {gs} {g} {d} {flags = flags} a l e few h = record {
  before = a.before;
  some = l;
  next = e;
  taken = [];
  gate = h;
  at = omega arith;
  fits = omega (arith, few.1);
  joined = refl;
  flags_up = subst (λ rest. FlagsShow flags (gone_gates a.before.done rest) (gone_gates [] gs)) (gates_from gs g d l e) a.flags_up;
  flag_room = a.flag_room;
}

module _ {gs : List DrawnGate} {g : ℕ} {d : DrawnGate} {xs : List JoinedGate} {i : ℕ} {x : JoinedGate} {flags : List Bool} (h : FaninsJoining gs g d xs i x flags) where
  abbrev ds : List DrawnGate
  ds = h.before.done

  abbrev later : List ℕ
  later = gone_gates (ds ++ (joined_gate ds d ∷ [])) (drop (suc g) gs)

  -- the next one, f, beside n others, and the place of the gate that it reads
  module _ (l : i < length d.fanins) (reads : Every (λ j. (1 ≤ j) × (j ≤ g)) (fanin_gates d.fanins)) {f : Edge} (is : get_or d.fanins i no_edge ≡ f)
      {n : ℕ} (beside : n ≡ x.count + (length d.fanins - 1 - i)) {at : ℕ} (place : at ≡ place_in f.source) where
    abbrev rest : List Edge
    rest = drop (suc i) d.fanins

    abbrev lower : JoinedGate
    lower = get_or xs at no_joined_gate

    from_here : drop i d.fanins ≡ f ∷ rest
    from_here = drop-cons d.fanins i no_edge l ∙ ap (λ e. e ∷ rest) is

    -- where these take its place, and these gates are gone by it
    step : (ys : List Edge) (gone : List ℕ) {y : JoinedGate} {flags' : List Bool} → fanins_in_place ds d.kind (length h.taken + length rest) f ≡ ys →
        gone_by ds d.kind (length h.taken + length rest) f ≡ gone → GateIs y (record { kind = d.kind; fanins = h.taken ++ ys }) →
        x.count + length ys + (length d.fanins - 1 - i) ≤ most_fanins → ((more : List ℕ) → FlagsShow flags (gone ++ more) (gone_gates [] gs) → FlagsShow flags' more (gone_gates [] gs)) →
        length flags' ≡ most_gates → FaninsJoining gs g d xs (i + 1) y flags'
    step ys gone {y} {flags'} e z made m u r = record {
      before = h.before;
      some = h.some;
      next = h.next;
      taken = h.taken ++ ys;
      gate = made;
      at = omega arith;
      fits = omega (arith, m, h.gate.count, length-append h.taken ys);
      joined =
          ap (λ n. (h.taken ++ ys) ++ joined_fanins ds d.kind (length (h.taken ++ ys)) (drop n d.fanins)) (add-one i)
          ∙ (append_assoc h.taken ys (joined_fanins ds d.kind (length (h.taken ++ ys)) rest)
          ∙ (ap (λ n. h.taken ++ (ys ++ joined_fanins ds d.kind n rest)) (length-append h.taken ys)
          ∙ (ap (λ zs. h.taken ++ (zs ++ joined_fanins ds d.kind (length h.taken + length zs) rest)) (sym e)
          ∙ (ap (λ zs. h.taken ++ joined_fanins ds d.kind (length h.taken) zs) (sym from_here) ∙ h.joined))));
      flags_up =
          u (gone_into ds d.kind (length (h.taken ++ ys)) (drop (i + 1) d.fanins) ++ later) (rw (add-one i) (rw (length-append h.taken ys) (subst (λ zs. FlagsShow flags zs (gone_gates [] gs))
          (append_assoc gone (gone_into ds d.kind (length h.taken + length ys) rest) later)
          (subst (λ zs. FlagsShow flags ((gone ++ gone_into ds d.kind (length h.taken + length zs) rest) ++ later) (gone_gates [] gs)) e
          (subst (λ zs. FlagsShow flags ((zs ++ gone_into ds d.kind (length h.taken + length (fanins_in_place ds d.kind (length h.taken + length rest) f)) rest) ++ later) (gone_gates [] gs)) z
          (subst (λ zs. FlagsShow flags (gone_into ds d.kind (length h.taken) zs ++ later) (gone_gates [] gs)) from_here h.flags_up))))));
      flag_room = r;
    }

    source_reads : Every (λ j. (1 ≤ j) × (j ≤ length ds)) (gate_of f.source)
    source_reads = of f.source refl
      where
        of : (s : Source) → f.source ≡ s → Every (λ j. (1 ≤ j) × (j ≤ length ds)) (gate_of s)
        of (Net n) e = every_none _
        of (Gate j) e =
            let b = every_source {P = λ j. (1 ≤ j) × (j ≤ g)} d.fanins i j reads l (ap (λ f. f.source) is ∙ e) in
            every_cons (b.0, omega (arith, b.1, h.before.at.0)) (every_none _)

    joins_is : joins_source ds d.kind (length h.taken + length rest) f.inverted f.source ≡ joins_lower d.kind n f.inverted f.source lower
    joins_is =
        ap (λ m. joins_source ds d.kind m f.inverted f.source) (let q : length h.taken + length rest ≡ n = omega (arith, beside, h.gate.count, length-drop (suc i) d.fanins) in q)
        ∙ (joins_same xs ds h.before.gates d.kind n f.inverted f.source source_reads
        ∙ ap (λ m. joins_lower d.kind n f.inverted f.source (get_or xs m no_joined_gate)) (sym place))

    pub next_fits : x.count < most_fanins
    next_fits = omega (arith, h.fits, h.gate.count)

    -- it stays
    pub edge_kept : joins_lower d.kind n f.inverted f.source lower ≡ false → FaninsJoining gs g d xs (i + 1) (with_edge x f) flags
    edge_kept e =
        let j = joins_is ∙ e in
        step (f ∷ []) [] (ap (λ b. cond b (map (turn_fanin f.inverted) (lower_fanins ds f.source)) (f ∷ [])) j) (ap (λ b. cond b (gate_of f.source) []) j)
        (gate_more h.gate next_fits f) (omega (arith, h.fits, h.gate.count)) (λ more u. u) h.flag_room

    -- it is joined
    module _ (e : joins_lower d.kind n f.inverted f.source lower ≡ true) where
      abbrev told : (j : ℕ) × (f.source ≡ Gate j) × (n + lower.count ≤ most_fanins)
      told = joins_told d.kind n f.inverted f.source lower e

      abbrev j : ℕ
      j = told.0

      at_gate : at ≡ j - 1
      at_gate = place ∙ ap place_in told.1

      bound : (1 ≤ j) × (j ≤ length ds)
      bound = every_head (subst (λ s. Every (λ j. (1 ≤ j) × (j ≤ length ds)) (gate_of s)) told.1 source_reads)

      lower_is : GateIs lower (gate_at ds j)
      lower_is = subst (λ m. GateIs (get_or xs m no_joined_gate) (gate_at ds j)) (sym at_gate) (h.before.gates (j - 1) (omega (arith, bound)))

      pub join_room : x.count + lower.count ≤ most_fanins
      join_room = omega (arith, told.2, beside)

      pub edge_joined : {y : JoinedGate} → FaninsAdded x f.inverted lower y → length gs ≤ most_gates → FaninsJoining gs g d xs (i + 1) y (set flags at true)
      edge_joined {y} made few =
          let t = joins_is ∙ e in
          step (map (turn_fanin f.inverted) (gate_at ds j).fanins) (j ∷ [])
          (ap (λ b. cond b (map (turn_fanin f.inverted) (lower_fanins ds f.source)) (f ∷ [])) t ∙ ap (λ s. map (turn_fanin f.inverted) (lower_fanins ds s)) told.1)
          (ap (λ b. cond b (gate_of f.source) []) t ∙ ap gate_of told.1)
          (made (record { kind = d.kind; fanins = h.taken }) (gate_at ds j) h.gate lower_is)
          (omega (arith, told.2, beside, lower_is.count, length-map (gate_at ds j).fanins (turn_fanin f.inverted)))
          (λ more u. subst (λ m. FlagsShow (set flags m true) more (gone_gates [] gs)) (sym at_gate)
          (flag_more flags more (gone_gates [] gs) j bound.0 (omega (arith, bound, h.before.at, few)) h.flag_room u))
          (length-set flags at true ∙ h.flag_room)

  -- all of them: the gate is joined
  module _ (l : length d.fanins ≤ i) (few : length gs ≤ most_gates) where
    all_taken : h.taken ≡ joined_fanins ds d.kind 0 d.fanins
    all_taken =
        sym (append-nil h.taken) ∙ (ap (λ zs. h.taken ++ joined_fanins ds d.kind (length h.taken) zs) (sym (drop_past i d.fanins l)) ∙ h.joined)

    pub gate_joined : GatesJoining gs (g + 1) (set xs g x) flags
    gate_joined = record {
      before = record {
        done = ds ++ (joined_gate ds d ∷ []);
        at = (omega (arith, h.before.at, length-append ds (joined_gate ds d ∷ [])), omega (arith, h.some));
        gates = gates_more xs ds h.before.gates h.before.at.0 (omega (arith, h.some, h.before.room, few))
            (subst (λ zs. GateIs x (record { kind = d.kind; fanins = zs })) all_taken h.gate);
        joined =
            ap (λ n. (ds ++ (joined_gate ds d ∷ [])) ++ joined_gates (ds ++ (joined_gate ds d ∷ [])) (drop n gs)) (add-one g)
            ∙ (append_assoc ds (joined_gate ds d ∷ []) (joined_gates (ds ++ (joined_gate ds d ∷ [])) (drop (suc g) gs))
            ∙ (ap (λ zs. ds ++ joined_gates ds zs) (sym (gates_from gs g d h.some h.next)) ∙ h.before.joined));
        room = length-set xs g x ∙ h.before.room;
      };
      flags_up = rw (add-one g) (subst (λ zs. FlagsShow flags (gone_into ds d.kind (length h.taken) zs ++ later) (gone_gates [] gs)) (drop_past i d.fanins l) h.flags_up);
      flag_room = h.flag_room;
    }

-- ---- all gates

pub joining_start : (gs : List DrawnGate) (xs : List JoinedGate) → length xs ≡ most_gates → GatesJoining gs 0 xs (replicate most_gates false)
joining_start gs xs room = record {
  before = record {
    done = [];
    at = (refl, omega arith);
    gates = λ j l. absurd (omega arith);
    joined = refl;
    room = room;
  };
  flags_up = λ j l. rw (get_or-replicate most_gates j false false l) refl;
  flag_room = length-replicate most_gates false;
}

pub joining_end : {gs : List DrawnGate} {g : ℕ} {xs : List JoinedGate} {flags : List Bool} → GatesJoining gs g xs flags → length gs ≤ g →
    AllJoined gs (record { gates = xs; gone = flags })
joining_end {gs} {g} {xs} {flags} a l = record {
  gates = subst (GatesAre xs) all_done a.before.gates;
  gone = λ j m. sym (or_false (get_or flags j false)) ∙ subst (λ zs. FlagsShow flags (gone_gates a.before.done zs) (gone_gates [] gs)) (drop_past g gs l) a.flags_up j m;
}
  where
    all_done : a.before.done ≡ joined_gates [] gs
    all_done = sym (append-nil a.before.done) ∙ (ap (λ zs. a.before.done ++ joined_gates a.before.done zs) (sym (drop_past g gs l)) ∙ a.before.joined)
