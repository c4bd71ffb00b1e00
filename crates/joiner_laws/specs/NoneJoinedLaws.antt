-- A sheet of which no edge is joined is its own joined sheet; and the test of it, fanin by fanin.
use Rattle.std.specs.Prelude.{ℕ, suc, ◌+◌, ◌-◌, ◌≤◌, ◌<◌, ◌≡◌, refl, Bool, true, false, not, cond, ◌&&◌, List, [], ◌∷◌, ◌++◌, map, T, leb, length, get_or, drop}
use Rattle.std.proofs.Common.{arith, add-one, sym, ap, ap₂, ◌∙◌, subst, append_assoc, length-append, drop-cons}
use Rattle.std.proofs.Math.ListN.{get_or-append}
use Rattle.std.proofs.lemmas.List.{get_or_at}
use Rattle.lists.specs.Trusted.Lists.{Every, from}
use Rattle.lists.specs.Trusted.Tests.{all}
use Rattle.lists.specs.Cases.{and_split}
use Rattle.lists.specs.ListLaws.{every_head, every_left, every_right, drop_past}
use Rattle.lists.specs.NumberLaws.{from_length}
use Rattle.tree.specs.declared.Kind.{Kind}
use Rattle.tree.specs.Trusted.Limits.{most_fanins}
use Rattle.sheet.specs.declared.Source.{Source}
use Rattle.sheet.specs.declared.Source.TheVariants.{Net, Gate}
use Rattle.sheet.specs.declared.Edge.{Edge}
use Rattle.sheet.specs.Trusted.Sheet.{DrawnGate, DrawnSheet, gate_of, fanin_gates}
use Rattle.sheet.specs.Trusted.Formed.{Before, Earlier, WellFormed}
use Rattle.sheet.specs.PlaceLaws.{no_gate, no_edge}
use Rattle.joined.specs.Trusted.Joined.{chained}
use Rattle.joined.specs.JoinedSheet.{gate_at, joins_source, lower_fanins, turn_fanin, joined_fanins, gone_into, joined_gate, joined_gates, gone_gates, staying, new_number, new_source, new_fanin, new_gate, staying_gates, joined_sheet}
use Rattle.joiner_laws.specs.NoneJoined.{keeps_fanin, keeps_fanins, none_joined, GatesKept, FaninsKept}

-- ---- nothing is joined

not_true : (b : Bool) → T (not b) → b ≡ false
not_true false h = refl
not_true true h = absurd h

-- the gates before one are the sheet's
joins_before : (ds rest : List DrawnGate) (k : Kind) (n : ℕ) (i : Bool) (s : Source) → Every (Before (suc (length ds))) (gate_of s) →
    joins_source ds k n i s ≡ joins_source (ds ++ rest) k n i s
joins_before ds rest k n i (Net m) b = refl
joins_before ds rest k n i (Gate g) b =
    let c = every_head b in
    ap (λ d. chained i k d.kind && leb (n + length d.fanins) most_fanins) (sym (get_or-append ds rest no_gate (g - 1) (omega arith)))

-- each fanin stays, where all gates are `gs`
fanins_stay : (ds rest : List DrawnGate) (d : DrawnGate) (n : ℕ) (fs : List Edge) → n + length fs ≡ length d.fanins → Every (Before (suc (length ds))) (fanin_gates fs) →
    T (all (keeps_fanin (ds ++ rest) d) fs) → (joined_fanins ds d.kind n fs ≡ fs) × (gone_into ds d.kind n fs ≡ [])
fanins_stay ds rest d n [] e b h = (refl, refl)
fanins_stay ds rest d n (f ∷ fs) e b h =
    let t = and_split (keeps_fanin (ds ++ rest) d f) (all (keeps_fanin (ds ++ rest) d) fs) h in
    let later = fanins_stay ds rest d (n + 1) fs (omega (arith, e)) (every_right (gate_of f.source) (fanin_gates fs) b) t.1 in
    let none : joins_source ds d.kind (n + length fs) f.inverted f.source ≡ false =
    joins_before ds rest d.kind (n + length fs) f.inverted f.source (every_left (gate_of f.source) (fanin_gates fs) b)
    ∙ (ap (λ m. joins_source (ds ++ rest) d.kind m f.inverted f.source) (let q : n + length fs ≡ length d.fanins - 1 = omega (arith, e) in q) ∙ not_true _ t.0) in (
      subst (λ b. (let xs = cond b (map (turn_fanin f.inverted) (lower_fanins ds f.source)) (f ∷ []) in xs ++ joined_fanins ds d.kind (n + length xs) fs) ≡ f ∷ fs) (sym none)
          (ap (◌∷◌ f) later.0),
      subst (λ b. cond b (gate_of f.source) [] ++ gone_into ds d.kind (n + length (cond b (map (turn_fanin f.inverted) (lower_fanins ds f.source)) (f ∷ []))) fs ≡ []) (sym none)
          later.1,
    )

gates_stay : (ds rest : List DrawnGate) → Earlier (suc (length ds)) rest → T (all (keeps_fanins (ds ++ rest)) rest) → (joined_gates ds rest ≡ rest) × (gone_gates ds rest ≡ [])
gates_stay ds [] b h = (refl, refl)
gates_stay ds (d ∷ rest) b h =
    let t = and_split (keeps_fanins (ds ++ (d ∷ rest)) d) (all (keeps_fanins (ds ++ (d ∷ rest))) rest) h in
    let own = fanins_stay ds (d ∷ rest) d 0 d.fanins (omega arith) b.0 t.0 in
    let same : joined_gate ds d ≡ d = ap (λ fs. record { kind = d.kind; fanins = fs }) own.0 in
    let size : length (ds ++ (d ∷ [])) ≡ suc (length ds) = omega (arith, length-append ds (d ∷ [])) in
    let later =
    gates_stay (ds ++ (d ∷ [])) rest (subst (λ n. Earlier (suc n) rest) (sym size) b.1) (subst (λ all-gates. T (all (keeps_fanins all-gates) rest)) (sym (append_assoc ds (d ∷ []) rest)) t.1) in (
      ap₂ ◌∷◌ same (ap (λ x. joined_gates (ds ++ (x ∷ [])) rest) same ∙ later.0),
      ap₂ ◌++◌ own.1 (ap (λ x. gone_gates (ds ++ (x ∷ [])) rest) same ∙ later.1),
    )

-- and then all keep their numbers
staying_whole : (xs : List ℕ) → staying [] xs ≡ xs
staying_whole [] = refl
staying_whole (x ∷ xs) = ap (◌∷◌ x) (staying_whole xs)

same_number : (g : ℕ) → new_number [] g ≡ g
same_number g = ap length (staying_whole (from 1 g)) ∙ from_length 1 g

same_fanins : (fs : List Edge) → map (new_fanin []) fs ≡ fs
same_fanins [] = refl
same_fanins (f ∷ fs) = ap₂ ◌∷◌ (ap (λ s. record { inverted = f.inverted; source = s }) (of f.source)) (same_fanins fs)
  where
    of : (s : Source) → new_source [] s ≡ s
    of (Net n) = refl
    of (Gate g) = ap Gate (same_number g)

gates_whole : (ds gs : List DrawnGate) → map (λ g. new_gate [] (gate_at (ds ++ gs) g)) (from (suc (length ds)) (length gs)) ≡ gs
gates_whole ds [] = refl
gates_whole ds (d ∷ gs) =
    let size : length (ds ++ (d ∷ [])) ≡ suc (length ds) = omega (arith, length-append ds (d ∷ [])) in
    let first : gate_at (ds ++ (d ∷ gs)) (suc (length ds)) ≡ d = get_or_at ds d gs no_gate (suc (length ds) - 1) (omega arith) in
    ap₂ ◌∷◌ (ap (new_gate []) first ∙ ap (λ fs. record { kind = d.kind; fanins = fs }) (same_fanins d.fanins))
    (ap₂ (λ all-gates n. map (λ g. new_gate [] (gate_at all-gates g)) (from (suc n) (length gs))) (sym (append_assoc ds (d ∷ []) gs)) (sym size) ∙ gates_whole (ds ++ (d ∷ [])) gs)

-- WHERE NO EDGE IS JOINED, THE SHEET IS THE JOINED SHEET
pub none_joined_lem : (s : DrawnSheet) → WellFormed s → none_joined s.gates ≡ true → s ≡ joined_sheet s
none_joined_lem s w e =
    let same = gates_stay [] s.gates w.earlier (subst T (sym e) tt) in
    ap (λ gs. record { out = s.out; inverted = s.inverted; gates = gs })
    (sym (ap₂ staying_gates same.1 same.0 ∙ (ap (map (λ g. new_gate [] (gate_at s.gates g))) (staying_whole (from 1 (length s.gates))) ∙ gates_whole [] s.gates)))

-- ---- the test

pub kept_start : (gs : List DrawnGate) → GatesKept gs 0
kept_start gs = record { at = omega arith; left = refl }

pub kept_end : {gs : List DrawnGate} {g : ℕ} → GatesKept gs g → length gs ≤ g → true ≡ none_joined gs
kept_end {gs} {g} h l = ap (all (keeps_fanins gs)) (sym (drop_past g gs l)) ∙ h.left

pub fanins_first : {gs : List DrawnGate} {g : ℕ} → GatesKept gs g → g < length gs → {d : DrawnGate} → get_or gs g no_gate ≡ d → FaninsKept gs g d 0
fanins_first {gs} {g} h l {d} e = record {
  some = l;
  next = e;
  upto = omega arith;
  left = ap (all (keeps_fanins gs)) (sym (drop-cons gs g no_gate l ∙ ap (λ x. x ∷ drop (suc g) gs) e)) ∙ h.left;
}

pub fanins_last : {gs : List DrawnGate} {g : ℕ} {d : DrawnGate} {i : ℕ} → FaninsKept gs g d i → length d.fanins ≤ i → GatesKept gs (g + 1)
fanins_last {gs} {g} {d} {i} h l = record {
  at = omega (arith, h.some);
  left =
      ap (λ n. all (keeps_fanins gs) (drop n gs)) (add-one g)
      ∙ (ap (λ fs. all (keeps_fanin gs d) fs && all (keeps_fanins gs) (drop (suc g) gs)) (sym (drop_past i d.fanins l)) ∙ h.left);
}

-- a fanin
module _ {gs : List DrawnGate} {g : ℕ} {d : DrawnGate} {i : ℕ} (h : FaninsKept gs g d i) (l : i < length d.fanins) {f : Edge} (is : get_or d.fanins i no_edge ≡ f) where
  abbrev rest : Bool
  rest = all (keeps_fanin gs d) (drop (suc i) d.fanins)

  abbrev others : Bool
  others = all (keeps_fanins gs) (drop (suc g) gs)

  decides : {b : Bool} → joins_source gs d.kind (length d.fanins - 1) f.inverted f.source ≡ b → ((not b && rest) && others) ≡ none_joined gs
  decides {b} e =
      ap (λ b. (not b && rest) && others) (sym e)
      ∙ (ap (λ fs. all (keeps_fanin gs d) fs && others) (sym (drop-cons d.fanins i no_edge l ∙ ap (λ f. f ∷ drop (suc i) d.fanins) is)) ∙ h.left)

  pub fanin_stays : joins_source gs d.kind (length d.fanins - 1) f.inverted f.source ≡ false → FaninsKept gs g d (i + 1)
  fanin_stays e = record {
    some = h.some;
    next = h.next;
    upto = omega arith;
    left = ap (λ n. all (keeps_fanin gs d) (drop n d.fanins) && others) (add-one i) ∙ decides e;
  }

  pub fanin_joins : joins_source gs d.kind (length d.fanins - 1) f.inverted f.source ≡ true → false ≡ none_joined gs
  fanin_joins e = decides e
