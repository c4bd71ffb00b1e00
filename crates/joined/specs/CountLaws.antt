-- What the joined gates read, counted: a gate that is gone is read no more, and what it read its reader reads in its place.
use Rattle.std.specs.Prelude.{ℕ, suc, ◌+◌, ◌-◌, ◌≡◌, Bool, cond, List, [], ◌∷◌, ◌++◌, map, length}
use Rattle.std.proofs.Common.{arith, sym, ap, ◌∙◌, subst, append_assoc, append-nil, length-append}
use Rattle.std.proofs.Math.ListN.{get_or-append}
use Rattle.lists.specs.Trusted.Lists.{Every, Permuted, empty, gather}
use Rattle.lists.specs.ListLaws.{every_left, gather_append, gather_map, gather_same, interchange, permuted_append, permuted_refl, permuted_swap, permuted_to, permuted_trans}
use Rattle.tree.specs.declared.Kind.{Kind}
use Rattle.sheet.specs.declared.Source.{Source}
use Rattle.sheet.specs.declared.Source.TheVariants.{Net as net, Gate as gate}
use Rattle.sheet.specs.declared.Edge.{Edge as Fanin}
use Rattle.sheet.specs.Trusted.Sheet.{DrawnGate, gate_of, fanin_gates, gates_read}
use Rattle.sheet.specs.Trusted.Formed.{Earlier}
use Rattle.lists.specs.Cases.{by_test}
use Rattle.joined.specs.JoinedSheet.{gate_at, joins_source, turn_fanin, fanins_in_place, gone_by, joined_fanins, gone_into, joined_gate, joined_gates, gone_gates}

-- ---- the gates that are gone are among those that were read

place_part : (ds : List DrawnGate) (k : Kind) (n : ℕ) (f : Fanin) → (rest : List ℕ) × Permuted (gate_of f.source) (gone_by ds k n f ++ rest)
place_part ds k n f =
    let g = gate_of f.source in
    by_test (λ b. (rest : List ℕ) × Permuted g (cond b g [] ++ rest)) (joins_source ds k n f.inverted f.source)
    (λ t. ([], subst (Permuted g) (sym (append-nil g)) (permuted_refl g)))
    (λ t. (g, permuted_refl g))

fanins_part : (ds : List DrawnGate) (k : Kind) (n : ℕ) (fs : List Fanin) → (rest : List ℕ) × Permuted (fanin_gates fs) (gone_into ds k n fs ++ rest)
fanins_part ds k n [] = ([], empty)
fanins_part ds k n (f ∷ fs) =
    let p = place_part ds k (n + length fs) f in
    let q = fanins_part ds k (n + length (fanins_in_place ds k (n + length fs) f)) fs in
    (p.0 ++ q.0, permuted_trans (permuted_append p.1 q.1) (interchange (gone_by ds k (n + length fs) f) p.0 (gone_into ds k _ fs) q.0))

pub gates_part : (ds gs : List DrawnGate) → (rest : List ℕ) × Permuted (gates_read gs) (gone_gates ds gs ++ rest)
gates_part ds [] = ([], empty)
gates_part ds (g ∷ gs) =
    let p = fanins_part ds g.kind 0 g.fanins in
    let q = gates_part (ds ++ (joined_gate ds g ∷ [])) gs in
    (p.0 ++ q.0, permuted_trans (permuted_append p.1 q.1) (interchange (gone_into ds g.kind 0 g.fanins) p.0 (gone_gates (ds ++ (joined_gate ds g ∷ [])) gs) q.0))

pub gone_every : {P : ℕ → Type 0} (ds : List DrawnGate) (k : Kind) (n : ℕ) (fs : List Fanin) → Every P (fanin_gates fs) → Every P (gone_into ds k n fs)
gone_every ds k n fs h = let p = fanins_part ds k n fs in every_left (gone_into ds k n fs) p.0 (permuted_to p.1 h)

-- ---- what sources bring

module _ {A : Type 0} (brings : Source → List A) where
  abbrev pub of_fanins : List Fanin → List A
  of_fanins = gather (λ f. brings f.source)

  abbrev pub of_gates : List DrawnGate → List A
  of_gates = gather (λ g. of_fanins g.fanins)

  abbrev pub of_gate : List DrawnGate → ℕ → List A
  of_gate ds g = of_fanins (gate_at ds g).fanins

  abbrev as_read : ℕ → List A
  as_read g = brings (gate g)

  kept_alone : (xs : List A) → Permuted ((xs ++ []) ++ []) (xs ++ [])
  kept_alone xs = subst (λ l. Permuted l (xs ++ [])) (sym (append-nil (xs ++ []))) (permuted_refl _)

  place_brings : (ds : List DrawnGate) (k : Kind) (n : ℕ) (i : Bool) (s : Source) →
      (let f : Fanin = record { inverted = i; source = s } in
      Permuted (of_fanins (fanins_in_place ds k n f) ++ gather as_read (gone_by ds k n f)) (brings s ++ gather (of_gate ds) (gone_by ds k n f)))
  place_brings ds k n i (net x) = kept_alone (brings (net x))
  place_brings ds k n i (gate g) =
      let f : Fanin = record { inverted = i; source = gate g } in
      let lower = (gate_at ds g).fanins in
      by_test
      (λ b. Permuted (of_fanins (cond b (map (turn_fanin i) lower) (f ∷ [])) ++ gather as_read (cond b (g ∷ []) []))
      (brings (gate g) ++ gather (of_gate ds) (cond b (g ∷ []) [])))
      (joins_source ds k n i (gate g))
      (λ t. subst (λ l. Permuted (l ++ (as_read g ++ [])) (as_read g ++ (of_gate ds g ++ []))) (sym (gather_map (λ f. brings f.source) (turn_fanin i) lower))
      (permuted_swap (of_gate ds g) (as_read g) []))
      (λ t. kept_alone (brings (gate g)))

  pub fanins_bring : (ds : List DrawnGate) (k : Kind) (n : ℕ) (fs : List Fanin) →
      Permuted (of_fanins (joined_fanins ds k n fs) ++ gather as_read (gone_into ds k n fs)) (of_fanins fs ++ gather (of_gate ds) (gone_into ds k n fs))
  fanins_bring ds k n [] = empty
  fanins_bring ds k n (f ∷ fs) =
      let xs = fanins_in_place ds k (n + length fs) f in
      let rest = joined_fanins ds k (n + length xs) fs in
      let js = gone_by ds k (n + length fs) f in
      let more = gone_into ds k (n + length xs) fs in
      rw (gather_append (λ f. brings f.source) xs rest, gather_append as_read js more, gather_append (of_gate ds) js more)
      (permuted_trans (interchange (of_fanins xs) (of_fanins rest) (gather as_read js) (gather as_read more))
      (permuted_trans (permuted_append (place_brings ds k (n + length fs) f.inverted f.source) (fanins_bring ds k (n + length xs) fs))
      (interchange (brings f.source) (gather (of_gate ds) js) (of_fanins fs) (gather (of_gate ds) more))))

  pub gates_bring : (ds gs all : List DrawnGate) → ds ++ joined_gates ds gs ≡ all → Earlier (suc (length ds)) gs →
      Permuted (of_gates (joined_gates ds gs) ++ gather as_read (gone_gates ds gs)) (of_gates gs ++ gather (of_gate all) (gone_gates ds gs))
  gates_bring ds [] all e h = empty
  gates_bring ds (g ∷ gs) all e h =
      let x = joined_gate ds g in
      let now = ds ++ (x ∷ []) in
      let js = gone_into ds g.kind 0 g.fanins in
      let more = gone_gates now gs in
      let same : gather (of_gate ds) js ≡ gather (of_gate all) js =
      gather_same (of_gate ds) (of_gate all) js
      (gone_every ds g.kind 0 g.fanins
      (λ j m. let b = h.0 j m in ap (λ d. of_fanins d.fanins) (sym (get_or-append ds (joined_gates ds (g ∷ gs)) _ (j - 1) (omega arith)) ∙ ap (λ l. gate_at l j) e))) in
      let this = subst (λ l. Permuted (of_fanins x.fanins ++ gather as_read js) (of_fanins g.fanins ++ l)) same (fanins_bring ds g.kind 0 g.fanins) in
      let size : suc (length ds) ≡ length now = omega (arith, length-append ds (x ∷ [])) in
      let rest = gates_bring now gs all (append_assoc ds (x ∷ []) (joined_gates now gs) ∙ e) (subst (λ n. Earlier (suc n) gs) size h.1) in
      rw (gather_append as_read js more, gather_append (of_gate all) js more)
      (permuted_trans (interchange (of_fanins x.fanins) (of_gates (joined_gates now gs)) (gather as_read js) (gather as_read more))
      (permuted_trans (permuted_append this rest)
      (interchange (of_fanins g.fanins) (gather (of_gate all) js) (of_gates gs) (gather (of_gate all) more))))
