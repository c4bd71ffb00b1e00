-- The fanins of a sheet's gates, stored one gate's after the other's: what a fanin or a gate more leaves as it is, and what it adds.
use Rattle.std.specs.Prelude.{ℕ, ◌+◌, ◌-◌, ◌≤◌, ◌<◌, ◌≡◌, refl, List, [], ◌∷◌, ◌++◌, map, length, take, drop, set}
use Rattle.std.proofs.Common.{arith, add-one, sym, ap, ap₂, ◌∙◌, subst, length-drop, take-suc-set}
use Rattle.std.proofs.lemmas.List.{map-append, take-set-le, drop-set-add}
use Rattle.lists.specs.Trusted.Lists.{Every}
use Rattle.lists.specs.ListLaws.{every_none, every_cons, every_head, every_tail, every_append}
use Rattle.sheet.specs.declared.Edge.{Edge}
use Rattle.sheet.specs.declared.Gate.{Gate}
use Rattle.sheet.specs.Trusted.Answers.{drawn_gate, drawn_gates}

-- each gate's stand below a place
abbrev pub Below : ℕ → List Gate → Type 0
Below n gs = Every (λ x. x.first + x.count ≤ n) gs

module _ (fs : List Edge) (at : ℕ) (f : Edge) where
  gate_same : (x : Gate) → x.first + x.count ≤ at → drawn_gate (set fs at f) x ≡ drawn_gate fs x
  gate_same x l =
      ap (λ es. record { kind = x.kind; fanins = es })
      (ap (λ i. take x.count (drop x.first (set fs i f))) (let q : at ≡ x.first + (at - x.first) = omega arith in q)
      ∙ (ap (take x.count) (drop-set-add x.first fs (at - x.first) f) ∙ take-set-le x.count (drop x.first fs) (at - x.first) f (omega arith)))

  -- what is stored from there on leaves them as they are
  pub drawn_same : (gs : List Gate) {n : ℕ} → Below n gs → n ≤ at → map (drawn_gate (set fs at f)) gs ≡ map (drawn_gate fs) gs
  drawn_same [] h l = refl
  drawn_same (x ∷ xs) h l =
      ap₂ (λ y ys. y ∷ ys) (gate_same x (let q = every_head h in omega arith)) (drawn_same xs (every_tail h) l)

-- one fanin more at its place, after the first ones
pub taken_more : (fs : List Edge) (used i : ℕ) (f : Edge) → used + i < length fs → take (i + 1) (drop used (set fs (used + i) f)) ≡ take i (drop used fs) ++ (f ∷ [])
taken_more fs used i f l =
    ap (take (i + 1)) (drop-set-add used fs i f)
    ∙ (ap (λ n. take n (set (drop used fs) i f)) (add-one i) ∙ take-suc-set (drop used fs) i f (omega (arith, length-drop used fs)))

-- one gate more at its place, after the first ones
module _ (gates : List Gate) (g : ℕ) (x : Gate) (l : g < length gates) where
  gates_more : take (g + 1) (set gates g x) ≡ take g gates ++ (x ∷ [])
  gates_more = ap (λ n. take n (set gates g x)) (add-one g) ∙ take-suc-set gates g x l

  pub drawn_more : (fs : List Edge) → drawn_gates fs (g + 1) (set gates g x) ≡ drawn_gates fs g gates ++ (drawn_gate fs x ∷ [])
  drawn_more fs = ap (map (drawn_gate fs)) gates_more ∙ map-append (drawn_gate fs) (take g gates) (x ∷ [])

  pub below_more : {n m : ℕ} → Below n (take g gates) → n ≤ m → x.first + x.count ≤ m → Below m (take (g + 1) (set gates g x))
  below_more {n} {m} h k b =
      subst (Below m) (sym gates_more) (every_append (take g gates) (x ∷ []) (λ y i. let q = h y i in omega arith) (every_cons b (every_none _)))
