-- A gate's table has the value of what the gate holds; and where a cover's tables hold, its root has the value of the drawn
-- tree, however it was split.
use Rattle.std.specs.Prelude.{ℕ, zero, suc, ◌+◌, ◌<◌, ◌≡◌, refl, Bool, true, false, List, [], ◌∷◌, ◌++◌}
use Rattle.std.proofs.Common.{sym, ap, ap₂, ◌∙◌}
use Rattle.lists.specs.Trusted.Lists.{later, Every, Inserted, here, there, sorted}
use Rattle.lists.specs.ListLaws.{every_none, every_cons, every_head, every_tail, every_append, every_left, every_right, inserted_from, permuted_from}
use Rattle.lists.specs.NumberLaws.{sorted_permuted}
use Rattle.tree.specs.declared.Kind.{Kind}
use Rattle.tree.specs.declared.Kind.TheVariants.{And as and, Or as or}
use Rattle.tree.specs.Trusted.Tree.{Node, Edges, turned, meet, unit}
use Rattle.tree.specs.Measures.{value, values}
use Rattle.cover.specs.Trusted.Cover.{Cover, net, top, Fanins, end, old, new, pick, frontier, SplitOf, same, split, Matched, done, match, Rooted, rooted}
use Rattle.cover.specs.Trusted.Tables.{output}
use Rattle.cover.specs.Eval.{Agree, tabled_output, in_driven, ValuesHold}
use Rattle.cover.specs.Trusted.Placed.{placed, code, codes, codes*, held, held*, gate_table, records, records*}

module _ (base : ℕ) where
  -- ---- what a gate holds looks at nothing but its codes, so that its table has that value

  module _ (d e : ℕ → Bool) where
    gate_same : (m : ℕ) (xs : List ℕ) (a b : Bool) → (Agree d e xs → a ≡ b) → Agree d e (code base m xs) →
        pick m a (d (base + m)) ≡ pick m b (e (base + m))
    gate_same zero xs a b f h = f h
    gate_same (suc m) xs a b f h = every_head h

    mutual
      pub held_same : (c : Cover) → Agree d e (codes base c) → held base c d ≡ held base c e
      held_same (net n) h = every_head h
      held_same (top m k fs) h = gate_same m (codes* base fs) (held* base fs k d) (held* base fs k e) (λ g. held_same* fs k g) h

      pub held_same* : (fs : Fanins) (k : Kind) → Agree d e (codes* base fs) → held* base fs k d ≡ held* base fs k e
      held_same* end k h = refl
      held_same* (old i c fs) k h =
          ap₂ (λ a b. meet k (turned i a) b) (held_same c (every_left (codes base c) (codes* base fs) h))
          (held_same* fs k (every_right (codes base c) (codes* base fs) h))
      held_same* (new m s fs) k h =
          ap₂ (meet k)
          (gate_same m (codes* base s) (held* base s k d) (held* base s k e) (λ g. held_same* s k g) (every_left (code base m (codes* base s)) (codes* base fs) h))
          (held_same* fs k (every_right (code base m (codes* base s)) (codes* base fs) h))

  table_of_output : (n : ℕ) (v : Bool) (k : Kind) (fs : Fanins) (e : ℕ → Bool) →
      output (gate_table base n v k fs) e ≡ turned v (held* base fs k e)
  table_of_output n v k fs e =
      tabled_output n (sorted (codes* base fs)) (λ e. turned v (held* base fs k e))
      (λ d e h. ap (turned v) (held_same* d e fs k (permuted_from (sorted_permuted (codes* base fs)) h))) e

-- ---- where its tables hold, the cover's root has the value of the drawn tree

meet_unit : (k : Kind) (b : Bool) → meet k (unit k) b ≡ b
meet_unit and b = refl
meet_unit or b = refl

meet_assoc : (k : Kind) (a b c : Bool) → meet k (meet k a b) c ≡ meet k a (meet k b c)
meet_assoc and true b c = refl
meet_assoc and false b c = refl
meet_assoc or true b c = refl
meet_assoc or false b c = refl

meet_swap : (k : Kind) (a b c : Bool) → meet k a (meet k b c) ≡ meet k b (meet k a c)
meet_swap and true b c = refl
meet_swap and false true c = refl
meet_swap and false false c = refl
meet_swap or true true c = refl
meet_swap or true false c = refl
meet_swap or false b c = refl

module _ (base : ℕ) (e : ℕ → Bool) where
  -- the value of a drawn fanin, and of a drawn gate of the kind k
  abbrev fanin : Bool × Cover → Bool
  fanin q = turned q.0 (held base q.1 e)

  abbrev joined : Kind → List (Bool × Cover) → Bool
  joined k [] = unit k
  joined k (q ∷ qs) = meet k (fanin q) (joined k qs)

  joined_append : (k : Kind) (xs ys : List (Bool × Cover)) → joined k (xs ++ ys) ≡ meet k (joined k xs) (joined k ys)
  joined_append k [] ys = sym (meet_unit k (joined k ys))
  joined_append k (x ∷ xs) ys = ap (meet k (fanin x)) (joined_append k xs ys) ∙ sym (meet_assoc k (fanin x) (joined k xs) (joined k ys))

  joined_inserted : (k : Kind) {x : Bool × Cover} {xs ys : List (Bool × Cover)} → Inserted x xs ys → joined k xs ≡ joined k (x ∷ ys)
  joined_inserted k here = refl
  joined_inserted k {x} (there {y = y} {ys = ys} i) = ap (meet k (fanin y)) (joined_inserted k i) ∙ meet_swap k (fanin y) (fanin x) (joined k ys)

  -- a gate has one value, be it read through its table or held
  gate_value : (m : ℕ) (k : Kind) (fs : Fanins) → Every (ValuesHold base e) (placed m (gate_table base 0 false k fs)) →
      pick m (held* base fs k e) (e (base + m)) ≡ held* base fs k e
  gate_value zero k fs h = refl
  gate_value (suc m) k fs h = every_head (every_head h) ∙ table_of_output base 0 false k fs e

  -- the split gates give the drawn one's value
  frontier_value : (fs : Fanins) (k : Kind) → Every (ValuesHold base e) (records* base fs k) → held* base fs k e ≡ joined k (frontier fs)
  frontier_value end k h = refl
  frontier_value (old i c fs) k h = ap (meet k (fanin (i, c))) (frontier_value fs k (every_right (records base c 0 false) (records* base fs k) h))
  frontier_value (new m s fs) k h =
      let own = placed m (gate_table base 0 false k s) in
      let g = every_left (records* base s k ++ own) (records* base fs k) h in
      ap₂ (meet k) (gate_value m k s (every_right (records* base s k) own g) ∙ frontier_value s k (every_left (records* base s k) own g))
      (frontier_value fs k (every_right (records* base s k ++ own) (records* base fs k) h))
      ∙ sym (joined_append k (frontier s) (frontier fs))

  frontier_holds : (fs : Fanins) (k : Kind) → Every (ValuesHold base e) (records* base fs k) →
      Every (λ q. Every (ValuesHold base e) (records base q.1 0 false)) (frontier fs)
  frontier_holds end k h = every_none _
  frontier_holds (old i c fs) k h =
      every_cons (every_left (records base c 0 false) (records* base fs k) h)
      (frontier_holds fs k (every_right (records base c 0 false) (records* base fs k) h))
  frontier_holds (new m s fs) k h =
      let own = placed m (gate_table base 0 false k s) in
      every_append (frontier s) (frontier fs)
      (frontier_holds s k (every_left (records* base s k) own (every_left (records* base s k ++ own) (records* base fs k) h)))
      (frontier_holds fs k (every_right (records* base s k ++ own) (records* base fs k) h))

  mutual
    split_value : {t : Node} {c : Cover} → SplitOf t c → Every (ValuesHold base e) (records base c 0 false) → held base c e ≡ value t e
    split_value same h = refl
    split_value (split {k = k} {m = m} {fs = fs} d) h =
        let own = placed m (gate_table base 0 false k fs) in
        let g = every_left (records* base fs k) own h in
        gate_value m k fs (every_right (records* base fs k) own h) ∙ frontier_value fs k g ∙ matched_value d k (frontier_holds fs k g)

    matched_value : {es : Edges} {xs : List (Bool × Cover)} → Matched es xs → (k : Kind) →
        Every (λ q. Every (ValuesHold base e) (records base q.1 0 false)) xs → joined k xs ≡ values es k e
    matched_value done k h = refl
    matched_value (match {i = i} j s d) k h =
        let g = inserted_from j h in
        joined_inserted k j ∙ ap₂ (λ a b. meet k (turned i a) b) (split_value s (every_head g)) (matched_value d k (every_tail g))

  pub gate_held : {es : Edges} (fs : Fanins) → Matched es (frontier fs) → (k : Kind) → Every (ValuesHold base e) (records* base fs k) →
      held* base fs k e ≡ values es k e
  gate_held fs d k h = frontier_value fs k h ∙ matched_value d k (frontier_holds fs k h)

  pub root_value_lem : {t : Node} {c : Cover} (n : ℕ) (v : Bool) → SplitOf t c → Rooted c → 0 < n →
      Every (ValuesHold base e) (records base c n v) → e n ≡ turned v (value t e)
  root_value_lem n v same x10 pos h = elim x10 [ ]
  root_value_lem n v (split {k = k} {fs = fs} d) (rooted {n = m}) pos h =
      let own = placed (suc m) (gate_table base n v k fs) in
      let g = every_left (records* base fs k) own h in
      every_head (every_right (records* base fs k) own h) n (later (in_driven n pos)) ∙ table_of_output base n v k fs e
      ∙ ap (turned v) (gate_held fs d k g)
