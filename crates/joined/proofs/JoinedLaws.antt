-- The joined tree has the leaves of the drawn one in the same order, and its value at every setting; each gate keeps two fanins
-- or more and at most ten; and there are no more gates.
use Rattle.std.specs.Prelude.{ℕ, suc, ◌+◌, ◌≤◌, ◌≡◌, refl, Bool, true, false, not, cond, ◌++◌, length, T}
use Rattle.std.proofs.Common.{arith, sym, ap, ap₂, ◌∙◌, append_assoc, append-nil, length-append, leb→le}
use Rattle.lists.specs.Cases.{by_test, and_split, and_both}
use Rattle.tree.specs.declared.Kind.{Kind}
use Rattle.tree.specs.declared.Kind.TheVariants.{And as and, Or as or}
use Rattle.tree.specs.Trusted.Tree.{Node, leaf, gate, Edges, none, edge, turned, meet, unit, edge_count}
use Rattle.tree.specs.Measures.{leaves, leaves*, value, values, many, proper, propers}
use Rattle.tree.specs.Trusted.Limits.{most_fanins}
use Rattle.sheet.specs.GateTrees.{gate_trees, gate_trees*}
use Rattle.joined.specs.Trusted.Joined.{chained, is_joined, turned_over, in_place, ◌then◌, joined_from, joined_tree, joined_below}
use Rattle.joined.specs.Settled.{Narrow, NarrowFanins}

-- what holds of the fanins that take an edge's place: of the edge itself where it is not joined, and of the lower gate's where it is
pub by_joins : (P : Node → Edges → Type 0) (k : Kind) (n : ℕ) (i : Bool) →
    ((t : Node) → T (not (is_joined k n i t)) → P t (edge i t none)) →
    ((j : Kind) (es : Edges) → T (chained i k j) → n + edge_count es ≤ most_fanins → P (gate j es) (turned_over i es)) →
    (t : Node) → P t (in_place k n i t)
by_joins P k n i kept joined (leaf x) = kept (leaf x) tt
by_joins P k n i kept joined (gate j es) =
    by_test (λ b. P (gate j es) (cond b (turned_over i es) (edge i (gate j es) none))) (is_joined k n i (gate j es))
    (λ t. let h = and_split (chained i k j) _ t in joined j es h.0 (leb→le _ _ h.1))
    (λ t. kept (gate j es) t)

-- ---- leaves

then_leaves : (es fs : Edges) → leaves* (es then fs) ≡ leaves* es ++ leaves* fs
then_leaves none fs = refl
then_leaves (edge i t es) fs = ap (◌++◌ (leaves t)) (then_leaves es fs) ∙ sym (append_assoc (leaves t) _ _)

turned_leaves : (i : Bool) (es : Edges) → leaves* (turned_over i es) ≡ leaves* es
turned_leaves i none = refl
turned_leaves i (edge j t es) = ap (◌++◌ (leaves t)) (turned_leaves i es)

place_leaves : (k : Kind) (n : ℕ) (i : Bool) (t : Node) → leaves* (in_place k n i t) ≡ leaves t
place_leaves k n i = by_joins (λ t fs. leaves* fs ≡ leaves t) k n i (λ t u. append-nil (leaves t)) (λ j es c l. turned_leaves i es)

from_leaves : (k : Kind) (n : ℕ) (es : Edges) → leaves* (joined_from k n es) ≡ leaves* es
from_leaves k n none = refl
from_leaves k n (edge i t es) =
    then_leaves (in_place k _ i t) _ ∙ ap₂ ◌++◌ (place_leaves k _ i t) (from_leaves k (n + edge_count (in_place k (n + edge_count es) i t)) es)

mutual
  -- THE SAME LEAVES, IN THE SAME ORDER
  pub joined_leaves : (t : Node) → leaves (joined_tree t) ≡ leaves t
  joined_leaves (leaf n) = refl
  joined_leaves (gate k es) = from_leaves k 0 (joined_below es) ∙ below_leaves es

  below_leaves : (es : Edges) → leaves* (joined_below es) ≡ leaves* es
  below_leaves none = refl
  below_leaves (edge i t es) = ap₂ ◌++◌ (joined_leaves t) (below_leaves es)

-- ---- values

meet_assoc : (k : Kind) (a b c : Bool) → meet k (meet k a b) c ≡ meet k a (meet k b c)
meet_assoc and true b c = refl
meet_assoc and false b c = refl
meet_assoc or true b c = refl
meet_assoc or false b c = refl

meet_unit : (k : Kind) (a : Bool) → meet k (unit k) a ≡ a
meet_unit and a = refl
meet_unit or a = refl

meet_unit_right : (k : Kind) (a : Bool) → meet k a (unit k) ≡ a
meet_unit_right and true = refl
meet_unit_right and false = refl
meet_unit_right or true = refl
meet_unit_right or false = refl

turned_turned : (i j b : Bool) → turned (turned i j) b ≡ turned i (turned j b)
turned_turned false j b = refl
turned_turned true false b = refl
turned_turned true true true = refl
turned_turned true true false = refl

-- a chained edge turns the lower gate's values into values of the upper's kind
chained_unit : (i : Bool) (k j : Kind) → T (chained i k j) → unit k ≡ turned i (unit j)
chained_unit false and and h = refl
chained_unit false and or h = absurd h
chained_unit false or and h = absurd h
chained_unit false or or h = refl
chained_unit true and and h = absurd h
chained_unit true and or h = refl
chained_unit true or and h = refl
chained_unit true or or h = absurd h

chained_meet : (i : Bool) (k j : Kind) (a b : Bool) → T (chained i k j) → meet k (turned i a) (turned i b) ≡ turned i (meet j a b)
chained_meet false and and a b h = refl
chained_meet false and or a b h = absurd h
chained_meet false or and a b h = absurd h
chained_meet false or or a b h = refl
chained_meet true and and a b h = absurd h
chained_meet true and or true b h = refl
chained_meet true and or false b h = refl
chained_meet true or and true b h = refl
chained_meet true or and false b h = refl
chained_meet true or or a b h = absurd h

module _ (σ : ℕ → Bool) where
  then_values : (k : Kind) (es fs : Edges) → values (es then fs) k σ ≡ meet k (values es k σ) (values fs k σ)
  then_values k none fs = sym (meet_unit k _)
  then_values k (edge i t es) fs = ap (meet k _) (then_values k es fs) ∙ sym (meet_assoc k _ _ _)

  turned_values : (i : Bool) (k j : Kind) (es : Edges) → T (chained i k j) → values (turned_over i es) k σ ≡ turned i (values es j σ)
  turned_values i k j none h = chained_unit i k j h
  turned_values i k j (edge b t es) h =
      ap₂ (meet k) (turned_turned i b (value t σ)) (turned_values i k j es h) ∙ chained_meet i k j _ _ h

  place_values : (k : Kind) (n : ℕ) (i : Bool) (t : Node) → values (in_place k n i t) k σ ≡ turned i (value t σ)
  place_values k n i =
      by_joins (λ t fs. values fs k σ ≡ turned i (value t σ)) k n i (λ t u. meet_unit_right k _) (λ j es c l. turned_values i k j es c)

  from_values : (k : Kind) (n : ℕ) (es : Edges) → values (joined_from k n es) k σ ≡ values es k σ
  from_values k n none = refl
  from_values k n (edge i t es) =
      then_values k (in_place k _ i t) _ ∙ ap₂ (meet k) (place_values k _ i t) (from_values k (n + edge_count (in_place k (n + edge_count es) i t)) es)

  mutual
    -- THE SAME VALUE
    pub joined_value : (t : Node) → value (joined_tree t) σ ≡ value t σ
    joined_value (leaf n) = refl
    joined_value (gate k es) = from_values k 0 (joined_below es) ∙ below_values es k

    below_values : (es : Edges) (k : Kind) → values (joined_below es) k σ ≡ values es k σ
    below_values none k = refl
    below_values (edge i t es) k = ap₂ (λ a b. meet k (turned i a) b) (joined_value t) (below_values es k)

-- ---- two fanins or more

pub then_count : (es fs : Edges) → edge_count (es then fs) ≡ edge_count es + edge_count fs
then_count none fs = omega arith
then_count (edge i t es) fs = omega (arith, then_count es fs)

pub turned_count : (i : Bool) (es : Edges) → edge_count (turned_over i es) ≡ edge_count es
turned_count i none = refl
turned_count i (edge j t es) = ap suc (turned_count i es)

many_count : (es : Edges) → T (many es) → 2 ≤ edge_count es
many_count none h = absurd h
many_count (edge i t none) h = absurd h
many_count (edge i t (edge j u es)) h = omega arith

count_many : (es : Edges) → 2 ≤ edge_count es → T (many es)
count_many none h = absurd (omega arith)
count_many (edge i t none) h = absurd (omega arith)
count_many (edge i t (edge j u es)) h = tt

pub place_count : (k : Kind) (n : ℕ) (i : Bool) (t : Node) → T (proper t) → 1 ≤ edge_count (in_place k n i t)
place_count k n i =
    by_joins (λ t fs. T (proper t) → 1 ≤ edge_count fs) k n i
    (λ t u p. omega arith)
    (λ j es c l p. omega (arith, turned_count i es, many_count es (and_split (many es) (propers es) p).0))

pub from_count : (k : Kind) (n : ℕ) (es : Edges) → T (propers es) → edge_count es ≤ edge_count (joined_from k n es)
from_count k n none p = omega arith
from_count k n (edge i t es) p =
    let q = and_split (proper t) (propers es) p in
    let fs = in_place k (n + edge_count es) i t in
    omega (arith, then_count fs (joined_from k (n + edge_count fs) es), place_count k (n + edge_count es) i t q.0, from_count k (n + edge_count fs) es q.1)

then_proper : (es fs : Edges) → T (propers es) → T (propers fs) → T (propers (es then fs))
then_proper none fs p q = q
then_proper (edge i t es) fs p q =
    let r = and_split (proper t) (propers es) p in
    and_both (proper t) _ r.0 (then_proper es fs r.1 q)

turned_proper : (i : Bool) (es : Edges) → T (propers es) → T (propers (turned_over i es))
turned_proper i none p = tt
turned_proper i (edge j t es) p =
    let r = and_split (proper t) (propers es) p in
    and_both (proper t) _ r.0 (turned_proper i es r.1)

place_proper : (k : Kind) (n : ℕ) (i : Bool) (t : Node) → T (proper t) → T (propers (in_place k n i t))
place_proper k n i =
    by_joins (λ t fs. T (proper t) → T (propers fs)) k n i
    (λ t u p. and_both (proper t) true p tt)
    (λ j es c l p. turned_proper i es (and_split (many es) (propers es) p).1)

from_proper : (k : Kind) (n : ℕ) (es : Edges) → T (propers es) → T (propers (joined_from k n es))
from_proper k n none p = tt
from_proper k n (edge i t es) p =
    let q = and_split (proper t) (propers es) p in
    then_proper (in_place k _ i t) _ (place_proper k _ i t q.0) (from_proper k (n + edge_count (in_place k (n + edge_count es) i t)) es q.1)

below_count : (es : Edges) → edge_count (joined_below es) ≡ edge_count es
below_count none = refl
below_count (edge i t es) = ap suc (below_count es)

mutual
  -- EACH GATE HAS TWO FANINS OR MORE
  pub joined_proper : (t : Node) → T (proper t) → T (proper (joined_tree t))
  joined_proper (leaf n) p = tt
  joined_proper (gate k es) p =
      let q = and_split (many es) (propers es) p in
      let b = below_proper es q.1 in
      and_both (many (joined_from k 0 (joined_below es))) _
      (count_many (joined_from k 0 (joined_below es)) (omega (arith, many_count es q.0, below_count es, from_count k 0 (joined_below es) b)))
      (from_proper k 0 (joined_below es) b)

  pub below_proper : (es : Edges) → T (propers es) → T (propers (joined_below es))
  below_proper none p = tt
  below_proper (edge i t es) p =
      let q = and_split (proper t) (propers es) p in
      and_both (proper (joined_tree t)) _ (joined_proper t q.0) (below_proper es q.1)

-- ---- at most ten

then_narrow : (es fs : Edges) → NarrowFanins es → NarrowFanins fs → NarrowFanins (es then fs)
then_narrow none fs p q = q
then_narrow (edge i t es) fs p q = (p.0, then_narrow es fs p.1 q)

turned_narrow : (i : Bool) (es : Edges) → NarrowFanins es → NarrowFanins (turned_over i es)
turned_narrow i none p = tt
turned_narrow i (edge j t es) p = (p.0, turned_narrow i es p.1)

place_narrow : (k : Kind) (n : ℕ) (i : Bool) (t : Node) → Narrow t → NarrowFanins (in_place k n i t)
place_narrow k n i =
    by_joins (λ t fs. Narrow t → NarrowFanins fs) k n i (λ t u p. (p, tt)) (λ j es c l p. turned_narrow i es p.1)

from_narrow : (k : Kind) (n : ℕ) (es : Edges) → NarrowFanins es → NarrowFanins (joined_from k n es)
from_narrow k n none p = tt
from_narrow k n (edge i t es) p = then_narrow (in_place k _ i t) _ (place_narrow k _ i t p.0) (from_narrow k (n + edge_count (in_place k (n + edge_count es) i t)) es p.1)

place_room : (k : Kind) (n : ℕ) (i : Bool) (t : Node) → n + 1 ≤ most_fanins → n + edge_count (in_place k n i t) ≤ most_fanins
place_room k n i t r =
    by_joins (λ t fs. n + edge_count fs ≤ most_fanins) k n i (λ t u. r) (λ j es c l. omega (arith, turned_count i es)) t

pub from_room : (k : Kind) (n : ℕ) (es : Edges) → n + edge_count es ≤ most_fanins → n + edge_count (joined_from k n es) ≤ most_fanins
from_room k n none r = r
from_room k n (edge i t es) r =
    let others = n + edge_count es in
    let fs = in_place k others i t in
    omega (
      arith,
      then_count fs (joined_from k (n + edge_count fs) es),
      from_room k (n + edge_count fs) es (omega (arith, place_room k others i t (omega arith))),
    )

mutual
  -- NO GATE HAS MORE THAN TEN FANINS WHERE NONE HAD
  pub joined_narrow : (t : Node) → Narrow t → Narrow (joined_tree t)
  joined_narrow (leaf n) p = tt
  joined_narrow (gate k es) p =
      (omega (arith, from_room k 0 (joined_below es) (omega (arith, p.0, below_count es))), from_narrow k 0 (joined_below es) (below_narrow es p.1))

  below_narrow : (es : Edges) → NarrowFanins es → NarrowFanins (joined_below es)
  below_narrow none p = tt
  below_narrow (edge i t es) p = (joined_narrow t p.0, below_narrow es p.1)

-- ---- gates

abbrev gates : Node → ℕ
gates t = length (gate_trees t)

abbrev gates* : Edges → ℕ
gates* es = length (gate_trees* es)

more_gates : (i : Bool) (t : Node) (es : Edges) → gates* (edge i t es) ≡ gates t + gates* es
more_gates i t es = length-append (gate_trees t) (gate_trees* es)

then_gates : (es fs : Edges) → gates* (es then fs) ≡ gates* es + gates* fs
then_gates none fs = omega arith
then_gates (edge i t es) fs = omega (arith, more_gates i t (es then fs), more_gates i t es, then_gates es fs)

turned_gates : (i : Bool) (es : Edges) → gates* (turned_over i es) ≡ gates* es
turned_gates i none = refl
turned_gates i (edge j t es) = omega (arith, more_gates (turned i j) t (turned_over i es), more_gates j t es, turned_gates i es)

place_gates : (k : Kind) (n : ℕ) (i : Bool) (t : Node) → gates* (in_place k n i t) ≤ gates t
place_gates k n i =
    by_joins (λ t fs. gates* fs ≤ gates t) k n i (λ t u. omega (arith, more_gates i t none)) (λ j es c l. omega (arith, turned_gates i es))

from_gates : (k : Kind) (n : ℕ) (es : Edges) → gates* (joined_from k n es) ≤ gates* es
from_gates k n none = omega arith
from_gates k n (edge i t es) =
    let fs = in_place k (n + edge_count es) i t in
    omega (
      arith,
      then_gates fs (joined_from k (n + edge_count fs) es),
      more_gates i t es,
      place_gates k (n + edge_count es) i t,
      from_gates k (n + edge_count fs) es,
    )

mutual
  -- NO MORE GATES
  pub joined_gates_lem : (t : Node) → length (gate_trees (joined_tree t)) ≤ length (gate_trees t)
  joined_gates_lem (leaf n) = omega arith
  joined_gates_lem (gate k es) = omega (arith, from_gates k 0 (joined_below es), below_gates es)

  below_gates : (es : Edges) → gates* (joined_below es) ≤ gates* es
  below_gates none = omega arith
  below_gates (edge i t es) =
      omega (arith, more_gates i (joined_tree t) (joined_below es), more_gates i t es, joined_gates_lem t, below_gates es)
