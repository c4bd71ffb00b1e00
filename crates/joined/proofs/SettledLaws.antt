-- A tree is its own joined tree where no edge of it would be joined, and only there: the joined tree has no such edge left, so that
-- a fanin that came in by a join could be looked at again and nothing would come of it.
use Rattle.std.specs.Prelude.{ℕ, suc, ◌+◌, ◌-◌, ◌≤◌, ◌≡◌, refl, Bool, true, false, not, cond, ◌&&◌, T, leb}
use Rattle.std.proofs.Common.{arith, sym, ap, ap₂, ◌∙◌, subst, T_not, leb→le, le→leb}
use Rattle.std.proofs.Math.Dec.{not_T}
use Rattle.lists.specs.Cases.{and_split, and_both}
use Rattle.tree.specs.declared.Kind.{Kind}
use Rattle.tree.specs.declared.Kind.TheVariants.{And as and, Or as or}
use Rattle.tree.specs.Trusted.Tree.{Node, leaf, gate, Edges, none, edge, turned, edge_count}
use Rattle.tree.specs.Measures.{many, proper, propers}
use Rattle.tree.specs.Trusted.Limits.{most_fanins}
use Rattle.joined.specs.Trusted.Joined.{chained, is_joined, turned_over, in_place, ◌then◌, joined_from, joined_tree, joined_below}
use Rattle.joined.specs.Settled.{Settled, SettledFanins}
use Rattle.joined.proofs.JoinedLaws.{by_joins, then_count, turned_count, place_count, from_count, below_proper}

-- ---- nothing to join

else_case : {A : Type 0} (b : Bool) (x y : A) → T (not b) → cond b x y ≡ y
else_case true x y h = absurd h
else_case false x y h = refl

from_unchanged : (k : Kind) (n m : ℕ) (es : Edges) → m ≡ n + edge_count es - 1 → SettledFanins es k m → joined_from k n es ≡ es
from_unchanged k n m none e h = refl
from_unchanged k n m (edge i t es) e h =
    let others : n + edge_count es ≡ m = omega arith in
    ap (λ fs. fs then joined_from k (n + edge_count fs) es) (ap (λ o. in_place k o i t) others ∙ else_case (is_joined k m i t) _ _ h.0)
    ∙ ap (edge i t) (from_unchanged k (n + 1) m es (omega arith) h.2)

mutual
  -- WHERE NO EDGE WOULD BE JOINED, THE TREE STAYS AS IT IS
  pub settled_unchanged : (t : Node) → Settled t → joined_tree t ≡ t
  settled_unchanged (leaf n) h = refl
  settled_unchanged (gate k es) h =
      ap (gate k) (ap (joined_from k 0) (below_unchanged es k (edge_count es - 1) h) ∙ from_unchanged k 0 (edge_count es - 1) es (omega arith) h)

  below_unchanged : (es : Edges) (k : Kind) (n : ℕ) → SettledFanins es k n → joined_below es ≡ es
  below_unchanged none k n h = refl
  below_unchanged (edge i t es) k n h = ap₂ (edge i) (settled_unchanged t h.1) (below_unchanged es k n h.2)

-- ---- nothing left to join

-- an edge that would be joined would be beside fewer fanins too
joins_fewer : (k : Kind) (n m : ℕ) (i : Bool) (t : Node) → n ≤ m → T (is_joined k m i t) → T (is_joined k n i t)
joins_fewer k n m i (leaf x) l h = h
joins_fewer k n m i (gate j es) l h =
    let p = and_split (chained i k j) _ h in
    and_both (chained i k j) _ p.0 (le→leb (n + edge_count es) most_fanins (omega (arith, leb→le (m + edge_count es) most_fanins p.1)))

pub settled_more : (es : Edges) (k : Kind) (n m : ℕ) → n ≤ m → SettledFanins es k n → SettledFanins es k m
settled_more none k n m l h = tt
settled_more (edge i t es) k n m l h =
    (not_T (is_joined k m i t) (λ u. T_not (is_joined k n i t) h.0 (joins_fewer k n m i t l u)), h.1, settled_more es k n m l h.2)

-- the lower gate's edges, turned over, are chained to the upper gate as they were to the lower
chained_through : (i : Bool) (k j : Kind) (b : Bool) (l : Kind) → T (chained i k j) → chained (turned i b) k l ≡ chained b j l
chained_through false and and b l h = refl
chained_through false and or b l h = absurd h
chained_through false or and b l h = absurd h
chained_through false or or b l h = refl
chained_through true and and b l h = absurd h
chained_through true and or false and h = refl
chained_through true and or false or h = refl
chained_through true and or true and h = refl
chained_through true and or true or h = refl
chained_through true or and false and h = refl
chained_through true or and false or h = refl
chained_through true or and true and h = refl
chained_through true or and true or h = refl
chained_through true or or b l h = absurd h

joins_through : (i : Bool) (k j : Kind) (n : ℕ) (b : Bool) (t : Node) → T (chained i k j) → is_joined k n (turned i b) t ≡ is_joined j n b t
joins_through i k j n b (leaf x) h = refl
joins_through i k j n b (gate l es) h = ap (λ c. c && leb (n + edge_count es) most_fanins) (chained_through i k j b l h)

turned_settled : (i : Bool) (k j : Kind) (n : ℕ) (es : Edges) → T (chained i k j) → SettledFanins es j n → SettledFanins (turned_over i es) k n
turned_settled i k j n none c h = tt
turned_settled i k j n (edge b t es) c h =
    (subst (λ u. T (not u)) (sym (joins_through i k j n b t c)) h.0, h.1, turned_settled i k j n es c h.2)

then_settled : (es fs : Edges) (k : Kind) (n : ℕ) → SettledFanins es k n → SettledFanins fs k n → SettledFanins (es then fs) k n
then_settled none fs k n g h = h
then_settled (edge i t es) fs k n g h = (g.0, g.1, then_settled es fs k n g.2 h)

place_settled : (k : Kind) (n : ℕ) (i : Bool) (t : Node) (m : ℕ) → Settled t → n ≤ m → edge_count (in_place k n i t) ≤ suc m →
    SettledFanins (in_place k n i t) k m
place_settled k n i t m =
    by_joins (λ t fs. Settled t → n ≤ m → edge_count fs ≤ suc m → SettledFanins fs k m) k n i
    (λ t u s l r. settled_more (edge i t none) k n m l (u, s, tt))
    (λ j es c l s o r. settled_more (turned_over i es) k (edge_count es - 1) m (omega (arith, turned_count i es)) (turned_settled i k j _ es c s))
    t

abbrev EachSettled : Edges → Type 0
EachSettled none = Unit {0}
EachSettled (edge i t es) = Settled t × EachSettled es

from_settled : (k : Kind) (n : ℕ) (es : Edges) (m : ℕ) → T (propers es) → EachSettled es → n + edge_count (joined_from k n es) ≤ suc m →
    SettledFanins (joined_from k n es) k m
from_settled k n none m p h r = tt
from_settled k n (edge i t es) m p h r =
    let q = and_split (proper t) (propers es) p in
    let fs = in_place k (n + edge_count es) i t in
    let rest = joined_from k (n + edge_count fs) es in
    let all : edge_count (fs then rest) ≡ edge_count fs + edge_count rest = then_count fs rest in
    let some : 1 ≤ edge_count fs = place_count k (n + edge_count es) i t q.0 in
    let grown : edge_count es ≤ edge_count rest = from_count k (n + edge_count fs) es q.1 in
    then_settled fs rest k m
    (place_settled k (n + edge_count es) i t m h.0 (omega arith) (omega arith))
    (from_settled k (n + edge_count fs) es m q.1 h.1 (omega arith))

mutual
  -- NO EDGE OF THE JOINED TREE WOULD BE JOINED
  pub joined_settled : (t : Node) → T (proper t) → Settled (joined_tree t)
  joined_settled (leaf n) p = tt
  joined_settled (gate k es) p =
      let q = and_split (many es) (propers es) p in
      from_settled k 0 (joined_below es) _ (below_proper es q.1) (below_settled es q.1) (omega arith)

  below_settled : (es : Edges) → T (propers es) → EachSettled (joined_below es)
  below_settled none p = tt
  below_settled (edge i t es) p =
      let q = and_split (proper t) (propers es) p in
      (joined_settled t q.0, below_settled es q.1)

-- A SECOND JOINING CHANGES NOTHING
pub joined_twice : (t : Node) → T (proper t) → joined_tree (joined_tree t) ≡ joined_tree t
joined_twice t p = settled_unchanged (joined_tree t) (joined_settled t p)

-- A TREE THAT STAYS AS IT IS HAS NO EDGE THAT WOULD BE JOINED
pub unchanged_settled : (t : Node) → T (proper t) → joined_tree t ≡ t → Settled t
unchanged_settled t p e = subst Settled e (joined_settled t p)
