-- The steps for a mask: one, where it is a single fanin's; else those for the rest and for the submask, and a join.
-- Assumes nothing.
use Prim.Native.Nat.{ℕ, ◌+◌, ◌-◌, ◌^◌, ◌≤◌, ◌<◌}
use native.Mathlib.Omega.{arith}
use native.Mathlib.Numerals.{add-one}
use native.Mathlib.Decide.{dec_lt}
use mathlib.Core.Logic.{by_cases}
use mathlib.Core.Path.{◌≡◌, refl, sym, ap, subst, ◌∙◌}
use mathlib.Core.Bool.{Bool}
use mathlib.Core.List.{List, [], ◌∷◌, ◌++◌, append_assoc}
use lib.ListN.{length, get_or, length-append, length-set}
use lib.Seq.{take-suc-set}
use lib.Pow.{pow-lt}
use Rattle.lists.specs.Sequences.{upto}
use Rattle.lists.specs.ListLaws.{permuted_length}
use Rattle.lists.specs.MixLaws.{mix_append}
use Rattle.lists.specs.NumberLaws.{upto_length}
use Rattle.plan.specs.declared.Key.{Key}
use Rattle.plan.specs.declared.Token.{Token}
use Rattle.plan.specs.declared.Token.TheVariants.{Push as push, Join as join}
use Rattle.plan.specs.declared.Plan.{Plan}
use Rattle.tree.specs.Trusted.Limits.{most_fanins}
use Rattle.plan.specs.Limits.{most_steps}
use Rattle.plan.specs.Key.{leaf_key, cuts, KeyJoined}
use Rattle.plan.specs.KeyLaws.{join_way}
use Rattle.plan.specs.Masks.{select, MaskWithin}
use Rattle.plan.specs.MaskLaws.{select_mix, select_some}
use Rattle.plan.specs.MaskPlans.{MaskPlanned, mask_plan_one, mask_plan_join}
use Rattle.plan.specs.PlanBounds.{planned_length}
use Rattle.plan.specs.Entries.{entry, JoinableAt, Entered, Entries, OneBit}
use Rattle.plan.specs.EntryLaws.{entries_small, join_few}
use Rattle.plan.specs.Steps.{tokens, stepped, join_token, Took, Writable, StepsWritten, Writes}

-- how many of the at most ten fanins a mask has
abbrev pub fanin_count : ℕ → ℕ
fanin_count s = length (select s (upto most_fanins))

-- the fanins of a mask are those of a submask and of the rest
parts_length : {A : Type 0} (xs : List A) (u s : ℕ) → MaskWithin u s →
    length (select s xs) ≡ length (select (s - u) xs) + length (select u xs)
parts_length xs u s w =
    sym (permuted_length (mix_append (select_mix xs u s w))) ∙ length-append (select (s - u) xs) (select u xs)

pow_same : (i j : ℕ) → 2 ^ i ≡ 2 ^ j → i ≡ j
pow_same i j e =
    by_cases (dec_lt i j) (λ l. absurd (omega (arith, pow-lt l))) λ l.
    by_cases (dec_lt j i) (λ k. absurd (omega (arith, pow-lt k))) λ k.
    omega arith

entries_below : {K : ℕ} {ks : List Key} {bs ws us : List ℕ} {m n : ℕ} → m ≤ n → Entries K ks bs ws us n → Entries K ks bs ws us m
entries_below l es = record { at = λ s p k. es.at s p (omega arith) }

pub stepped_tokens : (p : Plan) (t : Token) → p.len < length p.steps → tokens (stepped p t) ≡ tokens p ++ (t ∷ [])
stepped_tokens p t l = rw (add-one, take-suc-set) refl

-- the steps of two parts, and a join
written_join : {K : ℕ} {ks : List Key} {bs ws : List ℕ} {s : ℕ} {p q r : Plan} {a b : Bool} (u : ℕ) → MaskWithin u s →
    KeyJoined K a b (entry bs ws (s - u)) (entry bs ws u) (entry bs ws s) → r.len < most_steps →
    StepsWritten K ks bs ws (s - u) p q → StepsWritten K ks bs ws u q r → StepsWritten K ks bs ws s p (stepped r (join a b))
written_join {s = s} {p = p} {r = r} {a = a} {b = b} u i way l x y =
    let t = join a b in record {
      added = x.added ++ (y.added ++ (t ∷ []));
      planned = mask_plan_join u s i x.planned y.planned way;
      is =
          stepped_tokens r t (omega (arith, y.size)) ∙ ap (λ z. z ++ (t ∷ [])) (y.is ∙ ap (λ z. z ++ y.added) x.is)
          ∙ simp append_assoc;
      len = simp length-append (omega (arith, x.len, y.len));
      size = simp length-set y.size;
      kept = y.kept ∙ x.kept;
    }

module _ {K : ℕ} {bs ws us : List ℕ} {s : ℕ} {p : Plan} (w : Writable K bs ws us s p) where
  -- the entry at the mask
  own : {ks : List Key} → Entries K ks bs ws us (s + 1) → Entered K ks bs ws s (entry bs ws s) (get_or us s 0)
  own es = es.at s w.some (omega arith)

  -- a single fanin's mask
  module _ (z : get_or us s 0 ≡ 0) where
    pub one_able : OneBit s × (p.len < most_steps)
    one_able =
        let a = (own w.entries).alone z in
        let l = pow-lt a.1 in
        let n = upto_length (length w.keys) in (
          (a.0, omega (arith, a.1, w.good.count.1), a.2),
          omega (arith, w.room, select_some (upto (length w.keys)) s 0 w.some (rw n (omega (arith, a.2)))),
        )

    pub one_writes : {q : Plan} → Took s p q → Writes K bs ws us s p q
    one_writes {q} (h, e, o) ks es =
        let a = (own es).alone z in
        let i = pow_same h a.0 (e ∙ a.2) in
        let k : entry bs ws s ≡ get_or ks h leaf_key = a.3 ∙ ap (λ n. get_or ks n leaf_key) (sym i) in
        let l : h < length ks = rw i a.1 in
        rw o
        (record {
          added = push h ∷ [];
          planned = subst (MaskPlanned K ks s (push h ∷ [])) (sym k) (rw e at (mask_plan_one {K = K} {ks = ks} h l));
          is = stepped_tokens p (push h) (omega (arith, w.size, one_able.1));
          len = refl;
          size = simp length-set w.size;
          kept = refl;
        })

  -- a mask of more
  module _ (n : (get_or us s 0 ≡ 0) → ⊥) where
    abbrev u : ℕ
    u = get_or us s 0

    some : 0 < u
    some = by_cases (dec_lt 0 u) (λ l. l) (λ l. absurd (n (omega arith)))

    pub proper_part : MaskWithin u s × (u < s) × (0 < u)
    proper_part = let a = (own w.entries).apart some in (a.0, a.1, some)

    -- each part has fewer fanins than the mask
    pub fewer : (fanin_count (s - u) < fanin_count s) × (fanin_count u < fanin_count s)
    fewer =
        let p = proper_part in
        let l = p.1 in
        let h = w.place in
        let e = parts_length (upto most_fanins) u s p.0 in
        let a = select_some (upto most_fanins) (s - u) 0 (omega arith) (omega arith) in
        let b = select_some (upto most_fanins) u 0 p.2 (omega arith) in
        (omega arith, omega arith)

    -- the fanins of the two parts
    bits : (x : ℕ) → ℕ
    bits x = length (select x (upto (length w.keys)))

    shared : bits s ≡ bits (s - u) + bits u
    unfolding bits
    shared = parts_length (upto (length w.keys)) u s proper_part.0

    rest_entries : {ks : List Key} → Entries K ks bs ws us (s + 1) → Entries K ks bs ws us (s - u + 1)
    rest_entries = entries_below (omega arith)

    part_entries : {ks : List Key} → Entries K ks bs ws us (s + 1) → Entries K ks bs ws us (u + 1)
    part_entries = let l = proper_part.1 in entries_below (omega arith)

    pub first_writable : Writable K bs ws us (s - u) p
    unfolding bits
    first_writable =
        let l = proper_part.1 in record {
          keys = w.keys;
          good = w.good;
          entries = rest_entries w.entries;
          some = omega arith;
          place = omega (arith, w.place);
          size = w.size;
          room = omega (arith, shared, w.room);
        }

    module _ {q : Plan} (f : Writes K bs ws us (s - u) p q) where
      first : StepsWritten K w.keys bs ws (s - u) p q
      first = f w.keys (rest_entries w.entries)

      pub second_writable : Writable K bs ws us u q
      unfolding bits
      second_writable =
          let l = proper_part.1 in record {
            keys = w.keys;
            good = w.good;
            entries = part_entries w.entries;
            some = some;
            place = omega (arith, w.place);
            size = first.size;
            room = omega (arith, shared, w.room, first.len, planned_length first.planned);
          }

      module _ {r : Plan} (g : Writes K bs ws us u q r) where
        second : StepsWritten K w.keys bs ws u q r
        second = g w.keys (part_entries w.entries)

        join_room : r.len < most_steps
        unfolding bits
        join_room =
            let x = first in
            let y = second in
            omega (arith, shared, w.room, planned_length x.planned, planned_length y.planned)

        pub join_able : JoinableAt K bs ws (s - u) u × (r.len < most_steps)
        join_able =
            let l = proper_part.1 in
            let h = w.place in
            let m = entries_small w.good w.entries in (
              record {
                places = (omega arith, omega arith);
                keys = record {
                  table = w.good.table;
                  left = m (s - u) (omega arith) (omega arith);
                  right = m u some (omega arith);
                  few = join_few w.good (entries_below (omega arith) w.entries) u some l proper_part.0;
                };
              },
              join_room,
            )

        abbrev flags : Bool × Bool
        flags = cuts K (entry bs ws (s - u)) (entry bs ws u)

        pub join_writes : Writes K bs ws us s p (stepped r (join_token K (entry bs ws (s - u)) (entry bs ws u)))
        join_writes ks es =
            let a = (own es).apart some in
            let way = join_way K w.good.table.0 (entry bs ws (s - u)) (entry bs ws u) in
            written_join u a.0 (subst (KeyJoined K flags.0 flags.1 (entry bs ws (s - u)) (entry bs ws u)) (sym a.2) way) join_room
            (f ks (rest_entries es)) (g ks (part_entries es))
