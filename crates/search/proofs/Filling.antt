-- The loop that fills the arrays in rising order of masks: what holds before the mask s. Assumes nothing.
use Prim.Native.Nat.{ℕ, zero, suc, ◌+◌, ◌-◌, ◌^◌, ◌≤◌, ◌<◌}
use native.Mathlib.Omega.{arith}
use native.Mathlib.Decide.{dec_lt}
use native.Mathlib.Numerals.{add-one}
use mathlib.Core.Logic.{by_cases}
use mathlib.Core.Path.{◌≡◌, refl, sym, ap, ◌∙◌}
use mathlib.Core.List.{List, [], ◌∷◌}
use lib.ListN.{length, get_or, take, set, length-take, length-set}
use lib.Seq.{get_or-take}
use lib.Bits.{and_self}
use lib.Pow.{pow_pos, pow_mono}
use Rattle.lists.specs.Trusted.Lists.{sum}
use Rattle.lists.specs.ListLaws.{every_at}
use Rattle.lists.specs.NumberLaws.{sum_mix}
use Rattle.plan.specs.declared.Key.{Key}
use Rattle.tree.specs.Trusted.Limits.{most_fanins}
use Rattle.plan.specs.Limits.{masks}
use Rattle.plan.specs.Key.{leaf_key}
use Rattle.plan.specs.Entries.{BestJoin, Entered, Entries, Volumes, Joined, Split, GoodKeys}
use Rattle.plan.specs.EntryLaws.{entries_more, entries_small, entered_one, entered_join, volumes_more, volumes_few, volume_one, join_bound, join_few}
use Rattle.plan.specs.Masks.{select, MaskWithin}
use Rattle.plan.specs.MaskLaws.{within_le, within_top, select_mix}
use Rattle.plan.specs.Volume.{volume}

-- `h` fanins have come, `next` is the next one's bit, and `top` the bit of the one before
pub record Filling (K count : ℕ) (ks : List Key) (bs ws us vs : List ℕ) (h top next s : ℕ) : Type 0 where
  pub fanins : h ≤ count
  pub bit : next ≡ 2 ^ h
  pub room : next ≤ 2 ^ count
  pub places : 2 ^ count ≤ masks
  pub some : 1 ≤ s
  pub most : s ≤ next
  pub half : s < next → (g : ℕ) × (h ≡ g + 1) × (top ≡ 2 ^ g) × (top < s)
  pub sizes : (length bs ≡ masks) × (length ws ≡ masks) × (length us ≡ masks) × (length vs ≡ masks)
  pub entries : Entries K ks bs ws us s
  pub volumes : Volumes K ks vs s

-- an element that is there, whatever stands for one that is not
at_any : {A : Type 0} (xs : List A) (i : ℕ) (d e : A) → i < length xs → get_or xs i d ≡ get_or xs i e
at_any [] i d e l = absurd (omega arith)
at_any (x ∷ xs) zero d e l = refl
at_any (x ∷ xs) (suc i) d e l = at_any xs i d e (omega arith)

pub taken_at : {A : Type 0} (xs : List A) (n i : ℕ) (d e : A) → i < n → length (take n xs) ≡ n → get_or xs i d ≡ get_or (take n xs) i e
taken_at xs n i d e l s = at_any xs i d e (omega (arith, length-take n xs)) ∙ sym (get_or-take n xs i e l)

-- a mask that has a place in the arrays, and is not past the last
abbrev pub Place : ℕ → ℕ → Type 0
Place count s = (s < 2 ^ count) × (s < masks)

-- before the first mask
pub filling_start : {K count : ℕ} {ks : List Key} {bs ws us vs : List ℕ} → GoodKeys K ks → length ks ≡ count →
    (length bs ≡ masks) × (length ws ≡ masks) × (length us ≡ masks) × (length vs ≡ masks) → Filling K count ks bs ws us vs 0 0 1 1
filling_start {count = count} g e z =
    let l : count ≤ most_fanins = omega (arith, g.count.1) in record {
      fanins = omega arith;
      bit = refl;
      room = pow_pos count;
      places = pow_mono l;
      some = omega arith;
      most = omega arith;
      half = λ m. absurd (omega arith);
      sizes = z;
      entries = record { at = λ s p q. absurd (omega arith) };
      volumes = record { at = λ s p q. absurd (omega arith) };
    }

module _ {K count : ℕ} {ks : List Key} where
  module _ (good : GoodKeys K ks) (size : length ks ≡ count) {bs ws us vs : List ℕ} {h top next s : ℕ}
      (f : Filling K count ks bs ws us vs h top next s) where
    sizes_set : (x y z v : ℕ) →
        (length (set bs s x) ≡ masks) × (length (set ws s y) ≡ masks) × (length (set us s z) ≡ masks) × (length (set vs s v) ≡ masks)
    sizes_set x y z v = simp length-set f.sizes

    pub place_one : s ≡ next → s < 2 ^ count → Place count s × (h < count) × (count ≤ most_fanins)
    place_one e n =
        let l : h < count =
        by_cases (dec_lt h count) (λ l. l) (λ l. let g : count ≤ h = omega arith in absurd (omega (arith, f.bit, pow_mono g))) in
        let r = f.places in
        (omega arith, l, omega (arith, good.count.1))

    more : s < 2 ^ count → {a : Key} {u : ℕ} → Entered K ks bs ws s a u →
        Entries K ks (set bs s a.below) (set ws s a.width) (set us s u) (s + 1)
    more l e =
        let r = f.places in
        let z = f.sizes in
        entries_more (omega arith) (omega arith) (omega arith) f.entries e

    more_volumes : s < 2 ^ count → {v : ℕ} → v ≡ sum (volume K) (select s ks) → Volumes K ks (set vs s v) (s + 1)
    more_volumes l e =
        let r = f.places in
        let z = f.sizes in
        volumes_more (omega arith) f.volumes e

    -- the next fanin's bit
    pub fanin_joined : h < count → (a : Key) → a ≡ get_or ks h leaf_key → Joined K a
    fanin_joined l a k =
        let g = every_at ks h leaf_key good.keys (omega arith) in
        rw k (record { table = good.table; most = g.most })

    pub filling_one : s ≡ next → h < count → (a : Key) (v : ℕ) → a ≡ get_or ks h leaf_key → v ≡ volume K a →
        Filling K count ks (set bs s a.below) (set ws s a.width) (set us s 0) (set vs s v) (h + 1) s (s + s) (s + 1)
    filling_one e l a v k w =
        let p : 2 ^ suc h ≤ 2 ^ count = pow_mono l in
        let q = pow_pos h in
        let b : s ≡ 2 ^ h = omega arith in record {
          fanins = omega arith;
          bit = rw add-one (omega arith);
          room = omega arith;
          places = f.places;
          some = omega arith;
          most = omega arith;
          half = λ l. (h, refl, b, omega arith);
          sizes = sizes_set a.below a.width 0 v;
          entries = more (omega arith) (rw (b, k) (entered_one good h (omega arith)));
          volumes = more_volumes (omega arith) (w ∙ rw (b, k) (volume_one K ks h (omega arith)));
        }

    -- the other bits of a mask that has more than its highest
    module _ (n : (s ≡ next) → ⊥) where
      within : s < next
      within = by_cases (dec_lt s next) (λ l. l) (λ l. absurd (n (omega arith)))

      pub place_join : Place count s × (top < s)
      place_join =
          let l = within in
          let g = f.half l in
          let t = g.3 in
          let r = f.places in
          (omega arith, omega arith)

      rest_below : s - top < top
      rest_below =
          let l = within in
          let g = f.half l in
          omega (arith, ap (λ n. 2 ^ n) (g.1 ∙ add-one g.0))

      rest_within : (v : ℕ) → MaskWithin v (s - top) → MaskWithin v s
      rest_within v i =
          let g = f.half within in
          let e : 2 ^ g.0 + (s - top) ≡ s = omega (arith, g.2, g.3) in
          rw e at (within_top g.0 (s - top) v (omega (arith, rest_below, g.2)) i)

      part_less : (v : ℕ) → MaskWithin v (s - top) → v < s
      part_less v i = omega (arith, within_le v (s - top) i, rest_below)

      -- the highest bit's volume and that of the others
      abbrev least : ℕ
      least = get_or vs top 0 + get_or vs (s - top) 0

      pub least_fits : least < 2 ^ 16
      least_fits =
          let t = (f.half within).3 in
          let r = rest_below in
          omega (
            arith,
            volumes_few good f.entries f.volumes top (omega arith) t,
            volumes_few good f.entries f.volumes (s - top) (omega arith) (omega arith),
          )

      least_sum : least ≡ sum (volume K) (select s ks)
      least_sum =
          let t = (f.half within).3 in
          let r = rest_below in
          let e : s - (s - top) ≡ top = omega arith in
          let m = rw e at (select_mix ks (s - top) s (rest_within (s - top) (and_self (s - top)))) in
          omega (arith, sum_mix (volume K) m, f.volumes.at top (omega arith) t, f.volumes.at (s - top) (omega arith) (omega arith))

      pub filling_split : Split K top (s - top) least bs ws
      filling_split =
          let l = within in
          let g = f.half l in
          let t = g.3 in
          let r = f.places in
          let e : top + (s - top) ≡ s = omega arith in record {
            table = good.table;
            some = omega arith;
            below = rest_below;
            within = omega arith;
            keys = rw e (entries_small good f.entries);
            few = λ v p i. rw e (join_few good f.entries v p (part_less v i) (rest_within v i));
            bound = λ v p i. rw (e, least_sum) (join_bound good f.entries v p (part_less v i) (rest_within v i));
          }

      joined : (g r : ℕ) {a : Key} {u : ℕ} → top ≡ 2 ^ g → top + r ≡ s → g < length ks → 0 < r → r < top →
          BestJoin K bs ws top r a u → Entered K ks bs ws s a u
      joined g r e w l p q b =
          let v : 2 ^ g + r ≡ s = omega arith in
          let es : Entries K ks bs ws us (2 ^ g + r) = rw v f.entries in
          rw v at (entered_join good g r l p (omega arith) es (rw e at b))

      pub filling_join : {a : Key} {u : ℕ} → BestJoin K bs ws top (s - top) a u →
          Filling K count ks (set bs s a.below) (set ws s a.width) (set us s u) (set vs s least) h top next (s + 1)
      filling_join {a} {u} b =
          let l = within in
          let g = f.half l in
          let t = g.3 in record {
            fanins = omega arith;
            bit = f.bit;
            room = f.room;
            places = f.places;
            some = omega arith;
            most = omega arith;
            half = λ l. (g.0, g.1, g.2, omega arith);
            sizes = sizes_set a.below a.width u least;
            entries = more (omega arith) (joined g.0 (s - top) g.2 (omega arith) (omega arith) filling_split.some rest_below b);
            volumes = more_volumes (omega arith) least_sum;
          }
