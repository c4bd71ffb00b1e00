-- A sheet that was read is well formed. Each step of the reading shows its own part.
use Rattle.std.specs.Prelude.{ℕ, zero, suc, ◌+◌, ◌-◌, ◌≤◌, ◌<◌, ◌≡◌, refl, cond, ◌&&◌, List, [], ◌∷◌, ◌++◌, ltb, length}
use Rattle.std.proofs.Common.{arith, sym, ap, ◌∙◌, subst, append_assoc, append-nil, ltb→lt, eqb→eq, length-append}
use Rattle.std.proofs.Math.Option.{Option, none, some}
use Rattle.lists.specs.Trusted.Lists.{◌∈◌, Every, Distinct, Permuted, from}
use Rattle.lists.specs.ListLaws.{every_none, every_cons, every_head, every_append, permuted_sym}
use Rattle.lists.specs.Cases.{by_test, and_split}
use Rattle.lists.specs.Trusted.Tests.{within}
use Rattle.lists.specs.TestLaws.{reflects_elem, reflects_within}
use Rattle.tree.specs.Trusted.Limits.{greatest_net, fewest_fanins, most_fanins, code_base}
use Rattle.lists.specs.Trusted.Checked.{passed}
use Rattle.lists.specs.CheckedLaws.{Meets, on, meets_of, meets_map, meets_bind, meets_require, meets_given}
use Rattle.decimal.specs.Trusted.Number.{Number}
use Rattle.sheet.specs.Trusted.Limits.{most_gates, most_leaves}
use Rattle.sheet.specs.Trusted.Line.{fields}
use Rattle.sheet.specs.declared.Source.{Source}
use Rattle.sheet.specs.declared.Source.TheVariants.{Net as net, Gate as gate}
use Rattle.sheet.specs.declared.Edge.{Edge as Fanin}
use Rattle.sheet.specs.Trusted.Sheet.{DrawnGate, DrawnSheet, net_of, gate_of, code_of, fanin_nets, fanin_gates, leaf_nets, gates_read}
use Rattle.sheet.specs.Trusted.Read.{Seen, nothing, head_of, source_of, read_source, read_fanin, read_fanins, gate_head_of, read_gate, read_left, read_unread, read_sheet}
use Rattle.sheet.specs.Trusted.Formed.{Net, LeafNet, FaninCount, Before, Earlier, WellFormed}
use Rattle.sheet.specs.NumberLaws.{counts_holds, not_eqb, not_elem, distinct_end, distinct_permuted, same_numbers, from_once, in_from}

-- what holds of the nets and gates read so far
pub record SeenSound (out : ℕ) (seen : Seen) : Type 0 where
  pub leaf_nets_lem : Every (LeafNet out) seen.nets
  pub leaf_once : Distinct seen.nets
  pub leaf_count_lem : length seen.nets ≤ most_leaves
  pub gate_once : Distinct seen.gates

-- the nets `ns` and the gates `gs` were read on top of those seen before
pub record Also (out : ℕ) (before after : Seen) (ns gs : List ℕ) : Type 0 where
  pub sound : SeenSound out after
  pub nets : after.nets ≡ before.nets ++ ns
  pub gates : after.gates ≡ before.gates ++ gs

also_none : {out : ℕ} {seen : Seen} → SeenSound out seen → Also out seen seen [] []
also_none h = record { sound = h; nets = sym (append-nil _); gates = sym (append-nil _) }

also_more : {out : ℕ} {a b c : Seen} {ms ns fs gs : List ℕ} → Also out a b ms fs → Also out b c ns gs → Also out a c (ms ++ ns) (fs ++ gs)
also_more {a = a} {ms = ms} {ns = ns} {fs = fs} {gs = gs} p q = record {
  sound = q.sound;
  nets = q.nets ∙ (ap (λ l. l ++ ns) p.nets ∙ append_assoc a.nets ms ns);
  gates = q.gates ∙ (ap (λ l. l ++ gs) p.gates ∙ append_assoc a.gates fs gs);
}

-- ---- line 1

pub head_meets : (bytes : List ℕ) → Meets (λ h. Net h.out × (1 ≤ h.count) × (h.count ≤ most_gates)) (head_of (fields bytes))
head_meets bytes =
    meets_given _ _ _ _ (λ xs d. meets_given _ _ _ _ (λ x e.
    meets_require _ _ _ _ (λ t. meets_require _ _ _ _ (λ u. meets_require _ _ _ _ (λ v.
    let c = counts_holds 1 most_gates x.1 v in
    on ((reflects_within 1 greatest_net x.0.magnitude).to u, c.0, c.1))))))

-- ---- fanins

-- it is written as n, and is a net or a gate before gate g
pub record Named (g n : ℕ) (s : Source) : Type 0 where
  pub is_net_lem : Every Net (net_of s)
  pub is_before : Every (Before g) (gate_of s)
  pub code : code_of s ≡ n

pub source_named : (g n : ℕ) (s : Source) → source_of g n ≡ some s → Named g n s
source_named g n =
    by_test (λ b. (s : Source) → cond b (some (net n)) (cond (ltb code_base n && ltb n (code_base + g)) (some (gate (n - code_base))) none) ≡ some s → Named g n s)
    (within 1 greatest_net n)
    (λ t s e.
    let q : net n ≡ s = cc in
    subst (Named g n) q (record { is_net_lem = every_cons ((reflects_within 1 greatest_net n).to t) (every_none _); is_before = every_none _; code = refl }))
    (λ f. by_test (λ b. (s : Source) → cond b (some (gate (n - code_base))) none ≡ some s → Named g n s) (ltb code_base n && ltb n (code_base + g))
    (λ t s e.
    let q : gate (n - code_base) ≡ s = cc in
    let a = and_split (ltb code_base n) (ltb n (code_base + g)) t in
    let l = ltb→lt code_base n a.0 in
    let u = ltb→lt n (code_base + g) a.1 in
    subst (Named g n) q (record { is_net_lem = every_none _; is_before = every_cons (omega arith) (every_none _); code = omega arith }))
    (λ t s e. let z : ◌≡◌ {A = ℕ} 0 1 = cc in absurd (omega arith)))

source_meets : (out place : ℕ) (seen : Seen) (s : Source) → SeenSound out seen → Every Net (net_of s) →
    Meets (λ r. Also out seen r (net_of s) (gate_of s)) (read_source out place seen s)
source_meets out place seen (net n) h i =
    meets_require _ _ _ _ (λ t. meets_require _ _ _ _ (λ u. meets_require _ _ _ _ (λ v.
    let r = every_head i in
    on (record {
      sound = record {
        leaf_nets_lem = every_append _ _ h.leaf_nets_lem (every_cons (r.0, r.1, not_eqb n out u) (every_none _));
        leaf_once = distinct_end seen.nets n h.leaf_once (not_elem n seen.nets t);
        leaf_count_lem = simp length-append (omega (arith, ltb→lt (length seen.nets) most_leaves v));
        gate_once = h.gate_once;
      };
      nets = refl;
      gates = sym (append-nil _);
    }))))
source_meets out place seen (gate g) h i =
    meets_require _ _ _ _ (λ t. on (record {
      sound = record {
        leaf_nets_lem = h.leaf_nets_lem;
        leaf_once = h.leaf_once;
        leaf_count_lem = h.leaf_count_lem;
        gate_once = distinct_end seen.gates g h.gate_once (not_elem g seen.gates t);
      };
      nets = sym (append-nil _);
      gates = refl;
    }))

fanin_meets : (out g : ℕ) (seen : Seen) (n : ℕ) → SeenSound out seen →
    Meets (λ r. Also out seen r.1 (net_of r.0) (gate_of r.0) × Every (Before g) (gate_of r.0)) (read_fanin out g seen n)
fanin_meets out g seen n h =
    meets_given _ _ _ _ (λ s e.
    let d = source_named g n s e in
    meets_bind _ _ (source_meets out (suc g) seen s h d.is_net_lem) (λ seen₁ p. on (p, d.is_before)))

pub record FaninsRead (out g : ℕ) (seen : Seen) (count : ℕ) (r : List Fanin × Seen) : Type 0 where
  pub also : Also out seen r.1 (fanin_nets r.0) (fanin_gates r.0)
  pub earlier : Every (Before g) (fanin_gates r.0)
  pub number : length r.0 ≡ count

fanins_meets : (out g : ℕ) (seen : Seen) (xs : List Number) → SeenSound out seen → Meets (FaninsRead out g seen (length xs)) (read_fanins out g seen xs)
fanins_meets out g seen [] h = on (record { also = also_none h; earlier = every_none _; number = refl })
fanins_meets out g seen (x ∷ xs) h =
    meets_bind _ _ (fanin_meets out g seen x.magnitude h) (λ s p.
    meets_bind _ _ (fanins_meets out g s.1 xs p.0.sound) (λ r f.
    on (record {
      also = also_more p.0 f.also;
      earlier = every_append (gate_of s.0) (fanin_gates r.0) p.1 f.earlier;
      number = ap suc f.number;
    })))

-- ---- gates

pub record GateRead (out g : ℕ) (seen : Seen) (r : DrawnGate × Seen) : Type 0 where
  pub also : Also out seen r.1 (fanin_nets r.0.fanins) (fanin_gates r.0.fanins)
  pub earlier : Every (Before g) (fanin_gates r.0.fanins)
  pub count : FaninCount r.0

gate_head_meets : (g : ℕ) (fs : Option (List Number)) → Meets (λ r. (fewest_fanins ≤ length r.1) × (length r.1 ≤ most_fanins)) (gate_head_of g fs)
gate_head_meets g fs =
    meets_given _ _ _ _ (λ xs d. meets_given _ _ _ _ (λ x e. meets_given _ _ _ _ (λ k e₁.
    meets_require _ _ _ _ (λ t. meets_require _ _ _ _ (λ u.
    let c = counts_holds fewest_fanins most_fanins x.1 t in
    let q = eqb→eq (length x.2) x.1.magnitude u in
    on (omega arith))))))

gate_meets : (out g : ℕ) (seen : Seen) (bytes : List ℕ) → SeenSound out seen → Meets (GateRead out g seen) (read_gate out g seen bytes)
gate_meets out g seen bytes h =
    meets_bind _ _ (gate_head_meets g (fields bytes)) (λ x c.
    meets_bind _ _ (fanins_meets out g seen x.1 h) (λ r f.
    on (record { also = f.also; earlier = f.earlier; count = omega (arith, f.number) })))

pub record LeftRead (out left g : ℕ) (seen : Seen) (r : List DrawnGate × Seen × List ℕ) : Type 0 where
  pub also : Also out seen r.1 (leaf_nets r.0) (gates_read r.0)
  pub earlier : Earlier g r.0
  pub counts : Every FaninCount r.0
  pub number : length r.0 ≡ left

left_meets : (out left g : ℕ) (seen : Seen) (text : List ℕ) → SeenSound out seen → Meets (LeftRead out left g seen) (read_left out left g seen text)
left_meets out zero g seen text h = on (record { also = also_none h; earlier = tt; counts = every_none _; number = refl })
left_meets out (suc left) g seen text h =
    meets_given _ _ _ _ (λ l e.
    meets_bind _ _ (gate_meets out g seen l.0 h) (λ r p.
    meets_bind _ _ (left_meets out left (suc g) r.1 l.1 p.also.sound) (λ q f.
    on (record {
      also = also_more p.also f.also;
      earlier = (p.earlier, f.earlier);
      counts = every_cons p.count f.counts;
      number = ap suc f.number;
    }))))

-- ---- after the last line

unread_meets : (gs read : List ℕ) → Meets (λ u. Every (λ g. g ∈ read) gs) (read_unread gs read)
unread_meets [] read = on (every_none _)
unread_meets (g ∷ gs) read =
    meets_require _ _ _ _ (λ t. meets_map (λ u f. every_cons ((reflects_elem g read).to t) f) (unread_meets gs read))

-- what the gates from gate g on read lies before the last of them
earlier_below : (g : ℕ) (xs : List DrawnGate) → Earlier g xs → Every (λ j. (1 ≤ j) × (suc j < g + length xs)) (gates_read xs)
earlier_below g [] h = every_none _
earlier_below g (x ∷ xs) h =
    every_append (fanin_gates x.fanins) (gates_read xs)
    (λ j m. let b = h.0 j m in omega arith)
    (λ j m. let b = earlier_below (suc g) xs h.1 j m in omega arith)

-- so what they read is each gate but the last, once
each_once : (xs : List DrawnGate) (n : ℕ) (read : List ℕ) → length xs ≡ n → read ≡ gates_read xs → Earlier 1 xs → Distinct read →
    Every (λ g. g ∈ read) (from 1 (n - 1)) → Permuted (gates_read xs) (from 1 (length xs - 1))
each_once xs n read l q e d f =
    same_numbers (gates_read xs) (from 1 (length xs - 1)) (subst Distinct q d) (from_once 1 (length xs - 1))
    (λ j m. let b = earlier_below 1 xs e j m in in_from 1 (length xs - 1) j b.0 (omega arith))
    (subst (λ k. Every (λ g. g ∈ gates_read xs) (from 1 (k - 1))) (sym l) (subst (λ r. Every (λ g. g ∈ r) (from 1 (n - 1))) q f))

-- ---- a sheet

nothing_sound : {out : ℕ} → SeenSound out nothing
nothing_sound = record { leaf_nets_lem = every_none _; leaf_once = tt; leaf_count_lem = omega arith; gate_once = tt }

all_meets : (text : List ℕ) → Meets WellFormed (read_sheet text)
all_meets text =
    meets_given _ _ _ _ (λ l e.
    meets_bind _ _ (head_meets l.0) (λ h a.
    meets_bind _ _ (left_meets h.out h.count 1 nothing l.1 nothing_sound) (λ r f.
    meets_require _ _ _ _ (λ t.
    meets_bind _ _ (unread_meets (from 1 (h.count - 1)) r.1.gates) (λ u g.
    on (record {
      out_net = a.0;
      gate_count = omega (arith, f.number);
      fanin_counts = f.counts;
      earlier = f.earlier;
      read_once = each_once r.0 h.count r.1.gates f.number f.also.gates f.earlier f.also.sound.gate_once g;
      leaf_nets_lem = rw f.also.nets at f.also.sound.leaf_nets_lem;
      leaf_once = rw f.also.nets at f.also.sound.leaf_once;
      leaf_count_lem = rw f.also.nets at f.also.sound.leaf_count_lem;
    }))))))

-- A SHEET THAT WAS READ IS WELL FORMED
pub read_formed : (text : List ℕ) (s : DrawnSheet) → read_sheet text ≡ passed s → WellFormed s
read_formed text s e = meets_of (all_meets text) e

-- ---- the same by gates: each is read once, except the last, which is not read

pub gates_distinct : (s : DrawnSheet) → WellFormed s → Distinct (gates_read s.gates)
gates_distinct s w = distinct_permuted (permuted_sym w.read_once) (from_once 1 (length s.gates - 1))
