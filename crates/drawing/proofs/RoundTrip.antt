-- READING WHAT WAS WRITTEN GIVES THE SHEET BACK: a well-formed sheet passes each test of the reading.
use Rattle.std.specs.Prelude.{ℕ, suc, ◌+◌, ◌-◌, ◌^◌, ◌≤◌, ◌<◌, ◌≡◌, refl, Bool, true, false, not, List, [], ◌∷◌, ◌++◌, map, T, length}
use Rattle.std.proofs.Common.{arith, sym, ap, ap₂, ◌∙◌, append_assoc, append-nil, length-append, le-leb, lt-ltb}
use Rattle.std.proofs.Math.Option.{Option, some}
use Rattle.std.proofs.lemmas.List.{length-map}
use Rattle.std.proofs.lemmas.Bool.{lt-leb}
use Rattle.lists.specs.Trusted.Lists.{◌∈◌, first, later, Every, Distinct, gather, from}
use Rattle.lists.specs.ListLaws.{every_none, every_cons, every_head, every_tail, every_left, every_right, permuted_to}
use Rattle.lists.specs.Trusted.Tests.{elem}
use Rattle.lists.specs.TestLaws.{reflects_lt, reflects_eq, reflects_not, reflects_elem, reflects_within, reflects_true}
use Rattle.lists.specs.Trusted.Checked.{Checked, passed, ◌>>=◌, require, given}
use Rattle.tree.specs.declared.Kind.{Kind}
use Rattle.tree.specs.declared.Kind.TheVariants.{And as and, Or as or}
use Rattle.tree.specs.Trusted.Limits.{greatest_net, fewest_fanins, most_fanins, code_base}
use Rattle.decimal.specs.Trusted.Number.{columns}
use Rattle.decimal.specs.Inside.{Within}
use Rattle.sheet.specs.declared.Source.{Source}
use Rattle.sheet.specs.declared.Source.TheVariants.{Net as net, Gate as gate}
use Rattle.sheet.specs.declared.Edge.{Edge as Fanin}
use Rattle.sheet.specs.Trusted.Limits.{most_gates, most_leaves}
use Rattle.sheet.specs.Trusted.Line.{fields}
use Rattle.sheet.specs.Trusted.Sheet.{DrawnGate, DrawnSheet, net_of, gate_of, code_of, fanin_nets, fanin_gates, leaf_nets, gates_read}
use Rattle.sheet.specs.Trusted.Read.{Seen, nothing, head_of, source_of, read_source, read_fanins, kind_of, gate_head_of, read_gate, read_left, read_unread, read_sheet}
use Rattle.sheet.specs.Trusted.Formed.{Net, LeafNet, FaninCount, Before, Earlier, WellFormed}
use Rattle.sheet.specs.NumberLaws.{distinct_left}
use Rattle.sheet.specs.ReadLaws.{gates_distinct}
use Rattle.drawing.specs.Trusted.Written.{signed_number, plain_number, fields_text, head_numbers, kind_number, fanin_number, gate_numbers, gate_text, written}
use Rattle.drawing.specs.LineLaws.{line_written_lem, fields_written}

-- ---- steps that go on

on_bind : {A B : Type 0} {r : Checked B} (m : Checked A) (f : A → Checked B) {a : A} → m ≡ passed a → f a ≡ r → (m >>= f) ≡ r
unfolding ◌>>=◌
on_bind m f e h = ap (λ k. k >>= f) e ∙ h

on_require : {B : Type 0} {r : Checked B} (b : Bool) (number place : ℕ) (f : Unit {0} → Checked B) → T b → f tt ≡ r → (require b number place >>= f) ≡ r
unfolding ◌>>=◌ require
on_require true number place f t h = h
on_require false number place f t h = absurd t

on_given : {A B : Type 0} {r : Checked B} (o : Option A) (number place : ℕ) (f : A → Checked B) {a : A} → o ≡ some a → f a ≡ r → (given o number place >>= f) ≡ r
unfolding ◌>>=◌ given
on_given o number place f e h = ap (λ p. given p number place >>= f) e ∙ h

-- ---- what is written has room in its field

small : (b : Bool) (n : ℕ) → 1 ≤ n → n < 10 ^ 5 → Within columns (signed_number b n)
small b n l u = record { size = omega arith; sign = λ e. (l, omega arith) }

source_small : (g : ℕ) (b : Bool) (s : Source) → g ≤ most_gates → Every Net (net_of s) → Every (Before g) (gate_of s) → Within columns (signed_number b (code_of s))
source_small g b (net n) m h k = let r = every_head h in small b n r.0 (omega arith)
source_small g b (gate j) m h k = let r = every_head k in small b (code_base + j) (omega arith) (omega arith)

fanins_small : (g : ℕ) (fs : List Fanin) → g ≤ most_gates → Every Net (fanin_nets fs) → Every (Before g) (fanin_gates fs) → Every (Within columns) (map fanin_number fs)
fanins_small g [] m h k = every_none _
fanins_small g (f ∷ fs) m h k =
    every_cons
    (source_small g f.inverted f.source m (every_left (net_of f.source) (fanin_nets fs) h) (every_left (gate_of f.source) (fanin_gates fs) k))
    (fanins_small g fs m (every_right (net_of f.source) (fanin_nets fs) h) (every_right (gate_of f.source) (fanin_gates fs) k))

-- ---- line 1

head_back : (s : DrawnSheet) → WellFormed s →
    head_of (fields (fields_text (head_numbers s))) ≡ passed (record { out = s.out; inverted = s.inverted; count = length s.gates })
head_back s w =
    on_given _ _ _ _ (fields_written (signed_number s.inverted s.out) (plain_number (length s.gates) ∷ []) (omega arith)
    (every_cons (small s.inverted s.out w.out_net.0 (omega arith)) (every_cons (small false (length s.gates) w.gate_count.0 (omega arith)) (every_none _))))
    (on_given _ _ _ _ refl
    (on_require _ _ _ _ tt
    (on_require _ _ _ _ ((reflects_within 1 greatest_net s.out).from w.out_net)
    (on_require _ _ _ _ ((reflects_within 1 most_gates (length s.gates)).from w.gate_count) refl))))

-- ---- fanins

source_back : (g : ℕ) (s : Source) → Every Net (net_of s) → Every (Before g) (gate_of s) → source_of g (code_of s) ≡ some s
source_back g (net n) h k = rw (reflects_true (reflects_within 1 greatest_net n) (every_head h))
source_back g (gate j) h k =
    let r = every_head k in
    let low : code_base < code_base + j = omega arith in
    let high : code_base + j < code_base + g = omega arith in
    let above : greatest_net < code_base + j = omega arith in
    rw (le-leb 1 (code_base + j) (omega arith), lt-leb (code_base + j) greatest_net above, lt-ltb code_base (code_base + j) low, lt-ltb (code_base + j) (code_base + g) high)
    (ap (λ n. some (gate n)) (omega arith))

-- the nets `ns` and the gates `gs` can be read on top of those seen
record Unseen (out : ℕ) (seen : Seen) (ns gs : List ℕ) : Type 0 where
  leaf_nets_lem : Every (LeafNet out) ns
  leaf_once : Distinct (seen.nets ++ ns)
  leaf_count_lem : length (seen.nets ++ ns) ≤ most_leaves
  gate_once : Distinct (seen.gates ++ gs)

-- and what is seen then
abbrev seen_with : Seen → (ns gs : List ℕ) → Seen
seen_with seen ns gs = record { nets = seen.nets ++ ns; gates = seen.gates ++ gs }

seen_both : (seen : Seen) (ns ms gs hs : List ℕ) → seen_with (seen_with seen ns gs) ms hs ≡ seen_with seen (ns ++ ms) (gs ++ hs)
seen_both seen ns ms gs hs = ap₂ (λ x y. record { nets = x; gates = y }) (append_assoc seen.nets ns ms) (append_assoc seen.gates gs hs)

new_last : (xs : List ℕ) (x : ℕ) → Distinct (xs ++ (x ∷ [])) → ¬ (x ∈ xs)
new_last [] x d x4 = elim x4 [ ]
new_last (y ∷ ys) x d (first e) = every_right ys (x ∷ []) d.0 x (first refl) (sym e)
new_last (y ∷ ys) x d (later m) = new_last ys x d.1 m

module _ {out : ℕ} {seen : Seen} (ns ms gs hs : List ℕ) (u : Unseen out seen (ns ++ ms) (gs ++ hs)) where
  unseen_first : Unseen out seen ns gs
  unseen_first = record {
    leaf_nets_lem = every_left ns ms u.leaf_nets_lem;
    leaf_once = distinct_left (seen.nets ++ ns) ms (rw append_assoc u.leaf_once);
    leaf_count_lem = simp length-append (omega (arith, simp length-append at u.leaf_count_lem));
    gate_once = distinct_left (seen.gates ++ gs) hs (rw append_assoc u.gate_once);
  }

  unseen_then : Unseen out (seen_with seen ns gs) ms hs
  unseen_then = record {
    leaf_nets_lem = every_right ns ms u.leaf_nets_lem;
    leaf_once = rw append_assoc u.leaf_once;
    leaf_count_lem = rw append_assoc u.leaf_count_lem;
    gate_once = rw append_assoc u.gate_once;
  }

unlisted : (xs : List ℕ) (x : ℕ) → Distinct (xs ++ (x ∷ [])) → T (not (elem x xs))
unlisted xs x d = (reflects_not (reflects_elem x xs)).from (new_last xs x d)

source_seen : (out place : ℕ) (seen : Seen) (s : Source) → Unseen out seen (net_of s) (gate_of s) →
    read_source out place seen s ≡ passed (seen_with seen (net_of s) (gate_of s))
source_seen out place seen (net n) u =
    on_require _ _ _ _ (unlisted seen.nets n u.leaf_once)
    (on_require _ _ _ _ ((reflects_not (reflects_eq n out)).from (every_head u.leaf_nets_lem).2)
    (on_require _ _ _ _ ((reflects_lt (length seen.nets) most_leaves).from (omega (arith, simp length-append at u.leaf_count_lem)))
    (ap (λ l. passed (record { nets = seen.nets ++ (n ∷ []); gates = l })) (sym (append-nil seen.gates)))))
source_seen out place seen (gate j) u =
    on_require _ _ _ _ (unlisted seen.gates j u.gate_once)
    (ap (λ l. passed (record { nets = l; gates = seen.gates ++ (j ∷ []) })) (sym (append-nil seen.nets)))

leaf_net : {out : ℕ} {ns : List ℕ} → Every (LeafNet out) ns → Every Net ns
leaf_net h n m = let r = h n m in (r.0, r.1)

fanins_back : (out g : ℕ) (seen : Seen) (fs : List Fanin) → Unseen out seen (fanin_nets fs) (fanin_gates fs) → Every (Before g) (fanin_gates fs) →
    read_fanins out g seen (map fanin_number fs) ≡ passed (fs, seen_with seen (fanin_nets fs) (fanin_gates fs))
fanins_back out g seen [] u k = ap₂ (λ x y. passed ([], record { nets = x; gates = y })) (sym (append-nil seen.nets)) (sym (append-nil seen.gates))
fanins_back out g seen (f ∷ fs) u k =
    let s = f.source in
    let v = unseen_first (net_of s) (fanin_nets fs) (gate_of s) (fanin_gates fs) u in
    on_bind _ _
    (on_given _ _ _ _ (source_back g s (leaf_net v.leaf_nets_lem) (every_left (gate_of s) (fanin_gates fs) k)) (on_bind _ _ (source_seen out (suc g) seen s v) refl))
    (on_bind _ _ (fanins_back out g (seen_with seen (net_of s) (gate_of s)) fs (unseen_then (net_of s) (fanin_nets fs) (gate_of s) (fanin_gates fs) u) (every_right (gate_of s) (fanin_gates fs) k))
    (ap (λ x. passed (f ∷ fs, x)) (seen_both seen (net_of s) (fanin_nets fs) (gate_of s) (fanin_gates fs))))

-- ---- gates

kind_back : (k : Kind) → kind_of (plain_number (kind_number k)) ≡ some k
kind_back and = refl
kind_back or = refl

kind_small : (k : Kind) → Within columns (plain_number (kind_number k))
kind_small and = small false 1 (omega arith) (omega arith)
kind_small or = small false 2 (omega arith) (omega arith)

module _ (out g : ℕ) (seen : Seen) (x : DrawnGate) (number : g ≤ most_gates) (count : FaninCount x)
    (u : Unseen out seen (fanin_nets x.fanins) (fanin_gates x.fanins)) (k : Every (Before g) (fanin_gates x.fanins)) where
  gate_fields : fields (fields_text (gate_numbers x)) ≡ some (gate_numbers x)
  gate_fields =
      fields_written (plain_number (kind_number x.kind)) (plain_number (length x.fanins) ∷ map fanin_number x.fanins) (simp length-map (omega arith))
      (every_cons (kind_small x.kind) (every_cons (small false (length x.fanins) (omega arith) (omega arith)) (fanins_small g x.fanins number (leaf_net u.leaf_nets_lem) k)))

  gate_head_back : gate_head_of g (fields (fields_text (gate_numbers x))) ≡ passed (x.kind, map fanin_number x.fanins)
  gate_head_back =
      on_given _ _ _ _ gate_fields
      (on_given _ _ _ _ refl
      (on_given _ _ _ _ (kind_back x.kind)
      (on_require _ _ _ _ ((reflects_within fewest_fanins most_fanins (length x.fanins)).from count)
      (on_require _ _ _ _ ((reflects_eq (length (map fanin_number x.fanins)) (length x.fanins)).from (simp length-map)) refl))))

  gate_back : read_gate out g seen (fields_text (gate_numbers x)) ≡ passed (x, seen_with seen (fanin_nets x.fanins) (fanin_gates x.fanins))
  gate_back = on_bind _ _ gate_head_back (on_bind _ _ (fanins_back out g seen x.fanins u k) refl)

left_back : (out g : ℕ) (seen : Seen) (xs : List DrawnGate) → g + length xs ≤ most_gates + 1 → Every FaninCount xs → Earlier g xs →
    Unseen out seen (leaf_nets xs) (gates_read xs) →
    read_left out (length xs) g seen (gather gate_text xs) ≡ passed (xs, seen_with seen (leaf_nets xs) (gates_read xs), [])
left_back out g seen [] l c k u = ap₂ (λ x y. passed ([], record { nets = x; gates = y }, [])) (sym (append-nil seen.nets)) (sym (append-nil seen.gates))
left_back out g seen (x ∷ xs) l c k u =
    let ns = fanin_nets x.fanins in
    let gs = fanin_gates x.fanins in
    on_given _ _ _ _ (line_written_lem (gate_numbers x) (gather gate_text xs))
    (on_bind _ _ (gate_back out g seen x (omega arith) (every_head c) (unseen_first ns (leaf_nets xs) gs (gates_read xs) u) k.0)
    (on_bind _ _ (left_back out (suc g) (seen_with seen ns gs) xs (omega arith) (every_tail c) k.1 (unseen_then ns (leaf_nets xs) gs (gates_read xs) u))
    (ap (λ y. passed (x ∷ xs, y, [])) (seen_both seen ns (leaf_nets xs) gs (gates_read xs)))))

-- ---- a sheet

unread_back : (gs read : List ℕ) → Every (λ g. g ∈ read) gs → read_unread gs read ≡ passed tt
unread_back [] read h = refl
unread_back (g ∷ gs) read h = on_require _ _ _ _ ((reflects_elem g read).from (every_head h)) (unread_back gs read (every_tail h))

all_unseen : (s : DrawnSheet) → WellFormed s → Unseen s.out nothing (leaf_nets s.gates) (gates_read s.gates)
all_unseen s w = record { leaf_nets_lem = w.leaf_nets_lem; leaf_once = w.leaf_once; leaf_count_lem = w.leaf_count_lem; gate_once = gates_distinct s w }

pub read_written : (s : DrawnSheet) → WellFormed s → read_sheet (written s) ≡ passed s
read_written s w =
    on_given _ _ _ _ (line_written_lem (head_numbers s) (gather gate_text s.gates))
    (on_bind _ _ (head_back s w)
    (on_bind _ _ (left_back s.out 1 nothing s.gates (omega arith) w.fanin_counts w.earlier (all_unseen s w))
    (on_require _ _ _ _ tt
    (on_bind _ _ (unread_back (from 1 (length s.gates - 1)) (gates_read s.gates) (permuted_to w.read_once (λ g m. m))) refl))))
