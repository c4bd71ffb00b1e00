-- A sheet with one leaf more is well formed, as the sheet is, if that has fewer than 256 leaves.
use Rattle.std.specs.Prelude.{ℕ, suc, ◌≡◌, refl, Bool, List, ◌++◌}
use Rattle.std.proofs.Common.{arith, sym, ap, subst}
use Rattle.lists.specs.Trusted.Lists.{Every, Inserted, here, there}
use Rattle.lists.specs.ListLaws.{every_cons, every_head, every_tail, inserted_to, inserted_left, inserted_right, inserted_length, permuted_refl, permuted_insert, permuted_sym}
use Rattle.sheet.specs.declared.Edge.{Edge as Fanin}
use Rattle.sheet.specs.Trusted.Sheet.{DrawnGate, DrawnSheet, net_of, gate_of, fanin_nets, fanin_gates, leaf_nets, gates_read}
use Rattle.sheet.specs.Trusted.Formed.{FaninCount, Net, Earlier, WellFormed}
use Rattle.sheet.specs.NumberLaws.{distinct_permuted}
use Rattle.one_more.specs.Trusted.OneMoreLeaf.{leaf_fanin, OneMoreFanin, at_gate, after, OneMoreLeaf, FewerLeaves}
use Rattle.one_more.specs.GrownTrees.{more_gates}

module _ {i : Bool} {n : ℕ} where
  -- ---- one gate

  same_reads : {fs gs : List Fanin} → Inserted (leaf_fanin i n) gs fs → fanin_gates gs ≡ fanin_gates fs
  same_reads here = refl
  same_reads (there {y = f} j) = ap (λ l. gate_of f.source ++ l) (same_reads j)

  nets_more : {fs gs : List Fanin} → Inserted (leaf_fanin i n) gs fs → Inserted n (fanin_nets gs) (fanin_nets fs)
  nets_more here = here
  nets_more (there {y = f} j) = inserted_right (net_of f.source) (nets_more j)

  -- ---- all gates

  more_counts : {gs hs : List DrawnGate} → OneMoreFanin (leaf_fanin i n) gs hs → Every FaninCount gs → Every FaninCount hs
  more_counts (at_gate l j) h = every_cons (omega (arith, (every_head h).0, inserted_length j)) (every_tail h)
  more_counts (after o) h = every_cons (every_head h) (more_counts o (every_tail h))

  more_earlier : (g : ℕ) {gs hs : List DrawnGate} → OneMoreFanin (leaf_fanin i n) gs hs → Earlier g gs → Earlier g hs
  more_earlier g (at_gate l j) h = (rw (same_reads j) h.0, h.1)
  more_earlier g (after o) h = (h.0, more_earlier (suc g) o h.1)

  more_reads : {gs hs : List DrawnGate} → OneMoreFanin (leaf_fanin i n) gs hs → gates_read hs ≡ gates_read gs
  more_reads (at_gate {xs = xs} l j) = ap (λ l. l ++ gates_read xs) (same_reads j)
  more_reads (after {x = x} o) = ap (λ l. fanin_gates x.fanins ++ l) (more_reads o)

  leaves_more : {gs hs : List DrawnGate} → OneMoreFanin (leaf_fanin i n) gs hs → Inserted n (leaf_nets hs) (leaf_nets gs)
  leaves_more (at_gate {xs = xs} l j) = inserted_left (leaf_nets xs) (nets_more j)
  leaves_more (after {x = x} o) = inserted_right (fanin_nets x.fanins) (leaves_more o)

-- ---- the sheet

-- A SHEET WITH ONE LEAF MORE IS WELL FORMED
pub more_formed : (s s' : DrawnSheet) → WellFormed s → FewerLeaves s → OneMoreLeaf s s' → WellFormed s'
more_formed s s' w few o =
    let j = leaves_more o.gates in
    let size = more_gates o.gates in
    let new = o.new_net in
    record {
      out_net = subst Net (sym o.same_out) w.out_net;
      gate_count = (omega (arith, size, w.gate_count.0), omega (arith, size, w.gate_count.1));
      fanin_counts = more_counts o.gates w.fanin_counts;
      earlier = more_earlier 1 o.gates w.earlier;
      read_once = rw (more_reads o.gates, size) w.read_once;
      leaf_nets_lem = rw o.same_out (inserted_to j (every_cons new.0 w.leaf_nets_lem));
      leaf_once = distinct_permuted (permuted_sym (permuted_insert j (permuted_refl _))) (new.1, w.leaf_once);
      leaf_count_lem = omega (arith, inserted_length j, few);
    }
