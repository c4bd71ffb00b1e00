-- How many bytes a sheet that was read has: at most those of line 1, and 25 for each leaf but one.
use Rattle.std.specs.Prelude.{ℕ, zero, suc, ◌+◌, ◌-◌, ◌*◌, ◌≤◌, ◌≡◌, refl, List, [], ◌∷◌, length, take, drop}
use Rattle.std.proofs.Common.{arith, ap, length-append, length-drop}
use Rattle.std.proofs.Math.Option.{Option, none, some}
use Rattle.lists.specs.Trusted.Lists.{Every, from, sum}
use Rattle.lists.specs.ListLaws.{every_head, every_tail, permuted_length}
use Rattle.lists.specs.NumberLaws.{from_length}
use Rattle.tree.specs.Measures.{leaves}
use Rattle.lists.specs.Trusted.Checked.{passed}
use Rattle.lists.specs.CheckedLaws.{Meets, on, meets_any, meets_of, meets_bind, meets_require, meets_given}
use Rattle.decimal.specs.Trusted.Number.{Number, columns, field_number}
use Rattle.sheet.specs.Trusted.Limits.{most_fields}
use Rattle.sheet.specs.declared.Source.{Source}
use Rattle.sheet.specs.declared.Source.TheVariants.{Net as net, Gate as gate}
use Rattle.sheet.specs.declared.Edge.{Edge as Fanin}
use Rattle.sheet.specs.Trusted.Line.{with, cells, fields}
use Rattle.sheet.specs.Trusted.Sheet.{DrawnGate, DrawnSheet, net_of, gate_of, fanin_nets, fanin_gates, leaf_nets, gates_read}
use Rattle.sheet.specs.Trusted.Read.{two, Seen, nothing, head_of, read_fanin, read_fanins, gate_head_of, read_gate, read_left, read_unread, read_sheet}
use Rattle.sheet.specs.Trusted.Formed.{FaninCount}
use Rattle.sheet.specs.ReadLaws.{read_formed}
use Rattle.sheet.specs.Trusted.Trees.{tree_of}
use Rattle.sheet.specs.TreeLaws.{leaves_are}
use Rattle.sheet.specs.CutLaws.{line_cut, empty_is}

-- ---- a line

-- there are at most n fields, and no bytes beside theirs
abbrev Filled : (n : ℕ) → List ℕ → List Number → Type 0
Filled n bytes xs = (length bytes ≤ columns * length xs) × (length xs ≤ n)

cells_filled : (n : ℕ) (bytes : List ℕ) (xs : List Number) → cells n bytes ≡ some xs → Filled n bytes xs
cells_filled zero [] xs e = (omega arith, let h : [] ≡ xs = cc in omega (arith, ap length h))
cells_filled zero (b ∷ bs) xs e = let z : ◌≡◌ {A = ℕ} 0 1 = cc in absurd (omega arith)
cells_filled (suc n) [] xs e = (omega arith, let h : [] ≡ xs = cc in omega (arith, ap length h))
cells_filled (suc n) (b ∷ bs) xs e = of (field_number (take columns (b ∷ bs))) (cells n (drop columns (b ∷ bs))) (λ ys h. cells_filled n (drop columns (b ∷ bs)) ys h) e
  where
    of : (x : Option Number) (o : Option (List Number)) → ((ys : List Number) → o ≡ some ys → Filled n (drop columns (b ∷ bs)) ys) → with x o ≡ some xs → Filled (suc n) (b ∷ bs) xs
    of none o f q = let z : ◌≡◌ {A = ℕ} 0 1 = cc in absurd (omega arith)
    of (some x) none f q = let z : ◌≡◌ {A = ℕ} 0 1 = cc in absurd (omega arith)
    of (some x) (some ys) f q =
        let h : x ∷ ys ≡ xs = cc in
        let l = f ys refl in
        (omega (arith, ap length h, length-drop columns (b ∷ bs)), omega (arith, ap length h))

pub fields_filled : (bytes : List ℕ) (xs : List Number) → fields bytes ≡ some xs → Filled most_fields bytes xs
fields_filled [] xs e = let z : ◌≡◌ {A = ℕ} 0 1 = cc in absurd (omega arith)
fields_filled (b ∷ bs) xs e = cells_filled most_fields (b ∷ bs) xs e

two_length : {A : Type 0} (xs : List A) (r : A × A × List A) → two xs ≡ some r → length xs ≡ 2 + length r.2
two_length [] r e = let z : ◌≡◌ {A = ℕ} 0 1 = cc in absurd (omega arith)
two_length (x ∷ []) r e = let z : ◌≡◌ {A = ℕ} 0 1 = cc in absurd (omega arith)
two_length {A} (x ∷ y ∷ zs) r e = let h : ◌≡◌ {A = A × A × List A} (x, y, zs) r = cc in omega (arith, ap (λ (q : A × A × List A). length q.2) h)

-- ---- the lines of a sheet

-- the most bytes of a gate's line, with the line feed
abbrev line_bytes : DrawnGate → ℕ
line_bytes x = columns * (2 + length x.fanins) + 1

head_bytes : (bytes : List ℕ) → Meets (λ h. length bytes ≤ 2 * columns) (head_of (fields bytes))
head_bytes bytes =
    meets_given _ _ _ _ (λ xs d. meets_given _ _ _ _ (λ x e.
    meets_require _ _ _ _ (λ t. meets_require _ _ _ _ (λ u. meets_require _ _ _ _ (λ v.
    on (omega (arith, fields_filled bytes xs d, two_length xs x e, ap length (empty_is x.2 t))))))))

fanins_number : (out g : ℕ) (seen : Seen) (xs : List Number) → Meets (λ r. length r.0 ≡ length xs) (read_fanins out g seen xs)
fanins_number out g seen [] = on refl
fanins_number out g seen (x ∷ xs) =
    meets_bind _ _ (meets_any (read_fanin out g seen x.magnitude)) (λ s u. meets_bind _ _ (fanins_number out g s.1 xs) (λ r e. on (ap suc e)))

gate_bytes : (out g : ℕ) (seen : Seen) (bytes : List ℕ) → Meets (λ r. length bytes + 1 ≤ line_bytes r.0) (read_gate out g seen bytes)
gate_bytes out g seen bytes =
    meets_bind _ _ head (λ x h. meets_bind _ _ (fanins_number out g seen x.1) (λ r e. on (omega arith)))
  where
    head : Meets (λ r. length bytes ≤ columns * (2 + length r.1)) (gate_head_of g (fields bytes))
    head =
        meets_given _ _ _ _ (λ xs d. meets_given _ _ _ _ (λ x e. meets_given _ _ _ _ (λ k f.
        meets_require _ _ _ _ (λ t. meets_require _ _ _ _ (λ u. on (omega (arith, fields_filled bytes xs d, two_length xs x e)))))))

left_bytes : (out n g : ℕ) (seen : Seen) (text : List ℕ) → Meets (λ r. length text ≤ sum line_bytes r.0 + length r.2) (read_left out n g seen text)
left_bytes out zero g seen text = on {a = ([], seen, text)} (omega arith)
left_bytes out (suc n) g seen text =
    meets_given _ _ _ _ (λ p e.
    meets_bind _ _ (gate_bytes out g seen p.0) (λ x h.
    meets_bind _ _ (left_bytes out n (suc g) x.1 p.1) (λ r f.
    on (omega (arith, simp length-append at (ap length (line_cut text p e).whole))))))

all_bytes : (text : List ℕ) → Meets (λ s. length text ≤ 2 * columns + 1 + sum line_bytes s.gates) (read_sheet text)
all_bytes text =
    meets_given _ _ _ _ (λ p e.
    meets_bind _ _ (head_bytes p.0) (λ h b.
    meets_bind _ _ (left_bytes h.out h.count 1 nothing p.1) (λ r f.
    meets_require _ _ _ _ (λ t.
    meets_bind _ _ (meets_any (read_unread (from 1 (h.count - 1)) r.1.gates)) (λ u v.
    on (omega (arith, simp length-append at (ap length (line_cut text p e).whole), ap length (empty_is r.2 t))))))))

-- ---- gates, fanins and leaves

-- each fanin reads a net or a gate
source_one : (s : Source) → length (net_of s) + length (gate_of s) ≡ 1
source_one (net n) = refl
source_one (gate g) = refl

pub fanins_split : (fs : List Fanin) → length (fanin_nets fs) + length (fanin_gates fs) ≡ length fs
fanins_split [] = refl
fanins_split (f ∷ fs) = simp length-append (omega (arith, source_one f.source, fanins_split fs))

lines_split : (gs : List DrawnGate) → sum line_bytes gs ≡ 13 * length gs + 6 * (length (leaf_nets gs) + length (gates_read gs))
lines_split [] = refl
lines_split (g ∷ gs) = simp length-append (omega (arith, fanins_split g.fanins, lines_split gs))

fanins_many : (gs : List DrawnGate) → Every FaninCount gs → 2 * length gs ≤ length (leaf_nets gs) + length (gates_read gs)
fanins_many [] h = omega arith
fanins_many (g ∷ gs) h = simp length-append (omega (arith, fanins_split g.fanins, every_head h, fanins_many gs (every_tail h)))

-- A SHEET THAT WAS READ IS SHORT: each gate but the root is read once, and each has two fanins, so that there are fewer gates than leaves
pub read_short : (text : List ℕ) (s : DrawnSheet) → read_sheet text ≡ passed s → length text ≤ 13 + 25 * (length (leaves (tree_of s)) - 1)
read_short text s e =
    let w = read_formed text s e in
    omega (
      arith,
      meets_of (all_bytes text) e,
      lines_split s.gates,
      fanins_many s.gates w.fanin_counts,
      permuted_length w.read_once,
      from_length 1 (length s.gates - 1),
      permuted_length (leaves_are s w),
      w.gate_count,
    )
