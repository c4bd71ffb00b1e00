-- A record keeps 01's points where it does so as it is held, and is then held as it is: 65535 is no net, and names no table.
use Rattle.std.specs.Prelude.{ℕ, ◌+◌, ◌≤◌, ◌≡◌, refl, true, List, [], ◌∷◌, map, length, take, drop}
use Rattle.std.proofs.Common.{arith, sym, ap₂, subst, ⊎_elim, take-append-drop}
use Rattle.lists.specs.Trusted.Lists.{Every}
use Rattle.lists.specs.ListLaws.{every_none, every_cons, every_head, every_tail, every_append}
use Rattle.lists.specs.TestLaws.{reflects_same}
use Rattle.tree.specs.Trusted.Limits.{code_base}
use Rattle.table.specs.Trusted.Limits.{table_room}
use Rattle.table.specs.Trusted.RecordTest.{keeps_points}
use Rattle.table.specs.ResultLaws.{says_true}
use Rattle.table.specs.RuleLaws.{Points}
use Rattle.table.specs.TestedLaws.{points_reflect}
use Rattle.table.specs.declared.Table.{Table}
use Rattle.list_layout.specs.Taken.{narrow, narrowed}

-- nets and the names of tables are at most this
abbrev Small : ℕ → Type 0
Small x = x ≤ code_base + table_room

narrow_one : (x : ℕ) → Small (narrow x) → narrow x ≡ x
narrow_one x h = omega arith

narrow_all : (xs : List ℕ) → Every Small (map narrow xs) → map narrow xs ≡ xs
narrow_all [] h = refl
narrow_all (x ∷ xs) h = ap₂ ◌∷◌ (narrow_one x (every_head h)) (narrow_all xs (every_tail h))

small_held : (xs : List ℕ) → Every Small xs → Every Small (map narrow xs)
small_held [] h = every_none _
small_held (x ∷ xs) h = every_cons (let l = every_head h in omega (arith, l)) (small_held xs (every_tail h))

module _ (k : ℕ) (before : List Table) (room : length before ≤ table_room) where
  -- the numbers of a record that keeps them
  kept_small : (r : Table) → Points k before r → Small r.net × Every Small r.inputs
  kept_small r h = (
    omega (arith, h.coded.0),
    subst (Every Small) (take-append-drop r.count r.inputs)
        (every_append (take r.count r.inputs) (drop r.count r.inputs)
        (λ x m. ⊎_elim (λ l. omega (arith, l)) (λ l. omega (arith, l.0)) (h.sourced x m))
        (λ x m. omega (arith, h.padded x m))),
  )

  module _ (r : Table) where
    same_record : Small (narrow r.net) → Every Small (map narrow r.inputs) → narrowed r ≡ r
    same_record h g =
        ap₂ (λ n xs. record { net = n; count = r.count; inputs = xs; truth = r.truth; level = r.level }) (narrow_one r.net h) (narrow_all r.inputs g)

    held_kept : Points k before (narrowed r) → narrowed r ≡ r
    held_kept h = let s = kept_small (narrowed r) h in same_record s.0 s.1

    kept_held : Points k before r → narrowed r ≡ r
    kept_held h = let s = kept_small r h in same_record (let l = s.0 in omega (arith, l)) (small_held r.inputs s.1)

    pub points_held : keeps_points k before (narrowed r) ≡ keeps_points k before r
    points_held =
        reflects_same (points_reflect k before (narrowed r)) (points_reflect k before r)
        (λ h. subst (Points k before) (held_kept h) h)
        (λ h. subst (Points k before) (sym (kept_held h)) h)

    pub kept_same : keeps_points k before r ≡ true → narrowed r ≡ r
    kept_same e = kept_held (says_true (points_reflect k before r) e)
