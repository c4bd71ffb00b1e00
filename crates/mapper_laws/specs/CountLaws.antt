-- How many tables a mapping stages, and how many stand below a gate: fewer than leaves, since each gate is read at most once.
use Rattle.std.specs.Prelude.{ℕ, suc, ◌+◌, ◌≤◌, ◌≡◌, refl, List, [], ◌∷◌, ◌++◌, length, get_or}
use Rattle.std.proofs.Common.{arith, sym, ap, ap₂, ◌∙◌, subst, append_assoc, length-append, get_or-append-add}
use Rattle.lists.specs.Trusted.Lists.{◌∈◌, Every, Distinct, gather, from, sum}
use Rattle.lists.specs.Sequences.{Paired, no_pair, pair}
use Rattle.lists.specs.ListLaws.{every_none, every_cons, every_head, every_tail, not_first, inserted_to, inserted_from, permuted_length}
use Rattle.lists.specs.NumberLaws.{sum_inserted, sum_le, sorted_permuted}
use Rattle.cover.specs.Nets.{tables_most*}
use Rattle.cover.proofs.Size.{records_length*, codes_length*}
use Rattle.cover.specs.Trusted.Placed.{codes*}
use Rattle.plan.specs.Volume.{fewest_leaves}
use Rattle.cover.specs.Trusted.Tables.{LookupTable, numbered}
use Rattle.cover.specs.Eval.{numbered_length}
use Rattle.tree.specs.Trusted.Tree.{Node, Edges}
use Rattle.cover.specs.Trusted.Cover.{Fanins}
use Rattle.plan.specs.declared.Key.{Key}
use Rattle.plan.specs.Plans.{Body}
use Rattle.sheet.specs.Trusted.Sheet.{DrawnGate, gates_read}
use Rattle.sheet.specs.NumberLaws.{drawn_out, in_from}
use Rattle.mapper_laws.specs.Mapping.{GatesMapped, unmapped, mapped_at, leaf_count, Stood, held_table, inner_of, Progress}

gather_length : {A B : Type 0} (f : A → List B) (xs : List A) → length (gather f xs) ≡ sum (λ x. length (f x)) xs
gather_length f [] = refl
gather_length f (x ∷ xs) = omega (arith, length-append (f x) (gather f xs), gather_length f xs)

-- of numbers of the list `ys`, each at most once: what f has more than g on them, it has more on `ys`
sub_sums : (f g : ℕ → ℕ) (xs ys : List ℕ) → Distinct xs → Every (λ x. x ∈ ys) xs → Every (λ y. g y ≤ f y) ys → sum f xs + sum g ys ≤ sum f ys + sum g xs
sub_sums f g [] ys d m h = omega (arith, sum_le g f ys h)
sub_sums f g (x ∷ xs) ys d m h =
    let (zs, i) = drawn_out (every_head m) in
    let r = sub_sums f g xs zs d.1 (λ y n. not_first (λ q. d.0 y n (sym q)) (inserted_to {P = λ z. z ∈ x ∷ zs} i (λ a k. k) y (every_tail m y n))) (every_tail (inserted_from i h)) in
    omega (arith, sum_inserted f i, sum_inserted g i)

sum_in_order : (f : GatesMapped → ℕ) (us ds all : List GatesMapped) → us ++ ds ≡ all → sum f ds ≡ sum (λ j. f (mapped_at all j)) (from (suc (length us)) (length ds))
sum_in_order f us [] all e = refl
sum_in_order f us (d ∷ ds) all e =
    ap₂ ◌+◌ (ap f (sym (get_or-append-add us (d ∷ ds) 0 unmapped) ∙ ap₂ (λ l i. get_or l i unmapped) e (omega arith)))
    (sum_in_order f (us ++ (d ∷ [])) ds all (append_assoc us (d ∷ []) ds ∙ e)
    ∙ ap (λ m. sum (λ j. f (mapped_at all j)) (from (suc m) (length ds))) (omega (arith, length-append us (d ∷ []))))

module _ (done : List GatesMapped) (js : List ℕ) (once : Distinct js) (there : Every (λ j. (1 ≤ j) × (j ≤ length done)) js) where
  -- of gates that were mapped, each at most once
  pub mapped_sums : (f g : GatesMapped → ℕ) → Every (λ d. g d ≤ f d) done →
      sum (λ j. f (mapped_at done j)) js + sum g done ≤ sum f done + sum (λ j. g (mapped_at done j)) js
  mapped_sums f g h =
      let s = sub_sums (λ j. f (mapped_at done j)) (λ j. g (mapped_at done j)) js (from 1 (length done)) once
      (λ j m. let b = there j m in in_from 1 (length done) j b.0 (omega arith)) in_range in
      omega (arith, sum_in_order f [] done done refl, sum_in_order g [] done done refl)
    where
      every_in : (us ds all : List GatesMapped) → us ++ ds ≡ all → Every (λ d. g d ≤ f d) ds → Every (λ j. g (mapped_at all j) ≤ f (mapped_at all j)) (from (suc (length us)) (length ds))
      every_in us [] all e k = every_none _
      every_in us (d ∷ ds) all e k =
          let at : mapped_at all (suc (length us)) ≡ d = ap₂ (λ l i. get_or l i unmapped) (sym e) (omega arith) ∙ get_or-append-add us (d ∷ ds) 0 unmapped in
          every_cons (subst (λ x. g x ≤ f x) (sym at) (every_head k))
          (subst (λ m. Every (λ j. g (mapped_at all j) ≤ f (mapped_at all j)) (from (suc m) (length ds))) (omega (arith, length-append us (d ∷ [])))
          (every_in (us ++ (d ∷ [])) ds all (append_assoc us (d ∷ []) ds ∙ e) (every_tail k)))

      in_range : Every (λ j. g (mapped_at done j) ≤ f (mapped_at done j)) (from 1 (length done))
      in_range = every_in [] done done refl h

-- a gate has two inputs or more
pub body_wide : {K : ℕ} {es : Edges} {a : Key} {body : Fanins} → Body K es a body → 2 ≤ a.width
body_wide {K} {body = body} b = omega (arith, tables_most* K body b.fits, b.many, b.inputs)

-- under a mapped gate stand as many leaves as its key asks for
pub stood_leaves : {K : ℕ} {t : Node} {d : GatesMapped} → Stood K t d → fewest_leaves d.key ≤ leaf_count d
stood_leaves {K} {d = d} s = omega (arith, (tables_most* K d.body s.is.fits).0, s.is.count, s.is.inputs)

module _ (base : ℕ) where
  -- the table that holds a gate has as many inputs as its key says
  pub held_width : {K : ℕ} {es : Edges} (d : GatesMapped) → Body K es d.key d.body → length (held_table base d).inputs ≡ d.key.width
  held_width d b = sym (permuted_length (sorted_permuted (codes* base d.body))) ∙ codes_length* base d.body ∙ b.inputs

  abbrev pub inner_count : GatesMapped → ℕ
  inner_count d = length (inner_of base d)

  -- a gate has two tables fewer below it than leaves
  pub stood_count : {K : ℕ} {t : Node} {d : GatesMapped} → Stood K t d → inner_count d + 2 ≤ leaf_count d
  stood_count {K} {d = d} s = omega (arith, records_length* base d.body d.kind, tables_most* K d.body s.is.fits, s.is.many)

  pub stood_counts : {K : ℕ} {ts : List Node} {ds : List GatesMapped} → Paired (Stood K) ts ds → Every (λ d. inner_count d ≤ leaf_count d) ds
  stood_counts no_pair = every_none _
  stood_counts (pair s p) = every_cons (omega (arith, stood_count s)) (stood_counts p)

  -- the staged tables are those within all gates, but within the gates read
  pub staged_count : {n K : ℕ} {gs : List DrawnGate} {done : List GatesMapped} {staged : List LookupTable} → Progress base n K gs done staged →
      length staged + sum (λ j. inner_count (mapped_at done j)) (gates_read gs) ≡ sum inner_count done
  staged_count {n} {gs = gs} {done = done} {staged = staged} p =
      omega (
        arith,
        permuted_length p.taken,
        length-append (numbered n staged) (gather (λ j. inner_of base (mapped_at done j)) (gates_read gs)),
        numbered_length n staged,
        gather_length (λ j. inner_of base (mapped_at done j)) (gates_read gs),
        gather_length (inner_of base) done,
      )
