-- The code's run of a plan follows the run on lists.
use Rattle.std.specs.Prelude.{ℕ, zero, suc, ◌+◌, ◌-◌, ◌<◌, ◌≤◌, ◌≡◌, refl, Bool, true, false, List, [], ◌∷◌, ◌++◌, map, length, get_or, set, take, drop}
use Rattle.std.proofs.Common.{add-one, arith, sym, ap, ap₂, ◌∙◌, subst, length-set, length-take, drop-cons, get_or-take, get_or-set_same, get_or-set_other, take-suc-set, length-take-le}
use Rattle.std.proofs.lemmas.List.{length-map}
use Rattle.lists.specs.Cases.{by_eqb}
use Rattle.lists.specs.Sequences.{Sorted}
use Rattle.lists.specs.ListLaws.{every_none, drop_past, map_at}
use Rattle.lists.specs.NumberLaws.{sorted_sorted}
use Rattle.tree.specs.declared.Kind.{Kind}
use Rattle.tree.specs.Trusted.Limits.{code_base}
use Rattle.cover.specs.Trusted.Tables.{LookupTable}
use Rattle.pending.specs.declared.Lut.{Lut}
use Rattle.table.specs.Trusted.Limits.{input_room}
use Rattle.pending.specs.Luts.{lut_table, lut_of}
use Rattle.pending.specs.LutLaws.{lut_back}
use Rattle.table.specs.RuleLaws.{map_append}
use Rattle.pending.specs.declared.Pending.{Pending}
use Rattle.plan.specs.declared.Plan.{Plan}
use Rattle.plan.specs.Steps.{tokens}
use Rattle.plan.specs.declared.Token.{Token}
use Rattle.plan.specs.declared.Token.TheVariants.{Push, Join}
use Rattle.mapper_laws.specs.declared.PlanRun.{PlanRun}
use Rattle.mapper_laws.specs.declared.Operands.{Operands}
use Rattle.pending.specs.Operands.{Operand, single, merged}
use Rattle.mapper_laws.specs.Run.{operand, tables_after, join_top, run_token, run_plan, SafeJoin, SafeStep, SafeRun}
use Rattle.mapper_laws.specs.SafeLaws.{merged_length}
use Rattle.pending.specs.Pendings.{operand_of, MergeKept, Neat}
use Rattle.mapper_laws.specs.CodeRun.{pushed, placed_if, no_table, no_pending, operand_at, replaced, held_if, left_of, left_placed, right_of, joined, Joins, stack_of, placed_of, state_of, Holds, fanins_of, Good, Advances, Advanced, begun, Runnable, Ran, Following}

-- ---- the code's steps

pub placed_depth : (l : Bool) (s : PlanRun) (t : Lut) → (placed_if l s t).depth ≡ s.depth
placed_depth false s t = refl
placed_depth true s t = refl

pub placed_count : (l : Bool) (s : PlanRun) (t : Lut) → (placed_if l s t).placed ≤ s.placed + 1
placed_count false s t = omega arith
placed_count true s t = omega arith

-- a join by its parts
pub joined_by : (first : ℕ) (k : Kind) (l r : Bool) (s : PlanRun) {x y a b : Pending} {left both : PlanRun} {t : Lut} {s' : PlanRun} →
    x ≡ operand_at s (s.depth - 2) → y ≡ operand_at s (s.depth - 1) → a ≡ held_if l first s.placed x → left ≡ placed_if l s x.table →
    b ≡ held_if r first left.placed y → both ≡ placed_if r left y.table → t ≡ lut_of (merged k (operand_of a) (operand_of b)) →
    s' ≡ replaced both t → s' ≡ joined first k l r s
joined_by first k l r s ex ey ea el eb eo et es = cc

-- ---- records of tables

pub record_neat : (t : LookupTable) → length t.inputs ≤ input_room → Sorted t.inputs → Neat (lut_of t)
record_neat t l s = record {
  kept = record { fits = l; padded = ap lut_of (sym (lut_back t)) };
  sorted = subst Sorted (sym (ap (λ u. u.inputs) (lut_back t))) s;
}

pub kept_count : (r : Lut) → MergeKept r → r.count ≡ length (lut_table r).inputs
kept_count r k = ap (λ q. q.count) k.padded

-- ---- as a run on lists

stack_set : (d i : ℕ) (ps : List Pending) (x : Pending) → d ≤ i → stack_of d (set ps i x) ≡ stack_of d ps
stack_set zero i ps x l = refl
stack_set (suc d) i ps x l =
    ap₂ (λ p st. operand_of p ∷ st) (get_or-set_other ps i d x no_pending (λ e. absurd (omega arith))) (stack_set d i ps x (omega arith))

stack_put : (d : ℕ) (ps : List Pending) (x : Pending) → d < length ps → stack_of (suc d) (set ps d x) ≡ operand_of x ∷ stack_of d ps
stack_put d ps x l = ap₂ (λ p st. operand_of p ∷ st) (get_or-set_same ps d x no_pending l) (stack_set d d ps x (omega arith))

-- what holds of each of the first d, and of the one that is stored next, holds of each of the first suc d
pub stored_all : {A : Type 0} (P : A → Type 0) (z : A) (xs : List A) (d : ℕ) (x : A) → d < length xs → ((i : ℕ) → i < d → P (get_or xs i z)) → P x →
    (i : ℕ) → i < d + 1 → P (get_or (set xs d x) i z)
stored_all P z xs d x l h p i m =
    by_eqb (λ b. P (get_or (set xs d x) i z)) i d
    (λ e. subst (λ j. P (get_or (set xs d x) j z)) (sym e) (rw (get_or-set_same xs d x z l) p))
    (λ e. rw (get_or-set_other xs d i x z e) (h i (omega arith)))

pub placed_length : (s : PlanRun) → Holds s → length (placed_of s) ≡ s.placed
placed_length s h = length-map (take s.placed s.tables) lut_table ∙ length-take-le s.placed s.tables (omega (arith, h.placed, h.table_room_lem))

-- one operand more
pub pushed_state : (s : PlanRun) (x : Pending) → Holds s → s.depth < 10 → state_of (pushed s x) ≡ record { stack = operand_of x ∷ (state_of s).stack; placed = placed_of s }
pushed_state s x h l =
    ap (λ st. record { stack = st; placed = placed_of s })
    (ap (λ d. stack_of d (set s.stack s.depth x)) (add-one s.depth) ∙ stack_put s.depth s.stack x (omega (arith, h.stack_room)))

pub pushed_holds : (s : PlanRun) (x : Pending) → Holds s → s.depth < 10 → Neat x.table → Holds (pushed s x)
pushed_holds s x h l n = record {
  depth = omega arith;
  placed = h.placed;
  stack_room = length-set s.stack s.depth x ∙ h.stack_room;
  table_room_lem = h.table_room_lem;
  operands = stored_all (λ p. Neat p.table) no_pending s.stack s.depth x (omega (arith, h.stack_room)) h.operands n;
  kept = h.kept;
}

-- ---- placing

module _ (first : ℕ) where
  held_operand : (l : Bool) (ts : List LookupTable) (placed : ℕ) (x : Pending) → length ts ≡ placed →
      operand_of (held_if l first placed x) ≡ operand code_base first l ts (operand_of x)
  held_operand false ts placed x e = refl
  held_operand true ts placed x e = ap (λ c. record { inverted = x.inverted; table = single c }) (omega arith)

  held_neat : (l : Bool) (placed : ℕ) (x : Pending) → Neat x.table → Neat (held_if l first placed x).table
  held_neat false placed x n = n
  held_neat true placed x n = record_neat (single (code_base + (first + placed) + 1)) (omega arith) (every_none _, tt)

  placed_tables_lem : (l : Bool) (s : PlanRun) (x : Pending) → Holds s → s.placed < 18 → placed_of (placed_if l s x.table) ≡ tables_after code_base first l (placed_of s) (operand_of x)
  placed_tables_lem false s x h l = refl
  placed_tables_lem true s x h l =
      ap (map lut_table) (ap (λ n. take n (set s.tables s.placed x.table)) (add-one s.placed) ∙ take-suc-set s.tables s.placed x.table (omega (arith, h.table_room_lem)))
      ∙ map_append lut_table (take s.placed s.tables) (x.table ∷ [])

  placed_holds : (l : Bool) (s : PlanRun) (x : Pending) → Holds s → s.placed < 18 → MergeKept x.table → Holds (placed_if l s x.table)
  placed_holds false s x h m k = h
  placed_holds true s x h m k = record {
    depth = h.depth;
    placed = omega arith;
    stack_room = h.stack_room;
    table_room_lem = length-set s.tables s.placed x.table ∙ h.table_room_lem;
    operands = h.operands;
    kept = stored_all MergeKept no_table s.tables s.placed x.table (omega (arith, h.table_room_lem)) h.kept k;
  }

  -- ---- joining

  placed_stack : (l : Bool) (s : PlanRun) (t : Lut) → (placed_if l s t).stack ≡ s.stack
  placed_stack false s t = refl
  placed_stack true s t = refl

  merged_sorted : (k : Kind) (x y : Operand) → Sorted (merged k x y).inputs
  unfolding merged
  merged_sorted k x y = sorted_sorted (x.table.inputs ++ y.table.inputs)

  safe_depth : (k : Kind) (fanins : List Operand) (l r : Bool) (d : ℕ) (ps : List Pending) (ts : List LookupTable) → SafeJoin code_base first k fanins l r (stack_of d ps) ts → 2 ≤ d
  safe_depth k fanins l r zero ps ts h = absurd h
  safe_depth k fanins l r (suc zero) ps ts h = absurd h
  safe_depth k fanins l r (suc (suc d)) ps ts h = omega arith

  stack_two : (s : PlanRun) → 2 ≤ s.depth →
      stack_of s.depth s.stack ≡ operand_of (operand_at s (s.depth - 1)) ∷ (operand_of (operand_at s (s.depth - 2)) ∷ stack_of (s.depth - 2) s.stack)
  stack_two s l =
      ap (λ d. stack_of d s.stack) (let e : s.depth ≡ suc (suc (s.depth - 2)) = omega arith in e)
      ∙ ap (λ d. operand_of (operand_at s d) ∷ (operand_of (operand_at s (s.depth - 2)) ∷ stack_of (s.depth - 2) s.stack)) (let e : suc (s.depth - 2) ≡ s.depth - 1 = omega arith in e)

  module _ (k : Kind) (fanins : List Operand) (l r : Bool) (s : PlanRun) (h : Holds s) (few : first < 2000)
      (safe : SafeJoin code_base first k fanins l r (state_of s).stack (placed_of s)) where
    two : 2 ≤ s.depth
    two = safe_depth k fanins l r s.depth s.stack (placed_of s) safe

    abbrev x : Pending
    x = operand_at s (s.depth - 2)

    abbrev y : Pending
    y = operand_at s (s.depth - 1)

    abbrev left : PlanRun
    left = left_placed first l s

    abbrev joint : LookupTable
    joint = merged k (operand_of (left_of first l s)) (operand_of (right_of first l r s))

    x_neat : Neat x.table
    x_neat = h.operands (s.depth - 2) (omega (arith, two))

    y_neat : Neat y.table
    y_neat = h.operands (s.depth - 1) (omega (arith, two))

    room : (length (operand code_base first l (placed_of s) (operand_of x)).table.inputs + length (operand code_base first r (tables_after code_base first l (placed_of s) (operand_of x)) (operand_of y)).table.inputs ≤ 6) × (length (placed_of s) + 2 ≤ 18)
    room = subst (λ st. SafeJoin code_base first k fanins l r st (placed_of s)) (stack_two s two) safe

    count : s.placed + 2 ≤ 18
    count = omega (arith, room.1, placed_length s h)

    left_holds : Holds left
    left_holds = placed_holds l s x h (omega (arith, count)) x_neat.kept

    left_tables : placed_of left ≡ tables_after code_base first l (placed_of s) (operand_of x)
    left_tables = placed_tables_lem l s x h (omega (arith, count))

    left_operand : operand_of (left_of first l s) ≡ operand code_base first l (placed_of s) (operand_of x)
    left_operand = held_operand l (placed_of s) s.placed x (placed_length s h)

    right_operand : operand_of (right_of first l r s) ≡ operand code_base first r (tables_after code_base first l (placed_of s) (operand_of x)) (operand_of y)
    right_operand =
        held_operand r (placed_of left) left.placed y (placed_length left left_holds)
        ∙ ap (λ ts. operand code_base first r ts (operand_of y)) left_tables

    left_neat : Neat (left_of first l s).table
    left_neat = held_neat l s.placed x x_neat

    right_neat : Neat (right_of first l r s).table
    right_neat = held_neat r left.placed y y_neat

    fits : (left_of first l s).table.count + (right_of first l r s).table.count ≤ input_room
    fits =
        omega (
          arith,
          room.0,
          kept_count (left_of first l s).table left_neat.kept,
          kept_count (right_of first l r s).table right_neat.kept,
          ap (λ o. length o.table.inputs) left_operand,
          ap (λ o. length o.table.inputs) right_operand,
        )

    joins : Joins first l r s
    joins = record {
      before = few;
      depth = (two, h.depth);
      placed = count;
      fits = record { fits = fits; kept = right_neat.kept; sorted = right_neat.sorted };
    }

    right_room : left.placed < 18
    right_room = omega (arith, count, placed_count l s x.table)

    abbrev both : PlanRun
    both = placed_if r left y.table

    both_holds : Holds both
    both_holds = placed_holds r left y left_holds right_room y_neat.kept

    both_tables : placed_of both ≡ tables_after code_base first r (tables_after code_base first l (placed_of s) (operand_of x)) (operand_of y)
    both_tables = placed_tables_lem r left y left_holds right_room ∙ ap (λ ts. tables_after code_base first r ts (operand_of y)) left_tables

    both_stack : both.stack ≡ s.stack
    both_stack = placed_stack r left y.table ∙ placed_stack l s x.table

    both_depth : both.depth ≡ s.depth
    both_depth = placed_depth r left y.table ∙ placed_depth l s x.table

    joint_is : joint ≡ merged k (operand code_base first l (placed_of s) (operand_of x)) (operand code_base first r (tables_after code_base first l (placed_of s) (operand_of x)) (operand_of y))
    joint_is = ap₂ (merged k) left_operand right_operand

    joint_neat : Neat (lut_of joint)
    joint_neat = record_neat joint
        (omega (
          arith,
          merged_length k (operand_of (left_of first l s)) (operand_of (right_of first l r s)),
          fits,
          kept_count (left_of first l s).table left_neat.kept,
          kept_count (right_of first l r s).table right_neat.kept,
        ))
        (merged_sorted k (operand_of (left_of first l s)) (operand_of (right_of first l r s)))

    top_stack : stack_of (both.depth - 1) (set both.stack (both.depth - 2) (record { inverted = false; table = lut_of joint })) ≡
        record { inverted = false; table = joint } ∷ stack_of (s.depth - 2) s.stack
    top_stack =
        ap₂ (λ d ps. stack_of (d - 1) (set ps (d - 2) (record { inverted = false; table = lut_of joint }))) both_depth both_stack
        ∙ ap (λ d. stack_of d (set s.stack (s.depth - 2) (record { inverted = false; table = lut_of joint }))) (let e : s.depth - 1 ≡ suc (s.depth - 2) = omega (arith, two) in e)
        ∙ stack_put (s.depth - 2) s.stack (record { inverted = false; table = lut_of joint }) (omega (arith, two, h.depth, h.stack_room))
        ∙ ap (λ t. record { inverted = false; table = t } ∷ stack_of (s.depth - 2) s.stack) (lut_back joint)

    pub joined_state : state_of (joined first k l r s) ≡ join_top code_base first k l r (state_of s).stack (placed_of s)
    joined_state =
        ap₂ (λ st ts. record { stack = st; placed = ts })
        (top_stack ∙ ap (λ t. record { inverted = false; table = t } ∷ stack_of (s.depth - 2) s.stack) joint_is) both_tables
        ∙ ap (λ st. join_top code_base first k l r st (placed_of s)) (sym (stack_two s two))

    pub joined_holds : Holds (joined first k l r s)
    joined_holds = record {
      depth = omega (arith, both_depth, h.depth);
      placed = both_holds.placed;
      stack_room = length-set both.stack (both.depth - 2) (record { inverted = false; table = lut_of joint }) ∙ both_holds.stack_room;
      table_room_lem = both_holds.table_room_lem;
      operands = λ i m. stored_all (λ p. Neat p.table) no_pending both.stack (both.depth - 2) (record { inverted = false; table = lut_of joint })
          (omega (arith, two, both_depth, h.depth, both_holds.stack_room)) (λ j n. both_holds.operands j (omega arith)) joint_neat i (omega (arith, two, both_depth));
      kept = both_holds.kept;
    }

-- ---- a step of a plan

pub fanin_count_lem : (o : Operands) → Good o → length (fanins_of o) ≡ o.count
fanin_count_lem o g = length-map (take o.count o.fanins) operand_of ∙ length-take-le o.count o.fanins (omega (arith, g.count, g.room))

pub stack_length : (d : ℕ) (ps : List Pending) → length (stack_of d ps) ≡ d
stack_length zero ps = refl
stack_length (suc d) ps = ap suc (stack_length d ps)

module _ (first : ℕ) (k : Kind) (o : Operands) (s : PlanRun) where
  push_fits : (i : ℕ) → Advances first k o (Push i) s → (i < 10) × (s.depth < 10)
  push_fits i a = (
    omega (arith, a.safe.0, fanin_count_lem o a.good, a.good.count),
    omega (arith, a.safe.1, stack_length s.depth s.stack),
  )

  push_moves : (i : ℕ) → Advances first k o (Push i) s → Advanced first k o (Push i) s (pushed s (get_or o.fanins i no_pending))
  push_moves i a =
      let l : i < o.count = omega (arith, a.safe.0, fanin_count_lem o a.good) in
      let d = (push_fits i a).1 in
      record {
        holds = pushed_holds s (get_or o.fanins i no_pending) a.holds d (a.good.neat i l);
        state =
            pushed_state s (get_or o.fanins i no_pending) a.holds d
            ∙ ap (λ x. record { stack = x ∷ (state_of s).stack; placed = placed_of s })
            (sym (map_at operand_of (take o.count o.fanins) i no_pending (record { inverted = false; table = single 0 })
            (omega (arith, l, length-take-le o.count o.fanins (omega (arith, a.good.count, a.good.room))))
            ∙ ap operand_of (get_or-take o.count o.fanins i no_pending l)));
      }

  join_moves : (l r : Bool) → Advances first k o (Join l r) s → Joins first l r s × Advanced first k o (Join l r) s (joined first k l r s)
  join_moves l r a = (
    joins first k (fanins_of o) l r s a.holds a.before a.safe,
    record {
      holds = joined_holds first k (fanins_of o) l r s a.holds a.before a.safe;
      state = joined_state first k (fanins_of o) l r s a.holds a.before a.safe;
    },
  )

  -- of a token that is known to be such
  module _ {token : Token} where
    pub push_room : {i : ℕ} → token ≡ Push i → Advances first k o token s → (i < 10) × (s.depth < 10)
    push_room {i} e a = push_fits i (rw e at a)

    pub push_advanced : {i : ℕ} {s' : PlanRun} → token ≡ Push i → Advances first k o token s → s' ≡ pushed s (get_or o.fanins i no_pending) → Advanced first k o token s s'
    push_advanced {i} e a f = rw (e, f) (push_moves i (rw e at a))

    pub join_fits : {l r : Bool} → token ≡ Join l r → Advances first k o token s → Joins first l r s
    join_fits {l} {r} e a = (join_moves l r (rw e at a)).0

    pub join_advanced : {l r : Bool} {s' : PlanRun} → token ≡ Join l r → Advances first k o token s → s' ≡ joined first k l r s → Advanced first k o token s s'
    join_advanced {l} {r} e a f = rw (e, f) (join_moves l r (rw e at a)).1

-- ---- a plan

module _ (first : ℕ) (k : Kind) (o : Operands) (p : Plan) where
  pub following_start : {s : PlanRun} → Runnable first k o p → Holds s → s.depth ≡ 0 → s.placed ≡ 0 → Following first k o p 0 s
  following_start {s} r h d e = record {
    at = omega arith;
    holds = h;
    safe = rw new r.safe;
    ends = ap (run_plan code_base first k (fanins_of o) (tokens p)) new;
  }
    where
      new : state_of s ≡ begun
      new = ap₂ (λ n m. record { stack = stack_of n s.stack; placed = map lut_table (take m s.tables) }) d e

  module _ {i : ℕ} {s : PlanRun} (r : Runnable first k o p) (f : Following first k o p i s) (l : i < length (take p.len p.steps)) where
    abbrev next : Token
    next = get_or (tokens p) i (Push 0)

    rest : drop i (tokens p) ≡ next ∷ drop (i + 1) (tokens p)
    rest = drop-cons (tokens p) i (Push 0) l ∙ ap (λ n. next ∷ drop n (tokens p)) (sym (add-one i))

    safe_next : SafeStep code_base first k (fanins_of o) next (state_of s) × SafeRun code_base first k (fanins_of o) (drop (i + 1) (tokens p)) (run_token code_base first k (fanins_of o) next (state_of s))
    safe_next = subst (λ ts. SafeRun code_base first k (fanins_of o) ts (state_of s)) rest f.safe

    pub following_advances : Advances first k o next s
    following_advances = record { before = r.before; good = r.good; holds = f.holds; safe = safe_next.0 }

    pub following_next : {s' : PlanRun} → Advanced first k o next s s' → Following first k o p (i + 1) s'
    following_next a = record {
      at = omega (arith, l, length-take p.len p.steps);
      holds = a.holds;
      safe = rw a.state safe_next.1;
      ends = ap (run_plan code_base first k (fanins_of o) (drop (i + 1) (tokens p))) a.state ∙ ap (λ ts. run_plan code_base first k (fanins_of o) ts (state_of s)) (sym rest) ∙ f.ends;
    }

  pub following_end : {i : ℕ} {s : PlanRun} → length (take p.len p.steps) ≤ i → Following first k o p i s → Ran first k o p s
  following_end {i} {s} l f = record {
    holds = f.holds;
    state =
        ap (λ ts. run_plan code_base first k (fanins_of o) ts (state_of s))
        (sym (drop_past i (tokens p) l)) ∙ f.ends;
  }
