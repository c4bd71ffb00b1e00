use Prim.Native.Nat.{ℕ, ◌*◌, ◌<◌}
use native.Mathlib.Omega.{arith}
use mathlib.Core.Path.{sym, ◌∙◌}
use Rattle.level_plans.specs.Backing.{array_room}
use Rattle.level_plans.proofs.Drafting.{small_mask, fanin_able, fanin_bound, one_drafts}
use Rattle.level_plans.proofs.Parting.{MaskHalves, mask_halves, halvable, not_first_slot, fewer_fanins, rest_seekable, part_seekable, rest_backed, part_backed}
use Rattle.level_plans.proofs.Joining.{joined_room, joined_drafted}
use Rattle.level_plans.proofs.+with_mask.Goals as goal
use Rattle.level_plans.proofs.+with_mask.Goals.{After-halves_of-h}

-- the parts by which the mask's entry is a sum, and that the array is not the first
halved : {t : ℕ} (c : After-halves_of-h t) →
    let a = c.args in
    let h = c.halves_of-h.result in
    MaskHalves a.arrays.now (a.slot * array_room) a.s a.w h.sub h.inputs
halved c = mask_halves c.top_bit-top.ensures c.halves_of-h.ensures

later : {t : ℕ} (c : After-halves_of-h t) → 0 < c.args.slot
later c = not_first_slot c.requires.2 c.top_bit-top.ensures c.if-top-s.false

pub top_bit-top-requires : goal.top_bit-top-requires
top_bit-top-requires t c = small_mask c.requires.2

pub overflow_sub-from : goal.overflow_sub-from
overflow_sub-from t c = omega (arith, fanin_bound c.requires.2)

pub with_fanin-requires : goal.with_fanin-requires
with_fanin-requires t c =
    let b = c.top_bit-top.ensures in
    fanin_able c.requires.2 b.bit (sym b.is ∙ c.if-top-s.true)

pub returns-then-top-s : goal.returns-then-top-s
returns-then-top-s t c n top q = one_drafts q c.with_fanin.ensures

pub halves_of-h-requires : goal.halves_of-h-requires
halves_of-h-requires t c = halvable c.requires.2 c.top_bit-top.ensures c.if-top-s.false

pub seek_back-a-requires : goal.seek_back-a-requires
seek_back-a-requires t c =
    let h = (goal.at.seek_back-a-requires t c).After-halves_of-h in
    rest_seekable c.requires.2 (halved h) (later h)

pub seek_back-b-requires : goal.seek_back-b-requires
seek_back-b-requires t c =
    let h = (goal.at.seek_back-b-requires t c).After-halves_of-h in
    part_seekable c.requires.2 (halved h) (later h)

pub with_mask-first-requires : goal.with_mask-first-requires
with_mask-first-requires t c =
    let q = c.requires.2 in
    let m = halved (goal.at.with_mask-first-requires t c).After-halves_of-h in
    (omega (arith, fewer_fanins q m, c.decreases), (_, _, rest_backed q m c.seek_back-a.ensures))

pub with_mask-second-requires : goal.with_mask-second-requires
with_mask-second-requires t c =
    let q = c.requires.2 in
    let m = halved (goal.at.with_mask-second-requires t c).After-halves_of-h in
    let f = c.with_mask-first.ensures _ _ (rest_backed q m c.seek_back-a.ensures) in
    (omega (arith, fewer_fanins q m, c.decreases), (_, _, part_backed q m f c.seek_back-b.ensures))

pub with_join-requires : goal.with_join-requires
with_join-requires t c =
    let q = c.requires.2 in
    let m = halved (goal.at.with_join-requires t c).After-halves_of-h in
    let x = c.seek_back-a.ensures in
    let y = c.seek_back-b.ensures in
    let f = c.with_mask-first.ensures _ _ (rest_backed q m x) in
    joined_room q m x y f (c.with_mask-second.ensures _ _ (part_backed q m f y))

pub returns : goal.returns
returns t c n top q =
    let m = halved (goal.at.returns t c).After-halves_of-h in
    let x = c.seek_back-a.ensures in
    let y = c.seek_back-b.ensures in
    let f = c.with_mask-first.ensures n top (rest_backed q m x) in
    rw c.with_join.ensures (joined_drafted q m x y f (c.with_mask-second.ensures n top (part_backed q m f y)))
