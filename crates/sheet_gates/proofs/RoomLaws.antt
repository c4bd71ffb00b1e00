-- There is room for the fanins of all gates, since each raises a flag of its own.
use Prim.Native.Nat.{ℕ, zero, suc, ◌+◌, ◌-◌, ◌*◌, ◌≤◌, ◌<◌}
use native.Mathlib.Omega.{arith}
use mathlib.Core.Path.{◌≡◌, refl, ap, ◌∙◌, subst}
use mathlib.Core.Bool.{Bool, true, false}
use mathlib.Core.Option.{some}
use mathlib.Core.List.{List, [], ◌∷◌}
use lib.ListN.{length, get_or, drop, set, replicate, length-drop}
use lib.Seq.{drop-nil, drop-set-lt, drop-set-add, get_or-drop}
use Rattle.lists.specs.ListLaws.{every_head}
use Rattle.tree.specs.Trusted.Limits.{code_base}
use Rattle.sheet.specs.declared.Source.{Source}
use Rattle.sheet.specs.declared.Source.TheVariants.{Net as net, Gate as gate}
use Rattle.sheet.specs.Trusted.Limits.{most_gates, most_leaves, fanin_room}
use Rattle.sheet.specs.Trusted.Sheet.{net_of}
use Rattle.sheet.specs.Trusted.Read.{source_of}
use Rattle.sheet.specs.ReadLaws.{source_named}
use Rattle.flags.specs.Flags.{flag_at, flags_of, raised}
use Rattle.flags.specs.FlagLaws.{flags_length, flags_at, flags_none, raised_flags}
use Rattle.sheet_fanin.specs.Fanins.{flag_words}

-- ---- flags

-- how many are up
abbrev up : List Bool → ℕ
up [] = 0
up (true ∷ bs) = suc (up bs)
up (false ∷ bs) = up bs

up_most : (bs : List Bool) → up bs ≤ length bs
up_most [] = omega arith
up_most (true ∷ bs) = omega (arith, up_most bs)
up_most (false ∷ bs) = omega (arith, up_most bs)

up_more : (bs : List Bool) (i : ℕ) → i < length bs → get_or bs i false ≡ false → up (set bs i true) ≡ suc (up bs)
up_more [] i l e = absurd (omega arith)
up_more (true ∷ bs) zero l e = let z : ◌≡◌ {A = ℕ} 0 1 = cc in absurd (omega arith)
up_more (false ∷ bs) zero l e = refl
up_more (true ∷ bs) (suc i) l e = ap suc (up_more bs i (omega arith) e)
up_more (false ∷ bs) (suc i) l e = up_more bs i (omega arith) e

up_none : (k n : ℕ) → up (drop k (replicate n false)) ≡ 0
up_none k zero = ap up (drop-nil k)
up_none zero (suc n) = up_none zero n
up_none (suc k) (suc n) = up_none k n

-- of the flags below `size` those from `base` on: at the start, and with one more raised, below the base or from it on
module _ (base size : ℕ) where
  abbrev up_from : List ℕ → ℕ
  up_from words = up (drop base (flags_of size words))

  up_start : (k : ℕ) → up_from (replicate k 0) ≡ 0
  up_start k = ap (λ flags. up (drop base flags)) (flags_none size k) ∙ up_none base size

  up_from_most : (words : List ℕ) → up_from words ≤ size - base
  up_from_most words = omega (arith, up_most (drop base (flags_of size words)), length-drop base (flags_of size words), flags_length size words)

  module _ (words : List ℕ) (fit : size ≤ 64 * length words) where
    up_below : (n : ℕ) → n < base → up_from (raised words n) ≡ up_from words
    up_below n l = ap (λ flags. up (drop base flags)) (raised_flags size words n fit) ∙ ap up (drop-set-lt base (flags_of size words) n true l)

    up_above : (j : ℕ) → base + j < size → flag_at words (base + j) ≡ false → up_from (raised words (base + j)) ≡ suc (up_from words)
    up_above j l f =
        ap (λ flags. up (drop base flags)) (raised_flags size words (base + j) fit)
        ∙ (ap up (drop-set-add base (flags_of size words) j true)
        ∙ up_more (drop base (flags_of size words)) j (omega (arith, length-drop base (flags_of size words), flags_length size words))
        (get_or-drop base (flags_of size words) j false ∙ (flags_at size words (base + j) l ∙ f)))

-- how many numbers a fanin may be written as, with those below
abbrev code_count : ℕ
code_count = code_base + most_gates + 1

-- how many fanins were read: so many leaves, and as many gates as have their flag up
unfoldable pub read_count : List ℕ → ℕ → ℕ
read_count words leaves = leaves + up_from code_base code_count words

pub count_none : read_count (replicate flag_words 0) 0 ≡ 0
unfolding read_count
count_none = omega (arith, up_start code_base code_count flag_words)

pub read_most : (words : List ℕ) (leaves : ℕ) → leaves ≤ most_leaves → read_count words leaves ≤ fanin_room
unfolding read_count
read_most words leaves l = omega (arith, up_from_most code_base code_count words)

-- one fanin more, which was not read before
pub read_more : (words : List ℕ) → length words ≡ flag_words → (g n leaves : ℕ) → g ≤ most_gates → (s : Source) → source_of g n ≡ some s → flag_at words n ≡ false →
    read_count (raised words n) (leaves + length (net_of s)) ≡ suc (read_count words leaves)
unfolding read_count
read_more words whole g n leaves few (net m) e f =
    let d = source_named g n (net m) e in
    let k = every_head d.is_net_lem in
    omega (arith, up_below code_base code_count words (omega (arith, whole)) n (omega (arith, d.code)))
read_more words whole g n leaves few (gate j) e f =
    let d = source_named g n (gate j) e in
    let k = every_head d.is_before in
    let q = up_above code_base code_count words (omega (arith, whole)) j (omega arith) (ap (flag_at words) d.code ∙ f) in
    subst (λ i. read_count (raised words i) (leaves + 0) ≡ suc (read_count words leaves)) d.code (omega (arith, q))
