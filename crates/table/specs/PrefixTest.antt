-- The rules of a record by what is kept of the records before it, in place of their list.
-- Internal definitions: PrefixLaws has the proof that the two say the same.
use Rattle.std.specs.Prelude.{ℕ, suc, ◌+◌, ◌-◌, ◌/◌, ◌≤◌, ◌<◌, ◌≡◌, Bool, cond, not, ◌&&◌, ◌||◌, List, [], ◌∷◌, leb, ltb, eqb, length, get_or, replicate}
use Rattle.lists.specs.Trusted.Tests.{all, elem}
use Rattle.flags.specs.Flags.{flag_at, raised}
use Rattle.tree.specs.Trusted.Limits.{greatest_net, code_base}
use Rattle.table.specs.Trusted.Limits.{table_room}
use Rattle.table.specs.Trusted.Records.{reads, blank}
use Rattle.table.specs.Trusted.RecordTest.{is_padded, is_coded, is_sized, clear}
use Rattle.table.specs.declared.Table.{Table}
use Rattle.table.specs.declared.Prefix.{Prefix}

-- the words that hold a flag for each net, and for each record
abbrev pub net_words : ℕ
net_words = greatest_net / 64 + 1

abbrev pub table_words : ℕ
table_words = table_room / 64 + 1

-- what is kept stands for the records: their number, for each net whether none of them drives or reads it, and for each of them
-- whether it drives no net
pub record Stands (s : Prefix) (before : List Table) : Type 0 where
  pub room : length before ≤ table_room
  pub count : s.count ≡ length before
  pub nets : length s.claimed ≡ net_words
  pub tables : length s.drives ≡ table_words
  pub claimed : (n : ℕ) → n ≤ greatest_net → not (flag_at s.claimed n) ≡ all (clear n) before
  pub drives : (t : ℕ) → t < table_room → not (flag_at s.drives t) ≡ eqb (get_or before t blank).net 0

unfoldable pub empty_prefix : Prefix
empty_prefix = record { count = 0; claimed = replicate net_words 0; drives = replicate table_words 0 }

-- the nets claimed, with these; what is no net claims none
abbrev pub claim_all : List ℕ → List ℕ → List ℕ
claim_all c [] = c
claim_all c (x ∷ xs) = claim_all (raised c x) xs

-- the records that drive a net, with record t, where its net is not 0
abbrev pub with_driver : List ℕ → ℕ → ℕ → List ℕ
with_driver ws net t = cond (eqb net 0) ws (raised ws t)

-- one more record, where there is room for it
abbrev pub prefix_after : Prefix → Table → Prefix
prefix_after s r =
    cond (ltb s.count table_room)
    (record { count = s.count + 1; claimed = claim_all s.claimed (r.net ∷ reads r); drives = with_driver s.drives r.net s.count })
    s

-- the tests of RecordTest by what is kept
abbrev pub sourced_in : List ℕ → ℕ → ℕ → Bool
sourced_in drives count x = leb x code_base || (leb x (code_base + count) && not (flag_at drives (x - suc code_base)))

abbrev pub unclaimed_in : List ℕ → Table → Bool
unclaimed_in claimed r = eqb r.net 0 || (not (flag_at claimed r.net) && not (elem r.net (reads r)))

abbrev pub keeps_points_in : ℕ → Prefix → Table → Bool
keeps_points_in k s r = is_padded r && (is_coded r && (is_sized k r && (all (sourced_in s.drives s.count) (reads r) && unclaimed_in s.claimed r)))
