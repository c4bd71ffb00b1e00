-- What is kept of the fanins so far, in flags packed into words, and what comes of one more. Internal definitions: the laws are in proofs/FaninLaws.
use Rattle.std.specs.Prelude.{ℕ, suc, ◌+◌, ◌/◌, ◌≤◌, ◌<◌, ◌≡◌, false, List, [], ◌∷◌, ◌++◌, length, Result, Ok, Err, IfOk}
use Rattle.std.proofs.Math.Option.{some}
use Rattle.lists.specs.Trusted.Tests.{elem}
use Rattle.lists.specs.Trusted.Checked.{Checked, passed, refused}
use Rattle.tree.specs.Trusted.Limits.{code_base}
use Rattle.flags.specs.Flags.{flag_at, raised}
use Rattle.sheet.specs.declared.Source.{Source}
use Rattle.sheet.specs.declared.Source.TheVariants.{Net as net, Gate as gate}
use Rattle.sheet.specs.declared.Refusal.{Refusal}
use Rattle.sheet.specs.Trusted.Sheet.{net_of}
use Rattle.sheet.specs.Trusted.Limits.{most_gates, most_leaves}
use Rattle.sheet.specs.Trusted.Read.{Seen, source_of, read_fanin}
use Rattle.sheet.specs.Trusted.Answers.{number_of}

-- the flags from `base` on say which numbers below `size` are in the list
abbrev pub Flagged : (base size : ℕ) → List ℕ → List ℕ → Type 0
Flagged base size words xs = (n : ℕ) → n < size → flag_at words (base + n) ≡ elem n xs

-- the words that hold a flag for each number that a fanin may be written as
abbrev pub flag_words : ℕ
flag_words = (code_base + most_gates) / 64 + 1

-- the flags and the number of leaves stand for what was read so far: a net has its flag at its number, gate g at the base and g
pub record Marked (words : List ℕ) (leaves : ℕ) (seen : Seen) : Type 0 where
  pub whole : length words ≡ flag_words
  pub nets : Flagged 0 code_base words seen.nets
  pub gates : Flagged code_base (most_gates + 1) words seen.gates
  pub count : length seen.nets ≡ leaves

-- one net or gate more
abbrev pub saw : Seen → Source → Seen
saw seen (net n) = record { nets = seen.nets ++ (n ∷ []); gates = seen.gates }
saw seen (gate g) = record { nets = seen.nets; gates = seen.gates ++ (g ∷ []) }

abbrev pub fanin_step : ℕ → Seen → Result Source Refusal → Checked (Source × Seen)
fanin_step g seen (Ok source) = passed (source, saw seen source)
fanin_step g seen (Err why) = refused (number_of why) (suc g)

-- the flags with that of a fanin that is written as n, where it is accepted
abbrev pub flags_after : List ℕ → ℕ → Result Source Refusal → List ℕ
flags_after words n (Ok source) = raised words n
flags_after words n (Err why) = words

-- of an accepted fanin of gate g that is written as n: what it reads, for the first time, and within the leaves that a sheet may have
pub record FaninTaken (words : List ℕ) (leaves g n : ℕ) (s : Source) : Type 0 where
  pub source : source_of g n ≡ some s
  pub first : flag_at words n ≡ false
  pub few : leaves ≤ most_leaves → leaves + length (net_of s) ≤ most_leaves

-- a fanin of gate g that is written as n
pub record FaninRead (words : List ℕ) (leaves out g n : ℕ) (r : Result Source Refusal) : Type 0 where
  pub step : (seen : Seen) → Marked words leaves seen → read_fanin out g seen n ≡ fanin_step g seen r
  pub taken : IfOk r (FaninTaken words leaves g n)
