-- The mapping of a sheet, gate by gate: what is known of each gate that was mapped, and of the tables staged so far.
-- Internal definitions: the laws are in MappingLaws.
use Rattle.std.specs.Prelude.{ℕ, suc, ◌+◌, ◌-◌, ◌≤◌, ◌<◌, ◌≡◌, Bool, false, List, [], ◌∷◌, ◌++◌, map, length, get_or}
use Rattle.lists.specs.Trusted.Lists.{Every, Distinct, Permuted, gather, sum}
use Rattle.lists.specs.Sequences.{Paired}
use Rattle.tree.specs.declared.Kind.{Kind}
use Rattle.tree.specs.declared.Kind.TheVariants.{And as and}
use Rattle.tree.specs.Trusted.Tree.{Node, gate, Edges}
use Rattle.plan.specs.declared.Key.{Key}
use Rattle.plan.specs.declared.Token.{Token}
use Rattle.plan.specs.Key.{leaf_key}
use Rattle.cover.specs.Trusted.Cover.{Cover, net, top, Fanins, end, tables}
use Rattle.cover.specs.Nets.{nets*}
use Rattle.cover.specs.Trusted.Tables.{LookupTable, Placed, numbered}
use Rattle.cover.specs.Trusted.Placed.{gate_table, records*}
use Rattle.cover.specs.Trusted.CoverTables.{Circuit, CoverTables}
use Rattle.plan.specs.Plans.{made, Runs, Body}
use Rattle.sheet.specs.declared.Source.{Source}
use Rattle.sheet.specs.declared.Source.TheVariants.{Net, Gate}
use Rattle.sheet.specs.declared.Edge.{Edge}
use Rattle.sheet.specs.Trusted.Sheet.{DrawnGate, leaf_nets, gates_read}
use Rattle.sheet.specs.Trusted.Trees.{trees_of}
use Rattle.pending.specs.Operands.{Operand, single}
use Rattle.mapper_laws.specs.Run.{run_plan}

-- a gate that was mapped: its fanins, split, with what is placed among them, and their key
pub record GatesMapped : Type 0 where
  pub kind : Kind
  pub body : Fanins
  pub key : Key

abbrev pub unmapped : GatesMapped
unmapped = record { kind = and; body = end; key = leaf_key }

-- gate g, counted from 1
abbrev pub mapped_at : List GatesMapped → ℕ → GatesMapped
mapped_at done g = get_or done (g - 1) unmapped

-- how many leaves stand under it
abbrev pub leaf_count : GatesMapped → ℕ
leaf_count d = length (nets* d.body)

-- it is not placed
abbrev pub cover_of : GatesMapped → Cover
cover_of d = top 0 d.kind d.body

-- a mapped gate of the tree t: its body is that of a cover with its key
pub record Stood (K : ℕ) (t : Node) (d : GatesMapped) : Type 0 where
  pub edges : Edges
  pub tree : t ≡ gate d.kind edges
  pub is : Body K edges d.key d.body

-- ---- what a fanin reads: its key, its cover, and its operand

abbrev pub key_of : List GatesMapped → Source → Key
key_of done (Net n) = leaf_key
key_of done (Gate g) = (mapped_at done g).key

abbrev pub source_cover : List GatesMapped → Source → Cover
source_cover done (Net n) = net n
source_cover done (Gate g) = cover_of (mapped_at done g)

abbrev pub keys_of : List GatesMapped → List Edge → List Key
keys_of done = map (λ f. key_of done f.source)

abbrev pub covers_of : List GatesMapped → List Edge → List (Bool × Cover)
covers_of done = map (λ f. (f.inverted, source_cover done f.source))

-- a code stands after b tables: it is a net's, or that of one of the tables
abbrev pub Low : (base b : ℕ) → LookupTable → Type 0
Low base b t = Every (λ c. c ≤ base + b) t.inputs

-- each table reads codes below its own
abbrev pub Early : (base : ℕ) → List Placed → Type 0
Early base = Every (λ p. Every (λ c. c < base + p.0) p.1.inputs)

module _ (base : ℕ) where
  -- the table that holds the gate, and the tables within its fanins
  abbrev pub held_table : GatesMapped → LookupTable
  held_table d = gate_table base 0 false d.kind d.body

  abbrev pub inner_of : GatesMapped → List Placed
  inner_of d = records* base d.body d.kind

  abbrev pub source_table : List GatesMapped → Source → LookupTable
  source_table done (Net n) = single n
  source_table done (Gate g) = held_table (mapped_at done g)

  abbrev pub operands_of : List GatesMapped → List Edge → List Operand
  operands_of done = map (λ f. record { inverted = f.inverted; table = source_table done f.source })

  -- The gates `gs` were mapped, where n tables stand before the staged ones. Together with the tables within each gate that was read,
  -- the staged tables are those within all gates: a gate that is read takes its tables along.
  pub record Progress (n K : ℕ) (gs : List DrawnGate) (done : List GatesMapped) (staged : List LookupTable) : Type 0 where
    pub stood : Paired (Stood K) (trees_of [] gs) done
    pub read : Every (λ j. (1 ≤ j) × (j ≤ length done)) (gates_read gs)
    pub low : Every (λ d. Low base (n + length staged) (held_table d)) done
    pub taken : Permuted (numbered n staged ++ gather (λ j. inner_of (mapped_at done j)) (gates_read gs)) (gather inner_of done)
    pub earlier : Early base (numbered n staged)
    pub leaves : length (leaf_nets gs) + sum (λ j. leaf_count (mapped_at done j)) (gates_read gs) ≡ sum leaf_count done

  -- one gate more: what the run of its plan leaves, and what is known then
  pub record NextGate (n K : ℕ) (gs : List DrawnGate) (done : List GatesMapped) (staged : List LookupTable) (g : DrawnGate) (plan : List Token) (a : Key) : Type 0 where
    pub body : Fanins
    pub new : List LookupTable
    pub ends : run_plan base (n + length staged) g.kind (operands_of done g.fanins) plan (record { stack = []; placed = [] })
        ≡ record { stack = record { inverted = false; table = gate_table base 0 false g.kind body } ∷ []; placed = new }
    pub progress : Progress n K (gs ++ (g ∷ [])) (done ++ (record { kind = g.kind; body = body; key = a } ∷ [])) (staged ++ new)
    pub runs : Runs (covers_of done g.fanins) plan [] (made body ∷ [])
    pub is : (es : Edges) × Body K es a body
    pub few : Distinct (gates_read (gs ++ (g ∷ []))) → length (staged ++ new) + 2 ≤ length (leaf_nets (gs ++ (g ∷ [])))

-- the tables `new`, which follow the tables `old`, are those of the cover whose root is the mapped gate d
pub record CoveredBy (base K : ℕ) (old new : List LookupTable) (s : Circuit) (d : GatesMapped) : Type 0 where
  pub added : CoverTables base K old new s
  pub number : ℕ
  pub cover : added.cover ≡ top (suc number) d.kind d.body
  pub count : tables added.cover ≡ length new
