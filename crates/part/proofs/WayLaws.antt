-- The laws of each way: what is read is a sheet as a sheet is to be, or a refusal of the sheet's own; a sheet has at most one number, which
-- is not 0; and the tables chosen are those of one of its covers, and as many.
use Rattle.std.specs.Prelude.{ℕ, ◌≤◌, ◌<◌, ◌≡◌, List, length}
use Rattle.std.proofs.Common.{arith}
use Rattle.lists.specs.Trusted.Checked.{passed, refused}
use Rattle.tree.specs.Trusted.Limits.{code_base}
use Rattle.cover.specs.Trusted.Cover.{Cover, Rooted, rooted, tables}
use Rattle.cover.specs.Trusted.Tables.{LookupTable}
use Rattle.cover.specs.Trusted.CoverTables.{Circuit, CoverTables}
use Rattle.sheet.specs.Trusted.Sheet.{DrawnSheet}
use Rattle.sheet.specs.Trusted.Read.{read_sheet}
use Rattle.joined.specs.Trusted.Covered.{covered}
use Rattle.plan.specs.Least.{least_unique}
use Rattle.levels.proofs.Fastest.{fastest_unique}
use Rattle.part.specs.Trusted.Parts.{tables_of}
use Rattle.part.specs.Trusted.Ways.{Way, least, fastest, reading, NumberBy, Chosen}
use Rattle.part.specs.Readable.{Readable}
use Rattle.part.specs.ReadingLaws.{covered_back, reads_right, refused_below}
use Rattle.part.specs.declared.Part.{Part}

pub reading_right : (w : Way) (text : List ℕ) (s : Circuit) → reading w text ≡ passed s → Readable s
reading_right least text s e = reads_right text s e
reading_right fastest text s e = reads_right text s e

-- and it is a sheet as drawn that is covered
pub reading_drawn : (w : Way) (text : List ℕ) (s : Circuit) → reading w text ≡ passed s → (d : DrawnSheet) × (read_sheet text ≡ passed d) × (covered d ≡ s)
reading_drawn least text s e = covered_back text s e
reading_drawn fastest text s e = covered_back text s e

-- a sheet's own refusals have the numbers up to 13
pub reading_below : (w : Way) (text : List ℕ) (number place : ℕ) → reading w text ≡ refused number place → number ≤ 13
reading_below least text number place e = refused_below text number place e
reading_below fastest text number place e = refused_below text number place e

pub number_unique : (w : Way) (p : Part) (s : Circuit) {m n : ℕ} → NumberBy w p s m → NumberBy w p s n → m ≡ n
number_unique least p s g h = least_unique g h
number_unique fastest p s g h = (fastest_unique g.1 h.1).0

rooted_some : {c : Cover} → Rooted c → 0 < tables c
rooted_some rooted = omega arith

pub some_tables : (w : Way) (p : Part) (s : Circuit) (n : ℕ) → NumberBy w p s n → 0 < n
some_tables least p s n l = let c = l.some in omega (arith, rooted_some c.1.root, c.2)
some_tables fastest p s n l = let c = l.1.some in omega (arith, rooted_some c.1.root, c.3)

pub chosen_added : (w : Way) (p : Part) (s : Circuit) (new : List LookupTable) → Chosen w p s new → CoverTables code_base p.k (tables_of p) new s
chosen_added least p s new c = c.added
chosen_added fastest p s new c = c.added

pub chosen_number : (w : Way) (p : Part) (s : Circuit) (new : List LookupTable) → Chosen w p s new → NumberBy w p s (length new)
chosen_number least p s new c = c.fewest
chosen_number fastest p s new c = (_, c.fastest)
