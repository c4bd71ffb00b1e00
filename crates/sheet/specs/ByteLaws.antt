-- 02 #105: no cover of the tree of a well formed sheet has more than 255 tables, so a byte holds their number.
use Rattle.std.specs.Prelude.{ℕ, ◌≤◌}
use Rattle.std.proofs.Common.{arith}
use Rattle.cover.specs.Trusted.Cover.{Cover, tables, CoverOf}
use Rattle.cover.specs.Nets.{cover_most}
use Rattle.sheet.specs.Trusted.Sheet.{DrawnSheet}
use Rattle.sheet.specs.Trusted.Trees.{tree_of}
use Rattle.sheet.specs.Trusted.Formed.{WellFormed}
use Rattle.sheet.specs.TreeLaws.{leaves_count}

-- a gate more is a leaf fewer
pub formed_tables : {s : DrawnSheet} → WellFormed s → {K : ℕ} {c : Cover} → CoverOf K (tree_of s) c → tables c ≤ 255
formed_tables {s} w {K} o = omega (arith, cover_most K o, leaves_count s w)
