-- 02 #105: no cover of a sheet that passes the sheet's checks has more than 255 tables, so a byte holds their number. Its covers are those of
-- the joined tree (#104).
use Rattle.std.specs.Prelude.{ℕ, ◌≤◌, ◌≡◌, List, length}
use Rattle.std.proofs.Common.{arith, sym, ap, subst}
use Rattle.lists.specs.Trusted.Checked.{passed}
use Rattle.tree.specs.Measures.{leaves}
use Rattle.cover.specs.Trusted.Cover.{Cover, tables, CoverOf}
use Rattle.cover.specs.Nets.{cover_fewest}
use Rattle.sheet.specs.Trusted.Sheet.{DrawnSheet}
use Rattle.sheet.specs.Trusted.Trees.{tree_of}
use Rattle.sheet.specs.Trusted.Read.{read_sheet}
use Rattle.sheet.specs.ReadLaws.{read_formed}
use Rattle.sheet.specs.ByteLaws.{formed_tables}
use Rattle.joined.specs.Trusted.Joined.{joined_tree}
use Rattle.joined.proofs.JoinedLaws.{joined_leaves}
use Rattle.joined.proofs.SheetLaws.{sheet_joined, joined_formed}

-- FOR EVERY SHEET THAT IS READ, every K, and every cover of every splitting, least or not
pub tables_in_byte : (text : List ℕ) (s : DrawnSheet) → read_sheet text ≡ passed s → (K : ℕ) (c : Cover) → CoverOf K (joined_tree (tree_of s)) c → tables c ≤ 255
tables_in_byte text s e K c o =
    let w = read_formed text s e in
    formed_tables (joined_formed s w) (subst (λ t. CoverOf K t c) (sym (sheet_joined s w)) o)

-- and 255 is reached: with K of 2, every cover of a sheet of 256 leaves has as many
pub byte_filled : (text : List ℕ) (s : DrawnSheet) → read_sheet text ≡ passed s → length (leaves (tree_of s)) ≡ 256 → (c : Cover) →
    CoverOf 2 (joined_tree (tree_of s)) c → tables c ≡ 255
byte_filled text s e n c o = omega (arith, n, ap length (joined_leaves (tree_of s)), cover_fewest 2 o, tables_in_byte text s e 2 c o)
