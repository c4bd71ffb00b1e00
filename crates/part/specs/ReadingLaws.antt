-- What is read by `read_of` is what `read_sheet` reads, as it is covered: a sheet of it is as a sheet is to be, and its refusals are the sheet's.
use Rattle.std.specs.Prelude.{ℕ, ◌≤◌, List}
use Rattle.std.proofs.Common.{arith, sym, ◌∙◌, subst}
use Rattle.std.proofs.Math.Path.{◌≡◌, refl}
use Rattle.lists.specs.Trusted.Checked.{Checked, passed, refused, ◌>>=◌}
use Rattle.cover.specs.Trusted.CoverTables.{Circuit}
use Rattle.sheet.specs.Trusted.Sheet.{DrawnSheet}
use Rattle.sheet.specs.Trusted.Read.{read_sheet}
use Rattle.sheet.specs.Trusted.Trees.{tree_of}
use Rattle.sheet.specs.TreeLaws.{root_gate, read_drawn}
use Rattle.sheet.specs.RefusalLaws.{refused_told}
use Rattle.joined.specs.Trusted.Covered.{covered}
use Rattle.joined.specs.JoinedSheet.{joined_sheet}
use Rattle.joined.proofs.JoinedLaws.{joined_leaves, joined_proper}
use Rattle.joined.proofs.SheetLaws.{sheet_joined, joined_formed}
use Rattle.part.specs.Trusted.Reading.{read_of}
use Rattle.part.specs.Readable.{Readable}

module _ (text : List ℕ) where
  pub covered_back : (s : Circuit) → read_of text ≡ passed s → (d : DrawnSheet) × (read_sheet text ≡ passed d) × (covered d ≡ s)
  unfolding read_of ◌>>=◌
  covered_back s e = of (read_sheet text) refl e
    where
      of : (o : Checked DrawnSheet) → read_sheet text ≡ o → (o >>= λ s. passed (covered s)) ≡ passed s →
          (d : DrawnSheet) × (read_sheet text ≡ passed d) × (covered d ≡ s)
      of (passed d) i h = (d, i, cc)
      of (refused number place) i h = let z : ◌≡◌ {A = ℕ} 0 1 = cc in absurd (omega arith)

  -- THE LAW OF THE READING
  pub reads_right : (s : Circuit) → read_of text ≡ passed s → Readable s
  reads_right s e =
      let (d, i, c) = covered_back s e in
      let r = read_drawn text d i in
      let l = r.legal in
      let (k, es, g) = root_gate (joined_sheet d) (joined_formed d r.formed) in
      subst Readable c (record {
        legal = record { out_net = l.out_net; leaf_nets_lem = rw joined_leaves l.leaf_nets_lem; leaf_once = rw joined_leaves l.leaf_once };
        root = (k, es, sym (sheet_joined d r.formed) ∙ g);
        proper = joined_proper (tree_of d) r.is_proper;
      })

  -- a sheet's own refusals have the numbers up to 13
  pub refused_below : (number place : ℕ) → read_of text ≡ refused number place → number ≤ 13
  unfolding read_of ◌>>=◌
  refused_below number place e = of (read_sheet text) refl e
    where
      of : (o : Checked DrawnSheet) → read_sheet text ≡ o → (o >>= λ s. passed (covered s)) ≡ refused number place → number ≤ 13
      of (passed d) i h = let z : ◌≡◌ {A = ℕ} 0 1 = cc in absurd (omega arith)
      of (refused m l) i h = let e : m ≡ number = cc in omega (arith, (refused_told text m l i).known)
