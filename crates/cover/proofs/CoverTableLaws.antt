-- The tables that adding a sheet leaves behind: how many, how large, in which order their inputs stand, what they read and what
-- they drive. They are all that a part's rules ask of a record.
use Rattle.std.specs.Prelude.{ℕ, ◌+◌, ◌<◌, ◌≡◌, refl, ◌⊎◌, List, length}
use Rattle.std.proofs.Common.{arith, sym, ap, ◌∙◌, inl, inr, ⊎_elim}
use Rattle.lists.specs.Trusted.Lists.{◌∈◌, Every, Rising}
use Rattle.lists.specs.ListLaws.{permuted_to, permuted_from}
use Rattle.tree.specs.Measures.{leaves}
use Rattle.cover.specs.Trusted.Tables.{LookupTable, numbered}
use Rattle.cover.specs.Eval.{numbered_is, numbered_one}
use Rattle.cover.specs.Trusted.Placed.{root_number}
use Rattle.cover.proofs.Size.{SizedTable, fits_sized}
use Rattle.cover.proofs.Rising.{records_rising}
use Rattle.cover.proofs.Inputs.{Tidy, root_reads, root_in}
use Rattle.cover.specs.Trusted.CoverTables.{Circuit, CoverTables}
use Rattle.cover.specs.Legal.{Legal}

module _ (base K : ℕ) (old new : List LookupTable) (s : Circuit) (a : CoverTables base K old new s) where
  pub added_sized : Every (SizedTable K) (numbered (length old) new)
  added_sized = permuted_from a.taken (fits_sized base K a.cover s.out s.inverted a.covers.fits).1

  pub added_rising : Legal base s → Every (λ p. Rising p.1.inputs) (numbered (length old) new)
  added_rising legal =
      permuted_from a.taken
      (records_rising base s.out (length old) s.inverted new a.covers.split (λ x m. (legal.leaf_nets_lem x m).1) legal.leaf_once a.taken)

  -- a leaf of the sheet, or a new table
  abbrev pub CodeSource : ℕ → Type 0
  CodeSource x = (x ∈ leaves s.tree) ⊎ ((t : ℕ) × (x ≡ base + t) × (length old < t))

  pub added_tidy : Every (Tidy s.out (root_number a.cover) CodeSource) (numbered (length old) new)
  added_tidy =
      permuted_from a.taken
      (root_reads base CodeSource s.out s.inverted a.covers.split a.covers.root (λ x m. inl m)
      (permuted_to a.taken (λ p m. inr (p.0, refl, (numbered_is (length old) new p m).0))))

  -- each input is a leaf of the sheet, or an earlier table of the sheet
  pub added_inputs : Every (λ p. Every (λ x. (x ∈ leaves s.tree) ⊎ ((t : ℕ) × (x ≡ base + t) × (length old < t) × (t < p.0))) p.1.inputs)
      (numbered (length old) new)
  added_inputs p m x i = ⊎_elim inl (λ r. inr (r.0, r.1, r.2, omega (arith, r.1, a.earlier p m x i))) ((added_tidy p m).1 x i)

  -- the last one drives the output net, and the others drive nothing
  pub added_drives : Every (λ p. (p.0 < length old + length new → p.1.drives ≡ 0) × (p.0 ≡ length old + length new → p.1.drives ≡ s.out))
      (numbered (length old) new)
  added_drives p m =
      let r = root_in base s.out s.inverted a.covers.root in
      let i = permuted_to a.taken (λ q j. j) (root_number a.cover, r.0) r.1 in (
        λ l. ⊎_elim (λ z. z) (λ f. absurd (omega (arith, f.1, a.last))) (added_tidy p m).0,
        λ e. ap (λ q. q.1.drives) (numbered_one (length old) new p (root_number a.cover, r.0) m i (e ∙ sym a.last)) ∙ r.2,
      )
