-- A reading accepts exactly the lists of sound parts, and hands back the part, with nothing reserved. So no proper prefix of a list is a list, and a text that is
-- still accepted after a change is the list of another part.
use Rattle.std.specs.Prelude.{ℕ, suc, ◌≤◌, ◌≡◌, refl, ◌↔◌, ◌≢◌, List, [], ◌∷◌, ◌++◌, length}
use Rattle.std.proofs.Common.{arith, sym, ◌∙◌, subst, append-nil}
use Rattle.std.proofs.Math.Path.{ap}
use Rattle.std.proofs.Math.ListN.{drop}
use Rattle.lists.specs.Trusted.Lists.{Every}
use Rattle.lists.specs.ListLaws.{every_cons, every_take}
use Rattle.lists.specs.Trusted.Checked.{passed, refused, ◌>>=◌, require}
use Rattle.list_layout.specs.Trusted.LineSays.{LineSays}
use Rattle.part_records.specs.Trusted.Reservations.{unreserved}
use Rattle.part.specs.Trusted.Parts.{blanks, in_use, with_reservation, released, Shaped}
use Rattle.part.specs.Trusted.Sound.{Sound}
use Rattle.part.specs.SoundLaws.{used_count}
use Rattle.part.specs.declared.Part.{Part}
use Rattle.listing.specs.Trusted.Listing.{list_of}
use Rattle.list_reading.specs.ListingLaws.{truth_word, inputs_small, top_fits, list_says_all}
use Rattle.list_reading.specs.Trusted.ReadList.{read_list}
use Rattle.list_reading.specs.Trusted.ListConditions.{GoodLines, left_over}
use Rattle.list_reading.specs.StepLaws.{ListSays, list_lines, list_says, good_read, condition_read}

-- what is read is sound, and the text is its list
read_says : (text : List ℕ) {p : Part} → read_list text ≡ passed p → Shaped p × Sound p × (p.reservation ≡ unreserved) × (text ≡ list_of p)
read_says text e = subst (ListSays text) e (list_says text)

pub read_shaped : (text : List ℕ) {p : Part} → read_list text ≡ passed p → Shaped p
read_shaped text e = (read_says text e).0

-- ---- the list of a sound part

module _ (p : Part) (shape : Shaped p) (h : Sound p) where
  part_says : Every LineSays (in_use p)
  part_says r m =
      let z = h.rules.sized r m in
      let l : r.count ≤ 6 = omega (arith, z.1, h.k_range.1) in
      record {
        count = (z.0, l);
        shaped = every_take p.used p.tables shape.inputs r m;
        padded = h.rules.padded r m;
        numbers = every_cons (omega (arith, (h.rules.coded r m).0)) (inputs_small p h r m);
        truth = truth_word r l z.3;
      }

  -- its lines are good ones, whatever comes after them
  list_good : (rest : List ℕ) → GoodLines (list_of p ++ rest) p.k p.used (in_use p) rest
  list_good rest = record {
    capacity = p.capacity;
    top = record { line = list_lines p (omega (arith, shape.records, h.used_fits, h.capacity_range)) rest; numbers = top_fits p h };
    k_range = h.k_range;
    capacity_range = h.capacity_range;
    used_fits = h.used_fits;
    says = part_says;
    rules = h.rules;
  }

  pub list_read : read_list (list_of p) ≡ passed (released p)
  unfolding ◌>>=◌ require list_good
  list_read = e ∙ ap passed (list_says_all q p w.0 shape w.1 h (sym w.3))
    where
      q : Part
      q = record { k = p.k; capacity = p.capacity; used = p.used; reservation = unreserved; tables = in_use p ++ drop p.used blanks }

      e : read_list (list_of p) ≡ passed q
      e = ap read_list (sym (append-nil (list_of p))) ∙ good_read (list_of p ++ []) (in_use p) [] (list_good []) 0 (omega (arith, used_count p shape.records h))

      w : Shaped q × Sound q × (q.reservation ≡ unreserved) × (list_of p ≡ list_of q)
      w = read_says (list_of p) e

  -- with more after it, it is refused
  longer_refused : (rest : List ℕ) → rest ≢ [] → read_list (list_of p ++ rest) ≡ refused 31 (suc (length (in_use p)))
  longer_refused rest n =
      condition_read (list_of p ++ rest)
      (left_over p.k (in_use p) rest (subst (λ u. GoodLines (list_of p ++ rest) p.k u (in_use p) rest) (sym (used_count p shape.records h)) (list_good rest)) n)

-- A READING ACCEPTS EXACTLY THE LISTS OF SOUND PARTS, and the part read is the part written, with nothing reserved
pub list_exactly : (text : List ℕ) (p : Part) → Shaped p → (read_list text ≡ passed p) ↔ (Sound p × (p.reservation ≡ unreserved) × (text ≡ list_of p))
list_exactly text p shape = (
  λ e. let w = read_says text e in (w.1, w.2, w.3),
  λ h. ap read_list h.2 ∙ list_read p shape h.0 ∙ ap (λ r. passed (with_reservation p r)) (sym h.1),
)

-- NO PROPER PREFIX OF A LIST IS A LIST
pub no_prefix : (p q : Part) → Shaped p → Shaped q → Sound p → Sound q → (rest : List ℕ) → list_of p ++ rest ≡ list_of q → rest ≡ []
no_prefix p q f g h i [] e = refl
no_prefix p q f g h i (b ∷ bs) e =
    let a = list_read q g i in
    let c = longer_refused p f h (b ∷ bs) (λ n. let z : ◌≡◌ {A = ℕ} 0 1 = cc in omega arith) in
    let d = ap read_list e in
    let z : ◌≡◌ {A = ℕ} 0 1 = cc in absurd (omega arith)

-- A CHANGED LIST that is still accepted is the list of another sound part
pub changed_list : (p q : Part) (text : List ℕ) → text ≢ list_of p → read_list text ≡ passed q → (q ≢ p) × Sound q × (text ≡ list_of q)
changed_list p q text n e = let w = read_says text e in (λ d. n (w.3 ∙ ap list_of d), w.1, w.3)
