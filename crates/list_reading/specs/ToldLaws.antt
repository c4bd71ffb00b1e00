-- What a reading hands back is told by its text: each refusal exactly under its condition, and accepted exactly where the text is the list
-- of a sound part.
use Rattle.std.specs.Prelude.{ℕ, ◌≡◌, refl, List}
use Rattle.std.proofs.Common.{arith, ap, subst}
use Rattle.lists.specs.Trusted.Checked.{Checked, passed, refused}
use Rattle.part.specs.Trusted.Parts.{Shaped}
use Rattle.part.specs.Trusted.Answers.{accepted, refused as turned_away}
use Rattle.part.specs.declared.Part.{Part}
use Rattle.list_reading.specs.Trusted.ReadList.{read_list, read_result}
use Rattle.list_reading.specs.Trusted.ListConditions.{ListTold}
use Rattle.list_reading.specs.StepLaws.{zeros_shaped, ListSays, list_says, condition_read}
use Rattle.list_reading.specs.ReadLaws.{list_exactly, read_shaped}

-- what is handed back says what came of the reading
result_refused : (r : Checked Part) {number place : ℕ} → (read_result r).answer ≡ turned_away number place → r ≡ refused number place
result_refused (passed p) e = let z : ◌≡◌ {A = ℕ} 0 1 = cc in absurd (omega arith)
result_refused (refused number place) e = cc

result_passed : (r : Checked Part) {p : Part} → (read_result r).part ≡ p → (read_result r).answer ≡ accepted → r ≡ passed p
result_passed (passed q) d e = ap passed d
result_passed (refused number place) d e = let z : ◌≡◌ {A = ℕ} 0 1 = cc in absurd (omega arith)

result_shaped : (r : Checked Part) → ((p : Part) → r ≡ passed p → Shaped p) → Shaped (read_result r).part
result_shaped (passed p) h = h p refl
result_shaped (refused number place) h = zeros_shaped

-- WHAT A READING HANDS BACK IS TOLD BY ITS TEXT
pub reading_told : (text : List ℕ) → ListTold text (read_result (read_list text))
reading_told text = record {
  refuses = λ number place. (
    λ a. subst (ListSays text) (result_refused (read_list text) a) (list_says text),
    λ c. ap (λ r. (read_result r).answer) (condition_read text c),
  );
  accepts = λ p f. (
    λ a. (list_exactly text p f).0 (result_passed (read_list text) a.0 a.1),
    λ h. let e = (list_exactly text p f).1 h in (ap (λ r. (read_result r).part) e, ap (λ r. (read_result r).answer) e),
  );
  shaped = result_shaped (read_list text) (λ p e. read_shaped text e);
  zeros = λ number place a. ap (λ r. (read_result r).part) (result_refused (read_list text) a);
}
