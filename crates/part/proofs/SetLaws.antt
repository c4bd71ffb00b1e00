-- Adding the sheets of a set in turn: what is known before each, and at the end; and that adding a set keeps soundness, the shape, K and the
-- capacity.
use Rattle.std.specs.Prelude.{ℕ, ◌+◌, ◌≤◌, ◌<◌, ◌≡◌, true, false, List, [], ◌∷◌, length, get_or, take, drop, Result, Ok, Err}
use Rattle.std.proofs.Common.{add-one, arith, ap, ◌∙◌, subst, drop-drop}
use Rattle.std.proofs.Math.Path.{refl}
use Rattle.lists.specs.ListLaws.{drop_past}
use Rattle.lists.specs.Trusted.Lists.{sum}
use Rattle.lists.specs.TestLaws.{by_either}
use Rattle.sheet.specs.Trusted.Answers.{number_of}
use Rattle.set_lengths.specs.Trusted.Lengths.{Whole, is_whole, cut}
use Rattle.set_lengths.specs.LengthLaws.{whole_reflects, lengths_next, sum_next}
use Rattle.table.specs.Trusted.Limits.{table_room}
use Rattle.part.specs.Trusted.Parts.{Shaped}
use Rattle.part.specs.Trusted.Sound.{Sound}
use Rattle.part.specs.Trusted.SoundTest.{sound}
use Rattle.part.specs.SoundLaws.{sound_reflects}
use Rattle.part.specs.Trusted.Ways.{least}
use Rattle.part.specs.Trusted.Answers.{accepted, refused}
use Rattle.part.specs.Trusted.Add.{Add}
use Rattle.part.specs.Trusted.AddAnswers.{add_refusal}
use Rattle.part.specs.Trusted.Tries.{Try, CallResult}
use Rattle.part.specs.Trusted.Sets.{member, InTurn, all, next, stop, turned_away, AddSet}
use Rattle.part.specs.Trusted.SetAnswers.{set_result, Positioned}
use Rattle.part.proofs.AddLaws.{add_case, add_sound, add_records, Kept, kept_trans, same_kept, kept}
use Rattle.part.specs.declared.Part.{Part}
use Rattle.part.specs.declared.AddError.{AddError}
use Rattle.part.specs.declared.AddError.TheVariants.{Unsound, Misread, OutputDriven, OutputRead, Full, AlreadyReserved, NotReserved}
use Rattle.part.specs.declared.SetError.{SetError}
use Rattle.part.specs.declared.SetError.TheVariants.{SheetRefused}

-- ---- the texts from one on

cut_next : (lengths : List ℕ) (i : ℕ) → i < length lengths → (text : List ℕ) (at : ℕ) → cut (drop i lengths) (drop at text)
    ≡ take (get_or lengths i 0) (drop at text) ∷ cut (drop (i + 1) lengths) (drop (at + get_or lengths i 0) text)
cut_next lengths i l text at =
    ap (λ ns. cut ns (drop at text)) (lengths_next lengths i l)
    ∙ ap (λ t. take (get_or lengths i 0) (drop at text) ∷ cut (drop (i + 1) lengths) t) (drop-drop (get_or lengths i 0) at text)

-- ---- the sheets in turn

-- each refusal has a number and a place
pub refusal : (why : AddError) → (number : ℕ) × (place : ℕ) × (add_refusal why ≡ refused number place)
refusal Unsound = (20, 0, refl)
refusal (Misread error) = (number_of error.why, error.line, refl)
refusal OutputDriven = (21, 0, refl)
refusal OutputRead = (22, 0, refl)
refusal Full = (23, 0, refl)
refusal AlreadyReserved = (35, 0, refl)
refusal NotReserved = (36, 0, refl)

-- what the code leaves and answers is what comes of the sheets from position i on, the first on the part p, for some sheets that were tried
abbrev Turns : (o : Part) (i : ℕ) (texts : List (List ℕ)) (p : Part) → Part → Result (Unit {0}) SetError → Type 0
Turns o i texts p q r = (ts : List Try) × InTurn o i texts p (set_result q r ts)

-- what it leaves and answers at the end
abbrev pub SetEnded : (o : Part) (lengths text : List ℕ) → Part → Result (Unit {0}) SetError → Type 0
SetEnded o lengths text q r = (ts : List Try) × InTurn o 1 (cut lengths text) o (set_result q r ts) × Positioned r

-- the first i sheets were added, up to the place of the text: what comes of the rest is what comes of all
pub record SetSoFar (o : Part) (lengths text : List ℕ) (p : Part) (i at : ℕ) : Type 0 where
  pub records : length p.tables ≡ table_room
  pub sound : Sound p
  pub left : at + sum (λ n. n) (drop i lengths) ≡ length text
  pub whole : (q : Part) (r : Result (Unit {0}) SetError) → Turns o (i + 1) (cut (drop i lengths) (drop at text)) p q r → Turns o 1 (cut lengths text) o q r

module _ {o : Part} {lengths text : List ℕ} {p : Part} {i at : ℕ} (h : SetSoFar o lengths text p i at) where
  pub set_all : length lengths ≤ i → SetEnded o lengths text p (Ok tt)
  set_all l = let t = h.whole p (Ok tt) ([], rw (drop_past i lengths l) all) in (t.0, t.1, tt)

  module _ (l : i < length lengths) where
    pub set_room : at + get_or lengths i 0 ≤ length text
    set_room = omega (arith, h.left, sum_next lengths i l)

    abbrev sheet : List ℕ
    sheet = take (get_or lengths i 0) (drop at text)

    pub set_stop : (q : Part) (why : AddError) → Add least p sheet q (add_refusal why) → SetEnded o lengths text o (Err (SheetRefused why (i + 1)))
    set_stop q why g =
        let (number, place, e) = refusal why in
        let t = h.whole o (Err (SheetRefused why (i + 1)))
        (member sheet p q (refused number place) ∷ [], rw (cut_next lengths i l text at, e) (stop (subst (Add least p sheet q) e g))) in
        (t.0, t.1, omega arith)

    pub set_more : (q : Part) → Add least p sheet q accepted → SetSoFar o lengths text q (i + 1) (at + get_or lengths i 0)
    set_more q g =
        let f = add_case least p sheet q accepted g in
        record {
          records = add_records p h.records f;
          sound = add_sound p h.records f h.sound;
          left = omega (arith, h.left, sum_next lengths i l);
          whole = λ s r t. h.whole s r (
            member sheet p q accepted ∷ t.0,
            rw (cut_next lengths i l text at) (next g (rw (add-one (i + 1)) at t.1)),
          );
        }

-- ---- 20, 33, and the sheets

module _ (p : Part) (lengths text : List ℕ) where
  pub set_unsound : sound p ≡ false → AddSet p lengths text (turned_away p 20)
  unfolding AddSet
  set_unsound e = rw e refl

  module _ (h : sound p ≡ true) where
    pub set_unfit : is_whole lengths (length text) ≡ false → AddSet p lengths text (turned_away p 33)
    unfolding AddSet
    set_unfit e = rw h (rw e refl)

    pub set_fit : is_whole lengths (length text) ≡ true → (r : CallResult) → InTurn p 1 (cut lengths text) p r → AddSet p lengths text r
    unfolding AddSet
    set_fit e r t = rw h (rw e t)

-- ---- the cases of a set

-- what adding a set found, and what it gave
pub data SetCase (p : Part) (lengths text : List ℕ) (r : CallResult) : Type 0 where
  unsound_part : ¬ (Sound p) → r ≡ turned_away p 20 → SetCase p lengths text r
  unfit : Sound p → ¬ (Whole lengths (length text)) → r ≡ turned_away p 33 → SetCase p lengths text r
  in_turn : Sound p → Whole lengths (length text) → InTurn p 1 (cut lengths text) p r → SetCase p lengths text r

pub set_case : (p : Part) (lengths text : List ℕ) (r : CallResult) → AddSet p lengths text r → SetCase p lengths text r
unfolding AddSet
set_case p lengths text r =
    by_either (sound_reflects p) (λ s. by_either (whole_reflects lengths (length text)) (in_turn s) (unfit s)) unsound_part

-- ---- what is left as it was

turns_kept : {o : Part} → Shaped o → {i : ℕ} {texts : List (List ℕ)} {p : Part} {r : CallResult} → InTurn o i texts p r → Kept o p → Kept o r.part
turns_kept shape all k = k
turns_kept shape (next g t) k = turns_kept shape t (kept_trans k (kept _ k.shaped (add_case least _ _ _ _ g)))
turns_kept shape (stop g) k = same_kept _ shape _ refl

pub set_kept : (p : Part) → Shaped p → (lengths text : List ℕ) (r : CallResult) → AddSet p lengths text r → Kept p r.part
set_kept p shape lengths text r h = of (set_case p lengths text r h)
  where
    same : (q : Part) → q ≡ p → Kept p q
    same = same_kept p shape

    of : SetCase p lengths text r → Kept p r.part
    of (unsound_part n e) = same r.part (ap (λ c. c.part) e)
    of (unfit s n e) = same r.part (ap (λ c. c.part) e)
    of (in_turn s w t) = turns_kept shape t (same p refl)
