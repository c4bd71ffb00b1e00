-- THE THREE DEMANDS HOLD: `demand_1`, `demand_2` and `demand_3`; and what else is proved of lists of calls. `Part::add` ensures, of every
-- part p and text, `Add least p text q (adding_answer r)` of the part q that it leaves and its result r, and `Part::add_set`, `reserve` and
-- `commit` likewise `AddSet`, `Reserve` and `Commit`, for some tries, and `withdraw` gives `withdrawn`; so calls of the code, each given the
-- part that the one before left, are a `Chain` (`called`, `set_called`, `reserve_called`, `commit_called`, `withdraw_called`). `Shaped` says of a
-- part what its type does.
use Rattle.std.specs.Prelude.{ℕ, ◌≤◌, ◌≡◌, refl, ◌≢◌, List, [], ◌∷◌, map, length, Result, Ok, Err}
use Rattle.std.proofs.Common.{arith, sym, ap, ◌∙◌, subst}
use Rattle.lists.specs.Trusted.Lists.{Every}
use Rattle.lists.specs.ListLaws.{every_none, every_cons}
use Rattle.tree.specs.Trusted.Limits.{code_base}
use Rattle.cover.specs.Trusted.Tables.{code_levels}
use Rattle.table.specs.Trusted.Rules.{IsNet}
use Rattle.part.specs.Trusted.Parts.{tables_of, Shaped}
use Rattle.part.specs.Trusted.Sound.{Sound}
use Rattle.part.specs.Trusted.Ways.{Way, least, fastest}
use Rattle.part.specs.Trusted.Answers.{accepted, refused}
use Rattle.part.specs.Trusted.Add.{opened, Add}
use Rattle.part.specs.Trusted.AddAnswers.{adding_answer, adding_result}
use Rattle.part.specs.Trusted.Tries.{Try, CallResult}
use Rattle.part.specs.Trusted.Sets.{AddSet}
use Rattle.part.specs.Trusted.Reservations.{Reserve, Commit, withdrawn}
use Rattle.part.specs.Trusted.SetAnswers.{set_result}
use Rattle.part.specs.declared.Part.{Part}
use Rattle.part.specs.declared.AddError.{AddError}
use Rattle.part.specs.declared.AddError.TheVariants.{Full}
use Rattle.part.specs.declared.SetError.{SetError}
use Rattle.demands.specs.Trusted.Calls.{Call, add, add_set, reserve, commit, withdraw, one_sheet, Chain, done, call, final, accepted_in}
use Rattle.demands.specs.Trusted.Demands.{Demand1, last_part, Demand2, Total, Demand3, StillOpen, Guaranteed}
use Rattle.part.proofs.OpenLaws.{opened_empty, opened_shaped, opened_sound}
use Rattle.demands.proofs.ConditionLaws.{opening_told, add_told, line_told, list_told}
use Rattle.demands.proofs.SetLaws.{set_told}
use Rattle.demands.proofs.CallLaws.{set_tries, call_line, call_kept, unsound_call, own_call, line_chain}
use Rattle.part.proofs.SetLaws.{set_case}
use Rattle.demands.proofs.ReserveLaws.{reserve_told, commit_told, withdraw_told, reservation_fits}
use Rattle.demands.proofs.CountLaws.{chain_kept, counted}
use Rattle.demands.proofs.ValueLaws.{sound_narrow, opened_served}
use Rattle.demands.specs.FreeLaws.{values_by_free_nets}
use Rattle.list_reading.specs.Trusted.ReadList.{read_result}
use Rattle.list_reading.specs.ListingLaws.{list_says_all, same_lines}
use Rattle.list_reading.specs.ReadLaws.{list_read}
use Rattle.list_reading.specs.ToldLaws.{reading_told}
use Rattle.demands.specs.Determined.{AddsBy}
use Rattle.demands.proofs.DeterminedLaws.{alike_refl, seen, answers_determined}
use Rattle.demands.proofs.PossibleLaws.{chain_possible}

-- ---- the demands

pub demand_1 : Demand1
demand_1 = record {
  opening = opening_told;
  adding = add_told;
  sets = set_told;
  reserving = reserve_told;
  committing = commit_told;
  withdrawing = withdraw_told;
  line = line_told;
  list = list_told;
  reading = reading_told;
}

pub demand_2 : (k capacity : ℕ) → (opened k capacity).answer ≡ accepted → (cs : List Call) (rs : List CallResult) →
    Chain (opened k capacity).part cs rs → Demand2 k capacity cs rs
demand_2 k capacity a cs rs h =
    let last = last_part k capacity rs in
    let g = chain_kept h (opened_shaped k capacity) in
    let s = g.sound (opened_sound k capacity a) in
    record {
      narrow = subst (λ n. Every (λ t. length t.inputs ≤ n) (tables_of last)) (g.same_k ∙ ap (λ p. p.k) (opened_empty k capacity a)) (sound_narrow last s);
      free = values_by_free_nets last s;
      each = opened_served k capacity a cs rs h;
      sound = s;
      back = ap read_result (list_read last g.shaped s);
      list = λ q f i. list_says_all last q g.shaped f s i;
      lines = λ q f i. same_lines last q g.shaped f s i;
    }

pub demand_3 : (p : Part) → Shaped p → (cs : List Call) (rs : List CallResult) → Chain p cs rs → Demand3 p cs rs
demand_3 = counted

-- ---- more of lists of calls

-- an add of the code, which left the part q, is the first call of a list that goes on with that part
pub called : (p : Part) (text : List ℕ) (q : Part) (r : Result (Unit {0}) AddError) → Add least p text q (adding_answer r) → {cs : List Call} {rs : List CallResult} →
    Chain q cs rs → Chain p (add least text ∷ cs) (one_sheet least text p q (adding_answer r) ∷ rs)
called p text q r h t = call {c = add least text} (h, refl) t

-- and so is a set
pub set_called : (p : Part) (lengths text : List ℕ) (q : Part) (r : Result (Unit {0}) SetError) (ts : List Try) → AddSet p lengths text (set_result q r ts) →
    {cs : List Call} {rs : List CallResult} → Chain q cs rs → Chain p (add_set lengths text ∷ cs) (set_result q r ts ∷ rs)
set_called p lengths text q r ts h t = call h t

-- and so are a reservation, a commit and a withdrawal
pub reserve_called : (p : Part) (text : List ℕ) (q : Part) (r : Result (Unit {0}) AddError) (ts : List Try) → Reserve p text (adding_result q r ts) →
    {cs : List Call} {rs : List CallResult} → Chain q cs rs → Chain p (reserve text ∷ cs) (adding_result q r ts ∷ rs)
reserve_called p text q r ts h t = call h t

pub commit_called : (p : Part) (text : List ℕ) (q : Part) (r : Result (Unit {0}) AddError) (ts : List Try) → Commit p text (adding_result q r ts) →
    {cs : List Call} {rs : List CallResult} → Chain q cs rs → Chain p (commit text ∷ cs) (adding_result q r ts ∷ rs)
commit_called p text q r ts h t = call h t

pub withdraw_called : (p q : Part) (r : Result (Unit {0}) AddError) → adding_result q r [] ≡ withdrawn p → {cs : List Call} {rs : List CallResult} → Chain q cs rs →
    Chain p (withdraw ∷ cs) (adding_result q r [] ∷ rs)
withdraw_called p q r h t = call h t

-- THE GUARANTEE OF A RESERVATION, and the same at the code's calls: `Part::reserve` left the part q and gave h, and `Part::commit` on the
-- last part left the part o and gave r
pub guaranteed : (p : Part) → Shaped p → (text : List ℕ) → Guaranteed p text
guaranteed = reservation_fits

pub reserved_commit : (p : Part) → Shaped p → (text : List ℕ) (q : Part) (h : Result (Unit {0}) AddError) (ts : List Try) → Reserve p text (adding_result q h ts) →
    h ≡ Ok tt → (cs : List Call) (rs : List CallResult) → Chain q cs rs → StillOpen cs rs → (o : Part) (r : Result (Unit {0}) AddError) (us : List Try) →
    Commit (final q rs) text (adding_result o r us) → r ≢ Err Full
reserved_commit p shape text q h ts promise a cs rs chain still o r us committed e =
    guaranteed p shape text (adding_result q h ts) promise (ap adding_answer a) cs rs chain still (adding_result o r us) committed 0 (ap adding_answer e)

-- from an opening, the used count is the sum of the least numbers of the accepted sheets
pub opened_used : (k capacity : ℕ) → (opened k capacity).answer ≡ accepted → (cs : List Call) (rs : List CallResult) →
    Chain (opened k capacity).part cs rs → Total (accepted_in rs) (last_part k capacity rs).used
opened_used k capacity a cs rs h =
    let u = (demand_3 (opened k capacity).part (opened_shaped k capacity) cs rs h).used in
    let i : u.0 ≡ (last_part k capacity rs).used = omega (arith, u.2, ap (λ p. p.used) (opened_empty k capacity a)) in
    subst (Total (accepted_in rs)) i u.1

-- from a sound part on, every part is sound
pub chain_sound : {p : Part} {cs : List Call} {rs : List CallResult} → Chain p cs rs → Shaped p → Sound p → Every (λ r. Sound r.part) rs
chain_sound done f h = every_none _
chain_sound {p} (call {c = c} {r = r} g t) f h =
    let k = call_kept p f c r g in
    every_cons (k.sound h) (chain_sound t k.shaped (k.sound h))

-- a part that is not sound stays as it is, and every answer is 20
pub unsound_start : {p : Part} {cs : List Call} {rs : List CallResult} → Chain p cs rs → ¬ (Sound p) → Every (λ r. (r.part ≡ p) × (r.answer ≡ refused 20 0)) rs
unsound_start done n = every_none _
unsound_start {p} (call {c = c} {r = r} {rs = rs} h t) n =
    let e = unsound_call p c r h n in
    every_cons e (subst (λ q. Every (λ x. (x.part ≡ q) × (x.answer ≡ refused 20 0)) rs) e.0 (unsound_start t (subst (λ q. ¬ (Sound q)) (sym e.0) n)))

-- all answers of a list of calls that add in one way are settled, with the positions of refused sheets, whatever covers were taken. With adds of both
-- ways in it they need not be: which least cover is taken is free, and so is the level of the net that it drives.
pub same_answers : (w : Way) (p : Part) → Shaped p → (cs : List Call) → Every (AddsBy w) cs → (rs ts : List CallResult) → Chain p cs rs → Chain p cs ts →
    map seen rs ≡ map seen ts
same_answers w p f cs b rs ts h g = (answers_determined w b h g f f (alike_refl w p)).0

-- and where each is added with its fewest levels, so is the level of every net at the end
pub same_levels : (p : Part) → Shaped p → (cs : List Call) → Every (AddsBy fastest) cs → (rs ts : List CallResult) → Chain p cs rs → Chain p cs ts →
    (n : ℕ) → IsNet n → code_levels code_base (tables_of (final p rs)) n ≡ code_levels code_base (tables_of (final p ts)) n
same_levels p f cs b rs ts h g = (answers_determined fastest b h g f f (alike_refl fastest p)).1.levels

-- and no promise is contradictory
pub promises_possible : (p : Part) (cs : List Call) → (rs : List CallResult) × Chain p cs rs
promises_possible = chain_possible

-- the sheets of a set that were tried, each as an add of its own, are a list of calls with the same parts and answers (02, #106: "as if those
-- before it had been added")
pub set_adds : (p : Part) (lengths text : List ℕ) (r : CallResult) → AddSet p lengths text r → Chain p (map (λ t. add t.way t.text) r.tries) (map own_call r.tries)
set_adds p lengths text r h = line_chain (call_line p (add_set lengths text) r h) (set_tries p lengths text r (set_case p lengths text r h))
