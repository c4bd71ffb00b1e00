-- What the program for the fewest levels prints is a list of adds, of all sheets of the input up to the first refusal: demands 2 and 3 hold of it. And it is settled
-- by the rules, its slack lines wholly, but for which of the fastest covers are taken.
use Rattle.std.specs.Prelude.{ℕ, ◌<◌, ◌^◌, ◌≡◌, refl, Bool, true, false, cond, List, ◌++◌, take, drop}
use Rattle.std.proofs.Common.{sym, ap, ap₂, ◌∙◌, subst}
use Rattle.std.proofs.Math.Option.{Option, none, some}
use Rattle.decimal.specs.Trusted.Number.{Number}
use Rattle.tree.specs.Trusted.Limits.{code_base}
use Rattle.cover.specs.Trusted.Tables.{code_levels}
use Rattle.list_line.specs.Line.{top_line}
use Rattle.part.specs.Trusted.Parts.{tables_of, Shaped}
use Rattle.part.specs.Trusted.Ways.{fastest}
use Rattle.part.specs.Trusted.Answers.{Answer, accepted, refused}
use Rattle.part.specs.Trusted.Add.{opened, Add}
use Rattle.part.proofs.WayLaws.{reading_right}
use Rattle.part.specs.declared.Part.{Part}
use Rattle.demands.specs.Determined.{Alike}
use Rattle.demands.proofs.DeterminedLaws.{alike_refl, add_alike, fastest_alike}
use Rattle.demands.specs.KeptLaws.{refused_stays}
use Rattle.demands.proofs.TryLaws.{same_sheet}
use Rattle.levels.specs.Trusted.Levels.{Fastest}
use Rattle.levels.proofs.Fastest.{fastest_unique}
use Rattle.opening.specs.Trusted.Opening.{count}
use Rattle.printing.specs.Trusted.RefusalLine.{refusal_line}
use Rattle.slacks.specs.Trusted.Slack.{slack_line, slack_lines}
use Rattle.fast_opening.specs.Trusted.FastOpening.{fast_numbers, is_wanted, unopened, wanted_after, fast_opened_by}
use Rattle.fast_program.specs.Trusted.FastProgram.{fast_list, FastAfter, FastPrints}
use Rattle.fast_laws.specs.Trusted.RunsBy.{refusal}
use Rattle.fast_laws.proofs.RunsByLaws.{shown_run, runs_settled, no_refusal, refusal_alone}
use Rattle.fast_laws.specs.Trusted.FastRuns.{FastRun, FastDetermined}
use Rattle.fast_laws.proofs.SlackLineLaws.{LineAdded, line_added, slack_lines_lem}

-- ---- the adds

-- what is printed after an opening whose K and capacity are accepted, by the test of the wanted level
abbrev AfterWanted : Part → Number → Bool → List ℕ → List ℕ → Type 0
AfterWanted p z b text out = FastAfter (cond b (record { part = p; answer = accepted; wanted = z.magnitude }) (unopened 34)) text out

-- THE ADDS BEHIND WHAT IS PRINTED
pub fast_prints_run : (input out : List ℕ) (x y z : Number) → fast_numbers input ≡ some (x, y, z) → (opened (count x) (count y)).answer ≡ accepted → is_wanted z ≡ true →
    FastPrints input out → FastRun z.magnitude (count x) (count y) (drop 19 input) out
fast_prints_run input out x y z e a w h =
    let k = count x in
    let capacity = count y in
    let part = (opened k capacity).part in
    let text = drop 19 input in
    shown_run k capacity text out a
    (subst (λ b. AfterWanted part z b text out) w
    (subst (λ c. FastAfter (wanted_after c part z) text out) a
    (subst (λ o. FastAfter (fast_opened_by o) text out) e h)))

-- ---- what is settled

-- it begins with line 0
fast_top : (wanted : ℕ) (p : Part) → take 19 (fast_list wanted p) ≡ top_line p.k p.capacity p.used
fast_top wanted p = refl

module _ (wanted : ℕ) where
  -- parts that differ in nothing that an answer depends on, with the same slack lines
  abbrev AlikeSlacks : Part → Part → Type 0
  AlikeSlacks p q = Alike fastest p q × (slack_lines wanted p ≡ slack_lines wanted q)

  -- an add to both leaves them so
  slacks_alike : (p q : Part) → Shaped p → Shaped q → AlikeSlacks p q → (text : List ℕ) (p' q' : Part) (a b : Answer) → Add fastest p text p' a → Add fastest q text q' b →
      (a ≡ b) × AlikeSlacks p' q'
  slacks_alike p q f g l text p' q' a b h i =
      let x = add_alike fastest p q f g l.0 text p' q' a b h i in
      (x.0, (x.1, same a refl (sym x.0)))
    where
      taken : LineAdded wanted p text p' → LineAdded wanted q text q' → slack_lines wanted p' ≡ slack_lines wanted q'
      taken u v =
          let s = same_sheet u.read v.read in
          let r = fastest_alike p q u.sheet (reading_right fastest text u.sheet u.read) l.0 u.least_root in
          let d = (fastest_unique r (subst (λ c. Fastest (code_levels code_base (tables_of q)) q.k c.tree v.number v.root) (sym s) v.least_root)).1 in
          u.lines ∙ ap₂ ◌++◌ l.1 (λ j. slack_line wanted (s j).out (d j)) ∙ sym v.lines

      same : (c : Answer) → a ≡ c → b ≡ a → slack_lines wanted p' ≡ slack_lines wanted q'
      same accepted e j =
          taken (line_added wanted p f text p' (subst (Add fastest p text p') e h)) (line_added wanted q g text q' (subst (Add fastest q text q') (j ∙ e) i))
      same (refused number place) e j =
          ap (slack_lines wanted) (refused_stays fastest p text p' a number place h e) ∙ l.1
          ∙ sym (ap (slack_lines wanted) (refused_stays fastest q text q' b number place i (j ∙ e)))

module _ (input a b : List ℕ) (x y z : Number) (good : fast_numbers input ≡ some (x, y, z)) where
  abbrev start : Part
  start = (opened (count x) (count y)).part

  wanted_settled : (opened (count x) (count y)).answer ≡ accepted → (t : Bool) → is_wanted z ≡ t → AfterWanted start z t (drop 19 input) a → AfterWanted start z t (drop 19 input) b →
      FastDetermined input a b
  wanted_settled e true w h i =
      runs_settled (AlikeSlacks z.magnitude) (λ p q g. g.0) (slacks_alike z.magnitude) (fast_list z.magnitude) (fast_top z.magnitude) (count x) (count y) e
      (alike_refl fastest start, refl) (shown_run (count x) (count y) (drop 19 input) a e h) (shown_run (count x) (count y) (drop 19 input) b e i)
      (λ l g. (
        x,
        y,
        z,
        good,
        w,
        record {
          both = l;
          slacks = slack_lines_lem z.magnitude (count x) (count y) e l.one.texts l.one.chain l.all_accepted.0;
          same_slacks = g.1;
        },
      ))
  wanted_settled e false w h i = refusal 34 0 0 h i

  opening_settled : (c : Answer) → (opened (count x) (count y)).answer ≡ c → FastAfter (wanted_after c start z) (drop 19 input) a →
      FastAfter (wanted_after c start z) (drop 19 input) b → FastDetermined input a b
  opening_settled accepted e h i = wanted_settled e (is_wanted z) refl h i
  opening_settled (refused number place) e h i = refusal number 0 place h i

-- WHAT IS PRINTED IS SETTLED, but for which of the fastest covers are taken
pub fast_determined : (input a b : List ℕ) → FastPrints input a → FastPrints input b → FastDetermined input a b
fast_determined input a b = of (fast_numbers input) refl
  where
    of : (o : Option (Number × Number × Number)) → fast_numbers input ≡ o → FastAfter (fast_opened_by o) (drop 19 input) a → FastAfter (fast_opened_by o) (drop 19 input) b →
        FastDetermined input a b
    of none e h i = refusal 1 0 0 h i
    of (some n) e h i = opening_settled input a b n.0 n.1 n.2 e (opened (count n.0) (count n.1)).answer refl h i

-- WHERE ONE OUTPUT IS A REFUSAL, EVERY OUTPUT IS IT
pub fast_refusal_determined : (input b : List ℕ) (number sheet place : ℕ) → 0 < number → number < 10 ^ 5 → FastPrints input (refusal_line number sheet place) →
    FastPrints input b → b ≡ refusal_line number sheet place
fast_refusal_determined input b number sheet place h l p q =
    refusal_alone number sheet place (λ x. no_refusal (fast_list x.2.magnitude) (fast_top x.2.magnitude) number sheet place h l x.5.both)
    (fast_determined input (refusal_line number sheet place) b p q)
