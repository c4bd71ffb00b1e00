use Rattle.std.proofs.Common.{◌≡◌, ◌++◌, ◌∷◌, [], true, false, refl, sym, ◌∙◌, subst, length, get_or, take, arith, lt-ltb, le-ltb, length-take-le}
use Rattle.table.specs.Trusted.Records.{reads}
use Rattle.table.specs.Trusted.RecordTest.{keeps}
use Rattle.table.specs.PrefixTest.{empty_prefix, prefix_after}
use Rattle.table.specs.LevelTest.{noted_next, PrefixKept}
use Rattle.table.specs.LevelTestLaws.{levels_small}
use Rattle.table.specs.KeptLaws.{kept_none, kept_breaks, kept_wrong, kept_right, kept_after}
use Rattle.table.specs.WalkLaws.{before_next, run_full, run_stops, run_goes}
use Rattle.table.proofs.Shape.{past}
use Rattle.records.proofs.test_rules.Goals as goal
use Rattle.records.proofs.test_rules.Goals.{then-at-from-via-then-at-from, then-at-from-via-else-at-from+then-not-keeps_points}

pub loop-at-init : goal.loop-at-init
loop-at-init c = record {
  kept = subst (λ q. PrefixKept q c.args.levels.now []) (sym c.empty_prefix-prefix.ensures) (subst (λ l. PrefixKept empty_prefix l []) (sym c.requires.zeros) kept_none);
  rest = refl;
}

pub is_levelled-levelled-requires : goal.is_levelled-levelled-requires
is_levelled-levelled-requires c =
    let l = c.loop-at in
    (omega arith, levels_small l.levels _ l.invariant.kept.by_code)

pub returns-then-at-from-clause-verdict : goal.returns-then-at-from-clause-verdict
returns-then-at-from-clause-verdict c =
    let a = c.args in
    let l = c.loop-at in
    let t = get_or a.run.now l.at past in
    elim c.then-at-from.branch [
      | then-at-from-via-then-at-from w ↦ sym (l.invariant.rest ∙ run_full a.k a.capacity a.run.now l.at past (omega arith) (le-ltb l.at a.capacity (omega arith)))
      | then-at-from-via-else-at-from+then-not-keeps_points w ↦
          let e : keeps a.k (take l.at a.run.now) t ≡ false = kept_breaks l.invariant.kept a.k t (sym w.keeps_points.ensures ∙ w.if-not-keeps_points.true) in
          sym (l.invariant.rest ∙ run_stops a.k a.capacity a.run.now l.at past (omega arith) (lt-ltb l.at a.capacity (omega arith)) e)
    ]

pub returns-then-not-levelled-clause-verdict : goal.returns-then-not-levelled-clause-verdict
returns-then-not-levelled-clause-verdict c =
    let a = c.args in
    let l = c.loop-at in
    let t = get_or a.run.now l.at past in
    let points = sym c.keeps_points.ensures ∙ c.if-not-keeps_points.false in
    let e : keeps a.k (take l.at a.run.now) t ≡ false = kept_wrong l.invariant.kept a.k t points (sym c.is_levelled-levelled.ensures.0 ∙ c.if-not-levelled.true) in
    sym (l.invariant.rest ∙ run_stops a.k a.capacity a.run.now l.at past (omega arith) (lt-ltb l.at a.capacity (omega arith)) e)

pub loop-at-preserved : goal.loop-at-preserved
loop-at-preserved c =
    let a = c.args in
    let l = c.loop-at in
    let t = get_or a.run.now l.at past in
    let b = take l.at a.run.now in
    let n = c.is_levelled-levelled in
    let points = sym c.keeps_points.ensures ∙ c.if-not-keeps_points.false in
    let e : keeps a.k b t ≡ true = kept_right l.invariant.kept a.k t points (sym n.ensures.0 ∙ c.if-not-levelled.false) in
    let m : length b ≡ l.at = length-take-le l.at a.run.now (omega arith) in
    let h = kept_after l.invariant.kept a.k t points t.level (omega (arith, m)) in
    record {
      kept =
          rw (c.after-prefix.ensures, n.ensures.1, before_next a.k a.capacity a.run.now (length a.run.now) l.at (omega arith) past (omega arith))
          (subst (λ i. PrefixKept (prefix_after l.prefix t) (noted_next l.levels i t.net (reads t)) (b ++ t ∷ [])) m h);
      rest = l.invariant.rest ∙ run_goes a.k a.capacity a.run.now l.at past (omega arith) (lt-ltb l.at a.capacity (omega arith)) e;
    }
