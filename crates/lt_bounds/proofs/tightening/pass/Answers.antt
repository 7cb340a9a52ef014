use Rattle.std.proofs.Common.{rules, ◌<◌, length, refl, sym, ◌∙◌}
use Rattle.lt_bounds.proofs.Passes.{in_row, whole_rest, turn, reach_first}
use Rattle.lt_bounds.proofs.Steps.{narrower_same, narrower_more, narrower_some, narrower_length, reaches_less}
use Rattle.lt_bounds.proofs.tightening.pass.Goals as goal

pub loop-rest-init : goal.loop-rest-init
loop-rest-init c =
    rw c.deref-rest.ensures.value (record { left = refl; whole = c.requires.whole; reaches = c.requires.reaches; narrower = narrower_same c.args.ranges.now c.requires.some; same = λ e. refl })

pub split_at-requires : goal.split_at-requires
split_at-requires c = in_row c.args.rows.now.width c.loop-rest.rest.now c.loop-rest.ranges c.loop-rest.invariant.whole (search rules)

pub take_row-requires-clause-some : goal.take_row-requires-clause-some
take_row-requires-clause-some c = narrower_some _ _ c.loop-rest.invariant.narrower

pub take_row-requires-clause-reach : goal.take_row-requires-clause-reach
take_row-requires-clause-reach c =
    (reach_first c.args.rows.now.width c.loop-rest.rest.now c.split_at.result.0.now c.split_at.result.1.now c.loop-rest.ranges c.loop-rest.invariant.whole (search rules) c.split_at.ensures.front c.split_at.ensures.back c.loop-rest.invariant.reaches).0

pub returns-in-Empty-clause-outcome : goal.returns-in-Empty-clause-outcome
returns-in-Empty-clause-outcome c =
    sym (turn c.args.rows.now.width c.loop-rest.rest.now c.split_at.result.0.now c.split_at.result.1.now c.loop-rest.ranges _ _ c.loop-rest.invariant.whole (search rules) c.split_at.ensures.front c.split_at.ensures.back c.in-Empty.ensures.outcome c.loop-rest.invariant.left)

pub returns-in-Empty-clause-narrower : goal.returns-in-Empty-clause-narrower
returns-in-Empty-clause-narrower c = narrower_more _ _ _ c.loop-rest.invariant.narrower c.take_row.ensures.narrower

pub loop-rest-preserved-in-Changed : goal.loop-rest-preserved-in-Changed
loop-rest-preserved-in-Changed c =
    let some : 0 < length c.loop-rest.rest.now = search rules in
    let reaches = (reach_first c.args.rows.now.width c.loop-rest.rest.now c.split_at.result.0.now c.split_at.result.1.now c.loop-rest.ranges c.loop-rest.invariant.whole some c.split_at.ensures.front c.split_at.ensures.back c.loop-rest.invariant.reaches).1 in
    record {
      left = turn c.args.rows.now.width c.loop-rest.rest.now c.split_at.result.0.now c.split_at.result.1.now c.loop-rest.ranges _ _ c.loop-rest.invariant.whole some c.split_at.ensures.front c.split_at.ensures.back c.in-Changed.ensures.outcome c.loop-rest.invariant.left;
      whole = whole_rest c.args.rows.now.width c.loop-rest.rest.now _ c.loop-rest.ranges _ c.loop-rest.invariant.whole some c.split_at.ensures.back (narrower_length _ _ c.take_row.ensures.narrower);
      reaches = reaches_less _ _ _ c.take_row.ensures.narrower reaches;
      narrower = narrower_more _ _ _ c.loop-rest.invariant.narrower c.take_row.ensures.narrower;
      same = λ e. absurd (cc);
    }

pub loop-rest-preserved : goal.loop-rest-preserved
loop-rest-preserved c =
    let some : 0 < length c.loop-rest.rest.now = search rules in
    let reaches = (reach_first c.args.rows.now.width c.loop-rest.rest.now c.split_at.result.0.now c.split_at.result.1.now c.loop-rest.ranges c.loop-rest.invariant.whole some c.split_at.ensures.front c.split_at.ensures.back c.loop-rest.invariant.reaches).1 in
    record {
      left = turn c.args.rows.now.width c.loop-rest.rest.now c.split_at.result.0.now c.split_at.result.1.now c.loop-rest.ranges _ _ c.loop-rest.invariant.whole some c.split_at.ensures.front c.split_at.ensures.back c.in-Kept.ensures.outcome c.loop-rest.invariant.left;
      whole = whole_rest c.args.rows.now.width c.loop-rest.rest.now _ c.loop-rest.ranges _ c.loop-rest.invariant.whole some c.split_at.ensures.back (narrower_length _ _ c.take_row.ensures.narrower);
      reaches = reaches_less _ _ _ c.take_row.ensures.narrower reaches;
      narrower = narrower_more _ _ _ c.loop-rest.invariant.narrower c.take_row.ensures.narrower;
      same = λ e. c.in-Kept.ensures.kept tt ∙ c.loop-rest.invariant.same e;
    }
