use Rattle.std.proofs.Common.{◌+◌, ◌-◌, refl, sym, ◌∙◌, ap, arith}
use Rattle.lt_bounds.specs.Rows.{rows_of}
use Rattle.lt_bounds.specs.Tightening.{rows_taken}
use Rattle.lt_bounds.proofs.Passes.{passes_more, passes_kept, passes_none, whole_same}
use Rattle.lt_bounds.proofs.Steps.{narrower_same, narrower_more, narrower_some, narrower_length, reaches_less}
use Rattle.lt_bounds.proofs.tightening.tighten.Goals as goal

pub loop-init : goal.loop-init
loop-init c = record { left = refl; narrower = narrower_same c.args.ranges.now c.requires.some }

pub pass-requires : goal.pass-requires
pass-requires c = record {
  whole = whole_same _ _ _ _ c.requires.whole (narrower_length _ _ c.loop.invariant.narrower);
  some = narrower_some _ _ c.loop.invariant.narrower;
  reaches = reaches_less _ _ _ c.loop.invariant.narrower c.requires.reaches;
}

pub returns-in-Empty : goal.returns-in-Empty
returns-in-Empty c = record {
  outcome = sym (c.loop.invariant.left ∙ passes_more _ (7 - c.loop.counter) (rows_of c.args.rows.now) c.loop.ranges _ (omega arith) (sym c.in-Empty.ensures.outcome));
  narrower = narrower_more _ _ _ c.loop.invariant.narrower c.pass.ensures.narrower;
}

pub returns-in-Kept : goal.returns-in-Kept
returns-in-Kept c = record {
  outcome = sym (c.loop.invariant.left ∙ passes_more _ (7 - c.loop.counter) (rows_of c.args.rows.now) c.loop.ranges _ (omega arith) (sym c.in-Kept.ensures.outcome)
      ∙ passes_kept (7 - c.loop.counter) (rows_of c.args.rows.now) c.pass.new.ranges (ap (rows_taken (rows_of c.args.rows.now)) (c.in-Kept.ensures.kept tt) ∙ sym c.in-Kept.ensures.outcome));
  narrower = narrower_more _ _ _ c.loop.invariant.narrower c.pass.ensures.narrower;
}

pub loop-preserved : goal.loop-preserved
loop-preserved c = record {
  left = c.loop.invariant.left ∙ passes_more _ (8 - (c.loop.counter + 1)) (rows_of c.args.rows.now) c.loop.ranges _ (omega arith) (sym c.in-Changed.ensures.outcome);
  narrower = narrower_more _ _ _ c.loop.invariant.narrower c.pass.ensures.narrower;
}

pub returns : goal.returns
returns c = record {
  outcome = sym (c.loop.invariant.left ∙ passes_none _ (rows_of c.args.rows.now) c.loop.ranges (omega arith));
  narrower = c.loop.invariant.narrower;
}
