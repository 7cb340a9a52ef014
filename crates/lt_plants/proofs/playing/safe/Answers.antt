-- What a line lacks.
use Rattle.lt_plants.proofs.Lines.{where_none, safe_needs_truth, safe_needs_truths, safe_needs_real}
use Rattle.lt_plants.proofs.playing.safe.Goals as goal

pub returns-in_err-prefix-clause-none : goal.returns-in_err-prefix-clause-none
returns-in_err-prefix-clause-none c = where_none _ _ (safe_needs_truth _ _ c.in_err-prefix.ensures.none)

pub returns-in_err-text-clause-none : goal.returns-in_err-text-clause-none
returns-in_err-text-clause-none c = where_none _ _ (safe_needs_truths _ c.args.line.now c.in_ok-prefix.prefix.now c.in_ok-prefix.heat c.in_ok-prefix.ensures.some c.in_err-text.ensures.none)

pub returns-in_err-temperature-clause-none : goal.returns-in_err-temperature-clause-none
returns-in_err-temperature-clause-none c =
    where_none _ _ (safe_needs_real _ c.args.line.now c.in_ok-prefix.prefix.now c.in_ok-text.text.now c.in_ok-text._door c.in_ok-prefix.heat c.in_ok-prefix.ensures.some c.in_ok-text.ensures.some c.in_err-temperature.ensures.none)
