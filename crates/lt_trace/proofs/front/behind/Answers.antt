use Rattle.lt_trace.proofs.Fronts.{stripped}
use Rattle.lt_trace.proofs.front.behind.Goals as goal

pub returns : goal.returns
returns c = stripped (λ rest. rest.now) c.args.text.now c.args.front.now c.strip_prefix.result c.strip_prefix.ensures.cases
