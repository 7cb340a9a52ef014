use Rattle.lt_trace.proofs.OneLine.{second-rule}
use Rattle.lt_trace.proofs.header.is_rule.Goals as goal

pub returns-else-eq-clause-no : goal.returns-else-eq-clause-no
returns-else-eq-clause-no c = λ draw e. second-rule c.args.text.now _ _ _ _ c.as_slice.ensures c.as_slice-else-eq.ensures c.eq.ensures c.if-eq.false c.eq-else-eq.ensures draw e
