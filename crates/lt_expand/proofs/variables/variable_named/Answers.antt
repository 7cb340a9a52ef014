use Rattle.lt_macros.specs.Tree.{declared}
use Rattle.lt_expand.proofs.Declares as lemmas
use Rattle.lt_expand.proofs.variables.variable_named.Goals as goal

pub invariant_of-result : goal.invariant_of-result
invariant_of-result c = record {
  sound = c.requires.fine.domain;
  begins = lemmas.begins c.args.decimals (declared c.args.declared.now) c.first_of.result c.requires.fine c.first_of.ensures;
}
