use Rattle.lt_parser.proofs.Steps.{not_sign}
use Rattle.lt_parser.proofs.atoms.expect.Goals as goal

pub returns-in-None-clause-reads : goal.returns-in-None-clause-reads
returns-in-None-clause-reads c = not_sign c.args.sign c.args.tokens.now c.in-None.ensures.found
