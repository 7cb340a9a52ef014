use Rattle.lt_term_laws.proofs.Scopes.{anew}
use Rattle.lt_term_laws.proofs.laws.scopes_begin_anew.Goals as goal

pub returns : goal.returns
returns c = anew
