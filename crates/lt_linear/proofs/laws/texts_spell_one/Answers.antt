use Rattle.lt_linear.proofs.Spellings.{one_form}
use Rattle.lt_linear.proofs.laws.texts_spell_one.Goals as goal

pub returns : goal.returns
returns c = one_form
