use Rattle.lt_typing_laws.proofs.Spelled.{texts_keep_types}
use Rattle.lt_typing_laws.proofs.text_laws.texts_keep_types.Goals as goal

pub returns : goal.returns
returns c = texts_keep_types c.spelled_macros_fit.ensures c.expansion_keeps_types.ensures
