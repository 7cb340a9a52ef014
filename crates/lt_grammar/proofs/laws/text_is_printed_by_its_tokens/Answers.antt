use Rattle.lt_grammar.proofs.PrintedText.{prints_its_tokens}
use Rattle.lt_grammar.proofs.laws.text_is_printed_by_its_tokens.Goals as goal

pub returns : goal.returns
returns c = prints_its_tokens
