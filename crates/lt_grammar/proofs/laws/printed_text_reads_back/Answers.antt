use Rattle.lt_grammar.proofs.PrintedText.{printed_reads_back}
use Rattle.lt_grammar.proofs.laws.printed_text_reads_back.Goals as goal

pub returns : goal.returns
returns c = printed_reads_back
