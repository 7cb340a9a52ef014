use Rattle.std.proofs.Common.{rules, ap, ◌∙◌}
use Rattle.lt_args.proofs.Read.{word_or}
use Rattle.lt_args.proofs.found.word_in.Goals as goal

pub returns : goal.returns
returns c = ap (λ s. s.now) c.unwrap_or.ensures ∙ word_or c.option_in.result _ _ c.option_in.ensures (search rules)
