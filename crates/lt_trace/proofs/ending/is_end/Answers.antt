use Rattle.std.proofs.Common.{map, string_bytes, sym, ◌∙◌}
use Rattle.lt_trace.proofs.Fronts.{same_back, same_on}
use Rattle.lt_trace.proofs.Spaces.{end-words-back, end-words-on}
use Rattle.lt_trace.proofs.ending.is_end.Goals as goal

pub returns-clause-yes : goal.returns-clause-yes
returns-clause-yes c = λ h. end-words-on c.args.end (map string_bytes c.args.names.now) c.args.steps c.args.text.now (same_back c.args.text.now _ (sym c.has_words_of.ensures ∙ h))

pub returns-clause-no : goal.returns-clause-no
returns-clause-no c = λ h. c.has_words_of.ensures ∙ same_on c.args.text.now _ (end-words-back c.args.end (map string_bytes c.args.names.now) c.args.steps c.args.text.now h)
