use Rattle.std.proofs.Common.{◌∙◌, sym}
use Rattle.lt_args.proofs.Numbers.{no_plus_before, read_no, read_whole}
use Rattle.lt_args.proofs.words.large_run.Goals as goal

pub returns-in-Ok-clause-is : goal.returns-in-Ok-clause-is
unfolding lib.Utf8.encode
returns-in-Ok-clause-is c =
    c.stress_of.ensures.is ∙ sym (read_whole c.args.word.now c.parse.result c.in-Ok.number (no_plus_before c.args.word.now c.if-starts_with.ensures.cases) c.parse.ensures.value.0 c.in-Ok.is)

pub returns-in-Err-clause-is : goal.returns-in-Err-clause-is
unfolding lib.Utf8.encode
returns-in-Err-clause-is c = read_no c.args.word.now c.parse.result c.in-Err.field-0 (no_plus_before c.args.word.now c.if-starts_with.ensures.cases) c.parse.ensures.value.0 c.in-Err.is
