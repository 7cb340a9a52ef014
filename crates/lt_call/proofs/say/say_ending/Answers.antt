use Rattle.std.proofs.Common.{codes, map, rules, string_bytes, subst}
use Rattle.lt_io.specs.Sending.{AppendsProperPrefix}
use Rattle.lt_call.specs.Lines.{end_text}
use Rattle.lt_call.proofs.Ends.{line_of_end}
use Rattle.lt_call.proofs.Texts.{IsPut-behind, IsPut-same, OnErr-of, part_in_front}
use Rattle.lt_call.proofs.say.say_ending.Goals as goal

pub returns-in_ok-put-in_default : goal.returns-in_ok-put-in_default
returns-in_ok-put-in_default g c =
    let names = map string_bytes c.args.names.now in
    let e = c.args.ending in
    IsPut-same c.say_end.result _ _ _ _ (line_of_end e.end names e.at c.in_default.not-Normal c.in_default.not-Limit)
    (IsPut-behind c.say_end.result _ _ _ (codes "lurette: ") (end_text e.end names e.at) c.in_ok-put-in_default.ensures.all c.in_ok-put-in_default.ensures.cause.calm c.say_end.ensures)

pub returns-in_err-put-in_default : goal.returns-in_err-put-in_default
returns-in_err-put-in_default g c =
    let names = map string_bytes c.args.names.now in
    let e = c.args.ending in
    let old = (g.M.Sink.state c.args.says.now).written in
    let new = (g.M.Sink.state c.put.new.sink).written in
    record {
      all = search rules;
      prefix =
          OnErr-of c.from_residual.result _
          (subst (λ t. AppendsProperPrefix old new t) (line_of_end e.end names e.at c.in_default.not-Normal c.in_default.not-Limit) (part_in_front (codes "lurette: ") (end_text e.end names e.at) old new c.in_err-put-in_default.ensures.prefix));
      cause = search rules;
    }
