use Rattle.std.proofs.Common.{ap, map, refl, rules, string_bytes, subst, sym, ◌∙◌}
use Rattle.lt_io.specs.Sending.{AppendsProperPrefix}
use Rattle.lt_call.specs.Lines.{fate_text}
use Rattle.lt_call.proofs.Says.{lines_of_fate, session_text, unstarted_said}
use Rattle.lt_call.proofs.Texts.{IsPut-behind, IsPut-same, OnErr-of, part_in_front}
use Rattle.lt_call.proofs.say.say_fate.Goals as goal

pub returns-in-Ran : goal.returns-in-Ran
returns-in-Ran g c =
    let names = map string_bytes c.args.names.now in
    let number = c.as_bytes-number.result.now in
    IsPut-same c.say_end.result _ _ _ _
    (lines_of_fate c.args.number c.args.fate names number _ (c.as_bytes-number.ensures.value ∙ c.format.ensures.text) (sym (ap (λ x. fate_text x names) c.in-Ran.is)))
    (IsPut-behind c.say_end.result _ _ _ (session_text number) _ c.in_ok-put_all.ensures.all c.in_ok-put_all.ensures.cause.calm c.say_end.ensures)

pub returns-in-Unstarted : goal.returns-in-Unstarted
returns-in-Unstarted g c =
    let names = map string_bytes c.args.names.now in
    let number = c.as_bytes-number.result.now in
    IsPut-same c.put_all-in-Unstarted.result _ _ _ _
    (lines_of_fate c.args.number c.args.fate names number _ (c.as_bytes-number.ensures.value ∙ c.format.ensures.text) (unstarted_said c.args.fate c.in-Unstarted.who c.who_word.result.now names c.in-Unstarted.is c.who_word.ensures))
    (IsPut-behind c.put_all-in-Unstarted.result _ _ _ (session_text number) _ c.in_ok-put_all.ensures.all c.in_ok-put_all.ensures.cause.calm c.put_all-in-Unstarted.ensures)

pub returns-in_err-put_all : goal.returns-in_err-put_all
returns-in_err-put_all g c =
    let names = map string_bytes c.args.names.now in
    let number = c.as_bytes-number.result.now in
    let old = (g.M.Sink.state c.args.says.now).written in
    let new = (g.M.Sink.state c.put_all.new.sink).written in
    let e = lines_of_fate c.args.number c.args.fate names number (fate_text c.args.fate names) (c.as_bytes-number.ensures.value ∙ c.format.ensures.text) refl in
    record {
      all = search rules;
      prefix = OnErr-of c.from_residual.result _ (subst (λ t. AppendsProperPrefix old new t) e (part_in_front (session_text number) (fate_text c.args.fate names) old new c.in_err-put_all.ensures.prefix));
      cause = search rules;
    }
