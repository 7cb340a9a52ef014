use Rattle.std.proofs.Common.{ap, codes, option_map, string_bytes, ◌∙◌}
use Rattle.lt_rif.specs.Trace.{kind_text}
use Rattle.lt_trace.specs.inner.Front.{behind}
use Rattle.lt_trace.proofs.Fronts.{all_four, second_none, third_none}
use Rattle.lt_trace.proofs.front.behind_declared.Goals as goal

pub returns-in_err-rest-2 : goal.returns-in_err-rest-2
returns-in_err-rest-2 c =
    ap (option_map (λ rest. rest.now)) c.from_residual-in_err-rest-2.ensures
    ∙ second_none c.args.text.now (codes " \"") (string_bytes c.args.variable.now.name) (codes "\":") (kind_text c.args.variable.now.kind) c.in_ok-rest.rest.now c.in_ok-rest.ensures
    (c.in_err-rest-2.ensures ∙ ap (behind c.in_ok-rest.rest.now) c.as_bytes.ensures.value)

pub returns-in_err-rest-3 : goal.returns-in_err-rest-3
returns-in_err-rest-3 c =
    ap (option_map (λ rest. rest.now)) c.from_residual-in_err-rest-3.ensures
    ∙ third_none c.args.text.now (codes " \"") (string_bytes c.args.variable.now.name) (codes "\":") (kind_text c.args.variable.now.kind) c.in_ok-rest.rest.now c.in_ok-rest-2.rest.now c.in_ok-rest.ensures
    (c.in_ok-rest-2.ensures ∙ ap (behind c.in_ok-rest.rest.now) c.as_bytes.ensures.value) c.in_err-rest-3.ensures

pub returns : goal.returns
returns c =
    all_four c.args.text.now (codes " \"") (string_bytes c.args.variable.now.name) (codes "\":") (kind_text c.args.variable.now.kind) c.in_ok-rest.rest.now c.in_ok-rest-2.rest.now c.in_ok-rest-3.rest.now _ c.in_ok-rest.ensures
    (c.in_ok-rest-2.ensures ∙ ap (behind c.in_ok-rest.rest.now) c.as_bytes.ensures.value) c.in_ok-rest-3.ensures
    (c.behind-4.ensures ∙ ap (behind c.in_ok-rest-3.rest.now) c.kind_word.ensures)
