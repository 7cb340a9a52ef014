use Rattle.std.proofs.Common.{ap, ap₂, codes, ◌∙◌}
use Rattle.std.proofs.lemmas.Result.{IfOk-weaker}
use Rattle.clap.specs.Words.{with_rule}
use Rattle.lt_args.specs.Command.{with_number}
use Rattle.lt_args.proofs.command.command.Goals as goal

-- each step adds one argument
pub returns : goal.returns
returns c =
    let mode = c.in_ok-made.ensures ∙ ap₂ with_rule c.no_arguments.ensures c.placed.ensures.rule in
    let file = c.in_ok-made-2.ensures ∙ ap₂ with_rule mode c.placed-2.ensures.rule in
    let limit = c.in_ok-made-3.ensures ∙ ap₂ with_rule file c.limit.ensures.rule in
    let seed = c.in_ok-made-4.ensures ∙ ap₂ with_rule limit c.with_number.ensures.rule in
    let precision = c.in_ok-made-5.ensures ∙ ap₂ with_rule seed (c.with_number-2.ensures.rule ∙ ap (with_number (codes "precision") 0) c.from.ensures) in
    let budget = c.in_ok-made-6.ensures ∙ ap₂ with_rule precision c.with_number-3.ensures.rule in
    let node = c.in_ok-made-7.ensures ∙ ap₂ with_rule budget c.with_word.ensures.rule in
    let sut = c.in_ok-made-8.ensures ∙ ap₂ with_rule node c.with_word-2.ensures.rule in
    let oracle = c.in_ok-made-9.ensures ∙ ap₂ with_rule sut c.with_word-3.ensures.rule in
    let replay = c.in_ok-made-10.ensures ∙ ap₂ with_rule oracle c.with_word-4.ensures.rule in
    let locals = c.in_ok-made-11.ensures ∙ ap₂ with_rule replay c.locals.ensures.rule in
    let draw = c.in_ok-made-12.ensures ∙ ap₂ with_rule locals c.with_number-4.ensures.rule in
    IfOk-weaker c.with-13.result _ _ (λ made last. last ∙ ap₂ with_rule draw c.with_number-5.ensures.rule) c.with-13.ensures
