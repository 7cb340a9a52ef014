use Rattle.std.proofs.Common.{ℕ, List, ap, sym, ◌∙◌}
use Rattle.std.specs.Str.{bytes_eq}
use Rattle.lt_trace.proofs.Fronts.{same_behind, same_bytes, same_none}
use Rattle.lt_trace.proofs.front.is_numbered.Goals as goal

pub returns-in-Some : goal.returns-in-Some
returns-in-Some g c =
    let number = g.I.Integer.text c.args.number in
    c.eq.ensures ∙ ap (λ (t : List ℕ). bytes_eq c.in-Some.rest.now t) (c.as_bytes.ensures.value ∙ c.format.ensures.text) ∙ same_bytes c.in-Some.rest.now number
    ∙ sym (same_behind c.args.line.now c.args.mark.now c.in-Some.rest.now number (sym c.in-Some.ensures))

pub returns-in-None : goal.returns-in-None
returns-in-None g c = sym (same_none c.args.line.now c.args.mark.now (g.I.Integer.text c.args.number) (sym c.in-None.ensures))
