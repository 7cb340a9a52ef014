use Rattle.std.proofs.Common.{None, map, refl, string_bytes, sym, ◌∙◌}
use Rattle.lt_rif.specs.declared.end.End.TheVariants as end
use Rattle.lt_trace.specs.inner.Ends.{FindsEnd, FindsRaise, plain_ends}
use Rattle.lt_trace.proofs.Ends.{nothing-told, raise-told}
use Rattle.lt_trace.proofs.ending.end_in.Goals as goal
use Rattle.lt_trace.proofs.ending.end_in.Goals.{then-is_false_verdict-via-then-is_false_verdict, then-is_false_verdict-via-else-is_false_verdict+then-is_given_up}

pub returns-in-Some-raise_in : goal.returns-in-Some-raise_in
returns-in-Some-raise_in c = raise-told (map string_bytes c.args.names.now) c.args.steps c.args.text.now c.in-Some-raise_in.exception c.in-Some-raise_in.ensures

pub returns-then-is_false_verdict : goal.returns-then-is_false_verdict
returns-then-is_false_verdict c =
    elim c.then-is_false_verdict.branch [
      | then-is_false_verdict-via-then-is_false_verdict w ↦ let h = c.is_false_verdict.ensures.yes w.if-is_false_verdict.true in (end.Oracle, h.0, h.1, refl)
      | then-is_false_verdict-via-else-is_false_verdict+then-is_given_up w ↦ let h = w.is_given_up.ensures.yes w.if-is_given_up.true in (end.Budget h.0, h.1, h.2, refl)
    ]

pub returns : goal.returns
returns c =
    let f : FindsEnd plain_ends (map string_bytes c.args.names.now) c.args.steps c.args.text.now None = rw c.in_default.is at c.plain_end.ensures in
    let g : FindsRaise (map string_bytes c.args.names.now) c.args.steps c.args.text.now None = rw c.in_default-raise_in.is at c.raise_in.ensures in
    nothing-told (map string_bytes c.args.names.now) c.args.steps c.args.text.now f g
    (λ l h. cc (sym (c.is_false_verdict.ensures.no l h) ∙ c.if-is_false_verdict.false))
    (λ need small h. cc (sym (c.is_given_up.ensures.no need small h) ∙ c.if-is_given_up.false))
