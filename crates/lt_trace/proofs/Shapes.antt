-- What is told has the shape of the scenario's traces.
use Rattle.std.proofs.Common.{inl, inr, ℕ, List, All, length, sym, subst}
use Rattle.std.proofs.lemmas.List.Elements.{All-nil, All-push}
use Rattle.lt_rif.specs.declared.end.End.{End}
use Rattle.lt_rif.specs.declared.end.End.TheVariants as end
use Rattle.lt_trace.specs.End.{MayTell, recorded_of}
use Rattle.lt_trace.specs.Laws.{TracesHaveTheirShape}
use Rattle.lt_trace.specs.Lines.{AreLines, HasShape, IsNamedEnd, Place, at_end, at_inputs, at_locals, at_outputs, at_rule, at_seed, at_step, at_values, no_line, one_more}
use Rattle.lt_trace.specs.Shape.{IsShown, Shape}
use Rattle.lt_trace.proofs.Headers.{Says, says}

-- what was told up to a place has the shape
abbrev Fits : Shape → Place → Type 0
Fits shape (at_step steps) = All (IsShown shape) steps
Fits shape (at_values steps) = All (IsShown shape) steps
Fits shape (at_end t) = HasShape shape t
Fits shape p = Unit {0}

end-named : (e : End) (names : List (List ℕ)) (steps : ℕ) → MayTell e names steps → IsNamedEnd (recorded_of e) (length names)
end-named (end.Raise z) names steps may = may.0
end-named end.Normal names steps may = tt
end-named end.Limit names steps may = tt
end-named end.Oracle names steps may = tt
end-named end.Deadlock names steps may = tt
end-named (end.Fault f) names steps may = tt
end-named end.TooLarge names steps may = tt
end-named (end.Malformed w f place) names steps may = tt
end-named (end.Ended w taken) names steps may = tt
end-named (end.Device w) names steps may = tt
end-named (end.Budget need) names steps may = tt

next-fits : (shape : Shape) (p q : Place) (text : List ℕ) → Fits shape p → Says shape p text q → Fits shape q
next-fits shape at_seed q text fits s = subst (Fits shape) (sym s.3) tt
next-fits shape at_rule q text fits (inl s) = subst (Fits shape) (sym s.2) tt
next-fits shape at_rule q text fits (inr s) = subst (Fits shape) (sym s.1) tt
next-fits shape at_outputs q text fits s = subst (Fits shape) (sym s.1) tt
next-fits shape at_inputs q text fits s = subst (Fits shape) (sym s.1) tt
next-fits shape at_locals q text fits s = subst (Fits shape) (sym s.1) (All-nil (IsShown shape))
next-fits shape (at_step steps) q text fits (inl s) = subst (Fits shape) (sym s.1) fits
next-fits shape (at_step steps) q text fits (inr s) =
    subst (Fits shape) (sym s.2)
    (record { steps = fits; end = subst (λ r. IsNamedEnd r (length shape.exceptions)) (sym s.1.3) (end-named s.1.0 shape.exceptions (length steps) s.1.1) })
next-fits shape (at_values steps) q text fits s = subst (Fits shape) (sym s.3) (All-push (IsShown shape) steps s.0 fits s.1)
next-fits shape (at_end t) q text fits s = absurd s

lines-fit : {shape : Shape} {front : List ℕ} {n : ℕ} {p : Place} → AreLines shape front n p → Fits shape p
lines-fit no_line = tt
lines-fit {shape} (one_more front text n p q lines on l) = next-fits shape p q text (lines-fit lines) (says l)

pub traces_have_their_shape : TracesHaveTheirShape
traces_have_their_shape shape text t is = lines-fit is.1
