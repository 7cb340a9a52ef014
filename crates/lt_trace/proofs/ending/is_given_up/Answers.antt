use Rattle.std.proofs.Common.{◌≡◌, ℕ, Some, None, map, string_bytes, subst, sym, ◌∙◌}
use Rattle.lt_rif.specs.Trace.{line}
use Rattle.lt_rif.specs.declared.end.End.TheVariants as end
use Rattle.lt_trace.specs.End.{end_line}
use Rattle.lt_trace.proofs.OneEnd.{need-words}
use Rattle.lt_trace.proofs.Spaces.{end-words-back}
use Rattle.lt_trace.proofs.ending.is_given_up.Goals as goal

pub returns-in-Some-clause-no : goal.returns-in-Some-clause-no
returns-in-Some-clause-no c = λ need small h.
    let names = map string_bytes c.args.names.now in
    let words = end-words-back (end.Budget need) names c.args.steps c.args.text.now h ∙ need-words need names c.args.steps in
    let both : Some need ≡ Some c.in-Some.need = sym (c.need_in.ensures need _ small words) ∙ c.in-Some.is in
    let same : need ≡ c.in-Some.need = cc in
    c.is_end.ensures.no (subst (λ (k : ℕ). line c.args.text.now ≡ end_line (end.Budget k) names c.args.steps) same h)

pub returns-in-None-clause-no : goal.returns-in-None-clause-no
returns-in-None-clause-no c = λ need small h.
    let names = map string_bytes c.args.names.now in
    let words = end-words-back (end.Budget need) names c.args.steps c.args.text.now h ∙ need-words need names c.args.steps in
    let both : Some need ≡ None = sym (c.need_in.ensures need _ small words) ∙ c.in-None.is in
    absurd (cc both)
