use Rattle.std.proofs.Common.{◌≡◌, ℕ, Some, ◌++◌, ap, codes, decimal, sym, ◌∙◌}
use Rattle.lt_trace.proofs.Fronts.{same_back, same_on}
use Rattle.lt_trace.proofs.header.is_seed.Goals as goal

pub returns-in-Some-clause-yes : goal.returns-in-Some-clause-yes
returns-in-Some-clause-yes c = λ h. (c.in-Some.seed, c.in-Some.ensures.small, same_back c.args.text.now _ (sym c.is_numbered.ensures ∙ h))

pub returns-in-Some-clause-no : goal.returns-in-Some-clause-no
returns-in-Some-clause-no c = λ n small e.
    let both : Some n ≡ Some c.in-Some.seed = sym (c.seed_in.ensures.found n small e) ∙ c.in-Some.is in
    let same : n ≡ c.in-Some.seed = cc in
    c.is_numbered.ensures ∙ same_on c.args.text.now _ (e ∙ ap (λ (k : ℕ). codes "#seed " ++ decimal k) same)
