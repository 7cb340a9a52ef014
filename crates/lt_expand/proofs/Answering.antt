-- What is answered of a node that is within the limits, by what is judged of it and how many runs its nest has.
use Rattle.std.proofs.Common.{◌≡◌, ℕ, true, false, nat_le, List, [], ◌∷◌, ◌++◌, Some, Err, map, slice_get, refl, ap, ◌∙◌}
use Rattle.std.specs.Option.{option_or}
use Rattle.lt_macros.specs.Expanded.{Node}
use Rattle.lt_macros.specs.Failing.{unless}
use Rattle.lt_macros.specs.Limits.{passed_limits}
use Rattle.lt_expand.specs.Answer.{IsAnswer}
use Rattle.lt_expand.specs.Nested.{most_runs}
use Rattle.lt_expand.specs.Refusals.{refusals_of}
use Rattle.lt_expand.specs.declared.refusal.ExpandRefusal.{ExpandRefusal}
use Rattle.lt_expand.specs.declared.refusal.ExpandRefusal.TheVariants.{UnknownNode, TooLarge, BadStatic, NonLinear, ControllableArgument, ControllableCondition, ControllableWeight, TooManyRuns, Memory}
use Rattle.lt_expand.specs.inner.Firsts.{first}
use Rattle.lt_expand.specs.inner.Places.{IsFirst, judged_refusals}
use Rattle.lt_expand.proofs.Firsts.{first-append}

-- nothing is refused
pub nothing_refused : (n runs : ℕ) (node : Node) → passed_limits node ≡ [] → judged_refusals n node ≡ [] → nat_le runs most_runs ≡ true → refusals_of n runs (Some node) ≡ []
nothing_refused n runs node limits judged few = λ i. (map TooLarge (limits i) ++ judged i) ++ unless (few i) TooManyRuns

-- its runs are too many
pub runs_refused : (n runs : ℕ) (node : Node) → passed_limits node ≡ [] → judged_refusals n node ≡ [] → nat_le runs most_runs ≡ false → slice_get (refusals_of n runs (Some node)) 0 ≡ Some TooManyRuns
runs_refused n runs node limits judged few = λ i. slice_get ((map TooLarge (limits i) ++ judged i) ++ unless (few i) TooManyRuns) 0

-- what is judged is refused
first_got : {X : Type 0} (xs : List X) → slice_get xs 0 ≡ first xs
first_got [] = refl
first_got (x ∷ xs) = refl

judged_first : (n runs : ℕ) (node : Node) (r : ExpandRefusal) → passed_limits node ≡ [] → first (judged_refusals n node) ≡ Some r → slice_get (refusals_of n runs (Some node)) 0 ≡ Some r
judged_first n runs node r limits h =
    let more = unless (nat_le runs most_runs) TooManyRuns in
    first_got (refusals_of n runs (Some node))
    ∙ (λ i. first ((map TooLarge (limits i) ++ judged_refusals n node) ++ more))
    ∙ first-append (judged_refusals n node) more
    ∙ ap (λ o. option_or o (first more)) h

pub judged_refused : (n runs : ℕ) (node : Node) (r : ExpandRefusal) → passed_limits node ≡ [] → IsFirst (Err r) (judged_refusals n node) → IsAnswer n runs (Some node) (Err r)
judged_refused n runs node Memory limits h = tt
judged_refused n runs node UnknownNode limits h = judged_first n runs node UnknownNode limits h
judged_refused n runs node (TooLarge l) limits h = judged_first n runs node (TooLarge l) limits h
judged_refused n runs node (BadStatic at) limits h = judged_first n runs node (BadStatic at) limits h
judged_refused n runs node (NonLinear at) limits h = judged_first n runs node (NonLinear at) limits h
judged_refused n runs node (ControllableCondition at) limits h = judged_first n runs node (ControllableCondition at) limits h
judged_refused n runs node (ControllableWeight at) limits h = judged_first n runs node (ControllableWeight at) limits h
judged_refused n runs node (ControllableArgument at) limits h = judged_first n runs node (ControllableArgument at) limits h
judged_refused n runs node TooManyRuns limits h = judged_first n runs node TooManyRuns limits h
