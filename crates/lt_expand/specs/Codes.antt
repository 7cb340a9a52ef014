-- The codes and places of refusals.
use Rattle.std.specs.Prelude.{ℕ, List, codes}
use Rattle.std.specs.declared.option.Option.{Option}
use Rattle.std.specs.declared.option.Option.TheVariants.{None, Some}
use Rattle.lt_expand.specs.declared.refusal.ExpandRefusal.{ExpandRefusal}
use Rattle.lt_expand.specs.declared.refusal.ExpandRefusal.TheVariants as r

-- the code of a refusal: `expand`, a point, and what it is called
abbrev pub expand_code : ExpandRefusal → List ℕ
expand_code r.UnknownNode = codes "expand.UnknownNode"
expand_code (r.TooLarge limit) = codes "expand.TooLarge"
expand_code (r.BadStatic at) = codes "expand.BadStatic"
expand_code (r.NonLinear at) = codes "expand.NonLinear"
expand_code (r.ControllableCondition at) = codes "expand.ControllableCondition"
expand_code (r.ControllableWeight at) = codes "expand.ControllableWeight"
expand_code r.Memory = codes "expand.Memory"
expand_code (r.ControllableArgument at) = codes "expand.ControllableArgument"
expand_code r.TooManyRuns = codes "expand.TooManyRuns"

-- where in the text the cause is, if that is at one place
abbrev pub expand_place : ExpandRefusal → Option ℕ
expand_place r.UnknownNode = None
expand_place (r.TooLarge limit) = None
expand_place (r.BadStatic at) = Some at.start
expand_place (r.NonLinear at) = Some at.start
expand_place (r.ControllableCondition at) = Some at.start
expand_place (r.ControllableWeight at) = Some at.start
expand_place r.Memory = None
expand_place (r.ControllableArgument at) = Some at.start
expand_place r.TooManyRuns = None
