-- What an answer of the code says of a list of broken rules.
use Rattle.std.specs.Prelude.{◌≡◌, List, [], Ok, Err}
use Rattle.std.specs.declared.option.Option.{Option}
use Rattle.std.specs.declared.option.Option.TheVariants.{Some}
use Rattle.std.specs.declared.result.Result.{Result}
use Rattle.lt_ast.specs.declared.group.TypeName.{TypeName}
use Rattle.lt_types.specs.Answer.{Leads}
use Rattle.lt_types.specs.declared.refusal.TypeRefusal.{TypeRefusal}

-- The answer is Ok where none of these rules is broken, and else it is the first one.
abbrev pub Checks : {X : Type 0} → Result X TypeRefusal → List TypeRefusal → Type 0
Checks (Ok x) rs = rs ≡ []
Checks (Err r) rs = Leads r rs

-- The answer is Ok with the type that is shown, or the first of these rules where one is broken.
abbrev pub Answers : Result TypeName TypeRefusal → List TypeRefusal → Option TypeName → Type 0
Answers (Ok k) rs shown = (rs ≡ []) × (shown ≡ Some k)
Answers (Err r) rs shown = Leads r rs
