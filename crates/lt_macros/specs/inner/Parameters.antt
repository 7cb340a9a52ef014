-- Parameters and their arguments.
use Rattle.std.specs.Prelude.{◌≡◌, ℕ, List, map}
use Rattle.std.specs.Borrow.{Bor}
use Rattle.std.specs.declared.option.Option.{Option}
use Rattle.std.specs.declared.option.Option.TheVariants.{None, Some}
use Rattle.lt_ast.specs.Syntax as s
use Rattle.lt_ast.specs.Syntax.{Argument, Parameters}
use Rattle.lt_ast.specs.Letters.{letters}
use Rattle.lt_ast.specs.View.{groupings}
use Rattle.lt_ast.specs.declared.group.Groups.{Groups}
use Rattle.lt_ast.specs.declared.name.Name.{Name}
use Rattle.lt_macros.specs.Environment.{with_arguments}
use Rattle.lt_macros.specs.inner.Phrase.{argument_phrase}
use Rattle.lt_macros.specs.inner.Reading.{Reading, environment}
use Rattle.lt_macros.specs.declared.scope.Entry.{Entry}

-- the text of a name
abbrev pub name_text : Bor Name → List ℕ
name_text n = letters n.now.text

-- the parameters of a macro, where it has a list of them
abbrev pub parameters_view : Option Groups → Parameters
parameters_view None = s.no_parameters
parameters_view (Some gs) = s.parameters (groupings gs)

-- An environment has the arguments of a macro's use: it makes the outer one one in which the parameters are bound.
abbrev pub Binds : {S : Type 0} → Reading S → List Entry → List Entry → List (List ℕ) → List Argument → ℕ → ℕ → ℕ → Type 0
Binds r old new params args outer written number = environment r new number ≡ with_arguments params (map (λ a. r.phrase (environment r old written) (argument_phrase a)) args) (environment r old outer)
