-- Uses of names.
use Rattle.std.specs.Prelude.{◌≡◌, ◌<◌, ℕ, List, [], map}
use Rattle.std.specs.List.{sum_by}
use Rattle.std.specs.declared.option.Option.{Option}
use Rattle.std.specs.declared.option.Option.TheVariants.{None, Some}
use Rattle.std.specs.declared.boxed.Box.{Box}
use Rattle.std.specs.declared.alloc.Global.{Global}
use Rattle.lt_ast.specs.Syntax.{Word, Argument}
use Rattle.lt_ast.specs.declared.expr.Arg.{Arg}
use Rattle.lt_ast.specs.declared.expr.Args.{Args}
use Rattle.lt_macros.specs.Environment.{Environment, found}
use Rattle.lt_macros.specs.Denotation.{Denotation, standing_for, argument_denotation}
use Rattle.lt_macros.specs.inner.Phrase.{Phrase, phrase_denotation}
use Rattle.lt_macros.specs.inner.Work.{used, argument_work, phrase_work}
use Rattle.lt_macros.specs.inner.Size.{argument_size, phrase_size}

-- the arguments that the code has; a name alone has none
abbrev pub given : Option (Box Args Global) → List Arg
given None = []
given (Some args) = args.value.items.items

-- A phrase is the use of a name with such arguments: it stands for what the name does with them, and is more.
pub record IsUse (p : Phrase) (w : Word) (args : List Argument) : Type 0 where
  pub denotation : (env : Environment Denotation) → phrase_denotation env p ≡ standing_for w.span (found env.names w.text) (map (λ a. argument_denotation env a) args)
  pub work : (env : Environment ℕ) → used (found env.names w.text) (map (λ a. argument_work env a) args) < phrase_work env p
  pub size : sum_by argument_size args < phrase_size p
