-- When all expressions of a term are well typed, by the kinds of the scenario's variables.
use Rattle.lt_num.specs.declared.kind.Kind.TheVariants as kind
use Rattle.lt_formula.specs.Expression.{Expression}
use Rattle.lt_formula.specs.Kinds.{Kinds}
use Rattle.lt_term.specs.Process.{Process, eps, dead, con, raise, seq, loop, count, any, pri, par, assert, exist, catch, try, Choices, no_choice, choice}
use Rattle.lt_term.specs.WellTyped.{HasKind}

-- All expressions of a term are well typed: constraints are truths, and weights are ints.
abbrev mutual
  pub IsTypedTerm : Kinds → Process Expression → Type 0
  IsTypedTerm kinds eps = Unit {0}
  IsTypedTerm kinds dead = Unit {0}
  IsTypedTerm kinds (con e) = HasKind kinds e kind.Bool
  IsTypedTerm kinds (raise z) = Unit {0}
  IsTypedTerm kinds (seq a b) = IsTypedTerm kinds a × IsTypedTerm kinds b
  IsTypedTerm kinds (loop t) = IsTypedTerm kinds t
  IsTypedTerm kinds (count i done t) = IsTypedTerm kinds t
  IsTypedTerm kinds (any cs) = AreTypedChoices kinds cs
  IsTypedTerm kinds (pri a b) = IsTypedTerm kinds a × IsTypedTerm kinds b
  IsTypedTerm kinds (par a b) = IsTypedTerm kinds a × IsTypedTerm kinds b
  IsTypedTerm kinds (assert e t) = HasKind kinds e kind.Bool × IsTypedTerm kinds t
  IsTypedTerm kinds (exist x v t) = IsTypedTerm kinds t
  IsTypedTerm kinds (catch z t h) = IsTypedTerm kinds t × IsTypedTerm kinds h
  IsTypedTerm kinds (try t h) = IsTypedTerm kinds t × IsTypedTerm kinds h

  pub AreTypedChoices : Kinds → Choices Expression → Type 0
  AreTypedChoices kinds no_choice = Unit {0}
  AreTypedChoices kinds (choice w t cs) = HasKind kinds w kind.Int × IsTypedTerm kinds t × AreTypedChoices kinds cs
