-- What terms of the code stand for.
use Rattle.std.specs.Prelude.{ℕ, List, [], ◌∷◌, map}
use Rattle.lt_num.specs.declared.kind.Kind.{Kind}
use Rattle.lt_formula.specs.Expression.{Expression}
use Rattle.lt_formula.specs.Kinds.{Kinds}
use Rattle.lt_formula.specs.Table.{spelled}
use Rattle.lt_formula.specs.View.{table_expressions}
use Rattle.lt_formula.specs.declared.table.Table.{Table}
use Rattle.lt_term.specs.Process.{Process, eps, dead, con, raise, seq, loop, count, any, pri, par, assert, exist, catch, try, Choices, no_choice, choice, with_constraints}
use Rattle.lt_term.specs.declared.term.Term.{Term, Row_of-Term-Any-0-2, end_of-Term-Any-0-2, more_of-Term-Any-0-2}
use Rattle.lt_term.specs.declared.term.Term.TheVariants.{Eps, Dead, Con, Raise, Seq', Loop', Count', Any', Pri', Par', Assert', Exist', Catch', Try'}
use Rattle.lt_term.specs.declared.variable.Var.{Var}

-- a term, whose constraints and weights are numbers of a table
abbrev mutual
  pub process : Term → Process ℕ
  process Eps = eps
  process Dead = dead
  process (Con c) = con c
  process (Raise z) = raise z
  process (Seq' p a q b) = seq (process a) (process b)
  process (Loop' p t) = loop (process t)
  process (Count' i done p t) = count i done (process t)
  process (Any' shape parts) = any (row_choices parts)
  process (Pri' p a q b) = pri (process a) (process b)
  process (Par' p a q b) = par (process a) (process b)
  process (Assert' c p t) = assert c (process t)
  process (Exist' x v p t) = exist x v (process t)
  process (Catch' z p t q h) = catch z (process t) (process h)
  process (Try' p t q h) = try (process t) (process h)

  -- the parts of a weighted choice, as they lie in memory
  pub row_choices : {m : _} → Row_of-Term-Any-0-2 m → Choices ℕ
  row_choices end_of-Term-Any-0-2 = no_choice
  row_choices (more_of-Term-Any-0-2 w t rest) = choice w (process t) (row_choices rest)

-- terms to choose from
abbrev pub choices_from : List (ℕ × Process ℕ) → Choices ℕ
choices_from [] = no_choice
choices_from (c ∷ cs) = choice c.0 c.1 (choices_from cs)

-- a part of a weighted choice
abbrev pub part : ℕ × Term → ℕ × Process ℕ
part c = (c.0, process c.1)

-- the parts of a weighted choice
abbrev pub choices : List (ℕ × Term) → Choices ℕ
choices parts = choices_from (map part parts)

-- a term over a table, with expressions in place of their numbers
abbrev pub process_over : Table → Term → Process Expression
process_over table term = with_constraints (spelled (table_expressions table)) (process term)

-- the kinds of some variables
abbrev pub kinds_of : List Var → List Kind
kinds_of vars = map (λ v. v.kind) vars

-- the kinds of a scenario's variables
abbrev pub all_kinds : List Var → List Var → List Var → Kinds
all_kinds inputs outputs locals = record { inputs = kinds_of inputs; outputs = kinds_of outputs; locals = kinds_of locals }
