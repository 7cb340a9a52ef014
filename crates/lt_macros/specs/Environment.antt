-- What names stand for at a place of a text. Lists of names have the newest name first, so an inner name hides an outer one.
-- Denotations are what expressions and traces stand for; of which kind they are is left open here.
use Rattle.std.specs.Prelude.{ℕ, suc, List, [], ◌∷◌, codes, bytes_eq, if◌then◌else◌}
use Rattle.std.specs.declared.option.Option.{Option}
use Rattle.std.specs.declared.option.Option.TheVariants.{None, Some}
use Rattle.lt_ast.specs.Syntax.{Word}
use Rattle.lt_formula.specs.declared.role.Role.{Role}
use Rattle.lt_macros.specs.Expanded.{Exception}

-- what a name is bound to
pub data Binding (S : Type 0) : Type 0 where
  -- the variable of a role at a place among those of its role
  variable : Role → ℕ → Binding S
  -- what an argument stands for
  parameter : S → Binding S
  -- a macro: it makes a denotation of those of its arguments
  macro : (List S → S) → Binding S

-- a name and its binding
pub record NamedBinding (S : Type 0) : Type 0 where
  pub name : List ℕ
  pub binding : Binding S

-- what the name of an exception stands for
pub data Raised : Type 0 where
  -- that nothing can be done
  deadlock : Raised
  -- an exception that is declared
  declared : Exception → Raised

-- the name of an exception and what it stands for
pub record Raisable : Type 0 where
  pub name : List ℕ
  pub raised : Raised

-- what is known at a place of a text
pub record Environment (S : Type 0) : Type 0 where
  -- how many decimals a real has
  pub decimals : ℕ
  -- variables, parameters and macros
  pub names : List (NamedBinding S)
  pub exceptions : List Raisable

-- before the first declaration of a text: an exception is there from the start
abbrev pub at_start : {S : Type 0} → ℕ → Environment S
at_start decimals = record { decimals = decimals; names = []; exceptions = record { name = codes "Deadlock"; raised = deadlock } ∷ [] }

-- what a name is bound to, if anything
abbrev pub found : {S : Type 0} → List (NamedBinding S) → List ℕ → Option (Binding S)
found [] name = None
found (b ∷ bs) name = if bytes_eq name b.name then Some b.binding else found bs name

-- what the name of an exception stands for; an unknown one, which by the rules of types no text has, is as `Deadlock`
abbrev pub found_exception : List Raisable → List ℕ → Raised
found_exception [] name = deadlock
found_exception (z ∷ zs) name = if bytes_eq name z.name then z.raised else found_exception zs name

-- where one more name is visible
abbrev pub with_name : {S : Type 0} → List ℕ → Binding S → Environment S → Environment S
with_name name binding env = record env { names = record { name = name; binding = binding } ∷ env.names }

-- where the parameters are visible too, each as its argument
abbrev pub with_arguments : {S : Type 0} → List (List ℕ) → List S → Environment S → Environment S
with_arguments [] ss env = env
with_arguments (p ∷ ps) [] env = env
with_arguments (p ∷ ps) (s ∷ ss) env = with_arguments ps ss (with_name p (parameter s) env)

-- where variables of a role are visible too, the first of which has this place
abbrev pub with_variables : {S : Type 0} → Role → ℕ → List Word → Environment S → Environment S
with_variables role i [] env = env
with_variables role i (w ∷ ws) env = with_variables role (suc i) ws (with_name w.text (variable role i) env)

-- where one more exception is visible, which is declared at a byte of the text behind so many terms
abbrev pub with_exception : {S : Type 0} → ℕ → ℕ → List ℕ → Environment S → Environment S
with_exception terms place name env = record env { exceptions = record { name = name; raised = declared (record { name = name; place = place; terms_before = terms }) } ∷ env.exceptions }

-- where exceptions of these names are visible too, which are declared behind so many terms
abbrev pub with_exceptions : {S : Type 0} → ℕ → List Word → Environment S → Environment S
with_exceptions terms [] env = env
with_exceptions terms (w ∷ ws) env = with_exceptions terms ws (with_exception terms w.span.start w.text env)
