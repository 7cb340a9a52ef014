-- When a program is well typed: a line for each construct.
use Rattle.std.specs.Prelude.{◌≡◌, ℕ, Bool, true, false, not, ◌&&◌, ◌||◌, IsTrue, List, [], ◌∷◌, length, ◌≤ℤ◌, pos, is_none, Ok}
use Rattle.std.specs.declared.option.Option.{Option}
use Rattle.std.specs.declared.option.Option.TheVariants.{None, Some}
use Rattle.lt_ast.specs.declared.group.TypeName.{TypeName}
use Rattle.lt_ast.specs.declared.group.TypeName.TheVariants as t
use Rattle.lt_ast.specs.Syntax as s
use Rattle.lt_ast.specs.Syntax.{Word, Figure, WrittenRange, Exp, Argument, Arguments, Limits, Braces, Alternative, Alternatives, Trace, Traces, Grouping, Groupings, MaybeExp, MaybeTrace, Parameters, Meaning, Macro, Run, Declaration}
use Rattle.lt_num.specs.Literal.{IsRead}
use Rattle.lt_num.specs.declared.fixed.Fixed.{Fixed}
use Rattle.lt_types.specs.Environment.{Parameter, by_value, by_ref, Entry, variable, parameter, macro, Input, Node, Environment, at_start, found, found_node, node_names, is_among, with_names, Role, inputs, variables, parameters, with_group, with_groups, with_group_names, with_groups_names, with_parameters, with_macro, with_run, with_runs, with_exceptions, with_declaration, with_inputs_and_outputs, TypedName, with_variables_alone}
use Rattle.lt_types.specs.Operators.{is_number, is_value, serves_as, unary_takes, binary_takes, unary_gives, binary_gives}
use Rattle.lt_ast.specs.Literals.{figure_type, figure_text}

-- a name that stands for this is, alone, an expression of this type: a macro only where it has no parameters
abbrev pub StandsFor : Option Entry → TypeName → Type 0
StandsFor None kind = ⊥
StandsFor (Some (variable k)) kind = kind ≡ k
StandsFor (Some (parameter k)) kind = kind ≡ k
StandsFor (Some (macro [] k)) kind = kind ≡ k
StandsFor (Some (macro (p ∷ ps) k)) kind = ⊥

-- a name is that of a visible exception
abbrev pub IsException : Environment → Word → Type 0
IsException env w = IsTrue (is_among w.text env.exceptions)

-- none of these names is taken before, nor stands twice among them
abbrev pub AreNew : List (List ℕ) → List Word → Type 0
AreNew taken [] = Unit {0}
AreNew taken (w ∷ ws) = IsTrue (not (is_among w.text taken)) × AreNew (w.text ∷ taken) ws

-- an expression is the name of a variable of this type
abbrev pub IsVariable : Environment → Exp → TypeName → Type 0
IsVariable env (s.named w) kind = found env.names w.text ≡ Some (variable kind)
IsVariable env e kind = ⊥

-- the step of such a range, where it has one: a literal of the type, read as a number within bounds, whose raw number is at least 1
abbrev pub IsStep : ℕ → TypeName → Option Figure → Type 0
IsStep decimals kind None = Unit {0}
IsStep decimals kind (Some f) = (figure_type f ≡ kind) × (n : Fixed) × IsRead (figure_text f) decimals (Ok n) × (pos 1 ≤ℤ n.raw)

-- a range of numbers of a type, with so many decimals
pub record IsRange (decimals : ℕ) (kind : TypeName) (range : WrittenRange) : Type 0 where
  -- both ends are literals of the type
  pub low_type : figure_type range.low ≡ kind
  pub high_type : figure_type range.high ≡ kind
  -- they are read as numbers within bounds
  pub low : Fixed
  pub high : Fixed
  pub low_read : IsRead (figure_text range.low) decimals (Ok low)
  pub high_read : IsRead (figure_text range.high) decimals (Ok high)
  -- the low one isn't over the high one
  pub ordered : low.raw ≤ℤ high.raw
  -- the step leads on
  pub step : IsStep decimals kind range.step

-- the range of a group of this type; that groups of other types may have none is said of the group
abbrev pub IsGroupRange : ℕ → TypeName → Option WrittenRange → Type 0
IsGroupRange decimals kind None = Unit {0}
IsGroupRange decimals t.Int (Some range) = IsRange 0 t.Int range
IsGroupRange decimals t.Real (Some range) = IsRange decimals t.Real range
IsGroupRange decimals kind (Some range) = Unit {0}

-- whether there is no first value
abbrev pub has_no_first : MaybeExp → Bool
has_no_first s.no_exp = true
has_no_first (s.an_exp e) = false

-- whether there is no step
abbrev pub has_no_step : Option WrittenRange → Bool
has_no_step None = true
has_no_step (Some range) = is_none range.step

-- Whether a group may be as it is written: variables have values, no `ref`, and a range only if they are numbers, for inputs
-- without a step; parameters may also be traces, but not by `ref`, and have neither range nor first value.
abbrev pub may_be_written : Role → TypeName → Bool → Option WrittenRange → MaybeExp → Bool
may_be_written inputs kind ref range first = is_value kind && not ref && (is_none range || is_number kind) && has_no_step range
may_be_written variables kind ref range first = is_value kind && not ref && (is_none range || is_number kind)
may_be_written parameters kind ref range first = (is_value kind || not ref) && is_none range && has_no_first first

abbrev mutual
  -- an expression has a type
  pub HasType : Environment → Exp → TypeName → Type 0
  HasType env (s.number f) kind = kind ≡ figure_type f
  HasType env (s.flag b at) kind = kind ≡ t.Bool
  HasType env (s.named w) kind = StandsFor (found env.names w.text) kind
  HasType env (s.called w args) kind = (ps : List Parameter) × (found env.names w.text ≡ Some (macro ps kind)) × ArgumentsFit env args ps
  HasType env (s.pre w at) kind = found env.names w.text ≡ Some (variable kind)
  HasType env (s.paren e at) kind = HasType env e kind
  HasType env (s.unary op e at) kind = (k : TypeName) × HasType env e k × IsTrue (unary_takes op k) × (kind ≡ unary_gives op k)
  HasType env (s.binary op e f at) kind = (k : TypeName) × HasType env e k × HasType env f k × IsTrue (binary_takes op k) × (kind ≡ binary_gives op k)
  HasType env (s.choose c e f at) kind = HasType env c t.Bool × HasType env e kind × HasType env f kind × IsTrue (is_value kind)

  -- an argument may be given for a parameter
  pub ArgumentFits : Environment → Argument → Parameter → Type 0
  ArgumentFits env (s.value_argument e) (by_value kind) = (k : TypeName) × HasType env e k × IsTrue (serves_as k kind)
  ArgumentFits env (s.value_argument e) (by_ref kind) = IsVariable env e kind
  ArgumentFits env (s.trace_argument b at) (by_value kind) = IsBraced env b × (kind ≡ t.Trace)
  ArgumentFits env (s.trace_argument b at) (by_ref kind) = ⊥

  -- arguments may be given for parameters, which are as many
  pub ArgumentsFit : Environment → Arguments → List Parameter → Type 0
  ArgumentsFit env s.no_arguments [] = Unit {0}
  ArgumentsFit env s.no_arguments (p ∷ ps) = ⊥
  ArgumentsFit env (s.argument a rest) [] = ⊥
  ArgumentsFit env (s.argument a rest) (p ∷ ps) = ArgumentFits env a p × ArgumentsFit env rest ps

  -- the bounds of a loop are well typed
  pub AreLimits : Environment → Limits → Type 0
  AreLimits env s.forever = Unit {0}
  AreLimits env (s.between e f) = HasType env e t.Int × HasType env f t.Int
  AreLimits env (s.around e f) = HasType env e t.Int × HasType env f t.Int

  -- what stands in braces is well typed
  pub IsBraced : Environment → Braces → Type 0
  IsBraced env (s.plain x) = IsTrace env x
  IsBraced env (s.choice lead ps) = AreAlternatives env ps
  IsBraced env (s.priority lead xs) = AreTraces env xs
  IsBraced env (s.parallel lead xs) = AreTraces env xs

  -- an alternative of a choice is well typed
  pub IsAlternative : Environment → Alternative → Type 0
  IsAlternative env (s.unweighted x) = IsTrace env x
  IsAlternative env (s.weighted e x) = HasType env e t.Int × IsTrace env x

  -- alternatives are well typed
  pub AreAlternatives : Environment → Alternatives → Type 0
  AreAlternatives env s.no_alternatives = Unit {0}
  AreAlternatives env (s.alternative p ps) = IsAlternative env p × AreAlternatives env ps

  -- traces are well typed
  pub AreTraces : Environment → Traces → Type 0
  AreTraces env s.no_traces = Unit {0}
  AreTraces env (s.one_trace x xs) = IsTrace env x × AreTraces env xs

  -- a group: its names are new in its list, and its first value doesn't see them
  pub IsGroup : Role → Environment → List (List ℕ) → Grouping → Type 0
  IsGroup role env taken (s.grouping ws kind ref range first) = AreNew taken ws × IsGroupRange env.decimals kind range × IsFirst env kind first × IsTrue (may_be_written role kind ref range first)

  -- groups, where these names stand before in the same list; each sees the ones before it
  pub AreGroups : Role → Environment → List (List ℕ) → Groupings → Type 0
  AreGroups role env taken s.no_groups = Unit {0}
  AreGroups role env taken (s.one_group g gs) = IsGroup role env taken g × AreGroups role (with_group role env g) (with_group_names g taken) gs

  -- a first value of a type, if there is one
  pub IsFirst : Environment → TypeName → MaybeExp → Type 0
  IsFirst env kind s.no_exp = Unit {0}
  IsFirst env kind (s.an_exp e) = HasType env e kind

  -- the `do` part, if there is one, is well typed
  pub IsHandler : Environment → MaybeTrace → Type 0
  IsHandler env s.no_trace = Unit {0}
  IsHandler env (s.a_trace x) = IsTrace env x

  -- the parameters of a macro, if it has any, are well typed
  pub AreParameters : Environment → Parameters → Type 0
  AreParameters env s.no_parameters = Unit {0}
  AreParameters env (s.parameters gs) = AreGroups parameters env [] gs

  -- what a macro of a type stands for is well typed
  pub IsMeaning : Environment → TypeName → Meaning → Type 0
  IsMeaning env kind (s.trace_meaning x) = IsTrace env x
  IsMeaning env kind (s.value_meaning e) = HasType env e kind

  -- a macro is well typed
  pub IsMacro : Environment → Macro → Type 0
  IsMacro env (s.macro w ps kind m) = AreParameters env ps × IsMeaning (with_parameters env ps) kind m

  -- a trace is well typed
  pub IsTrace : Environment → Trace → Type 0
  IsTrace env (s.sequence xs) = AreTraces env xs
  IsTrace env (s.braces b at) = IsBraced env b
  IsTrace env (s.loop l x) = AreLimits env l × IsTrace env x
  IsTrace env (s.raise w) = IsException env w
  IsTrace env (s.assert e x) = HasType env e t.Bool × IsTrace env x
  IsTrace env (s.exist gs x) = AreGroups variables env [] gs × IsTrace (with_groups variables env gs) x
  IsTrace env (s.define m x) = IsMacro env m × IsTrace (with_macro env m) x
  IsTrace env (s.exceptions ws x) = AreNew [] ws × IsTrace (with_exceptions env ws) x
  IsTrace env (s.catch w x h) = IsException env w × IsTrace env x × IsHandler env h
  IsTrace env (s.trap w x h) = IsTrace (with_exceptions env (w ∷ [])) x × IsHandler (with_exceptions env (w ∷ [])) h
  IsTrace env (s.try x h) = IsTrace env x × IsHandler env h
  IsTrace env (s.value e) = (k : TypeName) × HasType env e k × IsTrue (serves_as k t.Trace)

-- expressions are given for inputs, which are as many: each has the type of its input, which has no written range
abbrev pub AreGiven : Environment → List Exp → List Input → Type 0
AreGiven env [] [] = Unit {0}
AreGiven env [] (i ∷ js) = ⊥
AreGiven env (e ∷ es) [] = ⊥
AreGiven env (e ∷ es) (i ∷ js) =
    HasType env e i.kind × IsTrue (not i.ranged) × AreGiven env es js

-- A run: its names are new, where those of the node's inputs and outputs and of its earlier runs are taken. The node is one
-- before, has as many outputs as there are names, and may be given the arguments.
abbrev pub IsRun : Environment → List (List ℕ) → Run → Type 0
IsRun env taken r =
    AreNew taken r.names
    × (n : Node) × (found_node env.nodes r.node.text ≡ Some n)
    × (length r.names ≡ length n.outputs)
    × AreGiven env r.arguments n.inputs

-- runs, each of which sees the names of those before it
abbrev pub AreRuns : Environment → List (List ℕ) → List Run → Type 0
AreRuns env taken [] = Unit {0}
AreRuns env taken (r ∷ rs) =
    IsRun env taken r × AreRuns (with_run env r) (with_names r.names taken) rs

-- no earlier macro of the text has the macro's name
abbrev pub IsNewMacro : Environment → Macro → Type 0
IsNewMacro env (s.macro w ps kind m) = found env.names w.text ≡ None

-- a declaration of a text, after those before it
abbrev pub IsDeclaration : Environment → Declaration → Type 0
IsDeclaration env (s.node w ins outs rs x) =
    AreNew (node_names env.nodes) (w ∷ [])
    × AreGroups inputs env [] ins
    × AreGroups variables (with_groups inputs env ins) (with_groups_names ins []) outs
    × AreRuns (with_inputs_and_outputs env ins outs)
    (with_groups_names outs (with_groups_names ins [])) rs
    × IsTrace (with_runs (with_inputs_and_outputs env ins outs) rs) x
IsDeclaration env (s.macro_declaration m) = IsNewMacro env m × IsMacro env m
IsDeclaration env (s.exception_declaration ws) = AreNew env.exceptions ws

-- the declarations of a text
abbrev pub AreDeclarations : Environment → List Declaration → Type 0
AreDeclarations env [] = Unit {0}
AreDeclarations env (d ∷ ds) = IsDeclaration env d × AreDeclarations (with_declaration env d) ds

-- one of them is a node
abbrev pub has_node : List Declaration → Bool
has_node [] = false
has_node (s.node w ins outs rs x ∷ ds) = true
has_node (s.macro_declaration m ∷ ds) = has_node ds
has_node (s.exception_declaration ws ∷ ds) = has_node ds

-- A text is well typed: each declaration is, and one of them is a node.
abbrev pub IsWellTyped : ℕ → List Declaration → Type 0
IsWellTyped decimals ds = AreDeclarations (at_start decimals) ds × IsTrue (has_node ds)

-- An expression over variables alone is well typed as a condition: it is a Boolean.
abbrev pub IsCondition : ℕ → List TypedName → Exp → Type 0
IsCondition decimals vs e = HasType (with_variables_alone decimals vs) e t.Bool
