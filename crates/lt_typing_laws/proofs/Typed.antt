-- Expansion keeps types: what a well typed phrase stands for is well typed, where names are bound to what they are by their types.
use Rattle.std.proofs.Common.{◌≡◌, ℕ, Bool, true, false, IsTrue, List, [], ◌∷◌, if◌then◌else◌, refl, sym, ap, ◌∙◌, subst, ℤ}
use Rattle.std.specs.List.{list_any}
use Rattle.std.specs.declared.option.Option.{Option}
use Rattle.std.specs.declared.option.Option.TheVariants.{None, Some}
use Rattle.lt_ast.specs.declared.group.TypeName.{TypeName}
use Rattle.lt_ast.specs.declared.group.TypeName.TheVariants as t
use Rattle.lt_ast.specs.Literals.{figure_type}
use Rattle.lt_ast.specs.Syntax as s
use Rattle.lt_ast.specs.Syntax.{Word, Figure, WrittenRange, Exp, Argument, Arguments, Limits, Braces, Alternative, Alternatives, Trace, Traces, Grouping, Groupings, MaybeExp, MaybeTrace, Meaning, Macro}
use Rattle.lt_num.specs.Literal.{is_point}
use Rattle.lt_num.specs.Value.{raw_of, value_of}
use Rattle.lt_num.specs.declared.kind.Kind.TheVariants as kind
use Rattle.lt_num.specs.declared.value.Value.TheVariants as value
use Rattle.lt_formula.specs.Kinds.{Kinds}
use Rattle.lt_formula.specs.declared.role.Role.TheVariants as role
use Rattle.lt_types.specs.Environment as types
use Rattle.lt_types.specs.Environment.{Parameter, by_value, by_ref, with_bindings}
use Rattle.lt_types.specs.Operators.{is_value}
use Rattle.lt_types.specs.Typing as typing
use Rattle.lt_types.specs.Typing.{HasType, ArgumentFits, ArgumentsFit, AreLimits, IsBraced, IsAlternative, AreAlternatives, AreTraces, AreGroups, IsHandler, IsMeaning, IsMacro, IsTrace, IsVariable, may_be_written}
use Rattle.lt_macros.specs.Placed.{Placed}
use Rattle.lt_macros.specs.Expanded.{Bounds, Expanded, seq, pri, par}
use Rattle.lt_macros.specs.Environment.{Raised, deadlock, declared, Environment, variable, macro, found, found_exception, with_name, with_arguments, with_exceptions}
use Rattle.lt_macros.specs.Literals.{kind_of}
use Rattle.lt_macros.specs.Denotation.{Numbers, ExpandedTrace, behind_term, behind_local, behind_counter, Denotation, as_trace, standing_for, macro_name, parameter_names, declared_as, first_of, caught_as, raised_as, repeated, bounds_of, in_locals, in_groups, caught, exp_denotation, argument_denotation, argument_denotations, braces_denotation, weight_of, alternative_denotation, parts_of, traces_denotation, handler_denotation, meaning_denotation, macro_denotation, trace_denotation}
use Rattle.lt_typing_laws.specs.Macros.{FitInExp, FitInArgument, FitInArguments, FitInLimits, FitInBraces, FitInAlternative, FitInAlternatives, FitInTraces, FitInGroups, FitInFirst, FitInHandler, FitInMeaning, FitInMacro, FitInTrace}
use Rattle.lt_typing_laws.specs.TypedNode.{IsOfKind, IsFirst, AreBounds, IsTyped, AreTyped}
use Rattle.lt_typing_laws.proofs.Fitting.{IsTypedTrace, IsOf, IsVariableOf, IsGiven, AreGiven, IsFoundAs, AreBoundAs, found_as, previous_is_of, variable_standing, macro_standing, name_standing, as_expression_is_of, as_trace_is_typed, serves_is_of, parameters_bound, exceptions_bound}
use Rattle.lt_typing_laws.proofs.Locals.{AreDeclared, AreDeclaredIn}
use Rattle.lt_typing_laws.proofs.Operators.{unary_taken, unary_of_value, unary_given, binary_taken, binary_of_value, binary_given}

-- Constants.

number_of : (b : Bool) (raw : ℤ) → value_of (kind_of (if b then t.Real else t.Int)) raw ≡ value.Num raw
number_of true raw = refl
number_of false raw = refl

number_of_figure : (f : Figure) (raw : ℤ) → value_of (kind_of (figure_type f)) raw ≡ value.Num raw
number_of_figure f raw = number_of (list_any is_point f.text) raw

flag_of : (b : Bool) → value_of kind.Bool (raw_of (value.Bool b)) ≡ value.Bool b
flag_of true = refl
flag_of false = refl

-- Names of variables.

reference_typed : (kinds : Kinds) (env : Environment Denotation) (outer : types.Environment) (e : Exp) (type : TypeName) → AreBoundAs kinds outer.names env.names → IsVariable outer e type → IsVariableOf kinds type (exp_denotation env e)
reference_typed kinds env outer (s.number f) type b h = absurd h
reference_typed kinds env outer (s.flag c at) type b h = absurd h
reference_typed kinds env outer (s.named w) type b h =
    variable_standing kinds type w.span (found env.names w.text) (subst (λ o. IsFoundAs kinds o (found env.names w.text)) h (found_as kinds outer.names env.names w.text b))
reference_typed kinds env outer (s.called w args) type b h = absurd h
reference_typed kinds env outer (s.pre w at) type b h = absurd h
reference_typed kinds env outer (s.paren e at) type b h = absurd h
reference_typed kinds env outer (s.unary op e at) type b h = absurd h
reference_typed kinds env outer (s.binary op d e at) type b h = absurd h
reference_typed kinds env outer (s.choose c d e at) type b h = absurd h

-- Traces of parts.

-- A trace of two parts is well typed where these are.
abbrev Joins : Kinds → (Expanded → Expanded → Expanded) → Type 0
Joins kinds f = (x y : Expanded) → AreDeclared kinds (f x y) → (AreDeclared kinds x → IsTyped kinds x) → (AreDeclared kinds y → IsTyped kinds y) → IsTyped kinds (f x y)

caught_joins : (kinds : Kinds) (r : Raised) → Joins kinds (caught_as r)
caught_joins kinds deadlock = λ x y g h k. (h g.0, k g.1)
caught_joins kinds (declared z) = λ x y g h k. (h g.0, k g.1)

raised_typed : (kinds : Kinds) (r : Raised) → IsTyped kinds (raised_as r)
raised_typed kinds deadlock = tt
raised_typed kinds (declared z) = tt

caught_typed : (kinds : Kinds) (env : Environment Denotation) (w : Word) (x : Trace) (h : MaybeTrace) → IsOf kinds t.Trace (trace_denotation env x) → IsOf kinds t.Trace (handler_denotation env h)
    → IsTypedTrace kinds (caught w env (λ inner. as_trace (trace_denotation inner x)) (λ inner. as_trace (handler_denotation inner h)))
caught_typed kinds env w x h f g = λ n d.
    caught_joins kinds (found_exception env.exceptions w.text) (as_trace (trace_denotation env x) (behind_term n)).expanded (as_trace (handler_denotation env h) (as_trace (trace_denotation env x) (behind_term n)).after).expanded d
    (as_trace_is_typed kinds (trace_denotation env x) f (behind_term n))
    (as_trace_is_typed kinds (handler_denotation env h) g (as_trace (trace_denotation env x) (behind_term n)).after)

-- The numbers of a loop, where it has some, are ints.
abbrev AreTurns : Kinds → Option Bounds → Type 0
AreTurns kinds None = Unit {0}
AreTurns kinds (Some b) = AreBounds kinds b

repeated_typed : (kinds : Kinds) (o : Option Bounds) (body : Numbers → ExpandedTrace) → AreTurns kinds o → IsTypedTrace kinds body → IsTypedTrace kinds (repeated o body)
repeated_typed kinds None body h k = λ n g. k (behind_term n) g
repeated_typed kinds (Some b) body h k = λ n g. (h, k (behind_counter n) g)

-- What is written where these names are visible is well typed.
abbrev IsTypedBody : Kinds → List types.Binding → (Environment Denotation → Numbers → ExpandedTrace) → Type 0
IsTypedBody kinds xs body = (env : Environment Denotation) → AreBoundAs kinds xs env.names → IsTypedTrace kinds (body env)

locals_typed : (kinds : Kinds) (outer : Environment Denotation) (type : TypeName) (range : Option WrittenRange) (first : Option Placed) → IsFirst kinds (kind_of type) first
    → (ws : List Word) (xs : List types.Binding) (env : Environment Denotation) (body : Environment Denotation → Numbers → ExpandedTrace)
    → AreBoundAs kinds xs env.names → IsTypedBody kinds (with_bindings (types.variable type) ws xs) body
    → IsTypedTrace kinds (in_locals (declared_as role.Local outer type range first) ws env body)
locals_typed kinds outer type range first f [] xs env body b k = k env b
locals_typed kinds outer type range first f (w ∷ ws) xs env body b k = λ n g. (
  g.0,
  f,
  locals_typed kinds outer type range first f ws (record { name = w.text; entry = types.variable type } ∷ xs) (with_name w.text (variable role.Local n.local) env) body (refl, g.0, b) k (behind_local n) g.1,
)

-- a group of locals has a type with values
local_value : (type : TypeName) (ref : Bool) (range : Option WrittenRange) (first : MaybeExp) → IsTrue (may_be_written types.variables type ref range first) → IsTrue (is_value type)
local_value t.Bool ref range first h = refl
local_value t.Int ref range first h = refl
local_value t.Real ref range first h = refl
local_value t.Trace ref range first h = absurd (cc)

mutual
  pub exp_typed : (kinds : Kinds) (env : Environment Denotation) (outer : types.Environment) (e : Exp) (type : TypeName) → AreBoundAs kinds outer.names env.names → FitInExp e → HasType outer e type
      → IsOf kinds type (exp_denotation env e)
  exp_typed kinds env outer (s.number f) type b m h = (ap kind_of h, number_of_figure f _)
  exp_typed kinds env outer (s.flag c at) type b m h = (ap kind_of h, flag_of c)
  exp_typed kinds env outer (s.named w) type b m h =
      name_standing kinds type w.span (types.found outer.names w.text) (found env.names w.text) (found_as kinds outer.names env.names w.text b) h
  exp_typed kinds env outer (s.called w args) type b m h =
      macro_standing kinds h.0 type w.span (found env.names w.text) (argument_denotations env args)
      (subst (λ o. IsFoundAs kinds o (found env.names w.text)) h.1 (found_as kinds outer.names env.names w.text b))
      (arguments_typed kinds env outer args h.0 b m h.2)
  exp_typed kinds env outer (s.pre w at) type b m h =
      previous_is_of kinds type at (standing_for w.span (found env.names w.text) [])
      (variable_standing kinds type w.span (found env.names w.text) (subst (λ o. IsFoundAs kinds o (found env.names w.text)) h (found_as kinds outer.names env.names w.text b)))
  exp_typed kinds env outer (s.paren e at) type b m h = exp_typed kinds env outer e type b m h
  exp_typed kinds env outer (s.unary op e at) type b m h = (
    kind_of h.0,
    as_expression_is_of kinds h.0 (exp_denotation env e) (unary_of_value op h.0 h.2) (exp_typed kinds env outer e h.0 b m h.1),
    unary_taken op h.0 h.2,
    ap kind_of h.3 ∙ unary_given op h.0,
  )
  exp_typed kinds env outer (s.binary op d e at) type b m h = (
    kind_of h.0,
    as_expression_is_of kinds h.0 (exp_denotation env d) (binary_of_value op h.0 h.3) (exp_typed kinds env outer d h.0 b m.0 h.1),
    as_expression_is_of kinds h.0 (exp_denotation env e) (binary_of_value op h.0 h.3) (exp_typed kinds env outer e h.0 b m.1 h.2),
    binary_taken op h.0 h.3,
    ap kind_of h.4 ∙ binary_given op h.0,
  )
  exp_typed kinds env outer (s.choose c d e at) type b m h = (
    as_expression_is_of kinds t.Bool (exp_denotation env c) refl (exp_typed kinds env outer c t.Bool b m.0 h.0),
    as_expression_is_of kinds type (exp_denotation env d) h.3 (exp_typed kinds env outer d type b m.1 h.1),
    as_expression_is_of kinds type (exp_denotation env e) h.3 (exp_typed kinds env outer e type b m.2 h.2),
  )

  argument_typed : (kinds : Kinds) (env : Environment Denotation) (outer : types.Environment) (a : Argument) (q : Parameter) → AreBoundAs kinds outer.names env.names → FitInArgument a → ArgumentFits outer a q
      → IsGiven kinds q (argument_denotation env a)
  argument_typed kinds env outer (s.value_argument e) (by_value type) b m h = serves_is_of kinds h.0 type (exp_denotation env e) h.2 (exp_typed kinds env outer e h.0 b m h.1)
  argument_typed kinds env outer (s.value_argument e) (by_ref type) b m h = reference_typed kinds env outer e type b h
  argument_typed kinds env outer (s.trace_argument x at) (by_value type) b m h = subst (λ one. IsOf kinds one (braces_denotation env x)) (sym h.1) (braces_typed kinds env outer x b m h.0)
  argument_typed kinds env outer (s.trace_argument x at) (by_ref type) b m h = absurd h

  arguments_typed : (kinds : Kinds) (env : Environment Denotation) (outer : types.Environment) (args : Arguments) (qs : List Parameter) → AreBoundAs kinds outer.names env.names → FitInArguments args
      → ArgumentsFit outer args qs → AreGiven kinds qs (argument_denotations env args)
  arguments_typed kinds env outer s.no_arguments [] b m h = tt
  arguments_typed kinds env outer s.no_arguments (q ∷ qs) b m h = absurd h
  arguments_typed kinds env outer (s.argument a rest) [] b m h = absurd h
  arguments_typed kinds env outer (s.argument a rest) (q ∷ qs) b m h = (argument_typed kinds env outer a q b m.0 h.0, arguments_typed kinds env outer rest qs b m.1 h.1)

  limits_typed : (kinds : Kinds) (env : Environment Denotation) (outer : types.Environment) (l : Limits) → AreBoundAs kinds outer.names env.names → FitInLimits l → AreLimits outer l → AreTurns kinds (bounds_of env l)
  limits_typed kinds env outer s.forever b m h = tt
  limits_typed kinds env outer (s.between d e) b m h = (
    as_expression_is_of kinds t.Int (exp_denotation env d) refl (exp_typed kinds env outer d t.Int b m.0 h.0),
    as_expression_is_of kinds t.Int (exp_denotation env e) refl (exp_typed kinds env outer e t.Int b m.1 h.1),
  )
  limits_typed kinds env outer (s.around d e) b m h = (
    as_expression_is_of kinds t.Int (exp_denotation env d) refl (exp_typed kinds env outer d t.Int b m.0 h.0),
    as_expression_is_of kinds t.Int (exp_denotation env e) refl (exp_typed kinds env outer e t.Int b m.1 h.1),
  )

  braces_typed : (kinds : Kinds) (env : Environment Denotation) (outer : types.Environment) (x : Braces) → AreBoundAs kinds outer.names env.names → FitInBraces x → IsBraced outer x
      → IsOf kinds t.Trace (braces_denotation env x)
  braces_typed kinds env outer (s.plain x) b m h = trace_typed kinds env outer x b m h
  braces_typed kinds env outer (s.choice lead ps) b m h = (refl, λ n g. parts_typed kinds env outer ps b m h (behind_term n) g)
  braces_typed kinds env outer (s.priority lead xs) b m h = traces_typed kinds env outer pri (λ x y g h k. (h g.0, k g.1)) xs b m h
  braces_typed kinds env outer (s.parallel lead xs) b m h = traces_typed kinds env outer par (λ x y g h k. (h g.0, k g.1)) xs b m h

  weight_typed : (kinds : Kinds) (env : Environment Denotation) (outer : types.Environment) (a : Alternative) → AreBoundAs kinds outer.names env.names → FitInAlternative a → IsAlternative outer a
      → IsOfKind kinds (weight_of env a) kind.Int
  weight_typed kinds env outer (s.unweighted x) b m h = (refl, refl)
  weight_typed kinds env outer (s.weighted e x) b m h = as_expression_is_of kinds t.Int (exp_denotation env e) refl (exp_typed kinds env outer e t.Int b m.0 h.0)

  alternative_typed : (kinds : Kinds) (env : Environment Denotation) (outer : types.Environment) (a : Alternative) → AreBoundAs kinds outer.names env.names → FitInAlternative a → IsAlternative outer a
      → IsOf kinds t.Trace (alternative_denotation env a)
  alternative_typed kinds env outer (s.unweighted x) b m h = trace_typed kinds env outer x b m h
  alternative_typed kinds env outer (s.weighted e x) b m h = trace_typed kinds env outer x b m.1 h.1

  parts_typed : (kinds : Kinds) (env : Environment Denotation) (outer : types.Environment) (ps : Alternatives) → AreBoundAs kinds outer.names env.names → FitInAlternatives ps → AreAlternatives outer ps
      → (n : Numbers) → AreDeclaredIn kinds (parts_of env ps n).parts → AreTyped kinds (parts_of env ps n).parts
  parts_typed kinds env outer s.no_alternatives b m h n g = tt
  parts_typed kinds env outer (s.alternative a rest) b m h n g = (
    weight_typed kinds env outer a b m.0 h.0,
    as_trace_is_typed kinds (alternative_denotation env a) (alternative_typed kinds env outer a b m.0 h.0) n g.0,
    parts_typed kinds env outer rest b m.1 h.1 (as_trace (alternative_denotation env a) n).after g.1,
  )

  traces_typed : (kinds : Kinds) (env : Environment Denotation) (outer : types.Environment) (f : Expanded → Expanded → Expanded) → Joins kinds f → (xs : Traces) → AreBoundAs kinds outer.names env.names → FitInTraces xs
      → AreTraces outer xs → IsOf kinds t.Trace (traces_denotation env f xs)
  traces_typed kinds env outer f j s.no_traces b m h = (refl, λ n g. tt)
  traces_typed kinds env outer f j (s.one_trace x s.no_traces) b m h = trace_typed kinds env outer x b m.0 h.0
  traces_typed kinds env outer f j (s.one_trace x (s.one_trace y ys)) b m h = (
    refl,
    λ n g.
        j (as_trace (trace_denotation env x) (behind_term n)).expanded (as_trace (traces_denotation env f (s.one_trace y ys)) (as_trace (trace_denotation env x) (behind_term n)).after).expanded g
        (as_trace_is_typed kinds (trace_denotation env x) (trace_typed kinds env outer x b m.0 h.0) (behind_term n))
        (as_trace_is_typed kinds (traces_denotation env f (s.one_trace y ys)) (traces_typed kinds env outer f j (s.one_trace y ys) b m.1 h.1) (as_trace (trace_denotation env x) (behind_term n)).after),
  )

  pub first_typed : (kinds : Kinds) (env : Environment Denotation) (outer : types.Environment) (type : TypeName) (first : MaybeExp) → IsTrue (is_value type) → AreBoundAs kinds outer.names env.names → FitInFirst first
      → typing.IsFirst outer type first → IsFirst kinds (kind_of type) (first_of env first)
  first_typed kinds env outer type s.no_exp v b m h = tt
  first_typed kinds env outer type (s.an_exp e) v b m h = as_expression_is_of kinds type (exp_denotation env e) v (exp_typed kinds env outer e type b m h)

  groups_typed : (kinds : Kinds) (env : Environment Denotation) (outer : types.Environment) (taken : List (List ℕ)) (gs : Groupings) (body : Environment Denotation → Numbers → ExpandedTrace)
      → AreBoundAs kinds outer.names env.names → FitInGroups gs → AreGroups types.variables outer taken gs → IsTypedBody kinds (types.with_groups types.variables outer gs).names body
      → IsTypedTrace kinds (in_groups env gs body)
  groups_typed kinds env outer taken s.no_groups body b m h k = k env b
  groups_typed kinds env outer taken (s.one_group (s.grouping ws type ref range first) gs) body b m h k =
      locals_typed kinds env type range (first_of env first) (first_typed kinds env outer type first (local_value type ref range first h.0.3) b m.0 h.0.2) ws outer.names env (λ inner. in_groups inner gs body) b
      (λ inner c. groups_typed kinds inner (types.with_group types.variables outer (s.grouping ws type ref range first)) (types.with_group_names (s.grouping ws type ref range first) taken) gs body c m.1 h.1 k)

  handler_typed : (kinds : Kinds) (env : Environment Denotation) (outer : types.Environment) (x : MaybeTrace) → AreBoundAs kinds outer.names env.names → FitInHandler x → IsHandler outer x
      → IsOf kinds t.Trace (handler_denotation env x)
  handler_typed kinds env outer s.no_trace b m h = (refl, λ n g. tt)
  handler_typed kinds env outer (s.a_trace x) b m h = trace_typed kinds env outer x b m h

  meaning_typed : (kinds : Kinds) (env : Environment Denotation) (outer : types.Environment) (type : TypeName) (x : Meaning) → AreBoundAs kinds outer.names env.names → FitInMeaning type x → IsMeaning outer type x
      → IsOf kinds type (meaning_denotation env x)
  meaning_typed kinds env outer type (s.trace_meaning x) b m h = subst (λ one. IsOf kinds one (trace_denotation env x)) (sym m.0) (trace_typed kinds env outer x b m.1 h)
  meaning_typed kinds env outer type (s.value_meaning e) b m h = exp_typed kinds env outer e type b m h

  pub macro_typed : (kinds : Kinds) (env : Environment Denotation) (outer : types.Environment) (x : Macro) → AreBoundAs kinds outer.names env.names → FitInMacro x → IsMacro outer x
      → AreBoundAs kinds (types.with_macro outer x).names (with_name (macro_name x) (macro (macro_denotation env x)) env).names
  macro_typed kinds env outer (s.macro w ps type x) b m h = (
    refl,
    λ ds g. meaning_typed kinds (with_arguments (parameter_names ps) ds env) (types.with_parameters outer ps) type x (parameters_bound kinds ps outer ds env g b) m h.1,
    b,
  )

  pub trace_typed : (kinds : Kinds) (env : Environment Denotation) (outer : types.Environment) (x : Trace) → AreBoundAs kinds outer.names env.names → FitInTrace x → IsTrace outer x
      → IsOf kinds t.Trace (trace_denotation env x)
  trace_typed kinds env outer (s.sequence xs) b m h = traces_typed kinds env outer seq (λ x y g h k. (h g.0, k g.1)) xs b m h
  trace_typed kinds env outer (s.braces x at) b m h = braces_typed kinds env outer x b m h
  trace_typed kinds env outer (s.loop l x) b m h =
      (refl, repeated_typed kinds (bounds_of env l) (as_trace (trace_denotation env x)) (limits_typed kinds env outer l b m.0 h.0) (as_trace_is_typed kinds (trace_denotation env x) (trace_typed kinds env outer x b m.1 h.1)))
  trace_typed kinds env outer (s.raise w) b m h = (refl, λ n g. raised_typed kinds (found_exception env.exceptions w.text))
  trace_typed kinds env outer (s.assert e x) b m h = (
    refl,
    λ n g. (
      as_expression_is_of kinds t.Bool (exp_denotation env e) refl (exp_typed kinds env outer e t.Bool b m.0 h.0),
      as_trace_is_typed kinds (trace_denotation env x) (trace_typed kinds env outer x b m.1 h.1) (behind_term n) g,
    ),
  )
  trace_typed kinds env outer (s.exist gs x) b m h = (
    refl,
    groups_typed kinds env outer [] gs (λ inner. as_trace (trace_denotation inner x)) b m.0 h.0
        (λ inner c. as_trace_is_typed kinds (trace_denotation inner x) (trace_typed kinds inner (types.with_groups types.variables outer gs) x c m.1 h.1)),
  )
  trace_typed kinds env outer (s.define y x) b m h =
      trace_typed kinds (with_name (macro_name y) (macro (macro_denotation env y)) env) (types.with_macro outer y) x (macro_typed kinds env outer y b m.0 h.0) m.1 h.1
  trace_typed kinds env outer (s.exceptions ws x) b m h = (
    refl,
    λ n g.
        as_trace_is_typed kinds (trace_denotation (with_exceptions n.term ws env) x)
        (trace_typed kinds (with_exceptions n.term ws env) (types.with_exceptions outer ws) x (exceptions_bound kinds outer.names n.term ws env b) m h.1) n g,
  )
  trace_typed kinds env outer (s.catch w x y) b m h = (refl, caught_typed kinds env w x y (trace_typed kinds env outer x b m.0 h.1) (handler_typed kinds env outer y b m.1 h.2))
  trace_typed kinds env outer (s.trap w x y) b m h = (
    refl,
    λ n g.
        let c = exceptions_bound kinds outer.names n.term (w ∷ []) env b in
        caught_typed kinds (with_exceptions n.term (w ∷ []) env) w x y
        (trace_typed kinds (with_exceptions n.term (w ∷ []) env) (types.with_exceptions outer (w ∷ [])) x c m.0 h.0)
        (handler_typed kinds (with_exceptions n.term (w ∷ []) env) (types.with_exceptions outer (w ∷ [])) y c m.1 h.1) n g,
  )
  trace_typed kinds env outer (s.try x y) b m h = (
    refl,
    λ n g. (
      as_trace_is_typed kinds (trace_denotation env x) (trace_typed kinds env outer x b m.0 h.0) (behind_term n) g.0,
      as_trace_is_typed kinds (handler_denotation env y) (handler_typed kinds env outer y b m.1 h.1) (as_trace (trace_denotation env x) (behind_term n)).after g.1,
    ),
  )
  trace_typed kinds env outer (s.value e) b m h = serves_is_of kinds h.0 t.Trace (exp_denotation env e) h.2 (exp_typed kinds env outer e h.0 b m h.1)
