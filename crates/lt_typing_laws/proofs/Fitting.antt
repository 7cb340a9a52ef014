-- What phrases and names of an expansion stand for is of the types that they have in the text.
use Rattle.std.proofs.Common.{◌≡◌, ℕ, Bool, true, false, IsTrue, List, [], ◌∷◌, ◌++◌, map, bytes_eq, if◌then◌else◌, refl, sym, subst}
use Rattle.std.specs.declared.option.Option.{Option}
use Rattle.std.specs.declared.option.Option.TheVariants.{None, Some}
use Rattle.lt_ast.specs.declared.group.TypeName.{TypeName}
use Rattle.lt_ast.specs.declared.group.TypeName.TheVariants as t
use Rattle.lt_ast.specs.declared.span.Span.{Span}
use Rattle.lt_ast.specs.Syntax as s
use Rattle.lt_ast.specs.Syntax.{Word, Grouping, Groupings, Parameters}
use Rattle.lt_formula.specs.Expression as e
use Rattle.lt_formula.specs.Kinds.{Kinds}
use Rattle.lt_types.specs.Environment as types
use Rattle.lt_types.specs.Environment.{Parameter, by_value, by_ref, Entry, parameter_of, group_parameters, groups_parameters, parameters_of, group_entry, with_bindings}
use Rattle.lt_types.specs.Operators.{is_value, serves_as}
use Rattle.lt_types.specs.Typing.{StandsFor}
use Rattle.lt_macros.specs.Placed as p
use Rattle.lt_macros.specs.Placed.{Placed, bare}
use Rattle.lt_macros.specs.Environment.{Binding, variable, parameter, macro, NamedBinding, Environment, found, with_name, with_arguments, with_exceptions}
use Rattle.lt_macros.specs.Literals.{kind_of}
use Rattle.lt_macros.specs.Denotation.{Numbers, ExpandedTrace, Denotation, expression, trace, as_expression, as_trace, standing_for, before, groups_names, parameter_names}
use Rattle.lt_typing_laws.specs.TypedNode.{IsOfKind, IsTyped}
use Rattle.lt_term.specs.WellTyped.{HasKind}
use Rattle.lt_typing_laws.proofs.Locals.{AreDeclared}

-- A numbered trace is well typed wherever its locals stand in their table.
abbrev pub IsTypedTrace : Kinds → (Numbers → ExpandedTrace) → Type 0
IsTypedTrace kinds f = (n : Numbers) → AreDeclared kinds (f n).expanded → IsTyped kinds (f n).expanded

-- What a phrase stands for is of a type: an expression has the kind of its values, and one of the type of traces is a constraint;
-- what is no expression has the type of traces.
abbrev pub IsOf : Kinds → TypeName → Denotation → Type 0
IsOf kinds type (expression e) = IsOfKind kinds e (kind_of type)
IsOf kinds type (trace f) = (type ≡ t.Trace) × IsTypedTrace kinds f

-- It is a variable of a type.
abbrev pub IsVariableOf : Kinds → TypeName → Denotation → Type 0
IsVariableOf kinds type (expression (p.variable r i at)) = HasKind kinds (e.variable r i) (kind_of type)
IsVariableOf kinds type other = ⊥

-- It may be given for a parameter.
abbrev pub IsGiven : Kinds → Parameter → Denotation → Type 0
IsGiven kinds (by_value type) d = IsOf kinds type d
IsGiven kinds (by_ref type) d = IsVariableOf kinds type d

-- So it is of each parameter, which are as many.
abbrev pub AreGiven : Kinds → List Parameter → List Denotation → Type 0
AreGiven kinds [] [] = Unit {0}
AreGiven kinds [] (d ∷ ds) = ⊥
AreGiven kinds (q ∷ qs) [] = ⊥
AreGiven kinds (q ∷ qs) (d ∷ ds) = IsGiven kinds q d × AreGiven kinds qs ds

-- What a name is bound to is what it stands for by its type. A parameter by `ref` has all that a variable has.
abbrev pub IsBoundAs : Kinds → Entry → Binding Denotation → Type 0
IsBoundAs kinds (types.variable type) (variable r i) = HasKind kinds (e.variable r i) (kind_of type)
IsBoundAs kinds (types.variable type) (parameter d) = IsVariableOf kinds type d
IsBoundAs kinds (types.variable type) (macro f) = ⊥
IsBoundAs kinds (types.parameter type) (variable r i) = ⊥
IsBoundAs kinds (types.parameter type) (parameter d) = IsOf kinds type d
IsBoundAs kinds (types.parameter type) (macro f) = ⊥
IsBoundAs kinds (types.macro qs type) (variable r i) = ⊥
IsBoundAs kinds (types.macro qs type) (parameter d) = ⊥
IsBoundAs kinds (types.macro qs type) (macro f) = (ds : List Denotation) → AreGiven kinds qs ds → IsOf kinds type (f ds)

-- so it is of what is found for a name
abbrev pub IsFoundAs : Kinds → Option Entry → Option (Binding Denotation) → Type 0
IsFoundAs kinds None None = Unit {0}
IsFoundAs kinds None (Some b) = ⊥
IsFoundAs kinds (Some x) None = ⊥
IsFoundAs kinds (Some x) (Some b) = IsBoundAs kinds x b

-- so it is of all names, which are the same
abbrev pub AreBoundAs : Kinds → List types.Binding → List (NamedBinding Denotation) → Type 0
AreBoundAs kinds [] [] = Unit {0}
AreBoundAs kinds [] (b ∷ bs) = ⊥
AreBoundAs kinds (x ∷ xs) [] = ⊥
AreBoundAs kinds (x ∷ xs) (b ∷ bs) = (b.name ≡ x.name) × IsBoundAs kinds x.entry b.binding × AreBoundAs kinds xs bs

-- Names.

one_found : (kinds : Kinds) (same : Bool) (x : Entry) (b : Binding Denotation) (o : Option Entry) (q : Option (Binding Denotation)) → IsBoundAs kinds x b → IsFoundAs kinds o q
    → IsFoundAs kinds (if same then Some x else o) (if same then Some b else q)
one_found kinds true x b o q g h = g
one_found kinds false x b o q g h = h

pub found_as : (kinds : Kinds) (xs : List types.Binding) (bs : List (NamedBinding Denotation)) (name : List ℕ) → AreBoundAs kinds xs bs → IsFoundAs kinds (types.found xs name) (found bs name)
found_as kinds [] [] name h = tt
found_as kinds [] (b ∷ bs) name h = absurd h
found_as kinds (x ∷ xs) [] name h = absurd h
found_as kinds (x ∷ xs) (b ∷ bs) name h =
    subst (λ other. IsFoundAs kinds (types.found (x ∷ xs) name) (if bytes_eq name other then Some b.binding else found bs name)) (sym h.0)
    (one_found kinds (bytes_eq name x.name) x.entry b.binding (types.found xs name) (found bs name) h.1 (found_as kinds xs bs name h.2))

-- a variable is an expression
pub variable_is_of : (kinds : Kinds) (type : TypeName) (d : Denotation) → IsVariableOf kinds type d → IsOf kinds type d
variable_is_of kinds type (expression (p.constant k v at)) h = absurd h
variable_is_of kinds type (expression (p.variable r i at)) h = h
variable_is_of kinds type (expression (p.previous r i at)) h = absurd h
variable_is_of kinds type (expression (p.unary op c at)) h = absurd h
variable_is_of kinds type (expression (p.binary op c d at)) h = absurd h
variable_is_of kinds type (expression (p.choice b c d at)) h = absurd h
variable_is_of kinds type (trace f) h = absurd h

-- and what it was before has its kind
pub previous_is_of : (kinds : Kinds) (type : TypeName) (at : Span) (d : Denotation) → IsVariableOf kinds type d → IsOf kinds type (before at d)
previous_is_of kinds type at (expression (p.constant k v there)) h = absurd h
previous_is_of kinds type at (expression (p.variable r i there)) h = h
previous_is_of kinds type at (expression (p.previous r i there)) h = absurd h
previous_is_of kinds type at (expression (p.unary op c there)) h = absurd h
previous_is_of kinds type at (expression (p.binary op c d there)) h = absurd h
previous_is_of kinds type at (expression (p.choice b c d there)) h = absurd h
previous_is_of kinds type at (trace f) h = absurd h

-- what the name of a variable stands for
pub variable_standing : (kinds : Kinds) (type : TypeName) (at : Span) (b : Option (Binding Denotation)) → IsFoundAs kinds (Some (types.variable type)) b → IsVariableOf kinds type (standing_for at b [])
variable_standing kinds type at None h = absurd h
variable_standing kinds type at (Some (variable r i)) h = h
variable_standing kinds type at (Some (parameter d)) h = h
variable_standing kinds type at (Some (macro f)) h = absurd h

parameter_standing : (kinds : Kinds) (type : TypeName) (at : Span) (b : Option (Binding Denotation)) → IsFoundAs kinds (Some (types.parameter type)) b → IsOf kinds type (standing_for at b [])
parameter_standing kinds type at None h = absurd h
parameter_standing kinds type at (Some (variable r i)) h = absurd h
parameter_standing kinds type at (Some (parameter d)) h = h
parameter_standing kinds type at (Some (macro f)) h = absurd h

-- what that of a macro stands for with arguments
pub macro_standing : (kinds : Kinds) (qs : List Parameter) (type : TypeName) (at : Span) (b : Option (Binding Denotation)) (ds : List Denotation)
    → IsFoundAs kinds (Some (types.macro qs type)) b → AreGiven kinds qs ds → IsOf kinds type (standing_for at b ds)
macro_standing kinds qs type at None ds h g = absurd h
macro_standing kinds qs type at (Some (variable r i)) ds h g = absurd h
macro_standing kinds qs type at (Some (parameter d)) ds h g = absurd h
macro_standing kinds qs type at (Some (macro f)) ds h g = h ds g

-- what a name alone stands for
pub name_standing : (kinds : Kinds) (type : TypeName) (at : Span) (o : Option Entry) (b : Option (Binding Denotation)) → IsFoundAs kinds o b → StandsFor o type → IsOf kinds type (standing_for at b [])
name_standing kinds type at None b h g = absurd g
name_standing kinds type at (Some (types.variable other)) b h g =
    variable_is_of kinds type (standing_for at b []) (variable_standing kinds type at b (subst (λ one. IsFoundAs kinds (Some (types.variable one)) b) (sym g) h))
name_standing kinds type at (Some (types.parameter other)) b h g = parameter_standing kinds type at b (subst (λ one. IsFoundAs kinds (Some (types.parameter one)) b) (sym g) h)
name_standing kinds type at (Some (types.macro [] other)) b h g = macro_standing kinds [] type at b [] (subst (λ one. IsFoundAs kinds (Some (types.macro [] one)) b) (sym g) h) tt
name_standing kinds type at (Some (types.macro (q ∷ qs) other)) b h g = absurd g

-- Phrases.

no_trace : (type : TypeName) → IsTrue (is_value type) → type ≡ t.Trace → ⊥
no_trace t.Bool h e = absurd (cc)
no_trace t.Int h e = absurd (cc)
no_trace t.Real h e = absurd (cc)
no_trace t.Trace h e = absurd (cc)

-- one of a type with values is an expression
pub as_expression_is_of : (kinds : Kinds) (type : TypeName) (d : Denotation) → IsTrue (is_value type) → IsOf kinds type d → IsOfKind kinds (as_expression d) (kind_of type)
as_expression_is_of kinds type (expression e) g h = h
as_expression_is_of kinds type (trace f) g h = absurd (no_trace type g h.0)

-- one of the type of traces is well typed as a trace
pub as_trace_is_typed : (kinds : Kinds) (d : Denotation) → IsOf kinds t.Trace d → IsTypedTrace kinds (as_trace d)
as_trace_is_typed kinds (expression e) h n g = h
as_trace_is_typed kinds (trace f) h n g = h.1 n g

bool_is_trace : (t.Bool ≡ t.Trace) → ⊥
bool_is_trace h = absurd (cc)

constraint_is_trace : (kinds : Kinds) (d : Denotation) → IsOf kinds t.Bool d → IsOf kinds t.Trace d
constraint_is_trace kinds (expression e) h = h
constraint_is_trace kinds (trace f) h = absurd (bool_is_trace h.0)

-- one that serves as of another type is of that type
pub serves_is_of : (kinds : Kinds) (type wanted : TypeName) (d : Denotation) → IsTrue (serves_as type wanted) → IsOf kinds type d → IsOf kinds wanted d
serves_is_of kinds t.Bool t.Bool d g h = h
serves_is_of kinds t.Bool t.Int d g h = absurd (cc)
serves_is_of kinds t.Bool t.Real d g h = absurd (cc)
serves_is_of kinds t.Bool t.Trace d g h = constraint_is_trace kinds d h
serves_is_of kinds t.Int t.Bool d g h = absurd (cc)
serves_is_of kinds t.Int t.Int d g h = h
serves_is_of kinds t.Int t.Real d g h = absurd (cc)
serves_is_of kinds t.Int t.Trace d g h = absurd (cc)
serves_is_of kinds t.Real t.Bool d g h = absurd (cc)
serves_is_of kinds t.Real t.Int d g h = absurd (cc)
serves_is_of kinds t.Real t.Real d g h = h
serves_is_of kinds t.Real t.Trace d g h = absurd (cc)
serves_is_of kinds t.Trace t.Bool d g h = absurd (cc)
serves_is_of kinds t.Trace t.Int d g h = absurd (cc)
serves_is_of kinds t.Trace t.Real d g h = absurd (cc)
serves_is_of kinds t.Trace t.Trace d g h = h

-- Arguments that are bound to parameters.

-- what a parameter of a group is bound to
given_bound : (kinds : Kinds) (type : TypeName) (ref : Bool) (d : Denotation) → IsGiven kinds (parameter_of type ref) d → IsBoundAs kinds (group_entry types.parameters type ref) (parameter d)
given_bound kinds type true d h = h
given_bound kinds type false d h = h

-- This holds of the names that are visible where arguments are bound to parameters.
abbrev IsBinding : Kinds → List types.Binding → List (List ℕ) → List Denotation → Environment Denotation → Type 0
IsBinding kinds xs names ds env = AreBoundAs kinds xs (with_arguments names ds env).names

-- those of a group, where what follows binds those of others
group_bound : (kinds : Kinds) (type : TypeName) (ref : Bool) (ws : List Word) (qs : List Parameter) (names : List (List ℕ)) (goal : List types.Binding) (xs : List types.Binding) (ds : List Denotation) (env : Environment Denotation)
    → ((more : List Denotation) (inner : Environment Denotation) → AreGiven kinds qs more → AreBoundAs kinds (with_bindings (group_entry types.parameters type ref) ws xs) inner.names → IsBinding kinds goal names more inner)
    → AreGiven kinds (map (λ w. parameter_of type ref) ws ++ qs) ds → AreBoundAs kinds xs env.names
    → IsBinding kinds goal (map (λ w. w.text) ws ++ names) ds env
group_bound kinds type ref [] qs names goal xs ds env next g h = next ds env g h
group_bound kinds type ref (w ∷ ws) qs names goal xs [] env next g h = absurd g
group_bound kinds type ref (w ∷ ws) qs names goal xs (d ∷ ds) env next g h =
    group_bound kinds type ref ws qs names goal (record { name = w.text; entry = group_entry types.parameters type ref } ∷ xs) ds (with_name w.text (parameter d) env) next g.1
    (refl, given_bound kinds type ref d g.0, h)

groups_bound : (kinds : Kinds) (gs : Groupings) (outer : types.Environment) (ds : List Denotation) (env : Environment Denotation)
    → AreGiven kinds (groups_parameters gs) ds → AreBoundAs kinds outer.names env.names → IsBinding kinds (types.with_groups types.parameters outer gs).names (groups_names gs) ds env
groups_bound kinds s.no_groups outer [] env g h = h
groups_bound kinds s.no_groups outer (d ∷ ds) env g h = absurd g
groups_bound kinds (s.one_group (s.grouping ws type ref range first) gs) outer ds env g h =
    group_bound kinds type ref ws (groups_parameters gs) (groups_names gs) _ outer.names ds env
    (λ more inner k m. groups_bound kinds gs (types.with_group types.parameters outer (s.grouping ws type ref range first)) more inner k m)
    g h

-- where the parameters of a macro are bound
pub parameters_bound : (kinds : Kinds) (ps : Parameters) (outer : types.Environment) (ds : List Denotation) (env : Environment Denotation)
    → AreGiven kinds (parameters_of ps) ds → AreBoundAs kinds outer.names env.names → AreBoundAs kinds (types.with_parameters outer ps).names (with_arguments (parameter_names ps) ds env).names
parameters_bound kinds s.no_parameters outer [] env g h = h
parameters_bound kinds s.no_parameters outer (d ∷ ds) env g h = absurd g
parameters_bound kinds (s.parameters gs) outer ds env g h = groups_bound kinds gs outer ds env g h

-- exceptions are no names
pub exceptions_bound : (kinds : Kinds) (xs : List types.Binding) (terms : ℕ) (ws : List Word) (env : Environment Denotation) → AreBoundAs kinds xs env.names → AreBoundAs kinds xs (with_exceptions terms ws env).names
exceptions_bound kinds xs terms [] env h = h
exceptions_bound kinds xs terms (w ∷ ws) env h = exceptions_bound kinds xs terms ws _ h
