-- A text is well typed exactly where it breaks no rule.
use Rattle.std.proofs.Common.{◌≡◌, ℕ, suc, nat_eq, eqb-true, eq-eqb, not, ◌&&◌, length, arith, ap, List, [], ◌∷◌, ◌++◌, Option, Some, None, option_map, refl, subst, true, ◌∙◌}
use Rattle.lt_ast.specs.declared.group.TypeName.{TypeName}
use Rattle.lt_ast.specs.declared.group.TypeName.TheVariants as t
use Rattle.lt_ast.specs.Syntax as s
use Rattle.lt_ast.specs.Syntax.{Word, Exp, Argument, Arguments, Limits, Braces, Alternative, Alternatives, Trace, Traces, Grouping, Groupings, MaybeExp, MaybeTrace, Parameters, Meaning, Macro, Run, Declaration}
use Rattle.lt_types.specs.Environment.{Environment, at_start, Entry, variable, parameter, macro, Input, Node, Parameter, by_value, by_ref, found, found_node, node_names, with_names, with_run, with_runs, TypedName, with_variables_alone, Role, inputs, variables, parameters, with_group, with_groups, with_group_names, with_groups_names, with_parameters, with_macro, with_exceptions, with_declaration, with_inputs_and_outputs}
use Rattle.lt_types.specs.Operators.{same_type, serves_as, unary_takes, unary_gives, binary_takes, binary_gives}
use Rattle.lt_ast.specs.Literals.{figure_type}
use Rattle.lt_types.specs.Typing.{HasType, AreNew, ArgumentFits, ArgumentsFit, AreLimits, IsBraced, IsAlternative, AreAlternatives, AreTraces, IsGroup, AreGroups, IsFirst, IsHandler, AreParameters, IsMeaning, IsMacro, IsTrace, AreGiven, AreRuns, IsRun, IsCondition, IsDeclaration, AreDeclarations, IsWellTyped, may_be_written, has_node}
use Rattle.lt_ast.specs.Places.{span_of}
use Rattle.lt_types.specs.Refusals.{unless, entry_type, type_of, known, applied, argument_misfit, arguments_misfit, as_many, first_wanted, first_place, exp_refusals, argument_refusals, arguments_refusals, limits_refusals, braces_refusals, alternative_refusals, alternatives_refusals, traces_refusals, group_refusals, groups_refusals, first_refusals, handler_refusals, parameters_refusals, meaning_refusals, macro_refusals, trace_refusals, known_node, exps_refusals, given_misfit, all_given_misfit, counts_agree, applied_node, new_names, run_refusals, runs_refusals, condition_refusals, declaration_refusals, declarations_refusals, type_refusals}
use Rattle.lt_types.specs.Law.{TypesAreOne, WellTypedIsUnrefused}
use Rattle.lt_types.specs.declared.refusal.TypeRefusal.{TypeRefusal}
use Rattle.lt_types.specs.declared.refusal.TypeRefusal.TheVariants.{Mismatch, Arity, NoNode}
use Rattle.lt_types.proofs.Agreeing.{Agrees, AgreesInTwo, Types, none, never, test, both, and-both, and-left, and-right, same-refl, same-is, typed_clean, typed_back, unless_clean, unless_back, nil_both, nil_left, all_three, all_five, four_in_five, one_more, same, tested, of_type, of_type_then, of_type_around, in_two, only, with_one, with_two, with_choice, nil_right}
use Rattle.lt_types.proofs.Names.{named_types, pre_types, variable_agrees, new_agrees, exception_agrees, new_macro_agrees}
use Rattle.lt_types.proofs.Ranges.{group_range_agrees}

-- what is judged of arguments, where the refusal for another number of them is this
abbrev arguments_list : Environment → Arguments → List Parameter → TypeRefusal → List TypeRefusal
arguments_list env args ps r = arguments_refusals env args ++ (unless (as_many args ps) r ++ arguments_misfit env args ps)

-- a name with arguments, by what it stands for
used : (env : Environment) (w : Word) (args : Arguments) → ((ps : List Parameter) (r : TypeRefusal) → Agrees (ArgumentsFit env args ps) (arguments_list env args ps r)) → (o : Option Entry)
    → Types (λ kind. (ps : List Parameter) × (o ≡ Some (macro ps kind)) × ArgumentsFit env args ps) (known w o ++ (arguments_refusals env args ++ applied env w args o)) (option_map entry_type o)
used env w args a None = record { clean = λ k h. let e = h.1 in absurd (cc); is_shown = λ k h. let e = h.1 in cc; back = λ e. absurd (cc) }
used env w args a (Some (variable k)) = record {
  clean = λ kind h. let e = h.1 in absurd (cc);
  is_shown = λ kind h. let e = h.1 in absurd (cc);
  back = λ e. let f : Arity w.span ∷ [] ≡ [] = nil_right (arguments_refusals env args) _ e in absurd (cc);
}
used env w args a (Some (parameter k)) = record {
  clean = λ kind h. let e = h.1 in absurd (cc);
  is_shown = λ kind h. let e = h.1 in absurd (cc);
  back = λ e. let f : Arity w.span ∷ [] ≡ [] = nil_right (arguments_refusals env args) _ e in absurd (cc);
}
used env w args a (Some (macro qs k)) = record {
  clean = λ kind h. let e = h.1 in let same_list : h.0 ≡ qs = cc in (a qs (Arity w.span)).clean (subst (ArgumentsFit env args) same_list h.2);
  is_shown = λ kind h. let e = h.1 in cc;
  back = λ e. (k, (qs, refl, (a qs (Arity w.span)).back e));
}

mutual
  exp_types : (env : Environment) (e : Exp) → Types (HasType env e) (exp_refusals env e) (type_of env e)
  exp_types env (s.number f) = only (figure_type f)
  exp_types env (s.flag b at) = only t.Bool
  exp_types env (s.named w) = named_types w (found env.names w.text)
  exp_types env (s.called w args) = used env w args (arguments_agree env args) (found env.names w.text)
  exp_types env (s.pre w at) = pre_types w (found env.names w.text)
  exp_types env (s.paren e at) = exp_types env e
  exp_types env (s.unary op e at) = with_one (unary_takes op) (unary_gives op) at (exp_types env e)
  exp_types env (s.binary op e f at) = with_two (binary_takes op) (binary_gives op) at (exp_types env e) (exp_types env f)
  exp_types env (s.choose c e f at) = with_choice at (exp_types env c) (exp_types env e) (exp_types env f)

  argument_agrees : (env : Environment) (a : Argument) (p : Parameter) → Agrees (ArgumentFits env a p) (argument_refusals env a ++ argument_misfit env a p)
  argument_agrees env (s.value_argument e) (by_value kind) = tested (λ k. serves_as k kind) (span_of e) (exp_types env e)
  argument_agrees env (s.value_argument e) (by_ref kind) = variable_agrees env e kind (Mismatch (span_of e))
  argument_agrees env (s.trace_argument b at) (by_value kind) = both (braces_agree env b) (same kind t.Trace (Mismatch at))
  argument_agrees env (s.trace_argument b at) (by_ref kind) = never (braces_refusals env b) (Mismatch at)

  arguments_agree : (env : Environment) (args : Arguments) (ps : List Parameter) (r : TypeRefusal) → Agrees (ArgumentsFit env args ps) (arguments_list env args ps r)
  arguments_agree env s.no_arguments [] r = none
  arguments_agree env s.no_arguments (p ∷ ps) r = never [] r
  arguments_agree env (s.argument a rest) [] r = never (argument_refusals env a ++ arguments_refusals env rest) r
  arguments_agree env (s.argument a rest) (p ∷ ps) r =
      one_more (argument_refusals env a) (argument_misfit env a p) (arguments_refusals env rest) (unless (as_many rest ps) r) (arguments_misfit env rest ps) (argument_agrees env a p) (arguments_agree env rest ps r)

  limits_agree : (env : Environment) (l : Limits) → Agrees (AreLimits env l) (limits_refusals env l)
  limits_agree env s.forever = none
  limits_agree env (s.between e f) = of_type_then t.Int (span_of e) (exp_types env e) (of_type t.Int (span_of f) (exp_types env f))
  limits_agree env (s.around e f) = of_type_then t.Int (span_of e) (exp_types env e) (of_type t.Int (span_of f) (exp_types env f))

  braces_agree : (env : Environment) (b : Braces) → Agrees (IsBraced env b) (braces_refusals env b)
  braces_agree env (s.plain x) = trace_agrees env x
  braces_agree env (s.choice lead ps) = alternatives_agree env ps
  braces_agree env (s.priority lead xs) = traces_agree env xs
  braces_agree env (s.parallel lead xs) = traces_agree env xs

  alternative_agrees : (env : Environment) (p : Alternative) → Agrees (IsAlternative env p) (alternative_refusals env p)
  alternative_agrees env (s.unweighted x) = trace_agrees env x
  alternative_agrees env (s.weighted e x) = of_type_then t.Int (span_of e) (exp_types env e) (trace_agrees env x)

  alternatives_agree : (env : Environment) (ps : Alternatives) → Agrees (AreAlternatives env ps) (alternatives_refusals env ps)
  alternatives_agree env s.no_alternatives = none
  alternatives_agree env (s.alternative p ps) = both (alternative_agrees env p) (alternatives_agree env ps)

  traces_agree : (env : Environment) (xs : Traces) → Agrees (AreTraces env xs) (traces_refusals env xs)
  traces_agree env s.no_traces = none
  traces_agree env (s.one_trace x xs) = both (trace_agrees env x) (traces_agree env xs)

  group_agrees : (role : Role) (env : Environment) (taken : List (List ℕ)) (g : Grouping) → Agrees (IsGroup role env taken g) (group_refusals role env taken g)
  group_agrees role env taken (s.grouping ws kind ref range first) =
      four_in_five (new_agrees taken ws) (group_range_agrees env.decimals kind range) (first_agrees env kind first) (test (may_be_written role kind ref range first) (Mismatch (first_place ws)))

  groups_agree : (role : Role) (env : Environment) (taken : List (List ℕ)) (gs : Groupings) → Agrees (AreGroups role env taken gs) (groups_refusals role env taken gs)
  groups_agree role env taken s.no_groups = none
  groups_agree role env taken (s.one_group g gs) = both (group_agrees role env taken g) (groups_agree role (with_group role env g) (with_group_names g taken) gs)

  first_agrees : (env : Environment) (kind : TypeName) (first : MaybeExp) → AgreesInTwo (IsFirst env kind first) (first_refusals env first) (first_wanted kind env first)
  first_agrees env kind s.no_exp = record { clean = λ h. (refl, refl); back = λ e f. tt }
  first_agrees env kind (s.an_exp e) = in_two kind (span_of e) (exp_types env e)

  handler_agrees : (env : Environment) (h : MaybeTrace) → Agrees (IsHandler env h) (handler_refusals env h)
  handler_agrees env s.no_trace = none
  handler_agrees env (s.a_trace x) = trace_agrees env x

  parameters_agree : (env : Environment) (ps : Parameters) → Agrees (AreParameters env ps) (parameters_refusals env ps)
  parameters_agree env s.no_parameters = none
  parameters_agree env (s.parameters gs) = groups_agree parameters env [] gs

  meaning_agrees : (env : Environment) (kind : TypeName) (m : Meaning) → Agrees (IsMeaning env kind m) (meaning_refusals env kind m)
  meaning_agrees env kind (s.trace_meaning x) = trace_agrees env x
  meaning_agrees env kind (s.value_meaning e) = of_type kind (span_of e) (exp_types env e)

  macro_agrees : (env : Environment) (m : Macro) → Agrees (IsMacro env m) (macro_refusals env m)
  macro_agrees env (s.macro w ps kind m) = both (parameters_agree env ps) (meaning_agrees (with_parameters env ps) kind m)

  trace_agrees : (env : Environment) (x : Trace) → Agrees (IsTrace env x) (trace_refusals env x)
  trace_agrees env (s.sequence xs) = traces_agree env xs
  trace_agrees env (s.braces b at) = braces_agree env b
  trace_agrees env (s.loop l x) = both (limits_agree env l) (trace_agrees env x)
  trace_agrees env (s.raise w) = exception_agrees env w
  trace_agrees env (s.assert e x) = of_type_around t.Bool (span_of e) (exp_types env e) (trace_agrees env x)
  trace_agrees env (s.exist gs x) = both (groups_agree variables env [] gs) (trace_agrees (with_groups variables env gs) x)
  trace_agrees env (s.define m x) = both (macro_agrees env m) (trace_agrees (with_macro env m) x)
  trace_agrees env (s.exceptions ws x) = both (new_agrees [] ws) (trace_agrees (with_exceptions env ws) x)
  trace_agrees env (s.catch w x h) = all_three (exception_agrees env w) (trace_agrees env x) (handler_agrees env h)
  trace_agrees env (s.trap w x h) = both (trace_agrees (with_exceptions env (w ∷ [])) x) (handler_agrees (with_exceptions env (w ∷ [])) h)
  trace_agrees env (s.try x h) = both (trace_agrees env x) (handler_agrees env h)
  trace_agrees env (s.value e) = tested (λ k. serves_as k t.Trace) (span_of e) (exp_types env e)

-- what is said of expressions that are given for inputs
record AreAllGiven (env : Environment) (es : List Exp) (js : List Input) : Type 0 where
  pub inside : exps_refusals env es ≡ []
  pub number : length es ≡ length js
  pub fit : all_given_misfit env es js ≡ []

-- an expression that is given for an input
given_clean : (env : Environment) (e : Exp) (i : Input) → HasType env e i.kind → not i.ranged ≡ true → (exp_refusals env e ≡ []) × (given_misfit env e i ≡ [])
given_clean env e i h k =
    let types = exp_types env e in
    (types.clean i.kind h, typed_clean (λ kind. same_type kind i.kind && not i.ranged) (span_of e) (types.is_shown i.kind h) (and-both (same-refl i.kind) k))

given_back : (env : Environment) (e : Exp) (i : Input) → exp_refusals env e ≡ [] → given_misfit env e i ≡ [] → HasType env e i.kind × (not i.ranged ≡ true)
given_back env e i h f =
    let types = exp_types env e in
    let own = types.back h in
    let b : (same_type own.0 i.kind && not i.ranged) ≡ true = typed_back (λ kind. same_type kind i.kind && not i.ranged) (span_of e) (types.is_shown own.0 own.1) f in
    (subst (HasType env e) (same-is own.0 i.kind (and-left (same_type own.0 i.kind) (not i.ranged) b)) own.1, and-right (same_type own.0 i.kind) (not i.ranged) b)

-- expressions that are given for inputs
all_given_clean : (env : Environment) (es : List Exp) (js : List Input) → AreGiven env es js → AreAllGiven env es js
all_given_clean env [] [] h = record { inside = refl; number = refl; fit = refl }
all_given_clean env [] (i ∷ js) h = absurd h
all_given_clean env (e ∷ es) [] h = absurd h
all_given_clean env (e ∷ es) (i ∷ js) h =
    let here = given_clean env e i h.0 h.1 in
    let rest = all_given_clean env es js h.2 in
    record { inside = nil_both here.0 rest.inside; number = ap suc rest.number; fit = nil_both here.1 rest.fit }

all_given_back : (env : Environment) (es : List Exp) (js : List Input) → AreAllGiven env es js → AreGiven env es js
all_given_back env [] [] h = tt
all_given_back env [] (i ∷ js) h = absurd (omega (arith, h.number))
all_given_back env (e ∷ es) [] h = absurd (omega (arith, h.number))
all_given_back env (e ∷ es) (i ∷ js) h =
    let here = given_back env e i (nil_left (exp_refusals env e) _ h.inside) (nil_left (given_misfit env e i) _ h.fit) in
    let rest : AreAllGiven env es js = record {
      inside = nil_right (exp_refusals env e) _ h.inside;
      number = omega (arith, h.number);
      fit = nil_right (given_misfit env e i) _ h.fit;
    } in
    (here.0, here.1, all_given_back env es js rest)

-- a run, by the node of its name
run_clean : (env : Environment) (taken : List (List ℕ)) (r : Run) (o : Option Node) (n : Node) → AreNew taken r.names → o ≡ Some n → length r.names ≡ length n.outputs → AreGiven env r.arguments n.inputs
    → new_names taken r.names ++ (known_node r.node o ++ (exps_refusals env r.arguments ++ applied_node env r o)) ≡ []
run_clean env taken r o n new is number given =
    let all = all_given_clean env r.arguments n.inputs given in
    let counts : counts_agree r n ≡ true = and-both (eq-eqb (length r.names) (length n.outputs) number) (eq-eqb (length r.arguments) (length n.inputs) all.number) in
    let applied : applied_node env r (Some n) ≡ [] = nil_both (unless_clean _ counts) all.fit in
    nil_both ((new_agrees taken r.names).clean new)
    (ap (λ x. known_node r.node x ++ (exps_refusals env r.arguments ++ applied_node env r x)) is ∙ nil_both all.inside applied)

run_back : (env : Environment) (taken : List (List ℕ)) (r : Run) (o : Option Node) → new_names taken r.names ++ (known_node r.node o ++ (exps_refusals env r.arguments ++ applied_node env r o)) ≡ []
    → AreNew taken r.names × (n : Node) × (o ≡ Some n) × (length r.names ≡ length n.outputs) × AreGiven env r.arguments n.inputs
run_back env taken r None h = let f : known_node r.node None ++ (exps_refusals env r.arguments ++ []) ≡ [] = nil_right (new_names taken r.names) _ h in absurd (cc)
run_back env taken r (Some n) h =
    let behind : exps_refusals env r.arguments ++ applied_node env r (Some n) ≡ [] = nil_right (new_names taken r.names) _ h in
    let applied : applied_node env r (Some n) ≡ [] = nil_right (exps_refusals env r.arguments) _ behind in
    let counts : counts_agree r n ≡ true = unless_back (counts_agree r n) _ (nil_left (unless (counts_agree r n) (Arity r.node.span)) _ applied) in
    let all : AreAllGiven env r.arguments n.inputs = record {
      inside = nil_left (exps_refusals env r.arguments) _ behind;
      number = eqb-true (length r.arguments) (length n.inputs) (and-right (nat_eq (length r.names) (length n.outputs)) (nat_eq (length r.arguments) (length n.inputs)) counts);
      fit = nil_right (unless (counts_agree r n) (Arity r.node.span)) _ applied;
    } in (
      (new_agrees taken r.names).back (nil_left (new_names taken r.names) _ h),
      n,
      refl,
      eqb-true (length r.names) (length n.outputs) (and-left (nat_eq (length r.names) (length n.outputs)) (nat_eq (length r.arguments) (length n.inputs)) counts),
      all_given_back env r.arguments n.inputs all,
    )

run_agrees : (env : Environment) (taken : List (List ℕ)) (r : Run) → Agrees (IsRun env taken r) (run_refusals env taken r)
run_agrees env taken r = record {
  clean = λ h. run_clean env taken r (found_node env.nodes r.node.text) h.1 h.0 h.2 h.3 h.4;
  back = run_back env taken r (found_node env.nodes r.node.text);
}

runs_agree : (env : Environment) (taken : List (List ℕ)) (rs : List Run) → Agrees (AreRuns env taken rs) (runs_refusals env taken rs)
runs_agree env taken [] = none
runs_agree env taken (r ∷ rs) = both (run_agrees env taken r) (runs_agree (with_run env r) (with_names r.names taken) rs)

declaration_agrees : (env : Environment) (d : Declaration) → Agrees (IsDeclaration env d) (declaration_refusals env d)
declaration_agrees env (s.node w ins outs rs x) =
    all_five (new_agrees (node_names env.nodes) (w ∷ [])) (groups_agree inputs env [] ins) (groups_agree variables (with_groups inputs env ins) (with_groups_names ins []) outs)
    (runs_agree (with_inputs_and_outputs env ins outs) (with_groups_names outs (with_groups_names ins [])) rs) (trace_agrees (with_runs (with_inputs_and_outputs env ins outs) rs) x)
declaration_agrees env (s.macro_declaration m) = both (new_macro_agrees env m) (macro_agrees env m)
declaration_agrees env (s.exception_declaration ws) = new_agrees env.exceptions ws

declarations_agree : (env : Environment) (ds : List Declaration) → Agrees (AreDeclarations env ds) (declarations_refusals env ds)
declarations_agree env [] = none
declarations_agree env (d ∷ ds) = both (declaration_agrees env d) (declarations_agree (with_declaration env d) ds)

program_agrees : (decimals : ℕ) (ds : List Declaration) → Agrees (IsWellTyped decimals ds) (type_refusals decimals ds)
program_agrees decimals ds = both (declarations_agree (at_start decimals) ds) (test (has_node ds) NoNode)

pub well_typed_is_unrefused : WellTypedIsUnrefused
well_typed_is_unrefused decimals ds = let a = program_agrees decimals ds in (a.clean, a.back)

-- a condition is well typed exactly where it breaks no rule
pub condition_agrees : (decimals : ℕ) (vs : List TypedName) (e : Exp) → Agrees (IsCondition decimals vs e) (condition_refusals decimals vs e)
condition_agrees decimals vs e = of_type t.Bool (span_of e) (exp_types (with_variables_alone decimals vs) e)

pub types_are_one : TypesAreOne
types_are_one env e kind other h j =
    let a : type_of env e ≡ Some kind = (exp_types env e).is_shown kind h in
    let b : type_of env e ≡ Some other = (exp_types env e).is_shown other j in
    cc
