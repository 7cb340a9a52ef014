-- The variables of what a program's node stands for have names of the program.
use Rattle.std.proofs.Common.{◌≡◌, ℕ, suc, ◌+◌, Bool, true, false, List, [], ◌∷◌, ◌++◌, map, length, Option, None, Some, bytes_eq, if◌then◌else◌, refl, sym, subst}
use Rattle.std.specs.List.{flat_map}
use Rattle.lt_ast.specs.Syntax as s
use Rattle.lt_ast.specs.Syntax.{Word, Exp, Argument, Arguments, Braces, Alternative, Alternatives, Trace, Traces, Grouping, Groupings, MaybeTrace, Meaning, Macro, Run, Declaration}
use Rattle.lt_ast.specs.Tokens.{alternative_tokens, alternatives_tokens, argument_tokens, arguments_tokens, braced_tokens, declaration_tokens, exp_tokens, grouping_tokens, groupings_tokens, handler_tokens, in_parentheses, limits_tokens, macro_rest, marked_if, meaning_tokens, more_alternatives, more_arguments, more_groupings, more_names, more_traces, names_tokens, parameters_tokens, run_tokens, tokens_of, trace_tokens, traces_tokens}
use Rattle.lt_ast.specs.declared.sign.Sign.{Sign}
use Rattle.lt_ast.specs.declared.sign.Sign.TheVariants as t
use Rattle.lt_ast.specs.declared.span.Span.{Span}
use Rattle.lt_formula.specs.declared.role.Role.{Role}
use Rattle.lt_formula.specs.declared.role.Role.TheVariants as role
use Rattle.lt_macros.specs.Placed as p
use Rattle.lt_macros.specs.Expanded.{Declared, Call, Bounds, Expanded, eps, dead, con, raise, seq, loop, count, any, pri, par, assert, exist, catch, try, Parts, no_part, part, Node, all_inputs}
use Rattle.lt_macros.specs.Environment.{Binding, variable, parameter, macro, Raised, deadlock, declared, NamedBinding, Environment, at_start, found, found_exception, with_name, with_arguments, with_variables, with_exceptions}
use Rattle.lt_macros.specs.Expansion.{expanded_node, group_variables, groups_variables, with_group, with_groups, node_of, is_wanted, node_among, Runnable, runnable_of, outputs_of, all_given_as, with_declared, with_calls, calls_of}
use Rattle.lt_macros.specs.Denotation.{Numbers, ExpandedTrace, behind_term, behind_local, behind_counter, Denotation, expression, trace, as_trace, standing_for, before, macro_name, parameter_names, declared_as, first_of, group_names, caught_as, raised_as, repeated, bounds_of, in_locals, in_group, in_groups, caught, exp_denotation, argument_denotation, argument_denotations, braces_denotation, alternative_denotation, parts_of, traces_denotation, handler_denotation, meaning_denotation, macro_denotation, trace_denotation}
use Rattle.lt_scenario_laws.proofs.Words.{AreOnLines, IsOnLine, prefix, back}

-- ---- locals

-- something holds of each local that a trace declares
abbrev mutual
  pub EachLocal : (Declared → Type 0) → Expanded → Type 0
  EachLocal P eps = Unit {0}
  EachLocal P dead = Unit {0}
  EachLocal P (con e) = Unit {0}
  EachLocal P (raise z) = Unit {0}
  EachLocal P (seq x y) = EachLocal P x × EachLocal P y
  EachLocal P (loop x) = EachLocal P x
  EachLocal P (count i b x) = EachLocal P x
  EachLocal P (any ps) = EachLocalIn P ps
  EachLocal P (pri x y) = EachLocal P x × EachLocal P y
  EachLocal P (par x y) = EachLocal P x × EachLocal P y
  EachLocal P (assert e x) = EachLocal P x
  EachLocal P (exist i d x) = P d × EachLocal P x
  EachLocal P (catch z x h) = EachLocal P x × EachLocal P h
  EachLocal P (try x h) = EachLocal P x × EachLocal P h

  pub EachLocalIn : (Declared → Type 0) → Parts → Type 0
  EachLocalIn P no_part = Unit {0}
  EachLocalIn P (part w x ps) = EachLocal P x × EachLocalIn P ps

-- the name of a variable is on a line
abbrev pub IsLined : Declared → Type 0
IsLined d = IsOnLine d.name

abbrev HaveLines : Expanded → Type 0
HaveLines x = EachLocal IsLined x

-- something holds of each variable
abbrev pub Each : (Declared → Type 0) → List Declared → Type 0
Each P [] = Unit {0}
Each P (d ∷ ds) = P d × Each P ds

pub each_append : (P : Declared → Type 0) (ds es : List Declared) → Each P ds → Each P es → Each P (ds ++ es)
each_append P [] es g h = h
each_append P (d ∷ ds) es g h = (g.0, each_append P ds es g.1 h)

-- ---- denotations

-- a denotation declares only locals whose names are on lines
abbrev IsLinedDenotation : Denotation → Type 0
IsLinedDenotation (expression e) = Unit {0}
IsLinedDenotation (trace f) = (n : Numbers) → HaveLines (f n).expanded

abbrev AreLinedDenotations : List Denotation → Type 0
AreLinedDenotations [] = Unit {0}
AreLinedDenotations (x ∷ xs) = IsLinedDenotation x × AreLinedDenotations xs

-- a macro keeps denotations so
abbrev IsLinedBinding : Binding Denotation → Type 0
IsLinedBinding (variable r i) = Unit {0}
IsLinedBinding (parameter x) = IsLinedDenotation x
IsLinedBinding (macro f) = (xs : List Denotation) → AreLinedDenotations xs → IsLinedDenotation (f xs)

abbrev IsLinedOption : Option (Binding Denotation) → Type 0
IsLinedOption None = Unit {0}
IsLinedOption (Some x) = IsLinedBinding x

abbrev AreLinedNames : List (NamedBinding Denotation) → Type 0
AreLinedNames [] = Unit {0}
AreLinedNames (b ∷ bs) = IsLinedBinding b.binding × AreLinedNames bs

one_of : (b : Bool) (x : Binding Denotation) (o : Option (Binding Denotation)) → IsLinedBinding x → IsLinedOption o → IsLinedOption (if b then Some x else o)
one_of true x o f g = f
one_of false x o f g = g

found_lined : (bs : List (NamedBinding Denotation)) (name : List ℕ) → AreLinedNames bs → IsLinedOption (found bs name)
found_lined [] name h = tt
found_lined (b ∷ bs) name h = one_of (bytes_eq name b.name) b.binding (found bs name) h.0 (found_lined bs name h.1)

standing_lined : (at : Span) (o : Option (Binding Denotation)) (xs : List Denotation) → IsLinedOption o → AreLinedDenotations xs → IsLinedDenotation (standing_for at o xs)
standing_lined at None xs h g = tt
standing_lined at (Some (variable r i)) xs h g = tt
standing_lined at (Some (parameter x)) xs h g = h
standing_lined at (Some (macro f)) xs h g = h xs g

before_lined : (at : Span) (x : Denotation) → IsLinedDenotation (before at x)
before_lined at (expression (p.constant k v there)) = tt
before_lined at (expression (p.variable r i there)) = tt
before_lined at (expression (p.previous r i there)) = tt
before_lined at (expression (p.unary op e there)) = tt
before_lined at (expression (p.binary op d e there)) = tt
before_lined at (expression (p.choice c d e there)) = tt
before_lined at (trace f) = tt

bound_lined : (ns : List (List ℕ)) (xs : List Denotation) (env : Environment Denotation) → AreLinedDenotations xs → AreLinedNames env.names → AreLinedNames (with_arguments ns xs env).names
bound_lined [] xs env g h = h
bound_lined (n ∷ ns) [] env g h = h
bound_lined (n ∷ ns) (x ∷ xs) env g h = bound_lined ns xs (with_name n (parameter x) env) g.1 (g.0, h)

exceptions_lined : (terms : ℕ) (ws : List Word) (env : Environment Denotation) → AreLinedNames env.names → AreLinedNames (with_exceptions terms ws env).names
exceptions_lined terms [] env h = h
exceptions_lined terms (w ∷ ws) env h = exceptions_lined terms ws _ h

variables_lined : (r : Role) (i : ℕ) (ws : List Word) (env : Environment Denotation) → AreLinedNames env.names → AreLinedNames (with_variables r i ws env).names
variables_lined r i [] env h = h
variables_lined r i (w ∷ ws) env h = variables_lined r (suc i) ws (with_name w.text (variable r i) env) (tt, h)

as_lined : (x : Denotation) (n : Numbers) → IsLinedDenotation x → HaveLines (as_trace x n).expanded
as_lined (expression e) n h = tt
as_lined (trace f) n h = h n

-- a trace of two others declares what these do
abbrev Joins : (Expanded → Expanded → Expanded) → Type 0
Joins f = (x y : Expanded) → HaveLines x → HaveLines y → HaveLines (f x y)

caught_joins : (r : Raised) → Joins (caught_as r)
caught_joins deadlock = λ x y g h. (g, h)
caught_joins (declared z) = λ x y g h. (g, h)

raised_lined : (r : Raised) → HaveLines (raised_as r)
raised_lined deadlock = tt
raised_lined (declared z) = tt

repeated_lined : (o : Option Bounds) (body : Numbers → ExpandedTrace) → ((n : Numbers) → HaveLines (body n).expanded) → (n : Numbers) → HaveLines (repeated o body n).expanded
repeated_lined None body h n = h (behind_term n)
repeated_lined (Some b) body h n = h (behind_counter n)

-- ---- groups

-- names are on lines
abbrev AreWords : List Word → Type 0
AreWords [] = Unit {0}
AreWords (w ∷ ws) = IsOnLine w.text × AreWords ws

more_words : (ws : List Word) → AreOnLines (more_names ws) → AreWords ws
more_words [] h = tt
more_words (w ∷ ws) h = (h.1.0, more_words ws h.1.1)

are_words : (ws : List Word) → AreOnLines (names_tokens ws) → AreWords ws
are_words [] h = tt
are_words (w ∷ ws) h = (h.0, more_words ws h.1)

-- the groups after a first one
other_groups : (gs : Groupings) → AreOnLines (more_groupings gs) → AreOnLines (groupings_tokens gs)
other_groups s.no_groups h = tt
other_groups (s.one_group g gs) h = h.1

-- a trace that a place in a text stands for, wherever the names are so
abbrev IsLinedBody : (Environment Denotation → Numbers → ExpandedTrace) → Type 0
IsLinedBody body = (env : Environment Denotation) → AreLinedNames env.names → (n : Numbers) → HaveLines (body env n).expanded

locals_lined : (declares : Word → Declared) → ((w : Word) → (declares w).name ≡ w.text) → (ws : List Word) (env : Environment Denotation) (body : Environment Denotation → Numbers → ExpandedTrace) → IsLinedBody body → AreWords ws
    → AreLinedNames env.names → (n : Numbers) → HaveLines (in_locals declares ws env body n).expanded
locals_lined declares named [] env body h words g n = h env g n
locals_lined declares named (w ∷ ws) env body h words g n = (
  subst IsOnLine (sym (named w)) words.0,
  locals_lined declares named ws (with_name w.text (variable role.Local n.local) env) body h words.1 (tt, g) (behind_local n),
)

group_lined : (env : Environment Denotation) (gr : Grouping) (body : Environment Denotation → Numbers → ExpandedTrace) → IsLinedBody body → AreOnLines (grouping_tokens gr) → AreLinedNames env.names → (n : Numbers)
    → HaveLines (in_group env gr body n).expanded
group_lined env (s.grouping ws type ref range first) body h on g n =
    locals_lined (declared_as role.Local env type range (first_of env first)) (λ w. refl) ws env body h (are_words ws (prefix (names_tokens ws) _ on)) g n

groups_lined : (env : Environment Denotation) (gs : Groupings) (body : Environment Denotation → Numbers → ExpandedTrace) → IsLinedBody body → AreOnLines (groupings_tokens gs) → AreLinedNames env.names → (n : Numbers)
    → HaveLines (in_groups env gs body n).expanded
groups_lined env s.no_groups body h on g n = h env g n
groups_lined env (s.one_group gr gs) body h on g n =
    group_lined env gr (λ inner. in_groups inner gs body) (λ inner k m. groups_lined inner gs body h (other_groups gs (back (grouping_tokens gr) (more_groupings gs) on)) k m) (prefix (grouping_tokens gr) (more_groupings gs) on) g n

-- ---- phrases

caught_lined : (env : Environment Denotation) (w : Word) (x : Trace) (h : MaybeTrace) → IsLinedDenotation (trace_denotation env x) → IsLinedDenotation (handler_denotation env h) → (n : Numbers)
    → HaveLines (caught w env (λ inner. as_trace (trace_denotation inner x)) (λ inner. as_trace (handler_denotation inner h)) n).expanded
caught_lined env w x h f g n =
    caught_joins (found_exception env.exceptions w.text) (as_trace (trace_denotation env x) (behind_term n)).expanded
    (as_trace (handler_denotation env h) (as_trace (trace_denotation env x) (behind_term n)).after).expanded
    (as_lined (trace_denotation env x) (behind_term n) f)
    (as_lined (handler_denotation env h) _ g)

other_arguments : (args : Arguments) → AreOnLines (more_arguments args) → AreOnLines (arguments_tokens args)
other_arguments s.no_arguments h = tt
other_arguments (s.argument a rest) h = h.1

other_alternatives : (ps : Alternatives) → AreOnLines (more_alternatives ps) → AreOnLines (alternatives_tokens ps)
other_alternatives s.no_alternatives h = tt
other_alternatives (s.alternative a rest) h = h.1

mutual
  exp_lined : (env : Environment Denotation) (e : Exp) → AreLinedNames env.names → AreOnLines (exp_tokens e) → IsLinedDenotation (exp_denotation env e)
  exp_lined env (s.number f) h on = tt
  exp_lined env (s.flag b at) h on = tt
  exp_lined env (s.named w) h on = standing_lined w.span (found env.names w.text) [] (found_lined env.names w.text h) tt
  exp_lined env (s.called w args) h on =
      standing_lined w.span (found env.names w.text) (argument_denotations env args) (found_lined env.names w.text h) (arguments_lined env args h (prefix (arguments_tokens args) _ on.1.1))
  exp_lined env (s.pre w at) h on = before_lined at (standing_for w.span (found env.names w.text) [])
  exp_lined env (s.paren e at) h on = exp_lined env e h (prefix (exp_tokens e) _ on.1)
  exp_lined env (s.unary op e at) h on = tt
  exp_lined env (s.binary op d e at) h on = tt
  exp_lined env (s.choose c d e at) h on = tt

  argument_lined : (env : Environment Denotation) (a : Argument) → AreLinedNames env.names → AreOnLines (argument_tokens a) → IsLinedDenotation (argument_denotation env a)
  argument_lined env (s.value_argument e) h on = exp_lined env e h on
  argument_lined env (s.trace_argument b at) h on = braces_lined env b h (prefix (braced_tokens b) _ on.1)

  arguments_lined : (env : Environment Denotation) (args : Arguments) → AreLinedNames env.names → AreOnLines (arguments_tokens args) → AreLinedDenotations (argument_denotations env args)
  arguments_lined env s.no_arguments h on = tt
  arguments_lined env (s.argument a rest) h on = (
    argument_lined env a h (prefix (argument_tokens a) (more_arguments rest) on),
    arguments_lined env rest h (other_arguments rest (back (argument_tokens a) (more_arguments rest) on)),
  )

  braces_lined : (env : Environment Denotation) (b : Braces) → AreLinedNames env.names → AreOnLines (braced_tokens b) → IsLinedDenotation (braces_denotation env b)
  braces_lined env (s.plain x) h on = trace_lined env x h on
  braces_lined env (s.choice lead ps) h on = λ n. parts_lined env ps h (back (marked_if lead t.Bar) (alternatives_tokens ps) on) (behind_term n)
  braces_lined env (s.priority lead xs) h on = traces_lined env pri (λ x y g h. (g, h)) t.Priority xs h (back (marked_if lead t.Priority) (traces_tokens t.Priority xs) on)
  braces_lined env (s.parallel lead xs) h on = traces_lined env par (λ x y g h. (g, h)) t.Parallel xs h (back (marked_if lead t.Parallel) (traces_tokens t.Parallel xs) on)

  alternative_lined : (env : Environment Denotation) (a : Alternative) → AreLinedNames env.names → AreOnLines (alternative_tokens a) → IsLinedDenotation (alternative_denotation env a)
  alternative_lined env (s.unweighted x) h on = trace_lined env x h on
  alternative_lined env (s.weighted e x) h on = let later = back (exp_tokens e) _ on in trace_lined env x h later.1

  parts_lined : (env : Environment Denotation) (ps : Alternatives) → AreLinedNames env.names → AreOnLines (alternatives_tokens ps) → (n : Numbers) → EachLocalIn IsLined (parts_of env ps n).parts
  parts_lined env s.no_alternatives h on n = tt
  parts_lined env (s.alternative a rest) h on n = (
    as_lined (alternative_denotation env a) n (alternative_lined env a h (prefix (alternative_tokens a) (more_alternatives rest) on)),
    parts_lined env rest h (other_alternatives rest (back (alternative_tokens a) (more_alternatives rest) on)) (as_trace (alternative_denotation env a) n).after,
  )

  traces_lined : (env : Environment Denotation) (f : Expanded → Expanded → Expanded) → Joins f → (sign : Sign) (xs : Traces) → AreLinedNames env.names → AreOnLines (traces_tokens sign xs) → IsLinedDenotation (traces_denotation env f xs)
  traces_lined env f j sign s.no_traces h on = λ n. tt
  traces_lined env f j sign (s.one_trace x s.no_traces) h on = trace_lined env x h (prefix (trace_tokens x) (more_traces sign s.no_traces) on)
  traces_lined env f j sign (s.one_trace x (s.one_trace u us)) h on = λ n.
      j (as_trace (trace_denotation env x) (behind_term n)).expanded (as_trace (traces_denotation env f (s.one_trace u us)) (as_trace (trace_denotation env x) (behind_term n)).after).expanded
      (as_lined (trace_denotation env x) (behind_term n) (trace_lined env x h (prefix (trace_tokens x) (more_traces sign (s.one_trace u us)) on)))
      (let later = back (trace_tokens x) (more_traces sign (s.one_trace u us)) on in
      as_lined (traces_denotation env f (s.one_trace u us)) _ (traces_lined env f j sign (s.one_trace u us) h later.1))

  handler_lined : (env : Environment Denotation) (h : MaybeTrace) → AreLinedNames env.names → AreOnLines (handler_tokens h) → IsLinedDenotation (handler_denotation env h)
  handler_lined env s.no_trace g on = λ n. tt
  handler_lined env (s.a_trace x) g on = trace_lined env x g on.1

  meaning_lined : (env : Environment Denotation) (m : Meaning) → AreLinedNames env.names → AreOnLines (meaning_tokens m) → IsLinedDenotation (meaning_denotation env m)
  meaning_lined env (s.trace_meaning x) h on = trace_lined env x h on
  meaning_lined env (s.value_meaning e) h on = exp_lined env e h on

  macro_lined : (env : Environment Denotation) (m : Macro) (xs : List Denotation) → AreLinedNames env.names → AreOnLines (macro_rest m) → AreLinedDenotations xs → IsLinedDenotation (macro_denotation env m xs)
  macro_lined env (s.macro w ps type m) xs h on g =
      let later = back (parameters_tokens ps) _ on.1 in
      meaning_lined (with_arguments (parameter_names ps) xs env) m (bound_lined (parameter_names ps) xs env g h) later.1.1.1

  trace_lined : (env : Environment Denotation) (x : Trace) → AreLinedNames env.names → AreOnLines (trace_tokens x) → IsLinedDenotation (trace_denotation env x)
  trace_lined env (s.sequence xs) h on = traces_lined env seq (λ x y g h. (g, h)) t.Fby xs h on
  trace_lined env (s.braces b at) h on = braces_lined env b h (prefix (braced_tokens b) _ on.1)
  trace_lined env (s.loop l x) h on =
      let inner = back (limits_tokens l) (trace_tokens x) on.1 in
      λ n. repeated_lined (bounds_of env l) (as_trace (trace_denotation env x)) (λ m. as_lined (trace_denotation env x) m (trace_lined env x h inner)) n
  trace_lined env (s.raise w) h on = λ n. raised_lined (found_exception env.exceptions w.text)
  trace_lined env (s.assert e x) h on = let inner = back (exp_tokens e) _ on.1 in λ n. as_lined (trace_denotation env x) (behind_term n) (trace_lined env x h inner.1)
  trace_lined env (s.exist gs x) h on =
      let inner = back (groupings_tokens gs) _ on.1 in
      λ n.
      groups_lined env gs (λ inside. as_trace (trace_denotation inside x)) (λ inside g m. as_lined (trace_denotation inside x) m (trace_lined inside x g inner.1)) (prefix (groupings_tokens gs) _ on.1) h n
  trace_lined env (s.define m x) h on =
      let inner = back (macro_rest m) _ on.1 in
      trace_lined (with_name (macro_name m) (macro (macro_denotation env m)) env) x ((λ xs g. macro_lined env m xs h (prefix (macro_rest m) _ on.1) g), h) inner.1
  trace_lined env (s.exceptions ws x) h on =
      let inner = back (names_tokens ws) _ on.1 in
      λ n. as_lined (trace_denotation (with_exceptions n.term ws env) x) n (trace_lined (with_exceptions n.term ws env) x (exceptions_lined n.term ws env h) inner.1)
  trace_lined env (s.catch w x k) h on =
      λ n.
      caught_lined env w x k (trace_lined env x h (prefix (trace_tokens x) (handler_tokens k) on.1.1.1)) (handler_lined env k h (back (trace_tokens x) (handler_tokens k) on.1.1.1)) n
  trace_lined env (s.trap w x k) h on =
      λ n.
      let inner = with_exceptions n.term (w ∷ []) env in
      caught_lined inner w x k (trace_lined inner x h (prefix (trace_tokens x) (handler_tokens k) on.1.1.1)) (handler_lined inner k h (back (trace_tokens x) (handler_tokens k) on.1.1.1)) n
  trace_lined env (s.try x k) h on = λ n. (
    as_lined (trace_denotation env x) (behind_term n) (trace_lined env x h (prefix (trace_tokens x) (handler_tokens k) on.1)),
    as_lined (handler_denotation env k) _ (handler_lined env k h (back (trace_tokens x) (handler_tokens k) on.1)),
  )
  trace_lined env (s.value e) h on = exp_lined env e h on

-- ---- nodes

words_declared : (declares : Word → Declared) → ((w : Word) → (declares w).name ≡ w.text) → (ws : List Word) → AreWords ws → Each IsLined (map declares ws)
words_declared declares named [] h = tt
words_declared declares named (w ∷ ws) h = (subst IsOnLine (sym (named w)) h.0, words_declared declares named ws h.1)

group_declared : (r : Role) (env : Environment Denotation) (g : Grouping) → AreOnLines (grouping_tokens g) → Each IsLined (group_variables r env g)
group_declared r env (s.grouping ws type ref range first) on = words_declared (declared_as r env type range (first_of env first)) (λ w. refl) ws (are_words ws (prefix (names_tokens ws) _ on))

groups_declared : (r : Role) (i : ℕ) (env : Environment Denotation) (gs : Groupings) → AreOnLines (groupings_tokens gs) → Each IsLined (groups_variables r i env gs)
groups_declared r i env s.no_groups on = tt
groups_declared r i env (s.one_group g gs) on =
    each_append IsLined (group_variables r env g) _ (group_declared r env g (prefix (grouping_tokens g) (more_groupings gs) on))
    (groups_declared r (i + length (group_names g)) (with_group r i g env) gs (other_groups gs (back (grouping_tokens g) (more_groupings gs) on)))

group_known : (r : Role) (i : ℕ) (g : Grouping) (env : Environment Denotation) → AreLinedNames env.names → AreLinedNames (with_group r i g env).names
group_known r i (s.grouping ws type ref range first) env h = variables_lined r i ws env h

groups_known : (r : Role) (i : ℕ) (gs : Groupings) (env : Environment Denotation) → AreLinedNames env.names → AreLinedNames (with_groups r i gs env).names
groups_known r i s.no_groups env h = h
groups_known r i (s.one_group g gs) env h = groups_known r (i + length (group_names g)) gs (with_group r i g env) (group_known r i g env h)

-- ---- runs

-- outputs by other names have these
given_declared : (decimals : ℕ) (ws : List Word) (ds : List Declared) → AreWords ws → Each IsLined (all_given_as decimals ws ds)
given_declared decimals [] ds h = tt
given_declared decimals (w ∷ ws) [] h = tt
given_declared decimals (w ∷ ws) (d ∷ ds) h = (h.0, given_declared decimals ws ds h.1)

-- the inputs that runs give have names of the text
calls_declared : (known : List Runnable) (i : ℕ) (env : Environment Denotation) (rs : List Run) → AreOnLines (flat_map run_tokens rs) → Each IsLined (flat_map (λ (c : Call). c.names) (calls_of known i env rs))
calls_declared known i env [] on = tt
calls_declared known i env (r ∷ rs) on =
    let names = all_given_as env.decimals r.names (outputs_of known r.node.text) in
    let here = prefix (run_tokens r) (flat_map run_tokens rs) on in
    each_append IsLined names _ (given_declared env.decimals r.names (outputs_of known r.node.text) (are_words r.names (prefix (names_tokens r.names) _ here.1)))
    (calls_declared known (i + length names) (with_declared role.Input i names env) rs (back (run_tokens r) (flat_map run_tokens rs) on))

declared_known : (r : Role) (i : ℕ) (ds : List Declared) (env : Environment Denotation) → AreLinedNames env.names → AreLinedNames (with_declared r i ds env).names
declared_known r i [] env h = h
declared_known r i (d ∷ ds) env h = declared_known r (suc i) ds (with_name d.name (variable r i) env) (tt, h)

calls_known : (i : ℕ) (cs : List Call) (env : Environment Denotation) → AreLinedNames env.names → AreLinedNames (with_calls i cs env).names
calls_known i [] env h = h
calls_known i (c ∷ cs) env h = calls_known (i + length c.names) cs (with_declared role.Input i c.names env) (declared_known role.Input i c.names env h)

-- the names of a node's variables are on lines
pub record IsLinedNode (node : Node) : Type 0 where
  pub inputs : Each IsLined (all_inputs node)
  pub outputs : Each IsLined node.outputs
  pub body : EachLocal IsLined node.body

node_lined : (known : List Runnable) (env : Environment Denotation) (w : Word) (ins outs : Groupings) (rs : List Run) (x : Trace) → AreLinedNames env.names → AreOnLines (declaration_tokens (s.node w ins outs rs x))
    → IsLinedNode (node_of known env w ins outs rs x)
node_lined known env w ins outs rs x h on =
    let inputs = groups_variables role.Input 0 env ins in
    let inner = with_groups role.Input 0 ins env in
    let both = with_groups role.Output 0 outs inner in
    let calls = calls_of known (length inputs) both rs in
    let inside = with_calls (length inputs) calls both in
    let head = prefix (in_parentheses (groupings_tokens ins)) _ on.1.1 in
    let later = back (in_parentheses (groupings_tokens ins)) _ on.1.1 in
    let results = prefix (in_parentheses (groupings_tokens outs)) _ later.1 in
    let rest = back (in_parentheses (groupings_tokens outs)) _ later.1 in
    let runs = prefix (flat_map run_tokens rs) (trace_tokens x) rest.1 in
    let body = back (flat_map run_tokens rs) (trace_tokens x) rest.1 in
    let visible = calls_known (length inputs) calls both (groups_known role.Output 0 outs inner (groups_known role.Input 0 ins env h)) in
    record {
      inputs = each_append IsLined inputs (flat_map (λ (c : Call). c.names) calls) (groups_declared role.Input 0 env ins (prefix (groupings_tokens ins) _ head.1)) (calls_declared known (length inputs) both rs runs);
      outputs = groups_declared role.Output 0 inner outs (prefix (groupings_tokens outs) _ results.1);
      body = as_lined (trace_denotation inside x) (record { term = 0; local = 0; counter = 0 }) (trace_lined inside x visible body);
    }

one_holds : (P : Node → Type 0) (b : Bool) (one node : Node) (other : Option Node) → P one → (other ≡ Some node → P node) → (if b then Some one else other) ≡ Some node → P node
one_holds P true one node other p q e = let same : one ≡ node = cc in subst P same p
one_holds P false one node other p q e = q e

among_lined : (known : List Runnable) (env : Environment Denotation) (wanted : Option (List ℕ)) (ds : List Declaration) (node : Node) → AreLinedNames env.names → AreOnLines (tokens_of ds) → node_among known env wanted ds ≡ Some node → IsLinedNode node
among_lined known env wanted [] node h on e = absurd (cc)
among_lined known env wanted (s.node w ins outs rs x ∷ ds) node h on e =
    let here = prefix (declaration_tokens (s.node w ins outs rs x)) (tokens_of ds) on in
    let later = back (declaration_tokens (s.node w ins outs rs x)) (tokens_of ds) on in
    let known_later = runnable_of env w ins outs ∷ known in
    one_holds IsLinedNode (is_wanted wanted w) (node_of known env w ins outs rs x) node (node_among known_later env wanted ds) (node_lined known env w ins outs rs x h here) (among_lined known_later env wanted ds node h later) e
among_lined known env wanted (s.macro_declaration m ∷ ds) node h on e =
    let here = prefix (declaration_tokens (s.macro_declaration m)) (tokens_of ds) on in
    let later = back (declaration_tokens (s.macro_declaration m)) (tokens_of ds) on in
    among_lined known (with_name (macro_name m) (macro (macro_denotation env m)) env) wanted ds node ((λ xs g. macro_lined env m xs h here.1 g), h) later e
among_lined known env wanted (s.exception_declaration ws ∷ ds) node h on e =
    among_lined known (with_exceptions 0 ws env) wanted ds node (exceptions_lined 0 ws env h) (back (declaration_tokens (s.exception_declaration ws)) (tokens_of ds) on) e

-- the names of the variables of a program's node are on lines
pub node_on_lines : (decimals : ℕ) (wanted : Option (List ℕ)) (ds : List Declaration) (node : Node) → AreOnLines (tokens_of ds) → expanded_node decimals wanted ds ≡ Some node → IsLinedNode node
node_on_lines decimals wanted ds node on e = among_lined [] (at_start decimals) wanted ds node tt on e
