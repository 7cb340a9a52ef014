-- What an expansion asks for names a local only inside the trace that declares it.
use Rattle.std.proofs.Common.{◌≡◌, ℕ, suc, Bool, true, false, List, [], ◌∷◌, ◌⊎◌, inl, inr, Option, None, Some, bytes_eq, if◌then◌else◌, refl}
use Rattle.lt_ast.specs.Syntax as s
use Rattle.lt_ast.specs.Syntax.{Word, Exp, Argument, Arguments, Braces, Alternative, Alternatives, Trace, Traces, Grouping, Groupings, MaybeTrace, Meaning, Macro}
use Rattle.lt_formula.specs.declared.role.Role.{Role}
use Rattle.lt_formula.specs.declared.role.Role.TheVariants as role
use Rattle.lt_macros.specs.Placed as p
use Rattle.lt_macros.specs.Placed.{Placed}
use Rattle.lt_macros.specs.Expanded.{Declared, Bounds, Expanded, eps, dead, con, raise, seq, loop, count, any, pri, par, assert, exist, catch, try, Parts, no_part, part}
use Rattle.lt_macros.specs.Environment.{Binding, variable, parameter, macro, Raised, deadlock, declared, NamedBinding, Environment, found, found_exception, with_name, with_arguments, with_variables, with_exceptions}
use Rattle.lt_macros.specs.Scoping.{IsOne, IsOpen, NamesOnly, AreInside, AreEachInside}
use Rattle.lt_macros.specs.Denotation.{Numbers, ExpandedTrace, behind_term, behind_local, behind_counter, Denotation, expression, trace, as_expression, as_trace, standing_for, before, macro_name, parameter_names, caught_as, raised_as, repeated, bounds_of, in_locals, in_group, in_groups, caught, exp_denotation, argument_denotation, argument_denotations, braces_denotation, weight_of, alternative_denotation, parts_of, traces_denotation, handler_denotation, meaning_denotation, macro_denotation, trace_denotation}

-- These are among those.
abbrev Among : List ℕ → List ℕ → Type 0
Among xs more = (i : ℕ) → IsOne i xs → IsOne i more

one_by : (i k : ℕ) (xs more : List ℕ) → Among xs more → (i ≡ k) ⊎ IsOne i xs → (i ≡ k) ⊎ IsOne i more
one_by i k xs more a (inl h) = inl h
one_by i k xs more a (inr h) = inr (a i h)

among_more : (k : ℕ) (xs more : List ℕ) → Among xs more → Among (k ∷ xs) (k ∷ more)
among_more k xs more a = λ i h. one_by i k xs more a h

among_itself : (xs : List ℕ) → Among xs xs
among_itself xs = λ i h. h

among_next : (k : ℕ) (xs : List ℕ) → Among xs (k ∷ xs)
among_next k xs = λ i h. inr h

open_more : (xs more : List ℕ) (r : Role) (i : ℕ) → Among xs more → IsOpen xs r i → IsOpen more r i
open_more xs more role.Input i a h = tt
open_more xs more role.Output i a h = tt
open_more xs more role.Local i a h = a i h

expression_more : (xs more : List ℕ) (e : Placed) → Among xs more → NamesOnly xs e → NamesOnly more e
expression_more xs more (p.constant k v at) a h = tt
expression_more xs more (p.variable r i at) a h = open_more xs more r i a h
expression_more xs more (p.previous r i at) a h = open_more xs more r i a h
expression_more xs more (p.unary op e at) a h = expression_more xs more e a h
expression_more xs more (p.binary op d e at) a h = (expression_more xs more d a h.0, expression_more xs more e a h.1)
expression_more xs more (p.choice c d e at) a h = (expression_more xs more c a h.0, (expression_more xs more d a h.1.0, expression_more xs more e a h.1.1))

mutual
  inside_more : (xs more : List ℕ) (x : Expanded) → Among xs more → AreInside xs x → AreInside more x
  inside_more xs more eps a h = tt
  inside_more xs more dead a h = tt
  inside_more xs more (con e) a h = expression_more xs more e a h
  inside_more xs more (raise z) a h = tt
  inside_more xs more (seq x y) a h = (inside_more xs more x a h.0, inside_more xs more y a h.1)
  inside_more xs more (loop x) a h = inside_more xs more x a h
  inside_more xs more (count i b x) a h = inside_more xs more x a h
  inside_more xs more (any ps) a h = each_more xs more ps a h
  inside_more xs more (pri x y) a h = (inside_more xs more x a h.0, inside_more xs more y a h.1)
  inside_more xs more (par x y) a h = (inside_more xs more x a h.0, inside_more xs more y a h.1)
  inside_more xs more (assert e x) a h = (expression_more xs more e a h.0, inside_more xs more x a h.1)
  inside_more xs more (exist i d x) a h = inside_more (i ∷ xs) (i ∷ more) x (among_more i xs more a) h
  inside_more xs more (catch z x y) a h = (inside_more xs more x a h.0, inside_more xs more y a h.1)
  inside_more xs more (try x y) a h = (inside_more xs more x a h.0, inside_more xs more y a h.1)

  each_more : (xs more : List ℕ) (ps : Parts) → Among xs more → AreEachInside xs ps → AreEachInside more ps
  each_more xs more no_part a h = tt
  each_more xs more (part w x ps) a h = (expression_more xs more w a h.0, (inside_more xs more x a h.1.0, each_more xs more ps a h.1.1))

-- A denotation names no other locals than these and its own.
abbrev IsClosed : List ℕ → Denotation → Type 0
IsClosed xs (expression e) = NamesOnly xs e
IsClosed xs (trace f) = (n : Numbers) → AreInside xs (f n).expanded

abbrev AreClosed : List ℕ → List Denotation → Type 0
AreClosed xs [] = Unit {0}
AreClosed xs (s ∷ ss) = IsClosed xs s × AreClosed xs ss

-- A macro keeps denotations so, wherever it is used.
abbrev IsClosedBinding : List ℕ → Binding Denotation → Type 0
IsClosedBinding xs (variable r i) = IsOpen xs r i
IsClosedBinding xs (parameter s) = IsClosed xs s
IsClosedBinding xs (macro f) = (more : List ℕ) → Among xs more → (ss : List Denotation) → AreClosed more ss → IsClosed more (f ss)

abbrev IsClosedOption : List ℕ → Option (Binding Denotation) → Type 0
IsClosedOption xs None = Unit {0}
IsClosedOption xs (Some x) = IsClosedBinding xs x

abbrev pub AreClosedNames : List ℕ → List (NamedBinding Denotation) → Type 0
AreClosedNames xs [] = Unit {0}
AreClosedNames xs (b ∷ bs) = IsClosedBinding xs b.binding × AreClosedNames xs bs

denotation_more : (xs more : List ℕ) (s : Denotation) → Among xs more → IsClosed xs s → IsClosed more s
denotation_more xs more (expression e) a h = expression_more xs more e a h
denotation_more xs more (trace f) a h = λ n. inside_more xs more (f n).expanded a (h n)

binding_more : (xs more : List ℕ) (x : Binding Denotation) → Among xs more → IsClosedBinding xs x → IsClosedBinding more x
binding_more xs more (variable r i) a h = open_more xs more r i a h
binding_more xs more (parameter s) a h = denotation_more xs more s a h
binding_more xs more (macro f) a h = λ most b ss g. h most (λ i o. b i (a i o)) ss g

pub names_more : (xs more : List ℕ) (bs : List (NamedBinding Denotation)) → Among xs more → AreClosedNames xs bs → AreClosedNames more bs
names_more xs more [] a h = tt
names_more xs more (b ∷ bs) a h = (binding_more xs more b.binding a h.0, names_more xs more bs a h.1)

one_of : (xs : List ℕ) (b : Bool) (x : Binding Denotation) (o : Option (Binding Denotation)) → IsClosedBinding xs x → IsClosedOption xs o → IsClosedOption xs (if b then Some x else o)
one_of xs true x o f g = f
one_of xs false x o f g = g

found_closed : (xs : List ℕ) (bs : List (NamedBinding Denotation)) (name : List ℕ) → AreClosedNames xs bs → IsClosedOption xs (found bs name)
found_closed xs [] name h = tt
found_closed xs (b ∷ bs) name h = one_of xs (bytes_eq name b.name) b.binding (found bs name) h.0 (found_closed xs bs name h.1)

standing_closed : (xs : List ℕ) (at : _) (o : Option (Binding Denotation)) (ss : List Denotation) → IsClosedOption xs o → AreClosed xs ss → IsClosed xs (standing_for at o ss)
standing_closed xs at None ss h g = tt
standing_closed xs at (Some (variable r i)) ss h g = h
standing_closed xs at (Some (parameter s)) ss h g = h
standing_closed xs at (Some (macro f)) ss h g = h xs (among_itself xs) ss g

before_closed : (xs : List ℕ) (at : _) (s : Denotation) → IsClosed xs s → IsClosed xs (before at s)
before_closed xs at (expression (p.constant k v there)) h = tt
before_closed xs at (expression (p.variable r i there)) h = h
before_closed xs at (expression (p.previous r i there)) h = tt
before_closed xs at (expression (p.unary op e there)) h = tt
before_closed xs at (expression (p.binary op d e there)) h = tt
before_closed xs at (expression (p.choice c d e there)) h = tt
before_closed xs at (trace f) h = tt

bound_closed : (xs : List ℕ) (ps : List (List ℕ)) (ss : List Denotation) (env : Environment Denotation) → AreClosed xs ss → AreClosedNames xs env.names → AreClosedNames xs (with_arguments ps ss env).names
bound_closed xs [] ss env g h = h
bound_closed xs (p ∷ ps) [] env g h = h
bound_closed xs (p ∷ ps) (s ∷ ss) env g h = bound_closed xs ps ss (with_name p (parameter s) env) g.1 (g.0, h)

pub exceptions_closed : (xs : List ℕ) (terms : ℕ) (ws : List Word) (env : Environment Denotation) → AreClosedNames xs env.names → AreClosedNames xs (with_exceptions terms ws env).names
exceptions_closed xs terms [] env h = h
exceptions_closed xs terms (w ∷ ws) env h = exceptions_closed xs terms ws _ h

-- what is no local stays so
pub inputs_closed : (xs : List ℕ) (i : ℕ) (ws : List Word) (env : Environment Denotation) → AreClosedNames xs env.names → AreClosedNames xs (with_variables role.Input i ws env).names
inputs_closed xs i [] env h = h
inputs_closed xs i (w ∷ ws) env h = inputs_closed xs (suc i) ws (with_name w.text (variable role.Input i) env) (tt, h)

pub outputs_closed : (xs : List ℕ) (i : ℕ) (ws : List Word) (env : Environment Denotation) → AreClosedNames xs env.names → AreClosedNames xs (with_variables role.Output i ws env).names
outputs_closed xs i [] env h = h
outputs_closed xs i (w ∷ ws) env h = outputs_closed xs (suc i) ws (with_name w.text (variable role.Output i) env) (tt, h)

as_expression_closed : (xs : List ℕ) (s : Denotation) → IsClosed xs s → NamesOnly xs (as_expression s)
as_expression_closed xs (expression e) h = h
as_expression_closed xs (trace f) h = tt

as_closed : (xs : List ℕ) (s : Denotation) (n : Numbers) → IsClosed xs s → AreInside xs (as_trace s n).expanded
as_closed xs (expression e) n h = h
as_closed xs (trace f) n h = h n

-- a trace that a place in a text stands for, wherever the names are closed
abbrev IsClosedBody : List ℕ → (Environment Denotation → Numbers → ExpandedTrace) → Type 0
IsClosedBody xs body = (more : List ℕ) → Among xs more → (env : Environment Denotation) → AreClosedNames more env.names → (n : Numbers) → AreInside more (body env n).expanded

-- a trace of two others names what these do
abbrev Joins : (Expanded → Expanded → Expanded) → Type 0
Joins f = (xs : List ℕ) (x y : Expanded) → AreInside xs x → AreInside xs y → AreInside xs (f x y)

caught_joins : (r : Raised) → Joins (caught_as r)
caught_joins deadlock = λ xs x y g h. (g, h)
caught_joins (declared z) = λ xs x y g h. (g, h)

raised_closed : (xs : List ℕ) (r : Raised) → AreInside xs (raised_as r)
raised_closed xs deadlock = tt
raised_closed xs (declared z) = tt

repeated_closed : (xs : List ℕ) (o : Option Bounds) (body : Numbers → ExpandedTrace) → ((n : Numbers) → AreInside xs (body n).expanded) → (n : Numbers) → AreInside xs (repeated o body n).expanded
repeated_closed xs None body h n = h (behind_term n)
repeated_closed xs (Some b) body h n = h (behind_counter n)

locals_closed : (xs : List ℕ) (declares : Word → Declared) (ws : List Word) (env : Environment Denotation) (body : Environment Denotation → Numbers → ExpandedTrace) → IsClosedBody xs body → AreClosedNames xs env.names → (n : Numbers) → AreInside xs (in_locals declares ws env body n).expanded
locals_closed xs declares [] env body h g n = h xs (among_itself xs) env g n
locals_closed xs declares (w ∷ ws) env body h g n =
    locals_closed (n.local ∷ xs) declares ws (with_name w.text (variable role.Local n.local) env) body
    (λ more a. h more (λ i o. a i (inr o)))
    (inl refl, names_more xs (n.local ∷ xs) env.names (among_next n.local xs) g)
    (behind_local n)

group_closed : (xs : List ℕ) (env : Environment Denotation) (gr : Grouping) (body : Environment Denotation → Numbers → ExpandedTrace) → IsClosedBody xs body → AreClosedNames xs env.names → (n : Numbers) → AreInside xs (in_group env gr body n).expanded
group_closed xs env (s.grouping ws type ref range first) body h g n = locals_closed xs _ ws env body h g n

groups_closed : (xs : List ℕ) (env : Environment Denotation) (gs : Groupings) (body : Environment Denotation → Numbers → ExpandedTrace) → IsClosedBody xs body → AreClosedNames xs env.names → (n : Numbers) → AreInside xs (in_groups env gs body n).expanded
groups_closed xs env s.no_groups body h g n = h xs (among_itself xs) env g n
groups_closed xs env (s.one_group gr gs) body h g n =
    group_closed xs env gr (λ inner. in_groups inner gs body) (λ more a inner k m. groups_closed more inner gs body (λ most b. h most (λ i o. b i (a i o))) k m) g n

caught_closed : (xs : List ℕ) (env : Environment Denotation) (w : Word) (t : Trace) (h : MaybeTrace) → IsClosed xs (trace_denotation env t) → IsClosed xs (handler_denotation env h) → (n : Numbers) → AreInside xs (caught w env (λ inner. as_trace (trace_denotation inner t)) (λ inner. as_trace (handler_denotation inner h)) n).expanded
caught_closed xs env w t h f g n =
    caught_joins (found_exception env.exceptions w.text) xs (as_trace (trace_denotation env t) (behind_term n)).expanded (as_trace (handler_denotation env h) (as_trace (trace_denotation env t) (behind_term n)).after).expanded
    (as_closed xs (trace_denotation env t) (behind_term n) f)
    (as_closed xs (handler_denotation env h) _ g)

mutual
  exp_closed : (xs : List ℕ) (env : Environment Denotation) (e : Exp) → AreClosedNames xs env.names → IsClosed xs (exp_denotation env e)
  exp_closed xs env (s.number f) h = tt
  exp_closed xs env (s.flag b at) h = tt
  exp_closed xs env (s.named w) h = standing_closed xs w.span (found env.names w.text) [] (found_closed xs env.names w.text h) tt
  exp_closed xs env (s.called w args) h = standing_closed xs w.span (found env.names w.text) (argument_denotations env args) (found_closed xs env.names w.text h) (arguments_closed xs env args h)
  exp_closed xs env (s.pre w at) h = before_closed xs at (standing_for w.span (found env.names w.text) []) (standing_closed xs w.span (found env.names w.text) [] (found_closed xs env.names w.text h) tt)
  exp_closed xs env (s.paren e at) h = exp_closed xs env e h
  exp_closed xs env (s.unary op e at) h = as_expression_closed xs (exp_denotation env e) (exp_closed xs env e h)
  exp_closed xs env (s.binary op d e at) h = (as_expression_closed xs (exp_denotation env d) (exp_closed xs env d h), as_expression_closed xs (exp_denotation env e) (exp_closed xs env e h))
  exp_closed xs env (s.choose c d e at) h = (as_expression_closed xs (exp_denotation env c) (exp_closed xs env c h), (as_expression_closed xs (exp_denotation env d) (exp_closed xs env d h), as_expression_closed xs (exp_denotation env e) (exp_closed xs env e h)))

  argument_closed : (xs : List ℕ) (env : Environment Denotation) (a : Argument) → AreClosedNames xs env.names → IsClosed xs (argument_denotation env a)
  argument_closed xs env (s.value_argument e) h = exp_closed xs env e h
  argument_closed xs env (s.trace_argument b at) h = braces_closed xs env b h

  arguments_closed : (xs : List ℕ) (env : Environment Denotation) (args : Arguments) → AreClosedNames xs env.names → AreClosed xs (argument_denotations env args)
  arguments_closed xs env s.no_arguments h = tt
  arguments_closed xs env (s.argument a rest) h = (argument_closed xs env a h, arguments_closed xs env rest h)

  braces_closed : (xs : List ℕ) (env : Environment Denotation) (b : Braces) → AreClosedNames xs env.names → IsClosed xs (braces_denotation env b)
  braces_closed xs env (s.plain t) h = trace_closed xs env t h
  braces_closed xs env (s.choice lead ps) h = λ n. parts_closed xs env ps h (behind_term n)
  braces_closed xs env (s.priority lead ts) h = traces_closed xs env pri (λ xs x y g h. (g, h)) ts h
  braces_closed xs env (s.parallel lead ts) h = traces_closed xs env par (λ xs x y g h. (g, h)) ts h

  weight_closed : (xs : List ℕ) (env : Environment Denotation) (a : Alternative) → AreClosedNames xs env.names → NamesOnly xs (weight_of env a)
  weight_closed xs env (s.unweighted t) h = tt
  weight_closed xs env (s.weighted e t) h = as_expression_closed xs (exp_denotation env e) (exp_closed xs env e h)

  alternative_closed : (xs : List ℕ) (env : Environment Denotation) (a : Alternative) → AreClosedNames xs env.names → IsClosed xs (alternative_denotation env a)
  alternative_closed xs env (s.unweighted t) h = trace_closed xs env t h
  alternative_closed xs env (s.weighted e t) h = trace_closed xs env t h

  parts_closed : (xs : List ℕ) (env : Environment Denotation) (ps : Alternatives) → AreClosedNames xs env.names → (n : Numbers) → AreEachInside xs (parts_of env ps n).parts
  parts_closed xs env s.no_alternatives h n = tt
  parts_closed xs env (s.alternative a rest) h n =
      (weight_closed xs env a h, (as_closed xs (alternative_denotation env a) n (alternative_closed xs env a h), parts_closed xs env rest h (as_trace (alternative_denotation env a) n).after))

  traces_closed : (xs : List ℕ) (env : Environment Denotation) (f : Expanded → Expanded → Expanded) → Joins f → (ts : Traces) → AreClosedNames xs env.names → IsClosed xs (traces_denotation env f ts)
  traces_closed xs env f j s.no_traces h = λ n. tt
  traces_closed xs env f j (s.one_trace t s.no_traces) h = trace_closed xs env t h
  traces_closed xs env f j (s.one_trace t (s.one_trace u us)) h = λ n.
      j xs (as_trace (trace_denotation env t) (behind_term n)).expanded (as_trace (traces_denotation env f (s.one_trace u us)) (as_trace (trace_denotation env t) (behind_term n)).after).expanded
      (as_closed xs (trace_denotation env t) (behind_term n) (trace_closed xs env t h))
      (as_closed xs (traces_denotation env f (s.one_trace u us)) _ (traces_closed xs env f j (s.one_trace u us) h))

  handler_closed : (xs : List ℕ) (env : Environment Denotation) (h : MaybeTrace) → AreClosedNames xs env.names → IsClosed xs (handler_denotation env h)
  handler_closed xs env s.no_trace g = λ n. tt
  handler_closed xs env (s.a_trace t) g = trace_closed xs env t g

  meaning_closed : (xs : List ℕ) (env : Environment Denotation) (m : Meaning) → AreClosedNames xs env.names → IsClosed xs (meaning_denotation env m)
  meaning_closed xs env (s.trace_meaning t) h = trace_closed xs env t h
  meaning_closed xs env (s.value_meaning e) h = exp_closed xs env e h

  pub macro_closed : (xs : List ℕ) (env : Environment Denotation) (m : Macro) (ss : List Denotation) → AreClosedNames xs env.names → AreClosed xs ss → IsClosed xs (macro_denotation env m ss)
  macro_closed xs env (s.macro w ps type m) ss h g = meaning_closed xs (with_arguments (parameter_names ps) ss env) m (bound_closed xs (parameter_names ps) ss env g h)

  trace_closed : (xs : List ℕ) (env : Environment Denotation) (t : Trace) → AreClosedNames xs env.names → IsClosed xs (trace_denotation env t)
  trace_closed xs env (s.sequence ts) h = traces_closed xs env seq (λ xs x y g h. (g, h)) ts h
  trace_closed xs env (s.braces b at) h = braces_closed xs env b h
  trace_closed xs env (s.loop l t) h = λ n. repeated_closed xs (bounds_of env l) (as_trace (trace_denotation env t)) (λ m. as_closed xs (trace_denotation env t) m (trace_closed xs env t h)) n
  trace_closed xs env (s.raise w) h = λ n. raised_closed xs (found_exception env.exceptions w.text)
  trace_closed xs env (s.assert e t) h = λ n. (as_expression_closed xs (exp_denotation env e) (exp_closed xs env e h), as_closed xs (trace_denotation env t) (behind_term n) (trace_closed xs env t h))
  trace_closed xs env (s.exist gs t) h = λ n. groups_closed xs env gs (λ inner. as_trace (trace_denotation inner t)) (λ more a inner g m. as_closed more (trace_denotation inner t) m (trace_closed more inner t g)) h n
  trace_closed xs env (s.define m t) h = trace_closed xs (with_name (macro_name m) (macro (macro_denotation env m)) env) t ((λ more a ss g. macro_closed more env m ss (names_more xs more env.names a h) g), h)
  trace_closed xs env (s.exceptions ws t) h = λ n. as_closed xs (trace_denotation (with_exceptions n.term ws env) t) n (trace_closed xs (with_exceptions n.term ws env) t (exceptions_closed xs n.term ws env h))
  trace_closed xs env (s.catch w t h) g = λ n. caught_closed xs env w t h (trace_closed xs env t g) (handler_closed xs env h g) n
  trace_closed xs env (s.trap w t h) g = λ n. caught_closed xs (with_exceptions n.term (w ∷ []) env) w t h (trace_closed xs (with_exceptions n.term (w ∷ []) env) t g) (handler_closed xs (with_exceptions n.term (w ∷ []) env) h g) n
  trace_closed xs env (s.try t h) g = λ n. (as_closed xs (trace_denotation env t) (behind_term n) (trace_closed xs env t g), as_closed xs (handler_denotation env h) _ (handler_closed xs env h g))
  trace_closed xs env (s.value e) h = exp_closed xs env e h

-- what a trace stands for names locals only inside the traces that declare them, where names are closed
pub trace_inside : (env : Environment Denotation) (t : Trace) (n : Numbers) → AreClosedNames [] env.names → AreInside [] (as_trace (trace_denotation env t) n).expanded
trace_inside env t n h = as_closed [] (trace_denotation env t) n (trace_closed [] env t h)

-- what an expression stands for names no locals, where names are closed
pub expression_inside : (env : Environment Denotation) (e : Exp) → AreClosedNames [] env.names → NamesOnly [] (as_expression (exp_denotation env e))
expression_inside env e h = as_expression_closed [] (exp_denotation env e) (exp_closed [] env e h)
