-- Each local and each counter of an expansion has a number of its own: in preorder they are 0, 1, 2 and so on.
use Rattle.std.proofs.Common.{◌≡◌, ℕ, suc, Bool, true, false, List, [], ◌∷◌, ◌++◌, Option, None, Some, bytes_eq, if◌then◌else◌, refl, sym, subst}
use Rattle.lt_ast.specs.Syntax as s
use Rattle.lt_ast.specs.Syntax.{Word, Exp, Argument, Arguments, Braces, Alternative, Alternatives, Trace, Traces, Grouping, Groupings, Limits, MaybeTrace, Meaning, Macro}
use Rattle.lt_formula.specs.declared.role.Role.{Role}
use Rattle.lt_formula.specs.declared.role.Role.TheVariants as role
use Rattle.lt_macros.specs.Placed.{Placed}
use Rattle.lt_macros.specs.Placed as p
use Rattle.lt_macros.specs.Expanded.{Declared, Bounds, Expanded, seq, pri, par, try}
use Rattle.lt_macros.specs.Environment.{Binding, variable, parameter, macro, Raised, deadlock, declared, NamedBinding, Environment, found, found_exception, with_name, with_arguments, with_variables, with_exceptions}
use Rattle.lt_macros.specs.Numbering.{local_numbers, local_numbers_in, counter_numbers, counter_numbers_in, Follow}
use Rattle.lt_macros.specs.Denotation.{Numbers, ExpandedTrace, ExpandedParts, behind_term, behind_local, behind_counter, Denotation, expression, trace, as_trace, standing_for, before, macro_name, parameter_names, caught_as, raised_as, repeated, bounds_of, in_locals, in_group, in_groups, caught, exp_denotation, argument_denotation, argument_denotations, braces_denotation, alternative_denotation, parts_of, traces_denotation, handler_denotation, meaning_denotation, macro_denotation, trace_denotation}

follow_both : (i : ℕ) (ks : List ℕ) (j : ℕ) (ls : List ℕ) (k : ℕ) → Follow i ks j → Follow j ls k → Follow i (ks ++ ls) k
follow_both i [] j ls k f g = subst (λ n. Follow n ls k) (sym f) g
follow_both i (l ∷ ks) j ls k f g = (f.0, follow_both (suc i) ks j ls k f.1 g)

-- A trace uses all numbers from these up to the next ones.
pub record Uses (n : Numbers) (x : ExpandedTrace) : Type 0 where
  pub locals : Follow n.local (local_numbers x.expanded) x.after.local
  pub counters : Follow n.counter (counter_numbers x.expanded) x.after.counter

-- So do traces to choose from.
record UsesInParts (n : Numbers) (ps : ExpandedParts) : Type 0 where
  locals : Follow n.local (local_numbers_in ps.parts) ps.after.local
  counters : Follow n.counter (counter_numbers_in ps.parts) ps.after.counter

-- A denotation does so from any numbers on.
abbrev IsSound : Denotation → Type 0
IsSound (expression e) = Unit {0}
IsSound (trace f) = (n : Numbers) → Uses n (f n)

abbrev AreSound : List Denotation → Type 0
AreSound [] = Unit {0}
AreSound (s ∷ ss) = IsSound s × AreSound ss

-- A macro keeps denotations so.
abbrev IsSoundBinding : Binding Denotation → Type 0
IsSoundBinding (variable r i) = Unit {0}
IsSoundBinding (parameter s) = IsSound s
IsSoundBinding (macro f) = (ss : List Denotation) → AreSound ss → IsSound (f ss)

abbrev IsSoundOption : Option (Binding Denotation) → Type 0
IsSoundOption None = Unit {0}
IsSoundOption (Some x) = IsSoundBinding x

abbrev pub AreSoundNames : List (NamedBinding Denotation) → Type 0
AreSoundNames [] = Unit {0}
AreSoundNames (b ∷ bs) = IsSoundBinding b.binding × AreSoundNames bs

one_of : (b : Bool) (x : Binding Denotation) (o : Option (Binding Denotation)) → IsSoundBinding x → IsSoundOption o → IsSoundOption (if b then Some x else o)
one_of true x o f g = f
one_of false x o f g = g

found_sound : (bs : List (NamedBinding Denotation)) (name : List ℕ) → AreSoundNames bs → IsSoundOption (found bs name)
found_sound [] name h = tt
found_sound (b ∷ bs) name h = one_of (bytes_eq name b.name) b.binding (found bs name) h.0 (found_sound bs name h.1)

standing_sound : (at : _) (o : Option (Binding Denotation)) (ss : List Denotation) → IsSoundOption o → AreSound ss → IsSound (standing_for at o ss)
standing_sound at None ss h g = tt
standing_sound at (Some (variable r i)) ss h g = tt
standing_sound at (Some (parameter s)) ss h g = h
standing_sound at (Some (macro f)) ss h g = h ss g

before_sound : (at : _) (s : Denotation) → IsSound (before at s)
before_sound at (expression (p.constant k v there)) = tt
before_sound at (expression (p.variable r i there)) = tt
before_sound at (expression (p.previous r i there)) = tt
before_sound at (expression (p.unary op e there)) = tt
before_sound at (expression (p.binary op d e there)) = tt
before_sound at (expression (p.choice c d e there)) = tt
before_sound at (trace f) = tt

bound_sound : (ps : List (List ℕ)) (ss : List Denotation) (env : Environment Denotation) → AreSound ss → AreSoundNames env.names → AreSoundNames (with_arguments ps ss env).names
bound_sound [] ss env g h = h
bound_sound (p ∷ ps) [] env g h = h
bound_sound (p ∷ ps) (s ∷ ss) env g h = bound_sound ps ss (with_name p (parameter s) env) g.1 (g.0, h)

pub variables_sound : (r : Role) (i : ℕ) (ws : List Word) (env : Environment Denotation) → AreSoundNames env.names → AreSoundNames (with_variables r i ws env).names
variables_sound r i [] env h = h
variables_sound r i (w ∷ ws) env h = variables_sound r (suc i) ws (with_name w.text (variable r i) env) (tt, h)

-- exceptions add no name
pub exceptions_sound : (terms : ℕ) (ws : List Word) (env : Environment Denotation) → AreSoundNames env.names → AreSoundNames (with_exceptions terms ws env).names
exceptions_sound terms [] env h = h
exceptions_sound terms (w ∷ ws) env h = exceptions_sound terms ws _ h

as_sound : (s : Denotation) (n : Numbers) → IsSound s → Uses n (as_trace s n)
as_sound (expression e) n h = record { locals = refl; counters = refl }
as_sound (trace f) n h = h n

-- a trace that a place in a text stands for, wherever the names are sound
abbrev IsSoundBody : (Environment Denotation → Numbers → ExpandedTrace) → Type 0
IsSoundBody body = (env : Environment Denotation) → AreSoundNames env.names → (n : Numbers) → Uses n (body env n)

-- a trace of two others has the numbers of both
record Joins (f : Expanded → Expanded → Expanded) : Type 0 where
  locals : (x y : Expanded) → local_numbers (f x y) ≡ local_numbers x ++ local_numbers y
  counters : (x y : Expanded) → counter_numbers (f x y) ≡ counter_numbers x ++ counter_numbers y

caught_joins : (r : Raised) → Joins (caught_as r)
caught_joins deadlock = record { locals = λ x y. refl; counters = λ x y. refl }
caught_joins (declared z) = record { locals = λ x y. refl; counters = λ x y. refl }

raised_uses : (n : Numbers) (r : Raised) → Uses n (record { expanded = raised_as r; after = behind_term n })
raised_uses n deadlock = record { locals = refl; counters = refl }
raised_uses n (declared z) = record { locals = refl; counters = refl }

two_use : (f : Expanded → Expanded → Expanded) → Joins f → (n : Numbers) (a b : ExpandedTrace) → Uses (behind_term n) a → Uses a.after b → Uses n (record { expanded = f a.expanded b.expanded; after = b.after })
two_use f j n a b u v = record {
  locals = subst (λ l. Follow n.local l b.after.local) (sym (j.locals a.expanded b.expanded)) (follow_both _ _ _ _ _ u.locals v.locals);
  counters = subst (λ l. Follow n.counter l b.after.counter) (sym (j.counters a.expanded b.expanded)) (follow_both _ _ _ _ _ u.counters v.counters);
}

repeated_uses : (o : Option Bounds) (body : Numbers → ExpandedTrace) → ((n : Numbers) → Uses n (body n)) → (n : Numbers) → Uses n (repeated o body n)
repeated_uses None body h n = let u = h (behind_term n) in record { locals = u.locals; counters = u.counters }
repeated_uses (Some b) body h n = let u = h (behind_counter n) in record { locals = u.locals; counters = (refl, u.counters) }

locals_use : (declares : Word → Declared) (ws : List Word) (env : Environment Denotation) (body : Environment Denotation → Numbers → ExpandedTrace) → IsSoundBody body → AreSoundNames env.names → (n : Numbers) → Uses n (in_locals declares ws env body n)
locals_use declares [] env body h g n = h env g n
locals_use declares (w ∷ ws) env body h g n =
    let u = locals_use declares ws (with_name w.text (variable role.Local n.local) env) body h (tt, g) (behind_local n) in
    record { locals = (refl, u.locals); counters = u.counters }

group_use : (env : Environment Denotation) (gr : Grouping) (body : Environment Denotation → Numbers → ExpandedTrace) → IsSoundBody body → AreSoundNames env.names → (n : Numbers) → Uses n (in_group env gr body n)
group_use env (s.grouping ws type ref range first) body h g n = locals_use _ ws env body h g n

groups_use : (env : Environment Denotation) (gs : Groupings) (body : Environment Denotation → Numbers → ExpandedTrace) → IsSoundBody body → AreSoundNames env.names → (n : Numbers) → Uses n (in_groups env gs body n)
groups_use env s.no_groups body h g n = h env g n
groups_use env (s.one_group gr gs) body h g n = group_use env gr (λ inner. in_groups inner gs body) (λ inner k m. groups_use inner gs body h k m) g n

caught_use : (env : Environment Denotation) (w : Word) (t : Trace) (h : MaybeTrace) → IsSound (trace_denotation env t) → IsSound (handler_denotation env h) → (n : Numbers) → Uses n (caught w env (λ inner. as_trace (trace_denotation inner t)) (λ inner. as_trace (handler_denotation inner h)) n)
caught_use env w t h f g n =
    two_use (caught_as (found_exception env.exceptions w.text)) (caught_joins (found_exception env.exceptions w.text)) n (as_trace (trace_denotation env t) (behind_term n)) (as_trace (handler_denotation env h) (as_trace (trace_denotation env t) (behind_term n)).after)
    (as_sound (trace_denotation env t) (behind_term n) f)
    (as_sound (handler_denotation env h) _ g)

mutual
  exp_sound : (env : Environment Denotation) (e : Exp) → AreSoundNames env.names → IsSound (exp_denotation env e)
  exp_sound env (s.number f) h = tt
  exp_sound env (s.flag b at) h = tt
  exp_sound env (s.named w) h = standing_sound w.span (found env.names w.text) [] (found_sound env.names w.text h) tt
  exp_sound env (s.called w args) h = standing_sound w.span (found env.names w.text) (argument_denotations env args) (found_sound env.names w.text h) (arguments_sound env args h)
  exp_sound env (s.pre w at) h = before_sound at (standing_for w.span (found env.names w.text) [])
  exp_sound env (s.paren e at) h = exp_sound env e h
  exp_sound env (s.unary op e at) h = tt
  exp_sound env (s.binary op d e at) h = tt
  exp_sound env (s.choose c d e at) h = tt

  argument_sound : (env : Environment Denotation) (a : Argument) → AreSoundNames env.names → IsSound (argument_denotation env a)
  argument_sound env (s.value_argument e) h = exp_sound env e h
  argument_sound env (s.trace_argument b at) h = braces_sound env b h

  arguments_sound : (env : Environment Denotation) (args : Arguments) → AreSoundNames env.names → AreSound (argument_denotations env args)
  arguments_sound env s.no_arguments h = tt
  arguments_sound env (s.argument a rest) h = (argument_sound env a h, arguments_sound env rest h)

  braces_sound : (env : Environment Denotation) (b : Braces) → AreSoundNames env.names → IsSound (braces_denotation env b)
  braces_sound env (s.plain t) h = trace_sound env t h
  braces_sound env (s.choice lead ps) h = λ n. let u = parts_use env ps h (behind_term n) in record { locals = u.locals; counters = u.counters }
  braces_sound env (s.priority lead ts) h = traces_sound env pri (record { locals = λ x y. refl; counters = λ x y. refl }) ts h
  braces_sound env (s.parallel lead ts) h = traces_sound env par (record { locals = λ x y. refl; counters = λ x y. refl }) ts h

  alternative_sound : (env : Environment Denotation) (a : Alternative) → AreSoundNames env.names → IsSound (alternative_denotation env a)
  alternative_sound env (s.unweighted t) h = trace_sound env t h
  alternative_sound env (s.weighted e t) h = trace_sound env t h

  parts_use : (env : Environment Denotation) (ps : Alternatives) → AreSoundNames env.names → (n : Numbers) → UsesInParts n (parts_of env ps n)
  parts_use env s.no_alternatives h n = record { locals = refl; counters = refl }
  parts_use env (s.alternative a rest) h n =
      let u = as_sound (alternative_denotation env a) n (alternative_sound env a h) in
      let v = parts_use env rest h (as_trace (alternative_denotation env a) n).after in
      record { locals = follow_both _ _ _ _ _ u.locals v.locals; counters = follow_both _ _ _ _ _ u.counters v.counters }

  traces_sound : (env : Environment Denotation) (f : Expanded → Expanded → Expanded) → Joins f → (ts : Traces) → AreSoundNames env.names → IsSound (traces_denotation env f ts)
  traces_sound env f j s.no_traces h = λ n. record { locals = refl; counters = refl }
  traces_sound env f j (s.one_trace t s.no_traces) h = trace_sound env t h
  traces_sound env f j (s.one_trace t (s.one_trace u us)) h = λ n.
      two_use f j n (as_trace (trace_denotation env t) (behind_term n)) (as_trace (traces_denotation env f (s.one_trace u us)) (as_trace (trace_denotation env t) (behind_term n)).after)
      (as_sound (trace_denotation env t) (behind_term n) (trace_sound env t h))
      (as_sound (traces_denotation env f (s.one_trace u us)) _ (traces_sound env f j (s.one_trace u us) h))

  handler_sound : (env : Environment Denotation) (h : MaybeTrace) → AreSoundNames env.names → IsSound (handler_denotation env h)
  handler_sound env s.no_trace g = λ n. record { locals = refl; counters = refl }
  handler_sound env (s.a_trace t) g = trace_sound env t g

  meaning_sound : (env : Environment Denotation) (m : Meaning) → AreSoundNames env.names → IsSound (meaning_denotation env m)
  meaning_sound env (s.trace_meaning t) h = trace_sound env t h
  meaning_sound env (s.value_meaning e) h = exp_sound env e h

  pub macro_sound : (env : Environment Denotation) (m : Macro) (ss : List Denotation) → AreSoundNames env.names → AreSound ss → IsSound (macro_denotation env m ss)
  macro_sound env (s.macro w ps type m) ss h g = meaning_sound (with_arguments (parameter_names ps) ss env) m (bound_sound (parameter_names ps) ss env g h)

  trace_sound : (env : Environment Denotation) (t : Trace) → AreSoundNames env.names → IsSound (trace_denotation env t)
  trace_sound env (s.sequence ts) h = traces_sound env seq (record { locals = λ x y. refl; counters = λ x y. refl }) ts h
  trace_sound env (s.braces b at) h = braces_sound env b h
  trace_sound env (s.loop l t) h = λ n. repeated_uses (bounds_of env l) (as_trace (trace_denotation env t)) (λ m. as_sound (trace_denotation env t) m (trace_sound env t h)) n
  trace_sound env (s.raise w) h = λ n. raised_uses n (found_exception env.exceptions w.text)
  trace_sound env (s.assert e t) h = λ n. let u = as_sound (trace_denotation env t) (behind_term n) (trace_sound env t h) in record { locals = u.locals; counters = u.counters }
  trace_sound env (s.exist gs t) h = λ n. groups_use env gs (λ inner. as_trace (trace_denotation inner t)) (λ inner g m. as_sound (trace_denotation inner t) m (trace_sound inner t g)) h n
  trace_sound env (s.define m t) h = trace_sound (with_name (macro_name m) (macro (macro_denotation env m)) env) t ((λ ss g. macro_sound env m ss h g), h)
  trace_sound env (s.exceptions ws t) h = λ n. as_sound (trace_denotation (with_exceptions n.term ws env) t) n (trace_sound (with_exceptions n.term ws env) t (exceptions_sound n.term ws env h))
  trace_sound env (s.catch w t h) g = λ n. caught_use env w t h (trace_sound env t g) (handler_sound env h g) n
  trace_sound env (s.trap w t h) g = λ n. caught_use (with_exceptions n.term (w ∷ []) env) w t h (trace_sound (with_exceptions n.term (w ∷ []) env) t g) (handler_sound (with_exceptions n.term (w ∷ []) env) h g) n
  trace_sound env (s.try t h) g = λ n.
      two_use try (record { locals = λ x y. refl; counters = λ x y. refl }) n (as_trace (trace_denotation env t) (behind_term n)) (as_trace (handler_denotation env h) (as_trace (trace_denotation env t) (behind_term n)).after)
      (as_sound (trace_denotation env t) (behind_term n) (trace_sound env t g))
      (as_sound (handler_denotation env h) _ (handler_sound env h g))
  trace_sound env (s.value e) h = exp_sound env e h

-- what a trace stands for uses all numbers from these on, where names are sound
pub trace_uses : (env : Environment Denotation) (t : Trace) (n : Numbers) → AreSoundNames env.names → Uses n (as_trace (trace_denotation env t) n)
trace_uses env t n h = as_sound (trace_denotation env t) n (trace_sound env t h)
