-- What an expansion names is there.
use Rattle.std.proofs.Common.{◌≡◌, ℕ, suc, ◌+◌, ◌<◌, ◌≤◌, Bool, true, false, List, [], ◌∷◌, ◌++◌, map, length, length-append, Option, None, Some, bytes_eq, if◌then◌else◌, arith, refl, sym, ap, ◌∙◌, subst, ℤ, pos, neg_ℤ, ◌≤ℤ◌}
use Rattle.std.specs.Prelude.{unsigned_abs}
use Rattle.std.specs.List.{flat_map}
use Rattle.std.specs.Int.{int_max}
use Rattle.std.proofs.lemmas.Int.{ints, clamps}
use Rattle.std.proofs.lemmas.List.{length-map}
use Rattle.lt_ast.specs.Syntax as s
use Rattle.lt_ast.specs.Syntax.{Word, WrittenRange, Figure, Exp, Argument, Arguments, Braces, Alternative, Alternatives, Trace, Traces, Grouping, Groupings, MaybeExp, MaybeTrace, Meaning, Macro, Run, Declaration}
use Rattle.lt_ast.specs.declared.group.TypeName.TheVariants as t
use Rattle.lt_num.specs.Bounds.{most_raw}
use Rattle.lt_num.specs.Value.{raw_of, value_of}
use Rattle.lt_num.specs.declared.kind.Kind.{Kind}
use Rattle.lt_num.specs.declared.kind.Kind.TheVariants as kind
use Rattle.lt_num.specs.declared.value.Value.TheVariants as value
use Rattle.lt_types.specs.Literal.{raw_of as figure_raw}
use Rattle.lt_formula.specs.Domain.{IsDomain}
use Rattle.lt_formula.specs.declared.role.Role.{Role}
use Rattle.lt_formula.specs.declared.role.Role.TheVariants as role
use Rattle.lt_macros.specs.Placed as p
use Rattle.lt_macros.specs.Placed.{Placed}
use Rattle.lt_macros.specs.Expanded.{Declared, Call, Bounds, Expanded, seq, pri, par, Node}
use Rattle.lt_macros.specs.Environment.{Binding, variable, parameter, macro, Raised, deadlock, declared, NamedBinding, Environment, at_start, found, found_exception, with_name, with_arguments, with_variables, with_exceptions}
use Rattle.lt_macros.specs.Expansion.{Runnable, all_given_as, call_of, calls_of, group_variables, groups_variables, outputs_of, runnable_of, with_calls, with_declared, with_group, with_groups, node_of, is_wanted, node_among}
use Rattle.lt_macros.specs.Literals.{kind_of, range_of, limited, from_to, most_drawn_raw, most_unranged, step_raw, written_points}
use Rattle.lt_macros.specs.Naming.{IsOneOf, IsNamed, AreAllNamed, AreNamed, AreEachNamed, HaveDomains, NamesWhatIsThere, NamesAreThere}
use Rattle.lt_macros.specs.Denotation.{Numbers, ExpandedTrace, behind_term, behind_local, behind_counter, Denotation, expression, trace, as_expression, as_trace, standing_for, before, macro_name, parameter_names, declared_as, first_of, group_names, caught_as, raised_as, repeated, bounds_of, in_locals, in_group, in_groups, caught, exp_denotation, argument_denotation, argument_denotations, braces_denotation, weight_of, alternative_denotation, parts_of, traces_denotation, handler_denotation, meaning_denotation, macro_denotation, trace_denotation}

-- Ranges.

drawn_few : most_drawn_raw ≤ most_raw
drawn_few = omega arith

unranged_few : (r : Role) → most_unranged r ≤ most_raw
unranged_few role.Input = omega arith
unranged_few role.Output = drawn_few
unranged_few role.Local = drawn_few

around_zero : (n : ℕ) → neg_ℤ (pos n) ≤ℤ pos n
around_zero n = omega (arith, ints)

size_below : (n : ℕ) → unsigned_abs (neg_ℤ (pos n)) ≡ n
size_below n = omega (arith, ints)

limited_size : (z : ℤ) → unsigned_abs (limited z) ≤ most_raw
limited_size z = omega (arith, ints, clamps)

max_size : (a b : ℤ) → unsigned_abs a ≤ most_raw → unsigned_abs b ≤ most_raw → unsigned_abs (int_max a b) ≤ most_raw
max_size a b h g = omega (arith, ints, clamps)

max_over : (a b : ℤ) → a ≤ℤ int_max a b
max_over a b = omega (arith, ints, clamps)

max_over_second : (a b : ℤ) → b ≤ℤ int_max a b
max_over_second a b = omega (arith, ints, clamps)

truth_values : IsDomain kind.Bool (from_to (pos 0) (pos 1))
truth_values = record {
  points = record { some = omega (arith, ints); step = omega (arith, ints) };
  low = omega arith;
  high = omega arith;
  step = omega arith;
  boolean = λ h. refl;
}

unranged_domain : (k : Kind) (r : Role) → (k ≡ kind.Bool → ⊥) → IsDomain k (from_to (neg_ℤ (pos (most_unranged r))) (pos (most_unranged r)))
unranged_domain k r other = record {
  points = record { some = around_zero (most_unranged r); step = omega (arith, ints) };
  low = subst (λ n. n ≤ most_raw) (sym (size_below (most_unranged r))) (unranged_few r);
  high = unranged_few r;
  step = omega arith;
  boolean = λ h. absurd (other h);
}

step_on : (decimals : ℕ) (f : Option Figure) → pos 1 ≤ℤ step_raw decimals f
step_on decimals None = omega (arith, ints)
step_on decimals (Some f) = max_over_second (limited (figure_raw decimals f)) (pos 1)

step_few : (decimals : ℕ) (f : Option Figure) → unsigned_abs (step_raw decimals f) ≤ most_raw
step_few decimals None = omega arith
step_few decimals (Some f) = max_size (limited (figure_raw decimals f)) (pos 1) (limited_size (figure_raw decimals f)) (omega arith)

ranged_domain : (k : Kind) (decimals : ℕ) (range : WrittenRange) → (k ≡ kind.Bool → ⊥) → IsDomain k (written_points decimals range)
ranged_domain k decimals range other =
    let low = figure_raw decimals range.low in
    let high = figure_raw decimals range.high in
    record {
      points = record { some = max_over (limited low) (limited high); step = step_on decimals range.step };
      low = limited_size low;
      high = max_size (limited low) (limited high) (limited_size low) (limited_size high);
      step = step_few decimals range.step;
      boolean = λ h. absurd (other h);
    }

int_other : kind.Int ≡ kind.Bool → ⊥
int_other h = absurd (cc)

real_other : kind.Real ≡ kind.Bool → ⊥
real_other h = absurd (cc)

-- a variable has a range that one of its kind may have
range_domain : (decimals : ℕ) (r : Role) (k : Kind) (range : Option WrittenRange) → IsDomain k (range_of decimals r k range)
range_domain decimals r kind.Bool range = truth_values
range_domain decimals r kind.Int None = unranged_domain kind.Int r int_other
range_domain decimals r kind.Int (Some range) = ranged_domain kind.Int 0 range int_other
range_domain decimals r kind.Real None = unranged_domain kind.Real r real_other
range_domain decimals r kind.Real (Some range) = ranged_domain kind.Real decimals range real_other

-- Constants.

number_of_kind : (b : Bool) (raw : ℤ) → value_of (kind_of (if b then t.Real else t.Int)) raw ≡ value.Num raw
number_of_kind true raw = refl
number_of_kind false raw = refl

flag_of_kind : (b : Bool) → value_of kind.Bool (raw_of (value.Bool b)) ≡ value.Bool b
flag_of_kind true = refl
flag_of_kind false = refl

-- Denotations.

-- A denotation names no other inputs and outputs than these.
abbrev IsNamedDenotation : ℕ → ℕ → Denotation → Type 0
IsNamedDenotation ins outs (expression e) = IsNamed ins outs e
IsNamedDenotation ins outs (trace f) = (n : Numbers) → AreNamed ins outs (f n).expanded

abbrev AreNamedDenotations : ℕ → ℕ → List Denotation → Type 0
AreNamedDenotations ins outs [] = Unit {0}
AreNamedDenotations ins outs (s ∷ ss) = IsNamedDenotation ins outs s × AreNamedDenotations ins outs ss

-- A macro keeps denotations so.
abbrev IsNamedBinding : ℕ → ℕ → Binding Denotation → Type 0
IsNamedBinding ins outs (variable r i) = IsOneOf ins outs r i
IsNamedBinding ins outs (parameter s) = IsNamedDenotation ins outs s
IsNamedBinding ins outs (macro f) = (ss : List Denotation) → AreNamedDenotations ins outs ss → IsNamedDenotation ins outs (f ss)

abbrev IsNamedOption : ℕ → ℕ → Option (Binding Denotation) → Type 0
IsNamedOption ins outs None = Unit {0}
IsNamedOption ins outs (Some x) = IsNamedBinding ins outs x

abbrev AreKnownNames : ℕ → ℕ → List (NamedBinding Denotation) → Type 0
AreKnownNames ins outs [] = Unit {0}
AreKnownNames ins outs (b ∷ bs) = IsNamedBinding ins outs b.binding × AreKnownNames ins outs bs

one_of : (ins outs : ℕ) (b : Bool) (x : Binding Denotation) (o : Option (Binding Denotation)) → IsNamedBinding ins outs x → IsNamedOption ins outs o → IsNamedOption ins outs (if b then Some x else o)
one_of ins outs true x o f g = f
one_of ins outs false x o f g = g

found_named : (ins outs : ℕ) (bs : List (NamedBinding Denotation)) (name : List ℕ) → AreKnownNames ins outs bs → IsNamedOption ins outs (found bs name)
found_named ins outs [] name h = tt
found_named ins outs (b ∷ bs) name h = one_of ins outs (bytes_eq name b.name) b.binding (found bs name) h.0 (found_named ins outs bs name h.1)

standing_named : (ins outs : ℕ) (at : _) (o : Option (Binding Denotation)) (ss : List Denotation) → IsNamedOption ins outs o → AreNamedDenotations ins outs ss → IsNamedDenotation ins outs (standing_for at o ss)
standing_named ins outs at None ss h g = flag_of_kind false
standing_named ins outs at (Some (variable r i)) ss h g = h
standing_named ins outs at (Some (parameter s)) ss h g = h
standing_named ins outs at (Some (macro f)) ss h g = h ss g

before_named : (ins outs : ℕ) (at : _) (s : Denotation) → IsNamedDenotation ins outs s → IsNamedDenotation ins outs (before at s)
before_named ins outs at (expression (p.constant k v there)) h = flag_of_kind false
before_named ins outs at (expression (p.variable r i there)) h = h
before_named ins outs at (expression (p.previous r i there)) h = flag_of_kind false
before_named ins outs at (expression (p.unary op e there)) h = flag_of_kind false
before_named ins outs at (expression (p.binary op d e there)) h = flag_of_kind false
before_named ins outs at (expression (p.choice c d e there)) h = flag_of_kind false
before_named ins outs at (trace f) h = flag_of_kind false

bound_named : (ins outs : ℕ) (ps : List (List ℕ)) (ss : List Denotation) (env : Environment Denotation) → AreNamedDenotations ins outs ss → AreKnownNames ins outs env.names
    → AreKnownNames ins outs (with_arguments ps ss env).names
bound_named ins outs [] ss env g h = h
bound_named ins outs (p ∷ ps) [] env g h = h
bound_named ins outs (p ∷ ps) (s ∷ ss) env g h = bound_named ins outs ps ss (with_name p (parameter s) env) g.1 (g.0, h)

exceptions_named : (ins outs : ℕ) (terms : ℕ) (ws : List Word) (env : Environment Denotation) → AreKnownNames ins outs env.names → AreKnownNames ins outs (with_exceptions terms ws env).names
exceptions_named ins outs terms [] env h = h
exceptions_named ins outs terms (w ∷ ws) env h = exceptions_named ins outs terms ws _ h

as_expression_named : (ins outs : ℕ) (s : Denotation) → IsNamedDenotation ins outs s → IsNamed ins outs (as_expression s)
as_expression_named ins outs (expression e) h = h
as_expression_named ins outs (trace f) h = flag_of_kind false

as_named : (ins outs : ℕ) (s : Denotation) (n : Numbers) → IsNamedDenotation ins outs s → AreNamed ins outs (as_trace s n).expanded
as_named ins outs (expression e) n h = h
as_named ins outs (trace f) n h = h n

-- a trace that a place in a text stands for, wherever the names are known
abbrev IsNamedBody : ℕ → ℕ → (Environment Denotation → Numbers → ExpandedTrace) → Type 0
IsNamedBody ins outs body = (env : Environment Denotation) → AreKnownNames ins outs env.names → (n : Numbers) → AreNamed ins outs (body env n).expanded

-- a trace of two others names what these do
abbrev Joins : (Expanded → Expanded → Expanded) → Type 0
Joins f = (ins outs : ℕ) (x y : Expanded) → AreNamed ins outs x → AreNamed ins outs y → AreNamed ins outs (f x y)

caught_joins : (r : Raised) → Joins (caught_as r)
caught_joins deadlock = λ ins outs x y g h. (g, h)
caught_joins (declared z) = λ ins outs x y g h. (g, h)

raised_named : (ins outs : ℕ) (r : Raised) → AreNamed ins outs (raised_as r)
raised_named ins outs deadlock = tt
raised_named ins outs (declared z) = tt

repeated_named : (ins outs : ℕ) (o : Option Bounds) (body : Numbers → ExpandedTrace) → ((n : Numbers) → AreNamed ins outs (body n).expanded) → (n : Numbers) → AreNamed ins outs (repeated o body n).expanded
repeated_named ins outs None body h n = h (behind_term n)
repeated_named ins outs (Some b) body h n = h (behind_counter n)

locals_named : (ins outs : ℕ) (declares : Word → Declared) → ((w : Word) → IsDomain (declares w).kind (declares w).range)
    → (ws : List Word) (env : Environment Denotation) (body : Environment Denotation → Numbers → ExpandedTrace) → IsNamedBody ins outs body
    → AreKnownNames ins outs env.names → (n : Numbers) → AreNamed ins outs (in_locals declares ws env body n).expanded
locals_named ins outs declares d [] env body h g n = h env g n
locals_named ins outs declares d (w ∷ ws) env body h g n =
    (d w, locals_named ins outs declares d ws (with_name w.text (variable role.Local n.local) env) body h (tt, g) (behind_local n))

group_named : (ins outs : ℕ) (env : Environment Denotation) (gr : Grouping) (body : Environment Denotation → Numbers → ExpandedTrace) → IsNamedBody ins outs body → AreKnownNames ins outs env.names → (n : Numbers)
    → AreNamed ins outs (in_group env gr body n).expanded
group_named ins outs env (s.grouping ws type ref range first) body h g n =
    locals_named ins outs (declared_as role.Local env type range (first_of env first)) (λ w. range_domain env.decimals role.Local (kind_of type) range) ws env body h g n

groups_named : (ins outs : ℕ) (env : Environment Denotation) (gs : Groupings) (body : Environment Denotation → Numbers → ExpandedTrace) → IsNamedBody ins outs body → AreKnownNames ins outs env.names
    → (n : Numbers) → AreNamed ins outs (in_groups env gs body n).expanded
groups_named ins outs env s.no_groups body h g n = h env g n
groups_named ins outs env (s.one_group gr gs) body h g n = group_named ins outs env gr (λ inner. in_groups inner gs body) (λ inner k m. groups_named ins outs inner gs body h k m) g n

caught_named : (ins outs : ℕ) (env : Environment Denotation) (w : Word) (t : Trace) (h : MaybeTrace) → IsNamedDenotation ins outs (trace_denotation env t) → IsNamedDenotation ins outs (handler_denotation env h)
    → (n : Numbers)
    → AreNamed ins outs (caught w env (λ inner. as_trace (trace_denotation inner t)) (λ inner. as_trace (handler_denotation inner h)) n).expanded
caught_named ins outs env w t h f g n =
    caught_joins (found_exception env.exceptions w.text) ins outs (as_trace (trace_denotation env t) (behind_term n)).expanded
    (as_trace (handler_denotation env h) (as_trace (trace_denotation env t) (behind_term n)).after).expanded
    (as_named ins outs (trace_denotation env t) (behind_term n) f)
    (as_named ins outs (handler_denotation env h) _ g)

mutual
  exp_named : (ins outs : ℕ) (env : Environment Denotation) (e : Exp) → AreKnownNames ins outs env.names → IsNamedDenotation ins outs (exp_denotation env e)
  exp_named ins outs env (s.number f) h = number_of_kind _ _
  exp_named ins outs env (s.flag b at) h = flag_of_kind b
  exp_named ins outs env (s.named w) h = standing_named ins outs w.span (found env.names w.text) [] (found_named ins outs env.names w.text h) tt
  exp_named ins outs env (s.called w args) h =
      standing_named ins outs w.span (found env.names w.text) (argument_denotations env args) (found_named ins outs env.names w.text h) (arguments_named ins outs env args h)
  exp_named ins outs env (s.pre w at) h =
      before_named ins outs at (standing_for w.span (found env.names w.text) []) (standing_named ins outs w.span (found env.names w.text) [] (found_named ins outs env.names w.text h) tt)
  exp_named ins outs env (s.paren e at) h = exp_named ins outs env e h
  exp_named ins outs env (s.unary op e at) h = as_expression_named ins outs (exp_denotation env e) (exp_named ins outs env e h)
  exp_named ins outs env (s.binary op d e at) h =
      (as_expression_named ins outs (exp_denotation env d) (exp_named ins outs env d h), as_expression_named ins outs (exp_denotation env e) (exp_named ins outs env e h))
  exp_named ins outs env (s.choose c d e at) h = (
    as_expression_named ins outs (exp_denotation env c)
        (exp_named ins outs env c h),
    (as_expression_named ins outs (exp_denotation env d) (exp_named ins outs env d h), as_expression_named ins outs (exp_denotation env e) (exp_named ins outs env e h)),
  )

  argument_named : (ins outs : ℕ) (env : Environment Denotation) (a : Argument) → AreKnownNames ins outs env.names → IsNamedDenotation ins outs (argument_denotation env a)
  argument_named ins outs env (s.value_argument e) h = exp_named ins outs env e h
  argument_named ins outs env (s.trace_argument b at) h = braces_named ins outs env b h

  arguments_named : (ins outs : ℕ) (env : Environment Denotation) (args : Arguments) → AreKnownNames ins outs env.names → AreNamedDenotations ins outs (argument_denotations env args)
  arguments_named ins outs env s.no_arguments h = tt
  arguments_named ins outs env (s.argument a rest) h = (argument_named ins outs env a h, arguments_named ins outs env rest h)

  braces_named : (ins outs : ℕ) (env : Environment Denotation) (b : Braces) → AreKnownNames ins outs env.names → IsNamedDenotation ins outs (braces_denotation env b)
  braces_named ins outs env (s.plain t) h = trace_named ins outs env t h
  braces_named ins outs env (s.choice lead ps) h = λ n. parts_named ins outs env ps h (behind_term n)
  braces_named ins outs env (s.priority lead ts) h = traces_named ins outs env pri (λ ins outs x y g h. (g, h)) ts h
  braces_named ins outs env (s.parallel lead ts) h = traces_named ins outs env par (λ ins outs x y g h. (g, h)) ts h

  weight_named : (ins outs : ℕ) (env : Environment Denotation) (a : Alternative) → AreKnownNames ins outs env.names → IsNamed ins outs (weight_of env a)
  weight_named ins outs env (s.unweighted t) h = refl
  weight_named ins outs env (s.weighted e t) h = as_expression_named ins outs (exp_denotation env e) (exp_named ins outs env e h)

  alternative_named : (ins outs : ℕ) (env : Environment Denotation) (a : Alternative) → AreKnownNames ins outs env.names → IsNamedDenotation ins outs (alternative_denotation env a)
  alternative_named ins outs env (s.unweighted t) h = trace_named ins outs env t h
  alternative_named ins outs env (s.weighted e t) h = trace_named ins outs env t h

  parts_named : (ins outs : ℕ) (env : Environment Denotation) (ps : Alternatives) → AreKnownNames ins outs env.names → (n : Numbers) → AreEachNamed ins outs (parts_of env ps n).parts
  parts_named ins outs env s.no_alternatives h n = tt
  parts_named ins outs env (s.alternative a rest) h n = (
    weight_named ins outs env a
        h,
    (as_named ins outs (alternative_denotation env a) n (alternative_named ins outs env a h), parts_named ins outs env rest h (as_trace (alternative_denotation env a) n).after),
  )

  traces_named : (ins outs : ℕ) (env : Environment Denotation) (f : Expanded → Expanded → Expanded) → Joins f → (ts : Traces) → AreKnownNames ins outs env.names
      → IsNamedDenotation ins outs (traces_denotation env f ts)
  traces_named ins outs env f j s.no_traces h = λ n. tt
  traces_named ins outs env f j (s.one_trace t s.no_traces) h = trace_named ins outs env t h
  traces_named ins outs env f j (s.one_trace t (s.one_trace u us)) h = λ n.
      j ins outs (as_trace (trace_denotation env t) (behind_term n)).expanded (as_trace (traces_denotation env f (s.one_trace u us)) (as_trace (trace_denotation env t) (behind_term n)).after).expanded
      (as_named ins outs (trace_denotation env t) (behind_term n) (trace_named ins outs env t h))
      (as_named ins outs (traces_denotation env f (s.one_trace u us)) _ (traces_named ins outs env f j (s.one_trace u us) h))

  handler_named : (ins outs : ℕ) (env : Environment Denotation) (h : MaybeTrace) → AreKnownNames ins outs env.names → IsNamedDenotation ins outs (handler_denotation env h)
  handler_named ins outs env s.no_trace g = λ n. tt
  handler_named ins outs env (s.a_trace t) g = trace_named ins outs env t g

  meaning_named : (ins outs : ℕ) (env : Environment Denotation) (m : Meaning) → AreKnownNames ins outs env.names → IsNamedDenotation ins outs (meaning_denotation env m)
  meaning_named ins outs env (s.trace_meaning t) h = trace_named ins outs env t h
  meaning_named ins outs env (s.value_meaning e) h = exp_named ins outs env e h

  macro_named : (ins outs : ℕ) (env : Environment Denotation) (m : Macro) (ss : List Denotation) → AreKnownNames ins outs env.names → AreNamedDenotations ins outs ss → IsNamedDenotation ins outs (macro_denotation env m ss)
  macro_named ins outs env (s.macro w ps type m) ss h g = meaning_named ins outs (with_arguments (parameter_names ps) ss env) m (bound_named ins outs (parameter_names ps) ss env g h)

  trace_named : (ins outs : ℕ) (env : Environment Denotation) (t : Trace) → AreKnownNames ins outs env.names → IsNamedDenotation ins outs (trace_denotation env t)
  trace_named ins outs env (s.sequence ts) h = traces_named ins outs env seq (λ ins outs x y g h. (g, h)) ts h
  trace_named ins outs env (s.braces b at) h = braces_named ins outs env b h
  trace_named ins outs env (s.loop l t) h =
      λ n. repeated_named ins outs (bounds_of env l) (as_trace (trace_denotation env t)) (λ m. as_named ins outs (trace_denotation env t) m (trace_named ins outs env t h)) n
  trace_named ins outs env (s.raise w) h = λ n. raised_named ins outs (found_exception env.exceptions w.text)
  trace_named ins outs env (s.assert e t) h =
      λ n. (as_expression_named ins outs (exp_denotation env e) (exp_named ins outs env e h), as_named ins outs (trace_denotation env t) (behind_term n) (trace_named ins outs env t h))
  trace_named ins outs env (s.exist gs t) h =
      λ n. groups_named ins outs env gs (λ inner. as_trace (trace_denotation inner t)) (λ inner g m. as_named ins outs (trace_denotation inner t) m (trace_named ins outs inner t g)) h n
  trace_named ins outs env (s.define m t) h = trace_named ins outs (with_name (macro_name m) (macro (macro_denotation env m)) env) t ((λ ss g. macro_named ins outs env m ss h g), h)
  trace_named ins outs env (s.exceptions ws t) h =
      λ n. as_named ins outs (trace_denotation (with_exceptions n.term ws env) t) n (trace_named ins outs (with_exceptions n.term ws env) t (exceptions_named ins outs n.term ws env h))
  trace_named ins outs env (s.catch w t h) g = λ n. caught_named ins outs env w t h (trace_named ins outs env t g) (handler_named ins outs env h g) n
  trace_named ins outs env (s.trap w t h) g =
      λ n. caught_named ins outs (with_exceptions n.term (w ∷ []) env) w t h (trace_named ins outs (with_exceptions n.term (w ∷ []) env) t g)
      (handler_named ins outs (with_exceptions n.term (w ∷ []) env) h g) n
  trace_named ins outs env (s.try t h) g =
      λ n. (as_named ins outs (trace_denotation env t) (behind_term n) (trace_named ins outs env t g), as_named ins outs (handler_denotation env h) _ (handler_named ins outs env h g))
  trace_named ins outs env (s.value e) h = exp_named ins outs env e h

-- Variables.

-- all from this one on, so many, are there
abbrev HasRoom : ℕ → ℕ → Role → ℕ → ℕ → Type 0
HasRoom ins outs r i many = (k : ℕ) → i ≤ k → k < i + many → IsOneOf ins outs r k

room_next : (ins outs : ℕ) (r : Role) (i many : ℕ) → HasRoom ins outs r i (suc many) → HasRoom ins outs r (suc i) many
room_next ins outs r i many h = λ k low high. h k (omega arith) (omega arith)

room_here : (ins outs : ℕ) (r : Role) (i many : ℕ) → HasRoom ins outs r i (suc many) → IsOneOf ins outs r i
room_here ins outs r i many h = h i (omega arith) (omega arith)

room_first : (ins outs : ℕ) (r : Role) (i a b : ℕ) → HasRoom ins outs r i (a + b) → HasRoom ins outs r i a
room_first ins outs r i a b h = λ k low high. h k low (omega arith)

room_second : (ins outs : ℕ) (r : Role) (i a b : ℕ) → HasRoom ins outs r i (a + b) → HasRoom ins outs r (i + a) b
room_second ins outs r i a b h = λ k low high. h k (omega arith) (omega arith)

variables_named : (ins outs : ℕ) (r : Role) (i : ℕ) (ws : List Word) (env : Environment Denotation) → HasRoom ins outs r i (length ws) → AreKnownNames ins outs env.names
    → AreKnownNames ins outs (with_variables r i ws env).names
variables_named ins outs r i [] env room h = h
variables_named ins outs r i (w ∷ ws) env room h =
    variables_named ins outs r (suc i) ws (with_name w.text (variable r i) env) (room_next ins outs r i (length ws) room) (room_here ins outs r i (length ws) room, h)

group_known : (ins outs : ℕ) (r : Role) (i : ℕ) (g : Grouping) (env : Environment Denotation) → HasRoom ins outs r i (length (group_names g)) → AreKnownNames ins outs env.names
    → AreKnownNames ins outs (with_group r i g env).names
group_known ins outs r i (s.grouping ws type ref range first) env room h =
    variables_named ins outs r i ws env (subst (HasRoom ins outs r i) (length-map ws (λ w. w.text)) room) h

group_many : (r : Role) (env : Environment Denotation) (g : Grouping) → length (group_variables r env g) ≡ length (group_names g)
group_many r env (s.grouping ws type ref range first) = length-map ws (declared_as r env type range (first_of env first)) ∙ sym (length-map ws (λ w. w.text))

groups_many : (r : Role) (i : ℕ) (env : Environment Denotation) (g : Grouping) (gs : Groupings)
    → length (groups_variables r i env (s.one_group g gs)) ≡ length (group_names g) + length (groups_variables r (i + length (group_names g)) (with_group r i g env) gs)
groups_many r i env g gs =
    let rest = groups_variables r (i + length (group_names g)) (with_group r i g env) gs in
    length-append (group_variables r env g) rest ∙ ap (λ n. n + length rest) (group_many r env g)

groups_known : (ins outs : ℕ) (r : Role) (i : ℕ) (gs : Groupings) (env : Environment Denotation) → HasRoom ins outs r i (length (groups_variables r i env gs)) → AreKnownNames ins outs env.names
    → AreKnownNames ins outs (with_groups r i gs env).names
groups_known ins outs r i s.no_groups env room h = h
groups_known ins outs r i (s.one_group g gs) env room h =
    let a = length (group_names g) in
    let b = length (groups_variables r (i + length (group_names g)) (with_group r i g env) gs) in
    let both : HasRoom ins outs r i (a + b) = subst (HasRoom ins outs r i) (groups_many r i env g gs) room in
    groups_known ins outs r (i + a) gs (with_group r i g env) (room_second ins outs r i a b both) (group_known ins outs r i g env (room_first ins outs r i a b both) h)

words_domains : (declares : Word → Declared) → ((w : Word) → IsDomain (declares w).kind (declares w).range) → (ws : List Word) → HaveDomains (map declares ws)
words_domains declares d [] = tt
words_domains declares d (w ∷ ws) = (d w, words_domains declares d ws)

domains_both : (ds es : List Declared) → HaveDomains ds → HaveDomains es → HaveDomains (ds ++ es)
domains_both [] es g h = h
domains_both (d ∷ ds) es g h = (g.0, domains_both ds es g.1 h)

group_domains : (r : Role) (env : Environment Denotation) (g : Grouping) → HaveDomains (group_variables r env g)
group_domains r env (s.grouping ws type ref range first) = words_domains (declared_as r env type range (first_of env first)) (λ w. range_domain env.decimals r (kind_of type) range) ws

groups_domains : (r : Role) (i : ℕ) (env : Environment Denotation) (gs : Groupings) → HaveDomains (groups_variables r i env gs)
groups_domains r i env s.no_groups = tt
groups_domains r i env (s.one_group g gs) = domains_both (group_variables r env g) _ (group_domains r env g) (groups_domains r (i + length (group_names g)) (with_group r i g env) gs)

all_outputs : (ins outs : ℕ) → HasRoom ins outs role.Output 0 outs
all_outputs ins outs = λ k low high. omega arith

-- the first of the inputs, and those behind them
first_inputs : (outs a b : ℕ) → HasRoom (a + b) outs role.Input 0 a
first_inputs outs a b = λ k low high. omega arith

other_inputs : (outs a b : ℕ) → HasRoom (a + b) outs role.Input a b
other_inputs outs a b = λ k low high. omega arith

-- Runs.

-- the inputs that runs give
abbrev given : List Call → List Declared
given cs = flat_map (λ (c : Call). c.names) cs

-- and what they are given
abbrev arguments : List Call → List Placed
arguments cs = flat_map (λ (c : Call). c.arguments) cs

declared_known : (ins outs : ℕ) (r : Role) (i : ℕ) (ds : List Declared) (env : Environment Denotation) → HasRoom ins outs r i (length ds) → AreKnownNames ins outs env.names
    → AreKnownNames ins outs (with_declared r i ds env).names
declared_known ins outs r i [] env room h = h
declared_known ins outs r i (d ∷ ds) env room h =
    declared_known ins outs r (suc i) ds (with_name d.name (variable r i) env) (room_next ins outs r i (length ds) room) (room_here ins outs r i (length ds) room, h)

-- there is room for the names of the first run, and for those of the others
room_both : (ins outs i : ℕ) (c : Call) (cs : List Call) → HasRoom ins outs role.Input i (length (given (c ∷ cs))) → HasRoom ins outs role.Input i (length c.names + length (given cs))
room_both ins outs i c cs room = subst (HasRoom ins outs role.Input i) (length-append c.names (given cs)) room

calls_known : (ins outs i : ℕ) (cs : List Call) (env : Environment Denotation) → HasRoom ins outs role.Input i (length (given cs)) → AreKnownNames ins outs env.names
    → AreKnownNames ins outs (with_calls i cs env).names
calls_known ins outs i [] env room h = h
calls_known ins outs i (c ∷ cs) env room h =
    let a = length c.names in
    let b = length (given cs) in
    let both : HasRoom ins outs role.Input i (a + b) = room_both ins outs i c cs room in
    calls_known ins outs (i + a) cs (with_declared role.Input i c.names env) (room_second ins outs role.Input i a b both) (declared_known ins outs role.Input i c.names env (room_first ins outs role.Input i a b both) h)

all_named : (ins outs : ℕ) (env : Environment Denotation) (es : List Exp) → AreKnownNames ins outs env.names → AreAllNamed ins outs (map (λ e. as_expression (exp_denotation env e)) es)
all_named ins outs env [] h = tt
all_named ins outs env (e ∷ es) h = (as_expression_named ins outs (exp_denotation env e) (exp_named ins outs env e h), all_named ins outs env es h)

named_both : (ins outs : ℕ) (ds es : List Placed) → AreAllNamed ins outs ds → AreAllNamed ins outs es → AreAllNamed ins outs (ds ++ es)
named_both ins outs [] es g h = h
named_both ins outs (d ∷ ds) es g h = (g.0, named_both ins outs ds es g.1 h)

runs_named : (ins outs : ℕ) (known : List Runnable) (i : ℕ) (env : Environment Denotation) (rs : List Run) → HasRoom ins outs role.Input i (length (given (calls_of known i env rs))) → AreKnownNames ins outs env.names
    → AreAllNamed ins outs (arguments (calls_of known i env rs))
runs_named ins outs known i env [] room h = tt
runs_named ins outs known i env (r ∷ rs) room h =
    let c : Call = call_of known env r in
    let a = length c.names in
    let inner : Environment Denotation = with_declared role.Input i c.names env in
    let cs : List Call = calls_of known (i + a) inner rs in
    let b = length (given cs) in
    let both : HasRoom ins outs role.Input i (a + b) = room_both ins outs i c cs room in
    named_both ins outs c.arguments (arguments cs)
    (all_named ins outs env r.arguments h)
    (runs_named ins outs known (i + a) inner rs (room_second ins outs role.Input i a b both) (declared_known ins outs role.Input i c.names env (room_first ins outs role.Input i a b both) h))

names_domains : (decimals : ℕ) (ws : List Word) (ds : List Declared) → HaveDomains (all_given_as decimals ws ds)
names_domains decimals [] ds = tt
names_domains decimals (w ∷ ws) [] = tt
names_domains decimals (w ∷ ws) (d ∷ ds) = (range_domain decimals role.Input d.kind None, names_domains decimals ws ds)

calls_domains : (known : List Runnable) (i : ℕ) (env : Environment Denotation) (rs : List Run) → HaveDomains (given (calls_of known i env rs))
calls_domains known i env [] = tt
calls_domains known i env (r ∷ rs) =
    let c : Call = call_of known env r in
    let inner : Environment Denotation = with_declared role.Input i c.names env in
    domains_both c.names (given (calls_of known (i + length c.names) inner rs))
    (names_domains env.decimals r.names (outputs_of known r.node.text))
    (calls_domains known (i + length c.names) inner rs)

-- Nodes.

-- names that stand for no variable of a node, whatever node it is
abbrev AreGlobal : Environment Denotation → Type 0
AreGlobal env = (ins outs : ℕ) → AreKnownNames ins outs env.names

-- so it is where a node has so many inputs of its own, so many that runs give, and so many outputs
named_within : (a b outputs : ℕ) (known : List Runnable) (env : Environment Denotation) (w : Word) (ins outs : Groupings) (rs : List Run) (t : Trace) → AreGlobal env
    → length (groups_variables role.Input 0 env ins) ≡ a → length (given (node_of known env w ins outs rs t).calls) ≡ b → length (node_of known env w ins outs rs t).outputs ≡ outputs
    → AreAllNamed (a + b) outputs (arguments (node_of known env w ins outs rs t).calls) × AreNamed (a + b) outputs (node_of known env w ins outs rs t).body
named_within a b outputs known env w ins outs rs t h own more many =
    let n = length (groups_variables role.Input 0 env ins) in
    let first : Environment Denotation = with_groups role.Input 0 ins env in
    let inner : Environment Denotation = with_groups role.Output 0 outs first in
    let cs : List Call = calls_of known n inner rs in
    let room : HasRoom (a + b) outputs role.Input 0 n = subst (HasRoom (a + b) outputs role.Input 0) (sym own) (first_inputs outputs a b) in
    let room_outputs : HasRoom (a + b) outputs role.Output 0 (length (groups_variables role.Output 0 first outs)) = subst (HasRoom (a + b) outputs role.Output 0) (sym many) (all_outputs (a + b) outputs) in
    let room_given : HasRoom (a + b) outputs role.Input n (length (given cs)) = λ k low high. omega (arith, own, more) in
    let known_names : AreKnownNames (a + b) outputs inner.names =
    groups_known (a + b) outputs role.Output 0 outs first room_outputs (groups_known (a + b) outputs role.Input 0 ins env room (h (a + b) outputs)) in
    let all_known : AreKnownNames (a + b) outputs (with_calls n cs inner).names = calls_known (a + b) outputs n cs inner room_given known_names in (
      runs_named (a + b) outputs known n inner rs room_given known_names,
      as_named (a + b) outputs (trace_denotation (with_calls n cs inner) t) (record { term = 0; local = 0; counter = 0 }) (trace_named (a + b) outputs (with_calls n cs inner) t all_known),
    )

node_named : (known : List Runnable) (env : Environment Denotation) (w : Word) (ins outs : Groupings) (rs : List Run) (t : Trace) → AreGlobal env → NamesWhatIsThere (node_of known env w ins outs rs t)
node_named known env w ins outs rs t h =
    let node = node_of known env w ins outs rs t in
    let n = length (groups_variables role.Input 0 env ins) in
    let first : Environment Denotation = with_groups role.Input 0 ins env in
    let inner : Environment Denotation = with_groups role.Output 0 outs first in
    let all = named_within n (length (given node.calls)) (length node.outputs) known env w ins outs rs t h refl refl refl in
    let many : n + length (given node.calls) ≡ length (node.inputs ++ given node.calls) = sym (length-append node.inputs (given node.calls)) in
    record {
      inputs = domains_both node.inputs (given node.calls) (groups_domains role.Input 0 env ins) (calls_domains known n inner rs);
      outputs = groups_domains role.Output 0 first outs;
      arguments = subst (λ k. AreAllNamed k (length node.outputs) (arguments node.calls)) many all.0;
      body = subst (λ k. AreNamed k (length node.outputs) node.body) many all.1;
    }

one_holds : (P : Node → Type 0) (b : Bool) (one node : Node) (other : Option Node) → P one → (other ≡ Some node → P node) → (if b then Some one else other) ≡ Some node → P node
one_holds P true one node other p q e = let same : one ≡ node = cc in subst P same p
one_holds P false one node other p q e = q e

named_among : (known : List Runnable) (env : Environment Denotation) (wanted : Option (List ℕ)) (ds : List Declaration) (node : Node) → AreGlobal env → node_among known env wanted ds ≡ Some node → NamesWhatIsThere node
named_among known env wanted [] node h e = absurd (cc)
named_among known env wanted (s.node w ins outs rs t ∷ ds) node h e =
    one_holds NamesWhatIsThere (is_wanted wanted w) (node_of known env w ins outs rs t) node (node_among (runnable_of env w ins outs ∷ known) env wanted ds)
    (node_named known env w ins outs rs t h) (named_among (runnable_of env w ins outs ∷ known) env wanted ds node h) e
named_among known env wanted (s.macro_declaration m ∷ ds) node h e =
    named_among known (with_name (macro_name m) (macro (macro_denotation env m)) env) wanted ds node (λ ins outs. ((λ ss g. macro_named ins outs env m ss (h ins outs) g), h ins outs)) e
named_among known env wanted (s.exception_declaration ws ∷ ds) node h e = named_among known (with_exceptions 0 ws env) wanted ds node (λ ins outs. exceptions_named ins outs 0 ws env (h ins outs)) e

pub names_are_there : NamesAreThere
names_are_there decimals wanted ds node e = named_among [] (at_start decimals) wanted ds node (λ ins outs. tt) e
