-- The numbers of a node's locals and counters, and where it names its locals.
use Rattle.std.proofs.Common.{◌≡◌, ℕ, suc, ◌+◌, Bool, true, false, List, [], ◌∷◌, ◌++◌, map, length, length-append, Option, Some, if◌then◌else◌, arith, refl, sym, ap, ◌∙◌, subst}
use Rattle.std.specs.List.{flat_map}
use Rattle.std.proofs.lemmas.Grind.{flat_map-append}
use Rattle.lt_ast.specs.Syntax as s
use Rattle.lt_ast.specs.Syntax.{Word, Exp, Grouping, Groupings, Trace, Run, Declaration}
use Rattle.lt_formula.specs.declared.role.Role.{Role}
use Rattle.lt_formula.specs.declared.role.Role.TheVariants as role
use Rattle.lt_macros.specs.Expanded.{Declared, Call, Expanded, eps, dead, con, raise, seq, loop, count, any, pri, par, assert, exist, catch, try, Parts, no_part, part, Node}
use Rattle.lt_macros.specs.Placed.{Placed}
use Rattle.lt_macros.specs.Environment.{macro, variable, Environment, at_start, with_name, with_exceptions}
use Rattle.lt_macros.specs.Denotation.{Denotation, as_expression, exp_denotation, group_names, macro_name, macro_denotation}
use Rattle.lt_macros.specs.Expansion.{Runnable, call_of, calls_of, groups_variables, runnable_of, with_calls, with_declared, with_group, with_groups, node_of, is_wanted, node_among}
use Rattle.lt_macros.specs.Numbering.{local_numbers, local_numbers_in, counter_numbers, counter_numbers_in, Follow, IsNumbered, PartsAreNumbered}
use Rattle.lt_macros.specs.Preorder.{Item, arguments_in, items, items_in, local_at, counter_at}
use Rattle.lt_macros.specs.Scoping.{AreInside, NameNone, LocalsAreInside}
use Rattle.lt_macros.proofs.Locals.{AreClosedNames, exceptions_closed, expression_inside, inputs_closed, outputs_closed, macro_closed, names_more, trace_inside}
use Rattle.lt_macros.proofs.Numbering.{AreSoundNames, exceptions_sound, macro_sound, trace_uses, variables_sound}

-- How many there are.

follow_length : (i : ℕ) (ks : List ℕ) (j : ℕ) → Follow i ks j → j ≡ i + length ks
follow_length i [] j f = grind (arith)
follow_length i (k ∷ ks) j f = let e = follow_length (suc i) ks j f.1 in grind (arith)

all_follow : (ks : List ℕ) (j many : ℕ) → Follow 0 ks j → many ≡ length ks → Follow 0 ks many
all_follow ks j many f e = let k = follow_length 0 ks j f in let same : j ≡ many = grind (arith) in subst (Follow 0 ks) same f

both_long : {A : Type 0} (f : Item → List A) (xs ys : List Item) (ks ls : List ℕ) → length (flat_map f xs) ≡ length ks → length (flat_map f ys) ≡ length ls → length (flat_map f (xs ++ ys)) ≡ length (ks ++ ls)
both_long f xs ys ks ls g h =
    ap length (flat_map-append f xs ys) ∙ length-append (flat_map f xs) (flat_map f ys) ∙ (λ i. g i + h i) ∙ sym (length-append ks ls)

mutual
  locals_many : (x : Expanded) → length (flat_map local_at (items x)) ≡ length (local_numbers x)
  locals_many eps = refl
  locals_many dead = refl
  locals_many (con e) = refl
  locals_many (raise z) = refl
  locals_many (seq x y) = both_long local_at (items x) (items y) _ _ (locals_many x) (locals_many y)
  locals_many (pri x y) = both_long local_at (items x) (items y) _ _ (locals_many x) (locals_many y)
  locals_many (par x y) = both_long local_at (items x) (items y) _ _ (locals_many x) (locals_many y)
  locals_many (catch z x y) = both_long local_at (items x) (items y) _ _ (locals_many x) (locals_many y)
  locals_many (try x y) = both_long local_at (items x) (items y) _ _ (locals_many x) (locals_many y)
  locals_many (loop x) = locals_many x
  locals_many (count i b x) = locals_many x
  locals_many (assert e x) = locals_many x
  locals_many (exist i d x) = ap suc (locals_many x)
  locals_many (any ps) = locals_many_in ps

  locals_many_in : (ps : Parts) → length (flat_map local_at (items_in ps)) ≡ length (local_numbers_in ps)
  locals_many_in no_part = refl
  locals_many_in (part w x ps) = both_long local_at (items x) (items_in ps) _ _ (locals_many x) (locals_many_in ps)

mutual
  counters_many : (x : Expanded) → length (flat_map counter_at (items x)) ≡ length (counter_numbers x)
  counters_many eps = refl
  counters_many dead = refl
  counters_many (con e) = refl
  counters_many (raise z) = refl
  counters_many (seq x y) = both_long counter_at (items x) (items y) _ _ (counters_many x) (counters_many y)
  counters_many (pri x y) = both_long counter_at (items x) (items y) _ _ (counters_many x) (counters_many y)
  counters_many (par x y) = both_long counter_at (items x) (items y) _ _ (counters_many x) (counters_many y)
  counters_many (catch z x y) = both_long counter_at (items x) (items y) _ _ (counters_many x) (counters_many y)
  counters_many (try x y) = both_long counter_at (items x) (items y) _ _ (counters_many x) (counters_many y)
  counters_many (loop x) = counters_many x
  counters_many (count i b x) = ap suc (counters_many x)
  counters_many (assert e x) = counters_many x
  counters_many (exist i d x) = counters_many x
  counters_many (any ps) = counters_many_in ps

  counters_many_in : (ps : Parts) → length (flat_map counter_at (items_in ps)) ≡ length (counter_numbers_in ps)
  counters_many_in no_part = refl
  counters_many_in (part w x ps) = both_long counter_at (items x) (items_in ps) _ _ (counters_many x) (counters_many_in ps)

-- Names of variables.

group_sound : (r : Role) (i : ℕ) (g : Grouping) (env : Environment Denotation) → AreSoundNames env.names → AreSoundNames (with_group r i g env).names
group_sound r i (s.grouping ws type ref range first) env h = variables_sound r i ws env h

groups_sound : (r : Role) (i : ℕ) (gs : Groupings) (env : Environment Denotation) → AreSoundNames env.names → AreSoundNames (with_groups r i gs env).names
groups_sound r i s.no_groups env h = h
groups_sound r i (s.one_group g gs) env h = groups_sound r (i + length (group_names g)) gs (with_group r i g env) (group_sound r i g env h)

input_group_closed : (i : ℕ) (g : Grouping) (env : Environment Denotation) → AreClosedNames [] env.names → AreClosedNames [] (with_group role.Input i g env).names
input_group_closed i (s.grouping ws type ref range first) env h = inputs_closed [] i ws env h

inputs_groups_closed : (i : ℕ) (gs : Groupings) (env : Environment Denotation) → AreClosedNames [] env.names → AreClosedNames [] (with_groups role.Input i gs env).names
inputs_groups_closed i s.no_groups env h = h
inputs_groups_closed i (s.one_group g gs) env h = inputs_groups_closed (i + length (group_names g)) gs (with_group role.Input i g env) (input_group_closed i g env h)

output_group_closed : (i : ℕ) (g : Grouping) (env : Environment Denotation) → AreClosedNames [] env.names → AreClosedNames [] (with_group role.Output i g env).names
output_group_closed i (s.grouping ws type ref range first) env h = outputs_closed [] i ws env h

outputs_groups_closed : (i : ℕ) (gs : Groupings) (env : Environment Denotation) → AreClosedNames [] env.names → AreClosedNames [] (with_groups role.Output i gs env).names
outputs_groups_closed i s.no_groups env h = h
outputs_groups_closed i (s.one_group g gs) env h = outputs_groups_closed (i + length (group_names g)) gs (with_group role.Output i g env) (output_group_closed i g env h)

-- Names of runs.

declared_sound : (r : Role) (i : ℕ) (ds : List Declared) (env : Environment Denotation) → AreSoundNames env.names → AreSoundNames (with_declared r i ds env).names
declared_sound r i [] env h = h
declared_sound r i (d ∷ ds) env h = declared_sound r (suc i) ds (with_name d.name (variable r i) env) (tt, h)

calls_sound : (i : ℕ) (cs : List Call) (env : Environment Denotation) → AreSoundNames env.names → AreSoundNames (with_calls i cs env).names
calls_sound i [] env h = h
calls_sound i (c ∷ cs) env h = calls_sound (i + length c.names) cs (with_declared role.Input i c.names env) (declared_sound role.Input i c.names env h)

declared_closed : (i : ℕ) (ds : List Declared) (env : Environment Denotation) → AreClosedNames [] env.names → AreClosedNames [] (with_declared role.Input i ds env).names
declared_closed i [] env h = h
declared_closed i (d ∷ ds) env h = declared_closed (suc i) ds (with_name d.name (variable role.Input i) env) (tt, h)

calls_closed : (i : ℕ) (cs : List Call) (env : Environment Denotation) → AreClosedNames [] env.names → AreClosedNames [] (with_calls i cs env).names
calls_closed i [] env h = h
calls_closed i (c ∷ cs) env h = calls_closed (i + length c.names) cs (with_declared role.Input i c.names env) (declared_closed i c.names env h)

-- Arguments of runs.

none_both : (ds es : List Placed) → NameNone ds → NameNone es → NameNone (ds ++ es)
none_both [] es g h = h
none_both (d ∷ ds) es g h = (g.0, none_both ds es g.1 h)

expressions_inside : (env : Environment Denotation) (es : List Exp) → AreClosedNames [] env.names → NameNone (map (λ e. as_expression (exp_denotation env e)) es)
expressions_inside env [] h = tt
expressions_inside env (e ∷ es) h = (expression_inside env e h, expressions_inside env es h)

arguments_inside : (known : List Runnable) (i : ℕ) (env : Environment Denotation) (rs : List Run) → AreClosedNames [] env.names → NameNone (flat_map (λ (c : Call). c.arguments) (calls_of known i env rs))
arguments_inside known i env [] h = tt
arguments_inside known i env (r ∷ rs) h =
    let c : Call = call_of known env r in
    let inner : Environment Denotation = with_declared role.Input i c.names env in
    none_both c.arguments (flat_map (λ (c : Call). c.arguments) (calls_of known (i + length c.names) inner rs))
    (expressions_inside env r.arguments h)
    (arguments_inside known (i + length c.names) inner rs (declared_closed i c.names env h))

-- Nodes.

-- what is visible behind a node's variables
abbrev inner_of : Environment Denotation → Groupings → Groupings → Environment Denotation
inner_of env ins outs = with_groups role.Output 0 outs (with_groups role.Input 0 ins env)

inner_closed : (env : Environment Denotation) (ins outs : Groupings) → AreClosedNames [] env.names → AreClosedNames [] (inner_of env ins outs).names
inner_closed env ins outs h = outputs_groups_closed 0 outs (with_groups role.Input 0 ins env) (inputs_groups_closed 0 ins env h)

node_numbered : (known : List Runnable) (env : Environment Denotation) (w : Word) (ins outs : Groupings) (rs : List Run) (t : Trace) → AreSoundNames env.names → IsNumbered (node_of known env w ins outs rs t)
node_numbered known env w ins outs rs t h =
    let inner = inner_of env ins outs in
    let n = length (groups_variables role.Input 0 env ins) in
    let cs = calls_of known n inner rs in
    let sound = groups_sound role.Output 0 outs (with_groups role.Input 0 ins env) (groups_sound role.Input 0 ins env h) in
    let u = trace_uses (with_calls n cs inner) t (record { term = 0; local = 0; counter = 0 }) (calls_sound n cs inner sound) in
    let body = (node_of known env w ins outs rs t).body in
    record {
      locals = all_follow (local_numbers body) _ _ u.locals (locals_many body);
      counters = all_follow (counter_numbers body) _ _ u.counters (counters_many body);
    }

node_inside : (known : List Runnable) (env : Environment Denotation) (w : Word) (ins outs : Groupings) (rs : List Run) (t : Trace) → AreClosedNames [] env.names
    → AreInside [] (node_of known env w ins outs rs t).body × NameNone (arguments_in (node_of known env w ins outs rs t))
node_inside known env w ins outs rs t h =
    let inner = inner_of env ins outs in
    let n = length (groups_variables role.Input 0 env ins) in
    let cs = calls_of known n inner rs in
    let closed = inner_closed env ins outs h in (
      trace_inside (with_calls n cs inner) t (record { term = 0; local = 0; counter = 0 }) (calls_closed n cs inner closed),
      arguments_inside known n inner rs closed,
    )

-- what holds of this node and of those behind it holds of the one that is asked for
one_holds : (P : Node → Type 0) (b : Bool) (one node : Node) (other : Option Node) → P one → (other ≡ Some node → P node) → (if b then Some one else other) ≡ Some node → P node
one_holds P true one node other p q e = let same : one ≡ node = cc in subst P same p
one_holds P false one node other p q e = q e

numbered_among : (known : List Runnable) (env : Environment Denotation) (wanted : Option (List ℕ)) (ds : List Declaration) (node : Node) → AreSoundNames env.names → node_among known env wanted ds ≡ Some node → IsNumbered node
numbered_among known env wanted [] node h e = absurd (cc)
numbered_among known env wanted (s.node w ins outs rs t ∷ ds) node h e =
    one_holds IsNumbered (is_wanted wanted w) (node_of known env w ins outs rs t) node (node_among (runnable_of env w ins outs ∷ known) env wanted ds)
    (node_numbered known env w ins outs rs t h) (numbered_among (runnable_of env w ins outs ∷ known) env wanted ds node h) e
numbered_among known env wanted (s.macro_declaration m ∷ ds) node h e = numbered_among known (with_name (macro_name m) (macro (macro_denotation env m)) env) wanted ds node ((λ ss g. macro_sound env m ss h g), h) e
numbered_among known env wanted (s.exception_declaration ws ∷ ds) node h e = numbered_among known (with_exceptions 0 ws env) wanted ds node (exceptions_sound 0 ws env h) e

inside_among : (known : List Runnable) (env : Environment Denotation) (wanted : Option (List ℕ)) (ds : List Declaration) (node : Node) → AreClosedNames [] env.names → node_among known env wanted ds ≡ Some node
    → AreInside [] node.body × NameNone (arguments_in node)
inside_among known env wanted [] node h e = absurd (cc)
inside_among known env wanted (s.node w ins outs rs t ∷ ds) node h e =
    one_holds (λ n. AreInside [] n.body × NameNone (arguments_in n)) (is_wanted wanted w) (node_of known env w ins outs rs t) node (node_among (runnable_of env w ins outs ∷ known) env wanted ds)
    (node_inside known env w ins outs rs t h) (inside_among (runnable_of env w ins outs ∷ known) env wanted ds node h) e
inside_among known env wanted (s.macro_declaration m ∷ ds) node h e =
    inside_among known (with_name (macro_name m) (macro (macro_denotation env m)) env) wanted ds node ((λ more a ss g. macro_closed more env m ss (names_more [] more env.names a h) g), h) e
inside_among known env wanted (s.exception_declaration ws ∷ ds) node h e = inside_among known (with_exceptions 0 ws env) wanted ds node (exceptions_closed [] 0 ws env h) e

pub parts_are_numbered : PartsAreNumbered
parts_are_numbered decimals wanted ds node e = numbered_among [] (at_start decimals) wanted ds node tt e

pub locals_are_inside : LocalsAreInside
locals_are_inside decimals wanted ds node e = inside_among [] (at_start decimals) wanted ds node tt e
