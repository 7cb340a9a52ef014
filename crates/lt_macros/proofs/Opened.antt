-- Variables of a node, whose first values are put on the list.
use Rattle.std.proofs.Common.{◌≡◌, ℕ, suc, ◌+◌, ◌*◌, ◌<◌, ◌≤◌, List, [], ◌∷◌, ◌++◌, length, map, drop, reverse, get_or, slice_get, refl, ap, sym, subst, ◌∙◌, arith, length-append}
use Rattle.std.specs.List.{flat_map}
use Rattle.lt_ast.specs.Syntax as s
use Rattle.lt_ast.specs.Syntax.{Word, Grouping, Groupings, Trace, Run}
use Rattle.std.specs.Borrow.{Bor}
use Rattle.lt_ast.specs.View.{trace as trace_view, word}
use Rattle.lt_ast.specs.inner.Lists.{groups_of}
use Rattle.lt_ast.specs.inner.Rows.{group_of}
use Rattle.lt_ast.specs.declared.group.Group.{Group}
use Rattle.lt_ast.specs.declared.name.Name.{Name}
use Rattle.lt_ast.specs.declared.trace.TraceExpr.{TraceExpr}
use Rattle.lt_formula.specs.declared.role.Role.{Role}
use Rattle.lt_formula.specs.declared.role.Role.TheVariants.{Input, Output}
use Rattle.lt_macros.specs.Environment.{Environment}
use Rattle.lt_macros.specs.Expanded.{Declared, Call, Node, all_inputs}
use Rattle.lt_macros.specs.Expansion.{Runnable, calls_of, group_variables, groups_variables, node_of, with_calls, with_group, with_groups}
use Rattle.lt_macros.specs.Limits.{passed_limits}
use Rattle.lt_macros.specs.Denotation.{Numbers, ExpandedTrace, Denotation, as_trace, declared_as, first_of, group_names, trace_denotation}
use Rattle.lt_macros.specs.inner.Counting.{AreWithin, IsTallied, pending_figure, sum_of, waiting}
use Rattle.lt_macros.specs.inner.Figures.{Figure, calls_figure, expanded_figure, first_figure, limit_by, node_figure, variables_figure}
use Rattle.lt_macros.specs.inner.Numbers.{numbers_view}
use Rattle.lt_macros.specs.inner.Reading.{environment, meant}
use Rattle.lt_macros.specs.inner.Started.{sum_from}
use Rattle.lt_macros.specs.inner.Tallies.{counted}
use Rattle.lt_macros.specs.declared.counting.Count.{Count}
use Rattle.lt_macros.specs.declared.counting.Left.TheVariants.{Trace as Trace'}
use Rattle.lt_macros.specs.declared.counting.Pending.{Pending}
use Rattle.lt_macros.specs.declared.scope.Entry.{Entry}
use Rattle.lt_macros.specs.declared.scope.Phrase.{Phrase as CodePhrase}
use Rattle.lt_macros.specs.declared.scope.Phrase.TheVariants as code_phrase
use Rattle.lt_macros.specs.declared.tally.Tally.{Tally}
use Rattle.lt_macros.proofs.Counted.{first_passed}
use Rattle.lt_macros.proofs.Grouped.{groups_from, next_place}
use Rattle.lt_macros.proofs.Waiting.{tallied_limit}

-- each name of a group has its first value
pub firsts_all : (f : Figure) (declares : Word → Declared) (first : ℕ) (names : List Name) → ((w : Word) → first_figure f (declares w).first ≡ first) → variables_figure f (map declares (map word names)) ≡ length names * first
firsts_all f declares first [] same = omega arith
firsts_all f declares first (n ∷ names) same = omega (arith, same (word n), firsts_all f declares first names same)

-- variables behind others
pub variables_both : (f : Figure) (xs ys : List Declared) → variables_figure f (xs ++ ys) ≡ variables_figure f xs + variables_figure f ys
variables_both f [] ys = omega arith
variables_both f (x ∷ xs) ys = omega (arith, variables_both f xs ys)

-- one more group is put
pub group_put : (f : Figure) (role : Role) (env inner : Environment Denotation) (n next : ℕ) (groups : List Group) (place : ℕ) (g : Group) (before after all : ℕ) → place < length groups → g ≡ get_or groups place g
    → after ≡ before + variables_figure f (group_variables role env (group_of g)) → inner ≡ with_group role n (group_of g) env → next ≡ n + length g.names.items.items
    → before + variables_figure f (groups_variables role n env (groups_of (map group_of (drop place groups)))) ≡ all
    → after + variables_figure f (groups_variables role next inner (groups_of (map group_of (drop (place + 1) groups)))) ≡ all
group_put f role env inner n next groups place g before after all h is put shown moved so_far =
    let rest = groups_of (map group_of (drop (place + 1) groups)) in
    let count = next_place n next g moved in
    let behind : variables_figure f (groups_variables role next inner rest) ≡ variables_figure f (groups_variables role (n + length (group_names (group_of g))) (with_group role n (group_of g) env) rest) =
    λ i. variables_figure f (groups_variables role (count i) (shown i) rest) in
    omega (
      arith,
      put,
      so_far,
      ap (λ gs. variables_figure f (groups_variables role n env gs)) (groups_from groups place g h is),
      variables_both f (group_variables role env (group_of g)) (groups_variables role (n + length (group_names (group_of g))) (with_group role n (group_of g) env) rest),
      behind,
    )

mapped : {X Y : Type 0} (h : X → Y) (xs : List X) → length (map h xs) ≡ length xs
mapped h [] = refl
mapped h (x ∷ xs) = ap suc (mapped h xs)

-- as many variables as names
pub group_length : (role : Role) (env : Environment Denotation) (g : Grouping) → length (group_variables role env g) ≡ length (group_names g)
group_length role env (s.grouping ws type ref range first) = mapped (declared_as role env type range (first_of env first)) ws ∙ sym (mapped (λ (w : Word). w.text) ws)

-- how many there are depends neither on what is visible nor on the first place
pub as_many : (role : Role) (n m : ℕ) (env other : Environment Denotation) (gs : Groupings) → length (groups_variables role n env gs) ≡ length (groups_variables role m other gs)
as_many role n m env other s.no_groups = refl
as_many role n m env other (s.one_group g gs) =
    let k = length (group_names g) in
    omega (
      arith,
      length-append (group_variables role env g) (groups_variables role (n + k) (with_group role n g env) gs),
      length-append (group_variables role other g) (groups_variables role (m + k) (with_group role m g other) gs),
      group_length role env g,
      group_length role other g,
      as_many role (n + k) (m + k) (with_group role n g env) (with_group role m g other) gs,
    )

-- one more group is counted
pub group_counted : (role : Role) (n m : ℕ) (env other : Environment Denotation) (next after all : ℕ) (groups : List Group) (place : ℕ) (g : Group) → place < length groups → g ≡ get_or groups place g → after ≡ next + length g.names.items.items
    → next + length (groups_variables role n env (groups_of (map group_of (drop place groups)))) ≡ all
    → after + length (groups_variables role m other (groups_of (map group_of (drop (place + 1) groups)))) ≡ all
group_counted role n m env other next after all groups place g h is moved so_far =
    let rest = groups_of (map group_of (drop (place + 1) groups)) in
    let k = length (group_names (group_of g)) in
    omega (
      arith,
      next_place next after g moved,
      so_far,
      ap (λ gs. length (groups_variables role n env gs)) (groups_from groups place g h is),
      length-append (group_variables role env (group_of g)) (groups_variables role (n + k) (with_group role n (group_of g) env) rest),
      group_length role env (group_of g),
      as_many role (n + k) m (with_group role n (group_of g) env) other rest,
    )

-- a node's trace, and behind it the arguments of its runs and the first values of its variables, are all that is counted of it
pub node_counted : (f : Figure) (known there : List Runnable) (env inside here named : Environment Denotation) (n : ℕ) (w : Word) (ins outs : Groupings) (rs : List Run) (t : Trace) (start inputs outputs behind : ℕ)
    → there ≡ known → inside ≡ with_groups Input 0 ins env → here ≡ with_groups Output 0 outs inside → n ≡ length (groups_variables Input 0 env ins) → named ≡ with_calls n (calls_of there n here rs) here
    → start ≡ 0 → inputs ≡ start + variables_figure f (groups_variables Input 0 env ins) → outputs ≡ inputs + variables_figure f (groups_variables Output 0 inside outs)
    → behind ≡ outputs + calls_figure f (calls_of there n here rs)
    → expanded_figure f 1 (as_trace (trace_denotation named t) (record { term = 0; local = 0; counter = 0 })).expanded + behind ≡ node_figure (node_of known env w ins outs rs t) f
node_counted f known there env inside here named n w ins outs rs t start inputs outputs behind known_is inside_is here_is n_is named_is start_is inputs_are outputs_are behind_is =
    let node = node_of known env w ins outs rs t in
    let read = λ (e : Environment Denotation). expanded_figure f 1 (as_trace (trace_denotation e t) (record { term = 0; local = 0; counter = 0 })).expanded in
    let inner : Environment Denotation = with_groups Output 0 outs (with_groups Input 0 ins env) in
    let same : here ≡ inner = here_is ∙ ap (with_groups Output 0 outs) inside_is in
    let body : read named ≡ expanded_figure f 1 node.body = ap read (named_is ∙ (λ i. with_calls (n_is i) (calls_of (known_is i) (n_is i) (same i) rs) (same i))) in
    let calls : calls_figure f (calls_of there n here rs) ≡ calls_figure f node.calls = λ i. calls_figure f (calls_of (known_is i) (n_is i) (same i) rs) in
    let given : variables_figure f (groups_variables Output 0 inside outs) ≡ variables_figure f node.outputs = ap (λ e. variables_figure f (groups_variables Output 0 e outs)) inside_is in
    let inputs_all : variables_figure f (groups_variables Input 0 env ins) ≡ variables_figure f node.inputs = refl in
    omega (arith, body, calls, given, inputs_all, start_is, inputs_are, outputs_are, behind_is)

-- as many inputs as the node has, with those that its runs give
pub inputs_counted : (known there : List Runnable) (env inside here : Environment Denotation) (n all : ℕ) (w : Word) (ins outs : Groupings) (rs : List Run) (t : Trace)
    → there ≡ known → inside ≡ with_groups Input 0 ins env → here ≡ with_groups Output 0 outs inside → n ≡ length (groups_variables Input 0 env ins)
    → all ≡ n + length (flat_map (λ (c : Call). c.names) (calls_of there n here rs)) → all ≡ length (all_inputs (node_of known env w ins outs rs t))
inputs_counted known there env inside here n all w ins outs rs t known_is inside_is here_is n_is all_is =
    let inner : Environment Denotation = with_groups Output 0 outs (with_groups Input 0 ins env) in
    let same : here ≡ inner = here_is ∙ ap (with_groups Output 0 outs) inside_is in
    let own = groups_variables Input 0 env ins in
    let calls : calls_of there n here rs ≡ calls_of known (length own) inner rs = λ i. calls_of (known_is i) (n_is i) (same i) rs in
    omega (
      arith,
      all_is,
      n_is,
      ap (λ cs. length (flat_map (λ (c : Call). c.names) cs)) calls,
      length-append own (flat_map (λ (c : Call). c.names) (calls_of known (length own) inner rs)),
    )

-- the first limit that a node is past, where its figures are counted
pub first_limit : (t : Tally) (figure : Figure → ℕ) (node : Node) (inputs outputs : ℕ) → IsTallied t figure → ((f : Figure) → figure f ≡ node_figure node f) → inputs ≡ length (all_inputs node) → outputs ≡ length node.outputs
    → limit_by (counted t) inputs outputs ≡ slice_get (passed_limits node) 0
first_limit t figure node inputs outputs is same ins outs =
    tallied_limit t figure inputs outputs is
    ∙ (λ i. limit_by (λ f. same f i) (ins i) (outs i))
    ∙ first_passed node

-- a node's trace is put before what is left
pub trace_put : (decimals : ℕ) (rows : List Entry) (f : Figure) (k len : ℕ) (t : Bor TraceExpr) (n : Numbers) (before after : Count)
    → waiting after ≡ record { left = Trace' (code_phrase.Trace t); at = record { environment = k; depth = 1; len = len } } ∷ waiting before → after.tally ≡ before.tally → numbers_view after.numbers ≡ n
    → sum_of decimals rows f after
    ≡ expanded_figure f 1 (as_trace (trace_denotation (environment (meant decimals) rows k) (trace_view t.now)) n).expanded + sum_from decimals rows f before (as_trace (trace_denotation (environment (meant decimals) rows k) (trace_view t.now)) n).after
trace_put decimals rows f k len t n before after left tally numbers =
    let first : ExpandedTrace = as_trace (trace_denotation (environment (meant decimals) rows k) (trace_view t.now)) n in
    let here : pending_figure decimals rows f (waiting after) (numbers_view after.numbers) ≡ expanded_figure f 1 first.expanded + pending_figure decimals rows f (waiting before) first.after = λ i. pending_figure decimals rows f (left i) (numbers i) in
    omega (arith, here, ap (λ (t : Tally). counted t f) tally)

-- nothing is counted at first
pub nothing_counted : (decimals : ℕ) (rows : List Entry) (f : Figure) (count : Count) (n : Numbers) → counted count.tally f ≡ 0 → count.left.items ≡ [] → sum_from decimals rows f count n ≡ 0
nothing_counted decimals rows f count n tally left = omega (arith, tally, ap (λ ps. pending_figure decimals rows f (reverse ps) n) left)

-- nothing is left at first
pub nothing_left : (base : ℕ) (items : List Pending) → items ≡ [] → AreWithin base base (reverse items)
nothing_left base items is = subst (λ ps. AreWithin base base (reverse ps)) (sym is) (omega arith)

-- a node's trace is within what there is when it is put
pub trace_within : (base count k len : ℕ) (t : CodePhrase) (before after : List Pending) → after ≡ record { left = Trace' t; at = record { environment = k; depth = 1; len = len } } ∷ before → len ≡ count → k ≤ count → AreWithin base count before
    → AreWithin base count after
trace_within base count k len t before after is n h w =
    subst (AreWithin base count) (sym is) (omega (arith, n, h), (tt, (omega (arith, n), subst (λ m. AreWithin base m before) (sym n) w)))
