-- Traces with locals, put together from the innermost.
use Rattle.std.proofs.Common.{◌≡◌, ℕ, suc, ◌+◌, ◌-◌, ◌*◌, ◌<◌, ◌≤◌, List, [], ◌∷◌, ◌++◌, Global, length, map, ap, sym, ◌∙◌, arith, length-append}
use Rattle.std.proofs.lemmas.List.{length-map, map-append}
use Rattle.std.specs.declared.boxed.Box.{Box}
use Rattle.lt_ast.specs.Syntax as s
use Rattle.lt_ast.specs.Syntax.{Word, Groupings, Trace}
use Rattle.lt_formula.specs.declared.role.Role.TheVariants.{Local}
use Rattle.lt_macros.specs.Environment.{Environment, variable, with_name, with_variables}
use Rattle.lt_macros.specs.Expanded as x
use Rattle.lt_macros.specs.Expanded.{Declared}
use Rattle.lt_macros.specs.Expansion.{groups_variables, with_groups}
use Rattle.lt_macros.specs.Denotation.{Denotation, Numbers, ExpandedTrace, around_one, as_trace, behind_local, declared_as, first_of, in_groups, in_locals, trace_denotation}
use Rattle.lt_macros.specs.inner.Built.{in_all, numbered}
use Rattle.lt_macros.specs.inner.Numbers.{numbers_view}
use Rattle.lt_macros.specs.Tree.{declared, expanded}
use Rattle.lt_macros.specs.inner.Work.{groups_work, trace_work}
use Rattle.lt_macros.specs.declared.build.ExpandedTrace as code
use Rattle.lt_macros.specs.declared.tree.Declared.{Declared as Tree}
use Rattle.lt_macros.specs.declared.tree.Expanded.{Expanded as TraceTree}

-- a trace inside locals
abbrev around_all : ℕ → List Declared → ExpandedTrace → ExpandedTrace
around_all i ds inside = record { expanded = in_all i ds inside.expanded; after = inside.after }

-- the numbers behind these
abbrev behind_all : List Declared → Numbers → Numbers
behind_all ds n = record { term = n.term + length ds; local = n.local + length ds; counter = n.counter }

behind_none : (n : Numbers) → n ≡ behind_all [] n
behind_none n =
    let term : n.term ≡ n.term + 0 = omega arith in
    let local : n.local ≡ n.local + 0 = omega arith in
    λ i. record { term = term i; local = local i; counter = n.counter }

behind_one : (d : Declared) (ds : List Declared) (n : Numbers) → behind_all ds (behind_local n) ≡ behind_all (d ∷ ds) n
behind_one d ds n =
    let term : suc n.term + length ds ≡ n.term + suc (length ds) = omega arith in
    let local : suc n.local + length ds ≡ n.local + suc (length ds) = omega arith in
    λ i. record { term = term i; local = local i; counter = n.counter }

behind_both : (ds es : List Declared) (n : Numbers) → behind_all es (behind_all ds n) ≡ behind_all (ds ++ es) n
behind_both ds es n =
    let term : n.term + length ds + length es ≡ n.term + length (ds ++ es) = omega (arith, length-append ds es) in
    let local : n.local + length ds + length es ≡ n.local + length (ds ++ es) = omega (arith, length-append ds es) in
    λ i. record { term = term i; local = local i; counter = n.counter }

all-append : (i j : ℕ) (ds es : List Declared) (inside : x.Expanded) → j ≡ i + length ds → in_all i ds (in_all j es inside) ≡ in_all i (ds ++ es) inside
all-append i j [] es inside h = ap (λ k. in_all k es inside) (omega (arith, h))
all-append i j (d ∷ ds) es inside h = ap (x.exist i d) (all-append (suc i) j ds es inside (omega (arith, h)))

-- locals of these names
locals_are : (declares : Word → Declared) (ws : List Word) (env : Environment Denotation) (body : Environment Denotation → Numbers → ExpandedTrace) (n : Numbers)
    → in_locals declares ws env body n ≡ around_all n.local (map declares ws) (body (with_variables Local n.local ws env) (behind_all (map declares ws) n))
locals_are declares [] env body n = ap (body env) (behind_none n)
locals_are declares (w ∷ ws) env body n =
    ap (around_one (x.exist n.local (declares w))) (locals_are declares ws (with_name w.text (variable Local n.local) env) body (behind_local n))
    ∙ ap (λ m. around_all n.local (map declares (w ∷ ws)) (body (with_variables Local n.local (w ∷ ws) env) m)) (behind_one (declares w) (map declares ws) n)

-- locals of groups
groups_are : (gs : Groupings) (env : Environment Denotation) (body : Environment Denotation → Numbers → ExpandedTrace) (n : Numbers)
    → in_groups env gs body n ≡ around_all n.local (groups_variables Local n.local env gs) (body (with_groups Local n.local gs env) (behind_all (groups_variables Local n.local env gs) n))
groups_are s.no_groups env body n = ap (body env) (behind_none n)
groups_are (s.one_group (s.grouping ws type ref range first) gs) env body n =
    let declares : Word → Declared = declared_as Local env type range (first_of env first) in
    let ds : List Declared = map declares ws in
    let inner : Environment Denotation = with_variables Local n.local ws env in
    let names : ℕ = length (map (λ w. w.text) ws) in
    let count : n.local + length ds ≡ n.local + names = omega (arith, length-map ws declares, length-map ws (λ (w : Word). w.text)) in
    locals_are declares ws env (λ e. in_groups e gs body) n
    ∙ ap (around_all n.local ds) (groups_are gs inner body (behind_all ds n))
    ∙ ap (λ k. around_all n.local ds (around_all k (groups_variables Local k inner gs) (body (with_groups Local k gs inner) (behind_all (groups_variables Local k inner gs) (behind_all ds n))))) count
    ∙ (λ i. record {
      expanded = all-append n.local (n.local + names) ds (groups_variables Local (n.local + names) inner gs) (body (with_groups Local (n.local + names) gs inner) (behind_all (groups_variables Local (n.local + names) inner gs) (behind_all ds n))).expanded (sym count) i;
      after = (body (with_groups Local (n.local + names) gs inner) (behind_all (groups_variables Local (n.local + names) inner gs) (behind_all ds n))).after;
    })
    ∙ ap (λ m. around_all n.local (ds ++ groups_variables Local (n.local + names) inner gs) (body (with_groups Local (n.local + names) gs inner) m)) (behind_both ds (groups_variables Local (n.local + names) inner gs) n)

-- a trace with locals, as it is built
pub exist_built : (env inner : Environment Denotation) (gs : Groupings) (t : Trace) (n inside : Numbers) (items : List Tree) (next : ℕ) (tree : x.Expanded) (b : code.ExpandedTrace)
    → map declared items ≡ groups_variables Local n.local env gs → inner ≡ with_groups Local n.local gs env → next ≡ n.local + length items
    → inside ≡ record { term = n.term + (next - n.local); local = next; counter = n.counter } → numbered b ≡ as_trace (trace_denotation inner t) inside
    → tree ≡ in_all (next - length items) (map declared items) (expanded b.expanded.value)
    → record { expanded = tree; after = numbers_view b.after } ≡ in_groups env gs (λ e. as_trace (trace_denotation e t)) n
exist_built env inner gs t n inside items next tree b made shown counted is built whole =
    let ds : List Declared = groups_variables Local n.local env gs in
    let same : length items ≡ length ds = sym (length-map items declared) ∙ ap length made in
    let first : next - length items ≡ n.local = omega arith in
    let term : n.term + (next - n.local) ≡ n.term + length ds = omega arith in
    let local : next ≡ n.local + length ds = omega arith in
    (λ i. record { expanded = whole i; after = numbers_view b.after })
    ∙ (λ i. around_all (first i) (made i) (numbered b))
    ∙ ap (around_all n.local ds) built
    ∙ ap (λ m. around_all n.local ds (as_trace (trace_denotation inner t) m)) is
    ∙ (λ i. around_all n.local ds (as_trace (trace_denotation (shown i) t) (record { term = term i; local = local i; counter = n.counter })))
    ∙ sym (groups_are gs env (λ e. as_trace (trace_denotation e t)) n)

all-push : (i j : ℕ) (ds : List Declared) (d : Declared) (inside : x.Expanded) → j ≡ i + length ds → in_all i (ds ++ d ∷ []) inside ≡ in_all i ds (x.exist j d inside)
all-push i j [] d inside h = ap (λ k. x.exist k d inside) (omega (arith, h))
all-push i j (e ∷ ds) d inside h = ap (x.exist i e) (all-push (suc i) j ds d inside (omega (arith, h)))

-- the last local that is left is put around the trace
pub local_put : (number less : ℕ) (items left : List Tree) (local : Tree) (inside box : Box TraceTree Global) (all : x.Expanded) → items ≡ left ++ local ∷ [] → length items ≤ number → less + 1 ≡ number → expanded box.value ≡ x.exist less (declared local) (expanded inside.value)
    → in_all (number - length items) (map declared items) (expanded inside.value) ≡ all
    → in_all (less - length left) (map declared left) (expanded box.value) ≡ all
local_put number less items left local inside box all is few next boxed so_far =
    let count : length items ≡ length left + 1 = ap length is ∙ length-append left (local ∷ []) in
    let first : less - length left ≡ number - length items = omega arith in
    let here : less ≡ number - length items + length (map declared left) = omega (arith, length-map left declared) in
    (λ i. in_all (first i) (map declared left) (boxed i))
    ∙ sym (all-push (number - length items) less (map declared left) (declared local) (expanded inside.value) here)
    ∙ sym (ap (λ ds. in_all (number - length items) ds (expanded inside.value)) (ap (map declared) is ∙ map-append declared left (local ∷ [])))
    ∙ so_far

-- what is inside is less work
pub exist_less : (env inner : Environment ℕ) (gs : Groupings) (t : Trace) → ((body : Environment ℕ → ℕ) → body inner ≤ groups_work env gs body) → 5 * trace_work inner t + 4 < 5 * trace_work env (s.exist gs t)
exist_less env inner gs t work = let some = work (λ e. trace_work e t) in omega (arith, some)
