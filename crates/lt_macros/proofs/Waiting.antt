-- Parts of a node that are counted.
use Rattle.std.proofs.Common.{◌≡◌, ℕ, suc, ◌+◌, ◌<◌, ◌≤◌, Bool, true, false, ◌&&◌, nat_le, nat_eq, if◌then◌else◌, List, [], ◌∷◌, ◌++◌, length, length-append, drop, Option, None, Some, map, reverse, refl, ap, sym, subst, ◌∙◌, arith}
use Rattle.std.proofs.lemmas.List.{reverse-append, drop-append-le}
use Rattle.std.proofs.lemmas.Bool.{leb-true, leb-false, lt-leb}
use Rattle.lt_ast.specs.Syntax as s
use Rattle.lt_ast.specs.Syntax.{Trace}
use Rattle.std.specs.Borrow.{Bor}
use Rattle.lt_ast.specs.View.{trace as trace_view, word}
use Rattle.lt_ast.specs.inner.Lists.{alternatives_of, groups_of, traces_of}
use Rattle.lt_ast.specs.inner.Rows.{group_of, maybe_exp, part_of, weighed}
use Rattle.lt_ast.specs.declared.expr.Expr.{Expr}
use Rattle.lt_ast.specs.declared.trace.TraceExpr.{TraceExpr}
use Rattle.lt_ast.specs.declared.name.Name.{Name}
use Rattle.lt_ast.specs.declared.trace.Part.{Part}
use Rattle.lt_ast.proofs.Public.{alternatives_list, groups_list}
use Rattle.lt_macros.specs.Environment.{Environment, variable, with_name}
use Rattle.lt_macros.specs.Expanded.{Expanded}
use Rattle.lt_macros.specs.Nodes.{parts_count}
use Rattle.lt_macros.specs.Denotation.{Numbers, ExpandedTrace, Denotation, alternative_denotation, as_expression, as_trace, behind_local, behind_term, first_of, in_locals, parts_of, trace_denotation, traces_denotation, weight_of}
use Rattle.lt_macros.specs.inner.Counting.{AreWithin, IsLeftWithin, IsTallied, group_declares, groups_trace, left_then, locals_trace, parts_then, pending_figure, seen_then, denotation_at, trace_then}
use Rattle.lt_macros.specs.inner.Figures.{Figure, nodes, deep_terms, deep_expressions, wide_choices, locals, expanded_figure, expression_figure, expression_weight, first_figure, limit_by, local_weight, term_weight}
use Rattle.lt_macros.specs.inner.Seen.{Seen}
use Rattle.lt_macros.specs.inner.Tallies.{counted}
use Rattle.lt_formula.specs.Limits.{most_variables}
use Rattle.lt_macros.specs.Limits.{most_nodes}
use Rattle.lt_macros.specs.declared.tally.Tally.{Tally}
use Rattle.lt_macros.specs.declared.limit.Limit.TheVariants.{Nodes, Depth, Children, Variables}
use Rattle.lt_formula.specs.declared.role.Role.TheVariants as role
use Rattle.lt_macros.specs.inner.HeadNormalForm.{AddsTo, IsWithin, form_reads}
use Rattle.lt_macros.specs.inner.Phrase.{joined_by}
use Rattle.lt_macros.specs.declared.scope.Join.{Join}
use Rattle.lt_macros.specs.declared.scope.Join.TheVariants.{Seq, Pri, Par}
use Rattle.lt_macros.specs.declared.scope.Phrase.TheVariants as code_phrase
use Rattle.lt_macros.specs.declared.head_normal_form.HeadNormalForm.{HeadNormalForm}
use Rattle.lt_macros.specs.declared.head_normal_form.HeadNormalForm.TheVariants.{Meaningless, Variable, Previous, Number, Flag, Unary, Binary, If, Nothing, Joined, Loop, Choice, Raise, Assert, Exist, Catch, Try}
use Rattle.lt_macros.specs.inner.Reading.{environment, meant, phrase_view}
use Rattle.lt_macros.specs.declared.scope.Entry.{Entry}
use Rattle.lt_macros.specs.declared.counting.Locals.{Locals}
use Rattle.lt_macros.specs.declared.counting.Left.{Left}
use Rattle.lt_macros.specs.declared.counting.Left.TheVariants.{Trace as TraceLeft, Expression, Alternatives, Groups, Names}
use Rattle.lt_macros.specs.declared.counting.Pending.{Pending}
use Rattle.lt_macros.proofs.Adding.{adds_length, environment_kept}

-- the newest part comes first
pub turned : {A : Type 0} (ps : List A) (p : A) → reverse (ps ++ p ∷ []) ≡ p ∷ reverse ps
turned ps p = reverse-append ps (p ∷ [])

-- EXPRESSIONS

-- whether there are expressions in an expression
abbrev pub has_parts : HeadNormalForm → Bool
has_parts (Unary op e at k) = true
has_parts (Binary op d e at k) = true
has_parts (If c d e at k) = true
has_parts other = false

-- traces that are joined are no expression
joined_alone : (env : Environment Denotation) (g : Expanded → Expanded → Expanded) (f : Figure) (depth : ℕ) (t : Trace) (us : List TraceExpr) → 0 < length us
    → expression_figure f depth (as_expression (traces_denotation env g (s.one_trace t (traces_of (map trace_view us))))) ≡ expression_weight f depth
joined_alone env g f depth t [] h = absurd (omega (arith, h))
joined_alone env g f depth t (u ∷ us) h = refl

-- an expression without others in it is one node
pub alone_figure : (decimals : ℕ) (rows : List Entry) (f : Figure) (depth len : ℕ) (form : HeadNormalForm) → IsWithin len form → has_parts form ≡ false
    → expression_figure f depth (as_expression (form_reads (meant decimals) rows form)) ≡ expression_weight f depth
alone_figure decimals rows f depth len (Unary op e at k) w h = absurd (cc)
alone_figure decimals rows f depth len (Binary op d e at k) w h = absurd (cc)
alone_figure decimals rows f depth len (If c d e at k) w h = absurd (cc)
alone_figure decimals rows f depth len Meaningless w h = refl
alone_figure decimals rows f depth len (Variable role place at) w h = refl
alone_figure decimals rows f depth len (Previous role place at) w h = refl
alone_figure decimals rows f depth len (Number l) w h = refl
alone_figure decimals rows f depth len (Flag b at) w h = refl
alone_figure decimals rows f depth len Nothing w h = refl
alone_figure decimals rows f depth len (Joined j t ts k) w h = joined_alone (environment (meant decimals) rows k) (joined_by j) f depth (trace_view t.now) ts.now w.1
alone_figure decimals rows f depth len (Loop l t k) w h = refl
alone_figure decimals rows f depth len (Choice ps k) w h = refl
alone_figure decimals rows f depth len (Raise n k) w h = refl
alone_figure decimals rows f depth len (Assert e t k) w h = refl
alone_figure decimals rows f depth len (Exist gs t k) w h = refl
alone_figure decimals rows f depth len (Catch n t h' k) w h = refl
alone_figure decimals rows f depth len (Try t h' k) w h = refl

-- TRACES

-- as many alternatives stand in the tree as in the text
pub counted_parts : (env : Environment Denotation) (ps : List Part) (n : Numbers) → parts_count (parts_of env (alternatives_of (map part_of ps)) n).parts ≡ length ps
counted_parts env [] n = refl
counted_parts env (p ∷ ps) n = ap suc (counted_parts env ps (as_trace (alternative_denotation env (part_of p)) n).after)

-- the trace of an alternative, with a weight or without
weighed_denotation : (env : Environment Denotation) (weight : Option Expr) (body : TraceExpr) → alternative_denotation env (weighed weight body) ≡ trace_denotation env (trace_view body)
weighed_denotation env None body = refl
weighed_denotation env (Some e) body = refl

-- the first alternative, and then the others
pub alternative_read : (env : Environment Denotation) (f : Figure) (depth : ℕ) (all : List Part) (p : Part) (others : List Part) (rest : Numbers → ℕ) (n : Numbers) → all ≡ p ∷ others
    → parts_then f depth (parts_of env (alternatives_of (map part_of all)) n) rest
    ≡ expression_figure f 1 (weight_of env (weighed p.weight p.body)) + trace_then f depth (as_trace (trace_denotation env (trace_view p.body)) n) (λ m. parts_then f depth (parts_of env (alternatives_of (map part_of others)) m) rest)
alternative_read env f depth all p others rest n is =
    let weight = expression_figure f 1 (weight_of env (weighed p.weight p.body)) in
    let behind : Numbers → ℕ = λ m. parts_then f depth (parts_of env (alternatives_of (map part_of others)) m) rest in
    let first : ExpandedTrace = as_trace (alternative_denotation env (part_of p)) n in
    let split : parts_then f depth (parts_of env (alternatives_of (map part_of (p ∷ others))) n) rest ≡ weight + trace_then f depth first behind = omega arith in
    ap (λ ps. parts_then f depth (parts_of env (alternatives_of (map part_of ps)) n) rest) is ∙ split ∙ ap (λ denotation. weight + trace_then f depth (as_trace denotation n) behind) (weighed_denotation env p.weight p.body)

-- how two traces are joined doesn't matter
joined_figure : (j : Join) (f : Figure) (depth : ℕ) (x y : Expanded) → expanded_figure f depth (joined_by j x y) ≡ term_weight f depth + (expanded_figure f (depth + 1) x + expanded_figure f (depth + 1) y)
joined_figure Seq f depth x y = refl
joined_figure Pri f depth x y = refl
joined_figure Par f depth x y = refl

-- a trace that is joined with others
joined_some : (env : Environment Denotation) (j : Join) (f : Figure) (depth : ℕ) (t : Trace) (us : List TraceExpr) (rest : Numbers → ℕ) (n : Numbers) → 0 < length us
    → trace_then f depth (as_trace (traces_denotation env (joined_by j) (s.one_trace t (traces_of (map trace_view us)))) n) rest
    ≡ term_weight f depth + trace_then f (depth + 1) (as_trace (trace_denotation env t) (behind_term n)) (λ m. trace_then f (depth + 1) (as_trace (traces_denotation env (joined_by j) (traces_of (map trace_view us))) m) rest)
joined_some env j f depth t [] rest n h = absurd (omega (arith, h))
joined_some env j f depth t (u ∷ us) rest n h =
    let first : ExpandedTrace = as_trace (trace_denotation env t) (behind_term n) in
    let second : ExpandedTrace = as_trace (traces_denotation env (joined_by j) (traces_of (map trace_view (u ∷ us)))) first.after in
    omega (arith, joined_figure j f depth first.expanded second.expanded)

pub joined_read : (decimals : ℕ) (rows : List Entry) (f : Figure) (depth len : ℕ) (j : Join) (t : Bor TraceExpr) (ts : Bor (List TraceExpr)) (k : ℕ) (form : HeadNormalForm) (rest : Numbers → ℕ) (n : Numbers) → form ≡ Joined j t ts k → IsWithin len form
    → trace_then f depth (as_trace (form_reads (meant decimals) rows form) n) rest
    ≡ term_weight f depth + trace_then f (depth + 1) (as_trace (denotation_at decimals rows k (code_phrase.Trace t)) (behind_term n)) (λ m. trace_then f (depth + 1) (as_trace (denotation_at decimals rows k (code_phrase.Joined j ts)) m) rest)
joined_read decimals rows f depth len j t ts k form rest n is w =
    ap (λ h. trace_then f depth (as_trace (form_reads (meant decimals) rows h) n) rest) is
    ∙ joined_some (environment (meant decimals) rows k) j f depth (trace_view t.now) ts.now rest n (subst (IsWithin len) is w).1

-- the lists of a tree are those that the code has
pub ruleset reads = (alternatives_list, groups_list)

-- WHAT IS LEFT

-- so many entries are enough where fewer are
pub left_more : (least more : ℕ) (left : Left) → least ≤ more → IsLeftWithin least left → IsLeftWithin more left
left_more least more (Names l) h w = omega (arith, h, w)
left_more least more (TraceLeft phrase) h w = tt
left_more least more (Expression phrase) h w = tt
left_more least more (Alternatives ps) h w = tt
left_more least more (Groups gs body) h w = tt

pub within_more : (least count more : ℕ) (ps : List Pending) → count ≤ more → AreWithin least count ps → AreWithin least more ps
within_more least count more [] h w = omega (arith, h, w)
within_more least count more (p ∷ ps) h w = (w.0, (w.1.0, (omega (arith, h, w.1.1.0), w.1.1.1)))

-- there were at least so many
pub within_least : (least count : ℕ) (ps : List Pending) → AreWithin least count ps → least ≤ count
within_least least count [] w = w
within_least least count (p ∷ ps) w = omega (arith, w.1.1.0, within_least least p.at.len ps w.1.1.1)

-- what keeps so many entries keeps fewer
pub within_lower : (least lower count : ℕ) (ps : List Pending) → lower ≤ least → AreWithin least count ps → AreWithin lower count ps
within_lower least lower count [] h w = omega (arith, h, w)
within_lower least lower count (p ∷ ps) h w = (w.0, (w.1.0, (w.1.1.0, within_lower least lower p.at.len ps h w.1.1.1)))

-- as many entries are enough as a part needs, and as those behind it need
pub part_within : (least own others len : ℕ) (p : Pending) (ps : List Pending) → own ≤ len → others ≤ len → p.at.environment ≤ own → IsLeftWithin own p.left → AreWithin least others ps → AreWithin least len (record p { at = record p.at { len = len } } ∷ ps)
part_within least own others len p ps o b e l w = (omega (arith, o, e), (left_more own len p.left o l, (omega arith, within_more least others len ps b w)))

-- more entries leave what is left as it is
pub left_kept : (decimals : ℕ) (old new : List Entry) (f : Figure) (k depth : ℕ) (left : Left) (before behind : Numbers → ℕ) (n : Numbers) → AddsTo old new → k ≤ length old → IsLeftWithin (length old) left → ((m : Numbers) → behind m ≡ before m)
    → left_then decimals new f k depth left behind n ≡ left_then decimals old f k depth left before n
left_kept decimals old new f k depth (TraceLeft phrase) before behind n a h w same =
    λ i. trace_then f depth (as_trace ((meant decimals).phrase (environment_kept (meant decimals) old new k a h i) (phrase_view phrase)) n) (λ m. same m i)
left_kept decimals old new f k depth (Expression phrase) before behind n a h w same =
    λ i. expression_figure f depth (as_expression ((meant decimals).phrase (environment_kept (meant decimals) old new k a h i) (phrase_view phrase))) + same n i
left_kept decimals old new f k depth (Alternatives ps) before behind n a h w same =
    λ i. parts_then f depth (parts_of (environment_kept (meant decimals) old new k a h i) (alternatives_of (map part_of ps.now)) n) (λ m. same m i)
left_kept decimals old new f k depth (Groups gs body) before behind n a h w same =
    λ i. trace_then f depth (groups_trace (groups_of (map group_of gs.now)) (trace_view body.now) (environment_kept (meant decimals) old new k a h i) n) (λ m. same m i)
left_kept decimals old new f k depth (Names l) before behind n a h w same =
    λ i. trace_then f depth (locals_trace l (environment_kept (meant decimals) old new l.outer a w i) (environment_kept (meant decimals) old new k a h i) n) (λ m. same m i)

pub pending_kept : (decimals : ℕ) (old new : List Entry) (f : Figure) (least : ℕ) (ps : List Pending) (n : Numbers) → AddsTo old new → AreWithin least (length old) ps → pending_figure decimals new f ps n ≡ pending_figure decimals old f ps n
pending_kept decimals old new f least [] n a w = refl
pending_kept decimals old new f least (p ∷ ps) n a w =
    left_kept decimals old new f p.at.environment p.at.depth p.left (pending_figure decimals old f ps) (pending_figure decimals new f ps) n a (omega (arith, w.0, w.1.1.0)) (left_more p.at.len (length old) p.left w.1.1.0 w.1.0)
    (λ m. pending_kept decimals old new f least ps m a (within_more least p.at.len (length old) ps w.1.1.0 w.1.1.1))

-- the newest part comes first, so what is known of it is known of the one that is taken
pub popped : (least all : ℕ) (items rest : List Pending) (p : Pending) → items ≡ rest ++ p ∷ [] → AreWithin least all (reverse items) → AreWithin least all (p ∷ reverse rest)
popped least all items rest p is w = subst (AreWithin least all) (ap reverse is ∙ turned rest p) w

-- what is met, and what is left behind it, where entries are added
pub seen_kept : (decimals : ℕ) (old new : List Entry) (f : Figure) (depth : ℕ) {s t : Seen} (ps : List Pending) (n : Numbers) → s ≡ t → AddsTo old new → AreWithin 0 (length old) ps
    → seen_then f depth s (pending_figure decimals new f ps) n ≡ seen_then f depth t (pending_figure decimals old f ps) n
seen_kept decimals old new f depth ps n is a w = λ i. seen_then f depth (is i) (λ m. pending_kept decimals old new f 0 ps m a w i) n

-- what is put on the list is within what there is then
pub put_within : (least len : ℕ) (old new : List Entry) (before behind : List Pending) → AddsTo old new → len ≡ length new → ((lowest : ℕ) → AreWithin lowest len before → AreWithin lowest len behind) → AreWithin least (length old) before
    → AreWithin least (length new) behind
put_within least len old new before behind a is put w =
    subst (λ k. AreWithin least k behind) is (put least (within_more least (length old) len before (omega (arith, adds_length old new a, is)) w))

-- a local, whose name is made visible
pub name_read : (decimals : ℕ) (old new : List Entry) (f : Figure) (depth k inner : ℕ) (l : Locals) (name : Name) (names : Bor (List Name)) (ps : List Pending) (n : Numbers) → AddsTo old new → l.names.now ≡ name ∷ names.now → l.outer ≤ length old
    → AreWithin 0 (length old) ps → environment (meant decimals) new inner ≡ with_name (word name).text (variable role.Local n.local) (environment (meant decimals) old k)
    → term_weight f depth + (local_weight f + (first_figure f (first_of (environment (meant decimals) new l.outer) (maybe_exp l.group.now.first)) + left_then decimals new f inner (depth + 1) (Names (record l { names = names })) (pending_figure decimals new f ps) (behind_local n)))
    ≡ left_then decimals old f k depth (Names l) (pending_figure decimals old f ps) n
name_read decimals old new f depth k inner l name names ps n a is w ws made =
    let outer = environment_kept (meant decimals) old new l.outer a w in
    let env : Environment Denotation = environment (meant decimals) old k in
    let rest : Numbers → ℕ = pending_figure decimals old f ps in
    let others : ExpandedTrace = locals_trace (record l { names = names }) (environment (meant decimals) old l.outer) (with_name (word name).text (variable role.Local n.local) env) (behind_local n) in
    let split : term_weight f depth + (local_weight f + (first_figure f (first_of (environment (meant decimals) old l.outer) (maybe_exp l.group.now.first)) + trace_then f (depth + 1) others rest))
    ≡ trace_then f depth (in_locals (group_declares (environment (meant decimals) old l.outer) l.group.now) (map word (name ∷ names.now)) env (groups_trace (groups_of (map group_of l.groups.now)) (trace_view l.body.now)) n) rest = omega arith in
    (λ i. term_weight f depth + (local_weight f + (first_figure f (first_of (outer i) (maybe_exp l.group.now.first)) + trace_then f (depth + 1) (locals_trace (record l { names = names }) (outer i) (made i) (behind_local n)) (λ m. pending_kept decimals old new f 0 ps m a ws i))))
    ∙ split
    ∙ ap (λ ws. trace_then f depth (in_locals (group_declares (environment (meant decimals) old l.outer) l.group.now) (map word ws) env (groups_trace (groups_of (map group_of l.groups.now)) (trace_view l.body.now)) n) rest) (sym is)

-- what is taken back to a length is added to what there was at first
pub cut_adds : (base rows cut : List Entry) → AddsTo base rows → AddsTo cut rows → length base ≤ length cut → AddsTo base cut
cut_adds base rows cut b c h =
    let k : ℕ = length c.newer in
    let few : k ≤ length b.newer = omega (arith, ap length b.is, ap length c.is, length-append b.newer base, length-append c.newer cut) in
    record {
      newer = drop k b.newer;
      is = sym (drop_front c.newer cut) ∙ ap (drop k) (sym c.is ∙ b.is) ∙ drop-append-le k b.newer base few;
    }
  where
    drop_front : (xs ys : List Entry) → drop (length xs) (xs ++ ys) ≡ ys
    drop_front [] ys = refl
    drop_front (x ∷ xs) ys = drop_front xs ys

-- the first limit is that of the figures that there are
pub tallied_limit : (t : Tally) (figure : Figure → ℕ) (inputs outputs : ℕ) → IsTallied t figure → limit_by (counted t) inputs outputs ≡ limit_by figure inputs outputs
tallied_limit t figure inputs outputs h = by (nat_le t.nodes most_nodes) refl
  where
    by : (b : Bool) → nat_le t.nodes most_nodes ≡ b → limit_by (counted t) inputs outputs ≡ limit_by figure inputs outputs
    by true is = λ i. limit_by (λ f. h.0 (leb-true t.nodes most_nodes is) f i) inputs outputs
    by false is =
        let past : nat_le (figure nodes) most_nodes ≡ false = lt-leb (figure nodes) most_nodes (h.1 (leb-false t.nodes most_nodes is)) in
        let rest = λ (g : Figure → ℕ). if nat_eq (g deep_terms) 0 && nat_eq (g deep_expressions) 0 then (if nat_eq (g wide_choices) 0 then (if nat_le inputs most_variables && nat_le (outputs + g locals) most_variables then None else Some Variables) else Some Children) else Some Depth in
        ap (λ b. if b then rest (counted t) else Some Nodes) is ∙ sym (ap (λ b. if b then rest figure else Some Nodes) past)
