-- Traces that are built of their parts.
use Rattle.std.proofs.Common.{◌≡◌, ℕ, suc, ◌+◌, ◌<◌, ◌≤◌, List, [], ◌∷◌, ◌++◌, Option, None, Some, Result, IfOk, Vec, Global, length, map, drop, get_or, refl, ap, sym, ◌∙◌, arith, drop-cons}
use Rattle.std.proofs.lemmas.List.{drop_all}
use Rattle.std.proofs.lemmas.Result.{IfOk-weaker}
use Rattle.std.specs.Borrow.{Bor}
use Rattle.std.specs.declared.boxed.Box.{Box}
use mathlib.Core.Former.{Count}
use denote.Hole.Carrier.{out}
use Rattle.lt_ast.specs.Syntax as s
use Rattle.lt_ast.specs.Syntax.{Exp, Limits, Trace}
use Rattle.lt_ast.specs.View.{trace as trace_view, word}
use Rattle.lt_ast.specs.inner.Lists.{alternatives_of, traces_of}
use Rattle.lt_ast.specs.inner.Rows.{maybe_trace, part_of, weighed}
use Rattle.lt_ast.specs.declared.expr.Expr.{Expr}
use Rattle.lt_ast.specs.declared.name.Name.{Name}
use Rattle.lt_ast.specs.declared.trace.Part.{Part as Alternative}
use Rattle.lt_ast.specs.declared.trace.TraceExpr.{TraceExpr}
use Rattle.lt_formula.specs.declared.memory.Memory.{Memory}
use Rattle.lt_macros.specs.Environment.{Environment, found_exception}
use Rattle.lt_macros.specs.Expanded as x
use Rattle.lt_macros.specs.Denotation.{Denotation, Numbers, ExpandedTrace, ExpandedParts, alone, alternative_denotation, around_one, around_two, as_trace, as_expression, before_parts, behind_term, bounds_of, caught_as, exp_denotation, handler_denotation, parts_of, raised_as, repeated, trace_denotation, traces_denotation, weight_of}
use Rattle.lt_macros.specs.inner.Builder.{IsKept, names_at, trace_at, value_at}
use Rattle.lt_macros.specs.inner.Built.{AreBuilt, behind_turns, in_two, items_onto, looped, numbered, parts_onto}
use Rattle.lt_macros.specs.inner.HeadNormalForm.{form_reads}
use Rattle.lt_macros.specs.inner.Phrase.{Phrase, phrase_denotation}
use Rattle.lt_macros.specs.inner.Reading.{environment, meant, raised_by}
use Rattle.lt_macros.specs.inner.Numbers.{numbers_view}
use Rattle.lt_macros.specs.Tree.{expanded, part_row, parts, placed}
use Rattle.lt_macros.specs.inner.Work.{alternative_work, alternatives_work, trace_work, traces_work}
use Rattle.lt_macros.specs.declared.builder.Builder.{Builder}
use Rattle.lt_macros.specs.declared.build.ExpandedTrace as code
use Rattle.lt_macros.specs.declared.build.TwoTraces.{TwoTraces}
use Rattle.lt_macros.specs.declared.head_normal_form.HeadNormalForm.{HeadNormalForm}
use Rattle.lt_macros.specs.declared.head_normal_form.HeadNormalForm.TheVariants.{Raise, Catch}
use Rattle.lt_macros.specs.declared.scope.Declared.{Declared as Raised}
use Rattle.lt_macros.specs.declared.scope.Entry.{Entry}
use Rattle.lt_macros.specs.declared.tree.Expanded.{Expanded as Tree}
use Rattle.lt_macros.specs.declared.tree.Part.{Part}
use Rattle.lt_macros.specs.declared.tree.Parts.{Parts, Parts', Row_of-Part, end_of-Part, more_of-Part, items-the_row-Part, items_shown-the_row-Part-0, out-Parts, out-roll-Parts, roll-Parts}
use Rattle.lt_macros.specs.declared.tree.Expanded.TheBlock.{shown-the_row-Part-0}
use Rattle.lt_macros.specs.declared.tree.Placed.{Placed as Expression}
use Rattle.lt_macros.proofs.Building.{names_kept}

-- a trace of a phrase, where the builder is kept, and the numbers are others that are the same
pub built_where : (old now : Builder) (k : ℕ) (q : Phrase) (n m : Numbers) (b : ExpandedTrace) → IsKept old now → m ≡ n → b ≡ as_trace (phrase_denotation (names_at now k) q) m → b ≡ as_trace (phrase_denotation (names_at old k) q) n
built_where old now k q n m b kept is h = h ∙ (λ i. as_trace (phrase_denotation (names_kept old now k kept i) q) (is i))

-- two traces
pub two_built : (old now : Builder) (k : ℕ) (p q : Phrase) (n m : Numbers) (before behind : code.ExpandedTrace) (t : TwoTraces) → IsKept old now → m ≡ behind_term n
    → t.first ≡ before.expanded → t.second ≡ behind.expanded → t.after ≡ behind.after
    → numbered before ≡ as_trace (phrase_denotation (names_at old k) p) m
    → numbered behind ≡ as_trace (phrase_denotation (names_at now k) q) (numbers_view before.after)
    → AreBuilt t (as_trace (phrase_denotation (names_at old k) p) (behind_term n)) (as_trace (phrase_denotation (names_at old k) q))
two_built old now k p q n m before behind t kept is v w a h g =
    let env = names_at old k in
    let first : numbered before ≡ as_trace (phrase_denotation env p) (behind_term n) = h ∙ ap (as_trace (phrase_denotation env p)) is in
    let second : numbered behind ≡ as_trace (phrase_denotation env q) (as_trace (phrase_denotation env p) (behind_term n)).after =
    built_where old now k q (numbers_view before.after) (numbers_view before.after) (numbered behind) kept refl g ∙ (λ i. as_trace (phrase_denotation env q) (first i).after) in
    record {
      first_is = ap (λ (b : Box Tree Global). expanded b.value) v ∙ (λ i. (first i).expanded);
      second_is = ap (λ (b : Box Tree Global). expanded b.value) w ∙ (λ i. (second i).expanded);
      after_is = ap numbers_view a ∙ (λ i. (second i).after);
    }

-- two traces in one
pub joined_built : (f : x.Expanded → x.Expanded → x.Expanded) (t : TwoTraces) (first : ExpandedTrace) (second : Numbers → ExpandedTrace) → AreBuilt t first second → in_two f t ≡ around_two f first second
joined_built f t first second h = λ i. record { expanded = f (h.first_is i) (h.second_is i); after = h.after_is i }

-- an exception that is raised
pub raise_built : (d : ℕ) (rows : List Entry) (h : HeadNormalForm) (name : Bor Name) (k : ℕ) (n : Numbers) (found : Option Raised) (text : List ℕ) (r : Result code.ExpandedTrace Memory) → h ≡ Raise name k → text ≡ (word name.now).text
    → found_exception (environment (meant d) rows k).exceptions text ≡ raised_by (meant d) found
    → IfOk r (λ b. (decimals : ℕ) → numbered b ≡ alone (raised_as (raised_by (meant decimals) found)) n) → IfOk r (λ b. numbered b ≡ as_trace (form_reads (meant d) rows h) n)
raise_built d rows h name k n found text r is text_is found_is done =
    let read : alone (raised_as (raised_by (meant d) found)) n ≡ as_trace (form_reads (meant d) rows h) n =
    ap (λ t. alone t n) (ap raised_as (sym found_is ∙ ap (found_exception (environment (meant d) rows k).exceptions) text_is))
    ∙ ap (λ (g : HeadNormalForm). as_trace (form_reads (meant d) rows g) n) (sym is)
    in
    IfOk-weaker r (λ b. (decimals : ℕ) → numbered b ≡ alone (raised_as (raised_by (meant decimals) found)) n) (λ b. numbered b ≡ as_trace (form_reads (meant d) rows h) n) (λ b same. same d ∙ read) done

-- an exception that is caught
pub catch_built : (d : ℕ) (old now : List Entry) (h : HeadNormalForm) (name : Bor Name) (t : Bor TraceExpr) (handler : Bor (Option (Box TraceExpr Global))) (k : ℕ) (n : Numbers) (found : Option Raised) (text : List ℕ) (two : TwoTraces) (r : Result code.ExpandedTrace Memory)
    → h ≡ Catch name t handler k → text ≡ (word name.now).text → now ≡ old → found_exception (environment (meant d) now k).exceptions text ≡ raised_by (meant d) found
    → AreBuilt two (as_trace (trace_denotation (environment (meant d) old k) (trace_view t.now)) (behind_term n)) (as_trace (handler_denotation (environment (meant d) old k) (maybe_trace handler.now)))
    → IfOk r (λ b. (decimals : ℕ) → numbered b ≡ in_two (caught_as (raised_by (meant decimals) found)) two) → IfOk r (λ b. numbered b ≡ as_trace (form_reads (meant d) old h) n)
catch_built d old now h name t handler k n found text two r is text_is same found_is built done =
    let env = environment (meant d) old k in
    let catching = caught_as (found_exception env.exceptions (word name.now).text) in
    let named : raised_by (meant d) found ≡ found_exception env.exceptions (word name.now).text = sym found_is ∙ (λ i. found_exception (environment (meant d) (same i) k).exceptions (text_is i)) in
    let read : in_two (caught_as (raised_by (meant d) found)) two ≡ as_trace (form_reads (meant d) old h) n =
    ap (λ raised. in_two (caught_as raised) two) named
    ∙ joined_built catching two (as_trace (trace_denotation env (trace_view t.now)) (behind_term n)) (as_trace (handler_denotation env (maybe_trace handler.now))) built
    ∙ ap (λ (g : HeadNormalForm). as_trace (form_reads (meant d) old g) n) (sym is)
    in
    IfOk-weaker r (λ b. (decimals : ℕ) → numbered b ≡ in_two (caught_as (raised_by (meant decimals) found)) two) (λ b. numbered b ≡ as_trace (form_reads (meant d) old h) n) (λ b same. same d ∙ read) done

-- a trace with a constraint that holds
pub assert_built : (old now : Builder) (k : ℕ) (e : Exp) (t : Trace) (n m : Numbers) (constraint : Expression) (inner : code.ExpandedTrace) → IsKept old now → m ≡ behind_term n
    → placed constraint ≡ value_at now k e → numbered inner ≡ trace_at old k t m
    → record { expanded = x.assert (placed constraint) (expanded inner.expanded.value); after = numbers_view inner.after } ≡ trace_at old k (s.assert e t) n
assert_built old now k e t n m constraint inner kept is made h =
    let env = names_at old k in
    let holds : placed constraint ≡ as_expression (exp_denotation env e) = made ∙ ap (λ names. as_expression (exp_denotation names e)) (names_kept old now k kept) in
    let inside : numbered inner ≡ as_trace (trace_denotation env t) (behind_term n) = h ∙ ap (as_trace (trace_denotation env t)) is in
    (λ i. record { expanded = x.assert (holds i) (expanded inner.expanded.value); after = numbers_view inner.after }) ∙ ap (around_one (x.assert (as_expression (exp_denotation env e)))) inside

-- a loop, whose counter has this number where it has one
loops : (env : Environment Denotation) (l : Limits) (body : Numbers → ExpandedTrace) (n : Numbers) → around_one (looped (bounds_of env l) n.counter) (body (behind_turns l n)) ≡ repeated (bounds_of env l) body n
loops env s.forever body n = refl
loops env (s.between d e) body n = refl
loops env (s.around d e) body n = refl

pub loop_built : (old now : Builder) (k : ℕ) (l : Limits) (t : Trace) (n m : Numbers) (turns : Option x.Bounds) (turn : code.ExpandedTrace) → IsKept old now → m ≡ behind_turns l n
    → turns ≡ bounds_of (names_at now k) l → numbered turn ≡ trace_at old k t m
    → record { expanded = looped turns n.counter (expanded turn.expanded.value); after = numbers_view turn.after } ≡ trace_at old k (s.loop l t) n
loop_built old now k l t n m turns turn kept is bounds h =
    let env = names_at old k in
    let body : Numbers → ExpandedTrace = as_trace (trace_denotation env t) in
    let bounds' : turns ≡ bounds_of env l = bounds ∙ ap (λ names. bounds_of names l) (names_kept old now k kept) in
    let inside : numbered turn ≡ body (behind_turns l n) = h ∙ ap body is in
    (λ i. record { expanded = looped (bounds' i) n.counter (expanded turn.expanded.value); after = numbers_view turn.after }) ∙ ap (around_one (looped (bounds_of env l) n.counter)) inside ∙ loops env l body n

-- alternatives behind others
items_onto-append : (items more : List Part) (rest : x.Parts) → items_onto (items ++ more) rest ≡ items_onto items (items_onto more rest)
items_onto-append [] more rest = refl
items_onto-append (q ∷ items) more rest = ap (x.part (placed q.weight) (expanded q.body.value)) (items_onto-append items more rest)

alternative_is : (env : Environment Denotation) (o : Option Expr) (t : TraceExpr) → trace_denotation env (trace_view t) ≡ alternative_denotation env (weighed o t)
alternative_is env None t = refl
alternative_is env (Some e) t = refl

alternative_more : (env : Environment ℕ) (o : Option Expr) (t : TraceExpr) → trace_work env (trace_view t) ≤ alternative_work env (weighed o t)
alternative_more env None t = omega arith
alternative_more env (Some e) t = omega arith

-- the alternatives from one on are that one, and those behind it
pub parts_from : (written : List Alternative) (place : ℕ) (a : Alternative) → place < length written → a ≡ get_or written place a
    → alternatives_of (map part_of (drop place written)) ≡ s.alternative (part_of a) (alternatives_of (map part_of (drop (place + 1) written)))
parts_from written place a h is =
    let next : suc place ≡ place + 1 = omega arith in
    ap (λ as'. alternatives_of (map part_of as')) (drop-cons written place a h ∙ (λ i. sym is i ∷ drop (next i) written))

-- one more alternative is built
pub part_built : (env : Environment Denotation) (written : List Alternative) (place : ℕ) (a : Alternative) (items more : List Part) (w : Expression) (b : code.ExpandedTrace) (n : Numbers) (all : ExpandedParts) → place < length written → a ≡ get_or written place a
    → more ≡ items ++ record { weight = w; body = b.expanded } ∷ [] → placed w ≡ weight_of env (part_of a) → numbered b ≡ as_trace (trace_denotation env (trace_view a.body)) n
    → parts_onto items (parts_of env (alternatives_of (map part_of (drop place written))) n) ≡ all
    → parts_onto more (parts_of env (alternatives_of (map part_of (drop (place + 1) written))) (numbers_view b.after)) ≡ all
part_built env written place a items more w b n all h is pushed weight body so_far =
    let rest = alternatives_of (map part_of (drop (place + 1) written)) in
    let left : ExpandedParts = parts_of env rest (numbers_view b.after) in
    (λ i. record { parts = items_onto (pushed i) left.parts; after = left.after })
    ∙ (λ i. record { parts = items_onto-append items (record { weight = w; body = b.expanded } ∷ []) left.parts i; after = left.after })
    ∙ (λ i. parts_onto items (before_parts (weight i) (body i) (parts_of env rest)))
    ∙ ap (λ denotation. parts_onto items (before_parts (weight_of env (part_of a)) (as_trace denotation n) (parts_of env rest))) (alternative_is env a.weight a.body)
    ∙ sym (ap (λ ps. parts_onto items (parts_of env ps n)) (parts_from written place a h is))
    ∙ so_far

-- which is some of the work
pub part_worked : (env : Environment ℕ) (written : List Alternative) (place : ℕ) (a : Alternative) (all : ℕ) → place < length written → a ≡ get_or written place a
    → alternatives_work env (alternatives_of (map part_of (drop place written))) ≤ all
    → (trace_work env (trace_view a.body) < all) × (alternatives_work env (alternatives_of (map part_of (drop (place + 1) written))) ≤ all)
part_worked env written place a all h is so_far =
    let from = ap (alternatives_work env) (parts_from written place a h is) in
    let some = alternative_more env a.weight a.body in
    (omega (arith, from, some, so_far), omega (arith, from, so_far))

-- the alternatives that the code has are those of the tree
part_row-list : {m : Count} (row : Row_of-Part m) → part_row row ≡ items_onto (items-the_row-Part m row) x.no_part
part_row-list end_of-Part = refl
part_row-list (more_of-Part w p a rest) = ap (x.part (placed w) (expanded a)) (part_row-list rest)

pub parts_list : (ps : Parts) → parts ps ≡ items_onto (out-Parts ps).items.items x.no_part
unfolding out-Parts out shown-the_row-Part-0
parts_list (Parts' shape row) = part_row-list row ∙ ap (λ items. items_onto items x.no_part) (sym (items_shown-the_row-Part-0 shape row))

-- at the end all alternatives are built
pub parts_whole : (env : Environment Denotation) (written : List Alternative) (place : ℕ) (items : Vec Part Global) (n : Numbers) (all : ExpandedParts) → length written ≤ place
    → parts_onto items.items (parts_of env (alternatives_of (map part_of (drop place written))) n) ≡ all
    → record { parts = parts (roll-Parts (record { items = items })); after = n } ≡ all
parts_whole env written place items n all h so_far =
    let whole : parts (roll-Parts (record { items = items })) ≡ items_onto items.items x.no_part = parts_list (roll-Parts (record { items = items })) ∙ ap (λ r. items_onto r.items.items x.no_part) (out-roll-Parts (record { items = items })) in
    (λ i. record { parts = whole i; after = n })
    ∙ sym (ap (λ as'. parts_onto items.items (parts_of env (alternatives_of (map part_of as')) n)) (drop_all place written h))
    ∙ so_far

-- traces that are joined are nothing where there are none
pub joined_none : (env : Environment Denotation) (f : x.Expanded → x.Expanded → x.Expanded) (ts : List TraceExpr) (n : Numbers) → ts ≡ [] → alone x.eps n ≡ as_trace (traces_denotation env f (traces_of (map trace_view ts))) n
joined_none env f ts n is = ap (λ us. as_trace (traces_denotation env f (traces_of (map trace_view us))) n) (sym is)

-- one is that trace
pub joined_one : (env : Environment Denotation) (f : x.Expanded → x.Expanded → x.Expanded) (ts : List TraceExpr) (t : TraceExpr) (rest : List TraceExpr) (n : Numbers) → ts ≡ t ∷ rest → length rest ≡ 0 → as_trace (trace_denotation env (trace_view t)) n ≡ as_trace (traces_denotation env f (traces_of (map trace_view ts))) n
joined_one env f ts t [] n is none = ap (λ us. as_trace (traces_denotation env f (traces_of (map trace_view us))) n) (sym is)
joined_one env f ts t (u ∷ rest) n is none = absurd (omega (arith, none))

-- more are the first and those behind it
pub joined_more : (env : Environment Denotation) (f : x.Expanded → x.Expanded → x.Expanded) (ts : List TraceExpr) (t : TraceExpr) (rest : List TraceExpr) (n : Numbers) → ts ≡ t ∷ rest
    → as_trace (traces_denotation env f (s.one_trace (trace_view t) (traces_of (map trace_view rest)))) n ≡ as_trace (traces_denotation env f (traces_of (map trace_view ts))) n
joined_more env f ts t rest n is = ap (λ us. as_trace (traces_denotation env f (traces_of (map trace_view us))) n) (sym is)

-- the work of the first and of those behind it
pub joined_worked : (env : Environment ℕ) (ts : List TraceExpr) (t : TraceExpr) (rest : List TraceExpr) → ts ≡ t ∷ rest → traces_work env (traces_of (map trace_view ts)) ≡ suc (trace_work env (trace_view t) + traces_work env (traces_of (map trace_view rest)))
joined_worked env ts t rest is = ap (λ us. traces_work env (traces_of (map trace_view us))) is
