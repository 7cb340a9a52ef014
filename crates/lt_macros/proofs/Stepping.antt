-- Steps from phrases towards their head normal forms.
use Rattle.std.proofs.Common.{◌≡◌, ◌≤◌, ◌<◌, ℕ, suc, Bool, true, false, List, [], ◌∷◌, Option, None, Some, Result, Ok, Err, IfOk, length, map, refl, ap, sym, subst, ◌∙◌, arith}
use Rattle.std.proofs.lemmas.List.{length-map}
use Rattle.lt_ast.specs.Syntax as s
use Rattle.lt_ast.specs.Syntax.{Argument, Macro, Trace, Traces, Word}
use Rattle.lt_ast.specs.View.{macro as macro_view, trace as trace_view, word}
use Rattle.lt_ast.specs.declared.name.Name.{Name}
use Rattle.lt_ast.specs.declared.span.Span.{Span}
use Rattle.lt_ast.specs.declared.trace.TraceExpr.{TraceExpr}
use Rattle.lt_ast.specs.declared.trace.MacroDecl.{MacroDecl}
use Rattle.lt_ast.specs.inner.Lists.{traces_of}
use Rattle.lt_formula.specs.declared.memory.Memory.{Memory}
use Rattle.lt_macros.specs.Environment.{Environment, found}
use Rattle.lt_macros.specs.Expanded.{Expanded}
use Rattle.lt_macros.specs.Placed as p
use Rattle.lt_macros.specs.Placed.{Placed, meaningless}
use Rattle.lt_macros.specs.Denotation.{Denotation, expression, trace, as_expression, argument_denotation, before, macro_denotation, standing_for, trace_denotation, traces_denotation}
use Rattle.lt_macros.specs.inner.Handing.{IsHandedOn, IsUsed, covered, binding_at, newest_at}
use Rattle.lt_macros.specs.inner.HeadNormalForm.{IsWithin, form_reads}
use Rattle.lt_macros.specs.inner.Inside.{IsInside}
use Rattle.lt_macros.specs.inner.Leads.{with_macro}
use Rattle.lt_macros.specs.inner.Shape.{Shows}
use Rattle.lt_macros.specs.inner.Phrase as pure
use Rattle.lt_macros.specs.inner.Phrase.{Phrase, argument_phrase, joined_by, phrase_denotation}
use Rattle.lt_macros.specs.inner.Reading.{IsNewest, Reading, added, environment, meant, newest, phrase_view, worked}
use Rattle.lt_macros.specs.inner.Seen.{Seen, a_trace, an_expression, seen}
use Rattle.lt_macros.specs.inner.Steps.{IsFitting, IsLess, StepIsWithin, StepsTo, before_of, fits, is_expression, is_hidden, phrase_meant, phrase_worked, step_reads, use_meant, use_worked, work_left}
use Rattle.lt_macros.specs.inner.Uses.{IsUse}
use Rattle.lt_macros.specs.inner.Work.{argument_work, phrase_work, used}
use Rattle.lt_macros.specs.declared.head_normal_form.HeadNormalForm.{HeadNormalForm}
use Rattle.lt_macros.specs.declared.head_normal_form.HeadNormalForm.TheVariants as form
use Rattle.lt_macros.specs.declared.head_normal_form.Step.{Step}
use Rattle.lt_macros.specs.declared.head_normal_form.Step.TheVariants.{Done, Further, Previous}
use Rattle.lt_macros.specs.declared.position.Position.{Position}
use Rattle.lt_macros.specs.declared.position.Position.TheVariants as position
use Rattle.lt_macros.specs.declared.scope.Entry.{Entry}
use Rattle.lt_macros.specs.declared.scope.Binding.{Binding as CodeBinding}
use Rattle.lt_macros.specs.declared.scope.Binding.TheVariants.{Macro as CodeMacro}
use Rattle.lt_macros.specs.declared.scope.Handed.{Handed}
use Rattle.lt_macros.specs.declared.scope.Reached.{Reached}
use Rattle.lt_macros.specs.declared.scope.Phrase.{Phrase as CodePhrase}
use Rattle.std.specs.Borrow.{Bor}
use Rattle.lt_macros.proofs.Leading.{argument_read, argument_worked}

-- COVERED

pub seen_hidden : (position : Position) (c : Bool) (denotation : Denotation) → is_hidden position c ≡ true → seen position (covered c denotation) ≡ seen position (expression meaningless)
seen_hidden position.Expression true denotation h = refl
seen_hidden position.Expression false denotation h = absurd (cc)
seen_hidden (position.Trace n) c denotation h = absurd (cc)

pub seen_shown : (position : Position) (c : Bool) (denotation : Denotation) → is_hidden position c ≡ false → seen position (covered c denotation) ≡ seen position denotation
seen_shown position.Expression true denotation h = absurd (cc)
seen_shown position.Expression false denotation h = refl
seen_shown (position.Trace n) true denotation h = refl
seen_shown (position.Trace n) false denotation h = refl

-- NAMES

-- a name means nothing where it stands for a trace alone
pub steps_hidden : (position : Position) (rows : List Entry) (k : ℕ) (w : Word) (args : List Argument) (count : ℕ) (x : Reached) → length args ≡ count → IsUsed rows k w count x → is_hidden position x.covered ≡ true
    → StepsTo position rows (use_meant rows k w args) (suc (use_worked rows k w args)) (Done form.Meaningless)
steps_hidden position rows k w args count x n is h =
    record {
      denotation = λ d.
          let env = environment (meant d) rows k in
          let denotations = map (λ a. argument_denotation env a) args in
          sym (ap (seen position) (is.denotation d (λ i. expression meaningless) (λ i. 0) denotations (length-map args (λ a. argument_denotation env a) ∙ n)) ∙ seen_hidden position x.covered (standing_for x.at (newest_at (meant d) rows x.environment) denotations) h);
      work = omega arith;
      within = tt;
    }

-- what a name stands for that is shown
shown_denotation : (position : Position) (rows : List Entry) (k : ℕ) (w : Word) (args : List Argument) (count : ℕ) (x : Reached) (d : ℕ) → length args ≡ count → IsUsed rows k w count x → is_hidden position x.covered ≡ false
    → seen position (use_meant rows k w args d) ≡ seen position (standing_for x.at (newest_at (meant d) rows x.environment) (map (λ a. argument_denotation (environment (meant d) rows k) a) args))
shown_denotation position rows k w args count x d n is h =
    let env = environment (meant d) rows k in
    let denotations = map (λ a. argument_denotation env a) args in
    ap (seen position) (is.denotation d (λ i. expression meaningless) (λ i. 0) denotations (length-map args (λ a. argument_denotation env a) ∙ n)) ∙ seen_shown position x.covered (standing_for x.at (newest_at (meant d) rows x.environment) denotations) h

shown_work : (rows : List Entry) (k : ℕ) (w : Word) (args : List Argument) (count : ℕ) (x : Reached) → length args ≡ count → IsUsed rows k w count x
    → used (newest_at worked rows x.environment) (map (λ a. argument_work (environment worked rows k) a) args) ≤ use_worked rows k w args
shown_work rows k w args count x n is = is.work (λ i. 1) (map (λ a. argument_work (environment worked rows k) a) args) (length-map args (λ a. argument_work (environment worked rows k) a) ∙ n)

-- there is none
pub steps_unknown : (position : Position) (rows : List Entry) (k : ℕ) (w : Word) (args : List Argument) (count : ℕ) (x : Reached) → length args ≡ count → IsUsed rows k w count x → is_hidden position x.covered ≡ false
    → ((r : Reading Denotation) → IsNewest r rows x.environment None) → StepsTo position rows (use_meant rows k w args) (suc (use_worked rows k w args)) (Done form.Meaningless)
steps_unknown position rows k w args count x n is h none =
    record {
      denotation = λ d. sym (shown_denotation position rows k w args count x d n is h ∙ ap (λ o. seen position (standing_for x.at o (map (λ a. argument_denotation (environment (meant d) rows k) a) args))) (none (meant d)));
      work = omega arith;
      within = tt;
    }

more_less : (rows : List Entry) (step : Step) (a b : ℕ) → a ≤ b → IsLess rows step a → IsLess rows step b
more_less rows (Done h) a b le is = omega (arith, le, is)
more_less rows (Further q k) a b le is = omega (arith, le, is)
more_less rows (Previous n at k) a b le is = omega (arith, le, is)

-- to what its entry has
pub steps_entry : (position : Position) (rows new : List Entry) (k : ℕ) (w : Word) (args : List Argument) (count : ℕ) (x : Reached) (e : Entry) (result : Result Step Memory) → length args ≡ count → IsUsed rows k w count x → is_hidden position x.covered ≡ false
    → ((r : Reading Denotation) → IsNewest r rows x.environment (Some e)) → ((r : Reading ℕ) → IsNewest r rows x.environment (Some e))
    → IfOk result (λ step. (d : ℕ) → step_reads (meant d) new step ≡ standing_for x.at (binding_at (meant d) rows e) (map (λ a. argument_denotation (environment (meant d) rows k) a) args))
    → IfOk result (λ step. IsLess new step (suc (used (binding_at worked rows e) (map (λ a. argument_work (environment worked rows k) a) args)))) → IfOk result (StepIsWithin (length new))
    → IfOk result (StepsTo position new (use_meant rows k w args) (suc (use_worked rows k w args)))
steps_entry position rows new k w args count x e (Ok step) n is h denotation work reads less within =
    record {
      denotation = λ d.
          let denotations = map (λ a. argument_denotation (environment (meant d) rows k) a) args in
          ap (seen position) (reads d)
          ∙ sym (shown_denotation position rows k w args count x d n is h ∙ ap (λ o. seen position (standing_for x.at o denotations)) (denotation (meant d)));
      work = more_less new step _ _ (omega (arith, shown_work rows k w args count x n is, ap (λ o. used o (map (λ a. argument_work (environment worked rows k) a) args)) (work worked))) less;
      within = within;
    }
steps_entry position rows new k w args count x e (Err m) n is h denotation work reads less within = tt

-- to an argument
pub steps_handed : (position : Position) (rows : List Entry) (k : ℕ) (w : Word) (args : List Argument) (count : ℕ) (x : Reached) (e : Entry) (arg : Argument) (c : Bool) (phrase : CodePhrase) → length args ≡ count → IsUsed rows k w count x → is_hidden position x.covered ≡ false
    → ((r : Reading Denotation) → IsNewest r rows x.environment (Some e)) → ((r : Reading ℕ) → IsNewest r rows x.environment (Some e)) → IsHandedOn rows e args arg c → is_hidden position c ≡ false → phrase_view phrase ≡ argument_phrase arg → k ≤ length rows
    → StepsTo position rows (use_meant rows k w args) (suc (use_worked rows k w args)) (Further phrase k)
steps_handed position rows k w args count x e arg c phrase n is h denotation work handed shown phrase_is within =
    record {
      denotation = λ d.
          let env = environment (meant d) rows k in
          let denotations = map (λ a. argument_denotation env a) args in
          ap (λ q. seen position (phrase_denotation env q)) phrase_is
          ∙ ap (seen position) (sym (argument_read env arg))
          ∙ sym (shown_denotation position rows k w args count x d n is h
          ∙ ap (λ o. seen position (standing_for x.at o denotations)) (denotation (meant d))
          ∙ ap (seen position) (handed.denotation d (λ i. expression meaningless) (λ i. 0) env x.at)
          ∙ seen_shown position c (argument_denotation env arg) shown);
      work =
          let env = environment worked rows k in
          omega (
            arith,
            shown_work rows k w args count x n is,
            ap (λ o. used o (map (λ a. argument_work env a) args)) (work worked),
            handed.work (λ i. 1) env,
            argument_worked env arg,
            ap (phrase_work env) phrase_is,
          );
      within = within;
    }

-- an argument that stands for a trace alone
pub steps_covered : (position : Position) (rows : List Entry) (k : ℕ) (w : Word) (args : List Argument) (count : ℕ) (x : Reached) (e : Entry) (arg : Argument) (c : Bool) → length args ≡ count → IsUsed rows k w count x → is_hidden position x.covered ≡ false
    → ((r : Reading Denotation) → IsNewest r rows x.environment (Some e)) → IsHandedOn rows e args arg c → is_hidden position c ≡ true
    → StepsTo position rows (use_meant rows k w args) (suc (use_worked rows k w args)) (Done form.Meaningless)
steps_covered position rows k w args count x e arg c n is h denotation handed hidden =
    record {
      denotation = λ d.
          let env = environment (meant d) rows k in
          let denotations = map (λ a. argument_denotation env a) args in
          sym (shown_denotation position rows k w args count x d n is h
          ∙ ap (λ o. seen position (standing_for x.at o denotations)) (denotation (meant d))
          ∙ ap (seen position) (handed.denotation d (λ i. expression meaningless) (λ i. 0) env x.at)
          ∙ seen_hidden position c (argument_denotation env arg) hidden);
      work = omega arith;
      within = tt;
    }

-- an entry that is a macro
pub macro_entry : (rows new : List Entry) (e : Entry) (m : Bor MacroDecl) (h : Option Handed) (at : Span) (denotations : ℕ → List Denotation) (result : Result Step Memory) → e.binding ≡ CodeMacro m h
    → IfOk result (λ step. (d : ℕ) → step_reads (meant d) new step ≡ macro_denotation (environment (meant d) rows e.outer) (macro_view m.now) (denotations d))
    → IfOk result (λ step. (d : ℕ) → step_reads (meant d) new step ≡ standing_for at (binding_at (meant d) rows e) (denotations d))
macro_entry rows new e m h at denotations result is reads =
    let P : CodeBinding → Type 0 = λ x. IfOk result (λ step. (d : ℕ) → step_reads (meant d) new step ≡ standing_for at (newest (added (meant d) (environment (meant d) rows) e.name.now e.outer x).names) (denotations d)) in
    subst P (sym is) reads

-- PHRASES

-- a phrase that is another one
pub steps_same : (position : Position) (rows new : List Entry) (k : ℕ) (p q : Phrase) (result : Result Step Memory) → p ≡ q → IfOk result (StepsTo position new (phrase_meant rows k q) (phrase_worked rows k q)) → IfOk result (StepsTo position new (phrase_meant rows k p) (phrase_worked rows k p))
steps_same position rows new k p q result is h = subst (λ q. IfOk result (StepsTo position new (phrase_meant rows k q) (phrase_worked rows k q))) (sym is) h

pub steps_cover : (position : Position) (rows : List Entry) (k : ℕ) (q : Phrase) (inner : CodePhrase) → IsInside q (phrase_view inner) → k ≤ length rows → StepsTo position rows (phrase_meant rows k q) (phrase_worked rows k q) (Further inner k)
steps_cover position rows k q inner is within =
    record { denotation = λ d. ap (seen position) (sym (is.denotation (environment (meant d) rows k))); work = is.work (environment worked rows k); within = within }

-- a step from what stands for the same as a phrase, and is no more, is one from the phrase
pub steps_under : (position : Position) (rows new : List Entry) (k : ℕ) (p q : Phrase) (result : Result Step Memory) → ((env : Environment Denotation) → phrase_denotation env p ≡ phrase_denotation env q) → ((env : Environment ℕ) → phrase_work env q ≤ phrase_work env p)
    → IfOk result (StepsTo position new (phrase_meant rows k q) (phrase_worked rows k q)) → IfOk result (StepsTo position new (phrase_meant rows k p) (phrase_worked rows k p))
steps_under position rows new k p q (Ok step) reads less to =
    record {
      denotation = λ d. to.denotation d ∙ ap (seen position) (sym (reads (environment (meant d) rows k)));
      work = more_less new step _ _ (less (environment worked rows k)) to.work;
      within = to.within;
    }
steps_under position rows new k p q (Err m) reads less to = tt

pub steps_use : (position : Position) (rows new : List Entry) (k : ℕ) (q : Phrase) (w : Word) (args : List Argument) (result : Result Step Memory) → IsUse q w args
    → IfOk result (StepsTo position new (use_meant rows k w args) (suc (use_worked rows k w args))) → IfOk result (StepsTo position new (phrase_meant rows k q) (phrase_worked rows k q))
steps_use position rows new k q w args (Ok step) is to =
    record {
      denotation = λ d. to.denotation d ∙ ap (seen position) (sym (is.denotation (environment (meant d) rows k)));
      work = more_less new step _ _ (omega (arith, is.work (environment worked rows k))) to.work;
      within = to.within;
    }
steps_use position rows new k q w args (Err m) is to = tt

pub steps_pre : (position : Position) (rows : List Entry) (k : ℕ) (q : Phrase) (n : Bor Name) (at : Span) → q ≡ pure.value (s.pre (word n.now) at) → k ≤ length rows → StepsTo position rows (phrase_meant rows k q) (phrase_worked rows k q) (Previous n at k)
steps_pre position rows k q n at is within =
    record { denotation = λ d. ap (λ q. seen position (phrase_meant rows k q d)) (sym is); work = omega (arith, ap (phrase_worked rows k) is); within = within }

pub steps_let : (position : Position) (rows new : List Entry) (k inner : ℕ) (q : Phrase) (m : Macro) (t : Bor TraceExpr) → q ≡ pure.trace (s.define m (trace_view t.now))
    → ((r : Reading Denotation) → environment r new inner ≡ with_macro r m (environment r rows k)) → ((r : Reading ℕ) → environment r new inner ≡ with_macro r m (environment r rows k)) → inner ≤ length new
    → (phrase : CodePhrase) → phrase_view phrase ≡ pure.trace (trace_view t.now) → StepsTo position new (phrase_meant rows k q) (phrase_worked rows k q) (Further phrase inner)
steps_let position rows new k inner q m t is denotation work within phrase phrase_is =
    record {
      denotation = λ d.
          ap (λ q. seen position (phrase_denotation (environment (meant d) new inner) q)) phrase_is
          ∙ ap (λ env. seen position (trace_denotation env (trace_view t.now))) (denotation (meant d))
          ∙ ap (λ q. seen position (phrase_meant rows k q d)) (sym is);
      work = omega (arith, ap (phrase_work (environment worked new inner)) phrase_is, ap (λ env. phrase_work env (pure.trace (trace_view t.now))) (work worked), ap (phrase_worked rows k) is);
      within = within;
    }

pub steps_form : (position : Position) (rows : List Entry) (k : ℕ) (q : Phrase) (h : HeadNormalForm) → Shows k h q → k ≤ length rows → StepsTo position rows (phrase_meant rows k q) (phrase_worked rows k q) (Done h)
steps_form position rows k q h is within = record { denotation = λ d. ap (seen position) (is.denotation d rows); work = is.work rows; within = is.within (length rows) within }

-- BEFORE

before_expression : (at : Span) (denotation : Denotation) → before at denotation ≡ before at (expression (as_expression denotation))
before_expression at (expression e) = refl
before_expression at (trace f) = refl

placed_of : Seen → Placed
placed_of (an_expression e) = e
placed_of (a_trace n) = meaningless

-- where two denotations are the same expression, so are they in the instant before
pub before_same : (at : Span) (a b : Denotation) → seen position.Expression a ≡ seen position.Expression b → before at a ≡ before at b
unfolding placed_of
before_same at a b is = before_expression at a ∙ ap (λ x. before at (expression (placed_of x))) is ∙ sym (before_expression at b)

-- what was once before had nothing before
pub before_twice : (at there : Span) (denotation : Denotation) → before at (before there denotation) ≡ expression meaningless
before_twice at there (trace f) = refl
before_twice at there (expression (p.constant k v a)) = refl
before_twice at there (expression (p.variable r i a)) = refl
before_twice at there (expression (p.previous r i a)) = refl
before_twice at there (expression (p.unary op e a)) = refl
before_twice at there (expression (p.binary op d e a)) = refl
before_twice at there (expression (p.choice c d e a)) = refl

-- traces that are joined are no expression
joined_none : (env : Environment Denotation) (f : Expanded → Expanded → Expanded) (t : Trace) (rest : List TraceExpr) → 0 < length rest → as_expression (traces_denotation env f (s.one_trace t (traces_of (map trace_view rest)))) ≡ meaningless
joined_none env f t [] some = absurd (omega (arith, some))
joined_none env f t (u ∷ rest) some = refl

trace_none : (d count : ℕ) (rows : List Entry) (h : HeadNormalForm) → is_expression h ≡ false → IsWithin count h → as_expression (form_reads (meant d) rows h) ≡ meaningless
trace_none d count rows form.Nothing is w = refl
trace_none d count rows (form.Joined j first rest k) is w = joined_none (environment (meant d) rows k) (joined_by j) (trace_view first.now) rest.now w.1
trace_none d count rows (form.Loop l t k) is w = refl
trace_none d count rows (form.Choice ps k) is w = refl
trace_none d count rows (form.Raise n k) is w = refl
trace_none d count rows (form.Assert e t k) is w = refl
trace_none d count rows (form.Exist gs t k) is w = refl
trace_none d count rows (form.Catch n t h k) is w = refl
trace_none d count rows (form.Try t h k) is w = refl
trace_none d count rows h is w = absurd (cc)

trace_before : (at : Span) (d count : ℕ) (rows : List Entry) (h : HeadNormalForm) → is_expression h ≡ false → IsWithin count h → expression meaningless ≡ before at (form_reads (meant d) rows h)
trace_before at d count rows h is w = sym (before_expression at (form_reads (meant d) rows h) ∙ ap (λ e. before at (expression e)) (trace_none d count rows h is w))

-- what a head normal form was before
pub before_form : (at : Span) (d count : ℕ) (rows : List Entry) (h : HeadNormalForm) → IsWithin count h → form_reads (meant d) rows (before_of at h) ≡ before at (form_reads (meant d) rows h)
before_form at d count rows form.Meaningless w = refl
before_form at d count rows (form.Variable role place there) w = refl
before_form at d count rows (form.Previous role place there) w = refl
before_form at d count rows (form.Number l) w = refl
before_form at d count rows (form.Flag b there) w = refl
before_form at d count rows (form.Unary op e there k) w = refl
before_form at d count rows (form.Binary op a e there k) w = refl
before_form at d count rows (form.If c a e there k) w = refl
before_form at d count rows form.Nothing w = trace_before at d count rows form.Nothing refl w
before_form at d count rows (form.Joined j first rest k) w = trace_before at d count rows (form.Joined j first rest k) refl w
before_form at d count rows (form.Loop l t k) w = trace_before at d count rows (form.Loop l t k) refl w
before_form at d count rows (form.Choice ps k) w = trace_before at d count rows (form.Choice ps k) refl w
before_form at d count rows (form.Raise n k) w = trace_before at d count rows (form.Raise n k) refl w
before_form at d count rows (form.Assert e t k) w = trace_before at d count rows (form.Assert e t k) refl w
before_form at d count rows (form.Exist gs t k) w = trace_before at d count rows (form.Exist gs t k) refl w
before_form at d count rows (form.Catch n t h k) w = trace_before at d count rows (form.Catch n t h k) refl w
before_form at d count rows (form.Try t h k) w = trace_before at d count rows (form.Try t h k) refl w

-- and it is an expression alone
pub before_work : (at : Span) (rows : List Entry) (h : HeadNormalForm) → form_reads worked rows (before_of at h) ≤ 1
before_work at rows (form.Variable role place there) = omega arith
before_work at rows h = omega arith

pub before_within : (at : Span) (count : ℕ) (h : HeadNormalForm) → IsWithin count (before_of at h)
before_within at count (form.Variable role place there) = tt
before_within at count h = tt

-- what `pre` of a name is, where the name leads to an expression
pub previous_done : (at : Span) (rows old : List Entry) (k : ℕ) (w : Word) (step : Step) (h result : HeadNormalForm) → step ≡ Done h → result ≡ before_of at h
    → ((d : ℕ) → seen position.Expression (step_reads (meant d) rows step) ≡ seen position.Expression (use_meant old k w [] d)) → StepIsWithin (length rows) step
    → (d : ℕ) → form_reads (meant d) rows result ≡ phrase_meant old k (pure.value (s.pre w at)) d
previous_done at rows old k w step h result is result_is denotation within d =
    ap (form_reads (meant d) rows) result_is
    ∙ before_form at d (length rows) rows h (subst (StepIsWithin (length rows)) is within)
    ∙ before_same at (form_reads (meant d) rows h) (use_meant old k w [] d) (ap (λ step. seen position.Expression (step_reads (meant d) rows step)) (sym is) ∙ denotation d)

-- a step leads to what another name was in the instant before
pub previous_twice : (at : Span) (rows old : List Entry) (k : ℕ) (w : Word) (step : Step) (n : Bor Name) (there : Span) (j : ℕ) → step ≡ Previous n there j
    → ((d : ℕ) → seen position.Expression (step_reads (meant d) rows step) ≡ seen position.Expression (use_meant old k w [] d))
    → (d : ℕ) → form_reads (meant d) rows form.Meaningless ≡ phrase_meant old k (pure.value (s.pre w at)) d
previous_twice at rows old k w step n there j is denotation d =
    sym (before_twice at there (standing_for (word n.now).span (found (environment (meant d) rows j).names (word n.now).text) []))
    ∙ before_same at (step_reads (meant d) rows (Previous n there j)) (use_meant old k w [] d) (ap (λ step. seen position.Expression (step_reads (meant d) rows step)) (sym is) ∙ denotation d)

-- FITTING

some_work : (rows : List Entry) (h : HeadNormalForm) → is_expression h ≡ false → 1 ≤ form_reads worked rows h
some_work rows form.Nothing is = omega arith
some_work rows (form.Joined j first rest k) is = omega arith
some_work rows (form.Loop l t k) is = omega arith
some_work rows (form.Choice ps k) is = omega arith
some_work rows (form.Raise n k) is = omega arith
some_work rows (form.Assert e t k) is = omega arith
some_work rows (form.Exist gs t k) is = omega arith
some_work rows (form.Catch n t h k) is = omega arith
some_work rows (form.Try t h k) is = omega arith
some_work rows h is = absurd (cc)

pub fits_none : (position : Position) (h : HeadNormalForm) → fits position h ≡ false → IsFitting position h form.Meaningless
fits_none position.Expression h is = record { denotation = λ d count rows w. ap an_expression (sym (trace_none d count rows h is w)); work = λ rows. some_work rows h is; within = λ count w. tt; fits = refl }
fits_none (position.Trace n) h is = absurd (cc)

-- WHAT IS LEFT

pub left_less : (rows : List Entry) (step : Step) (most : ℕ) → IsLess rows step most → work_left rows step < suc most
left_less rows (Done h) most is = omega arith
left_less rows (Further q k) most is = omega (arith, is)
left_less rows (Previous n at k) most is = omega arith
