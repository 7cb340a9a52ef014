-- Trees as they are built.
use Rattle.std.proofs.Common.{◌≡◌, ℕ, ◌-◌, ◌<◌, ◌≤◌, Bool, true, false, ◌&&◌, nat_le, IsTrue, List, [], ◌∷◌, length, map, drop, Result, IfOk, refl, ap, sym, subst, ◌∙◌, arith}
use Rattle.std.proofs.lemmas.Bool.{le-leb}
use Rattle.std.proofs.lemmas.Result.{IfOk-weaker}
use Rattle.lt_ast.specs.Syntax as s
use Rattle.lt_ast.specs.Syntax.{Figure, Trace}
use Rattle.std.specs.Borrow.{Bor}
use Rattle.lt_ast.specs.View.{figure, trace as trace_view}
use Rattle.lt_ast.specs.declared.name.Literal.{Literal}
use Rattle.lt_formula.specs.declared.memory.Memory.{Memory}
use Rattle.lt_ast.specs.inner.Lists.{traces_of}
use Rattle.lt_ast.specs.declared.trace.TraceExpr.{TraceExpr}
use Rattle.lt_macros.specs.Environment.{Environment}
use Rattle.lt_macros.specs.Expanded as x
use Rattle.lt_macros.specs.Literals.{number_at}
use Rattle.lt_macros.specs.Placed.{Placed, meaningless}
use Rattle.lt_macros.specs.Denotation.{Denotation, Numbers, ExpandedTrace, as_expression, as_trace, around_two, behind_term, trace_denotation, traces_denotation}
use Rattle.lt_macros.specs.inner.Builder.{Builds, IsBuilt, IsKept, IsReady, names_at, work_at}
use Rattle.lt_macros.specs.inner.Handing.{AreRight}
use Rattle.lt_macros.specs.inner.HeadNormalForm.{AddsTo, form_reads}
use Rattle.lt_macros.specs.Tree.{placed}
use Rattle.lt_macros.specs.declared.head_normal_form.HeadNormalForm.{HeadNormalForm}
use Rattle.lt_macros.specs.declared.head_normal_form.HeadNormalForm.TheVariants.{Number}
use Rattle.lt_macros.specs.declared.tree.Placed.{Placed as Tree}
use Rattle.lt_macros.specs.inner.Reading.{environment, meant, worked}
use Rattle.lt_macros.specs.declared.builder.Builder.{Builder}
use Rattle.lt_macros.specs.inner.Seen.{Seen, an_expression, a_trace}
use Rattle.lt_macros.specs.declared.scope.Entry.{Entry}
use Rattle.lt_macros.proofs.Adding.{adds_both, adds_length, adds_none, adds_one, all_back}
use Rattle.lt_macros.proofs.Decimals.{decimals_same}

-- Entries.

pub adds_kept : (old mid same new : List Entry) → AddsTo old mid → same ≡ mid → AddsTo same new → AddsTo old new
adds_kept old mid same new a is b = adds_both old mid new a (subst (λ rows. AddsTo rows new) is b)

-- what was added is taken back from what stands there still
pub same_back : (old mid new cut : List Entry) (len : ℕ) → AddsTo old mid → new ≡ mid → cut ≡ drop (length new - len) new → len ≡ length old → cut ≡ old
same_back old mid new cut len a same is n = all_back old new cut len is n (subst (AddsTo old) (sym same) a)

-- so much is there
pub enough : (old mid new : List Entry) (len : ℕ) → AddsTo old mid → new ≡ mid → len ≡ length old → len ≤ length new
enough old mid new len a same n = omega (arith, adds_length old mid a, ap length same)

-- a variable may be added to an environment that is there
pub linked_variable : (count outer : ℕ) → outer ≤ count → IsTrue (nat_le outer count && true)
linked_variable count outer h = by (nat_le outer count) (le-leb outer count h)
  where
    by : (b : Bool) → IsTrue b → IsTrue (b && true)
    by true h = h
    by false h = h

-- Builders.

-- a builder has what it has
pub kept_none : (b : Builder) → IsKept b b
kept_none b = record { names = refl; decimals = refl }

-- what it has before and after what keeps it, it has after both
pub kept_both : (old mid new : Builder) → IsKept old mid → IsKept mid new → IsKept old new
kept_both old mid new first second = record { names = second.names ∙ first.names; decimals = second.decimals ∙ first.decimals }

-- names stand for the same
pub names_kept : (old new : Builder) (k : ℕ) → IsKept old new → names_at new k ≡ names_at old k
names_kept old new k kept = λ i. environment (meant (kept.decimals i)) (kept.names i) k

-- they are as much work
pub work_kept : (old new : Builder) (k : ℕ) → IsKept old new → work_at new k ≡ work_at old k
work_kept old new k kept = ap (λ es. environment worked es k) kept.names

-- an environment is there still
pub ready_kept : (old new : Builder) (k : ℕ) → IsKept old new → IsReady old k → IsReady new k
ready_kept old new k kept ready =
    record { within = subst (λ es. k ≤ length es) (sym kept.names) ready.within; right = subst AreRight (sym kept.names) ready.right }

-- what is made without names is made by a builder
pub builds : {T E : Type 0} (old new : Builder) (r : Result T E) (P : T → Type 0) → IsKept old new → IfOk r P → Builds old new r P
builds old new r P kept made = IfOk-weaker r P (λ x. IsBuilt (P x) old new) (λ x is. record { made = is; kept = kept }) made

-- a number that is met is the constant that it stands for
pub number_form : (d : ℕ) (rows : List Entry) (h : HeadNormalForm) (l : Bor Literal) (r : Result Tree Memory) → h ≡ Number l → IfOk r (λ e. placed e ≡ number_at d (figure l.now)) → IfOk r (λ e. placed e ≡ as_expression (form_reads (meant d) rows h))
number_form d rows h l r is made =
    subst (λ p. IfOk r (λ e. placed e ≡ p)) (ap (λ n. number_at n (figure l.now)) (sym (decimals_same (meant d) rows 0)) ∙ ap (λ k. as_expression (form_reads (meant d) rows k)) (sym is)) made

-- Denotations.

expression_in : Seen → Placed
expression_in (an_expression e) = e
expression_in (a_trace t) = meaningless

pub seen_expression : (e f : Placed) → an_expression e ≡ an_expression f → e ≡ f
unfolding expression_in
seen_expression e f h = ap expression_in h

pub seen_trace : (t u : ExpandedTrace) → a_trace t ≡ a_trace u → t ≡ u
seen_trace t u h = cc

-- traces that are joined mean nothing as an expression
pub joined_expression : (env : Environment Denotation) (f : x.Expanded → x.Expanded → x.Expanded) (t : Trace) (rest : List TraceExpr) → 0 < length rest → meaningless ≡ as_expression (traces_denotation env f (s.one_trace t (traces_of (map trace_view rest))))
joined_expression env f t [] h = absurd (omega (arith, h))
joined_expression env f t (u ∷ rest) h = refl

-- as a trace they are the first and those behind it
pub joined_trace : (env : Environment Denotation) (f : x.Expanded → x.Expanded → x.Expanded) (t : Trace) (rest : List TraceExpr) (n : Numbers) → 0 < length rest
    → around_two f (as_trace (trace_denotation env t) (behind_term n)) (as_trace (traces_denotation env f (traces_of (map trace_view rest)))) ≡ as_trace (traces_denotation env f (s.one_trace t (traces_of (map trace_view rest)))) n
joined_trace env f t [] n h = absurd (omega (arith, h))
joined_trace env f t (u ∷ rest) n h = refl

pub ruleset adding = (adds_none, adds_one, adds_both, adds_length, linked_variable)
