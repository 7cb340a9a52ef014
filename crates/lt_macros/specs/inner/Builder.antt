-- What a builder makes of what is written in one of its environments, and how it is left.
use Rattle.std.specs.Prelude.{◌≡◌, ◌≤◌, ℕ, IfOk, length}
use Rattle.std.specs.declared.result.Result.{Result}
use Rattle.lt_ast.specs.Syntax.{Exp, Trace, Word}
use Rattle.lt_ast.specs.View.{written_range}
use Rattle.lt_ast.specs.inner.Rows.{maybe_exp}
use Rattle.lt_ast.specs.declared.group.Group.{Group}
use Rattle.lt_formula.specs.declared.role.Role.{Role}
use Rattle.lt_macros.specs.Environment.{Environment}
use Rattle.lt_macros.specs.Placed.{Placed}
use Rattle.lt_macros.specs.Expanded.{Declared}
use Rattle.lt_macros.specs.Denotation.{Denotation, Numbers, ExpandedTrace, as_expression, as_trace, declared_as, exp_denotation, first_of, trace_denotation}
use Rattle.lt_macros.specs.inner.Handing.{AreRight}
use Rattle.lt_macros.specs.inner.HeadNormalForm.{AddsTo, IsWithin, form_reads}
use Rattle.lt_macros.specs.inner.Phrase.{phrase_denotation}
use Rattle.lt_macros.specs.inner.Reading.{environment, meant, phrase_view, worked}
use Rattle.lt_macros.specs.inner.Rows.{rows}
use Rattle.lt_macros.specs.declared.builder.Builder.{Builder}
use Rattle.lt_macros.specs.declared.head_normal_form.HeadNormalForm.{HeadNormalForm}
use Rattle.lt_macros.specs.declared.scope.Phrase.{Phrase}

-- what names stand for in an environment
abbrev pub names_at : Builder → ℕ → Environment Denotation
names_at b k = environment (meant b.decimals) (rows b.scope) k

-- the work of names there
abbrev pub work_at : Builder → ℕ → Environment ℕ
work_at b k = environment worked (rows b.scope) k

-- what an expression stands for that is written there
abbrev pub value_at : Builder → ℕ → Exp → Placed
value_at b k e = as_expression (exp_denotation (names_at b k) e)

-- what a trace stands for that is written there, where so much stands before it
abbrev pub trace_at : Builder → ℕ → Trace → Numbers → ExpandedTrace
trace_at b k t n = as_trace (trace_denotation (names_at b k) t) n

-- what a phrase stands for that is written there
abbrev pub phrase_at : Builder → ℕ → Phrase → Denotation
phrase_at b k p = phrase_denotation (names_at b k) (phrase_view p)

-- what a head normal form stands for
abbrev pub form_denotation : Builder → HeadNormalForm → Denotation
form_denotation b h = form_reads (meant b.decimals) (rows b.scope) h

-- what a name of a group declares there, as a variable of a role
abbrev pub declares : Role → Environment Denotation → Group → Word → Declared
declares r env g w = declared_as r env g.kind (written_range g.range) (first_of env (maybe_exp g.first)) w

-- The environment is there, and what macros say of their uses is right.
pub record IsReady (b : Builder) (k : ℕ) : Type 0 where
  pub within : k ≤ length (rows b.scope)
  pub right : AreRight (rows b.scope)

-- So it is with the environment of a head normal form.
pub record IsReadyFor (b : Builder) (h : HeadNormalForm) : Type 0 where
  pub within : IsWithin (length (rows b.scope)) h
  pub right : AreRight (rows b.scope)

-- The builder has the names and the decimals that it had.
pub record IsKept (old new : Builder) : Type 0 where
  pub names : rows new.scope ≡ rows old.scope
  pub decimals : new.decimals ≡ old.decimals

-- This is made, and the builder has what it had.
pub record IsBuilt (P : Type 0) (old new : Builder) : Type 0 where
  pub made : P
  pub kept : IsKept old new

-- Where there is memory, the result is made so, and the builder has what it had.
abbrev pub Builds : {T E : Type 0} → Builder → Builder → Result T E → (T → Type 0) → Type 0
Builds old new r P = IfOk r (λ x. IsBuilt (P x) old new)

-- The builder has more names than it had, and as many decimals.
pub record IsGrown (old new : Builder) : Type 0 where
  pub names : AddsTo (rows old.scope) (rows new.scope)
  pub decimals : new.decimals ≡ old.decimals
