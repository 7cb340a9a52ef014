-- One step from a phrase towards its head normal form.
use Rattle.std.specs.Prelude.{◌≡◌, ◌≤◌, ◌<◌, ℕ, suc, Bool, true, false, IsTrue, List, length, map}
use Rattle.lt_ast.specs.Syntax as s
use Rattle.lt_ast.specs.Syntax.{Argument, Word}
use Rattle.lt_ast.specs.View.{word}
use Rattle.lt_ast.specs.declared.span.Span.{Span}
use Rattle.lt_macros.specs.Environment.{found}
use Rattle.lt_macros.specs.Denotation.{Denotation, argument_denotation, standing_for}
use Rattle.lt_macros.specs.inner.HeadNormalForm.{IsWithin, form_reads}
use Rattle.lt_macros.specs.inner.Phrase.{Phrase, phrase_denotation, value}
use Rattle.lt_macros.specs.inner.Reading.{Reading, environment, meant, phrase_view, worked}
use Rattle.lt_macros.specs.inner.Seen.{seen}
use Rattle.lt_macros.specs.inner.Work.{argument_work, phrase_work, used}
use Rattle.lt_macros.specs.declared.position.Position.{Position}
use Rattle.lt_macros.specs.declared.position.Position.TheVariants as position
use Rattle.lt_macros.specs.declared.scope.Entry.{Entry}
use Rattle.lt_macros.specs.declared.head_normal_form.HeadNormalForm.{HeadNormalForm}
use Rattle.lt_macros.specs.declared.head_normal_form.HeadNormalForm.TheVariants as form
use Rattle.lt_macros.specs.declared.head_normal_form.Advance.{Advance}
use Rattle.lt_macros.specs.declared.head_normal_form.Advance.TheVariants as advance
use Rattle.lt_macros.specs.declared.head_normal_form.Step.{Step}
use Rattle.lt_macros.specs.declared.head_normal_form.Step.TheVariants.{Done, Further, Previous}

-- what a step leads to reads as
abbrev pub step_reads : {S : Type 0} → Reading S → List Entry → Step → S
step_reads r rows (Done h) = form_reads r rows h
step_reads r rows (Further p k) = r.phrase (environment r rows k) (phrase_view p)
step_reads r rows (Previous n at k) = r.phrase (environment r rows k) (value (s.pre (word n.now) at))

-- Its environment is among so many.
abbrev pub StepIsWithin : ℕ → Step → Type 0
StepIsWithin count (Done h) = IsWithin count h
StepIsWithin count (Further p k) = k ≤ count
StepIsWithin count (Previous n at k) = k ≤ count

-- What is left is less work than so much; what is found is no more.
abbrev pub IsLess : List Entry → Step → ℕ → Type 0
IsLess rows (Done h) work = form_reads worked rows h ≤ work
IsLess rows (Further p k) work = step_reads worked rows (Further p k) < work
IsLess rows (Previous n at k) work = step_reads worked rows (Previous n at k) ≤ work

-- what is left to do
abbrev pub work_left : List Entry → Step → ℕ
work_left rows (Done h) = 0
work_left rows (Further p k) = suc (step_reads worked rows (Further p k))
work_left rows (Previous n at k) = 0

-- A step leads to what stands for the same where it stands, for all decimals, and to less than so much work.
pub record StepsTo (position : Position) (rows : List Entry) (meaning : ℕ → Denotation) (most : ℕ) (step : Step) : Type 0 where
  pub denotation : (decimals : ℕ) → seen position (step_reads (meant decimals) rows step) ≡ seen position (meaning decimals)
  pub work : IsLess rows step most
  pub within : StepIsWithin (length rows) step

-- what a phrase stands for in an environment, for all decimals
abbrev pub phrase_meant : List Entry → ℕ → Phrase → ℕ → Denotation
phrase_meant rows k p decimals = phrase_denotation (environment (meant decimals) rows k) p

-- the work of a phrase in an environment
abbrev pub phrase_worked : List Entry → ℕ → Phrase → ℕ
phrase_worked rows k p = phrase_work (environment worked rows k) p

-- what a name stands for with such arguments, for all decimals
abbrev pub use_meant : List Entry → ℕ → Word → List Argument → ℕ → Denotation
use_meant rows k w args decimals = standing_for w.span (found (environment (meant decimals) rows k).names w.text) (map (λ a. argument_denotation (environment (meant decimals) rows k) a) args)

-- the work of a name with such arguments
abbrev pub use_worked : List Entry → ℕ → Word → List Argument → ℕ
use_worked rows k w args = used (found (environment worked rows k).names w.text) (map (λ a. argument_work (environment worked rows k) a) args)

-- whether what stands for a trace alone means nothing in a position
abbrev pub is_hidden : Position → Bool → Bool
is_hidden position.Expression c = c
is_hidden (position.Trace n) c = false

-- whether a head normal form is an expression
abbrev pub is_expression : HeadNormalForm → Bool
is_expression form.Meaningless = true
is_expression (form.Variable role place at) = true
is_expression (form.Previous role place at) = true
is_expression (form.Number l) = true
is_expression (form.Flag b at) = true
is_expression (form.Unary op e at k) = true
is_expression (form.Binary op d e at k) = true
is_expression (form.If c d e at k) = true
is_expression form.Nothing = false
is_expression (form.Joined join first rest k) = false
is_expression (form.Loop l t k) = false
is_expression (form.Choice ps k) = false
is_expression (form.Raise n k) = false
is_expression (form.Assert e t k) = false
is_expression (form.Exist gs t k) = false
is_expression (form.Catch n t h k) = false
is_expression (form.Try t h k) = false

-- whether a head normal form can stand in a position
abbrev pub fits : Position → HeadNormalForm → Bool
fits position.Expression h = is_expression h
fits (position.Trace n) h = true

-- what a head normal form was in the instant before, as it is named at this place: only a variable had a value
abbrev pub before_of : Span → HeadNormalForm → HeadNormalForm
before_of at (form.Variable role place there) = form.Previous role place at
before_of at form.Meaningless = form.Meaningless
before_of at (form.Previous role place there) = form.Meaningless
before_of at (form.Number l) = form.Meaningless
before_of at (form.Flag b there) = form.Meaningless
before_of at (form.Unary op e there k) = form.Meaningless
before_of at (form.Binary op d e there k) = form.Meaningless
before_of at (form.If c d e there k) = form.Meaningless
before_of at form.Nothing = form.Meaningless
before_of at (form.Joined join first rest k) = form.Meaningless
before_of at (form.Loop l t k) = form.Meaningless
before_of at (form.Choice ps k) = form.Meaningless
before_of at (form.Raise n k) = form.Meaningless
before_of at (form.Assert e t k) = form.Meaningless
before_of at (form.Exist gs t k) = form.Meaningless
before_of at (form.Catch n t h k) = form.Meaningless
before_of at (form.Try t h k) = form.Meaningless

-- A head normal form is as good as another one in a position, and can stand there.
pub record IsFitting (position : Position) (h result : HeadNormalForm) : Type 0 where
  pub denotation : (decimals count : ℕ) (rows : List Entry) → IsWithin count h → seen position (form_reads (meant decimals) rows result) ≡ seen position (form_reads (meant decimals) rows h)
  pub work : (rows : List Entry) → form_reads worked rows result ≤ form_reads worked rows h
  pub within : (count : ℕ) → IsWithin count h → IsWithin count result
  pub fits : IsTrue (fits position result)

-- what an advance leads to reads as
abbrev pub advance_reads : {S : Type 0} → Reading S → List Entry → Advance → S
advance_reads r rows (advance.Met h) = form_reads r rows h
advance_reads r rows (advance.Further p k) = r.phrase (environment r rows k) (phrase_view p)

-- What is left is less work than so much; what is met is no more.
abbrev pub IsNoMore : List Entry → Advance → ℕ → Type 0
IsNoMore rows (advance.Met h) work = form_reads worked rows h ≤ work
IsNoMore rows (advance.Further p k) work = advance_reads worked rows (advance.Further p k) < work

-- Its environment is among so many, and what is met can stand in the position.
abbrev pub CanStand : Position → ℕ → Advance → Type 0
CanStand position count (advance.Met h) = IsWithin count h × IsTrue (fits position h)
CanStand position count (advance.Further p k) = k ≤ count

-- An advance leads to what stands for the same where it stands, for all decimals, and to less than so much work.
pub record AdvancesTo (position : Position) (rows : List Entry) (meaning : ℕ → Denotation) (most : ℕ) (a : Advance) : Type 0 where
  pub denotation : (decimals : ℕ) → seen position (advance_reads (meant decimals) rows a) ≡ seen position (meaning decimals)
  pub work : IsNoMore rows a most
  pub within : CanStand position (length rows) a
