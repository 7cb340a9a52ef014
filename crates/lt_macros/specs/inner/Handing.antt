-- Macros whose uses lead, by names alone, to one of their arguments or to an older name.
use Rattle.std.specs.Prelude.{◌≡◌, ◌<◌, ◌≤◌, ℕ, Bool, true, false, List, [], ◌∷◌, length, map, get_or, slice_index_or}
use Rattle.std.specs.List.{sum_by}
use Rattle.std.specs.declared.option.Option.{Option}
use Rattle.std.specs.declared.option.Option.TheVariants.{None, Some}
use Rattle.lt_ast.specs.Syntax as s
use Rattle.lt_ast.specs.Syntax.{Argument, Macro, Word}
use Rattle.lt_ast.specs.View.{macro as macro_view}
use Rattle.lt_ast.specs.declared.expr.Arg.{Arg}
use Rattle.lt_ast.specs.declared.span.Span.{Span}
use Rattle.lt_macros.specs.Environment.{Binding, Environment, found}
use Rattle.lt_macros.specs.Denotation.{Denotation, trace, as_trace, argument_denotation, macro_denotation, parameter_names, standing_for}
use Rattle.lt_macros.specs.inner.Size.{argument_size}
use Rattle.lt_macros.specs.inner.Work.{argument_work, macro_work, used}
use Rattle.lt_macros.specs.inner.Reading.{Reading, added, environment, meant_where, newest, worked_where}
use Rattle.lt_macros.specs.declared.resolution.HandedOn.{HandedOn}
use Rattle.lt_macros.specs.declared.scope.Entry.{Entry}
use Rattle.lt_macros.specs.declared.scope.Binding.{Binding as CodeBinding}
use Rattle.lt_macros.specs.declared.scope.Binding.TheVariants as code
use Rattle.lt_macros.specs.declared.scope.Handed.{Handed}
use Rattle.lt_macros.specs.declared.scope.Reached.{Reached}
use Rattle.lt_macros.specs.declared.scope.Target.{Target}
use Rattle.lt_macros.specs.declared.scope.Target.TheVariants.{Own, Outer}

-- what is one only as a trace, where it is covered
abbrev pub covered : Bool → Denotation → Denotation
covered true denotation = trace (as_trace denotation)
covered false denotation = denotation

-- what the newest name of an environment stands for
abbrev pub newest_at : {S : Type 0} → Reading S → List Entry → ℕ → Option (Binding S)
newest_at r rows k = newest (environment r rows k).names

-- what the name of an entry stands for
abbrev pub binding_at : {S : Type 0} → Reading S → List Entry → Entry → Option (Binding S)
binding_at r rows e = newest (added r (environment r rows) e.name.now e.outer e.binding).names

-- what a name that is used so stands for, with such arguments
abbrev pub reached_denotation : Reading Denotation → List Entry → Reached → List Denotation → Denotation
reached_denotation r rows x denotations = covered x.covered (standing_for x.at (newest_at r rows x.environment) denotations)

-- the work of a name that is used so, with arguments of so much work
abbrev pub reached_work : Reading ℕ → List Entry → Reached → List ℕ → ℕ
reached_work r rows x works = used (newest_at r rows x.environment) works

-- what a use leads to, with such arguments
abbrev pub target_denotation : Reading Denotation → List Entry → Target → List Denotation → Denotation
target_denotation r rows (Own place c) denotations = covered c (slice_index_or denotations place r.meaningless)
target_denotation r rows (Outer x) denotations = reached_denotation r rows x denotations

-- the work of what a use leads to, with arguments of so much work
abbrev pub target_work : Reading ℕ → List Entry → Target → List ℕ → ℕ
target_work r rows (Own place c) works = slice_index_or works place 1
target_work r rows (Outer x) works = reached_work r rows x works

-- the names of a macro's parameters
abbrev pub macro_parameters : Macro → List (List ℕ)
macro_parameters (s.macro w ps type m) = parameter_names ps

-- It is one of so many arguments, or no argument.
abbrev pub IsPlace : ℕ → Target → Type 0
IsPlace count (Own place c) = place < count
IsPlace count (Outer x) = Unit {0}

-- With an argument for each parameter, a macro's denotation is what its use leads to, and no less work.
pub record HandsOn (rows : List Entry) (outer : ℕ) (m : Macro) (h : Handed) : Type 0 where
  pub count : h.parameters ≡ length (macro_parameters m)
  pub place : IsPlace h.parameters h.target
  pub denotation : (decimals : ℕ) (f : ℕ → Denotation) (g : ℕ → ℕ) (denotations : List Denotation) → length denotations ≡ h.parameters → macro_denotation (environment (meant_where decimals f g) rows outer) m denotations ≡ target_denotation (meant_where decimals f g) rows h.target denotations
  pub work : (f : ℕ → ℕ) (works : List ℕ) → length works ≡ h.parameters → target_work (worked_where f) rows h.target works ≤ macro_work (environment (worked_where f) rows outer) m works

-- What a macro says of its uses is right.
abbrev pub IsRightMacro : List Entry → ℕ → Macro → Option Handed → Type 0
IsRightMacro rows outer m None = Unit {0}
IsRightMacro rows outer m (Some h) = HandsOn rows outer m h

-- So is what a binding says.
abbrev pub IsRightBinding : List Entry → ℕ → CodeBinding → Type 0
IsRightBinding rows outer (code.Variable role place) = Unit {0}
IsRightBinding rows outer (code.Argument p k) = Unit {0}
IsRightBinding rows outer (code.Parameter i) = Unit {0}
IsRightBinding rows outer (code.Macro m h) = IsRightMacro rows outer (macro_view m.now) h
IsRightBinding rows outer (code.Exception place before) = Unit {0}

-- So is what an entry says.
abbrev pub IsRight : List Entry → Entry → Type 0
IsRight rows e = IsRightBinding rows e.outer e.binding

-- What the entries of macros say of their uses is right.
abbrev pub AreRight : List Entry → Type 0
AreRight [] = Unit {0}
AreRight (e ∷ older) = IsRight older e × AreRight older

-- Uses with so many arguments lead there.
abbrev pub HasTarget : CodeBinding → ℕ → Target → Type 0
HasTarget (code.Variable role place) count target = ⊥
HasTarget (code.Argument p k) count target = ⊥
HasTarget (code.Parameter i) count target = ⊥
HasTarget (code.Macro m h) count target = h ≡ Some (record { parameters = count; target = target })
HasTarget (code.Exception place before) count target = ⊥

-- A name with so many arguments stands for one that is used so.
pub record IsUsed (rows : List Entry) (number : ℕ) (w : Word) (count : ℕ) (result : Reached) : Type 0 where
  pub within : result.environment ≤ length rows
  pub denotation : (decimals : ℕ) (f : ℕ → Denotation) (g : ℕ → ℕ) (denotations : List Denotation) → length denotations ≡ count → standing_for w.span (found (environment (meant_where decimals f g) rows number).names w.text) denotations ≡ reached_denotation (meant_where decimals f g) rows result denotations
  pub work : (f : ℕ → ℕ) (works : List ℕ) → length works ≡ count → reached_work (worked_where f) rows result works ≤ used (found (environment (worked_where f) rows number).names w.text) works

-- The use of a macro with these arguments leads to this one of them.
pub record IsTaken (x : CodeBinding) (args : List Arg) (result : HandedOn) : Type 0 where
  pub place : ℕ
  pub target : HasTarget x (length args) (Own place result.covered)
  pub within : place < length args
  pub is : result.argument.now ≡ get_or args place result.argument.now

-- Wherever they stand, what an entry's name stands for with such arguments is this one of them, and no less work.
pub record IsHandedOn (rows : List Entry) (e : Entry) (args : List Argument) (arg : Argument) (c : Bool) : Type 0 where
  pub denotation : (decimals : ℕ) (f : ℕ → Denotation) (g : ℕ → ℕ) (env : Environment Denotation) (at : Span) → standing_for at (binding_at (meant_where decimals f g) rows e) (map (λ a. argument_denotation env a) args) ≡ covered c (argument_denotation env arg)
  pub work : (f : ℕ → ℕ) (env : Environment ℕ) → argument_work env arg ≤ used (binding_at (worked_where f) rows e) (map (λ a. argument_work env a) args)
  pub size : argument_size arg ≤ sum_by argument_size args
