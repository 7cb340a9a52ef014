-- Where a phrase leads by names alone, also through `exception .. in`.
use Rattle.std.specs.Prelude.{◌≡◌, ◌<◌, ◌≤◌, ℕ, suc, ◌+◌, Bool, true, false, nat_eq, List, [], ◌∷◌, length, if◌then◌else◌}
use Rattle.std.specs.declared.option.Option.{Option}
use Rattle.std.specs.declared.option.Option.TheVariants.{None, Some}
use Rattle.lt_macros.specs.Environment.{Environment, macro, parameter, with_name}
use Rattle.lt_ast.specs.Syntax.{Macro}
use Rattle.lt_macros.specs.Denotation.{Denotation, trace, as_trace, macro_name, standing_for}
use Rattle.lt_macros.specs.inner.Phrase.{Phrase, phrase_denotation}
use Rattle.lt_macros.specs.inner.Size.{phrase_size}
use Rattle.lt_macros.specs.inner.Work.{phrase_work, used}
use Rattle.lt_macros.specs.inner.Handing.{newest_at}
use Rattle.lt_macros.specs.inner.Reading.{Reading, environment, meant_where, worked_where}
use Rattle.lt_macros.specs.declared.declaring.Led.{Led}
use Rattle.lt_macros.specs.declared.scope.Entry.{Entry}
use Rattle.lt_macros.specs.declared.scope.Binding.{Binding}
use Rattle.lt_macros.specs.declared.scope.Binding.TheVariants as code
use Rattle.lt_macros.specs.declared.scope.Handed.{Handed}
use Rattle.lt_macros.specs.declared.scope.Target.{Target}
use Rattle.lt_macros.specs.declared.scope.Target.TheVariants.{Own, Outer}

-- these visible as well, and a macro that is declared where they are
abbrev pub with_macro : {S : Type 0} → Reading S → Macro → Environment S → Environment S
with_macro r m env = with_name (macro_name m) (macro (r.macro_denotation env m)) env

-- so many terms, where the exceptions that were declared behind so many entries are meant
abbrev pub chosen_at : ℕ → ℕ → (ℕ → ℕ) → ℕ → ℕ
chosen_at i terms g j = if nat_eq j i then terms else g j

-- What is a trace alone where exceptions are declared around it: before those that were declared behind so many entries there
-- stand as many terms as before the trace.
abbrev pub around : Option ℕ → (ℕ → ℕ) → ((ℕ → ℕ) → Denotation) → Denotation
around None g denotation = denotation g
around (Some i) g denotation = trace (λ n. as_trace (denotation (chosen_at i n.term g)) n)

-- where exceptions are declared around what had this around it already
abbrev pub cover_index : Option ℕ → ℕ → ℕ
cover_index None count = count
cover_index (Some i) count = i

-- where exceptions are declared around it, if they are, where it may be covered once more
abbrev pub cover_with : Option ℕ → Bool → ℕ → Option ℕ
cover_with None true count = Some count
cover_with None false count = None
cover_with (Some i) c count = Some i

-- whether there is something around it
abbrev pub is_around : Option ℕ → Bool
is_around None = false
is_around (Some i) = true

-- The entries behind which exceptions are declared around it are so many.
abbrev pub IsBetween : ℕ → ℕ → Option ℕ → Type 0
IsBetween least most None = Unit {0}
IsBetween least most (Some i) = (least ≤ i) × (i ≤ most)

-- A phrase stands for another one with this around it, and is no less.
pub record LeadsOn (old now : List Entry) (number : ℕ) (p : Phrase) (k : ℕ) (q : Phrase) (cover : Option ℕ) : Type 0 where
  pub denotation : (decimals : ℕ) (f : ℕ → Denotation) (g : ℕ → ℕ) → phrase_denotation (environment (meant_where decimals f g) old number) p ≡ around cover g (λ h. phrase_denotation (environment (meant_where decimals f h) now k) q)
  pub work : (f : ℕ → ℕ) → phrase_work (environment (worked_where f) now k) q ≤ phrase_work (environment (worked_where f) old number) p
  pub size : phrase_size q ≤ phrase_size p
  pub between : IsBetween (length old) (length now) cover

-- whether a name is no macro
abbrev pub is_plain : Binding → Bool
is_plain (code.Variable role place) = true
is_plain (code.Argument p k) = true
is_plain (code.Parameter i) = true
is_plain (code.Macro m h) = false
is_plain (code.Exception place before) = false

-- A phrase stands for the newest name of an environment, which is no macro.
pub record LeadsTo (old new : List Entry) (number : ℕ) (p : Phrase) (result : Led) : Type 0 where
  pub within : result.environment ≤ length new
  pub denotation : (decimals : ℕ) (f : ℕ → Denotation) (g : ℕ → ℕ) (denotations : List Denotation) → phrase_denotation (environment (meant_where decimals f g) old number) p ≡ around result.cover g (λ h. standing_for result.at (newest_at (meant_where decimals f h) new result.environment) denotations)
  pub work : (f : ℕ → ℕ) (works : List ℕ) → used (newest_at (worked_where f) new result.environment) works ≤ phrase_work (environment (worked_where f) old number) p
  pub between : IsBetween (length old) (length new) result.cover

-- what so many parameters stand for, the first of which is behind so many entries
abbrev pub parameters : {S : Type 0} → (ℕ → S) → ℕ → List (List ℕ) → List S
parameters f i [] = []
parameters f i (p ∷ ps) = f i ∷ parameters f (suc i) ps

-- The newest name of an environment is this one of so many parameters, or it is older than they are.
abbrev pub IsReached : List Entry → ℕ → ℕ → Led → Target → Type 0
IsReached rows before count led (Own place c) =
    (place < count) × (c ≡ is_around led.cover)
    × ((decimals : ℕ) (f : ℕ → Denotation) (g : ℕ → ℕ) → newest_at (meant_where decimals f g) rows led.environment ≡ Some (parameter (f (before + place))))
    × ((f : ℕ → ℕ) → newest_at (worked_where f) rows led.environment ≡ Some (parameter (f (before + place))))
IsReached rows before count led (Outer x) = (x ≡ record { environment = led.environment; at = led.at; covered = is_around led.cover }) × (led.environment ≤ before)

-- So it is known of the uses of a macro, where its body leads there.
abbrev pub IsReachedBy : List Entry → ℕ → ℕ → Option Led → Handed → Type 0
IsReachedBy rows before count None h = ⊥
IsReachedBy rows before count (Some led) h = (h.parameters ≡ count) × IsReached rows before count led h.target
