-- Environments that lie in a list: each entry adds one name to an older environment. Environment 0 is that before the first
-- declaration of a text, and the one after so many entries has so much as its number.
use Rattle.std.specs.Prelude.{◌≡◌, ℕ, Bool, true, false, ◌&&◌, nat_le, List, [], ◌∷◌, length, if◌then◌else◌, bytes_eq}
use Rattle.std.specs.declared.option.Option.{Option}
use Rattle.std.specs.declared.option.Option.TheVariants.{None, Some}
use Rattle.lt_ast.specs.Syntax.{Macro}
use Rattle.std.specs.Prelude.{map}
use Rattle.lt_ast.specs.View.{exp, trace as trace_view, braced, macro as macro_view}
use Rattle.lt_ast.specs.inner.Lists.{traces_of}
use Rattle.lt_ast.specs.inner.Rows.{maybe_trace}
use Rattle.lt_ast.specs.declared.span.Span.{Span}
use Rattle.lt_formula.specs.declared.role.Role.{Role}
use Rattle.lt_macros.specs.Environment.{Binding, variable, parameter, macro, Raised, deadlock, declared, NamedBinding, Environment, at_start, found, with_exception, with_name}
use Rattle.lt_macros.specs.Placed as p
use Rattle.lt_macros.specs.Placed.{meaningless}
use Rattle.lt_macros.specs.Denotation.{Denotation, expression, macro_denotation}
use Rattle.lt_macros.specs.inner.Phrase.{Phrase, value, trace, braces, joined, handler, phrase_denotation}
use Rattle.lt_macros.specs.inner.Work.{phrase_work, macro_work}
use Rattle.lt_macros.specs.declared.scope.Entry.{Entry}
use Rattle.lt_macros.specs.declared.scope.Declared.{Declared}
use Rattle.lt_macros.specs.declared.scope.Binding.{Binding as CodeBinding}
use Rattle.lt_macros.specs.declared.scope.Binding.TheVariants as code
use Rattle.lt_macros.specs.declared.scope.Handed.{Handed}
use Rattle.lt_macros.specs.declared.scope.Target.{Target}
use Rattle.lt_macros.specs.declared.scope.Target.TheVariants.{Own, Outer}
use Rattle.lt_macros.specs.declared.scope.Before.{Before}
use Rattle.lt_macros.specs.declared.scope.Before.TheVariants.{Terms, Chosen}
use Rattle.lt_macros.specs.declared.scope.Phrase.{Phrase as CodePhrase}
use Rattle.lt_macros.specs.declared.scope.Phrase.TheVariants as code_phrase

-- how denotations of one kind are read off what is written. Parameters of macros that are looked at without arguments stand for
-- whatever is chosen.
pub record Reading (S : Type 0) : Type 0 where
  -- how many decimals a real has
  pub decimals : ℕ
  -- a name that means nothing
  pub meaningless : S
  -- a variable, at a place of the text
  pub named : Role → ℕ → Span → S
  -- what it was in the instant before
  pub previous : Role → ℕ → Span → S
  -- what the name of a variable stands for
  pub variable : Role → ℕ → Binding S
  -- what the parameter behind so many entries stands for
  pub parameter : ℕ → S
  -- how many terms stand before the declaration of an exception
  pub terms_before : Before → ℕ
  pub phrase : Environment S → Phrase → S
  pub macro_denotation : Environment S → Macro → List S → S

-- a phrase as the code has it
abbrev pub phrase_view : CodePhrase → Phrase
phrase_view (code_phrase.Value e) = value (exp e.now)
phrase_view (code_phrase.Trace t) = trace (trace_view t.now)
phrase_view (code_phrase.Braces b) = braces (braced b.now)
phrase_view (code_phrase.Joined j ts) = joined j (traces_of (map trace_view ts.now))
phrase_view (code_phrase.Handler h) = handler (maybe_trace h.now)

-- these visible as well: what an entry adds to the environment in which it is declared, where each number has this environment
abbrev pub added : {S : Type 0} → Reading S → (ℕ → Environment S) → List ℕ → ℕ → CodeBinding → Environment S
added r at name outer (code.Variable role place) = with_name name (r.variable role place) (at outer)
added r at name outer (code.Argument p k) = with_name name (parameter (r.phrase (at k) (phrase_view p))) (at outer)
added r at name outer (code.Parameter i) = with_name name (parameter (r.parameter i)) (at outer)
added r at name outer (code.Macro m h) = with_name name (macro (r.macro_denotation (at outer) (macro_view m.now))) (at outer)
added r at name outer (code.Exception place before) = with_exception (r.terms_before before) place name (at outer)

-- an environment, among entries with the newest first
abbrev pub environment : {S : Type 0} → Reading S → List Entry → ℕ → Environment S
environment r [] k = at_start r.decimals
environment r (e ∷ older) k =
    if nat_le k (length older) then environment r older k
    else added r (environment r older) e.name.now e.outer e.binding

-- whether it is no exception
abbrev pub is_name : CodeBinding → Bool
is_name (code.Variable role place) = true
is_name (code.Argument p k) = true
is_name (code.Parameter i) = true
is_name (code.Macro m h) = true
is_name (code.Exception place before) = false

-- whether what a macro's use leads to is among so many entries
abbrev pub is_older : ℕ → Target → Bool
is_older count (Own place covered) = true
is_older count (Outer x) = nat_le x.environment count

-- whether what a macro's use leads to is among so many entries, where it is known
abbrev pub is_handed : ℕ → Option Handed → Bool
is_handed count None = true
is_handed count (Some h) = is_older count h.target

-- whether the entry for which a number of terms is chosen is among so many
abbrev pub is_chosen : ℕ → Before → Bool
is_chosen count (Terms n) = true
is_chosen count (Chosen i) = nat_le i count

-- whether the environment in which what a name is bound to is written is among so many entries
abbrev pub is_written : ℕ → CodeBinding → Bool
is_written count (code.Variable role place) = true
is_written count (code.Argument p k) = nat_le k count
is_written count (code.Parameter i) = nat_le i count
is_written count (code.Macro m h) = is_handed count h
is_written count (code.Exception place before) = is_chosen count before

-- whether the environments that an entry names are among so many entries
abbrev pub is_linked : ℕ → Entry → Bool
is_linked count e = nat_le e.outer count && is_written count e.binding

-- whether each entry names older environments alone
abbrev pub are_linked : List Entry → Bool
are_linked [] = true
are_linked (e ∷ older) = is_linked (length older) e && are_linked older

-- what the newest name stands for, if there is one
abbrev pub newest : {S : Type 0} → List (NamedBinding S) → Option (Binding S)
newest [] = None
newest (b ∷ bs) = Some b.binding

-- A name is the newest one of this environment.
abbrev pub IsFound : {S : Type 0} → Reading S → List Entry → ℕ → List ℕ → ℕ → Type 0
IsFound r rows k name number = found (environment r rows k).names name ≡ newest (environment r rows number).names

-- The entry is that of the newest name of an environment.
abbrev pub IsNewest : {S : Type 0} → Reading S → List Entry → ℕ → Option Entry → Type 0
IsNewest r rows k None = newest (environment r rows k).names ≡ None
IsNewest r rows k (Some e) = newest (environment r rows k).names ≡ newest (added r (environment r rows) e.name.now e.outer e.binding).names

-- the declaration of an exception of this name, where an entry with this binding is one
abbrev pub declared_by : List ℕ → Entry → CodeBinding → Option Declared
declared_by name e (code.Exception place before) = if bytes_eq name e.name.now then Some (record { name = e.name; place = place; before = before }) else None
declared_by name e x = None

-- what the declaration of an exception stands for; none is `Deadlock`
abbrev pub raised_by : {S : Type 0} → Reading S → Option Declared → Raised
raised_by r None = deadlock
raised_by r (Some d) = declared (record { name = d.name.now; place = d.place; terms_before = r.terms_before d.before })

-- the number that is known, or else what is chosen for it
abbrev pub terms_where : (ℕ → ℕ) → Before → ℕ
terms_where g (Terms n) = n
terms_where g (Chosen i) = g i

-- the reading of what a text stands for, where parameters and numbers of terms that are chosen are these
abbrev pub meant_where : ℕ → (ℕ → Denotation) → (ℕ → ℕ) → Reading Denotation
meant_where decimals f g = record {
  decimals = decimals;
  meaningless = expression meaningless;
  named = λ role place at. expression (p.variable role place at);
  previous = λ role place at. expression (p.previous role place at);
  variable = variable;
  parameter = f;
  terms_before = terms_where g;
  phrase = phrase_denotation;
  macro_denotation = macro_denotation;
}

-- the reading of the work, where parameters are so much
abbrev pub worked_where : (ℕ → ℕ) → Reading ℕ
worked_where f = record {
  decimals = 0;
  meaningless = 1;
  named = λ role place at. 1;
  previous = λ role place at. 1;
  variable = λ role place. parameter 1;
  parameter = f;
  terms_before = λ before. 0;
  phrase = phrase_work;
  macro_denotation = macro_work;
}

-- the reading of what a text stands for
abbrev pub meant : ℕ → Reading Denotation
meant decimals = meant_where decimals (λ i. expression meaningless) (λ i. 0)

-- the reading of the work
abbrev pub worked : Reading ℕ
worked = worked_where (λ i. 1)
