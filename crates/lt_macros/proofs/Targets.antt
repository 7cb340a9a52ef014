-- What names that are used stand for.
use Rattle.std.proofs.Common.{◌≡◌, ◌<◌, ◌≤◌, ℕ, suc, zero, IsTrue, List, [], ◌∷◌, Option, Some, length, get_or, map, slice_index_or, ap, sym, ◌∙◌, subst, arith}
use Rattle.std.specs.List.{sum_by}
use Rattle.std.proofs.lemmas.List.{get_or-map, length-map}
use Rattle.std.proofs.lemmas.List.Sums.{sum_by-cons}
use Rattle.lt_ast.specs.Syntax.{Argument, Word}
use Rattle.lt_ast.specs.View.{argument, macro as macro_view}
use Rattle.lt_ast.specs.declared.expr.Arg.{Arg}
use Rattle.lt_ast.specs.declared.span.Span.{Span}
use Rattle.lt_macros.specs.Placed.{meaningless}
use Rattle.lt_macros.specs.Denotation.{Denotation, expression, argument_denotation, standing_for}
use Rattle.lt_macros.specs.inner.Handing.{HandsOn, HasTarget, IsHandedOn, IsPlace, IsRight, IsRightBinding, IsRightMacro, IsTaken, IsUsed, covered, target_denotation, target_work}
use Rattle.lt_macros.specs.inner.Reading.{IsFound, IsNewest, Reading, added, environment, is_handed, is_linked, is_older, is_written, meant_where, newest, worked_where}
use Rattle.lt_macros.specs.inner.Size.{argument_size}
use Rattle.lt_macros.specs.inner.Work.{argument_work, used}
use Rattle.lt_macros.specs.declared.resolution.HandedOn.{HandedOn}
use Rattle.lt_macros.specs.declared.scope.Entry.{Entry}
use Rattle.lt_macros.specs.declared.scope.Binding.{Binding as CodeBinding}
use Rattle.lt_macros.specs.declared.scope.Binding.TheVariants.{Variable, Argument as Argued, Parameter, Macro, Exception}
use Rattle.lt_macros.specs.declared.scope.Handed.{Handed}
use Rattle.lt_macros.specs.declared.scope.Reached.{Reached}
use Rattle.lt_macros.specs.declared.scope.Target.{Target}
use Rattle.lt_macros.specs.declared.scope.Target.TheVariants.{Own, Outer}
use Rattle.lt_macros.proofs.Environments.{binding_of, le_true}

-- what the uses of an entry's name lead to with so many arguments
pub record Hands (rows : List Entry) (name : List ℕ) (outer : ℕ) (x : CodeBinding) (count : ℕ) (t : Target) : Type 0 where
  pub place : IsPlace count t
  pub denotation : (d : ℕ) (f : ℕ → Denotation) (g : ℕ → ℕ) (at : Span) (denotations : List Denotation) → length denotations ≡ count
      → standing_for at (newest (added (meant_where d f g) (environment (meant_where d f g) rows) name outer x).names) denotations ≡ target_denotation (meant_where d f g) rows t denotations
  pub work : (f : ℕ → ℕ) (works : List ℕ) → length works ≡ count
      → target_work (worked_where f) rows t works ≤ used (newest (added (worked_where f) (environment (worked_where f) rows) name outer x).names) works

pub hands : (rows : List Entry) (name : List ℕ) (outer : ℕ) (x : CodeBinding) (count : ℕ) (t : Target) → IsRightBinding rows outer x → HasTarget x count t → Hands rows name outer x count t
hands rows name outer (Variable role place) count t right h = absurd h
hands rows name outer (Argued p k) count t right h = absurd h
hands rows name outer (Parameter i) count t right h = absurd h
hands rows name outer (Macro m known) count t right h =
    let on : HandsOn rows outer (macro_view m.now) (record { parameters = count; target = t }) = subst (IsRightMacro rows outer (macro_view m.now)) h right in
    record { place = on.place; denotation = λ d f g at denotations n. on.denotation d f g denotations n; work = λ f works n. on.work f works n }
hands rows name outer (Exception place before) count t right h = absurd h

-- an older name is among the entries
pub older_target : (count arity : ℕ) (x : CodeBinding) (t : Target) → IsTrue (is_written count x) → HasTarget x arity t → IsTrue (is_older count t)
older_target count arity (Variable role place) t w h = absurd h
older_target count arity (Argued p k) t w h = absurd h
older_target count arity (Parameter i) t w h = absurd h
older_target count arity (Macro m known) t w h = let P : Option Handed → Type 0 = λ known. IsTrue (is_handed count known) in subst P h w
older_target count arity (Exception place before) t w h = absurd h

-- a name that leads to an older one
pub used_outer : (rows : List Entry) (k : ℕ) (w : Word) (count number : ℕ) (e : Entry) (x : Reached) → ((r : Reading Denotation) → IsFound r rows k w.text number) → ((r : Reading ℕ) → IsFound r rows k w.text number)
    → ((r : Reading Denotation) → IsNewest r rows number (Some e)) → ((r : Reading ℕ) → IsNewest r rows number (Some e))
    → IsTrue (is_linked (length rows) e) → IsRight rows e → HasTarget e.binding count (Outer x) → IsUsed rows k w count x
used_outer rows k w count number e x denotation work newest_denotation newest_work linked right has =
    let on = hands rows e.name.now e.outer e.binding count (Outer x) right has in
    record {
      within = le_true _ _ (older_target (length rows) count e.binding (Outer x) (binding_of (length rows) e linked) has);
      denotation = λ d f g denotations n.
          ap (λ o. standing_for w.span o denotations) (denotation (meant_where d f g)) ∙ ap (λ o. standing_for w.span o denotations) (newest_denotation (meant_where d f g)) ∙ on.denotation d f g w.span denotations n;
      work = λ f works n.
          omega (arith, ap (λ o. used o works) (work (worked_where f)), ap (λ o. used o works) (newest_work (worked_where f)), on.work f works n);
    }

mapped_at : {S : Type 0} (f : Argument → S) (args : List Arg) (place : ℕ) (arg : Arg) (d : S) → place < length args → arg ≡ get_or args place arg → slice_index_or (map f (map argument args)) place d ≡ f (argument arg)
mapped_at f args place arg d l is =
    get_or-map f (map argument args) place (argument arg) d (omega (arith, l, length-map args argument)) ∙ ap f (get_or-map argument args place arg (argument arg) l ∙ ap argument (sym is))

sized_at : (args : List Argument) (place : ℕ) (d : Argument) → place < length args → argument_size (slice_index_or args place d) ≤ sum_by argument_size args
sized_at [] place d l = absurd (omega (arith, l))
sized_at (a ∷ rest) zero d l = omega (arith, sum_by-cons argument_size a rest)
sized_at (a ∷ rest) (suc place) d l = omega (arith, sized_at rest place d (omega (arith, l)), sum_by-cons argument_size a rest)

-- an argument is handed on
pub taken_handed : (rows : List Entry) (e : Entry) (args : List Arg) (h : HandedOn) → IsRight rows e → IsTaken e.binding args h → IsHandedOn rows e (map argument args) (argument h.argument.now) h.covered
taken_handed rows e args h right taken =
    let on = hands rows e.name.now e.outer e.binding (length args) (Own taken.place h.covered) right taken.target in
    record {
      denotation = λ d f g env at.
          on.denotation d f g at (map (λ a. argument_denotation env a) (map argument args)) (length-map (map argument args) (λ a. argument_denotation env a) ∙ length-map args argument)
          ∙ ap (covered h.covered) (mapped_at (λ a. argument_denotation env a) args taken.place h.argument.now (expression meaningless) taken.within taken.is);
      work = λ f env.
          omega (
            arith,
            on.work f (map (λ a. argument_work env a) (map argument args)) (length-map (map argument args) (λ a. argument_work env a) ∙ length-map args argument),
            mapped_at (λ a. argument_work env a) args taken.place h.argument.now 1 taken.within taken.is,
          );
      size =
          let same : slice_index_or (map argument args) taken.place (argument h.argument.now) ≡ argument h.argument.now =
          get_or-map argument args taken.place h.argument.now (argument h.argument.now) taken.within ∙ ap argument (sym taken.is) in
          omega (arith, ap argument_size same, sized_at (map argument args) taken.place (argument h.argument.now) (omega (arith, taken.within, length-map args argument)));
    }
