-- Entries that are put for parameters, arguments, exceptions and macros.
use Rattle.std.proofs.Common.{◌≡◌, ◌≤◌, ◌<◌, ℕ, suc, ◌+◌, List, [], ◌∷◌, length, get_or, map, drop, Option, ap, sym, ◌∙◌, arith}
use Rattle.std.specs.Borrow.{Bor}
use Rattle.lt_ast.specs.Letters.{letters}
use Rattle.lt_ast.specs.View.{argument, macro as macro_view, word}
use Rattle.lt_ast.specs.declared.expr.Arg.{Arg}
use Rattle.lt_ast.specs.declared.name.Name.{Name}
use Rattle.lt_ast.specs.declared.trace.MacroDecl.{MacroDecl, out-MacroDecl}
use Rattle.lt_macros.specs.Environment.{parameter, macro, Environment, with_arguments, with_exceptions, with_name}
use Rattle.lt_macros.specs.Denotation.{macro_name}
use Rattle.lt_macros.specs.inner.Parameters.{name_text}
use Rattle.lt_macros.specs.inner.HeadNormalForm.{AddsTo}
use Rattle.lt_macros.specs.inner.Leads.{parameters, with_macro}
use Rattle.lt_macros.specs.inner.Phrase.{argument_phrase}
use Rattle.lt_macros.specs.inner.Reading.{Reading, added, environment, phrase_view}
use Rattle.lt_macros.specs.declared.scope.Entry.{Entry}
use Rattle.lt_macros.specs.declared.scope.Binding.TheVariants.{Argument, Parameter, Macro}
use Rattle.lt_macros.specs.declared.scope.Handed.{Handed}
use Rattle.lt_macros.specs.declared.scope.Phrase.{Phrase as CodePhrase}
use Rattle.std.specs.Borrow.{Bor}
use Rattle.lt_macros.proofs.Adding.{environment_kept}
use Rattle.lt_macros.proofs.Environments.{environment-newest, made_by}
use Rattle.lt_macros.proofs.Parameters.{drop_next, macro_parts}

-- the environment that is made by what is pushed
pub made_newest : {S : Type 0} (r : Reading S) (rows newest : List Entry) (e : Entry) (number : ℕ) → newest ≡ e ∷ rows → number ≡ length rows + 1 → environment r newest number ≡ made_by r rows e
made_newest r rows newest e number is n = ap (λ es. environment r es number) is ∙ ap (environment r (e ∷ rows)) (n ∙ omega arith) ∙ environment-newest r e rows

-- the next parameter is bound to the next argument
bound_next : {S : Type 0} (r : Reading S) (old new : List Entry) (e : Entry) (p : CodePhrase) (written : ℕ) (ps : List (List ℕ)) (ss : List S)
    → AddsTo old new → written ≤ length old → e.binding ≡ Argument p written
    → with_arguments ps ss (made_by r new e) ≡ with_arguments (e.name.now ∷ ps) (r.phrase (environment r old written) (phrase_view p) ∷ ss) (environment r new e.outer)
bound_next r old new e p written ps ss a w is =
    ap (λ x. with_arguments ps ss (added r (environment r new) e.name.now e.outer x)) is
    ∙ ap (λ env. with_arguments ps ss (with_name e.name.now (parameter (r.phrase env (phrase_view p))) (environment r new e.outer))) (environment_kept r old new written a w)

-- after the next parameter the rest is still to be bound
pub bound_rest : {S : Type 0} (r : Reading S) (old new newest : List Entry) (e : Entry) (p : CodePhrase) (written number place : ℕ)
    (params : List (Bor Name)) (param : Bor Name) (args : List Arg) (arg : Arg) (others : List Arg) (all : Environment S)
    → place < length params → param ≡ get_or params place param → args ≡ arg ∷ others → e.name.now ≡ name_text param → phrase_view p ≡ argument_phrase (argument arg) → e.binding ≡ Argument p written
    → newest ≡ e ∷ new → number ≡ length new + 1 → AddsTo old new → written ≤ length old
    → with_arguments (map name_text (drop place params)) (map (λ a. r.phrase (environment r old written) (argument_phrase a)) (map argument args)) (environment r new e.outer) ≡ all
    → with_arguments (map name_text (drop (place + 1) params)) (map (λ a. r.phrase (environment r old written) (argument_phrase a)) (map argument others)) (environment r newest number) ≡ all
bound_rest {S} r old new newest e p written number place params param args arg others all below is args_is name_is phrase_is binding_is newest_is number_is adds within h =
    let denotations : List Arg → List S = λ xs. map (λ a. r.phrase (environment r old written) (argument_phrase a)) (map argument xs) in
    let more : List (List ℕ) = map name_text (drop (place + 1) params) in
    ap (with_arguments more (denotations others)) (made_newest r new newest e number newest_is number_is)
    ∙ bound_next r old new e p written more (denotations others) adds within binding_is
    ∙ (λ i. with_arguments (name_is i ∷ more) (r.phrase (environment r old written) (phrase_is i) ∷ denotations others) (environment r new e.outer))
    ∙ sym (λ i. with_arguments (map name_text (drop_next params place param below is i)) (denotations (args_is i)) (environment r new e.outer))
    ∙ h

-- the next parameter is put
pub put_next : {S : Type 0} (r : Reading S) (new newest : List Entry) (e : Entry) (number place : ℕ) (params : List (Bor Name)) (param : Bor Name) (all : Environment S)
    → place < length params → param ≡ get_or params place param → newest ≡ e ∷ new → number ≡ length new + 1 → e.name.now ≡ name_text param → e.binding ≡ Parameter (length new)
    → with_arguments (map name_text (drop place params)) (parameters r.parameter (length new) (map name_text (drop place params))) (environment r new e.outer) ≡ all
    → with_arguments (map name_text (drop (place + 1) params)) (parameters r.parameter (length newest) (map name_text (drop (place + 1) params))) (environment r newest number) ≡ all
put_next r new newest e number place params param all h is newest_is n name_is binding_is all_is =
    let ps : List (List ℕ) = map name_text (drop (place + 1) params) in
    let front : map name_text (drop place params) ≡ name_text param ∷ ps = ap (map name_text) (drop_next params place param h is) in
    ap (λ k. with_arguments ps (parameters r.parameter k ps) (environment r newest number)) (ap length newest_is)
    ∙ ap (with_arguments ps (parameters r.parameter (suc (length new)) ps)) (made_newest r new newest e number newest_is n)
    ∙ (λ i. with_arguments ps (parameters r.parameter (suc (length new)) ps) (added r (environment r new) (name_is i) e.outer (binding_is i)))
    ∙ sym (ap (λ qs. with_arguments qs (parameters r.parameter (length new) qs) (environment r new e.outer)) front)
    ∙ all_is

-- the next exception is put
pub put_more : {S : Type 0} (names : List Name) (place : ℕ) (n : Name) (terms : ℕ) (env next all : Environment S) → place < length names → n ≡ get_or names place n → next ≡ with_exceptions terms (word n ∷ []) env
    → with_exceptions terms (map word (drop place names)) env ≡ all → with_exceptions terms (map word (drop (place + 1) names)) next ≡ all
put_more names place n terms env next all h is next_is all_is =
    ap (with_exceptions terms (map word (drop (place + 1) names))) next_is
    ∙ sym (ap (λ ns. with_exceptions terms (map word ns) env) (drop_next names place n h is))
    ∙ all_is

-- the environment of a macro's entry
pub declared_as : {S : Type 0} (r : Reading S) (old rows newest : List Entry) (e : Entry) (declared : Bor MacroDecl) (h : Option Handed) (number : ℕ) → rows ≡ old → newest ≡ e ∷ rows → number ≡ length rows + 1
    → e.name.now ≡ letters (out-MacroDecl declared.now).name.text → e.binding ≡ Macro declared h
    → environment r newest number ≡ with_macro r (macro_view declared.now) (environment r old e.outer)
declared_as r old rows newest e declared h number old_is newest_is n name_is binding_is =
    let name : letters (out-MacroDecl declared.now).name.text ≡ macro_name (macro_view declared.now) = sym (ap macro_name (macro_parts declared.now)) in
    made_newest r rows newest e number newest_is n
    ∙ (λ i. added r (environment r (old_is i)) (name_is i) e.outer (binding_is i))
    ∙ ap (λ name. with_name name (macro (r.macro_denotation (environment r old e.outer) (macro_view declared.now))) (environment r old e.outer)) name
