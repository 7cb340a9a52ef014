-- A name with its arguments, as the code has them, is a use.
use Rattle.std.proofs.Common.{◌≡◌, ℕ, List, [], ◌∷◌, Box, Global, Option, None, Some, map, refl, ap, sym, subst, ◌∙◌, arith}
use Rattle.std.specs.List.{sum_by}
use Rattle.std.proofs.lemmas.List.Sums.{sum_by-cons}
use Rattle.lt_ast.specs.declared.name.Name.{Name}
use Rattle.lt_ast.specs.declared.expr.Args.{Args}
use Rattle.lt_ast.specs.declared.expr.Arg.{Arg}
use Rattle.lt_ast.specs.declared.expr.Expr.{Expr, Named, back-Expr-Named-1}
use Rattle.lt_ast.specs.Syntax.{Argument}
use Rattle.lt_ast.specs.inner.Lists.{arguments_of}
use Rattle.lt_ast.specs.View.{word, exp, named_exp, argument}
use Rattle.lt_ast.proofs.Public.{arguments_list}
use Rattle.lt_macros.specs.Environment.{Environment, found}
use Rattle.lt_macros.specs.Denotation.{Denotation, standing_for, argument_denotation, argument_denotations}
use Rattle.lt_macros.specs.inner.Phrase.{value}
use Rattle.lt_macros.specs.inner.Work.{used, argument_work, argument_works}
use Rattle.lt_macros.specs.inner.Size.{argument_size, arguments_size}
use Rattle.lt_macros.specs.inner.Uses.{IsUse, given}

denotations_same : (env : Environment Denotation) (args : List Argument) → argument_denotations env (arguments_of args) ≡ map (λ a. argument_denotation env a) args
denotations_same env [] = refl
denotations_same env (a ∷ rest) = ap (λ ss. argument_denotation env a ∷ ss) (denotations_same env rest)

works_same : (env : Environment ℕ) (args : List Argument) → argument_works env (arguments_of args) ≡ map (λ a. argument_work env a) args
works_same env [] = refl
works_same env (a ∷ rest) = ap (λ ws. argument_work env a ∷ ws) (works_same env rest)

sizes_same : (args : List Argument) → arguments_size (arguments_of args) ≡ sum_by argument_size args
sizes_same [] = refl
sizes_same (a ∷ rest) = omega (arith, sizes_same rest, sum_by-cons argument_size a rest)

pub named_use : (n : Name) (o : Option (Box Args Global)) → IsUse (value (named_exp n (back-Expr-Named-1 o))) (word n) (map argument (given o))
named_use n None = record { denotation = λ env. refl; work = λ env. omega arith; size = omega arith }
named_use n (Some args) =
    let row = arguments_list args.value.items in
    let list = map argument args.value.items.items in
    record {
      denotation = λ env. ap (λ r. standing_for (word n).span (found env.names (word n).text) (argument_denotations env r)) row ∙ ap (standing_for (word n).span (found env.names (word n).text)) (denotations_same env list);
      work = λ env. omega (arith, ap (λ r. used (found env.names (word n).text) (argument_works env r)) row ∙ ap (used (found env.names (word n).text)) (works_same env list));
      size = omega (arith, ap arguments_size row ∙ sizes_same list);
    }

pub named_is : (e : Expr) (n : Name) (o : Option (Box Args Global)) (args : List Arg) → e ≡ Named n o → args ≡ given o → IsUse (value (exp e)) (word n) (map argument args)
named_is e n o args is same =
    subst (λ e. IsUse (value (exp e)) (word n) (map argument args)) (sym is)
    (subst (λ args. IsUse (value (named_exp n (back-Expr-Named-1 o))) (word n) (map argument args)) (sym same) (named_use n o))
