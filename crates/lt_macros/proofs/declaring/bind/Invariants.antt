use Rattle.std.proofs.Common.{◌≡◌, ◌≤◌, ℕ, drop, length, map}
use Rattle.lt_ast.specs.View.{argument}
use Rattle.lt_macros.specs.Environment.{with_arguments}
use Rattle.lt_macros.specs.Denotation.{Denotation}
use Rattle.lt_macros.specs.inner.Parameters.{name_text}
use Rattle.lt_macros.specs.inner.Handing.{AreRight}
use Rattle.lt_macros.specs.inner.HeadNormalForm.{AddsTo}
use Rattle.lt_macros.specs.inner.Phrase.{argument_phrase}
use Rattle.lt_macros.specs.inner.Reading.{Reading, environment}
use Rattle.lt_macros.specs.inner.Rows.{rows}
use Rattle.lt_macros.proofs.declaring.bind.Given as goal

-- the other parameters are still to be bound
abbrev pub invariant-loop-param : goal.invariant-loop-param
invariant-loop-param l =
    record {
      denotation :
          (r : Reading Denotation) → with_arguments (map name_text (drop l.param-index l.params)) (map (λ a. r.phrase (environment r (rows l.fn.scope) l.written) (argument_phrase a)) (map argument l.args)) (environment r (rows l.scope) l.environment)
          ≡ with_arguments (map name_text l.params) (map (λ a. r.phrase (environment r (rows l.fn.scope) l.written) (argument_phrase a)) (map argument l.fn.args)) (environment r (rows l.fn.scope) l.outer);
      work :
          (r : Reading ℕ) → with_arguments (map name_text (drop l.param-index l.params)) (map (λ a. r.phrase (environment r (rows l.fn.scope) l.written) (argument_phrase a)) (map argument l.args)) (environment r (rows l.scope) l.environment)
          ≡ with_arguments (map name_text l.params) (map (λ a. r.phrase (environment r (rows l.fn.scope) l.written) (argument_phrase a)) (map argument l.fn.args)) (environment r (rows l.fn.scope) l.outer);
      within : l.environment ≤ length (rows l.scope);
      adds : AddsTo (rows l.fn.scope) (rows l.scope);
      right : AreRight (rows l.scope);
    }
