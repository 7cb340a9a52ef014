use Rattle.std.proofs.Common.{◌≡◌, ◌≤◌, ℕ, length, map, drop}
use Rattle.lt_ast.specs.View.{word, words}
use Rattle.lt_macros.specs.Environment.{with_exceptions}
use Rattle.lt_macros.specs.Denotation.{Denotation}
use Rattle.lt_macros.specs.inner.Handing.{AreRight}
use Rattle.lt_macros.specs.inner.HeadNormalForm.{AddsTo}
use Rattle.lt_macros.specs.inner.Reading.{Reading, environment}
use Rattle.lt_macros.specs.inner.Rows.{rows}
use Rattle.lt_macros.proofs.declaring.put_exceptions.Given as goal

-- the others are still to be put
abbrev pub invariant-loop-name : goal.invariant-loop-name
invariant-loop-name l =
    record {
      denotation :
          (r : Reading Denotation) → with_exceptions (r.terms_before l.before) (map word (drop l.name-index l.name-items)) (environment r (rows l.scope) l.environment)
          ≡ with_exceptions (r.terms_before l.before) (words l.names) (environment r (rows l.fn.scope) l.outer);
      work :
          (r : Reading ℕ) → with_exceptions (r.terms_before l.before) (map word (drop l.name-index l.name-items)) (environment r (rows l.scope) l.environment)
          ≡ with_exceptions (r.terms_before l.before) (words l.names) (environment r (rows l.fn.scope) l.outer);
      within : l.environment ≤ length (rows l.scope);
      adds : AddsTo (rows l.fn.scope) (rows l.scope);
      right : AreRight (rows l.scope);
    }
