use Rattle.std.proofs.Common.{◌≡◌, ◌≤◌, ℕ, length, map, drop}
use Rattle.lt_macros.specs.Environment.{with_arguments}
use Rattle.lt_macros.specs.Denotation.{Denotation}
use Rattle.lt_macros.specs.inner.Parameters.{name_text}
use Rattle.lt_macros.specs.inner.Handing.{AreRight}
use Rattle.lt_macros.specs.inner.HeadNormalForm.{AddsTo}
use Rattle.lt_macros.specs.inner.Leads.{parameters}
use Rattle.lt_macros.specs.inner.Reading.{Reading, environment}
use Rattle.lt_macros.specs.inner.Rows.{rows}
use Rattle.lt_macros.proofs.declaring.put_parameters.Given as goal

-- the other parameters are still to be put
abbrev pub invariant-loop-param : goal.invariant-loop-param
invariant-loop-param l =
    record {
      denotation :
          (r : Reading Denotation) → with_arguments (map name_text (drop l.param-index l.params)) (parameters r.parameter (length (rows l.scope)) (map name_text (drop l.param-index l.params))) (environment r (rows l.scope) l.environment)
          ≡ with_arguments (map name_text l.params) (parameters r.parameter (length (rows l.fn.scope)) (map name_text l.params)) (environment r (rows l.fn.scope) l.outer);
      work :
          (r : Reading ℕ) → with_arguments (map name_text (drop l.param-index l.params)) (parameters r.parameter (length (rows l.scope)) (map name_text (drop l.param-index l.params))) (environment r (rows l.scope) l.environment)
          ≡ with_arguments (map name_text l.params) (parameters r.parameter (length (rows l.fn.scope)) (map name_text l.params)) (environment r (rows l.fn.scope) l.outer);
      within : l.environment ≤ length (rows l.scope);
      adds : AddsTo (rows l.fn.scope) (rows l.scope);
      right : AreRight (rows l.scope);
    }
