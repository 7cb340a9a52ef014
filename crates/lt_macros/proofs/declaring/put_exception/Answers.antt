use Rattle.std.proofs.Common.{subst, sym}
use Rattle.lt_macros.specs.inner.HeadNormalForm.{AddsTo}
use Rattle.lt_macros.specs.inner.Rows.{rows}
use Rattle.lt_macros.proofs.Adding.{adds_none, adds_one}
use Rattle.lt_macros.proofs.declaring.put_exception.Goals as goal

pub returns-clause-adds : goal.returns-clause-adds
returns-clause-adds c = subst (AddsTo (rows c.args.scope.now)) (sym c.in_ok-push.ensures.rows) (adds_one _ _ _ (adds_none (rows c.args.scope.now)))
