use Rattle.std.proofs.Common.{◌<◌, length, refl, ap, sym, subst, arith}
use Rattle.lt_macros.specs.inner.Handing.{AreRight}
use Rattle.lt_macros.specs.inner.HeadNormalForm.{AddsTo}
use Rattle.lt_macros.specs.inner.Rows.{rows}
use Rattle.lt_macros.specs.declared.scope.Entry.{Entry}
use Rattle.lt_macros.specs.declared.scope.Binding.TheVariants.{Argument}
use Rattle.lt_macros.proofs.Adding.{adds_one}
use Rattle.lt_macros.proofs.Putting.{bound_rest}
use Rattle.lt_macros.proofs.declaring.bind.Goals as goal

pub loop-param-preserved : goal.loop-param-preserved
loop-param-preserved c =
    let e : Entry = record { name = c.as_str.result; outer = c.loop-param.environment; binding = Argument c.phrase_of_argument.result c.args.written } in
    let more : c.loop-param.param-index < length c.args.params.now = omega (arith, c.loop-param-test.true, c.loop-param.auto.param-index-end) in
    record {
      denotation = λ r.
          bound_rest r (rows c.args.scope.now) (rows c.loop-param.scope) (rows c.push.new.self) e c.phrase_of_argument.result c.args.written c.in_ok-environment.environment c.loop-param.param-index
          c.args.params.now c.param-item.result c.loop-param.args.now c.in-Some.arg.now c.in-Some.others.now _
          more c.param-item.is c.in-Some.ensures.cases.0 c.as_str.ensures c.phrase_of_argument.ensures refl
          c.in_ok-environment.ensures.rows c.in_ok-environment.ensures.number c.loop-param.invariant.adds c.requires.written (c.loop-param.invariant.denotation r);
      work = λ r.
          bound_rest r (rows c.args.scope.now) (rows c.loop-param.scope) (rows c.push.new.self) e c.phrase_of_argument.result c.args.written c.in_ok-environment.environment c.loop-param.param-index
          c.args.params.now c.param-item.result c.loop-param.args.now c.in-Some.arg.now c.in-Some.others.now _
          more c.param-item.is c.in-Some.ensures.cases.0 c.as_str.ensures c.phrase_of_argument.ensures refl
          c.in_ok-environment.ensures.rows c.in_ok-environment.ensures.number c.loop-param.invariant.adds c.requires.written (c.loop-param.invariant.work r);
      within = omega (arith, ap length c.in_ok-environment.ensures.rows, c.in_ok-environment.ensures.number);
      adds = subst (AddsTo (rows c.args.scope.now)) (sym c.in_ok-environment.ensures.rows) (adds_one e _ _ c.loop-param.invariant.adds);
      right = subst AreRight (sym c.in_ok-environment.ensures.rows) (tt, c.loop-param.invariant.right);
    }
