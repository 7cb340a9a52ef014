use Rattle.std.proofs.Common.{◌<◌, length, arith}
use Rattle.lt_macros.proofs.Adding.{adds_both}
use Rattle.lt_macros.proofs.Putting.{put_more}
use Rattle.lt_macros.proofs.declaring.put_exceptions.Goals as goal

pub loop-name-preserved : goal.loop-name-preserved
loop-name-preserved c =
    let more : c.loop-name.name-index < length c.deref-name-items.result.now = omega (arith, c.loop-name-test.true, c.loop-name.auto.name-index-end) in
    record {
      denotation = λ r. put_more c.deref-name-items.result.now c.loop-name.name-index c.name-item.result _ _ _ _ more c.name-item.is (c.in_ok-environment.ensures.denotation r) (c.loop-name.invariant.denotation r);
      work = λ r. put_more c.deref-name-items.result.now c.loop-name.name-index c.name-item.result _ _ _ _ more c.name-item.is (c.in_ok-environment.ensures.work r) (c.loop-name.invariant.work r);
      within = c.in_ok-environment.ensures.within;
      adds = adds_both _ _ _ c.loop-name.invariant.adds c.in_ok-environment.ensures.adds;
      right = c.in_ok-environment.ensures.right;
    }
