use Rattle.std.proofs.Common.{refl}
use Rattle.lt_term.proofs.Unfoldings.{grows_not}
use Rattle.lt_term.proofs.unfolding.Unfolding.unfold.Goals as goal

pub loop-stage-init : goal.loop-stage-init
loop-stage-init c = record { tree = λ kinds. refl; within = c.requires; grows = grows_not c.args.self.now }
