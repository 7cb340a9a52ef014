use Rattle.std.proofs.Common.{refl}
use Rattle.lt_term.proofs.Tallies.{caught_weighs}
use Rattle.lt_term.proofs.tally.caught.Goals as goal

pub returns : goal.returns
returns c =
    caught_weighs c.with_copies.result c.args.exception c.args.body (record c.args.body { raises = c.in_ok-raises.raises }) c.args.handler.now c.raised-copies.result
    c.raised-copies.ensures refl refl refl c.in_ok-raises.ensures c.with_copies.ensures
