use Rattle.lt_macros.specs.Tree.{declared}
use Rattle.lt_expand.proofs.Refused.{given_found}
use Rattle.lt_expand.proofs.places.given_places.Goals as goal

pub returns : goal.returns
returns c = λ over. given_found c.args.decimals over (declared c.args.given.now) c.bad_first.result c.none.result c.bad_first.ensures c.none.ensures
