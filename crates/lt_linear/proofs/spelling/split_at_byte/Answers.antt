use Rattle.std.proofs.Common.{◌+◌, refl, rules}
use Rattle.lt_linear.proofs.Spellings.{behind_place, is_cut, lacks_there, none_at}
use Rattle.lt_linear.proofs.spelling.split_at_byte.Goals as goal

pub returns-in_err-place : goal.returns-in_err-place
returns-in_err-place c = none_at c.from_residual.result _ _ (search rules) (lacks_there c.args.byte c.args.text.now c.in_err-place.ensures)

pub returns : goal.returns
returns c = is_cut c.args.byte c.args.text.now _ _ c.in_ok-place.place c.in_ok-place.ensures refl (behind_place c.args.text.now (c.in_ok-place.place + 1))
