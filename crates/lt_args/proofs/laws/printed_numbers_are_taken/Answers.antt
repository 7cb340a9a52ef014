use Rattle.lt_args.proofs.Numbers.{printed_numbers_are_taken}
use Rattle.lt_args.proofs.laws.printed_numbers_are_taken.Goals as goal

pub returns : goal.returns
returns c = printed_numbers_are_taken
