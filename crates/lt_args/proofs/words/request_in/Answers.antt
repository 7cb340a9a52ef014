use Rattle.std.proofs.Common.{arith, codes}
use Rattle.clap.specs.Words.{found_of, rows_of}
use Rattle.lt_args.proofs.Read.{at_least, at_most, wider}
use Rattle.lt_args.specs.Settings.{default_count, default_decimals, default_steps, most_budget, most_count, most_decimals, most_draw, most_seed, most_steps}
use Rattle.lt_args.proofs.words.request_in.Goals as goal

pub number_in-requires : goal.number_in-requires
number_in-requires c = wider (codes "limit") 0 most_steps most_seed (rows_of (found_of c.args.found.now)) (omega arith) c.requires.fits.limit

pub number_in-requires-3 : goal.number_in-requires-3
number_in-requires-3 c = wider (codes "draw") 1 most_draw most_seed (rows_of (found_of c.args.found.now)) (omega arith) c.requires.fits.draw

pub number_in-requires-4 : goal.number_in-requires-4
number_in-requires-4 c = wider (codes "budget") 1 most_budget most_seed (rows_of (found_of c.args.found.now)) (omega arith) c.requires.fits.budget

pub number_in-requires-5 : goal.number_in-requires-5
number_in-requires-5 c = wider (codes "count") 1 most_count most_seed (rows_of (found_of c.args.found.now)) (omega arith) c.requires.fits.count

pub returns-clause-within : goal.returns-clause-within
returns-clause-within c =
    let rows = rows_of (found_of c.args.found.now) in
    record {
      limit = rw (c.unwrap_or.ensures, c.number_in.ensures) (at_most (codes "limit") 0 most_steps default_steps rows (omega arith) c.requires.fits.limit);
      decimals = rw (c.unwrap_or-4.ensures, c.decimals_in.ensures) (at_most (codes "precision") 0 most_decimals default_decimals rows (omega arith) c.requires.fits.decimals);
      number = c.requires.small;
      some = rw (c.unwrap_or-6.ensures, c.number_in-5.ensures) (at_least (codes "count") 1 most_count default_count rows (omega arith) c.requires.fits.count);
      count = rw (c.unwrap_or-6.ensures, c.number_in-5.ensures) (at_most (codes "count") 1 most_count default_count rows (omega arith) c.requires.fits.count);
    }
