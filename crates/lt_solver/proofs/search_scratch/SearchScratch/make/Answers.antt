use Rattle.std.proofs.Common.{rules}
use Rattle.lt_solver.proofs.search_scratch.SearchScratch.make.Goals as goal

pub returns-clause-roomy : goal.returns-clause-roomy
returns-clause-roomy c = record {
  scales = search rules;
  starts = search rules;
  current = search rules;
  stack = search rules;
  wide = search rules;
  latest = search rules;
  same = search rules;
  need = search rules;
}
