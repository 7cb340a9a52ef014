use Rattle.std.proofs.Common.{ap, length, ◌∙◌, arith}
use Rattle.lt_solver.proofs.Written.{refilled}
use Rattle.lt_solver.proofs.search_scratch.SearchScratch.prepare.Goals as goal

pub returns-clause-roomy : goal.returns-clause-roomy
returns-clause-roomy c variables gates roomy = c.keep.ensures.roomy variables gates (record {
  scales = roomy.scales;
  starts = roomy.starts;
  current = roomy.current;
  stack = roomy.stack;
  wide = record {
    widened = roomy.wide.widened;
    point = roomy.wide.point;
    copy = roomy.wide.copy;
    kleenes = roomy.wide.kleenes;
  };
  latest =
      let same = c.find_ties.ensures.latest ∙ ap length c.deref_mut.ensures.value in
      omega (arith, ap length (refilled c.args.self.now.latest.len c.args.self.now.latest.items c.find_ties.new.latest c.args.self.now.latest.ok.0 same), same, roomy.latest);
  same = omega (arith, roomy.same, c.find_ties.ensures.room);
  need = roomy.need;
})
