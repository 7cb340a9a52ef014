-- The link that is given out was the first to come of its command.
use Rattle.std.proofs.Common.{Some, ap, refl, rules}
use Rattle.lt_io.proofs.Links.{starts_first, others_stay}
use Rattle.lt_io.proofs.mem_spawner.MemSpawnerSpawner.start.Goals as goal

pub returns-clause-started : goal.returns-clause-started
returns-clause-started c = record {
  first = starts_first c.args.self.now.links.items c.next_link.new.self.links.items c.args.command.now c.in-Some.link c.restart.new.self.left c.in-Some.ensures.some c.in-Some.ensures.taken (search rules);
  others = λ other apart. rw c.in-Some.ensures.taken (ap Some (others_stay _ _ other apart));
  fresh = refl;
  unsent = search rules;
  tells = tt;
  faultless = search rules;
  asked = search rules;
  closed = search rules;
  faults = search rules;
}
