use Rattle.std.proofs.Common.{◌≡◌, ◌++◌, take, drop}
use Rattle.lt_io.specs.MemSpawner.{first_link, without_first}
use Rattle.lt_io.proofs.mem_spawner.take_first.Given as goal

-- the links so far are of other commands
abbrev pub invariant-loop-place : goal.invariant-loop-place
invariant-loop-place l = record {
  same : l.links.items ≡ l.fn.links.items;
  first : first_link (drop l.place l.links.items) l.command ≡ first_link l.fn.links.items l.command;
  others : take l.place l.links.items ++ without_first (drop l.place l.links.items) l.command ≡ without_first l.fn.links.items l.command;
}
