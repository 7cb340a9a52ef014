-- The rows of a part.
use Rattle.std.proofs.Common.{refl}
use Rattle.lt_loop.specs.CoreView.{last_text}
use Rattle.lt_loop.specs.Run.{Answers}
use Rattle.lt_campaign.specs.Run as part
use Rattle.lt_campaign.specs.RunView.{run_view}
use Rattle.lt_campaign.proofs.Taking.{told_fault, told_wanted}
use Rattle.lt_campaign.proofs.run.take_part.Goals as goal

pub returns-in-Some-clause-part : goal.returns-in-Some-clause-part
returns-in-Some-clause-part g c =
    let old = run_view g.L.Link.state c.args.run.now in
    let new = run_view g.L.Link.state (record { core = c.fault_sides.new.core; controller = c.fault_sides.new.controller; oracle = c.fault_sides.new.oracle; wants = c.note.new.wants; broken = c.note.new.broken }) in
    told_fault Answers old new.standing (last_text c.fault_sides.new.core) c.fault_sides.result c.note.new.wants c.note.new.broken c.note.result c.note.ensures.wants c.note.ensures.broken c.note.ensures.traced
    c.in-Some.who c.in-Some.is c.fault_sides.ensures.told

pub returns-in-Nothing-clause-part : goal.returns-in-Nothing-clause-part
returns-in-Nothing-clause-part g c = part.over c.in-Nothing.field-0 c.in-None.is c.in-Nothing.is refl

pub returns-in_default : goal.returns-in_default
returns-in_default g c =
    let old = run_view g.L.Link.state c.args.run.now in
    let new = run_view g.L.Link.state (record { core = c.serve_sides.new.core; controller = c.serve_sides.new.controller; oracle = c.serve_sides.new.oracle; wants = c.note-in_default.new.wants; broken = c.note-in_default.new.broken }) in
    record {
      part = told_wanted Answers old new.standing (last_text c.serve_sides.new.core) c.serve_sides.result c.note-in_default.new.wants c.note-in_default.new.broken c.note-in_default.result c.note-in_default.ensures.wants c.note-in_default.ensures.broken c.note-in_default.ensures.traced
          c.in-None.is c.in_default.not-Nothing
          c.serve_sides.ensures.served;
      controller = c.serve_sides.ensures.controller;
      oracle = c.serve_sides.ensures.oracle;
    }
