use Rattle.std.proofs.Common.{◌∙◌, arith, sym}
use Rattle.lt_need.proofs.Gatherings.{mark_new, reach_new, reach_old, reached_room}
use Rattle.lt_need.proofs.gathering.reach.Goals as goal

pub returns-then-index-clause-reaches : goal.returns-then-index-clause-reaches
returns-then-index-clause-reaches c =
    reach_old c.index.result.now c.args.marks.now.items c.args.reached.now.items c.args.number c.requires.within (sym c.index.ensures ∙ c.if-index.true) c.requires.reached

pub push_reserved-requires : goal.push_reserved-requires
push_reserved-requires c =
    omega (arith, c.requires.room, reached_room c.index.result.now c.args.marks.now.items c.args.reached.now.items c.args.number c.requires.within (sym c.index.ensures ∙ c.if-index.false) c.requires.reached)

pub returns-clause-reaches : goal.returns-clause-reaches
returns-clause-reaches c = reach_new c.args.reached.now.items c.push_reserved.new.self.items c.args.number c.push_reserved.ensures.items

pub returns-clause-reached : goal.returns-clause-reached
returns-clause-reached c =
    mark_new c.index.result.now c.args.marks.now.items c.args.reached.now.items c.push_reserved.new.self.items c.args.number c.requires.within (sym c.index.ensures ∙ c.if-index.false) c.push_reserved.ensures.items c.requires.reached
