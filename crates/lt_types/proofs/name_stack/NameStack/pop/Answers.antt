use Rattle.std.proofs.Common.{ap, drop, ◌∙◌}
use Rattle.lt_types.proofs.Indexed.{names_pop, removed, restored}
use Rattle.lt_types.proofs.name_stack.NameStack.pop.Goals as goal

pub invariant_of-self : goal.invariant_of-self
invariant_of-self c =
    restored c.self.inside.items.items c.pop.new.self.items c.in-Some.item c.in-Some-hidden.place c.insert.result c.self.inside.places c.insert.new.self c.in-Some.ensures.items c.in-Some-hidden.is
    c.insert.ensures.updates c.insert.ensures.absent c.self.invariant

pub invariant_of-self-in-Some : goal.invariant_of-self-in-Some
invariant_of-self-in-Some c =
    removed c.self.inside.items.items c.pop.new.self.items c.in-Some.item c.as_str.result.now c.self.inside.places c.swap_remove.new.self c.in-Some.ensures.items c.in-None.is c.as_str.ensures.value
    c.swap_remove.ensures.updates c.self.invariant

pub returns-in-Some-hidden : goal.returns-in-Some-hidden
returns-in-Some-hidden c = names_pop c.self.inside.items.items c.pop.new.self.items c.in-Some.item c.in-Some.ensures.items ∙ ap (drop 1) c.self.view_is

pub returns-in-None : goal.returns-in-None
returns-in-None c = names_pop c.self.inside.items.items c.pop.new.self.items c.in-Some.item c.in-Some.ensures.items ∙ ap (drop 1) c.self.view_is
