use Rattle.std.proofs.Common.{rules, ap, ◌∙◌, arith}
use Rattle.indexmap.specs.IndexMap.{get_by_text}
use Rattle.lt_types.specs.declared.name_stack.Item.{Item}
use Rattle.lt_types.proofs.Leading.{leads}
use Rattle.lt_types.proofs.Indexed.{names_push, pushed}
use Rattle.lt_types.proofs.name_stack.NameStack.push.Goals as goal

pub invariant_of-self-in-Ok : goal.invariant_of-self-in-Ok
invariant_of-self-in-Ok c =
    let item : Item = record { name = c.in_ok-from_str.field-0; hidden = c.copied.result } in
    pushed c.self.inside.items.items c.push.new.self.items item c.in_ok-key.key c.len-place.result c.self.inside.places c.insert.new.self (search rules) (search rules)
    (c.copied.ensures ∙ c.get.ensures.value ∙ ap (get_by_text c.self.inside.places) (search rules)) (search rules) c.in-Ok.ensures.updates c.self.invariant

pub returns-in_err-from_str : goal.returns-in_err-from_str
returns-in_err-from_str c = grind (arith, leads)

pub returns-in_err-key : goal.returns-in_err-key
returns-in_err-key c = grind (arith, leads)

pub returns-in_err-push : goal.returns-in_err-push
returns-in_err-push c = grind (arith, leads)

pub returns-clause-memory : goal.returns-clause-memory
returns-clause-memory c = grind (arith, leads, names_push)
