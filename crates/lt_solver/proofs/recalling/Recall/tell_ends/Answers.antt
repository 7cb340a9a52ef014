use Rattle.std.proofs.Common.{◌≡◌, Some, rules, ◌∙◌}
use Rattle.lt_solver.proofs.Recalls.{ends_told}
use Rattle.lt_solver.proofs.recalling.Recall.tell_ends.Goals as goal

pub returns-clause-told : goal.returns-clause-told
returns-clause-told c _ =
    let recall = c.args.self.now in
    let left = c.if-not-is_left.false in
    let is : recall.ends_of ≡ Some c.args.i = search rules in
    let lowest : c.copy_from_slice.new.self ≡ recall.lowest.items = c.copy_from_slice.ensures.after ∙ c.deref.ensures.value in
    let highest : c.copy_from_slice-2.new.self ≡ recall.highest.items = c.copy_from_slice-2.ensures.after ∙ c.deref-2.ensures.value in
    rw (lowest, highest)
    (ends_told recall.circuit recall.decimals c.args.space.now recall.scales.items c.args.scales.now recall.places.items c.args.current.now c.args.i recall.lowest.items recall.highest.items
    c.requires.copied.0 c.requires.copied.1 (c.is_left.ensures.scales left) (c.is_left.ensures.places left) (recall.ends c.args.i is))
