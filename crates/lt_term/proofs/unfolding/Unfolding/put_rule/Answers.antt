use Rattle.std.proofs.Common.{arith, ◌≡◌, ◌∙◌, sym, suc, IsTrue, length, [], append-nil}
use Rattle.std.specs.List.{list_all}
use Rattle.lt_term.specs.declared.waiting.Link.{Link}
use Rattle.lt_term.specs.inner.Linked.{are_linked, is_sound}
use Rattle.lt_term.proofs.Numbered.{chain-more, links-pass-more, one_linked}
use Rattle.lt_term.proofs.Unfoldings.{either_way, length_after}
use Rattle.lt_term.proofs.unfolding.Unfolding.put_rule.Goals as goal

pub invariant_of-self : goal.invariant_of-self
invariant_of-self c =
    let u = c.args.self.now in
    let l : Link = record { rule = c.args.rule; outer = c.args.outer } in
    record {
      linked = either_way (λ ls. IsTrue (are_linked 1 ls)) c.push.result _ _ _ c.push.ensures.items (one_linked u.rules.items l u.linked c.requires.rules) u.linked;
      made = u.made;
      sound = either_way (λ ls. IsTrue (list_all (λ m. is_sound (length u.instants.items) m.rule) ls)) c.push.result _ _ _ c.push.ensures.items (links-pass-more (is_sound (length u.instants.items)) u.rules.items l u.sound c.requires.sound) u.sound;
    }

pub returns-in_err-push-clause-grows : goal.returns-in_err-push-clause-grows
returns-in_err-push-clause-grows c = record {
  more_rules = [];
  more_instants = [];
  rules = c.in_err-push.ensures.items ∙ sym (append-nil _);
  instants = sym (append-nil _);
}

pub returns-clause-chain : goal.returns-clause-chain
returns-clause-chain c =
    let ls = c.args.self.now.rules.items in
    let l : Link = record { rule = c.args.rule; outer = c.args.outer } in
    let more = length_after ls c.push.new.self.items l c.in_ok-push.ensures.items in
    let e : c.in-Ok.number ≡ suc (length ls) = omega (arith, c.in-Ok.ensures.1, c.len.ensures, c.push.new.self.ok.0, more) in
    rw c.in_ok-push.ensures.items (chain-more ls l c.in-Ok.number e)
