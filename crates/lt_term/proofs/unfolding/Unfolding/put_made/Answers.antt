use Rattle.std.proofs.Common.{arith, ◌≡◌, ◌∙◌, sym, IsTrue, length, [], ◌∷◌, append-nil}
use Rattle.std.specs.List.{list_all}
use Rattle.lt_term.specs.inner.Linked.{are_made, is_sound}
use Rattle.lt_term.proofs.Numbered.{instant-more, links-sound-more, one_made, length_more}
use Rattle.lt_term.proofs.Unfoldings.{either_way, grows_not}
use Rattle.lt_term.proofs.unfolding.Unfolding.put_made.Goals as goal

pub invariant_of-self : goal.invariant_of-self
invariant_of-self c =
    let u = c.args.self.now in
    let m = c.args.made in
    record {
      linked = u.linked;
      made = either_way (λ ms. IsTrue (are_made 0 ms)) c.push.result _ _ _ c.push.ensures.items (one_made u.instants.items m u.made c.requires) u.made;
      sound = either_way (λ ms. IsTrue (list_all (λ l. is_sound (length ms) l.rule) u.rules.items)) c.push.result _ _ _ c.push.ensures.items
          (let more = length_more u.instants.items m in links-sound-more (length u.instants.items) _ u.rules.items (omega (arith, more)) u.sound) u.sound;
    }

pub returns-in_default-clause-grows : goal.returns-in_default-clause-grows
returns-in_default-clause-grows c = grows_not c.args.self.now

pub returns-in_err-push-clause-grows : goal.returns-in_err-push-clause-grows
returns-in_err-push-clause-grows c = record {
  more_rules = [];
  more_instants = [];
  rules = sym (append-nil _);
  instants = c.in_err-push.ensures.items ∙ sym (append-nil _);
}

pub returns-clause-grows : goal.returns-clause-grows
returns-clause-grows c = record {
  more_rules = [];
  more_instants = c.args.made ∷ [];
  rules = sym (append-nil _);
  instants = c.in_ok-push.ensures.items;
}

pub returns-clause-instant : goal.returns-clause-instant
returns-clause-instant c kinds =
    let ms = c.args.self.now.instants in
    let e : c.in-Ok.number ≡ length ms.items = omega (arith, c.in-Ok.ensures.1, c.len.ensures, ms.ok.0) in
    rw c.in_ok-push.ensures.items (instant-more kinds ms.items c.args.made c.in-Ok.number e)
