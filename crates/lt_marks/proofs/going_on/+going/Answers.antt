use Rattle.std.proofs.Common.{[], true, ap, sym, ◌∙◌, subst}
use Rattle.lt_term.specs.Advanced.{advanced}
use Rattle.lt_term.specs.Process.{any}
use Rattle.lt_marks.specs.Tallied.{IsTallied, extent_of}
use Rattle.lt_marks.specs.View.{body, choices_of, next, next_each, standing_each}
use Rattle.lt_marks.proofs.Advances.{choices_stay}
use Rattle.lt_marks.proofs.Tallies.{whole_stays}
use Rattle.lt_marks.proofs.Terms.{any_new}
use Rattle.lt_marks.proofs.going_on.+going.Goals as goal

-- a choice in none of whose parts the run goes on is at its beginning
pub step-returns-in_default-next-3 : goal.step-returns-in_default-next-3
step-returns-in_default-next-3 t c =
    let m = c.in-Any.marks.next in
    let ps = c.in-Any.parts.value in
    let vs = c.args.values.now in
    record {
      same_body = sym (ap body c.in-Any.is);
      goes_on =
          any_new [] m (choices_of ps) (standing_each ps) c.in_default-next-3.not-Chosen
          ∙ sym (ap any (choices_stay vs ps))
          ∙ sym (ap (advanced vs) (any_new [] m (choices_of ps) (next_each ps) c.in_default-next-3.not-Chosen))
          ∙ sym (ap (λ u. advanced vs (next u)) c.in-Any.is);
      parts = (subst IsTallied c.in-Any.is c.requires).2;
      whole = sym (ap (extent_of true) c.in-Any.is);
    }

pub go_on_in-settle-requires-clause-whole : goal.go_on_in-settle-requires-clause-whole
go_on_in-settle-requires-clause-whole t c =
    let v = c.deref_mut-2.ensures.value in
    whole_stays _ _ (ap (extent_of true) v ∙ c.step.ensures.whole) (ap body v ∙ c.step.ensures.same_body) (subst IsTallied (sym c.deref_mut.ensures.value) c.requires)
