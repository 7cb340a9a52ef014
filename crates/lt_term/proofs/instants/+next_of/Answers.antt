use Rattle.std.proofs.Common.{rules, ◌≡◌, ◌∙◌, ap, sym, arith}
use Rattle.lt_term.specs.Next.{beside}
use Rattle.lt_term.specs.UnfoldedView.{instant_at}
use Rattle.lt_term.specs.View.{kinds_of, process}
use Rattle.lt_term.specs.declared.waiting.Waiting.TheVariants as wait
use Rattle.lt_term.proofs.InstantParts.{alone-sound, con-there, first-earlier, inner-earlier, instant-under, instant-with, rule-there}
use Rattle.lt_term.proofs.Unfoldings.{if_ok}
use Rattle.lt_term.proofs.instants.+next_of.Goals as goal

pub next_of-requires : goal.next_of-requires
next_of-requires t c =
    let less = inner-earlier c.args.instants.now c.args.number _ c.in-Under.inner c.in-Under.rule c.requires.made c.requires.within c.in-Under.is in
    (omega (arith, c.decreases, less), (c.requires.made, (omega (arith, c.requires.within, less), c.requires.nothing)))

pub next_of-requires-in-Joined : goal.next_of-requires-in-Joined
next_of-requires-in-Joined t c =
    let less = first-earlier c.args.instants.now c.args.number _ c.in-Under.inner c.in-Under.rule c.requires.made c.requires.within c.in-Under.is c.in-Joined.first c.in-Joined.is in
    (omega (arith, c.decreases, less), (c.requires.made, (omega (arith, c.requires.within, less), c.requires.nothing)))

pub after-requires : goal.after-requires
after-requires t c = alone-sound c.args.number c.in-Under.rule c.in_default.not-Joined (rule-there c.args.instants.now c.args.number _ c.in-Under.inner c.in-Under.rule c.requires.made c.requires.within c.in-Under.is)

pub returns-in_ok-clone-in-Con : goal.returns-in_ok-clone-in-Con
returns-in_ok-clone-in-Con t c =
    let kinds = kinds_of c.args.locals.now in
    let e : process c.in_ok-clone-in-Con.field-0.value ≡ process c.args.nothing.now.value = search rules in
    e ∙ c.requires.nothing ∙ ap (λ i. i.next) (sym (con-there c.args.instants.now c.args.number _ c.in-Con.field-0 c.requires.made c.requires.within c.in-Con.is kinds))

pub returns-in_ok-side_by_side-in-Under : goal.returns-in_ok-side_by_side-in-Under
returns-in_ok-side_by_side-in-Under t c =
    let kinds = kinds_of c.args.locals.now in
    c.in_ok-side_by_side-in-Under.ensures
    ∙ (λ i. beside (c.in_ok-other-in-Under.ensures i) (c.in_ok-next-in-Under.ensures i))
    ∙ ap (λ i. i.next) (sym (instant-with c.args.instants.now c.args.number _ c.in-Under.inner c.in-Under.rule c.requires.made c.requires.within c.in-Under.is kinds (wait.Joined c.in-Joined.first) c.in-Joined.is))

pub returns-in_default : goal.returns-in_default
returns-in_default t c =
    let kinds = kinds_of c.args.locals.now in
    let at = instant_at kinds c.args.instants.now in
    if_ok _ _ c.after.result (λ x h. h at (at c.in-Under.inner) (sym c.in_ok-next-in-Under.ensures) ∙ ap (λ i. i.next) (sym (instant-under c.args.instants.now c.args.number _ c.in-Under.inner c.in-Under.rule c.requires.made c.requires.within c.in-Under.is kinds))) c.after.ensures
