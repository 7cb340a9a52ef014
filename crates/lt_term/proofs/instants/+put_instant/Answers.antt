use Rattle.std.proofs.Common.{◌∙◌, ◌++◌, [], ◌∷◌, ap, sym, arith, append-nil}
use Rattle.lt_term.specs.UnfoldedView.{instant_at}
use Rattle.lt_term.specs.declared.waiting.Waiting.TheVariants as wait
use Rattle.lt_term.proofs.InstantParts.{con-there, first-earlier, inner-earlier, instant-under, instant-with, onto, same-constraints, same-locals}
use Rattle.lt_term.proofs.Unfoldings.{on_ok}
use Rattle.lt_term.proofs.instants.+put_instant.Goals as goal

pub put_instant-requires : goal.put_instant-requires
put_instant-requires t c =
    let less = first-earlier c.args.instants.now c.args.number _ c.in-Under.inner c.in-Under.rule c.requires.made c.requires.within c.in-Under.is c.in-Joined.first c.in-Joined.is in
    (omega (arith, c.decreases, less), (c.requires.made, omega (arith, c.requires.within, less)))

pub put_instant-requires-in-Joined : goal.put_instant-requires-in-Joined
put_instant-requires-in-Joined t c =
    let less = inner-earlier c.args.instants.now c.args.number _ c.in-Under.inner c.in-Under.rule c.requires.made c.requires.within c.in-Under.is in
    (omega (arith, c.decreases, less), (c.requires.made, omega (arith, c.requires.within, less)))

pub put_instant-requires-in-Assert : goal.put_instant-requires-in-Assert
put_instant-requires-in-Assert t c =
    let less = inner-earlier c.args.instants.now c.args.number _ c.in-Under.inner c.in-Under.rule c.requires.made c.requires.within c.in-Under.is in
    (omega (arith, c.decreases, less), (c.requires.made, omega (arith, c.requires.within, less)))

pub put_instant-requires-in-Exist : goal.put_instant-requires-in-Exist
put_instant-requires-in-Exist t c =
    let less = inner-earlier c.args.instants.now c.args.number _ c.in-Under.inner c.in-Under.rule c.requires.made c.requires.within c.in-Under.is in
    (omega (arith, c.decreases, less), (c.requires.made, omega (arith, c.requires.within, less)))

pub put_instant-requires-in_default : goal.put_instant-requires-in_default
put_instant-requires-in_default t c =
    let less = inner-earlier c.args.instants.now c.args.number _ c.in-Under.inner c.in-Under.rule c.requires.made c.requires.within c.in-Under.is in
    (omega (arith, c.decreases, less), (c.requires.made, omega (arith, c.requires.within, less)))

pub returns-in_ok-push-in-Con-clause-constraints : goal.returns-in_ok-push-in-Con-clause-constraints
returns-in_ok-push-in-Con-clause-constraints t c kinds =
    let e = con-there c.args.instants.now c.args.number _ c.in-Con.constraint c.requires.made c.requires.within c.in-Con.is kinds in
    c.in_ok-push-in-Con.ensures.items ∙ ap (λ i. c.args.constraints.now.items ++ i.constraints) (sym e)

pub returns-in_ok-push-in-Con-clause-locals : goal.returns-in_ok-push-in-Con-clause-locals
returns-in_ok-push-in-Con-clause-locals t c kinds =
    let e = con-there c.args.instants.now c.args.number _ c.in-Con.constraint c.requires.made c.requires.within c.in-Con.is kinds in
    sym (append-nil c.args.locals.now.items) ∙ ap (λ i. c.args.locals.now.items ++ i.locals) (sym e)

pub returns-in_ok-put_instant-in-Joined-clause-constraints : goal.returns-in_ok-put_instant-in-Joined-clause-constraints
returns-in_ok-put_instant-in-Joined-clause-constraints t c =
    on_ok c.put_instant-in-Joined.result (λ h kinds.
    onto c.args.constraints.now.items c.put_instant.new.constraints.items c.put_instant-in-Joined.new.constraints.items (instant_at kinds c.args.instants.now c.in-Joined.first).constraints (instant_at kinds c.args.instants.now c.in-Under.inner).constraints _
    (c.in_ok-put_instant-in-Joined.ensures.constraints kinds) (h kinds)
    (ap (λ i. i.constraints) (instant-with c.args.instants.now c.args.number _ c.in-Under.inner c.in-Under.rule c.requires.made c.requires.within c.in-Under.is kinds (wait.Joined c.in-Joined.first) c.in-Joined.is)))
    c.put_instant-in-Joined.ensures.constraints

pub returns-in_ok-put_instant-in-Joined-clause-locals : goal.returns-in_ok-put_instant-in-Joined-clause-locals
returns-in_ok-put_instant-in-Joined-clause-locals t c =
    on_ok c.put_instant-in-Joined.result (λ h kinds.
    onto c.args.locals.now.items c.put_instant.new.locals.items c.put_instant-in-Joined.new.locals.items (instant_at kinds c.args.instants.now c.in-Joined.first).locals (instant_at kinds c.args.instants.now c.in-Under.inner).locals _
    (c.in_ok-put_instant-in-Joined.ensures.locals kinds) (h kinds)
    (ap (λ i. i.locals) (instant-with c.args.instants.now c.args.number _ c.in-Under.inner c.in-Under.rule c.requires.made c.requires.within c.in-Under.is kinds (wait.Joined c.in-Joined.first) c.in-Joined.is)))
    c.put_instant-in-Joined.ensures.locals

pub returns-in_ok-push-in-Assert-clause-constraints : goal.returns-in_ok-push-in-Assert-clause-constraints
returns-in_ok-push-in-Assert-clause-constraints t c =
    on_ok c.put_instant-in-Assert.result (λ h kinds.
    onto c.args.constraints.now.items _ c.put_instant-in-Assert.new.constraints.items (c.in-Assert.constraint ∷ []) (instant_at kinds c.args.instants.now c.in-Under.inner).constraints _
    c.in_ok-push-in-Assert.ensures.items (h kinds)
    (ap (λ i. i.constraints) (instant-with c.args.instants.now c.args.number _ c.in-Under.inner c.in-Under.rule c.requires.made c.requires.within c.in-Under.is kinds (wait.Assert c.in-Assert.constraint) c.in-Assert.is)))
    c.put_instant-in-Assert.ensures.constraints

pub returns-in_ok-push-in-Assert-clause-locals : goal.returns-in_ok-push-in-Assert-clause-locals
returns-in_ok-push-in-Assert-clause-locals t c =
    on_ok c.put_instant-in-Assert.result (λ h kinds.
    h kinds ∙ ap (λ i. c.args.locals.now.items ++ i.locals) (sym (instant-with c.args.instants.now c.args.number _ c.in-Under.inner c.in-Under.rule c.requires.made c.requires.within c.in-Under.is kinds (wait.Assert c.in-Assert.constraint) c.in-Assert.is)))
    c.put_instant-in-Assert.ensures.locals

pub returns-in_ok-push-in-Exist-clause-locals : goal.returns-in_ok-push-in-Exist-clause-locals
returns-in_ok-push-in-Exist-clause-locals t c =
    on_ok c.put_instant-in-Exist.result (λ h kinds.
    onto c.args.locals.now.items _ c.put_instant-in-Exist.new.locals.items ((c.in-Exist.local, c.in-Exist.last) ∷ []) (instant_at kinds c.args.instants.now c.in-Under.inner).locals _
    c.in_ok-push-in-Exist.ensures.items (h kinds)
    (ap (λ i. i.locals) (instant-with c.args.instants.now c.args.number _ c.in-Under.inner c.in-Under.rule c.requires.made c.requires.within c.in-Under.is kinds (wait.Exist c.in-Exist.local c.in-Exist.last) c.in-Exist.is)))
    c.put_instant-in-Exist.ensures.locals

pub returns-in_ok-push-in-Exist-clause-constraints : goal.returns-in_ok-push-in-Exist-clause-constraints
returns-in_ok-push-in-Exist-clause-constraints t c =
    on_ok c.put_instant-in-Exist.result (λ h kinds.
    h kinds ∙ ap (λ i. c.args.constraints.now.items ++ i.constraints) (sym (instant-with c.args.instants.now c.args.number _ c.in-Under.inner c.in-Under.rule c.requires.made c.requires.within c.in-Under.is kinds (wait.Exist c.in-Exist.local c.in-Exist.last) c.in-Exist.is)))
    c.put_instant-in-Exist.ensures.constraints

pub returns-in_default : goal.returns-in_default
returns-in_default t c = record {
  constraints = on_ok c.put_instant-in_default.result (λ h kinds.
      h kinds
      ∙ ap (λ xs. c.args.constraints.now.items ++ xs) (sym (same-constraints kinds (instant_at kinds c.args.instants.now) (instant_at kinds c.args.instants.now c.in-Under.inner) c.in-Under.rule c.in_default.not-Joined c.in_default.not-Assert))
      ∙ ap (λ i. c.args.constraints.now.items ++ i.constraints) (sym (instant-under c.args.instants.now c.args.number _ c.in-Under.inner c.in-Under.rule c.requires.made c.requires.within c.in-Under.is kinds)))
      c.put_instant-in_default.ensures.constraints;
  locals = on_ok c.put_instant-in_default.result (λ h kinds.
      h kinds
      ∙ ap (λ xs. c.args.locals.now.items ++ xs) (sym (same-locals kinds (instant_at kinds c.args.instants.now) (instant_at kinds c.args.instants.now c.in-Under.inner) c.in-Under.rule c.in_default.not-Joined c.in_default.not-Exist))
      ∙ ap (λ i. c.args.locals.now.items ++ i.locals) (sym (instant-under c.args.instants.now c.args.number _ c.in-Under.inner c.in-Under.rule c.requires.made c.requires.within c.in-Under.is kinds)))
      c.put_instant-in_default.ensures.locals;
}
