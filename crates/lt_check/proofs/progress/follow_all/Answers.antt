use Rattle.std.proofs.Common.{◌≡◌, ◌∙◌, ℕ, List, ap, arith, length, subst, sym, take, true}
use Rattle.std.specs.List.{flat_map}
use Rattle.std.proofs.lemmas.Result.{IfErr-weaker, IfOk-weaker}
use Rattle.lt_legal.specs.declared.halt.Halt.{Halt}
use Rattle.lt_term.specs.Process.{Process}
use Rattle.lt_trace.specs.View.{step_view}
use Rattle.lt_check.specs.declared.following.Following.{Following}
use Rattle.lt_check.specs.declared.key.TermKey.{TermKey}
use Rattle.lt_check.specs.inner.MomentHolds.{moment_holds}
use Rattle.lt_check.specs.inner.MomentView.{followers, moment_scene}
use Rattle.lt_check.specs.inner.ProgressView.{AreHaltedBy, ArePassing, FollowAll, FollowSome}
use Rattle.lt_check.specs.inner.ShownPoints.{possible}
use Rattle.lt_check.specs.inner.TermSet.{terms_of}
use Rattle.lt_check.specs.inner.Terms.{with_each}
use Rattle.lt_check.proofs.Behind.{terms_long}
use Rattle.lt_check.proofs.Semantics.{Laws}
use Rattle.lt_check.proofs.StepTerms.{all_followed, halted_step, no_terms, none_followed, shown_in, some_followed}
use Rattle.lt_check.proofs.progress.follow_all.Goals as goal

counted : (items keys : List TermKey) (count : ℕ) → items ≡ keys → count ≡ length items → count ≡ length (terms_of keys)
counted items keys count same h = let e = ap (λ (xs : List TermKey). length xs) same in let long = terms_long keys in omega (arith, e, long, h)

pub returns-then-not-shown-clause-some : goal.returns-then-not-shown-clause-some
returns-then-not-shown-clause-some c =
    let m = c.args.moment.now in
    let step = step_view c.args.step.now in
    let ps = terms_of c.args.terms.now.keys in
    subst (λ (qs : List (Process ℕ)). FollowSome m step ps qs) (sym (no_terms c.args.none.terms.keys c.requires.none))
    (none_followed c.test_tells_points.ensures m step c.requires.kinded (sym c.in_ok-shown.ensures.points ∙ c.if-not-shown.true) ps).some

pub returns-then-not-shown-clause-all : goal.returns-then-not-shown-clause-all
returns-then-not-shown-clause-all c =
    let m = c.args.moment.now in
    let step = step_view c.args.step.now in
    let ps = terms_of c.args.terms.now.keys in
    λ few.
    subst (λ (qs : List (Process ℕ)). FollowAll m step ps qs) (sym (no_terms c.args.none.terms.keys c.requires.none))
    (none_followed c.test_tells_points.ensures m step c.requires.kinded (sym c.in_ok-shown.ensures.points ∙ c.if-not-shown.true) ps)

pub follow_each-requires-clause-passing : goal.follow_each-requires-clause-passing
follow_each-requires-clause-passing c =
    subst (λ (keys : List TermKey). ArePassing c.args.moment.now (terms_of keys)) (sym c.as_slice.ensures.keys) c.requires.passing

pub follow_each-requires-clause-shown : goal.follow_each-requires-clause-shown
follow_each-requires-clause-shown c =
    shown_in c.args.moment.now.scenario.now (step_view c.args.step.now) c.in_ok-shown.shown c.requires.kinded (sym c.in_ok-shown.ensures.points ∙ c.if-not-shown.false) c.in_ok-shown.ensures.raws

pub follow_each-requires-clause-tells : goal.follow_each-requires-clause-tells
follow_each-requires-clause-tells c = c.requires.tells (moment_holds c.args.moment.now c.in_ok-shown.shown)

pub returns-clause-some : goal.returns-clause-some
returns-clause-some c =
    let m = c.args.moment.now in
    let step = step_view c.args.step.now in
    let shown = c.in_ok-shown.shown in
    let ps = terms_of c.args.terms.now.keys in
    let laws : Laws = record { walked = c.walks_are_walked.ensures; legal = c.walk_is_legal.ensures; tell = c.legal_leaves_tell.ensures; stand = c.legal_leaves_stand.ensures; pass = c.solutions_pass.ensures } in
    let can : possible (moment_scene m) step ≡ true = sym c.in_ok-shown.ensures.points ∙ c.if-not-shown.false in
    let empty = no_terms c.args.none.terms.keys c.requires.none in
    let keys = c.as_slice.ensures.keys in
    IfOk-weaker c.follow_each.result _ _
    (λ (f : Following) h.
    some_followed laws c.test_tells_points.ensures m shown step c.in_ok-shown.ensures.raws c.in_ok-shown.ensures.marks c.in_ok-shown.ensures.locals c.requires.kinded can ps (terms_of f.terms.keys) h.0 c.requires.passing
    (h.2 ∙ (λ i. with_each (empty i) (flat_map (followers m shown) (take h.0 (terms_of (keys i)))))))
    c.follow_each.ensures.follows

pub returns-clause-all : goal.returns-clause-all
returns-clause-all c =
    let m = c.args.moment.now in
    let step = step_view c.args.step.now in
    let shown = c.in_ok-shown.shown in
    let ps = terms_of c.args.terms.now.keys in
    let laws : Laws = record { walked = c.walks_are_walked.ensures; legal = c.walk_is_legal.ensures; tell = c.legal_leaves_tell.ensures; stand = c.legal_leaves_stand.ensures; pass = c.solutions_pass.ensures } in
    let can : possible (moment_scene m) step ≡ true = sym c.in_ok-shown.ensures.points ∙ c.if-not-shown.false in
    let empty = no_terms c.args.none.terms.keys c.requires.none in
    let keys = c.as_slice.ensures.keys in
    IfOk-weaker c.follow_each.result _ _
    (λ (f : Following) h few.
    all_followed laws c.test_tells_points.ensures m shown step c.in_ok-shown.ensures.raws c.in_ok-shown.ensures.marks c.in_ok-shown.ensures.locals c.requires.kinded can ps (terms_of f.terms.keys) h.0 c.requires.passing
    (h.2 ∙ (λ i. with_each (empty i) (flat_map (followers m shown) (take h.0 (terms_of (keys i)))))) (counted c.as_slice.result.now c.args.terms.now.keys h.0 keys (h.3 few)))
    c.follow_each.ensures.follows

pub returns-clause-halts : goal.returns-clause-halts
returns-clause-halts c =
    let m = c.args.moment.now in
    let step = step_view c.args.step.now in
    let shown = c.in_ok-shown.shown in
    let ps = terms_of c.args.terms.now.keys in
    let can : possible (moment_scene m) step ≡ true = sym c.in_ok-shown.ensures.points ∙ c.if-not-shown.false in
    IfErr-weaker c.follow_each.result _ _
    (λ (h : Halt) k. halted_step m shown step ps c.in_ok-shown.ensures.raws c.in_ok-shown.ensures.marks can h (subst (λ (keys : List TermKey). AreHaltedBy m shown (terms_of keys) h) c.as_slice.ensures.keys k)) c.follow_each.ensures.halts
