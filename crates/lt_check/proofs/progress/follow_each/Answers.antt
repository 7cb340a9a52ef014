use Rattle.std.proofs.Common.{subst, sym}
use Rattle.std.proofs.lemmas.Result.{err_from_is_err_and}
use Rattle.lt_term.specs.View.{process}
use Rattle.lt_check.specs.declared.key.TermKey.{TermKey}
use Rattle.lt_check.specs.inner.Members.{Has}
use Rattle.lt_check.specs.inner.TermSet.{terms_of}
use Rattle.lt_check.proofs.StepTerms.{followed_more, halted_by, term_there}
use Rattle.lt_check.proofs.progress.follow_each.Goals as goal

pub follow-requires-clause-passes : goal.follow-requires-clause-passes
follow-requires-clause-passes c =
    let key = c.key-item.result in
    c.requires.passing (process key.term) (subst (λ (k : TermKey). Has (terms_of c.args.keys.now) (process k.term)) (sym c.key-item.is) (term_there c.args.keys.now c.loop-key.key-index key c.loop-key-test.true))

pub returns-in_err-all-clause-halts : goal.returns-in_err-all-clause-halts
returns-in_err-all-clause-halts c =
    let key = c.key-item.result in
    let has = subst (λ (k : TermKey). Has (terms_of c.args.keys.now) (process k.term)) (sym c.key-item.is) (term_there c.args.keys.now c.loop-key.key-index key c.loop-key-test.true) in
    let p = err_from_is_err_and c.from_residual.result c.from_residual.ensures.1 in
    rw (p.1, p.2) (halted_by c.args.moment.now c.args.shown.now (terms_of c.args.keys.now) (process key.term) has c.in_err-all.field-0.0 c.in_err-all.ensures.halts)

pub loop-key-preserved : goal.loop-key-preserved
loop-key-preserved c =
    let key = c.key-item.result in
    record {
      searcher = c.in_ok-all.ensures.searcher;
      tells = c.in_ok-all.ensures.tells;
      terms = followed_more c.args.moment.now c.args.shown.now c.args.keys.now c.loop-key.key-index key key (terms_of c.args.following.terms.keys) (terms_of c.loop-key.all.terms.keys) _ c.loop-key-test.true c.key-item.is c.loop-key.invariant.terms c.in_ok-all.ensures.follows;
    }
