use Rattle.std.proofs.Common.{◌≡◌, ◌<◌, ◌∙◌, ℕ, List, get_or, length, subst, sym}
use Rattle.std.proofs.lemmas.Result.{err_from_is_err_and}
use Rattle.lt_term.specs.View.{process}
use Rattle.lt_check.specs.declared.key.TermKey.{TermKey}
use Rattle.lt_check.specs.inner.Members.{Has}
use Rattle.lt_check.specs.inner.TermSet.{terms_of}
use Rattle.lt_check.proofs.Checked.{end_halted_by, none_more, none_of_all}
use Rattle.lt_check.proofs.StepTerms.{term_there}
use Rattle.lt_check.proofs.checking.ends_somewhere.Goals as goal

-- the term of a number is one of those of the keys
key_has : (items keys : List TermKey) (i : ℕ) (key : TermKey) → items ≡ keys → i < length items → key ≡ get_or items i key → Has (terms_of keys) (process key.term)
key_has items keys i key same l is =
    subst (λ (ks : List TermKey). Has (terms_of ks) (process key.term)) same (subst (λ (k : TermKey). Has (terms_of items) (process k.term)) (sym is) (term_there items i key l))

pub may_end-requires-clause-passes : goal.may_end-requires-clause-passes
may_end-requires-clause-passes c =
    let key = c.key-item.result in
    c.requires.sound.passing (process key.term) (key_has c.as_slice-key-items.result.now c.args.progress.terms.keys c.loop-key.key-index key c.as_slice-key-items.ensures.keys c.loop-key-test.true c.key-item.is)

pub returns-in_err-ending-clause-halts : goal.returns-in_err-ending-clause-halts
returns-in_err-ending-clause-halts c =
    let key = c.key-item.result in
    let has = key_has c.as_slice-key-items.result.now c.args.progress.terms.keys c.loop-key.key-index key c.as_slice-key-items.ensures.keys c.loop-key-test.true c.key-item.is in
    let p = err_from_is_err_and c.from_residual.result c.from_residual.ensures.1 in
    rw (p.1, p.2) (end_halted_by c.args.progress.moment (terms_of c.args.progress.terms.keys) c.args.end (process key.term) has c.in_err-ending.field-0.0 c.in_err-ending.ensures.halts)

pub returns-then-ending-clause-tells : goal.returns-then-ending-clause-tells
returns-then-ending-clause-tells c =
    let key = c.key-item.result in (
      process key.term,
      key_has c.as_slice-key-items.result.now c.args.progress.terms.keys c.loop-key.key-index key c.as_slice-key-items.ensures.keys c.loop-key-test.true c.key-item.is,
      sym c.in_ok-ending.ensures.tells ∙ c.if-ending.true,
    )

pub loop-key-preserved : goal.loop-key-preserved
loop-key-preserved c =
    let key = c.key-item.result in
    let keys = c.args.progress.terms.keys in
    let i = c.loop-key.key-index in
    let same = c.as_slice-key-items.ensures.keys in
    record {
      searcher = c.in_ok-ending.ensures.searcher;
      none =
          none_more c.args.progress.moment keys c.args.end i key key (subst (λ (ks : List TermKey). i < length ks) same c.loop-key-test.true) (subst (λ (ks : List TermKey). key ≡ get_or ks i key) same c.key-item.is) c.loop-key.invariant.none
          (sym c.in_ok-ending.ensures.tells ∙ c.if-ending.false);
    }

pub returns-clause-tells : goal.returns-clause-tells
returns-clause-tells c =
    none_of_all c.args.progress.moment c.args.progress.terms.keys c.as_slice-key-items.result.now c.args.end c.loop-key.key-index c.as_slice-key-items.ensures.keys c.loop-key-test.false c.loop-key.invariant.none
