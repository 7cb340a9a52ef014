use Rattle.std.proofs.Common.{◌≡◌, ◌<◌, ◌∙◌, ap, sym, subst, length}
use Rattle.lt_term.specs.Counted.{AreCounted}
use Rattle.lt_term.specs.Unfolded.{branch_at}
use Rattle.lt_term.specs.UnfoldedView.{term_of, parts_count}
use Rattle.lt_term.specs.UnfoldingView.{PartsAreCounted, parts_of}
use Rattle.lt_term.specs.View.{choices, process}
use Rattle.lt_term.specs.declared.root.Parts.{Parts}
use Rattle.lt_term.proofs.Unfoldings.{grows_not, later-at, part-counted, part-there}
use Rattle.lt_term.proofs.unfolding.Unfolding.part.Goals as goal

pub returns-then-number-gt0-clause-grows : goal.returns-then-number-gt0-clause-grows
returns-then-number-gt0-clause-grows c = grows_not c.args.self.now

pub returns-in-Among-clause-grows : goal.returns-in-Among-clause-grows
returns-in-Among-clause-grows c = grows_not c.args.self.now

pub returns-in-Among-clause-tree : goal.returns-in-Among-clause-tree
returns-in-Among-clause-tree c kinds =
    let u = c.args.self.now in
    let t : term_of c.of.result ≡ process c.index.result.now.1 = c.of.ensures.term in
    let within : c.args.number < length c.in-Among.choices.now.items = subst (λ (ps : Parts). c.args.number < parts_count ps) c.in-Among.is c.requires.number in
    later-at kinds u.rules.items u.instants.items c.of.result _ c.args.rules t c.of.ensures.rules
    ∙ part-there kinds u.rules.items u.instants.items c.args.rules c.in-Among.choices.now.items c.args.number c.index.result.now within c.index.ensures
    ∙ ap (λ (ps : Parts). branch_at (parts_of kinds u ps c.args.rules) c.args.number) (sym c.in-Among.is)

pub returns-in-Among-clause-within : goal.returns-in-Among-clause-within
returns-in-Among-clause-within c =
    let within : c.args.number < length c.in-Among.choices.now.items = subst (λ (ps : Parts). c.args.number < parts_count ps) c.in-Among.is c.requires.number in
    let counted : AreCounted (choices c.in-Among.choices.now.items) = subst (λ (ps : Parts). PartsAreCounted ps) c.in-Among.is c.requires.within.1 in
    part-counted c.args.self.now c.of.result c.in-Among.choices.now.items c.args.number c.args.rules c.index.result.now c.of.ensures.term c.of.ensures.rules c.requires.within.0 counted within c.index.ensures
