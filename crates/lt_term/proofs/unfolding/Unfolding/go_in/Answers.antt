use Rattle.std.proofs.Common.{◌≡◌, ◌∙◌, ap, subst, ℕ}
use Rattle.lt_term.specs.Counted.{IsCounted}
use Rattle.lt_term.specs.Process.{Process, seq, par, catch}
use Rattle.lt_term.specs.UnfoldedView.{process_of}
use Rattle.lt_term.specs.View.{process}
use Rattle.lt_term.proofs.Counting.{counted-passes}
use Rattle.lt_term.proofs.Unfoldings.{grows_not}
use Rattle.lt_term.proofs.unfolding.Unfolding.go_in.Goals as goal

pub returns-in_default-clause-grows : goal.returns-in_default-clause-grows
returns-in_default-clause-grows c = grows_not c.args.self.now

pub returns-in-Eps-clause-grows : goal.returns-in-Eps-clause-grows
returns-in-Eps-clause-grows c = grows_not c.args.self.now

pub returns-in-Dead-clause-grows : goal.returns-in-Dead-clause-grows
returns-in-Dead-clause-grows c = grows_not c.args.self.now

pub returns-in-Raise-clause-grows : goal.returns-in-Raise-clause-grows
returns-in-Raise-clause-grows c = grows_not c.args.self.now

pub go_under-requires-clause-sound : goal.go_under-requires-clause-sound
go_under-requires-clause-sound c =
    let P : Process ℕ → Type 0 = IsCounted in
    let whole : process_of c.args.later.term ≡ seq (process c.in-Seq.first.value) (process c.in-Seq.second.value) = ap process_of c.in-Some.is ∙ ap process c.in-Seq.is in
    counted-passes (process c.in-Seq.second.value) (subst P whole c.requires.counted).1

pub go_under-requires-in-Par-clause-sound : goal.go_under-requires-in-Par-clause-sound
go_under-requires-in-Par-clause-sound c =
    let P : Process ℕ → Type 0 = IsCounted in
    let whole : process_of c.args.later.term ≡ par (process c.in-Par.first.value) (process c.in-Par.second.value) = ap process_of c.in-Some.is ∙ ap process c.in-Par.is in
    counted-passes (process c.in-Par.second.value) (subst P whole c.requires.counted).1

pub go_under-requires-in-Catch-clause-sound : goal.go_under-requires-in-Catch-clause-sound
go_under-requires-in-Catch-clause-sound c =
    let P : Process ℕ → Type 0 = IsCounted in
    let whole : process_of c.args.later.term ≡ catch c.in-Catch.exception (process c.in-Catch.body.value) (process c.in-Catch.otherwise.value) = ap process_of c.in-Some.is ∙ ap process c.in-Catch.is in
    counted-passes (process c.in-Catch.otherwise.value) (subst P whole c.requires.counted).1
