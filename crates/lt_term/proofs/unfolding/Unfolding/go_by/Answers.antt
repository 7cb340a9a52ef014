use Rattle.std.proofs.Common.{IsTrue, length, subst}
use Rattle.lt_term.specs.View.{process}
use Rattle.lt_term.specs.inner.Linked.{is_sound}
use Rattle.lt_term.proofs.Counting.{passes-counted}
use Rattle.lt_term.proofs.unfolding.Unfolding.go_by.Goals as goal

pub go_under-requires-clause-counted : goal.go_under-requires-clause-counted
go_under-requires-clause-counted c = passes-counted (process c.in-Par.second.now.value) (subst (λ r. IsTrue (is_sound (length c.args.self.now.instants.items) r)) c.in-Par.is c.requires.sound)
