-- What waited is written.
use Rattle.std.proofs.Common.{List, ℕ, subst, sym, Ok}
use Rattle.lt_io.specs.Sending.{IsPut}
use Rattle.lt_io.specs.declared.sink.Failed.{Failed}
use Rattle.lt_campaign.specs.inner.Writing.{HasText}
use Rattle.lt_campaign.proofs.Writing.{has_settled}
use Rattle.lt_campaign.proofs.framing.settle.Goals as goal

pub returns-clause-written : goal.returns-clause-written
returns-clause-written g c = λ start before has.
    let now = g.S.Sink.state c.args.trace.now in
    let after = g.S.Sink.state c.write_text.new.trace in
    let put = subst (λ (t : List ℕ). IsPut {E = Failed} t now after (Ok c.in_ok-write_text.field-0)) c.deref.ensures.value c.in_ok-write_text.ensures.put in
    subst (λ (w : List ℕ). HasText start after w before) (sym {A = List ℕ} c.clear.ensures.items)
    (has_settled start now after c.args.waiting.now.items before has put.all put.cause.calm c.write_text.ensures.still)
