use Rattle.std.proofs.Common.{List, ℕ, ap, sym, subst, take, ◌∙◌}
use Rattle.std.specs.List.{concat}
use Rattle.std.specs.Io.KnownBytes.{Appends}
use Rattle.lt_io.specs.Gathering.{AppendsUpTo, StandsBehind}
use Rattle.lt_io.proofs.Gathering.{concat_cut, written_up_to}
use Rattle.lt_io.proofs.gathered.Gathered.settle.Goals as goal

pub returns-in-Ok-clause-settled : goal.returns-in-Ok-clause-settled
returns-in-Ok-clause-settled g c =
    let old = c.self.inside in
    let before = (g.S.Sink.state c.args.sink.now).written in
    let after = (g.S.Sink.state c.put_counted.new.sink).written in
    record {
      all = subst (λ (t : List ℕ). Appends before after t) (c.deref.ensures.value ∙ sym (concat_cut old.lengths.items old.bytes.items c.self.invariant) ∙ ap concat c.self.view_is) c.in-Ok.ensures.all;
      part = tt;
      cause = c.in-Ok.ensures.cause;
      still = c.in-Ok.ensures.still;
    }

pub returns-in-Err-clause-settled : goal.returns-in-Err-clause-settled
returns-in-Err-clause-settled g c =
    let old = c.self.inside in
    let before = (g.S.Sink.state c.args.sink.now).written in
    let after = (g.S.Sink.state c.put_counted.new.sink).written in
    let wrote = subst (λ (t : List ℕ). Appends before after (take c.in-Err.written t)) c.deref.ensures.value c.in-Err.ensures.prefix in
    let stands = subst (λ (t : List ℕ). StandsBehind t c.in-Err.written c.behind.result) c.deref-in-Err.ensures.value c.behind.ensures in
    record {
      all = tt;
      part = subst (λ (t : List (List ℕ)). AppendsUpTo before after t c.behind.result) c.self.view_is
          (written_up_to before after old.lengths.items old.bytes.items c.in-Err.written c.behind.result c.self.invariant stands wrote);
      cause = record { later = c.in-Err.ensures.cause.later; failed = c.in-Err.ensures.cause.failed; calm = tt };
      still = c.in-Err.ensures.still;
    }
