use Rattle.std.proofs.Common.{◌≡◌, ◌+◌, ℕ, refl, subst}
use Rattle.lt_loop.specs.Play.{steps_of}
use Rattle.lt_loop.specs.CoreView.{last_text}
use Rattle.lt_drive.specs.Drive.{failed_step}
use Rattle.lt_drive.proofs.PutOuts.{put_all, put_nothing, put_some}
use Rattle.lt_drive.proofs.putting.put_traced.Goals as goal

pub returns-in_default : goal.returns-in_default
returns-in_default g c =
    let t = g.S.Sink.state c.args.trace.now in
    let text = last_text {b = g.M.Machine} c.args.core.now in
    put_nothing c.args.core.now.written c.args.wants text text refl t t c.args.traced c.progress_of.result c.in_default.is c.progress_of.ensures

pub returns-in-Ok : goal.returns-in-Ok
returns-in-Ok g c =
    let text = last_text {b = g.M.Machine} c.args.core.now in
    put_all c.args.core.now.written c.args.wants c.text.result.now text c.text.ensures (g.S.Sink.state c.args.trace.now) (g.S.Sink.state c.put_counted.new.sink) c.args.traced c.in-Some.kind c.progress_of-in-Ok.result c.in-Some.is
    c.in-Ok.ensures.all c.in-Ok.ensures.cause.calm c.in-Ok.ensures.still c.progress_of-in-Ok.ensures

pub returns-in-Err : goal.returns-in-Err
returns-in-Err g c =
    let text = last_text {b = g.M.Machine} c.args.core.now in
    let number = subst (λ (n : ℕ). (m : ℕ) → n ≡ m + steps_of c.in-Some.kind → c.failed_step.result ≡ failed_step c.in-Some.kind m) c.steps.ensures c.failed_step.ensures in
    put_some c.args.core.now.written c.args.wants c.text.result.now text c.text.ensures (g.S.Sink.state c.args.trace.now) (g.S.Sink.state c.put_counted.new.sink) c.args.traced c.in-Some.kind c.in-Err.field-0 c.failed_step.result c.in-Some.is
    c.in-Err.ensures.part c.in-Err.ensures.prefix c.in-Err.ensures.cause.failed number
