use Rattle.std.proofs.Common.{◌≡◌, ◌≤◌, ◌-◌, ◌∙◌, arith, length, drop, take, length-drop}
use Rattle.std.proofs.lemmas.List.{take_all}
use Rattle.lt_io.proofs.Texts.{written_more}
use Rattle.lt_io.proofs.putting.put_counted.Goals as goal

pub loop-written-preserved : goal.loop-written-preserved
loop-written-preserved g c =
    let text = c.args.text.now in
    let all : take (length text - c.loop-written.written) (drop c.loop-written.written text) ≡ drop c.loop-written.written text = take_all _ _ (omega (arith, length-drop c.loop-written.written text)) in
    let within : c.in-Ok.count ≤ length (drop c.loop-written.written text) = rw all at c.in-Ok.ensures.within in
    let appends = rw all at c.in-Ok.ensures.appends in
    record {
      short = omega (arith, within, length-drop c.loop-written.written text);
      prefix = written_more (g.S.Sink.state c.args.sink.now).written (g.S.Sink.state c.loop-written.sink).written (g.S.Sink.state c.write.new.self).written text c.loop-written.written c.in-Ok.count c.loop-written.invariant.prefix appends;
      calm = c.in-Ok.ensures.cause.calm ∙ c.loop-written.invariant.calm;
      still = c.in-Ok.ensures.still ∙ c.loop-written.invariant.still;
    }
