use Rattle.lt_term.specs.SceneView.{scene}
use Rattle.lt_trace.specs.View.{shape_view, told}
use Rattle.lt_call.specs.declared.status.Refusal.TheVariants as refusal
use Rattle.lt_call.specs.declared.status.Status.TheVariants as status
use Rattle.lt_call.proofs.Blames.{checked_blames, memory_blames, memory_usage, part_blames, refused_blames, refused_usage, trace_calm}
use Rattle.lt_call.proofs.Checks.{bad_line_found, check_starved, told_in_shape, verdict_cut, verdict_written}
use Rattle.std.proofs.Common.{ℕ, refl, subst, sym}
use Rattle.lt_call.specs.inner.Parts.{BlamesTrace, Checks}
use Rattle.lt_trace.specs.Lines.{IsRefusedFor}
use Rattle.lt_call.proofs.check.check_bytes.Goals as goal

pub check-requires : goal.check-requires
check-requires g c = record { shape = told_in_shape c.traces_have_their_shape.ensures (scene c.args.scenario.now) c.args.bytes.now (told c.in-Ok-read_trace.recorded) (shape_view c.in-Ok.shape) c.in-Ok.ensures c.in-Ok-read_trace.ensures }

pub returns-in_default-clause-checks : goal.returns-in_default-clause-checks
returns-in_default-clause-checks g c = check_starved (scene c.args.scenario.now) c.args.bytes.now c.args.budget _

pub returns-in_default-clause-blames : goal.returns-in_default-clause-blames
returns-in_default-clause-blames g c = trace_calm status.Memory _ memory_usage memory_blames

pub returns-in-Err-BadLine-clause-checks : goal.returns-in-Err-BadLine-clause-checks
returns-in-Err-BadLine-clause-checks g c =
    let text = (g.S.Sink.state c.args.trace.now).written in
    subst (λ (n : ℕ). Checks (scene c.args.scenario.now) c.args.bytes.now c.args.budget text text (status.Refused (refusal.BadLine n))) (sym c.in-Err-BadLine.line-is)
    (bad_line_found (scene c.args.scenario.now) c.args.bytes.now c.args.budget c.in-Err-BadLine.line text (shape_view c.in-Ok.shape) c.in-Ok.ensures
    (subst (λ x. IsRefusedFor (shape_view c.in-Ok.shape) c.args.bytes.now x) c.in-Err-BadLine.field-0-is c.in-Err-BadLine.ensures))

pub returns-in-Err-BadLine-clause-blames : goal.returns-in-Err-BadLine-clause-blames
returns-in-Err-BadLine-clause-blames g c =
    let sink = g.S.Sink.state c.args.trace.now in
    let bad = refusal.BadLine c.in-Err-BadLine.line in
    subst (λ (n : ℕ). BlamesTrace sink sink (status.Refused (refusal.BadLine n))) (sym c.in-Err-BadLine.line-is)
    (trace_calm (status.Refused bad) sink (refused_usage bad) (refused_blames bad))

pub returns-in-Err-Memory-clause-checks : goal.returns-in-Err-Memory-clause-checks
returns-in-Err-Memory-clause-checks g c = check_starved (scene c.args.scenario.now) c.args.bytes.now c.args.budget _

pub returns-in-Err-Memory-clause-blames : goal.returns-in-Err-Memory-clause-blames
returns-in-Err-Memory-clause-blames g c = trace_calm status.Memory _ memory_usage memory_blames

pub returns-in_default-check-clause-checks : goal.returns-in_default-check-clause-checks
returns-in_default-check-clause-checks g c = check_starved (scene c.args.scenario.now) c.args.bytes.now c.args.budget _

pub returns-in_default-check-clause-blames : goal.returns-in_default-check-clause-blames
returns-in_default-check-clause-blames g c = trace_calm status.Memory _ memory_usage memory_blames

pub returns-in-Ok-put_verdict-clause-checks : goal.returns-in-Ok-put_verdict-clause-checks
returns-in-Ok-put_verdict-clause-checks g c =
    verdict_written (scene c.args.scenario.now) c.args.bytes.now c.args.budget _ _ (shape_view c.in-Ok.shape) (told c.in-Ok-read_trace.recorded) c.in-Ok-check.verdict c.in-Ok.ensures c.in-Ok-read_trace.ensures c.in-Ok-check.ensures c.in-Ok-put_verdict.ensures.all

pub returns-in-Ok-put_verdict-clause-blames : goal.returns-in-Ok-put_verdict-clause-blames
returns-in-Ok-put_verdict-clause-blames g c = checked_blames c.in-Ok-check.verdict _ _ c.in-Ok-put_verdict.ensures.cause.calm

pub returns-clause-checks : goal.returns-clause-checks
returns-clause-checks g c =
    verdict_cut (scene c.args.scenario.now) c.args.bytes.now c.args.budget _ _ (shape_view c.in-Ok.shape) (told c.in-Ok-read_trace.recorded) c.in-Ok-check.verdict c.in-Ok.ensures c.in-Ok-read_trace.ensures c.in-Ok-check.ensures c.in-Err.ensures.prefix

pub returns-clause-blames : goal.returns-clause-blames
returns-clause-blames g c = part_blames _ 0 _ _ refl c.in-Err.ensures.cause.failed
