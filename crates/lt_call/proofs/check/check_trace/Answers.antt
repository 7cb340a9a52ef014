use Rattle.std.proofs.Common.{refl, sym}
use Rattle.lt_term.specs.SceneView.{scene}
use Rattle.lt_args.specs.Asked.{request}
use Rattle.lt_call.proofs.Blames.{trace_alone, trace_read_alone}
use Rattle.lt_call.proofs.Gives.{as_told, check_takes, checked_alone, checked_from, filed, nothing, same, trace_not_read, unread_counted, unread_usage}
use Rattle.lt_call.proofs.check.check_trace.Goals as goal

pub returns-in_default : goal.returns-in_default
returns-in_default g c = λ programs.
    let takes = check_takes c.texts_have_one_reading.ensures (request c.args.request.now) c.args.text.now (scene c.args.scenario.now) c.requires.mode c.requires.short c.requires.scene c.requires.few in
    record {
      gives = checked_alone (request c.args.request.now) _ c.args.text.now (scene c.args.scenario.now) _ _ c.check_bytes.result takes c.requires.mode c.requires.short c.requires.scene c.requires.few (sym c.in_default.ensures) refl (same programs) c.check_bytes.ensures.checks;
      no_usage = c.check_bytes.ensures.blames.no_usage;
      counts = trace_alone c.check_bytes.result _ _ refl c.check_bytes.ensures.blames;
    }

pub returns-in-Ok : goal.returns-in-Ok
returns-in-Ok g c = λ programs.
    let takes = check_takes c.texts_have_one_reading.ensures (request c.args.request.now) c.args.text.now (scene c.args.scenario.now) c.requires.mode c.requires.short c.requires.scene c.requires.few in
    record {
      gives = checked_from (request c.args.request.now) _ c.args.text.now c.deref.result.now _ c.in-Some.name.now (scene c.args.scenario.now) _ _ c.check_bytes-in-Ok.result takes c.requires.mode c.requires.short c.requires.scene c.requires.few
          (filed (request c.args.request.now).inputs c.in-Some.name.now (sym c.in-Some.ensures)) c.deref.ensures.value c.in-Ok.ensures.told c.in-Ok.ensures.within (c.in-Ok.ensures.asks (λ e. cc)) (same programs) c.check_bytes-in-Ok.ensures.checks;
      no_usage = c.check_bytes-in-Ok.ensures.blames.no_usage;
      counts = trace_read_alone c.check_bytes-in-Ok.result _ _ (c.in-Ok.ensures.calm (λ e. cc)) refl c.check_bytes-in-Ok.ensures.blames;
    }

pub returns-in-Err : goal.returns-in-Err
returns-in-Err g c = λ programs.
    let takes = check_takes c.texts_have_one_reading.ensures (request c.args.request.now) c.args.text.now (scene c.args.scenario.now) c.requires.mode c.requires.short c.requires.scene c.requires.few in
    let is = c.from.ensures in
    record {
      gives = as_told (request c.args.request.now) _ c.args.text.now _ _ _ _ c.from.result _ refl is
          (trace_not_read (request c.args.request.now) _ c.args.text.now c.in-Some.name.now _ _ c.read.result c.in-Err.why takes
          (filed (request c.args.request.now).inputs c.in-Some.name.now (sym c.in-Some.ensures)) c.in-Err.is c.read.ensures.too_long c.read.ensures.asks c.read.ensures.none_asked (nothing _));
      no_usage = λ kind. unread_usage c.in-Err.why c.from.result kind is;
      counts = unread_counted c.read.result c.in-Err.why c.from.result _ _ is c.in-Err.is c.read.ensures.cause c.read.ensures.calm refl refl;
    }
