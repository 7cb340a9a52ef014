-- A session that wasn't started has nothing; another takes its part, and its frame is put.
use Rattle.std.proofs.Common.{subst, sym}
use Rattle.lt_loop.specs.CoreView.{last_text}
use Rattle.lt_session.specs.Side.{side_link}
use Rattle.std.specs.Option.{option_map}
use Rattle.lt_campaign.specs.Run.{traced}
use Rattle.lt_campaign.specs.RunView.{run_view, session_view}
use Rattle.lt_campaign.specs.Session.{of_run, started}
use Rattle.lt_campaign.specs.declared.session.Session as code
use Rattle.lt_campaign.specs.inner.Parting.{Parted, PutsPart}
use Rattle.lt_campaign.proofs.Parting.{parted_none, puts_part}
use Rattle.lt_campaign.proofs.session.put_part.Goals as goal

pub returns-in_default-clause-puts : goal.returns-in_default-clause-puts
returns-in_default-clause-puts g c = λ start before has.
    let now = g.S.Sink.state c.args.trace.now in
    subst (λ (s : code.Session g.row.M.Denot g.row.L.Denot g.M.Machine). Parted c.args.number (session_view g.L.Link.state s) (session_view g.L.Link.state s) start now c.args.waiting.now.items before)
    (sym c.in_default.is) (parted_none c.args.number c.in_default.field-0 (option_map (side_link g.L.Link.state) c.in_default.field-1) start now c.args.waiting.now.items before has)

pub returns-clause-puts : goal.returns-clause-puts
returns-clause-puts g c = λ start before has.
    let mid = g.S.Sink.state c.settle_for.new.trace in
    let now = g.S.Sink.state c.put_traced.new.trace in
    let old = run_view g.L.Link.state c.in-Started.run' in
    let new = run_view g.L.Link.state c.take_part-kind.new.run in
    let text = last_text c.take_part-kind.new.run.core in
    subst (λ (s : code.Session g.row.M.Denot g.row.L.Denot g.M.Machine). PutsPart c.put_traced.result c.args.number (session_view g.L.Link.state s) (started new) start now c.put_traced.new.waiting.items before)
    (sym c.in-Started.is)
    (puts_part c.put_traced.result c.args.number (started old) (started new) start now c.put_traced.new.waiting.items before (traced c.take_part-kind.result text)
    (of_run old new text c.take_part-kind.result c.take_part-kind.ensures.part)
    (c.put_traced.ensures start before (c.in_ok-settle_for.ensures.written start before has)))
