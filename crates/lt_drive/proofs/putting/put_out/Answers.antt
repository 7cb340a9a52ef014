use Rattle.std.proofs.Common.{◌≡◌, subst}
use Rattle.lt_io.specs.Outside.{Links}
use Rattle.lt_rif.specs.declared.end.End.TheVariants as end
use Rattle.lt_loop.specs.declared.event.Wants.TheVariants as wants
use Rattle.lt_loop.specs.CoreState.{CoreState}
use Rattle.lt_loop.specs.CoreView.{core_state, last_text}
use Rattle.lt_loop.specs.Run.{Answers}
use Rattle.lt_loop.specs.Event.{failed}
use Rattle.lt_drive.specs.Served.{IsServed, IsTold, Standing}
use Rattle.lt_drive.proofs.Events.{fault_given}
use Rattle.lt_drive.proofs.PutOuts.{over_not, puts_fault, puts_proceed}
use Rattle.lt_drive.proofs.putting.put_out.Goals as goal

pub returns-in-Goes-clause-proceeds : goal.returns-in-Goes-clause-proceeds
returns-in-Goes-clause-proceeds g c = λ old w wanted is u ahead.
    let links : Links = record { controller = g.C.Link.state c.args.controller.now; oracle = g.O.Link.state c.args.oracle.now } in
    let new : Standing (CoreState g.M.Machine.State) = record { core = core_state {b = g.M.Machine} c.args.core.now; links = links } in
    let text = last_text {b = g.M.Machine} c.args.core.now in
    puts_proceed old new text w c.in-Goes.wants c.in-Goes.traced (g.S.Sink.state c.args.trace.now) (g.S.Sink.state c.put_traced.new.trace) c.put_traced.result wanted
    (subst (IsServed Answers old new text w) c.in-Goes.is is) c.put_traced.ensures u ahead

pub returns-in-Goes-serve_fault-clause-proceeds : goal.returns-in-Goes-serve_fault-clause-proceeds
returns-in-Goes-serve_fault-clause-proceeds g c = λ old w wanted is u ahead.
    let links : Links = record { controller = g.C.Link.state c.args.controller.now; oracle = g.O.Link.state c.args.oracle.now } in
    let after : Links = record { controller = g.C.Link.state c.serve_fault.new.controller; oracle = g.O.Link.state c.serve_fault.new.oracle } in
    let mid : Standing (CoreState g.M.Machine.State) = record { core = core_state {b = g.M.Machine} c.args.core.now; links = links } in
    let new : Standing (CoreState g.M.Machine.State) = record { core = core_state {b = g.M.Machine} c.serve_fault.new.core; links = after } in
    let text = last_text {b = g.M.Machine} c.args.core.now in
    let line = last_text {b = g.M.Machine} c.serve_fault.new.core in
    puts_fault old mid new text line w c.in-Broken.who c.in-Goes-serve_fault.wants c.in-Goes-serve_fault.traced (g.S.Sink.state c.args.trace.now) (g.S.Sink.state c.put_traced-in-Goes-serve_fault.new.trace) c.put_traced-in-Goes-serve_fault.result wanted
    (subst (IsServed Answers old mid text w) c.in-Broken.is is) (subst (IsTold Answers mid new line (failed c.in-Broken.who)) c.in-Goes-serve_fault.is c.serve_fault.ensures.told) c.put_traced-in-Goes-serve_fault.ensures u ahead

pub returns-in-Goes-serve_fault-clause-goes : goal.returns-in-Goes-serve_fault-clause-goes
returns-in-Goes-serve_fault-clause-goes g c =
    let f = fault_given _ _ _ c.in-Broken.who c.serve_fault.result (c.requires c.in-Broken.who c.in-Broken.is) c.serve_fault.ensures.told in
    let over : c.in-Goes-serve_fault.wants ≡ wants.Nothing (end.Device c.in-Broken.who) = cc (f.0, c.in-Goes-serve_fault.is) in
    over_not c.serve_fault.new.core.written c.in-Goes-serve_fault.wants (last_text {b = g.M.Machine} c.serve_fault.new.core) (g.S.Sink.state c.args.trace.now) (g.S.Sink.state c.put_traced-in-Goes-serve_fault.new.trace)
    c.in-Goes-serve_fault.traced c.put_traced-in-Goes-serve_fault.result (end.Device c.in-Broken.who) (c.serve_fault.new.core ≡ c.args.core.now) over c.put_traced-in-Goes-serve_fault.ensures

pub unreachable-requires : goal.unreachable-requires
unreachable-requires g c =
    let f = fault_given _ _ _ c.in-Broken.who c.serve_fault.result (c.requires c.in-Broken.who c.in-Broken.is) c.serve_fault.ensures.told in
    cc (f.0, c.in-Broken-serve_fault.is)
