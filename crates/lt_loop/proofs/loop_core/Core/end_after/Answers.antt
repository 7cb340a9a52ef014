use Rattle.std.proofs.Common.{List, ℕ, map, string_bytes, ap, refl, sym, ◌∙◌}
use Rattle.lt_loop.specs.CoreView.{core_state}
use Rattle.lt_loop.specs.Play.{ended, ends, piece_then, stopped}
use Rattle.lt_loop.specs.declared.event.PieceKind.TheVariants as piece_kind
use Rattle.lt_loop.specs.declared.phase.Phase.TheVariants as phase
use Rattle.lt_loop.proofs.CoreStateLemmas.{ended_ahead}
use Rattle.lt_loop.proofs.TextLemmas.{closing_is}
use Rattle.lt_loop.proofs.loop_core.Core.end_after.Goals as goal

pub returns-clause-out : goal.returns-clause-out
returns-clause-out g c = λ u more other.
    let text = c.make_end.ensures.is ∙ closing_is (core_state {b = g.M.Machine} c.args.self.now).plan c.args.end (map string_bytes c.names.result.now) c.number-number.result c.names.ensures in
    ap (λ (n : ℕ). ended (core_state {b = g.M.Machine} c.args.self.now).plan c.args.end n) (sym c.number-number.ensures)
    ∙ ap (λ (t : List ℕ). piece_then piece_kind.EndLine t (stopped (ends c.args.end))) (sym text)

pub returns-clause-ahead : goal.returns-clause-ahead
returns-clause-ahead g c = λ on none u more. ended_ahead c.args.self.now.phase (phase.Over c.args.end) c.args.self.now.written c.args.self.now.written c.args.end u on refl none more
