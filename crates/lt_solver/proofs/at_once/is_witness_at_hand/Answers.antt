use Rattle.std.proofs.Common.{List, ap, length, sym, subst, ◌∙◌, arith}
use Rattle.lt_num.specs.declared.interval.Interval.{Interval}
use Rattle.lt_space.specs.SpaceView.{space_circuit, space_decimals, space_root}
use Rattle.lt_propagation.specs.Domains.{AreDomains}
use Rattle.lt_solver.specs.inner.Dive.{Covers}
use Rattle.lt_solver.proofs.Scaled.{scaled_some}
use Rattle.lt_solver.proofs.at_once.is_witness_at_hand.Goals as goal

pub is_witness_told-requires-clause-some : goal.is_witness_told-requires-clause-some
is_witness_told-requires-clause-some c = scaled_some c.args.scales.now c.args.current.now c.requires.dives.scaled

pub is_witness_found-requires : goal.is_witness_found-requires
is_witness_found-requires c =
    let space = c.args.space.now in
    let dives = c.requires.dives in
    let wide = c.deref.ensures.value in
    record {
      ties = c.requires.ties;
      scaled = dives.scaled;
      starts = dives.count;
      long = ap length wide ∙ dives.long;
      domains = subst AreDomains (sym wide) dives.domains;
      covers = subst (λ (w : List Interval). Covers (space_decimals space) (space_circuit space) (space_root space) c.args.scales.now c.args.current.now w) (sym wide) dives.covers;
      witness = c.is_witness_told.auto.witness ∙ c.requires.witness;
      spare = c.is_witness_told.auto.spare ∙ c.requires.spare;
      point = c.requires.wide.point;
      copy = omega (arith, ap length wide, dives.long, c.requires.wide.copy);
      kleenes = c.requires.wide.kleenes;
    }

pub returns-clause-wide : goal.returns-clause-wide
returns-clause-wide c variables gates before =
    let found = c.is_witness_found.ensures in
    record {
      widened = before.widened;
      point = omega (arith, before.point, found.point);
      copy = omega (arith, before.copy, found.copy);
      kleenes = omega (arith, before.kleenes, found.kleenes);
    }
