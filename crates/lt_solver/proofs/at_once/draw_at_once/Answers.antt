use Rattle.std.proofs.Common.{◌≡◌, Bool, [], ℤ, List, Vec, length, ap, sym, subst, ◌∙◌, arith}
use Rattle.std.specs.declared.alloc.Global.{Global}
use Rattle.lt_bounds.specs.Places.{AreScaled}
use Rattle.lt_formula.specs.Translation.{box_of, scales_of}
use Rattle.lt_formula.specs.declared.scale.Scale.{Scale}
use Rattle.lt_num.specs.declared.interval.Interval.{Interval}
use Rattle.lt_space.specs.CircuitView.{circuit_len}
use Rattle.lt_space.specs.Formula.{holds}
use Rattle.lt_space.specs.Scope.{ranges_in}
use Rattle.lt_space.specs.SpaceView.{space_circuit, space_decimals, space_formula}
use Rattle.lt_solver.specs.inner.Drawing.{TellsRanges}
use Rattle.lt_solver.specs.inner.Placed.{all_places}
use Rattle.lt_solver.specs.inner.Roomy.{IsRoomy}
use Rattle.lt_solver.proofs.Begins.{begin_told}
use Rattle.lt_solver.proofs.Found.{box_count, starts_count}
use Rattle.lt_solver.proofs.PlacedLemmas.{all_scaled}
use Rattle.lt_solver.proofs.at_once.draw_at_once.Goals as goal

pub write_places-requires-clause-scales : goal.write_places-requires-clause-scales
write_places-requires-clause-scales c = (c.requires.roomy).scales

pub write_places-requires-clause-current : goal.write_places-requires-clause-current
write_places-requires-clause-current c = (c.requires.roomy).current

pub write_places-requires-clause-starts : goal.write_places-requires-clause-starts
write_places-requires-clause-starts c = (c.requires.roomy).starts

pub draw_prepared-requires-clause-scaled : goal.draw_prepared-requires-clause-scaled
draw_prepared-requires-clause-scaled c =
    let scales : c.prepare.new.self.scales.items ≡ scales_of (all_places c.args.scope.now c.args.ranges.now c.args.targets.now []) = ap (λ (v : Vec Scale Global). v.items) c.prepare.ensures.scales ∙ c.write_places.ensures.scales in
    let box : c.prepare.new.self.current.items ≡ box_of (all_places c.args.scope.now c.args.ranges.now c.args.targets.now []) = ap (λ (v : Vec Interval Global). v.items) c.prepare.ensures.current ∙ c.write_places.ensures.current in
    subst (λ (ss : List Scale). AreScaled ss c.prepare.new.self.current.items) (sym scales)
    (subst (AreScaled (scales_of (all_places c.args.scope.now c.args.ranges.now c.args.targets.now []))) (sym box) (all_scaled c.args.scope.now c.args.ranges.now c.args.targets.now [] c.requires.domains))

pub draw_prepared-requires-clause-starts : goal.draw_prepared-requires-clause-starts
draw_prepared-requires-clause-starts c =
    let many : length c.prepare.new.self.current.items ≡ length c.args.ranges.now = ap (λ (v : Vec Interval Global). length v.items) c.prepare.ensures.current ∙ ap length c.write_places.ensures.current ∙ box_count c.args.scope.now c.args.ranges.now c.args.targets.now [] c.requires.targets in
    ap (λ (v : Vec ℤ Global). length v.items) c.prepare.ensures.starts ∙ ap length c.write_places.ensures.starts ∙ starts_count c.args.scope.now c.args.ranges.now c.args.targets.now [] c.requires.targets ∙ sym many

pub draw_prepared-requires-clause-words : goal.draw_prepared-requires-clause-words
draw_prepared-requires-clause-words c =
    let many : length c.prepare.new.self.current.items ≡ length c.args.ranges.now = ap (λ (v : Vec Interval Global). length v.items) c.prepare.ensures.current ∙ ap length c.write_places.ensures.current ∙ box_count c.args.scope.now c.args.ranges.now c.args.targets.now [] c.requires.targets in
    c.requires.words ∙ sym many

pub draw_prepared-requires-clause-witness : goal.draw_prepared-requires-clause-witness
draw_prepared-requires-clause-witness c =
    let many : length c.prepare.new.self.current.items ≡ length c.args.ranges.now = ap (λ (v : Vec Interval Global). length v.items) c.prepare.ensures.current ∙ ap length c.write_places.ensures.current ∙ box_count c.args.scope.now c.args.ranges.now c.args.targets.now [] c.requires.targets in
    c.requires.targets ∙ sym many

pub draw_prepared-requires-clause-values : goal.draw_prepared-requires-clause-values
draw_prepared-requires-clause-values c =
    let many : length c.prepare.new.self.current.items ≡ length c.args.ranges.now = ap (λ (v : Vec Interval Global). length v.items) c.prepare.ensures.current ∙ ap length c.write_places.ensures.current ∙ box_count c.args.scope.now c.args.ranges.now c.args.targets.now [] c.requires.targets in
    c.requires.values ∙ sym many

pub draw_prepared-requires-clause-roomy : goal.draw_prepared-requires-clause-roomy
draw_prepared-requires-clause-roomy c =
    let many : length c.prepare.new.self.current.items ≡ length c.args.ranges.now = ap (λ (v : Vec Interval Global). length v.items) c.prepare.ensures.current ∙ ap length c.write_places.ensures.current ∙ box_count c.args.scope.now c.args.ranges.now c.args.targets.now [] c.requires.targets in
    let gates = circuit_len (space_circuit c.args.space.now) in
    let before = c.requires.roomy in
    let wrote : IsRoomy (length c.args.ranges.now) gates c.prepare.new.self = c.prepare.ensures.roomy (length c.args.ranges.now) gates (record {
      scales = omega (arith, before.scales, c.write_places.ensures.scales_room);
      starts = omega (arith, before.starts, c.write_places.ensures.starts_room);
      current = omega (arith, before.current, c.write_places.ensures.current_room);
      stack = before.stack;
      wide = before.wide;
      latest = before.latest;
      same = before.same;
      need = before.need;
    }) in
    subst (λ n. IsRoomy n gates c.prepare.new.self) (sym many) wrote

pub returns-clause-found : goal.returns-clause-found
returns-clause-found c =
    let scales : c.prepare.new.self.scales.items ≡ scales_of (all_places c.args.scope.now c.args.ranges.now c.args.targets.now []) = ap (λ (v : Vec Scale Global). v.items) c.prepare.ensures.scales ∙ c.write_places.ensures.scales in
    let box : c.prepare.new.self.current.items ≡ box_of (all_places c.args.scope.now c.args.ranges.now c.args.targets.now []) = ap (λ (v : Vec Interval Global). v.items) c.prepare.ensures.current ∙ c.write_places.ensures.current in
    let test : List ℤ → Bool = λ vs. holds (space_decimals c.args.space.now) vs (space_formula c.args.space.now) in
    let ranges = ranges_in c.args.scope.now c.args.ranges.now in
    c.draw_prepared.ensures.found ranges
    (subst (λ (ss : List Scale). TellsRanges test ss c.prepare.new.self.current.items ranges) (sym scales)
    (subst (λ (b : List Interval). TellsRanges test (scales_of (all_places c.args.scope.now c.args.ranges.now c.args.targets.now [])) b ranges) (sym box) (begin_told test c.args.scope.now c.args.ranges.now c.args.targets.now c.requires.domains c.requires.targets)))

pub returns-clause-roomy : goal.returns-clause-roomy
returns-clause-roomy c gates before =
    let many : length c.prepare.new.self.current.items ≡ length c.args.ranges.now = ap (λ (v : Vec Interval Global). length v.items) c.prepare.ensures.current ∙ ap length c.write_places.ensures.current ∙ box_count c.args.scope.now c.args.ranges.now c.args.targets.now [] c.requires.targets in
    let wrote : IsRoomy (length c.args.ranges.now) gates c.prepare.new.self = c.prepare.ensures.roomy (length c.args.ranges.now) gates (record {
      scales = omega (arith, before.scales, c.write_places.ensures.scales_room);
      starts = omega (arith, before.starts, c.write_places.ensures.starts_room);
      current = omega (arith, before.current, c.write_places.ensures.current_room);
      stack = before.stack;
      wide = before.wide;
      latest = before.latest;
      same = before.same;
      need = before.need;
    }) in
    subst (λ n. IsRoomy n gates c.draw_prepared.new.room) many (c.draw_prepared.ensures.roomy gates (subst (λ n. IsRoomy n gates c.prepare.new.self) (sym many) wrote))

pub returns-clause-gates : goal.returns-clause-gates
returns-clause-gates c =
    c.draw_prepared.ensures.gates ∙ c.prepare.ensures.kleenes

pub returns-clause-knows : goal.returns-clause-knows
returns-clause-knows c =
    c.draw_prepared.ensures.knows (c.prepare.ensures.knows c.requires.knows)
