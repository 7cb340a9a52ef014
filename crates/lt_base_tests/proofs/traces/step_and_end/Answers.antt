use Rattle.std.proofs.Common.{◌≡◌, ◌+◌, ◌≤◌, ap, map, length, length-append, List, ℕ, arith}
use Rattle.std.specs.Option.{option_copied}
use Rattle.std.specs.String.{string_bytes}
use Rattle.lt_rif.specs.Trace.{step_text}
use Rattle.lt_base_tests.proofs.traces.step_and_end.Goals as goal

pub write_step-requires-clause-room : goal.write_step-requires-clause-room
write_step-requires-clause-room c =
    let fits = (c.room_is_enough.ensures).2 2 c.args.step c.args.step c.args.kinds.now c.args.x.now c.args.y.now (option_copied c.args.locals) c.args.end (map string_bytes c.args.names.now)
    (omega arith) c.ranges.step.fits c.ranges.step.fits c.requires.x_sized c.requires.y_sized c.requires.locals_sized c.requires.end_sized in
    omega (arith, fits, c.in_ok-into.ensures.len, c.in_ok-into.ensures.capacity, c.room_for.ensures)

pub write_end-requires : goal.write_end-requires
write_end-requires c =
    let fits = (c.room_is_enough.ensures).2 2 c.args.step c.args.step c.args.kinds.now c.args.x.now c.args.y.now (option_copied c.args.locals) c.args.end (map string_bytes c.args.names.now)
    (omega arith) c.ranges.step.fits c.ranges.step.fits c.requires.x_sized c.requires.y_sized c.requires.locals_sized c.requires.end_sized in
    let text = step_text 2 c.args.step c.args.kinds.now c.args.x.now c.args.y.now (option_copied c.args.locals) in
    let count : length c.write_step.new.into.items ≡ length c.in_ok-into.into.items + length text = rw (c.write_step.ensures.items) (length-append c.in_ok-into.into.items text) in
    omega (arith, fits, count, c.in_ok-into.ensures.len, c.in_ok-into.ensures.capacity, c.room_for.ensures, c.write_step.ensures.capacity)
