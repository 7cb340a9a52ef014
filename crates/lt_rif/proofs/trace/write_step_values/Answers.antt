use Rattle.std.proofs.Common.{ℕ, List, subst, sym}
use Rattle.std.specs.Option.{option_copied}
use Rattle.lt_rif.specs.Room.{AddsText, HasRoom}
use Rattle.lt_rif.proofs.TraceLemmas.{step_lays_out}
use Rattle.lt_rif.proofs.trace.write_step_values.Goals as goal

pub append_step_values-requires-clause-room : goal.append_step_values-requires-clause-room
append_step_values-requires-clause-room c =
    let layout = step_lays_out c.args.decimals c.args.kinds.now c.args.x.now c.args.y.now (option_copied c.args.locals) in
    subst (λ (text : List ℕ). HasRoom c.args.into.now text) layout c.requires.room

pub returns : goal.returns
returns c =
    let layout = step_lays_out c.args.decimals c.args.kinds.now c.args.x.now c.args.y.now (option_copied c.args.locals) in
    subst (λ (text : List ℕ). AddsText c.args.into.now c.append_step_values.new.into text) (sym layout) c.append_step_values.ensures
