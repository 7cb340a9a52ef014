use Rattle.lt_rif.proofs.TraceLemmas.{appends-both, room-after}
use Rattle.lt_rif.proofs.trace.write_step.Goals as goal

pub write_step_values-requires-clause-room : goal.write_step_values-requires-clause-room
write_step_values-requires-clause-room c =
    let number = appends-both _ _ _ _ _ c.append.ensures c.append_number.ensures in
    room-after _ _ _ _ (appends-both _ _ _ _ _ number c.append_byte.ensures) c.requires.room

pub returns : goal.returns
returns c =
    let number = appends-both _ _ _ _ _ c.append.ensures c.append_number.ensures in
    appends-both _ _ _ _ _ (appends-both _ _ _ _ _ number c.append_byte.ensures) c.write_step_values.ensures
