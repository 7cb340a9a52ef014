use Rattle.std.proofs.Common.{sym, ◌∙◌, refl}
use Rattle.lt_drive.proofs.Given.{to_controller, to_oracle}
use Rattle.lt_drive.proofs.giving.give.Goals as goal

pub returns-in-Controller-clause-given : goal.returns-in-Controller-clause-given
returns-in-Controller-clause-given g c =
    let s = c.send.ensures in
    to_controller c.args.emits.piece c.in-Some.kind c.args.text.now c.args.emits.wants _ _ c.send.result _ c.in-Some.is (sym c.destination.ensures ∙ c.in-Controller.is)
    (record { all = s.all; prefix = s.prefix; stays = s.stays; fitting = s.fitting; cause = s.cause }) refl c.served_by.ensures

pub returns-in-Oracle-clause-given : goal.returns-in-Oracle-clause-given
returns-in-Oracle-clause-given g c =
    let s = c.send-in-Oracle.ensures in
    to_oracle c.args.emits.piece c.in-Some.kind c.args.text.now c.args.emits.wants _ _ c.send-in-Oracle.result _ c.in-Some.is (sym c.destination.ensures ∙ c.in-Oracle.is)
    (record { all = s.all; prefix = s.prefix; stays = s.stays; fitting = s.fitting; cause = s.cause }) refl c.served_by-in-Oracle.ensures
