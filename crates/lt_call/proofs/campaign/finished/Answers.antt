use Rattle.std.proofs.Common.{ap, arith, sym, ◌∙◌}
use Rattle.std.specs.declared.option.Option.{Option}
use Rattle.lt_campaign.specs.EndView.{blamed_view}
use Rattle.lt_play.specs.contracts.player.PlayerMachine.TheImpl as player
use Rattle.lt_call.specs.Given.{names_by, status_by}
use Rattle.lt_call.specs.declared.status.Status.TheVariants as status
use Rattle.lt_call.proofs.FirstCores.{names_same}
use Rattle.lt_call.proofs.campaign.finished.Goals as goal

pub fate-requires : goal.fate-requires
fate-requires c = omega (arith, c.in-Some.blamed.few)

pub returns-in-Some-clause-status : goal.returns-in-Some-clause-status
returns-in-Some-clause-status c = ap (status.Session c.in-Some.blamed.session) c.fate.ensures ∙ sym (ap (λ x. status_by (blamed_view {b = player.ghosts} x)) c.in-Some.is)

pub returns-in-Some-clause-names : goal.returns-in-Some-clause-names
returns-in-Some-clause-names c = names_same c.in-Some.blamed.core ∙ sym (ap (λ x. names_by (blamed_view {b = player.ghosts} x)) c.in-Some.is)
