-- The sides of a run, and to which of them it speaks.
use Rattle.std.specs.Prelude.{Bool}
use Rattle.lt_loop.specs.Plan.{Plan}
use Rattle.lt_loop.specs.Stands.{has_controller}
use Rattle.lt_rif.specs.declared.end.Who.{Who}
use Rattle.lt_rif.specs.declared.end.Who.TheVariants as who
use Rattle.lt_drive.specs.Drive.{is_told}

-- whether a run has a side
abbrev pub has : Plan → Who → Bool
has plan who.Controller = has_controller plan.controller
has plan who.Oracle = plan.has_oracle

-- whether a run tells a side what it awaits a reply to
abbrev pub is_asked : Plan → Who → Bool
is_asked plan who.Controller = is_told plan.controller
is_asked plan who.Oracle = plan.has_oracle
