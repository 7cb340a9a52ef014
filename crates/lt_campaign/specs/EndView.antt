-- What the code tells of a session that didn't end well.
use Rattle.std.specs.Prelude.{ℕ, List, [], None, Some}
use Rattle.std.specs.Option.{option_map}
use Rattle.std.specs.declared.option.Option.{Option}
use Rattle.lt_loop.specs.CoreView.{core_state}
use Rattle.lt_loop.specs.declared.loop_core.Core.{Core}
use Rattle.lt_campaign.specs.Campaign.{Blamed}
use Rattle.lt_campaign.specs.declared.campaign_end.Blamed as code

-- the names of the exceptions of a core's scenario; none where there is no core
abbrev pub core_names : {M : _} {b : _} → Option (Core M b) → List (List ℕ)
core_names None = []
core_names (Some core) = (core_state core).plan.scene.exceptions

-- a session that didn't end well, as the code tells it
abbrev pub one_blamed : {M : _} {b : _} → code.Blamed M b → Blamed
one_blamed it = record { session = it.session; outcome = it.outcome; names = core_names it.core }

-- the same where there may be one
abbrev pub blamed_view : {M : _} {b : _} → Option (code.Blamed M b) → Option Blamed
blamed_view blamed = option_map one_blamed blamed
