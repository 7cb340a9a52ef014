-- Sessions of a campaign whose links tell what they have left: each has the trace of its run alone.
use Rattle.std.specs.Prelude.{◌≡◌, ◌≢◌, ◌+◌, ℕ, List, None, Some}
use Rattle.std.specs.Io.KnownBytes.{Appends}
use Rattle.std.specs.declared.option.Option.{Option}
use Rattle.lt_drive.specs.Drive.{continuation_of}
use Rattle.lt_drive.specs.Interaction.{text_to}
use Rattle.lt_drive.specs.Told.{closed}
use Rattle.lt_loop.specs.CoreState.{CoreState, IsAhead, core_giving_up}
use Rattle.lt_loop.specs.Event.{WantsTell}
use Rattle.lt_loop.specs.Machine.{GivenUp}
use Rattle.lt_loop.specs.Play.{Play, ends, step_count}
use Rattle.lt_loop.specs.Run.{Answers}
use Rattle.lt_loop.specs.declared.event.Destination.TheVariants as destination
use Rattle.lt_loop.specs.declared.event.Wants.TheVariants as wants
use Rattle.lt_rif.specs.declared.end.End.{End}
use Rattle.lt_rif.specs.declared.end.End.TheVariants as end
use Rattle.lt_rif.specs.declared.end.Who.{Who}
use Rattle.lt_campaign.specs.Run.{Run, TakesParts, text_of}

-- A run went through a play to its end: what it had for the trace, one behind the other, is the trace
-- of the play, and its sides were sent what the play has for them.
pub record IsOwnPlay {State : Type 0} (play : Play) (s last : Run (CoreState State))
    (parts : List (Option (List ℕ))) (e : End) : Type 0 where
  pub stop : play.stop ≡ ends e
  pub traced : text_of parts ≡ text_to destination.Trace play.pieces
  pub controller : Appends s.standing.links.controller.sent last.standing.links.controller.sent
      (text_to destination.Controller play.pieces)
  pub oracle : Appends s.standing.links.oracle.sent last.standing.links.oracle.sent
      (text_to destination.Oracle play.pieces)
  pub steps : last.standing.core.written ≡ s.standing.core.written + step_count play.pieces

-- Where both links of a session tell what they have left, and its run ended, but not by the fault of
-- a side, it went through its play on what they told: that of its run alone.
abbrev pub UndisturbedSessionsAreWhole : Type 0 → Type 0
UndisturbedSessionsAreWhole State =
    (s last : Run (CoreState State)) (parts : List (Option (List ℕ))) (e : End) (c o : List ℕ) →
    s.broken ≡ None → s.wanted ≡ wants.Turn → WantsTell s.standing.core wants.Turn →
    TakesParts Answers s parts last → last.broken ≡ None → last.wanted ≡ wants.Nothing e →
    ((w : Who) → e ≢ end.Device w) →
    s.standing.links.controller.left ≡ Some c → s.standing.links.oracle.left ≡ Some o →
    (u : Option GivenUp) → IsAhead last.standing.core u →
    IsOwnPlay ((continuation_of (core_giving_up u s.standing.core)).play (closed c) (closed o))
    s last parts e
