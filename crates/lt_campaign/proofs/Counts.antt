-- No count of faults of programs falls where sessions are started and closed.
use Rattle.std.proofs.Common.{◌≤◌, List, [], ◌∷◌, arith}
use Rattle.lt_io.specs.Causes.{Rose}
use Rattle.lt_io.specs.Programs.{Programs}
use Rattle.lt_loop.specs.CoreState.{CoreState}
use Rattle.lt_loop.specs.InputSource.{InputSource, from_nobody, from_program, from_trace}
use Rattle.lt_session.specs.Side.{IsNotStarted}
use Rattle.lt_session.proofs.Links.{closed_later, opened_calm}
use Rattle.lt_campaign.specs.Campaign.{AllClose, AllStart}
use Rattle.lt_campaign.specs.Session.{IsClosed, Session, Starts, StartsNot}
use Rattle.lt_campaign.specs.Session as session

-- a program that could not be started was counted
pub unstarted_later : (source : InputSource) (old new : Programs) → IsNotStarted source old new → old.faults ≤ new.faults
unstarted_later from_nobody old new is = absurd is
unstarted_later (from_trace bytes) old new is = absurd is
unstarted_later (from_program command) old new is = is.later

pub unstarted_rose : (source : InputSource) (old new : Programs) → IsNotStarted source old new → Rose old.faults new.faults
unstarted_rose from_nobody old new is = absurd is
unstarted_rose (from_trace bytes) old new is = absurd is
unstarted_rose (from_program command) old new is = is.rose

module _ {State : Type 0} (controller oracle : InputSource) where
  -- ---- where they are started

  pub started_later : (core : CoreState State) (old new : Programs) (s : Session State) → Starts controller oracle core old new s → old.faults ≤ new.faults
  started_later core old new _ (session.both c o mid opens opened) = omega (arith, opened_calm controller old mid c opens, opened_calm oracle mid new o opened)
  started_later core old new _ (session.no_controller is) = unstarted_later controller old new is
  started_later core old new _ (session.no_oracle c mid opens is) = omega (arith, opened_calm controller old mid c opens, unstarted_later oracle mid new is)

  pub all_started_later : (cores : List (CoreState State)) (old new : Programs) (ss : List (Session State)) → AllStart controller oracle cores old new ss → old.faults ≤ new.faults
  all_started_later [] old new [] same = omega (arith, same.faults)
  all_started_later [] old new (s ∷ ss) starts = absurd starts
  all_started_later (core ∷ cores) old new [] starts = absurd starts
  all_started_later (core ∷ cores) old new (s ∷ ss) starts = omega (arith, started_later core old starts.0 s starts.1, all_started_later cores starts.0 new ss starts.2)

  -- memory ran out at the start of one
  pub started_not_later : (old new : Programs) (left : List (Session State)) → StartsNot controller old new left → old.faults ≤ new.faults
  started_not_later old new _ (session.at_controller same) = omega (arith, same.faults)
  started_not_later old new _ (session.at_oracle c mid opens same) = omega (arith, opened_calm controller old mid c opens, same.faults)

  -- ---- where they are closed

  pub session_later : (old new : Programs) (s : Session State) → IsClosed controller oracle old new s → old.faults ≤ new.faults
  session_later old new _ (session.of_run r mid closes closed) =
      omega (arith, closed_later controller old mid r.standing.links.controller closes, closed_later oracle mid new r.standing.links.oracle closed)
  session_later old new _ (session.of_one w c closes) = closed_later controller old new c closes
  session_later old new _ (session.of_none w same) = omega (arith, same.faults)

  pub all_closed_later : (old new : Programs) (ss : List (Session State)) → AllClose controller oracle old new ss → old.faults ≤ new.faults
  all_closed_later old new [] same = omega (arith, same.faults)
  all_closed_later old new (s ∷ ss) closes = omega (arith, session_later old closes.0 s closes.1, all_closed_later closes.0 new ss closes.2)
