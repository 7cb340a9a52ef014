-- The instants to which a run comes.
use Rattle.std.specs.Prelude.{◌≡◌, ℕ, zero, suc, ◌+◌, ◌<◌, List, [], None, Some, if◌then◌else◌}
use Rattle.std.specs.declared.option.Option.{Option}
use Rattle.lt_num.specs.declared.value.Value.{Value}
use Rattle.lt_rif.specs.Reply.{Reply, Stream, reply_of, whole}
use Rattle.lt_loop.specs.Machine.{Instant, Rules, over, values}
use Rattle.lt_loop.specs.Plan.{Plan}
use Rattle.lt_loop.specs.Play.{Piece, Play, controller_reply, holds, play_from, play_of, step_count}
use Rattle.lt_loop.specs.Run.{pieces_then}
use Rattle.lt_loop.specs.Scene.{first_inputs, verdict_slots}
use Rattle.lt_loop.specs.declared.setup.Talk.{Talk}
use Rattle.lt_loop.specs.declared.setup.Talk.TheVariants as talk

-- Where a run stands before an instant: its machine, the inputs of the instant before, and what is
-- left of both streams.
pub record Place (State : Type 0) : Type 0 where
  pub machine : State
  pub inputs : List Value
  pub controller : Stream
  pub oracle : Stream

-- where a run begins
abbrev pub first_place : {State : Type 0} → Plan → State → Stream → Stream → Place State
first_place plan m c o =
    record { machine = m; inputs = first_inputs plan.scene; controller = c; oracle = o }

-- where it goes on behind a step, if the oracle's reply is a verdict that holds
abbrev pub place_judged : {State : Type 0} → Place State → Reply → Option (Place State)
place_judged p (whole vs o) = if holds vs then Some (record p { oracle = o }) else None
place_judged p _ = None

-- where it goes on behind a step which the oracle, if there is one, is asked about
abbrev pub place_asked : {State : Type 0} → Plan → Place State → Option (Place State)
place_asked plan p =
    if plan.has_oracle then place_judged p (reply_of plan.scene.decimals verdict_slots p.oracle)
    else Some p

-- where it goes on behind an instant, if the controller's reply is whole
abbrev pub place_answered : {State : Type 0} → Plan → Place State → Reply → Option (Place State)
place_answered plan p (whole y c) = place_asked plan (record p { inputs = y; controller = c })
place_answered plan p _ = None

-- where it goes on behind an instant which the controller, if there is one, is told
abbrev pub place_told : {State : Type 0} → Talk → Plan → Place State → Option (Place State)
place_told talk.Nobody plan p = place_asked plan (record p { inputs = [] })
place_told _ plan p = place_answered plan p (controller_reply plan p.controller)

-- where a run goes on behind an instant, if it does
abbrev pub place_behind : {State : Type 0} →
    Plan → Instant State → Place State → Option (Place State)
place_behind plan (values m) p = place_told plan.controller plan (record p { machine = m })
place_behind plan (over e) p = None

-- where it stands after so many further instants, if it comes so far
abbrev pub place_after : {State : Type 0} →
    Rules State → Plan → ℕ → Option (Place State) → Option (Place State)
place_after rules plan zero p = p
place_after rules plan (suc n) None = None
place_after rules plan (suc n) (Some p) =
    place_after rules plan n (place_behind plan (rules.instant p.machine p.inputs) p)

-- Each instant to which a run of so many steps at most comes from a place on is such a one.
abbrev pub EachInstant : {State : Type 0} →
    (State → List Value → Type 0) → Rules State → Plan → ℕ → Place State → Type 0
EachInstant {State} Is rules plan limit p =
    (n : ℕ) (q : Place State) → n < limit → place_after rules plan n (Some p) ≡ Some q →
    Is q.machine q.inputs

-- what is put out from a place on, by a run that makes instant k there and so many steps at most
abbrev pub play_at : {State : Type 0} → Rules State → Plan → ℕ → ℕ → Place State → Play
play_at rules plan left k p =
    play_from rules plan left k p.machine p.inputs p.controller p.oracle

-- A run of so many steps at most comes to an instant at this place: these are the pieces before it.
pub record ComesTo {State : Type 0} (rules : Rules State) (plan : Plan) (limit : ℕ) (m : State)
    (c o : Stream) (ps : List Piece) (p : Place State) : Type 0 where
  -- how many steps may begin behind that of the instant
  pub left : ℕ
  pub counts : suc left + step_count ps ≡ limit
  pub stands : place_after rules plan (step_count ps) (Some (first_place plan m c o)) ≡ Some p
  pub puts : play_of rules plan limit m c o
      ≡ pieces_then ps (play_at rules plan (suc left) (step_count ps + 1) p)
