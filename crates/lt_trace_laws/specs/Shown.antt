-- Runs that are made again from what they show: the replies that their steps show, and nothing else of their streams.
use Rattle.std.specs.Prelude.{◌≡◌, ◌≢◌, ◌≤◌, ◌+◌, ℕ, Bool, true, false, List, [], ◌∷◌, ◌++◌, map, None}
use Rattle.lt_num.specs.declared.kind.Kind.{Kind}
use Rattle.lt_num.specs.declared.value.Value.{Value}
use Rattle.lt_rif.specs.Reply.{Stream, reply_of}
use Rattle.lt_rif.specs.Trace.{bool_text, line, line_text}
use Rattle.lt_rif.specs.declared.end.End.{End}
use Rattle.lt_rif.specs.declared.end.End.TheVariants as end
use Rattle.lt_rif.specs.declared.slot.Slot.{Slot}
use Rattle.lt_loop.specs.Machine.{Rules, most_steps}
use Rattle.lt_loop.specs.Plan.{Plan, closing_text, step_kinds}
use Rattle.lt_loop.specs.Play.{Piece, Play, Stop, ends, play_of, untold, step_count, stopped}
use Rattle.lt_loop.specs.Run.{pieces_then}
use Rattle.lt_loop.specs.Scene.{Scene, Variable, first_inputs, input_slots, kinds_of, traced_slots}
use Rattle.lt_loop.specs.Stands.{is_served}
use Rattle.lt_loop.specs.declared.event.PieceKind.{PieceKind}
use Rattle.lt_loop.specs.declared.event.PieceKind.TheVariants as piece_kind
use Rattle.lt_loop.specs.declared.setup.Talk.{Talk}
use Rattle.lt_loop.specs.declared.setup.Talk.TheVariants as talk
use Rattle.lt_trace_laws.specs.Replay.{IsTraceable, ShowsFor, is_replayable, trace_text, values_of, whole_text}

-- ---- the replies of a controller

-- the slot of a variable whose value is read, whatever it is
abbrev pub any_slot : Variable → Slot
any_slot v = record { kind = v.kind; range = None; keep = true }

-- As what the text of a step is read for the reply to it: a controller gives the inputs, an earlier trace the outputs
-- before them.
abbrev pub shown_slots : Talk → Scene → List Slot
shown_slots talk.Replay s = map any_slot s.outputs ++ input_slots s
shown_slots _ s = traced_slots s

-- the values that it shows
abbrev pub shown_values : Talk → Plan → List ℕ → List Value
shown_values t plan text = values_of (reply_of plan.scene.decimals (shown_slots t plan.scene) (whole_text text))

-- their kinds
abbrev pub reply_kinds : Talk → Scene → List Kind
reply_kinds talk.Replay s = step_kinds s
reply_kinds _ s = kinds_of s.inputs

-- the reply that the text of a step shows, as a line; none where there is no controller
abbrev pub shown_reply : Talk → Plan → List ℕ → List ℕ
shown_reply talk.Nobody plan text = []
shown_reply t plan text = line_text plan.scene.decimals (reply_kinds t plan.scene) (shown_values t plan text)

-- the reply that a piece shows
abbrev pub reply_in : PieceKind → Plan → List ℕ → List ℕ
reply_in piece_kind.Step plan text = shown_reply plan.controller plan text
reply_in _ plan text = []

-- the replies that pieces show, in turn
abbrev pub shown_replies : Plan → List Piece → List ℕ
shown_replies plan [] = []
shown_replies plan (p ∷ ps) = reply_in p.kind plan p.bytes ++ shown_replies plan ps

-- ---- the verdicts of an oracle

-- The verdict on a step after which a run goes on with these pieces, and stops so: it is false where that step is the last
-- piece of a run that the oracle ended.
abbrev pub verdict_before : List Piece → Stop → Bool
verdict_before [] (ends end.Oracle) = false
verdict_before _ _ = true

-- the verdict that a piece shows, as a line
abbrev pub verdict_in : PieceKind → List Piece → Stop → List ℕ
verdict_in piece_kind.Step ps stop = line (bool_text (verdict_before ps stop))
verdict_in _ ps stop = []

-- the verdicts that pieces show, in turn
abbrev pub shown_verdicts : List Piece → Stop → List ℕ
shown_verdicts [] stop = []
shown_verdicts (p ∷ ps) stop = verdict_in p.kind ps stop ++ shown_verdicts ps stop

-- ---- the law

-- a text as a stream after which more may come
abbrev pub open_text : List ℕ → Stream
open_text text = record { place = 0; bytes = text; is_closed = false }

-- the play on what a run shows
abbrev pub shown_play : {State : Type 0} → Rules State → Plan → ℕ → State → Play → Play
shown_play rules plan limit m run = play_of rules plan limit m (open_text (shown_replies plan run.pieces)) (open_text (shown_verdicts run.pieces run.stop))

-- A run that ended so is told by another one. It is the same, unless a side's reply was refused or missed; then its trace is
-- that of the other one, with as many steps, and the end line, with the number of these steps and 1.
pub record IsTold (plan : Plan) (e : End) (again run : Play) : Type 0 where
  pub same : is_replayable e ≡ true → again ≡ run
  pub missed : is_replayable e ≡ false → trace_text run.pieces ≡ trace_text again.pieces ++ closing_text plan e (step_count run.pieces + 1)
  pub steps : is_replayable e ≡ false → step_count again.pieces ≡ step_count run.pieces

-- A run that has ended is told by the play on what it shows: on the lines of the replies that its steps show, and on a true
-- verdict for each step, but a false one for the last step where the oracle ended the run. What the law asks is what makes
-- the text of each step one that is read back as its values: they can be written, the number of a step is one of the code,
-- and where nobody gives inputs there are none, so that `ShowsFor` speaks of each instant.
abbrev pub TracesShowTheirRun : Type 0 → Type 0
TracesShowTheirRun State =
    (rules : Rules State) (plan : Plan) (limit : ℕ) (m : State) (c o : Stream) (e : End) →
    IsTraceable plan.scene → limit ≤ most_steps → is_served plan.controller plan.scene ≡ true →
    ShowsFor rules plan.scene limit m (first_inputs plan.scene) →
    (let run = play_of rules plan limit m c o in
    run.stop ≡ ends e → IsTold plan e (shown_play rules plan limit m run) run)

-- ---- prefixes

-- the play on what some pieces of a run show that was not over after them: all their verdicts are true
abbrev pub shown_prefix : {State : Type 0} → Rules State → Plan → ℕ → State → List Piece → Play
shown_prefix rules plan limit m ps = play_of rules plan limit m (open_text (shown_replies plan ps)) (open_text (shown_verdicts ps untold))

-- A play begins with these pieces, but for the last of them, which aren't for the trace: what was told of a step that isn't
-- among them. So it begins with the same trace, and as many steps.
pub record Begins (play : Play) (ps : List Piece) : Type 0 where
  pub prefix : List Piece
  pub rest : Play
  pub joined : play ≡ pieces_then prefix rest
  pub sent : List Piece
  pub pieces : ps ≡ prefix ++ sent
  pub unseen : trace_text sent ≡ []
  pub text : trace_text prefix ≡ trace_text ps
  pub steps : step_count prefix ≡ step_count ps

-- Where a run was cut after some pieces, before its end, as where a device failed, the play on what they show begins with
-- these pieces. Of what was told of a step that isn't among them a trace shows nothing.
abbrev pub PrefixesShowTheirRun : Type 0 → Type 0
PrefixesShowTheirRun State =
    (rules : Rules State) (plan : Plan) (limit : ℕ) (m : State) (c o : Stream) (ps : List Piece) (rest : Play) →
    IsTraceable plan.scene → limit ≤ most_steps → is_served plan.controller plan.scene ≡ true →
    ShowsFor rules plan.scene limit m (first_inputs plan.scene) →
    play_of rules plan limit m c o ≡ pieces_then ps rest → ((e : End) → rest ≢ stopped (ends e)) →
    Begins (shown_prefix rules plan limit m ps) ps
