-- A run of a campaign, event by event.
use Rattle.std.specs.Prelude.{◌≡◌, ◌≢◌, ℕ, List, [], ◌∷◌, ◌++◌, None, Some}
use Rattle.std.specs.declared.option.Option.{Option}
use Rattle.lt_drive.specs.Served.{IsServed, IsTold, Standing}
use Rattle.lt_drive.specs.declared.served.Served.{Served}
use Rattle.lt_drive.specs.declared.served.Served.TheVariants as served
use Rattle.lt_loop.specs.Event.{Told, failed}
use Rattle.lt_loop.specs.Run.{Answer}
use Rattle.lt_loop.specs.declared.event.PieceKind.{PieceKind}
use Rattle.lt_loop.specs.declared.event.Wants.{Wants}
use Rattle.lt_loop.specs.declared.event.Wants.TheVariants as wants
use Rattle.lt_rif.specs.declared.end.End.{End}
use Rattle.lt_rif.specs.declared.end.Who.{Who}

-- where a run stands between two events, what it waits for, and the side to which its last piece
-- could not be sent, if there is one: that side's fault is its next event
pub record Run (State : Type 0) : Type 0 where
  pub standing : Standing State
  pub wanted : Wants
  pub broken : Option Who

-- what it waits for after an event: the same, where the event left a side broken
abbrev pub wants_after : Served → Wants → Wants
wants_after (served.Goes next kind) old = next
wants_after (served.Broken w) old = old

-- the side that is broken then, if one is
abbrev pub broken_after : Served → Option Who
broken_after (served.Goes next kind) = None
broken_after (served.Broken w) = Some w

-- the kind of the last piece, where it is for the trace
abbrev pub traced_of : Served → Option PieceKind
traced_of (served.Goes next kind) = kind
traced_of (served.Broken w) = None

-- what is for the trace, where something is
abbrev pub traced : Option PieceKind → List ℕ → Option (List ℕ)
traced None text = None
traced (Some kind) text = Some text

-- where a run stands after an event of which this came
abbrev pub run_after : {State : Type 0} → Standing State → Served → Wants → Run State
run_after s r old = record { standing = s; wanted = wants_after r old; broken = broken_after r }

-- A run took its part of a round: one event, if it isn't over. This is the text of its last piece,
-- which is for the trace where a kind is told. A row a way.
pub data TakesPart {State : Type 0} (answers : State → Told → Answer → State → Type 0)
    (old new : Run State) (text : List ℕ) : Option PieceKind → Type 0 where
  -- it was over
  over : (e : End) → old.broken ≡ None → old.wanted ≡ wants.Nothing e → new ≡ old →
      TakesPart answers old new text None
  -- a piece could not be sent to this side in its last event: it was told that fault
  fails : (w : Who) (s : Standing State) (r : Served) → old.broken ≡ Some w →
      IsTold answers old.standing s text (failed w) r → new ≡ run_after s r old.wanted →
      TakesPart answers old new text (traced_of r)
  -- it was told what it waits for
  goes_on : (s : Standing State) (r : Served) → old.broken ≡ None →
      ((e : End) → old.wanted ≢ wants.Nothing e) →
      IsServed answers old.standing s text old.wanted r → new ≡ run_after s r old.wanted →
      TakesPart answers old new text (traced_of r)

-- A run took its part so often, and this was for its trace each time.
pub data TakesParts {State : Type 0} (answers : State → Told → Answer → State → Type 0) :
    Run State → List (Option (List ℕ)) → Run State → Type 0 where
  none : (s : Run State) → TakesParts answers s [] s
  more : (s mid last : Run State) (text : List ℕ) (kind : Option PieceKind)
      (parts : List (Option (List ℕ))) → TakesPart answers s mid text kind →
      TakesParts answers mid parts last → TakesParts answers s (traced kind text ∷ parts) last

-- what was for the trace, one behind the other
abbrev pub text_of : List (Option (List ℕ)) → List ℕ
text_of [] = []
text_of (None ∷ parts) = text_of parts
text_of (Some text ∷ parts) = text ++ text_of parts
