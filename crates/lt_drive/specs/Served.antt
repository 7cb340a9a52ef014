-- What comes of one event of a run, whose trace is in other hands.
use Rattle.std.specs.Prelude.{◌≡◌, ◌<◌, ◌≤◌, ℕ, zero, suc, false, List, [], ◌∷◌, ◌++◌, length, take}
use Rattle.std.specs.Prelude.{None, Some, Ok, Err, OnOk, OnErr}
use Rattle.std.specs.Io.{ReadsAtMost}
use Rattle.std.specs.Io.KnownBytes.{Appends, Keeps, ReadConsumes}
use Rattle.std.specs.declared.option.Option.{Option}
use Rattle.std.specs.declared.result.Result.{Result}
use Rattle.lt_io.specs.Causes.{HasCause}
use Rattle.lt_io.specs.Link.{FitsAfter, Link, receiving, sending}
use Rattle.lt_io.specs.Outside.{Links, Outside}
use Rattle.lt_io.specs.Sending.{AppendsPrefix}
use Rattle.lt_io.specs.Sink.{Sink}
use Rattle.lt_io.specs.declared.sink.Failed.{Failed}
use Rattle.lt_loop.specs.Event.{Told, bytes, ended_side, failed, turn}
use Rattle.lt_loop.specs.CoreState.{CoreState}
use Rattle.lt_loop.specs.Play.{Piece, destination_of}
use Rattle.lt_loop.specs.Run.{Answer}
use Rattle.lt_loop.specs.Side.{most_kept}
use Rattle.lt_loop.specs.declared.event.Destination.{Destination}
use Rattle.lt_loop.specs.declared.event.Destination.TheVariants as destination
use Rattle.lt_loop.specs.declared.event.Emits.{Emits}
use Rattle.lt_loop.specs.declared.event.PieceKind.{PieceKind}
use Rattle.lt_loop.specs.declared.event.Wants.{Wants}
use Rattle.lt_loop.specs.declared.event.Wants.TheVariants as wants
use Rattle.lt_rif.specs.declared.end.Who.{Who}
use Rattle.lt_rif.specs.declared.end.Who.TheVariants as who
use Rattle.lt_drive.specs.Drive.{Begins, Continuation, HasPutOut}
use Rattle.lt_drive.specs.History.{History}
use Rattle.lt_drive.specs.Interaction.{Interaction, Received, piece, side}
use Rattle.lt_drive.specs.declared.served.Served.{Served}
use Rattle.lt_drive.specs.declared.served.Served.TheVariants as served

-- where a run stands: its core, and the links of its sides
pub record Standing (State : Type 0) : Type 0 where
  pub core : State
  pub links : Links

-- what is outside it, where this is its trace
abbrev pub outside : {State : Type 0} → Standing State → Sink → Outside Links
outside s trace = record { inputs = s.links; trace = trace }

-- what a core answered, whose text this is
abbrev pub answer_of : Emits → List ℕ → Answer
answer_of emits text =
    record { taken = emits.taken; piece = emits.piece; text = text; wanted = emits.wants }

-- these bytes were to be sent over a link, with this result
pub record IsSending (old new : Link) (result : Result (Unit {0}) Failed) (text : List ℕ) :
    Type 0 where
  pub all : OnOk result (Appends old.sent new.sent text)
  pub prefix : OnErr result (AppendsPrefix old.sent new.sent text)
  pub stays : Keeps old.left new.left
  pub fitting : FitsAfter old.fits new.fits (sending result text ∷ [])
  pub cause : HasCause old.faults new.faults result

-- something was to be received over a link into this, with this result
pub record IsReceiving (old new : Link) (result : Result ℕ Failed) (into : List ℕ) : Type 0 where
  pub within : ReadsAtMost result into
  pub takes : ReadConsumes old.left new.left result into
  pub stays : Keeps old.sent new.sent
  pub fitting : FitsAfter old.fits new.fits (receiving result into ∷ [])
  pub cause : HasCause old.faults new.faults result

-- the event that tells what was received of a side: bytes, its end, or that it failed
abbrev pub told_of : Who → Result ℕ Failed → List ℕ → Told
told_of w (Ok zero) into = ended_side w
told_of w (Ok (suc n)) into = bytes w (take (suc n) into)
told_of w (Err f) into = failed w

-- Something was received over the link of a side, and this event tells it. There was room for a
-- byte, and for no more bytes than a side keeps that holds none.
pub record Hears (w : Who) (old new : Link) (e : Told) : Type 0 where
  pub result : Result ℕ Failed
  pub into : List ℕ
  pub room : 0 < length into
  pub short : length into ≤ most_kept
  pub receiving : IsReceiving old new result into
  pub told : e ≡ told_of w result into

-- what comes of a piece that was to be sent to a side, with this result, where this is wanted then
abbrev pub served_by : Who → Wants → Result (Unit {0}) Failed → Served
served_by w next (Ok u) = served.Goes next None
served_by w next (Err f) = served.Broken w

-- a piece was given to where it goes: that of the trace is left to whoever asked
abbrev pub IsGivenTo : Destination → PieceKind → List ℕ → Wants → Links → Links → Served → Type 0
IsGivenTo destination.Trace kind text next old new r =
    (new ≡ old) × (r ≡ served.Goes next (Some kind))
IsGivenTo destination.Controller kind text next old new r =
    (result : Result (Unit {0}) Failed) × IsSending old.controller new.controller result text
    × (new.oracle ≡ old.oracle) × (r ≡ served_by who.Controller next result)
IsGivenTo destination.Oracle kind text next old new r =
    (result : Result (Unit {0}) Failed) × IsSending old.oracle new.oracle result text
    × (new.controller ≡ old.controller) × (r ≡ served_by who.Oracle next result)

-- the same of what may be a piece
abbrev pub IsGivenPiece : Option PieceKind → List ℕ → Wants → Links → Links → Served → Type 0
IsGivenPiece None text next old new r = (new ≡ old) × (r ≡ served.Goes next None)
IsGivenPiece (Some kind) text next old new r =
    IsGivenTo (destination_of kind) kind text next old new r

-- what was answered was given to where it goes
abbrev pub IsGiven : Answer → Links → Links → Served → Type 0
IsGiven a old new r = IsGivenPiece a.piece a.text a.wanted old new r

-- An event was told, and what came of it was given. This is the text of the last piece.
pub record IsTold {State : Type 0} (answers : State → Told → Answer → State → Type 0)
    (old new : Standing State) (text : List ℕ) (e : Told) (r : Served) : Type 0 where
  pub answer : Answer
  pub shown : answer.text ≡ text
  pub answered : answers old.core e answer new.core
  pub given : IsGiven answer old.links new.links r

-- a run stands there with another link of a side
abbrev pub with_link : {State : Type 0} → Standing State → Who → Link → Standing State
with_link s who.Controller l =
    record s { links = record { controller = l; oracle = s.links.oracle } }
with_link s who.Oracle l =
    record s { links = record { controller = s.links.controller; oracle = l } }

-- One event was told, which was wanted. A row a way.
pub data IsServed {State : Type 0} (answers : State → Told → Answer → State → Type 0)
    (old new : Standing State) (text : List ℕ) : Wants → Served → Type 0 where
  -- a turn was wanted
  of_turn : (r : Served) → IsTold answers old new text turn r →
      IsServed answers old new text wants.Turn r
  -- a reply of the controller was wanted: what was received of it was told
  of_controller : (mid : Link) (e : Told) (r : Served) →
      Hears who.Controller old.links.controller mid e →
      IsTold answers (with_link old who.Controller mid) new text e r →
      IsServed answers old new text wants.Controller r
  -- one of the oracle was
  of_oracle : (mid : Link) (e : Told) (r : Served) →
      Hears who.Oracle old.links.oracle mid e →
      IsTold answers (with_link old who.Oracle mid) new text e r →
      IsServed answers old new text wants.Oracle r

-- the kind of the piece that is left for the trace, if one is
abbrev pub traced_of : Served → Option PieceKind
traced_of (served.Goes next kind) = kind
traced_of (served.Broken w) = None

-- a trace was written this text, if it is for the trace
abbrev pub IsTraced : Option PieceKind → List ℕ → Sink → Sink → Type 0
IsTraced None text old new = new ≡ old
IsTraced (Some kind) text old new =
    Appends old.written new.written text × (new.faults ≡ old.faults) × (new.gathers ≡ old.gathers)

-- What is left of a run was driven up to a piece of its play that could not be sent to this side,
-- but for a prefix. The core stands there.
pub record BreaksOff {State : Type 0} (k : Continuation) (old new : Outside Links)
    (core : CoreState State) (w : Who) : Type 0 where
  pub received : Received
  pub given : List Piece
  pub kind : PieceKind
  pub prefix : List ℕ
  pub rest : List ℕ
  pub goes : destination_of kind ≡ side w
  pub begins : Begins k received (given ++ piece kind (prefix ++ rest) ∷ [])
  pub interaction : Interaction old new received (given ++ piece kind prefix ∷ []) (Some w) false
  pub history : History k old new received (given ++ piece kind prefix ∷ []) (Some w) false
  pub counts : HasPutOut k (given ++ piece kind prefix ∷ []) core
