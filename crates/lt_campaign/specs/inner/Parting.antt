-- A session that took its part in a round, or not, where a write to the trace failed.
use Rattle.std.specs.Prelude.{◌≡◌, ◌-◌, ℕ, List, [], ◌++◌, length, take, Ok, Err}
use Rattle.std.specs.Io.KnownBytes.{Appends}
use Rattle.std.specs.declared.option.Option.{Option}
use Rattle.std.specs.declared.result.Result.{Result}
use Rattle.lt_io.specs.Sink.{Sink}
use Rattle.lt_io.specs.declared.sink.Failed.{Failed}
use Rattle.lt_campaign.specs.Campaign.{AllOver, IsCutText, well_count}
use Rattle.lt_campaign.specs.Rounds.{AreRounds, IsRound, IsRoundTo, Parts, campaign_line, framed, part_text, rounds_text}
use Rattle.lt_campaign.specs.Session.{Session, TakesItsPart}
use Rattle.lt_campaign.specs.inner.Writing.{HasText}

-- A session took its part, and its frame was put behind a text.
pub record Parted {State : Type 0} (number : ℕ) (old new : Session State) (start now : Sink)
    (waiting before : List ℕ) : Type 0 where
  pub part : Option (List ℕ)
  pub takes : TakesItsPart old new part
  pub text : HasText start now waiting (before ++ part_text number part)

-- A write failed. A row a way.
pub data PartedNot {State : Type 0} (number : ℕ) (old new : Session State) (start now : Sink)
    (before : List ℕ) : Type 0 where
  -- before the session took its part, of what had waited
  early : new ≡ old → IsCutText start now before before →
      PartedNot number old new start now before
  -- after it had, of its frame
  late : (part : Option (List ℕ)) → TakesItsPart old new part →
      IsCutText start now before (before ++ part_text number part) →
      PartedNot number old new start now before

-- either of them, by the result
abbrev pub PutsPart : {State : Type 0} → Result (Unit {0}) Failed → ℕ → Session State →
    Session State → Sink → Sink → List ℕ → List ℕ → Type 0
PutsPart (Ok u) number old new start now waiting before =
    Parted number old new start now waiting before
PutsPart (Err f) number old new start now waiting before = PartedNot number old new start now before

-- All sessions took their parts in a round, and the frames of these were put behind a text.
pub record Rounded {State : Type 0} (old new : List (Session State)) (start now : Sink)
    (waiting before : List ℕ) : Type 0 where
  pub parts : Parts
  pub round : IsRound old new parts
  pub text : HasText start now waiting (before ++ framed 0 parts)

-- A write failed in a round, in which so many sessions had taken their parts.
pub record RoundedNot {State : Type 0} (old new : List (Session State)) (start now : Sink)
    (before : List ℕ) : Type 0 where
  pub count : ℕ
  pub parts : Parts
  pub round : IsRoundTo count old new parts
  pub cut : IsCutText start now (before ++ framed 0 (take (count - 1) parts))
      (before ++ framed 0 parts)

-- either of them, by the result
abbrev pub PutsRound : {State : Type 0} → Result (Unit {0}) Failed → List (Session State) →
    List (Session State) → Sink → Sink → List ℕ → List ℕ → Type 0
PutsRound (Ok u) old new start now waiting before = Rounded old new start now waiting before
PutsRound (Err f) old new start now waiting before = RoundedNot old new start now before

-- Sessions went in rounds to their ends, and the frames of what they had were put behind a text.
pub record Played {State : Type 0} (old new : List (Session State)) (start now : Sink)
    (waiting before : List ℕ) : Type 0 where
  pub rounds : List Parts
  pub plays : AreRounds old rounds new
  pub over : AllOver new
  pub text : HasText start now waiting (before ++ rounds_text rounds)

-- A write failed in a round behind some.
pub record PlayedNot {State : Type 0} (old new : List (Session State)) (start now : Sink)
    (before : List ℕ) : Type 0 where
  pub mid : List (Session State)
  pub rounds : List Parts
  pub plays : AreRounds old rounds mid
  pub last : RoundedNot mid new start now (before ++ rounds_text rounds)

-- either of them, by the result
abbrev pub PutsRounds : {State : Type 0} → Result (Unit {0}) Failed → List (Session State) →
    List (Session State) → Sink → Sink → List ℕ → List ℕ → Type 0
PutsRounds (Ok u) old new start now waiting before = Played old new start now waiting before
PutsRounds (Err f) old new start now waiting before = PlayedNot old new start now before

-- Sessions went in rounds to their ends, and all of the text was written.
pub record Written {State : Type 0} (old new : List (Session State)) (start now : Sink) :
    Type 0 where
  pub rounds : List Parts
  pub plays : AreRounds old rounds new
  pub over : AllOver new
  pub text : Appends start.written now.written
      (rounds_text rounds ++ campaign_line (length new) (well_count new))
  pub calm : now.faults ≡ start.faults

-- A write failed. A row a way.
pub data WrittenNot {State : Type 0} (old new : List (Session State)) (start now : Sink) :
    Type 0 where
  -- in a round
  in_round : PlayedNot old new start now [] → WrittenNot old new start now
  -- at the end line
  at_end : (rounds : List Parts) → AreRounds old rounds new → AllOver new →
      IsCutText start now (rounds_text rounds)
      (rounds_text rounds ++ campaign_line (length new) (well_count new)) →
      WrittenNot old new start now

-- either of them, by the result
abbrev pub WritesAll : {State : Type 0} → Result (Unit {0}) Failed → List (Session State) →
    List (Session State) → Sink → Sink → Type 0
WritesAll (Ok u) old new start now = Written old new start now
WritesAll (Err f) old new start now = WrittenNot old new start now
