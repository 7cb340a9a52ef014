-- Rounds of a campaign, and the text that they write.
use Rattle.std.specs.Prelude.{◌≡◌, ◌+◌, ◌≤◌, ℕ, List, [], ◌∷◌, ◌++◌, codes, decimal, length, None, Some, slice_get}
use Rattle.std.specs.declared.option.Option.{Option}
use Rattle.lt_rif.specs.Trace.{line}
use Rattle.lt_campaign.specs.Session.{Session, TakesItsPart}

-- what each session has for the trace in a round, one after another, where it has something
abbrev pub Parts : Type 0
Parts = List (Option (List ℕ))

-- In a round, the first sessions, so many, took their parts, and these are for the trace. The
-- others are as they were.
pub record IsRoundTo {State : Type 0} (count : ℕ) (old new : List (Session State)) (parts : Parts) :
    Type 0 where
  pub within : count ≤ length old
  pub same_number : length new ≡ length old
  pub as_many : length parts ≡ count
  pub parted : (i : ℕ) (s t : Session State) (p : Option (List ℕ)) → slice_get old i ≡ Some s →
      slice_get new i ≡ Some t → slice_get parts i ≡ Some p → TakesItsPart s t p
  pub others : (i : ℕ) → count ≤ i → slice_get new i ≡ slice_get old i

-- in a round, all sessions took their parts
abbrev pub IsRound : {State : Type 0} → List (Session State) → List (Session State) → Parts → Type 0
IsRound old new parts = IsRoundTo (length old) old new parts

-- Sessions went through rounds, one after another.
pub data AreRounds {State : Type 0} : List (Session State) → List Parts → List (Session State) →
    Type 0 where
  none : (ss : List (Session State)) → AreRounds ss [] ss
  more : (old mid new : List (Session State)) (parts : Parts) (rounds : List Parts) →
      IsRound old mid parts → AreRounds mid rounds new → AreRounds old (parts ∷ rounds) new

-- the frame of a piece: a line with its session and its length in bytes, and then the piece
abbrev pub frame : ℕ → List ℕ → List ℕ
frame session text =
    line (codes "#from " ++ decimal session ++ codes " " ++ decimal (length text)) ++ text

-- the frame of what a session has for the trace, if it has something
abbrev pub part_text : ℕ → Option (List ℕ) → List ℕ
part_text session None = []
part_text session (Some text) = frame session text

-- the frames of parts, from a session on
abbrev pub framed : ℕ → Parts → List ℕ
framed session [] = []
framed session (p ∷ ps) = part_text session p ++ framed (session + 1) ps

-- the text of rounds
abbrev pub rounds_text : List Parts → List ℕ
rounds_text [] = []
rounds_text (parts ∷ rounds) = framed 0 parts ++ rounds_text rounds

-- the line at the end: so many sessions, of which so many ended well
abbrev pub campaign_line : ℕ → ℕ → List ℕ
campaign_line sessions well =
    line (codes "#campaign " ++ decimal sessions ++ codes " ended " ++ decimal well)
