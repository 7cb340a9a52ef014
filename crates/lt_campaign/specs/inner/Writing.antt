-- What was written to a trace since a moment, and what waits to be written.
use Rattle.std.specs.Prelude.{◌≡◌, ℕ, false, List, [], ◌++◌, Ok, Err}
use Rattle.std.specs.Io.KnownBytes.{Appends}
use Rattle.std.specs.declared.result.Result.{Result}
use Rattle.lt_io.specs.Sink.{Sink}
use Rattle.lt_io.specs.declared.sink.Failed.{Failed}
use Rattle.lt_campaign.specs.Campaign.{IsCutText}

-- what was written since a moment, and then what waits, is this text; at a trace that gathers no
-- texts none waits
pub record HasText (start now : Sink) (waiting text : List ℕ) : Type 0 where
  pub written : List ℕ
  pub appends : Appends start.written now.written written
  pub all : written ++ waiting ≡ text
  pub calm : now.faults ≡ start.faults
  pub still : now.gathers ≡ start.gathers
  pub prompt : start.gathers ≡ false → waiting ≡ []

-- behind a text this one was put: it was written or waits, or a write failed
abbrev pub PutsBehind : Result (Unit {0}) Failed → Sink → Sink → List ℕ → List ℕ → List ℕ → Type 0
PutsBehind (Ok u) start now waiting before text = HasText start now waiting (before ++ text)
PutsBehind (Err f) start now waiting before text = IsCutText start now before (before ++ text)
