-- Texts that were written or sent in part.
use Rattle.std.specs.Prelude.{◌≡◌, ℕ, ◌<◌, List, ◌++◌, length, OnErr, OnOk}
use Rattle.std.specs.Io.KnownBytes.{Appends}
use Rattle.std.specs.declared.option.Option.{Option}
use Rattle.std.specs.declared.result.Result.{Result}
use Rattle.lt_io.specs.Causes.{HasCause}
use Rattle.lt_io.specs.Sink.{Sink}

-- told bytes grew by a prefix of the text, perhaps by all of it
abbrev pub AppendsPrefix : Option (List ℕ) → Option (List ℕ) → List ℕ → Type 0
AppendsPrefix old new text = (prefix : List ℕ) × (rest : List ℕ) × (text ≡ prefix ++ rest) × Appends old new prefix

-- told bytes grew by a prefix of the text, but not by all of it
abbrev pub AppendsProperPrefix : Option (List ℕ) → Option (List ℕ) → List ℕ → Type 0
AppendsProperPrefix old new text =
    (prefix : List ℕ) × (rest : List ℕ) × (text ≡ prefix ++ rest) × (0 < length rest) × Appends old new prefix

-- A text was put into a sink whole, or but for its end where a call failed, which was counted.
pub record IsPut {T E : Type 0} (text : List ℕ) (old new : Sink) (result : Result T E) : Type 0 where
  pub all : OnOk result (Appends old.written new.written text)
  pub prefix : OnErr result (AppendsProperPrefix old.written new.written text)
  pub cause : HasCause old.faults new.faults result
