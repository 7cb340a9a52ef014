-- Texts that are written together.
use Rattle.std.specs.Prelude.{◌≡◌, ◌≤◌, ◌<◌, ◌+◌, ℕ, List, [], ◌∷◌, ◌++◌, length, sum, take, drop, IfErr, OnOk}
use Rattle.std.specs.List.{concat}
use Rattle.std.specs.Io.KnownBytes.{Appends}
use Rattle.std.specs.declared.option.Option.{Option}
use Rattle.std.specs.declared.result.Result.{Result}
use Rattle.lt_io.specs.Causes.{HasCause}
use Rattle.lt_io.specs.Sink.{Sink}

-- the texts of these lengths whose bytes stand one after the other
abbrev pub cut_at : List ℕ → List ℕ → List (List ℕ)
cut_at [] bytes = []
cut_at (n ∷ ns) bytes = take n bytes ∷ cut_at ns (drop n bytes)

-- so many lengths stand behind the one in which a place is, where one begins at the end of the other
abbrev pub StandsBehind : List ℕ → ℕ → ℕ → Type 0
StandsBehind lengths place behind =
    (front : List ℕ) × (n : ℕ) × (back : List ℕ) × (lengths ≡ front ++ n ∷ back)
    × (sum front ≤ place) × (place < sum front + n) × (behind ≡ length back)

-- Told bytes grew by these texts up to one of which a prefix was written that is not all of it. So many stand behind that.
abbrev pub AppendsUpTo : Option (List ℕ) → Option (List ℕ) → List (List ℕ) → ℕ → Type 0
AppendsUpTo old new texts behind =
    (front : List (List ℕ)) × (prefix : List ℕ) × (rest : List ℕ) × (back : List (List ℕ)) × (texts ≡ front ++ (prefix ++ rest) ∷ back)
    × (0 < length rest) × (behind ≡ length back) × Appends old new (concat front ++ prefix)

-- Texts were written to a sink together: all of them, or those before the one at which a call failed, which was counted, and
-- a prefix of that one. The answer is then how many stand behind it.
pub record IsSettled (texts : List (List ℕ)) (old new : Sink) (result : Result (Unit {0}) ℕ) : Type 0 where
  pub all : OnOk result (Appends old.written new.written (concat texts))
  pub part : IfErr result (λ behind. AppendsUpTo old.written new.written texts behind)
  pub cause : HasCause old.faults new.faults result
  pub still : new.gathers ≡ old.gathers
