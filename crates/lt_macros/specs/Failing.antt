-- What fails a test.
use Rattle.std.specs.Prelude.{Bool, true, false, List, [], ◌∷◌}

-- this, where the test fails
abbrev pub unless : {X : Type 0} → Bool → X → List X
unless true x = []
unless false x = x ∷ []
