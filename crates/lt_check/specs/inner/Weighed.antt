-- Whether weights have no fault, and what they are worth then.
use Rattle.std.specs.Prelude.{◌≡◌, ℕ, Bool, true, false, List, Ok, Err}
use Rattle.std.specs.declared.result.Result.{Result}
use Rattle.lt_num.specs.declared.fault.Arith.{Arith}

-- they are worth these, or one has a fault
abbrev pub AreWeighed : Result (List ℕ) Arith → List ℕ → Bool → Type 0
AreWeighed r ws true = r ≡ Ok ws
AreWeighed r ws false = (fault : Arith) × (r ≡ Err fault)
