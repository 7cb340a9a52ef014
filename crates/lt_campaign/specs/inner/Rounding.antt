-- Whether sessions go on.
use Rattle.std.specs.Prelude.{Bool, false, not, ◌||◌, List, [], ◌∷◌}
use Rattle.std.specs.Option.{is_some}
use Rattle.lt_campaign.specs.Session.{Session, outcome_of}

-- whether any of these sessions goes on
abbrev pub any_goes : {State : Type 0} → List (Session State) → Bool
any_goes [] = false
any_goes (s ∷ ss) = not (is_some (outcome_of s)) || any_goes ss
