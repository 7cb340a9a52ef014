-- On the way through an input.
use Rattle.std.specs.Prelude.{◌≡◌, ◌≢◌, ℕ, ◌<◌, ◌≤◌, Bool, List, [], ◌∷◌, ◌++◌, length, nat_lt, if◌then◌else◌, Err, IfErr, IfNone, IfSome, OnOk, Some}
use Rattle.std.specs.Io.KnownBytes.{Appends, Consumes, IsAtEnd, Keeps}
use Rattle.std.specs.declared.option.Option.{Option}
use Rattle.std.specs.declared.result.Result.{Result}
use Rattle.lt_io.specs.Causes.{Rose}
use Rattle.lt_io.specs.Link.{Link}
use Rattle.lt_plants.specs.Service.{input_of, most_taken, IsDue}
use Rattle.lt_plants.specs.declared.plant.Plant.{Plant}
use Rattle.lt_plants.specs.declared.ending.Ending.{Ending}
use Rattle.lt_plants.specs.declared.ending.Ending.TheVariants as ending

-- what is due, as replies and a number, to the bytes that come after a text
abbrev pub due_after : Plant → Bool → List ℕ → List ℕ → List ℕ → ℕ → Type 0
due_after plant last text = λ bytes replies number. IsDue plant last (input_of text bytes) replies number

-- Some replies were sent, and whatever is due now was due before after these replies.
abbrev pub GoesOn : Option (List ℕ) → Option (List ℕ) → (List ℕ → List ℕ → ℕ → Type 0) → (List ℕ → List ℕ → ℕ → Type 0) → Type 0
GoesOn before now due_before due_now =
    (sent : List ℕ) × Appends before now sent × ((bytes replies : List ℕ) (number : ℕ) → due_now bytes replies number → due_before bytes (sent ++ replies) number)

-- Some replies were sent, and these with this number are due, whatever comes.
abbrev pub EndsWith : Option (List ℕ) → Option (List ℕ) → (List ℕ → List ℕ → ℕ → Type 0) → ℕ → Type 0
EndsWith before now due number = (sent : List ℕ) × Appends before now sent × ((bytes : List ℕ) → due bytes sent number)

-- the ending of a line, which is none of the input
abbrev pub HasEnding : Option (List ℕ) → Option (List ℕ) → (List ℕ → List ℕ → ℕ → Type 0) → Ending → Type 0
HasEnding before now due ending.NoReply = EndsWith before now due 1
HasEnding before now due ending.TooLong = EndsWith before now due 2
HasEnding before now due ending.Failed = Unit {0}
HasEnding before now due ending.Ended = ⊥
HasEnding before now due ending.TooMany = ⊥

-- What taking some bytes did to the link: the replies that are due to them were sent where that went well, and else those of
-- the ending. Nothing was received, and the count of faults rose where the link failed, and only there.
pub record Takes {T : Type 0} (old new : Link) (due_before due_now : List ℕ → List ℕ → ℕ → Type 0) (result : Result T Ending) : Type 0 where
  pub goes : OnOk result (GoesOn old.sent new.sent due_before due_now)
  pub ends : IfErr result (λ e. HasEnding old.sent new.sent due_before e)
  pub fault : result ≡ Err ending.Failed → Rose old.faults new.faults
  pub calm : result ≢ Err ending.Failed → new.faults ≡ old.faults
  pub left : Keeps old.left new.left

-- A reply was sent with its line feed, or the link failed, which was counted. Nothing was received.
pub record SendsLine {T : Type 0} (reply : List ℕ) (old new : Link) (result : Result T Ending) : Type 0 where
  pub sent : OnOk result (Appends old.sent new.sent (reply ++ 10 ∷ []))
  pub ends : IfErr result (λ e. e ≡ ending.Failed)
  pub fault : result ≡ Err ending.Failed → Rose old.faults new.faults
  pub calm : result ≢ Err ending.Failed → new.faults ≡ old.faults
  pub left : Keeps old.left new.left

-- how a service ends after so many bytes, where it would end so
abbrev pub limited_of : ℕ → Ending → Ending
limited_of taken ending.Failed = ending.Failed
limited_of taken e = if nat_lt taken most_taken then e else ending.TooMany

-- how a service ends after so many bytes, of which the last ones are at hand
abbrev pub EndsAfter : Option (List ℕ) → Option (List ℕ) → (List ℕ → List ℕ → ℕ → Type 0) → ℕ → Ending → Type 0
EndsAfter before now due taken ending.NoReply = (taken < most_taken) × EndsWith before now due 1
EndsAfter before now due taken ending.TooLong = (taken < most_taken) × EndsWith before now due 2
EndsAfter before now due taken ending.TooMany = (most_taken ≤ taken) × ((sent : List ℕ) × (number : ℕ) × Appends before now sent × due [] sent number)
EndsAfter before now due taken ending.Failed = Unit {0}
EndsAfter before now due taken ending.Ended = ⊥

-- What taking a piece did to the link, after which so many bytes were taken: as `Takes`, or how the service ends.
pub record TakesPiece (old new : Link) (due_before due_now : List ℕ → List ℕ → ℕ → Type 0) (taken : ℕ) (result : Option Ending) : Type 0 where
  pub goes : IfNone result (GoesOn old.sent new.sent due_before due_now)
  pub few : IfNone result (taken < most_taken)
  pub ends : IfSome result (λ e. EndsAfter old.sent new.sent due_before taken e)
  pub fault : result ≡ Some ending.Failed → Rose old.faults new.faults
  pub calm : result ≢ Some ending.Failed → new.faults ≡ old.faults
  pub left : Keeps old.left new.left

-- What a service that ended so took and sent.
abbrev pub Serves : Plant → Bool → Option (List ℕ) → Option (List ℕ) → Option (List ℕ) → Option (List ℕ) → Ending → Type 0
Serves plant last left_before left before now ending.Failed = Unit {0}
Serves plant last left_before left before now ending.Ended =
    (taken : List ℕ) × Consumes left_before left taken × IsAtEnd left × (length taken < most_taken)
    × ((sent : List ℕ) × Appends before now sent × IsDue plant last (input_of [] taken) sent 0)
Serves plant last left_before left before now ending.NoReply =
    (taken : List ℕ) × Consumes left_before left taken × (length taken < most_taken)
    × EndsWith before now (λ bytes. due_after plant last [] (taken ++ bytes)) 1
Serves plant last left_before left before now ending.TooLong =
    (taken : List ℕ) × Consumes left_before left taken × (length taken < most_taken)
    × EndsWith before now (λ bytes. due_after plant last [] (taken ++ bytes)) 2
Serves plant last left_before left before now ending.TooMany =
    (taken : List ℕ) × Consumes left_before left taken × (most_taken ≤ length taken)
    × ((sent : List ℕ) × (number : ℕ) × Appends before now sent × IsDue plant last (input_of [] taken) sent number)

-- What serving did to a link, where it ended so. The count of faults rose where the link failed, and only there.
pub record ServesLink (plant : Plant) (last : Bool) (old new : Link) (e : Ending) : Type 0 where
  pub served : Serves plant last old.left new.left old.sent new.sent e
  pub fault : e ≡ ending.Failed → Rose old.faults new.faults
  pub calm : e ≢ ending.Failed → new.faults ≡ old.faults
