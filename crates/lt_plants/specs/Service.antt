-- What is due to an input: the replies to its lines, and the number at its end. The byte 10 is the line feed.
use Rattle.std.specs.Prelude.{◌≡◌, ◌≢◌, ℕ, ◌^◌, ◌<◌, ◌≤◌, ◌==◌, Bool, List, [], ◌∷◌, ◌++◌, length, Some, ◌⊎◌, if◌then◌else◌}
use Rattle.std.specs.Io.KnownBytes.{Appends}
use Rattle.std.specs.declared.option.Option.{Option}
use Rattle.lt_io.specs.Causes.{Rose, WhereTold}
use Rattle.lt_io.specs.Link.{Link}
use Rattle.lt_plants.specs.Replies.{IsReply, HasNoReply}
use Rattle.lt_plants.specs.declared.plant.Plant.{Plant}

-- an input: lines, each without its line feed, and the rest after the last line feed
pub data Input : Type 0 where
  rest : (text : List ℕ) → Input
  line : (text : List ℕ) → Input → Input

-- the input of a text and of the bytes after it, where the text has no line feed
abbrev pub input_of : List ℕ → List ℕ → Input
input_of text [] = rest text
input_of text (b ∷ bs) = if b == 10 then line text (input_of [] bs) else input_of (text ++ b ∷ []) bs

-- how many bytes a line may have before its line feed
abbrev pub longest_line : ℕ
longest_line = 4096

-- The replies that are due to an input, each with a line feed, and the number at its end.
pub data IsDue : Plant → Bool → Input → List ℕ → ℕ → Type 0 where
  -- the rest gets no reply
  ended : (plant : Plant) (last : Bool) (text : List ℕ) → length text ≤ longest_line → IsDue plant last (rest text) [] 0
  -- a rest that is too long for a line
  long_rest : (plant : Plant) (last : Bool) (text : List ℕ) → longest_line < length text → IsDue plant last (rest text) [] 2
  -- a line that is too long
  long_line : (plant : Plant) (last : Bool) (text : List ℕ) (more : Input) → longest_line < length text → IsDue plant last (line text more) [] 2
  -- a line without a reply
  no_reply : (plant : Plant) (last : Bool) (text : List ℕ) (more : Input) → length text ≤ longest_line → HasNoReply plant last text → IsDue plant last (line text more) [] 1
  -- a line with a reply, and what is due to all that comes after it
  replied : (plant : Plant) (last : Bool) (text : List ℕ) (more : Input) (reply : List ℕ) (now : Bool) (replies : List ℕ) (number : ℕ) →
      length text ≤ longest_line → IsReply plant last text reply now → IsDue plant now more replies number →
      IsDue plant last (line text more) (reply ++ (10 ∷ replies)) number

-- how many bytes end a service that has taken them
abbrev pub most_taken : ℕ
most_taken = 2 ^ 63

-- A plant was served the bytes of a link that tells them, and answered this number. It took some of the bytes:
-- fewer than end a service, and it sent the replies and answers the number that are due to all bytes, or it took
-- as many, and it sent the replies that are due to those that it took and answers 4.
pub record IsServed (plant : Plant) (last : Bool) (bytes : List ℕ) (left sent_before sent : Option (List ℕ)) (answer : ℕ) : Type 0 where
  pub taken : List ℕ
  pub after : List ℕ
  pub takes : bytes ≡ taken ++ after
  pub leaves : left ≡ Some after
  pub replies : List ℕ
  pub sends : Appends sent_before sent replies
  pub number : ℕ
  pub answers : ((length taken < most_taken) × IsDue plant last (input_of [] bytes) replies number × (answer ≡ number))
      ⊎ ((most_taken ≤ length taken) × IsDue plant last (input_of [] taken) replies number × (answer ≡ 4))

-- What serving a plant over a link did, with this answer: 9 where the link failed, whose count of faults rose, and else the
-- one that is due to the bytes of a link that tells them, and the count stayed.
pub record IsServedOver (plant : Plant) (last : Bool) (old new : Link) (answer : ℕ) : Type 0 where
  pub fault : answer ≡ 9 → Rose old.faults new.faults
  pub calm : answer ≢ 9 → new.faults ≡ old.faults
  pub served : answer ≢ 9 → WhereTold old.left (λ bytes. IsServed plant last bytes new.left old.sent new.sent answer)
