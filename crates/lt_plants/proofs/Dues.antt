-- What is due to the bytes after a line.
use Rattle.std.proofs.Common.{◌≡◌, ℕ, ◌<◌, ◌≤◌, ◌==◌, List, [], ◌∷◌, ◌++◌, length, append_assoc, length-append, arith, Bool, true, false, if◌then◌else◌, ◌≢◌, take}
use Rattle.std.proofs.Math.Seq.{take-append_seam}
use Rattle.std.proofs.lemmas.Bool.{ne_eqb}
use Rattle.std.proofs.KnownBytes.{Appends-nil}
use Rattle.std.specs.Io.KnownBytes.{Appends}
use Rattle.std.specs.declared.option.Option.{Option}
use Rattle.lt_plants.specs.Replies.{IsReply, HasNoReply}
use Rattle.lt_plants.specs.Service.{line, input_of, longest_line, IsDue, long_rest, long_line, no_reply, replied}
use Rattle.lt_plants.specs.inner.Going.{GoesOn, EndsWith, due_after}
use Rattle.lt_plants.specs.declared.plant.Plant.{Plant}

long_at : (b : Bool) (plant : Plant) (last : Bool) (text more : List ℕ) (bytes : List ℕ) → longest_line < length text → IsDue plant last (input_of more bytes) [] 2 → IsDue plant last (if b then line text (input_of [] bytes) else input_of more bytes) [] 2
long_at true plant last text more bytes long due = long_line plant last text (input_of [] bytes) long
long_at false plant last text more bytes long due = due

-- a text that is too long for a line ends a service, whatever comes
pub long_text : (bytes : List ℕ) (plant : Plant) (last : Bool) (text : List ℕ) → longest_line < length text → IsDue plant last (input_of text bytes) [] 2
long_text [] plant last text long = long_rest plant last text long
long_text (b ∷ bs) plant last text long =
    long_at (b == 10) plant last text (text ++ b ∷ []) bs long (long_text bs plant last (text ++ b ∷ []) (omega (arith, length-append text (b ∷ []))))

-- a byte more than a line may have ends a service
pub too_long : (before : Option (List ℕ)) (plant : Plant) (last : Bool) (text : List ℕ) (byte : ℕ) → length text ≡ longest_line → byte ≢ 10 → EndsWith before before (λ bytes. due_after plant last text (byte ∷ bytes)) 2
too_long before plant last text byte full other =
    let is_other : (byte == 10) ≡ false = ne_eqb byte 10 other in
    ([], Appends-nil before, λ bytes. rw is_other (long_text bytes plant last (text ++ byte ∷ []) (omega (arith, full, length-append text (byte ∷ [])))))

-- a line with a reply
pub line_replied : (plant : Plant) (last now : Bool) (text reply : List ℕ) (before after : Option (List ℕ)) → length text ≤ longest_line → IsReply plant last text reply now → Appends before after (reply ++ 10 ∷ []) → GoesOn before after (λ bytes. IsDue plant last (line text (input_of [] bytes))) (due_after plant now [])
line_replied plant last now text reply before after short is_reply sent = (
  reply ++ 10 ∷ [],
  sent,
  λ bytes replies number due. rw (append_assoc reply (10 ∷ []) replies) (replied plant last text (input_of [] bytes) reply now replies number short is_reply due),
)

-- the prefix of a buffer that a reply was written to
pub written : (reply into rest : List ℕ) (count : ℕ) → count ≡ length reply → into ≡ reply ++ rest → take count into ≡ reply
written reply into rest count e f = rw (e, f) (take-append_seam reply rest)

-- a line without a reply
pub line_refused : (plant : Plant) (last : Bool) (text : List ℕ) (before : Option (List ℕ)) → length text ≤ longest_line → HasNoReply plant last text → EndsWith before before (λ bytes. IsDue plant last (line text (input_of [] bytes))) 1
line_refused plant last text before short none = ([], Appends-nil before, λ bytes. no_reply plant last text (input_of [] bytes) short none)
