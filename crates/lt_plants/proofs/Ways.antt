-- On the way through an input.
use Rattle.std.proofs.Common.{◌≡◌, ℕ, ◌<◌, ◌≤◌, ◌+◌, List, [], ◌∷◌, ◌++◌, length, append_assoc, subst, sym, ap, refl, arith, zero, suc, ◌-◌, ◌∙◌, take, drop, replicate, OnOk, IfErr, Ok, Err, Bool, get_or, drop-cons, add-one, append-nil, true, false, nat_lt, if◌then◌else◌}
use Rattle.std.proofs.Math.Seq.{take-append-add}
use Rattle.std.proofs.lemmas.List.{drop-replicate}
use Rattle.std.proofs.lemmas.Bool.{ltb-true, ltb-false}
use Rattle.std.proofs.KnownBytes.{Appends-nil, Appends-trans}
use Rattle.std.specs.Io.KnownBytes.{Appends}
use Rattle.std.specs.declared.option.Option.{Option}
use Rattle.std.specs.declared.result.Result.{Result}
use Rattle.lt_plants.specs.inner.Going.{GoesOn, EndsWith, EndsAfter, HasEnding, due_after, limited_of}
use Rattle.lt_plants.specs.Service.{longest_line, most_taken, ended}
use Rattle.lt_plants.specs.declared.plant.Plant.{Plant}
use Rattle.lt_plants.specs.declared.ending.Ending.{Ending}
use Rattle.lt_plants.specs.declared.ending.Ending.TheVariants as ending

-- what follows where a call went well
pub where_ok : {T E : Type 0} (r : Result T E) (P Q : Type 0) → (P → Q) → OnOk r P → OnOk r Q
where_ok (Ok x) P Q f p = f p
where_ok (Err e) P Q f p = tt

-- a reply that could not be sent ends the service
pub sent_ends : {T : Type 0} (r : Result T Ending) (a b : Option (List ℕ)) (due : List ℕ → List ℕ → ℕ → Type 0) → IfErr r (λ e. e ≡ ending.Failed) → IfErr r (λ e. HasEnding a b due e)
sent_ends (Ok x) a b due h = tt
sent_ends (Err e) a b due h = subst (HasEnding a b due) (sym h) tt

-- the bytes of a piece from one on
bytes_from : (piece bytes : List ℕ) (i byte : ℕ) → i < length piece → byte ≡ get_or piece i 0 → drop i piece ++ bytes ≡ byte ∷ (drop (i + 1) piece ++ bytes)
bytes_from piece bytes i byte h e = rw (drop-cons piece i 0, ← e, add-one) refl

-- a way through a piece, and one byte more
pub goes_on : (a b c : Option (List ℕ)) (f : List ℕ → List ℕ → ℕ → Type 0) (plant plant' : Plant) (last last' : Bool) (text text' piece : List ℕ) (i byte : ℕ) → i < length piece → byte ≡ get_or piece i 0 →
    GoesOn a b f (λ bytes. due_after plant last text (drop i piece ++ bytes)) → GoesOn b c (λ bytes. due_after plant last text (byte ∷ bytes)) (due_after plant' last' text') →
    GoesOn a c f (λ bytes. due_after plant' last' text' (drop (i + 1) piece ++ bytes))
goes_on a b c f plant plant' last last' text text' piece i byte h e one two = (
  one.0 ++ two.0,
  Appends-trans a b c one.0 two.0 one.1 two.1,
  λ bytes replies number due.
      let P : List ℕ → Type 0 = λ t. due_after plant last text t (two.0 ++ replies) number in
      rw (append_assoc one.0 two.0 replies) (one.2 bytes (two.0 ++ replies) number (subst P (sym (bytes_from piece bytes i byte h e)) (two.2 (drop (i + 1) piece ++ bytes) replies number due))),
)

ends_with : (a b c : Option (List ℕ)) (f : List ℕ → List ℕ → ℕ → Type 0) (plant : Plant) (last : Bool) (text piece : List ℕ) (i byte number : ℕ) → i < length piece → byte ≡ get_or piece i 0 →
    GoesOn a b f (λ bytes. due_after plant last text (drop i piece ++ bytes)) → EndsWith b c (λ bytes. due_after plant last text (byte ∷ bytes)) number → EndsWith a c f number
ends_with a b c f plant last text piece i byte number h e one two = (
  one.0 ++ two.0,
  Appends-trans a b c one.0 two.0 one.1 two.1,
  λ bytes.
      let P : List ℕ → Type 0 = λ t. due_after plant last text t two.0 number in
      one.2 bytes two.0 number (subst P (sym (bytes_from piece bytes i byte h e)) (two.2 (drop (i + 1) piece ++ bytes))),
)

-- a way through a piece, and an end at a byte
pub ends_on : (ending : Ending) (a b c : Option (List ℕ)) (f : List ℕ → List ℕ → ℕ → Type 0) (plant : Plant) (last : Bool) (text piece : List ℕ) (i byte : ℕ) → i < length piece → byte ≡ get_or piece i 0 →
    GoesOn a b f (λ bytes. due_after plant last text (drop i piece ++ bytes)) → HasEnding b c (λ bytes. due_after plant last text (byte ∷ bytes)) ending → HasEnding a c f ending
ends_on ending.NoReply a b c f plant last text piece i byte h e one two = ends_with a b c f plant last text piece i byte 1 h e one two
ends_on ending.TooLong a b c f plant last text piece i byte h e one two = ends_with a b c f plant last text piece i byte 2 h e one two
ends_on ending.Failed a b c f plant last text piece i byte h e one two = tt
ends_on ending.Ended a b c f plant last text piece i byte h e one two = two
ends_on ending.TooMany a b c f plant last text piece i byte h e one two = two

-- a way that begins, where nothing came of a line
pub way_start : (a : Option (List ℕ)) (plant : Plant) (last : Bool) (text : List ℕ) → text ≡ [] → GoesOn a a (λ bytes. due_after plant last [] ([] ++ bytes)) (due_after plant last text)
way_start a plant last text e = rw e ([], Appends-nil a, λ bytes replies number due. due)

-- a way through some bytes, and then through a piece
pub way_more : (a b c : Option (List ℕ)) (plant plant' plant'' : Plant) (last last' last'' : Bool) (text text' before piece : List ℕ) →
    GoesOn a b (λ bytes. due_after plant last [] (before ++ bytes)) (due_after plant' last' text) → GoesOn b c (λ bytes. due_after plant' last' text (piece ++ bytes)) (due_after plant'' last'' text') →
    GoesOn a c (λ bytes. due_after plant last [] ((before ++ piece) ++ bytes)) (due_after plant'' last'' text')
way_more a b c plant plant' plant'' last last' last'' text text' before piece one two = (
  one.0 ++ two.0,
  Appends-trans a b c one.0 two.0 one.1 two.1,
  λ bytes replies number due. rw (append_assoc before piece bytes, append_assoc one.0 two.0 replies) (one.2 (piece ++ bytes) (two.0 ++ replies) number (two.2 bytes replies number due)),
)

-- a way through some bytes, and then an end in a piece
pub way_ends : (a b c : Option (List ℕ)) (plant plant' : Plant) (last last' : Bool) (text before piece : List ℕ) (number : ℕ) →
    GoesOn a b (λ bytes. due_after plant last [] (before ++ bytes)) (due_after plant' last' text) → EndsWith b c (λ bytes. due_after plant' last' text (piece ++ bytes)) number →
    EndsWith a c (λ bytes. due_after plant last [] ((before ++ piece) ++ bytes)) number
way_ends a b c plant plant' last last' text before piece number one two = (
  one.0 ++ two.0,
  Appends-trans a b c one.0 two.0 one.1 two.1,
  λ bytes. rw (append_assoc before piece bytes) (one.2 (piece ++ bytes) two.0 number (two.2 bytes)),
)

-- what was sent after so many bytes that they end a service
pub many_taken : (a b : Option (List ℕ)) (f : List ℕ → List ℕ → ℕ → Type 0) (plant : Plant) (last : Bool) (text : List ℕ) → length text ≤ longest_line → GoesOn a b f (due_after plant last text) → (sent : List ℕ) × (number : ℕ) × Appends a b sent × f [] sent number
many_taken a b f plant last text short way =
    let P : List ℕ → Type 0 = λ t. f [] t 0 in
    (way.0, 0, way.1, subst P (append-nil way.0) (way.2 [] [] 0 (ended plant last text short)))

limited_at : (b : Bool) (before now : Option (List ℕ)) (due : List ℕ → List ℕ → ℕ → Type 0) (taken : ℕ) (e : Ending) → b ≡ nat_lt taken most_taken → HasEnding before now due e → EndsAfter before now due taken (limited_of taken e)
limited_at b before now due taken ending.Failed same h = tt
limited_at b before now due taken ending.Ended same h = absurd h
limited_at b before now due taken ending.TooMany same h = absurd h
limited_at true before now due taken ending.NoReply same h = rw (← same) (ltb-true taken most_taken (sym same), h)
limited_at false before now due taken ending.NoReply same h = rw (← same) (ltb-false taken most_taken (sym same), (h.0, 1, h.1, h.2 []))
limited_at true before now due taken ending.TooLong same h = rw (← same) (ltb-true taken most_taken (sym same), h)
limited_at false before now due taken ending.TooLong same h = rw (← same) (ltb-false taken most_taken (sym same), (h.0, 2, h.1, h.2 []))

-- an end at a byte is one after so many bytes
pub limited_ends : (before now : Option (List ℕ)) (due : List ℕ → List ℕ → ℕ → Type 0) (taken : ℕ) (e : Ending) → HasEnding before now due e → EndsAfter before now due taken (limited_of taken e)
limited_ends before now due taken e h = limited_at (nat_lt taken most_taken) before now due taken e refl h

line_feed : (k : ℕ) → 0 < k → take {A = ℕ} 1 (replicate k 10) ≡ 10 ∷ []
line_feed zero h = absurd (omega arith)
line_feed (suc k) h = refl

-- a reply at the prefix of line feeds, with the first of these
pub fed : (reply : List ℕ) → length reply ≤ 24 → take (length reply + 1) (reply ++ drop (length reply) (replicate 25 10)) ≡ reply ++ 10 ∷ []
fed reply h =
    take-append-add reply (drop (length reply) (replicate 25 10)) 1
    ∙ ap (λ t. reply ++ take 1 t) (drop-replicate (length reply) 25 10)
    ∙ ap (λ t. reply ++ t) (line_feed (25 - length reply) (omega arith))

other_failed : (b : Bool) (e : Ending) → (e ≡ ending.Failed → ⊥) → (if b then e else ending.TooMany) ≡ ending.Failed → ⊥
other_failed true e not_failed h = not_failed h
other_failed false e not_failed h = cc h

-- a limited ending is a failed link where the ending is
pub limited_failed : (taken : ℕ) (e : Ending) → limited_of taken e ≡ ending.Failed → e ≡ ending.Failed
limited_failed taken ending.Failed h = refl
limited_failed taken ending.Ended h = absurd (other_failed (nat_lt taken most_taken) ending.Ended (λ f. cc f) h)
limited_failed taken ending.NoReply h = absurd (other_failed (nat_lt taken most_taken) ending.NoReply (λ f. cc f) h)
limited_failed taken ending.TooLong h = absurd (other_failed (nat_lt taken most_taken) ending.TooLong (λ f. cc f) h)
limited_failed taken ending.TooMany h = absurd (other_failed (nat_lt taken most_taken) ending.TooMany (λ f. cc f) h)

pub failed_limited : (taken : ℕ) (e : Ending) → e ≡ ending.Failed → limited_of taken e ≡ ending.Failed
failed_limited taken e is = ap (limited_of taken) is
