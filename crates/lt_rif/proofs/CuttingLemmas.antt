-- What calls find in a stream.
use Rattle.std.proofs.Common.{◌≡◌, ℕ, zero, suc, Bool, List, [], ◌∷◌, ◌++◌, length, drop, refl, ap, sym, ◌∙◌}
use Rattle.lt_num.specs.declared.value.Value.{Value}
use Rattle.lt_rif.specs.Cutting.{Call, Feeds, Finding, reply, findings_of, found_then, left_of, replies_of, reply_then, CutsChangeNothing}
use Rattle.lt_rif.specs.Reading.{Reading, answer, between, FedTells}
use Rattle.lt_rif.specs.Reply.{Reply, Stream, reply_of}
use Rattle.lt_rif.specs.declared.reader.Fed.{Fed}
use Rattle.lt_rif.specs.declared.reader.Fed.TheVariants as fed
use Rattle.lt_rif.specs.declared.slot.Slot.{Slot}
use Rattle.lt_rif.proofs.ReadingLemmas.{next_reply}

-- so many replies, of which this is the first
abbrev first_of : ℕ → ℕ → List Slot → Reply → List Finding
first_of zero decimals slots r = []
first_of (suc n) decimals slots r = reply_then r (replies_of n decimals slots)

first-next : (n decimals : ℕ) (slots : List Slot) (s : Stream) → first_of n decimals slots (reply_of decimals slots s) ≡ replies_of n decimals slots s
first-next zero decimals slots s = refl
first-next (suc n) decimals slots s = refl

-- one call, where those later it find the replies of what it left
found-by : (call : Fed) (old after : Reading) (piece rest : List ℕ) (values : List Value) (closed : Bool) (decimals : ℕ) (slots : List Slot) (more : List Finding)
    → old.begun.decimals ≡ decimals → old.slots ≡ slots → FedTells old piece call after values
    → more ≡ first_of (length more) decimals slots (answer after (left_of piece call rest) closed)
    → found_then call values after.begun.place more ≡ first_of (length (found_then call values after.begun.place more)) decimals slots (answer old (piece ++ rest) closed)
found-by fed.More old after piece rest values closed decimals slots more d s tells later = later ∙ ap (first_of (length more) decimals slots) (sym (tells.0 rest closed))
found-by (fed.Whole n) old after piece rest values closed decimals slots more d s tells later =
    let place = after.begun.place in
    let left : Stream = record { place = place; bytes = drop n piece ++ rest; is_closed = closed } in
    let stands : after ≡ between decimals slots place = tells.2 ∙ (λ i. between (d i) (s i) place) in
    let next : answer after (drop n piece ++ rest) closed ≡ reply_of decimals slots left =
    ap (λ (r : Reading). answer r (drop n piece ++ rest) closed) stands ∙ next_reply decimals slots left in
    ap (λ (fs : List Finding). reply values place ∷ fs) (later ∙ ap (first_of (length more) decimals slots) next ∙ first-next (length more) decimals slots left)
    ∙ ap (λ (r : Reply). reply_then r (replies_of (length more) decimals slots)) (sym (tells.1 rest closed))
found-by (fed.Malformed f place) old after piece rest values closed decimals slots more d s tells later =
    ap (λ (r : Reply). reply_then r (replies_of 0 decimals slots)) (sym (tells.0 rest closed))

-- all of them
found-all : (calls : List Call) (r : Reading) (bytes : List ℕ) (closed : Bool) (decimals : ℕ) (slots : List Slot) → r.begun.decimals ≡ decimals → r.slots ≡ slots → Feeds r bytes calls
    → findings_of calls ≡ first_of (length (findings_of calls)) decimals slots (answer r bytes closed)
found-all [] r bytes closed decimals slots d s feeds = refl
found-all (call ∷ calls) r bytes closed decimals slots d s feeds =
    let rest = feeds.0 in
    let is = feeds.1 in
    let later = found-all calls call.after (left_of call.piece call.fed rest) closed decimals slots (is.decimals ∙ d) (is.slots ∙ s) feeds.3 in
    found-by call.fed r call.after call.piece rest call.values closed decimals slots (findings_of calls) d s is.tells later
    ∙ ap (λ (bs : List ℕ). first_of (length (findings_of (call ∷ calls))) decimals slots (answer r bs closed)) (sym feeds.2)

pub cuts_change_nothing : CutsChangeNothing
cuts_change_nothing decimals slots s calls feeds =
    found-all calls (between decimals slots s.place) s.bytes s.is_closed decimals slots refl refl feeds
    ∙ ap (first_of (length (findings_of calls)) decimals slots) (next_reply decimals slots s)
    ∙ first-next (length (findings_of calls)) decimals slots s
