-- What words make of drafts.
use Rattle.std.proofs.Common.{◌≡◌, ◌<◌, ◌+◌, false, List, [], ◌∷◌, length, drop, length-drop, arith}
use Rattle.lt_rif.specs.Reply.{filled}
use Rattle.lt_rif.specs.inner.Draft.{HasEffect}
use Rattle.lt_rif.specs.View.{begun}
use Rattle.lt_rif.specs.declared.draft.Draft.{Draft}
use Rattle.lt_rif.specs.declared.draft.Effect.TheVariants as effect
use Rattle.lt_rif.specs.declared.slot.Slot.{Slot}
use Rattle.lt_num.specs.declared.value.Value.{Value}

-- a reply of which slots are left goes on
goes_on : (old new : Draft) (values : List Value) (left : List Slot) → 0 < length left
    → begun new ≡ record { decimals = old.decimals; slots = left; values = values; is_comment = false; taken = old.taken + length old.word.items + 1; place = old.place }
    → new.word.items ≡ [] → new.slots ≡ old.slots
    → HasEffect (filled (begun old) old.word.items left values) old effect.More new
goes_on old new values [] some e word slots = absurd (omega arith)
goes_on old new values (s ∷ ss) some e word slots = (e, word, slots)

-- a reply goes on while its next slot isn't the last one
pub fills_more : (old new : Draft) (values : List Value) → old.filled + 1 < length old.slots.items
    → new.decimals ≡ old.decimals → new.filled ≡ old.filled + 1 → new.slots ≡ old.slots → new.values.items ≡ values → new.is_comment ≡ false
    → new.taken ≡ old.taken + length old.word.items + 1 → new.place ≡ old.place → new.word.items ≡ []
    → HasEffect (filled (begun old) old.word.items (drop (old.filled + 1) old.slots.items) values) old effect.More new
fills_more old new values few decimals filled slots kept comment taken place word =
    goes_on old new values (drop (old.filled + 1) old.slots.items) (omega (arith, length-drop (old.filled + 1) old.slots.items)) (cc) word slots
