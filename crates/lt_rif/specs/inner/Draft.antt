-- What words make of a draft, the code's reply that has begun.
use Rattle.std.specs.Prelude.{◌≡◌, ◌+◌, Bool, [], ◌∷◌, ◌++◌, length, drop, if◌then◌else◌}
use Rattle.lt_num.specs.declared.value.Value.{Value}
use Rattle.lt_rif.specs.Reply.{Progress, more, done, refused, past, filled}
use Rattle.lt_rif.specs.View.{begun}
use Rattle.lt_rif.specs.declared.draft.Draft.{Draft}
use Rattle.lt_rif.specs.declared.draft.Look.{Look}
use Rattle.lt_rif.specs.declared.draft.Look.TheVariants as look
use Rattle.lt_rif.specs.declared.draft.Effect.{Effect}
use Rattle.lt_rif.specs.declared.draft.Effect.TheVariants as effect

-- the next slot of a draft got a value, which it keeps or not
abbrev pub filled_with : Draft → Value → Bool → Progress
filled_with d v keep = filled (begun d) d.word.items (drop (d.filled + 1) d.slots.items) (if keep then d.values.items ++ v ∷ [] else d.values.items)

-- what a word that looks so makes of a draft
abbrev pub looked : Draft → Look → Progress
looked d (look.Pass is_comment) = more (past (begun d) d.word.items is_comment)
looked d (look.Value v keep) = filled_with d v keep
looked d (look.Refused f) = refused f (d.place + d.taken)

-- What a word makes of a draft.
abbrev pub HasEffect : Progress → Draft → Effect → Draft → Type 0
-- the reply goes on
HasEffect (more r) old effect.More new = (begun new ≡ r) × (new.word.items ≡ []) × (new.slots ≡ old.slots)
-- it is whole, with these values
HasEffect (done values) old effect.Done new = (new.values.items ≡ values) × (new.slots ≡ old.slots) × (new.place ≡ old.place) × (new.taken ≡ old.taken + length old.word.items + 1) × (new.decimals ≡ old.decimals)
-- it is refused where the word begins
HasEffect (refused f place) old (effect.Refused fault) new = (f ≡ fault) × (place ≡ old.place + old.taken) × (new ≡ old)
-- it has no other effect
HasEffect _ old _ new = ⊥
