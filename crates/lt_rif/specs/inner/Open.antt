-- A reader by its draft.
use Rattle.std.specs.Prelude.{None}
use Rattle.lt_rif.specs.Reading.{Reading}
use Rattle.lt_rif.specs.View.{begun}
use Rattle.lt_rif.specs.declared.draft.Draft.{Draft}

-- where a reader of a draft stands whose reply isn't refused
abbrev pub open_at : Draft → Reading
open_at d = record { slots = d.slots.items; begun = begun d; text = d.word.items; refusal = None }
