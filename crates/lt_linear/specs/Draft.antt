-- Forms that are lent, and those that are written in reserved room.
use Rattle.std.specs.Prelude.{◌≡◌, ℕ, Ok, Err, vec_capacity}
use Rattle.std.specs.declared.result.Result.{Result}
use Rattle.lt_num.specs.declared.fault.Arith.{Arith}
use Rattle.lt_linear.specs.declared.draft.Draft.{Draft}
use Rattle.lt_linear.specs.declared.draft.FormRef.{FormRef}
use Rattle.lt_linear.specs.declared.form.Form.{Form}

-- the form that is lent
abbrev pub lent_form : FormRef → Form
lent_form lent = record { terms = lent.terms.now; constant = lent.constant }

-- the form that a draft is
abbrev pub draft_form : Draft → Form
draft_form draft = record { terms = draft.terms.items; constant = draft.constant }

-- how many terms it has room for
abbrev pub draft_room : Draft → ℕ
draft_room draft = vec_capacity draft.terms

-- A draft is what is due, and so is a fault.
abbrev pub DraftTells : Result (Unit {0}) Arith → Form → Result Form Arith → Type 0
DraftTells (Ok t) form due = Ok form ≡ due
DraftTells (Err fault) form due = Err fault ≡ due
