-- Places of forms.
use Rattle.std.specs.Prelude.{ℕ, Bool, ◌&&◌, nat_le, List, pos, slice_index_or, slice_range}
use Rattle.std.specs.List.{list_all}
use Rattle.lt_linear.specs.Form.{Term, constant_form}
use Rattle.lt_linear.specs.declared.form.Form.{Form}
use Rattle.lt_space.specs.declared.forms.Place.{Place}

-- the form of a place, over these terms
abbrev pub form_in : List Term → Place → Form
form_in terms place = record { terms = slice_range terms place.first place.after; constant = place.constant }

-- what stands where there is no form
abbrev pub no_form : Form
no_form = constant_form (pos 0)

-- a form by its number
abbrev pub form_at : List Form → ℕ → Form
form_at forms n = slice_index_or forms n no_form

-- whether places are among so many terms
abbrev pub are_within : ℕ → List Place → Bool
are_within terms places = list_all (λ place. nat_le place.first place.after && nat_le place.after terms) places
