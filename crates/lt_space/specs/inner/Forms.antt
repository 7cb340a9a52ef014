-- Forms that are kept.
use Rattle.std.specs.Prelude.{ℕ, ◌-◌, ◌^◌, List, length, map, min, vec_capacity}
use Rattle.lt_linear.specs.declared.form.Form.{Form}
use Rattle.lt_space.specs.inner.Place.{form_in}
use Rattle.lt_space.specs.declared.forms.Forms.{Forms}

-- the forms
abbrev pub forms_of : Forms → List Form
forms_of forms = map (form_in forms.terms.items) forms.places.items

-- how many there is room for
abbrev pub forms_room : Forms → ℕ
forms_room forms = min (vec_capacity forms.places) (2 ^ 32)

-- how many terms they have
abbrev pub forms_terms : Forms → ℕ
forms_terms forms = length forms.terms.items

-- how many terms there is room for
abbrev pub forms_terms_room : Forms → ℕ
forms_terms_room forms = min (vec_capacity forms.terms) (2 ^ 32 - 1)
