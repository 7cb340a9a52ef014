-- The forms of numbers while constraints are loaded.
use Rattle.std.specs.Prelude.{◌≡◌, ◌<◌, ◌≤◌, ◌+◌, ◌*◌, ◌++◌, [], ◌∷◌, ℕ, IsTrue, List, length, None, Option, Ok, Err}
use Rattle.std.specs.declared.result.Result.{Result}
use Rattle.lt_num.specs.declared.fault.Arith.{Arith}
use Rattle.lt_formula.specs.Kinds.{variables_of}
use Rattle.lt_formula.specs.Table.{spelled}
use Rattle.lt_formula.specs.Valuation.{Valuation}
use Rattle.lt_formula.specs.View.{table_expressions, table_kinds, table_len}
use Rattle.lt_formula.specs.declared.table.Table.{Table}
use Rattle.lt_linear.specs.Draft.{draft_room}
use Rattle.lt_linear.specs.Order.{is_form}
use Rattle.lt_linear.specs.declared.form.Form.{Form}
use Rattle.lt_space.specs.Meaning.{FormAnswer, form_of}
use Rattle.lt_space.specs.inner.Forms.{forms_of, forms_room, forms_terms, forms_terms_room}
use Rattle.lt_space.specs.inner.Place.{form_at, no_form}
use Rattle.lt_space.specs.inner.Kept.{AreKept, Grows, SameFrom, Stands, are_free, number_at, unkept}
use Rattle.lt_space.specs.inner.Memo.{memo_numbers}
use Rattle.lt_space.specs.declared.measures.Measures.{Measures}

-- the forms
abbrev pub measured : Measures → List Form
measured m = forms_of m.forms

-- for each expression, the number of its form
abbrev pub numbers_in : Measures → List (Option ℕ)
numbers_in m = memo_numbers m.memo

-- the form that is due for an expression
abbrev pub form_due : Valuation → Table → ℕ → FormAnswer
form_due v t k = form_of v (table_kinds t) (spelled (table_expressions t) k)

-- each form is over so many variables
abbrev pub AreForms : Measures → Type 0
AreForms m = (n : ℕ) → n < length (measured m) → IsTrue (is_form m.variables (form_at (measured m) n))

-- There is room for one form more.
pub record HasPlace (m : Measures) : Type 0 where
  pub forms : length (measured m) < forms_room m.forms
  pub terms : forms_terms m.forms + m.variables ≤ forms_terms_room m.forms
  pub draft : m.variables + m.variables + 1 ≤ draft_room m.draft

-- There is room for the forms of all expressions that have none, but for so many that are owed.
pub record HasFormRoom (owed : ℕ) (m : Measures) : Type 0 where
  pub forms : length (measured m) + unkept (numbers_in m) ≤ forms_room m.forms + owed
  pub terms : forms_terms m.forms + unkept (numbers_in m) * m.variables ≤ forms_terms_room m.forms + owed * m.variables
  pub draft : m.variables + m.variables + 1 ≤ draft_room m.draft

-- Nothing is kept.
pub record AreBlank (m : Measures) : Type 0 where
  pub free : IsTrue (are_free (numbers_in m))
  pub forms : measured m ≡ []
  pub terms : forms_terms m.forms ≡ 0

-- There is room for the forms of so many expressions over so many variables.
pub record AreRoomy (expressions width : ℕ) (m : Measures) : Type 0 where
  pub len : length (numbers_in m) ≡ expressions
  pub variables : m.variables ≡ width
  pub forms : expressions ≤ forms_room m.forms
  pub terms : expressions * width ≤ forms_terms_room m.forms
  pub draft : width + width + 1 ≤ draft_room m.draft

-- What is kept is right.
pub record AreMeasured (v : Valuation) (t : Table) (m : Measures) : Type 0 where
  pub len : length (numbers_in m) ≡ table_len t
  pub variables : m.variables ≡ variables_of (table_kinds t)
  pub kept : AreKept Form no_form (measured m) (numbers_in m) (form_due v t)
  pub forms : AreForms m

-- No room is lost.
pub record StayLarge (old new : Measures) : Type 0 where
  pub len : length (numbers_in new) ≡ length (numbers_in old)
  pub variables : new.variables ≡ old.variables
  pub forms : forms_room old.forms ≤ forms_room new.forms
  pub terms : forms_terms_room old.forms ≤ forms_terms_room new.forms
  pub draft : draft_room old.draft ≤ draft_room new.draft

-- A form was put behind those that were there.
pub record IsPut (old new : Measures) (n : ℕ) (form : Form) : Type 0 where
  pub number : n ≡ length (measured old)
  pub forms : measured new ≡ measured old ++ form ∷ []
  pub is_form : IsTrue (is_form old.variables form)
  pub terms : forms_terms new.forms ≤ forms_terms old.forms + old.variables
  pub numbers : numbers_in new ≡ numbers_in old
  pub large : StayLarge old new

-- Nothing was put for a fault.
pub record IsRefused (due : FormAnswer) (fault : Arith) (old new : Measures) : Type 0 where
  pub is : Err fault ≡ due
  pub large : StayLarge old new

-- a form was put that is what is due, and so is a fault
abbrev pub PutTells : FormAnswer → Result ℕ Arith → Measures → Measures → Type 0
PutTells due (Ok n) old new = (form : Form) × (Ok form ≡ due) × IsPut old new n form
PutTells due (Err fault) old new = IsRefused due fault old new

-- A form is there that is what is due. From an expression on nothing is kept that was not.
pub record IsGiven (v : Valuation) (t : Table) (from owed : ℕ) (due : FormAnswer) (n : ℕ) (old new : Measures) : Type 0 where
  pub stands : Stands Form no_form (measured new) n due
  pub right : AreMeasured v t new
  pub room : HasFormRoom owed new
  pub grows : Grows Form no_form (measured old) (measured new)
  pub same : SameFrom from (numbers_in old) (numbers_in new)
  pub large : StayLarge old new

-- a form is there that is what is due, and so is a fault
abbrev pub Gives : Valuation → Table → ℕ → ℕ → FormAnswer → Result ℕ Arith → Measures → Measures → Type 0
Gives v t from owed due (Ok n) old new = IsGiven v t from owed due n old new
Gives v t from owed due (Err fault) old new = IsRefused due fault old new

-- What is kept is right, and there is room.
pub record AreReady (v : Valuation) (t : Table) (m : Measures) : Type 0 where
  pub right : AreMeasured v t m
  pub room : HasFormRoom 0 m

-- The same, and an expression has no form yet.
pub record AwaitForm (v : Valuation) (t : Table) (exp : ℕ) (m : Measures) : Type 0 where
  pub ready : AreReady v t m
  pub within : exp < table_len t
  pub free : number_at (numbers_in m) exp ≡ None

-- Nothing changed but the draft.
pub record IsRedrafted (old new : Measures) : Type 0 where
  pub same : new ≡ record old { draft = new.draft }
  pub draft : draft_room old.draft ≤ draft_room new.draft
