-- Words of the contracts that read the text of a form. Numbers past the bound are cut, and judged once the whole text is read.
use Rattle.std.specs.Prelude.{◌≡◌, ℕ, ◌+◌, ◌^◌, ◌<◌, min, length, Bool, false, not, ◌==◌, IsTrue, List, ◌∷◌, ◌++◌, map, ℤ, pos, negsuc, suc, neg_ℤ, Option, None, Some, Ok, Err}
use Rattle.std.specs.List.{list_all}
use Rattle.std.specs.Str.Parse.{digits_value}
use Rattle.std.specs.declared.result.Result.{Result}
use Rattle.lt_num.specs.Bounds.{most_raw}
use Rattle.lt_num.specs.Literal.{without_minus}
use Rattle.lt_linear.specs.Form.{Term}
use Rattle.lt_linear.specs.FormText.{any_number, are_digits, SpellsForm, SpellsNumber, SpellsSum, SpellsTerm, whole_value}
use Rattle.lt_linear.specs.Order.{are_in_order}
use Rattle.lt_linear.specs.declared.form.Form.{Form}
use Rattle.lt_linear.specs.declared.refusal.NumRefusal.{NumRefusal}
use Rattle.lt_linear.specs.declared.refusal.NumRefusal.TheVariants.{DivisionByZero, Malformed, Memory, Overflow}

-- the least size past the bound of raw numbers
abbrev pub least_past : ℕ
least_past = most_raw + 1

-- a size, or the least one past the bound where it is past it
abbrev pub cut : ℕ → ℕ
cut size = min size least_past

-- a number whose size is cut
abbrev pub capped : ℤ → ℤ
capped (pos n) = pos (cut n)
capped (negsuc n) = neg_ℤ (pos (cut (suc n)))

-- a term whose coefficient is
abbrev pub capped_term : Term → Term
capped_term term = (term.0, capped term.1)

-- a form whose numbers are
abbrev pub capped_form : Form → Form
capped_form form = record { terms = map capped_term form.terms; constant = capped form.constant }

-- whether a text lacks a byte
abbrev pub lacks : ℕ → List ℕ → Bool
lacks byte text = list_all (λ b. not (b == byte)) text

-- A text is cut at its first byte of these.
abbrev pub IsCut : ℕ → List ℕ → List ℕ → List ℕ → Type 0
IsCut byte text before behind = IsTrue (lacks byte before) × (text ≡ before ++ byte ∷ behind)

-- what the number of digits is cut to, or that they are none
abbrev pub SizeTells : List ℕ → Option ℕ → Type 0
SizeTells text None = are_digits text ≡ false
SizeTells text (Some size) = IsTrue (are_digits text) × (size ≡ cut (digits_value 10 text))

-- what a whole number is cut to, or that the text is none
abbrev pub WholeTells : List ℕ → Option ℤ → Type 0
WholeTells text None = are_digits (without_minus text) ≡ false
WholeTells text (Some whole) = IsTrue (are_digits (without_minus text)) × (whole ≡ capped (whole_value text))

-- the number of a variable, or that a text spells none
abbrev pub VariableTells : List ℕ → Option ℕ → Type 0
VariableTells text None = (number : ℕ) → SpellsNumber text number → number < 2 ^ 32 → ⊥
VariableTells text (Some number) = SpellsNumber text number

-- A text spells a term with this variable, and with a coefficient that is cut to this one.
abbrev pub SpellsCapped : List ℕ → ℕ → ℤ → Type 0
SpellsCapped text variable coefficient = (whole : ℤ) × SpellsTerm text (variable, whole) × (coefficient ≡ capped whole)

-- No term of a variable below 2^32 is spelled.
abbrev pub SpellsNoTerm : List ℕ → Type 0
SpellsNoTerm text = (term : Term) → SpellsTerm text term → term.0 < 2 ^ 32 → ⊥

-- A text spells terms, in order and over variables from `least` on, and a constant after them.
abbrev pub SpellsFrom : ℕ → List ℕ → List Term → ℤ → Type 0
SpellsFrom least text terms constant = SpellsSum text terms constant × IsTrue (are_in_order any_number least (2 ^ 32) terms)

-- No terms and constant are spelled so.
abbrev pub SpellsNone : ℕ → List ℕ → Type 0
SpellsNone least text = (terms : List Term) (constant : ℤ) → SpellsFrom least text terms constant → ⊥

-- What a text spells is what was read of it, cut to `items`, and what the rest spells from `least` on.
pub record Stands (text : List ℕ) (items : List Term) (least : ℕ) (rest : List ℕ) : Type 0 where
  pub written : List Term
  pub cut_to : items ≡ map capped_term written
  pub forth : (terms : List Term) (constant : ℤ) → SpellsFrom least rest terms constant → SpellsFrom 0 text (written ++ terms) constant
  pub back : SpellsNone least rest → SpellsNone 0 text

-- A text begins with a term of this variable, not below `least`, and a coefficient cut to this one; the rest is from the next variable on.
pub record BeginsWith (least : ℕ) (text : List ℕ) (variable : ℕ) (coefficient : ℤ) (rest : List ℕ) : Type 0 where
  pub whole : ℤ
  pub cut_to : coefficient ≡ capped whole
  pub forth : (terms : List Term) (constant : ℤ) → SpellsFrom (variable + 1) rest terms constant → SpellsFrom least text ((variable, whole) ∷ terms) constant
  pub back : SpellsNone (variable + 1) rest → SpellsNone least text
  pub shorter : length rest < length text

-- The form that is read, cut, or that there is none.
abbrev pub ReadsText : List ℕ → Result Form NumRefusal → Type 0
ReadsText text (Ok form) = (spelled : Form) × SpellsForm text spelled × (form ≡ capped_form spelled)
ReadsText text (Err Malformed) = (form : Form) → SpellsForm text form → ⊥
ReadsText text (Err Memory) = Unit {0}
ReadsText text (Err Overflow) = ⊥
ReadsText text (Err DivisionByZero) = ⊥
