-- The texts of forms: terms, and after them a constant, joined by ` + `. So `2*v0 + -1*v3 + 7` is twice the variable 0, less the
-- variable 3, and 7. Of the bytes, 32 is a blank, 42 the `*`, 43 the `+`, and 118 the `v`.
use Rattle.std.specs.Prelude.{◌≡◌, ℕ, ◌^◌, Bool, true, false, IsTrue, List, [], ◌∷◌, ◌++◌, ℤ, Ok, Err}
use Rattle.std.specs.Char.{is_ascii_digit}
use Rattle.std.specs.List.{list_all}
use Rattle.std.specs.Str.Parse.{digits_value, starts_with_minus}
use Rattle.std.specs.declared.result.Result.{Result}
use Rattle.lt_num.specs.Literal.{without_minus}
use Rattle.lt_num.specs.Rounding.{with_sign}
use Rattle.lt_linear.specs.Form.{Term, is_bounded}
use Rattle.lt_linear.specs.Order.{are_in_order}
use Rattle.lt_linear.specs.declared.form.Form.{Form}
use Rattle.lt_linear.specs.declared.refusal.NumRefusal.{NumRefusal}
use Rattle.lt_linear.specs.declared.refusal.NumRefusal.TheVariants.{DivisionByZero, Malformed, Memory, Overflow}

-- whether a text is digits, at least one
abbrev pub are_digits : List ℕ → Bool
are_digits [] = false
are_digits (b ∷ bs) = list_all is_ascii_digit (b ∷ bs)

-- A text spells a number without a sign: it is digits, which write the number.
abbrev pub SpellsNumber : List ℕ → ℕ → Type 0
SpellsNumber text number = IsTrue (are_digits text) × (digits_value 10 text ≡ number)

-- what a text's digits write, below 0 where a minus stands before them
abbrev pub whole_value : List ℕ → ℤ
whole_value text = with_sign (starts_with_minus text) (digits_value 10 (without_minus text))

-- A text spells a whole number: it is digits, which a minus may stand before.
abbrev pub SpellsWhole : List ℕ → ℤ → Type 0
SpellsWhole text whole = IsTrue (are_digits (without_minus text)) × (whole_value text ≡ whole)

-- A text spells a term: its coefficient, `*v`, and its variable.
abbrev pub SpellsTerm : List ℕ → Term → Type 0
SpellsTerm text term = (coefficient : List ℕ) × (variable : List ℕ) × (text ≡ coefficient ++ 42 ∷ 118 ∷ variable) × SpellsWhole coefficient term.1 × SpellsNumber variable term.0

-- A text spells terms and a constant after them, joined by ` + `.
abbrev pub SpellsSum : List ℕ → List Term → ℤ → Type 0
SpellsSum text [] constant = SpellsWhole text constant
SpellsSum text (t ∷ ts) constant = (term : List ℕ) × (rest : List ℕ) × (text ≡ term ++ 32 ∷ 43 ∷ 32 ∷ rest) × SpellsTerm term t × SpellsSum rest ts constant

-- a test that each number passes
abbrev pub any_number : ℤ → Bool
any_number number = true

-- A text spells a form: its terms, in order and over variables below 2^32, and its constant. Its numbers may be of any size.
abbrev pub SpellsForm : List ℕ → Form → Type 0
SpellsForm text form = SpellsSum text form.terms form.constant × IsTrue (are_in_order any_number 0 (2 ^ 32) form.terms)

-- What is answered to a text: the form that it spells, if that one's numbers are within their bounds, or that one of them is past
-- its bound, or that it spells none. Want of memory may come in place of each.
abbrev pub TellsText : List ℕ → Result Form NumRefusal → Type 0
TellsText text (Ok form) = SpellsForm text form × IsTrue (is_bounded form)
TellsText text (Err Overflow) = (form : Form) × SpellsForm text form × (is_bounded form ≡ false)
TellsText text (Err Malformed) = (form : Form) → SpellsForm text form → ⊥
TellsText text (Err DivisionByZero) = ⊥
TellsText text (Err Memory) = Unit {0}

-- A text spells at most one form, so each text has one answer where memory is ample.
abbrev pub TextsSpellOne : Type 0
TextsSpellOne = (text : List ℕ) (a b : Form) → SpellsForm text a → SpellsForm text b → a ≡ b
