-- Linear forms: terms, each a variable's number with its raw coefficient, and a raw constant. The terms are in rising
-- order of variable, and no coefficient is 0.
use Rattle.std.specs.Prelude.{ℕ, ◌^◌, nat_le, nat_lt, nat_eq, Bool, ◌&&◌, unsigned_abs, List, [], ◌∷◌, ℤ, pos, ◌+ℤ◌, ◌-ℤ◌, ◌*ℤ◌, if◌then◌else◌, Option, None, Some, Ok, Err}
use Rattle.std.specs.List.{list_all}
use Rattle.std.specs.Ordering.{int_eq}
use Rattle.std.specs.declared.result.Result.{Result}
use Rattle.lt_num.specs.Answer.{bounded}
use Rattle.lt_num.specs.Bounds.{most_raw}
use Rattle.lt_num.specs.Rounding.{nearest}
use Rattle.lt_num.specs.declared.fault.Arith.{Arith}
use Rattle.lt_num.specs.declared.fault.Arith.TheVariants.{DivisionByZero, Overflow}
use Rattle.lt_num.specs.declared.fixed.Fixed.{Fixed}
use Rattle.lt_linear.specs.declared.form.Form.{Form}

-- a variable's number with its coefficient
abbrev pub Term : Type 0
Term = ℕ × ℤ

-- a term as a list, which is empty where the coefficient is 0
abbrev pub one : ℕ → ℤ → List Term
one i c = if int_eq c (pos 0) then [] else (i, c) ∷ []

-- a term before others, unless its coefficient is 0
abbrev pub with_term : ℕ → ℤ → List Term → List Term
with_term i c terms = if int_eq c (pos 0) then terms else (i, c) ∷ terms

-- a term before others, whose coefficients may be past their bounds: then there are none
abbrev pub before : ℕ → Option ℤ → Option (List Term) → Option (List Term)
before i None terms = None
before i (Some c) None = None
before i (Some c) (Some terms) = Some (with_term i c terms)

-- what f gives on the coefficients of terms, where the other ones are 0
abbrev pub alone : (ℤ → ℤ → Option ℤ) → List Term → Option (List Term)
alone f [] = Some []
alone f (u ∷ us) = before u.0 (f (pos 0) u.1) (alone f us)

-- what f gives on a term and others after it, for which `rest` stands, and on second terms
abbrev pub beside : (ℤ → ℤ → Option ℤ) → Term → (List Term → Option (List Term)) → List Term → Option (List Term)
beside f t rest [] = before t.0 (f t.1 (pos 0)) (rest [])
beside f t rest (u ∷ us) =
    if nat_lt u.0 t.0 then before u.0 (f (pos 0) u.1) (beside f t rest us)
    else if nat_eq u.0 t.0 then before t.0 (f t.1 u.1) (rest us)
    else before t.0 (f t.1 (pos 0)) (rest (u ∷ us))

-- Variable by variable, what f gives on its coefficients in two lists of terms: 0 where there is none. Nothing, where one
-- of them is past its bound.
abbrev pub merged : (ℤ → ℤ → Option ℤ) → List Term → List Term → Option (List Term)
merged f [] us = alone f us
merged f (t ∷ ts) us = beside f t (merged f ts) us

-- a raw number that there is
abbrev pub raw_in : Result Fixed Arith → Option ℤ
raw_in (Ok fixed) = Some fixed.raw
raw_in (Err fault) = None

-- a form of these terms and this constant, or the overflow of one of its numbers
abbrev pub form_with : Option (List Term) → Option ℤ → Result Form Arith
form_with None constant = Err Overflow
form_with (Some terms) None = Err Overflow
form_with (Some terms) (Some constant) = Ok (record { terms = terms; constant = constant })

-- the form whose coefficients and constant are what f gives on those of two forms
abbrev pub form_by : (ℤ → ℤ → Option ℤ) → Form → Form → Result Form Arith
form_by f a b = form_with (merged f a.terms b.terms) (f a.constant b.constant)

-- a form without variables
abbrev pub constant_form : ℤ → Form
constant_form constant = record { terms = []; constant = constant }

-- a variable times a coefficient
abbrev pub variable_form : ℕ → ℤ → Form
variable_form i c = record { terms = one i c; constant = pos 0 }

-- the sum of two raw numbers, or nothing where it is past its bound
abbrev pub raw_sum : ℤ → ℤ → Option ℤ
raw_sum a b = raw_in (bounded (a +ℤ b))

-- their difference
abbrev pub raw_difference : ℤ → ℤ → Option ℤ
raw_difference a b = raw_in (bounded (a -ℤ b))

-- the first one times a number with so many decimals, rounded once; there is no second one
abbrev pub raw_scaled : ℤ → ℕ → ℤ → ℤ → Option ℤ
raw_scaled by decimals a none = raw_in (bounded (nearest (a *ℤ by) (pos (10 ^ decimals))))

-- the first one divided by such a number
abbrev pub raw_divided : ℤ → ℕ → ℤ → ℤ → Option ℤ
raw_divided by decimals a none = raw_in (bounded (nearest (a *ℤ pos (10 ^ decimals)) by))

-- the difference times a factor, exactly
abbrev pub raw_compared : ℤ → ℤ → ℤ → Option ℤ
raw_compared factor a b = Some ((a -ℤ b) *ℤ factor)

-- the sum of two forms
abbrev pub form_sum : Form → Form → Result Form Arith
form_sum a b = form_by raw_sum a b

-- their difference
abbrev pub form_difference : Form → Form → Result Form Arith
form_difference a b = form_by raw_difference a b

-- a form times a number with so many decimals: each coefficient and the constant is rounded once
abbrev pub form_scaled : Form → ℤ → ℕ → Result Form Arith
form_scaled a by decimals = form_by (raw_scaled by decimals) a (constant_form (pos 0))

-- a form divided by such a number
abbrev pub form_divided : Form → ℤ → ℕ → Result Form Arith
form_divided a by decimals = if int_eq by (pos 0) then Err DivisionByZero else form_by (raw_divided by decimals) a (constant_form (pos 0))

-- terms that there are
abbrev pub terms_in : Option (List Term) → List Term
terms_in None = []
terms_in (Some terms) = terms

-- The difference of two forms, which a comparison compares with 0: exactly, with coefficients times a factor, and the
-- constant without it.
abbrev pub form_compared : ℤ → Form → Form → Form
form_compared factor a b = record { terms = terms_in (merged (raw_compared factor) a.terms b.terms); constant = a.constant -ℤ b.constant }

-- whether a test of raw numbers holds of all coefficients
abbrev pub all_pass : (ℤ → Bool) → List Term → Bool
all_pass test terms = list_all (λ term. test term.1) terms

-- whether a raw number is within its bound
abbrev pub is_raw : ℤ → Bool
is_raw raw = nat_le (unsigned_abs raw) most_raw

-- whether all numbers of a form are
abbrev pub is_bounded : Form → Bool
is_bounded form = is_raw form.constant && all_pass is_raw form.terms
