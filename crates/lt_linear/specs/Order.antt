-- Forms whose terms are in order.
use Rattle.std.specs.Prelude.{ℕ, ◌+◌, Bool, not, ◌&&◌, nat_le, unsigned_abs, List, [], ◌∷◌, ℤ, pos}
use Rattle.std.specs.Ordering.{int_eq}
use Rattle.lt_linear.specs.Form.{Term, is_raw}
use Rattle.lt_linear.specs.declared.form.Form.{Form}

-- whether the variables of terms rise from `least` on and stay below `below`, and their coefficients are not 0 and pass a test
abbrev pub are_in_order : (ℤ → Bool) → ℕ → ℕ → List Term → Bool
are_in_order test least below [] = nat_le least below
are_in_order test least below (t ∷ ts) = nat_le least t.0 && (not (int_eq t.1 (pos 0)) && (test t.1 && are_in_order test (t.0 + 1) below ts))

-- whether a form is over variables below a number: its terms are in order, and no number is past the bound
abbrev pub is_form : ℕ → Form → Bool
is_form below form = are_in_order is_raw 0 below form.terms && is_raw form.constant

-- whether a coefficient may be one of a comparison: those of two forms are apart by at most twice the bound of raw numbers,
-- and the scale of reals is at most 10^6
abbrev pub is_coefficient : ℤ → Bool
is_coefficient c = nat_le (unsigned_abs c) 2_000_000_000_000_000_000

-- whether a form may be what such a comparison compares with 0
abbrev pub is_difference : ℕ → Form → Bool
is_difference below form = are_in_order is_coefficient 0 below form.terms && nat_le (unsigned_abs form.constant) 2_000_000_000_000
