-- What forms are at raw numbers: exactly, since nothing is rounded.
use Rattle.std.specs.Prelude.{◌≡◌, ℕ, List, [], ◌∷◌, ℤ, pos, ◌+ℤ◌, ◌-ℤ◌, ◌*ℤ◌}
use Rattle.lt_linear.specs.Form.{Term, form_compared}
use Rattle.lt_linear.specs.declared.form.Form.{Form}

-- the sum of terms at the raw numbers that variables have
abbrev pub terms_at : (ℕ → ℤ) → List Term → ℤ
terms_at value [] = pos 0
terms_at value (t ∷ ts) = t.1 *ℤ value t.0 +ℤ terms_at value ts

-- what a form is there, with its constant times a scale
abbrev pub form_at : ℤ → (ℕ → ℤ) → Form → ℤ
form_at scale value form = terms_at value form.terms +ℤ form.constant *ℤ scale

-- What a comparison of two forms compares with 0 is the exact difference of what they are: for reals, whose coefficients have
-- the scale themselves, ..
abbrev pub RealsCompareExactly : Type 0
RealsCompareExactly = (scale : ℤ) (value : ℕ → ℤ) (a b : Form) → form_at scale value (form_compared (pos 1) a b) ≡ form_at scale value a -ℤ form_at scale value b

-- .. and for ints, times the scale.
abbrev pub IntsCompareExactly : Type 0
IntsCompareExactly = (scale : ℤ) (value : ℕ → ℤ) (a b : Form) → form_at scale value (form_compared scale a b) ≡ (form_at (pos 1) value a -ℤ form_at (pos 1) value b) *ℤ scale
