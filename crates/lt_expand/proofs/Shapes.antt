-- The shapes of nodes that are constants.
use Rattle.std.proofs.Common.{◌≡◌, Bool, ap, ◌∙◌, ℤ}
use Rattle.lt_num.specs.Value.{is_true, raw_of, value_of}
use Rattle.lt_num.specs.declared.kind.Kind.TheVariants as kind
use Rattle.lt_num.specs.declared.value.Value.{Value}
use Rattle.lt_num.specs.declared.value.Value.TheVariants as value
use Rattle.lt_formula.specs.declared.shape.Shape.TheVariants.{Constant}

pub flag_shape : (v : Value) (b : Bool) → value_of kind.Bool (raw_of v) ≡ v → b ≡ is_true v → Constant kind.Bool (value.Bool b) ≡ Constant kind.Bool v
flag_shape (value.Bool b) c h e = ap (λ d. Constant kind.Bool (value.Bool d)) e
flag_shape (value.Num n) c h e = absurd (cc)

pub int_shape : (v : Value) (n : ℤ) → value_of kind.Int (raw_of v) ≡ v → n ≡ raw_of v → Constant kind.Int (value.Num n) ≡ Constant kind.Int v
int_shape v n h e = ap (λ m. Constant kind.Int (value.Num m)) e ∙ ap (Constant kind.Int) h

pub real_shape : (v : Value) (n : ℤ) → value_of kind.Real (raw_of v) ≡ v → n ≡ raw_of v → Constant kind.Real (value.Num n) ≡ Constant kind.Real v
real_shape v n h e = ap (λ m. Constant kind.Real (value.Num m)) e ∙ ap (Constant kind.Real) h

pub ruleset constant_shape = (flag_shape, int_shape, real_shape)
