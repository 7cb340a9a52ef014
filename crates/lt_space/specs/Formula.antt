-- Formulas: what the constraints of an instant say of its outputs and locals.
use Rattle.std.specs.Prelude.{ℕ, ◌^◌, Bool, not, ◌&&◌, ◌||◌, List, [], ◌∷◌, ℤ, pos, ◌+ℤ◌, ◌*ℤ◌, int_lt, if◌then◌else◌, slice_index_or}
use Rattle.std.specs.Ordering.{int_eq}
use Rattle.lt_linear.specs.Form.{Term}
use Rattle.lt_linear.specs.declared.form.Form.{Form}
use Rattle.lt_space.specs.declared.formula.Atom.{Atom}
use Rattle.lt_space.specs.declared.formula.Atom.TheVariants.{Compare, Flag}
use Rattle.lt_space.specs.declared.formula.Relation.{Relation}
use Rattle.lt_space.specs.declared.formula.Relation.TheVariants.{Below, Equal, NotAbove}

-- a formula
pub data Formula : Type 0 where
  -- a truth
  truth : Bool → Formula
  -- a Boolean variable, or a form that is compared with 0
  atom : Atom → Formula
  -- not
  negation : Formula → Formula
  -- and
  conjunction : Formula → Formula → Formula
  -- or
  disjunction : Formula → Formula → Formula
  -- either, and not both
  exclusive : Formula → Formula → Formula
  -- the second where the first is true, and else the third
  choice : Formula → Formula → Formula → Formula

-- the sum of terms at raw values, by the numbers of variables; one that has no value has 0
abbrev pub sum_at : List Term → List ℤ → ℤ
sum_at [] values = pos 0
sum_at (t ∷ ts) values = t.1 *ℤ slice_index_or values t.0 (pos 0) +ℤ sum_at ts values

-- what a form is at raw values, with so many decimals: nothing is rounded
abbrev pub form_at : ℕ → List ℤ → Form → ℤ
form_at decimals values form = sum_at form.terms values +ℤ form.constant *ℤ pos (10 ^ decimals)

-- how a number stands to 0
abbrev pub stands : Relation → ℤ → Bool
stands Below z = int_lt z (pos 0)
stands NotAbove z = not (int_lt (pos 0) z)
stands Equal z = int_eq z (pos 0)

-- whether an atom holds of raw values; a Boolean variable does where it isn't 0
abbrev pub atom_holds : ℕ → List ℤ → Atom → Bool
atom_holds decimals values (Flag i) = not (int_eq (slice_index_or values i (pos 0)) (pos 0))
atom_holds decimals values (Compare form relation) = stands relation (form_at decimals values form)

-- whether a formula holds of raw values
abbrev pub holds : ℕ → List ℤ → Formula → Bool
holds decimals values (truth b) = b
holds decimals values (atom a) = atom_holds decimals values a
holds decimals values (negation f) = not (holds decimals values f)
holds decimals values (conjunction f g) = holds decimals values f && holds decimals values g
holds decimals values (disjunction f g) = holds decimals values f || holds decimals values g
holds decimals values (exclusive f g) = if holds decimals values f then not (holds decimals values g) else holds decimals values g
holds decimals values (choice f g h) = if holds decimals values f then holds decimals values g else holds decimals values h
