-- How large a formula may be where it is worked out, and how much a space may be made for.
use Rattle.std.specs.Prelude.{ℕ, Bool, true, ◌&&◌, length, nat_le}
use Rattle.lt_linear.specs.declared.form.Form.{Form}
use Rattle.lt_space.specs.Formula.{Formula, atom, choice, conjunction, disjunction, exclusive, negation, truth}
use Rattle.lt_space.specs.declared.formula.Atom.{Atom}
use Rattle.lt_space.specs.declared.formula.Atom.TheVariants.{Compare, Flag}

-- how many expressions a table may have that a space is made for
abbrev pub most_expressions : ℕ
most_expressions = 16_777_216

-- how many constraints a space may have room for at once
abbrev pub most_constraints : ℕ
most_constraints = 2_147_483_648

-- how many terms a form may have: one for each output and local
abbrev pub most_terms : ℕ
most_terms = 128

-- whether a form has no more
abbrev pub is_small_form : Form → Bool
is_small_form form = nat_le (length form.terms) most_terms

-- whether that of an atom has no more
abbrev pub is_small_atom : Atom → Bool
is_small_atom (Flag i) = true
is_small_atom (Compare form relation) = is_small_form form

-- whether none of a formula has more
abbrev pub is_small : Formula → Bool
is_small (truth b) = true
is_small (atom a) = is_small_atom a
is_small (negation f) = is_small f
is_small (conjunction f g) = is_small f && is_small g
is_small (disjunction f g) = is_small f && is_small g
is_small (exclusive f g) = is_small f && is_small g
is_small (choice f g h) = is_small f && (is_small g && is_small h)
