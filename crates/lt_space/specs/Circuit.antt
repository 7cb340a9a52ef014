-- Circuits: formulas as lists of gates, in which parts stand before wholes.
use Rattle.std.specs.Prelude.{ℕ, ◌+◌, Bool, true, ◌&&◌, nat_le, nat_lt, unsigned_abs, List, [], ◌∷◌, ◌++◌, slice_index_or, slice_range}
use Rattle.std.specs.List.{list_all}
use Rattle.lt_formula.specs.Limits.{most_variables}
use Rattle.lt_linear.specs.Form.{Term}
use Rattle.lt_linear.specs.declared.form.Form.{Form}
use Rattle.lt_space.specs.Formula.{Formula, atom, choice, conjunction, disjunction, exclusive, negation, truth}
use Rattle.lt_space.specs.Size.{is_small_form, most_terms}
use Rattle.lt_space.specs.declared.circuit.Gate.{Gate}
use Rattle.lt_space.specs.declared.circuit.Gate.TheVariants as gate
use Rattle.lt_space.specs.declared.formula.Atom.TheVariants.{Compare, Flag}

-- the formula of a number
abbrev pub formula_at : List Formula → ℕ → Formula
formula_at formulas n = slice_index_or formulas n (truth true)

-- the formula of a gate, whose terms and parts are among these
abbrev pub gate_formula : List Term → List Formula → Gate → Formula
gate_formula terms fs (gate.Truth b) = truth b
gate_formula terms fs (gate.Flag i) = atom (Flag i)
gate_formula terms fs (gate.Compare relation first after constant) = atom (Compare (record { terms = slice_range terms first after; constant = constant }) relation)
gate_formula terms fs (gate.Not a) = negation (formula_at fs a)
gate_formula terms fs (gate.And a b) = conjunction (formula_at fs a) (formula_at fs b)
gate_formula terms fs (gate.Or a b) = disjunction (formula_at fs a) (formula_at fs b)
gate_formula terms fs (gate.Xor a b) = exclusive (formula_at fs a) (formula_at fs b)
gate_formula terms fs (gate.If a b c) = choice (formula_at fs a) (formula_at fs b) (formula_at fs c)

-- these formulas, and behind them those of the gates
abbrev pub with_gates : List Term → List Formula → List Gate → List Formula
with_gates terms fs [] = fs
with_gates terms fs (g ∷ gs) = with_gates terms (fs ++ gate_formula terms fs g ∷ []) gs

-- the greatest size of a coefficient in a comparison: twice the bound of raw numbers, on the scale of reals
abbrev pub most_coefficient : ℕ
most_coefficient = 2_000_000_000_000_000_000

-- the greatest size of a constant there
abbrev pub most_constant : ℕ
most_constant = 2_000_000_000_000

-- whether a term is one of a comparison
abbrev pub is_term : Term → Bool
is_term t = nat_lt t.0 most_variables && nat_le (unsigned_abs t.1) most_coefficient

-- whether all terms are
abbrev pub are_terms : List Term → Bool
are_terms terms = list_all is_term terms

-- whether a form is one of a comparison
abbrev pub is_exact_form : Form → Bool
is_exact_form form = is_small_form form && (are_terms form.terms && nat_le (unsigned_abs form.constant) most_constant)

-- whether a gate may stand behind so many others and over so many terms
abbrev pub gate_fits : ℕ → ℕ → Gate → Bool
gate_fits terms before (gate.Truth b) = true
gate_fits terms before (gate.Flag i) = nat_lt i most_variables
gate_fits terms before (gate.Compare relation first after constant) =
    nat_le first after && (nat_le after terms && (nat_le after (first + most_terms) && nat_le (unsigned_abs constant) most_constant))
gate_fits terms before (gate.Not a) = nat_lt a before
gate_fits terms before (gate.And a b) = nat_lt a before && nat_lt b before
gate_fits terms before (gate.Or a b) = nat_lt a before && nat_lt b before
gate_fits terms before (gate.Xor a b) = nat_lt a before && nat_lt b before
gate_fits terms before (gate.If a b c) = nat_lt a before && (nat_lt b before && nat_lt c before)

-- whether each of these gates may, where so many stand before them
abbrev pub are_sound : ℕ → ℕ → List Gate → Bool
are_sound terms before [] = true
are_sound terms before (g ∷ gs) = gate_fits terms before g && are_sound terms (before + 1) gs
