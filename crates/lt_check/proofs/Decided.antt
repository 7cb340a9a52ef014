-- Truth values leave nothing open at a single point.
use Rattle.std.proofs.Common.{◌≡◌, ◌^◌, ℕ, zero, suc, Bool, true, false, List, [], ◌∷◌, length, ℤ, pos, negsuc, ◌+ℤ◌, ◌*ℤ◌, refl, ap, sym, ◌∙◌, arith}
use Rattle.lt_bounds.specs.Ranges.{range_at}
use Rattle.lt_bounds.specs.Tightening.{least_of, greatest_of}
use Rattle.lt_linear.specs.Form.{Term}
use Rattle.lt_num.specs.declared.interval.Interval.{Interval}
use Rattle.lt_space.specs.Formula.{Formula, atom, choice, conjunction, disjunction, exclusive, negation, truth}
use Rattle.lt_space.specs.declared.formula.Atom.{Atom}
use Rattle.lt_space.specs.declared.formula.Atom.TheVariants.{Compare, Flag}
use Rattle.lt_propagation.specs.Kleene.{IsDecided, kleene_of_atom, greatest_at, known, least_at, kleene_of}
use Rattle.lt_propagation.proofs.Kleenes.{chosen_decided, compared_decided, conjoined_decided, differing_decided, disjoined_decided, flag_decided, negated_decided}

-- the first so many of these ranges have one number each
abbrev pub AreFixed : ℕ → List Interval → Type 0
AreFixed zero ranges = Unit {0}
AreFixed (suc n) [] = Unit {0}
AreFixed (suc n) (r ∷ rs) = (r.low ≡ r.high) × AreFixed n rs

fixed_in : (ranges : List Interval) (i n : ℕ) → n ≡ length ranges → AreFixed n ranges → (range_at ranges i).low ≡ (range_at ranges i).high
fixed_in [] i n e f = refl
fixed_in (r ∷ rs) i zero e f = absurd (omega (arith, e))
fixed_in (r ∷ rs) zero (suc n) e f = f.0
fixed_in (r ∷ rs) (suc i) (suc n) e f = fixed_in rs i n (omega (arith, e)) f.1

pub term_fixed : (a : ℤ) (range : Interval) → range.low ≡ range.high → least_of a range ≡ greatest_of a range
term_fixed (pos a) range e = ap (λ z. pos a *ℤ z) e
term_fixed (negsuc a) range e = ap (λ z. negsuc a *ℤ z) (sym e)

sum_fixed : (ranges : List Interval) (terms : List Term) → AreFixed (length ranges) ranges → least_at ranges terms ≡ greatest_at ranges terms
sum_fixed ranges [] f = refl
sum_fixed ranges (t ∷ ts) f = ap (λ z. z +ℤ least_at ranges ts) (term_fixed t.1 (range_at ranges t.0) (fixed_in ranges t.0 (length ranges) refl f)) ∙ ap (λ z. greatest_of t.1 (range_at ranges t.0) +ℤ z) (sum_fixed ranges ts f)

known_decided : (b : Bool) → IsDecided (known b)
known_decided true = tt
known_decided false = tt

atom_decided : (decimals : ℕ) (ranges : List Interval) (a : Atom) → AreFixed (length ranges) ranges → IsDecided (kleene_of_atom decimals ranges a)
atom_decided decimals ranges (Flag i) f = flag_decided (range_at ranges i) (fixed_in ranges i (length ranges) refl f)
atom_decided decimals ranges (Compare form relation) f =
    let constant = form.constant *ℤ pos (10 ^ decimals) in
    compared_decided relation (least_at ranges form.terms +ℤ constant) (greatest_at ranges form.terms +ℤ constant) (ap (λ z. z +ℤ constant) (sum_fixed ranges form.terms f))

pub kleene_decided : (decimals : ℕ) (ranges : List Interval) (f : Formula) → AreFixed (length ranges) ranges → IsDecided (kleene_of decimals ranges f)
kleene_decided decimals ranges (truth b) fixed = known_decided b
kleene_decided decimals ranges (atom a) fixed = atom_decided decimals ranges a fixed
kleene_decided decimals ranges (negation f) fixed = negated_decided (kleene_of decimals ranges f) (kleene_decided decimals ranges f fixed)
kleene_decided decimals ranges (conjunction f g) fixed = conjoined_decided (kleene_of decimals ranges f) (kleene_of decimals ranges g) (kleene_decided decimals ranges f fixed) (kleene_decided decimals ranges g fixed)
kleene_decided decimals ranges (disjunction f g) fixed = disjoined_decided (kleene_of decimals ranges f) (kleene_of decimals ranges g) (kleene_decided decimals ranges f fixed) (kleene_decided decimals ranges g fixed)
kleene_decided decimals ranges (exclusive f g) fixed = differing_decided (kleene_of decimals ranges f) (kleene_of decimals ranges g) (kleene_decided decimals ranges f fixed) (kleene_decided decimals ranges g fixed)
kleene_decided decimals ranges (choice f g h) fixed =
    chosen_decided (kleene_of decimals ranges f) (kleene_of decimals ranges g) (kleene_of decimals ranges h) (kleene_decided decimals ranges f fixed) (kleene_decided decimals ranges g fixed) (kleene_decided decimals ranges h fixed)
