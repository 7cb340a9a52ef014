-- The parts of a weighted choice, as the list that the code has.
use Rattle.std.proofs.Common.{◌≡◌, ℕ, List, [], ◌∷◌, Vec, Global, All, refl, ap, ◌∙◌, subst}
use Rattle.std.proofs.lemmas.List.Elements.{All-cons, All-nil}
use Rattle.lt_term.specs.Process.{Process, any, choice}
use Rattle.lt_marks.specs.Start.{AreAtStart, IsAtStart}
use Rattle.lt_term.specs.View.{process, row_choices, choices}
use Rattle.lt_term.specs.declared.term.Term.{Term, Any, Row_of-Term-Any-0-2, end_of-Term-Any-0-2, more_of-Term-Any-0-2, items-the_row-Term-Any-0-2, items_hidden-the_row-Term-Any-0-2-0}
use Rattle.lt_term.specs.declared.term.Term.TheBlock.{hidden-the_row-Term-Any-0-2-0}
use mathlib.Core.Former.{Count}

row_choices-items : {n : Count} (k : Row_of-Term-Any-0-2 n) → row_choices k ≡ choices (items-the_row-Term-Any-0-2 n k)
row_choices-items end_of-Term-Any-0-2 = refl
row_choices-items (more_of-Term-Any-0-2 w t rest) = ap (choice w (process t)) (row_choices-items rest)

pub process_any : (v : Vec (ℕ × Term) Global) → process (Any v) ≡ any (choices v.items)
process_any v = ap any (row_choices-items (hidden-the_row-Term-Any-0-2-0 v) ∙ ap choices (items_hidden-the_row-Term-Any-0-2-0 v))

starting_parts : (cs : List (ℕ × Term)) → AreAtStart (choices cs) → All (λ p. IsAtStart (process p.1)) cs
starting_parts [] h = All-nil (λ p. IsAtStart (process p.1))
starting_parts (c ∷ cs) h = All-cons (λ p. IsAtStart (process p.1)) c cs h.0 (starting_parts cs h.1)

-- the parts of a weighted choice at its beginning are at theirs
pub starting_any : (v : Vec (ℕ × Term) Global) → IsAtStart (process (Any v)) → All (λ p. IsAtStart (process p.1)) v.items
starting_any v h = let P : Process ℕ → Type 0 = IsAtStart in starting_parts v.items (subst P (process_any v) h)
