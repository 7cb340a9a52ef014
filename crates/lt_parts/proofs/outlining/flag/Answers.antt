use Rattle.std.proofs.Common.{◌≡◌, ◌∙◌, ◌<◌, ℕ, List, nat_eq, length, get_or, position, Some, refl, sym}
use Rattle.std.proofs.lemmas.List.Quantifiers.{position-Some}
use borrow.Author.Tests.{eqb-true}
use Rattle.lt_parts.proofs.outlining.flag.Goals as goal

-- the place that a number is found at
at_place : (keys : List ℕ) (n i : ℕ) → position (nat_eq n) keys ≡ Some i → (i < length keys) × (get_or keys i 0 ≡ n)
at_place keys n i e = let h = position-Some (nat_eq n) keys i 0 e in (h.0, sym (eqb-true n (get_or keys i 0) h.1))

pub returns : goal.returns
returns c =
    let place = at_place c.args.atoms.now.keys c.args.exp c.unwrap-place.result (sym c.get_index_of.ensures.index ∙ c.unwrap-place.ensures) in
    (c.unwrap-place.result, place.0, place.1, refl)
