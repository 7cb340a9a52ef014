-- What is found passes the test, and any other that all pass.
use Rattle.std.proofs.Common.{◌≡◌, Bool, true, false, cond, List, [], ◌∷◌, refl, ap, sym, ◌∙◌, Some}
use Rattle.std.specs.declared.option.Option.{Option}
use Rattle.std.specs.List.{find, list_all}
use Rattle.lt_lexer.proofs.Bools.{left_of, right_of}

-- both tests
abbrev Passes : {X : Type 0} → (X → Bool) → (X → Bool) → X → Type 0
Passes p q x = (p x ≡ true) × (q x ≡ true)

-- at the first element, by whether it passes
find_step : {X : Type 0} (p q : X → Bool) (v : Bool) (x : X) (o : Option X) (found : X) → p x ≡ v → q x ≡ true → (o ≡ Some found → Passes p q found) → cond v (Some x) o ≡ Some found → Passes p q found
find_step p q true x o found e k h f = let same : x ≡ found = cc f in (ap p (sym same) ∙ e, ap q (sym same) ∙ k)
find_step p q false x o found e k h f = h f

-- by the test of the first element, or in the rest
pub find_passes : {X : Type 0} (p q : X → Bool) (xs : List X) (found : X) → list_all q xs ≡ true → find p xs ≡ Some found → Passes p q found
find_passes p q [] found k h = absurd (cc)
find_passes p q (x ∷ xs) found k h = find_step p q (p x) x (find p xs) found refl (left_of (q x) (list_all q xs) k) (find_passes p q xs found (right_of (q x) (list_all q xs) k)) h
