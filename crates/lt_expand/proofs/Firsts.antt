-- The first of several lists one behind the other.
use Rattle.std.proofs.Common.{◌≡◌, List, [], ◌∷◌, ◌++◌, Bool, None, option_map, map, refl, ap, ◌∙◌}
use Rattle.std.specs.Option.{option_or}
use Rattle.std.specs.List.{flat_map}
use Rattle.std.proofs.lemmas.Grind.{flat_map-append}
use Rattle.lt_macros.specs.Placed.{Placed, place_of}
use Rattle.lt_expand.specs.Classes.{failing}
use Rattle.lt_macros.specs.Failing.{unless}
use Rattle.lt_macros.specs.Preorder.{with_parts}
use Rattle.lt_expand.specs.inner.Firsts.{first}

-- of two
pub first-append : {X : Type 0} (xs ys : List X) → first (xs ++ ys) ≡ option_or (first xs) (first ys)
first-append [] ys = refl
first-append (x ∷ xs) ys = refl

-- of three
pub first_three : {X : Type 0} (a b c : List X) → first (a ++ (b ++ c)) ≡ option_or (first a) (option_or (first b) (first c))
first_three a b c = first-append a (b ++ c) ∙ ap (option_or (first a)) (first-append b c)

-- of what each is changed to
pub first-map : {X Y : Type 0} (f : X → Y) (xs : List X) → first (map f xs) ≡ option_map f (first xs)
first-map f [] = refl
first-map f (x ∷ xs) = refl

-- a list that has none is empty
pub first_none : {X : Type 0} (xs : List X) → first xs ≡ None → xs ≡ []
first_none [] h = refl
first_none (x ∷ xs) h = absurd (cc)

-- of expressions that fail a test
pub first_failing : (test : Placed → Bool) (ds es : List Placed) → first (failing test (ds ++ es)) ≡ option_or (first (failing test ds)) (first (failing test es))
first_failing test ds es = ap first (flat_map-append (λ e. unless (test e) (place_of e)) ds es) ∙ first-append (failing test ds) (failing test es)

-- of one and two lists
pub first_failing_node : (test : Placed → Bool) (x : Placed) (ds es : List Placed) → first (failing test (x ∷ (ds ++ es))) ≡ option_or (first (unless (test x) (place_of x))) (option_or (first (failing test ds)) (first (failing test es)))
first_failing_node test x ds es =
    first-append (unless (test x) (place_of x)) (failing test (ds ++ es)) ∙ ap (option_or (first (unless (test x) (place_of x)))) (first_failing test ds es)

-- of one and three
pub first_failing_choice : (test : Placed → Bool) (x : Placed) (cs ds es : List Placed)
    → first (failing test (x ∷ (cs ++ (ds ++ es)))) ≡ option_or (first (unless (test x) (place_of x))) (option_or (first (failing test cs)) (option_or (first (failing test ds)) (first (failing test es))))
first_failing_choice test x cs ds es =
    first_failing_node test x cs (ds ++ es)
    ∙ ap (λ o. option_or (first (unless (test x) (place_of x))) (option_or (first (failing test cs)) o)) (first_failing test ds es)

-- of all parts of expressions
pub first_failing_parts : (test : Placed → Bool) (ds es : List Placed)
    → first (failing test (flat_map with_parts (ds ++ es))) ≡ option_or (first (failing test (flat_map with_parts ds))) (first (failing test (flat_map with_parts es)))
first_failing_parts test ds es =
    ap (λ xs. first (failing test xs)) (flat_map-append with_parts ds es) ∙ first_failing test (flat_map with_parts ds) (flat_map with_parts es)
