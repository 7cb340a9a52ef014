-- What is found in a tree by what is left and right of orders is what is walked to.
use Rattle.std.proofs.Common.{◌≡◌, ◌∙◌, ◌⊎◌, inl, inr, ℕ, ◌+◌, Bool, true, false, List, [], ◌∷◌, ◌++◌, length, drop, drop-drop, ap, append_assoc, refl, sym}
use Rattle.std.specs.Prelude.{◌&&◌, ◌||◌, Ok, Err, if◌then◌else◌}
use Rattle.std.specs.List.{flat_map}
use Rattle.std.specs.declared.result.Result.{Result}
use Rattle.std.proofs.lemmas.Grind.{flat_map-append}
use Rattle.lt_num.specs.declared.fault.Arith.{Arith}
use Rattle.lt_term.specs.Evaluated.{Worth}
use Rattle.lt_term.specs.Tree as t
use Rattle.lt_term.specs.Tree.{Branches, Leaf, Node, Tree, branch, flattened, flattened_each, leaf_node, no_branch, weights_of}
use Rattle.lt_legal.specs.Back.{back, back_in}
use Rattle.lt_legal.specs.Nodes.{Shape, count, has, has_in}
use Rattle.lt_marks_laws.specs.Valued.{worths}
use Rattle.lt_check.specs.inner.Seen.{Sight, positive}
use Rattle.lt_check.specs.inner.Shaped.{choice_shape, parts_by, shape_by, two_shapes}
use Rattle.lt_check.specs.inner.Visited.{first_of, leaves_of, leaves_of_parts, of_parts}

or_not : (a b : Bool) → (a || b) ≡ false → (a ≡ false) × (b ≡ false)
or_not false b h = (refl, h)
or_not true b h = absurd (cc)

or_one : (a b : Bool) → (a || b) ≡ true → (a ≡ true) ⊎ (b ≡ true)
or_one true b h = inl refl
or_one false b h = inr h

or_first : (a b : Bool) → a ≡ true → (a || b) ≡ true
or_first a b h = ap (λ c. c || b) h

or_second : (a b : Bool) → b ≡ true → (a || b) ≡ true
or_second true b h = refl
or_second false b h = h

and_two : (a b : Bool) → (a && b) ≡ true → (a ≡ true) × (b ≡ true)
and_two true b h = (refl, h)
and_two false b h = absurd (cc)

empty_first : {A : Type 0} (xs ys : List A) → xs ++ ys ≡ [] → (xs ≡ []) × (ys ≡ [])
empty_first [] ys h = (refl, h)
empty_first (x ∷ xs) ys h = absurd (cc)

empty_both : {A : Type 0} (xs ys : List A) → first_of xs ys ≡ [] → (xs ≡ []) × (ys ≡ [])
empty_both [] ys h = (refl, h)
empty_both (x ∷ xs) ys h = absurd (cc)

module _ {C F N : Type 0} (worth : Worth C F) (sight : Sight C N) (keeps : sight.keeps_order ≡ true) (fails : (x : Arith) → sight.fails x ≡ false) (lives : Tree C N → Bool) where
  abbrev shape : Tree C N → Shape
  shape a = shape_by worth sight a

  abbrev leaves : Tree C N → List (Leaf C N)
  leaves a = leaves_of worth sight lives a

  in_order : (a b : Shape) → two_shapes sight.keeps_order a b ≡ two_shapes true a b
  in_order a b = ap (λ k. two_shapes k a b) keeps

  -- ---- where no leaf passes, none is found

  no_leaf : (b : Bool) (l : Leaf C N) → b ≡ false → (if b then l ∷ [] else []) ≡ []
  no_leaf b l h = ap (λ c. if c then l ∷ [] else []) h

  no_two : (x y : List (Leaf C N)) (l : Bool) → x ≡ [] → y ≡ [] → first_of x (if l then [] else y) ≡ []
  no_two x y true h k = ap (λ xs. first_of xs []) h
  no_two x y false h k = ap (λ xs. first_of xs y) h ∙ k

  no_part_of : (p : Bool) (h : Bool) (x rest : List (Leaf C N)) → (p && h) ≡ false → (h ≡ false → x ≡ []) → rest ≡ [] → rest ++ (if p then x else []) ≡ []
  no_part_of true h x rest e f r = ap (λ ys. ys ++ x) r ∙ f e
  no_part_of false h x rest e f r = ap (λ ys. ys ++ []) r

  no_choice : (bs : Branches C N) (y : Result (List ℕ) Arith) → has (choice_shape sight.fails y (parts_by worth sight bs)) ≡ false → ((vs : List ℕ) → has_in (parts_by worth sight bs vs) ≡ false → leaves_of_parts worth sight lives bs vs ≡ []) → of_parts y (leaves_of_parts worth sight lives bs) ≡ []
  no_choice bs (Ok vs) h f = f vs h
  no_choice bs (Err x) h f = refl

  mutual
    pub none_found : (a : Tree C N) → has (shape a) ≡ false → leaves a ≡ []
    none_found (t.leaf l) h = no_leaf (sight.passes l) l h
    none_found (t.ordered a b) h =
        let p = or_not (has (shape a)) (has (shape b)) (sym (ap has (in_order (shape a) (shape b))) ∙ h) in
        no_two (leaves a) (leaves b) (lives a) (none_found a p.0) (none_found b p.1)
    none_found (t.weighted ls bs) h = no_choice bs (worths worth.weight ls (weights_of bs)) h (λ vs k. none_in bs vs k)

    none_in : (bs : Branches C N) (vs : List ℕ) → has_in (parts_by worth sight bs vs) ≡ false → leaves_of_parts worth sight lives bs vs ≡ []
    none_in no_branch vs h = refl
    none_in (branch w a bs) [] h = refl
    none_in (branch w a bs) (v ∷ vs) h =
        let p = or_not (positive v && has (shape a)) (has_in (parts_by worth sight bs vs)) h in
        no_part_of (positive v) (has (shape a)) (leaves a) (leaves_of_parts worth sight lives bs vs) p.0 (none_found a) (none_in bs vs p.1)

  -- ---- where one passes and none is found, the tree lives

  module _ (orders : (a b : Tree C N) → lives (t.ordered a b) ≡ (lives a || lives b)) (one_lives : Branches C N → List ℕ → Bool)
      (chooses : (ls : t.Lasts) (bs : Branches C N) (vs : List ℕ) → worths worth.weight ls (weights_of bs) ≡ Ok vs → lives (t.weighted ls bs) ≡ one_lives bs vs)
      (parts : (w : t.Weight C) (a : Tree C N) (bs : Branches C N) (v : ℕ) (vs : List ℕ) → one_lives (branch w a bs) (v ∷ vs) ≡ ((positive v && lives a) || one_lives bs vs)) where
    found_leaf : (b : Bool) (l : Leaf C N) → b ≡ true → (if b then l ∷ [] else []) ≡ [] → ⊥
    found_leaf true l h k = cc
    found_leaf false l h k = cc

    kept_order : (la lb : Bool) (y : List (Leaf C N)) (hb : Bool) → (if la then [] else y) ≡ [] → hb ≡ true → (hb ≡ true → y ≡ [] → lb ≡ true) → (la || lb) ≡ true
    kept_order true lb y hb e h f = refl
    kept_order false lb y hb e h f = f h e

    by_order : (ha hb la lb : Bool) (x y : List (Leaf C N)) → (ha ≡ true) ⊎ (hb ≡ true) → x ≡ [] → (if la then [] else y) ≡ [] → (ha ≡ true → x ≡ [] → la ≡ true) → (hb ≡ true → y ≡ [] → lb ≡ true) → (la || lb) ≡ true
    by_order ha hb la lb x y (inl h) e k f g = or_first la lb (f h e)
    by_order ha hb la lb x y (inr h) e k f g = kept_order la lb y hb k h g

    by_part : (p ha hs la ls : Bool) (x rest : List (Leaf C N)) → ((p && ha) || hs) ≡ true → rest ++ (if p then x else []) ≡ [] → (ha ≡ true → x ≡ [] → la ≡ true) → (hs ≡ true → rest ≡ [] → ls ≡ true) → ((p && la) || ls) ≡ true
    by_part true ha hs la ls x rest h e f g = by_either (or_one ha hs h)
      where
        by_either : (ha ≡ true) ⊎ (hs ≡ true) → (la || ls) ≡ true
        by_either (inl k) = or_first la ls (f k (empty_first rest x e).1)
        by_either (inr k) = or_second la ls (g k (empty_first rest x e).0)
    by_part false ha hs la ls x rest h e f g = g h (empty_first rest [] e).0

    none_of_rest : (bs : Branches C N) → has_in (parts_by worth sight bs []) ≡ true → ⊥
    none_of_rest no_branch h = cc
    none_of_rest (branch w a bs) h = none_of_rest bs h

    choice_lives : (ls : t.Lasts) (bs : Branches C N) (y : Result (List ℕ) Arith) → worths worth.weight ls (weights_of bs) ≡ y → has (choice_shape sight.fails y (parts_by worth sight bs)) ≡ true → of_parts y (leaves_of_parts worth sight lives bs) ≡ [] → ((vs : List ℕ) → has_in (parts_by worth sight bs vs) ≡ true → leaves_of_parts worth sight lives bs vs ≡ [] → one_lives bs vs ≡ true) → lives (t.weighted ls bs) ≡ true
    choice_lives ls bs (Ok vs) is h e f = chooses ls bs vs is ∙ f vs h e
    choice_lives ls bs (Err x) is h e f = absurd (let k = sym (fails x) ∙ h in cc)

    mutual
      pub lives_anyway : (a : Tree C N) → has (shape a) ≡ true → leaves a ≡ [] → lives a ≡ true
      lives_anyway (t.leaf l) h e = absurd (found_leaf (sight.passes l) l h e)
      lives_anyway (t.ordered a b) h e =
          let p = or_one (has (shape a)) (has (shape b)) (sym (ap has (in_order (shape a) (shape b))) ∙ h) in
          let q = empty_both (leaves a) (if lives a then [] else leaves b) e in
          orders a b ∙ by_order (has (shape a)) (has (shape b)) (lives a) (lives b) (leaves a) (leaves b) p q.0 q.1 (lives_anyway a) (lives_anyway b)
      lives_anyway (t.weighted ls bs) h e = choice_lives ls bs (worths worth.weight ls (weights_of bs)) refl h e (λ vs. one_anyway bs vs)

      one_anyway : (bs : Branches C N) (vs : List ℕ) → has_in (parts_by worth sight bs vs) ≡ true → leaves_of_parts worth sight lives bs vs ≡ [] → one_lives bs vs ≡ true
      one_anyway no_branch vs h e = absurd (cc)
      one_anyway (branch w a bs) [] h e = absurd (none_of_rest bs h)
      one_anyway (branch w a bs) (v ∷ vs) h e =
          parts w a bs v vs
          ∙ by_part (positive v) (has (shape a)) (has_in (parts_by worth sight bs vs)) (lives a) (one_lives bs vs) (leaves a) (leaves_of_parts worth sight lives bs vs) h e (lives_anyway a) (one_anyway bs vs)

    -- ---- what is found is what is walked to

    module _ {B : Type 0} (all : List (Node C N)) (counted : (a : Tree C N) → count (shape a) ≡ length (flattened a)) (live : ℕ → Bool) (told : (a : Tree C N) (k : ℕ) (rest : List (Node C N)) → drop k all ≡ flattened a ++ rest → live k ≡ lives a)
        (next : Leaf C N → List B) (next_at : ℕ → List B) (is_next : (l : Leaf C N) (k : ℕ) (rest : List (Node C N)) → drop k all ≡ leaf_node l ∷ rest → next_at k ≡ next l) where
      abbrev walked : ℕ → Shape → List B
      walked k s = flat_map next_at (back live k s)

      one_more : (k : ℕ) (x : Node C N) (rest : List (Node C N)) → drop k all ≡ x ∷ rest → drop (k + 1) all ≡ rest
      one_more k x rest h = sym (drop-drop 1 k all) ∙ ap (drop 1) h

      dropped : (xs ys : List (Node C N)) → drop (length xs) (xs ++ ys) ≡ ys
      dropped [] ys = refl
      dropped (x ∷ xs) ys = dropped xs ys

      beyond : (k : ℕ) (a : Tree C N) (rest : List (Node C N)) → drop k all ≡ flattened a ++ rest → drop (k + count (shape a)) all ≡ rest
      beyond k a rest h = ap (λ n. drop (k + n) all) (counted a) ∙ sym (drop-drop (length (flattened a)) k all) ∙ ap (drop (length (flattened a))) h ∙ dropped (flattened a) rest

      nothing_in : (bs : Branches C N) (k : ℕ) → back_in live k (parts_by worth sight bs []) ≡ []
      nothing_in no_branch k = refl
      nothing_in (branch w a bs) k = ap (λ xs. xs ++ []) (nothing_in bs (k + count (shape a)))

      at_leaf : (b : Bool) (l : Leaf C N) (k : ℕ) → next_at k ≡ next l → flat_map next_at (if b then k ∷ [] else []) ≡ flat_map next (if b then l ∷ [] else [])
      at_leaf true l k e = ap (λ xs. xs ++ []) e
      at_leaf false l k e = refl

      at_order : (ha hb : Bool) (a b : Tree C N) (x y : List ℕ) (l : Bool) → has (shape a) ≡ ha → has (shape b) ≡ hb → l ≡ lives a → flat_map next_at x ≡ flat_map next (leaves a) → flat_map next_at y ≡ flat_map next (leaves b)
          → flat_map next_at (if ha then x else (if hb then (if l then [] else y) else [])) ≡ flat_map next (first_of (leaves a) (if lives a then [] else leaves b))
      at_order true hb a b x y l h k m e f = e ∙ ap (flat_map next) (by_left (leaves a) refl)
        where
          by_left : (xs : List (Leaf C N)) → leaves a ≡ xs → xs ≡ first_of xs (if lives a then [] else leaves b)
          by_left [] n = sym (ap (λ c. if c then [] else leaves b) (lives_anyway a h n))
          by_left (z ∷ zs) n = refl
      at_order false true a b x y l h k m e f = by_life (lives a) refl ∙ ap (λ xs. flat_map next (first_of xs (if lives a then [] else leaves b))) (sym (none_found a h))
        where
          by_life : (c : Bool) → lives a ≡ c → flat_map next_at (if l then [] else y) ≡ flat_map next (if lives a then [] else leaves b)
          by_life true n = ap (λ d. flat_map next_at (if d then [] else y)) (m ∙ n) ∙ ap (λ d. flat_map next (if d then [] else leaves b)) (sym n)
          by_life false n = ap (λ d. flat_map next_at (if d then [] else y)) (m ∙ n) ∙ f ∙ ap (λ d. flat_map next (if d then [] else leaves b)) (sym n)
      at_order false false a b x y l h k m e f = ap (flat_map next) (sym (no_two (leaves a) (leaves b) (lives a) (none_found a h) (none_found b k)))

      at_part : (p : Bool) (x rest : List ℕ) (ls more : List (Leaf C N)) → flat_map next_at x ≡ flat_map next ls → flat_map next_at rest ≡ flat_map next more → flat_map next_at (rest ++ (if p then x else [])) ≡ flat_map next (more ++ (if p then ls else []))
      at_part true x rest ls more e f = flat_map-append next_at rest x ∙ (λ i. f i ++ e i) ∙ sym (flat_map-append next more ls)
      at_part false x rest ls more e f = flat_map-append next_at rest [] ∙ ap (λ xs. xs ++ []) f ∙ sym (flat_map-append next more [])

      at_choice : (k : ℕ) (bs : Branches C N) (y : Result (List ℕ) Arith) → ((vs : List ℕ) → flat_map next_at (back_in live (k + 1) (parts_by worth sight bs vs)) ≡ flat_map next (leaves_of_parts worth sight lives bs vs)) → walked k (choice_shape sight.fails y (parts_by worth sight bs)) ≡ flat_map next (of_parts y (leaves_of_parts worth sight lives bs))
      at_choice k bs (Ok vs) f = f vs
      at_choice k bs (Err x) f = ap (λ b. flat_map next_at (if b then k ∷ [] else [])) (fails x)

      mutual
        pub found_walked : (a : Tree C N) (k : ℕ) (rest : List (Node C N)) → drop k all ≡ flattened a ++ rest → walked k (shape a) ≡ flat_map next (leaves a)
        found_walked (t.leaf l) k rest h = at_leaf (sight.passes l) l k (is_next l k rest h)
        found_walked (t.ordered a b) k rest h =
            let one = one_more k t.ordered_node (flattened a ++ (flattened b ++ rest)) (h ∙ ap (λ xs. t.ordered_node ∷ xs) (append_assoc (flattened a) (flattened b) rest)) in
            let two = beyond (k + 1) a (flattened b ++ rest) one in
            ap (walked k) (in_order (shape a) (shape b))
            ∙ at_order (has (shape a)) (has (shape b)) a b (back live (k + 1) (shape a)) (back live (k + 1 + count (shape a)) (shape b)) (live (k + 1)) refl refl (told a (k + 1) (flattened b ++ rest) one) (found_walked a (k + 1) (flattened b ++ rest) one) (found_walked b (k + 1 + count (shape a)) rest two)
        found_walked (t.weighted ls bs) k rest h = at_choice k bs (worths worth.weight ls (weights_of bs)) (λ vs. parts_walked bs vs (k + 1) rest (one_more k (t.weighted_node ls (weights_of bs)) (flattened_each bs ++ rest) h))

        parts_walked : (bs : Branches C N) (vs : List ℕ) (k : ℕ) (rest : List (Node C N)) → drop k all ≡ flattened_each bs ++ rest → flat_map next_at (back_in live k (parts_by worth sight bs vs)) ≡ flat_map next (leaves_of_parts worth sight lives bs vs)
        parts_walked no_branch vs k rest h = refl
        parts_walked (branch w a bs) [] k rest h = ap (λ xs. flat_map next_at (xs ++ [])) (nothing_in bs (k + count (shape a)))
        parts_walked (branch w a bs) (v ∷ vs) k rest h =
            let one = h ∙ append_assoc (flattened a) (flattened_each bs) rest in
            at_part (positive v) (back live k (shape a)) (back_in live (k + count (shape a)) (parts_by worth sight bs vs)) (leaves a) (leaves_of_parts worth sight lives bs vs) (found_walked a k (flattened_each bs ++ rest) one) (parts_walked bs vs (k + count (shape a)) rest (beyond k a (flattened_each bs ++ rest) one))
