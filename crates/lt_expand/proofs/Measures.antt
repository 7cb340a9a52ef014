-- What a term has of the tree that it is: its expressions and weights, how many nodes it has, and how deep it is.
use Rattle.std.proofs.Common.{◌≡◌, ℕ, suc, ◌+◌, ◌≤◌, max, Bool, true, List, [], ◌∷◌, ◌++◌, map, length, length-append, refl, sym, ap, ◌∙◌, arith}
use Rattle.std.specs.List.{flat_map, list_all, sum_by}
use Rattle.std.proofs.lemmas.Grind.{flat_map-append}
use Rattle.std.proofs.lemmas.List.{length-map, map-append}
use Rattle.std.proofs.lemmas.List.Folds.{list_all-append}
use Rattle.std.proofs.lemmas.List.Sums.{sum_by-append, sum_by-cons}
use Rattle.lt_formula.specs.Expression as e
use Rattle.lt_formula.specs.Expression.{Expression}
use Rattle.lt_macros.specs.Expanded.{Exception, Expanded, eps, dead, con, raise, seq, loop, count, any, pri, par, assert, exist, catch, try, Parts, no_part, part}
use Rattle.lt_macros.specs.Nodes as tree
use Rattle.lt_macros.specs.Nodes.{expression_nodes, term_count}
use Rattle.lt_macros.specs.Placed as p
use Rattle.lt_macros.specs.Placed.{Placed, bare}
use Rattle.lt_macros.specs.Preorder as tree_parts
use Rattle.lt_macros.specs.Preorder.{Item, expressions_at, in_bounds, in_first, items, items_in, weight_at}
use Rattle.lt_term.proofs.Public.{both, left_of, right_of}
use Rattle.lt_term.specs.Depth.{choices_depth, expression_depth, term_depth}
use Rattle.lt_term.specs.Named.{expressions_in, expressions_in_each, weights_at, weights_of, with_parts}
use Rattle.lt_term.specs.Process.{Process}
use Rattle.lt_term.specs.Subterms.{subterms, subterms_of_each}
use Rattle.lt_expand.specs.Scenes.{choices_of, process_of}

-- LISTS

both_pass : {X : Type 0} (f : X → Bool) (xs ys : List X) → list_all f xs ≡ true → list_all f ys ≡ true → list_all f (xs ++ ys) ≡ true
both_pass f xs ys g h = list_all-append f xs ys ∙ both (list_all f xs) (list_all f ys) g h

first_pass : {X : Type 0} (f : X → Bool) (xs ys : List X) → list_all f (xs ++ ys) ≡ true → list_all f xs ≡ true
first_pass f xs ys h = left_of (list_all f xs) (list_all f ys) (sym (list_all-append f xs ys) ∙ h)

last_pass : {X : Type 0} (f : X → Bool) (xs ys : List X) → list_all f (xs ++ ys) ≡ true → list_all f ys ≡ true
last_pass f xs ys h = right_of (list_all f xs) (list_all f ys) (sym (list_all-append f xs ys) ∙ h)

-- EXPRESSIONS

pub bare_parts : (d : Placed) → map bare (tree_parts.with_parts d) ≡ with_parts (bare d)
bare_parts (p.constant k v at) = refl
bare_parts (p.variable r i at) = refl
bare_parts (p.previous r i at) = refl
bare_parts (p.unary op d at) = ap (λ es. e.unary op (bare d) ∷ es) (bare_parts d)
bare_parts (p.binary op d f at) =
    ap (λ es. e.binary op (bare d) (bare f) ∷ es) (map-append bare (tree_parts.with_parts d) (tree_parts.with_parts f) ∙ (λ i. bare_parts d i ++ bare_parts f i))
bare_parts (p.choice c d f at) =
    ap (λ es. e.choice (bare c) (bare d) (bare f) ∷ es)
    (map-append bare (tree_parts.with_parts c) (tree_parts.with_parts d ++ tree_parts.with_parts f)
    ∙ (λ i. bare_parts c i ++ (map-append bare (tree_parts.with_parts d) (tree_parts.with_parts f) ∙ (λ j. bare_parts d j ++ bare_parts f j)) i))

-- as many nodes
bare_nodes : (d : Placed) → length (with_parts (bare d)) ≡ expression_nodes d
bare_nodes d = sym (ap length (bare_parts d)) ∙ length-map (tree_parts.with_parts d) bare

-- as deep
pub bare_depth : (d : Placed) → expression_depth (bare d) ≡ tree.expression_depth d
bare_depth (p.constant k v at) = refl
bare_depth (p.variable r i at) = refl
bare_depth (p.previous r i at) = refl
bare_depth (p.unary op d at) = ap suc (bare_depth d)
bare_depth (p.binary op d f at) = λ i. suc (max (bare_depth d i) (bare_depth f i))
bare_depth (p.choice c d f at) = λ i. suc (max (bare_depth c i) (max (bare_depth d i) (bare_depth f i)))

-- DEPTH

mutual
  pub term_deep : (zs : List Exception) (x : Expanded) → term_depth (process_of zs x) ≡ tree.term_depth x
  term_deep zs eps = refl
  term_deep zs dead = refl
  term_deep zs (con d) = refl
  term_deep zs (raise z) = refl
  term_deep zs (seq x y) = λ i. suc (max (term_deep zs x i) (term_deep zs y i))
  term_deep zs (loop x) = ap suc (term_deep zs x)
  term_deep zs (count n b x) = ap suc (term_deep zs x)
  term_deep zs (any ps) = ap suc (choices_deep zs ps)
  term_deep zs (pri x y) = λ i. suc (max (term_deep zs x i) (term_deep zs y i))
  term_deep zs (par x y) = λ i. suc (max (term_deep zs x i) (term_deep zs y i))
  term_deep zs (assert d x) = ap suc (term_deep zs x)
  term_deep zs (exist n d x) = ap suc (term_deep zs x)
  term_deep zs (catch z x y) = λ i. suc (max (term_deep zs x i) (term_deep zs y i))
  term_deep zs (try x y) = λ i. suc (max (term_deep zs x i) (term_deep zs y i))

  choices_deep : (zs : List Exception) (ps : Parts) → choices_depth (choices_of zs ps) ≡ tree.parts_depth ps
  choices_deep zs no_part = refl
  choices_deep zs (part w x ps) = λ i. max (term_deep zs x i) (choices_deep zs ps i)

-- TESTS

-- What passes a test in a tree passes another one in the term.
module _ (zs : List Exception) (old : Placed → Bool) (new : Expression → Bool) (pass : (d : Placed) → old d ≡ true → new (bare d) ≡ true) where
  -- the expressions of parts of a tree pass
  abbrev Pass : List Item → Type 0
  Pass is = list_all old (flat_map expressions_at is) ≡ true

  pass_first : (is js : List Item) → Pass (is ++ js) → Pass is
  pass_first is js h = first_pass old (flat_map expressions_at is) (flat_map expressions_at js) (sym (ap (list_all old) (flat_map-append expressions_at is js)) ∙ h)

  pass_last : (is js : List Item) → Pass (is ++ js) → Pass js
  pass_last is js h = last_pass old (flat_map expressions_at is) (flat_map expressions_at js) (sym (ap (list_all old) (flat_map-append expressions_at is js)) ∙ h)

  two_pass : (is js : List Item) (xs ys : List Expression) → (Pass is → list_all new xs ≡ true) → (Pass js → list_all new ys ≡ true) → Pass (is ++ js) → list_all new (xs ++ ys) ≡ true
  two_pass is js xs ys f g h = both_pass new xs ys (f (pass_first is js h)) (g (pass_last is js h))

  mutual
    pub term_passes : (x : Expanded) → Pass (items x) → list_all new (expressions_in (process_of zs x)) ≡ true
    term_passes eps h = refl
    term_passes dead h = refl
    term_passes (con d) h = both _ true (pass d (left_of (old d) true h)) refl
    term_passes (raise z) h = refl
    term_passes (seq x y) h = two_pass (items x) (items y) (expressions_in (process_of zs x)) (expressions_in (process_of zs y)) (term_passes x) (term_passes y) h
    term_passes (loop x) h = term_passes x h
    term_passes (count n b x) h = term_passes x (last_pass old (in_bounds b) (flat_map expressions_at (items x)) h)
    term_passes (any ps) h = choices_pass ps h
    term_passes (pri x y) h = two_pass (items x) (items y) (expressions_in (process_of zs x)) (expressions_in (process_of zs y)) (term_passes x) (term_passes y) h
    term_passes (par x y) h = two_pass (items x) (items y) (expressions_in (process_of zs x)) (expressions_in (process_of zs y)) (term_passes x) (term_passes y) h
    term_passes (assert d x) h =
        both _ _ (pass d (left_of (old d) (list_all old (flat_map expressions_at (items x))) h)) (term_passes x (right_of (old d) (list_all old (flat_map expressions_at (items x))) h))
    term_passes (exist n d x) h = term_passes x (last_pass old (in_first d) (flat_map expressions_at (items x)) h)
    term_passes (catch z x y) h = two_pass (items x) (items y) (expressions_in (process_of zs x)) (expressions_in (process_of zs y)) (term_passes x) (term_passes y) h
    term_passes (try x y) h = two_pass (items x) (items y) (expressions_in (process_of zs x)) (expressions_in (process_of zs y)) (term_passes x) (term_passes y) h

    choices_pass : (ps : Parts) → Pass (items_in ps) → list_all new (expressions_in_each (choices_of zs ps)) ≡ true
    choices_pass no_part h = refl
    choices_pass (part w x ps) h =
        let rest = right_of (old w) (list_all old (flat_map expressions_at (items x ++ items_in ps))) h in
        both _ _ (pass w (left_of (old w) (list_all old (flat_map expressions_at (items x ++ items_in ps))) h))
        (two_pass (items x) (items_in ps) (expressions_in (process_of zs x)) (expressions_in_each (choices_of zs ps)) (term_passes x) (choices_pass ps) rest)

  -- the weights of parts of a tree pass
  abbrev Light : List Item → Type 0
  Light is = list_all old (flat_map weight_at is) ≡ true

  light_first : (is js : List Item) → Light (is ++ js) → Light is
  light_first is js h = first_pass old (flat_map weight_at is) (flat_map weight_at js) (sym (ap (list_all old) (flat_map-append weight_at is js)) ∙ h)

  light_last : (is js : List Item) → Light (is ++ js) → Light js
  light_last is js h = last_pass old (flat_map weight_at is) (flat_map weight_at js) (sym (ap (list_all old) (flat_map-append weight_at is js)) ∙ h)

  -- the weights that terms have pass
  abbrev AreLight : List (Process Expression) → Type 0
  AreLight ts = list_all new (flat_map weights_at ts) ≡ true

  two_light : (is js : List Item) (ts us : List (Process Expression)) → (Light is → AreLight ts) → (Light js → AreLight us) → Light (is ++ js) → AreLight (ts ++ us)
  two_light is js ts us f g h =
      ap (list_all new) (flat_map-append weights_at ts us) ∙ both_pass new (flat_map weights_at ts) (flat_map weights_at us) (f (light_first is js h)) (g (light_last is js h))

  weights_pass : (ps : Parts) → Light (items_in ps) → list_all new (weights_of (choices_of zs ps)) ≡ true
  weights_pass no_part h = refl
  weights_pass (part w x ps) h =
      both _ _ (pass w (left_of (old w) (list_all old (flat_map weight_at (items x ++ items_in ps))) h))
      (weights_pass ps (light_last (items x) (items_in ps) (right_of (old w) (list_all old (flat_map weight_at (items x ++ items_in ps))) h)))

  mutual
    pub term_light : (x : Expanded) → Light (items x) → AreLight (subterms (process_of zs x))
    term_light eps h = refl
    term_light dead h = refl
    term_light (con d) h = refl
    term_light (raise z) h = refl
    term_light (seq x y) h = two_light (items x) (items y) (subterms (process_of zs x)) (subterms (process_of zs y)) (term_light x) (term_light y) h
    term_light (loop x) h = term_light x h
    term_light (count n b x) h = term_light x h
    term_light (any ps) h =
        both_pass new (weights_of (choices_of zs ps)) (flat_map weights_at (subterms_of_each (choices_of zs ps))) (weights_pass ps h) (choices_light ps h)
    term_light (pri x y) h = two_light (items x) (items y) (subterms (process_of zs x)) (subterms (process_of zs y)) (term_light x) (term_light y) h
    term_light (par x y) h = two_light (items x) (items y) (subterms (process_of zs x)) (subterms (process_of zs y)) (term_light x) (term_light y) h
    term_light (assert d x) h = term_light x h
    term_light (exist n d x) h = term_light x h
    term_light (catch z x y) h = two_light (items x) (items y) (subterms (process_of zs x)) (subterms (process_of zs y)) (term_light x) (term_light y) h
    term_light (try x y) h = two_light (items x) (items y) (subterms (process_of zs x)) (subterms (process_of zs y)) (term_light x) (term_light y) h

    choices_light : (ps : Parts) → Light (items_in ps) → AreLight (subterms_of_each (choices_of zs ps))
    choices_light no_part h = refl
    choices_light (part w x ps) h =
        let rest = right_of (old w) (list_all old (flat_map weight_at (items x ++ items_in ps))) h in
        two_light (items x) (items_in ps) (subterms (process_of zs x)) (subterms_of_each (choices_of zs ps)) (term_light x) (choices_light ps) rest

-- NODES

-- the nodes of a list of expressions
abbrev many : List Placed → ℕ
many ds = sum_by expression_nodes ds

abbrev terms : List Item → ℕ
terms is = sum_by term_count is

-- how many nodes terms have, and expressions
abbrev nodes : List (Process Expression) → List Expression → ℕ
nodes ts es = length ts + length (flat_map with_parts es)

nodes_append : (ts us : List (Process Expression)) (es fs : List Expression) → nodes (ts ++ us) (es ++ fs) ≡ nodes ts es + nodes us fs
nodes_append ts us es fs =
    let a = length-append ts us in
    let b = ap length (flat_map-append with_parts es fs) in
    let c = length-append (flat_map with_parts es) (flat_map with_parts fs) in
    omega (arith, a, b, c)

-- how many nodes parts of a tree have
abbrev room : List Item → ℕ
room is = terms is + many (flat_map expressions_at is)

room_append : (is js : List Item) → room (is ++ js) ≡ room is + room js
room_append is js =
    let a = sum_by-append term_count is js in
    let b = ap many (flat_map-append expressions_at is js) in
    let c = sum_by-append expression_nodes (flat_map expressions_at is) (flat_map expressions_at js) in
    omega (arith, a, b, c)

room_cons : (i : Item) (is : List Item) → room (i ∷ is) ≡ (term_count i + many (expressions_at i)) + room is
room_cons i is =
    let a = sum_by-cons term_count i is in
    let c = sum_by-append expression_nodes (expressions_at i) (flat_map expressions_at is) in
    omega (arith, a, c)

many_one : (d : Placed) → many (d ∷ []) ≡ expression_nodes d
many_one d = let a = sum_by-cons expression_nodes d [] in omega (arith, a)

nodes_one : (d : Placed) (ts : List (Process Expression)) (es : List Expression) → nodes ts (bare d ∷ es) ≡ expression_nodes d + nodes ts es
nodes_one d ts es = let a = length-append (with_parts (bare d)) (flat_map with_parts es) in let b = bare_nodes d in omega (arith, a, b)

module _ (zs : List Exception) where
  -- the nodes of a term are no more than those of a tree
  abbrev Holds : Expanded → Type 0
  Holds x = nodes (subterms (process_of zs x)) (expressions_in (process_of zs x)) ≤ room (items x)

  -- one term above others, which names none
  above : (i : Item) (is : List Item) (t : Process Expression) (ts : List (Process Expression)) (es : List Expression) → term_count i ≡ 1 → nodes ts es ≤ room is → nodes (t ∷ ts) es ≤ room (i ∷ is)
  above i is t ts es one h = let a = room_cons i is in omega (arith, a, one, h)

  -- one that names an expression
  naming : (d : Placed) (i : Item) (is : List Item) (t : Process Expression) (ts : List (Process Expression)) (es : List Expression) → term_count i ≡ 1 → expressions_at i ≡ d ∷ [] → nodes ts es ≤ room is
      → nodes (t ∷ ts) (bare d ∷ es) ≤ room (i ∷ is)
  naming d i is t ts es one names h =
      let a = room_cons i is in
      let b = ap many names in
      let c = many_one d in
      let m = nodes_one d ts es in
      omega (arith, a, b, c, m, one, h)

  -- two beside each other
  beside : (is js : List Item) (ts us : List (Process Expression)) (es fs : List Expression) → nodes ts es ≤ room is → nodes us fs ≤ room js → nodes (ts ++ us) (es ++ fs) ≤ room (is ++ js)
  beside is js ts us es fs g h = let a = nodes_append ts us es fs in let b = room_append is js in omega (arith, a, b, g, h)

  abbrev term_of : Expanded → Process Expression
  term_of x = process_of zs x

  abbrev terms_of : Expanded → List (Process Expression)
  terms_of x = subterms (process_of zs x)

  abbrev named_of : Expanded → List Expression
  named_of x = expressions_in (process_of zs x)

  -- a term with one part
  over : (x y : Expanded) → term_count (tree_parts.term x) ≡ 1 → Holds y → nodes (term_of x ∷ terms_of y) (named_of y) ≤ room (tree_parts.term x ∷ items y)
  over x y one h = above (tree_parts.term x) (items y) (term_of x) (terms_of y) (named_of y) one h

  -- a term with two parts
  over_both : (x y z : Expanded) → term_count (tree_parts.term x) ≡ 1 → Holds y → Holds z
      → nodes (term_of x ∷ (terms_of y ++ terms_of z)) (named_of y ++ named_of z) ≤ room (tree_parts.term x ∷ (items y ++ items z))
  over_both x y z one g h =
      above (tree_parts.term x) (items y ++ items z) (term_of x) (terms_of y ++ terms_of z) (named_of y ++ named_of z) one
      (beside (items y) (items z) (terms_of y) (terms_of z) (named_of y) (named_of z) g h)

  mutual
    pub term_nodes : (x : Expanded) → Holds x
    term_nodes eps = omega arith
    term_nodes dead = omega arith
    term_nodes (con d) = naming d (tree_parts.term (con d)) [] (term_of (con d)) [] [] refl refl (omega arith)
    term_nodes (raise z) = omega arith
    term_nodes (seq x y) = over_both (seq x y) x y refl (term_nodes x) (term_nodes y)
    term_nodes (loop x) = over (loop x) x refl (term_nodes x)
    term_nodes (count n b x) = over (count n b x) x refl (term_nodes x)
    term_nodes (any ps) =
        above (tree_parts.term (any ps)) (items_in ps) (term_of (any ps)) (subterms_of_each (choices_of zs ps)) (expressions_in_each (choices_of zs ps)) refl (choices_nodes ps)
    term_nodes (pri x y) = over_both (pri x y) x y refl (term_nodes x) (term_nodes y)
    term_nodes (par x y) = over_both (par x y) x y refl (term_nodes x) (term_nodes y)
    term_nodes (assert d x) = naming d (tree_parts.term (assert d x)) (items x) (term_of (assert d x)) (terms_of x) (named_of x) refl refl (term_nodes x)
    term_nodes (exist n d x) = over (exist n d x) x refl (term_nodes x)
    term_nodes (catch z x y) = over_both (catch z x y) x y refl (term_nodes x) (term_nodes y)
    term_nodes (try x y) = over_both (try x y) x y refl (term_nodes x) (term_nodes y)

    choices_nodes : (ps : Parts) → nodes (subterms_of_each (choices_of zs ps)) (expressions_in_each (choices_of zs ps)) ≤ room (items_in ps)
    choices_nodes no_part = omega arith
    choices_nodes (part w x ps) =
        let ts = subterms_of_each (choices_of zs ps) in
        let es = expressions_in_each (choices_of zs ps) in
        let a = beside (items x) (items_in ps) (terms_of x) ts (named_of x) es (term_nodes x) (choices_nodes ps) in
        let b = room_cons (tree_parts.weight w) (items x ++ items_in ps) in
        let c = many_one w in
        let m = nodes_one w (terms_of x ++ ts) (named_of x ++ es) in
        omega (arith, a, b, c, m)
