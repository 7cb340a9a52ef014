-- The figures of a node's tree are what the limits speak of.
use Rattle.std.proofs.Common.{◌≡◌, ℕ, suc, ◌+◌, ◌≤◌, max, Bool, true, false, ◌&&◌, nat_le, nat_lt, nat_eq, List, [], ◌∷◌, ◌++◌, length, Option, None, Some, option_to_list, slice_get, if◌then◌else◌, refl, ap, sym, ◌∙◌, arith, length-append}
use Rattle.std.specs.List.{flat_map, list_all, sum_by}
use Rattle.std.proofs.lemmas.Bool.{le-leb, lt-leb, leb-true, leb-false, eq-eqb, ne_eqb}
use Rattle.std.proofs.lemmas.List.Sums.{sum_by-cons, sum_by-append}
use Rattle.std.proofs.lemmas.List.Folds.{sum_by-zero}
use Rattle.lt_macros.specs.Placed.{Placed, constant, variable, previous, unary, binary, choice}
use Rattle.lt_macros.specs.Expanded.{Declared, Call, Bounds, between, around, Expanded, eps, dead, con, raise, seq, loop, count, any, pri, par, assert, exist, catch, try, Parts, no_part, part, Node, all_inputs}
use Rattle.lt_macros.specs.Failing.{unless}
use Rattle.lt_macros.specs.Preorder.{Item, term, weight, items, items_in, in_first, expressions_at, arguments_in, expressions_in, local_at, locals_in, with_parts}
use Rattle.lt_macros.specs.Nodes.{term_count, expression_nodes, node_count, term_depth, parts_depth, expression_depth, alternatives_at, drawn_count}
use Rattle.lt_formula.specs.Limits.{most_alternatives, most_variables}
use Rattle.lt_macros.specs.Limits.{most_nodes, most_term_depth, most_expression_depth, passed_limits}
use Rattle.lt_macros.specs.inner.Figures.{Figure, nodes, deep_terms, deep_expressions, wide_choices, locals, one_if, term_weight, expression_weight, choice_weight, local_weight, expression_figure, bounds_figure, first_figure, expanded_figure, parts_figure, variables_figure, arguments_figure, calls_figure, node_figure, limit_by}
use Rattle.lt_macros.specs.declared.limit.Limit.TheVariants.{Nodes, Depth, Children, Variables}

-- SUMS

abbrev expressions : Figure → List Placed → ℕ
expressions f es = sum_by (expression_figure f 1) es

sum_same : {X : Type 0} (g h : X → ℕ) (xs : List X) → ((x : X) → g x ≡ h x) → sum_by g xs ≡ sum_by h xs
sum_same g h xs same = λ i. sum_by (λ x. same x i) xs

sum_none : {X : Type 0} (g : X → ℕ) (xs : List X) → ((x : X) → g x ≡ 0) → sum_by g xs ≡ 0
sum_none g [] none = refl
sum_none g (x ∷ xs) none = omega (arith, sum_by-cons g x xs, none x, sum_none g xs none)

sum_lengths : {X Y : Type 0} (g : X → List Y) (xs : List X) → sum_by (λ x. length (g x)) xs ≡ length (flat_map g xs)
sum_lengths g [] = refl
sum_lengths g (x ∷ xs) = omega (arith, sum_by-cons (λ x. length (g x)) x xs, sum_lengths g xs, length-append (g x) (flat_map g xs))

-- ITEMS

abbrev own_local : Figure → Expanded → ℕ
own_local f (exist i d x) = local_weight f
own_local f other = 0

-- what a part of a trace adds besides its expressions, where it doesn't matter how deep it stands
abbrev plain : Figure → Item → ℕ
plain f (weight w) = 0
plain f (term x) = term_weight f 0 + (choice_weight f (alternatives_at (term x)) + own_local f x)

abbrev added : Figure → Item → ℕ
added f i = plain f i + expressions f (expressions_at i)

abbrev total : Figure → List Item → ℕ
total f is = sum_by (added f) is

-- It doesn't matter how deep a term stands.
abbrev IsFlat : Figure → Type 0
IsFlat f = (depth : ℕ) → term_weight f depth ≡ term_weight f 0

no_choice : (f : Figure) → choice_weight f 0 ≡ 0
no_choice nodes = refl
no_choice deep_terms = refl
no_choice deep_expressions = refl
no_choice wide_choices = refl
no_choice locals = refl

first_is : (f : Figure) (first : Option Placed) → first_figure f first ≡ expressions f (option_to_list first)
first_is f None = refl
first_is f (Some e) = omega arith

-- a part, and what stands behind it
behind : (f : Figure) (i : Item) (is : List Item) → total f (i ∷ is) ≡ added f i + total f is
behind f i is = sum_by-cons (added f) i is

before : (f : Figure) (i : Item) (is js : List Item) → total f (i ∷ (is ++ js)) ≡ added f i + (total f is + total f js)
before f i is js = omega (arith, sum_by-cons (added f) i (is ++ js), sum_by-append (added f) is js)

mutual
  items_total : (f : Figure) (depth : ℕ) (x : Expanded) → IsFlat f → expanded_figure f depth x ≡ total f (items x)
  items_total f depth eps flat = omega (arith, flat depth, no_choice f)
  items_total f depth dead flat = omega (arith, flat depth, no_choice f)
  items_total f depth (con e) flat = omega (arith, flat depth, no_choice f)
  items_total f depth (raise z) flat = omega (arith, flat depth, no_choice f)
  items_total f depth (seq x y) flat = omega (arith, flat depth, no_choice f, before f (term (seq x y)) (items x) (items y), items_total f (depth + 1) x flat, items_total f (depth + 1) y flat)
  items_total f depth (loop x) flat = omega (arith, flat depth, no_choice f, behind f (term (loop x)) (items x), items_total f (depth + 1) x flat)
  items_total f depth (count i (between d e) x) flat = omega (arith, flat depth, no_choice f, behind f (term (count i (between d e) x)) (items x), items_total f (depth + 1) x flat)
  items_total f depth (count i (around d e) x) flat = omega (arith, flat depth, no_choice f, behind f (term (count i (around d e) x)) (items x), items_total f (depth + 1) x flat)
  items_total f depth (any ps) flat = omega (arith, flat depth, behind f (term (any ps)) (items_in ps), parts_total f (depth + 1) ps flat)
  items_total f depth (pri x y) flat = omega (arith, flat depth, no_choice f, before f (term (pri x y)) (items x) (items y), items_total f (depth + 1) x flat, items_total f (depth + 1) y flat)
  items_total f depth (par x y) flat = omega (arith, flat depth, no_choice f, before f (term (par x y)) (items x) (items y), items_total f (depth + 1) x flat, items_total f (depth + 1) y flat)
  items_total f depth (assert e x) flat = omega (arith, flat depth, no_choice f, behind f (term (assert e x)) (items x), items_total f (depth + 1) x flat)
  items_total f depth (exist i d x) flat = omega (arith, flat depth, no_choice f, first_is f d.first, behind f (term (exist i d x)) (items x), items_total f (depth + 1) x flat)
  items_total f depth (catch z x h) flat = omega (arith, flat depth, no_choice f, before f (term (catch z x h)) (items x) (items h), items_total f (depth + 1) x flat, items_total f (depth + 1) h flat)
  items_total f depth (try x h) flat = omega (arith, flat depth, no_choice f, before f (term (try x h)) (items x) (items h), items_total f (depth + 1) x flat, items_total f (depth + 1) h flat)

  parts_total : (f : Figure) (depth : ℕ) (ps : Parts) → IsFlat f → parts_figure f depth ps ≡ total f (items_in ps)
  parts_total f depth no_part flat = refl
  parts_total f depth (part w x ps) flat = omega (arith, before f (weight w) (items x) (items_in ps), items_total f depth x flat, parts_total f depth ps flat)

-- expressions apart
total_is : (f : Figure) (is : List Item) → total f is ≡ sum_by (plain f) is + expressions f (flat_map expressions_at is)
total_is f [] = refl
total_is f (i ∷ is) =
    omega (arith, behind f i is, sum_by-cons (plain f) i is, sum_by-append (expression_figure f 1) (expressions_at i) (flat_map expressions_at is), total_is f is)

-- NODES

variables_are : (f : Figure) (ds : List Declared) → variables_figure f ds ≡ expressions f (flat_map in_first ds)
variables_are f [] = refl
variables_are f (d ∷ ds) = omega (arith, first_is f d.first, sum_by-append (expression_figure f 1) (in_first d) (flat_map in_first ds), variables_are f ds)

arguments_are : (f : Figure) (es : List Placed) → arguments_figure f es ≡ expressions f es
arguments_are f [] = refl
arguments_are f (e ∷ es) = omega (arith, sum_by-cons (expression_figure f 1) e es, arguments_are f es)

calls_are : (f : Figure) (cs : List Call) → calls_figure f cs ≡ expressions f (flat_map (λ (c : Call). c.arguments) cs)
calls_are f [] = refl
calls_are f (c ∷ cs) = omega (arith, arguments_are f c.arguments, sum_by-append (expression_figure f 1) c.arguments (flat_map (λ (d : Call). d.arguments) cs), calls_are f cs)

node_is : (f : Figure) (node : Node) → IsFlat f → node_figure node f ≡ sum_by (plain f) (items node.body) + expressions f (expressions_in node)
node_is f node flat =
    let outs = flat_map in_first node.outputs in
    let given = arguments_in node in
    let inside = flat_map expressions_at (items node.body) in
    omega (
      arith,
      variables_are f node.inputs,
      variables_are f node.outputs,
      calls_are f node.calls,
      items_total f 1 node.body flat,
      total_is f (items node.body),
      sum_by-append (expression_figure f 1) (flat_map in_first node.inputs) (outs ++ (given ++ inside)),
      sum_by-append (expression_figure f 1) outs (given ++ inside),
      sum_by-append (expression_figure f 1) given inside,
    )

-- HOW MANY NODES

parts_of_expression : (depth : ℕ) (e : Placed) → expression_figure nodes depth e ≡ expression_nodes e
parts_of_expression depth (constant k v at) = refl
parts_of_expression depth (variable r i at) = refl
parts_of_expression depth (previous r i at) = refl
parts_of_expression depth (unary op e at) = omega (arith, parts_of_expression (depth + 1) e)
parts_of_expression depth (binary op d e at) = omega (arith, parts_of_expression (depth + 1) d, parts_of_expression (depth + 1) e, length-append (with_parts d) (with_parts e))
parts_of_expression depth (choice c d e at) =
    omega (
      arith,
      parts_of_expression (depth + 1) c,
      parts_of_expression (depth + 1) d,
      parts_of_expression (depth + 1) e,
      length-append (with_parts c) (with_parts d ++ with_parts e),
      length-append (with_parts d) (with_parts e),
    )

term_is_one : (i : Item) → plain nodes i ≡ term_count i
term_is_one (weight w) = refl
term_is_one (term (exist i d x)) = refl
term_is_one (term other) = refl

nodes_are : (node : Node) → node_figure node nodes ≡ node_count node
nodes_are node =
    omega (
      arith,
      node_is nodes node (λ depth. refl),
      sum_same (plain nodes) term_count (items node.body) term_is_one,
      sum_same (expression_figure nodes 1) expression_nodes (expressions_in node) (parts_of_expression 1),
    )

-- LOCALS

no_expression : (f : Figure) → ((depth : ℕ) → expression_weight f depth ≡ 0) → (depth : ℕ) (e : Placed) → expression_figure f depth e ≡ 0
no_expression f none depth (constant k v at) = none depth
no_expression f none depth (variable r i at) = none depth
no_expression f none depth (previous r i at) = none depth
no_expression f none depth (unary op e at) = omega (arith, none depth, no_expression f none (depth + 1) e)
no_expression f none depth (binary op d e at) = omega (arith, none depth, no_expression f none (depth + 1) d, no_expression f none (depth + 1) e)
no_expression f none depth (choice c d e at) = omega (arith, none depth, no_expression f none (depth + 1) c, no_expression f none (depth + 1) d, no_expression f none (depth + 1) e)

local_is_one : (i : Item) → plain locals i ≡ length (local_at i)
local_is_one (weight w) = refl
local_is_one (term (exist i d x)) = refl
local_is_one (term other) = refl

locals_are : (node : Node) → node_figure node locals ≡ length (locals_in node)
locals_are node =
    omega (
      arith,
      node_is locals node (λ depth. refl),
      sum_none (expression_figure locals 1) (expressions_in node) (no_expression locals (λ depth. refl) 1),
      sum_same (plain locals) (λ i. length (local_at i)) (items node.body) local_is_one,
      sum_lengths local_at (items node.body),
    )

-- CHOICES

few_is : (n : ℕ) → nat_eq (one_if (nat_lt most_alternatives n)) 0 ≡ nat_le n most_alternatives
few_is n = by (nat_lt most_alternatives n) refl
  where
    by : (b : Bool) → nat_lt most_alternatives n ≡ b → nat_eq (one_if b) 0 ≡ nat_le n most_alternatives
    by true is = sym (lt-leb n most_alternatives (omega (arith, leb-true (suc most_alternatives) n is)))
    by false is = sym (le-leb n most_alternatives (omega (arith, leb-false (suc most_alternatives) n is)))

choice_is : (i : Item) → plain wide_choices i ≡ one_if (nat_lt most_alternatives (alternatives_at i))
choice_is (weight w) = refl
choice_is (term (exist i d x)) = refl
choice_is (term (any ps)) = omega arith
choice_is (term other) = refl

choices_are : (node : Node) → nat_eq (node_figure node wide_choices) 0 ≡ list_all (λ i. nat_le (alternatives_at i) most_alternatives) (items node.body)
choices_are node =
    let wide : Item → ℕ = λ i. one_if (nat_lt most_alternatives (alternatives_at i)) in
    let figure : node_figure node wide_choices ≡ sum_by wide (items node.body) =
    omega (
      arith,
      node_is wide_choices node (λ depth. refl),
      sum_none (expression_figure wide_choices 1) (expressions_in node) (no_expression wide_choices (λ depth. refl) 1),
      sum_same (plain wide_choices) wide (items node.body) choice_is,
    ) in
    ap (λ n. nat_eq n 0) figure ∙ sum_by-zero wide (items node.body) ∙ (λ j. list_all (λ i. few_is (alternatives_at i) j) (items node.body))

-- DEPTHS

-- A figure is 0 where what is deepest isn't deeper than this.
abbrev Fits : ℕ → ℕ → ℕ → Type 0
Fits most figure deepest = (figure ≡ 0 → deepest ≤ most) × (deepest ≤ most → figure ≡ 0)

deep_weight : (most depth : ℕ) → Fits most (one_if (nat_lt most depth)) depth
deep_weight most depth = by (nat_lt most depth) refl
  where
    by : (b : Bool) → nat_lt most depth ≡ b → Fits most (one_if b) depth
    by true is = (λ h. absurd (omega (arith, h)), λ h. absurd (omega (arith, h, leb-true (suc most) depth is)))
    by false is = (λ h. omega (arith, leb-false (suc most) depth is), λ h. refl)

-- one alone, and one with others in it, which stand one deeper
fits_alone : (most t depth : ℕ) → Fits most t depth → Fits (most + 1) t (1 + depth)
fits_alone most t depth h = (λ z. omega (arith, h.0 z), λ z. h.1 (omega (arith, z)))

fits_around : (most t x a depth : ℕ) → Fits most t depth → Fits (most + 1) x (a + (depth + 1)) → Fits (most + 1) (t + x) (suc a + depth)
fits_around most t x a depth h g = (λ z. omega (arith, g.0 (omega (arith, z))), λ z. omega (arith, h.1 (omega (arith, z)), g.1 (omega (arith, z))))

fits_two : (most x y a b depth : ℕ) → Fits most x (a + depth) → Fits most y (b + depth) → Fits most (x + y) (max a b + depth)
fits_two most x y a b depth h g = (λ z. omega (arith, h.0 (omega (arith, z)), g.0 (omega (arith, z))), λ z. omega (arith, h.1 (omega (arith, z)), g.1 (omega (arith, z))))

-- two that are the same
fits_same : (most x y deepest : ℕ) → x ≡ y → Fits most x deepest → Fits most y deepest
fits_same most x y deepest is h = (λ z. h.0 (omega (arith, is, z)), λ z. omega (arith, is, h.1 z))

expression_fits : (depth : ℕ) (e : Placed) → Fits (most_expression_depth + 1) (expression_figure deep_expressions depth e) (expression_depth e + depth)
expression_fits depth (constant k v at) = fits_alone most_expression_depth _ depth (deep_weight most_expression_depth depth)
expression_fits depth (variable r i at) = fits_alone most_expression_depth _ depth (deep_weight most_expression_depth depth)
expression_fits depth (previous r i at) = fits_alone most_expression_depth _ depth (deep_weight most_expression_depth depth)
expression_fits depth (unary op e at) = fits_around most_expression_depth _ _ _ depth (deep_weight most_expression_depth depth) (expression_fits (depth + 1) e)
expression_fits depth (binary op d e at) =
    fits_around most_expression_depth _ _ _ depth (deep_weight most_expression_depth depth)
    (fits_two (most_expression_depth + 1) _ _ _ _ (depth + 1) (expression_fits (depth + 1) d) (expression_fits (depth + 1) e))
expression_fits depth (choice c d e at) =
    fits_around most_expression_depth _ _ _ depth (deep_weight most_expression_depth depth)
    (fits_two (most_expression_depth + 1) _ _ _ _ (depth + 1) (expression_fits (depth + 1) c) (fits_two (most_expression_depth + 1) _ _ _ _ (depth + 1) (expression_fits (depth + 1) d) (expression_fits (depth + 1) e)))

-- expressions are no terms
shallow : (depth : ℕ) (e : Placed) → expression_figure deep_terms depth e ≡ 0
shallow depth e = no_expression deep_terms (λ d. refl) depth e

shallow_bounds : (b : Bounds) → bounds_figure deep_terms b ≡ 0
shallow_bounds (between d e) = omega (arith, shallow 1 d, shallow 1 e)
shallow_bounds (around d e) = omega (arith, shallow 1 d, shallow 1 e)

shallow_first : (first : Option Placed) → first_figure deep_terms first ≡ 0
shallow_first None = refl
shallow_first (Some e) = shallow 1 e

-- a term of two parts
fits_term : (x y a b depth : ℕ) → Fits (most_term_depth + 1) x (a + (depth + 1)) → Fits (most_term_depth + 1) y (b + (depth + 1)) → Fits (most_term_depth + 1) (one_if (nat_lt most_term_depth depth) + (x + y)) (suc (max a b) + depth)
fits_term x y a b depth h g = fits_around most_term_depth _ _ _ depth (deep_weight most_term_depth depth) (fits_two (most_term_depth + 1) x y a b (depth + 1) h g)

-- a term of one part, with what isn't as deep
fits_one : (x a depth other : ℕ) → other ≡ 0 → Fits (most_term_depth + 1) x (a + (depth + 1)) → Fits (most_term_depth + 1) (one_if (nat_lt most_term_depth depth) + (other + x)) (suc a + depth)
fits_one x a depth other none h =
    fits_around most_term_depth _ (other + x) a depth (deep_weight most_term_depth depth) (fits_same (most_term_depth + 1) x (other + x) (a + (depth + 1)) (omega (arith, none)) h)

-- a choice: alternatives, of which there may be none, stand no deeper than may be where the choice doesn't
fits_choice : (x a depth : ℕ) → (depth + 1 ≤ most_term_depth + 1 → Fits (most_term_depth + 1) x (a + (depth + 1))) → Fits (most_term_depth + 1) (one_if (nat_lt most_term_depth depth) + (0 + x)) (suc a + depth)
fits_choice x a depth h =
    let w : Fits most_term_depth (one_if (nat_lt most_term_depth depth)) depth = deep_weight most_term_depth depth in
    (λ z. omega (arith, (h (omega (arith, w.0 (omega (arith, z))))).0 (omega (arith, z))), λ z. omega (arith, w.1 (omega (arith, z)), (h (omega (arith, z))).1 (omega (arith, z))))

mutual
  term_fits : (depth : ℕ) (x : Expanded) → Fits (most_term_depth + 1) (expanded_figure deep_terms depth x) (term_depth x + depth)
  term_fits depth eps = fits_alone most_term_depth _ depth (deep_weight most_term_depth depth)
  term_fits depth dead = fits_alone most_term_depth _ depth (deep_weight most_term_depth depth)
  term_fits depth (con e) = fits_same (most_term_depth + 1) _ _ _ (omega (arith, shallow 1 e)) (fits_alone most_term_depth _ depth (deep_weight most_term_depth depth))
  term_fits depth (raise z) = fits_alone most_term_depth _ depth (deep_weight most_term_depth depth)
  term_fits depth (seq x y) = fits_term _ _ _ _ depth (term_fits (depth + 1) x) (term_fits (depth + 1) y)
  term_fits depth (loop x) = fits_around most_term_depth _ _ _ depth (deep_weight most_term_depth depth) (term_fits (depth + 1) x)
  term_fits depth (count i b x) = fits_one _ _ depth _ (shallow_bounds b) (term_fits (depth + 1) x)
  term_fits depth (any ps) = fits_choice _ _ depth (parts_fit (depth + 1) ps)
  term_fits depth (pri x y) = fits_term _ _ _ _ depth (term_fits (depth + 1) x) (term_fits (depth + 1) y)
  term_fits depth (par x y) = fits_term _ _ _ _ depth (term_fits (depth + 1) x) (term_fits (depth + 1) y)
  term_fits depth (assert e x) = fits_one _ _ depth _ (shallow 1 e) (term_fits (depth + 1) x)
  term_fits depth (exist i d x) = fits_same (most_term_depth + 1) _ _ _ (omega arith) (fits_one _ _ depth _ (shallow_first d.first) (term_fits (depth + 1) x))
  term_fits depth (catch z x h) = fits_term _ _ _ _ depth (term_fits (depth + 1) x) (term_fits (depth + 1) h)
  term_fits depth (try x h) = fits_term _ _ _ _ depth (term_fits (depth + 1) x) (term_fits (depth + 1) h)

  parts_fit : (depth : ℕ) (ps : Parts) → depth ≤ most_term_depth + 1 → Fits (most_term_depth + 1) (parts_figure deep_terms depth ps) (parts_depth ps + depth)
  parts_fit depth no_part h = (λ z. omega (arith, h), λ z. refl)
  parts_fit depth (part w x ps) h = fits_same (most_term_depth + 1) _ _ _ (omega (arith, shallow 1 w)) (fits_two (most_term_depth + 1) _ _ _ _ depth (term_fits depth x) (parts_fit depth ps h))

-- what fits as a test
fits_test : (most figure deepest : ℕ) → Fits (most + 1) figure (deepest + 1) → nat_eq figure 0 ≡ nat_le deepest most
fits_test most figure deepest h = by (nat_le deepest most) refl
  where
    by : (b : Bool) → nat_le deepest most ≡ b → nat_eq figure 0 ≡ b
    by true is = eq-eqb figure 0 (h.1 (omega (arith, leb-true deepest most is)))
    by false is = ne_eqb figure 0 (λ z. omega (arith, h.0 z, leb-false deepest most is))

terms_are : (node : Node) → nat_eq (node_figure node deep_terms) 0 ≡ nat_le (term_depth node.body) most_term_depth
terms_are node =
    let none : (ds : List Declared) → variables_figure deep_terms ds ≡ 0 = λ ds. variables_are deep_terms ds ∙ sum_none (expression_figure deep_terms 1) (flat_map in_first ds) (shallow 1) in
    let no_calls : calls_figure deep_terms node.calls ≡ 0 = calls_are deep_terms node.calls ∙ sum_none (expression_figure deep_terms 1) (arguments_in node) (shallow 1) in
    ap (λ n. nat_eq n 0) (omega (arith, none node.inputs, none node.outputs, no_calls)) ∙ fits_test most_term_depth (expanded_figure deep_terms 1 node.body) (term_depth node.body) (term_fits 1 node.body)

expressions_are : (node : Node) → nat_eq (node_figure node deep_expressions) 0 ≡ list_all (λ e. nat_le (expression_depth e) most_expression_depth) (expressions_in node)
expressions_are node =
    let figure : node_figure node deep_expressions ≡ expressions deep_expressions (expressions_in node) =
    omega (arith, node_is deep_expressions node (λ depth. refl), sum_none (plain deep_expressions) (items node.body) plain_none) in
    ap (λ n. nat_eq n 0) figure
    ∙ sum_by-zero (expression_figure deep_expressions 1) (expressions_in node)
    ∙ (λ j. list_all (λ e. fits_test most_expression_depth (expression_figure deep_expressions 1 e) (expression_depth e) (expression_fits 1 e) j) (expressions_in node))
  where
    plain_none : (i : Item) → plain deep_expressions i ≡ 0
    plain_none (weight w) = refl
    plain_none (term (exist i d x)) = refl
    plain_none (term other) = refl

-- THE FIRST LIMIT

first_of : (a b c d : Bool) → slice_get (unless a Nodes ++ (unless b Depth ++ (unless c Children ++ unless d Variables))) 0 ≡ (if a then (if b then (if c then (if d then None else Some Variables) else Some Children) else Some Depth) else Some Nodes)
first_of false b c d = refl
first_of true false c d = refl
first_of true true false d = refl
first_of true true true false = refl
first_of true true true true = refl

-- the limits that a node is past are judged by its figures
pub first_passed : (node : Node) → limit_by (node_figure node) (length (all_inputs node)) (length node.outputs) ≡ slice_get (passed_limits node) 0
first_passed node =
    let deep : (nat_eq (node_figure node deep_terms) 0 && nat_eq (node_figure node deep_expressions) 0) ≡ (nat_le (term_depth node.body) most_term_depth && list_all (λ e. nat_le (expression_depth e) most_expression_depth) (expressions_in node)) =
    λ i. terms_are node i && expressions_are node i in
    let shape = λ (n l : ℕ) (a b : Bool). if nat_le n most_nodes then (if a then (if b then (if nat_le (length (all_inputs node)) most_variables && nat_le (length node.outputs + l) most_variables then None else Some Variables) else Some Children) else Some Depth) else Some Nodes in
    (λ i. shape (nodes_are node i) (locals_are node i) (deep i) (choices_are node i))
    ∙ sym (first_of (nat_le (node_count node) most_nodes) (nat_le (term_depth node.body) most_term_depth && list_all (λ e. nat_le (expression_depth e) most_expression_depth) (expressions_in node)) (list_all (λ i. nat_le (alternatives_at i) most_alternatives) (items node.body)) (nat_le (length (all_inputs node)) most_variables && nat_le (drawn_count node) most_variables))
