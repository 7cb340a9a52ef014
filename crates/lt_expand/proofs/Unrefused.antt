-- Of a node of which nothing is refused, the term passes the tests that its expressions, weights and sizes are put to.
use Rattle.std.proofs.Common.{◌≡◌, ℕ, ◌≤◌, Bool, true, not, nat_le, List, [], ◌∷◌, ◌++◌, map, refl, sym, ap, ◌∙◌, arith}
use Rattle.std.specs.List.{flat_map, list_all}
use Rattle.std.proofs.lemmas.List.Folds.{list_all-append, list_all-map}
use Rattle.std.proofs.lemmas.List.Sums.{sum_by-append}
use Rattle.lt_formula.specs.Expression.{Expression}
use Rattle.lt_macros.specs.Expanded.{Exception, Node}
use Rattle.lt_macros.specs.Nodes as tree
use Rattle.lt_macros.specs.Nodes.{expression_nodes, term_count}
use Rattle.lt_macros.specs.Placed.{Placed, bare, place_of}
use Rattle.lt_macros.specs.Preorder.{arguments_in, expressions_at, expressions_in, in_first, items, weight_at, with_parts}
use Rattle.lt_macros.specs.Failing.{unless}
use Rattle.lt_term.proofs.Public.{both, left_of, right_of}
use Rattle.lt_term.specs.Classes as term
use Rattle.lt_term.specs.Depth.{term_depth}
use Rattle.lt_term.specs.Limits.{most_expression_depth, most_nodes, most_term_depth}
use Rattle.lt_term.specs.Named as named
use Rattle.lt_term.specs.Valid.{has_known_conditions, has_known_weights, is_linear_throughout, is_shallow, node_count}
use Rattle.lt_expand.specs.Classes.{controllable_arguments, controllable_conditions, controllable_weights, failing, has_known_condition, is_controllable, is_linear_node, kinds_of, not_linear}
use Rattle.lt_expand.specs.Scenes.{process_of}
use Rattle.lt_expand.specs.Static.{bad_statics}
use Rattle.lt_expand.specs.declared.refusal.ExpandRefusal.TheVariants.{BadStatic, ControllableArgument, ControllableCondition, ControllableWeight, NonLinear}
use Rattle.lt_expand.specs.inner.Places.{judged_refusals}
use Rattle.lt_expand.proofs.Measures.{bare_depth, bare_parts, term_deep, term_light, term_nodes, term_passes}
use Rattle.lt_expand.proofs.Prepared.{IsLimited, map_none}
use Rattle.lt_expand.proofs.Turning.{left_none, right_none, unless_none}

-- WHAT ISN'T REFUSED

-- those of which none fails pass
all_pass : (test : Placed → Bool) (es : List Placed) → failing test es ≡ [] → list_all test es ≡ true
all_pass test [] h = refl
all_pass test (e ∷ es) h =
    let here = unless (test e) (place_of e) in
    both (test e) (list_all test es) (unless_none (test e) (place_of e) (left_none here (failing test es) h)) (all_pass test es (right_none here (failing test es) h))

rest_unrefused : (n : ℕ) (node : Node) → judged_refusals n node ≡ []
    → map NonLinear (not_linear node) ++ (map ControllableCondition (controllable_conditions node) ++ (map ControllableWeight (controllable_weights node) ++ map ControllableArgument (controllable_arguments node))) ≡ []
rest_unrefused n node h = right_none (map BadStatic (bad_statics n node)) _ h

linear_unrefused : (n : ℕ) (node : Node) → judged_refusals n node ≡ [] → not_linear node ≡ []
linear_unrefused n node h = map_none NonLinear (not_linear node) (left_none (map NonLinear (not_linear node)) _ (rest_unrefused n node h))

last_unrefused : (n : ℕ) (node : Node) → judged_refusals n node ≡ []
    → map ControllableCondition (controllable_conditions node) ++ (map ControllableWeight (controllable_weights node) ++ map ControllableArgument (controllable_arguments node)) ≡ []
last_unrefused n node h = right_none (map NonLinear (not_linear node)) _ (rest_unrefused n node h)

conditions_unrefused : (n : ℕ) (node : Node) → judged_refusals n node ≡ [] → controllable_conditions node ≡ []
conditions_unrefused n node h = map_none ControllableCondition (controllable_conditions node) (left_none (map ControllableCondition (controllable_conditions node)) _ (last_unrefused n node h))

weights_unrefused : (n : ℕ) (node : Node) → judged_refusals n node ≡ [] → controllable_weights node ≡ []
weights_unrefused n node h =
    map_none ControllableWeight (controllable_weights node)
    (left_none (map ControllableWeight (controllable_weights node)) _ (right_none (map ControllableCondition (controllable_conditions node)) _ (last_unrefused n node h)))

-- EXPRESSIONS OF THE BODY

-- whether all parts of an expression pass a test
abbrev throughout : (Placed → Bool) → Placed → Bool
throughout test e = list_all test (with_parts e)

each_throughout : (test : Placed → Bool) (es : List Placed) → list_all test (flat_map with_parts es) ≡ true → list_all (throughout test) es ≡ true
each_throughout test [] h = refl
each_throughout test (e ∷ es) h =
    let split = sym (list_all-append test (with_parts e) (flat_map with_parts es)) ∙ h in
    both _ _ (left_of (throughout test e) (list_all test (flat_map with_parts es)) split) (each_throughout test es (right_of (throughout test e) (list_all test (flat_map with_parts es)) split))

later : (test : Placed → Bool) (es ds : List Placed) → list_all test (es ++ ds) ≡ true → list_all test ds ≡ true
later test es ds h = right_of (list_all test es) (list_all test ds) (sym (list_all-append test es ds) ∙ h)

-- what all expressions of a node pass, those of its body do
in_body : (test : Placed → Bool) (node : Node) → list_all test (expressions_in node) ≡ true → list_all test (flat_map expressions_at (items node.body)) ≡ true
in_body test node h =
    let outputs = flat_map in_first node.outputs in
    let body = flat_map expressions_at (items node.body) in
    let arguments = arguments_in node in
    later test arguments body (later test outputs (arguments ++ body) (later test (flat_map in_first node.inputs) (outputs ++ (arguments ++ body)) h))

-- a test of all parts of an expression, without places
bare_throughout : (test : Expression → Bool) (d : Placed) → throughout (λ e. test (bare e)) d ≡ true → list_all test (named.with_parts (bare d)) ≡ true
bare_throughout test d h = sym (ap (list_all test) (bare_parts d)) ∙ list_all-map test bare (with_parts d) ∙ h

-- the expressions of a body are linear
pub body_linear : (n : ℕ) (node : Node) (zs : List Exception) → judged_refusals n node ≡ [] → list_all (is_linear_throughout (kinds_of node)) (named.expressions_in (process_of zs node.body)) ≡ true
body_linear n node zs h =
    let test = is_linear_node (kinds_of node) in
    term_passes zs (throughout test) (is_linear_throughout (kinds_of node)) (bare_throughout (term.is_linear_node (kinds_of node))) node.body
    (in_body (throughout test) node (each_throughout test (expressions_in node) (all_pass test (flat_map with_parts (expressions_in node)) (linear_unrefused n node h))))

-- and none of them chooses between numbers by what is drawn
pub body_conditions : (n : ℕ) (node : Node) (zs : List Exception) → judged_refusals n node ≡ [] → list_all (has_known_conditions (kinds_of node)) (named.expressions_in (process_of zs node.body)) ≡ true
body_conditions n node zs h =
    let test = has_known_condition (kinds_of node) in
    term_passes zs (throughout test) (has_known_conditions (kinds_of node)) (bare_throughout (term.has_known_condition (kinds_of node))) node.body
    (in_body (throughout test) node (each_throughout test (expressions_in node) (all_pass test (flat_map with_parts (expressions_in node)) (conditions_unrefused n node h))))

-- its weights are known
pub body_weights : (n : ℕ) (node : Node) (zs : List Exception) → judged_refusals n node ≡ [] → has_known_weights (kinds_of node) (process_of zs node.body) ≡ true
body_weights n node zs h =
    let test : Placed → Bool = λ w. not (is_controllable (kinds_of node) w) in
    term_light zs test (λ w. not (term.is_controllable (kinds_of node) w)) (λ d g. g) node.body (all_pass test (flat_map weight_at (items node.body)) (weights_unrefused n node h))

-- SIZES

-- no expression of a body is deeper than one may be
pub body_shallow : (node : Node) (zs : List Exception) → IsLimited node → list_all is_shallow (named.expressions_in (process_of zs node.body)) ≡ true
body_shallow node zs few =
    let test : Placed → Bool = λ e. nat_le (tree.expression_depth e) most_expression_depth in
    term_passes zs test is_shallow (λ d h. ap (λ k. nat_le k most_expression_depth) (bare_depth d) ∙ h) node.body (in_body test node few.shallow)

-- nor is the body
pub body_flat : (node : Node) (zs : List Exception) → IsLimited node → term_depth (process_of zs node.body) ≤ most_term_depth
body_flat node zs few = let deep = term_deep zs node.body in let l : tree.term_depth node.body ≤ most_term_depth = few.flat in omega (arith, deep, l)

-- it has no more nodes than there may be
pub body_few : (node : Node) (zs : List Exception) → IsLimited node → node_count (process_of zs node.body) ≤ most_nodes
body_few node zs few =
    let inputs = flat_map in_first node.inputs in
    let outputs = flat_map in_first node.outputs in
    let body = flat_map expressions_at (items node.body) in
    let arguments = arguments_in node in
    let a = sum_by-append expression_nodes inputs (outputs ++ (arguments ++ body)) in
    let b = sum_by-append expression_nodes outputs (arguments ++ body) in
    let c = sum_by-append expression_nodes arguments body in
    let l : tree.node_count node ≤ most_nodes = few.nodes in
    let m = term_nodes zs node.body in
    omega (arith, a, b, c, l, m)
