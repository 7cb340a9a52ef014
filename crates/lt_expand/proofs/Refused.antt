-- What is refused first, by what is refused first of each part.
use Rattle.std.proofs.Common.{◌≡◌, ℕ, ◌+◌, ◌<◌, Bool, true, false, not, List, [], ◌∷◌, ◌++◌, Option, Some, None, Err, option_map, map, take, length, get_or, ◌≤◌, refl, ap, sym, ◌∙◌, zero, suc, arith}
use Rattle.std.specs.Option.{option_or}
use Rattle.std.specs.List.{flat_map}
use Rattle.std.proofs.lemmas.Grind.{flat_map-append}
use Rattle.std.proofs.lemmas.List.{append-nil, take_all, take_more}
use Rattle.lt_ast.specs.declared.span.Span.{Span}
use Rattle.lt_num.specs.declared.kind.Kind.{Kind}
use Rattle.lt_num.specs.declared.value.Value.{Value}
use Rattle.lt_formula.specs.Facts.{is_known_role}
use Rattle.lt_formula.specs.Kinds.{Kinds, kind_of_variable}
use Rattle.lt_formula.specs.declared.role.Role.{Role}
use Rattle.lt_formula.specs.declared.operator.UnaryOperator.{UnaryOperator}
use Rattle.lt_formula.specs.declared.operator.BinaryOperator.{BinaryOperator}
use Rattle.lt_macros.specs.Placed.{Placed, place_of, constant, variable, previous, unary, binary, choice}
use Rattle.lt_macros.specs.Expanded.{Declared, Call, Node, given_inputs}
use Rattle.lt_macros.specs.Failing.{unless}
use Rattle.lt_macros.specs.Preorder.{Item, arguments_in, expressions_at, in_first, items, weight_at, with_parts}
use Rattle.lt_expand.specs.Static.{bad_at, bad_first, bad_statics}
use Rattle.lt_expand.specs.Classes.{controllable_arguments, controllable_conditions, controllable_weights, failing, has_known_condition, is_controllable, is_linear_node, kinds_of, not_linear}
use Rattle.lt_expand.specs.inner.Firsts.{first}
use Rattle.lt_expand.specs.inner.Items.{item, items_view}
use Rattle.lt_expand.specs.inner.Judged.{binary_judged, choice_judged, judged, unary_judged, unrefused}
use Rattle.lt_expand.specs.inner.Places.{IsFirst, call_places, declared_places, item_places, judged_refusals, no_places, node_places, or_places, places_of, refusal_of}
use Rattle.lt_macros.specs.Tree.{call, declared, expanded, node, placed}
use Rattle.lt_expand.specs.declared.classes.Judged.{Judged}
use Rattle.lt_expand.specs.declared.items.Item as code
use Rattle.lt_expand.specs.declared.places.FirstPlaces.{FirstPlaces}
use Rattle.lt_expand.specs.declared.refusal.ExpandRefusal.{ExpandRefusal}
use Rattle.lt_expand.specs.declared.refusal.ExpandRefusal.TheVariants.{UnknownNode, TooLarge, BadStatic, NonLinear, ControllableArgument, ControllableCondition, ControllableWeight, TooManyRuns, Memory}
use Rattle.lt_macros.specs.declared.tree.Call as run
use Rattle.lt_macros.specs.declared.tree.Declared as written
use Rattle.lt_macros.specs.declared.tree.Placed as written_placed
use Rattle.lt_macros.specs.declared.tree.Node as written_node
use Rattle.lt_expand.proofs.Preorders.{taken}
use Rattle.lt_expand.proofs.Turning.{left_none, right_none}
use Rattle.lt_expand.proofs.Firsts.{first-append, first-map, first_failing, first_failing_choice, first_failing_node, first_failing_parts, first_none}

-- EXPRESSIONS

pub judged_constant : (ks : Kinds) (k : Kind) (v : Value) (at : Span) → judged ks (constant k v at) ≡ unrefused (record { kind = k; is_known = true; is_static = true })
unfolding judged unrefused
judged_constant ks k v at = refl

pub judged_variable : (ks : Kinds) (r : Role) (i : ℕ) (at : Span) → judged ks (variable r i at) ≡ unrefused (record { kind = kind_of_variable ks r i; is_known = is_known_role r; is_static = false })
unfolding judged unrefused
judged_variable ks r i at = refl

pub judged_previous : (ks : Kinds) (r : Role) (i : ℕ) (at : Span) → judged ks (previous r i at) ≡ unrefused (record { kind = kind_of_variable ks r i; is_known = true; is_static = false })
unfolding judged unrefused
judged_previous ks r i at = refl

pub judged_unary : (ks : Kinds) (op : UnaryOperator) (e : Placed) (at : Span) → judged ks (unary op e at) ≡ unary_judged op (judged ks e)
unfolding judged unary_judged
judged_unary ks op e at = refl

pub judged_binary : (ks : Kinds) (op : BinaryOperator) (d e : Placed) (at : Span) → judged ks (binary op d e at) ≡ binary_judged op (judged ks d) (judged ks e) at
unfolding judged binary_judged
judged_binary ks op d e at =
    let linear = first_failing_node (is_linear_node ks) (binary op d e at) (with_parts d) (with_parts e) in
    let known = first_failing_node (has_known_condition ks) (binary op d e at) (with_parts d) (with_parts e) in
    λ i. record { facts = (judged ks (binary op d e at)).facts; not_linear = linear i; condition = known i }

pub judged_choice : (ks : Kinds) (c d e : Placed) (at : Span) → judged ks (choice c d e at) ≡ choice_judged (judged ks c) (judged ks d) (judged ks e) at
unfolding judged choice_judged
judged_choice ks c d e at =
    let linear = first_failing_choice (is_linear_node ks) (choice c d e at) (with_parts c) (with_parts d) (with_parts e) in
    let known = first_failing_choice (has_known_condition ks) (choice c d e at) (with_parts c) (with_parts d) (with_parts e) in
    λ i. record { facts = (judged ks (choice c d e at)).facts; not_linear = linear i; condition = known i }

pub ruleset judges = (judged_constant, judged_variable, judged_previous, judged_unary, judged_binary, judged_choice)

-- PLACES

-- of two lists one behind the other
pub places_append : (ks : Kinds) (a b : List Span) (c d e f : List Placed) → places_of ks (a ++ b) (c ++ d) (e ++ f) ≡ or_places (places_of ks a c e) (places_of ks b d f)
unfolding places_of or_places
places_append ks a b c d e f =
    let bad = first-append a b in
    let linear = first_failing_parts (is_linear_node ks) c d in
    let known = first_failing_parts (has_known_condition ks) c d in
    let light = first_failing (λ w. not (is_controllable ks w)) e f in
    λ i. record { bad_static = bad i; not_linear = linear i; condition = known i; weight = light i }

-- of two expressions
pub both_found : (ks : Kinds) (d e : Placed) (p q r : FirstPlaces) → p ≡ places_of ks [] (d ∷ []) [] → q ≡ places_of ks [] (e ∷ []) [] → r ≡ or_places p q → r ≡ places_of ks [] (d ∷ e ∷ []) []
both_found ks d e p q r h k is = is ∙ (λ i. or_places (h i) (k i)) ∙ sym (places_append ks [] [] (d ∷ []) (e ∷ []) [] [])

-- of one variable more
declared_more : (n : ℕ) (ks : Kinds) (ds : List Declared) (d : Declared) → declared_places n ks (ds ++ d ∷ []) ≡ or_places (declared_places n ks ds) (declared_places n ks (d ∷ []))
unfolding declared_places
declared_more n ks ds d =
    (λ i. places_of ks (flat_map-append (bad_first n) ds (d ∷ []) i) (flat_map-append in_first ds (d ∷ []) i) [])
    ∙ places_append ks (flat_map (bad_first n) ds) (flat_map (bad_first n) (d ∷ [])) (flat_map in_first ds) (flat_map in_first (d ∷ [])) [] []

-- of one part of a trace more
item_more : (n : ℕ) (ks : Kinds) (is : List Item) (x : Item) → item_places n ks (is ++ x ∷ []) ≡ or_places (item_places n ks is) (item_places n ks (x ∷ []))
unfolding item_places
item_more n ks is x =
    (λ i. places_of ks (flat_map-append (bad_at n) is (x ∷ []) i) (flat_map-append expressions_at is (x ∷ []) i) (flat_map-append weight_at is (x ∷ []) i))
    ∙ places_append ks (flat_map (bad_at n) is) (flat_map (bad_at n) (x ∷ [])) (flat_map expressions_at is) (flat_map expressions_at (x ∷ [])) (flat_map weight_at is) (flat_map weight_at (x ∷ []))

-- the code's lists, one more at a time

pub declared_step : (n : ℕ) (ks : Kinds) (ds : List written.Declared) (i : ℕ) (d : written.Declared) (p : FirstPlaces) → i < length ds → d ≡ get_or ds i d
    → p ≡ declared_places n ks (map declared (take i ds)) → or_places p (declared_places n ks (declared d ∷ [])) ≡ declared_places n ks (map declared (take (i + 1) ds))
declared_step n ks ds i d p h is e =
    ap (λ q. or_places q (declared_places n ks (declared d ∷ []))) e
    ∙ sym (ap (declared_places n ks) (taken declared ds i d h is) ∙ declared_more n ks (map declared (take i ds)) (declared d))

pub item_step : (n : ℕ) (ks : Kinds) (xs : List code.Item) (i : ℕ) (x : code.Item) (p : FirstPlaces) → i < length xs → x ≡ get_or xs i x
    → p ≡ item_places n ks (items_view (take i xs)) → or_places p (item_places n ks (item x ∷ [])) ≡ item_places n ks (items_view (take (i + 1) xs))
item_step n ks xs i x p h is e =
    ap (λ q. or_places q (item_places n ks (item x ∷ []))) e
    ∙ sym (ap (item_places n ks) (taken item xs i x h is) ∙ item_more n ks (items_view (take i xs)) (item x))

-- where there is nothing
pub declared_start : (n : ℕ) (ks : Kinds) → no_places ≡ declared_places n ks []
unfolding declared_places places_of
declared_start n ks = refl

pub item_start : (n : ℕ) (ks : Kinds) → no_places ≡ item_places n ks []
unfolding item_places places_of
item_start n ks = refl

-- of runs, one more name or argument at a time
call_more : (n : ℕ) (ks : Kinds) (ds gs : List Declared) (es fs : List Placed) → call_places n ks (ds ++ gs) (es ++ fs) ≡ or_places (call_places n ks ds es) (call_places n ks gs fs)
unfolding call_places
call_more n ks ds gs es fs =
    (λ i. places_of ks (flat_map-append (bad_first n) ds gs i) (es ++ fs) []) ∙ places_append ks (flat_map (bad_first n) ds) (flat_map (bad_first n) gs) es fs [] []

pub call_start : (n : ℕ) (ks : Kinds) → no_places ≡ call_places n ks [] []
unfolding call_places places_of
call_start n ks = refl

pub given_step : (n : ℕ) (ks : Kinds) (ds : List written.Declared) (i : ℕ) (d : written.Declared) (p : FirstPlaces) → i < length ds → d ≡ get_or ds i d
    → p ≡ call_places n ks (map declared (take i ds)) [] → or_places p (call_places n ks (declared d ∷ []) []) ≡ call_places n ks (map declared (take (i + 1) ds)) []
given_step n ks ds i d p h is e =
    ap (λ q. or_places q (call_places n ks (declared d ∷ []) [])) e
    ∙ sym (ap (λ gs. call_places n ks gs []) (taken declared ds i d h is) ∙ call_more n ks (map declared (take i ds)) (declared d ∷ []) [] [])

-- the argument of a run alone
argument_alone : (n : ℕ) (ks : Kinds) (e : Placed) → places_of ks [] (e ∷ []) [] ≡ call_places n ks [] (e ∷ [])
unfolding call_places places_of
argument_alone n ks e = refl

pub argument_step : (n : ℕ) (ks : Kinds) (gs : List Declared) (es : List written_placed.Placed) (i : ℕ) (e : written_placed.Placed) (p : FirstPlaces) → i < length es → e ≡ get_or es i e
    → p ≡ call_places n ks gs (map placed (take i es)) → or_places p (places_of ks [] (placed e ∷ []) []) ≡ call_places n ks gs (map placed (take (i + 1) es))
argument_step n ks gs es i e p h is f =
    (λ j. or_places (f j) (argument_alone n ks (placed e) j))
    ∙ sym (call_more n ks gs [] (map placed (take i es)) (placed e ∷ []))
    ∙ (λ j. call_places n ks (append-nil gs j) (sym (taken placed es i e h is) j))

pub call_step : (n : ℕ) (ks : Kinds) (cs : List run.Call) (i : ℕ) (c : run.Call) (p : FirstPlaces) → i < length cs → c ≡ get_or cs i c
    → p ≡ call_places n ks (flat_map (λ x. x.names) (map call (take i cs))) (flat_map (λ x. x.arguments) (map call (take i cs)))
    → or_places p (call_places n ks (call c).names (call c).arguments) ≡ call_places n ks (flat_map (λ x. x.names) (map call (take (i + 1) cs))) (flat_map (λ x. x.arguments) (map call (take (i + 1) cs)))
call_step n ks cs i c p h is e =
    let names : Call → List Declared = λ x. x.names in
    let arguments : Call → List Placed = λ x. x.arguments in
    let old = map call (take i cs) in
    let more_names : flat_map names old ++ (call c).names ≡ flat_map names (map call (take (i + 1) cs)) =
    sym (ap (flat_map names) (taken call cs i c h is) ∙ flat_map-append names old (call c ∷ []) ∙ ap (λ ys. flat_map names old ++ ys) (append-nil (call c).names)) in
    let more_arguments : flat_map arguments old ++ (call c).arguments ≡ flat_map arguments (map call (take (i + 1) cs)) =
    sym (ap (flat_map arguments) (taken call cs i c h is) ∙ flat_map-append arguments old (call c ∷ []) ∙ ap (λ ys. flat_map arguments old ++ ys) (append-nil (call c).arguments)) in
    ap (λ q. or_places q (call_places n ks (call c).names (call c).arguments)) e
    ∙ sym (call_more n ks (flat_map names old) (call c).names (flat_map arguments old) (call c).arguments)
    ∙ (λ j. call_places n ks (more_names j) (more_arguments j))

-- the first value of an input that a run gives
pub given_found : (n : ℕ) (ks : Kinds) (d : Declared) (bad : Option Span) (p : FirstPlaces) → bad ≡ first (bad_first n d) → p ≡ no_places → record p { bad_static = bad } ≡ call_places n ks (d ∷ []) []
unfolding call_places places_of
given_found n ks d bad p h is = λ i. record (is i) { bad_static = (h ∙ ap first (sym (append-nil (bad_first n d)))) i }

pub ruleset places = (declared_step, item_step, declared_start, item_start, call_start, given_step, argument_step, call_step)

-- of a node
pub node_found : (n : ℕ) (node : Node) (ks : Kinds) (is : List Item) → ks ≡ kinds_of node → is ≡ items node.body
    → or_places (declared_places n ks node.inputs) (or_places (declared_places n ks node.outputs) (or_places (call_places n ks (given_inputs node) (arguments_in node)) (item_places n ks is))) ≡ node_places n node
unfolding declared_places call_places item_places node_places
node_found n node ks is kinds all =
    let bad = flat_map (bad_at n) in
    let seen = flat_map expressions_at in
    let weights = flat_map weight_at in
    let firsts = flat_map (bad_first n) in
    let values = flat_map in_first in
    let arguments = arguments_in node in
    ap (λ p. or_places (places_of ks (firsts node.inputs) (values node.inputs) []) (or_places (places_of ks (firsts node.outputs) (values node.outputs) []) p)) (sym (places_append ks (firsts (given_inputs node)) (bad is) arguments (seen is) [] (weights is)))
    ∙ ap (or_places (places_of ks (firsts node.inputs) (values node.inputs) [])) (sym (places_append ks (firsts node.outputs) (firsts (given_inputs node) ++ bad is) (values node.outputs) (arguments ++ seen is) [] (weights is)))
    ∙ sym (places_append ks (firsts node.inputs) (firsts node.outputs ++ (firsts (given_inputs node) ++ bad is)) (values node.inputs) (values node.outputs ++ (arguments ++ seen is)) [] (weights is))
    ∙ (λ i. places_of (kinds i) (firsts node.inputs ++ (firsts node.outputs ++ (firsts (given_inputs node) ++ bad (all i)))) (values node.inputs ++ (values node.outputs ++ (arguments ++ seen (all i)))) (weights (all i)))

-- as the code has it
pub node_seen : (n : ℕ) (from : written_node.Node) (ks : Kinds) (is : List Item) (ins outs : List written.Declared) (cs : List run.Call) (a b k c s q r : FirstPlaces)
    → ins ≡ from.inputs.items → outs ≡ from.outputs.items → cs ≡ from.calls.items
    → a ≡ declared_places n ks (map declared ins) → b ≡ declared_places n ks (map declared outs) → k ≡ call_places n ks (flat_map (λ x. x.names) (map call cs)) (flat_map (λ x. x.arguments) (map call cs))
    → c ≡ item_places n ks is → s ≡ or_places k c → q ≡ or_places b s → r ≡ or_places a q
    → ks ≡ kinds_of (node from) → is ≡ items (expanded from.body) → r ≡ node_places n (node from)
node_seen n from ks is ins outs cs a b k c s q r i o l ha hb hk hc hs hq hr kinds all =
    hr
    ∙ (λ j. or_places (ha j) ((hq ∙ (λ m. or_places (hb m) ((hs ∙ (λ p. or_places (hk p) (hc p))) m))) j))
    ∙ (λ j. or_places (declared_places n ks (map declared (i j))) (or_places (declared_places n ks (map declared (o j)))
    (or_places (call_places n ks (flat_map (λ (x : Call). x.names) (map call (l j))) (flat_map (λ (x : Call). x.arguments) (map call (l j)))) (item_places n ks is))))
    ∙ node_found n (node from) ks is kinds all

-- of an expression
pub expression_found : (ks : Kinds) (e : Placed) (j : Judged) → j ≡ judged ks e → record { bad_static = None; not_linear = j.not_linear; condition = j.condition; weight = None } ≡ places_of ks [] (e ∷ []) []
unfolding judged places_of
expression_found ks e j h =
    let alone = append-nil (with_parts e) in
    λ i. record {
      bad_static = None;
      not_linear = (ap (λ (k : Judged). k.not_linear) h ∙ ap (λ xs. first (failing (is_linear_node ks) xs)) (sym alone)) i;
      condition = (ap (λ (k : Judged). k.condition) h ∙ ap (λ xs. first (failing (has_known_condition ks) xs)) (sym alone)) i;
      weight = None;
    }

not_twice : (b : Bool) (at : Span) → first (unless b at) ≡ first (unless (not (not b)) at ++ [])
not_twice true at = refl
not_twice false at = refl

-- of a weight
pub weight_found : (ks : Kinds) (e : Placed) (j : Judged) (p : Option Span) → j ≡ judged ks e → p ≡ first (unless j.facts.is_known (place_of e))
    → record { bad_static = None; not_linear = j.not_linear; condition = j.condition; weight = p } ≡ places_of ks [] (e ∷ []) (e ∷ [])
unfolding judged places_of
weight_found ks e j p h is =
    let alone = append-nil (with_parts e) in
    λ i. record {
      bad_static = None;
      not_linear = (ap (λ (k : Judged). k.not_linear) h ∙ ap (λ xs. first (failing (is_linear_node ks) xs)) (sym alone)) i;
      condition = (ap (λ (k : Judged). k.condition) h ∙ ap (λ xs. first (failing (has_known_condition ks) xs)) (sym alone)) i;
      weight = (is ∙ ap (λ (k : Judged). first (unless k.facts.is_known (place_of e))) h ∙ not_twice (judged ks e).facts.is_known (place_of e)) i;
    }

-- of the first value of a variable
pub first_value_found : (n : ℕ) (ks : Kinds) (d : Declared) (bad : Option Span) (p : FirstPlaces) → bad ≡ first (bad_first n d) → p ≡ places_of ks [] (in_first d) []
    → record p { bad_static = bad } ≡ declared_places n ks (d ∷ [])
unfolding places_of declared_places
first_value_found n ks d bad p is h =
    (λ i. record (h i) { bad_static = is i })
    ∙ sym (λ i. places_of ks (append-nil (bad_first n d) i) (append-nil (in_first d) i) [])

-- ARGUMENTS

-- what is found of one, where nothing is of those before it, is found first of all
pub found_at : {X Y : Type 0} (g : X → List Y) (xs : List X) (i : ℕ) (x : X) (y : Y) → i < length xs → x ≡ get_or xs i x → first (flat_map g (take i xs)) ≡ None → first (g x) ≡ Some y
    → first (flat_map g xs) ≡ Some y
found_at g [] i x y l is h e = absurd (omega (arith, l))
found_at g (z ∷ zs) zero x y l is h e = first-append (g z) (flat_map g zs) ∙ ap (λ o. option_or o (first (flat_map g zs))) (ap (λ w. first (g w)) (sym is) ∙ e)
found_at g (z ∷ zs) (suc i) x y l is h e =
    let none = first_none (g z ++ flat_map g (take i zs)) h in
    first-append (g z) (flat_map g zs)
    ∙ ap (λ o. option_or o (first (flat_map g zs))) (ap first (left_none (g z) (flat_map g (take i zs)) none))
    ∙ found_at g zs i x y (omega (arith, l)) is (ap first (right_none (g z) (flat_map g (take i zs)) none)) e

-- and where nothing is found of it either, nothing is of one more
pub none_at : {X Y : Type 0} (g : X → List Y) (xs : List X) (i : ℕ) (x : X) → i < length xs → x ≡ get_or xs i x → first (flat_map g (take i xs)) ≡ None → first (g x) ≡ None
    → first (flat_map g (take (i + 1) xs)) ≡ None
none_at g xs i x l is h e =
    ap (λ ys. first (flat_map g ys)) (take_more xs i x l ∙ ap (λ y. take i xs ++ y ∷ []) (sym is))
    ∙ ap first (flat_map-append g (take i xs) (x ∷ []))
    ∙ first-append (flat_map g (take i xs)) (g x ++ [])
    ∙ (λ j. option_or (h j) (first (append-nil (g x) j)))
    ∙ e

-- the arguments of one run that depend on what is drawn
abbrev pub drawn_in : Kinds → run.Call → List Span
drawn_in ks c = failing (λ e. not (is_controllable ks e)) (map placed c.arguments.items)

abbrev pub drawn_at : Kinds → written_placed.Placed → List Span
drawn_at ks e = unless (not (is_controllable ks (placed e))) (place_of (placed e))

pub drawn_each : (ks : Kinds) (es : List written_placed.Placed) → failing (λ e. not (is_controllable ks e)) (map placed es) ≡ flat_map (drawn_at ks) es
drawn_each ks [] = refl
drawn_each ks (e ∷ es) = ap (λ xs. drawn_at ks e ++ xs) (drawn_each ks es)

pub drawn_runs : (ks : Kinds) (cs : List run.Call) → failing (λ e. not (is_controllable ks e)) (flat_map (λ x. x.arguments) (map call cs)) ≡ flat_map (drawn_in ks) cs
drawn_runs ks [] = refl
drawn_runs ks (c ∷ cs) =
    let test : Placed → Bool = λ e. not (is_controllable ks e) in
    flat_map-append (λ e. unless (test e) (place_of e)) (map placed c.arguments.items) (flat_map (λ (x : Call). x.arguments) (map call cs))
    ∙ ap (λ xs. drawn_in ks c ++ xs) (drawn_runs ks cs)

drawn_by : (b : Bool) (at : Span) → b ≡ false → first (unless (not (not b)) at) ≡ Some at
drawn_by true at h = absurd (cc)
drawn_by false at h = refl

known_by : (b : Bool) (at : Span) → b ≡ true → first (unless (not (not b)) at) ≡ None
known_by true at h = refl
known_by false at h = absurd (cc)

pub drawn_one : (ks : Kinds) (e : written_placed.Placed) (j : Judged) (at : Span) → j ≡ judged ks (placed e) → j.facts.is_known ≡ false → at ≡ place_of (placed e) → first (drawn_at ks e) ≡ Some at
unfolding judged
drawn_one ks e j at h k is = drawn_by (judged ks (placed e)).facts.is_known (place_of (placed e)) (sym (ap (λ (j : Judged). j.facts.is_known) h) ∙ k) ∙ ap Some (sym is)

pub known_one : (ks : Kinds) (e : written_placed.Placed) (j : Judged) → j ≡ judged ks (placed e) → j.facts.is_known ≡ true → first (drawn_at ks e) ≡ None
unfolding judged
known_one ks e j h k = known_by (judged ks (placed e)).facts.is_known (place_of (placed e)) (sym (ap (λ (j : Judged). j.facts.is_known) h) ∙ k)

-- where all of them are seen
pub none_of_all : {X Y : Type 0} (g : X → List Y) (xs : List X) (i : ℕ) → length xs ≤ i → first (flat_map g (take i xs)) ≡ None → first (flat_map g xs) ≡ None
none_of_all g xs i l h = ap (λ ys. first (flat_map g ys)) (sym (take_all i xs l)) ∙ h

-- the first argument of a node's runs, as the code looks for it
arguments_seen : (from : written_node.Node) (ks : Kinds) (cs : List run.Call) → ks ≡ kinds_of (node from) → cs ≡ from.calls.items → first (controllable_arguments (node from)) ≡ first (flat_map (drawn_in ks) cs)
arguments_seen from ks cs kinds all =
    sym (λ i. first (failing (λ e. not (is_controllable (kinds i) e)) (flat_map (λ (x : Call). x.arguments) (map call (all i))))) ∙ ap first (drawn_runs ks cs)

pub argument_found : (from : written_node.Node) (ks : Kinds) (cs : List run.Call) (i : ℕ) (c : run.Call) (es : List written_placed.Placed) (at : Span) → ks ≡ kinds_of (node from) → cs ≡ from.calls.items
    → i < length cs → c ≡ get_or cs i c → first (flat_map (drawn_in ks) (take i cs)) ≡ None → es ≡ c.arguments.items → Some at ≡ first (failing (λ e. not (is_controllable ks e)) (map placed es))
    → Some at ≡ first (controllable_arguments (node from))
argument_found from ks cs i c es at kinds all l is h same e =
    sym (arguments_seen from ks cs kinds all ∙ found_at (drawn_in ks) cs i c at l is h (ap (λ xs. first (failing (λ e. not (is_controllable ks e)) (map placed xs))) (sym same) ∙ sym e))

pub argument_none : (ks : Kinds) (cs : List run.Call) (i : ℕ) (c : run.Call) (es : List written_placed.Placed) → i < length cs → c ≡ get_or cs i c → first (flat_map (drawn_in ks) (take i cs)) ≡ None
    → es ≡ c.arguments.items → None ≡ first (failing (λ e. not (is_controllable ks e)) (map placed es)) → first (flat_map (drawn_in ks) (take (i + 1) cs)) ≡ None
argument_none ks cs i c es l is h same e =
    none_at (drawn_in ks) cs i c l is h (ap (λ xs. first (failing (λ e. not (is_controllable ks e)) (map placed xs))) (sym same) ∙ sym e)

pub arguments_none : (from : written_node.Node) (ks : Kinds) (cs : List run.Call) (i : ℕ) → ks ≡ kinds_of (node from) → cs ≡ from.calls.items → length cs ≤ i → first (flat_map (drawn_in ks) (take i cs)) ≡ None
    → None ≡ first (controllable_arguments (node from))
arguments_none from ks cs i kinds all l h = sym (arguments_seen from ks cs kinds all ∙ none_of_all (drawn_in ks) cs i l h)

-- ANSWERS

regrouped : {X : Type 0} (a b c d e : Option X) → option_or a (option_or b (option_or c (option_or d e))) ≡ option_or (option_or a (option_or b (option_or c d))) e
regrouped (Some x) b c d e = refl
regrouped None (Some x) c d e = refl
regrouped None None (Some x) d e = refl
regrouped None None None (Some x) e = refl
regrouped None None None None e = refl

-- the first of lists, each changed
first_of_five : {A B C D E X : Type 0} (f : A → X) (g : B → X) (h : C → X) (k : D → X) (l : E → X) (xs : List A) (ys : List B) (zs : List C) (us : List D) (vs : List E)
    → first (map f xs ++ (map g ys ++ (map h zs ++ (map k us ++ map l vs))))
    ≡ option_or (option_map f (first xs)) (option_or (option_map g (first ys)) (option_or (option_map h (first zs)) (option_or (option_map k (first us)) (option_map l (first vs)))))
first_of_five f g h k l xs ys zs us vs =
    let fifth = map l vs in
    let fourth = map k us ++ fifth in
    let third = map h zs ++ fourth in
    let second = map g ys ++ third in
    first-append (map f xs) second
    ∙ (λ i. option_or (first-map f xs i) (first-append (map g ys) third i))
    ∙ (λ i. option_or (option_map f (first xs)) (option_or (first-map g ys i) (first-append (map h zs) fourth i)))
    ∙ (λ i. option_or (option_map f (first xs)) (option_or (option_map g (first ys)) (option_or (first-map h zs i) (first-append (map k us) fifth i))))
    ∙ (λ i. option_or (option_map f (first xs)) (option_or (option_map g (first ys)) (option_or (option_map h (first zs)) (option_or (first-map k us i) (first-map l vs i)))))

first_refusal : (n : ℕ) (node : Node) → first (judged_refusals n node) ≡ option_or (refusal_of (node_places n node)) (option_map ControllableArgument (first (controllable_arguments node)))
unfolding node_places places_of
first_refusal n node =
    first_of_five BadStatic NonLinear ControllableCondition ControllableWeight ControllableArgument (bad_statics n node) (not_linear node) (controllable_conditions node) (controllable_weights node) (controllable_arguments node)
    ∙ regrouped (option_map BadStatic (first (bad_statics n node))) (option_map NonLinear (first (not_linear node))) (option_map ControllableCondition (first (controllable_conditions node)))
    (option_map ControllableWeight (first (controllable_weights node))) (option_map ControllableArgument (first (controllable_arguments node)))

found_first : (n : ℕ) (node : Node) (p : FirstPlaces) (o : Option ExpandRefusal) → p ≡ node_places n node → refusal_of p ≡ o
    → first (judged_refusals n node) ≡ option_or o (option_map ControllableArgument (first (controllable_arguments node)))
found_first n node p o h is = first_refusal n node ∙ ap (λ q. option_or q (option_map ControllableArgument (first (controllable_arguments node)))) (ap refusal_of (sym h) ∙ is)

-- a refusal is the first
pub refused : (n : ℕ) (node : Node) (p : FirstPlaces) (r : ExpandRefusal) → p ≡ node_places n node → refusal_of p ≡ Some r → IsFirst (Err r) (judged_refusals n node)
refused n node p r h is = by r (found_first n node p (Some r) h is)
  where
    by : (r : ExpandRefusal) → first (judged_refusals n node) ≡ Some r → IsFirst (Err r) (judged_refusals n node)
    by Memory e = tt
    by UnknownNode e = e
    by (TooLarge l) e = e
    by (BadStatic at) e = e
    by (NonLinear at) e = e
    by (ControllableCondition at) e = e
    by (ControllableWeight at) e = e
    by (ControllableArgument at) e = e
    by TooManyRuns e = e

-- so is an argument that depends on what is drawn, where there is no other
pub refused_argument : (n : ℕ) (node : Node) (p : FirstPlaces) (at : Span) → p ≡ node_places n node → refusal_of p ≡ None → first (controllable_arguments node) ≡ Some at
    → first (judged_refusals n node) ≡ Some (ControllableArgument at)
refused_argument n node p at h is e = found_first n node p None h is ∙ ap (option_map ControllableArgument) e

-- and where there is none, nothing is refused
pub unrefused_node : (n : ℕ) (node : Node) (p : FirstPlaces) → p ≡ node_places n node → refusal_of p ≡ None → first (controllable_arguments node) ≡ None → judged_refusals n node ≡ []
unrefused_node n node p h is e = first_none (judged_refusals n node) (found_first n node p None h is ∙ ap (option_map ControllableArgument) e)
