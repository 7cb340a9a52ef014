-- A node of which nothing is refused is ready to be put: all that it names is there, and its variables and bounds are fine.
use Rattle.std.proofs.Common.{◌≡◌, ℕ, suc, ◌<◌, ◌≤◌, ◌^◌, true, ◌&&◌, nat_le, List, [], ◌∷◌, ◌++◌, map, length, inl, inr, refl, sym, ◌∙◌, subst, arith}
use Rattle.std.specs.List.{All, AllByRecursion, flat_map, list_all}
use Rattle.std.proofs.lemmas.Bool.Decides.{nat_tests}
use Rattle.std.proofs.lemmas.Grind.{flat_map-append}
use Rattle.std.proofs.lemmas.List.{length-map}
use Rattle.std.proofs.lemmas.List.Elements.{All-from_recursion}
use Rattle.lt_ast.specs.declared.span.Span.{Span}
use Rattle.lt_formula.specs.Kinds.{Kinds, kinds_of_role}
use Rattle.lt_formula.specs.declared.role.Role.{Role}
use Rattle.lt_formula.specs.declared.role.Role.TheVariants as role
use Rattle.lt_macros.specs.Expanded.{Declared, Exception, Expanded, Node, all_inputs, given_inputs, eps, dead, con, raise, seq, loop, count, any, pri, par, assert, exist, catch, try, Parts, no_part, part}
use Rattle.lt_macros.specs.Failing.{unless}
use Rattle.lt_formula.specs.Limits.{most_variables}
use Rattle.lt_macros.specs.Limits.{most_expression_depth, most_nodes, most_term_depth, passed_limits}
use Rattle.lt_macros.specs.Naming.{AreAllNamed, AreEachNamed, AreNamed, HaveDomains, IsNamed, IsOneOf, NamesWhatIsThere}
use Rattle.lt_macros.specs.Nodes.{drawn_count, expression_depth, node_count, term_depth}
use Rattle.lt_macros.specs.Numbering.{Follow, IsNumbered, local_numbers, local_numbers_in}
use Rattle.lt_macros.specs.Placed as p
use Rattle.lt_macros.specs.Placed.{Placed}
use Rattle.lt_macros.specs.Preorder.{Item, arguments_in, caught_at, expressions_in, items, items_in, locals_in, raised_at, term}
use Rattle.lt_macros.specs.Scoping.{AreEachInside, AreInside, IsOne, IsOpen, NameNone, NamesOnly}
use Rattle.lt_macros.specs.declared.limit.Limit.TheVariants.{Children, Depth, Nodes, Variables}
use Rattle.lt_expand.specs.Classes.{kinds_of}
use Rattle.lt_expand.specs.Exceptions.{numbered}
use Rattle.lt_expand.specs.Static.{bad_at, bad_first, bad_statics}
use Rattle.lt_expand.specs.declared.refusal.ExpandRefusal.TheVariants.{BadStatic}
use Rattle.lt_expand.specs.inner.Places.{judged_refusals}
use Rattle.lt_expand.specs.inner.Ready.{AreEachReady, AreReady, IsFine, IsFinePart, IsKnown, IsReady}
use Rattle.lt_expand.proofs.Terms.{has_few}
use Rattle.lt_expand.proofs.There.{IsIn, in_left, in_right, numbered_few, numbered_there}
use Rattle.lt_expand.proofs.Turning.{left_none, right_none, unless_none}
use Rattle.lt_term.proofs.Public.{left_of, right_of}

-- LIMITS

at_most : (a b : ℕ) → nat_le a b ≡ true → a ≤ b
at_most a b h = grind (arith, nat_tests)

-- what the limits say
pub record IsLimited (node : Node) : Type 0 where
  pub nodes : node_count node ≤ most_nodes
  pub flat : term_depth node.body ≤ most_term_depth
  pub shallow : list_all (λ e. nat_le (expression_depth e) most_expression_depth) (expressions_in node) ≡ true
  pub narrow : list_all has_few (items node.body) ≡ true
  pub inputs : length (all_inputs node) ≤ most_variables
  pub drawn : drawn_count node ≤ most_variables

-- a node that is past none keeps them
pub limited : (node : Node) → passed_limits node ≡ [] → IsLimited node
limited node h =
    let first = unless (nat_le (node_count node) most_nodes) Nodes in
    let shallow = list_all (λ e. nat_le (expression_depth e) most_expression_depth) (expressions_in node) in
    let deep = nat_le (term_depth node.body) most_term_depth && shallow in
    let second = unless deep Depth in
    let third = unless (list_all has_few (items node.body)) Children in
    let both = nat_le (length (all_inputs node)) most_variables && nat_le (drawn_count node) most_variables in
    let fourth = unless both Variables in
    let rest : third ++ fourth ≡ [] = right_none second (third ++ fourth) (right_none first (second ++ (third ++ fourth)) h) in
    let depths : deep ≡ true = unless_none deep Depth (left_none second (third ++ fourth) (right_none first (second ++ (third ++ fourth)) h)) in
    let variables : both ≡ true = unless_none both Variables (right_none third fourth rest) in
    record {
      nodes = at_most (node_count node) most_nodes (unless_none (nat_le (node_count node) most_nodes) Nodes (left_none first (second ++ (third ++ fourth)) h));
      flat = at_most (term_depth node.body) most_term_depth (left_of (nat_le (term_depth node.body) most_term_depth) shallow depths);
      shallow = right_of (nat_le (term_depth node.body) most_term_depth) shallow depths;
      narrow = unless_none (list_all has_few (items node.body)) Children (left_none third fourth rest);
      inputs = at_most (length (all_inputs node)) most_variables (left_of (nat_le (length (all_inputs node)) most_variables) (nat_le (drawn_count node) most_variables) variables);
      drawn = at_most (drawn_count node) most_variables (right_of (nat_le (length (all_inputs node)) most_variables) (nat_le (drawn_count node) most_variables) variables);
    }

-- WHAT IS NAMED

-- all of these are below
abbrev AllBelow : ℕ → List ℕ → Type 0
AllBelow n xs = (i : ℕ) → IsOne i xs → i < n

one_below : (n k : ℕ) (xs : List ℕ) (i : ℕ) → k < n → AllBelow n xs → IsOne i (k ∷ xs) → i < n
one_below n k xs i l h (inl e) = omega (arith, e, l)
one_below n k xs i l h (inr o) = h i o

abbrev AreBelow : ℕ → List ℕ → Type 0
AreBelow n [] = Unit {0}
AreBelow n (k ∷ ks) = (k < n) × AreBelow n ks

below_left : (n : ℕ) (ks ls : List ℕ) → AreBelow n (ks ++ ls) → AreBelow n ks
below_left n [] ls h = tt
below_left n (k ∷ ks) ls h = (h.0, below_left n ks ls h.1)

below_right : (n : ℕ) (ks ls : List ℕ) → AreBelow n (ks ++ ls) → AreBelow n ls
below_right n [] ls h = h
below_right n (k ∷ ks) ls h = below_right n ks ls h.1

pub follow_up : (i : ℕ) (ks : List ℕ) (j : ℕ) → Follow i ks j → i ≤ j
follow_up i [] j h = omega arith
follow_up i (k ∷ ks) j h = let l = follow_up (suc i) ks j h.1 in omega arith

follow_below : (i : ℕ) (ks : List ℕ) (j : ℕ) → Follow i ks j → AreBelow j ks
follow_below i [] j h = tt
follow_below i (k ∷ ks) j h = let l = follow_up (suc i) ks j h.1 in let e = h.0 in (omega (arith, l, e), follow_below (suc i) ks j h.1)

variable_there : (ks : Kinds) (xs : List ℕ) (r : Role) (i : ℕ) → AllBelow (length ks.locals) xs → IsOpen xs r i → IsOneOf (length ks.inputs) (length ks.outputs) r i → i < length (kinds_of_role ks r)
variable_there ks xs role.Input i below o h = h
variable_there ks xs role.Output i below o h = h
variable_there ks xs role.Local i below o h = below i o

expression_ready : (ks : Kinds) (xs : List ℕ) (e : Placed) → AllBelow (length ks.locals) xs → NamesOnly xs e → IsNamed (length ks.inputs) (length ks.outputs) e → IsReady ks e
expression_ready ks xs (p.constant k v at) below h g = g
expression_ready ks xs (p.variable r i at) below h g = variable_there ks xs r i below h g
expression_ready ks xs (p.previous r i at) below h g = variable_there ks xs r i below h g
expression_ready ks xs (p.unary op e at) below h g = expression_ready ks xs e below h g
expression_ready ks xs (p.binary op d e at) below h g = (expression_ready ks xs d below h.0 g.0, expression_ready ks xs e below h.1 g.1)
expression_ready ks xs (p.choice c d e at) below h g = (expression_ready ks xs c below h.0 g.0, (expression_ready ks xs d below h.1.0 g.1.0, expression_ready ks xs e below h.1.1 g.1.1))

-- all of these are known
abbrev AllKnown : List Exception → List Exception → Type 0
AllKnown zs ys = (w : Exception) → IsIn w ys → IsKnown zs w

known_left : (zs : List Exception) (f : Item → List Exception) (xs ys : List Item) → AllKnown zs (flat_map f (xs ++ ys)) → AllKnown zs (flat_map f xs)
known_left zs f xs ys h = λ w i. h w (subst (IsIn w) (sym (flat_map-append f xs ys)) (in_left w (flat_map f xs) (flat_map f ys) i))

known_right : (zs : List Exception) (f : Item → List Exception) (xs ys : List Item) → AllKnown zs (flat_map f (xs ++ ys)) → AllKnown zs (flat_map f ys)
known_right zs f xs ys h = λ w i. h w (subst (IsIn w) (sym (flat_map-append f xs ys)) (in_right w (flat_map f xs) (flat_map f ys) i))

-- what is numbered of a trace: its locals are below, and its exceptions known
record IsCounted (n : ℕ) (zs : List Exception) (ls : List ℕ) (is : List Item) : Type 0 where
  locals : AreBelow n ls
  raised : AllKnown zs (flat_map raised_at is)
  caught : AllKnown zs (flat_map caught_at is)

first_counted : (n : ℕ) (zs : List Exception) (ks ls : List ℕ) (is js : List Item) → IsCounted n zs (ks ++ ls) (is ++ js) → IsCounted n zs ks is
first_counted n zs ks ls is js h = record { locals = below_left n ks ls h.locals; raised = known_left zs raised_at is js h.raised; caught = known_left zs caught_at is js h.caught }

second_counted : (n : ℕ) (zs : List Exception) (ks ls : List ℕ) (is js : List Item) → IsCounted n zs (ks ++ ls) (is ++ js) → IsCounted n zs ls js
second_counted n zs ks ls is js h = record { locals = below_right n ks ls h.locals; raised = known_right zs raised_at is js h.raised; caught = known_right zs caught_at is js h.caught }

of_first : (n : ℕ) (zs : List Exception) (t u : Expanded) → IsCounted n zs (local_numbers t ++ local_numbers u) (items t ++ items u) → IsCounted n zs (local_numbers t) (items t)
of_first n zs t u h = first_counted n zs (local_numbers t) (local_numbers u) (items t) (items u) h

of_second : (n : ℕ) (zs : List Exception) (t u : Expanded) → IsCounted n zs (local_numbers t ++ local_numbers u) (items t ++ items u) → IsCounted n zs (local_numbers u) (items u)
of_second n zs t u h = second_counted n zs (local_numbers t) (local_numbers u) (items t) (items u) h

abbrev AreNamedOf : Kinds → Expanded → Type 0
AreNamedOf ks t = AreNamed (length ks.inputs) (length ks.outputs) t

mutual
  tree_ready : (ks : Kinds) (zs : List Exception) (xs : List ℕ) (t : Expanded) → AllBelow (length ks.locals) xs → AreInside xs t → AreNamedOf ks t
      → IsCounted (length ks.locals) zs (local_numbers t) (items t) → AreReady ks zs t
  tree_ready ks zs xs eps b h g c = tt
  tree_ready ks zs xs dead b h g c = tt
  tree_ready ks zs xs (con e) b h g c = expression_ready ks xs e b h g
  tree_ready ks zs xs (raise z) b h g c = c.raised z (inl refl)
  tree_ready ks zs xs (seq t u) b h g c = (
    tree_ready ks zs xs t b h.0 g.0 (of_first _ zs t u (record { locals = c.locals; raised = c.raised; caught = c.caught })),
    tree_ready ks zs xs u b h.1 g.1
        (of_second _ zs t u (record { locals = c.locals; raised = c.raised; caught = c.caught })),
  )
  tree_ready ks zs xs (loop t) b h g c = tree_ready ks zs xs t b h g (record { locals = c.locals; raised = c.raised; caught = c.caught })
  tree_ready ks zs xs (count i bs t) b h g c = tree_ready ks zs xs t b h g (record { locals = c.locals; raised = c.raised; caught = c.caught })
  tree_ready ks zs xs (any ps) b h g c = parts_ready ks zs xs ps b h g (record { locals = c.locals; raised = c.raised; caught = c.caught })
  tree_ready ks zs xs (pri t u) b h g c = (
    tree_ready ks zs xs t b h.0 g.0 (of_first _ zs t u (record { locals = c.locals; raised = c.raised; caught = c.caught })),
    tree_ready ks zs xs u b h.1 g.1
        (of_second _ zs t u (record { locals = c.locals; raised = c.raised; caught = c.caught })),
  )
  tree_ready ks zs xs (par t u) b h g c = (
    tree_ready ks zs xs t b h.0 g.0 (of_first _ zs t u (record { locals = c.locals; raised = c.raised; caught = c.caught })),
    tree_ready ks zs xs u b h.1 g.1
        (of_second _ zs t u (record { locals = c.locals; raised = c.raised; caught = c.caught })),
  )
  tree_ready ks zs xs (assert e t) b h g c = (expression_ready ks xs e b h.0 g.0, tree_ready ks zs xs t b h.1 g.1 (record { locals = c.locals; raised = c.raised; caught = c.caught }))
  tree_ready ks zs xs (exist i d t) b h g c =
      tree_ready ks zs (i ∷ xs) t (λ k o. one_below (length ks.locals) i xs k c.locals.0 b o) h g.1 (record { locals = c.locals.1; raised = c.raised; caught = c.caught })
  tree_ready ks zs xs (catch z t u) b h g c =
      (c.caught z (inl refl), (tree_ready ks zs xs t b h.0 g.0 (of_first _ zs t u (record { locals = c.locals; raised = c.raised; caught = λ w i. c.caught w (inr i) })), tree_ready ks zs xs u b h.1 g.1 (of_second _ zs t u (record { locals = c.locals; raised = c.raised; caught = λ w i. c.caught w (inr i) }))))
  tree_ready ks zs xs (try t u) b h g c = (
    tree_ready ks zs xs t b h.0 g.0 (of_first _ zs t u (record { locals = c.locals; raised = c.raised; caught = c.caught })),
    tree_ready ks zs xs u b h.1 g.1
        (of_second _ zs t u (record { locals = c.locals; raised = c.raised; caught = c.caught })),
  )

  parts_ready : (ks : Kinds) (zs : List Exception) (xs : List ℕ) (ps : Parts) → AllBelow (length ks.locals) xs → AreEachInside xs ps → AreEachNamed (length ks.inputs) (length ks.outputs) ps
      → IsCounted (length ks.locals) zs (local_numbers_in ps) (items_in ps) → AreEachReady ks zs ps
  parts_ready ks zs xs no_part b h g c = tt
  parts_ready ks zs xs (part w t ps) b h g c =
      let inner : IsCounted (length ks.locals) zs (local_numbers t ++ local_numbers_in ps) (items t ++ items_in ps) = record { locals = c.locals; raised = c.raised; caught = c.caught } in (
        expression_ready ks xs w b h.0 g.0,
        (
          tree_ready ks zs xs t b h.1.0 g.1.0 (first_counted _ zs (local_numbers t) (local_numbers_in ps) (items t) (items_in ps) inner),
          parts_ready ks zs xs ps b h.1.1 g.1.1 (second_counted _ zs (local_numbers t) (local_numbers_in ps) (items t) (items_in ps) inner),
        ),
      )

exceptions_few : (node : Node) → IsLimited node → length (numbered node.body) ≤ 2 ^ 32
exceptions_few node h = let few = numbered_few node.body in let nodes = h.nodes in omega (arith, few, nodes)

none_below : (n : ℕ) → AllBelow n []
none_below n i h = absurd h

-- all that a node names is there
pub node_ready : (node : Node) → IsLimited node → NamesWhatIsThere node → IsNumbered node → AreInside [] node.body → AreReady (kinds_of node) (numbered node.body) node.body
node_ready node few named numbers inside =
    let zs = numbered node.body in
    let ks = kinds_of node in
    let ins : length (all_inputs node) ≡ length ks.inputs = sym (length-map (all_inputs node) (λ (d : Declared). d.kind)) in
    let outs : length node.outputs ≡ length ks.outputs = sym (length-map node.outputs (λ (d : Declared). d.kind)) in
    let many : length (locals_in node) ≡ length ks.locals = sym (length-map (locals_in node) (λ (d : Declared). d.kind)) in
    tree_ready ks zs [] node.body (none_below (length ks.locals)) inside
    (subst (λ a. AreNamed a (length ks.outputs) node.body) ins (subst (λ b. AreNamed (length (all_inputs node)) b node.body) outs named.body))
    (record {
      locals = follow_below 0 (local_numbers node.body) (length ks.locals) (subst (Follow 0 (local_numbers node.body)) many numbers.locals);
      raised = λ w i. record { there = numbered_there node.body w (in_left w (flat_map raised_at (items node.body)) (flat_map caught_at (items node.body)) i); few = exceptions_few node few };
      caught = λ w i. record { there = numbered_there node.body w (in_right w (flat_map raised_at (items node.body)) (flat_map caught_at (items node.body)) i); few = exceptions_few node few };
    })

-- WHAT IS FINE

pub map_none : {X Y : Type 0} (f : X → Y) (xs : List X) → map f xs ≡ [] → xs ≡ []
map_none f [] h = refl
map_none f (x ∷ xs) h = let untrue : f x ∷ map f xs ≡ [] = h in absurd (cc)

statics_fine : (n : ℕ) (node : Node) → judged_refusals n node ≡ [] → bad_statics n node ≡ []
statics_fine n node h =
    map_none BadStatic (bad_statics n node)
    (left_none (map BadStatic (bad_statics n node)) _ h)

variables_fine : (n : ℕ) (ds : List Declared) → HaveDomains ds → flat_map (bad_first n) ds ≡ [] → AllByRecursion (IsFine n) ds
variables_fine n [] h g = tt
variables_fine n (d ∷ ds) h g =
    (record { domain = h.0; first = left_none (bad_first n d) (flat_map (bad_first n) ds) g }, variables_fine n ds h.1 (right_none (bad_first n d) (flat_map (bad_first n) ds) g))

fine_both : (n : ℕ) (is js : List Item) → AllByRecursion (IsFinePart n) is → AllByRecursion (IsFinePart n) js → AllByRecursion (IsFinePart n) (is ++ js)
fine_both n [] js g h = h
fine_both n (i ∷ is) js g h = (g.0, fine_both n is js g.1 h)

bad_left : (n : ℕ) (is js : List Item) → flat_map (bad_at n) (is ++ js) ≡ [] → flat_map (bad_at n) is ≡ []
bad_left n is js h = left_none (flat_map (bad_at n) is) (flat_map (bad_at n) js) (sym (flat_map-append (bad_at n) is js) ∙ h)

bad_right : (n : ℕ) (is js : List Item) → flat_map (bad_at n) (is ++ js) ≡ [] → flat_map (bad_at n) js ≡ []
bad_right n is js h = right_none (flat_map (bad_at n) is) (flat_map (bad_at n) js) (sym (flat_map-append (bad_at n) is js) ∙ h)

mutual
  tree_fine : (n ins outs : ℕ) (t : Expanded) → AreNamed ins outs t → flat_map (bad_at n) (items t) ≡ [] → AllByRecursion (IsFinePart n) (items t)
  tree_fine n ins outs eps h g = (tt, tt)
  tree_fine n ins outs dead h g = (tt, tt)
  tree_fine n ins outs (con e) h g = (tt, tt)
  tree_fine n ins outs (raise z) h g = (tt, tt)
  tree_fine n ins outs (seq t u) h g =
      (tt, fine_both n (items t) (items u) (tree_fine n ins outs t h.0 (bad_left n (items t) (items u) g)) (tree_fine n ins outs u h.1 (bad_right n (items t) (items u) g)))
  tree_fine n ins outs (loop t) h g = (tt, tree_fine n ins outs t h g)
  tree_fine n ins outs (count i b t) h g = (left_none _ (flat_map (bad_at n) (items t)) g, tree_fine n ins outs t h (right_none (bad_at n (term (count i b t))) (flat_map (bad_at n) (items t)) g))
  tree_fine n ins outs (any ps) h g = (tt, parts_fine n ins outs ps h g)
  tree_fine n ins outs (pri t u) h g =
      (tt, fine_both n (items t) (items u) (tree_fine n ins outs t h.0 (bad_left n (items t) (items u) g)) (tree_fine n ins outs u h.1 (bad_right n (items t) (items u) g)))
  tree_fine n ins outs (par t u) h g =
      (tt, fine_both n (items t) (items u) (tree_fine n ins outs t h.0 (bad_left n (items t) (items u) g)) (tree_fine n ins outs u h.1 (bad_right n (items t) (items u) g)))
  tree_fine n ins outs (assert e t) h g = (tt, tree_fine n ins outs t h.1 g)
  tree_fine n ins outs (exist i d t) h g =
      (record { domain = h.0; first = left_none (bad_first n d) (flat_map (bad_at n) (items t)) g }, tree_fine n ins outs t h.1 (right_none (bad_first n d) (flat_map (bad_at n) (items t)) g))
  tree_fine n ins outs (catch z t u) h g =
      (tt, fine_both n (items t) (items u) (tree_fine n ins outs t h.0 (bad_left n (items t) (items u) g)) (tree_fine n ins outs u h.1 (bad_right n (items t) (items u) g)))
  tree_fine n ins outs (try t u) h g =
      (tt, fine_both n (items t) (items u) (tree_fine n ins outs t h.0 (bad_left n (items t) (items u) g)) (tree_fine n ins outs u h.1 (bad_right n (items t) (items u) g)))

  parts_fine : (n ins outs : ℕ) (ps : Parts) → AreEachNamed ins outs ps → flat_map (bad_at n) (items_in ps) ≡ [] → AllByRecursion (IsFinePart n) (items_in ps)
  parts_fine n ins outs no_part h g = tt
  parts_fine n ins outs (part w t ps) h g =
      (tt, fine_both n (items t) (items_in ps) (tree_fine n ins outs t h.1.0 (bad_left n (items t) (items_in ps) g)) (parts_fine n ins outs ps h.1.1 (bad_right n (items t) (items_in ps) g)))

abbrev given_bad : ℕ → Node → List Span
given_bad n node = flat_map (bad_first n) (given_inputs node) ++ flat_map (bad_at n) (items node.body)

abbrev all_bad : ℕ → Node → List Span
all_bad n node = flat_map (bad_first n) node.outputs ++ given_bad n node

rest_none : (n : ℕ) (node : Node) → judged_refusals n node ≡ [] → all_bad n node ≡ []
rest_none n node h = right_none (flat_map (bad_first n) node.inputs) (all_bad n node) (statics_fine n node h)

given_none : (n : ℕ) (node : Node) → judged_refusals n node ≡ [] → given_bad n node ≡ []
given_none n node h = right_none (flat_map (bad_first n) node.outputs) (given_bad n node) (rest_none n node h)

both_none : {X : Type 0} (xs ys : List X) → xs ≡ [] → ys ≡ [] → xs ++ ys ≡ []
both_none xs ys g h = λ i. g i ++ h i

inputs_none : (n : ℕ) (node : Node) → judged_refusals n node ≡ [] → flat_map (bad_first n) (all_inputs node) ≡ []
inputs_none n node h =
    flat_map-append (bad_first n) node.inputs (given_inputs node)
    ∙ both_none (flat_map (bad_first n) node.inputs) (flat_map (bad_first n) (given_inputs node))
    (left_none (flat_map (bad_first n) node.inputs) (all_bad n node) (statics_fine n node h))
    (left_none (flat_map (bad_first n) (given_inputs node)) (flat_map (bad_at n) (items node.body)) (given_none n node h))

-- each input is fine
pub inputs_fine : (n : ℕ) (node : Node) → NamesWhatIsThere node → judged_refusals n node ≡ [] → All (IsFine n) (all_inputs node)
inputs_fine n node named h = All-from_recursion (IsFine n) (all_inputs node) (variables_fine n (all_inputs node) named.inputs (inputs_none n node h))

-- each output
pub outputs_fine : (n : ℕ) (node : Node) → NamesWhatIsThere node → judged_refusals n node ≡ [] → All (IsFine n) node.outputs
outputs_fine n node named h =
    All-from_recursion (IsFine n) node.outputs (variables_fine n node.outputs named.outputs (left_none (flat_map (bad_first n) node.outputs) (given_bad n node) (rest_none n node h)))

-- each part of what it does
pub parts_are_fine : (n : ℕ) (node : Node) (is : List Item) → is ≡ items node.body → NamesWhatIsThere node → judged_refusals n node ≡ [] → All (IsFinePart n) is
parts_are_fine n node is e named h =
    subst (All (IsFinePart n)) (sym e)
    (All-from_recursion (IsFinePart n) (items node.body)
    (tree_fine n (length (all_inputs node)) (length node.outputs) node.body named.body (right_none (flat_map (bad_first n) (given_inputs node)) (flat_map (bad_at n) (items node.body)) (given_none n node h))))

-- ARGUMENTS

arguments_each : (ks : Kinds) (es : List Placed) → NameNone es → AreAllNamed (length ks.inputs) (length ks.outputs) es → AllByRecursion (IsReady ks) es
arguments_each ks [] h g = tt
arguments_each ks (e ∷ es) h g = (expression_ready ks [] e (none_below (length ks.locals)) h.0 g.0, arguments_each ks es h.1 g.1)

-- all that the arguments of a node's runs name is there
pub arguments_ready : (node : Node) → NamesWhatIsThere node → NameNone (arguments_in node) → AllByRecursion (IsReady (kinds_of node)) (arguments_in node)
arguments_ready node named inside =
    let ks = kinds_of node in
    let ins : length (all_inputs node) ≡ length ks.inputs = sym (length-map (all_inputs node) (λ (d : Declared). d.kind)) in
    let outs : length node.outputs ≡ length ks.outputs = sym (length-map node.outputs (λ (d : Declared). d.kind)) in
    arguments_each ks (arguments_in node) inside
    (subst (λ a. AreAllNamed a (length ks.outputs) (arguments_in node)) ins (subst (λ b. AreAllNamed (length (all_inputs node)) b (arguments_in node)) outs named.arguments))

pub all_left : {Y : Type 0} (P : Y → Type 0) (xs ys : List Y) → AllByRecursion P (xs ++ ys) → AllByRecursion P xs
all_left P [] ys h = tt
all_left P (x ∷ xs) ys h = (h.0, all_left P xs ys h.1)

pub all_right : {Y : Type 0} (P : Y → Type 0) (xs ys : List Y) → AllByRecursion P (xs ++ ys) → AllByRecursion P ys
all_right P [] ys h = h
all_right P (x ∷ xs) ys h = all_right P xs ys h.1

-- what holds of all that each of a list has holds of what one of it has
pub each_part : {X Y : Type 0} (P : Y → Type 0) (f : X → List Y) (xs : List X) → AllByRecursion P (flat_map f xs) → AllByRecursion (λ x. All P (f x)) xs
each_part P f [] h = tt
each_part P f (x ∷ xs) h =
    (All-from_recursion P (f x) (all_left P (f x) (flat_map f xs) h), each_part P f xs (all_right P (f x) (flat_map f xs) h))
