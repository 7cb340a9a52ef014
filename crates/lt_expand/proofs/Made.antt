-- What a scenario keeps, where it is made of a node's tree.
use Rattle.std.proofs.Common.{◌≡◌, ℕ, zero, suc, ◌+◌, ◌≤◌, IsTrue, true, List, [], ◌∷◌, map, length, refl, sym, ap, ◌∙◌, subst, arith}
use Rattle.std.specs.List.{flat_map, list_all}
use Rattle.std.proofs.lemmas.List.{length-map}
use Rattle.lt_num.specs.declared.kind.Kind.{Kind}
use Rattle.lt_expand.proofs.Sizes.{length-entries}
use Rattle.lt_formula.specs.Kinds.{Kinds}
use Rattle.lt_formula.specs.View.{table_expressions, table_kinds, table_len}
use Rattle.lt_formula.specs.declared.table.Table.{Table}
use Rattle.lt_macros.specs.Expanded.{Declared, Exception, Node, all_inputs}
use Rattle.lt_formula.specs.Limits.{most_variables}
use Rattle.lt_macros.specs.Numbering.{Follow, IsNumbered, counter_numbers, local_numbers}
use Rattle.lt_macros.specs.Preorder.{Item, counter_at, counters_in, items, local_at, locals_in}
use Rattle.lt_macros.specs.Scoping.{AreInside}
use Rattle.lt_term.specs.Process.{Process}
use Rattle.lt_formula.specs.Expression.{Expression}
use Rattle.lt_term.specs.Classes.{has_known_condition, is_linear_node}
use Rattle.lt_term.specs.Depth.{term_depth}
use Rattle.lt_term.specs.Limits.{most_expression_depth, most_nodes, most_term_depth}
use Rattle.lt_term.specs.Named.{parts_in}
use Rattle.lt_term.specs.Scene.{Variable}
use Rattle.lt_term.specs.SceneView.{turns, variable}
use Rattle.lt_term.specs.Scope.{are_named_inside}
use Rattle.lt_term.specs.Subterms as subterms
use Rattle.lt_term.specs.Subterms.{is_at_start, is_narrow, numbers_from}
use Rattle.lt_term.specs.TypedTerm.{IsTypedTerm}
use Rattle.lt_term.specs.Valid.{AreNamed, has_known_conditions, has_known_weights, is_linear_throughout, is_shallow, node_count}
use Rattle.lt_term.specs.View.{all_kinds, process, process_over}
use Rattle.lt_term.specs.Within.{is_within}
use Rattle.lt_term.specs.declared.counter.Counter.{Counter}
use Rattle.lt_term.specs.declared.term.Term.{Term}
use Rattle.lt_term.specs.declared.variable.Var.{Var}
use Rattle.lt_typing_laws.specs.TypedNode.{IsTypedNode}
use Rattle.lt_expand.specs.Classes.{kinds_of}
use Rattle.lt_expand.specs.Exceptions.{exception_names, numbered}
use Rattle.lt_expand.specs.Scenes.{locals_of, process_of, variable_of}
use Rattle.lt_expand.specs.Static.{least_and_most}
use Rattle.lt_expand.specs.inner.Places.{judged_refusals}
use Rattle.lt_expand.specs.inner.Put.{IsFilled, IsTerm}
use Rattle.lt_expand.specs.inner.Ready.{AreReady}
use Rattle.lt_expand.proofs.Declares.{locals_many}
use Rattle.lt_expand.proofs.Filled.{filled_few, filled_named}
use Rattle.lt_expand.proofs.Prepared.{IsLimited, follow_up}
use Rattle.lt_expand.proofs.Terms.{term_counters, term_inside, term_locals, term_narrow, term_unbegun}
use Rattle.lt_expand.proofs.Throughout.{depth_down, named_pass, throughout_down}
use Rattle.lt_expand.proofs.Typing.{term_typed}
use Rattle.lt_expand.proofs.Unrefused.{body_conditions, body_few, body_flat, body_linear, body_shallow, body_weights}

-- what is ready of a node is ready where its kinds and exceptions are these
pub put_ready : (ks : Kinds) (zs : List Exception) (node : Node) → ks ≡ kinds_of node → zs ≡ numbered node.body → AreReady (kinds_of node) (numbered node.body) node.body → AreReady ks zs node.body
put_ready ks zs node e f h = subst (λ k. AreReady k zs node.body) (sym e) (subst (λ ys. AreReady (kinds_of node) ys node.body) (sym f) h)

-- VARIABLES

-- what a scenario has of a node: its variables and counters
pub record IsMade (n : ℕ) (node : Node) (inputs outputs locals : List Var) (counters : List Counter) : Type 0 where
  pub inputs_made : map variable inputs ≡ map (variable_of n) (all_inputs node)
  pub outputs_made : map variable outputs ≡ map (variable_of n) node.outputs
  pub locals_made : map variable locals ≡ locals_of n 0 (locals_in node)
  pub counters_made : map turns counters ≡ map (least_and_most n) (counters_in node)

-- the locals of the parts of a node are its own
pub own_locals : (n : ℕ) (node : Node) (is : List Item) (vs : List Variable) → is ≡ items node.body → vs ≡ locals_of n 0 (flat_map local_at is) → vs ≡ locals_of n 0 (locals_in node)
own_locals n node is vs e h = h ∙ ap (λ js. locals_of n 0 (flat_map local_at js)) e

-- and so are its counters
pub own_counters : (n : ℕ) (node : Node) (is : List Item) (cs : List (ℕ × ℕ)) → is ≡ items node.body → cs ≡ map (least_and_most n) (flat_map counter_at is)
    → cs ≡ map (least_and_most n) (counters_in node)
own_counters n node is cs e h = h ∙ ap (λ js. map (least_and_most n) (flat_map counter_at js)) e

as_many : {X Y Z : Type 0} (f : X → Z) (g : Y → Z) (xs : List X) (ys : List Y) → map f xs ≡ map g ys → length xs ≡ length ys
as_many f g xs ys h = sym (length-map xs f) ∙ ap length h ∙ length-map ys g

as_many_locals : (n : ℕ) (vs : List Var) (ds : List Declared) → map variable vs ≡ locals_of n 0 ds → length vs ≡ length ds
as_many_locals n vs ds h = sym (length-map vs variable) ∙ ap length h ∙ locals_many n 0 ds

pub inputs_few : (n : ℕ) (node : Node) (inputs outputs locals : List Var) (counters : List Counter) → IsLimited node → IsMade n node inputs outputs locals counters → length inputs ≤ most_variables
inputs_few n node inputs outputs locals counters few made =
    let many = as_many variable (variable_of n) inputs (all_inputs node) made.inputs_made in let l = few.inputs in omega (arith, many, l)

pub drawn_few : (n : ℕ) (node : Node) (inputs outputs locals : List Var) (counters : List Counter) → IsLimited node → IsMade n node inputs outputs locals counters
    → length outputs + length locals ≤ most_variables
drawn_few n node inputs outputs locals counters few made =
    let many = as_many variable (variable_of n) outputs node.outputs made.outputs_made in
    let more = as_many_locals n locals (locals_in node) made.locals_made in
    let l = few.drawn in
    omega (arith, many, more, l)

-- Kinds.

abbrev kinds : List Variable → List Kind
kinds vs = map (λ v. v.kind) vs

var_kinds : (vs : List Var) → kinds (map variable vs) ≡ map (λ v. v.kind) vs
var_kinds [] = refl
var_kinds (v ∷ vs) = ap (λ ks. v.kind ∷ ks) (var_kinds vs)

declared_kinds : (n : ℕ) (ds : List Declared) → kinds (map (variable_of n) ds) ≡ map (λ d. d.kind) ds
declared_kinds n [] = refl
declared_kinds n (d ∷ ds) = ap (λ ks. d.kind ∷ ks) (declared_kinds n ds)

local_kinds : (n k : ℕ) (ds : List Declared) → kinds (locals_of n k ds) ≡ map (λ d. d.kind) ds
local_kinds n k [] = refl
local_kinds n k (d ∷ ds) = ap (λ ks. d.kind ∷ ks) (local_kinds n (suc k) ds)

-- the kinds of its variables are those of the node's
pub made_kinds : (n : ℕ) (node : Node) (inputs outputs locals : List Var) (counters : List Counter) (ks : Kinds) → ks ≡ kinds_of node → IsMade n node inputs outputs locals counters
    → ks ≡ all_kinds inputs outputs locals
made_kinds n node inputs outputs locals counters ks e made =
    let ins : map (λ (v : Var). v.kind) inputs ≡ map (λ (d : Declared). d.kind) (all_inputs node) = sym (var_kinds inputs) ∙ ap kinds made.inputs_made ∙ declared_kinds n (all_inputs node) in
    let outs : map (λ (v : Var). v.kind) outputs ≡ map (λ (d : Declared). d.kind) node.outputs = sym (var_kinds outputs) ∙ ap kinds made.outputs_made ∙ declared_kinds n node.outputs in
    let ls : map (λ (v : Var). v.kind) locals ≡ map (λ (d : Declared). d.kind) (locals_in node) = sym (var_kinds locals) ∙ ap kinds made.locals_made ∙ local_kinds n 0 (locals_in node) in
    e ∙ (λ i. record { inputs = sym ins i; outputs = sym outs i; locals = sym ls i })

-- BODIES

-- numbers that follow one another are the numbers from the first on
numbers_follow : (i : ℕ) (ks : List ℕ) (j m : ℕ) → Follow i ks j → i + m ≡ j → ks ≡ numbers_from i m
numbers_follow i [] j zero f e = refl
numbers_follow i [] j (suc m) f e = absurd (omega (arith, f, e))
numbers_follow i (k ∷ ks) j zero f e = absurd (let l = follow_up (suc i) ks j f.1 in omega (arith, l, e))
numbers_follow i (k ∷ ks) j (suc m) f e = (λ d. f.0 d ∷ ks) ∙ ap (λ ls. i ∷ ls) (numbers_follow (suc i) ks j m f.1 (omega (arith, e)))

from_zero : (ks : List ℕ) (j : ℕ) → Follow 0 ks j → ks ≡ numbers_from 0 j
from_zero ks j f = numbers_follow 0 ks j j f (omega arith)

-- a body of a scenario is what a node does
pub record IsBody (node : Node) (table : Table) (body : Term) (names : ℕ) : Type 0 where
  pub is : process_over table body ≡ process_of (numbered node.body) node.body
  pub within : IsTrue (is_within (table_len table) names (process body))

-- a term that is put is one, where exceptions have so many names
pub body_made : (node : Node) (table : Table) (body : Term) (zs : List Exception) (names : List (List ℕ)) → zs ≡ numbered node.body → names ≡ exception_names zs
    → IsTerm (table_expressions table) zs node.body (process body)
    → IsBody node table body (length names)
body_made node table body zs names e f h =
    let many : length zs ≡ length names = sym (ap length f ∙ length-map zs (λ (z : Exception). z.name)) in
    record {
      is = h.spells ∙ ap (λ ys. process_of ys node.body) e;
      within = subst (λ k. IsTrue (is_within (table_len table) k (process body))) many (subst (λ k. IsTrue (is_within k (length zs) (process body))) (length-entries table.nodes.entries) h.within);
    }

pub scopes_made : (n : ℕ) (node : Node) (inputs outputs locals : List Var) (counters : List Counter) (p : Process Expression) → p ≡ process_of (numbered node.body) node.body → IsNumbered node
    → IsMade n node inputs outputs locals counters
    → subterms.locals_in p ≡ numbers_from 0 (length locals)
scopes_made n node inputs outputs locals counters p e numbers made =
    ap subterms.locals_in e
    ∙ term_locals (numbered node.body) node.body
    ∙ from_zero (local_numbers node.body) (length (locals_in node)) numbers.locals
    ∙ sym (ap (numbers_from 0) (as_many_locals n locals (locals_in node) made.locals_made))

pub loops_made : (n : ℕ) (node : Node) (inputs outputs locals : List Var) (counters : List Counter) (p : Process Expression) → p ≡ process_of (numbered node.body) node.body → IsNumbered node
    → IsMade n node inputs outputs locals counters
    → subterms.counters_in p ≡ numbers_from 0 (length counters)
loops_made n node inputs outputs locals counters p e numbers made =
    ap subterms.counters_in e
    ∙ term_counters (numbered node.body) node.body
    ∙ from_zero (counter_numbers node.body) (length (counters_in node)) numbers.counters
    ∙ sym (ap (numbers_from 0) (as_many turns (least_and_most n) counters (counters_in node) made.counters_made))

pub inside_made : (node : Node) (p : Process Expression) → p ≡ process_of (numbered node.body) node.body → AreInside [] node.body → IsTrue (are_named_inside [] p)
inside_made node p e h = ap (are_named_inside []) e ∙ term_inside (numbered node.body) [] node.body h

pub start_made : (node : Node) (p : Process Expression) → p ≡ process_of (numbered node.body) node.body → IsTrue (is_at_start p)
start_made node p e = ap is_at_start e ∙ term_unbegun (numbered node.body) node.body

pub narrow_made : (node : Node) (p : Process Expression) → p ≡ process_of (numbered node.body) node.body → IsLimited node → IsTrue (is_narrow p)
narrow_made node p e few = ap is_narrow e ∙ term_narrow (numbered node.body) node.body few.narrow

-- TABLES

-- what a table has that was filled with what a node does: each expression is named in its body, and they are few
pub record IsTable (node : Node) (table : Table) (p : Process Expression) : Type 0 where
  pub body : p ≡ process_of (numbered node.body) node.body
  pub kinds : table_kinds table ≡ kinds_of node
  pub named : AreNamed (table_expressions table) p
  pub few : table_len table ≤ length (parts_in p)

pub table_made : (node : Node) (empty : List Expression) (table : Table) (zs : List Exception) (p : Process Expression) → empty ≡ [] → zs ≡ numbered node.body
    → p ≡ process_of (numbered node.body) node.body → table_kinds table ≡ kinds_of node → IsFilled empty (table_expressions table) (parts_in (process_of zs node.body)) → IsTable node table p
table_made node empty table zs p none e is same h =
    let filled : IsFilled empty (table_expressions table) (parts_in p) = subst (λ q. IsFilled empty (table_expressions table) (parts_in q)) (ap (λ ys. process_of ys node.body) e ∙ sym is) h in
    record {
      body = is;
      kinds = same;
      named = filled_named empty (table_expressions table) (parts_in p) none filled;
      few = subst (λ k. k ≤ length (parts_in p)) (length-entries table.nodes.entries) (filled_few empty (table_expressions table) (parts_in p) none filled);
    }

pub linear_made : (n : ℕ) (node : Node) (table : Table) (p : Process Expression) → judged_refusals n node ≡ [] → IsTable node table p → list_all (is_linear_throughout (table_kinds table)) (table_expressions table) ≡ true
linear_made n node table p h made =
    let zs = numbered node.body in
    let ks = kinds_of node in
    ap (λ k. list_all (is_linear_throughout k) (table_expressions table)) made.kinds
    ∙ named_pass (is_linear_throughout ks) (throughout_down (is_linear_node ks)) (table_expressions table) (process_of zs node.body) (body_linear n node zs h) (subst (AreNamed (table_expressions table)) made.body made.named)

pub conditions_made : (n : ℕ) (node : Node) (table : Table) (p : Process Expression) → judged_refusals n node ≡ [] → IsTable node table p
    → list_all (has_known_conditions (table_kinds table)) (table_expressions table) ≡ true
conditions_made n node table p h made =
    let zs = numbered node.body in
    let ks = kinds_of node in
    ap (λ k. list_all (has_known_conditions k) (table_expressions table)) made.kinds
    ∙ named_pass (has_known_conditions ks) (throughout_down (has_known_condition ks)) (table_expressions table) (process_of zs node.body) (body_conditions n node zs h) (subst (AreNamed (table_expressions table)) made.body made.named)

pub weights_made : (n : ℕ) (node : Node) (table : Table) (p : Process Expression) → judged_refusals n node ≡ [] → IsTable node table p → has_known_weights (table_kinds table) p ≡ true
weights_made n node table p h made = (λ i. has_known_weights (made.kinds i) (made.body i)) ∙ body_weights n node (numbered node.body) h

pub typed_made : (node : Node) (table : Table) (p : Process Expression) → IsTypedNode node → IsTable node table p → IsTypedTerm (table_kinds table) p
typed_made node table p h made =
    subst (λ k. IsTypedTerm k p) (sym made.kinds)
    (subst (IsTypedTerm (kinds_of node)) (sym made.body) (term_typed (kinds_of node) (numbered node.body) node.body h.body))

pub shallow_made : (node : Node) (table : Table) (p : Process Expression) → IsLimited node → IsTable node table p → list_all is_shallow (table_expressions table) ≡ true
shallow_made node table p few made =
    let zs = numbered node.body in
    named_pass is_shallow (depth_down most_expression_depth) (table_expressions table) (process_of zs node.body) (body_shallow node zs few) (subst (AreNamed (table_expressions table)) made.body made.named)

pub flat_made : (node : Node) (table : Table) (p : Process Expression) → IsLimited node → IsTable node table p → term_depth p ≤ most_term_depth
flat_made node table p few made = subst (λ q. term_depth q ≤ most_term_depth) (sym made.body) (body_flat node (numbered node.body) few)

pub nodes_made : (node : Node) (table : Table) (p : Process Expression) → IsLimited node → IsTable node table p → node_count p ≤ most_nodes
nodes_made node table p few made = subst (λ q. node_count q ≤ most_nodes) (sym made.body) (body_few node (numbered node.body) few)

pub expressions_made : (node : Node) (table : Table) (p : Process Expression) → IsLimited node → IsTable node table p → table_len table ≤ most_nodes
expressions_made node table p few made = let l = nodes_made node table p few made in let m = made.few in omega (arith, l, m)
