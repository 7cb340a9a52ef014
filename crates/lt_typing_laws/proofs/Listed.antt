-- In a well typed node each expression is well typed.
use Rattle.std.proofs.Common.{List, [], ◌∷◌, ◌++◌, All, flat_map, option_to_list, sym, subst}
use Rattle.std.proofs.lemmas.Grind.{flat_map-append}
use Rattle.std.proofs.lemmas.List.Elements.{All-append, All-cons, All-nil}
use Rattle.std.specs.declared.option.Option.{Option}
use Rattle.std.specs.declared.option.Option.TheVariants.{None, Some}
use Rattle.lt_num.specs.declared.kind.Kind.{Kind}
use Rattle.lt_num.specs.declared.kind.Kind.TheVariants as kind
use Rattle.lt_formula.specs.Kinds.{Kinds}
use Rattle.lt_macros.specs.Placed.{Placed}
use Rattle.lt_macros.specs.Expanded.{Declared, Bounds, between, around, Expanded, eps, dead, con, raise, seq, loop, count, any, pri, par, assert, exist, catch, try, Parts, no_part, part}
use Rattle.lt_macros.specs.Preorder.{Item, items, items_in, in_bounds, in_first, expressions_at, arguments_in}
use Rattle.lt_typing_laws.specs.Laws.{NoneIsLeftOut}
use Rattle.lt_typing_laws.specs.TypedNode.{node_kinds, IsOfKind, IsFirst, HaveFirsts, HaveKinds as EachHasKind, AreBounds, IsTyped, AreTyped}

-- Each of these has some kind.
abbrev HaveKinds : Kinds → List Placed → Type 0
HaveKinds kinds es = All (λ e. (k : Kind) × IsOfKind kinds e k) es

no_expression : (kinds : Kinds) → HaveKinds kinds []
no_expression kinds = All-nil (λ e. (k : Kind) × IsOfKind kinds e k)

one_more : (kinds : Kinds) (e : Placed) (k : Kind) (es : List Placed) → IsOfKind kinds e k → HaveKinds kinds es → HaveKinds kinds (e ∷ es)
one_more kinds e k es h g = All-cons (λ e. (k : Kind) × IsOfKind kinds e k) e es (k, h) g

both : (kinds : Kinds) (ds es : List Placed) → HaveKinds kinds ds → HaveKinds kinds es → HaveKinds kinds (ds ++ es)
both kinds ds es h g = All-append (λ e. (k : Kind) × IsOfKind kinds e k) ds es h g

-- the expressions of parts of a trace
abbrev expressions_of : List Item → List Placed
expressions_of xs = flat_map expressions_at xs

two : (kinds : Kinds) (xs ys : List Item) → HaveKinds kinds (expressions_of xs) → HaveKinds kinds (expressions_of ys) → HaveKinds kinds (expressions_of (xs ++ ys))
two kinds xs ys h g = subst (HaveKinds kinds) (sym (flat_map-append expressions_at xs ys)) (both kinds (expressions_of xs) (expressions_of ys) h g)

first_listed : (kinds : Kinds) (k : Kind) (o : Option Placed) → IsFirst kinds k o → HaveKinds kinds (option_to_list o)
first_listed kinds k None h = no_expression kinds
first_listed kinds k (Some e) h = one_more kinds e k [] h (no_expression kinds)

firsts_listed : (kinds : Kinds) (ds : List Declared) → HaveFirsts kinds ds → HaveKinds kinds (flat_map in_first ds)
firsts_listed kinds [] h = no_expression kinds
firsts_listed kinds (d ∷ ds) h = both kinds (in_first d) (flat_map in_first ds) (first_listed kinds d.kind d.first h.0) (firsts_listed kinds ds h.1)

arguments_listed : (kinds : Kinds) (es : List Placed) → EachHasKind kinds es → HaveKinds kinds es
arguments_listed kinds [] h = no_expression kinds
arguments_listed kinds (e ∷ es) h = one_more kinds e h.0.0 es h.0.1 (arguments_listed kinds es h.1)

bounds_listed : (kinds : Kinds) (b : Bounds) → AreBounds kinds b → HaveKinds kinds (in_bounds b)
bounds_listed kinds (between d e) h = one_more kinds d kind.Int (e ∷ []) h.0 (one_more kinds e kind.Int [] h.1 (no_expression kinds))
bounds_listed kinds (around d e) h = one_more kinds d kind.Int (e ∷ []) h.0 (one_more kinds e kind.Int [] h.1 (no_expression kinds))

mutual
  listed : (kinds : Kinds) (x : Expanded) → IsTyped kinds x → HaveKinds kinds (expressions_of (items x))
  listed kinds eps h = no_expression kinds
  listed kinds dead h = no_expression kinds
  listed kinds (con e) h = one_more kinds e kind.Bool [] h (no_expression kinds)
  listed kinds (raise z) h = no_expression kinds
  listed kinds (seq x y) h = two kinds (items x) (items y) (listed kinds x h.0) (listed kinds y h.1)
  listed kinds (loop x) h = listed kinds x h
  listed kinds (count i b x) h = both kinds (in_bounds b) (expressions_of (items x)) (bounds_listed kinds b h.0) (listed kinds x h.1)
  listed kinds (any ps) h = each_listed kinds ps h
  listed kinds (pri x y) h = two kinds (items x) (items y) (listed kinds x h.0) (listed kinds y h.1)
  listed kinds (par x y) h = two kinds (items x) (items y) (listed kinds x h.0) (listed kinds y h.1)
  listed kinds (assert e x) h = one_more kinds e kind.Bool (expressions_of (items x)) h.0 (listed kinds x h.1)
  listed kinds (exist i d x) h = both kinds (in_first d) (expressions_of (items x)) (first_listed kinds d.kind d.first h.1) (listed kinds x h.2)
  listed kinds (catch z x y) h = two kinds (items x) (items y) (listed kinds x h.0) (listed kinds y h.1)
  listed kinds (try x y) h = two kinds (items x) (items y) (listed kinds x h.0) (listed kinds y h.1)

  each_listed : (kinds : Kinds) (ps : Parts) → AreTyped kinds ps → HaveKinds kinds (expressions_of (items_in ps))
  each_listed kinds no_part h = no_expression kinds
  each_listed kinds (part w x ps) h = one_more kinds w kind.Int (expressions_of (items x ++ items_in ps)) h.0 (two kinds (items x) (items_in ps) (listed kinds x h.1) (each_listed kinds ps h.2))

pub none_is_left_out : NoneIsLeftOut
none_is_left_out node h =
    let kinds = node_kinds node in
    both kinds (flat_map in_first node.inputs) _ (firsts_listed kinds node.inputs h.inputs)
    (both kinds (flat_map in_first node.outputs) _ (firsts_listed kinds node.outputs h.outputs)
    (both kinds (arguments_in node) _ (arguments_listed kinds (arguments_in node) h.arguments) (listed kinds node.body h.body)))
