-- The parts of a trace in preorder.
use Rattle.std.proofs.Common.{◌≡◌, ℕ, ◌+◌, ◌<◌, ◌≤◌, List, [], ◌∷◌, ◌++◌, refl, ap, sym, ◌∙◌, map, take, length, get_or}
use mathlib.Core.Former.{Count}
use Rattle.std.specs.List.{flat_map}
use Rattle.std.proofs.lemmas.Grind.{flat_map-append}
use Rattle.std.proofs.lemmas.List.{append_assoc, append-nil, map-append, take_all, take_more}
use Rattle.lt_num.specs.declared.kind.Kind.{Kind}
use Rattle.lt_macros.specs.Expanded.{Declared, Call, Node, all_inputs}
use Rattle.lt_expand.specs.Classes.{kinds_of}
use Rattle.lt_macros.specs.Preorder.{Item, weight, items, items_in, local_at}
use Rattle.lt_expand.specs.inner.Items.{item, items_view, part_items}
use Rattle.lt_macros.specs.Tree.{call, declared, expanded, parts, part_row, placed}
use Rattle.lt_expand.specs.declared.items.Item as code
use Rattle.lt_macros.specs.declared.tree.Call as run
use Rattle.lt_macros.specs.declared.tree.Declared as written
use Rattle.lt_macros.specs.declared.tree.Part.{Part}
use Rattle.lt_macros.specs.declared.tree.Parts.{Parts, Parts', out-Parts, Row_of-Part, end_of-Part, more_of-Part, items-the_row-Part, items_shown-the_row-Part-0}
use Rattle.lt_macros.specs.declared.tree.Expanded.TheBlock.{shown-the_row-Part-0}
use denote.Hole.Carrier.{out}

part_row-items : {n : Count} (k : Row_of-Part n) → items_in (part_row k) ≡ flat_map part_items (items-the_row-Part n k)
part_row-items end_of-Part = refl
part_row-items (more_of-Part w p x rest) = ap (λ is. weight (placed w) ∷ (items (expanded x) ++ is)) (part_row-items rest)

-- alternatives are a list of the code
pub parts_items : (p : Parts) → items_in (parts p) ≡ flat_map part_items (out-Parts p).items.items
unfolding out-Parts out shown-the_row-Part-0
parts_items (Parts' shape row) = part_row-items row ∙ ap (flat_map part_items) (sym (items_shown-the_row-Part-0 shape row))

-- and so they are once all of them are put
pub parts_put : (p : Parts) (old new : List Item) (xs : List Part) (i : ℕ) → xs ≡ (out-Parts p).items.items → length xs ≤ i → new ≡ old ++ flat_map part_items (take i xs) → new ≡ old ++ items_in (parts p)
parts_put p old new xs i e h n =
    n ∙ ap (λ ys. old ++ flat_map part_items ys) (take_all i xs h ∙ e) ∙ ap (λ is. old ++ is) (sym (parts_items p))

-- one more of the code's list
pub taken : {X Y : Type 0} (f : X → Y) (xs : List X) (i : ℕ) (x : X) → i < length xs → x ≡ get_or xs i x → map f (take (i + 1) xs) ≡ map f (take i xs) ++ f x ∷ []
taken f xs i x h is = ap (map f) (take_more xs i x h ∙ ap (λ y. take i xs ++ y ∷ []) (sym is)) ∙ map-append f (take i xs) (x ∷ [])

-- and what it has
pub items_taken : {X : Type 0} (f : Item → List X) (xs : List code.Item) (i : ℕ) (x : code.Item) → i < length xs → x ≡ get_or xs i x
    → flat_map f (items_view (take (i + 1) xs)) ≡ flat_map f (items_view (take i xs)) ++ f (item x)
items_taken f xs i x h is =
    ap (flat_map f) (taken item xs i x h is)
    ∙ flat_map-append f (items_view (take i xs)) (item x ∷ [])
    ∙ ap (λ ys. flat_map f (items_view (take i xs)) ++ ys) (append-nil (f (item x)))

-- the kind of one more variable
pub kind_taken : (ds : List written.Declared) (i : ℕ) (d : written.Declared) (before found more : List Kind) → i < length ds → d ≡ get_or ds i d → found ≡ before ++ map (λ x. x.kind) (map declared (take i ds))
    → more ≡ found ++ d.kind ∷ [] → more ≡ before ++ map (λ x. x.kind) (map declared (take (i + 1) ds))
kind_taken ds i d before found more h is e m =
    let old = map (λ (x : Declared). x.kind) (map declared (take i ds)) in
    m
    ∙ ap (λ ks. ks ++ d.kind ∷ []) e
    ∙ append_assoc before old (d.kind ∷ [])
    ∙ ap (λ ks. before ++ ks) (sym (ap (map (λ (x : Declared). x.kind)) (taken declared ds i d h is) ∙ map-append (λ (x : Declared). x.kind) (map declared (take i ds)) (declared d ∷ [])))

-- the kinds of the locals of one more part
pub local_kinds_taken : (xs : List code.Item) (i : ℕ) (x : code.Item) (found more : List Kind) → i < length xs → x ≡ get_or xs i x → found ≡ map (λ d. d.kind) (flat_map local_at (items_view (take i xs)))
    → more ≡ found ++ map (λ d. d.kind) (local_at (item x)) → more ≡ map (λ d. d.kind) (flat_map local_at (items_view (take (i + 1) xs)))
local_kinds_taken xs i x found more h is e m =
    m
    ∙ ap (λ ks. ks ++ map (λ (d : Declared). d.kind) (local_at (item x))) e
    ∙ sym (ap (map (λ (d : Declared). d.kind)) (items_taken local_at xs i x h is) ∙ map-append (λ (d : Declared). d.kind) (flat_map local_at (items_view (take i xs))) (local_at (item x)))

-- the kinds of a node's variables, as they are gathered
pub kinds_from : (node : Node) (is : List Item) (inputs outputs locals : List Kind) → is ≡ items node.body → inputs ≡ map (λ d. d.kind) (all_inputs node) → outputs ≡ map (λ d. d.kind) node.outputs
    → locals ≡ map (λ d. d.kind) (flat_map local_at is) → record { inputs = inputs; outputs = outputs; locals = locals } ≡ kinds_of node
kinds_from node is inputs outputs locals all ins outs ls =
    let most : locals ≡ (kinds_of node).locals = ls ∙ ap (λ is. map (λ d. d.kind) (flat_map local_at is)) all in
    λ i. record { inputs = ins i; outputs = outs i; locals = most i }

-- what is made of the inputs that one more run gives
pub given_taken : {Y : Type 0} (f : Declared → Y) (ds : List Declared) (cs : List run.Call) (i : ℕ) (c : run.Call) (found more : List Y) → i < length cs → c ≡ get_or cs i c
    → found ≡ map f (ds ++ flat_map (λ x. x.names) (map call (take i cs))) → more ≡ found ++ map f (call c).names → more ≡ map f (ds ++ flat_map (λ x. x.names) (map call (take (i + 1) cs)))
given_taken f ds cs i c found more h is e m =
    let names : Call → List Declared = λ x. x.names in
    let old = flat_map names (map call (take i cs)) in
    let one : old ++ (call c).names ≡ flat_map names (map call (take (i + 1) cs)) =
    sym (ap (flat_map names) (taken call cs i c h is) ∙ flat_map-append names (map call (take i cs)) (call c ∷ []) ∙ ap (λ ys. old ++ ys) (append-nil (call c).names)) in
    m
    ∙ ap (λ ys. ys ++ map f (call c).names) e
    ∙ sym (map-append f (ds ++ old) (call c).names)
    ∙ ap (map f) (append_assoc ds old (call c).names ∙ ap (λ ys. ds ++ ys) one)

pub ruleset gathered = (kind_taken, local_kinds_taken, given_taken)
