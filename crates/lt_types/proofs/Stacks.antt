-- Names from the newest to the oldest, where the code has them the other way round.
use Rattle.std.proofs.Common.{◌≡◌, ℕ, suc, Bool, true, false, not, ◌||◌, is_some, ◌+◌, ◌-◌, ◌<◌, ◌≤◌, List, [], ◌∷◌, ◌++◌, map, reverse, take, drop, length, get_or, bytes_eq, if◌then◌else◌, Some, None, Option, nat_le, ◌⊎◌, inl, inr, zero, refl, ap, sym, ◌∙◌, subst, arith, length-append}
use Rattle.std.proofs.lemmas.List.{reverse-append, length-reverse, length-take-le, length-map, get_or-reverse, get_or-map, take-append-drop, drop_at, map_more, map_push, drop_more, take-map, length-drop}
use Rattle.std.proofs.lemmas.Bool.Decides.{nat_tests}
use Rattle.std.proofs.lemmas.Bool.{cases_lt}
use Rattle.std.proofs.lemmas.Slice.Eq.{bytes_eq-Decides}
use Rattle.lt_types.specs.Environment as e
use Rattle.lt_types.specs.Environment.{Binding, is_among, found, found_node, node_names}
use Rattle.lt_ast.specs.declared.name.Name.{Name}
use Rattle.lt_ast.specs.Letters.{letters}
use Rattle.lt_ast.specs.View.{word}
use Rattle.lt_types.specs.Answer.{Leads, first}
use Rattle.lt_types.specs.Refusals.{new_names, unless}
use Rattle.lt_types.specs.declared.entry.Entry.{Entry}
use Rattle.lt_types.specs.declared.node_types.NodeTypes.{NodeTypes}
use Rattle.lt_types.specs.declared.refusal.TypeRefusal.TheVariants.{Twice}
use Rattle.lt_types.specs.inner.Scoping.{newest, oldest, since, bindings, entry_view, node_view, nodes_of}

-- one more
pub turned : {X : Type 0} (xs : List X) (x : X) → reverse (xs ++ (x ∷ [])) ≡ x ∷ reverse xs
turned xs x = reverse-append xs (x ∷ [])

-- the oldest stand first in the code
pub oldest_turned : {X : Type 0} (count : ℕ) (xs : List X) → count ≤ length xs → oldest count (reverse xs) ≡ reverse (take count xs)
oldest_turned {X} count xs h =
    let parts : reverse xs ≡ reverse (drop count xs) ++ reverse (take count xs) = ap reverse (sym (take-append-drop count xs)) ∙ reverse-append (take count xs) (drop count xs) in
    let front : length (reverse (drop count xs)) ≡ length (reverse xs) - count = omega (arith, ap length parts, length-append (reverse (drop count xs)) (reverse (take count xs)), length-reverse (take count xs), length-take-le count xs h) in
    ap (λ l. drop (length (reverse xs) - count) l) parts ∙ drop_at (reverse (drop count xs)) (reverse (take count xs)) (length (reverse xs) - count) front

-- what is left of a stack
pub oldest_taken : {X Y : Type 0} (f : X → Y) (count : ℕ) (xs : List X) → count ≤ length (reverse (map f xs)) → reverse (map f (take count xs)) ≡ oldest count (reverse (map f xs))
oldest_taken f count xs h =
    ap reverse (sym (take-map f count xs)) ∙ sym (oldest_turned count (map f xs) (omega (arith, length-reverse (map f xs))))

-- with one more
pub since_more : {X : Type 0} (from : ℕ) (x : X) (xs : List X) → from ≤ length xs → since from (x ∷ xs) ≡ x ∷ since from xs
since_more from x xs h =
    let less : suc (length xs) - from ≡ suc (length xs - from) = omega arith in
    ap (λ k. take k (x ∷ xs)) less

pub oldest_more : {X : Type 0} (count : ℕ) (x : X) (xs : List X) → count ≤ length xs → oldest count (x ∷ xs) ≡ oldest count xs
oldest_more count x xs h =
    let less : suc (length xs) - count ≡ suc (length xs - count) = omega arith in
    ap (λ k. drop k (x ∷ xs)) less

-- all of them are left
pub oldest_all : {X : Type 0} (xs : List X) → oldest (length xs) xs ≡ xs
oldest_all xs = let none : length xs - length xs ≡ 0 = omega arith in ap (λ k. drop k xs) none

pub ruleset stack_steps = (since_more, oldest_more, oldest_all)

-- where a test decides
among_by : (b : Bool) (place : ℕ) (o : Option ℕ) (other : Bool) → is_some o ≡ other → is_some (if b then Some place else o) ≡ (b || other)
among_by true place o other h = refl
among_by false place o other h = h

-- a name that is known
pub newest_among : (ns : List (List ℕ)) (name : List ℕ) → is_some (newest ns name) ≡ is_among name ns
newest_among [] name = refl
newest_among (n ∷ ns) name = among_by (bytes_eq name n) (length ns) (newest ns name) (is_among name ns) (newest_among ns name)

-- whether a place is at least this one
abbrev at_least : ℕ → Option ℕ → Bool
at_least from None = false
at_least from (Some place) = nat_le from place

-- a test decides where a place is
at_least_by : (b : Bool) (from place : ℕ) (o : Option ℕ) → at_least from (if b then Some place else o) ≡ (if b then nat_le from place else at_least from o)
at_least_by true from place o = refl
at_least_by false from place o = refl

-- either way
both_false : (b x y : Bool) → x ≡ false → y ≡ false → (if b then x else y) ≡ false
both_false true x y h k = h
both_false false x y h k = k

-- or the first is true
true_or : (b x y : Bool) → x ≡ true → (if b then x else y) ≡ (b || y)
true_or true x y h = h
true_or false x y h = refl

-- none is so new
at_least_none : (from : ℕ) (ns : List (List ℕ)) (name : List ℕ) → length ns ≤ from → at_least from (newest ns name) ≡ false
at_least_none from [] name h = refl
at_least_none from (n ∷ ns) name h =
    let older : nat_le from (length ns) ≡ false = grind (arith, nat_tests) in
    at_least_by (bytes_eq name n) from (length ns) (newest ns name) ∙ both_false (bytes_eq name n) _ _ older (at_least_none from ns name (omega arith))

-- one name more
among_step : (from : ℕ) (n : List ℕ) (ns : List (List ℕ)) (name : List ℕ) → is_among name (since from ns) ≡ at_least from (newest ns name)
    → (length ns < from) ⊎ (from ≤ length ns) → is_among name (since from (n ∷ ns)) ≡ at_least from (newest (n ∷ ns) name)
among_step from n ns name e (inr h) =
    let newer : nat_le from (length ns) ≡ true = grind (arith, nat_tests) in
    ap (is_among name) (since_more from n ns h) ∙ ap (λ b. bytes_eq name n || b) e
    ∙ sym (at_least_by (bytes_eq name n) from (length ns) (newest ns name) ∙ true_or (bytes_eq name n) _ _ newer)
among_step from n ns name e (inl h) =
    let none : suc (length ns) - from ≡ 0 = omega arith in
    ap (λ k. is_among name (take k (n ∷ ns))) none ∙ sym (at_least_none from (n ∷ ns) name (omega arith))

-- the names that are new enough
among_since : (from : ℕ) (ns : List (List ℕ)) (name : List ℕ) → is_among name (since from ns) ≡ at_least from (newest ns name)
among_since from [] name = let none : 0 - from ≡ 0 = omega arith in ap (λ k. is_among name (take k [])) none
among_since from (n ∷ ns) name = among_step from n ns name (among_since from ns name) (cases_lt (length ns) from)

-- as the code tests it
pub newest_since_some : (from : ℕ) (ns : List (List ℕ)) (name : List ℕ) (place : ℕ) → newest ns name ≡ Some place → is_among name (since from ns) ≡ nat_le from place
newest_since_some from ns name place e = among_since from ns name ∙ ap (at_least from) e

pub newest_since_none : (from : ℕ) (ns : List (List ℕ)) (name : List ℕ) → newest ns name ≡ None → is_among name (since from ns) ≡ false
newest_since_none from ns name e = among_since from ns name ∙ ap (at_least from) e

pub ruleset newest_since = (newest_since_some, newest_since_none)

-- BINDINGS

-- there are as many as names
bindings_length : (ns : List (List ℕ)) (es : List e.Entry) → length ns ≡ length es → length (bindings ns es) ≡ length ns
bindings_length [] es h = refl
bindings_length (n ∷ ns) [] h = absurd (omega arith)
bindings_length (n ∷ ns) (x ∷ xs) h = ap suc (bindings_length ns xs (omega arith))

-- their names
bindings_names : (ns : List (List ℕ)) (es : List e.Entry) → length ns ≡ length es → map (λ (b : Binding). b.name) (bindings ns es) ≡ ns
bindings_names [] es h = refl
bindings_names (n ∷ ns) [] h = absurd (omega arith)
bindings_names (n ∷ ns) (x ∷ xs) h = ap (λ l. n ∷ l) (bindings_names ns xs (omega arith))

-- without the first ones
bindings_drop : (count : ℕ) (ns : List (List ℕ)) (es : List e.Entry) → length ns ≡ length es → bindings (drop count ns) (drop count es) ≡ drop count (bindings ns es)
bindings_drop zero ns es h = refl
bindings_drop (suc count) [] es h = refl
bindings_drop (suc count) (n ∷ ns) [] h = absurd (omega arith)
bindings_drop (suc count) (n ∷ ns) (x ∷ xs) h = bindings_drop count ns xs (omega arith)

-- steps of what follows, where a test decides
below_by : (b : Bool) (ns : List (List ℕ)) (o : Option ℕ) (place : ℕ) → (if b then Some (length ns) else o) ≡ Some place → (o ≡ Some place → place < length ns) → place < suc (length ns)
below_by true ns o place e h = let same : length ns ≡ place = cc in omega arith
below_by false ns o place e h = let less : place < length ns = h e in omega arith

found_by : (b : Bool) (x : e.Entry) (xs : List e.Entry) (found : Option e.Entry) (o : Option ℕ) (count place : ℕ) (d : e.Entry) → count ≡ length xs
    → (if b then Some count else o) ≡ Some place → (o ≡ Some place → place < count) → (o ≡ Some place → found ≡ Some (get_or xs (length xs - 1 - place) d))
    → (if b then Some x else found) ≡ Some (get_or (x ∷ xs) (suc (length xs) - 1 - place) d)
found_by true x xs found o count place d h e below f =
    let same : count ≡ place = cc in
    let front : suc (length xs) - 1 - place ≡ 0 = omega arith in
    sym (ap (λ k. Some (get_or (x ∷ xs) k d)) front)
found_by false x xs found o count place d h e below f =
    let less : place < count = below e in
    let further : suc (length xs) - 1 - place ≡ suc (length xs - 1 - place) = omega arith in
    f e ∙ sym (ap (λ k. Some (get_or (x ∷ xs) k d)) further)

none_by : (b : Bool) (x : e.Entry) (found : Option e.Entry) (o : Option ℕ) (count : ℕ) → (if b then Some count else o) ≡ None → (o ≡ None → found ≡ None)
    → (if b then Some x else found) ≡ None
none_by true x found o count e h = absurd (cc)
none_by false x found o count e h = h e

-- a place is one of them
pub newest_below : (ns : List (List ℕ)) (name : List ℕ) (place : ℕ) → newest ns name ≡ Some place → place < length ns
newest_below [] name place e = absurd (cc)
newest_below (n ∷ ns) name place e = below_by (bytes_eq name n) ns (newest ns name) place e (newest_below ns name place)

-- what the newest of the names stands for, from the end
found_turned : (ns : List (List ℕ)) (es : List e.Entry) (name : List ℕ) (place : ℕ) (d : e.Entry) → length ns ≡ length es → newest ns name ≡ Some place
    → found (bindings ns es) name ≡ Some (get_or es (length es - 1 - place) d)
found_turned [] es name place d h e = absurd (cc)
found_turned (n ∷ ns) [] name place d h e = absurd (omega arith)
found_turned (n ∷ ns) (x ∷ xs) name place d h e = found_by (bytes_eq name n) x xs (found (bindings ns xs) name) (newest ns name) (length ns) place d (omega arith) e (newest_below ns name place) (found_turned ns xs name place d (omega arith))

-- what the newest of the names stands for
found_some : (ns : List (List ℕ)) (entries : List Entry) (name : List ℕ) (place : ℕ) (x : Entry) → length ns ≡ length entries → newest ns name ≡ Some place
    → x ≡ get_or entries place x → found (bindings ns (reverse (map entry_view entries))) name ≡ Some (entry_view x)
found_some ns entries name place x h at is =
    let es : List e.Entry = map entry_view entries in
    let count : length es ≡ length entries = length-map entries entry_view in
    let turned_count : length (reverse es) ≡ length es = length-reverse es in
    let below : place < length ns = newest_below ns name place at in
    let back : length es - 1 - (length (reverse es) - 1 - place) ≡ place = omega arith in
    found_turned ns (reverse es) name place (entry_view x) (omega arith) at
    ∙ ap (λ y. Some y) (get_or-reverse es (length (reverse es) - 1 - place) (entry_view x) (omega arith)
    ∙ ap (λ k. get_or es k (entry_view x)) back ∙ get_or-map entry_view entries place x (entry_view x) (omega arith) ∙ ap entry_view (sym is))

-- or that there is none
found_none : (ns : List (List ℕ)) (es : List e.Entry) (name : List ℕ) → length ns ≡ length es → newest ns name ≡ None → found (bindings ns es) name ≡ None
found_none [] es name h e = refl
found_none (n ∷ ns) [] name h e = refl
found_none (n ∷ ns) (x ∷ xs) name h e = none_by (bytes_eq name n) x (found (bindings ns xs) name) (newest ns name) (length ns) e (found_none ns xs name (omega arith))

-- what was declared, and how much of it
bindings_since : (from : ℕ) (ns : List (List ℕ)) (es : List e.Entry) → length ns ≡ length es → map (λ (b : Binding). b.name) (since from (bindings ns es)) ≡ since from ns
bindings_since from ns es h =
    sym (take-map (λ (b : Binding). b.name) (length (bindings ns es) - from) (bindings ns es))
    ∙ ap (take (length (bindings ns es) - from)) (bindings_names ns es h) ∙ ap (λ k. take (k - from) ns) (bindings_length ns es h)

bindings_oldest : (count : ℕ) (ns : List (List ℕ)) (es : List e.Entry) → length ns ≡ length es → bindings (oldest count ns) (oldest count es) ≡ oldest count (bindings ns es)
bindings_oldest count ns es h =
    ap (λ k. bindings (drop (length ns - count) ns) (drop (k - count) es)) (sym h) ∙ bindings_drop (length ns - count) ns es h
    ∙ ap (λ k. drop (k - count) (bindings ns es)) (sym (bindings_length ns es h))

-- THE SAME OF WHAT A SCOPE HAS

-- what names stand for, from the newest on
entries_length : (entries : List Entry) → length (reverse (map entry_view entries)) ≡ length entries
entries_length entries = length-reverse (map entry_view entries) ∙ length-map entries entry_view

pub scope_length : (ns : List (List ℕ)) (entries : List Entry) → length ns ≡ length entries → length (bindings ns (reverse (map entry_view entries))) ≡ length ns
scope_length ns entries h = bindings_length ns (reverse (map entry_view entries)) (h ∙ sym (entries_length entries))

pub scope_since : (from : ℕ) (ns : List (List ℕ)) (entries : List Entry) → length ns ≡ length entries
    → map (λ (b : Binding). b.name) (since from (bindings ns (reverse (map entry_view entries)))) ≡ since from ns
scope_since from ns entries h = bindings_since from ns (reverse (map entry_view entries)) (h ∙ sym (entries_length entries))

pub scope_oldest : (count : ℕ) (ns : List (List ℕ)) (entries : List Entry) → length ns ≡ length entries → count ≤ length ns
    → bindings (oldest count ns) (reverse (map entry_view (take count entries))) ≡ oldest count (bindings ns (reverse (map entry_view entries)))
scope_oldest count ns entries h k =
    ap (bindings (oldest count ns)) (oldest_taken entry_view count entries (omega (arith, entries_length entries)))
    ∙ bindings_oldest count ns (reverse (map entry_view entries)) (h ∙ sym (entries_length entries))

pub scope_found : (ns : List (List ℕ)) (entries : List Entry) (name : List ℕ) (place : ℕ) (x : Entry) → length ns ≡ length entries → newest ns name ≡ Some place
    → x ≡ get_or entries place x → found (bindings ns (reverse (map entry_view entries))) name ≡ Some (entry_view x)
scope_found = found_some

pub scope_unknown : (ns : List (List ℕ)) (entries : List Entry) (name : List ℕ) → length ns ≡ length entries → newest ns name ≡ None
    → found (bindings ns (reverse (map entry_view entries))) name ≡ None
scope_unknown ns entries name h at = found_none ns (reverse (map entry_view entries)) name (h ∙ sym (entries_length entries)) at

pub oldest_length : {X : Type 0} (count : ℕ) (xs : List X) → count ≤ length xs → length (oldest count xs) ≡ count
oldest_length count xs h = omega (arith, length-drop (length xs - count) xs)

pub ruleset scope_steps = (scope_length, scope_since, scope_oldest, scope_found, scope_unknown, newest_below, oldest_length, length-take-le, turned, map_push)

-- NODES

-- their names
nodes_names : (ns : List (List ℕ)) (types : List NodeTypes) → length ns ≡ length types → node_names (nodes_of ns types) ≡ ns
nodes_names [] types h = refl
nodes_names (n ∷ ns) [] h = absurd (omega arith)
nodes_names (n ∷ ns) (x ∷ xs) h = ap (λ l. n ∷ l) (nodes_names ns xs (omega arith))

-- the newest one of a name, where a test decides
node_by : (b : Bool) (name n : List ℕ) (x : NodeTypes) (xs : List NodeTypes) (found : Option e.Node) (o : Option ℕ) (count place : ℕ) (d : NodeTypes) → count ≡ length xs
    → (b ≡ true → name ≡ n) → (if b then Some count else o) ≡ Some place → (o ≡ Some place → place < count)
    → (o ≡ Some place → found ≡ Some (node_view name (get_or xs (length xs - 1 - place) d)))
    → (if b then Some (node_view n x) else found) ≡ Some (node_view name (get_or (x ∷ xs) (suc (length xs) - 1 - place) d))
node_by true name n x xs found o count place d h s e below f =
    let same : count ≡ place = cc in
    let front : suc (length xs) - 1 - place ≡ 0 = omega arith in
    ap (λ m. Some (node_view m x)) (sym (s refl)) ∙ sym (ap (λ k. Some (node_view name (get_or (x ∷ xs) k d))) front)
node_by false name n x xs found o count place d h s e below f =
    let less : place < count = below e in
    let further : suc (length xs) - 1 - place ≡ suc (length xs - 1 - place) = omega arith in
    f e ∙ sym (ap (λ k. Some (node_view name (get_or (x ∷ xs) k d))) further)

unknown_by : (b : Bool) (x : e.Node) (found : Option e.Node) (o : Option ℕ) (count : ℕ) → (if b then Some count else o) ≡ None → (o ≡ None → found ≡ None)
    → (if b then Some x else found) ≡ None
unknown_by true x found o count e h = absurd (cc)
unknown_by false x found o count e h = h e

-- the newest one of a name, from the end
node_turned : (ns : List (List ℕ)) (types : List NodeTypes) (name : List ℕ) (place : ℕ) (d : NodeTypes) → length ns ≡ length types → newest ns name ≡ Some place
    → found_node (nodes_of ns types) name ≡ Some (node_view name (get_or types (length types - 1 - place) d))
node_turned [] types name place d h e = absurd (cc)
node_turned (n ∷ ns) [] name place d h e = absurd (omega arith)
node_turned (n ∷ ns) (x ∷ xs) name place d h e =
    node_by (bytes_eq name n) name n x xs (found_node (nodes_of ns xs) name) (newest ns name) (length ns) place d (omega arith) (λ t. (bytes_eq-Decides name n).0 t) e
    (newest_below ns name place) (node_turned ns xs name place d (omega arith))

-- or that there is none
node_none : (ns : List (List ℕ)) (types : List NodeTypes) (name : List ℕ) → length ns ≡ length types → newest ns name ≡ None → found_node (nodes_of ns types) name ≡ None
node_none [] types name h e = refl
node_none (n ∷ ns) [] name h e = refl
node_none (n ∷ ns) (x ∷ xs) name h e =
    unknown_by (bytes_eq name n) (node_view n x) (found_node (nodes_of ns xs) name) (newest ns name) (length ns) e (node_none ns xs name (omega arith))

-- the same of what a scope has
pub scope_node_names : (ns : List (List ℕ)) (types : List NodeTypes) → length ns ≡ length types → node_names (nodes_of ns (reverse types)) ≡ ns
scope_node_names ns types h = nodes_names ns (reverse types) (h ∙ sym (length-reverse types))

pub scope_node : (ns : List (List ℕ)) (types : List NodeTypes) (name : List ℕ) (place : ℕ) (x : NodeTypes) → length ns ≡ length types → newest ns name ≡ Some place
    → x ≡ get_or types place x → found_node (nodes_of ns (reverse types)) name ≡ Some (node_view name x)
scope_node ns types name place x h at is =
    let count : length (reverse types) ≡ length types = length-reverse types in
    let below : place < length ns = newest_below ns name place at in
    let back : length types - 1 - (length (reverse types) - 1 - place) ≡ place = omega arith in
    node_turned ns (reverse types) name place x (h ∙ sym count) at
    ∙ ap (λ y. Some (node_view name y)) (get_or-reverse types (length (reverse types) - 1 - place) x (omega arith) ∙ ap (λ k. get_or types k x) back ∙ sym is)

pub scope_no_node : (ns : List (List ℕ)) (types : List NodeTypes) (name : List ℕ) → length ns ≡ length types → newest ns name ≡ None
    → found_node (nodes_of ns (reverse types)) name ≡ None
scope_no_node ns types name h at = node_none ns (reverse types) name (h ∙ sym (length-reverse types)) at

pub new_node_names : (ns : List (List ℕ)) (types : List NodeTypes) (name : List ℕ) → length ns ≡ length types → is_among name (node_names (nodes_of ns (reverse types))) ≡ is_some (newest ns name)
new_node_names ns types name h = ap (is_among name) (scope_node_names ns types h) ∙ sym (newest_among ns name)

pub ruleset node_steps = (scope_node, scope_no_node, scope_node_names, newest_below, turned)

-- NEW NAMES

-- the next one
pub drop_next : {X : Type 0} (xs : List X) (i : ℕ) (x : X) → i < length xs → x ≡ get_or xs i x → drop i xs ≡ x ∷ drop (i + 1) xs
drop_next xs i x h is = drop_more xs i x h ∙ ap (λ y. y ∷ drop (i + 1) xs) (sym is)

-- one that is taken is refused first
pub new_taken : (taken : List (List ℕ)) (items : List Name) (i : ℕ) (x : Name) → i < length items → x ≡ get_or items i x → is_among (letters x.text) taken ≡ true
    → Leads (Twice x.span) (new_names taken (map word (drop i items)))
new_taken taken items i x h is e =
    let among : new_names taken (map word (x ∷ drop (i + 1) items)) ≡ Twice x.span ∷ new_names (letters x.text ∷ taken) (map word (drop (i + 1) items)) = ap (λ b. unless (not b) (Twice x.span) ++ new_names (letters x.text ∷ taken) (map word (drop (i + 1) items))) e in
    subst (λ rs. Leads (Twice x.span) rs) (sym (ap (λ l. new_names taken (map word l)) (drop_next items i x h is) ∙ among)) (first (Twice x.span) _)

-- one that is not counts among the taken ones from there on
pub new_free : (taken : List (List ℕ)) (items : List Name) (i : ℕ) (x : Name) → i < length items → x ≡ get_or items i x → is_among (letters x.text) taken ≡ false
    → new_names taken (map word (drop i items)) ≡ new_names (letters x.text ∷ taken) (map word (drop (i + 1) items))
new_free taken items i x h is e =
    ap (λ l. new_names taken (map word l)) (drop_next items i x h is)
    ∙ ap (λ b. unless (not b) (Twice x.span) ++ new_names (letters x.text ∷ taken) (map word (drop (i + 1) items))) e

pub ruleset new_steps = (new_taken, new_free, since_more, oldest_more, oldest_all)
