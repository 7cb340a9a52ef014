-- A stack of names keeps the place of the newest of each name.
use Rattle.std.proofs.Common.{◌≡◌, ℕ, Bool, true, false, cond, List, [], ◌∷◌, ◌++◌, Option, Some, None, Result, Ok, Err, OnOk, OnErr, reverse, drop, length, string_bytes, bytes_eq, if◌then◌else◌, refl, ap, sym, ◌∙◌, subst}
use Rattle.std.specs.Bool.{Decides}
use Rattle.std.specs.HashMap.{UpdatesBy, get}
use Rattle.std.specs.String.{string_eq}
use Rattle.std.specs.declared.string.String.{String}
use Rattle.std.specs.declared.alloc.Global.{Global}
use Rattle.std.proofs.lemmas.Bool.Decides.{same_from_decides}
use Rattle.std.proofs.lemmas.List.{length-map, length-reverse}
use Rattle.std.proofs.lemmas.Map.Text.{hash_map_updates_text}
use Rattle.std.proofs.lemmas.Slice.Eq.{bytes_eq-Decides}
use Rattle.indexmap.specs.IndexMap.{IndexMap, get_by_text}
use Rattle.lt_types.specs.inner.Scoping.{newest}
use Rattle.lt_types.specs.inner.Stacks.{item_name, names_of, Hides, Leads_to, IsIndexed}
use Rattle.lt_types.specs.declared.name_stack.Item.{Item}
use Rattle.lt_types.proofs.Stacks.{turned}

-- names are compared either way round
bytes_eq_sym : (a b : List ℕ) → bytes_eq a b ≡ bytes_eq b a
bytes_eq_sym a b =
    let back : Decides (bytes_eq b a) (a ≡ b) = (λ h. sym ((bytes_eq-Decides b a).0 h), λ e. (bytes_eq-Decides b a).1 (sym e)) in
    same_from_decides (bytes_eq a b) (bytes_eq b a) (bytes_eq-Decides a b) back

-- with one name more
placed_push : (n q : List ℕ) (names : List (List ℕ)) (old new : Option ℕ) → new ≡ cond (bytes_eq n q) (Some (length names)) old → old ≡ newest names q → new ≡ newest (n ∷ names) q
placed_push n q names old new e h =
    e ∙ ap (λ o. cond (bytes_eq n q) (Some (length names)) o) h ∙ ap (λ b. cond b (Some (length names)) (newest names q)) (bytes_eq_sym n q)

-- and without it again
pop_by : (b : Bool) (n q : List ℕ) (names : List (List ℕ)) (hidden old new : Option ℕ) → bytes_eq n q ≡ b → new ≡ cond b hidden old → old ≡ newest (n ∷ names) q → hidden ≡ newest names n → new ≡ newest names q
pop_by true n q names hidden old new t e h k = e ∙ k ∙ ap (newest names) ((bytes_eq-Decides n q).0 t)
pop_by false n q names hidden old new t e h k =
    let other : bytes_eq q n ≡ false = sym (bytes_eq_sym n q) ∙ t in
    e ∙ h ∙ ap (λ b. if b then Some (length names) else newest names q) other

placed_pop : (n q : List ℕ) (names : List (List ℕ)) (hidden old new : Option ℕ) → new ≡ cond (bytes_eq n q) hidden old → old ≡ newest (n ∷ names) q → hidden ≡ newest names n → new ≡ newest names q
placed_pop n q names hidden old new e h k = pop_by (bytes_eq n q) n q names hidden old new refl e h k

-- the first item leads and hides as it is to
rows_push : {S : Type 0} (rows : List Item) (x : Item) (old new : IndexMap (String Global) ℕ S) (count : ℕ) → count ≡ length rows → x.hidden ≡ get_by_text old (item_name x)
    → UpdatesBy string_eq (λ k. bytes_eq (item_name x) (string_bytes k)) old new (Some count) → Leads_to rows old → Leads_to (x ∷ rows) new
rows_push rows x old new count e k u h = λ q.
    let size : count ≡ length (names_of rows) = e ∙ sym (length-map rows item_name) in
    placed_push (item_name x) q (names_of rows) (get_by_text old q) (get_by_text new q)
    (hash_map_updates_text (item_name x) old new (Some count) u q ∙ ap (λ c. cond (bytes_eq (item_name x) q) (Some c) (get_by_text old q)) size)
    (h q)

rows_pop : {S : Type 0} (rows : List Item) (x : Item) (old new : IndexMap (String Global) ℕ S) → UpdatesBy string_eq (λ k. bytes_eq (item_name x) (string_bytes k)) old new x.hidden
    → Hides (x ∷ rows) → Leads_to (x ∷ rows) old → Leads_to rows new
rows_pop rows x old new u k h = λ q.
    placed_pop (item_name x) q (names_of rows) x.hidden (get_by_text old q) (get_by_text new q) (hash_map_updates_text (item_name x) old new x.hidden u q) (h q) k.0

-- an item is added
pub indexed_push : {S : Type 0} (items : List Item) (x : Item) (old new : IndexMap (String Global) ℕ S) → x.hidden ≡ get_by_text old (item_name x)
    → UpdatesBy string_eq (λ k. bytes_eq (item_name x) (string_bytes k)) old new (Some (length items)) → IsIndexed items old → IsIndexed (items ++ x ∷ []) new
indexed_push {S} items x old new k u h =
    let rows = reverse items in
    record {
      placed = subst (λ l. Leads_to {S = S} l new) (sym (turned items x)) (rows_push rows x old new (length items) (sym (length-reverse items)) k u h.placed);
      hidden = subst Hides (sym (turned items x)) (k ∙ h.placed (item_name x), h.hidden);
    }

-- and taken back
pub indexed_pop : {S : Type 0} (items : List Item) (x : Item) (old new : IndexMap (String Global) ℕ S) → UpdatesBy string_eq (λ k. bytes_eq (item_name x) (string_bytes k)) old new x.hidden
    → IsIndexed (items ++ x ∷ []) old → IsIndexed items new
indexed_pop {S} items x old new u h =
    let rows = reverse items in
    let hides : Hides (x ∷ rows) = subst Hides (turned items x) h.hidden in
    let leads : Leads_to {S = S} (x ∷ rows) old = subst (λ l. Leads_to {S = S} l old) (turned items x) h.placed in
    record { placed = rows_pop rows x old new u hides leads; hidden = hides.1 }

-- how many there are
pub indexed_length : (items : List Item) → length (names_of (reverse items)) ≡ length items
indexed_length items = length-map (reverse items) item_name ∙ length-reverse items

-- AS THE CODE DOES IT

-- one more name
pub names_push : (items : List Item) (x : Item) → names_of (reverse (items ++ x ∷ [])) ≡ item_name x ∷ names_of (reverse items)
names_push items x = ap names_of (turned items x)

pub pushed : {S : Type 0} (items more : List Item) (x : Item) (key : String Global) (place : ℕ) (old new : IndexMap (String Global) ℕ S) → more ≡ items ++ x ∷ [] → item_name x ≡ string_bytes key
    → x.hidden ≡ get_by_text old (item_name x) → place ≡ length items → UpdatesBy string_eq (string_eq key) old new (Some place) → IsIndexed items old → IsIndexed more new
pushed {S} items more x key place old new e n k p u h =
    let at : UpdatesBy string_eq (λ k. bytes_eq (item_name x) (string_bytes k)) old new (Some (length items))
    = subst (λ bytes. UpdatesBy string_eq (λ k. bytes_eq bytes (string_bytes k)) old new (Some (length items))) (sym n) (subst (λ count. UpdatesBy string_eq (string_eq key) old new (Some count)) p u) in
    subst (λ l. IsIndexed {S = S} l new) (sym e) (indexed_push items x old new k at h)

-- one less
pub names_pop : (items rest : List Item) (x : Item) → items ≡ rest ++ x ∷ [] → names_of (reverse rest) ≡ drop 1 (names_of (reverse items))
names_pop items rest x e = sym (ap (drop 1) (ap (λ l. names_of (reverse l)) e ∙ names_push rest x))

-- where it hid none
pub removed : {S : Type 0} (items rest : List Item) (x : Item) (bytes : List ℕ) (old new : IndexMap (String Global) ℕ S) → items ≡ rest ++ x ∷ [] → x.hidden ≡ None → bytes ≡ item_name x
    → UpdatesBy string_eq (λ k. bytes_eq bytes (string_bytes k)) old new None → IsIndexed items old → IsIndexed rest new
removed {S} items rest x bytes old new e k n u h =
    let at : UpdatesBy string_eq (λ k. bytes_eq (item_name x) (string_bytes k)) old new None = subst (λ bs. UpdatesBy string_eq (λ k. bytes_eq bs (string_bytes k)) old new None) n u in
    indexed_pop rest x old new (subst (λ w. UpdatesBy string_eq (λ k. bytes_eq (item_name x) (string_bytes k)) old new w) (sym k) at) (subst (λ l. IsIndexed {S = S} l old) e h)

-- a name that is there is found
found_there : {S : Type 0} (rest : List Item) (x : Item) (places : IndexMap (String Global) ℕ S) → IsIndexed (rest ++ x ∷ []) places → get_by_text places (item_name x) ≡ Some (length (names_of (reverse rest)))
found_there rest x places h =
    let names = names_of (reverse rest) in
    let same : bytes_eq (item_name x) (item_name x) ≡ true = (bytes_eq-Decides (item_name x) (item_name x)).1 refl in
    h.placed (item_name x) ∙ ap (λ ns. newest ns (item_name x)) (names_push rest x) ∙ ap (λ b. if b then Some (length names) else newest names (item_name x)) same

-- so that no memory is wanted for it
no_memory : {E : Type 0} (r : Result (Option ℕ) E) (P : Type 0) (o : Option ℕ) (n : ℕ) → OnOk r P → OnErr r (o ≡ None) → o ≡ Some n → P
no_memory (Ok x) P o n h k e = h
no_memory (Err x) P o n h k e = let untrue : None ≡ Some n = sym k ∙ e in absurd (cc untrue)

-- where it hid one
pub restored : {S E : Type 0} (items rest : List Item) (x : Item) (place : ℕ) (r : Result (Option ℕ) E) (old new : IndexMap (String Global) ℕ S) → items ≡ rest ++ x ∷ [] → x.hidden ≡ Some place
    → OnOk r (UpdatesBy string_eq (string_eq x.name) old new (Some place)) → OnErr r (get string_eq old x.name ≡ None) → IsIndexed items old → IsIndexed rest new
restored {S} items rest x place r old new e k u a h =
    let there : IsIndexed {S = S} (rest ++ x ∷ []) old = subst (λ l. IsIndexed {S = S} l old) e h in
    let updated = no_memory r (UpdatesBy string_eq (string_eq x.name) old new (Some place)) (get string_eq old x.name) (length (names_of (reverse rest))) u a (found_there rest x old there) in
    indexed_pop rest x old new (subst (λ w. UpdatesBy string_eq (λ k. bytes_eq (item_name x) (string_bytes k)) old new w) (sym k) updated) there
