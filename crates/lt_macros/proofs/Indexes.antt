-- Names that are found by the index.
use Rattle.std.proofs.Common.{◌≡◌, ℕ, zero, suc, ◌-◌, ◌<◌, ◌≤◌, Bool, true, false, cond, ◌&&◌, not, IsTrue, List, [], ◌∷◌, ◌++◌, length, map, get_or, slice_get, take, reverse, if◌then◌else◌, bytes_eq, nat_eq, nat_le, nat_lt, option_map, Option, None, Some, unwrap_or, is_some, refl, ap, sym, true≢false, ◌∙◌, subst, arith, length-append}
use Rattle.std.specs.Bool.{Decides}
use Rattle.std.specs.Borrow.{Bor}
use Rattle.std.specs.HashMap.{Updates, get}
use Rattle.std.specs.Result.{OnErr, OnOk}
use Rattle.std.specs.declared.result.Result.{Result}
use Rattle.std.specs.declared.result.Result.TheVariants.{Ok, Err}
use Rattle.std.proofs.lemmas.List.{length-reverse, reverse-append, length-take-le, length-map}
use Rattle.std.proofs.lemmas.Bool.{leb-true, leb-false, ltb-true, ltb-false}
use Rattle.std.proofs.lemmas.Bool.Decides.{Decides-eqb, same_from_decides}
use Rattle.std.proofs.lemmas.Option.{get_or_from_slice_get, slice_get_read, slice_get_within}
use Rattle.std.proofs.lemmas.Slice.Eq.{bytes_eq-Decides}
use Rattle.indexmap.specs.IndexMap.{IndexMap}
use Rattle.lt_macros.specs.Environment.{found, found_exception}
use Rattle.lt_macros.specs.inner.Hidden.{AreKeyed, IsIndexed, is_key, item_key, key_in, key_of, kind_of, newest_below, number_in, outer_in, run_before, run_from, run_in, run_of, same_key}
use Rattle.lt_macros.specs.inner.Reading.{Reading, environment, are_linked, declared_by, is_linked, is_name, meant, newest, raised_by}
use Rattle.lt_macros.specs.contracts.key.NameKindPartialEq.TheImpl.{eq-value as eq-kind}
use Rattle.lt_macros.specs.declared.index.Item.{Item}
use Rattle.lt_macros.specs.declared.key.Key.{Key}
use Rattle.lt_macros.specs.declared.key.NameKind.{NameKind}
use Rattle.lt_macros.specs.declared.key.NameKind.TheVariants.{Name, Exception}
use Rattle.lt_macros.specs.declared.scope.Declared.{Declared}
use Rattle.lt_macros.specs.declared.scope.Binding.{Binding}
use Rattle.lt_macros.specs.declared.scope.Binding.TheVariants as code
use Rattle.lt_macros.specs.declared.scope.Entry.{Entry}
use Rattle.lt_macros.proofs.Environments.{both, Makes, makes, exception_here, exception_there, found_here, found_there, stands_at}

-- LISTS

kept_push : {X : Type 0} (xs : List X) (e : X) (i : ℕ) → i < length xs → slice_get (xs ++ e ∷ []) i ≡ slice_get xs i
kept_push [] e i h = absurd (omega (arith, h))
kept_push (x ∷ xs) e zero h = refl
kept_push (x ∷ xs) e (suc i) h = kept_push xs e i (omega (arith, h))

last_push : {X : Type 0} (xs : List X) (e : X) → slice_get (xs ++ e ∷ []) (length xs) ≡ Some e
last_push [] e = refl
last_push (x ∷ xs) e = last_push xs e

kept_take : {X : Type 0} (n : ℕ) (xs : List X) (i : ℕ) → i < n → slice_get (take n xs) i ≡ slice_get xs i
kept_take zero xs i h = absurd (omega (arith, h))
kept_take (suc n) [] i h = refl
kept_take (suc n) (x ∷ xs) zero h = refl
kept_take (suc n) (x ∷ xs) (suc i) h = kept_take n xs i (omega (arith, h))

-- one that isn't there
slice_get_inside : {X : Type 0} (xs : List X) (i : ℕ) → slice_get xs i ≡ None → length xs ≤ i
slice_get_inside [] i h = omega arith
slice_get_inside (x ∷ xs) zero h = absurd (cc)
slice_get_inside (x ∷ xs) (suc i) h = omega (arith, slice_get_inside xs i h)

some_same : {X : Type 0} (x y : X) → Some x ≡ Some y → x ≡ y
some_same x y h = ap (λ o. unwrap_or o x) h

first_true : (a b : Bool) → a && b ≡ true → a ≡ true
first_true true b h = refl
first_true false b h = h

second_true : (a b : Bool) → a && b ≡ true → b ≡ true
second_true true b h = h
second_true false b h = absurd (cc)

-- KEYS

kinds_same : (a b : NameKind) → eq-kind.it a b ≡ true → a ≡ b
kinds_same Name Name h = refl
kinds_same Exception Exception h = refl
kinds_same Name Exception h = absurd (true≢false (sym h))
kinds_same Exception Name h = absurd (true≢false (sym h))

kind_same : (a : NameKind) → eq-kind.it a a ≡ true
kind_same Name = refl
kind_same Exception = refl

-- whether a key has this name of a kind
abbrev named_so : Key → Key → Bool
named_so a b = eq-kind.it a.kind b.kind && bytes_eq a.name.now b.name.now

same_run : (a b : Key) → same_key a b ≡ true → a.run ≡ b.run
same_run a b h = (Decides-eqb a.run b.run).0 (first_true (nat_eq a.run b.run) _ h)

same_for : (x a b : Key) → same_key a b ≡ true → same_key x a ≡ same_key x b
same_for x a b h =
    let rest = second_true (nat_eq a.run b.run) _ h in
    let run = same_run a b h in
    let kind = kinds_same a.kind b.kind (first_true (eq-kind.it a.kind b.kind) _ rest) in
    let name = (bytes_eq-Decides a.name.now b.name.now).0 (second_true (eq-kind.it a.kind b.kind) _ rest) in
    λ i. nat_eq x.run (run i) && (eq-kind.it x.kind (kind i) && bytes_eq x.name.now (name i))

same_here : (a : Key) → same_key a a ≡ true
same_here a = λ i. (Decides-eqb a.run a.run).1 refl i && (kind_same a.kind i && (bytes_eq-Decides a.name.now a.name.now).1 refl i)

-- so many are the same in both
abbrev Agree : List Key → List Key → ℕ → Type 0
Agree ks ls count = (i : ℕ) → i < count → slice_get ks i ≡ slice_get ls i

same_below : (ks ls : List Key) (key : Key) (k : ℕ) → Agree ks ls k → newest_below ks key k ≡ newest_below ls key k
same_below ks ls key zero h = refl
same_below ks ls key (suc k) h =
    let last = h k (omega arith) in
    let rest = same_below ks ls key k (λ i l. h i (omega (arith, l))) in
    λ j. if is_key (last j) key then suc k else rest j

-- a key that is the same leads to the same
is_key_for : (o : Option Key) (a b : Key) → same_key a b ≡ true → is_key o a ≡ is_key o b
is_key_for None a b h = refl
is_key_for (Some x) a b h = same_for x a b h

below_for : (ks : List Key) (a b : Key) (k : ℕ) → same_key a b ≡ true → newest_below ks a k ≡ newest_below ks b k
below_for ks a b zero h = refl
below_for ks a b (suc k) h =
    let last = is_key_for (slice_get ks k) a b h in
    let rest = below_for ks a b k h in
    λ j. if last j then suc k else rest j

-- no item is newer than the last
below_by : (b : Bool) (n k : ℕ) → n ≤ k → (if b then suc k else n) ≤ suc k
below_by true n k h = omega arith
below_by false n k h = omega (arith, h)

pub below : (ks : List Key) (key : Key) (k : ℕ) → newest_below ks key k ≤ k
below ks key zero = omega arith
below ks key (suc k) = below_by (is_key (slice_get ks k) key) (newest_below ks key k) k (below ks key k)

-- one step down
down_true : (ks : List Key) (key : Key) (k : ℕ) → is_key (slice_get ks k) key ≡ true → newest_below ks key (suc k) ≡ suc k
down_true ks key k h = ap (λ b. if b then suc k else newest_below ks key k) h

down_false : (ks : List Key) (key : Key) (k : ℕ) → is_key (slice_get ks k) key ≡ false → newest_below ks key (suc k) ≡ newest_below ks key k
down_false ks key k h = ap (λ b. if b then suc k else newest_below ks key k) h

-- the newest of all is the newest of fewer, where it is among these
settled_at : (ks : List Key) (key : Key) (top k : ℕ) (named within : Bool) → is_key (slice_get ks top) key ≡ named → nat_le k top ≡ within → k ≤ suc top → newest_below ks key (suc top) ≤ k
    → (k ≤ top → newest_below ks key top ≤ k → newest_below ks key top ≡ newest_below ks key k) → newest_below ks key (suc top) ≡ newest_below ks key k
settled_at ks key top k true b is le h l rest =
    let last : suc top ≡ k = omega (arith, down_true ks key top is, l, h) in
    ap (newest_below ks key) last
settled_at ks key top k false true is le h l rest =
    let one = down_false ks key top is in
    one ∙ rest (leb-true k top le) (omega (arith, one, l))
settled_at ks key top k false false is le h l rest =
    let last : suc top ≡ k = omega (arith, h, leb-false k top le) in
    ap (newest_below ks key) last

settled : (ks : List Key) (key : Key) (top k : ℕ) → k ≤ top → newest_below ks key top ≤ k → newest_below ks key top ≡ newest_below ks key k
settled ks key zero k h l =
    let last : zero ≡ k = omega (arith, h) in
    ap (newest_below ks key) last
settled ks key (suc top) k h l = settled_at ks key top k (is_key (slice_get ks top) key) (nat_le k top) refl refl h l (settled ks key top k)

-- the newest of a key is one of it
key_by : (ks : List Key) (key : Key) (k j : ℕ) (b : Bool) → is_key (slice_get ks k) key ≡ b → newest_below ks key (suc k) ≡ suc j
    → (newest_below ks key k ≡ suc j → is_key (slice_get ks j) key ≡ true) → is_key (slice_get ks j) key ≡ true
key_by ks key k j true n is rest =
    let last : k ≡ j = omega (arith, is, down_true ks key k n) in
    subst (λ i. is_key (slice_get ks i) key ≡ true) last n
key_by ks key k j false n is rest = rest (sym (down_false ks key k n) ∙ is)

key_there : (ks : List Key) (key : Key) (k j : ℕ) → newest_below ks key k ≡ suc j → is_key (slice_get ks j) key ≡ true
key_there ks key zero j is = absurd (omega (arith, is))
key_there ks key (suc k) j is = key_by ks key k j (is_key (slice_get ks k) key) refl is (key_there ks key k j)

-- ITEMS

key_at : (items : List Item) (k : ℕ) (x : Item) → slice_get items k ≡ Some x → slice_get (map item_key items) k ≡ Some x.key
key_at [] k x is = absurd (cc)
key_at (y ∷ items) zero x is = ap (λ o. option_map item_key o) is
key_at (y ∷ items) (suc k) x is = key_at items k x is

keys_kept : (items : List Item) (x : Item) (i : ℕ) → i < length items → slice_get (map item_key (items ++ x ∷ [])) i ≡ slice_get (map item_key items) i
keys_kept [] x i h = absurd (omega (arith, h))
keys_kept (y ∷ items) x zero h = refl
keys_kept (y ∷ items) x (suc i) h = keys_kept items x i (omega (arith, h))

-- an item
abbrev item : Key → ℕ → Item
item key hidden = record { key = key; hidden = hidden }

-- an item is added
leads_more : {S : Type 0} (items : List Item) (x : Item) (old new : IndexMap Key ℕ S) (q : Key) (b : Bool) → same_key x.key q ≡ b → get same_key new q ≡ cond b (Some (suc (length items))) (get same_key old q)
    → number_in old q ≡ newest_below (map item_key items) q (length items) → number_in new q ≡ newest_below (map item_key (items ++ x ∷ [])) q (suc (length items))
leads_more items x old new q true is u h =
    ap (λ o. unwrap_or o 0) u ∙ sym (down_true (map item_key (items ++ x ∷ [])) q (length items) (ap (λ o. is_key o q) (key_at (items ++ x ∷ []) (length items) x (last_push items x)) ∙ is))
leads_more items x old new q false is u h =
    ap (λ o. unwrap_or o 0) u ∙ h
    ∙ sym (same_below (map item_key (items ++ x ∷ [])) (map item_key items) q (length items) (keys_kept items x))
    ∙ sym (down_false (map item_key (items ++ x ∷ [])) q (length items) (ap (λ o. is_key o q) (key_at (items ++ x ∷ []) (length items) x (last_push items x)) ∙ is))

indexed_more : {S : Type 0} (items : List Item) (x : Item) (old new : IndexMap Key ℕ S) → x.hidden ≡ number_in old x.key → Updates same_key old new x.key (Some (suc (length items)))
    → IsIndexed items old → IsIndexed (items ++ x ∷ []) new
indexed_more {S} items x old new hidden u h =
    record {
      leads = λ q. leads_more items x old new q (same_key x.key q) refl (u.0 q) (h.leads q) ∙ ap (newest_below (map item_key (items ++ x ∷ [])) q) (sym size);
      hides = λ k y is. hide k y is (nat_lt k (length items)) refl;
    }
  where
    size : length (items ++ x ∷ []) ≡ suc (length items)
    size = omega (arith, length-append items (x ∷ []))

    hide : (k : ℕ) (y : Item) → slice_get (items ++ x ∷ []) k ≡ Some y → (b : Bool) → nat_lt k (length items) ≡ b → y.hidden ≡ newest_below (map item_key (items ++ x ∷ [])) y.key k
    hide k y is true l =
        let inside = ltb-true k (length items) l in
        h.hides k y (sym (kept_push items x k inside) ∙ is)
        ∙ sym (same_below (map item_key (items ++ x ∷ [])) (map item_key items) y.key k (λ i m. keys_kept items x i (omega (arith, m, inside))))
    hide k y is false l =
        let here : length items ≡ k = omega (arith, size, slice_get_within (items ++ x ∷ []) k y is, ltb-false k (length items) l) in
        let it : x ≡ y = some_same x y (sym (last_push items x) ∙ ap (slice_get (items ++ x ∷ [])) here ∙ is) in
        let own : x.hidden ≡ newest_below (map item_key (items ++ x ∷ [])) x.key (length items) = hidden ∙ h.leads x.key ∙ sym (same_below (map item_key (items ++ x ∷ [])) (map item_key items) x.key (length items) (keys_kept items x)) in
        sym (ap (λ z. z.hidden) it) ∙ own ∙ (λ i. newest_below (map item_key (items ++ x ∷ [])) (it i).key (here i))

pub indexed_push : {S : Type 0} (items more : List Item) (key : Key) (hidden number : ℕ) (old new : IndexMap Key ℕ S) → more ≡ items ++ item key hidden ∷ [] → hidden ≡ number_in old key → number ≡ length more
    → Updates same_key old new key (Some number) → IsIndexed items old → IsIndexed more new
indexed_push {S} items more key hidden number old new is n count u h =
    let size : number ≡ suc (length items) = count ∙ ap length is ∙ omega (arith, length-append items (item key hidden ∷ [])) in
    subst (λ l. IsIndexed {S = S} l new) (sym is)
    (indexed_more items (item key hidden) old new n (subst (λ c. Updates same_key old new key (Some c)) size u) h)

-- and taken back
leads_less : {S : Type 0} (rest : List Item) (x : Item) (old new : IndexMap Key ℕ S) (q : Key) (b : Bool) → same_key x.key q ≡ b → number_in new q ≡ (if b then x.hidden else number_in old q)
    → x.hidden ≡ newest_below (map item_key (rest ++ x ∷ [])) x.key (length rest) → number_in old q ≡ newest_below (map item_key (rest ++ x ∷ [])) q (suc (length rest)) → number_in new q ≡ newest_below (map item_key rest) q (length rest)
leads_less rest x old new q true is u hidden h =
    u ∙ hidden ∙ same_below (map item_key (rest ++ x ∷ [])) (map item_key rest) x.key (length rest) (keys_kept rest x) ∙ below_for (map item_key rest) x.key q (length rest) is
leads_less rest x old new q false is u hidden h =
    u ∙ h
    ∙ down_false (map item_key (rest ++ x ∷ [])) q (length rest) (ap (λ o. is_key o q) (key_at (rest ++ x ∷ []) (length rest) x (last_push rest x)) ∙ is)
    ∙ same_below (map item_key (rest ++ x ∷ [])) (map item_key rest) q (length rest) (keys_kept rest x)

indexed_less : {S : Type 0} (rest : List Item) (x : Item) (old new : IndexMap Key ℕ S) → ((q : Key) → number_in new q ≡ (if same_key x.key q then x.hidden else number_in old q)) → IsIndexed (rest ++ x ∷ []) old → IsIndexed rest new
indexed_less {S} rest x old new u h =
    record {
      leads = λ q. leads_less rest x old new q (same_key x.key q) refl (u q) (h.hides (length rest) x (last_push rest x)) (h.leads q ∙ ap (newest_below (map item_key (rest ++ x ∷ [])) q) size);
      hides = λ k y is.
          let inside = slice_get_within rest k y is in
          h.hides k y (kept_push rest x k inside ∙ is) ∙ same_below (map item_key (rest ++ x ∷ [])) (map item_key rest) y.key k (λ i m. keys_kept rest x i (omega (arith, m, inside)));
    }
  where
    size : length (rest ++ x ∷ []) ≡ suc (length rest)
    size = omega (arith, length-append rest (x ∷ []))

-- what a key leads to where its number is written, or taken out
written : (b : Bool) (new old : Option ℕ) (n : ℕ) → new ≡ cond b (Some n) old → unwrap_or new 0 ≡ (if b then n else unwrap_or old 0)
written true new old n is = ap (λ o. unwrap_or o 0) is
written false new old n is = ap (λ o. unwrap_or o 0) is

taken_out : (b : Bool) (new old : Option ℕ) (n : ℕ) → new ≡ cond b None old → n ≡ 0 → unwrap_or new 0 ≡ (if b then n else unwrap_or old 0)
taken_out true new old n is none = ap (λ o. unwrap_or o 0) is ∙ sym none
taken_out false new old n is none = ap (λ o. unwrap_or o 0) is

-- where it hid none
pub indexed_removed : {S : Type 0} (items rest : List Item) (x : Item) (old new : IndexMap Key ℕ S) → items ≡ rest ++ x ∷ [] → x.hidden ≡ 0 → Updates same_key old new x.key None → IsIndexed items old → IsIndexed rest new
indexed_removed {S} items rest x old new is none u h =
    indexed_less rest x old new (λ q. taken_out (same_key x.key q) (get same_key new q) (get same_key old q) x.hidden (u.0 q) none) (subst (λ l. IsIndexed {S = S} l old) is h)

-- a key that is there wants no memory
no_memory : {E : Type 0} (r : Result (Option ℕ) E) (P : Type 0) (o : Option ℕ) (n : ℕ) → OnOk r P → OnErr r (o ≡ None) → unwrap_or o 0 ≡ suc n → P
no_memory (Ok x) P o n h k e = h
no_memory (Err x) P o n h k e = absurd (omega (arith, sym e ∙ ap (λ o. unwrap_or o 0) k))

-- where it hid one
pub indexed_restored : {S E : Type 0} (items rest : List Item) (x : Item) (r : Result (Option ℕ) E) (old new : IndexMap Key ℕ S) → items ≡ rest ++ x ∷ []
    → OnOk r (Updates same_key old new x.key (Some x.hidden)) → OnErr r (get same_key old x.key ≡ None) → IsIndexed items old → IsIndexed rest new
indexed_restored {S} items rest x r old new is u a h =
    let there : IsIndexed {S = S} (rest ++ x ∷ []) old = subst (λ l. IsIndexed {S = S} l old) is h in
    let size : length (rest ++ x ∷ []) ≡ suc (length rest) = omega (arith, length-append rest (x ∷ [])) in
    let leads : number_in old x.key ≡ suc (length rest) =
    there.leads x.key ∙ ap (newest_below (map item_key (rest ++ x ∷ [])) x.key) size
    ∙ down_true (map item_key (rest ++ x ∷ [])) x.key (length rest) (ap (λ o. is_key o x.key) (key_at (rest ++ x ∷ []) (length rest) x (last_push rest x)) ∙ same_here x.key) in
    let done = no_memory r (Updates same_key old new x.key (Some x.hidden)) (get same_key old x.key) (length rest) u a leads in
    indexed_less rest x old new (λ q. written (same_key x.key q) (get same_key new q) (get same_key old q) x.hidden (done.0 q)) there

-- The walk from an item to the one that it hides.

-- a number is that of the newest item of a key below some number which isn't less than this
pub record IsAbove (ks : List Key) (key : Key) (outer number : ℕ) : Type 0 where
  pub top : ℕ
  pub within : top ≤ length ks
  pub above : outer ≤ top
  pub is : number ≡ newest_below ks key top

abbrev Steps : List Item → Key → ℕ → ℕ → ℕ → Type 0
Steps items key outer number next = IsAbove (map item_key items) key outer next × (next < number)

step_there : {S : Type 0} (items : List Item) (numbers : IndexMap Key ℕ S) (key : Key) (outer number top : ℕ) (x : Item) (o : Option Item) → IsIndexed items numbers
    → outer < number → x ≡ get_or items (number - 1) x → suc top ≤ length (map item_key items) → number ≡ suc top → is_key (slice_get (map item_key items) top) key ≡ true
    → Steps items key outer number x.hidden
step_there items numbers key outer number top x o h more n w is same =
    let last : number - 1 ≡ top = omega (arith, is) in
    let there : slice_get items top ≡ Some x = slice_get_read items (length items) top x refl (omega (arith, w, length-map items item_key)) (n ∙ ap (λ k. get_or items k x) last) in
    let it : x.hidden ≡ newest_below (map item_key items) key top = h.hides top x there ∙ below_for (map item_key items) x.key key top (sym (ap (λ o. is_key o key) (key_at items top x there)) ∙ same) in
    (record { top = top; within = omega (arith, w); above = omega (arith, more, is); is = it }, omega (arith, it, below (map item_key items) key top, is))

step_by : {S : Type 0} (items : List Item) (numbers : IndexMap Key ℕ S) (key : Key) (outer number top : ℕ) (x : Item) (b : Bool) → IsIndexed items numbers
    → outer < number → x ≡ get_or items (number - 1) x → suc top ≤ length (map item_key items) → number ≡ newest_below (map item_key items) key (suc top) → is_key (slice_get (map item_key items) top) key ≡ b
    → (number ≡ newest_below (map item_key items) key top → Steps items key outer number x.hidden) → Steps items key outer number x.hidden
step_by items numbers key outer number top x true h more n w is same rest = step_there items numbers key outer number top x None h more n w (is ∙ down_true (map item_key items) key top same) same
step_by items numbers key outer number top x false h more n w is same rest = rest (is ∙ down_false (map item_key items) key top same)

step_from : {S : Type 0} (items : List Item) (numbers : IndexMap Key ℕ S) (key : Key) (outer number top : ℕ) (x : Item) → IsIndexed items numbers
    → outer < number → x ≡ get_or items (number - 1) x → top ≤ length (map item_key items) → number ≡ newest_below (map item_key items) key top → Steps items key outer number x.hidden
step_from items numbers key outer number zero x h more n w is = absurd (omega (arith, more, is))
step_from items numbers key outer number (suc top) x h more n w is =
    step_by items numbers key outer number top x (is_key (slice_get (map item_key items) top) key) h more n w is refl (λ one. step_from items numbers key outer number top x h more n (omega (arith, w)) one)

pub step : {S : Type 0} (items : List Item) (numbers : IndexMap Key ℕ S) (key : Key) (outer number : ℕ) (x : Item) → IsIndexed items numbers
    → outer < number → x ≡ get_or items (number - 1) x → IsAbove (map item_key items) key outer number → Steps items key outer number x.hidden
step items numbers key outer number x h more n a = step_from items numbers key outer number a.top x h more n a.within a.is

-- where it ends
pub ended : (ks : List Key) (key : Key) (outer number : ℕ) → number ≤ outer → IsAbove ks key outer number → number ≡ newest_below ks key outer
ended ks key outer number h a = a.is ∙ settled ks key a.top outer a.above (omega (arith, h, a.is))

-- where it starts
pub started : {S : Type 0} (items : List Item) (numbers : IndexMap Key ℕ S) (key : Key) (outer number : ℕ) → IsIndexed items numbers → outer ≤ length (map item_key items) → number ≡ number_in numbers key → IsAbove (map item_key items) key outer number
started items numbers key outer number h w is = record { top = length items; within = omega (arith, length-map items item_key); above = omega (arith, w, length-map items item_key); is = is ∙ h.leads key }

pub fits : (items : List Item) (key : Key) (outer number : ℕ) → IsAbove (map item_key items) key outer number → number ≤ length items
fits items key outer number a = omega (arith, a.is, below (map item_key items) key a.top, a.within, length-map items item_key)

-- THE KEYS OF ENTRIES

-- the name of a kind in a run
abbrev pub key_with : ℕ → NameKind → Bor (List ℕ) → Key
key_with run kind name = record { run = run; kind = kind; name = name }

before_same : (ks ls : List Key) (k : ℕ) → Agree ks ls k → run_before ks k ≡ run_before ls k
before_same ks ls zero h = refl
before_same ks ls (suc k) h = ap run_in (h k (omega arith))

key_same : (ks ls : List Key) (k : ℕ) (e : Entry) → Agree ks ls k → key_of ks k e ≡ key_of ls k e
key_same ks ls k e h =
    let before = before_same ks ls k h in
    λ i. key_with (if nat_eq e.outer k then before i else k) (kind_of (is_name e.binding)) e.name

keyed_more : (items : List Entry) (ks : List Key) (e : Entry) → AreKeyed items ks → AreKeyed (items ++ e ∷ []) (ks ++ key_of ks (length items) e ∷ [])
keyed_more items ks e h =
    record {
      size = omega (arith, h.size, length-append items (e ∷ []), length-append ks (key ∷ []));
      each = λ k y is. each k y is (nat_lt k (length items)) refl;
    }
  where
    key : Key
    key = key_of ks (length items) e

    agree : (k : ℕ) → k ≤ length items → Agree ks (ks ++ key ∷ []) k
    agree k l i m = sym (kept_push ks key i (omega (arith, h.size, l, m)))

    each : (k : ℕ) (y : Entry) → slice_get (items ++ e ∷ []) k ≡ Some y → (b : Bool) → nat_lt k (length items) ≡ b → slice_get (ks ++ key ∷ []) k ≡ Some (key_of (ks ++ key ∷ []) k y)
    each k y is true l =
        let inside = ltb-true k (length items) l in
        kept_push ks key k (omega (arith, h.size, inside)) ∙ h.each k y (sym (kept_push items e k inside) ∙ is) ∙ ap Some (key_same ks (ks ++ key ∷ []) k y (agree k (omega (arith, inside))))
    each k y is false l =
        let here : length items ≡ k = omega (arith, slice_get_within (items ++ e ∷ []) k y is, length-append items (e ∷ []), ltb-false k (length items) l) in
        let there : length ks ≡ k = h.size ∙ here in
        let it : e ≡ y = some_same e y (sym (last_push items e) ∙ ap (slice_get (items ++ e ∷ [])) here ∙ is) in
        sym (ap (slice_get (ks ++ key ∷ [])) there) ∙ last_push ks key ∙ (λ i. Some (key_of ks (here i) (it i))) ∙ ap Some (key_same ks (ks ++ key ∷ []) k y (agree k (omega (arith, here))))

pub keyed_push : (items more : List Entry) (ks ls : List Key) (e : Entry) (run : ℕ) (kind : NameKind) → more ≡ items ++ e ∷ [] → run ≡ run_from ks (length items) e.outer → kind ≡ kind_of (is_name e.binding)
    → ls ≡ ks ++ key_with run kind e.name ∷ [] → AreKeyed items ks → AreKeyed more ls
keyed_push items more ks ls e run kind is r k keys h =
    let key : key_with run kind e.name ≡ key_of ks (length items) e = λ i. key_with (r i) (k i) e.name in
    subst (λ l. AreKeyed l ls) (sym is) (subst (AreKeyed (items ++ e ∷ [])) (sym (keys ∙ ap (λ x. ks ++ x ∷ []) key)) (keyed_more items ks e h))

pub keyed_take : (len : ℕ) (items less : List Entry) (ks ls : List Key) → less ≡ take len items → ls ≡ take len ks → len ≤ length items → AreKeyed items ks → AreKeyed less ls
keyed_take len items less ks ls is keys l h =
    subst (λ xs. AreKeyed xs ls) (sym is) (subst (AreKeyed (take len items)) (sym keys)
    (record {
      size = length-take-le len ks (omega (arith, l, h.size)) ∙ sym (length-take-le len items l);
      each = λ k e there.
          let inside : k < len = omega (arith, slice_get_within (take len items) k e there, length-take-le len items l) in
          kept_take len ks k inside ∙ h.each k e (sym (kept_take len items k inside) ∙ there)
          ∙ ap Some (key_same ks (take len ks) k e (λ i m. sym (kept_take len ks i (omega (arith, m, inside)))));
    }))

-- RUNS

run_by : (b : Bool) (before k : ℕ) → before ≤ k → (if b then before else k) ≤ k
run_by true before k h = h
run_by false before k h = omega arith

run_at : (items : List Entry) (ks : List Key) (k : ℕ) (o : Option Entry) → slice_get items k ≡ o → k < length items → AreKeyed items ks → run_before ks k ≤ k → run_of ks k ≤ k
run_at items ks k None is w h before = absurd (omega (arith, w, slice_get_inside items k is))
run_at items ks k (Some e) is w h before =
    let run : run_of ks k ≡ run_from ks k e.outer = ap run_in (h.each k e is) in
    omega (arith, run, run_by (nat_eq e.outer k) (run_before ks k) k before)

-- a run starts at or before its entries
pub run_within : (items : List Entry) (ks : List Key) (k : ℕ) → AreKeyed items ks → k < length items → run_of ks k ≤ k
run_within items ks zero h w = run_at items ks zero (slice_get items zero) refl w h (omega arith)
run_within items ks (suc k) h w = run_at items ks (suc k) (slice_get items (suc k)) refl w h (omega (arith, run_within items ks k h (omega (arith, w))))

run_is : (o : Option Key) (key : Key) → is_key o key ≡ true → run_in o ≡ key.run
run_is None key h = absurd (cc)
run_is (Some k) key h = same_run k key h

-- so that no older entry is of a run that starts here
none_by : (ks : List Key) (key : Key) (k : ℕ) (b : Bool) → is_key (slice_get ks k) key ≡ b → run_of ks k ≤ k → suc k ≤ key.run → newest_below ks key k ≡ 0 → newest_below ks key (suc k) ≡ 0
none_by ks key k true is r l h = absurd (omega (arith, run_is (slice_get ks k) key is, r, l))
none_by ks key k false is r l h = down_false ks key k is ∙ h

none_below : (items : List Entry) (ks : List Key) (key : Key) (k : ℕ) → AreKeyed items ks → k ≤ length items → k ≤ key.run → newest_below ks key k ≡ 0
none_below items ks key zero h w l = refl
none_below items ks key (suc k) h w l =
    none_by ks key k (is_key (slice_get ks k) key) refl (run_within items ks k h (omega (arith, w))) l (none_below items ks key k h (omega (arith, w)) (omega (arith, l)))

-- whether an entry is that of a name of a kind
abbrev has : NameKind → Entry → List ℕ → Bool
has kind e name = eq-kind.it (kind_of (is_name e.binding)) kind && bytes_eq e.name.now name

-- What is read off an environment, where entries of other names leave it as it was.
abbrev Passes : {T : Type 0} → (ℕ → T) → List Entry → NameKind → List ℕ → Type 0
Passes F items kind name = (k : ℕ) (e : Entry) → slice_get items k ≡ Some e → has kind e name ≡ false → F (suc k) ≡ F e.outer

-- the newest entry of a run, or else what the run is added to
abbrev next : ℕ → ℕ → ℕ
next zero outer = outer
next (suc j) outer = suc j

has_key : (ks : List Key) (k run : ℕ) (e : Entry) (kind : NameKind) (name : Bor (List ℕ)) → run ≡ run_from ks k e.outer → same_key (key_of ks k e) (key_with run kind name) ≡ has kind e name.now
has_key ks k run e kind name is = ap (λ b. b && has kind e name.now) ((Decides-eqb (run_from ks k e.outer) run).1 (sym is))

module _ {T : Type 0} (F : ℕ → T) (items : List Entry) (ks : List Key) (kind : NameKind) (name : Bor (List ℕ)) (h : AreKeyed items ks) (passes : Passes F items kind name.now) where
  abbrev LeadsOn : ℕ → Type 0
  LeadsOn k = (run : ℕ) → run ≡ run_of ks k → (n : ℕ) → newest_below ks (key_with run kind name) (suc k) ≡ n → F (suc k) ≡ F (next n (outer_in (slice_get items run)))

  abbrev LeadsBefore : ℕ → Type 0
  LeadsBefore zero = ℕ → ℕ
  LeadsBefore (suc k) = LeadsOn k

  -- the first entry of a run
  first : (k : ℕ) (e : Entry) → slice_get items k ≡ Some e → has kind e name.now ≡ false → (run : ℕ) → run ≡ k → (n : ℕ) → newest_below ks (key_with run kind name) k ≡ n → F (suc k) ≡ F (next n (outer_in (slice_get items run)))
  first k e is other run here n hit =
      let none : n ≡ 0 = sym hit ∙ none_below items ks (key_with run kind name) k h (omega (arith, slice_get_within items k e is)) (omega (arith, here)) in
      passes k e is other ∙ ap (λ o. F (outer_in o)) (sym is) ∙ (λ i. F (next (sym none i) (outer_in (slice_get items (sym here i)))))

  -- one that goes on
  goes_on : (k : ℕ) → LeadsBefore k → (e : Entry) → slice_get items k ≡ Some e → has kind e name.now ≡ false → e.outer ≡ k → (run : ℕ) → run ≡ run_before ks k → (n : ℕ) → newest_below ks (key_with run kind name) k ≡ n
      → F (suc k) ≡ F (next n (outer_in (slice_get items run)))
  goes_on zero older e is other straight run r n hit = first zero e is other run r n hit
  goes_on (suc k) older e is other straight run r n hit = passes (suc k) e is other ∙ ap F straight ∙ older run r n hit

  by_run : (k : ℕ) → LeadsBefore k → (e : Entry) → slice_get items k ≡ Some e → has kind e name.now ≡ false → (b : Bool) → nat_eq e.outer k ≡ b → (run : ℕ) → run ≡ run_from ks k e.outer → (n : ℕ) → newest_below ks (key_with run kind name) k ≡ n
      → F (suc k) ≡ F (next n (outer_in (slice_get items run)))
  by_run k older e is other true straight run r n hit = goes_on k older e is other ((Decides-eqb e.outer k).0 straight) run (r ∙ ap (λ b. if b then run_before ks k else k) straight) n hit
  by_run k older e is other false straight run r n hit = first k e is other run (r ∙ ap (λ b. if b then run_before ks k else k) straight) n hit

  by_name : (k : ℕ) → LeadsBefore k → (e : Entry) → slice_get items k ≡ Some e → (b : Bool) → has kind e name.now ≡ b → LeadsOn k
  by_name k older e is true named = λ run r n hit.
      let mine : run ≡ run_from ks k e.outer = r ∙ ap run_in (h.each k e is) in
      let one : n ≡ suc k = sym hit ∙ down_true ks (key_with run kind name) k (ap (λ o. is_key o (key_with run kind name)) (h.each k e is) ∙ has_key ks k run e kind name mine ∙ named) in
      ap (λ m. F (next m (outer_in (slice_get items run)))) (sym one)
  by_name k older e is false named = λ run r n hit.
      let mine : run ≡ run_from ks k e.outer = r ∙ ap run_in (h.each k e is) in
      let rest = down_false ks (key_with run kind name) k (ap (λ o. is_key o (key_with run kind name)) (h.each k e is) ∙ has_key ks k run e kind name mine ∙ named) in
      by_run k older e is named (nat_eq e.outer k) refl run mine n (sym rest ∙ hit)

  by_entry : (k : ℕ) → LeadsBefore k → (o : Option Entry) → slice_get items k ≡ o → k < length items → LeadsOn k
  by_entry k older None is w = absurd (omega (arith, w, slice_get_inside items k is))
  by_entry k older (Some e) is w = by_name k older e is (has kind e name.now) refl

  leads_on : (k : ℕ) → k < length items → LeadsOn k
  leads_on zero w = by_entry zero (λ i. i) (slice_get items zero) refl w
  leads_on (suc k) w = by_entry (suc k) (leads_on k (omega (arith, w))) (slice_get items (suc k)) refl w

  leads_from : (k : ℕ) → 0 < k → k ≤ length items → (n : ℕ) → newest_below ks (key_in ks k kind name) k ≡ n → F k ≡ F (next n (outer_in (slice_get items (run_of ks (k - 1)))))
  leads_from zero some w n hit = absurd (omega (arith, some))
  leads_from (suc k) some w n hit =
      let last : suc k - 1 ≡ k = omega arith in
      leads_on k (omega (arith, w)) (run_of ks (suc k - 1)) (ap (run_of ks) last) n hit

  -- where the run has none
  pub on : (k number outer : ℕ) → 0 < k → k ≤ length items → number ≡ newest_below ks (key_in ks k kind name) k → number ≡ 0 → outer ≡ outer_in (slice_get items (run_of ks (k - 1))) → F k ≡ F outer
  on k number outer some w is none to = leads_from k some w 0 (sym is ∙ none) ∙ ap F (sym to)

  -- where it has one
  pub at : (k number : ℕ) → 0 < k → k ≤ length items → number ≡ newest_below ks (key_in ks k kind name) k → 0 < number → F k ≡ F number
  at k zero some w is more = absurd (omega (arith, more))
  at k (suc j) some w is more = leads_from k some w (suc j) (sym is)

-- the entry that is found
has_there : (ks : List Key) (items : List Entry) (kind : NameKind) (name : Bor (List ℕ)) (run j : ℕ) (e : Entry) → AreKeyed items ks → slice_get items j ≡ Some e → is_key (slice_get ks j) (key_with run kind name) ≡ true → has kind e name.now ≡ true
has_there ks items kind name run j e h is same =
    second_true (nat_eq (run_from ks j e.outer) run) _ (sym (ap (λ o. is_key o (key_with run kind name)) (h.each j e is)) ∙ same)

kind_name : (b : Bool) → eq-kind.it (kind_of b) Name ≡ b
kind_name true = refl
kind_name false = refl

kind_exception : (b : Bool) → eq-kind.it (kind_of b) Exception ≡ not b
kind_exception true = refl
kind_exception false = refl

bytes_turned : (a b : List ℕ) → bytes_eq a b ≡ bytes_eq b a
bytes_turned a b =
    let back : Decides (bytes_eq b a) (a ≡ b) = (λ h. sym ((bytes_eq-Decides b a).0 h), λ e. (bytes_eq-Decides b a).1 (sym e)) in
    same_from_decides (bytes_eq a b) (bytes_eq b a) (bytes_eq-Decides a b) back

has_name : (e : Entry) (name : List ℕ) → has Name e name ≡ (is_name e.binding && bytes_eq name e.name.now)
has_name e name = λ i. kind_name (is_name e.binding) i && bytes_turned e.name.now name i

-- whether an entry declares the exception of a name
declares_by : (d : Declared) (b : Bool) → is_some {T = Declared} (if b then Some d else None) ≡ b
declares_by d true = refl
declares_by d false = refl

declares : (name : List ℕ) (e : Entry) (x : Binding) → is_some (declared_by name e x) ≡ not (is_name x) && bytes_eq name e.name.now
declares name e (code.Variable role place) = refl
declares name e (code.Argument p k) = refl
declares name e (code.Parameter i) = refl
declares name e (code.Macro m h) = refl
declares name e (code.Exception place before) = declares_by (record { name = e.name; place = place; before = before }) (bytes_eq name e.name.now)

has_exception : (e : Entry) (name : List ℕ) → is_some (declared_by name e e.binding) ≡ has Exception e name
has_exception e name = declares name e e.binding ∙ (λ i. sym (kind_exception (is_name e.binding)) i && bytes_turned name e.name.now i)

-- the environment that an entry makes
made_at : {S : Type 0} (r : Reading S) (items : List Entry) (k : ℕ) (e : Entry) → IsTrue (are_linked (reverse items)) → slice_get items k ≡ Some e → Makes r (reverse items) (suc k) e
made_at r items k e l is =
    let back : k ≡ suc k - 1 = omega arith in
    makes r items (suc k) e l (omega arith) (omega (arith, slice_get_within items k e is, length-reverse items)) (sym (get_or_from_slice_get items k e e is) ∙ ap (λ j. get_or items j e) back)

-- NAMES

names_pass : {S : Type 0} (r : Reading S) (items : List Entry) (name : List ℕ) → IsTrue (are_linked (reverse items)) → Passes (λ k. found (environment r (reverse items) k).names name) items Name name
names_pass r items name l = λ k e is other. found_there r (reverse items) (suc k) e name (made_at r items k e l is) (sym (has_name e name) ∙ other)

pub found_on : {S : Type 0} (r : Reading S) (items : List Entry) (ks : List Key) (name : Bor (List ℕ)) (k number outer : ℕ) → IsTrue (are_linked (reverse items)) → AreKeyed items ks → 0 < k → k ≤ length items
    → number ≡ newest_below ks (key_in ks k Name name) k → number ≡ 0 → outer ≡ outer_in (slice_get items (run_of ks (k - 1))) → found (environment r (reverse items) k).names name.now ≡ found (environment r (reverse items) outer).names name.now
found_on r items ks name k number outer l h some w is none to = on (λ j. found (environment r (reverse items) j).names name.now) items ks Name name h (names_pass r items name.now l) k number outer some w is none to

found_with : {S : Type 0} (r : Reading S) (items : List Entry) (ks : List Key) (name : Bor (List ℕ)) (run j : ℕ) (o : Option Entry) → IsTrue (are_linked (reverse items)) → AreKeyed items ks → slice_get items j ≡ o → j < length items
    → is_key (slice_get ks j) (key_with run Name name) ≡ true → found (environment r (reverse items) (suc j)).names name.now ≡ newest (environment r (reverse items) (suc j)).names
found_with r items ks name run j None l h is w same = absurd (omega (arith, w, slice_get_inside items j is))
found_with r items ks name run j (Some e) l h is w same =
    found_here r (reverse items) (suc j) e name.now (made_at r items j e l is) (sym (has_name e name.now) ∙ has_there ks items Name name run j e h is same)

pub found_at : {S : Type 0} (r : Reading S) (items : List Entry) (ks : List Key) (name : Bor (List ℕ)) (k number : ℕ) → IsTrue (are_linked (reverse items)) → AreKeyed items ks → 0 < k → k ≤ length items
    → number ≡ newest_below ks (key_in ks k Name name) k → 0 < number → found (environment r (reverse items) k).names name.now ≡ newest (environment r (reverse items) number).names
found_at r items ks name k zero l h some w is more = absurd (omega (arith, more))
found_at r items ks name k (suc j) l h some w is more =
    at (λ j. found (environment r (reverse items) j).names name.now) items ks Name name h (names_pass r items name.now l) k (suc j) some w is more
    ∙ found_with r items ks name (run_of ks (k - 1)) j (slice_get items j) l h refl (omega (arith, w, is, below ks (key_in ks k Name name) k)) (key_there ks (key_in ks k Name name) k j (sym is))

-- EXCEPTIONS

exceptions_pass : {S : Type 0} (r : Reading S) (items : List Entry) (name : List ℕ) → IsTrue (are_linked (reverse items)) → Passes (λ k. found_exception (environment r (reverse items) k).exceptions name) items Exception name
exceptions_pass r items name l = λ k e is other. exception_there r (reverse items) (suc k) e name (declared_by name e e.binding) (made_at r items k e l is) refl (has_exception e name ∙ other)

pub raised_on : {S : Type 0} (r : Reading S) (items : List Entry) (ks : List Key) (name : Bor (List ℕ)) (k number outer : ℕ) → IsTrue (are_linked (reverse items)) → AreKeyed items ks → 0 < k → k ≤ length items
    → number ≡ newest_below ks (key_in ks k Exception name) k → number ≡ 0 → outer ≡ outer_in (slice_get items (run_of ks (k - 1)))
    → found_exception (environment r (reverse items) k).exceptions name.now ≡ found_exception (environment r (reverse items) outer).exceptions name.now
raised_on r items ks name k number outer l h some w is none to =
    on (λ j. found_exception (environment r (reverse items) j).exceptions name.now) items ks Exception name h (exceptions_pass r items name.now l) k number outer some w is none to

pub raised_at : {S : Type 0} (r : Reading S) (items : List Entry) (ks : List Key) (name : Bor (List ℕ)) (k number : ℕ) (e : Entry) (o : Option Declared) → IsTrue (are_linked (reverse items)) → AreKeyed items ks → 0 < k → k ≤ length items
    → number ≡ newest_below ks (key_in ks k Exception name) k → 0 < number → e ≡ get_or items (number - 1) e → o ≡ declared_by name.now e e.binding
    → found_exception (environment r (reverse items) k).exceptions name.now ≡ raised_by r o
raised_at r items ks name k zero e o l h some w is more read declared = absurd (omega (arith, more))
raised_at r items ks name k (suc j) e o l h some w is more read declared =
    at (λ j. found_exception (environment r (reverse items) j).exceptions name.now) items ks Exception name h (exceptions_pass r items name.now l) k (suc j) some w is more
    ∙ exception_here r (reverse items) (suc j) e name.now o (made_at r items j e l there) declared
    (ap is_some declared ∙ has_exception e name.now ∙ has_there ks items Exception name (run_of ks (k - 1)) j e h there (key_there ks (key_in ks k Exception name) k j (sym is)))
  where
    there : slice_get items j ≡ Some e
    there = slice_get_read items (length items) j e refl (omega (arith, w, is, below ks (key_in ks k Exception name) k)) (read ∙ ap (λ i. get_or items i e) (omega arith))

-- the entry at which a run starts
pub run_inside : (items : List Entry) (ks : List Key) (k : ℕ) → AreKeyed items ks → 0 < k → k ≤ length items → run_of ks (k - 1) < length items
run_inside items ks k h some w = omega (arith, some, w, run_within items ks (k - 1) h (omega (arith, some, w)))

pub outer_read : (items : List Entry) (ks : List Key) (k run : ℕ) (e : Entry) → AreKeyed items ks → 0 < k → k ≤ length items → run ≡ run_of ks (k - 1) → e ≡ get_or items run e → e.outer ≡ outer_in (slice_get items (run_of ks (k - 1)))
outer_read items ks k run e h some w is read =
    let there : slice_get items run ≡ Some e = slice_get_read items (length items) run e refl (omega (arith, is, run_inside items ks k h some w)) read in
    sym (ap outer_in there) ∙ ap (λ i. outer_in (slice_get items i)) is

pub outer_within : (items : List Entry) (ks : List Key) (k run : ℕ) (e : Entry) → IsTrue (are_linked (reverse items)) → AreKeyed items ks → 0 < k → k ≤ length items → run ≡ run_of ks (k - 1) → e ≡ get_or items run e → e.outer < k
outer_within items ks k run e l h some w is read =
    let place = stands_at (meant 0) items run e l (omega (arith, is, run_inside items ks k h some w)) read in
    omega (arith, place.outer, is, some, run_within items ks (k - 1) h (omega (arith, some, w)))

pub linked_push : (items more : List Entry) (e : Entry) → more ≡ items ++ e ∷ [] → IsTrue (are_linked (reverse items)) → IsTrue (is_linked (length (reverse items)) e) → IsTrue (are_linked (reverse more))
linked_push items more e is l h = subst (λ rows. IsTrue (are_linked rows)) (sym (ap reverse is ∙ reverse-append items (e ∷ []))) (both (is_linked (length (reverse items)) e) _ h l)
