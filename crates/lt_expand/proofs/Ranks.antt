-- Exceptions each once, in the order in which they come.
use Rattle.std.proofs.Common.{◌≡◌, ℕ, suc, ◌+◌, Bool, true, false, cond, not, ◌&&◌, ◌||◌, nat_eq, if◌then◌else◌, List, [], ◌∷◌, ◌++◌, Option, Some, None, is_some, map, length, take, get_or, ◌<◌, refl, ap, sym, ◌∙◌, arith, append_assoc, position}
use Rattle.std.specs.Borrow.{Bor}
use Rattle.std.specs.Bool.{Decides}
use Rattle.std.specs.List.{flat_map, list_any, position_or_len}
use Rattle.std.specs.Map.{keys_of, lookup, values_of}
use Rattle.std.proofs.lemmas.Bool.Decides.{Decides-eqb, same_from_decides}
use Rattle.std.proofs.lemmas.List.{append-nil, length-map, map-append}
use Rattle.std.proofs.lemmas.List.Folds.{list_any-append}
use Rattle.lt_expand.specs.Exceptions.{added, exception_names, number_in, numbered, same_exception}
use Rattle.lt_macros.specs.Expanded.{Exception, Expanded}
use Rattle.lt_macros.specs.Preorder.{Item, caught_at, items, raised_at}
use Rattle.lt_expand.specs.inner.Items.{item, items_view}
use Rattle.lt_expand.specs.inner.Declarations.{of_entry, with_more, with_one}
use Rattle.lt_expand.specs.contracts.exceptions.DeclarationPartialEq.TheImpl.{eq-value}
use Rattle.lt_expand.specs.declared.exceptions.Declaration.{Declaration}
use Rattle.lt_expand.specs.declared.items.Item as code
use Rattle.lt_expand.proofs.Preorders.{items_taken}

abbrev Entry : Type 0
Entry = Declaration × Bor (List ℕ)

-- of two lists one behind the other
pub with_more-append : (done xs ys : List Exception) → with_more done (xs ++ ys) ≡ with_more (with_more done xs) ys
with_more-append done [] ys = refl
with_more-append done (x ∷ xs) ys = with_more-append (with_one done x) xs ys

or_turned : (a b : Bool) → (a || b) ≡ (b || (a || false))
or_turned true true = refl
or_turned true false = refl
or_turned false true = refl
or_turned false false = refl

-- The order of those before doesn't matter.
abbrev AreSame : List Exception → List Exception → Type 0
AreSame before done = (z : Exception) → list_any (same_exception z) before ≡ list_any (same_exception z) done

same_more : (before done : List Exception) (y : Exception) → AreSame before done → AreSame (y ∷ before) (done ++ y ∷ [])
same_more before done y h z =
    ap (λ b. same_exception z y || b) (h z)
    ∙ or_turned (same_exception z y) (list_any (same_exception z) done)
    ∙ sym (list_any-append (same_exception z) done (y ∷ []))

with_step : (z : Exception) (zs before done : List Exception) (b : Bool) → list_any (same_exception z) done ≡ b → AreSame before done → with_more done zs ≡ done ++ added before zs
    → with_more (done ++ z ∷ []) zs ≡ (done ++ z ∷ []) ++ added (z ∷ before) zs → with_more (with_one done z) zs ≡ done ++ added before (z ∷ zs)
with_step z zs before done true is h old new =
    ap (λ b. with_more (if b then done else done ++ z ∷ []) zs) is
    ∙ old
    ∙ sym (ap (λ b. done ++ (if b then added before zs else z ∷ added (z ∷ before) zs)) (h z ∙ is))
with_step z zs before done false is h old new =
    ap (λ b. with_more (if b then done else done ++ z ∷ []) zs) is
    ∙ new
    ∙ append_assoc done (z ∷ []) (added (z ∷ before) zs)
    ∙ sym (ap (λ b. done ++ (if b then added before zs else z ∷ added (z ∷ before) zs)) (h z ∙ is))

with_more_added : (zs before done : List Exception) → AreSame before done → with_more done zs ≡ done ++ added before zs
with_more_added [] before done h = sym (append-nil done)
with_more_added (z ∷ zs) before done h =
    with_step z zs before done (list_any (same_exception z) done) refl h (with_more_added zs before done h)
    (with_more_added zs (z ∷ before) (done ++ z ∷ []) (same_more before done z h))

-- those of one part more
pub exceptions_taken : (f : Item → List Exception) (before : List Exception) (xs : List code.Item) (i : ℕ) (x : code.Item) (old new : List Exception) → i < length xs → x ≡ get_or xs i x
    → old ≡ with_more before (flat_map f (items_view (take i xs))) → new ≡ with_more old (f (item x)) → new ≡ with_more before (flat_map f (items_view (take (i + 1) xs)))
exceptions_taken f before xs i x old new h is o n =
    n
    ∙ ap (λ zs. with_more zs (f (item x))) o
    ∙ sym (ap (with_more before) (items_taken f xs i x h is) ∙ with_more-append before (flat_map f (items_view (take i xs))) (f (item x)))

-- the exceptions of a trace, as they are put
pub all_numbered : (x : Expanded) (is : List Item) (raised all : List Exception) → is ≡ items x → raised ≡ with_more [] (flat_map raised_at is) → all ≡ with_more raised (flat_map caught_at is) → all ≡ numbered x
all_numbered x is raised all h r c =
    c
    ∙ ap (λ done. with_more done (flat_map caught_at is)) r
    ∙ sym (with_more-append [] (flat_map raised_at is) (flat_map caught_at is))
    ∙ with_more_added (flat_map raised_at is ++ flat_map caught_at is) [] [] (λ z. refl)
    ∙ ap (λ is. added [] (flat_map raised_at is ++ flat_map caught_at is)) h

-- DECLARATIONS

-- whether the code takes two declarations for equal
abbrev pub declaration_eq : Declaration → Declaration → Bool
declaration_eq = eq-value.it

abbrev declaration : Exception → Declaration
declaration z = record { place = z.place; terms_before = z.terms_before }

there_step : {X : Type 0} (b : Bool) (x : X) (o : Option X) (r : Bool) → is_some o ≡ r → is_some (cond b (Some x) o) ≡ (b || r)
there_step true x o r h = refl
there_step false x o r h = h

-- whether one is there
pub is_there : (es : List Entry) (z : Exception) → is_some (lookup (declaration_eq (declaration z)) es) ≡ list_any (same_exception z) (map of_entry es)
is_there [] z = refl
is_there (e ∷ es) z = there_step (declaration_eq (declaration z) e.0) e.1 (lookup (declaration_eq (declaration z)) es) (list_any (same_exception z) (map of_entry es)) (is_there es z)

nat_eq_turned : (a b : ℕ) → nat_eq a b ≡ nat_eq b a
nat_eq_turned a b =
    let back : Decides (nat_eq b a) (a ≡ b) = (λ h. sym ((Decides-eqb b a).0 h), λ e. (Decides-eqb b a).1 (sym e)) in
    same_from_decides (nat_eq a b) (nat_eq b a) (Decides-eqb a b) back

pub same_turned : (z y : Exception) → same_exception z y ≡ same_exception y z
same_turned z y = λ i. nat_eq_turned z.place y.place i && nat_eq_turned z.terms_before y.terms_before i

number_step : (b c : Bool) (m n : ℕ) → b ≡ c → m ≡ n → cond (not b) (1 + m) 0 ≡ (if c then 0 else suc n)
number_step true true m n h e = refl
number_step false false m n h e = omega arith
number_step true false m n h e = absurd (cc)
number_step false true m n h e = absurd (cc)

number_at : (es : List Entry) (z : Exception) → position_or_len (declaration_eq (declaration z)) (keys_of es) ≡ number_in (map of_entry es) z
number_at [] z = refl
number_at (e ∷ es) z = number_step (declaration_eq (declaration z) e.0) (same_exception (of_entry e) z) _ _ (same_turned z (of_entry e)) (number_at es z)

some_is : (b : Bool) (a n : ℕ) → cond b (Some a) None ≡ Some n → n ≡ a
some_is true a n h = let same : Some a ≡ Some n = h in cc
some_is false a n h = let other : None ≡ Some n = h in absurd (cc)

-- the number of one that is there
pub number_there : (es : List Entry) (z : Exception) (k : Declaration) (n : ℕ) → k ≡ declaration z → position (declaration_eq k) (keys_of es) ≡ Some n → n ≡ number_in (map of_entry es) z
number_there es z k n e h =
    let at : position (declaration_eq (declaration z)) (keys_of es) ≡ Some n = ap (λ d. position (declaration_eq d) (keys_of es)) (sym e) ∙ h in
    some_is _ _ n at ∙ number_at es z

absent_step : (a b c : Bool) (m n : ℕ) → a ≡ c → (a || b) ≡ false → (b ≡ false → m ≡ n) → (if c then 0 else suc m) ≡ suc n
absent_step true b c m n e h k = let untrue : true ≡ false = h in absurd (cc)
absent_step false b true m n e h k = absurd (cc)
absent_step false b false m n e h k = ap suc (k h)

number_absent : (ys : List Exception) (z : Exception) → list_any (same_exception z) ys ≡ false → number_in ys z ≡ length ys
number_absent [] z h = refl
number_absent (y ∷ ys) z h = absent_step (same_exception z y) (list_any (same_exception z) ys) (same_exception y z) (number_in ys z) (length ys) (same_turned z y) h (number_absent ys z)

-- the number of one that isn't
pub number_beyond : (es : List Entry) (z : Exception) (k : Declaration) (o : Option ℕ) → k ≡ declaration z → is_some o ≡ is_some (lookup (declaration_eq k) es) → o ≡ None → length es ≡ number_in (map of_entry es) z
number_beyond es z k o e h is =
    let absent : list_any (same_exception z) (map of_entry es) ≡ false = sym (is_there es z) ∙ ap (λ d. is_some (lookup (declaration_eq d) es)) (sym e) ∙ sym h ∙ ap is_some is in
    sym (length-map es of_entry) ∙ sym (number_absent (map of_entry es) z absent)

-- one that is there is not put again
pub put_there : (es : List Entry) (z : Exception) (k : Declaration) (b : Bool) → k ≡ declaration z → b ≡ is_some (lookup (declaration_eq k) es) → b ≡ true → map of_entry es ≡ with_one (map of_entry es) z
put_there es z k b e h is =
    let there : true ≡ list_any (same_exception z) (map of_entry es) = sym is ∙ h ∙ ap (λ d. is_some (lookup (declaration_eq d) es)) e ∙ is_there es z in
    ap (λ b. if b then map of_entry es else map of_entry es ++ z ∷ []) there

-- and one that isn't is put last
pub put_new : (es new : List Entry) (z : Exception) (e : Entry) (b : Bool) → e.0 ≡ declaration z → b ≡ is_some (lookup (declaration_eq e.0) es) → b ≡ false → of_entry e ≡ z → new ≡ es ++ e ∷ []
    → map of_entry new ≡ with_one (map of_entry es) z
put_new es new z e b k h is same all =
    let absent : false ≡ list_any (same_exception z) (map of_entry es) = sym is ∙ h ∙ ap (λ d. is_some (lookup (declaration_eq d) es)) k ∙ is_there es z in
    ap (map of_entry) all
    ∙ map-append of_entry es (e ∷ [])
    ∙ ap (λ y. map of_entry es ++ y ∷ []) same
    ∙ ap (λ b. if b then map of_entry es else map of_entry es ++ z ∷ []) absent

-- where nothing is there, there is none
pub none_there : {X : Type 0} (o : Option X) (b : Bool) → b ≡ is_some o → b ≡ false → o ≡ None
none_there None b h is = refl
none_there (Some x) b h is = absurd (cc)

-- NAMES

abbrev Name : Type 0
Name = Bor (List ℕ)

-- the names of exceptions
abbrev texts : List Name → List (List ℕ)
texts ns = map (λ n. n.now) ns

names_are : (es : List Entry) → texts (values_of es) ≡ exception_names (map of_entry es)
names_are [] = refl
names_are (e ∷ es) = ap (λ ns. e.1.now ∷ ns) (names_are es)

-- all are still to come
pub names_start : (es : List Entry) (left : List Name) → left ≡ values_of es → [] ++ texts left ≡ exception_names (map of_entry es)
names_start es left h = ap texts h ∙ names_are es

-- one has come
pub names_step : (left rest : List Name) (x : Name) (old new all : List (List ℕ)) → left ≡ x ∷ rest → new ≡ old ++ x.now ∷ [] → old ++ texts left ≡ all → new ++ texts rest ≡ all
names_step left rest x old new all h n e =
    ap (λ ns. ns ++ texts rest) n ∙ append_assoc old (x.now ∷ []) (texts rest) ∙ ap (λ ns. old ++ texts ns) (sym h) ∙ e

-- none is left
pub names_end : (left : List Name) (old all : List (List ℕ)) → left ≡ [] → old ++ texts left ≡ all → old ≡ all
names_end left old all h e = sym (append-nil old) ∙ ap (λ ns. old ++ texts ns) (sym h) ∙ e

pub ruleset named = (names_start, names_step, names_end)
