-- The variables and counters of a scenario, one by one.
use Rattle.std.proofs.Common.{◌≡◌, ℕ, zero, suc, ◌+◌, ◌<◌, true, List, [], ◌∷◌, ◌++◌, map, length, take, get_or, Option, Some, None, option_map, refl, ap, sym, ◌∙◌, subst, arith, ℤ, pos, negsuc, ◌≤ℤ◌}
use Rattle.std.specs.Prelude.{◌&&◌, ◌-ℤ◌, ◌%◌, IsTrue, int_le, nat_eq, option_and_then, option_to_list, unsigned_abs}
use Rattle.std.specs.List.{All, flat_map}
use Rattle.std.specs.Option.{ForSome}
use Rattle.std.proofs.lemmas.Int.{ints}
use Rattle.std.proofs.lemmas.List.{append_assoc, get_or-map, length-map, map-append}
use Rattle.lt_ast.specs.declared.span.Span.{Span}
use Rattle.lt_num.specs.Range.{is_point}
use Rattle.lt_num.specs.Value.{raw_of, value_of}
use Rattle.lt_num.specs.declared.kind.Kind.{Kind}
use Rattle.lt_num.specs.declared.kind.Kind.TheVariants as kind
use Rattle.lt_num.specs.declared.range.Range.{Range}
use Rattle.lt_num.specs.declared.value.Value.{Value}
use Rattle.lt_formula.specs.Domain.{IsDomain}
use Rattle.lt_macros.specs.Expanded.{Declared}
use Rattle.lt_macros.specs.Failing.{unless}
use Rattle.lt_macros.specs.Placed.{Placed, place_of}
use Rattle.lt_macros.specs.Preorder.{counter_at, local_at}
use Rattle.lt_macros.specs.Tree.{declared}
use Rattle.lt_macros.specs.declared.tree.Declared as written
use Rattle.lt_term.proofs.Public.{left_of, right_of}
use Rattle.lt_term.specs.Fitting.{IsValueOf}
use Rattle.lt_term.specs.Scene.{Variable}
use Rattle.lt_term.specs.SceneView.{turns, variable}
use Rattle.lt_term.specs.declared.counter.Counter.{Counter}
use Rattle.lt_term.specs.declared.variable.Var.{Var}
use Rattle.lt_expand.specs.Scenes.{first_of, locals_of, variable_of}
use Rattle.lt_expand.specs.Static.{least_and_most, passes, static_raw}
use Rattle.lt_expand.specs.declared.items.Item as code
use Rattle.lt_expand.specs.inner.Items.{item, items_view}
use Rattle.lt_expand.specs.inner.Ready.{IsFine}
use Rattle.lt_expand.proofs.Preorders.{items_taken, taken}
use Rattle.lt_expand.proofs.Turning.{le_from, left_none, unless_none}

-- FIRST VALUES

truth_raw : (z : ℤ) → pos 0 ≤ℤ z → z ≤ℤ pos 1 → raw_of (value_of kind.Bool z) ≡ z
truth_raw (pos zero) low high = refl
truth_raw (pos (suc zero)) low high = refl
truth_raw (pos (suc (suc n))) low high = absurd (omega (arith, ints))
truth_raw (negsuc n) low high = absurd (omega (arith, ints))

between_truths : (range : Range) (z : ℤ) → range ≡ record { low = pos 0; high = pos 1; step = pos 1 } → range.low ≤ℤ z → z ≤ℤ range.high → raw_of (value_of kind.Bool z) ≡ z
between_truths range z truths low high = truth_raw z (subst (λ (r : Range). r.low ≤ℤ z) truths low) (subst (λ (r : Range). z ≤ℤ r.high) truths high)

raw_same : (k : Kind) (range : Range) (z : ℤ) → IsDomain k range → range.low ≤ℤ z → z ≤ℤ range.high → raw_of (value_of k z) ≡ z
raw_same kind.Bool range z d low high = between_truths range z (d.boolean refl) low high
raw_same kind.Int range z d low high = refl
raw_same kind.Real range z d low high = refl

value_fits : (k : Kind) (range : Range) (z : ℤ) → IsDomain k range → is_point range z ≡ true → IsValueOf k range (value_of k z)
value_fits k range z d h =
    let whole = nat_eq (unsigned_abs (z -ℤ range.low) % unsigned_abs range.step) 0 in
    let under = left_of (int_le z range.high) whole (right_of (int_le range.low z) (int_le z range.high && whole) h) in
    let low = le_from range.low z (left_of (int_le range.low z) (int_le z range.high && whole) h) in
    let high = le_from z range.high under in
    let same = raw_same k range z d low high in
    record {
      of_kind = ap (value_of k) same;
      point = subst (λ a. IsTrue (is_point range a)) (sym same) h;
    }

some_is : {X : Type 0} (x y : X) → Some x ≡ Some y → x ≡ y
some_is x y h = cc

raw_fits : (k : Kind) (range : Range) (raw : Option ℤ) (at : Span) → IsDomain k range → unless (passes (is_point range) raw) at ++ [] ≡ [] → ForSome (option_map (value_of k) raw) (IsValueOf k range)
raw_fits k range None at d h = λ v e. absurd (cc)
raw_fits k range (Some z) at d h = λ v e.
    subst (IsValueOf k range) (some_is (value_of k z) v e)
    (value_fits k range z d (unless_none (is_point range z) at (left_none (unless (is_point range z) at) [] h)))

first_fits : (n : ℕ) (k : Kind) (range : Range) (first : Option Placed) → IsDomain k range → flat_map (λ e. unless (passes (is_point range) (static_raw n e)) (place_of e)) (option_to_list first) ≡ []
    → ForSome (option_map (value_of k) (option_and_then (static_raw n) first)) (IsValueOf k range)
first_fits n k range None d h = λ v e. absurd (cc)
first_fits n k range (Some e) d h = raw_fits k range (static_raw n e) (place_of e) d h

-- a variable's first value is one of its values
pub begins : (n : ℕ) (d : Declared) (first : Option Value) → IsFine n d → first ≡ first_of n d → ForSome first (IsValueOf d.kind d.range)
begins n d first h e = subst (λ o. ForSome o (IsValueOf d.kind d.range)) (sym e) (first_fits n d.kind d.range d.first h.domain h.first)

-- LISTS

-- what holds of all holds of one that is read
pub all_at : {X Y : Type 0} (P : Y → Type 0) (f : X → Y) (xs : List X) (i : ℕ) (x : X) → All P (map f xs) → i < length xs → x ≡ get_or xs i x → P (f x)
all_at P f xs i x h l is =
    let many : length (map f xs) ≡ length xs = length-map xs f in
    subst P (get_or-map f xs i x (f x) l ∙ ap f (sym is)) (h i (f x) (omega (arith, many, l)))

-- one more variable
pub variable_taken : (n : ℕ) (ds : List written.Declared) (i : ℕ) (d : written.Declared) (name : List ℕ) (v : Var) (old new : List Var) → i < length ds → d ≡ get_or ds i d
    → variable v ≡ record (variable_of n (declared d)) { name = name } → name ≡ (declared d).name → new ≡ old ++ v ∷ [] → map variable old ≡ map (variable_of n) (map declared (take i ds))
    → map variable new ≡ map (variable_of n) (map declared (take (i + 1) ds))
variable_taken n ds i d name v old new l is made same e h =
    let last : variable v ≡ variable_of n (declared d) = made ∙ (λ j. record (variable_of n (declared d)) { name = same j }) in
    ap (map variable) e
    ∙ map-append variable old (v ∷ [])
    ∙ (λ j. h j ++ last j ∷ [])
    ∙ sym (ap (map (variable_of n)) (taken declared ds i d l is) ∙ map-append (variable_of n) (map declared (take i ds)) (declared d ∷ []))

-- one more input that a run gives
pub given_variable_taken : (n : ℕ) (ds : List written.Declared) (i : ℕ) (d : written.Declared) (name : List ℕ) (v : Var) (before : List Variable) (old new : List Var) → i < length ds → d ≡ get_or ds i d
    → variable v ≡ record (variable_of n (declared d)) { name = name } → name ≡ (declared d).name → new ≡ old ++ v ∷ [] → map variable old ≡ before ++ map (variable_of n) (map declared (take i ds))
    → map variable new ≡ before ++ map (variable_of n) (map declared (take (i + 1) ds))
given_variable_taken n ds i d name v before old new l is made same e h =
    let last : variable v ≡ variable_of n (declared d) = made ∙ (λ j. record (variable_of n (declared d)) { name = same j }) in
    ap (map variable) e
    ∙ map-append variable old (v ∷ [])
    ∙ (λ j. h j ++ last j ∷ [])
    ∙ append_assoc before (map (variable_of n) (map declared (take i ds))) (variable_of n (declared d) ∷ [])
    ∙ ap (λ vs. before ++ vs) (sym (ap (map (variable_of n)) (taken declared ds i d l is) ∙ map-append (variable_of n) (map declared (take i ds)) (declared d ∷ [])))

locals_append : (n k m : ℕ) (xs ys : List Declared) → m ≡ k + length xs → locals_of n k (xs ++ ys) ≡ locals_of n k xs ++ locals_of n m ys
locals_append n k m [] ys e = let same : k ≡ m = omega (arith, e) in ap (λ i. locals_of n i ys) same
locals_append n k m (x ∷ xs) ys e = ap (λ vs. (locals_of n k (x ∷ [])) ++ vs) (locals_append n (suc k) m xs ys (omega (arith, e)))

pub locals_many : (n k : ℕ) (xs : List Declared) → length (locals_of n k xs) ≡ length xs
locals_many n k [] = refl
locals_many n k (x ∷ xs) = ap suc (locals_many n (suc k) xs)

-- the locals of one more part
pub locals_taken : (n : ℕ) (xs : List code.Item) (i : ℕ) (x : code.Item) (old new : List Var) → i < length xs → x ≡ get_or xs i x
    → map variable old ≡ locals_of n 0 (flat_map local_at (items_view (take i xs)))
    → map variable new ≡ map variable old ++ locals_of n (length old) (local_at (item x)) → map variable new ≡ locals_of n 0 (flat_map local_at (items_view (take (i + 1) xs)))
locals_taken n xs i x old new l is h e =
    let before = flat_map local_at (items_view (take i xs)) in
    let many : length old ≡ length before = sym (length-map old variable) ∙ ap length h ∙ locals_many n 0 before in
    e
    ∙ ap (λ vs. vs ++ locals_of n (length old) (local_at (item x))) h
    ∙ sym (ap (locals_of n 0) (items_taken local_at xs i x l is) ∙ locals_append n 0 (length old) before (local_at (item x)) (omega (arith, many)))

-- the counters of one more part
pub counters_taken : (n : ℕ) (xs : List code.Item) (i : ℕ) (x : code.Item) (old new : List Counter) → i < length xs → x ≡ get_or xs i x
    → map turns old ≡ map (least_and_most n) (flat_map counter_at (items_view (take i xs)))
    → map turns new ≡ map turns old ++ map (least_and_most n) (counter_at (item x)) → map turns new ≡ map (least_and_most n) (flat_map counter_at (items_view (take (i + 1) xs)))
counters_taken n xs i x old new l is h e =
    e
    ∙ ap (λ cs. cs ++ map (least_and_most n) (counter_at (item x))) h
    ∙ sym (ap (map (least_and_most n)) (items_taken counter_at xs i x l is) ∙ map-append (least_and_most n) (flat_map counter_at (items_view (take i xs))) (counter_at (item x)))
