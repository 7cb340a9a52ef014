-- Members of lists.
use Rattle.std.proofs.Common.{◌≡◌, ◌<◌, ◌⊎◌, inl, inr, ℕ, zero, suc, Bool, true, false, List, [], ◌∷◌, ◌++◌, length, map, get_or, refl, ap, sym, ◌∙◌, subst, arith}
use Rattle.std.specs.Prelude.{reverse, filter, Contains, All, AllPairs}
use Rattle.std.specs.List.{flat_map}
use Rattle.std.proofs.lemmas.List.{reverse-append}
use Rattle.lt_check.specs.inner.Members.{Apart, Has}

pub has_first : {A : Type 0} (xs ys : List A) (x : A) → Has xs x → Has (xs ++ ys) x
has_first [] ys x h = absurd h
has_first (y ∷ xs) ys x (inl h) = inl h
has_first (y ∷ xs) ys x (inr h) = inr (has_first xs ys x h)

pub has_second : {A : Type 0} (xs ys : List A) (x : A) → Has ys x → Has (xs ++ ys) x
has_second [] ys x h = h
has_second (y ∷ xs) ys x h = inr (has_second xs ys x h)

over : {P Q R S : Type 0} → (P → R) → (Q → S) → P ⊎ Q → R ⊎ S
over f g (inl h) = inl (f h)
over f g (inr h) = inr (g h)

under : {A B C : Type 0} → A ⊎ (B ⊎ C) → (A ⊎ B) ⊎ C
under (inl a) = inl (inl a)
under (inr (inl b)) = inl (inr b)
under (inr (inr c)) = inr c

pub has_either : {A : Type 0} (xs ys : List A) (x : A) → Has (xs ++ ys) x → Has xs x ⊎ Has ys x
has_either [] ys x h = inr h
has_either (y ∷ xs) ys x (inl h) = inl (inl h)
has_either (y ∷ xs) ys x (inr h) = under (inr (has_either xs ys x h))

last_or : {A : Type 0} (y x : A) (P : Type 0) → P ⊎ ((y ≡ x) ⊎ ⊥) → (y ≡ x) ⊎ P
last_or y x P (inl h) = inr h
last_or y x P (inr (inl h)) = inl h
last_or y x P (inr (inr h)) = absurd h

pub reversed : {A : Type 0} (xs : List A) (x : A) → Has xs x → Has (reverse xs) x
reversed [] x h = absurd h
reversed (y ∷ xs) x (inl h) = subst (λ zs. Has zs x) (sym (reverse-append (y ∷ []) xs)) (has_second (reverse xs) (y ∷ []) x (inl h))
reversed (y ∷ xs) x (inr h) = subst (λ zs. Has zs x) (sym (reverse-append (y ∷ []) xs)) (has_first (reverse xs) (y ∷ []) x (reversed xs x h))

pub from_reversed : {A : Type 0} (xs : List A) (x : A) → Has (reverse xs) x → Has xs x
from_reversed [] x h = h
from_reversed (y ∷ xs) x h = over (λ e. e) (from_reversed xs x) (last_or y x (Has (reverse xs) x) (has_either (reverse xs) (y ∷ []) x (subst (λ zs. Has zs x) (reverse-append (y ∷ []) xs) h)))

pub mapped : {A B : Type 0} (f : A → B) (xs : List A) (x : A) → Has xs x → Has (map f xs) (f x)
mapped f [] x h = absurd h
mapped f (y ∷ xs) x (inl h) = inl (ap f h)
mapped f (y ∷ xs) x (inr h) = inr (mapped f xs x h)

pub record From {A B : Type 0} (f : A → B) (xs : List A) (y : B) : Type 0 where
  pub of : A
  pub has : Has xs of
  pub is : f of ≡ y

from_on : {A B : Type 0} (f : A → B) (z : A) (xs : List A) (y : B) → From f xs y → From f (z ∷ xs) y
from_on f z xs y r = record { of = r.of; has = inr r.has; is = r.is }

pub from_mapped : {A B : Type 0} (f : A → B) (xs : List A) (y : B) → Has (map f xs) y → From f xs y
from_mapped f [] y h = absurd h
from_mapped f (x ∷ xs) y (inl h) = record { of = x; has = inl refl; is = h }
from_mapped f (x ∷ xs) y (inr h) = from_on f x xs y (from_mapped f xs y h)

pub either : {P : Type 0} (b : Bool) → (b ≡ true → P) → (b ≡ false → P) → P
either true f g = f refl
either false f g = g refl

pub filtered : {A : Type 0} (p : A → Bool) (xs : List A) (x : A) → Has xs x → p x ≡ true → Has (filter p xs) x
filtered p [] x h e = absurd h
filtered p (y ∷ xs) x (inl h) e = rw (ap p h ∙ e) (inl h)
filtered p (y ∷ xs) x (inr h) e = either (p y) (λ k. rw k (inr (filtered p xs x h e))) (λ k. rw k (filtered p xs x h e))

first_filtered : {A : Type 0} (p : A → Bool) (y : A) (xs : List A) (x : A) → (Has (filter p xs) x → Has xs x × (p x ≡ true)) → p y ≡ true → (y ≡ x) ⊎ Has (filter p xs) x → ((y ≡ x) ⊎ Has xs x) × (p x ≡ true)
first_filtered p y xs x f k (inl e) = (inl e, ap p (sym e) ∙ k)
first_filtered p y xs x f k (inr e) = let r = f e in (inr r.0, r.1)

pub from_filtered : {A : Type 0} (p : A → Bool) (xs : List A) (x : A) → Has (filter p xs) x → Has xs x × (p x ≡ true)
from_filtered p [] x h = absurd h
from_filtered p (y ∷ xs) x h = either (p y) (λ k. first_filtered p y xs x (λ g. from_filtered p xs x g) k (rw k at h)) (λ k. let r = from_filtered p xs x (rw k at h) in (inr r.0, r.1))

pub record FromFlat {A B : Type 0} (f : A → List B) (xs : List A) (y : B) : Type 0 where
  pub of : A
  pub has : Has xs of
  pub is : Has (f of) y

flat_on : {A B : Type 0} (f : A → List B) (z : A) (xs : List A) (y : B) → FromFlat f xs y → FromFlat f (z ∷ xs) y
flat_on f z xs y r = record { of = r.of; has = inr r.has; is = r.is }

flat_either : {A B : Type 0} (f : A → List B) (x : A) (xs : List A) (y : B) → (Has (flat_map f xs) y → FromFlat f xs y) → Has (f x) y ⊎ Has (flat_map f xs) y → FromFlat f (x ∷ xs) y
flat_either f x xs y g (inl k) = record { of = x; has = inl refl; is = k }
flat_either f x xs y g (inr k) = flat_on f x xs y (g k)

pub from_flat : {A B : Type 0} (f : A → List B) (xs : List A) (y : B) → Has (flat_map f xs) y → FromFlat f xs y
from_flat f [] y h = absurd h
from_flat f (x ∷ xs) y h = flat_either f x xs y (λ k. from_flat f xs y k) (has_either (f x) (flat_map f xs) y h)

pub flat_has : {A B : Type 0} (f : A → List B) (xs : List A) (x : A) (y : B) → Has xs x → Has (f x) y → Has (flat_map f xs) y
flat_has f [] x y h k = absurd h
flat_has f (z ∷ xs) x y (inl h) k = has_first (f z) (flat_map f xs) y (subst (λ u. Has (f u) y) (sym h) k)
flat_has f (z ∷ xs) x y (inr h) k = has_second (f z) (flat_map f xs) y (flat_has f xs x y h k)

-- ---- the words of std

pub to_contains : {A : Type 0} (xs : List A) (x : A) → Has xs x → Contains xs x
to_contains [] x h = absurd h
to_contains (y ∷ xs) x (inl h) = (zero, omega arith, h)
to_contains (y ∷ xs) x (inr h) = let r = to_contains xs x h in (suc r.0, omega (arith, r.1), r.2)

pub from_contains : {A : Type 0} (xs : List A) (x : A) → Contains xs x → Has xs x
from_contains xs x h = at xs h.0 h.1 h.2
  where
    at : (ys : List _) (k : ℕ) → k < length ys → get_or ys k x ≡ x → Has ys x
    at [] k l e = absurd (omega (arith, l))
    at (y ∷ ys) zero l e = inl e
    at (y ∷ ys) (suc k) l e = inr (at ys k (omega (arith, l)) e)

pub has_at : {A : Type 0} (xs : List A) (k : ℕ) (d : A) → k < length xs → Has xs (get_or xs k d)
has_at [] k d l = absurd (omega (arith, l))
has_at (y ∷ xs) zero d l = inl refl
has_at (y ∷ xs) (suc k) d l = inr (has_at xs k d (omega (arith, l)))

pub to_all : {A : Type 0} (P : A → Type 0) (xs : List A) → ((x : A) → Has xs x → P x) → All P xs
to_all P xs f = λ k d l. f (get_or xs k d) (has_at xs k d l)

pub to_pairs : {A : Type 0} (xs : List A) → Apart xs → AllPairs (λ a b. a ≡ b → ⊥) xs
to_pairs [] h i j d l m = absurd (omega (arith, m))
to_pairs (y ∷ xs) h zero zero d l m = absurd (omega (arith, l))
to_pairs (y ∷ xs) h zero (suc j) d l m = λ e. h.0 (subst (λ z. Has xs z) (sym e) (has_at xs j d (omega (arith, m))))
to_pairs (y ∷ xs) h (suc i) zero d l m = absurd (omega (arith, l))
to_pairs (y ∷ xs) h (suc i) (suc j) d l m = to_pairs xs h.1 i j d (omega (arith, l)) (omega (arith, m))

pub apart_mapped : {A B : Type 0} (f : A → B) (xs : List A) → ((x y : A) → Has xs x → Has xs y → f x ≡ f y → x ≡ y) → Apart xs → Apart (map f xs)
apart_mapped f [] g h = tt
apart_mapped f (x ∷ xs) g h = (λ k. let r = from_mapped f xs (f x) k in h.0 (subst (λ z. Has xs z) (g r.of x (inr r.has) (inl refl) r.is) r.has), apart_mapped f xs (λ y z a b e. g y z (inr a) (inr b) e) h.1)

-- f after g of each element
pub fused : {A B C : Type 0} (f : B → C) (g : A → B) (xs : List A) → map (λ x. f (g x)) xs ≡ map f (map g xs)
fused f g [] = refl
fused f g (x ∷ xs) = ap (λ ys. f (g x) ∷ ys) (fused f g xs)
