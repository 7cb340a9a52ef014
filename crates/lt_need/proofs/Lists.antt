-- What is in lists, and tests of it.
use Rattle.std.proofs.Common.{◌≡◌, ◌<◌, ◌||◌, ◌⊎◌, inl, inr, ℕ, zero, suc, Bool, true, false, List, [], ◌∷◌, ◌++◌, length, refl, ap, sym, ◌∙◌, arith, get_or}
use Rattle.std.specs.List.{list_any}
use Rattle.std.proofs.lemmas.Bool.{or_cases, or_left, or_right}
use Rattle.lt_need.specs.inner.Reached.{IsIn}

-- two tests that imply each other
pub same_from : (a b : Bool) → (a ≡ true → b ≡ true) → (b ≡ true → a ≡ true) → a ≡ b
same_from true b f g = sym (f refl)
same_from false true f g = g refl
same_from false false f g = refl

pub in_any : {A : Type 0} (p : A → Bool) (xs : List A) (a : A) → IsIn xs a → p a ≡ true → list_any p xs ≡ true
in_any p [] a h e = absurd h
in_any p (x ∷ xs) a (inl s) e = or_left (p x) (list_any p xs) (ap p s ∙ e)
in_any p (x ∷ xs) a (inr h) e = or_right (p x) (list_any p xs) (in_any p xs a h e)

pub any_at : {A : Type 0} (p : A → Bool) (xs : List A) → list_any p xs ≡ true → (a : A) × (IsIn xs a) × (p a ≡ true)
any_at p [] e = absurd (cc)
any_at {A = A} p (x ∷ xs) e = by_part (any_at p xs) (or_cases (p x) (list_any p xs) e)
  where
    by_part : (list_any p xs ≡ true → (a : A) × (IsIn xs a) × (p a ≡ true)) → (p x ≡ true) ⊎ (list_any p xs ≡ true) → (a : A) × (IsIn (x ∷ xs) a) × (p a ≡ true)
    by_part later (inl h) = (x, inl refl, h)
    by_part later (inr h) = let found = later h in (found.0, inr found.1, found.2)

pub any_in : {A : Type 0} (p q : A → Bool) (xs : List A) → ((a : A) → IsIn xs a → p a ≡ q a) → list_any p xs ≡ list_any q xs
any_in p q [] e = refl
any_in p q (x ∷ xs) e = ap (λ b. b || list_any p xs) (e x (inl refl)) ∙ ap (λ b. q x || b) (any_in p q xs (λ a h. e a (inr h)))

pub in_left : (xs ys : List ℕ) (n : ℕ) → IsIn xs n → IsIn (xs ++ ys) n
in_left [] ys n h = absurd h
in_left (x ∷ xs) ys n (inl e) = inl e
in_left (x ∷ xs) ys n (inr h) = inr (in_left xs ys n h)

pub in_right : (xs ys : List ℕ) (n : ℕ) → IsIn ys n → IsIn (xs ++ ys) n
in_right [] ys n h = h
in_right (x ∷ xs) ys n h = inr (in_right xs ys n h)

pub in_split : (xs ys : List ℕ) (n : ℕ) → IsIn (xs ++ ys) n → IsIn xs n ⊎ IsIn ys n
in_split [] ys n h = inr h
in_split (x ∷ xs) ys n (inl e) = inl (inl e)
in_split (x ∷ xs) ys n (inr h) = by_part (in_split xs ys n h)
  where
    by_part : IsIn xs n ⊎ IsIn ys n → IsIn (x ∷ xs) n ⊎ IsIn ys n
    by_part (inl k) = inl (inr k)
    by_part (inr k) = inr k

-- what is at a place
pub in_at : (xs : List ℕ) (i d : ℕ) → i < length xs → IsIn xs (get_or xs i d)
in_at [] i d l = absurd (omega (arith, l))
in_at (x ∷ xs) zero d l = inl refl
in_at (x ∷ xs) (suc i) d l = inr (in_at xs i d (omega (arith, l)))
