-- Lists of variables, none of which stands there twice.
use Rattle.std.proofs.Common.{◌≡◌, ℕ, suc, ◌<◌, ◌≤◌, true, false, ◌||◌, eqb, List, [], ◌∷◌, ◌++◌, length, ◌⊎◌, inl, inr, refl, ap, sym, ◌∙◌, arith}
use Rattle.std.proofs.lemmas.Bool.{cases_eq}
use Rattle.std.proofs.lemmas.Bool.Decides.{eqb_tells}
use Rattle.std.proofs.lemmas.Map.Steps.{length-le_from_distinct_below}
use Rattle.std.specs.List.{IsDistinct, AllByRecursion, list_any}

-- a variable is one of these
abbrev pub IsIn : ℕ → List ℕ → Type 0
IsIn p [] = ⊥
IsIn p (q ∷ qs) = (p ≡ q) ⊎ IsIn p qs

-- all of these are below k
abbrev pub AreBelow : ℕ → List ℕ → Type 0
AreBelow k [] = Unit {0}
AreBelow k (p ∷ ps) = (p < k) × AreBelow k ps

-- no two of these are equal
abbrev pub AreApart : List ℕ → Type 0
AreApart [] = Unit {0}
AreApart (p ∷ ps) = (IsIn p ps → ⊥) × AreApart ps

pub is_below : (k p : ℕ) (ps : List ℕ) → AreBelow k ps → IsIn p ps → p < k
is_below k p [] h i = absurd i
is_below k p (q ∷ qs) h i = elim i [ inl e ↦ (let l = h.0 in omega (arith, e)) | inr m ↦ is_below k p qs h.1 m ]

pub below_more : (k : ℕ) (ps : List ℕ) → AreBelow k ps → AreBelow (suc k) ps
below_more k [] h = tt
below_more k (p ∷ ps) h = ((let l = h.0 in omega arith), below_more k ps h.1)

pub below_joined : (k : ℕ) (xs ys : List ℕ) → AreBelow k xs → AreBelow k ys → AreBelow (suc k) (xs ++ k ∷ ys)
below_joined k [] ys h g = (omega arith, below_more k ys g)
below_joined k (x ∷ xs) ys h g = ((let l = h.0 in omega arith), below_joined k xs ys h.1 g)

in_joined : (p : ℕ) (xs ys : List ℕ) → IsIn p (xs ++ ys) → IsIn p xs ⊎ IsIn p ys
in_joined p [] ys i = inr i
in_joined p (x ∷ xs) ys i = elim i [ inl e ↦ inl (inl e) | inr m ↦ elim (in_joined p xs ys m) [ inl a ↦ inl (inr a) | inr b ↦ inr b ] ]

apart_joined : (xs ys : List ℕ) → AreApart xs → AreApart ys → ((p : ℕ) → IsIn p xs → IsIn p ys → ⊥) → AreApart (xs ++ ys)
apart_joined [] ys h g d = g
apart_joined (x ∷ xs) ys h g d = (
  (λ i. elim (in_joined x xs ys i) [ inl a ↦ h.0 a | inr b ↦ d x (inl refl) b ]),
  apart_joined xs ys h.1 g (λ p i j. d p (inr i) j),
)

-- the walk through k of two walks that share nothing and stay below k
pub joined_apart : (k : ℕ) (xs ys : List ℕ) → AreBelow k xs → AreBelow k ys → AreApart xs → AreApart ys → ((p : ℕ) → IsIn p xs → IsIn p ys → ⊥) → AreApart (xs ++ k ∷ ys)
joined_apart k xs ys bx by ax ay d =
    apart_joined xs (k ∷ ys) ax ((λ i. absurd (let l = is_below k k ys by i in omega arith)), ay)
    (λ p i j. elim j [ inl e ↦ absurd (let l = is_below k p xs bx i in omega arith) | inr m ↦ d p i m ])

-- other variables, by std's words
others : (p : ℕ) (ps : List ℕ) → (IsIn p ps → ⊥) → AllByRecursion (λ q. eqb p q ≡ false) ps
others p [] h = tt
others p (q ∷ qs) h = (elim (eqb_tells p q) [ inl t ↦ absurd (h (inl t.1)) | inr f ↦ f.0 ], others p qs (λ i. h (inr i)))

-- none twice, by std's words
distinct : (ps : List ℕ) → AreApart ps → IsDistinct eqb ps
unfolding IsDistinct
distinct [] h = tt
distinct (p ∷ ps) h = (others p ps h.0, distinct ps h.1)

any_below : (k p : ℕ) (ps : List ℕ) → AreBelow k ps → list_any (eqb p) ps ≡ true → p < k
any_below k p [] h e = absurd (cc)
any_below k p (q ∷ qs) h e = elim (eqb_tells p q) [
  | inl t ↦ (let l = h.0 in let is = t.1 in omega arith)
  | inr f ↦ any_below k p qs h.1 (sym (ap (λ b. b || list_any (eqb p) qs) f.0) ∙ e)
]

-- there are at most k different variables below k
pub few : (k : ℕ) (ps : List ℕ) → AreBelow k ps → AreApart ps → length ps ≤ k
few k ps b a = length-le_from_distinct_below ps k (distinct ps a) (λ p. any_below k p ps b)

-- whether a variable is one of these
pub in_or_not : (p : ℕ) (ps : List ℕ) → IsIn p ps ⊎ (IsIn p ps → ⊥)
in_or_not p [] = inr (λ i. i)
in_or_not p (q ∷ qs) = elim (cases_eq p q) [
  | inl e ↦ inl (inl e)
  | inr ne ↦ elim (in_or_not p qs) [
    | inl i ↦ inl (inr i)
    | inr out ↦ inr (λ i. elim i [ inl e ↦ ne e | inr m ↦ out m ])
  ]
]
