-- Signs by the first of their letters.
use Rattle.std.proofs.Common.{◌≡◌, ℕ, Bool, true, false, cond, nat_eq, List, [], ◌∷◌, refl, ap, sym, ◌∙◌, subst, Some}
use Rattle.std.specs.Cmp.Lexicographic.{pointwise}
use Rattle.std.specs.List.{find, filter, slice_get}
use Rattle.lt_ast.specs.Signs.{spelled}
use Rattle.lt_lexer.specs.inner.Spelling.{signs, begins, beginning_with, first_spelled, sign_spelled}
use Rattle.lt_lexer.proofs.Bools.{left_of, is_false}

-- at the first element, by whether the weaker test keeps it
kept_step : {X : Type 0} (p q : X → Bool) (v : Bool) (x : X) (xs : List X) → q x ≡ v → (p x ≡ true → q x ≡ true) → find p (filter q xs) ≡ find p xs → find p (cond v (x ∷ filter q xs) (filter q xs)) ≡ find p (x ∷ xs)
kept_step p q true x xs e k h = ap (cond (p x) (Some x)) h
kept_step p q false x xs e k h =
    let no : p x ≡ false = is_false (p x) (λ t. let untrue : true ≡ false = sym (k t) ∙ e in cc untrue) in
    h ∙ ap (λ v. cond v (Some x) (find p xs)) (sym no)

-- what is found is found among those that pass a weaker test
find_kept : {X : Type 0} (p q : X → Bool) (xs : List X) → ((x : X) → p x ≡ true → q x ≡ true) → find p (filter q xs) ≡ find p xs
find_kept p q [] k = refl
find_kept p q (x ∷ xs) k = kept_step p q (q x) x xs refl (k x) (find_kept p q xs k)

-- the same letters begin the same
begins_so : (l : List ℕ) (b : ℕ) (bs : List ℕ) → pointwise nat_eq l (b ∷ bs) ≡ true → begins b l ≡ true
begins_so [] b bs h = absurd (cc h)
begins_so (x ∷ xs) b bs h = left_of (nat_eq x b) (pointwise nat_eq xs bs) h

-- a sign is found among those that begin as its letters do
pub in_row : (b : ℕ) (bs : List ℕ) → first_spelled (b ∷ bs) (beginning_with b) ≡ sign_spelled (b ∷ bs)
in_row b bs = find_kept (λ sign. pointwise nat_eq (spelled sign) (b ∷ bs)) (λ sign. begins b (spelled sign)) signs (λ sign h. begins_so (spelled sign) b bs h)

-- by the first of the letters
pub spelled_in_row : (bytes : List ℕ) (b : ℕ) → slice_get bytes 0 ≡ Some b → first_spelled bytes (beginning_with b) ≡ sign_spelled bytes
spelled_in_row [] b h = absurd (cc h)
spelled_in_row (x ∷ bs) b h =
    let same : x ≡ b = cc h in
    let P : ℕ → Type 0 = λ y. first_spelled (x ∷ bs) (beginning_with y) ≡ sign_spelled (x ∷ bs) in
    subst P same (in_row x bs)
