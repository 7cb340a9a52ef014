-- The merging of two lists of terms, front by front.
use Rattle.std.proofs.Common.{◌≡◌, ℕ, ◌<◌, ◌≤◌, Bool, true, false, ◌&&◌, List, [], ◌∷◌, ◌++◌, ℤ, pos, Option, Some, None, nat_lt, nat_eq, refl, ap, sym, ◌∙◌, subst, arith, if◌then◌else◌, append_assoc, append-nil}
use Rattle.std.specs.Ordering.{int_eq}
use Rattle.std.proofs.lemmas.Bool.Decides.{nat_tests}
use Rattle.lt_linear.specs.Form.{Term, before, merged, one, with_term}
use Rattle.lt_linear.specs.inner.Merging.{IsFront}

left_of : (a b : Bool) → (a && b) ≡ true → a ≡ true
left_of true b h = refl
left_of false b h = h

right_of : (a b : Bool) → (a && b) ≡ true → b ≡ true
right_of true b h = h
right_of false b h = absurd (cc)

chosen : {A : Type 0} (b c : Bool) (x y : A) → b ≡ c → (if b then x else y) ≡ (if c then x else y)
chosen b c x y h = ap (λ d. if d then x else y) h

is_less : (i j : ℕ) → i < j → nat_lt i j ≡ true
is_less i j h = grind (arith, nat_tests)

isnt_less : (i j : ℕ) → j ≤ i → nat_lt i j ≡ false
isnt_less i j h = grind (arith, nat_tests)

is_same : (i j : ℕ) → i ≡ j → nat_eq i j ≡ true
is_same i j h = grind (arith, nat_tests)

isnt_same : (i j : ℕ) → j < i → nat_eq i j ≡ false
isnt_same i j h = grind (arith, nat_tests)

-- the second list's variable is the first one
front_second : (t u : Term) (ts us : List Term) → u.0 < t.0 → IsFront (t ∷ ts) (u ∷ us) u.0 (pos 0) u.1 (t ∷ ts) us
front_second t u ts us h =
    record {
      merges = λ f. chosen (nat_lt u.0 t.0) true _ _ (is_less u.0 t.0 h);
      fewer = omega arith;
      pass = λ test z l r. (z, left_of _ _ r, l, right_of (test u.1) _ r);
    }

-- both lists have it
front_both : (t u : Term) (ts us : List Term) → u.0 ≡ t.0 → IsFront (t ∷ ts) (u ∷ us) t.0 t.1 u.1 ts us
front_both t u ts us h =
    record {
      merges = λ f. chosen (nat_lt u.0 t.0) false _ _ (isnt_less u.0 t.0 (omega (arith, h))) ∙ chosen (nat_eq u.0 t.0) true _ _ (is_same u.0 t.0 h);
      fewer = omega arith;
      pass = λ test z l r. (left_of _ _ l, left_of _ _ r, right_of (test t.1) _ l, right_of (test u.1) _ r);
    }

-- the first list's variable is the first one
front_first : (t u : Term) (ts us : List Term) → t.0 < u.0 → IsFront (t ∷ ts) (u ∷ us) t.0 t.1 (pos 0) ts (u ∷ us)
front_first t u ts us h =
    record {
      merges = λ f. chosen (nat_lt u.0 t.0) false _ _ (isnt_less u.0 t.0 (omega (arith, h))) ∙ chosen (nat_eq u.0 t.0) false _ _ (isnt_same u.0 t.0 h);
      fewer = omega arith;
      pass = λ test z l r. (left_of _ _ l, z, right_of (test t.1) _ l, r);
    }

-- the first list alone has terms
front_left : (t : Term) (ts : List Term) → IsFront (t ∷ ts) [] t.0 t.1 (pos 0) ts []
front_left t ts =
    record {
      merges = λ f. refl;
      fewer = omega arith;
      pass = λ test z l r. (left_of _ _ l, z, right_of (test t.1) _ l, r);
    }

-- the second list alone has terms
front_right : (u : Term) (us : List Term) → IsFront [] (u ∷ us) u.0 (pos 0) u.1 [] us
front_right u us =
    record {
      merges = λ f. refl;
      fewer = omega arith;
      pass = λ test z l r. (z, left_of _ _ r, l, right_of (test u.1) _ r);
    }

-- the fronts of lists that are known to begin with these terms
pub second_is_front : (left right ts us : List Term) (t u : Term) → left ≡ t ∷ ts → right ≡ u ∷ us → u.0 < t.0 → IsFront left right u.0 (pos 0) u.1 left us
second_is_front left right ts us t u l r h =
    subst (λ (xs : List Term). IsFront xs right u.0 (pos 0) u.1 xs us) (sym l) (subst (λ (ys : List Term). IsFront (t ∷ ts) ys u.0 (pos 0) u.1 (t ∷ ts) us) (sym r) (front_second t u ts us h))

pub both_are_front : (left right ts us : List Term) (t u : Term) → left ≡ t ∷ ts → right ≡ u ∷ us → u.0 ≡ t.0 → IsFront left right t.0 t.1 u.1 ts us
both_are_front left right ts us t u l r h =
    subst (λ (xs : List Term). IsFront xs right t.0 t.1 u.1 ts us) (sym l) (subst (λ (ys : List Term). IsFront (t ∷ ts) ys t.0 t.1 u.1 ts us) (sym r) (front_both t u ts us h))

pub first_is_front : (left right ts us : List Term) (t u : Term) → left ≡ t ∷ ts → right ≡ u ∷ us → t.0 < u.0 → IsFront left right t.0 t.1 (pos 0) ts right
first_is_front left right ts us t u l r h =
    subst (λ (xs : List Term). IsFront xs right t.0 t.1 (pos 0) ts right) (sym l) (subst (λ (ys : List Term). IsFront (t ∷ ts) ys t.0 t.1 (pos 0) ts ys) (sym r) (front_first t u ts us h))

pub left_is_front : (left right ts : List Term) (t : Term) → left ≡ t ∷ ts → right ≡ [] → IsFront left right t.0 t.1 (pos 0) ts right
left_is_front left right ts t l r =
    subst (λ (xs : List Term). IsFront xs right t.0 t.1 (pos 0) ts right) (sym l) (subst (λ (ys : List Term). IsFront (t ∷ ts) ys t.0 t.1 (pos 0) ts ys) (sym r) (front_left t ts))

pub right_is_front : (left right us : List Term) (u : Term) → left ≡ [] → right ≡ u ∷ us → IsFront left right u.0 (pos 0) u.1 left us
right_is_front left right us u l r =
    subst (λ (xs : List Term). IsFront xs right u.0 (pos 0) u.1 xs us) (sym l) (subst (λ (ys : List Term). IsFront [] ys u.0 (pos 0) u.1 [] us) (sym r) (front_right u us))

pub none_is_front : (left right : List Term) → left ≡ [] → right ≡ [] → (f : ℤ → ℤ → Option ℤ) → merged f left right ≡ Some []
none_is_front left right l r f = λ i. merged f (l i) (r i)

pub ruleset fronts = (second_is_front, both_are_front, first_is_front, left_is_front, right_is_front, none_is_front)

-- terms that were written, before others
abbrev pub written_before : List Term → Option (List Term) → Option (List Term)
written_before written None = None
written_before written (Some terms) = Some (written ++ terms)

with_one : (written : List Term) (i : ℕ) (c : ℤ) (terms : List Term) → written ++ with_term i c terms ≡ (written ++ one i c) ++ terms
with_one written i c terms = by (int_eq c (pos 0))
  where
    by : (b : Bool) → written ++ (if b then terms else (i, c) ∷ terms) ≡ (written ++ (if b then [] else (i, c) ∷ [])) ++ terms
    by true = ap (λ ws. ws ++ terms) (sym (append-nil written))
    by false = sym (append_assoc written ((i, c) ∷ []) terms)

-- one more term is written
pub one_written : (written : List Term) (i : ℕ) (c : ℤ) (rest : Option (List Term)) → written_before written (before i (Some c) rest) ≡ written_before (written ++ one i c) rest
one_written written i c None = refl
one_written written i c (Some terms) = ap Some (with_one written i c terms)
