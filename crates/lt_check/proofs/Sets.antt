-- Sets of terms.
use Rattle.std.proofs.Common.{◌≡◌, ◌⊎◌, inl, inr, ℕ, Bool, true, false, List, [], ◌∷◌, ◌++◌, refl, sym, ◌∙◌, subst}
use Rattle.std.specs.Prelude.{◌||◌}
use Rattle.lt_same_term.proofs.Public.{decides}
use Rattle.lt_same_term.specs.Alike.{alike}
use Rattle.lt_term.specs.Process.{Process}
use Rattle.lt_check.specs.inner.Terms.{has, with_each, with_one}
use Rattle.lt_check.specs.inner.Members.{Apart, Has}
use Rattle.lt_check.proofs.Lists.{either, has_either, has_first, has_second}

or_either : (a b : Bool) → (a || b) ≡ true → (a ≡ true) ⊎ (b ≡ true)
or_either true b h = inl refl
or_either false b h = inr h

or_first : (a b : Bool) → a ≡ true → (a || b) ≡ true
or_first true b h = refl
or_first false b h = absurd (cc)

or_second : (a b : Bool) → b ≡ true → (a || b) ≡ true
or_second true b h = refl
or_second false b h = h

over : {P Q R S : Type 0} → (P → R) → (Q → S) → P ⊎ Q → R ⊎ S
over f g (inl h) = inl (f h)
over f g (inr h) = inr (g h)

pub has_is : (qs : List (Process ℕ)) (p : Process ℕ) → has qs p ≡ true → Has qs p
has_is [] p h = absurd (cc)
has_is (q ∷ qs) p h = over (λ e. sym ((decides p q).0 e)) (has_is qs p) (or_either (alike p q) (has qs p) h)

pub is_has : (qs : List (Process ℕ)) (p : Process ℕ) → Has qs p → has qs p ≡ true
is_has [] p h = absurd h
is_has (q ∷ qs) p (inl e) = or_first (alike p q) (has qs p) ((decides p q).1 (sym e))
is_has (q ∷ qs) p (inr h) = or_second (alike p q) (has qs p) (is_has qs p h)

only_one : {A : Type 0} → A ⊎ ⊥ → A
only_one (inl a) = a
only_one (inr b) = absurd b

one_tells : (qs : List (Process ℕ)) (p r : Process ℕ) → Has (with_one qs p) r → Has qs r ⊎ (p ≡ r)
one_tells qs p r h = either (has qs p) (λ k. inl (rw k at h)) (λ k. over (λ e. e) (λ e. only_one e) (has_either qs (p ∷ []) r (rw k at h)))

one_old : (qs : List (Process ℕ)) (p r : Process ℕ) → Has qs r → Has (with_one qs p) r
one_old qs p r h = either (has qs p) (λ k. rw k h) (λ k. rw k (has_first qs (p ∷ []) r h))

one_new : (qs : List (Process ℕ)) (p : Process ℕ) → Has (with_one qs p) p
one_new qs p = either (has qs p) (λ k. rw k (has_is qs p k)) (λ k. rw k (has_second qs (p ∷ []) p (inl refl)))

apart_push : (qs : List (Process ℕ)) (p : Process ℕ) → Apart qs → (Has qs p → ⊥) → Apart (qs ++ p ∷ [])
apart_push [] p a n = (λ h. h, tt)
apart_push (q ∷ qs) p a n = (λ h. apart_of (has_either qs (p ∷ []) q h), apart_push qs p a.1 (λ h. n (inr h)))
  where
    apart_of : Has qs q ⊎ ((p ≡ q) ⊎ ⊥) → ⊥
    apart_of (inl k) = a.0 k
    apart_of (inr (inl e)) = n (inl (sym e))
    apart_of (inr (inr e)) = e

one_apart : (qs : List (Process ℕ)) (p : Process ℕ) → Apart qs → Apart (with_one qs p)
one_apart qs p a = either (has qs p) (λ k. rw k a) (λ k. rw k (apart_push qs p a (λ h. let e = sym k ∙ is_has qs p h in absurd (cc))))

pub each_tells : (qs ps : List (Process ℕ)) (r : Process ℕ) → Has (with_each qs ps) r → Has qs r ⊎ Has ps r
each_tells qs [] r h = inl h
each_tells qs (p ∷ ps) r h = first (each_tells (with_one qs p) ps r h)
  where
    first : Has (with_one qs p) r ⊎ Has ps r → Has qs r ⊎ ((p ≡ r) ⊎ Has ps r)
    first (inl k) = over (λ e. e) (λ e. inl e) (one_tells qs p r k)
    first (inr k) = inr (inr k)

pub each_old : (qs ps : List (Process ℕ)) (r : Process ℕ) → Has qs r → Has (with_each qs ps) r
each_old qs [] r h = h
each_old qs (p ∷ ps) r h = each_old (with_one qs p) ps r (one_old qs p r h)

pub each_new : (qs ps : List (Process ℕ)) (r : Process ℕ) → Has ps r → Has (with_each qs ps) r
each_new qs [] r h = absurd h
each_new qs (p ∷ ps) r (inl e) = each_old (with_one qs p) ps r (subst (λ x. Has (with_one qs p) x) e (one_new qs p))
each_new qs (p ∷ ps) r (inr h) = each_new (with_one qs p) ps r h

pub each_apart : (qs ps : List (Process ℕ)) → Apart qs → Apart (with_each qs ps)
each_apart qs [] a = a
each_apart qs (p ∷ ps) a = each_apart (with_one qs p) ps (one_apart qs p a)

-- one set after another
pub each_each : (qs ps rs : List (Process ℕ)) → with_each (with_each qs ps) rs ≡ with_each qs (ps ++ rs)
each_each qs [] rs = refl
each_each qs (p ∷ ps) rs = each_each (with_one qs p) ps rs
