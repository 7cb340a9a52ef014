-- What a memo tells as it is written.
use Rattle.std.proofs.Common.{◌≡◌, ◌∙◌, ◌<◌, ◌≤◌, ℕ, zero, suc, ◌+◌, Bool, true, false, List, [], ◌∷◌, length, ap, arith, refl, sym, slice_get, None, Some}
use Rattle.std.specs.Prelude.{All, if◌then◌else◌, nat_eq, slice_set}
use Rattle.std.proofs.lemmas.Bool.Decides.{nat_tests}
use Rattle.lt_term.specs.Tree.{Lasts}
use Rattle.lt_check.specs.inner.MemoView.{told_by}

differ : (m n : ℕ) → (m ≡ n → ⊥) → nat_eq m n ≡ false
differ m n h = grind (arith, nat_tests)

agree : (m : ℕ) → nat_eq m m ≡ true
agree m = grind (arith, nat_tests)

are_one : (m n : ℕ) → nat_eq m n ≡ true → m ≡ n
are_one m n h = grind (arith, nat_tests)

same_next : (m n : ℕ) → nat_eq (suc m) (suc n) ≡ nat_eq m n
same_next m n = grind (arith, nat_tests)

-- what was told before a time is told no more
past_none : (t : ℕ) (x : ℕ × Bool) → x.0 ≤ t → told_by (t + 1) (Some x) ≡ None
past_none t x h = ap (λ b. if b then Some x.1 else None) (differ x.0 (t + 1) (λ e. omega (arith, e, h)))

forgotten : (xs : List (ℕ × Bool)) (t : ℕ) → All (λ e. e.0 ≤ t) xs → (c : ℕ) → told_by (t + 1) (slice_get xs c) ≡ None
forgotten [] t h c = refl
forgotten (x ∷ xs) t h zero = past_none t x (h 0 x (omega arith))
forgotten (x ∷ xs) t h (suc c) = forgotten xs t (λ k d l. h (suc k) d (omega (arith, l))) c

-- so it is no matter what
pub all_forgotten : (holds : Lasts → ℕ → Bool) (ls : Lasts) (xs : List (ℕ × Bool)) (t : ℕ) → All (λ e. e.0 ≤ t) xs → (c : ℕ) (b : Bool) → told_by (t + 1) (slice_get xs c) ≡ Some b → b ≡ holds ls c
all_forgotten holds ls xs t h c b e = absurd (let k = sym (forgotten xs t h c) ∙ e in cc)

-- what is told behind a write
kept : (xs : List (ℕ × Bool)) (t c k : ℕ) (v : Bool) → c < length xs → told_by t (slice_get (slice_set xs c (t, v)) k) ≡ (if nat_eq k c then Some v else told_by t (slice_get xs k))
kept [] t c k v l = absurd (omega (arith, l))
kept (x ∷ xs) t zero zero v l = ap (λ b. if b then Some v else None) (agree t) ∙ sym (ap (λ b. if b then Some v else told_by t (Some x)) (agree 0))
kept (x ∷ xs) t zero (suc k) v l = sym (ap (λ b. if b then Some v else told_by t (slice_get xs k)) (differ (suc k) 0 (λ e. omega (arith, e))))
kept (x ∷ xs) t (suc c) zero v l = sym (ap (λ b. if b then Some v else told_by t (Some x)) (differ 0 (suc c) (λ e. omega (arith, e))))
kept (x ∷ xs) t (suc c) (suc k) v l = kept xs t c k v (omega (arith, l)) ∙ sym (ap (λ b. if b then Some v else told_by t (slice_get xs k)) (same_next k c))

-- it is so where what was told is, and what is written
pub all_kept : (holds : ℕ → Bool) (xs : List (ℕ × Bool)) (t c : ℕ) (v : Bool) → c < length xs → v ≡ holds c → ((k : ℕ) (b : Bool) → told_by t (slice_get xs k) ≡ Some b → b ≡ holds k) → (k : ℕ) (b : Bool) → told_by t (slice_get (slice_set xs c (t, v)) k) ≡ Some b → b ≡ holds k
all_kept holds xs t c v l is were k b e = by_number (nat_eq k c) refl (sym (kept xs t c k v l) ∙ e)
  where
    by_number : (p : Bool) → nat_eq k c ≡ p → (if p then Some v else told_by t (slice_get xs k)) ≡ Some b → b ≡ holds k
    by_number true n h = let s : v ≡ b = cc in sym s ∙ is ∙ ap holds (sym (are_one k c n))
    by_number false n h = were k b h
