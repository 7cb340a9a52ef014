-- Terms are told by what their numbers stand for.
use Rattle.std.proofs.Common.{◌≡◌, ℕ, Bool, true, false, IsTrue, ◌&&◌, refl, ap}
use Rattle.lt_formula.specs.Expression.{Expression}
use Rattle.lt_term.proofs.Public.{left_of, right_of}
use Rattle.lt_term.specs.Process.{Process, Choices, eps, dead, con, raise, seq, loop, count, any, pri, par, assert, exist, catch, try, no_choice, choice, choices_with_constraints, with_constraints}
use Rattle.lt_term.specs.Within.{Tests, each_passes, passes}
use Rattle.lt_same_term.specs.Laws.{ConstraintsTellTerms}

module _ (tests : Tests ℕ) (meaning : ℕ → Expression) (tell : (c d : ℕ) → IsTrue (tests.constraint c) → IsTrue (tests.constraint d) → meaning c ≡ meaning d → c ≡ d) where
  mutual
    told : (s t : Process ℕ) → IsTrue (passes tests s) → IsTrue (passes tests t) → with_constraints meaning s ≡ with_constraints meaning t → s ≡ t
    told eps eps p q h = refl
    told dead dead p q h = refl
    told (con c) (con d) p q h = let e : meaning c ≡ meaning d = cc in ap (λ x. con x) (tell c d p q e)
    told (raise z) (raise y) p q h = let e : z ≡ y = cc in ap (λ x. raise x) e
    told (seq a b) (seq c d) p q h = let e : with_constraints meaning a ≡ with_constraints meaning c = cc in let f : with_constraints meaning b ≡ with_constraints meaning d = cc in let x = told a c (left_of _ _ p) (left_of _ _ q) e in let y = told b d (right_of _ _ p) (right_of _ _ q) f in λ i. seq (x i) (y i)
    told (loop a) (loop c) p q h = let e : with_constraints meaning a ≡ with_constraints meaning c = cc in ap (λ x. loop x) (told a c p q e)
    told (count i m a) (count j n c) p q h = let e : with_constraints meaning a ≡ with_constraints meaning c = cc in let f : i ≡ j = cc in let g : m ≡ n = cc in let x = told a c (right_of _ _ p) (right_of _ _ q) e in λ k. count (f k) (g k) (x k)
    told (any cs) (any ds) p q h = let e : choices_with_constraints meaning cs ≡ choices_with_constraints meaning ds = cc in ap (λ x. any x) (each_told cs ds p q e)
    told (pri a b) (pri c d) p q h = let e : with_constraints meaning a ≡ with_constraints meaning c = cc in let f : with_constraints meaning b ≡ with_constraints meaning d = cc in let x = told a c (left_of _ _ p) (left_of _ _ q) e in let y = told b d (right_of _ _ p) (right_of _ _ q) f in λ i. pri (x i) (y i)
    told (par a b) (par c d) p q h = let e : with_constraints meaning a ≡ with_constraints meaning c = cc in let f : with_constraints meaning b ≡ with_constraints meaning d = cc in let x = told a c (left_of _ _ p) (left_of _ _ q) e in let y = told b d (right_of _ _ p) (right_of _ _ q) f in λ i. par (x i) (y i)
    told (assert v a) (assert w c) p q h = let e : with_constraints meaning a ≡ with_constraints meaning c = cc in let f : meaning v ≡ meaning w = cc in let x = told a c (right_of _ _ p) (right_of _ _ q) e in let y = tell v w (left_of _ _ p) (left_of _ _ q) f in λ i. assert (y i) (x i)
    told (exist l v a) (exist m w c) p q h = let e : with_constraints meaning a ≡ with_constraints meaning c = cc in let f : l ≡ m = cc in let g : v ≡ w = cc in let x = told a c (right_of _ _ p) (right_of _ _ q) e in λ i. exist (f i) (g i) (x i)
    told (catch z a b) (catch y c d) p q h = let e : with_constraints meaning a ≡ with_constraints meaning c = cc in let f : with_constraints meaning b ≡ with_constraints meaning d = cc in let g : z ≡ y = cc in let r = right_of _ _ p in let s = right_of _ _ q in let x = told a c (left_of _ _ r) (left_of _ _ s) e in let y = told b d (right_of _ _ r) (right_of _ _ s) f in λ i. catch (g i) (x i) (y i)
    told (try a b) (try c d) p q h = let e : with_constraints meaning a ≡ with_constraints meaning c = cc in let f : with_constraints meaning b ≡ with_constraints meaning d = cc in let x = told a c (left_of _ _ p) (left_of _ _ q) e in let y = told b d (right_of _ _ p) (right_of _ _ q) f in λ i. try (x i) (y i)
    told s t p q h = absurd (cc)

    each_told : (cs ds : Choices ℕ) → IsTrue (each_passes tests cs) → IsTrue (each_passes tests ds) → choices_with_constraints meaning cs ≡ choices_with_constraints meaning ds → cs ≡ ds
    each_told no_choice no_choice p q h = refl
    each_told (choice v a cs) (choice w c ds) p q h =
        let e : with_constraints meaning a ≡ with_constraints meaning c = cc in
        let f : meaning v ≡ meaning w = cc in
        let g : choices_with_constraints meaning cs ≡ choices_with_constraints meaning ds = cc in
        let r = right_of _ _ p in
        let s = right_of _ _ q in
        let x = told a c (left_of _ _ r) (left_of _ _ s) e in
        let y = tell v w (left_of _ _ p) (left_of _ _ q) f in
        let z = each_told cs ds (right_of _ _ r) (right_of _ _ s) g in
        λ i. choice (y i) (x i) (z i)
    each_told cs ds p q h = absurd (cc)

pub constraints_tell_terms : ConstraintsTellTerms
constraints_tell_terms tests meaning tell s t p q h = told tests meaning tell s t p q h
