-- Forms that are kept.
use Rattle.std.proofs.Common.{◌≡◌, ℕ, ◌+◌, ◌≤◌, ◌&&◌, IsTrue, List, [], ◌∷◌, ◌++◌, length, map, nat_le, refl, arith, length-append}
use Rattle.std.proofs.lemmas.Bool.{leb-true}
use Rattle.lt_linear.specs.Form.{Term}
use Rattle.lt_space.specs.inner.Place.{are_within, form_in}
use Rattle.lt_space.specs.declared.forms.Place.{Place}
use Rattle.lt_space.proofs.Circuits.{both, left_of, le_true, range-append, right_of}

-- forms don't change with terms behind those that are there
pub places-terms : (ts us : List Term) (ps : List Place) → IsTrue (are_within (length ts) ps) → map (form_in (ts ++ us)) ps ≡ map (form_in ts) ps
places-terms ts us [] h = refl
places-terms ts us (p ∷ ps) h =
    let here = left_of (nat_le p.first p.after && nat_le p.after (length ts)) _ h in
    let least = leb-true p.first p.after (left_of (nat_le p.first p.after) _ here) in
    let most = leb-true p.after (length ts) (right_of (nat_le p.first p.after) _ here) in
    let range = range-append ts us p.first p.after least most in
    let rest = places-terms ts us ps (right_of (nat_le p.first p.after && nat_le p.after (length ts)) _ h) in
    λ i. record { terms = range i; constant = p.constant } ∷ rest i

-- places are among more terms
pub within-more : (n m : ℕ) (ps : List Place) → n ≤ m → IsTrue (are_within n ps) → IsTrue (are_within m ps)
within-more n m [] l h = refl
within-more n m (p ∷ ps) l h =
    let here = left_of (nat_le p.first p.after && nat_le p.after n) _ h in
    let most = leb-true p.after n (right_of (nat_le p.first p.after) _ here) in
    both (nat_le p.first p.after && nat_le p.after m) _
    (both (nat_le p.first p.after) _ (left_of (nat_le p.first p.after) _ here) (le_true p.after m (omega arith)))
    (within-more n m ps l (right_of (nat_le p.first p.after && nat_le p.after n) _ h))

-- one place more
pub within-append : (n : ℕ) (ps qs : List Place) → IsTrue (are_within n ps) → IsTrue (are_within n qs) → IsTrue (are_within n (ps ++ qs))
within-append n [] qs h k = k
within-append n (p ∷ ps) qs h k = both (nat_le p.first p.after && nat_le p.after n) _ (left_of (nat_le p.first p.after && nat_le p.after n) _ h) (within-append n ps qs (right_of (nat_le p.first p.after && nat_le p.after n) _ h) k)

pub one_place : (ps : List Place) (p : Place) → length (ps ++ p ∷ []) ≡ length ps + 1
one_place ps p = simp length-append (omega arith)
