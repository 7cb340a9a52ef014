-- Scopes that are entered again.
use Rattle.std.proofs.Common.{◌≡◌, ℕ, Bool, nat_eq, IsTrue, List, [], ◌∷◌, ◌++◌, All, refl, ap, sym, ◌∙◌}
use Rattle.std.proofs.lemmas.List.Elements.{All-append, All-cons, All-nil}
use Rattle.std.proofs.lemmas.List.Folds.{list_all-append}
use Rattle.std.specs.List.{list_all}
use Rattle.lt_num.specs.declared.value.Value.{Value}
use Rattle.lt_formula.specs.Expression.{Expression}
use Rattle.lt_term.proofs.Public.{left_of, right_of}
use Rattle.lt_term.specs.Advanced.{advanced, advanced_each, next_last}
use Rattle.lt_term.specs.Next.{followed_by}
use Rattle.lt_term.specs.Offers.{TermLeaf, TermTree, in_turn, offers_of}
use Rattle.lt_term.specs.Process.{Process, eps, dead, con, raise, seq, loop, count, any, pri, par, assert, exist, catch, try, Choices, no_choice, choice}
use Rattle.lt_term.specs.Subterms.{subterms, subterms_of_each, is_first, is_unbegun}
use Rattle.lt_term.specs.Tree.{leaf, ordered, weighted, Branches, no_branch, branch, leaf_node, ordered_node, vanish, nothing, raised, go, with_leaves, branches_with_leaves, flattened, flattened_each}
use Rattle.lt_term.specs.declared.last.Last.{Last}
use Rattle.lt_term.specs.declared.last.Last.TheVariants as last
use Rattle.lt_term_laws.specs.Scopes.{EndsWith, ScopesBeginAnew}

front : {X : Type 0} (p : X → Bool) (xs ys : List X) → IsTrue (list_all p (xs ++ ys)) → IsTrue (list_all p xs)
front p xs ys h = left_of _ _ (sym (list_all-append p xs ys) ∙ h)

back : {X : Type 0} (p : X → Bool) (xs ys : List X) → IsTrue (list_all p (xs ++ ys)) → IsTrue (list_all p ys)
back p xs ys h = right_of (list_all p xs) _ (sym (list_all-append p xs ys) ∙ h)

module _ (vs : List (ℕ × Value)) where
  last_stays : (x : ℕ) (v : Last) → IsTrue (is_first v) → next_last vs x v ≡ v
  last_stays x last.First h = refl
  last_stays x (last.Kept v) h = absurd (cc)

  -- a term of which nothing is done stays as it is
  mutual
    stays : (p : Process Expression) → IsTrue (list_all is_unbegun (subterms p)) → advanced vs p ≡ p
    stays eps h = refl
    stays dead h = refl
    stays (con c) h = refl
    stays (raise z) h = refl
    stays (seq a b) h = λ i. seq (stays a (front is_unbegun (subterms a) _ h) i) (stays b (back is_unbegun (subterms a) _ h) i)
    stays (loop t) h = ap loop (stays t h)
    stays (count i done t) h = ap (count i done) (stays t (right_of (nat_eq done 0) _ h))
    stays (any cs) h = ap any (each_stays cs h)
    stays (pri a b) h = λ i. pri (stays a (front is_unbegun (subterms a) _ h) i) (stays b (back is_unbegun (subterms a) _ h) i)
    stays (par a b) h = λ i. par (stays a (front is_unbegun (subterms a) _ h) i) (stays b (back is_unbegun (subterms a) _ h) i)
    stays (assert c t) h = ap (assert c) (stays t h)
    stays (exist x v t) h = λ i. exist x (last_stays x v (left_of (is_first v) _ h) i) (stays t (right_of (is_first v) _ h) i)
    stays (catch z t b) h = λ i. catch z (stays t (front is_unbegun (subterms t) _ h) i) (stays b (back is_unbegun (subterms t) _ h) i)
    stays (try t b) h = λ i. try (stays t (front is_unbegun (subterms t) _ h) i) (stays b (back is_unbegun (subterms t) _ h) i)

    each_stays : (cs : Choices Expression) → IsTrue (list_all is_unbegun (subterms_of_each cs)) → advanced_each vs cs ≡ cs
    each_stays no_choice h = refl
    each_stays (choice w t cs) h = λ i. choice w (stays t (front is_unbegun (subterms t) _ h) i) (each_stays cs (back is_unbegun (subterms t) _ h) i)

  -- the values of what is left of a turn, and then those of the loop
  after : (n again : Process Expression) → advanced vs (followed_by n again) ≡ followed_by (advanced vs n) (advanced vs again)
  after eps again = refl
  after dead again = refl
  after (con c) again = refl
  after (raise z) again = refl
  after (seq a b) again = refl
  after (loop t) again = refl
  after (count i done t) again = refl
  after (any cs) again = refl
  after (pri a b) again = refl
  after (par a b) again = refl
  after (assert c t) again = refl
  after (exist x v t) again = refl
  after (catch z t b) again = refl
  after (try t b) again = refl

  module _ (again : Process Expression) (is : advanced vs again ≡ again) where
    leaf_ends : (l : TermLeaf Expression) → All (EndsWith vs again) (flattened (in_turn again l))
    leaf_ends vanish = All-cons (EndsWith vs again) (leaf_node nothing) [] tt (All-nil (EndsWith vs again))
    leaf_ends nothing = All-cons (EndsWith vs again) (leaf_node nothing) [] tt (All-nil (EndsWith vs again))
    leaf_ends (raised z) = All-cons (EndsWith vs again) (leaf_node (raised z)) [] tt (All-nil (EndsWith vs again))
    leaf_ends (go cs ls n) =
        All-cons (EndsWith vs again) (leaf_node (go cs ls (followed_by n again))) [] (advanced vs n, after n again ∙ ap (followed_by (advanced vs n)) is) (All-nil (EndsWith vs again))

    mutual
      tree_ends : (t : TermTree Expression) → All (EndsWith vs again) (flattened (with_leaves (in_turn again) t))
      tree_ends (leaf l) = leaf_ends l
      tree_ends (ordered a b) = All-cons (EndsWith vs again) ordered_node _ tt (All-append (EndsWith vs again) _ _ (tree_ends a) (tree_ends b))
      tree_ends (weighted ls bs) = All-cons (EndsWith vs again) _ _ tt (branches_end bs)

      branches_end : (bs : Branches Expression (Process Expression)) → All (EndsWith vs again) (flattened_each (branches_with_leaves (in_turn again) bs))
      branches_end no_branch = All-nil (EndsWith vs again)
      branches_end (branch w t bs) = All-append (EndsWith vs again) _ _ (tree_ends t) (branches_end bs)

pub anew : ScopesBeginAnew
anew vs kinds t h =
    All-cons (EndsWith vs (loop t)) ordered_node _ tt
    (All-append (EndsWith vs (loop t)) _ _ (tree_ends vs (loop t) (ap loop (stays vs t h)) (offers_of kinds t)) (All-cons (EndsWith vs (loop t)) (leaf_node vanish) [] tt (All-nil (EndsWith vs (loop t)))))
