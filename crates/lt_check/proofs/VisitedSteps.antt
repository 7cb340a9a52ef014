-- What is still to be done, a task at a time.
use Rattle.std.proofs.Common.{◌≡◌, ◌∙◌, ◌<◌, ◌≤◌, ℕ, ◌+◌, Bool, true, false, List, [], ◌∷◌, ◌++◌, length, map, ap, refl, sym, arith, append-nil}
use Rattle.std.specs.Prelude.{Ok, Err, if◌then◌else◌, nat_le, take}
use Rattle.std.proofs.lemmas.Bool.Decides.{nat_tests}
use Rattle.lt_num.specs.declared.fault.Arith.{Arith}
use Rattle.lt_term.specs.Evaluated.{Worth}
use Rattle.lt_term.specs.Tree as t
use Rattle.lt_term.specs.Tree.{Branches, Leaf, Tree, weights_of}
use Rattle.lt_marks_laws.specs.Valued.{worths}
use Rattle.lt_check.specs.inner.Seen.{Sight}
use Rattle.lt_check.specs.inner.Visited.{Todo, all_done, all_work, check, leaves_of, leaves_of_parts, let_go, of_parts, positive_parts, right, todo_work, tree_work, visit}
use Rattle.lt_check.proofs.VisitedLists.{done_append, done_last, order_done, parts_done}
use Rattle.lt_check.proofs.VisitedParts.{parts_less, work_append}

module _ {C F N : Type 0} (worth : Worth C F) (sight : Sight C N) (lives : Tree C N → Bool) where
  abbrev leaves : Tree C N → List (Leaf C N)
  leaves a = leaves_of worth sight lives a

  abbrev pub behind : List (Todo (Tree C N)) → List (Leaf C N) → List (Leaf C N)
  behind todos found = all_done lives leaves todos found

  abbrev pub work_of : List (Todo (Tree C N)) → ℕ
  work_of todos = all_work (todo_work tree_work) todos

  -- a task is done: what will be found is the same, and less is left
  pub record Goes (todos new_todos : List (Todo (Tree C N))) (found new_found : List (Leaf C N)) (todo : Todo (Tree C N)) : Type 0 where
    pub finds : behind new_todos new_found ≡ behind (todos ++ todo ∷ []) found
    pub falls : work_of new_todos < work_of todos + todo_work tree_work todo

  module _ (todos : List (Todo (Tree C N))) (found : List (Leaf C N)) where
    visited : (a : Tree C N) → behind (todos ++ visit a ∷ []) found ≡ behind todos (found ++ leaves a)
    visited a = done_last lives leaves todos (visit a) found

    pub leaf_goes : (l : Leaf C N) (new : List (Leaf C N)) → new ≡ found ++ (if sight.passes l then l ∷ [] else []) → Goes todos todos found new (visit (t.leaf l))
    leaf_goes l new e = record { finds = ap (behind todos) e ∙ sym (visited (t.leaf l)); falls = omega arith }

    pub order_goes : (a b : Tree C N) (n : ℕ) (new : List (Todo (Tree C N))) → n ≡ length found → new ≡ todos ++ right a b n ∷ visit a ∷ [] → Goes todos new found found (visit (t.ordered a b))
    order_goes a b n new long e = record {
      finds =
          ap (λ xs. behind xs found) e
          ∙ done_append lives leaves todos (right a b n ∷ visit a ∷ []) found
          ∙ ap (λ k. behind todos (behind (right a b k ∷ visit a ∷ []) found)) long
          ∙ ap (behind todos) (order_done lives leaves a b found)
          ∙ sym (visited (t.ordered a b));
      falls = let w = ap work_of e ∙ work_append (todo_work tree_work) todos (right a b n ∷ visit a ∷ []) in omega (arith, w);
    }

    visits_work : (bs : List (Tree C N)) → work_of (map visit bs) ≡ all_work tree_work bs
    visits_work [] = refl
    visits_work (a ∷ bs) = ap (λ n. tree_work a + n) (visits_work bs)

    pub choice_goes : (ls : t.Lasts) (bs : Branches C N) (vs : List ℕ) (new : List (Todo (Tree C N))) → worths worth.weight ls (weights_of bs) ≡ Ok vs → new ≡ todos ++ map visit (positive_parts bs vs) → Goes todos new found found (visit (t.weighted ls bs))
    choice_goes ls bs vs new is e = record {
      finds =
          ap (λ xs. behind xs found) e
          ∙ done_append lives leaves todos (map visit (positive_parts bs vs)) found
          ∙ ap (behind todos) (parts_done worth sight lives bs vs found)
          ∙ ap (λ y. behind todos (found ++ of_parts y (leaves_of_parts worth sight lives bs))) (sym is)
          ∙ sym (visited (t.weighted ls bs));
      falls =
          let w = ap work_of e ∙ work_append (todo_work tree_work) todos (map visit (positive_parts bs vs)) in
          let x = visits_work (positive_parts bs vs) in
          let y = parts_less bs vs in
          omega (arith, w, x, y);
    }

    pub fault_goes : (ls : t.Lasts) (bs : Branches C N) (x : Arith) → worths worth.weight ls (weights_of bs) ≡ Err x → Goes todos todos found found (visit (t.weighted ls bs))
    fault_goes ls bs x is = record {
      finds = ap (behind todos) (sym (append-nil found)) ∙ ap (λ y. behind todos (found ++ of_parts y (leaves_of_parts worth sight lives bs))) (sym is) ∙ sym (visited (t.weighted ls bs));
      falls = omega arith;
    }

    few : (m n : ℕ) → m ≤ n → nat_le m n ≡ true
    few m n h = grind (arith, nat_tests)

    more : (m n : ℕ) → n < m → nat_le m n ≡ false
    more m n h = grind (arith, nat_tests)

    pub right_goes : (a b : Tree C N) (n : ℕ) (new : List (Todo (Tree C N))) → length found ≤ n → new ≡ todos ++ check a n ∷ visit b ∷ [] → Goes todos new found found (right a b n)
    right_goes a b n new few_found e = record {
      finds =
          ap (λ xs. behind xs found) e
          ∙ done_append lives leaves todos (check a n ∷ visit b ∷ []) found
          ∙ ap (behind todos) (sym (ap (λ c. if c then let_go (lives a) n (found ++ leaves b) else found) (few (length found) n few_found)))
          ∙ sym (done_last lives leaves todos (right a b n) found);
      falls = let w = ap work_of e ∙ work_append (todo_work tree_work) todos (check a n ∷ visit b ∷ []) in omega (arith, w);
    }

    pub left_goes : (a b : Tree C N) (n : ℕ) → n < length found → Goes todos todos found found (right a b n)
    left_goes a b n many = record {
      finds = ap (behind todos) (sym (ap (λ c. if c then let_go (lives a) n (found ++ leaves b) else found) (more (length found) n many))) ∙ sym (done_last lives leaves todos (right a b n) found);
      falls = omega arith;
    }

    pub check_goes : (a : Tree C N) (n : ℕ) (new : List (Leaf C N)) (l : Bool) → l ≡ lives a → new ≡ let_go l n found → Goes todos todos found new (check a n)
    check_goes a n new l is e = record {
      finds = ap (behind todos) (e ∙ ap (λ c. let_go c n found) is) ∙ sym (done_last lives leaves todos (check a n) found);
      falls = omega arith;
    }

    all_taken : (n : ℕ) (c : Bool) → take n found ≡ found → found ≡ let_go c n found
    all_taken n true h = sym h
    all_taken n false h = refl

    pub unchecked_goes : (a : Tree C N) (n : ℕ) → take n found ≡ found → Goes todos todos found found (check a n)
    unchecked_goes a n h = record { finds = ap (behind todos) (all_taken n (lives a) h) ∙ sym (done_last lives leaves todos (check a n) found); falls = omega arith }
