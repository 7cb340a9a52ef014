-- What is judged of instants and choices.
use Rattle.std.proofs.Common.{◌≡◌, ◌∙◌, ◌<◌, ℕ, zero, suc, ◌+◌, Bool, true, false, IsTrue, List, [], ◌∷◌, ap, arith, get_or, length, map, refl, sym, take}
use Rattle.std.specs.Prelude.{◌&&◌, Ok, Err}
use Rattle.std.specs.List.{list_all}
use Rattle.std.specs.declared.result.Result.{Result}
use Rattle.lt_num.specs.declared.fault.Arith.{Arith}
use Rattle.lt_formula.specs.Expression.{Expression}
use Rattle.lt_space.specs.Formula.{Formula}
use Rattle.lt_term.specs.Configuration.{known_in, scene_kinds}
use Rattle.lt_term.specs.Evaluated as e
use Rattle.lt_term.specs.Process.{Process, with_constraints}
use Rattle.lt_term.specs.Tree.{Lasts}
use Rattle.lt_term.specs.Unfolded.{Instant, going}
use Rattle.lt_term.proofs.Public.{left_of, right_of}
use Rattle.lt_instant.specs.declared.draw_context.DrawContext.{DrawContext}
use Rattle.lt_instant.specs.inner.DrawContextView.{configuration_of, scene_of, worth_of}
use Rattle.lt_check.specs.declared.step.ShownStep.{ShownStep}
use Rattle.lt_check.specs.inner.QuestionView.{answer_holds, constraint_holds, is_step, meaning_in, outlook_in}
use Rattle.lt_check.specs.inner.Searches.{can_hold, is_alive}
use Rattle.lt_check.specs.inner.Wanted.{has_scope}
use Rattle.lt_check.proofs.Constraints.{answered, each_holds}

-- ---- an instant that lives, by what is loaded of its constraints

module _ (m : DrawContext) (x : Result Formula Arith) (ls : Lasts) (n : Process Expression) where
  pub lives_formula : (f : Formula) (b : Bool) → Ok f ≡ x → b ≡ can_hold (scene_of m) ls f → b ≡ is_alive (scene_of m) (e.going x ls n)
  lives_formula f b is h = h ∙ ap (λ y. is_alive (scene_of m) (e.going y ls n)) is

  pub lives_fault : (fault : Arith) → Err fault ≡ x → true ≡ is_alive (scene_of m) (e.going x ls n)
  lives_fault fault is = ap (λ y. is_alive (scene_of m) (e.going y ls n)) is

-- ---- all of some numbers pass

and_false : (a : Bool) → false ≡ (a && false)
and_false true = refl
and_false false = refl

both_true : (a b : Bool) → a ≡ true → b ≡ true → (a && b) ≡ true
both_true a b h k = ap (λ c. c && b) h ∙ k

first_true : (a b : Bool) → (a && b) ≡ true → a ≡ true
first_true true b h = refl
first_true false b h = absurd (cc)

second_true : (a b : Bool) → (a && b) ≡ true → b ≡ true
second_true true b h = h
second_true false b h = absurd (cc)

module _ (p : ℕ → Bool) where
  pub all_there : (xs : List ℕ) (i : ℕ) → i < length xs → IsTrue (list_all p xs) → IsTrue (p (get_or xs i 0))
  all_there [] i l h = absurd (omega (arith, l))
  all_there (x ∷ xs) zero l h = left_of (p x) (list_all p xs) h
  all_there (x ∷ xs) (suc i) l h = all_there xs i (omega (arith, l)) (right_of (p x) (list_all p xs) h)

  take_next : (xs : List ℕ) (i : ℕ) → i < length xs → list_all p (take i xs) ≡ true → p (get_or xs i 0) ≡ true → list_all p (take (suc i) xs) ≡ true
  take_next [] i l h k = refl
  take_next (x ∷ xs) zero l h k = both_true (p x) true k refl
  take_next (x ∷ xs) (suc i) l h k = both_true (p x) (list_all p (take (suc i) xs)) (first_true (p x) (list_all p (take i xs)) h) (take_next xs i (omega (arith, l)) (second_true (p x) (list_all p (take i xs)) h) k)

  pub all_next : (xs : List ℕ) (i : ℕ) → i < length xs → list_all p (take i xs) ≡ true → p (get_or xs i 0) ≡ true → list_all p (take (i + 1) xs) ≡ true
  all_next xs i l h k = let s : i + 1 ≡ suc i = omega arith in ap (λ n. list_all p (take n xs)) s ∙ take_next xs i l h k

  pub one_not : (xs : List ℕ) (i : ℕ) → i < length xs → p (get_or xs i 0) ≡ false → false ≡ list_all p xs
  one_not [] i l k = absurd (omega (arith, l))
  one_not (x ∷ xs) zero l k = sym (ap (λ b. b && list_all p xs) k)
  one_not (x ∷ xs) (suc i) l k = and_false (p x) ∙ ap (λ b. p x && b) (one_not xs i (omega (arith, l)) k)

-- ---- an instant that is a step

module _ (m : DrawContext) (step : ShownStep) where
  by_answer : (x : Result Formula Arith) (ls : Lasts) (n : Process Expression) → is_step m step (e.going x ls n) ≡ (has_scope ls 0 step.marks.items && answer_holds (scene_of m) step.raws.items x)
  by_answer (Ok f) ls n = refl
  by_answer (Err fault) ls n = and_false (has_scope ls 0 step.marks.items)

  answered_is : (x : Result Formula Arith) → answer_holds (scene_of m) step.raws.items x ≡ answered (scene_of m).decimals step.raws.items x
  answered_is (Ok f) = refl
  answered_is (Err fault) = refl

  each_is : (ls : Lasts) (cs : List ℕ) → list_all (λ c. answered (scene_of m).decimals step.raws.items ((worth_of m).formula ls (meaning_in m c ∷ []))) cs ≡ list_all (constraint_holds m step ls) cs
  each_is ls [] = refl
  each_is ls (c ∷ cs) = λ i. sym (answered_is ((worth_of m).formula ls (meaning_in m c ∷ []))) i && each_is ls cs i

  all_is : (ls : Lasts) (cs : List ℕ) → answer_holds (scene_of m) step.raws.items ((worth_of m).formula ls (map (meaning_in m) cs)) ≡ list_all (constraint_holds m step ls) cs
  all_is ls cs =
      answered_is ((worth_of m).formula ls (map (meaning_in m) cs))
      ∙ each_holds (scene_of m).decimals step.raws.items (known_in (scene_of m) (configuration_of m) m.inputs.now ls) (scene_kinds (scene_of m)) (meaning_in m) cs
      ∙ each_is ls cs

  -- it has the scope, and its constraints hold
  pub step_is : (i : Instant ℕ) (ls : Lasts) (cs : List ℕ) (has : Bool) (all : Bool) → ls ≡ i.locals → cs ≡ i.constraints → has ≡ has_scope ls 0 step.marks.items → all ≡ list_all (constraint_holds m step ls) cs → (has && all) ≡ is_step m step (outlook_in m (going i))
  step_is i ls cs has all l k h a =
      (λ j. (h ∙ ap (λ x. has_scope x 0 step.marks.items) l) j && (a ∙ (λ z. list_all (constraint_holds m step (l z)) (k z)) ∙ sym (all_is i.locals i.constraints)) j)
      ∙ sym (by_answer ((worth_of m).formula i.locals (map (meaning_in m) i.constraints)) i.locals (with_constraints (meaning_in m) i.next))
