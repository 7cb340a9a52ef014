-- A trace has one verdict, but for those of a budget.
use Rattle.std.proofs.Common.{◌≡◌, ◌<◌, ◌≤◌, ◌⊎◌, inl, inr, ◌+◌, ◌==◌, ℕ, zero, suc, Bool, true, false, List, [], ◌∷◌, length, take, get_or, if◌then◌else◌, refl, ap, sym, subst, ◌∙◌, arith}
use Rattle.std.specs.List.{Contains}
use Rattle.std.proofs.lemmas.Bool.{cases_eq, cases_lt, cases_order}
use Rattle.std.proofs.lemmas.Bool.Decides.{Decides-eqb}
use Rattle.lt_legal.specs.Verdict.{AreDistinct, IsVerdict, ReachMany, ReachNone, ReachSome, legal, many, no_end, no_step, given_up}
use Rattle.lt_legal.specs.declared.verdict.Verdict.{Verdict}
use Rattle.lt_legal.specs.declared.verdict.Verdict.TheVariants as verdict
use Rattle.lt_term.specs.Configuration.{Configuration, first_configuration}
use Rattle.lt_term.specs.Scene.{Scene}
use Rattle.lt_trace.specs.Told.{Shown, Told}
use Rattle.lt_call.specs.Laws.{IsDecided}

-- ---- places that are apart

-- a number, where another one stands for the top
abbrev moved : ℕ → ℕ → ℕ → ℕ
moved top other n = if n == top then other else n

moved_top : (top other n : ℕ) → n ≡ top → moved top other n ≡ other
moved_top top other n e = rw ((Decides-eqb n top).1 e) refl

moved_else : (top other n : ℕ) → (n ≡ top → ⊥) → moved top other n ≡ n
moved_else top other n differ = by_test (n == top) refl
  where
    by_test : (b : Bool) → (n == top) ≡ b → moved top other n ≡ n
    by_test true t = absurd (differ ((Decides-eqb n top).0 t))
    by_test false t = rw t refl

-- so many places that are apart have room for no fewer
room : (m n : ℕ) (f : ℕ → ℕ) → ((i : ℕ) → i < n → f i < m) → ((i j : ℕ) → i < j → j < n → f i ≡ f j → ⊥) → n ≤ m
room m zero f within apart = omega arith
room zero (suc n) f within apart = let h = within 0 (omega arith) in absurd (omega arith)
room (suc m) (suc n) f within apart = let h = room m n (λ i. moved m (f n) (f i)) low differ in omega (arith, h)
  where
    low : (i : ℕ) → i < n → moved m (f n) (f i) < m
    low i l = by_place (cases_eq (f i) m)
      where
        by_place : (f i ≡ m) ⊎ (f i ≡ m → ⊥) → moved m (f n) (f i) < m
        by_place (inl e) =
            let last = within n (omega arith) in
            let other : f n ≡ m → ⊥ = λ g. apart i n l (omega arith) (e ∙ sym g) in
            let is = moved_top m (f n) (f i) e in
            under (f n) last other is
          where
            under : (v : ℕ) → v < suc m → (v ≡ m → ⊥) → moved m (f n) (f i) ≡ v → moved m (f n) (f i) < m
            under v less differs is = by_order (cases_lt v m)
              where
                by_order : (v < m) ⊎ (m ≤ v) → moved m (f n) (f i) < m
                by_order (inl h) = omega (arith, is, h)
                by_order (inr h) = absurd (differs (omega (arith, less, h)))
        by_place (inr differs) =
            let is = moved_else m (f n) (f i) differs in
            let less = within i (omega (arith, l)) in
            by_order is less (cases_lt (f i) m)
          where
            by_order : moved m (f n) (f i) ≡ f i → f i < suc m → (f i < m) ⊎ (m ≤ f i) → moved m (f n) (f i) < m
            by_order is less (inl h) = omega (arith, is, h)
            by_order is less (inr h) = absurd (differs (omega (arith, less, h)))

    differ : (i j : ℕ) → i < j → j < n → moved m (f n) (f i) ≡ moved m (f n) (f j) → ⊥
    differ i j l k e = by_places (cases_eq (f i) m) (cases_eq (f j) m)
      where
        by_places : (f i ≡ m) ⊎ (f i ≡ m → ⊥) → (f j ≡ m) ⊎ (f j ≡ m → ⊥) → ⊥
        by_places (inl g) (inl h) = apart i j l (omega (arith, k)) (g ∙ sym h)
        by_places (inl g) (inr h) = apart j n k (omega arith) (sym (moved_else m (f n) (f j) h) ∙ sym e ∙ moved_top m (f n) (f i) g)
        by_places (inr g) (inl h) = apart i n (omega (arith, l, k)) (omega arith) (sym (moved_else m (f n) (f i) g) ∙ e ∙ moved_top m (f n) (f j) h)
        by_places (inr g) (inr h) = apart i j l (omega (arith, k)) (sym (moved_else m (f n) (f i) g) ∙ e ∙ moved_else m (f n) (f j) h)

-- ---- configurations

-- an element, whatever stands for one that isn't there
same_entry : (cs : List Configuration) (k : ℕ) (d e : Configuration) → k < length cs → get_or cs k d ≡ get_or cs k e
same_entry [] k d e l = absurd (omega (arith, l))
same_entry (c ∷ cs) zero d e l = refl
same_entry (c ∷ cs) (suc k) d e l = same_entry cs k d e (omega (arith, l))

-- distinct ones that are all among others are no more than those
module _ (some others : List Configuration) (distinct : AreDistinct some) (among : (i : ℕ) (d : Configuration) → i < length some → Contains others (get_or some i d)) (d : Configuration) where
  place : (i : ℕ) → (i < length some) ⊎ (length some ≤ i) → ℕ
  place i (inl l) = (among i d l).0
  place i (inr l) = 0

  place_within : (i : ℕ) (o : (i < length some) ⊎ (length some ≤ i)) → i < length some → place i o < length others
  unfolding place
  place_within i (inl l) k = (among i d l).1
  place_within i (inr l) k = absurd (omega (arith, l, k))

  place_is : (i : ℕ) (o : (i < length some) ⊎ (length some ≤ i)) → i < length some → get_or others (place i o) d ≡ get_or some i d
  unfolding place
  place_is i (inl l) k = same_entry others (among i d l).0 d (get_or some i d) (among i d l).1 ∙ (among i d l).2
  place_is i (inr l) k = absurd (omega (arith, l, k))

  no_more : length some ≤ length others
  no_more =
      room (length others) (length some) (λ i. place i (cases_lt i (length some)))
      (λ i l. place_within i (cases_lt i (length some)) l)
      (λ i j l k e. distinct i j d l k (sym (place_is i (cases_lt i (length some)) (omega (arith, l, k))) ∙ ap (λ (n : ℕ). get_or others n d) e ∙ place_is j (cases_lt j (length some)) k))

module _ (s : Scene) where
  -- steps that reach some don't reach none
  some_none : (steps : List Shown) → ReachSome s steps → ReachNone s steps → ⊥
  some_none steps reach none_there = let cs = reach.0 in none_there (get_or cs 0 (first_configuration s)) (reach.1.reached 0 (first_configuration s) reach.2)

  -- nor do those that reach many
  many_none : (steps : List Shown) → ReachMany s steps → ReachNone s steps → ⊥
  many_none steps reach none_there = let more = reach.3 in none_there (get_or reach.0 0 (first_configuration s)) (reach.2 0 (first_configuration s) (omega (arith, more)))

  -- few aren't many
  some_many : (steps : List Shown) → ReachSome s steps → ReachMany s steps → ⊥
  some_many steps few reach =
      let all = no_more reach.0 few.0 reach.1 (λ i d l. few.1.all (get_or reach.0 i d) (reach.2 i d l)) (first_configuration s) in
      let more = reach.3 in let less = few.3 in omega (arith, all, more, less)

-- ---- verdicts

module _ (s : Scene) (budget : ℕ) (t : Told) where
  -- of two numbers of steps, which aren't the same, the first reaches some by what is known of the second
  apart : (k j : ℕ) → (k < j → ⊥) → (j < k → ⊥) → k ≡ j
  apart k j up down = by_order (cases_order k j)
    where
      by_order : (k ≡ j) ⊎ ((k < j) ⊎ (j < k)) → k ≡ j
      by_order (inl e) = e
      by_order (inr (inl l)) = absurd (up l)
      by_order (inr (inr l)) = absurd (down l)

  pub verdicts_are_one : (v w : Verdict) → IsVerdict s budget t v → IsVerdict s budget t w → IsDecided v → IsDecided w → v ≡ w
  verdicts_are_one _ _ (legal few run) (legal few' run') d e = refl
  verdicts_are_one _ _ (legal few run) (no_step k less before none_there) d e = absurd (some_none s (take (k + 1) t.steps) (few (k + 1) (omega (arith, less))) none_there)
  verdicts_are_one _ _ (legal few run) (no_end before never) d e = absurd (never run)
  verdicts_are_one _ _ (legal few run) (many k less before reach) d e = absurd (some_many s (take (k + 1) t.steps) (few (k + 1) (omega (arith, less))) reach)
  verdicts_are_one _ _ (no_step k less before none_there) (legal few run) d e = absurd (some_none s (take (k + 1) t.steps) (few (k + 1) (omega (arith, less))) none_there)
  verdicts_are_one _ _ (no_step k less before none_there) (no_step j less' before' none_there') d e =
      ap (λ (n : ℕ). verdict.Illegal (n + 1))
      (apart k j (λ l. some_none s (take (k + 1) t.steps) (before' (k + 1) (omega (arith, l))) none_there) (λ l. some_none s (take (j + 1) t.steps) (before (j + 1) (omega (arith, l))) none_there'))
  verdicts_are_one _ _ (no_step k less before none_there) (no_end few never) d e = absurd (some_none s (take (k + 1) t.steps) (few (k + 1) (omega (arith, less))) none_there)
  verdicts_are_one _ _ (no_step k less before none_there) (many j less' before' reach) d e =
      let same = apart k j (λ l. some_none s (take (k + 1) t.steps) (before' (k + 1) (omega (arith, l))) none_there) (λ l. some_many s (take (j + 1) t.steps) (before (j + 1) (omega (arith, l))) reach) in
      absurd (many_none s (take (j + 1) t.steps) reach (subst (λ (n : ℕ). ReachNone s (take (n + 1) t.steps)) same none_there))
  verdicts_are_one _ _ (no_end few never) (legal few' run) d e = absurd (never run)
  verdicts_are_one _ _ (no_end few never) (no_step k less before none_there) d e = absurd (some_none s (take (k + 1) t.steps) (few (k + 1) (omega (arith, less))) none_there)
  verdicts_are_one _ _ (no_end few never) (no_end few' never') d e = refl
  verdicts_are_one _ _ (no_end few never) (many k less before reach) d e = absurd (some_many s (take (k + 1) t.steps) (few (k + 1) (omega (arith, less))) reach)
  verdicts_are_one _ _ (many k less before reach) (legal few run) d e = absurd (some_many s (take (k + 1) t.steps) (few (k + 1) (omega (arith, less))) reach)
  verdicts_are_one _ _ (many k less before reach) (no_step j less' before' none_there) d e =
      let same = apart j k (λ l. some_none s (take (j + 1) t.steps) (before (j + 1) (omega (arith, l))) none_there) (λ l. some_many s (take (k + 1) t.steps) (before' (k + 1) (omega (arith, l))) reach) in
      absurd (many_none s (take (k + 1) t.steps) reach (subst (λ (n : ℕ). ReachNone s (take (n + 1) t.steps)) same none_there))
  verdicts_are_one _ _ (many k less before reach) (no_end few never) d e = absurd (some_many s (take (k + 1) t.steps) (few (k + 1) (omega (arith, less))) reach)
  verdicts_are_one _ _ (many k less before reach) (many j less' before' reach') d e =
      ap (λ (n : ℕ). verdict.TooMany (n + 1))
      (apart k j (λ l. some_many s (take (k + 1) t.steps) (before' (k + 1) (omega (arith, l))) reach) (λ l. some_many s (take (j + 1) t.steps) (before (j + 1) (omega (arith, l))) reach'))
  verdicts_are_one _ w (given_up k need less before searched) is d e = absurd d
  verdicts_are_one v _ is (given_up k need less before searched) d e = absurd e
