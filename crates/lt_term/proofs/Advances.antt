-- Terms after an instant.
use Rattle.std.proofs.Common.{◌≡◌, ◌≤◌, ℕ, Bool, true, false, ◌&&◌, ◌||◌, List, [], ◌∷◌, length, map, take, refl, ap, ◌∙◌}
use Rattle.std.proofs.lemmas.List.{take_all}
use Rattle.lt_num.specs.declared.value.Value.{Value}
use Rattle.lt_term.specs.Advanced.{advanced, advanced_each, next_last}
use Rattle.lt_term.specs.Counted.{IsDoneTo, AreDoneTo}
use Rattle.lt_term.specs.Process.{Process, eps, dead, con, raise, seq, loop, count, any, pri, par, assert, exist, catch, try, Choices, no_choice, choice, with_constraints, choices_with_constraints}
use Rattle.lt_term.specs.View.{choices, choices_from, part, process}
use Rattle.lt_term.specs.Within.{Tests, passes, each_passes}
use Rattle.lt_term.specs.declared.last.Last.{Last}
use Rattle.lt_term.specs.declared.last.Last.TheVariants as last
use Rattle.lt_term.specs.declared.term.Term.{Term}
use Rattle.lt_term.specs.inner.Entered.{has_value, is_entered, is_entered_anywhere}

-- of two tests of which none holds, neither does
neither : (x y : Bool) → x || y ≡ false → (x ≡ false) × (y ≡ false)
neither true y h = absurd (cc)
neither false y h = (refl, h)

module _ (vs : List (ℕ × Value)) where
  last-unentered : (x : ℕ) (v : Last) → has_value v ≡ false → next_last vs x v ≡ v
  last-unentered x last.First h = refl
  last-unentered x (last.Kept v) h = absurd (cc)

  -- Constraints are left alone.
  module _ {C D : Type 0} (f : C → D) where
    mutual
      pub advanced-natural : (p : Process C) → with_constraints f (advanced vs p) ≡ advanced vs (with_constraints f p)
      advanced-natural eps = refl
      advanced-natural dead = refl
      advanced-natural (con c) = refl
      advanced-natural (raise z) = refl
      advanced-natural (seq a b) = λ i. seq (advanced-natural a i) (advanced-natural b i)
      advanced-natural (loop t) = ap loop (advanced-natural t)
      advanced-natural (count i done t) = ap (count i done) (advanced-natural t)
      advanced-natural (any cs) = ap any (advanced_each-natural cs)
      advanced-natural (pri a b) = λ i. pri (advanced-natural a i) (advanced-natural b i)
      advanced-natural (par a b) = λ i. par (advanced-natural a i) (advanced-natural b i)
      advanced-natural (assert c t) = ap (assert (f c)) (advanced-natural t)
      advanced-natural (exist x v t) = ap (exist x (next_last vs x v)) (advanced-natural t)
      advanced-natural (catch z t b) = λ i. catch z (advanced-natural t i) (advanced-natural b i)
      advanced-natural (try t b) = λ i. try (advanced-natural t i) (advanced-natural b i)

      advanced_each-natural : (cs : Choices C) → choices_with_constraints f (advanced_each vs cs) ≡ advanced_each vs (choices_with_constraints f cs)
      advanced_each-natural no_choice = refl
      advanced_each-natural (choice w t cs) = λ i. choice (f w) (advanced-natural t i) (advanced_each-natural cs i)

  -- All numbers are left alone.
  module _ {C : Type 0} (ts : Tests C) where
    mutual
      pub advanced-passes : (p : Process C) → passes ts (advanced vs p) ≡ passes ts p
      advanced-passes eps = refl
      advanced-passes dead = refl
      advanced-passes (con c) = refl
      advanced-passes (raise z) = refl
      advanced-passes (seq a b) = λ i. advanced-passes a i && advanced-passes b i
      advanced-passes (loop t) = advanced-passes t
      advanced-passes (count i done t) = ap (λ b. ts.counter i && b) (advanced-passes t)
      advanced-passes (any cs) = advanced_each-passes cs
      advanced-passes (pri a b) = λ i. advanced-passes a i && advanced-passes b i
      advanced-passes (par a b) = λ i. advanced-passes a i && advanced-passes b i
      advanced-passes (assert c t) = ap (λ b. ts.constraint c && b) (advanced-passes t)
      advanced-passes (exist x v t) = ap (λ b. ts.local x && b) (advanced-passes t)
      advanced-passes (catch z t b) = λ i. ts.exception z && (advanced-passes t i && advanced-passes b i)
      advanced-passes (try t b) = λ i. advanced-passes t i && advanced-passes b i

      advanced_each-passes : (cs : Choices C) → each_passes ts (advanced_each vs cs) ≡ each_passes ts cs
      advanced_each-passes no_choice = refl
      advanced_each-passes (choice w t cs) = λ i. ts.constraint w && (advanced-passes t i && advanced_each-passes cs i)

  -- No turn is done.
  module _ {C : Type 0} (k : ℕ) where
    mutual
      pub advanced-done : (p : Process C) → IsDoneTo k p → IsDoneTo k (advanced vs p)
      advanced-done eps h = tt
      advanced-done dead h = tt
      advanced-done (con c) h = tt
      advanced-done (raise z) h = tt
      advanced-done (seq a b) h = (advanced-done a h.0, advanced-done b h.1)
      advanced-done (loop t) h = advanced-done t h
      advanced-done (count i done t) h = (h.0, advanced-done t h.1)
      advanced-done (any cs) h = advanced_each-done cs h
      advanced-done (pri a b) h = (advanced-done a h.0, advanced-done b h.1)
      advanced-done (par a b) h = (advanced-done a h.0, advanced-done b h.1)
      advanced-done (assert c t) h = advanced-done t h
      advanced-done (exist x v t) h = advanced-done t h
      advanced-done (catch z t b) h = (advanced-done t h.0, advanced-done b h.1)
      advanced-done (try t b) h = (advanced-done t h.0, advanced-done b h.1)

      advanced_each-done : (cs : Choices C) → AreDoneTo k cs → AreDoneTo k (advanced_each vs cs)
      advanced_each-done no_choice h = tt
      advanced_each-done (choice w t cs) h = (advanced-done t h.0, advanced_each-done cs h.1)

  -- A term of which no scope is entered stays as it is.
  mutual
    pub advanced-unentered : {C : Type 0} (p : Process C) → is_entered p ≡ false → advanced vs p ≡ p
    advanced-unentered eps h = refl
    advanced-unentered dead h = refl
    advanced-unentered (con c) h = refl
    advanced-unentered (raise z) h = refl
    advanced-unentered (seq a b) h = let n = neither (is_entered a) (is_entered b) h in λ i. seq (advanced-unentered a n.0 i) (advanced-unentered b n.1 i)
    advanced-unentered (loop t) h = ap loop (advanced-unentered t h)
    advanced-unentered (count i done t) h = ap (count i done) (advanced-unentered t h)
    advanced-unentered (any cs) h = ap any (advanced_each-unentered cs h)
    advanced-unentered (pri a b) h = let n = neither (is_entered a) (is_entered b) h in λ i. pri (advanced-unentered a n.0 i) (advanced-unentered b n.1 i)
    advanced-unentered (par a b) h = let n = neither (is_entered a) (is_entered b) h in λ i. par (advanced-unentered a n.0 i) (advanced-unentered b n.1 i)
    advanced-unentered (assert c t) h = ap (assert c) (advanced-unentered t h)
    advanced-unentered (exist x v t) h = let n = neither (has_value v) (is_entered t) h in λ i. exist x (last-unentered x v n.0 i) (advanced-unentered t n.1 i)
    advanced-unentered (catch z t b) h = let n = neither (is_entered t) (is_entered b) h in λ i. catch z (advanced-unentered t n.0 i) (advanced-unentered b n.1 i)
    advanced-unentered (try t b) h = let n = neither (is_entered t) (is_entered b) h in λ i. try (advanced-unentered t n.0 i) (advanced-unentered b n.1 i)

    pub advanced_each-unentered : {C : Type 0} (cs : Choices C) → is_entered_anywhere cs ≡ false → advanced_each vs cs ≡ cs
    advanced_each-unentered no_choice h = refl
    advanced_each-unentered (choice w t cs) h = let n = neither (is_entered t) (is_entered_anywhere cs) h in λ i. choice w (advanced-unentered t n.0 i) (advanced_each-unentered cs n.1 i)

  -- the parts of a choice, one by one
  advanced_parts : (parts : List (ℕ × Term)) → choices_from (map (λ p. (p.0, advanced vs (process p.1))) parts) ≡ advanced_each vs (choices parts)
  advanced_parts [] = refl
  advanced_parts (p ∷ parts) = ap (choice p.0 (advanced vs (process p.1))) (advanced_parts parts)

  -- the parts of a choice once all are done
  pub parts_advance : (made parts : List (ℕ × Term)) (index : ℕ) → length parts ≤ index → map part made ≡ map (λ p. (p.0, advanced vs (process p.1))) (take index parts) → choices made ≡ advanced_each vs (choices parts)
  parts_advance made parts index n h = ap choices_from h ∙ ap (λ ps. choices_from (map (λ p. (p.0, advanced vs (process p.1))) ps)) (take_all index parts n) ∙ advanced_parts parts
