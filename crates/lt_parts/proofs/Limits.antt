-- Terms of scenarios, whose constraints are numbers of a table.
use Rattle.std.proofs.Common.{◌≡◌, ℕ, true, IsTrue, nat_lt, List, [], ◌∷◌, map, Vec, Global, refl, ap, ◌∙◌, subst, All}
use Rattle.std.proofs.lemmas.Bool.{ltb-true}
use Rattle.std.proofs.lemmas.List.Elements.{All-cons, All-nil}
use Rattle.lt_formula.specs.View.{table_kinds, table_len}
use Rattle.lt_parts.specs.inner.Numbered.{AreBelowAnywhere, AreConstraintsBelow}
use Rattle.lt_parts.proofs.Numbers.{left_of, right_of}
use Rattle.lt_term.specs.Configuration.{kinds_of_all, scene_kinds}
use Rattle.lt_term.specs.Process.{Process, eps, dead, con, raise, seq, loop, count, any, pri, par, assert, exist, catch, try, Choices, no_choice, choice}
use Rattle.lt_term.specs.SceneView.{scene, variable}
use Rattle.lt_term.specs.View.{choices, kinds_of, process}
use Rattle.lt_term.specs.Within.{Tests, each_passes, passes}
use Rattle.lt_term.specs.declared.scenario.Scenario.{Scenario}
use Rattle.lt_term.specs.declared.term.Term.{Any, Term}
use Rattle.lt_term.specs.declared.variable.Var.{Var}
use Rattle.lt_term.proofs.Public.{process_any}

module _ (n z : ℕ) where
  -- tests of constraints and exceptions
  abbrev tests : Tests ℕ
  tests = record {
    constraint = λ c. nat_lt c n;
    exception = λ x. nat_lt x z;
    local = λ x. true;
    counter = λ i. true;
  }

  mutual
    -- the constraints of a term that passes are below the number
    pub below : (p : Process ℕ) → IsTrue (passes tests p) → AreConstraintsBelow n p
    below eps h = tt
    below dead h = tt
    below (con c) h = ltb-true c n h
    below (raise x) h = tt
    below (seq a b) h = (below a (left_of (passes tests a) _ h), below b (right_of (passes tests a) _ h))
    below (loop t) h = below t h
    below (count i done t) h = below t h
    below (any cs) h = below_anywhere cs h
    below (pri a b) h = (below a (left_of (passes tests a) _ h), below b (right_of (passes tests a) _ h))
    below (par a b) h = (below a (left_of (passes tests a) _ h), below b (right_of (passes tests a) _ h))
    below (assert c t) h = (ltb-true c n (left_of (nat_lt c n) _ h), below t (right_of (nat_lt c n) _ h))
    below (exist x v t) h = below t h
    below (catch x t u) h =
        let rest = right_of (nat_lt x z) _ h in (below t (left_of (passes tests t) _ rest), below u (right_of (passes tests t) _ rest))
    below (try t u) h = (below t (left_of (passes tests t) _ h), below u (right_of (passes tests t) _ h))

    below_anywhere : (cs : Choices ℕ) → IsTrue (each_passes tests cs) → AreBelowAnywhere n cs
    below_anywhere no_choice h = tt
    below_anywhere (choice w t cs) h =
        let rest = right_of (nat_lt w n) _ h in (below t (left_of (passes tests t) _ rest), below_anywhere cs (right_of (passes tests t) _ rest))

-- those of each part of a choice are
parts_below : (n : ℕ) (parts : List (ℕ × Term)) → AreBelowAnywhere n (choices parts) → All (λ p. AreConstraintsBelow n (process p.1)) parts
parts_below n [] h = All-nil (λ p. AreConstraintsBelow n (process p.1))
parts_below n (p ∷ parts) h = All-cons (λ p. AreConstraintsBelow n (process p.1)) p parts h.0 (parts_below n parts h.1)

pub any_below : (n : ℕ) (v : Vec (ℕ × Term) Global) → AreConstraintsBelow n (process (Any v)) → All (λ p. AreConstraintsBelow n (process p.1)) v.items
any_below n v h = let P : Process ℕ → Type 0 = AreConstraintsBelow n in parts_below n v.items (subst P (process_any v) h)

-- the kinds of a scenario's variables

kinds_viewed : (vars : List Var) → kinds_of vars ≡ kinds_of_all (map variable vars)
kinds_viewed [] = refl
kinds_viewed (v ∷ vars) = ap (λ ks. v.kind ∷ ks) (kinds_viewed vars)

pub table_kinds_viewed : (s : Scenario) → table_kinds s.table ≡ scene_kinds (scene s)
table_kinds_viewed s = s.kinds ∙ (λ i. record {
  inputs = kinds_viewed s.inputs.items i;
  outputs = kinds_viewed s.outputs.items i;
  locals = kinds_viewed s.locals.items i;
})

pub scenario_below : (s : Scenario) → AreConstraintsBelow (table_len s.table) (process s.body)
scenario_below s = below (table_len s.table) _ (process s.body) s.within
