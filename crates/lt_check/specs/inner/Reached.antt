-- The terms of all configurations that some steps reach.
use Rattle.std.specs.Prelude.{◌≡◌, ℕ, IsTrue, List}
use Rattle.lt_formula.specs.Expression.{Expression}
use Rattle.lt_legal.specs.Follows.{Follows, Reached}
use Rattle.lt_num.specs.declared.value.Value.{Value}
use Rattle.lt_term.specs.Configuration.{Configuration}
use Rattle.lt_term.specs.Process.{Process, with_constraints}
use Rattle.lt_term.specs.Scene.{Scene}
use Rattle.lt_term.specs.Within.{Tests, passes}
use Rattle.lt_trace.specs.Told.{Shown}
use Rattle.lt_check.specs.inner.Members.{Apart, Has}

-- where a run stands, without what is still to be done
abbrev pub Stand : Type 0
Stand = Configuration

abbrev pub standing_in : (ℕ → Expression) → Stand → Process ℕ → Configuration
standing_in meaning c0 p = record c0 { process = with_constraints meaning p }

-- some terms are those of all that some steps reach, each once
pub record AreTerms (s : Scene) (meaning : ℕ → Expression) (tests : Tests ℕ) (steps : List Shown) (c0 : Stand) (ps : List (Process ℕ)) : Type 0 where
  pub apart : Apart ps
  pub passing : (p : Process ℕ) → Has ps p → IsTrue (passes tests p)
  pub reached : (p : Process ℕ) → Has ps p → Reached s steps (standing_in meaning c0 p)
  pub all : (c : Configuration) → Reached s steps c → (p : Process ℕ) × Has ps p × (c ≡ standing_in meaning c0 p)

-- what follows some terms by a step
pub record AreNexts (s : Scene) (meaning : ℕ → Expression) (tests : Tests ℕ) (inputs : List Value) (step : Shown) (c0 c1 : Stand) (ps qs : List (Process ℕ)) : Type 0 where
  pub apart : Apart qs
  pub passing : (q : Process ℕ) → Has qs q → IsTrue (passes tests q)
  pub sound : (q : Process ℕ) → Has qs q → (p : Process ℕ) × Has ps p × Follows s (standing_in meaning c0 p) inputs step (standing_in meaning c1 q)

pub record AreAllNexts (s : Scene) (meaning : ℕ → Expression) (tests : Tests ℕ) (inputs : List Value) (step : Shown) (c0 c1 : Stand) (ps qs : List (Process ℕ)) : Type 0 where
  pub some : AreNexts s meaning tests inputs step c0 c1 ps qs
  pub full : (p : Process ℕ) (g : Configuration) → Has ps p → Follows s (standing_in meaning c0 p) inputs step g → (q : Process ℕ) × Has qs q × (g ≡ standing_in meaning c1 q)
