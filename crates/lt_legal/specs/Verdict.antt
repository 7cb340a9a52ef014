-- What a check says of a trace, within a number of configurations that it keeps.
use Rattle.std.specs.Prelude.{◌≡◌, ◌≢◌, ◌≤◌, ◌<◌, ℕ, ◌+◌, false, List, All, AllPairs, Contains, length, take}
use Rattle.lt_formula.specs.Expression.{Expression}
use Rattle.lt_space.specs.Formula.{Formula}
use Rattle.lt_term.specs.Configuration.{Configuration}
use Rattle.lt_term.specs.Evaluated.{go}
use Rattle.lt_term.specs.Process.{Process}
use Rattle.lt_term.specs.Scene.{Scene}
use Rattle.lt_term.specs.Tree.{Lasts}
use Rattle.lt_trace.specs.Told.{Shown, Told}
use Rattle.lt_instant.specs.Instant.{is_too_large, judged}
use Rattle.lt_instant.specs.Solved.{need_of}
use Rattle.lt_legal.specs.Follows.{Reached, inputs_behind}
use Rattle.lt_legal.specs.LegalRun.{IsLegalRun}
use Rattle.lt_legal.specs.Searched.{NextAsks}
use Rattle.lt_legal.specs.declared.verdict.Verdict.{Verdict}
use Rattle.lt_legal.specs.declared.verdict.Verdict.TheVariants.{Budget, Illegal, Legal, TooMany}

-- how many configurations a check keeps
abbrev pub most_candidates : ℕ
most_candidates = 4096

-- no two of these are the same
abbrev pub AreDistinct : List Configuration → Type 0
AreDistinct cs = AllPairs (λ a b. a ≢ b) cs

-- These are all configurations that some steps reach, each once.
pub record AreReached (s : Scene) (steps : List Shown) (cs : List Configuration) : Type 0 where
  pub distinct : AreDistinct cs
  pub reached : All (Reached s steps) cs
  pub all : (c : Configuration) → Reached s steps c → Contains cs c

-- some steps reach some configurations, and no more than a check keeps
abbrev pub ReachSome : Scene → List Shown → Type 0
ReachSome s steps =
    (cs : List Configuration) × AreReached s steps cs × (0 < length cs)
    × (length cs ≤ most_candidates)

-- they reach more than that
abbrev pub ReachMany : Scene → List Shown → Type 0
ReachMany s steps =
    (cs : List Configuration) × AreDistinct cs × All (Reached s steps) cs
    × (most_candidates < length cs)

-- they reach none
abbrev pub ReachNone : Scene → List Shown → Type 0
ReachNone s steps = (c : Configuration) → Reached s steps c → ⊥

-- fewer steps than so many reach some, and no more than a check keeps
abbrev pub ReachSomeBefore : Scene → List Shown → ℕ → Type 0
ReachSomeBefore s steps k = (j : ℕ) → j < k → ReachSome s (take j steps)

-- Where a run stands that so many steps reach, a leaf has to be searched that has this need, which
-- is over the budget.
pub record NeedsSearch (s : Scene) (t : Told) (budget k need : ℕ) : Type 0 where
  pub at : Configuration
  pub reached : Reached s (take k t.steps) at
  pub small : is_too_large s at ≡ false
  pub formula : Formula
  pub lasts : Lasts
  pub next : Process Expression
  pub asks : NextAsks s t k (go formula lasts next) (judged s at (inputs_behind s (take k t.steps)))
  pub needs : need_of s lasts formula ≡ need
  pub over : budget < need

-- The verdict on a trace, a row a cause. All but the last exclude each other; the last comes only
-- where a leaf has to be searched whose need is over the budget.
pub data IsVerdict (s : Scene) (budget : ℕ) (t : Told) : Verdict → Type 0 where
  -- its steps reach some configurations, and never too many; and it is a legal run
  legal : ReachSomeBefore s t.steps (length t.steps + 1) → IsLegalRun s t →
      IsVerdict s budget t Legal
  -- step k + 1 is the first that reaches none
  no_step : (k : ℕ) → k < length t.steps → ReachSomeBefore s t.steps (k + 1) →
      ReachNone s (take (k + 1) t.steps) →
      IsVerdict s budget t (Illegal (k + 1))
  -- all steps reach some, and it is no legal run
  no_end : ReachSomeBefore s t.steps (length t.steps + 1) → (IsLegalRun s t → ⊥) →
      IsVerdict s budget t (Illegal (length t.steps + 1))
  -- step k + 1 is the first that reaches too many
  many : (k : ℕ) → k < length t.steps → ReachSomeBefore s t.steps (k + 1) →
      ReachMany s (take (k + 1) t.steps) →
      IsVerdict s budget t (TooMany (k + 1))
  -- for step k + 1, or for the end behind k steps, such a leaf has to be searched
  given_up : (k need : ℕ) → k ≤ length t.steps → ReachSomeBefore s t.steps (k + 1) →
      NeedsSearch s t budget k need →
      IsVerdict s budget t (Budget need (k + 1))
