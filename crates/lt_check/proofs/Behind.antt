-- A check that goes on behind a step, or ends there.
use Rattle.std.proofs.Common.{◌≡◌, ◌<◌, ◌≤◌, ◌+◌, ℕ, zero, suc, Bool, true, false, IsTrue, List, [], ◌∷◌, ◌++◌, length, take, drop, get_or, None, Some, if◌then◌else◌, below_more, refl, ap, sym, ◌∙◌, subst, arith}
use Rattle.std.specs.Prelude.{slice_get}
use Rattle.std.specs.List.{list_any}
use Rattle.std.proofs.lemmas.List.{length-map, take_more}
use Rattle.lt_formula.specs.Table.{HasEachOnce}
use Rattle.lt_formula.specs.View.{table_expressions}
use Rattle.lt_legal.specs.Follows.{Reached, inputs_before_all, inputs_behind}
use Rattle.lt_legal.specs.Searched.{FirstAsks, NextAsks}
use Rattle.lt_legal.specs.Verdict.{IsVerdict, NeedsSearch, ReachSome, ReachSomeBefore, given_up, many, most_candidates, no_step}
use Rattle.lt_legal.specs.declared.halt.Halt.TheVariants as halt
use Rattle.lt_legal.specs.declared.verdict.Verdict.TheVariants.{Budget, Illegal, TooMany}
use Rattle.lt_num.specs.Range.{TestTellsPoints}
use Rattle.lt_same_term.specs.Alike.{alike}
use Rattle.lt_same_term.specs.Laws.{ConstraintsTellTerms}
use Rattle.lt_term.specs.Configuration.{Configuration, first_configuration}
use Rattle.lt_term.specs.Evaluated as e
use Rattle.lt_term.specs.Evaluated.{evaluated}
use Rattle.lt_term.specs.Process.{Process, dead}
use Rattle.lt_term.specs.SceneView.{numbers_of, scene}
use Rattle.lt_term.specs.View.{process}
use Rattle.lt_term.specs.Within.{passes}
use Rattle.lt_term.specs.declared.scenario.Scenario.{Scenario}
use Rattle.lt_trace.specs.Told.{Shown, Told}
use Rattle.lt_instant.specs.Instant.{Judged, judged, worth_in}
use Rattle.lt_instant.specs.RunStateView.{configuration_behind, reaction}
use Rattle.lt_instant.specs.inner.DrawContextView.{meaning_of}
use Rattle.lt_check.specs.declared.key.TermKey.{TermKey}
use Rattle.lt_check.specs.declared.moment.Moment.{Moment}
use Rattle.lt_check.specs.declared.progress.Progress.{Progress}
use Rattle.lt_check.specs.inner.Kinded.{IsKindedStep}
use Rattle.lt_check.specs.inner.MomentView.{is_large, meant_tree_at, moment_scene, moment_worth}
use Rattle.lt_check.specs.inner.ProgressView.{FollowAll, FollowSome, IsBehind, IsStepHalt, moment_meaning, moment_numbers, stand_behind}
use Rattle.lt_check.specs.inner.Reached.{AreTerms, Stand, standing_in}
use Rattle.lt_check.specs.inner.TermSet.{terms_of}
use Rattle.lt_check.proofs.Needs.{HasNeed, step_asked}
use Rattle.lt_check.proofs.Reaching.{first_terms, inputs_push, next_reached, next_terms, reach_many, reach_none, reach_some}
use Rattle.lt_check.proofs.Standings.{few_meant, have_ranges, large_is, meant_is, numbers_tell}

-- ---- lists

-- what is at a place
pub got : {A : Type 0} (xs : List A) (k : ℕ) (x : A) → slice_get xs k ≡ Some x → (k < length xs) × (get_or xs k x ≡ x)
got [] k x h = absurd (cc)
got (y ∷ xs) zero x h = (omega arith, cc)
got (y ∷ xs) (suc k) x h = let r = got xs k x h in (omega (arith, r.0), r.1)

pub got_within : {A : Type 0} (xs : List A) (k : ℕ) (x : A) → slice_get xs k ≡ Some x → k < length xs
got_within xs k x h = (got xs k x h).0

pub taken_step : {A : Type 0} (xs : List A) (k : ℕ) (x : A) → slice_get xs k ≡ Some x → take (k + 1) xs ≡ take k xs ++ x ∷ []
taken_step xs k x h = let r = got xs k x h in take_more xs k x r.0 ∙ ap (λ y. take k xs ++ y ∷ []) r.1

dropped_step : {A : Type 0} (xs : List A) (k : ℕ) (x : A) → slice_get xs k ≡ Some x → (rest : List A) × (drop k xs ≡ x ∷ rest)
dropped_step [] k x h = absurd (cc)
dropped_step (y ∷ xs) zero x h = (xs, let same : y ≡ x = cc in ap (λ z. z ∷ xs) same)
dropped_step (y ∷ xs) (suc k) x h = dropped_step xs k x h

pub terms_long : (keys : List TermKey) → length (terms_of keys) ≡ length keys
terms_long keys = length-map keys (λ (k : TermKey). process k.term)

-- ---- needs

-- a leaf with a need that has to be searched for what comes next, where a run stands
pub needs_of : (m : Moment) (t : Told) (budget k need : ℕ) (p : Process ℕ) → m.budget ≡ budget → m.inputs.items ≡ inputs_behind (moment_scene m) (take k t.steps) → Reached (moment_scene m) (take k t.steps) (standing_in (moment_meaning m) (configuration_behind m.past) p) → is_large m p ≡ false
    → HasNeed (moment_scene m) m.budget need (λ o. NextAsks (moment_scene m) t k o (evaluated (moment_worth m) (meant_tree_at m p))) → NeedsSearch (moment_scene m) t budget k need
needs_of m t budget k need p budget_is inputs reached small h =
    let s = moment_scene m in
    let at : Configuration = standing_in (moment_meaning m) (configuration_behind m.past) p in
    let same : evaluated (moment_worth m) (meant_tree_at m p) ≡ judged s at (inputs_behind s (take k t.steps)) = λ i. evaluated (worth_in s at (inputs i)) (meant_is m p i) in
    record {
      at = at;
      reached = reached;
      small = sym (large_is m p) ∙ small;
      formula = h.formula;
      lasts = h.lasts;
      next = h.next;
      asks = subst (λ (u : Judged). NextAsks s t k (e.go h.formula h.lasts h.next) u) same h.so;
      needs = h.needs;
      over = subst (λ b. b < need) budget_is h.over;
    }

-- ---- behind a step

-- what is known behind a step
pub record IsPassed (old new : Moment) (step : Shown) : Type 0 where
  pub scenario : new.scenario.now ≡ old.scenario.now
  pub step_is : new.past.step ≡ old.past.step + 1
  pub reacted : new.past.has_reacted ≡ true
  pub inputs_before : new.past.reaction.inputs.items ≡ old.inputs.items
  pub outputs_before : new.past.reaction.outputs.items ≡ step.outputs
  pub inputs_now : new.inputs.items ≡ step.inputs
  pub budget_is : new.budget ≡ old.budget

stand_is : (old new : Moment) (step : Shown) → IsPassed old new step → stand_behind old step ≡ configuration_behind new.past
stand_is old new step h = sym
    (λ i.
    record {
      process = dead;
      step = h.step_is i;
      previous = if h.reacted i then Some (record { inputs = h.inputs_before i; outputs = h.outputs_before i }) else None;
    })

-- the terms of a scenario's configurations, by what a moment knows
abbrev TermsIn : Scenario → List Shown → Stand → List (Process ℕ) → Type 0
TermsIn sc steps c0 qs = AreTerms (scene sc) (meaning_of sc.table) (numbers_of sc) steps c0 qs

module _ (tell : ConstraintsTellTerms) (m : Moment) (once : HasEachOnce (table_expressions m.scenario.now.table)) (t : Told) (step : Shown) (budget k : ℕ) (there : slice_get t.steps k ≡ Some step) (ps qs : List (Process ℕ))
    (step_is : m.past.step ≡ k + 1) (budget_is : m.budget ≡ budget) (inputs : m.inputs.items ≡ inputs_behind (moment_scene m) (take k t.steps)) (terms : AreTerms (moment_scene m) (moment_meaning m) (moment_numbers m) (take k t.steps) (configuration_behind m.past) ps) (before : ReachSomeBefore (moment_scene m) t.steps (k + 1)) where
  all_terms : FollowAll m step ps qs → AreTerms (moment_scene m) (moment_meaning m) (moment_numbers m) (take (k + 1) t.steps) (stand_behind m step) qs
  all_terms h =
      subst (λ (steps : List Shown). AreTerms (moment_scene m) (moment_meaning m) (moment_numbers m) steps (stand_behind m step) qs) (sym (taken_step t.steps k step there))
      (next_terms (moment_scene m) (moment_meaning m) (moment_numbers m) m.inputs.items (take k t.steps) step (configuration_behind m.past) (stand_behind m step) ps qs terms inputs h)

  reaches_some : FollowAll m step ps qs → 0 < length qs → length qs ≤ most_candidates → ReachSome (moment_scene m) (take (k + 1) t.steps)
  reaches_some h some few =
      reach_some (moment_scene m) (moment_meaning m) (moment_numbers m) tell (numbers_tell m.scenario.now once) (take (k + 1) t.steps) (stand_behind m step) qs (all_terms h) some few

  -- none follows
  pub none_legal : FollowAll m step ps qs → qs ≡ [] → IsVerdict (moment_scene m) budget t (Illegal (k + 1))
  none_legal h e =
      no_step k (got_within t.steps k step there) before
      (reach_none (moment_scene m) (moment_meaning m) (moment_numbers m) tell (numbers_tell m.scenario.now once) (take (k + 1) t.steps) (stand_behind m step)
      (subst (λ (rs : List (Process ℕ)). AreTerms (moment_scene m) (moment_meaning m) (moment_numbers m) (take (k + 1) t.steps) (stand_behind m step) rs) e (all_terms h)))

  -- too many do
  pub too_many : FollowSome m step ps qs → most_candidates < length qs → IsVerdict (moment_scene m) budget t (TooMany (k + 1))
  too_many h l =
      many k (got_within t.steps k step there) before
      (reach_many (moment_scene m) (moment_meaning m) (moment_numbers m) tell (numbers_tell m.scenario.now once) (take (k + 1) t.steps) (stand_behind m step) qs h.apart h.passing
      (λ q has.
      subst (λ (steps : List Shown). Reached (moment_scene m) steps (standing_in (moment_meaning m) (stand_behind m step) q)) (sym (taken_step t.steps k step there))
      (next_reached (moment_scene m) (moment_meaning m) (moment_numbers m) m.inputs.items (take k t.steps) step (configuration_behind m.past) (stand_behind m step) ps qs terms inputs h q has))
      l)

  -- a search is given up
  pub step_given_up : TestTellsPoints → IsKindedStep (moment_scene m) step → (need : ℕ) → IsStepHalt m step ps (halt.Over need) → IsVerdict (moment_scene m) budget t (Budget need (k + 1))
  step_given_up test kinded need h =
      let s = moment_scene m in
      let p : Process ℕ = h.1.0 in
      let small : is_large m p ≡ false = h.1.2.0 in
      let rest = dropped_step t.steps k step there in
      let g = step_asked test s step kinded (have_ranges m.scenario.now.outputs.items) (have_ranges m.scenario.now.locals.items) h.0 (moment_worth m) m.budget (meant_tree_at m p) (few_meant m p small) need h.1.2.1 in
      let within = got_within t.steps k step there in
      given_up k need (omega (arith, within)) before
      (needs_of m t budget k need p budget_is inputs (terms.reached p h.1.1) small
      (record {
        formula = g.formula;
        lasts = g.lasts;
        next = g.next;
        so = subst (λ (steps : List Shown). FirstAsks s steps t.end (e.go g.formula g.lasts g.next) (evaluated (moment_worth m) (meant_tree_at m p))) (sym rest.1) g.so;
        needs = g.needs;
        over = g.over;
      }))

  -- a check is behind the step
  module _ (new : Moment) (passed : IsPassed m new step) (follow : FollowAll m step ps qs) (some : 0 < length qs) (few : length qs ≤ most_candidates) where
    new_inputs : new.inputs.items ≡ inputs_behind (moment_scene new) (take (k + 1) t.steps)
    new_inputs =
        passed.inputs_now
        ∙ sym (inputs_push (inputs_before_all (moment_scene new)) (take k t.steps) step)
        ∙ ap (inputs_behind (moment_scene new)) (sym (taken_step t.steps k step there))

    new_terms : AreTerms (moment_scene new) (moment_meaning new) (moment_numbers new) (take (k + 1) t.steps) (configuration_behind new.past) qs
    new_terms =
        subst (λ (sc : Scenario). TermsIn sc (take (k + 1) t.steps) (configuration_behind new.past) qs) (sym passed.scenario)
        (subst (λ (c : Stand). TermsIn m.scenario.now (take (k + 1) t.steps) c qs) (stand_is m new step passed) (all_terms follow))

    new_before : ReachSomeBefore (moment_scene new) t.steps (k + 1 + 1)
    new_before =
        subst (λ (sc : Scenario). ReachSomeBefore (scene sc) t.steps (k + 1 + 1)) (sym passed.scenario)
        (below_more (λ j. ReachSome (moment_scene m) (take j t.steps)) (k + 1) before (reaches_some follow some few))

    pub behind_step : (p : Progress) → p.moment ≡ new → terms_of p.terms.keys ≡ qs → IsBehind t budget (k + 1) p
    behind_step p e f =
        let M : Moment → List (Process ℕ) → Type 0 = λ n rs. AreTerms (moment_scene n) (moment_meaning n) (moment_numbers n) (take (k + 1) t.steps) (configuration_behind n.past) rs in
        record {
          step = ap (λ (n : Moment). n.past.step) e ∙ passed.step_is ∙ ap (λ i. i + 1) step_is;
          budget_is = ap (λ (n : Moment). n.budget) e ∙ passed.budget_is ∙ budget_is;
          inputs = subst (λ (n : Moment). n.inputs.items ≡ inputs_behind (moment_scene n) (take (k + 1) t.steps)) (sym e) new_inputs;
          terms = subst (λ (n : Moment). M n (terms_of p.terms.keys)) (sym e) (subst (λ (rs : List (Process ℕ)). M new rs) (sym f) new_terms);
          before = subst (λ (n : Moment). ReachSomeBefore (moment_scene n) t.steps (k + 1 + 1)) (sym e) new_before;
        }

-- ---- before the first step

pub first_behind : ConstraintsTellTerms → (sc : Scenario) → HasEachOnce (table_expressions sc.table) → (t : Told) (budget : ℕ) (p : Progress) → p.moment.scenario.now ≡ sc → p.moment.past.step ≡ 1 → p.moment.past.has_reacted ≡ false → p.moment.inputs.items ≡ inputs_before_all (scene sc) → p.moment.budget ≡ budget → terms_of p.terms.keys ≡ process sc.body ∷ [] → IsTrue (passes (numbers_of sc) (process sc.body)) → IsBehind t budget 0 p
first_behind tell sc once t budget p scenario step_is reacted inputs budget_is terms pass =
    let c0 : Stand = configuration_behind p.moment.past in
    let is : first_configuration (scene sc) ≡ standing_in (meaning_of sc.table) c0 (process sc.body) = λ i. record { process = (scene sc).body; step = sym step_is i; previous = if sym reacted i then Some (reaction p.moment.past.reaction) else None } in
    let first = first_terms (scene sc) (meaning_of sc.table) (numbers_of sc) c0 (process sc.body) pass is in
    let some : ReachSome (scene sc) [] = reach_some (scene sc) (meaning_of sc.table) (numbers_of sc) tell (numbers_tell sc once) [] c0 (process sc.body ∷ []) first (omega arith) (omega arith) in
    record {
      step = step_is;
      budget_is = budget_is;
      inputs = subst (λ (x : Scenario). p.moment.inputs.items ≡ inputs_before_all (scene x)) (sym scenario) inputs;
      terms = subst (λ (x : Scenario). TermsIn x [] c0 (terms_of p.terms.keys)) (sym scenario) (subst (λ (qs : List (Process ℕ)). TermsIn sc [] c0 qs) (sym terms) first);
      before = subst (λ (x : Scenario). ReachSomeBefore (scene x) t.steps (0 + 1)) (sym scenario) (below_more (λ j. ReachSome (scene sc) (take j t.steps)) 0 (λ j l. absurd (omega (arith, l))) some);
    }

-- there are some, where there aren't none
pub some_there : (b : Bool) (n : ℕ) → (n ≡ 0 → IsTrue b) → b ≡ false → 0 < n
some_there b zero f h = absurd (let k : b ≡ true = f refl in cc)
some_there b (suc n) f h = omega arith

-- a set of one key
pub first_key : (old new : List TermKey) (key : TermKey) → length old ≡ 0 → new ≡ (if list_any (λ q. alike (process key.term) (process q.term)) old then old else old ++ key ∷ []) → terms_of new ≡ process key.term ∷ []
first_key [] new key h e = ap terms_of e
first_key (k ∷ old) new key h e = absurd (omega (arith, h))
