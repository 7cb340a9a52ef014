-- What a check says at the end of a trace.
use Rattle.std.proofs.Common.{◌≡◌, ◌<◌, ◌≤◌, ◌+◌, ◌^◌, ℕ, zero, suc, Bool, true, false, List, [], ◌∷◌, ◌++◌, ◌⊎◌, inl, inr, length, map, take, drop, get_or, None, Some, Option, if◌then◌else◌, refl, ap, sym, ◌∙◌, subst, arith}
use Rattle.std.specs.Prelude.{All, slice_get}
use Rattle.std.specs.Bool.{Decides}
use Rattle.std.proofs.lemmas.List.{drop_all, length-map, take_all, take_more}
use Rattle.lt_formula.specs.Expression.{Expression}
use Rattle.lt_legal.specs.Follows.{Reached, inputs_behind}
use Rattle.lt_legal.specs.LegalRun.{IsLegalRun, MayEnd}
use Rattle.lt_legal.specs.Searched.{EndAsks, FirstAsks}
use Rattle.lt_legal.specs.Verdict.{IsVerdict, given_up, legal, no_end}
use Rattle.lt_legal.specs.Walk.{has_some}
use Rattle.lt_legal.specs.declared.halt.Halt.{Halt}
use Rattle.lt_legal.specs.declared.halt.Halt.TheVariants as halt
use Rattle.lt_legal.specs.declared.verdict.Verdict.TheVariants.{Budget, Illegal, Legal}
use Rattle.lt_num.specs.declared.value.Value.{Value}
use Rattle.lt_rif.specs.ReadBack.{HoldAll}
use Rattle.lt_term.specs.Configuration.{Configuration}
use Rattle.lt_term.specs.Evaluated as e
use Rattle.lt_term.specs.Evaluated.{evaluated}
use Rattle.lt_term.specs.Process.{Process}
use Rattle.lt_term.specs.Scene.{Scene, Variable}
use Rattle.lt_term.specs.Tree.{flattened}
use Rattle.lt_term.specs.Offers.{TermTree}
use Rattle.lt_trace.specs.Lines.{HasShape}
use Rattle.lt_trace.specs.Shape.{HoldLocals, IsShown}
use Rattle.lt_trace.specs.Told.{Shown, Told}
use Rattle.lt_trace.specs.View.{step_view, told}
use Rattle.lt_trace.specs.declared.recorded.Recorded.{Recorded}
use Rattle.lt_trace.specs.declared.recorded.RecordedStep.{RecordedStep}
use Rattle.lt_trace.specs.declared.recorded.RecordedEnd.{RecordedEnd}
use Rattle.lt_trace.specs.declared.recorded.RecordedEnd.TheVariants as recorded
use Rattle.lt_instant.specs.Instant.{is_too_large}
use Rattle.lt_instant.specs.RunStateView.{configuration_behind}
use Rattle.lt_check.specs.Shape.{open_slot, ranged_slot, trace_shape}
use Rattle.lt_term.specs.View.{process}
use Rattle.lt_check.specs.declared.key.TermKey.{TermKey}
use Rattle.lt_check.specs.declared.moment.Moment.{Moment}
use Rattle.lt_check.specs.declared.progress.Progress.{Progress}
use Rattle.lt_check.specs.inner.Finding.{found_in, told_by}
use Rattle.lt_check.specs.inner.Kinded.{AreKinded, AreKindedLocals, IsKindedStep}
use Rattle.lt_check.specs.inner.Members.{Has}
use Rattle.lt_check.specs.inner.MomentView.{IsEndingHalt, ends_at, is_large, meant_tree_at, moment_scene, moment_worth, small_ends}
use Rattle.lt_check.specs.inner.ProgressView.{AreEnded, IsBehind, IsEndHalt, moment_meaning}
use Rattle.lt_check.specs.inner.Reached.{standing_in}
use Rattle.lt_check.specs.inner.Searches.{is_alive}
use Rattle.lt_check.specs.inner.Some.{is_some_of}
use Rattle.lt_check.specs.inner.TermSet.{terms_of}
use Rattle.lt_check.specs.inner.Wanted.{for_fault, for_normal, for_raise}
use Rattle.lt_check.proofs.Alive.{told_is}
use Rattle.lt_check.proofs.Behind.{got, needs_of}
use Rattle.lt_check.proofs.Ends.{deadlock_tells, fault_tells, normal_tells, raise_tells}
use Rattle.lt_check.proofs.Lists.{has_either}
use Rattle.lt_check.proofs.Needs.{HasNeed, fault_asked, normal_asked, raise_asked, root_is, some_node, whole_asked}
use Rattle.lt_check.proofs.Semantics.{Laws}
use Rattle.lt_check.proofs.Standings.{few_meant, large_is, meant_is}

-- ---- what a trace shows

values_kinded : (vs : List Variable) (xs : List Value) → HoldAll (map open_slot vs) xs → AreKinded vs xs
values_kinded [] [] h = tt
values_kinded [] (x ∷ xs) h = absurd h
values_kinded (v ∷ vs) [] h = absurd h
values_kinded (v ∷ vs) (x ∷ xs) h = (h.0.kind, values_kinded vs xs h.1)

inputs_kinded : (vs : List Variable) (xs : List Value) → HoldAll (map ranged_slot vs) xs → AreKinded vs xs
inputs_kinded [] [] h = tt
inputs_kinded [] (x ∷ xs) h = absurd h
inputs_kinded (v ∷ vs) [] h = absurd h
inputs_kinded (v ∷ vs) (x ∷ xs) h = (h.0.kind, inputs_kinded vs xs h.1)

locals_kinded : (vs : List Variable) (ys : List (Option Value)) → HoldLocals (map open_slot vs) ys → AreKindedLocals vs ys
locals_kinded [] [] h = tt
locals_kinded [] (y ∷ ys) h = absurd h
locals_kinded (v ∷ vs) [] h = absurd h
locals_kinded (v ∷ vs) (None ∷ ys) h = (tt, locals_kinded vs ys h.1)
locals_kinded (v ∷ vs) (Some x ∷ ys) h = (h.0.kind, locals_kinded vs ys h.1)

shown_kinded : (s : Scene) (step : Shown) → IsShown (trace_shape s) step → IsKindedStep s step
shown_kinded s step h = record {
  outputs = values_kinded s.outputs step.outputs h.outputs;
  inputs = inputs_kinded s.inputs step.inputs h.inputs;
  locals = locals_kinded s.locals step.locals h.locals;
}

-- the step of a number
module _ {A B : Type 0} (f : A → B) where
  pub step_there : (xs : List A) (k : ℕ) (x d : A) → k < length xs → x ≡ get_or xs k d → slice_get (map f xs) k ≡ Some (f x)
  step_there [] k x d l e = absurd (omega (arith, l))
  step_there (y ∷ xs) zero x d l e = ap (λ z. Some (f z)) (sym e)
  step_there (y ∷ xs) (suc k) x d l e = step_there xs k x d (omega (arith, l)) e

all_got : {A : Type 0} (P : A → Type 0) (xs : List A) (k : ℕ) (x : A) → All P xs → slice_get xs k ≡ Some x → P x
all_got P xs k x all h = let r = got xs k x h in subst P r.1 (all k x r.0)

pub told_there : (r : Recorded) (items : List RecordedStep) (k : ℕ) (x : RecordedStep) → items ≡ r.steps.items → k < length items → x ≡ get_or items k x → slice_get (told r).steps k ≡ Some (step_view x)
told_there r items k x same l e = ap (λ xs. slice_get (map step_view xs) k) (sym same) ∙ step_there step_view items k x x l e

-- all steps are behind
pub all_behind : (r : Recorded) (items : List RecordedStep) (k : ℕ) → items ≡ r.steps.items → length items ≤ k → k ≤ length items → k ≡ length (told r).steps
all_behind r items k same l h = let e = ap (λ (xs : List RecordedStep). length xs) same in let long = length-map r.steps.items step_view in omega (arith, e, long, l, h)

-- is of the kinds of the variables
pub told_kinded : (s : Scene) (t : Told) (k : ℕ) (step : Shown) → HasShape (trace_shape s) t → slice_get t.steps k ≡ Some step → IsKindedStep s step
told_kinded s t k step h e = shown_kinded s step (all_got (IsShown (trace_shape s)) t.steps k step h.steps e)

-- ---- whether a run may end

module _ (laws : Laws) (m : Moment) (p : Process ℕ) where
  abbrev stands : Configuration
  stands = standing_in (moment_meaning m) (configuration_behind m.past) p

  small_tells : (e : RecordedEnd) → is_large m p ≡ false → Decides (small_ends m p e) (MayEnd (moment_scene m) stands m.inputs.items e)
  small_tells recorded.Normal h =
      subst (λ (u : TermTree Expression). Decides (is_some_of (found_in (moment_scene m) (moment_worth m) for_normal u)) (MayEnd (moment_scene m) stands m.inputs.items recorded.Normal)) (sym (meant_is m p))
      (normal_tells laws (moment_scene m) stands m.inputs.items (subst (λ (u : TermTree Expression). length (flattened u) < 2 ^ 32) (meant_is m p) (few_meant m p h)) (sym (large_is m p) ∙ h))
  small_tells (recorded.Raise z) h =
      subst (λ (u : TermTree Expression). Decides (is_some_of (found_in (moment_scene m) (moment_worth m) (for_raise (moment_scene m) z) u)) (MayEnd (moment_scene m) stands m.inputs.items (recorded.Raise z))) (sym (meant_is m p))
      (raise_tells laws (moment_scene m) stands m.inputs.items (subst (λ (u : TermTree Expression). length (flattened u) < 2 ^ 32) (meant_is m p) (few_meant m p h)) (sym (large_is m p) ∙ h) z)
  small_tells (recorded.Fault x) h =
      subst (λ (u : TermTree Expression). Decides (is_some_of (found_in (moment_scene m) (moment_worth m) (for_fault x) u)) (MayEnd (moment_scene m) stands m.inputs.items (recorded.Fault x))) (sym (meant_is m p))
      (fault_tells laws (moment_scene m) stands m.inputs.items (subst (λ (u : TermTree Expression). length (flattened u) < 2 ^ 32) (meant_is m p) (few_meant m p h)) (sym (large_is m p) ∙ h) x)
  small_tells recorded.Deadlock h =
      let s = moment_scene m in
      let u : TermTree Expression = meant_tree_at m p in
      let few = few_meant m p h in
      let told = told_is s (moment_worth m) u few 0 (some_node u) (is_alive s) in
      deadlock_tells laws s stands m.inputs.items (subst (λ (v : TermTree Expression). length (flattened v) < 2 ^ 32) (meant_is m p) few) (sym (large_is m p) ∙ h) (told_by (moment_worth m) (is_alive s) u 0)
      (told ∙ ap (λ (v : TermTree Expression). has_some (is_alive s) (evaluated (moment_worth m) v)) (root_is u ∙ meant_is m p))
  small_tells recorded.Cut h = (λ k. tt, λ k. refl)

  -- what is too large ends in nothing
  large_tells : (e : RecordedEnd) → is_large m p ≡ true → (MayEnd (moment_scene m) stands m.inputs.items e → is_too_large (moment_scene m) stands ≡ false) → Decides false (MayEnd (moment_scene m) stands m.inputs.items e)
  large_tells e h f = (λ k. absurd (cc), λ k. absurd (let g = sym h ∙ large_is m p ∙ f k in cc))

  by_size : (e : RecordedEnd) → (MayEnd (moment_scene m) stands m.inputs.items e → is_too_large (moment_scene m) stands ≡ false) → (b : Bool) → is_large m p ≡ b → Decides (if b then false else small_ends m p e) (MayEnd (moment_scene m) stands m.inputs.items e)
  by_size e f true h = large_tells e h f
  by_size e f false h = small_tells e h

  pub ends_tell : (e : RecordedEnd) → Decides (ends_at m p e) (MayEnd (moment_scene m) stands m.inputs.items e)
  ends_tell recorded.Normal = by_size recorded.Normal (λ k. k.0) (is_large m p) refl
  ends_tell (recorded.Raise z) = by_size (recorded.Raise z) (λ k. k.0) (is_large m p) refl
  ends_tell (recorded.Fault x) = by_size (recorded.Fault x) (λ k. k.0) (is_large m p) refl
  ends_tell recorded.Deadlock = by_size recorded.Deadlock (λ k. k.0) (is_large m p) refl
  ends_tell recorded.Cut = (λ k. tt, λ k. refl)

-- ---- a search for an end that is given up

-- what is so of a leaf that has to be searched, where what is offered isn't too large
abbrev EndNeeds : Moment → Process ℕ → RecordedEnd → ℕ → Type 0
EndNeeds m p e need = (is_large m p ≡ false) × HasNeed (moment_scene m) m.budget need (λ o. EndAsks (moment_scene m) e o (evaluated (moment_worth m) (meant_tree_at m p)))

end_asked : (m : Moment) (p : Process ℕ) (e : RecordedEnd) (need : ℕ) → IsEndingHalt m p e (halt.Over need) → EndNeeds m p e need
end_asked m p recorded.Normal need h = (h.0, normal_asked (moment_scene m) (moment_worth m) m.budget (meant_tree_at m p) (few_meant m p h.0) need h.1)
end_asked m p (recorded.Raise z) need h = (h.0, raise_asked (moment_scene m) (moment_worth m) m.budget (meant_tree_at m p) (few_meant m p h.0) need z h.1)
end_asked m p (recorded.Fault x) need h = (h.0, fault_asked (moment_scene m) (moment_worth m) m.budget (meant_tree_at m p) (few_meant m p h.0) need x h.1)
end_asked m p recorded.Deadlock need h = (h.0, whole_asked (moment_scene m) (moment_worth m) m.budget (meant_tree_at m p) (few_meant m p h.0) need h.1)
end_asked m p recorded.Cut need h = absurd h

-- ---- the verdict behind all steps

module _ (t : Told) (budget : ℕ) (p : Progress) (behind : IsBehind t budget (length t.steps) p) where
  whole : take (length t.steps) t.steps ≡ t.steps
  whole = take_all (length t.steps) t.steps (omega arith)

  abbrev here : Scene
  here = moment_scene p.moment

  -- a run may end there
  pub ends_legal : Laws → AreEnded p.moment (terms_of p.terms.keys) t.end true → IsVerdict here budget t Legal
  ends_legal laws h =
      legal behind.before (
        standing_in (moment_meaning p.moment) (configuration_behind p.moment.past) h.0,
        subst (λ (steps : List Shown). Reached here steps (standing_in (moment_meaning p.moment) (configuration_behind p.moment.past) h.0)) whole (behind.terms.reached h.0 h.1),
        subst (λ (xs : List Value). MayEnd here (standing_in (moment_meaning p.moment) (configuration_behind p.moment.past) h.0) xs t.end) (behind.inputs ∙ ap (inputs_behind here) whole) ((ends_tell laws p.moment h.0 t.end).0 h.2),
      )

  -- none may
  none_ends : Laws → AreEnded p.moment (terms_of p.terms.keys) t.end false → IsLegalRun here t → ⊥
  none_ends laws h r =
      let a = behind.terms.all r.0 (subst (λ (steps : List Shown). Reached here steps r.0) (sym whole) r.1) in
      let may = subst (λ (c : Configuration). MayEnd here c (inputs_behind here t.steps) t.end) a.2 r.2 in
      let ends = (ends_tell laws p.moment a.0 t.end).1 (subst (λ (xs : List Value). MayEnd here (standing_in (moment_meaning p.moment) (configuration_behind p.moment.past) a.0) xs t.end) (sym (behind.inputs ∙ ap (inputs_behind here) whole)) may) in
      let not_so = h a.0 a.1 in
      absurd (let k = sym not_so ∙ ends in cc)

  pub ends_illegal : Laws → AreEnded p.moment (terms_of p.terms.keys) t.end false → IsVerdict here budget t (Illegal (length t.steps + 1))
  ends_illegal laws h = no_end behind.before (none_ends laws h)

  -- a search is given up
  pub end_given_up : (need : ℕ) → IsEndHalt p.moment (terms_of p.terms.keys) t.end (halt.Over need) → IsVerdict here budget t (Budget need (length t.steps + 1))
  end_given_up need h =
      let g = end_asked p.moment h.0 t.end need h.2 in
      let none_left : drop (length t.steps) t.steps ≡ [] = drop_all (length t.steps) t.steps (omega arith) in
      given_up (length t.steps) need (omega arith) behind.before
      (needs_of p.moment t budget (length t.steps) need h.0 behind.budget_is behind.inputs (behind.terms.reached h.0 h.1) g.0
      (record {
        formula = g.1.formula;
        lasts = g.1.lasts;
        next = g.1.next;
        so = subst (λ (steps : List Shown). FirstAsks here steps t.end (e.go g.1.formula g.1.lasts g.1.next) (evaluated (moment_worth p.moment) (meant_tree_at p.moment h.0))) (sym none_left) g.1.so;
        needs = g.1.needs;
        over = g.1.over;
      }))

-- ---- term after term

-- what ends at one term
pub ended_by : (m : Moment) (ps : List (Process ℕ)) (e : RecordedEnd) (p : Process ℕ) → Has ps p → ends_at m p e ≡ true → AreEnded m ps e true
ended_by m ps e p has h = (p, has, h)

pub end_halted_by : (m : Moment) (ps : List (Process ℕ)) (e : RecordedEnd) (p : Process ℕ) → Has ps p → (h : Halt) → IsEndingHalt m p e h → IsEndHalt m ps e h
end_halted_by m ps e p has halt.Memory k = tt
end_halted_by m ps e p has (halt.Over need) k = (p, has, k)

-- none of the first terms, nor the next one
pub none_more : (m : Moment) (keys : List TermKey) (e : RecordedEnd) (i : ℕ) (key d : TermKey) → i < length keys → key ≡ get_or keys i d → ((p : Process ℕ) → Has (take i (terms_of keys)) p → ends_at m p e ≡ false) → ends_at m (process key.term) e ≡ false
    → (p : Process ℕ) → Has (take (i + 1) (terms_of keys)) p → ends_at m p e ≡ false
none_more m keys e i key d l at none here p h =
    let q : Process ℕ = process key.term in
    let long = length-map keys (λ (k : TermKey). process k.term) in
    let more_is = take_more (terms_of keys) i q (omega (arith, long, l)) ∙ ap (λ x. take i (terms_of keys) ++ x ∷ []) (at_map keys i l at) in
    by_place (has_either (take i (terms_of keys)) (q ∷ []) p (subst (λ (xs : List (Process ℕ)). Has xs p) more_is h))
  where
    at_map : (ks : List TermKey) (j : ℕ) → j < length ks → key ≡ get_or ks j d → get_or (terms_of ks) j (process key.term) ≡ process key.term
    at_map [] j k h = absurd (omega (arith, k))
    at_map (x ∷ ks) zero k h = ap (λ (y : TermKey). process y.term) (sym h)
    at_map (x ∷ ks) (suc j) k h = at_map ks j (omega (arith, k)) h

    by_place : Has (take i (terms_of keys)) p ⊎ Has (process key.term ∷ []) p → ends_at m p e ≡ false
    by_place (inl k) = none p k
    by_place (inr (inl k)) = subst (λ (x : Process ℕ). ends_at m x e ≡ false) k here
    by_place (inr (inr k)) = absurd k

-- none of all
pub none_of_all : (m : Moment) (keys items : List TermKey) (e : RecordedEnd) (i : ℕ) → items ≡ keys → length items ≤ i → ((p : Process ℕ) → Has (take i (terms_of keys)) p → ends_at m p e ≡ false) → AreEnded m (terms_of keys) e false
none_of_all m keys items e i same l none = λ p h. none p (subst (λ (xs : List (Process ℕ)). Has xs p) (sym (take_all i (terms_of keys) (let a = ap (λ (xs : List TermKey). length xs) same in let b = length-map keys (λ (k : TermKey). process k.term) in omega (arith, a, b, l)))) h)
