-- The trace of a run tells a legal run, and each verdict on it is Legal.
use Rattle.std.proofs.Common.{◌≡◌, ◌<◌, ◌≤◌, ◌⊎◌, inl, inr, ◌+◌, ◌^◌, ℕ, zero, suc, Bool, true, List, [], ◌∷◌, ◌++◌, codes, decimal, length, map, Some, Option, Ok, take, refl, ap, subst, sym, ◌∙◌, arith, append_assoc, append-nil, length-append}
use Rattle.std.specs.List.{flat_map}
use Rattle.std.specs.Prelude.{min}
use Rattle.std.proofs.lemmas.Bool.{cases_lt}
use Rattle.lt_draw.specs.declared.directions.Draw.{Draw}
use Rattle.lt_draw.specs.declared.directions.Draw.TheVariants.{Directed, Inside, Up}
use Rattle.lt_num.specs.declared.kind.Kind.{Kind}
use Rattle.lt_rif.specs.ReadBack.{AreOnLines, ValueReadsBack, kinds_of}
use Rattle.lt_num.specs.Bounds.{most_decimals}
use Rattle.lt_rif.specs.Trace.{DeclaredVariable, IsNamed, declared_text, draw_header, header_text, line, spaced, step_text, step_words}
use Rattle.lt_rif.specs.declared.end.End.{End}
use Rattle.lt_rif.specs.declared.end.End.TheVariants as end
use Rattle.lt_loop.specs.CoreView.{plan_of}
use Rattle.lt_loop.specs.Machine.{GivenUp, most_steps}
use Rattle.lt_loop.specs.Plan.{all_kinds, closing_text, opening_text, traced_step, where_written}
use Rattle.lt_loop.specs.Scene.{declared_as}
use Rattle.lt_loop.specs.declared.setup.Setup.{Setup}
use Rattle.lt_term.specs.Configuration.{Configuration}
use Rattle.lt_term.specs.Scene.{Scene, Variable}
use Rattle.lt_trace.proofs.Spaces.{end-line-is}
use Rattle.lt_trace.specs.End.{MayTell, end_line, recorded_of}
use Rattle.lt_trace.specs.Laws.{TextsHaveOneReading}
use Rattle.lt_trace.specs.Lines.{AreLines, IsLine, IsOnLine, IsTold, at_end, at_inputs, at_locals, at_outputs, at_rule, at_seed, at_step, at_values, declaration, declares_inputs, declares_locals, declares_outputs, no_line, numbers_step, shows_step, tells_end, tells_no_rule, tells_rule, tells_seed}
use Rattle.lt_trace.specs.Lines as lines
use Rattle.lt_trace.specs.Shape.{IsShown, kinds_in, shown_text}
use Rattle.lt_trace.specs.Told.{Shown, Told}
use Rattle.lt_trace.specs.inner.Ends.{end_word_text}
use Rattle.lt_trace_laws.specs.Replay.{IsTraceable, trace_text}
use Rattle.lt_play.specs.Rules.{known_scene, known_variable}
use Rattle.lt_play.specs.Run.{scenario_play}
use Rattle.lt_legal.specs.Follows.{Reached, further, start}
use Rattle.lt_legal.specs.LegalRun.{IsLegalRun}
use Rattle.lt_legal.specs.Verdict.{IsVerdict, given_up, legal, many, no_end, no_step}
use Rattle.lt_legal.specs.declared.verdict.Verdict.{Verdict}
use Rattle.lt_legal.specs.declared.verdict.Verdict.TheVariants.{Legal}
use Rattle.lt_check.specs.Shape as shape
use Rattle.lt_check.specs.Shape.{open_slot, ranged_slot, trace_shape}
use Rattle.lt_scenario_laws.specs.Traced.{ScenariosAreTraceable}
use Rattle.lt_check_laws.specs.Traces.{IsTraceOf, IsWithin, ReachFew, TracesAreLegal, TracesTellLegalRuns}
use Rattle.lt_check_laws.specs.Written.{AreWritten, IsOfLegalRun, MayEndBehind, RunsAreLegal, header, one_more}
use Rattle.lt_check_laws.proofs.Lines.{has-first, on-append, on-decimal, on-declared, on-end, on-step}

-- ---- the scenario's words are those of its shape

declared-same : (vs : List Variable) → map declared_as (map known_variable vs) ≡ map shape.declared_as vs
declared-same [] = refl
declared-same (v ∷ vs) = ap (λ (t : List DeclaredVariable). shape.declared_as v ∷ t) (declared-same vs)

open-kinds : (vs : List Variable) → map (λ v. v.kind) (map known_variable vs) ≡ kinds_of (map open_slot vs)
open-kinds [] = refl
open-kinds (v ∷ vs) = ap (λ (t : List Kind). v.kind ∷ t) (open-kinds vs)

ranged-kinds : (vs : List Variable) → map (λ v. v.kind) (map known_variable vs) ≡ kinds_of (map ranged_slot vs)
ranged-kinds [] = refl
ranged-kinds (v ∷ vs) = ap (λ (t : List Kind). v.kind ∷ t) (ranged-kinds vs)

kinds-same : (s : Scene) → all_kinds (known_scene s) ≡ kinds_in (trace_shape s)
kinds-same s =
    let a = open-kinds s.outputs in
    let b = ranged-kinds s.inputs in
    let c = open-kinds s.locals in
    append_assoc (map (λ v. v.kind) (map known_variable s.outputs)) (map (λ v. v.kind) (map known_variable s.inputs)) (map (λ v. v.kind) (map known_variable s.locals))
    ∙ ap (λ (t : List Kind). t ++ (map (λ v. v.kind) (map known_variable s.inputs) ++ map (λ v. v.kind) (map known_variable s.locals))) a
    ∙ ap (λ (t : List Kind). kinds_of (map open_slot s.outputs) ++ (t ++ map (λ v. v.kind) (map known_variable s.locals))) b
    ∙ ap (λ (t : List Kind). kinds_of (map open_slot s.outputs) ++ (kinds_of (map ranged_slot s.inputs) ++ t)) c

-- ---- the header

abbrev Leads : Scene → List ℕ → List Shown → Type 0
Leads s text steps = (n : ℕ) × AreLines (trace_shape s) text n (at_step steps)

module _ (s : Scene) where
  abbrev outs : List DeclaredVariable
  outs = map shape.declared_as s.outputs

  abbrev ins : List DeclaredVariable
  ins = map shape.declared_as s.inputs

  abbrev locs : List DeclaredVariable
  locs = map shape.declared_as s.locals

  abbrev seed_text : ℕ → List ℕ
  seed_text seed = codes "#seed " ++ decimal seed

  abbrev At : List ℕ → lines.Place → Type 0
  At text p = (n : ℕ) × AreLines (trace_shape s) text n p

  next-line : (front text : List ℕ) (p q : lines.Place) → At front p → IsOnLine text → IsLine (trace_shape s) p text q → At (front ++ line text) q
  next-line front text p q before on is = (suc before.0, lines.one_more front text before.0 p q before.1 on is)

  on-mark : (mark : List ℕ) (ds : List DeclaredVariable) → IsOnLine mark → AreOnLines ds → IsOnLine (declaration mark ds)
  on-mark mark ds on are = on-append mark (flat_map declared_text ds) on (on-declared ds are)

  after-seed : (seed : ℕ) → seed < 2 ^ 64 → At (line (seed_text seed)) at_rule
  after-seed seed small = next-line [] (seed_text seed) at_seed at_rule (0, no_line) (on-append (codes "#seed ") (decimal seed) refl (on-decimal seed (omega (arith, small)))) (tells_seed seed small)

  after-rule : (seed : ℕ) (draw : Draw) → seed < 2 ^ 64 → AreOnLines outs → At (line (seed_text seed) ++ draw_header draw ++ line (declaration (codes "#inputs") outs)) at_inputs
  after-rule seed Up small are =
      subst (λ (t : List ℕ). At (t ++ line (declaration (codes "#inputs") outs)) at_inputs) (sym (append-nil (line (seed_text seed))))
      (next-line (line (seed_text seed)) (declaration (codes "#inputs") outs) at_rule at_inputs (after-seed seed small) (on-mark (codes "#inputs") outs refl are) tells_no_rule)
  after-rule seed Directed small are =
      next-line (line (seed_text seed) ++ line (codes "#draw 2")) (declaration (codes "#inputs") outs) at_outputs at_inputs
      (next-line (line (seed_text seed)) (codes "#draw 2") at_rule at_outputs (after-seed seed small) refl (tells_rule Directed (codes "#draw 2") refl)) (on-mark (codes "#inputs") outs refl are) declares_outputs
  after-rule seed Inside small are =
      next-line (line (seed_text seed) ++ line (codes "#draw 3")) (declaration (codes "#inputs") outs) at_outputs at_inputs
      (next-line (line (seed_text seed)) (codes "#draw 3") at_rule at_outputs (after-seed seed small) refl (tells_rule Inside (codes "#draw 3") refl)) (on-mark (codes "#inputs") outs refl are) declares_outputs

  after-header : (seed : ℕ) (draw : Draw) → seed < 2 ^ 64 → AreOnLines outs → AreOnLines ins → AreOnLines locs → At (header_text seed draw outs ins (Some locs)) (at_step [])
  after-header seed draw small one two three =
      next-line (line (seed_text seed) ++ draw_header draw ++ line (declaration (codes "#inputs") outs) ++ line (declaration (codes "#outputs") ins)) (declaration (codes "#locals") locs) at_locals (at_step [])
      (next-line (line (seed_text seed) ++ draw_header draw ++ line (declaration (codes "#inputs") outs)) (declaration (codes "#outputs") ins) at_inputs at_locals (after-rule seed draw small one) (on-mark (codes "#outputs") ins refl two) declares_inputs)
      (on-mark (codes "#locals") locs refl three) declares_locals

  opening-leads : (setup : Setup) → setup.locals ≡ true → setup.seed < 2 ^ 64 → IsTraceable (known_scene s) → At (opening_text (plan_of (known_scene s) setup)) (at_step [])
  unfolding opening_text
  opening-leads setup with_locals small can =
      let d = declared-same s.outputs in
      let f = declared-same s.inputs in
      let g = declared-same s.locals in
      let same : header_text setup.seed setup.draw outs ins (Some locs) ≡ header_text setup.seed setup.draw (map declared_as (map known_variable s.outputs)) (map declared_as (map known_variable s.inputs)) (where_written setup.locals (map declared_as (map known_variable s.locals))) =
      ap (λ (t : List DeclaredVariable). header_text setup.seed setup.draw t ins (Some locs)) (sym d)
      ∙ ap (λ (t : List DeclaredVariable). header_text setup.seed setup.draw (map declared_as (map known_variable s.outputs)) t (Some locs)) (sym f)
      ∙ ap (λ (t : List DeclaredVariable). header_text setup.seed setup.draw (map declared_as (map known_variable s.outputs)) (map declared_as (map known_variable s.inputs)) (Some t)) (sym g)
      ∙ ap (λ (b : Bool). header_text setup.seed setup.draw (map declared_as (map known_variable s.outputs)) (map declared_as (map known_variable s.inputs)) (where_written b (map declared_as (map known_variable s.locals)))) (sym with_locals) in
      subst (λ (t : List ℕ). At t (at_step [])) same
      (after-header setup.seed setup.draw small (subst AreOnLines d can.outputs) (subst AreOnLines f can.inputs) (subst AreOnLines g can.locals))

  -- ---- steps

  -- a scenario has no more decimals than numbers may have
  few-decimals : (n : ℕ) → n ≤ most_decimals → min n most_decimals ≡ n
  few-decimals n h = omega (arith, h)

  step-leads : ValueReadsBack → (setup : Setup) → setup.locals ≡ true → IsTraceable (known_scene s) → (steps : List Shown) (step : Shown) (text : List ℕ) → length steps < 2 ^ 64 → At text (at_step steps) → IsShown (trace_shape s) step
      → At (text ++ traced_step (plan_of (known_scene s) setup) (length steps + 1) step.outputs step.inputs step.locals) (at_step (steps ++ step ∷ []))
  unfolding traced_step
  step-leads back setup with_locals can steps step text small before shown =
      let number = codes "#step " ++ decimal (length steps + 1) in
      let values = shown_text (trace_shape s) step in
      let few = few-decimals s.decimals can.decimals in
      let numbered = next-line text number (at_step steps) (at_values steps) before (on-append (codes "#step ") (decimal (length steps + 1)) refl (on-decimal (length steps + 1) (omega (arith, small)))) (numbers_step steps) in
      let whole = next-line (text ++ line number) values (at_values steps) (at_step (steps ++ step ∷ [])) numbered
      (subst (λ (d : ℕ). IsOnLine (spaced (step_words d (kinds_in (trace_shape s)) step.outputs step.inputs (Some step.locals)))) (sym few)
      (on-step back s.decimals can.decimals (kinds_in (trace_shape s)) (map open_slot s.outputs) (map ranged_slot s.inputs) (map open_slot s.locals) step.outputs step.inputs step.locals shown.outputs shown.inputs shown.locals))
      (shows_step steps step shown) in
      subst (λ (t : List ℕ). At t (at_step (steps ++ step ∷ [])))
      (append_assoc text (line number) (line values)
      ∙ ap (λ (d : ℕ). text ++ step_text d (length steps + 1) (kinds_in (trace_shape s)) step.outputs step.inputs (Some step.locals)) few
      ∙ ap (λ (kinds : List Kind). text ++ step_text s.decimals (length steps + 1) kinds step.outputs step.inputs (Some step.locals)) (sym (kinds-same s))
      ∙ ap (λ (b : Bool). text ++ step_text s.decimals (length steps + 1) (all_kinds (known_scene s)) step.outputs step.inputs (where_written b step.locals)) (sym with_locals))
      whole

  steps-lead : ValueReadsBack → (setup : Setup) → setup.locals ≡ true → setup.seed < 2 ^ 64 → IsTraceable (known_scene s) → (steps : List Shown) (text : List ℕ) → length steps ≤ most_steps
      → AreWritten s (plan_of (known_scene s) setup) steps text → At text (at_step steps)
  steps-lead back setup with_locals small can steps text few header = opening-leads setup with_locals small can
  steps-lead back setup with_locals small can steps text few (one_more before step front written shown) =
      let size = length-append before (step ∷ []) in
      step-leads back setup with_locals can before step front (omega (arith, few, size))
      (steps-lead back setup with_locals small can before front (omega (arith, few, size)) written) shown

  -- ---- the end

  -- a legal run that ends as a line tells
  record Ending (steps : List Shown) (e : End) : Type 0 where
    told : End
    may : MayTell told s.exceptions (length steps)
    same : end_line told s.exceptions (length steps) ≡ end_line e s.exceptions (length steps)
    legal : IsLegalRun s (record { steps = steps; end = recorded_of told })

  ending : (steps : List Shown) (e : End) → MayEndBehind e (length steps) → IsNamed e (length s.exceptions) → IsLegalRun s (record { steps = steps; end = recorded_of e }) → Ending steps e
  ending steps end.Normal may named is = record { told = end.Normal; may = tt; same = refl; legal = is }
  ending steps end.Limit may named is = record { told = end.Limit; may = tt; same = refl; legal = is }
  ending steps end.Oracle may named is = record { told = end.Oracle; may = may; same = refl; legal = is }
  ending steps end.Deadlock may named is = record { told = end.Deadlock; may = tt; same = refl; legal = is }
  ending steps (end.Raise z) may named is =
      let first = has-first s.exceptions (length steps) z named in
      let here = is.2 in
      record {
        told = end.Raise first.first;
        may = first.may;
        same = ap (λ (name : List ℕ). line (spaced (codes "#end" ∷ (codes "raise" ∷ name ∷ decimal (length steps + 1) ∷ [])))) first.name;
        legal = (is.0, is.1, (here.0, (here.1.0, here.1.1 ∙ sym first.name, here.1.2)));
      }
  ending steps (end.Fault f) may named is = record { told = end.Fault f; may = tt; same = refl; legal = is }
  ending steps end.TooLarge may named is = record { told = end.TooLarge; may = tt; same = refl; legal = is }
  ending steps (end.Malformed w f place) may named is = record { told = end.Malformed w f place; may = tt; same = refl; legal = is }
  ending steps (end.Ended w taken) may named is = record { told = end.Ended w taken; may = tt; same = refl; legal = is }
  ending steps (end.Device w) may named is = record { told = end.Device w; may = tt; same = refl; legal = is }
  ending steps (end.Budget need) may named is = record { told = end.Budget need; may = may; same = refl; legal = is }

  text-tells : ValueReadsBack → (setup : Setup) (u : Option GivenUp) (e : End) (text : List ℕ) → IsTraceable (known_scene s) → IsTraceOf s setup u e → IsOfLegalRun s (plan_of (known_scene s) setup) e text
      → (t : Told) × IsTold (trace_shape s) text t × IsLegalRun s t
  unfolding closing_text
  text-tells back setup u e text can is of =
      let few = of.few in
      let steps = of.steps in
      let tells = ending steps e of.may is.named of.legal in
      let told : Told = record { steps = steps; end = recorded_of tells.told } in
      let words = end_word_text tells.told s.exceptions (length steps) in
      let last = next-line of.front words (at_step steps) (at_end told)
      (steps-lead back setup is.locals is.seed can steps of.front few of.written)
      (on-end tells.told s.exceptions (length steps) (omega (arith, few)) is.lined tells.may)
      (tells_end steps words (recorded_of tells.told) (tells.told, tells.may, sym (end-line-is tells.told s.exceptions (length steps)), refl)) in
      let whole : of.front ++ line words ≡ text = ap (λ (t : List ℕ). of.front ++ t) (sym (end-line-is tells.told s.exceptions (length steps)) ∙ tells.same) ∙ sym of.whole in
      (told, subst (λ (t : List ℕ). IsTold (trace_shape s) t told) whole last, tells.legal)

pub traces-tell-legal-runs : RunsAreLegal → ScenariosAreTraceable → ValueReadsBack → TracesTellLegalRuns
traces-tell-legal-runs law can back decimals node text s budget setup u c o e run is stops =
    text-tells s back setup u e (trace_text (scenario_play s budget setup u c o).pieces) (can decimals node text s run.scenario) is (law decimals node text s budget setup u c o e run is.need stops)

-- ---- the verdict

take-front : (k : ℕ) (steps : List Shown) (step : Shown) → k ≤ length steps → take k (steps ++ step ∷ []) ≡ take k steps
take-front zero steps step h = refl
take-front (suc k) [] step h = absurd (omega (arith, h))
take-front (suc k) (x ∷ steps) step h = ap (λ (t : List Shown). x ∷ t) (take-front k steps step (omega (arith, h)))

take-all : (k : ℕ) (steps : List Shown) → length steps ≤ k → take k steps ≡ steps
take-all zero [] h = refl
take-all zero (x ∷ steps) h = absurd (omega (arith, h))
take-all (suc k) [] h = refl
take-all (suc k) (x ∷ steps) h = ap (λ (t : List Shown). x ∷ t) (take-all k steps (omega (arith, h)))

-- what reaches somewhere does so at each of its fronts
fronts-reach : (s : Scene) (steps : List Shown) (c : Configuration) → Reached s steps c → (k : ℕ) → (g : Configuration) × Reached s (take k steps) g
fronts-reach s steps c start k = (c, subst (λ (t : List Shown). Reached s t c) (sym (take-all k [] (omega arith))) start)
fronts-reach s steps c (further before step d g reached follows) k = by_order (fronts-reach s before d reached k) (cases_lt (length before) k)
  where
    by_order : (x : Configuration) × Reached s (take k before) x → (length before < k) ⊎ (k ≤ length before) → (x : Configuration) × Reached s (take k (before ++ step ∷ [])) x
    by_order front (inl over) =
        let size = length-append before (step ∷ []) in
        (g, subst (λ (t : List Shown). Reached s t g) (sym (take-all k (before ++ step ∷ []) (omega (arith, size, over)))) (further before step d g reached follows))
    by_order front (inr within) = (front.0, subst (λ (t : List Shown). Reached s t front.0) (sym (take-front k before step within)) front.1)

verdict-is : (s : Scene) (allowed : ℕ) (t : Told) → IsLegalRun s t → ReachFew s t → IsWithin s allowed t → (v : Verdict) → IsVerdict s allowed t v → v ≡ Legal
verdict-is s allowed t is few within v (legal some also) = refl
verdict-is s allowed t is few within v (no_step k inside some none) = let front = fronts-reach s t.steps is.0 is.1 (k + 1) in absurd (none front.0 front.1)
verdict-is s allowed t is few within v (no_end some not_legal) = absurd (not_legal is)
verdict-is s allowed t is few within v (many k inside some reach) = absurd (few (k + 1) reach)
verdict-is s allowed t is few within v (given_up k need inside some needs) = absurd (within k need needs)

pub traces-are-legal : TracesTellLegalRuns → TextsHaveOneReading → TracesAreLegal
traces-are-legal tell one decimals node text s budget setup u c o e run is stops t told allowed few within v verdict =
    let made = tell decimals node text s budget setup u c o e run is stops in
    let same : Ok made.0 ≡ Ok t = (one (trace_shape s) (trace_text (scenario_play s budget setup u c o).pieces) (omega arith)).1 (Ok made.0) (Ok t) made.1 told in
    let here : made.0 ≡ t = cc in
    verdict-is s allowed t (subst (λ (x : Told). IsLegalRun s x) here made.2) few within v verdict
