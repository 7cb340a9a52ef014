-- The text of a number has one scenario, each instant of which has values: so the number has one run at most, which waits for
-- no more than the plant has, and ends by its limit.
use Rattle.std.proofs.Common.{◌≡◌, ℕ, ◌≤◌, ◌&&◌, if◌then◌else◌, None, Some, Bool, true, false, List, [], ◌∷◌, Ok, Err, pos, refl, ap, sym, ◌∙◌, subst, arith}
use Rattle.std.proofs.lemmas.Nat.{mod_below}
use Rattle.std.specs.declared.option.Option.{Option}
use Rattle.lt_args.specs.Settings.{default_budget}
use Rattle.lt_draw.specs.declared.directions.Draw.TheVariants.{Up}
use Rattle.lt_drive.specs.History.{so_far}
use Rattle.lt_drive.specs.Interaction.{text_to}
use Rattle.lt_drive.specs.Told.{closed}
use Rattle.lt_frontend.specs.declared.refusal.Refusal.{Refusal}
use Rattle.lt_instant.specs.Instant as i
use Rattle.lt_instant.specs.Instant.{instant_of, may_give_up}
use Rattle.lt_large.specs.Scenario.{limit_of, variables_of}
use Rattle.lt_large.specs.Scene.{body, large_scene}
use Rattle.lt_large.proofs.Instants.{large_instants_are_affordable, large_instants_have_values}
use Rattle.lt_large.proofs.Scenes.{large_texts_have_scenes}
use Rattle.lt_loop.specs.CoreView.{stream_of}
use Rattle.lt_loop.proofs.GivingUpLemmas.{giving_up_is_a_cut}
use Rattle.lt_loop.specs.GivingUp.{GivesUp, cut, unmet}
use Rattle.lt_loop.specs.Machine.{GivenUp, giving_up, has_made, is_given_up, over, values}
use Rattle.lt_loop.specs.Plan.{Plan}
use Rattle.lt_loop.specs.Play.{Piece, Play, Stop, ended, ends, play_of, step_count}
use Rattle.lt_loop.specs.Run.{pieces_then}
use Rattle.lt_loop.specs.Side.{Rest}
use Rattle.lt_loop.specs.declared.machine.ScenarioEnd.TheVariants as scenario_end
use Rattle.lt_loop.specs.declared.event.Destination.TheVariants as destination
use Rattle.lt_num.specs.declared.value.Value.{Value}
use Rattle.lt_num.specs.declared.value.Value.TheVariants as value
use Rattle.lt_play.specs.Rules.{instant_by, known_scene, scenario_rules}
use Rattle.lt_rif.specs.Reply.{Stream}
use Rattle.lt_rif.specs.Trace.{end_number}
use Rattle.lt_rif.specs.declared.end.End.{End}
use Rattle.lt_rif.specs.declared.end.End.TheVariants as end
use Rattle.lt_step.specs.Machine.{Phase, State, answered, may_give_up_next, may_give_up_in, running, started, step_in}
use Rattle.lt_term.specs.Configuration.{Configuration}
use Rattle.lt_term.specs.Scene.{Scene}
use Rattle.lt_stress.specs.Laws.{LargeRunsAreOne, LargeRunsAreTaken, LargeRunsEnd, LargeRunsNeverWait, LargeScenesHaveOneInput, NumbersHaveScenes}
use Rattle.lt_stress.specs.Plant.{is_too_much, replies_of}
use Rattle.lt_stress.specs.Run.{IsRefusedFor, IsRunOf, IsSceneOf, plan_of}
use Rattle.lt_stress.specs.inner.Made.{run_giving_up}
use Rattle.lt_stress.proofs.OneRun.{IsOne, one_run}
use Rattle.lt_stress.proofs.SmallOutputs.{runs_are_taken}

-- ---- the scenario

-- each number has from 2 to 7 outputs
some_outputs : (n : ℕ) → 2 ≤ variables_of n
some_outputs n = omega arith

few_outputs : (n : ℕ) → variables_of n ≤ 7
few_outputs n = omega (arith, mod_below n 6 (omega arith))

scene_of_number : (n : ℕ) → IsSceneOf n (large_scene (variables_of n))
scene_of_number n = (large_texts_have_scenes (variables_of n) (some_outputs n) (few_outputs n)).0

-- it has no other scenario, and no refusal
one_scene : (n : ℕ) (scene : Scene) → IsSceneOf n scene → scene ≡ large_scene (variables_of n)
one_scene n scene is = let same : Ok scene ≡ Ok (large_scene (variables_of n)) = (large_texts_have_scenes (variables_of n) (some_outputs n) (few_outputs n)).1 (Ok scene) is in cc same

no_refusal : (n : ℕ) (reason : Refusal) → IsRefusedFor n reason → ⊥
no_refusal n reason is = let same : Err reason ≡ Ok (large_scene (variables_of n)) = (large_texts_have_scenes (variables_of n) (some_outputs n) (few_outputs n)).1 (Err reason) is in cc same

pub numbers_have_scenes : NumbersHaveScenes
numbers_have_scenes n = (scene_of_number n, no_refusal n)

pub large_scenes_have_one_input : LargeScenesHaveOneInput
large_scenes_have_one_input n scene is = (_, ap (λ (s : Scene). s.inputs) (one_scene n scene is), (refl, refl))

-- ---- its instants

-- a machine of the scenario runs on, and what is to be done is what was to be done first
record IsGoing (variables : ℕ) (m : State) : Type 0 where
  scene : m.scene ≡ large_scene variables
  budget : m.budget ≡ default_budget
  here : Configuration
  locals : List (Option Value)
  runs : m.phase ≡ running here locals
  again : here.process ≡ body variables

goes_on : (n : ℕ) (m : State) (number : ℕ) → IsGoing (variables_of n) m → (next : State) × (scenario_rules.instant m (value.Num (pos number) ∷ []) ≡ values next) × IsGoing (variables_of n) next
goes_on n m number going =
    let y : List Value = value.Num (pos number) ∷ [] in
    let found =
    large_instants_have_values (variables_of n) m.seed m.draw going.here number (some_outputs n) (few_outputs n) going.again in
    let next : State = record m { phase = running found.2 found.1 } in (
      next,
      ap (λ (p : Phase). instant_by (step_in m p y)) going.runs
          ∙ (λ j. instant_by (answered m (instant_of (going.scene j) m.seed m.draw going.here y)))
          ∙ ap (λ (x : i.Instant). instant_by (answered m x)) found.3,
      record { scene = going.scene; budget = going.budget; here = found.2; locals = found.1; runs = refl; again = found.4 },
    )

-- none of them is given up
is_kept : (n : ℕ) (m : State) (number need : ℕ) → IsGoing (variables_of n) m → may_give_up_next m (value.Num (pos number) ∷ []) need ≡ false
is_kept n m number need going =
    let y : List Value = value.Num (pos number) ∷ [] in
    ap (λ (p : Phase). may_give_up_in m p y need) going.runs
    ∙ (λ j. may_give_up (going.scene j) m.seed m.draw (going.budget j) going.here y need)
    ∙ large_instants_are_affordable (variables_of n) m.seed m.draw default_budget going.here number (some_outputs n) (few_outputs n) (omega arith) going.again need

and_false : (a b : Bool) → b ≡ false → a && b ≡ false
and_false true b e = e
and_false false b e = refl

goes_on_giving_up : (n : ℕ) (u : Option GivenUp) (m : State) (number : ℕ) → IsGoing (variables_of n) m → (next : State) × ((giving_up u scenario_rules).instant m (value.Num (pos number) ∷ []) ≡ values next) × IsGoing (variables_of n) next
goes_on_giving_up n None m number going = goes_on n m number going
goes_on_giving_up n (Some g) m number going =
    let y : List Value = value.Num (pos number) ∷ [] in
    let found = goes_on n m number going in
    let kept : is_given_up scenario_rules g m y ≡ false = and_false (has_made (scenario_rules.made m) g.behind) (may_give_up_next m y g.need) (is_kept n m number g.need going) in
    (found.0, ap (λ (b : Bool). if b then over (scenario_end.Budget g.need) else scenario_rules.instant m y) kept ∙ found.1, found.2)

-- ---- its runs

module _ (n : ℕ) where
  abbrev scene : Scene
  scene = large_scene (variables_of n)

  abbrev run : Option GivenUp → Bool → Stream → List ℕ → Play
  run u is_closed o t =
      play_of (giving_up u scenario_rules) (plan_of n scene) (limit_of n) (started scene n default_budget Up) (record { place = 0; bytes = replies_of n t; is_closed = is_closed }) o

  is_one : (u : Option GivenUp) (is_closed : Bool) (o : Stream) → IsOne (run u is_closed o)
  is_one u is_closed o =
      one_run n (giving_up u scenario_rules) (known_scene scene) n Up refl (omega arith) is_closed (IsGoing (variables_of n)) (goes_on_giving_up n u) (limit_of n) (started scene n default_budget Up) o
      (record { scene = refl; budget = refl; here = _; locals = []; runs = refl; again = refl }) refl

pub large_runs_are_one : LargeRunsAreOne
large_runs_are_one n s ps qs e f is h k =
    let same = one_scene n s is in
    let one =
    is_one n None true (stream_of (closed [])) ps qs (ends e) (ends f) (subst (λ (x : Scene). IsRunOf n x ps e) same h) (subst (λ (x : Scene). IsRunOf n x qs f) same k) in
    let stops : ends e ≡ ends f = one.1 ∙ sym one.2 in
    (one.0, cc stops)

pub large_runs_end : LargeRunsEnd
large_runs_end n s ps e is h =
    let same = subst (λ (x : Scene). IsRunOf n x ps e) (one_scene n s is) h in
    let stops : ends e ≡ ends end.Limit = (is_one n None true (stream_of (closed [])) ps ps (ends e) (ends e) same same).1 in
    cc stops

-- ---- runs in which an instant would be given up

abbrev pub IsRunGivingUp : ℕ → Scene → Option GivenUp → List Piece → Stop → Type 0
IsRunGivingUp n s u ps stop = run_giving_up n s u (closed (replies_of n (text_to destination.Controller ps))) (closed []) ≡ record { pieces = ps; stop = stop }

stop_after : (qs : List Piece) (p : Play) → (pieces_then qs p).stop ≡ p.stop
stop_after [] p = refl
stop_after (q ∷ qs) p = stop_after qs p

-- one that ends by its limit is the run
kept_by : (plan : Plan) (limit : ℕ) (m : State) (c o : Stream) (g : GivenUp) (ps : List Piece) (given : Play) → GivesUp scenario_rules plan limit m c o g given → given ≡ record { pieces = ps; stop = ends end.Limit } →
    play_of scenario_rules plan limit m c o ≡ record { pieces = ps; stop = ends end.Limit }
kept_by plan limit m c o g ps given (unmet each same) e = sym same ∙ e
kept_by plan limit m c o g ps given (cut qs q comes met same) e =
    let stops : ends end.Limit ≡ ends (end.Budget g.need) =
    sym (ap (λ (p : Play). p.stop) e) ∙ ap (λ (p : Play). p.stop) same ∙ stop_after qs (ended plan (end.Budget g.need) (end_number (end.Budget g.need) (step_count qs))) in
    absurd (cc stops)

pub is_run_giving_up : (n : ℕ) (s : Scene) (u : Option GivenUp) (ps : List Piece) (e : End) → IsSceneOf n s → IsRunGivingUp n s u ps (ends e) → (e ≡ end.Limit) × IsRunOf n s ps e
is_run_giving_up n s None ps e is h = (large_runs_end n s ps e is h, h)
is_run_giving_up n s (Some g) ps e is h =
    let same = subst (λ (x : Scene). IsRunGivingUp n x (Some g) ps (ends e)) (one_scene n s is) h in
    let stops : ends e ≡ ends end.Limit = (is_one n (Some g) true (stream_of (closed [])) ps ps (ends e) (ends e) same same).1 in
    let limit : e ≡ end.Limit = cc stops in
    let c : Stream = stream_of (closed (replies_of n (text_to destination.Controller ps))) in
    let o : Stream = stream_of (closed []) in
    let m : State = started s n default_budget Up in
    let kept : IsRunOf n s ps end.Limit = kept_by (plan_of n s) (limit_of n) m c o g ps (play_of (giving_up (Some g) scenario_rules) (plan_of n s) (limit_of n) m c o)
    (giving_up_is_a_cut scenario_rules (plan_of n s) (limit_of n) m c o g) (subst (λ (x : End). IsRunGivingUp n s (Some g) ps (ends x)) limit h) in
    (limit, subst (IsRunOf n s ps) (sym limit) kept)

pub never_wait_giving_up : (n : ℕ) (s : Scene) (u : Option GivenUp) (ps : List Piece) (stop : Stop) (oracle : Rest) → IsSceneOf n s →
    run_giving_up n s u (so_far (replies_of n (text_to destination.Controller ps))) oracle ≡ record { pieces = ps; stop = stop } →
    stop ≡ ends end.Limit
never_wait_giving_up n s u ps stop oracle is h =
    let same = subst (λ (x : Scene). run_giving_up n x u (so_far (replies_of n (text_to destination.Controller ps))) oracle ≡ record { pieces = ps; stop = stop }) (one_scene n s is) h in
    (is_one n u false (stream_of oracle) ps ps stop stop same same).1

pub large_runs_never_wait : LargeRunsNeverWait
large_runs_never_wait n s ps stop oracle is h = never_wait_giving_up n s None ps stop oracle is h

pub are_taken_giving_up : (n : ℕ) (s : Scene) (u : Option GivenUp) (controller oracle : Rest) → IsSceneOf n s → is_too_much n (text_to destination.Controller (run_giving_up n s u controller oracle).pieces) ≡ false
are_taken_giving_up n s u controller oracle is =
    subst (λ (x : Scene). is_too_much n (text_to destination.Controller (run_giving_up n x u controller oracle).pieces) ≡ false) (sym (one_scene n s is)) (runs_are_taken n u controller oracle)

pub large_runs_are_taken : LargeRunsAreTaken
large_runs_are_taken n s controller oracle is = are_taken_giving_up n s None controller oracle is
