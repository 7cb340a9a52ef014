-- A call that plays the trace of an earlier one again.
use Rattle.std.proofs.Common.{◌≡◌, ◌^◌, ◌<◌, ◌≤◌, ℕ, true, List, ◌++◌, None, Some, Ok, refl, ap, sym, subst, ◌∙◌, arith}
use Rattle.lt_rif.specs.Trace.{end_number}
use Rattle.std.specs.Io.KnownBytes.{Appends}
use Rattle.lt_drive.specs.Interaction.{text_to}
use Rattle.lt_io.specs.Outside.{Outside, Sources}
use Rattle.lt_drive.specs.Told.{closed}
use Rattle.lt_loop.specs.CoreView.{stream_of}
use Rattle.lt_loop.specs.Play.{Play, Stop, ends, step_count}
use Rattle.lt_loop.specs.declared.event.Destination.TheVariants as destination
use Rattle.lt_frontend.specs.Laws.{TextsHaveOneScenarioAnswer}
use Rattle.lt_trace_laws.specs.Replay.{is_replayable, trace_text}
use Rattle.lt_rif.specs.declared.end.End.{End}
use Rattle.lt_rif.specs.declared.end.End.TheVariants as end
use Rattle.lt_session.specs.Told as beside
use Rattle.lt_term.specs.Scene.{Scene}
use Rattle.lt_scenario_laws.specs.Traced.{IsRunOf, ScenarioReplaysAreTheSame}
use Rattle.lt_args.specs.Settings.{most_seed}
use Rattle.lt_args.specs.Words.{Request}
use Rattle.lt_args.specs.declared.words.Mode.TheVariants as mode
use Rattle.lt_call.specs.Run.{run_of}
use Rattle.lt_call.specs.Due.{Answer, Contents, HasFewAtoms, HasScene, IsDue, IsServed, IsShort, Work, by_all, plays}
use Rattle.lt_call.specs.Due as due
use Rattle.lt_call.specs.Laws.{ContentsHaveOneDueAnswer, IsUncut, IsWhole, UncutCallsAreWhole}
use Rattle.lt_call.specs.Lines.{status_lines}
use Rattle.lt_call.specs.declared.status.Ending.{Ending}
use Rattle.lt_call.specs.declared.status.Status.{Status}
use Rattle.lt_call.specs.declared.status.Status.TheVariants as status
use Rattle.lt_call_laws.specs.Again.{ReplayedCallsAreTheSame, replaying, with_trace}
use Rattle.lt_call_laws.specs.Repeatable.{is_repeatable}
use Rattle.lt_call_laws.specs.Setup.{setup_of}
use Rattle.lt_call_laws.proofs.Traces.{grew_by, same_text, told_now}

-- ---- the first call

-- a run that is due has this scenario, whose inputs are given values
pub record Runs (request : Request) (contents : Contents) (answer : Answer) (scene : Scene) : Type 0 where
  pub run : request.mode ≡ mode.Run
  pub short : IsShort contents
  pub few : HasFewAtoms scene
  pub served : IsServed request scene
  pub work : answer.work ≡ plays scene

-- a scenario is the only one of its text
one_scene : TextsHaveOneScenarioAnswer → (request : Request) (contents : Contents) (scene other : Scene) → HasScene request contents scene → HasScene request contents other → other ≡ scene
one_scene law request contents scene other has also = let same = (law request.decimals request.node contents.scenario).1 (Ok other) (Ok scene) also has in cc same

module _ (one : TextsHaveOneScenarioAnswer) (request : Request) (contents : Contents) (scene : Scene) (has : HasScene request contents scene) (running : request.mode ≡ mode.Run) where
  -- where a call ran, a run is due
  ran_due : (c o : List ℕ) (names : List (List ℕ)) (old new : Outside Sources) (ending : Ending) (answer : Answer) → IsDue request contents answer → IsWhole request contents.replay c o answer.work names old new (status.Ran ending) → Runs request contents answer scene
  ran_due c o names old new ending _ (due.too_long file long) whole = absurd (cc whole.0)
  ran_due c o names old new ending _ (due.no_scenario reason run short why) whole = absurd (cc whole.0)
  ran_due c o names old new ending _ (due.too_many_atoms other run short also many) whole = absurd (cc whole.0)
  ran_due c o names old new ending _ (due.unserved other run short also few none) whole = absurd (cc whole.0)
  ran_due c o names old new ending _ (due.long_trace other name run short also few served by long) whole = absurd (cc whole.0)
  ran_due c o names old new ending _ (due.runs other run short also few served fits) whole =
      let same = one_scene one request contents scene other has also in
      record { run = run; short = short; few = subst HasFewAtoms same few; served = subst (IsServed request) same served; work = ap plays same }
  ran_due c o names old new ending _ (due.runs_many other way short also few served fits) whole = absurd (let modes : mode.Campaign ≡ mode.Run = sym way ∙ running in cc modes)
  ran_due c o names old new ending _ (due.long_checked other name way short also few by long) whole = absurd (cc whole.0)
  ran_due c o names old new ending _ (due.bad_trace other n way short also few fits bad) whole = absurd (cc whole.0)
  ran_due c o names old new ending _ (due.checked other told way short also few fits read) whole = absurd (cc whole.2)
  ran_due c o names old new ending _ (due.unprinted reason print short why) whole = absurd (cc whole.0)
  ran_due c o names old new ending _ (due.prints text print short why) whole = absurd (cc whole.0)
  ran_due c o names old new ending _ (due.stressed n other way is) whole = absurd (let modes : mode.Stress n ≡ mode.Run = sym way ∙ running in cc modes)

-- an end that can be played again is no fault of a side
unbroken : (e : End) (at : ℕ) → is_repeatable e ≡ true → IsUncut (status.Ran (record { end = e; at = at }))
unbroken (end.Device w) at well = absurd (cc)
unbroken end.Normal at well = tt
unbroken end.Limit at well = tt
unbroken end.Oracle at well = tt
unbroken end.Deadlock at well = tt
unbroken (end.Raise z) at well = tt
unbroken (end.Fault f) at well = tt
unbroken end.TooLarge at well = tt
unbroken (end.Malformed w f place) at well = tt
unbroken (end.Ended w n) at well = tt
unbroken (end.Budget n) at well = absurd (cc)

-- it can be played again whatever the rules are
replayable : (e : End) → is_repeatable e ≡ true → is_replayable e ≡ true
replayable (end.Device w) well = well
replayable end.Normal well = refl
replayable end.Limit well = refl
replayable end.Oracle well = refl
replayable end.Deadlock well = refl
replayable (end.Raise z) well = refl
replayable (end.Fault f) well = refl
replayable end.TooLarge well = refl
replayable (end.Malformed w f place) well = well
replayable (end.Ended w n) well = well
replayable (end.Budget n) well = refl

-- ---- both calls

-- the run on these bytes
abbrev run_on : Request → Scene → List ℕ → List ℕ → Play
run_on request scene c o = run_of request scene None (closed c) (closed o)

same_end : (s : Stop) (e f : End) → s ≡ ends e → s ≡ ends f → e ≡ f
same_end s e f h k = let both : ends e ≡ ends f = sym h ∙ k in cc

module _ (request : Request) (scene : Scene) (trace c o name bytes : List ℕ) (names names' : List (List ℕ)) (old new old' new' : Outside Sources) (ending : Ending) (s' : Status) where
  both_same : (e : End) → (let run = run_on request scene c o in let again = run_on (replaying name request) scene bytes o in
      IsWhole request trace c o (plays scene) names old new (status.Ran ending) → IsWhole (replaying name request) bytes bytes o (plays scene) names' old' new' s' →
      run.stop ≡ ends e → again.stop ≡ ends e → trace_text again.pieces ≡ bytes → step_count again.pieces ≡ step_count run.pieces → (before' : List ℕ) → old'.trace.written ≡ Some before' →
      (s' ≡ status.Ran ending) × (status_lines names' s' ≡ status_lines names (status.Ran ending)) × (new'.trace.written ≡ Some (before' ++ bytes)))
  both_same e first second stops stops_again text steps before' told =
      let run = run_on request scene c o in
      let again = run_on (replaying name request) scene bytes o in
      let f : first.0 ≡ e = same_end run.stop first.0 e first.1 stops in
      let g : second.0 ≡ e = same_end again.stop second.0 e second.1 stops_again in
      let one : status.Ran ending ≡ status.Ran (record { end = e; at = end_number e (step_count run.pieces) }) = first.2 ∙ ap (λ (x : End). status.Ran (record { end = x; at = end_number x (step_count run.pieces) })) f in
      let other : s' ≡ status.Ran (record { end = e; at = end_number e (step_count run.pieces) }) =
      second.2 ∙ ap (λ (x : End). status.Ran (record { end = x; at = end_number x (step_count again.pieces) })) g
      ∙ ap (λ (n : ℕ). status.Ran (record { end = e; at = end_number e n })) steps in
      let same : s' ≡ status.Ran ending = other ∙ sym one in
      let called : names' ≡ names = second.3 ∙ sym first.3 in
      let grown : Appends old'.trace.written new'.trace.written bytes = subst (λ (t : List ℕ). Appends old'.trace.written new'.trace.written t) (same_text again.pieces ∙ text) second.4 in
      (same, ap (λ (ns : List (List ℕ)). status_lines ns s') called ∙ ap (λ (s : Status). status_lines names s) same, told_now old'.trace.written new'.trace.written before' bytes told grown)

-- ---- the law

seed_small : (seed : ℕ) → seed ≤ most_seed → seed < 2 ^ 64
seed_small seed h = omega (arith, h)

pub replayed_calls_are_the_same : ContentsHaveOneDueAnswer → TextsHaveOneScenarioAnswer → UncutCallsAreWhole → ScenarioReplaysAreTheSame → ReplayedCallsAreTheSame
replayed_calls_are_the_same dues one wholes replays request contents scene told told' asked names asked' names' old new old' new' ending s' c o before bytes name before' first second told_before =
    let r' = replaying name request in
    let contents' = with_trace bytes contents in
    let answer = (dues request contents).0 in
    let is = (dues request contents).1 in
    let uncut = unbroken ending.end ending.at first.replayable in
    let whole = wholes request contents told names asked old new (status.Ran ending) c o answer.0 first.tell first.gives uncut first.sides answer.1 in
    let runs = ran_due one request contents scene first.has_scene first.running c o names old new ending answer.0 answer.1 whole in
    let played : IsWhole request contents.replay c o (plays scene) names old new (status.Ran ending) = subst (λ (w : Work). IsWhole request contents.replay c o w names old new (status.Ran ending)) runs.work whole in
    let again_due : IsDue r' contents' (by_all r' (plays scene)) = due.runs scene runs.run runs.short first.has_scene runs.few refl first.short in
    let again_played = wholes r' contents' told' names' asked' old' new' s' bytes o (by_all r' (plays scene)) second.tell second.gives second.uncut (refl, beside.apart tt second.oracle) again_due in
    let run = run_on request scene c o in
    let e = played.0 in
    let ended : ending.end ≡ e = let same = played.2 in cc same in
    let well : is_replayable e ≡ true = replayable e (subst (λ (x : End). is_repeatable x ≡ true) ended first.replayable) in
    let known : IsRunOf request.decimals request.node contents.scenario scene (setup_of request) = record { scenario = record { few = first.within.decimals; is = first.has_scene }; limit = first.within.limit; served = runs.served } in
    let same = replays request.decimals request.node contents.scenario scene request.budget (setup_of request) None (stream_of (closed c)) (stream_of (closed o)) e known (seed_small request.seed first.seed) played.1 well first.room in
    let written : bytes ≡ trace_text run.pieces = grew_by old.trace.written new.trace.written before (text_to destination.Trace run.pieces) bytes first.written_before first.written_after played.4 ∙ same_text run.pieces in
    let stops : (run_on r' scene bytes o).stop ≡ ends e = subst (λ (t : List ℕ). (run_on r' scene t o).stop ≡ ends e) (sym written) same.1 in
    let text : trace_text (run_on r' scene bytes o).pieces ≡ bytes = subst (λ (t : List ℕ). trace_text (run_on r' scene t o).pieces ≡ t) (sym written) same.0 in
    let steps : step_count (run_on r' scene bytes o).pieces ≡ step_count run.pieces = subst (λ (t : List ℕ). step_count (run_on r' scene t o).pieces ≡ step_count run.pieces) (sym written) same.2 in
    both_same request scene contents.replay c o name bytes names names' old new old' new' ending s' e played again_played played.1 stops text steps before' told_before
