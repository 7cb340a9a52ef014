-- The cores of many sessions, one after another.
use Rattle.std.proofs.Common.{◌≡◌, ℕ, ◌<◌, ◌+◌, List, [], ◌∷◌, ◌++◌, None, Some, Ok, Err, length, map, refl, ap, sym, ◌∙◌, subst, arith}
use Rattle.std.specs.Prelude.{◌^◌}
use Rattle.std.proofs.lemmas.List.{length-map, map-append}
use Rattle.std.specs.declared.option.Option.{Option}
use Rattle.lt_campaign.specs.EndView.{core_names}
use Rattle.lt_frontend.specs.Laws.{TextsHaveOneScenarioAnswer}
use Rattle.lt_frontend.specs.Prepared.{IsScenarioAnswer}
use Rattle.lt_frontend.specs.declared.refusal.Refusal.{Refusal as Reason}
use Rattle.lt_loop.specs.CoreState.{CoreState}
use Rattle.lt_loop.specs.declared.loop_core.Core.{Core}
use Rattle.lt_play.specs.declared.player.Player.{Player}
use Rattle.lt_step.specs.Machine.{State}
use Rattle.lt_term.specs.Scene.{Scene}
use Rattle.lt_args.specs.Words.{Request}
use Rattle.lt_args.specs.declared.words.Mode.{Mode}
use Rattle.lt_args.specs.declared.words.Mode.TheVariants as mode
use Rattle.lt_call.specs.Due.{plays}
use Rattle.lt_call.specs.Run.{AreFirstCores, IsFirstCore, session_request}
use Rattle.lt_call.specs.inner.CallResultView.{exceptions_of}
use Rattle.lt_call.specs.inner.Parts.{runs_by}
use Rattle.lt_call.proofs.Runs.{first_session}

-- the core of the first session is that of the run that is asked for
pub first_alone : (r : Request) (s : Scene) (at : CoreState State) → r.seed < 2 ^ 64 → IsFirstCore (session_request r 0) s at → IsFirstCore r s at
first_alone r s at small first = subst (λ (x : Request). IsFirstCore x s at) (first_session r small) first

-- one more core behind those of the sessions before it
first_more : (r : Request) (s : Scene) (n m : ℕ) (cores : List (CoreState State)) (core : CoreState State) → m ≡ n + length cores → AreFirstCores r s n cores → IsFirstCore (session_request r m) s core → AreFirstCores r s n (cores ++ core ∷ [])
first_more r s n m [] core is all one =
    let here : m ≡ n = omega arith in
    (subst (λ (x : ℕ). IsFirstCore (session_request r x) s core) here one, tt)
first_more r s n m (c ∷ cs) core is all one = (all.0, first_more r s (n + 1) m cs core (omega arith) all.1 one)

-- the core of the first session of the code
pub first_count : {A : Type 0} (items grown : List A) (core : A) → items ≡ [] → grown ≡ items ++ core ∷ [] → length grown ≡ 1
first_count items grown core none is = ap length (is ∙ ap (λ xs. xs ++ core ∷ []) none)

pub cores_first : {A : Type 0} (view : A → CoreState State) (r : Request) (s : Scene) (items grown : List A) (core : A) → items ≡ [] → grown ≡ items ++ core ∷ [] → IsFirstCore (session_request r 0) s (view core) → AreFirstCores r s 0 (map view grown)
cores_first {A} view r s items grown core none is one =
    let e : grown ≡ core ∷ [] = is ∙ ap (λ xs. xs ++ core ∷ []) none in
    subst (λ (xs : List A). AreFirstCores r s 0 (map view xs)) (sym e) (one, tt)

-- the same of cores of the code
pub cores_more : {A : Type 0} (view : A → CoreState State) (r : Request) (s : Scene) (m : ℕ) (items grown : List A) (core : A) → grown ≡ items ++ core ∷ [] → length items ≡ m → AreFirstCores r s 0 (map view items) → IsFirstCore (session_request r m) s (view core) →
    AreFirstCores r s 0 (map view grown)
cores_more {A} view r s m items grown core is count all one =
    let len : length (map view items) ≡ length items = length-map items view in
    let e : map view items ++ view core ∷ [] ≡ map view grown = sym (map-append view items (core ∷ [])) ∙ sym (ap (map view) is) in
    subst (λ (cores : List (CoreState State)). AreFirstCores r s 0 cores) e (first_more r s 0 m (map view items) (view core) (omega arith) all one)

-- the names of exceptions of a core that may be there
pub names_same : {b : _} (core : Option (Core Player b)) → exceptions_of core ≡ core_names core
names_same None = refl
names_same (Some core) = refl

-- a text that has a scenario has no other one, and isn't refused
pub one_scene : TextsHaveOneScenarioAnswer → (decimals : ℕ) (node : Option (List ℕ)) (text : List ℕ) (s other : Scene) → IsScenarioAnswer decimals node text (Ok s) → IsScenarioAnswer decimals node text (Ok other) → s ≡ other
one_scene law decimals node text s other has again = cc ((law decimals node text).1 (Ok s) (Ok other) has again)

pub never_refused : TextsHaveOneScenarioAnswer → (decimals : ℕ) (node : Option (List ℕ)) (text : List ℕ) (s : Scene) (reason : Reason) → IsScenarioAnswer decimals node text (Ok s) → IsScenarioAnswer decimals node text (Err reason) → ⊥
never_refused law decimals node text s reason has refused = cc ((law decimals node text).1 (Ok s) (Err reason) has refused)

-- a mode other than that of campaigns has one run
pub runs_once : (m : Mode) (s : Scene) → (m ≡ mode.Campaign → ⊥) → runs_by m s ≡ plays s
runs_once mode.Run s once = refl
runs_once mode.Print s once = refl
runs_once mode.Check s once = refl
runs_once (mode.Stress n) s once = refl
runs_once mode.Campaign s once = absurd (once refl)
