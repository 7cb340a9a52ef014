-- Whole runs are told by the plays on what they show.
use Rattle.std.proofs.Common.{◌≡◌, ◌+◌, ◌^◌, ◌<◌, ◌≤◌, ℕ, zero, suc, Bool, true, false, List, [], ◌++◌, refl, ap, sym, subst, ◌∙◌, arith, append_assoc}
use Rattle.lt_num.specs.declared.value.Value.{Value}
use Rattle.lt_rif.specs.Enough.{RoomIsEnough}
use Rattle.lt_rif.specs.ReadBack.{StepReadsBack}
use Rattle.lt_rif.specs.Reply.{Reply, Stream, whole, needs, short, malformed, reply_of}
use Rattle.lt_rif.specs.Spelling.{SpellingIsRead}
use Rattle.lt_rif.specs.Trace.{line_text}
use Rattle.lt_rif.specs.declared.end.End.{End}
use Rattle.lt_rif.specs.declared.end.End.TheVariants as end
use Rattle.lt_rif.specs.declared.end.Who.TheVariants as who
use Rattle.lt_rif.specs.declared.slot.Slot.{Slot}
use Rattle.lt_loop.specs.Fits.{RepliesFit}
use Rattle.lt_loop.specs.Machine.{Instant, Rules, values, over, end_of}
use Rattle.lt_loop.specs.declared.machine.ScenarioEnd.{ScenarioEnd}
use Rattle.lt_loop.specs.declared.machine.ScenarioEnd.TheVariants as scenario_end
use Rattle.lt_loop.specs.Plan.{Plan, closing_text, opening_text, reply_slots, traced_step}
use Rattle.lt_loop.specs.Play.{Made, Play, controller_asked, controller_read, controller_reply, ended, ends, instant_made, made_by, oracle_asked, piece_then, play_from, step_count}
use Rattle.lt_loop.specs.Scene.{first_inputs, fit, input_slots}
use Rattle.lt_loop.specs.Stands.{is_served}
use Rattle.lt_loop.specs.declared.event.PieceKind.TheVariants as piece_kind
use Rattle.lt_loop.specs.declared.setup.Talk.{Talk}
use Rattle.lt_loop.specs.declared.setup.Talk.TheVariants as talk
use Rattle.lt_trace_laws.specs.Replay.{IsTraceable, Shows, ShowsFor, is_replayable, trace_text}
use Rattle.lt_trace_laws.specs.Shown.{TracesShowTheirRun, open_text, reply_kinds, shown_replies, shown_reply, shown_values, shown_verdicts, verdict_before}
use Rattle.lt_trace_laws.proofs.Lines.{IsAt, reply_read, reply_values, step_shows}
use Rattle.lt_trace_laws.proofs.Replaying.{given_fit, none_fit}
use Rattle.lt_trace_laws.proofs.Shown.{inputs_held}
use Rattle.lt_trace_laws.proofs.Telling.{Asked, written, missed, Follows, IsFed, IsToldFrom, after_outputs, end_text_is, fails_so, idle_reply, oracle_idle, oracle_is_asked, told_missed, told_same}

-- ---- a step that isn't the last piece of a run that the oracle ended

asked_firm : (plan : Plan) (made : Made) (y : List Value) (go : Stream → Play) (has : Bool) (o : Stream)
    → (let p = oracle_asked (record plan { has_oracle = has }) made y go o in verdict_before p.pieces p.stop ≡ true)
asked_firm plan made y go true o = refl
asked_firm plan made y go false o = refl

read_firm : (plan : Plan) (made : Made) (go : List Value → Stream → Stream → Play) (r : Reply) (o : Stream) → (let p = controller_read plan made go r o in verdict_before p.pieces p.stop ≡ true)
read_firm plan made go (whole y c) o = asked_firm plan made y (go y c) plan.has_oracle o
read_firm plan made go needs o = refl
read_firm plan made go (short n) o = refl
read_firm plan made go (malformed f place) o = refl

talk_firm : (t : Talk) (plan : Plan) (made : Made) (go : List Value → Stream → Stream → Play) (c o : Stream) → (let p = controller_asked t plan made go c o in verdict_before p.pieces p.stop ≡ true)
talk_firm talk.Nobody plan made go c o = asked_firm plan made [] (go [] c) plan.has_oracle o
talk_firm talk.Live plan made go c o = refl
talk_firm talk.Replay plan made go c o = read_firm plan made go (controller_reply plan c) o

instant_firm : {State : Type 0} (rules : Rules State) (plan : Plan) (k : ℕ) (i : Instant State) (go : State → List Value → Stream → Stream → Play) (c o : Stream)
    → (let p = instant_made rules plan k i go c o in verdict_before p.pieces p.stop ≡ true)
instant_firm rules plan k (values m) go c o = talk_firm plan.controller plan (made_by rules k m) (go m) c o
instant_firm rules plan k (over e) go c o = refl

play_firm : {State : Type 0} (rules : Rules State) (plan : Plan) (left k : ℕ) (m : State) (y : List Value) (c o : Stream) → (let p = play_from rules plan left k m y c o in verdict_before p.pieces p.stop ≡ true)
play_firm rules plan zero k m y c o = refl
play_firm rules plan (suc left) k m y c o = instant_firm rules plan k (rules.instant m y) (play_from rules plan left (k + 1)) c o

-- ---- from an instant on

well_over : (e : ScenarioEnd) → is_replayable (end_of e) ≡ true
well_over scenario_end.Normal = refl
well_over scenario_end.Deadlock = refl
well_over (scenario_end.Raise exception) = refl
well_over (scenario_end.Fault fault) = refl
well_over scenario_end.TooLarge = refl
well_over (scenario_end.Budget need) = refl

-- what may follow an instant
abbrev FollowsAll : Plan → ℕ → End → (List Value → Stream → Stream → Play) → (List Value → Stream → Stream → Play) → Type 0
FollowsAll plan k e go go' = (y : List Value) (c : Stream) → fit (input_slots plan.scene) y ≡ true → ((o : Stream) → verdict_before (go y c o).pieces (go y c o).stop ≡ true) × Follows plan k e (go y c) (go' y)

-- what is known of an instant
pub record IsInstant (plan : Plan) (made : Made) : Type 0 where
  pub can : IsTraceable plan.scene
  pub small : made.number < 2 ^ 64
  pub shows : Shows plan.scene made.outputs made.locals

module _ (reads : StepReadsBack) (spelling : SpellingIsRead) (rooms : RoomIsEnough) (fits : RepliesFit) where
  -- the reply that a step shows is read
  part_told : (plan : Plan) (made : Made) (y : List Value) (e : End) (go : Stream → Play) (go' : List Value → Stream → Stream → Play) (s t : Stream) (first : Play) → IsInstant plan made → fit (input_slots plan.scene) y ≡ true
      → ((text : List ℕ) → shown_reply plan.controller plan text ≡ line_text plan.scene.decimals (reply_kinds plan.controller plan.scene) (shown_values plan.controller plan text))
      → Asked plan made y go e first → Follows plan made.number e go (go' y) → IsFed plan (shown_replies plan first.pieces) (shown_verdicts first.pieces first.stop) s t
      → IsToldFrom plan made.number e (controller_read plan made go' (controller_reply plan s) t) first
  part_told plan made y e go go' s t first known fitting is_line (written w) follows fed =
      let can = known.can in
      let held = inputs_held plan.scene.inputs y fitting in
      let shows = known.shows in
      let text = traced_step plan made.number made.outputs y made.locals ++ w.after in
      let kinds = reply_kinds plan.controller plan.scene in
      let line_is : shown_reply plan.controller plan text ≡ line_text plan.scene.decimals kinds (reply_values plan.controller made.outputs y) =
      is_line text
      ∙ ap (λ (vs : List Value). line_text plan.scene.decimals kinds vs) (step_shows reads rooms plan made.number made.outputs y made.locals w.after can known.small shows held plan.controller) in
      let at : IsAt (reply_slots plan.controller plan.scene) (line_text plan.scene.decimals kinds (reply_values plan.controller made.outputs y) ++ w.rest) s =
      ((λ some. fed.0.0 some ∙ w.replies ∙ ap (λ (l : List ℕ). l ++ w.rest) line_is), fed.0.1) in
      let read = reply_read reads spelling rooms plan.controller plan.scene made.outputs y w.rest s can shows.holds held at in
      subst (λ (r : Reply). IsToldFrom plan made.number e (controller_read plan made go' r t) first) (sym read.is) (w.goes (go' y) read.left t follows (read.next, fed.1, fed.2))
  part_told plan made y e go go' s t first known fitting is_line (missed n) follows fed =
      let idle = oracle_idle plan made [] (go' [] s) t n.has (fed.1 n.has ∙ n.verdicts) fed.2 in
      idle_reply plan.scene.decimals (reply_slots plan.controller plan.scene) s ((λ some. fed.0.0 some ∙ n.replies), fed.0.1)
      (λ (r : Reply). IsToldFrom plan made.number e (controller_read plan made go' r t) first)
      (told_missed plan made.number e _ first n.fails n.text (sym n.none))
      (λ none. subst (λ (p : Play). IsToldFrom plan made.number e p first) (sym idle) (told_missed plan made.number e _ first n.fails n.text (sym n.none)))

  -- nobody's reply is read
  unread_told : (plan : Plan) (made : Made) (e : End) (go : Stream → Play) (go' : List Value → Stream → Stream → Play) (s t : Stream) (first : Play) → ((text : List ℕ) → shown_reply plan.controller plan text ≡ [])
      → Asked plan made [] go e first → Follows plan made.number e go (go' []) → IsFed plan (shown_replies plan first.pieces) (shown_verdicts first.pieces first.stop) s t
      → IsToldFrom plan made.number e (oracle_asked plan made [] (go' [] s) t) first
  unread_told plan made e go go' s t first no_line (written w) follows fed =
      w.goes (go' []) s t follows (((λ some. fed.0.0 some ∙ w.replies ∙ ap (λ (l : List ℕ). l ++ w.rest) (no_line (traced_step plan made.number made.outputs [] made.locals ++ w.after))), fed.0.1), fed.1, fed.2)
  unread_told plan made e go go' s t first no_line (missed n) follows fed =
      let idle = oracle_idle plan made [] (go' [] s) t n.has (fed.1 n.has ∙ n.verdicts) fed.2 in
      subst (λ (p : Play). IsToldFrom plan made.number e p first) (sym idle) (told_missed plan made.number e _ first n.fails n.text (sym n.none))

  -- a controller whose reply was missed or refused: there is a reply to read
  failure_told : (plan : Plan) (made : Made) (f e : End) (go' : List Value → Stream → Stream → Play) (s t : Stream) → ends f ≡ ends e → is_replayable f ≡ false
      → (reply_slots plan.controller plan.scene ≡ [] → ⊥)
      → IsFed plan [] [] s t → IsToldFrom plan made.number e (controller_read plan made go' (controller_reply plan s) t) (ended plan f made.number)
  failure_told plan made f e go' s t is fails some fed =
      idle_reply plan.scene.decimals (reply_slots plan.controller plan.scene) s fed.0 (λ (r : Reply). IsToldFrom plan made.number e (controller_read plan made go' r t) (ended plan f made.number))
      (told_missed plan made.number e _ _ (fails_so f e is fails) (end_text_is plan f e made.number is) refl)
      (λ none. absurd (some none))

  reply_told : (plan : Plan) (made : Made) (e : End) (go go' : List Value → Stream → Stream → Play) (c s o t : Stream) (r : Reply) → controller_reply plan c ≡ r → IsInstant plan made
      → ((text : List ℕ) → shown_reply plan.controller plan text ≡ line_text plan.scene.decimals (reply_kinds plan.controller plan.scene) (shown_values plan.controller plan text))
      → FollowsAll plan made.number e go go'
      → (let first = controller_read plan made go r o in
      first.stop ≡ ends e → IsFed plan (shown_replies plan first.pieces) (shown_verdicts first.pieces first.stop) s t
      → IsToldFrom plan made.number e (controller_read plan made go' (controller_reply plan s) t) first)
  reply_told plan made e go go' c s o t (whole y left) read known is_line follows is fed =
      let fitting = given_fit fits plan.controller plan.scene y c left read in
      let follow = follows y left fitting in
      let can = known.can in
      part_told plan made y e (go y left) go' s t _ known fitting is_line (oracle_is_asked reads spelling rooms plan can.decimals made y (go y left) e follow.0 plan.has_oracle o is) follow.1 fed
  reply_told plan made e go go' c s o t needs read known is_line follows is fed = absurd (cc is)
  reply_told plan made e go go' c s o t (short n) read known is_line follows is fed =
      failure_told plan made (end.Ended who.Controller n) e go' s t is refl
      (λ none. let other : whole [] c ≡ short n = ap (λ (slots : List Slot). reply_of plan.scene.decimals slots c) (sym none) ∙ read in absurd (cc)) fed
  reply_told plan made e go go' c s o t (malformed f place) read known is_line follows is fed =
      failure_told plan made (end.Malformed who.Controller f place) e go' s t is refl
      (λ none. let other : whole [] c ≡ malformed f place = ap (λ (slots : List Slot). reply_of plan.scene.decimals slots c) (sym none) ∙ read in absurd (cc)) fed

  talk_told : (base : Plan) (t : Talk) (made : Made) (e : End)
      → (let plan : Plan = record base { controller = t } in
      (go go' : List Value → Stream → Stream → Play) (c s o u : Stream) → IsInstant plan made → is_served t plan.scene ≡ true → FollowsAll plan made.number e go go'
      → (let first = controller_asked t plan made go c o in
      first.stop ≡ ends e → IsFed plan (shown_replies plan first.pieces) (shown_verdicts first.pieces first.stop) s u → IsToldFrom plan made.number e (controller_asked t plan made go' s u) first))
  talk_told base talk.Nobody made e go go' c s o u known served follows is fed =
      let plan : Plan = record base { controller = talk.Nobody } in
      let follow = follows [] c (none_fit plan.scene.inputs served) in
      let can = known.can in
      unread_told plan made e (go [] c) go' s u _ (λ text. refl) (oracle_is_asked reads spelling rooms plan can.decimals made [] (go [] c) e follow.0 plan.has_oracle o is) follow.1 fed
  talk_told base talk.Live made e go go' c s o u known served follows is fed =
      let plan : Plan = record base { controller = talk.Live } in
      after_outputs plan made.number e _ _ _ (reply_told plan made e go go' c s o u (controller_reply plan c) refl known (λ text. refl) follows is fed)
  talk_told base talk.Replay made e go go' c s o u known served follows is fed =
      let plan : Plan = record base { controller = talk.Replay } in
      reply_told plan made e go go' c s o u (controller_reply plan c) refl known (λ text. refl) follows is fed

  module _ {State : Type 0} (rules : Rules State) (plan : Plan) (e : End) (can : IsTraceable plan.scene) (served : is_served plan.controller plan.scene ≡ true) where
    instant_told : (k : ℕ) (i : Instant State) (go go' : State → List Value → Stream → Stream → Play) (c s o t : Stream) → k < 2 ^ 64
        → ((next : State) → i ≡ values next → Shows plan.scene (rules.outputs next) (rules.locals next))
        → ((next : State) → i ≡ values next → FollowsAll plan k e (go next) (go' next))
        → (let first = instant_made rules plan k i go c o in
        first.stop ≡ ends e → IsFed plan (shown_replies plan first.pieces) (shown_verdicts first.pieces first.stop) s t → IsToldFrom plan k e (instant_made rules plan k i go' s t) first)
    instant_told k (values m) go go' c s o t small shows follows is fed =
        talk_told plan plan.controller (made_by rules k m) e (go m) (go' m) c s o t (record { can = can; small = small; shows = shows m refl }) served (follows m refl) is fed
    instant_told k (over f) go go' c s o t small shows follows is fed = told_same plan k (end_of f) e _ _ is (well_over f) refl

    play_told : (left k : ℕ) (m : State) (y : List Value) (c s o t : Stream) → k + left ≤ 1_000_001 → ShowsFor rules plan.scene left m y
        → (let first = play_from rules plan left k m y c o in
        first.stop ≡ ends e → IsFed plan (shown_replies plan first.pieces) (shown_verdicts first.pieces first.stop) s t → IsToldFrom plan k e (play_from rules plan left k m y s t) first)
    play_told zero k m y c s o t small shows is fed = told_same plan k end.Limit e _ _ is refl refl
    play_told (suc left) k m y c s o t small shows is fed =
        instant_told k (rules.instant m y) (play_from rules plan left (k + 1)) (play_from rules plan left (k + 1)) c s o t (omega (arith, small)) (λ next at. (shows next at).0)
        (λ next at z d fitting. (
          (λ p. play_firm rules plan left (k + 1) next z d p),
          (λ p q r stops fed_next. play_told left (k + 1) next z d q p r (omega (arith, small)) ((shows next at).1 z fitting) stops fed_next),
        ))
        is fed

-- ---- the law

pub traces_show_their_run : {State : Type 0} → StepReadsBack → SpellingIsRead → RoomIsEnough → RepliesFit → TracesShowTheirRun State
traces_show_their_run reads spelling rooms fits rules plan limit m c o e can few served shows is =
    let first = play_from rules plan limit 1 m (first_inputs plan.scene) c o in
    let s = open_text (shown_replies plan first.pieces) in
    let t = open_text (shown_verdicts first.pieces first.stop) in
    let again = play_from rules plan limit 1 m (first_inputs plan.scene) s t in
    let told = play_told reads spelling rooms fits rules plan e can served limit 1 m (first_inputs plan.scene) c s o t (omega (arith, few)) shows is (((λ some. refl), refl), (λ has. refl), refl) in
    record {
      same = λ well. ap (λ (p : Play). piece_then piece_kind.Header (opening_text plan) p) (told.same well);
      missed =
          λ fails.
          ap (λ (text : List ℕ). opening_text plan ++ text) (told.missed fails)
          ∙ sym (append_assoc (opening_text plan) (trace_text again.pieces) (closing_text plan e (1 + step_count first.pieces)))
          ∙ ap (λ (n : ℕ). (opening_text plan ++ trace_text again.pieces) ++ closing_text plan e n) {x = 1 + step_count first.pieces} {y = 0 + step_count first.pieces + 1} (omega arith);
      steps = λ fails. ap (λ (n : ℕ). 0 + n) (told.steps fails);
    }
