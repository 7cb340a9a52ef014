-- A run that is played again from its trace has the same trace.
use Rattle.std.proofs.Common.{◌≡◌, ◌+◌, ◌^◌, ◌<◌, ◌≤◌, ◌-◌, ℕ, zero, suc, Bool, true, false, List, [], ◌∷◌, ◌++◌, length, map, Option, unwrap_or, refl, ap, sym, subst, ◌∙◌, arith, append-nil}
use Rattle.lt_num.specs.declared.value.Value.{Value}
use Rattle.lt_rif.specs.Enough.{AreSized, RoomIsEnough}
use Rattle.lt_rif.specs.ReadBack.{AreOnLines, HoldAll, StepReadsBack, half_longest}
use Rattle.lt_rif.specs.Reply.{Reply, Stream, whole, needs, short, malformed, longest, reply_of}
use Rattle.lt_rif.specs.Spelling.{gap_text}
use Rattle.lt_rif.specs.Trace.{DeclaredVariable, end_number}
use Rattle.lt_rif.specs.declared.end.End.{End}
use Rattle.lt_rif.specs.declared.end.End.TheVariants as end
use Rattle.lt_rif.specs.declared.end.Who.TheVariants as who
use Rattle.lt_loop.specs.Fits.{RepliesFit}
use Rattle.lt_loop.specs.Machine.{Instant, Rules, values, over, end_of}
use Rattle.lt_loop.specs.Plan.{Plan, closing_text, opening_text, reply_slots, traced_step, where_written}
use Rattle.lt_loop.specs.Play.{Made, Play, controller_asked, controller_read, controller_reply, ended, ends, holds, instant_made, made_by, oracle_asked, oracle_read, play_from, step_count, stepped}
use Rattle.lt_loop.specs.Scene.{Scene, Variable, declared_as, first_inputs, fit, input_slots, passed_slot, slot_of, traced_slots, verdict_slots}
use Rattle.lt_loop.specs.Stands.{has_none, is_served}
use Rattle.lt_loop.specs.declared.setup.Talk.{Talk}
use Rattle.lt_loop.specs.declared.setup.Talk.TheVariants as talk
use Rattle.lt_trace_laws.specs.Replay.{IsTraceable, ReplaysAreTheSame, Shows, ShowsFor, answered, is_replayable, replaying, step_at_hand, step_of, trace_text, values_of, whole_text}
use Rattle.lt_trace_laws.proofs.Headers.{Parts, header_parts}
use Rattle.lt_trace_laws.proofs.Reading.{GoesOn, goes_on, step_read}
use Rattle.lt_trace_laws.proofs.Shown.{inputs_fit, inputs_held, step_short, values_sized}

-- ---- how plays end

-- a play ends in a way that can be played again
abbrev EndsWell : Play → Type 0
EndsWell p = (e : End) × (p.stop ≡ ends e) × (is_replayable e ≡ true)

-- it doesn't where a side's reply is missed or refused
missed : (f e : End) → is_replayable f ≡ false → ends f ≡ ends e → is_replayable e ≡ true → ⊥
missed f e fails is holds_of_it =
    let same : f ≡ e = cc in
    let both : is_replayable f ≡ true = subst (λ (x : End). is_replayable x ≡ true) (sym same) holds_of_it in
    absurd (cc)

none_more : (n : ℕ) → n ≡ 0 + n
none_more n = omega arith

-- a play puts the same out to the trace as another one, with as many steps, and stops in the same way
pub record Repeats (again first : Play) : Type 0 where
  pub text : trace_text again.pieces ≡ trace_text first.pieces
  pub stop : again.stop ≡ first.stop
  pub steps : step_count again.pieces ≡ step_count first.pieces

-- an end
end_repeats : (plan : Plan) (e : End) (k : ℕ) → Repeats (ended (replaying plan) e k) (ended plan e k)
unfolding closing_text
end_repeats plan e k = record { text = refl; stop = refl; steps = refl }

-- ---- from the inputs of a step on

-- the trace goes on with the step, and it is enough that what follows repeats
record Split (plan : Plan) (made : Made) (y : List Value) (go : Stream → Play) (first : Play) (again : (Stream → Play) → Play) : Type 0 where
  after : List ℕ
  is : trace_text first.pieces ≡ traced_step plan made.number made.outputs y made.locals ++ after
  goes : (go' : Stream → Play) → ((o : Stream) → EndsWell (go o) → after ≡ trace_text (go o).pieces → Repeats (go' o) (go o)) → Repeats (again go') first

module _ (plan : Plan) (made : Made) (y : List Value) (go : Stream → Play) where
  verdict_splits : (verdict : Bool) (o : Stream) → EndsWell (stepped plan made y verdict (go o)) → Split plan made y go (stepped plan made y verdict (go o)) (λ go'. stepped (replaying plan) made y verdict (go' o))
  unfolding traced_step closing_text
  verdict_splits true o well = record {
    after = trace_text (go o).pieces;
    is = refl;
    goes =
        λ go' on.
        let rest = on o well refl in
        record { text = ap (λ (t : List ℕ). traced_step plan made.number made.outputs y made.locals ++ t) rest.text; stop = rest.stop; steps = ap (λ (n : ℕ). 1 + n) rest.steps };
  }
  verdict_splits false o well = record { after = closing_text plan end.Oracle made.number; is = append-nil (traced_step plan made.number made.outputs y made.locals ++ closing_text plan end.Oracle made.number); goes = λ go' on. record { text = refl; stop = refl; steps = refl } }

  reply_splits : (r : Reply) → EndsWell (oracle_read plan made y go r) → Split plan made y go (oracle_read plan made y go r) (λ go'. oracle_read (replaying plan) made y go' r)
  reply_splits (whole vs o) well = verdict_splits (holds vs) o well
  reply_splits needs well = absurd (cc well.1)
  reply_splits (short n) well = absurd (missed (end.Ended who.Oracle n) well.0 refl well.1 well.2)
  reply_splits (malformed f place) well = absurd (missed (end.Malformed who.Oracle f place) well.0 refl well.1 well.2)

-- with an oracle or without
oracle_splits : (plan : Plan) (made : Made) (y : List Value) (go : Stream → Play) (has : Bool) (o : Stream) → EndsWell (oracle_asked (record plan { has_oracle = has }) made y go o)
    → Split (record plan { has_oracle = has }) made y go (oracle_asked (record plan { has_oracle = has }) made y go o) (λ go'. oracle_asked (replaying (record plan { has_oracle = has })) made y go' o)
oracle_splits plan made y go true o well =
    let split = reply_splits (record plan { has_oracle = true }) made y go (reply_of plan.scene.decimals verdict_slots o) well in
    record { after = split.after; is = split.is; goes = λ go' on. let rest = split.goes go' on in record { text = rest.text; stop = rest.stop; steps = ap (λ (n : ℕ). 0 + n) rest.steps } }
oracle_splits plan made y go false o well = verdict_splits (record plan { has_oracle = false }) made y go true o well

-- what may follow: the same, from streams of the controller that go on with the text of what follows
abbrev GoOn : Plan → (Stream → Play) → (Stream → Stream → Play) → Type 0
GoOn plan go go' = (left o : Stream) → EndsWell (go o) → GoesOn (traced_slots plan.scene) half_longest (trace_text (go o).pieces) left → Repeats (go' left o) (go o)

-- the step is read, and what follows repeats
inputs_repeat : StepReadsBack → (plan : Plan) (made : Made) (y : List Value) (most : ℕ) (go : Stream → Play) (go' : List Value → Stream → Stream → Play) (s o : Stream)
    → IsTraceable plan.scene → made.number < 2 ^ 64 → Shows plan.scene made.outputs made.locals → HoldAll (input_slots plan.scene) y
    → length (traced_step plan made.number made.outputs y made.locals) ≤ half_longest → most + length (traced_step plan made.number made.outputs y made.locals) ≤ longest
    → EndsWell (oracle_asked plan made y go o) → GoesOn (traced_slots plan.scene) most (trace_text (oracle_asked plan made y go o).pieces) s → GoOn plan go (go' y)
    → Repeats (controller_read (replaying plan) made go' (controller_reply (replaying plan) s) o) (oracle_asked plan made y go o)
inputs_repeat law plan made y most go go' s o can small shows held half room well ready on =
    let first = oracle_asked plan made y go o in
    let split = oracle_splits plan made y go plan.has_oracle o well in
    let at = subst (λ (t : List ℕ). GoesOn (traced_slots plan.scene) most t s) split.is ready in
    let read = step_read law plan made.number most made.outputs y made.locals split.after s can small shows held half room at in
    subst (λ (r : Reply). Repeats (controller_read (replaying plan) made go' r o) first) (sym read.is)
    (split.goes (go' y read.left) (λ t well_t is. on read.left t well_t (subst (λ (text : List ℕ). GoesOn (traced_slots plan.scene) half_longest text read.left) is read.next)))

-- ---- from an instant on

-- the inputs that a controller gives are those of a scenario
pub given_fit : RepliesFit → (who_talks : Talk) (s : Scene) (y : List Value) (c left : Stream) → reply_of s.decimals (reply_slots who_talks s) c ≡ whole y left → fit (input_slots s) y ≡ true
given_fit law talk.Nobody s y c left is = law s.decimals (input_slots s) c left y is
given_fit law talk.Live s y c left is = law s.decimals (input_slots s) c left y is
given_fit law talk.Replay s y c left is = inputs_fit s.outputs (input_slots s) y (law s.decimals (traced_slots s) c left y is)

-- and so are none, where a scenario has none
pub none_fit : (vs : List Variable) → has_none vs ≡ true → fit (map slot_of vs) [] ≡ true
unfolding fit
none_fit [] none = refl
none_fit (v ∷ vs) none = absurd (cc)

module _ (reads : StepReadsBack) (rooms : RoomIsEnough) (fits : RepliesFit) where
  -- a step is short
  step_fits : (plan : Plan) (k : ℕ) (x y : List Value) (locals : List (Option Value)) → IsTraceable plan.scene → k < 2 ^ 64 → Shows plan.scene x locals → AreSized y → length (traced_step plan k x y locals) ≤ 32_256
  step_fits plan k x y locals can small shows sized = step_short rooms plan k x y locals can small (values_sized (map passed_slot plan.scene.outputs) x shows.holds) sized shows.sized

  values_are_sized : (plan : Plan) (c : Stream) (r : Reply) → controller_reply plan c ≡ r → AreSized (values_of r)
  values_are_sized plan c (whole y left) is = values_sized (input_slots plan.scene) y (inputs_held plan.scene.inputs y (given_fit fits plan.controller plan.scene y c left is))
  values_are_sized plan c needs is = tt
  values_are_sized plan c (short n) is = tt
  values_are_sized plan c (malformed f place) is = tt

  answers_are_sized : (who_talks : Talk) (plan : Plan) (c : Stream) → AreSized (answered who_talks plan c)
  answers_are_sized talk.Nobody plan c = tt
  answers_are_sized talk.Live plan c = values_are_sized plan c (controller_reply plan c) refl
  answers_are_sized talk.Replay plan c = values_are_sized plan c (controller_reply plan c) refl

  -- with inputs that fit, the step is read
  fitting_repeat : (plan : Plan) (made : Made) (y : List Value) (most : ℕ) (go : Stream → Play) (go' : List Value → Stream → Stream → Play) (s o : Stream)
      → IsTraceable plan.scene → made.number < 2 ^ 64 → Shows plan.scene made.outputs made.locals → fit (input_slots plan.scene) y ≡ true
      → most + length (traced_step plan made.number made.outputs y made.locals) ≤ longest
      → EndsWell (oracle_asked plan made y go o) → GoesOn (traced_slots plan.scene) most (trace_text (oracle_asked plan made y go o).pieces) s → GoOn plan go (go' y)
      → Repeats (controller_read (replaying plan) made go' (controller_reply (replaying plan) s) o) (oracle_asked plan made y go o)
  fitting_repeat plan made y most go go' s o can small shows fitting room well ready on =
      let held = inputs_held plan.scene.inputs y fitting in
      let half = step_fits plan made.number made.outputs y made.locals can small shows (values_sized (input_slots plan.scene) y held) in
      inputs_repeat reads plan made y most go go' s o can small shows held (omega (arith, half)) room well ready on

  -- what may follow an instant: the same, from streams of the controller that go on with the text of what follows
  abbrev Follow : Plan → (List Value → Stream → Stream → Play) → (List Value → Stream → Stream → Play) → Type 0
  Follow plan go go' = (y : List Value) (c : Stream) → fit (input_slots plan.scene) y ≡ true → GoOn plan (go y c) (go' y)

  reply_repeats : (plan : Plan) (made : Made) (most : ℕ) (go go' : List Value → Stream → Stream → Play) (c s o : Stream) (r : Reply) → controller_reply plan c ≡ r
      → IsTraceable plan.scene → made.number < 2 ^ 64 → Shows plan.scene made.outputs made.locals
      → most + length (traced_step plan made.number made.outputs (values_of r) made.locals) ≤ longest
      → EndsWell (controller_read plan made go r o) → GoesOn (traced_slots plan.scene) most (trace_text (controller_read plan made go r o).pieces) s → Follow plan go go'
      → Repeats (controller_read (replaying plan) made go' (controller_reply (replaying plan) s) o) (controller_read plan made go r o)
  reply_repeats plan made most go go' c s o (whole y left) is can small shows room well ready on =
      let fitting = given_fit fits plan.controller plan.scene y c left is in
      fitting_repeat plan made y most (go y left) go' s o can small shows fitting room well ready (on y left fitting)
  reply_repeats plan made most go go' c s o needs is can small shows room well ready on = absurd (cc well.1)
  reply_repeats plan made most go go' c s o (short n) is can small shows room well ready on = absurd (missed (end.Ended who.Controller n) well.0 refl well.1 well.2)
  reply_repeats plan made most go go' c s o (malformed f place) is can small shows room well ready on = absurd (missed (end.Malformed who.Controller f place) well.0 refl well.1 well.2)

  talk_repeats : (who_talks : Talk) (plan : Plan) (made : Made) (most : ℕ) (go go' : List Value → Stream → Stream → Play) (c s o : Stream) → is_served who_talks plan.scene ≡ true
      → IsTraceable plan.scene → made.number < 2 ^ 64 → Shows plan.scene made.outputs made.locals
      → most + length (traced_step plan made.number made.outputs (answered who_talks plan c) made.locals) ≤ longest
      → EndsWell (controller_asked who_talks plan made go c o) → GoesOn (traced_slots plan.scene) most (trace_text (controller_asked who_talks plan made go c o).pieces) s → Follow plan go go'
      → Repeats (controller_read (replaying plan) made go' (controller_reply (replaying plan) s) o) (controller_asked who_talks plan made go c o)
  talk_repeats talk.Nobody plan made most go go' c s o served can small shows room well ready on =
      let fitting = none_fit plan.scene.inputs served in
      fitting_repeat plan made [] most (go [] c) go' s o can small shows fitting room well ready (on [] c fitting)
  talk_repeats talk.Live plan made most go go' c s o served can small shows room well ready on =
      let rest = reply_repeats plan made most go go' c s o (controller_reply plan c) refl can small shows room well ready on in
      let first = controller_read plan made go (controller_reply plan c) o in
      record { text = rest.text; stop = rest.stop; steps = rest.steps ∙ none_more (step_count first.pieces) }
  talk_repeats talk.Replay plan made most go go' c s o served can small shows room well ready on =
      reply_repeats plan made most go go' c s o (controller_reply plan c) refl can small shows room well ready on

  module _ {State : Type 0} (rules : Rules State) (plan : Plan) (can : IsTraceable plan.scene) (served : is_served plan.controller plan.scene ≡ true) where
    instant_repeats : (k most : ℕ) (i : Instant State) (go go' : State → List Value → Stream → Stream → Play) (c s o : Stream) → k < 2 ^ 64
        → ((next : State) → i ≡ values next → Shows plan.scene (rules.outputs next) (rules.locals next))
        → most + length (step_of rules plan k i (answered plan.controller plan c)) ≤ longest
        → EndsWell (instant_made rules plan k i go c o) → GoesOn (traced_slots plan.scene) most (trace_text (instant_made rules plan k i go c o).pieces) s
        → ((next : State) → i ≡ values next → Follow plan (go next) (go' next))
        → Repeats (instant_made rules (replaying plan) k i go' s o) (instant_made rules plan k i go c o)
    instant_repeats k most (values m) go go' c s o small shows room well ready on =
        talk_repeats plan.controller plan (made_by rules k m) most (go m) (go' m) c s o served can small (shows m refl) room well ready (on m refl)
    instant_repeats k most (over e) go go' c s o small shows room well ready on = end_repeats plan (end_of e) (end_number (end_of e) (k - 1))

    instant_fits : (k : ℕ) (i : Instant State) (c : Stream) → k < 2 ^ 64 → ((next : State) → i ≡ values next → Shows plan.scene (rules.outputs next) (rules.locals next))
        → length (step_of rules plan k i (answered plan.controller plan c)) ≤ 32_256
    instant_fits k (values m) c small shows = step_fits plan k (rules.outputs m) (answered plan.controller plan c) (rules.locals m) can small (shows m refl) (answers_are_sized plan.controller plan c)
    instant_fits k (over e) c small shows = omega arith

    hand_fits : (left k : ℕ) (m : State) (y : List Value) (c : Stream) → k < 2 ^ 64 → ShowsFor rules plan.scene left m y → length (step_at_hand rules plan left k m y c) ≤ 32_256
    hand_fits zero k m y c small shows = omega arith
    hand_fits (suc left) k m y c small shows = instant_fits k (rules.instant m y) c small (λ next is. (shows next is).0)

    play_repeats : (left k most : ℕ) (m : State) (y : List Value) (c s o : Stream) → k + left ≤ 1_000_001 → ShowsFor rules plan.scene left m y
        → most + length (step_at_hand rules plan left k m y c) ≤ longest
        → EndsWell (play_from rules plan left k m y c o) → GoesOn (traced_slots plan.scene) most (trace_text (play_from rules plan left k m y c o).pieces) s
        → Repeats (play_from rules (replaying plan) left k m y s o) (play_from rules plan left k m y c o)
    play_repeats zero k most m y c s o small shows room well ready = end_repeats plan end.Limit (k - 1)
    play_repeats (suc left) k most m y c s o small shows room well ready =
        instant_repeats k most (rules.instant m y) (play_from rules plan left (k + 1)) (play_from rules (replaying plan) left (k + 1)) c s o (omega (arith, small)) (λ next is. (shows next is).0) room well ready
        (λ next is z d fitting t p well_t ready_t.
        let rest = (shows next is).1 z fitting in
        let fits_next = hand_fits left (k + 1) next z d (omega (arith, small)) rest in
        play_repeats left (k + 1) half_longest next z d t p (omega (arith, small)) rest (omega (arith, fits_next)) well_t ready_t)

-- ---- the law

declared_lines : (writes_locals : Bool) (locals : List DeclaredVariable) → AreOnLines locals → AreOnLines (unwrap_or (where_written writes_locals locals) [])
declared_lines true locals are = are
declared_lines false locals are = tt

opening_parts : (plan : Plan) → IsTraceable plan.scene → plan.seed < 2 ^ 64 → Parts (opening_text plan)
unfolding opening_text
opening_parts plan can small =
    header_parts plan.seed plan.draw (map declared_as plan.scene.outputs) (map declared_as plan.scene.inputs) (where_written plan.writes_locals (map declared_as plan.scene.locals)) small can.outputs can.inputs
    (declared_lines plan.writes_locals (map declared_as plan.scene.locals) can.locals)

opening_stays : (plan : Plan) → opening_text (replaying plan) ≡ opening_text plan
unfolding opening_text
opening_stays plan = refl

pub replays_are_the_same : {State : Type 0} → StepReadsBack → RoomIsEnough → RepliesFit → ReplaysAreTheSame State
replays_are_the_same reads rooms fits rules plan limit m c o e can small few served shows ends_so well room =
    let begins = opening_parts plan can small in
    let first = play_from rules plan limit 1 m (first_inputs plan.scene) c o in
    let s = whole_text (opening_text plan ++ trace_text first.pieces) in
    let little : length (gap_text begins.gap) ≤ length (opening_text plan) = omega (arith, ap (λ (t : List ℕ). length t) begins.is) in
    let ready = goes_on (traced_slots plan.scene) (length (opening_text plan)) (trace_text first.pieces) s begins.gap begins.are little (ap (λ (t : List ℕ). t ++ trace_text first.pieces) begins.is) in
    let rest = play_repeats reads rooms fits rules plan can served limit 1 (length (opening_text plan)) m (first_inputs plan.scene) c s o (omega (arith, few)) shows room (e, ends_so, well) ready in
    let again = play_from rules (replaying plan) limit 1 m (first_inputs plan.scene) s o in
    (ap (λ (t : List ℕ). t ++ trace_text again.pieces) (opening_stays plan) ∙ ap (λ (t : List ℕ). opening_text plan ++ t) rest.text, rest.stop ∙ ends_so, ap (λ (n : ℕ). 0 + n) rest.steps)
