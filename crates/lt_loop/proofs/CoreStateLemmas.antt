-- What cores put out.
use Rattle.std.proofs.Common.{◌≡◌, Bool, ◌+◌, ◌-◌, ◌<◌, ◌≤◌, ◌==◌, ℕ, suc, true, false, List, [], ◌∷◌, ◌++◌, None, Some, Option, ap, ◌∙◌, sym, subst, refl, arith}
use Rattle.std.proofs.lemmas.Bool.{eq-eqb, eqb-true}
use Rattle.lt_num.specs.declared.value.Value.{Value}
use Rattle.lt_rif.specs.Reply.{Stream, reply_of}
use Rattle.lt_rif.specs.Reading.{Reading, answer, between}
use Rattle.lt_rif.specs.Trace.{end_number}
use Rattle.lt_rif.specs.declared.end.End.{End}
use Rattle.lt_rif.specs.declared.end.End.TheVariants as end
use Rattle.lt_rif.specs.declared.slot.Slot.{Slot}
use Rattle.lt_loop.specs.CoreView.{stream_of}
use Rattle.lt_loop.specs.Machine.{GivenUp, Instant, values, over, Rules, MayStep, StepTells, end_of, giving_up, instant_giving_up, most_steps}
use Rattle.lt_loop.specs.Plan.{Plan, outputs_line, step_line, traced_step, closing_text, opening_text, reply_slots}
use Rattle.lt_loop.specs.Play.{piece_then, ended, play_of, instant_made, play_from}
use Rattle.lt_loop.specs.Scene.{first_inputs, verdict_slots}
use Rattle.lt_loop.specs.Stands.{Stands}
use Rattle.lt_loop.specs.Side.{SideState, Rest, coming, side_answer, side_stream, unless_closed, IsBetween}
use Rattle.lt_loop.specs.CoreState.{CoreState, core_giving_up, given_up, play_once_answered, play_once_made, from_here, play_once_judged, resume, resume_in, IsAheadIn, IsBehind, PutsOut}
use Rattle.lt_loop.specs.declared.event.PieceKind.TheVariants as piece_kind
use Rattle.lt_loop.specs.declared.machine.Outcome.TheVariants as outcome
use Rattle.lt_loop.specs.declared.machine.ScenarioEnd.{ScenarioEnd}
use Rattle.lt_loop.specs.declared.machine.ScenarioEnd.TheVariants as scenario_end
use Rattle.lt_loop.specs.Event.{goes_on as is_going}
use Rattle.lt_loop.specs.declared.phase.Phase.{Phase}
use Rattle.lt_loop.specs.declared.phase.Phase.TheVariants as phase
use Rattle.lt_loop.specs.declared.setup.Talk.TheVariants as talk

-- between two replies, the reply at hand is the next one of the stream
next_reply : (decimals : ℕ) (slots : List Slot) (s : Stream) → answer (between decimals slots s.place) s.bytes s.is_closed ≡ reply_of decimals slots s
unfolding answer
next_reply decimals [] s = refl
next_reply decimals (slot ∷ slots) s = refl

-- so a side finds it
asked_reply : (s : SideState) (rest : Rest) (decimals : ℕ) (slots : List Slot) → IsBetween s → s.reading.begun.decimals ≡ decimals → s.reading.slots ≡ slots
    → side_answer s rest ≡ reply_of decimals slots (side_stream s rest)
asked_reply s rest decimals slots is d sl =
    ap (λ (r : Reading). answer r (coming s rest).bytes (coming s rest).is_closed) is
    ∙ next_reply s.reading.begun.decimals s.reading.slots (side_stream s rest)
    ∙ (λ i. reply_of (d i) (sl i) (side_stream s rest))

-- a side of which nothing was taken has the whole stream to come
new_stream : (s : SideState) (rest : Rest) → s.reading.begun.place ≡ 0 → s.kept ≡ [] → s.is_closed ≡ false → side_stream s rest ≡ stream_of rest
new_stream s rest place kept open_now = λ i. record { place = place i; bytes = kept i ++ (unless_closed (open_now i) rest).bytes; is_closed = (unless_closed (open_now i) rest).is_closed }

-- a machine may make another instant
pub may_step : (made : Option ℕ) (k left : ℕ) → made ≡ Some k → k + left ≤ most_steps → 0 < left → MayStep made
may_step made k left is few some = rw is (omega (arith, few, some))

-- one more step was put out, and one fewer may begin
pub stands_on : (k left : ℕ) (c o : Reading) → 0 < left → Stands phase.Ready k left c o → Stands phase.Ready (k + 1) (left - 1) c o
stands_on k left c o some s = (s.0, ((omega (arith, s.1.0.0), omega (arith, s.1.0.1)), omega (arith, some, s.1.1)))

-- ---- what is ahead

-- an instant behind others that were made is none of them
not_behind : (n behind : ℕ) → n + 1 ≤ behind → (n == behind) ≡ false
not_behind n behind later = by_test (n == behind) refl
  where
    by_test : (b : Bool) → (n == behind) ≡ b → b ≡ false
    by_test true e = absurd (let same = eqb-true n behind e in omega (arith, same, later))
    by_test false e = refl

-- where nothing is given up
none_ahead : (p : Phase) (k : ℕ) → is_going p ≡ true → IsAheadIn p k None
none_ahead phase.Fresh k on = tt
none_ahead phase.Ready k on = tt
none_ahead phase.Made k on = tt
none_ahead phase.Controller k on = tt
none_ahead phase.Answered k on = tt
none_ahead phase.Oracle k on = tt
none_ahead (phase.Over e) k on = absurd (cc on)

-- what is told by an end is behind the steps that were put out
told_behind : (e : End) (k : ℕ) → IsBehind k (given_up e k)
told_behind end.Normal k = tt
told_behind end.Limit k = tt
told_behind end.Oracle k = tt
told_behind end.Deadlock k = tt
told_behind (end.Raise z) k = tt
told_behind (end.Fault f) k = tt
told_behind end.TooLarge k = tt
told_behind (end.Malformed w f place) k = tt
told_behind (end.Ended w n) k = tt
told_behind (end.Device w) k = tt
told_behind (end.Budget need) k = omega arith

-- in another phase that is the same, and with as many steps
pub same_ahead : (p q : Phase) (k n : ℕ) (u : Option GivenUp) → p ≡ q → k ≡ n → IsAheadIn p k u → IsAheadIn q n u
same_ahead p q k n u a b h = subst (λ (x : Phase). IsAheadIn x n u) a (subst (λ (j : ℕ). IsAheadIn p j u) b h)

-- where the run ended otherwise than by an instant that is given up
pub ended_ahead : (p q : Phase) (k n : ℕ) (e : End) (u : Option GivenUp) → is_going p ≡ true → q ≡ phase.Over e → given_up e n ≡ None → IsAheadIn q n u → IsAheadIn p k u
ended_ahead p q k n e u on is none h =
    let told : u ≡ given_up e n = subst (λ (x : Phase). IsAheadIn x n u) is h in
    subst (λ (v : Option GivenUp). IsAheadIn p k v) (sym (told ∙ none)) (none_ahead p k on)

-- where the next instant ended it
pub ended_next : (q : Phase) (k n : ℕ) (e : End) (u : Option GivenUp) → q ≡ phase.Over e → n ≡ k → IsAheadIn q n u → u ≡ given_up e k
ended_next q k n e u is same h = same_ahead q (phase.Over e) n k u is same h

pub told_ahead : (k : ℕ) (e : End) (u : Option GivenUp) → u ≡ given_up e k → IsBehind k u
told_ahead k e u is = subst (λ (v : Option GivenUp). IsBehind k v) (sym is) (told_behind e k)

module _ {State : Type 0} where
  -- the oracle is told a step
  pub asks_oracle : (s : CoreState State) (text : List ℕ) → s.plan.has_oracle ≡ true → IsBetween s.oracle → s.oracle.reading.begun.decimals ≡ s.plan.scene.decimals → s.oracle.reading.slots ≡ verdict_slots
      → text ≡ step_line s.plan (s.rules.outputs s.machine) s.inputs
      → PutsOut (play_once_answered s s.inputs) (Some piece_kind.Question) text (record s { phase = phase.Oracle })
  asks_oracle s text has at decimals slots written = λ c o. rw (written, has, asked_reply s.oracle o s.plan.scene.decimals verdict_slots at decimals slots) refl

  -- nobody is asked about an instant: its step is put out
  pub nobody_asked : (s : CoreState State) (c o : Rest) → s.plan.controller ≡ talk.Nobody → s.plan.has_oracle ≡ false
      → play_once_made s c o ≡ play_once_judged (record s { written = s.written + 1; inputs = [] }) true c o
  nobody_asked s c o nobody none = rw (nobody, none) refl

  -- the controller is told the outputs
  pub asks_controller : (s : CoreState State) (text : List ℕ) → s.plan.controller ≡ talk.Live → IsBetween s.controller → s.controller.reading.begun.decimals ≡ s.plan.scene.decimals → s.controller.reading.slots ≡ reply_slots s.plan.controller s.plan.scene
      → text ≡ outputs_line s.plan (s.rules.outputs s.machine)
      → PutsOut (play_once_made s) (Some piece_kind.Outputs) text (record s { phase = phase.Controller })
  asks_controller s text live at decimals slots written =
      λ c o. rw (written, asked_reply s.controller c s.plan.scene.decimals (reply_slots s.plan.controller s.plan.scene) at decimals slots, live) refl

  -- the controller's replies are those of an earlier run
  pub replays : (s : CoreState State) (c o : Rest) → s.plan.controller ≡ talk.Replay → IsBetween s.controller → s.controller.reading.begun.decimals ≡ s.plan.scene.decimals → s.controller.reading.slots ≡ reply_slots s.plan.controller s.plan.scene
      → play_once_made s c o ≡ resume_in phase.Controller s c o
  replays s c o replay at decimals slots = rw (asked_reply s.controller c s.plan.scene.decimals (reply_slots s.plan.controller s.plan.scene) at decimals slots, replay) refl

  -- a step may begin where some are left
  some_left : (rules : Rules State) (plan : Plan) (left before k : ℕ) (m : State) (y : List Value) (c o : Stream) → left ≡ suc before
      → play_from rules plan left k m y c o ≡ instant_made rules plan k (rules.instant m y) (play_from rules plan before (k + 1)) c o
  some_left rules plan left before k m y c o e = rw e refl

  -- ---- an instant that is given up

  -- the next instant is the one of the rules, where what is given up is behind it
  instant_stays : (rules : Rules State) (u : Option GivenUp) (m : State) (y : List Value) (n : ℕ) → rules.made m ≡ Some n → IsBehind (n + 1) u → instant_giving_up rules u m y ≡ rules.instant m y
  instant_stays rules None m y n made later = refl
  instant_stays rules (Some u) m y n made later = rw (made, not_behind n u.behind later) refl

  -- the end that an instant has, where the run has given up what it tells
  ended_so : (rules : Rules State) (m next : State) (y : List Value) (n : ℕ) (u : Option GivenUp) (e : ScenarioEnd) → rules.made m ≡ Some n → StepTells rules m y (outcome.Over e) next
      → u ≡ given_up (end_of e) n → instant_giving_up rules u m y ≡ over e
  ended_so rules m next y n u scenario_end.Normal made tells is = rw is tells
  ended_so rules m next y n u scenario_end.Deadlock made tells is = rw is tells
  ended_so rules m next y n u (scenario_end.Raise z) made tells is = rw is tells
  ended_so rules m next y n u (scenario_end.Fault f) made tells is = rw is tells
  ended_so rules m next y n u scenario_end.TooLarge made tells is = rw is tells
  ended_so rules m next y n u (scenario_end.Budget need) made tells is = rw (is, made, eq-eqb n n refl, tells) refl

  -- the next instant has outputs
  pub goes_on : (s : CoreState State) (m : State) (before : ℕ) (u : Option GivenUp) (c o : Rest) → s.left ≡ suc before → s.rules.made s.machine ≡ Some s.written
      → StepTells s.rules s.machine s.inputs outcome.Values m → IsBehind (s.written + 1) u
      → from_here (core_giving_up u s) c o ≡ play_once_made (core_giving_up u (record s { left = before; machine = m; phase = phase.Made })) c o
  goes_on s m before u c o some made tells later =
      let is : instant_giving_up s.rules u s.machine s.inputs ≡ values m = instant_stays s.rules u s.machine s.inputs s.written made later ∙ tells in
      some_left (giving_up u s.rules) s.plan s.left before (s.written + 1) s.machine s.inputs (side_stream s.controller c) (side_stream s.oracle o) some
      ∙ ap (λ (i : Instant State). instant_made (giving_up u s.rules) s.plan (s.written + 1) i (play_from (giving_up u s.rules) s.plan before (s.written + 1 + 1)) (side_stream s.controller c) (side_stream s.oracle o)) is

  -- the scenario is over at the next instant, or that is given up
  pub goes_over : (s : CoreState State) (m : State) (before : ℕ) (u : Option GivenUp) (c o : Rest) (e : ScenarioEnd) → s.left ≡ suc before → s.rules.made s.machine ≡ Some s.written
      → StepTells s.rules s.machine s.inputs (outcome.Over e) m → u ≡ given_up (end_of e) s.written
      → from_here (core_giving_up u s) c o ≡ ended s.plan (end_of e) (end_number (end_of e) s.written)
  goes_over s m before u c o f some made tells is =
      let k : s.written + 1 - 1 ≡ s.written = omega arith in
      let it : instant_giving_up s.rules u s.machine s.inputs ≡ over f = ended_so s.rules s.machine m s.inputs s.written u f made tells is in
      some_left (giving_up u s.rules) s.plan s.left before (s.written + 1) s.machine s.inputs (side_stream s.controller c) (side_stream s.oracle o) some
      ∙ ap (λ (i : Instant State). instant_made (giving_up u s.rules) s.plan (s.written + 1) i (play_from (giving_up u s.rules) s.plan before (s.written + 1 + 1)) (side_stream s.controller c) (side_stream s.oracle o)) it
      ∙ ap (λ (n : ℕ). ended s.plan (end_of f) (end_number (end_of f) n)) k

  -- no further step may begin
  pub goes_to_limit : (s : CoreState State) (c o : Rest) → s.left ≡ 0 → from_here s c o ≡ ended s.plan end.Limit s.written
  goes_to_limit s c o none =
      let k : s.written + 1 - 1 ≡ s.written = omega arith in
      rw none (ap (ended s.plan end.Limit) k)

  -- a step is put out
  pub puts_step : (s : CoreState State) (verdict : Bool) (text : List ℕ) → verdict ≡ true → s.phase ≡ phase.Ready
      → text ≡ traced_step s.plan s.written (s.rules.outputs s.machine) s.inputs (s.rules.locals s.machine)
      → PutsOut (play_once_judged s verdict) (Some piece_kind.Step) text s
  puts_step s verdict text true_now ready written = λ c o. rw (written, true_now, ready) refl

  -- and the end after it
  pub puts_last_step : (s : CoreState State) (verdict : Bool) (text : List ℕ) → verdict ≡ false
      → text ≡ traced_step s.plan s.written (s.rules.outputs s.machine) s.inputs (s.rules.locals s.machine) ++ closing_text s.plan end.Oracle s.written
      → PutsOut (play_once_judged s verdict) (Some piece_kind.Step) text (record s { phase = phase.Over end.Oracle })
  puts_last_step s verdict text false_now written = λ c o. rw (written, false_now) refl

  -- the header is put out
  pub opens : (s : CoreState State) (text : List ℕ) → s.phase ≡ phase.Fresh → text ≡ opening_text s.plan → PutsOut (resume s) (Some piece_kind.Header) text (record s { phase = phase.Ready })
  opens s text fresh written = λ c o. rw (written, fresh) refl

  -- a core of which nothing was put out
  pub makes : (s : CoreState State) → s.phase ≡ phase.Fresh → s.written ≡ 0 → s.inputs ≡ first_inputs s.plan.scene
      → s.controller.reading.begun.place ≡ 0 → s.controller.kept ≡ [] → s.controller.is_closed ≡ false
      → s.oracle.reading.begun.place ≡ 0 → s.oracle.kept ≡ [] → s.oracle.is_closed ≡ false
      → (c o : Rest) → resume s c o ≡ play_of s.rules s.plan s.left s.machine (stream_of c) (stream_of o)
  makes s fresh none inputs place kept open_now place' kept' open' c o =
      let x = new_stream s.controller c place kept open_now in
      let y = new_stream s.oracle o place' kept' open' in
      rw (fresh, none) (λ i. piece_then piece_kind.Header (opening_text s.plan) (play_from s.rules s.plan s.left 1 s.machine (inputs i) (x i) (y i)))
