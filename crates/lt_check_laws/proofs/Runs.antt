-- What a run writes is a legal run.
use Rattle.std.proofs.Common.{◌≡◌, ◌≤◌, ◌+◌, ◌-◌, ℕ, zero, suc, Bool, true, false, List, [], ◌∷◌, ◌++◌, length, map, None, Some, Option, refl, ap, subst, sym, ◌∙◌, arith, append_assoc, append-nil, length-append, if◌then◌else◌, ℤ, ◌≤ℤ◌}
use Rattle.std.specs.Prelude.{unsigned_abs}
use Rattle.std.proofs.lemmas.Int.{ints}
use Rattle.lt_num.specs.Bounds.{most_raw}
use Rattle.lt_num.specs.Value.{raw_of}
use Rattle.lt_num.specs.declared.kind.Kind.{Kind}
use Rattle.lt_num.specs.declared.range.Range.{Range}
use Rattle.lt_term.specs.Fitting.{IsValueOf}
use Rattle.lt_num.specs.declared.value.Value.{Value}
use Rattle.lt_rif.specs.ReadBack.{HoldAll}
use Rattle.lt_rif.specs.Reply.{Reply, Stream, whole, needs, short, malformed, reply_of}
use Rattle.lt_rif.specs.Trace.{end_number}
use Rattle.lt_rif.specs.declared.end.End.{End}
use Rattle.lt_rif.specs.declared.end.End.TheVariants as end
use Rattle.lt_rif.specs.declared.end.Who.TheVariants as who
use Rattle.lt_loop.specs.CoreView.{plan_of}
use Rattle.lt_loop.specs.Fits.{RepliesFit}
use Rattle.lt_loop.specs.Machine.{GivenUp, end_of, giving_up, is_given_up, most_steps, over}
use Rattle.lt_loop.specs.declared.machine.ScenarioEnd.{ScenarioEnd}
use Rattle.lt_loop.specs.declared.machine.ScenarioEnd.TheVariants as scenario_end
use Rattle.lt_loop.specs.Plan.{Plan, closing_text, opening_text, traced_step}
use Rattle.lt_loop.specs.Play.{Made, Play, controller_asked, controller_read, controller_reply, ended, ends, holds, instant_made, oracle_asked, oracle_read, play_from, stepped}
use Rattle.lt_loop.specs.Scene.{first_inputs, fit, input_slots, slot_of, verdict_slots}
use Rattle.lt_loop.specs.Stands.{is_served}
use Rattle.lt_loop.specs.declared.setup.Setup.{Setup}
use Rattle.lt_loop.specs.declared.setup.Talk.{Talk}
use Rattle.lt_loop.specs.declared.setup.Talk.TheVariants as talk
use Rattle.lt_formula.specs.Domain.{IsDomain}
use Rattle.lt_term.specs.Configuration.{Configuration, first_configuration}
use Rattle.lt_term.specs.Scene.{Scene, Variable}
use Rattle.lt_trace.specs.End.{recorded_of}
use Rattle.lt_trace.specs.Shape.{HoldLocals}
use Rattle.lt_trace.specs.Told.{Shown}
use Rattle.lt_trace.specs.declared.recorded.RecordedEnd.TheVariants as recorded
use Rattle.lt_trace_laws.proofs.Replaying.{given_fit, none_fit}
use Rattle.lt_trace_laws.proofs.Shown.{inputs_held}
use Rattle.lt_trace_laws.specs.Replay.{trace_text}
use Rattle.lt_instant.specs.Instant as i
use Rattle.lt_instant.specs.Instant.{instant_of}
use Rattle.lt_step.specs.Machine.{State, answered, outputs_of, running}
use Rattle.lt_play.proofs.Public.{value_within}
use Rattle.lt_play.specs.Rules.{instant_by, known_scene, known_variable, scenario_rules}
use Rattle.lt_play.specs.Run.{scenario_play}
use Rattle.lt_macros.specs.Naming.{NamesAreThere}
use Rattle.lt_legal.specs.Follows.{Follows, Reached, further, inputs_after, inputs_before_all, inputs_behind, start, value_before_all}
use Rattle.lt_legal.specs.LegalRun.{IsLegalRun, MayEnd}
use Rattle.lt_legal_laws.specs.Runs.{HaveDomains, InstantsEnd, InstantsFollow}
use Rattle.lt_check.specs.Shape.{open_slot, ranged_slot}
use Rattle.lt_scenario_laws.proofs.Variables.{HasRanges, HaveRanges, scenario_has_ranges}
use Rattle.lt_scenario_laws.specs.Traced.{AreValuesOf, InstantsGiveTheirOwn, IsScenarioOf, MayBeValuesOf}
use Rattle.lt_check_laws.specs.Written.{AreWritten, HasShortNeed, IsOfLegalRun, MayEndBehind, RunsAreLegal, header, one_more}

-- ---- what a step shows

domains : (vs : List Variable) → HaveRanges vs → HaveDomains vs
domains [] h = tt
domains (v ∷ vs) h = (h.0, domains vs h.1)

within-small : (low high z : ℤ) → unsigned_abs low ≤ most_raw → unsigned_abs high ≤ most_raw → low ≤ℤ z → z ≤ℤ high → unsigned_abs z ≤ most_raw
within-small low high z h k a b = omega (arith, ints)

own-small : (k : Kind) (r : Range) (x : Value) → IsDomain k r → IsValueOf k r x → unsigned_abs (raw_of x) ≤ most_raw
own-small k r x domain own = let within = value_within k r x own in within-small r.low r.high (raw_of x) domain.low domain.high within.0 within.1

outputs-hold : (vs : List Variable) (xs : List Value) → HaveRanges vs → AreValuesOf vs xs → HoldAll (map open_slot vs) xs
outputs-hold [] [] has own = tt
outputs-hold [] (x ∷ xs) has own = absurd own
outputs-hold (v ∷ vs) [] has own = absurd own
outputs-hold (v ∷ vs) (x ∷ xs) has own = let here = own.0 in (record { kind = here.of_kind; bound = own-small v.kind v.range x has.0 here; range = refl }, outputs-hold vs xs has.1 own.1)

locals-hold : (vs : List Variable) (xs : List (Option Value)) → HaveRanges vs → MayBeValuesOf vs xs → HoldLocals (map open_slot vs) xs
locals-hold [] [] has own = tt
locals-hold [] (x ∷ xs) has own = absurd own
locals-hold (v ∷ vs) [] has own = absurd own
locals-hold (v ∷ vs) (None ∷ xs) has own = (tt, locals-hold vs xs has.1 own)
locals-hold (v ∷ vs) (Some x ∷ xs) has own = let here = own.0 in (record { kind = here.of_kind; bound = own-small v.kind v.range x has.0 here; range = refl }, locals-hold vs xs has.1 own.1)

slots-same : (vs : List Variable) → map slot_of (map known_variable vs) ≡ map ranged_slot vs
slots-same [] = refl
slots-same (v ∷ vs) = ap (λ (t : _). ranged_slot v ∷ t) (slots-same vs)

inputs-hold : (vs : List Variable) (ys : List Value) → fit (map slot_of (map known_variable vs)) ys ≡ true → HoldAll (map ranged_slot vs) ys
inputs-hold vs ys fitting = subst (λ (slots : _). HoldAll slots ys) (slots-same vs) (inputs_held (map known_variable vs) ys fitting)

-- ---- the inputs of an instant

inputs-first : (s : Scene) → first_inputs (known_scene s) ≡ inputs_before_all s
inputs-first s = all s.inputs
  where
    all : (vs : List Variable) → first_inputs (record (known_scene s) { inputs = map known_variable vs }) ≡ map value_before_all vs
    all [] = refl
    all (v ∷ vs) = ap (λ (t : List Value). value_before_all v ∷ t) (all vs)

inputs-last : (ys : List Value) (steps : List Shown) (step : Shown) → inputs_after ys (steps ++ step ∷ []) ≡ step.inputs
inputs-last ys [] step = refl
inputs-last ys (x ∷ xs) step = inputs-last x.inputs xs step

longer : (steps : List Shown) (step : Shown) → length (steps ++ step ∷ []) ≡ length steps + 1
longer steps step = length-append steps (step ∷ [])

-- ---- from an instant on

module _ (own : InstantsGiveTheirOwn) (follow : InstantsFollow) (over_law : InstantsEnd) (fits : RepliesFit)
    (decimals : ℕ) (node : Option (List ℕ)) (text : List ℕ) (s : Scene) (scenario : IsScenarioOf decimals node text s) (has : HasRanges s)
    (budget : ℕ) (setup : Setup) (u : Option GivenUp) (small : HasShortNeed u) (e : End) where
  plan : Plan
  plan = plan_of (known_scene s) setup

  -- what goes on so, behind a front of the text, is the text of a legal run
  abbrev Goes : List ℕ → Play → Type 0
  Goes front play = play.stop ≡ ends e → IsOfLegalRun s (plan_of (known_scene s) setup) e (front ++ trace_text play.pieces)

  either-goes : (b : Bool) (front : List ℕ) (x y : Play) → Goes front x → Goes front y → Goes front (if b then x else y)
  either-goes true front x y h k = h
  either-goes false front x y h k = k

  end-goes : (f : End) (n : ℕ) (steps : List Shown) (front : List ℕ) → AreWritten s (plan_of (known_scene s) setup) steps front → n ≡ end_number f (length steps) → length steps ≤ most_steps → MayEndBehind f (length steps)
      → IsLegalRun s (record { steps = steps; end = recorded_of f }) → Goes front (ended (plan_of (known_scene s) setup) f n)
  end-goes f n steps front written number few may legal stops =
      let same : f ≡ e = cc in
      subst (λ (x : End). IsOfLegalRun s (plan_of (known_scene s) setup) x (front ++ (closing_text (plan_of (known_scene s) setup) f n ++ []))) same (record {
        steps = steps;
        front = front;
        written = written;
        whole = ap (λ (t : List ℕ). front ++ t) (append-nil (closing_text (plan_of (known_scene s) setup) f n) ∙ ap (λ (k : ℕ). closing_text (plan_of (known_scene s) setup) f k) number);
        few = few;
        may = may;
        legal = legal;
      })

  abbrev at : Configuration → List (Option Value) → State
  at c ls = record { scene = s; seed = setup.seed; draw = setup.draw; budget = budget; phase = running c ls }

  -- a run stands here
  record Stands (k : ℕ) (steps : List Shown) (front : List ℕ) (c : Configuration) (y : List Value) : Type 0 where
    written : AreWritten s (plan_of (known_scene s) setup) steps front
    number : k ≡ length steps + 1
    reached : Reached s steps c
    inputs : y ≡ inputs_behind s steps

  -- whatever it goes on with then
  abbrev GoesOn : ℕ → (Configuration → List (Option Value) → List Value → Stream → Stream → Play) → Type 0
  GoesOn k go = (steps : List Shown) (front : List ℕ) (c : Configuration) (ls : List (Option Value)) (y : List Value) (d o : Stream) → Stands k steps front c y → Goes front (go c ls y d o)

  -- a step
  record IsNext (k : ℕ) (steps : List Shown) (front : List ℕ) (next : Configuration) (ls : List (Option Value)) : Type 0 where
    written : AreWritten s (plan_of (known_scene s) setup) steps front
    number : k ≡ length steps + 1
    few : k ≤ most_steps
    before : (c : Configuration) × Reached s steps c
    follows : (z : List Value) → Reached s (steps ++ record { outputs = outputs_of next.previous; inputs = z; locals = ls } ∷ []) next
    outputs : HoldAll (map open_slot s.outputs) (outputs_of next.previous)
    locals : HoldLocals (map open_slot s.locals) ls

  module _ (k : ℕ) (steps : List Shown) (front : List ℕ) (next : Configuration) (ls : List (Option Value)) (is : IsNext k steps front next ls)
      (go : Configuration → List (Option Value) → List Value → Stream → Stream → Play) (on : GoesOn (k + 1) go) where
    abbrev made : Made
    made = record { number = k; outputs = outputs_of next.previous; locals = ls }

    abbrev with_inputs : List Value → Shown
    with_inputs z = record { outputs = outputs_of next.previous; inputs = z; locals = ls }

    now-written : (z : List Value) → fit (input_slots (known_scene s)) z ≡ true
        → AreWritten s (plan_of (known_scene s) setup) (steps ++ with_inputs z ∷ []) (front ++ traced_step (plan_of (known_scene s) setup) k (outputs_of next.previous) z ls)
    now-written z fitting =
        subst (λ (n : ℕ). AreWritten s (plan_of (known_scene s) setup) (steps ++ with_inputs z ∷ []) (front ++ traced_step (plan_of (known_scene s) setup) n (outputs_of next.previous) z ls)) (sym is.number)
        (one_more steps (with_inputs z) front is.written (record { outputs = is.outputs; inputs = inputs-hold s.inputs z fitting; locals = is.locals }))

    -- it is cut short
    cut-goes : (f : End) → end_number f (length steps) ≡ length steps + 1 → recorded_of f ≡ recorded.Cut → MayEndBehind f (length steps) → Goes front (ended (plan_of (known_scene s) setup) f k)
    cut-goes f n cut may =
        end-goes f k steps front is.written (is.number ∙ sym n) (let number = is.number in let few = is.few in omega (arith, number, few)) may
        (let before = is.before in (before.0, before.1, subst (λ (r : _). MayEnd s before.0 (inputs_behind s steps) r) (sym cut) tt))

    stepped-goes : (z : List Value) (b : Bool) (d o : Stream) → fit (input_slots (known_scene s)) z ≡ true → Goes front (stepped (plan_of (known_scene s) setup) made z b (go next ls z d o))
    stepped-goes z true d o fitting stops =
        let shown = traced_step (plan_of (known_scene s) setup) k (outputs_of next.previous) z ls in
        let rest = on (steps ++ with_inputs z ∷ []) (front ++ shown) next ls z d o (record {
          written = now-written z fitting;
          number = ap (λ (n : ℕ). n + 1) (is.number ∙ sym (longer steps (with_inputs z)));
          reached = is.follows z;
          inputs = sym (inputs-last (inputs_before_all s) steps (with_inputs z));
        }) stops in
        subst (λ (t : List ℕ). IsOfLegalRun s (plan_of (known_scene s) setup) e t) (append_assoc front shown (trace_text (go next ls z d o).pieces)) rest
    stepped-goes z false d o fitting stops =
        let shown = traced_step (plan_of (known_scene s) setup) k (outputs_of next.previous) z ls in
        let closing = closing_text (plan_of (known_scene s) setup) end.Oracle k in
        let size = longer steps (with_inputs z) in
        let number = is.number in
        let few = is.few in
        let rest = end-goes end.Oracle k (steps ++ with_inputs z ∷ []) (front ++ shown) (now-written z fitting) (is.number ∙ sym size) (omega (arith, size, number, few)) (omega (arith, size)) (next, is.follows z, tt) stops in
        subst (λ (t : List ℕ). IsOfLegalRun s (plan_of (known_scene s) setup) e t)
        (append_assoc front shown (closing ++ []) ∙ ap (λ (t : List ℕ). front ++ t) (sym (append_assoc shown closing [])))
        rest

    oracle-goes : (z : List Value) (d : Stream) (r : Reply) → fit (input_slots (known_scene s)) z ≡ true → Goes front (oracle_read (plan_of (known_scene s) setup) made z (go next ls z d) r)
    oracle-goes z d (whole vs o) fitting = stepped-goes z (holds vs) d o fitting
    oracle-goes z d needs fitting = λ stops. absurd (cc)
    oracle-goes z d (short n) fitting = cut-goes (end.Ended who.Oracle n) refl refl tt
    oracle-goes z d (malformed f place) fitting = cut-goes (end.Malformed who.Oracle f place) refl refl tt

    asked-goes : (z : List Value) (d o : Stream) → fit (input_slots (known_scene s)) z ≡ true → Goes front (oracle_asked (plan_of (known_scene s) setup) made z (go next ls z d) o)
    asked-goes z d o fitting =
        either-goes setup.oracle front _ _
        (oracle-goes z d (reply_of s.decimals verdict_slots o) fitting)
        (stepped-goes z true d o fitting)

    read-goes : (c o : Stream) (r : Reply) → controller_reply (plan_of (known_scene s) setup) c ≡ r → Goes front (controller_read (plan_of (known_scene s) setup) made (go next ls) r o)
    read-goes c o (whole z d) h = asked-goes z d o (given_fit fits setup.controller (known_scene s) z c d h)
    read-goes c o needs h = λ stops. absurd (cc)
    read-goes c o (short n) h = cut-goes (end.Ended who.Controller n) refl refl tt
    read-goes c o (malformed f place) h = cut-goes (end.Malformed who.Controller f place) refl refl tt

    talk-goes : (t : Talk) (c o : Stream) → is_served t (known_scene s) ≡ true → Goes front (controller_asked t (plan_of (known_scene s) setup) made (go next ls) c o)
    talk-goes talk.Nobody c o served = asked-goes [] c o (none_fit (map known_variable s.inputs) served)
    talk-goes talk.Live c o served = read-goes c o (controller_reply (plan_of (known_scene s) setup) c) refl
    talk-goes talk.Replay c o served = read-goes c o (controller_reply (plan_of (known_scene s) setup) c) refl

  -- an instant
  next-of : (k : ℕ) (steps : List Shown) (front : List ℕ) (c : Configuration) (y outs : List Value) (ls : List (Option Value)) (next : Configuration) → Stands k steps front c y → k ≤ most_steps
      → instant_of s setup.seed setup.draw c y ≡ i.values outs ls next → IsNext k steps front next ls
  next-of k steps front c y outs ls next here few h =
      let shows = follow s setup.seed setup.draw c next y outs y ls (domains s.outputs has.outputs) (domains s.locals has.locals) h in
      let seen : outputs_of next.previous ≡ outs = ap (λ (g : Configuration). outputs_of g.previous) shows.next_is ∙ shows.shows.outputs in
      let again : instant_of s setup.seed setup.draw c y ≡ i.values (outputs_of next.previous) ls next = h ∙ ap (λ (x : List Value). i.values x ls next) (sym seen) in
      let owns = own decimals node text s setup.seed setup.draw c next y (outputs_of next.previous) ls scenario again in
      record {
        written = here.written;
        number = here.number;
        few = few;
        before = (c, here.reached);
        follows = λ z. further steps (record { outputs = outputs_of next.previous; inputs = z; locals = ls }) c next here.reached
            (subst (λ (x : List Value). Follows s c x (record { outputs = outputs_of next.previous; inputs = z; locals = ls }) next) here.inputs
            (follow s setup.seed setup.draw c next y (outputs_of next.previous) z ls (domains s.outputs has.outputs) (domains s.locals has.locals) again));
        outputs = outputs-hold s.outputs (outputs_of next.previous) has.outputs owns.0;
        locals = locals-hold s.locals ls has.locals owns.1;
      }

  -- the scenario is over
  over-goes : (f : ScenarioEnd) (k : ℕ) (steps : List Shown) (front : List ℕ) (c : Configuration) (y : List Value) → Stands k steps front c y → k ≤ most_steps → MayEndBehind (end_of f) (length steps)
      → MayEnd s c y (recorded_of (end_of f)) → Goes front (ended (plan_of (known_scene s) setup) (end_of f) (end_number (end_of f) (k - 1)))
  over-goes f k steps front c y here few may ending =
      let number = here.number in
      let before : k - 1 ≡ length steps = omega (arith, number) in
      end-goes (end_of f) (end_number (end_of f) (k - 1)) steps front here.written (ap (λ (n : ℕ). end_number (end_of f) n) before) (omega (arith, number, few)) may
      (c, here.reached, subst (λ (x : List Value). MayEnd s c x (recorded_of (end_of f))) here.inputs ending)

  module _ (limit : setup.limit ≤ most_steps) (served : is_served setup.controller (known_scene s) ≡ true) where
    instant-goes : (k : ℕ) (steps : List Shown) (front : List ℕ) (c : Configuration) (ls : List (Option Value)) (y : List Value) (d o : Stream) → Stands k steps front c y → k ≤ most_steps
        → (go : State → List Value → Stream → Stream → Play) → GoesOn (k + 1) (λ x locs. go (at x locs))
        → (x : i.Instant) → instant_of s setup.seed setup.draw c y ≡ x → Goes front (instant_made scenario_rules (plan_of (known_scene s) setup) k (instant_by (answered (at c ls) x)) go d o)
    instant-goes k steps front c ls y d o here few go on (i.values outs locs next) h =
        talk-goes k steps front next locs (next-of k steps front c y outs locs next here few h) (λ x l. go (at x l)) on setup.controller d o served
    instant-goes k steps front c ls y d o here few go on i.normal h = over-goes scenario_end.Normal k steps front c y here few tt ((over_law s setup.seed setup.draw c y).over h)
    instant-goes k steps front c ls y d o here few go on (i.raise z) h = over-goes (scenario_end.Raise z) k steps front c y here few tt ((over_law s setup.seed setup.draw c y).raised z h)
    instant-goes k steps front c ls y d o here few go on i.deadlock h = over-goes scenario_end.Deadlock k steps front c y here few tt ((over_law s setup.seed setup.draw c y).stuck h)
    instant-goes k steps front c ls y d o here few go on (i.fault f) h = over-goes (scenario_end.Fault f) k steps front c y here few tt ((over_law s setup.seed setup.draw c y).faulty f h)
    instant-goes k steps front c ls y d o here few go on i.too_large h = over-goes scenario_end.TooLarge k steps front c y here few tt tt

    -- it may be given up
    given-goes : (v : Option GivenUp) → HasShortNeed v → (k : ℕ) (steps : List Shown) (front : List ℕ) (c : Configuration) (ls : List (Option Value)) (y : List Value) (d o : Stream) → Stands k steps front c y → k ≤ most_steps
        → (go : State → List Value → Stream → Stream → Play) → GoesOn (k + 1) (λ x locs. go (at x locs))
        → Goes front (instant_made (giving_up u scenario_rules) (plan_of (known_scene s) setup) k ((giving_up v scenario_rules).instant (at c ls) y) go d o)
    given-goes None short_need k steps front c ls y d o here few go on = instant-goes k steps front c ls y d o here few go on (instant_of s setup.seed setup.draw c y) refl
    given-goes (Some g) short_need k steps front c ls y d o here few go on =
        by_test (is_given_up scenario_rules g (at c ls) y)
      where
        by_test : (b : Bool) → Goes front (instant_made (giving_up u scenario_rules) (plan_of (known_scene s) setup) k (if b then over (scenario_end.Budget g.need) else scenario_rules.instant (at c ls) y) go d o)
        by_test true = over-goes (scenario_end.Budget g.need) k steps front c y here few short_need tt
        by_test false = instant-goes k steps front c ls y d o here few go on (instant_of s setup.seed setup.draw c y) refl

    play-goes : (left k : ℕ) → k + left ≤ 1_000_001 → GoesOn k (λ c ls. play_from (giving_up u scenario_rules) (plan_of (known_scene s) setup) left k (at c ls))
    play-goes zero k bound steps front c ls y d o here =
        let number = here.number in
        end-goes end.Limit (k - 1) steps front here.written (omega (arith, number)) (omega (arith, number, bound)) tt (c, here.reached, tt)
    play-goes (suc left) k bound steps front c ls y d o here =
        given-goes u small k steps front c ls y d o here (omega (arith, bound)) (play_from (giving_up u scenario_rules) (plan_of (known_scene s) setup) left (k + 1)) (play-goes left (k + 1) (omega (arith, bound)))

    whole-run : (d o : Stream) → (let run = scenario_play s budget setup u d o in run.stop ≡ ends e → IsOfLegalRun s (plan_of (known_scene s) setup) e (trace_text run.pieces))
    whole-run d o =
        play-goes setup.limit 1 (omega (arith, limit)) [] (opening_text (plan_of (known_scene s) setup)) (first_configuration s) [] (first_inputs (known_scene s)) d o
        (record { written = header; number = refl; reached = start; inputs = inputs-first s })

pub runs-are-legal : NamesAreThere → InstantsGiveTheirOwn → InstantsFollow → InstantsEnd → RepliesFit → RunsAreLegal
runs-are-legal there own follow over_law fits decimals node text s budget setup u c o e run small =
    whole-run own follow over_law fits decimals node text s run.scenario (scenario_has_ranges there decimals node text s run.scenario) budget setup u small e run.limit run.served c o
