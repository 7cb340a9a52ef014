-- Runs in which an instant is given up.
use Rattle.std.proofs.Common.{◌≡◌, ◌≢◌, ◌+◌, ◌-◌, ℕ, zero, suc, Bool, true, false, List, [], ◌∷◌, ◌++◌, None, Some, append_assoc, refl, ap, sym, subst, ◌∙◌, arith}
use Rattle.std.specs.Prelude.{◌&&◌, if◌then◌else◌}
use Rattle.std.specs.declared.option.Option.{Option}
use Rattle.lt_num.specs.declared.value.Value.{Value}
use Rattle.lt_rif.specs.Reply.{Stream, Reply, whole, needs, short, malformed, reply_of}
use Rattle.lt_rif.specs.Trace.{end_number}
use Rattle.lt_rif.specs.declared.end.End.{End}
use Rattle.lt_rif.specs.declared.end.End.TheVariants as end
use Rattle.lt_rif.specs.declared.end.Who.{Who}
use Rattle.lt_rif.specs.declared.end.Who.TheVariants as who
use Rattle.lt_loop.specs.GivingUp.{AffordableRunsAreTheSame, BudgetsHaveACause, GivesUp, GivingUpIsACut, KnowNoBudget, NeverGivenUp, PlaysKeepToTheirRules, cut, cut_by_budget, unmet}
use Rattle.lt_loop.specs.Machine.{GivenUp, Instant, Rules, end_of, giving_up, has_made, is_given_up, over, values}
use Rattle.lt_loop.specs.Places.{ComesTo, EachInstant, Place, first_place, place_after, place_answered, place_asked, place_behind, place_judged, place_told, play_at}
use Rattle.lt_loop.specs.Plan.{Plan, opening_text, outputs_line, step_line, traced_step}
use Rattle.lt_loop.specs.Play.{Made, Piece, Play, controller_asked, controller_read, controller_reply, ended, ends, holds, instant_made, made_by, needs_byte, oracle_asked, oracle_read, piece_then, play_from, play_of, step_count, stepped, steps_of, stopped}
use Rattle.lt_loop.specs.Run.{pieces_then}
use Rattle.lt_loop.specs.Scene.{first_inputs, verdict_slots}
use Rattle.lt_loop.specs.declared.event.PieceKind.{PieceKind}
use Rattle.lt_loop.specs.declared.event.PieceKind.TheVariants as piece_kind
use Rattle.lt_loop.specs.declared.machine.ScenarioEnd.{ScenarioEnd}
use Rattle.lt_loop.specs.declared.machine.ScenarioEnd.TheVariants as scenario_end
use Rattle.lt_loop.specs.declared.setup.Talk.{Talk}
use Rattle.lt_loop.specs.declared.setup.Talk.TheVariants as talk

-- ---- plays that aren't over

abbrev pub IsUnended : Play → Type 0
IsUnended play = (e : End) → play ≢ stopped (ends e)

piece_goes_on : (kind : PieceKind) (text : List ℕ) (rest : Play) → IsUnended (piece_then kind text rest)
piece_goes_on kind text rest e is = let none : record { kind = kind; bytes = text } ∷ rest.pieces ≡ [] = ap (λ (p : Play). p.pieces) is in absurd (cc none)

needs_goes_on : (w : Who) → IsUnended (stopped (needs_byte w))
needs_goes_on w e is = let stops : needs_byte w ≡ ends e = ap (λ (p : Play). p.stop) is in absurd (cc stops)

step_goes_on : (plan : Plan) (made : Made) (y : List Value) (verdict : Bool) (rest : Play) → IsUnended (stepped plan made y verdict rest)
step_goes_on plan made y true rest = piece_goes_on _ _ _
step_goes_on plan made y false rest = piece_goes_on _ _ _

either_goes_on : (b : Bool) (one two : Play) → IsUnended one → IsUnended two → IsUnended (if b then one else two)
either_goes_on true one two g h = g
either_goes_on false one two g h = h

asked_goes_on : (plan : Plan) (made : Made) (y : List Value) (go : Stream → Play) (o : Stream) → IsUnended (oracle_asked plan made y go o)
asked_goes_on plan made y go o = either_goes_on plan.has_oracle _ _ (piece_goes_on _ _ _) (step_goes_on plan made y true (go o))

read_goes_on : (plan : Plan) (made : Made) (go : List Value → Stream → Stream → Play) (r : Reply) (o : Stream) → IsUnended (controller_read plan made go r o)
read_goes_on plan made go (whole y c) o = asked_goes_on plan made y (go y c) o
read_goes_on plan made go needs o = needs_goes_on who.Controller
read_goes_on plan made go (short n) o = piece_goes_on _ _ _
read_goes_on plan made go (malformed f place) o = piece_goes_on _ _ _

told_goes_on : (t : Talk) (plan : Plan) (made : Made) (go : List Value → Stream → Stream → Play) (c o : Stream) → IsUnended (controller_asked t plan made go c o)
told_goes_on talk.Nobody plan made go c o = asked_goes_on plan made [] (go [] c) o
told_goes_on talk.Live plan made go c o = piece_goes_on _ _ _
told_goes_on talk.Replay plan made go c o = read_goes_on plan made go (controller_reply plan c) o

instant_goes_on : {State : Type 0} (rules : Rules State) (plan : Plan) (k : ℕ) (i : Instant State) (go : State → List Value → Stream → Stream → Play) (c o : Stream) → IsUnended (instant_made rules plan k i go c o)
instant_goes_on rules plan k (values m) go c o = told_goes_on plan.controller plan (made_by rules k m) (go m) c o
instant_goes_on rules plan k (over e) go c o = piece_goes_on _ _ _

-- ---- how an instant goes on

-- Whatever follows an instant: the run doesn't go on behind it, or it does so at a place, behind pieces of which one is a step.
data GoesOn {State : Type 0} (follow : (Place State → Play) → Play) (q : Option (Place State)) : Type 0 where
  halts : q ≡ None → ((g h : Place State → Play) → follow g ≡ follow h) → GoesOn follow q
  reaches : (ps : List Piece) (p : Place State) → q ≡ Some p → step_count ps ≡ 1 → ((g : Place State → Play) → follow g ≡ pieces_then ps (g p)) → GoesOn follow q

module _ {State : Type 0} where
  piece_goes : (kind : PieceKind) (text : List ℕ) (follow : (Place State → Play) → Play) (q : Option (Place State)) → steps_of kind ≡ 0 → GoesOn follow q → GoesOn (λ g. piece_then kind text (follow g)) q
  piece_goes kind text follow q none (halts e same) = halts e (λ g h. ap (piece_then kind text) (same g h))
  piece_goes kind text follow q none (reaches ps p e one is) =
      let x : Piece = record { kind = kind; bytes = text } in
      reaches (x ∷ ps) p e (omega (arith, none, one)) (λ g. ap (piece_then kind text) (is g))

  either_goes : (b : Bool) (f g : (Place State → Play) → Play) (q r : Option (Place State)) → GoesOn f q → GoesOn g r → GoesOn (λ h. if b then f h else g h) (if b then q else r)
  either_goes true f g q r one two = one
  either_goes false f g q r one two = two

  module _ (plan : Plan) (made : Made) where
    step_goes : (p : Place State) (verdict : Bool) → GoesOn (λ g. stepped plan made p.inputs verdict (g p)) (if verdict then Some p else None)
    step_goes p true = reaches (record { kind = piece_kind.Step; bytes = traced_step plan made.number made.outputs p.inputs made.locals } ∷ []) p refl refl (λ g. refl)
    step_goes p false = halts refl (λ g h. refl)

    judged_goes : (p : Place State) (r : Reply) → GoesOn (λ g. oracle_read plan made p.inputs (λ o. g (record p { oracle = o })) r) (place_judged p r)
    judged_goes p (whole vs o) = step_goes (record p { oracle = o }) (holds vs)
    judged_goes p needs = halts refl (λ g h. refl)
    judged_goes p (short n) = halts refl (λ g h. refl)
    judged_goes p (malformed f place) = halts refl (λ g h. refl)

    asked_goes : (p : Place State) → GoesOn (λ g. oracle_asked plan made p.inputs (λ o. g (record p { oracle = o })) p.oracle) (place_asked plan p)
    asked_goes p =
        let r = reply_of plan.scene.decimals verdict_slots p.oracle in
        let line = step_line plan made.outputs p.inputs in
        either_goes plan.has_oracle (λ g. piece_then piece_kind.Question line (oracle_read plan made p.inputs (λ o. g (record p { oracle = o })) r)) (λ g. stepped plan made p.inputs true (g p)) (place_judged p r) (Some p)
        (piece_goes piece_kind.Question line (λ g. oracle_read plan made p.inputs (λ o. g (record p { oracle = o })) r) (place_judged p r) refl (judged_goes p r))
        (step_goes p true)

    -- what follows at a place, by its parts
    abbrev by_parts : State → (Place State → Play) → List Value → Stream → Stream → Play
    by_parts m g y c o = g (record { machine = m; inputs = y; controller = c; oracle = o })

    answered_goes : (p : Place State) (r : Reply) → GoesOn (λ g. controller_read plan made (by_parts p.machine g) r p.oracle) (place_answered plan p r)
    answered_goes p (whole y c) = asked_goes (record p { inputs = y; controller = c })
    answered_goes p needs = halts refl (λ g h. refl)
    answered_goes p (short n) = halts refl (λ g h. refl)
    answered_goes p (malformed f place) = halts refl (λ g h. refl)

    told_goes : (t : Talk) (p : Place State) → GoesOn (λ g. controller_asked t plan made (by_parts p.machine g) p.controller p.oracle) (place_told t plan p)
    told_goes talk.Nobody p = asked_goes (record p { inputs = [] })
    told_goes talk.Live p =
        piece_goes piece_kind.Outputs (outputs_line plan made.outputs) (λ g. controller_read plan made (by_parts p.machine g) (controller_reply plan p.controller) p.oracle) (place_answered plan p (controller_reply plan p.controller)) refl
        (answered_goes p (controller_reply plan p.controller))
    told_goes talk.Replay p = answered_goes p (controller_reply plan p.controller)

  -- so does an instant by these rules
  instant_goes : (rules : Rules State) (plan : Plan) (k : ℕ) (i : Instant State) (p : Place State)
      → GoesOn (λ g. instant_made rules plan k i (λ m y c o. g (record { machine = m; inputs = y; controller = c; oracle = o })) p.controller p.oracle) (place_behind plan i p)
  instant_goes rules plan k (values m) p = told_goes plan (made_by rules k m) plan.controller (record p { machine = m })
  instant_goes rules plan k (over e) p = halts refl (λ g h. refl)

  -- a run that doesn't go on reaches nowhere
  nowhere : (rules : Rules State) (plan : Plan) (n : ℕ) → place_after rules plan n None ≡ None
  nowhere rules plan zero = refl
  nowhere rules plan (suc n) = refl

-- ---- runs in which an instant is given up

steps_both : (ps qs : List Piece) → step_count (ps ++ qs) ≡ step_count ps + step_count qs
steps_both [] qs = omega arith
steps_both (p ∷ ps) qs = omega (arith, steps_both ps qs)

pieces_both : (ps qs : List Piece) (rest : Play) → pieces_then ps (pieces_then qs rest) ≡ pieces_then (ps ++ qs) rest
pieces_both ps qs rest = ap (λ (t : List Piece). record { pieces = t; stop = rest.stop }) (sym (append_assoc ps qs rest.pieces))

module _ {State : Type 0} (rules : Rules State) (plan : Plan) (u : GivenUp) where
  abbrev given : Rules State
  given = giving_up (Some u) rules

  abbrev IsKept : State → List Value → Type 0
  IsKept s y = is_given_up rules u s y ≡ false

  -- the pieces before an instant, and the end line, where so many steps were put out at first
  abbrev cut_behind : ℕ → List Piece → Play
  cut_behind before ps = pieces_then ps (ended plan (end.Budget u.need) (end_number (end.Budget u.need) (before + step_count ps)))

  -- from a place on, where so many steps were put out
  data Gives (left before : ℕ) (p : Place State) : Type 0 where
    same_from : EachInstant IsKept rules plan left p → play_at given plan left (before + 1) p ≡ play_at rules plan left (before + 1) p → Gives left before p
    cut_from : (ps : List Piece) (q : Place State) (rest : ℕ) → suc rest + step_count ps ≡ left → place_after rules plan (step_count ps) (Some p) ≡ Some q
        → play_at rules plan left (before + 1) p ≡ pieces_then ps (play_at rules plan (suc rest) (before + step_count ps + 1) q) → is_given_up rules u q.machine q.inputs ≡ true
        → play_at given plan left (before + 1) p ≡ cut_behind before ps → Gives left before p

  module _ (left before : ℕ) (p : Place State) where
    abbrev now : Instant State
    now = rules.instant p.machine p.inputs

    abbrev follow : (Place State → Play) → Play
    follow g = instant_made rules plan (before + 1) now (λ m y c o. g (record { machine = m; inputs = y; controller = c; oracle = o })) p.controller p.oracle

    given_is : is_given_up rules u p.machine p.inputs ≡ false → play_at given plan (suc left) (before + 1) p ≡ follow (play_at given plan left (before + 1 + 1))
    given_is is = ap (λ (b : Bool). instant_made given plan (before + 1) (if b then over (scenario_end.Budget u.need) else now) (play_from given plan left (before + 1 + 1)) p.controller p.oracle) is

    -- the instants from here on are this one and those from the next place on
    first_kept : is_given_up rules u p.machine p.inputs ≡ false → (place_behind plan now p ≡ None) → EachInstant IsKept rules plan (suc left) p
    first_kept is none zero q less stands = let same : p ≡ q = cc stands in subst (λ (r : Place State). IsKept r.machine r.inputs) same is
    first_kept is none (suc n) q less stands =
        let no : None ≡ Some q = sym (ap (place_after rules plan n) none ∙ nowhere rules plan n) ∙ stands in absurd (cc no)

    all_kept : (r : Place State) → is_given_up rules u p.machine p.inputs ≡ false → place_behind plan now p ≡ Some r → EachInstant IsKept rules plan left r → EachInstant IsKept rules plan (suc left) p
    all_kept r is goes each zero q less stands = let same : p ≡ q = cc stands in subst (λ (s : Place State). IsKept s.machine s.inputs) same is
    all_kept r is goes each (suc n) q less stands = each n q (omega (arith, less)) (sym (ap (place_after rules plan n) goes) ∙ stands)

    behind_one : (ps : List Piece) (r : Place State) → is_given_up rules u p.machine p.inputs ≡ false → place_behind plan now p ≡ Some r → step_count ps ≡ 1
        → ((g : Place State → Play) → follow g ≡ pieces_then ps (g r)) → Gives left (before + 1) r → Gives (suc left) before p
    behind_one ps r is goes one puts (same_from each same) = same_from (all_kept r is goes each) (given_is is ∙ puts (play_at given plan left (before + 1 + 1)) ∙ ap (pieces_then ps) same ∙ sym (puts (play_at rules plan left (before + 1 + 1))))
    behind_one ps r is goes one puts (cut_from qs q rest counts stands same_pieces met line) =
        let steps : step_count (ps ++ qs) ≡ suc (step_count qs) = omega (arith, steps_both ps qs, one) in
        let number : before + 1 + step_count qs ≡ before + step_count (ps ++ qs) = omega (arith, steps) in
        cut_from (ps ++ qs) q rest (omega (arith, steps, counts))
        (ap (λ (n : ℕ). place_after rules plan n (Some p)) steps ∙ ap (place_after rules plan (step_count qs)) goes ∙ stands)
        (puts (play_at rules plan left (before + 1 + 1)) ∙ ap (pieces_then ps) same_pieces ∙ pieces_both ps qs (play_at rules plan (suc rest) (before + 1 + step_count qs + 1) q)
        ∙ ap (λ (n : ℕ). pieces_then (ps ++ qs) (play_at rules plan (suc rest) (n + 1) q)) number)
        met
        (given_is is ∙ puts (play_at given plan left (before + 1 + 1)) ∙ ap (pieces_then ps) line ∙ pieces_both ps qs (ended plan (end.Budget u.need) (end_number (end.Budget u.need) (before + 1 + step_count qs)))
        ∙ ap (λ (n : ℕ). pieces_then (ps ++ qs) (ended plan (end.Budget u.need) (end_number (end.Budget u.need) n))) number)

    by_going : is_given_up rules u p.machine p.inputs ≡ false → ((r : Place State) → Gives left (before + 1) r) → GoesOn follow (place_behind plan now p) → Gives (suc left) before p
    by_going is gives (halts none alike) = same_from (first_kept is none) (given_is is ∙ alike (play_at given plan left (before + 1 + 1)) (play_at rules plan left (before + 1 + 1)))
    by_going is gives (reaches ps r goes one puts) = behind_one ps r is goes one puts (gives r)

    by_test : (b : Bool) → is_given_up rules u p.machine p.inputs ≡ b → ((r : Place State) → Gives left (before + 1) r) → Gives (suc left) before p
    by_test true is gives =
        let none : before ≡ before + 0 = omega arith in
        let number : before + 1 - 1 ≡ before + 0 = omega arith in
        cut_from [] p left (omega arith) refl (ap (λ (n : ℕ). play_at rules plan (suc left) (n + 1) p) none) is
        (ap (λ (b : Bool). instant_made given plan (before + 1) (if b then over (scenario_end.Budget u.need) else now) (play_from given plan left (before + 1 + 1)) p.controller p.oracle) is
        ∙ ap (λ (n : ℕ). ended plan (end.Budget u.need) (end_number (end.Budget u.need) n)) number)
    by_test false is gives = by_going is gives (instant_goes rules plan (before + 1) now p)

  from_gives : (left before : ℕ) (p : Place State) → Gives left before p
  from_gives zero before p = same_from (λ n q less stands. absurd (omega (arith, less))) refl
  from_gives (suc left) before p = by_test left before p (is_given_up rules u p.machine p.inputs) refl (λ r. from_gives left (before + 1) r)

  module _ (limit : ℕ) (m : State) (c o : Stream) where
    abbrev header : Piece
    header = record { kind = piece_kind.Header; bytes = opening_text plan }

    from_first : Gives limit 0 (first_place plan m c o) → GivesUp rules plan limit m c o u (play_of given plan limit m c o)
    from_first (same_from each same) = unmet each (ap (piece_then piece_kind.Header (opening_text plan)) same)
    from_first (cut_from ps q rest counts stands same_pieces met line) =
        let none : step_count ps ≡ step_count (header ∷ ps) = omega arith in
        cut (header ∷ ps) q
        (record {
          left = rest;
          counts = omega (arith, counts, none);
          stands = ap (λ (n : ℕ). place_after rules plan n (Some (first_place plan m c o))) (sym none) ∙ stands;
          puts = ap (piece_then piece_kind.Header (opening_text plan)) same_pieces;
        }) met (ap (piece_then piece_kind.Header (opening_text plan)) line)

module _ {State : Type 0} where
  pub giving_up_is_a_cut : GivingUpIsACut State
  giving_up_is_a_cut rules plan limit m c o u = from_first rules plan u limit m c o (from_gives rules plan u limit 0 (first_place plan m c o))

  -- a run that comes to an instant isn't over before it
  pub comes_unended : (rules : Rules State) (plan : Plan) (left k : ℕ) (p : Place State) → IsUnended (play_at rules plan (suc left) k p)
  comes_unended rules plan left k p = instant_goes_on rules plan k (rules.instant p.machine p.inputs) (play_from rules plan left (k + 1)) p.controller p.oracle

-- ---- ends by a budget

module _ (plan : Plan) (need : ℕ) where
  abbrev Keeps : Play → Type 0
  Keeps play = play.stop ≢ ends (end.Budget need)

  step_keeps : (made : Made) (y : List Value) (verdict : Bool) (play : Play) → Keeps play → Keeps (stepped plan made y verdict play)
  step_keeps made y true play keeps = keeps
  step_keeps made y false play keeps = λ is. absurd (cc is)

  either_keeps : (b : Bool) (one two : Play) → Keeps one → Keeps two → Keeps (if b then one else two)
  either_keeps true one two g h = g
  either_keeps false one two g h = h

  module _ (made : Made) (y : List Value) (go : Stream → Play) (keeps : (s : Stream) → Keeps (go s)) where
    read_keeps : (r : Reply) → Keeps (oracle_read plan made y go r)
    read_keeps (whole vs o) = step_keeps made y (holds vs) (go o) (keeps o)
    read_keeps needs = λ is. absurd (cc is)
    read_keeps (short n) = λ is. absurd (cc is)
    read_keeps (malformed f place) = λ is. absurd (cc is)

    asked_keeps : (o : Stream) → Keeps (oracle_asked plan made y go o)
    asked_keeps o =
        let r = reply_of plan.scene.decimals verdict_slots o in
        either_keeps plan.has_oracle (piece_then piece_kind.Question (step_line plan made.outputs y) (oracle_read plan made y go r)) (stepped plan made y true (go o)) (read_keeps r) (step_keeps made y true (go o) (keeps o))

  module _ (made : Made) (go : List Value → Stream → Stream → Play) (keeps : (y : List Value) (s t : Stream) → Keeps (go y s t)) where
    controller_keeps : (r : Reply) (o : Stream) → Keeps (controller_read plan made go r o)
    controller_keeps (whole y c) o = asked_keeps made y (go y c) (keeps y c) o
    controller_keeps needs o = λ is. absurd (cc is)
    controller_keeps (short n) o = λ is. absurd (cc is)
    controller_keeps (malformed f place) o = λ is. absurd (cc is)

    told_keeps : (t : Talk) (c o : Stream) → Keeps (controller_asked t plan made go c o)
    told_keeps talk.Nobody c o = asked_keeps made [] (go [] c) (keeps [] c) o
    told_keeps talk.Live c o = controller_keeps (controller_reply plan c) o
    told_keeps talk.Replay c o = controller_keeps (controller_reply plan c) o

module _ {State : Type 0} (rules : Rules State) (plan : Plan) (need : ℕ) where
  end_keeps : (e : ScenarioEnd) (k : ℕ) → e ≢ scenario_end.Budget need → Keeps plan need (ended plan (end_of e) k)
  end_keeps scenario_end.Normal k other = λ is. absurd (cc is)
  end_keeps scenario_end.Deadlock k other = λ is. absurd (cc is)
  end_keeps (scenario_end.Raise z) k other = λ is. absurd (cc is)
  end_keeps (scenario_end.Fault f) k other = λ is. absurd (cc is)
  end_keeps scenario_end.TooLarge k other = λ is. absurd (cc is)
  end_keeps (scenario_end.Budget n) k other = λ is. other (let same : n ≡ need = cc is in ap scenario_end.Budget same)

  instant_keeps : (k : ℕ) (i : Instant State) (go : State → List Value → Stream → Stream → Play) (c o : Stream) → i ≢ over (scenario_end.Budget need)
      → ((m : State) (y : List Value) (s t : Stream) → Keeps plan need (go m y s t)) → Keeps plan need (instant_made rules plan k i go c o)
  instant_keeps k (values m) go c o other keeps = told_keeps plan need (made_by rules k m) (go m) (keeps m) plan.controller c o
  instant_keeps k (over e) go c o other keeps = end_keeps e (end_number (end_of e) (k - 1)) (λ is. other (ap over is))

  from_keeps : ((s : State) (y : List Value) → rules.instant s y ≢ over (scenario_end.Budget need)) → (left k : ℕ) (m : State) (y : List Value) (c o : Stream) → Keeps plan need (play_from rules plan left k m y c o)
  from_keeps never zero k m y c o = λ is. absurd (cc is)
  from_keeps never (suc left) k m y c o = instant_keeps k (rules.instant m y) (play_from rules plan left (k + 1)) c o (never m y) (λ n z s t. from_keeps never left (k + 1) n z s t)

module _ {State : Type 0} where
  pub plays_keep_to_their_rules : PlaysKeepToTheirRules State
  plays_keep_to_their_rules rules plan limit m c o never need = from_keeps rules plan need (λ s y. never s y need) limit 1 m (first_inputs plan.scene) c o

-- ---- what a budget tells, and where there is none

and_right : (a b : Bool) → (a && b) ≡ true → b ≡ true
and_right true b is = is
and_right false b is = absurd (cc is)

module _ {State : Type 0} (rules : Rules State) (plan : Plan) (limit : ℕ) (m : State) (c o : Stream) where
  caused : KnowNoBudget rules → (u : GivenUp) (need : ℕ) (play : Play) → play.stop ≡ ends (end.Budget need) → GivesUp rules plan limit m c o u play
      → (ps : List Piece) × (p : Place State) × ComesTo rules plan limit m c o ps p × (rules.may_give_up p.machine p.inputs need ≡ true) × (play ≡ cut_by_budget plan need ps)
  caused never u need play stops (unmet each same) = absurd (plays_keep_to_their_rules rules plan limit m c o never need (sym (ap (λ (p : Play). p.stop) same) ∙ stops))
  caused never u need play stops (cut ps p comes is line) =
      let both : ends (end.Budget u.need) ≡ ends (end.Budget need) = sym (ap (λ (p : Play). p.stop) line) ∙ stops in
      let same : u.need ≡ need = cc both in
      let may : rules.may_give_up p.machine p.inputs u.need ≡ true = and_right (has_made (rules.made p.machine) u.behind) (rules.may_give_up p.machine p.inputs u.need) is in
      (ps, p, comes, subst (λ (n : ℕ). rules.may_give_up p.machine p.inputs n ≡ true) same may, line ∙ ap (λ (n : ℕ). cut_by_budget plan n ps) same)

  alike : EachInstant (NeverGivenUp rules) rules plan limit (first_place plan m c o) → (u : GivenUp) (play : Play) → GivesUp rules plan limit m c o u play → play ≡ play_of rules plan limit m c o
  alike never u play (unmet each same) = same
  alike never u play (cut ps p comes is line) =
      let may : rules.may_give_up p.machine p.inputs u.need ≡ true = and_right (has_made (rules.made p.machine) u.behind) (rules.may_give_up p.machine p.inputs u.need) is in
      let no : true ≡ false = sym may ∙ never (step_count ps) p (omega (arith, comes.counts)) comes.stands u.need in
      absurd (cc no)

module _ {State : Type 0} where
  pub budgets_have_a_cause : BudgetsHaveACause State
  budgets_have_a_cause rules plan limit m c o never None need stops = absurd (plays_keep_to_their_rules rules plan limit m c o never need stops)
  budgets_have_a_cause rules plan limit m c o never (Some u) need stops = caused rules plan limit m c o never u need (play_of (giving_up (Some u) rules) plan limit m c o) stops (giving_up_is_a_cut rules plan limit m c o u)

  pub affordable_runs_are_the_same : AffordableRunsAreTheSame State
  affordable_runs_are_the_same rules plan limit m c o never None = refl
  affordable_runs_are_the_same rules plan limit m c o never (Some u) = alike rules plan limit m c o never u (play_of (giving_up (Some u) rules) plan limit m c o) (giving_up_is_a_cut rules plan limit m c o u)
