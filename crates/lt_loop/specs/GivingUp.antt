-- Runs in which an instant is given up.
use Rattle.std.specs.Prelude.{◌≡◌, ◌≢◌, ℕ, true, false, List, Some}
use Rattle.std.specs.declared.option.Option.{Option}
use Rattle.lt_num.specs.declared.value.Value.{Value}
use Rattle.lt_rif.specs.Reply.{Stream}
use Rattle.lt_rif.specs.Trace.{end_number}
use Rattle.lt_rif.specs.declared.end.End.TheVariants as end
use Rattle.lt_loop.specs.Machine.{GivenUp, Rules, giving_up, is_given_up, over}
use Rattle.lt_loop.specs.Places.{ComesTo, EachInstant, Place, first_place}
use Rattle.lt_loop.specs.Plan.{Plan}
use Rattle.lt_loop.specs.Play.{Piece, Play, ended, ends, play_of, step_count}
use Rattle.lt_loop.specs.Run.{pieces_then}
use Rattle.lt_loop.specs.declared.machine.ScenarioEnd.TheVariants as scenario_end

-- the pieces before an instant, and the end line of a budget behind them
abbrev pub cut_by_budget : Plan → ℕ → List Piece → Play
cut_by_budget plan need ps =
    pieces_then ps (ended plan (end.Budget need) (end_number (end.Budget need) (step_count ps)))

-- What a run puts out in which an instant is given up. A row a way.
pub data GivesUp {State : Type 0} (rules : Rules State) (plan : Plan) (limit : ℕ) (m : State)
    (c o : Stream) (u : GivenUp) (given : Play) : Type 0 where
  -- what the run puts out, which comes to no instant that is given up
  unmet :
      EachInstant (λ s y. is_given_up rules u s y ≡ false) rules plan limit
      (first_place plan m c o) →
      given ≡ play_of rules plan limit m c o → GivesUp rules plan limit m c o u given
  -- the run comes to the instant that is given up: the pieces before that, and the end line
  cut : (ps : List Piece) (p : Place State) → ComesTo rules plan limit m c o ps p →
      is_given_up rules u p.machine p.inputs ≡ true → given ≡ cut_by_budget plan u.need ps →
      GivesUp rules plan limit m c o u given

-- A run in which an instant is given up is cut there.
abbrev pub GivingUpIsACut : Type 0 → Type 0
GivingUpIsACut State =
    (rules : Rules State) (plan : Plan) (limit : ℕ) (m : State) (c o : Stream) (u : GivenUp) →
    GivesUp rules plan limit m c o u (play_of (giving_up (Some u) rules) plan limit m c o)

-- no instant of these rules ends by a budget
abbrev pub KnowNoBudget : {State : Type 0} → Rules State → Type 0
KnowNoBudget {State} rules =
    (s : State) (y : List Value) (need : ℕ) →
    rules.instant s y ≢ over (scenario_end.Budget need)

-- Where no instant of the rules ends by a budget, no play does.
abbrev pub PlaysKeepToTheirRules : Type 0 → Type 0
PlaysKeepToTheirRules State =
    (rules : Rules State) (plan : Plan) (limit : ℕ) (m : State) (c o : Stream) →
    KnowNoBudget rules →
    (need : ℕ) → (play_of rules plan limit m c o).stop ≢ ends (end.Budget need)

-- Where no instant of the rules ends by a budget, a run in which one is given up, or none, ends so
-- only where it comes to an instant that may be given up with that need. It puts out the pieces
-- before that, and the end line.
abbrev pub BudgetsHaveACause : Type 0 → Type 0
BudgetsHaveACause State =
    (rules : Rules State) (plan : Plan) (limit : ℕ) (m : State) (c o : Stream) →
    KnowNoBudget rules →
    (u : Option GivenUp) (need : ℕ) →
    (play_of (giving_up u rules) plan limit m c o).stop ≡ ends (end.Budget need) →
    (ps : List Piece) × (p : Place State) × ComesTo rules plan limit m c o ps p
    × (rules.may_give_up p.machine p.inputs need ≡ true)
    × (play_of (giving_up u rules) plan limit m c o ≡ cut_by_budget plan need ps)

-- there is no need with which the next instant may be given up
abbrev pub NeverGivenUp : {State : Type 0} → Rules State → State → List Value → Type 0
NeverGivenUp rules s y = (need : ℕ) → rules.may_give_up s y need ≡ false

-- A run that comes to no instant that may be given up is the same, whatever is given up.
abbrev pub AffordableRunsAreTheSame : Type 0 → Type 0
AffordableRunsAreTheSame State =
    (rules : Rules State) (plan : Plan) (limit : ℕ) (m : State) (c o : Stream) →
    EachInstant (NeverGivenUp rules) rules plan limit (first_place plan m c o) →
    (u : Option GivenUp) →
    play_of (giving_up u rules) plan limit m c o ≡ play_of rules plan limit m c o
