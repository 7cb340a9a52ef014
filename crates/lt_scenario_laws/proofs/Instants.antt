-- What an instant of a scenario gives, and what a run shows of it.
use Rattle.std.proofs.Common.{◌≡◌, ℕ, zero, suc, ◌≤◌, Bool, true, false, not, if◌then◌else◌, IsTrue, List, [], ◌∷◌, ◌++◌, map, length, replicate, Option, None, Some, MatchOption, ℤ, pos, ◌≤ℤ◌, refl, ap, sym, subst, ◌∙◌, arith}
use Rattle.std.specs.Prelude.{Contains, slice_index_or, unsigned_abs}
use Rattle.std.specs.Ordering.{int_eq}
use Rattle.std.proofs.lemmas.Int.{ints}
use Rattle.lt_draw.specs.declared.directions.Draw.{Draw}
use Rattle.lt_formula.specs.Domain.{IsDomain}
use Rattle.lt_formula.specs.Expression.{Expression}
use Rattle.lt_formula.specs.Solution.{IsPointOf}
use Rattle.lt_loop.specs.Machine as l
use Rattle.lt_loop.specs.Machine.{GivenUp, giving_up, is_given_up, over, values}
use Rattle.lt_loop.specs.declared.machine.ScenarioEnd.TheVariants as scenario_end
use Rattle.lt_loop.specs.Scene.{first_inputs, passed_slot}
use Rattle.lt_num.specs.Bounds.{most_raw}
use Rattle.lt_num.specs.Range.{HasPoints, PointsAreThose, TestTellsPoints, is_point, points_of}
use Rattle.lt_num.specs.Value.{raw_of, value_of}
use Rattle.lt_num.specs.declared.kind.Kind.{Kind}
use Rattle.lt_num.specs.declared.kind.Kind.TheVariants as kind
use Rattle.lt_num.specs.declared.range.Range.{Range}
use Rattle.lt_num.specs.declared.value.Value.{Value}
use Rattle.lt_num.specs.declared.value.Value.TheVariants as value
use Rattle.lt_rif.specs.Enough.{AreLocalsSized, IsSized}
use Rattle.lt_rif.specs.ReadBack.{HoldAll}
use Rattle.lt_space.specs.Formula.{Formula}
use Rattle.lt_space.specs.Scope.{range_in, ranges_in}
use Rattle.lt_term.specs.Configuration.{Configuration}
use Rattle.lt_term.specs.Evaluated as e
use Rattle.lt_term.specs.Fitting.{IsValueOf}
use Rattle.lt_term.specs.Process.{Process}
use Rattle.lt_term.specs.Scene.{Scene, Variable}
use Rattle.lt_term.specs.Tree.{Lasts}
use Rattle.lt_instant.specs.Drawn.{Met}
use Rattle.lt_instant.specs.Instant as i
use Rattle.lt_instant.specs.Instant.{Leaf, go_instant, instant_of, is_too_large, leaf_instant, taken_in, taken_instant, words_of}
use Rattle.lt_instant.specs.Legal.{SolutionsPass}
use Rattle.lt_instant.specs.Solved.{CanHold, holds_of, is_in_scope, locals_by, marks_from, outputs_by, ranges_at, ranges_of_all, scoped, solution_of, values_from}
use Rattle.lt_step.specs.Machine.{Phase, State, answered, finished, locals_in, outputs_in, outputs_of, running, started, step_in}
use Rattle.lt_play.proofs.Public.{value_within}
use Rattle.lt_play.specs.Rules.{instant_by, known_scene, known_variable, scenario_rules}
use Rattle.lt_trace_laws.specs.Replay.{Shows, ShowsFor}
use Rattle.lt_macros.specs.Naming.{NamesAreThere}
use Rattle.lt_scenario_laws.specs.Traced.{AreValuesOf, InstantsGiveTheirOwn, MayBeValuesOf, ScenariosShowTheirInstants}
use Rattle.lt_scenario_laws.proofs.Variables.{HasRanges, HaveRanges, scenario_has_ranges}

-- ---- values of raw numbers

flag_again : (b : Bool) → value_of kind.Bool (raw_of (value.Bool b)) ≡ value.Bool b
flag_again true = refl
flag_again false = refl

value_again : (k : Kind) (z : ℤ) → value_of k (raw_of (value_of k z)) ≡ value_of k z
value_again kind.Bool z = flag_again (not (int_eq z (pos 0)))
value_again kind.Int z = refl
value_again kind.Real z = refl

-- a point of a range passes the test of points
abbrev PointsPass : Type 0
PointsPass = (r : Range) (z : ℤ) → HasPoints r → Contains (points_of r) z → IsTrue (is_point r z)

points_pass : PointsAreThose → TestTellsPoints → PointsPass
points_pass those tells r z has is = (tells r z has).1 (((those r has).0 z).0 is)

flag_point : (b : Bool) → IsTrue (is_point (record { low = pos 0; high = pos 1; step = pos 1 }) (raw_of (value.Bool b)))
flag_point true = refl
flag_point false = refl

value_point : (k : Kind) (r : Range) (z : ℤ) → IsDomain k r → IsTrue (is_point r z) → IsTrue (is_point r (raw_of (value_of k z)))
value_point kind.Bool r z domain is =
    let flag = not (int_eq z (pos 0)) in
    let P : Range → Type 0 = λ q. IsTrue (is_point q (raw_of (value.Bool flag))) in
    subst P (sym (domain.boolean refl)) (flag_point flag)
value_point kind.Int r z domain is = is
value_point kind.Real r z domain is = is

-- a point of a variable's range stands for one of its values
own_value : PointsPass → (v : Variable) (z : ℤ) → IsDomain v.kind v.range → Contains (points_of v.range) z → IsValueOf v.kind v.range (value_of v.kind z)
own_value pass v z domain is = record { of_kind = value_again v.kind z; point = value_point v.kind v.range z domain (pass v.range z domain.points is) }

-- ---- a point of the ranges of an instant

values_next : (k : ℕ) (vs : List Variable) (z : ℤ) (raws : List ℤ) → values_from (suc k) vs (z ∷ raws) ≡ values_from k vs raws
values_next k [] z raws = refl
values_next k (v ∷ vs) z raws = λ i. value_of v.kind (slice_index_or raws k (pos 0)) ∷ values_next (suc k) vs z raws i

-- its first numbers stand for values of the outputs
outputs_own : PointsPass → (vs : List Variable) (marks : List Bool) (rs : List Range) (raws : List ℤ) → HaveRanges vs → IsPointOf (ranges_in (replicate (length vs) true ++ marks) (ranges_of_all vs ++ rs)) raws → AreValuesOf vs (values_from 0 vs raws)
outputs_own pass [] marks rs raws has point = tt
outputs_own pass (v ∷ vs) marks rs [] has point = absurd point
outputs_own pass (v ∷ vs) marks rs (z ∷ raws) has point = (own_value pass v z has.0 point.0, subst (AreValuesOf vs) (sym (values_next 0 vs z raws)) (outputs_own pass vs marks rs raws has.1 point.1))

local_own : PointsPass → (is_open : Bool) (v : Variable) (z : ℤ) (vs : List Variable) (xs : List (Option Value)) → IsDomain v.kind v.range → Contains (points_of (range_in is_open v.range)) z → MayBeValuesOf vs xs
    → MayBeValuesOf (v ∷ vs) ((if is_open then Some (value_of v.kind z) else None) ∷ xs)
local_own pass true v z vs xs domain is rest = (own_value pass v z domain is, rest)
local_own pass false v z vs xs domain is rest = rest

locals_own : PointsPass → (ls : Lasts) (x : ℕ) (vs : List Variable) (raws : List ℤ) → HaveRanges vs → IsPointOf (ranges_in (marks_from ls x vs) (ranges_of_all vs)) raws → MayBeValuesOf vs (scoped ls x (values_from 0 vs raws))
locals_own pass ls x [] raws has point = tt
locals_own pass ls x (v ∷ vs) [] has point = absurd point
locals_own pass ls x (v ∷ vs) (z ∷ raws) has point =
    local_own pass (is_in_scope ls x) v z vs (scoped ls (suc x) (values_from 1 vs (z ∷ raws))) has.0 point.0
    (subst (λ (xs : List Value). MayBeValuesOf vs (scoped ls (suc x) xs)) (sym (values_next 0 vs z raws)) (locals_own pass ls (suc x) vs raws has.1 point.1))

-- the numbers after them stand for values of the locals
locals_after : PointsPass → (outs vs : List Variable) (ls : Lasts) (raws : List ℤ) → HaveRanges vs → IsPointOf (ranges_in (replicate (length outs) true ++ marks_from ls 0 vs) (ranges_of_all outs ++ ranges_of_all vs)) raws
    → MayBeValuesOf vs (scoped ls 0 (values_from (length outs) vs raws))
locals_after pass [] vs ls raws has point = locals_own pass ls 0 vs raws has point
locals_after pass (o ∷ outs) vs ls [] has point = absurd point
locals_after pass (o ∷ outs) vs ls (z ∷ raws) has point = subst (λ (xs : List Value). MayBeValuesOf vs (scoped ls 0 xs)) (sym (values_next (length outs) vs z raws)) (locals_after pass outs vs ls raws has point.1)

-- ---- a solution

-- a solution, if there is one, is a point of these ranges
abbrev IsPoint : List Range → Option (List ℤ) → Type 0
IsPoint rs None = Unit {0}
IsPoint rs (Some raws) = IsPointOf rs raws

solved : (rs : List Range) (A : Type 0) (B : List ℤ → Type 0) (o : Option (List ℤ)) → MatchOption o A (λ raws. IsPointOf rs raws × B raws) → IsPoint rs o
solved rs A B None h = tt
solved rs A B (Some raws) h = h.0

solution_is_point : SolutionsPass → (s : Scene) (draw : Draw) (word : ℕ → ℕ) (ls : Lasts) (f : Formula) → IsPoint (ranges_at s ls) (solution_of s draw word ls f)
solution_is_point law s draw word ls f = solved (ranges_at s ls) (CanHold s f ls → ⊥) (λ raws. IsTrue (holds_of s f raws)) (solution_of s draw word ls f) (law s draw word ls f)

-- ---- an instant

-- An instant that gives values gives each output one of its own, and so each local that it gives one; and the run goes on from
-- these outputs.
abbrev GivesOwn : Scene → i.Instant → Type 0
GivesOwn s made =
    (outputs : List Value) (locals : List (Option Value)) (next : Configuration) → made ≡ i.values outputs locals next →
    AreValuesOf s.outputs outputs × MayBeValuesOf s.locals locals × (outputs_of next.previous ≡ outputs)

values_own : (s : Scene) (xs : List Value) (ys : List (Option Value)) (c : Configuration) → AreValuesOf s.outputs xs → MayBeValuesOf s.locals ys → outputs_of c.previous ≡ xs → GivesOwn s (i.values xs ys c)
values_own s xs ys c first second third outputs locals next is =
    let one : xs ≡ outputs = cc in
    let two : ys ≡ locals = cc in
    let three : c ≡ next = cc in
    (subst (AreValuesOf s.outputs) one first, subst (MayBeValuesOf s.locals) two second, sym (ap (λ (x : Configuration). outputs_of x.previous) three) ∙ third ∙ one)

module _ (law : SolutionsPass) (pass : PointsPass) (s : Scene) (has : HasRanges s) where
  go_own : (c : Configuration) (y : List Value) (ls : Lasts) (n : Process Expression) (o : Option (List ℤ)) → IsPoint (ranges_at s ls) o → GivesOwn s (go_instant s c y ls n o)
  go_own c y ls n None point = λ outputs locals next is. absurd (cc)
  go_own c y ls n (Some raws) point =
      values_own s (outputs_by s raws) (scoped ls 0 (locals_by s raws)) _ (outputs_own pass s.outputs (marks_from ls 0 s.locals) (ranges_of_all s.locals) raws has.outputs point) (locals_after pass s.outputs s.locals ls raws has.locals point) refl

  leaf_own : (seed : ℕ) (draw : Draw) (c : Configuration) (y : List Value) (l : Leaf) → GivesOwn s (leaf_instant s seed draw c y l)
  leaf_own seed draw c y e.vanish = λ outputs locals next is. absurd (cc)
  leaf_own seed draw c y e.nothing = λ outputs locals next is. absurd (cc)
  leaf_own seed draw c y (e.raised z) = λ outputs locals next is. absurd (cc)
  leaf_own seed draw c y (e.faulty f) = λ outputs locals next is. absurd (cc)
  leaf_own seed draw c y (e.go f ls n) =
      go_own c y ls n (solution_of s draw (words_of seed c) ls f) (solution_is_point law s draw (words_of seed c) ls f)

  taken_own : (seed : ℕ) (draw : Draw) (c : Configuration) (y : List Value) (o : Option (Met Formula (Process Expression))) → GivesOwn s (taken_instant s seed draw c y o)
  taken_own seed draw c y None = λ outputs locals next is. absurd (cc)
  taken_own seed draw c y (Some met) = leaf_own seed draw c y met.outlook

  fitting_own : (large : Bool) (made : i.Instant) → GivesOwn s made → GivesOwn s (if large then i.too_large else made)
  fitting_own true made own = λ outputs locals next is. absurd (cc)
  fitting_own false made own = own

  instant_own : (seed : ℕ) (draw : Draw) (c : Configuration) (y : List Value) → GivesOwn s (instant_of s seed draw c y)
  instant_own seed draw c y = fitting_own (is_too_large s c) (taken_instant s seed draw c y (taken_in s seed draw c y)) (taken_own seed draw c y (taken_in s seed draw c y))

-- ---- what a trace shows of it

between_small : (low high z : ℤ) → unsigned_abs low ≤ most_raw → unsigned_abs high ≤ most_raw → low ≤ℤ z → z ≤ℤ high → unsigned_abs z ≤ most_raw
between_small low high z h k a b = omega (arith, ints)

own_small : (k : Kind) (r : Range) (x : Value) → IsDomain k r → IsValueOf k r x → unsigned_abs (raw_of x) ≤ most_raw
own_small k r x domain own = let within = value_within k r x own in between_small r.low r.high (raw_of x) domain.low domain.high within.0 within.1

sized : (x : Value) → unsigned_abs (raw_of x) ≤ most_raw → IsSized x
sized (value.Bool b) small = tt
sized (value.Num z) small = omega (arith, small)

own_held : (vs : List Variable) (xs : List Value) → HaveRanges vs → AreValuesOf vs xs → HoldAll (map passed_slot (map known_variable vs)) xs
own_held [] [] has own = tt
own_held [] (x ∷ xs) has own = absurd own
own_held (v ∷ vs) [] has own = absurd own
own_held (v ∷ vs) (x ∷ xs) has own = let here = own.0 in (record { kind = here.of_kind; bound = own_small v.kind v.range x has.0 here; range = refl }, own_held vs xs has.1 own.1)

own_sized : (vs : List Variable) (xs : List (Option Value)) → HaveRanges vs → MayBeValuesOf vs xs → AreLocalsSized xs
own_sized [] [] has own = tt
own_sized [] (x ∷ xs) has own = absurd own
own_sized (v ∷ vs) [] has own = absurd own
own_sized (v ∷ vs) (None ∷ xs) has own = own_sized vs xs has.1 own
own_sized (v ∷ vs) (Some x ∷ xs) has own = (sized x (own_small v.kind v.range x has.0 own.0), own_sized vs xs has.1 own.1)

-- An instant of a machine shows what can be read back, and the machine goes on with its scenario.
abbrev IsShown : State → i.Instant → Type 0
IsShown m made = (next : State) → instant_by (answered m made) ≡ values next → (next.scene ≡ m.scene) × Shows (known_scene m.scene) (outputs_in next.phase) (locals_in next.phase)

made_shown : (m : State) → HasRanges m.scene → (made : i.Instant) → GivesOwn m.scene made → IsShown m made
made_shown m has (i.values outputs locals c) own next is =
    let here : State = record m { phase = running c locals } in
    let same : here ≡ next = cc in
    let all = own outputs locals c refl in
    let shows : Shows (known_scene m.scene) (outputs_of c.previous) locals = record {
      holds = subst (HoldAll (map passed_slot (map known_variable m.scene.outputs))) (sym all.2) (own_held m.scene.outputs outputs has.outputs all.0);
      sized = own_sized m.scene.locals locals has.locals all.1;
    } in
    subst (λ (x : State). (x.scene ≡ m.scene) × Shows (known_scene m.scene) (outputs_in x.phase) (locals_in x.phase)) same (refl, shows)
made_shown m has i.normal own next is = absurd (cc)
made_shown m has (i.raise z) own next is = absurd (cc)
made_shown m has i.deadlock own next is = absurd (cc)
made_shown m has (i.fault f) own next is = absurd (cc)
made_shown m has i.too_large own next is = absurd (cc)

phase_shown : SolutionsPass → PointsPass → (m : State) → HasRanges m.scene → (p : Phase) (y : List Value) (next : State) → instant_by (step_in m p y) ≡ values next
    → (next.scene ≡ m.scene) × Shows (known_scene m.scene) (outputs_in next.phase) (locals_in next.phase)
phase_shown law pass m has (running c locals) y next is = made_shown m has (instant_of m.scene m.seed m.draw c y) (instant_own law pass m.scene has m.seed m.draw c y) next is
phase_shown law pass m has finished y next is = absurd (cc)

-- one that has values isn't given up
not_given_up : {State : Type 0} (b : Bool) (need : ℕ) (made : l.Instant State) (next : State) → (if b then over (scenario_end.Budget need) else made) ≡ values next → made ≡ values next
not_given_up true need made next is = absurd (cc)
not_given_up false need made next is = is

kept_values : (u : Option GivenUp) (m : State) (y : List Value) (next : State) → (giving_up u scenario_rules).instant m y ≡ values next → scenario_rules.instant m y ≡ values next
kept_values None m y next is = is
kept_values (Some g) m y next is = not_given_up (is_given_up scenario_rules g m y) g.need (scenario_rules.instant m y) next is

-- so do all of a run
all_shown : SolutionsPass → PointsPass → (s : Scene) → HasRanges s → (u : Option GivenUp) (left : ℕ) (m : State) (y : List Value) → m.scene ≡ s → ShowsFor (giving_up u scenario_rules) (known_scene s) left m y
all_shown law pass s has u zero m y is = tt
all_shown law pass s has u (suc left) m y is = λ next at.
    let shown = phase_shown law pass m (subst HasRanges (sym is) has) m.phase y next (kept_values u m y next at) in (
      subst (λ (x : Scene). Shows (known_scene x) (outputs_in next.phase) (locals_in next.phase)) is shown.1,
      λ z fitting. all_shown law pass s has u left next z (shown.0 ∙ is),
    )

-- ---- the laws

pub instants_give_their_own : NamesAreThere → SolutionsPass → PointsAreThose → TestTellsPoints → InstantsGiveTheirOwn
instants_give_their_own there law those tells decimals node text scene seed draw c next inputs outputs locals is made =
    let own = instant_own law (points_pass those tells) scene (scenario_has_ranges there decimals node text scene is) seed draw c inputs outputs locals next made in
    (own.0, own.1)

pub scenarios_show_their_instants : NamesAreThere → SolutionsPass → PointsAreThose → TestTellsPoints → ScenariosShowTheirInstants
scenarios_show_their_instants there law those tells decimals node text scene seed budget draw limit u is =
    all_shown law (points_pass those tells) scene (scenario_has_ranges there decimals node text scene is) u limit (started scene seed budget draw) (first_inputs (known_scene scene)) refl
