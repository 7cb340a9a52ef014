-- The variables of a scenario: they are few, their names have no line feed, and their ranges are some that their kinds may have.
use Rattle.std.proofs.Common.{◌≡◌, ℕ, suc, ◌+◌, ◌^◌, ◌<◌, ◌≤◌, Bool, true, false, ◌&&◌, ◌||◌, ◌==◌, nat_le, IsTrue, List, [], ◌∷◌, ◌++◌, map, length, decimal, Option, Ok, refl, ap, sym, subst, ◌∙◌, arith}
use Rattle.std.specs.Char.{is_ascii_digit}
use Rattle.std.specs.Int.{IsInRange}
use Rattle.std.specs.List.{flat_map, list_all}
use Rattle.std.specs.Str.{all_ascii_digits}
use Rattle.std.specs.Str.Parse.{digits_value}
use Rattle.std.proofs.lemmas.Bool.Decides.{nat_tests}
use Rattle.std.proofs.lemmas.Fmt.{digits_decimal}
use Rattle.std.proofs.lemmas.Grind.{flat_map-append}
use Rattle.std.proofs.lemmas.List.{length-map}
use Rattle.std.proofs.lemmas.List.Folds.{list_any-append}
use Rattle.std.proofs.lemmas.Str.Parse.{digit_at, numerals_by_value, tells_all_ascii_digits, IsNumeralModel}
use Rattle.lt_ast.specs.Syntax.{Declaration}
use Rattle.lt_expand.specs.Nested.{runs_in_nest}
use Rattle.lt_expand.specs.Refusals.{node_refusals, refusals_of}
use Rattle.lt_expand.specs.Scenes.{local_name, locals_of, scene_of, variable_of}
use Rattle.lt_formula.specs.Domain.{IsDomain}
use Rattle.lt_formula.specs.Limits.{most_alternatives, most_variables}
use Rattle.lt_loop.specs.Scene.{declared_as}
use Rattle.lt_macros.specs.Expanded.{Declared, Expanded, eps, dead, con, raise, seq, loop, count, any, pri, par, assert, exist, catch, try, Parts, no_part, part, Node, all_inputs}
use Rattle.lt_macros.specs.Failing.{unless}
use Rattle.lt_macros.specs.Limits.{most_expression_depth, most_nodes, most_term_depth, passed_limits}
use Rattle.lt_macros.specs.Naming.{AreEachNamed, AreNamed, HaveDomains, NamesAreThere}
use Rattle.lt_macros.specs.Nodes.{alternatives_at, drawn_count, expression_depth, node_count, term_depth}
use Rattle.lt_macros.specs.Preorder.{Item, expressions_in, items, items_in, local_at, locals_in}
use Rattle.lt_macros.specs.declared.limit.Limit.TheVariants.{Nodes, Depth, Children, Variables}
use Rattle.lt_num.specs.Bounds.{most_decimals}
use Rattle.lt_play.specs.Rules.{known_scene, known_variable}
use Rattle.lt_frontend.specs.Prepared.{IsScenarioAnswer, IsSceneOf, has_scenario}
use Rattle.lt_trace_laws.specs.Replay.{IsTraceable}
use Rattle.lt_rif.specs.ReadBack.{AreOnLines}
use Rattle.lt_grammar.specs.Text.{IsProgramOf}
use Rattle.lt_grammar.specs.Written.{WrittenAsSpelled}
use Rattle.lt_lexer.specs.Source.{StandInTurn}
use Rattle.lt_lexer.specs.Tokenization.{IsTokenization}
use Rattle.lt_lexer.specs.declared.token.Token.{Token}
use Rattle.lt_term.specs.Scene.{Scene, Variable}
use Rattle.lt_scenario_laws.specs.Traced.{IsScenarioOf, ScenariosAreTraceable}
use Rattle.lt_scenario_laws.proofs.Declaring.{Each, EachLocal, EachLocalIn, IsLined, IsLinedNode, each_append, node_on_lines}
use Rattle.lt_scenario_laws.proofs.Words.{IsOnLine, program_on_lines}

-- ---- the locals of a node

both_have : (P : Declared → Type 0) (xs ys : List Item) → Each P (flat_map local_at xs) → Each P (flat_map local_at ys) → Each P (flat_map local_at (xs ++ ys))
both_have P xs ys h k = subst (Each P) (sym (flat_map-append local_at xs ys)) (each_append P (flat_map local_at xs) (flat_map local_at ys) h k)

-- what holds of each local that a trace declares holds of them as a list
mutual
  each_in_turn : (P : Declared → Type 0) (x : Expanded) → EachLocal P x → Each P (flat_map local_at (items x))
  each_in_turn P eps h = tt
  each_in_turn P dead h = tt
  each_in_turn P (con e) h = tt
  each_in_turn P (raise z) h = tt
  each_in_turn P (seq x y) h = both_have P (items x) (items y) (each_in_turn P x h.0) (each_in_turn P y h.1)
  each_in_turn P (loop x) h = each_in_turn P x h
  each_in_turn P (count i b x) h = each_in_turn P x h
  each_in_turn P (any ps) h = each_part_in_turn P ps h
  each_in_turn P (pri x y) h = both_have P (items x) (items y) (each_in_turn P x h.0) (each_in_turn P y h.1)
  each_in_turn P (par x y) h = both_have P (items x) (items y) (each_in_turn P x h.0) (each_in_turn P y h.1)
  each_in_turn P (assert e x) h = each_in_turn P x h
  each_in_turn P (exist i d x) h = (h.0, each_in_turn P x h.1)
  each_in_turn P (catch z x k) h = both_have P (items x) (items k) (each_in_turn P x h.0) (each_in_turn P k h.1)
  each_in_turn P (try x k) h = both_have P (items x) (items k) (each_in_turn P x h.0) (each_in_turn P k h.1)

  each_part_in_turn : (P : Declared → Type 0) (ps : Parts) → EachLocalIn P ps → Each P (flat_map local_at (items_in ps))
  each_part_in_turn P no_part h = tt
  each_part_in_turn P (part w x ps) h = both_have P (items x) (items_in ps) (each_in_turn P x h.0) (each_part_in_turn P ps h.1)

-- ---- ranges

-- a variable's range is one that its kind may have
abbrev HasDomain : Declared → Type 0
HasDomain d = IsDomain d.kind d.range

mutual
  local_domains : (ins outs : ℕ) (x : Expanded) → AreNamed ins outs x → EachLocal HasDomain x
  local_domains ins outs eps h = tt
  local_domains ins outs dead h = tt
  local_domains ins outs (con e) h = tt
  local_domains ins outs (raise z) h = tt
  local_domains ins outs (seq x y) h = (local_domains ins outs x h.0, local_domains ins outs y h.1)
  local_domains ins outs (loop x) h = local_domains ins outs x h
  local_domains ins outs (count i b x) h = local_domains ins outs x h
  local_domains ins outs (any ps) h = part_domains ins outs ps h
  local_domains ins outs (pri x y) h = (local_domains ins outs x h.0, local_domains ins outs y h.1)
  local_domains ins outs (par x y) h = (local_domains ins outs x h.0, local_domains ins outs y h.1)
  local_domains ins outs (assert e x) h = local_domains ins outs x h.1
  local_domains ins outs (exist i d x) h = (h.0, local_domains ins outs x h.1)
  local_domains ins outs (catch z x k) h = (local_domains ins outs x h.0, local_domains ins outs k h.1)
  local_domains ins outs (try x k) h = (local_domains ins outs x h.0, local_domains ins outs k h.1)

  part_domains : (ins outs : ℕ) (ps : Parts) → AreEachNamed ins outs ps → EachLocalIn HasDomain ps
  part_domains ins outs no_part h = tt
  part_domains ins outs (part w x ps) h = (local_domains ins outs x h.1.0, part_domains ins outs ps h.1.1)

-- the ranges of a scenario's variables are some that their kinds may have
abbrev pub HaveRanges : List Variable → Type 0
HaveRanges [] = Unit {0}
HaveRanges (v ∷ vs) = IsDomain v.kind v.range × HaveRanges vs

variables_have : (decimals : ℕ) (ds : List Declared) → HaveDomains ds → HaveRanges (map (variable_of decimals) ds)
variables_have decimals [] h = tt
variables_have decimals (d ∷ ds) h = (h.0, variables_have decimals ds h.1)

locals_have : (decimals number : ℕ) (ds : List Declared) → Each HasDomain ds → HaveRanges (locals_of decimals number ds)
locals_have decimals number [] h = tt
locals_have decimals number (d ∷ ds) h = (h.0, locals_have decimals (suc number) ds h.1)

-- ---- names on lines

either_none : (a b : Bool) → a ≡ false → b ≡ false → a || b ≡ false
either_none a b h k = rw (h, k) refl

none_append : (xs ys : List ℕ) → IsOnLine xs → IsOnLine ys → IsOnLine (xs ++ ys)
none_append xs ys h k = rw (list_any-append (λ (b : ℕ). b == 10) xs ys) (either_none _ _ h k)

-- digits have no line feed
own : IsNumeralModel (λ ds. all_ascii_digits ds ≡ true) (digits_value 10)
own = numerals_by_value _ tells_all_ascii_digits

no_feed : (c : ℕ) → 48 ≤ c → c == 10 ≡ false
no_feed c low = grind (arith, nat_tests)

first_digit : (x : ℕ) (xs : List ℕ) → IsTrue (all_ascii_digits (x ∷ xs)) → x == 10 ≡ false
first_digit x xs h =
    let r : IsInRange 48 57 x = digit_at (x ∷ xs) 0 (own.to (x ∷ xs) h) (omega arith) in
    let low : 48 ≤ x = omega arith in
    no_feed x low

rest_digits : (x : ℕ) (xs : List ℕ) → IsTrue (all_ascii_digits (x ∷ xs)) → IsTrue (all_ascii_digits xs)
rest_digits x xs h = elim (is_ascii_digit x) as (λ t. IsTrue (t && all_ascii_digits xs) → IsTrue (all_ascii_digits xs)) [ true ↦ λ g. g | false ↦ λ g. absurd (cc) ] h

digits_on_line : (ds : List ℕ) → IsTrue (all_ascii_digits ds) → IsOnLine ds
digits_on_line [] h = refl
digits_on_line (d ∷ ds) h = rw (first_digit d ds h) (digits_on_line ds (rest_digits d ds h))

-- and so the name of a local has none
local_on_line : (name : List ℕ) (number : ℕ) → suc number < 2 ^ 64 → IsOnLine name → IsOnLine (local_name name number)
local_on_line name number small h = none_append name (46 ∷ decimal (suc number)) h (digits_on_line (decimal (suc number)) (digits_decimal own (suc number) small))

variables_on_lines : (decimals : ℕ) (ds : List Declared) → Each IsLined ds → AreOnLines (map declared_as (map known_variable (map (variable_of decimals) ds)))
variables_on_lines decimals [] h = tt
variables_on_lines decimals (d ∷ ds) h = (h.0, variables_on_lines decimals ds h.1)

locals_on_lines : (decimals number : ℕ) (ds : List Declared) → number + length ds ≤ 1_000 → Each IsLined ds → AreOnLines (map declared_as (map known_variable (locals_of decimals number ds)))
locals_on_lines decimals number [] few h = tt
locals_on_lines decimals number (d ∷ ds) few h = (local_on_line d.name number (omega (arith, few)) h.0, locals_on_lines decimals (suc number) ds (omega (arith, few)) h.1)

locals_many : (decimals number : ℕ) (ds : List Declared) → length (locals_of decimals number ds) ≡ length ds
locals_many decimals number [] = refl
locals_many decimals number (d ∷ ds) = ap suc (locals_many decimals (suc number) ds)

-- ---- how many there are

none_first : {X : Type 0} (xs ys : List X) → xs ++ ys ≡ [] → xs ≡ []
none_first [] ys h = refl
none_first (x ∷ xs) ys h = absurd (cc)

none_second : {X : Type 0} (xs ys : List X) → xs ++ ys ≡ [] → ys ≡ []
none_second [] ys h = h
none_second (x ∷ xs) ys h = absurd (cc)

none_mapped : {X Y : Type 0} (f : X → Y) (xs : List X) → map f xs ≡ [] → xs ≡ []
none_mapped f [] h = refl
none_mapped f (x ∷ xs) h = absurd (cc)

passes : {X : Type 0} (b : Bool) (x : X) → unless b x ≡ [] → b ≡ true
passes true x h = refl
passes false x h = absurd (cc)

both_pass : (a b : Bool) → a && b ≡ true → (a ≡ true) × (b ≡ true)
both_pass true b h = (refl, h)
both_pass false b h = absurd (cc)

at_most : (a b : ℕ) → nat_le a b ≡ true → a ≤ b
at_most a b h = grind (arith, nat_tests)

-- a node that isn't past a limit has few variables
few_in : (node : Node) → passed_limits node ≡ [] → (length (all_inputs node) ≤ 128) × (length node.outputs + length (locals_in node) ≤ 128)
few_in node none =
    let first = unless (nat_le (node_count node) most_nodes) Nodes in
    let second = unless (nat_le (term_depth node.body) most_term_depth && list_all (λ e. nat_le (expression_depth e) most_expression_depth) (expressions_in node)) Depth in
    let third = unless (list_all (λ x. nat_le (alternatives_at x) most_alternatives) (items node.body)) Children in
    let given = nat_le (length (all_inputs node)) most_variables in
    let drawn = nat_le (drawn_count node) most_variables in
    let fourth = unless (given && drawn) Variables in
    let tests = both_pass given drawn (passes (given && drawn) Variables (none_second third fourth (none_second second (third ++ fourth) (none_second first (second ++ (third ++ fourth)) none)))) in
    (at_most (length (all_inputs node)) most_variables tests.0, at_most (drawn_count node) most_variables tests.1)

-- ---- scenarios

-- what the scenario of a text is made of
scenario_made : (decimals : ℕ) (node : Option (List ℕ)) (text : List ℕ) (scene : Scene) → IsScenarioAnswer decimals node text (Ok scene) → (program : List Declaration) × IsProgramOf text program × IsSceneOf decimals node program scene
scenario_made decimals asked text scene (has_scenario program same is typed made) = (program, is, made)

-- what is refused first of all of a node is its size
sizes_first : (decimals : ℕ) (node : Option (List ℕ)) (program : List Declaration) (scene : Scene) (made : IsSceneOf decimals node program scene) → passed_limits made.2.0 ≡ []
sizes_first decimals wanted program scene made =
    let tree = made.2.0 in
    let none = subst (λ asked. refusals_of decimals (runs_in_nest wanted program) asked ≡ []) made.2.1 made.0 in
    none_mapped _ (passed_limits tree) (none_first _ _ (none_first (node_refusals decimals tree) _ none))

tree_traceable : (decimals : ℕ) (node : Node) → decimals ≤ most_decimals → passed_limits node ≡ [] → IsLinedNode node → IsTraceable (known_scene (scene_of decimals node))
tree_traceable decimals node fine none lined =
    let few = few_in node none in
    let ins = length-map (map (variable_of decimals) (all_inputs node)) known_variable ∙ length-map (all_inputs node) (variable_of decimals) in
    let outs = length-map (map (variable_of decimals) node.outputs) known_variable ∙ length-map node.outputs (variable_of decimals) in
    let locals = length-map (locals_of decimals 0 (locals_in node)) known_variable ∙ locals_many decimals 0 (locals_in node) in
    let drawn = few.1 in
    let given = few.0 in
    record {
      decimals = fine;
      few = omega (arith, ins, outs, locals, drawn, given);
      outputs = variables_on_lines decimals node.outputs lined.outputs;
      inputs = variables_on_lines decimals (all_inputs node) lined.inputs;
      locals = locals_on_lines decimals 0 (locals_in node) (omega (arith, drawn)) (each_in_turn IsLined node.body lined.body);
    }

pub scenarios_are_traceable : ((text : List ℕ) (tokens : List Token) → IsTokenization text tokens → StandInTurn text 0 tokens) → WrittenAsSpelled → ScenariosAreTraceable
scenarios_are_traceable stand written decimals node text scene is =
    let parts = scenario_made decimals node text scene is.is in
    let made = parts.2 in
    let lined = node_on_lines decimals node parts.0 made.2.0 (program_on_lines stand written text parts.0 parts.1) made.2.1 in
    subst (λ (s : Scene). IsTraceable (known_scene s)) (sym made.2.2) (tree_traceable decimals made.2.0 is.few (sizes_first decimals node parts.0 scene made) lined)

-- the ranges of all variables of a scenario
pub record HasRanges (s : Scene) : Type 0 where
  pub outputs : HaveRanges s.outputs
  pub locals : HaveRanges s.locals

pub scenario_has_ranges : NamesAreThere → (decimals : ℕ) (node : Option (List ℕ)) (text : List ℕ) (scene : Scene) → IsScenarioOf decimals node text scene → HasRanges scene
scenario_has_ranges there decimals node text scene is =
    let parts = scenario_made decimals node text scene is.is in
    let made = parts.2 in
    let tree = made.2.0 in
    let named = there decimals node parts.0 tree made.2.1 in
    subst HasRanges (sym made.2.2) (record {
      outputs = variables_have decimals tree.outputs named.outputs;
      locals = locals_have decimals 0 (locals_in tree) (each_in_turn HasDomain tree.body (local_domains (length (all_inputs tree)) (length tree.outputs) tree.body named.body));
    })
