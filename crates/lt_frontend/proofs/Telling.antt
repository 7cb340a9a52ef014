-- What the layers tell is the answer of the text.
use Rattle.std.proofs.Common.{◌≡◌, ◌⊎◌, inl, inr, ℕ, true, false, nat_lt, List, [], ◌∷◌, Option, None, Some, Ok, Err, Result, option_map, slice_get, refl, subst, sym}
use Rattle.lt_ast.specs.Printed.{printed}
use Rattle.lt_ast.specs.Syntax.{Declaration}
use Rattle.lt_expand.specs.Answer.{IsAnswer}
use Rattle.lt_expand.specs.Nested.{runs_in_nest}
use Rattle.lt_expand.specs.Refusals.{refusals_of}
use Rattle.lt_expand.specs.Scenes.{scene_of}
use Rattle.lt_expand.specs.declared.refusal.ExpandRefusal.{ExpandRefusal}
use Rattle.lt_expand.specs.declared.refusal.ExpandRefusal.TheVariants as expand
use Rattle.lt_macros.specs.Expanded.{Node}
use Rattle.lt_macros.specs.Expansion.{expanded_node}
use Rattle.lt_grammar.specs.Text.{IsProgramOf}
use Rattle.lt_parser.specs.Text.{IsRefusal}
use Rattle.lt_parser.specs.declared.refusal.ParseRefusal.{ParseRefusal}
use Rattle.lt_parser.specs.declared.refusal.ParseRefusal.TheVariants as parse
use Rattle.lt_term.specs.SceneView.{scene}
use Rattle.lt_term.specs.declared.scenario.Scenario.{Scenario}
use Rattle.lt_types.specs.Answer.{Leads, first, memory}
use Rattle.lt_types.specs.Refusals.{type_refusals}
use Rattle.lt_types.specs.Typing.{IsWellTyped}
use Rattle.lt_types.specs.declared.refusal.TypeRefusal.{TypeRefusal}
use Rattle.lt_types.specs.declared.refusal.TypeRefusal.TheVariants as types
use Rattle.lt_frontend.specs.Prepared.{IfRefused, IsPrintedAnswer, IsScenarioAnswer}
use Rattle.lt_frontend.specs.declared.refusal.Refusal.{Refusal}
use Rattle.lt_frontend.specs.declared.refusal.Refusal.TheVariants as refusal
use Rattle.lt_frontend.specs.inner.Wants.{of_expansion, of_text, of_types}

-- A text that spells no program.

pub text_told : (P : Refusal → Type 0) (text : List ℕ) (reason : ParseRefusal) → ((why : ParseRefusal) → IsRefusal text why → P (refusal.Text why)) → (reason ≡ parse.Memory) ⊎ IsRefusal text reason → IfRefused (of_text reason) P
text_told P text (parse.Lex why) row (inr is) = row (parse.Lex why) is
text_told P text (parse.Lex why) row (inl e) = absurd (cc)
text_told P text (parse.Unexpected at) row (inr is) = row (parse.Unexpected at) is
text_told P text (parse.Unexpected at) row (inl e) = absurd (cc)
text_told P text (parse.TooDeep at) row (inr is) = row (parse.TooDeep at) is
text_told P text (parse.TooDeep at) row (inl e) = absurd (cc)
text_told P text parse.Memory row h = tt

-- A program that isn't well typed.

refused_types : (P : Refusal → Type 0) (reason : TypeRefusal) → P (refusal.Types reason) → IfRefused (of_types reason) P
refused_types P (types.Unknown at) h = h
refused_types P (types.Twice at) h = h
refused_types P (types.Mismatch at) h = h
refused_types P (types.Arity at) h = h
refused_types P (types.PreOfExpression at) h = h
refused_types P (types.EmptyRange at) h = h
refused_types P (types.RangeTooLarge at) h = h
refused_types P types.NoNode h = h
refused_types P types.Memory h = tt
refused_types P (types.BadStep at) h = h

-- the first of these, or want of memory
pub led : (P : Refusal → Type 0) (reason : TypeRefusal) (rs : List TypeRefusal) → ((why : TypeRefusal) (others : List TypeRefusal) → rs ≡ why ∷ others → P (refusal.Types why)) → Leads reason rs → IfRefused (of_types reason) P
led P reason rs row (first why others) = refused_types P why (row why others refl)
led P reason rs row (memory others) = tt

pub types_told : (decimals : ℕ) (node : Option (List ℕ)) (text : List ℕ) (program : List Declaration) (reason : TypeRefusal) → IsProgramOf text program → Leads reason (type_refusals decimals program) → IfRefused (of_types reason) (λ r. IsScenarioAnswer decimals node text (Err r))
types_told decimals node text program reason spells leads =
    led (λ r. IsScenarioAnswer decimals node text (Err r)) reason (type_refusals decimals program) (λ why others e. IsScenarioAnswer.ill_typed program why spells (others, e)) leads

-- A node that has no scenario.

-- the head of a list that has one
pub head_of : {X : Type 0} (xs : List X) (x : X) → slice_get xs 0 ≡ Some x → (others : List X) × (xs ≡ x ∷ others)
head_of [] x h = absurd (cc)
head_of (y ∷ ys) x h = (ys, cc)

pub refused_expansion : (P : Refusal → Type 0) (decimals runs : ℕ) (asked : Option Node) (reason : ExpandRefusal) → ((why : ExpandRefusal) → slice_get (refusals_of decimals runs asked) 0 ≡ Some why → P (refusal.Expand why)) → IsAnswer decimals runs asked (Err reason) → IfRefused (of_expansion reason) P
refused_expansion P decimals runs asked expand.UnknownNode row h = row expand.UnknownNode h
refused_expansion P decimals runs asked (expand.TooLarge limit) row h = row (expand.TooLarge limit) h
refused_expansion P decimals runs asked (expand.BadStatic at) row h = row (expand.BadStatic at) h
refused_expansion P decimals runs asked (expand.NonLinear at) row h = row (expand.NonLinear at) h
refused_expansion P decimals runs asked (expand.ControllableCondition at) row h = row (expand.ControllableCondition at) h
refused_expansion P decimals runs asked (expand.ControllableWeight at) row h = row (expand.ControllableWeight at) h
refused_expansion P decimals runs asked expand.Memory row h = tt
refused_expansion P decimals runs asked (expand.ControllableArgument at) row h = row (expand.ControllableArgument at) h
refused_expansion P decimals runs asked expand.TooManyRuns row h = row expand.TooManyRuns h

pub expansion_told : (decimals : ℕ) (node : Option (List ℕ)) (text : List ℕ) (program : List Declaration) (reason : ExpandRefusal) → IsProgramOf text program → IsWellTyped decimals program → IsAnswer decimals (runs_in_nest node program) (expanded_node decimals node program) (Err reason) → IfRefused (of_expansion reason) (λ r. IsScenarioAnswer decimals node text (Err r))
expansion_told decimals node text program reason spells typed answer =
    refused_expansion (λ r. IsScenarioAnswer decimals node text (Err r)) decimals (runs_in_nest node program) (expanded_node decimals node program) reason
    (λ why e. IsScenarioAnswer.not_expanded program why spells typed (head_of (refusals_of decimals (runs_in_nest node program) (expanded_node decimals node program)) why e)) answer

-- the program that was checked is the one that is asked for, and so are its decimals
pub as_asked : (decimals checked : ℕ) (node : Option (List ℕ)) (program other : List Declaration) (answer : Result Scenario ExpandRefusal) → checked ≡ decimals → other ≡ program → IsAnswer checked (runs_in_nest node other) (expanded_node checked node other) answer
    → IsAnswer decimals (runs_in_nest node program) (expanded_node decimals node program) answer
as_asked decimals checked node program other answer e f h =
    subst (λ ds. IsAnswer decimals (runs_in_nest node ds) (expanded_node decimals node ds) answer) f (subst (λ n. IsAnswer n (runs_in_nest node other) (expanded_node n node other) answer) e h)

-- One that has a scenario.

-- a value that is mapped to this is there
pub mapped : {X Y : Type 0} (f : X → Y) (o : Option X) (y : Y) → option_map f o ≡ Some y → (x : X) × (o ≡ Some x) × (y ≡ f x)
mapped f None y h = absurd (cc)
mapped f (Some x) y h = (x, refl, cc)

pub scene_told : (decimals : ℕ) (node : Option (List ℕ)) (text : List ℕ) (program : List Declaration) (made : Scenario) → IsProgramOf text program → IsWellTyped decimals program → nat_lt 0 (runs_in_nest node program) ≡ false
    → IsAnswer decimals (runs_in_nest node program) (expanded_node decimals node program) (Ok made) → IsScenarioAnswer decimals node text (Ok (scene made))
scene_told decimals node text program made spells typed none answer =
    IsScenarioAnswer.has_scenario program (scene made) spells typed (answer.0, none, mapped (scene_of decimals) (expanded_node decimals node program) (scene made) answer.1)

-- One that has a scenario, but runs others.

pub runs_told : (decimals : ℕ) (wanted : Option (List ℕ)) (text : List ℕ) (program : List Declaration) (made : Scenario) → IsProgramOf text program → IsWellTyped decimals program → nat_lt 0 (runs_in_nest wanted program) ≡ true
    → IsAnswer decimals (runs_in_nest wanted program) (expanded_node decimals wanted program) (Ok made) → IsScenarioAnswer decimals wanted text (Err refusal.HasRuns)
runs_told decimals wanted text program made spells typed some answer = IsScenarioAnswer.has_runs program spells typed (answer.0, some)

-- A program in print.

pub print_told : (text made : List ℕ) (program : List Declaration) → IsProgramOf text program → made ≡ printed program → IsPrintedAnswer text (Ok made)
print_told text made program spells e = subst (λ t. IsPrintedAnswer text (Ok t)) (sym e) (IsPrintedAnswer.has_text program spells)
