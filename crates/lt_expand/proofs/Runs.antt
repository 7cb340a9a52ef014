-- What holds of all inputs and all arguments of a node holds of those of one of its runs.
use Rattle.std.proofs.Common.{◌≡◌, ℕ, ◌<◌, List, map, length, get_or, ap, sym, subst}
use Rattle.std.specs.List.{All, AllByRecursion, flat_map}
use Rattle.std.proofs.lemmas.List.Elements.{All-from_recursion, recursion_from_All}
use Rattle.lt_formula.specs.Kinds.{Kinds}
use Rattle.lt_macros.specs.Expanded.{Call, Declared, all_inputs, given_inputs}
use Rattle.lt_macros.specs.Naming.{NamesWhatIsThere}
use Rattle.lt_macros.specs.Placed.{Placed}
use Rattle.lt_macros.specs.Preorder.{arguments_in}
use Rattle.lt_macros.specs.Scoping.{NameNone}
use Rattle.lt_macros.specs.Tree.{call, declared, node, placed}
use Rattle.lt_macros.specs.declared.tree.Call as run
use Rattle.lt_macros.specs.declared.tree.Declared as written
use Rattle.lt_macros.specs.declared.tree.Node as written_node
use Rattle.lt_macros.specs.declared.tree.Placed as written_placed
use Rattle.lt_expand.specs.Classes.{kinds_of}
use Rattle.lt_expand.specs.inner.Ready.{IsFine, IsReady}
use Rattle.lt_expand.proofs.Declares.{all_at}
use Rattle.lt_expand.proofs.Prepared.{all_left, all_right, arguments_ready, each_part}

-- the node's own inputs
pub own_fine : (n : ℕ) (from : written_node.Node) (ds : List written.Declared) → All (IsFine n) (all_inputs (node from)) → ds ≡ from.inputs.items → All (IsFine n) (map declared ds)
own_fine n from ds h e =
    subst (λ xs. All (IsFine n) (map declared xs)) (sym e)
    (All-from_recursion (IsFine n) (node from).inputs (all_left (IsFine n) (node from).inputs (given_inputs (node from)) (recursion_from_All (IsFine n) (all_inputs (node from)) h)))

-- the inputs that a run gives
pub call_fine : (n : ℕ) (from : written_node.Node) (cs : List run.Call) (i : ℕ) (c : run.Call) (ds : List written.Declared) → All (IsFine n) (all_inputs (node from)) → cs ≡ from.calls.items → i < length cs
    → c ≡ get_or cs i c → ds ≡ c.names.items → All (IsFine n) (map declared ds)
call_fine n from cs i c ds h all l is e =
    let names : Call → List Declared = λ x. x.names in
    let given = all_right (IsFine n) (node from).inputs (given_inputs (node from)) (recursion_from_All (IsFine n) (all_inputs (node from)) h) in
    let own : AllByRecursion (IsFine n) (flat_map names (map call cs)) = subst (λ xs. AllByRecursion (IsFine n) (flat_map names (map call xs))) (sym all) given in
    let each = All-from_recursion (λ x. All (IsFine n) (names x)) (map call cs) (each_part (IsFine n) names (map call cs) own) in
    subst (λ xs. All (IsFine n) (map declared xs)) (sym e) (all_at (λ x. All (IsFine n) (names x)) call cs i c each l is)

-- the arguments of a run
pub call_ready : (from : written_node.Node) (ks : Kinds) (cs : List run.Call) (i : ℕ) (c : run.Call) → NamesWhatIsThere (node from) → NameNone (arguments_in (node from)) → ks ≡ kinds_of (node from)
    → cs ≡ from.calls.items → i < length cs → c ≡ get_or cs i c → All (IsReady ks) (map placed c.arguments.items)
call_ready from ks cs i c named inside kinds all l is =
    let arguments : Call → List Placed = λ x. x.arguments in
    let own : AllByRecursion (IsReady ks) (flat_map arguments (map call cs)) =
    subst (λ xs. AllByRecursion (IsReady ks) (flat_map arguments (map call xs))) (sym all)
    (subst (λ k. AllByRecursion (IsReady k) (arguments_in (node from))) (sym kinds) (arguments_ready (node from) named inside)) in
    let each = All-from_recursion (λ x. All (IsReady ks) (arguments x)) (map call cs) (each_part (IsReady ks) arguments (map call cs) own) in
    all_at (λ x. All (IsReady ks) (arguments x)) call cs i c each l is
