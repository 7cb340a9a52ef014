-- Runs of nodes, and the nodes that are run.
use Rattle.std.proofs.Common.{◌≡◌, ℕ, zero, suc, ◌+◌, ◌-◌, ◌<◌, ◌≤◌, Bool, true, false, cond, List, [], ◌∷◌, ◌++◌, length, map, take, drop, reverse, get_or, Option, None, Some, bytes_eq, if◌then◌else◌, refl, ap, sym, subst, ◌∙◌, arith, drop-cons, append_assoc, length-append}
use Rattle.std.specs.List.{All, find, flat_map, zip}
use Rattle.std.proofs.lemmas.Grind.{flat_map-append}
use Rattle.std.proofs.lemmas.List.{append-nil, drop_all, get_or-reverse, length-map, length-reverse, length-take-le, map-append, take_more}
use Rattle.std.proofs.lemmas.List.Elements.{All-head, All-push, All-tail, All-weaker}
use Rattle.lt_ast.specs.Letters.{letters}
use Rattle.lt_ast.specs.Syntax as s
use Rattle.lt_ast.specs.Syntax.{Word, Groupings, Run, Trace}
use Rattle.lt_ast.specs.View.{exp, groupings, run, word}
use Rattle.lt_ast.specs.inner.Lists.{groups_of}
use Rattle.lt_ast.specs.inner.Rows.{group_of}
use Rattle.lt_ast.specs.declared.group.Group.{Group}
use Rattle.lt_ast.specs.declared.expr.Expr.{Expr}
use Rattle.lt_ast.specs.declared.name.Name.{Name}
use Rattle.lt_ast.specs.declared.program.RunDecl.{RunDecl}
use Rattle.lt_formula.specs.declared.role.Role.{Role}
use Rattle.lt_formula.specs.declared.role.Role.TheVariants as role
use Rattle.lt_macros.specs.Placed.{Placed}
use Rattle.lt_macros.specs.Environment.{Environment, variable, with_name, with_variables}
use Rattle.lt_macros.specs.Expanded.{Declared, Call, Expanded, Node}
use Rattle.lt_macros.specs.Denotation.{Denotation, as_expression, as_trace, exp_denotation, group_names, groups_names, trace_denotation}
use Rattle.lt_macros.specs.Expansion.{Runnable, all_given_as, call_of, calls_of, given_as, group_variables, groups_variables, node_of, outputs_in, outputs_of, runnable_of, with_calls, with_declared, with_group, with_groups}
use Rattle.lt_macros.specs.inner.Asking.{AreThere, runnable_at, runnables}
use Rattle.lt_macros.specs.Tree.{declared, placed}
use Rattle.lt_macros.specs.inner.Figures.{Figure, arguments_figure, calls_figure, expression_figure}
use Rattle.lt_macros.specs.inner.HeadNormalForm.{AddsTo}
use Rattle.lt_macros.specs.inner.Reading.{environment, meant}
use Rattle.lt_macros.specs.declared.declarations.DeclaredNode.{DeclaredNode}
use Rattle.lt_macros.specs.declared.scope.Entry.{Entry}
use Rattle.lt_macros.specs.declared.tree.Declared.{Declared as Tree}
use Rattle.lt_macros.specs.declared.tree.Placed.{Placed as PlacedTree}
use Rattle.lt_macros.proofs.Adding.{environment_kept}
use Rattle.lt_macros.proofs.Grouped.{groups_from, next_place}
use Rattle.lt_macros.proofs.Opened.{group_length}
use Rattle.lt_macros.proofs.Waiting.{turned}

-- Nodes that may be run.

-- what holds of each holds of each backwards
reversed_all : {X : Type 0} (P : X → Type 0) (xs : List X) → All P xs → All P (reverse xs)
reversed_all P xs all = λ k d h.
    let within : k < length xs = omega (arith, h, length-reverse xs) in
    let place : length xs - 1 - k < length xs = omega arith in
    subst P (sym (get_or-reverse xs k d within)) (all (length xs - 1 - k) d place)

same_runnable : (d : ℕ) (old new : List Entry) (x : DeclaredNode) → AddsTo old new → x.environment ≤ length old → runnable_at d new x ≡ runnable_at d old x
same_runnable d old new x a h =
    ap (λ env. runnable_of env (word x.node.now.name) (groupings x.node.now.inputs) (groupings x.node.now.outputs)) (environment_kept (meant d) old new x.environment a h)

same_runnables : (d : ℕ) (old new : List Entry) (ds : List DeclaredNode) → AddsTo old new → AreThere (length old) ds → map (runnable_at d new) ds ≡ map (runnable_at d old) ds
same_runnables d old new [] a there = refl
same_runnables d old new (x ∷ ds) a there =
    let P : DeclaredNode → Type 0 = λ y. y.environment ≤ length old in
    λ i. same_runnable d old new x a (All-head P x ds there) i ∷ same_runnables d old new ds a (All-tail P x ds there) i

-- more entries leave the nodes that may be run as they are
pub runnables_kept : (d : ℕ) (old new : List Entry) (ds : List DeclaredNode) → AddsTo old new → AreThere (length old) ds → runnables d new ds ≡ runnables d old ds
runnables_kept d old new ds a there = same_runnables d old new (reverse ds) a (reversed_all (λ y. y.environment ≤ length old) ds there)

-- they are there still
pub there_more : (count more : ℕ) (ds : List DeclaredNode) → count ≤ more → AreThere count ds → AreThere more ds
there_more count more ds h there = All-weaker (λ y. y.environment ≤ count) (λ y. y.environment ≤ more) (λ y g. omega (arith, h, g)) ds there

-- one more node may be run
pub runnables_pushed : (d : ℕ) (rows : List Entry) (ds new : List DeclaredNode) (x : DeclaredNode) → new ≡ ds ++ x ∷ [] → runnables d rows new ≡ runnable_at d rows x ∷ runnables d rows ds
runnables_pushed d rows ds new x is = ap (runnables d rows) is ∙ ap (map (runnable_at d rows)) (turned ds x)

pub there_pushed : (count : ℕ) (ds new : List DeclaredNode) (x : DeclaredNode) → new ≡ ds ++ x ∷ [] → AreThere count ds → x.environment ≤ count → AreThere count new
there_pushed count ds new x is there h = subst (AreThere count) (sym is) (All-push (λ y. y.environment ≤ count) ds x there h)

-- The node of a name.

-- whether a node has this name
abbrev pub has_name : List ℕ → DeclaredNode → Bool
has_name name d = bytes_eq name (letters d.node.now.name.text)

-- the newest one of those that are left
pub newest_left : (test : DeclaredNode → Bool) (ds : List DeclaredNode) (left : ℕ) (d : DeclaredNode) → 0 < left → left ≤ length ds → d ≡ get_or ds (left - 1) d
    → find test (reverse (take left ds)) ≡ cond (test d) (Some d) (find test (reverse (take (left - 1) ds)))
newest_left test ds left d some few is =
    let k = left - 1 in
    let next : left ≡ k + 1 = omega arith in
    let within : k < length ds = omega arith in
    ap (λ n. find test (reverse (take n ds))) next
    ∙ ap (λ xs. find test (reverse xs)) (take_more ds k d within ∙ (λ i. take k ds ++ sym is i ∷ []))
    ∙ ap (find test) (turned (take k ds) d)

one_found : {X : Type 0} (P : X → Type 0) (b : Bool) (y x : X) (other : Option X) → P y → (other ≡ Some x → P x) → cond b (Some y) other ≡ Some x → P x
one_found P true y x other here rest e = let same : y ≡ x = cc in subst P same here
one_found P false y x other here rest e = rest e

found_among : {X : Type 0} (P : X → Type 0) (test : X → Bool) (xs : List X) (x : X) → find test xs ≡ Some x → All P xs → P x
found_among P test [] x e all = absurd (cc)
found_among P test (y ∷ ys) x e all = one_found P (test y) y x (find test ys) (All-head P y ys all) (λ is. found_among P test ys x is (All-tail P y ys all)) e

-- the node that is found is there
pub found_there : (count : ℕ) (name : List ℕ) (ds : List DeclaredNode) (x : DeclaredNode) → Some x ≡ find (has_name name) (reverse ds) → AreThere count ds → x.environment ≤ count
found_there count name ds x is there = found_among (λ y. y.environment ≤ count) (has_name name) (reverse ds) x (sym is) (reversed_all (λ y. y.environment ≤ count) ds there)

-- the outputs of a node, if there is one
abbrev pub outputs_at : ℕ → List Entry → Option DeclaredNode → List Declared
outputs_at d rows None = []
outputs_at d rows (Some x) = outputs_in (environment (meant d) rows x.environment) (groupings x.node.now.inputs) (groupings x.node.now.outputs)

one_given : (d : ℕ) (rows : List Entry) (b : Bool) (x : DeclaredNode) (others : List Declared) (other : Option DeclaredNode) → others ≡ outputs_at d rows other → (if b then outputs_at d rows (Some x) else others) ≡ outputs_at d rows (cond b (Some x) other)
one_given d rows true x others other rest = refl
one_given d rows false x others other rest = rest

outputs_among : (d : ℕ) (rows : List Entry) (name : List ℕ) (ds : List DeclaredNode) → outputs_of (map (runnable_at d rows) ds) name ≡ outputs_at d rows (find (has_name name) ds)
outputs_among d rows name [] = refl
outputs_among d rows name (x ∷ ds) = one_given d rows (has_name name x) x (outputs_of (map (runnable_at d rows) ds) name) (find (has_name name) ds) (outputs_among d rows name ds)

-- the outputs of a name are those of its newest node
pub outputs_found : (d : ℕ) (rows : List Entry) (name : List ℕ) (ds : List DeclaredNode) (found : Option DeclaredNode) → found ≡ find (has_name name) (reverse ds) → outputs_of (runnables d rows ds) name ≡ outputs_at d rows found
outputs_found d rows name ds found is = outputs_among d rows name (reverse ds) ∙ ap (outputs_at d rows) (sym is)

-- Names.

-- the names that are given are the first ones
pub given_visible : (r : Role) (n decimals : ℕ) (ws : List Word) (ds : List Declared) (env : Environment Denotation) → with_variables r n (take (length (all_given_as decimals ws ds)) ws) env ≡ with_declared r n (all_given_as decimals ws ds) env
given_visible r n decimals [] ds env = refl
given_visible r n decimals (w ∷ ws) [] env = refl
given_visible r n decimals (w ∷ ws) (d ∷ ds) env = given_visible r (suc n) decimals ws ds (with_name w.text (variable r n) env)

-- as many as there are of both
pub given_first : (r : Role) (n decimals : ℕ) (ws : List Word) (ds : List Declared) (env : Environment Denotation) → with_variables r n (take (length ds) ws) env ≡ with_declared r n (all_given_as decimals ws ds) env
given_first r n decimals [] [] env = refl
given_first r n decimals [] (d ∷ ds) env = refl
given_first r n decimals (w ∷ ws) [] env = refl
given_first r n decimals (w ∷ ws) (d ∷ ds) env = given_first r (suc n) decimals ws ds (with_name w.text (variable r n) env)

pub given_many : (decimals : ℕ) (ws : List Word) (ds : List Declared) → length (take (length ds) ws) ≡ length (all_given_as decimals ws ds)
given_many decimals [] [] = refl
given_many decimals [] (d ∷ ds) = refl
given_many decimals (w ∷ ws) [] = refl
given_many decimals (w ∷ ws) (d ∷ ds) = ap suc (given_many decimals ws ds)

pub words_taken : (k : ℕ) (names : List Name) → map word (take k names) ≡ take k (map word names)
words_taken zero names = refl
words_taken (suc k) [] = refl
words_taken (suc k) (n ∷ names) = ap (λ ws. word n ∷ ws) (words_taken k names)

-- Runs in turn.

-- the runs from one on are that one, and those behind it
pub runs_from : (rs : List RunDecl) (place : ℕ) (r : RunDecl) → place < length rs → r ≡ get_or rs place r → map run (drop place rs) ≡ run r ∷ map run (drop (place + 1) rs)
runs_from rs place r h is =
    let next : suc place ≡ place + 1 = omega arith in
    ap (map run) (drop-cons rs place r h ∙ (λ i. sym is i ∷ drop (next i) rs))

-- the inputs that runs give
abbrev pub given : List Call → List Declared
given cs = flat_map (λ (c : Call). c.names) cs

pub given_more : (cs : List Call) (c : Call) → length (given (cs ++ c ∷ [])) ≡ length (given cs) + length c.names
given_more cs c =
    omega (
      arith,
      ap length (flat_map-append (λ (c : Call). c.names) cs (c ∷ [])),
      length-append (given cs) (given (c ∷ [])),
      length-append c.names [],
    )

-- the names of one more run are visible
pub visible_more : (n : ℕ) (cs : List Call) (c : Call) (env : Environment Denotation) → with_calls n (cs ++ c ∷ []) env ≡ with_declared role.Input (n + length (given cs)) c.names (with_calls n cs env)
visible_more n [] c env =
    let none : n ≡ n + 0 = omega arith in
    ap (λ k. with_declared role.Input k c.names env) none
visible_more n (d ∷ cs) c env =
    let more : n + length d.names + length (given cs) ≡ n + length (given (d ∷ cs)) = omega (arith, length-append d.names (given cs)) in
    visible_more (n + length d.names) cs c (with_declared role.Input n d.names env)
    ∙ ap (λ k. with_declared role.Input k c.names (with_calls n (d ∷ cs) env)) more

-- one more run is made
pub run_made : (known : List Runnable) (n next : ℕ) (env inner : Environment Denotation) (before all : List Call) (rs : List RunDecl) (place : ℕ) (r : RunDecl) (c : Call) → place < length rs → r ≡ get_or rs place r
    → c ≡ call_of known env (run r) → inner ≡ with_declared role.Input n c.names env → next ≡ n + length c.names
    → before ++ calls_of known n env (map run (drop place rs)) ≡ all
    → (before ++ c ∷ []) ++ calls_of known next inner (map run (drop (place + 1) rs)) ≡ all
run_made known n next env inner before all rs place r c h is made shown moved so_far =
    let rest = map run (drop (place + 1) rs) in
    let one : Call = call_of known env (run r) in
    append_assoc before (c ∷ []) (calls_of known next inner rest)
    ∙ (λ i. before ++ made i ∷ calls_of known (moved i) (shown i) rest)
    ∙ (λ i. before ++ one ∷ calls_of known (n + length (made i).names) (with_declared role.Input n (made i).names env) rest)
    ∙ sym (ap (λ ws. before ++ calls_of known n env ws) (runs_from rs place r h is))
    ∙ so_far

-- behind the last run there is none
pub no_run_left : (rs : List RunDecl) (place : ℕ) → length rs ≤ place → map run (drop place rs) ≡ []
no_run_left rs place h = ap (map run) (drop_all place rs h)

-- at the end all runs are made
pub all_made : (known : List Runnable) (n : ℕ) (env : Environment Denotation) (made all : List Call) (rs : List RunDecl) (place : ℕ) → length rs ≤ place
    → made ++ calls_of known n env (map run (drop place rs)) ≡ all → made ≡ all
all_made known n env made all rs place h so_far = sym (append-nil made) ∙ sym (ap (λ ws. made ++ calls_of known n env ws) (no_run_left rs place h)) ∙ so_far

-- what is left, in the environment of the names of runs so far
abbrev pub calls_left : List Runnable → ℕ → Environment Denotation → List RunDecl → ℕ → List Call
calls_left known n env rs place = calls_of known n env (map run (drop place rs))

-- the first run of what is left, and the others
pub run_next : (known : List Runnable) (n next : ℕ) (env inner : Environment Denotation) (rs : List RunDecl) (place : ℕ) (r : RunDecl) → place < length rs → r ≡ get_or rs place r
    → inner ≡ with_declared role.Input n (call_of known env (run r)).names env → next ≡ n + length (call_of known env (run r)).names
    → calls_left known n env rs place ≡ call_of known env (run r) ∷ calls_left known next inner rs (place + 1)
run_next known n next env inner rs place r h is shown moved =
    ap (calls_of known n env) (runs_from rs place r h is)
    ∙ (λ i. call_of known env (run r) ∷ calls_of known (sym moved i) (sym shown i) (map run (drop (place + 1) rs)))

-- one more run is put
pub run_put : (f : Figure) (known : List Runnable) (n next : ℕ) (env inner : Environment Denotation) (rs : List RunDecl) (place : ℕ) (r : RunDecl) (before after all : ℕ) → place < length rs → r ≡ get_or rs place r
    → inner ≡ with_declared role.Input n (call_of known env (run r)).names env → next ≡ n + length (call_of known env (run r)).names
    → after ≡ before + arguments_figure f (call_of known env (run r)).arguments
    → before + calls_figure f (calls_left known n env rs place) ≡ all
    → after + calls_figure f (calls_left known next inner rs (place + 1)) ≡ all
run_put f known n next env inner rs place r before after all h is shown moved put so_far =
    omega (arith, put, so_far, ap (calls_figure f) (run_next known n next env inner rs place r h is shown moved))

-- its names are visible
pub run_visible : (known : List Runnable) (n next : ℕ) (env inner all : Environment Denotation) (rs : List RunDecl) (place : ℕ) (r : RunDecl) → place < length rs → r ≡ get_or rs place r
    → inner ≡ with_declared role.Input n (call_of known env (run r)).names env → next ≡ n + length (call_of known env (run r)).names
    → with_calls n (calls_left known n env rs place) env ≡ all
    → with_calls next (calls_left known next inner rs (place + 1)) inner ≡ all
run_visible known n next env inner all rs place r h is shown moved so_far =
    (λ i. with_calls (moved i) (calls_left known next inner rs (place + 1)) (shown i))
    ∙ sym (ap (λ cs. with_calls n cs env) (run_next known n next env inner rs place r h is shown moved))
    ∙ so_far

-- and counted
pub run_counted : (known : List Runnable) (n next all : ℕ) (env inner : Environment Denotation) (rs : List RunDecl) (place : ℕ) (r : RunDecl) → place < length rs → r ≡ get_or rs place r
    → inner ≡ with_declared role.Input n (call_of known env (run r)).names env → next ≡ n + length (call_of known env (run r)).names
    → n + length (given (calls_left known n env rs place)) ≡ all
    → next + length (given (calls_left known next inner rs (place + 1))) ≡ all
run_counted known n next all env inner rs place r h is shown moved so_far =
    let one : Call = call_of known env (run r) in
    let rest : List Call = calls_left known next inner rs (place + 1) in
    omega (
      arith,
      so_far,
      moved,
      ap (λ cs. length (given cs)) (run_next known n next env inner rs place r h is shown moved),
      length-append one.names (given rest),
    )

-- Names that are shown.

-- those of a run that is made
pub shown_names : (n decimals : ℕ) (names taken : List Name) (ds : List Declared) (made : List Tree) (env inner : Environment Denotation) → map declared made ≡ all_given_as decimals (map word names) ds
    → taken ≡ take (length made) names → inner ≡ with_variables role.Input n (map word taken) env → inner ≡ with_declared role.Input n (map declared made) env
shown_names n decimals names taken ds made env inner is first shown =
    let many : length made ≡ length (all_given_as decimals (map word names) ds) = sym (length-map made declared) ∙ ap length is in
    shown
    ∙ ap (λ ns. with_variables role.Input n (map word ns) env) first
    ∙ ap (λ ws. with_variables role.Input n ws env) (words_taken (length made) names)
    ∙ ap (λ k. with_variables role.Input n (take k (map word names)) env) many
    ∙ given_visible role.Input n decimals (map word names) ds env
    ∙ sym (ap (λ xs. with_declared role.Input n xs env) is)

-- they are as many
pub shown_many : (n next : ℕ) (names taken : List Name) (made : List Tree) → length made ≤ length names → taken ≡ take (length made) names → next ≡ n + length taken → next ≡ n + length (map declared made)
shown_many n next names taken made few first moved = omega (arith, moved, ap length first, length-take-le (length made) names few, length-map made declared)

-- those of a run that is counted
pub counted_names : (n k decimals : ℕ) (names taken : List Name) (ds : List Declared) (env inner : Environment Denotation) → k ≡ length ds → taken ≡ take k names → inner ≡ with_variables role.Input n (map word taken) env
    → inner ≡ with_declared role.Input n (all_given_as decimals (map word names) ds) env
counted_names n k decimals names taken ds env inner many first shown =
    shown
    ∙ ap (λ ns. with_variables role.Input n (map word ns) env) first
    ∙ ap (λ ws. with_variables role.Input n ws env) (words_taken k names)
    ∙ ap (λ m. with_variables role.Input n (take m (map word names)) env) many
    ∙ given_first role.Input n decimals (map word names) ds env

pub counted_many : (n k next decimals : ℕ) (names taken : List Name) (ds : List Declared) → k ≡ length ds → taken ≡ take k names → next ≡ n + length taken → next ≡ n + length (all_given_as decimals (map word names) ds)
counted_many n k next decimals names taken ds many first moved =
    omega (
      arith,
      moved,
      ap length first,
      sym (length-map (take k names) word),
      ap length (words_taken k names),
      ap (λ m. length (take m (map word names))) many,
      given_many decimals (map word names) ds,
    )

-- as many outputs as names
pub outputs_many : (r : Role) (n : ℕ) (env : Environment Denotation) (gs : Groupings) → length (groups_variables r n env gs) ≡ length (groups_names gs)
outputs_many r n env s.no_groups = refl
outputs_many r n env (s.one_group g gs) =
    let k = length (group_names g) in
    omega (
      arith,
      length-append (group_variables r env g) (groups_variables r (n + k) (with_group r n g env) gs),
      length-append (group_names g) (groups_names gs),
      group_length r env g,
      outputs_many r (n + k) (with_group r n g env) gs,
    )

-- the names of one more group
pub group_names_more : (groups : List Group) (place count next all : ℕ) (g : Group) → place < length groups → g ≡ get_or groups place g → next ≡ count + length g.names.items.items
    → count + length (groups_names (groups_of (map group_of (drop place groups)))) ≡ all
    → next + length (groups_names (groups_of (map group_of (drop (place + 1) groups)))) ≡ all
group_names_more groups place count next all g h is moved so_far =
    omega (
      arith,
      so_far,
      next_place count next g moved,
      ap (λ gs. length (groups_names gs)) (groups_from groups place g h is),
      length-append (group_names (group_of g)) (groups_names (groups_of (map group_of (drop (place + 1) groups)))),
    )

-- Nodes.

abbrev pub as_node : List ℕ → List Declared → List Declared → List Call → Expanded → Node
as_node name inputs outputs calls body = record { name = name; inputs = inputs; outputs = outputs; calls = calls; body = body }

-- a node of the parts that are made of it
pub node_built : (known there : List Runnable) (env inside here named : Environment Denotation) (n : ℕ) (name : List ℕ) (w : Word) (ins outs : Groupings) (rs : List Run) (t : Trace) (inputs outputs : List Declared) (calls : List Call) (body : Expanded)
    → name ≡ w.text → there ≡ known → inside ≡ with_groups role.Input 0 ins env → here ≡ with_groups role.Output 0 outs inside → n ≡ length inputs
    → inputs ≡ groups_variables role.Input 0 env ins → outputs ≡ groups_variables role.Output 0 inside outs → calls ≡ calls_of there n here rs → named ≡ with_calls n calls here
    → body ≡ (as_trace (trace_denotation named t) (record { term = 0; local = 0; counter = 0 })).expanded
    → as_node name inputs outputs calls body ≡ node_of known env w ins outs rs t
node_built known there env inside here named n name w ins outs rs t inputs outputs calls body name_is known_is inside_is here_is n_is inputs_are outputs_are calls_are named_is body_is =
    let own = length (groups_variables role.Input 0 env ins) in
    let inner : Environment Denotation = with_groups role.Output 0 outs (with_groups role.Input 0 ins env) in
    let same : here ≡ inner = here_is ∙ ap (with_groups role.Output 0 outs) inside_is in
    let many : n ≡ own = n_is ∙ ap length inputs_are in
    let cs : List Call = calls_of known own inner rs in
    let made : calls ≡ cs = calls_are ∙ (λ i. calls_of (known_is i) (many i) (same i) rs) in
    let all : named ≡ with_calls own cs inner = named_is ∙ (λ i. with_calls (many i) (made i) (same i)) in
    let given_outputs : outputs ≡ groups_variables role.Output 0 (with_groups role.Input 0 ins env) outs = outputs_are ∙ ap (λ e. groups_variables role.Output 0 e outs) inside_is in
    let inner_body : body ≡ (as_trace (trace_denotation (with_calls own cs inner) t) (record { term = 0; local = 0; counter = 0 })).expanded =
    body_is ∙ ap (λ (e : Environment Denotation). (as_trace (trace_denotation e t) (record { term = 0; local = 0; counter = 0 })).expanded) all in
    λ i. record { name = name_is i; inputs = inputs_are i; outputs = given_outputs i; calls = made i; body = inner_body i }

-- Arguments.

-- what arguments stand for
abbrev pub arguments_at : Environment Denotation → List Expr → List Placed
arguments_at env es = map (λ e. as_expression (exp_denotation env e)) (map exp es)

-- one more argument is put
pub argument_put : (f : Figure) (env : Environment Denotation) (es : List Expr) (place : ℕ) (e : Expr) (before after all : ℕ) → place < length es → e ≡ get_or es place e
    → after ≡ expression_figure f 1 (as_expression (exp_denotation env (exp e))) + before
    → before + arguments_figure f (arguments_at env (drop place es)) ≡ all
    → after + arguments_figure f (arguments_at env (drop (place + 1) es)) ≡ all
argument_put f env es place e before after all h is put so_far =
    let next : suc place ≡ place + 1 = omega arith in
    let split : arguments_at env (drop place es) ≡ as_expression (exp_denotation env (exp e)) ∷ arguments_at env (drop (place + 1) es) =
    ap (arguments_at env) (drop-cons es place e h ∙ (λ i. sym is i ∷ drop (next i) es)) in
    omega (arith, put, so_far, ap (arguments_figure f) split)

pub no_argument_left : (f : Figure) (env : Environment Denotation) (es : List Expr) (place : ℕ) → length es ≤ place → arguments_figure f (arguments_at env (drop place es)) ≡ 0
no_argument_left f env es place h = ap (λ ds. arguments_figure f (arguments_at env ds)) (drop_all place es h)

-- one more argument is built
pub expression_pushed : (f : Expr → Placed) (es : List Expr) (place : ℕ) (e : Expr) (old new : List PlacedTree) (one : PlacedTree) → place < length es → e ≡ get_or es place e
    → new ≡ old ++ one ∷ [] → placed one ≡ f e → map placed old ≡ map f (take place es) → map placed new ≡ map f (take (place + 1) es)
expression_pushed f es place e old new one h is pushed made so_far =
    let more : take (place + 1) es ≡ take place es ++ e ∷ [] = take_more es place e h ∙ (λ i. take place es ++ sym is i ∷ []) in
    ap (map placed) pushed
    ∙ map-append placed old (one ∷ [])
    ∙ (λ i. so_far i ++ made i ∷ [])
    ∙ sym (map-append f (take place es) (e ∷ []))
    ∙ sym (ap (map f) more)

-- Names of outputs.

-- the input of a name and an output
abbrev pub pair_given : ℕ → (Name × Tree) → Declared
pair_given decimals p = given_as decimals (word p.0) (declared p.1)

pub pairs_given : (decimals : ℕ) (names : List Name) (outputs : List Tree) → map (pair_given decimals) (zip names outputs) ≡ all_given_as decimals (map word names) (map declared outputs)
pairs_given decimals [] outputs = refl
pairs_given decimals (n ∷ names) [] = refl
pairs_given decimals (n ∷ names) (o ∷ outputs) = ap (λ ds. given_as decimals (word n) (declared o) ∷ ds) (pairs_given decimals names outputs)

-- one more is made
pub pair_pushed : (decimals : ℕ) (ps : List (Name × Tree)) (place : ℕ) (p : Name × Tree) (old new : List Tree) (one : Tree) → place < length ps → p ≡ get_or ps place p
    → new ≡ old ++ one ∷ [] → declared one ≡ pair_given decimals p → map declared old ≡ map (pair_given decimals) (take place ps) → map declared new ≡ map (pair_given decimals) (take (place + 1) ps)
pair_pushed decimals ps place p old new one h is pushed made so_far =
    let f : (Name × Tree) → Declared = pair_given decimals in
    let more : take (place + 1) ps ≡ take place ps ++ p ∷ [] = take_more ps place p h ∙ (λ i. take place ps ++ sym is i ∷ []) in
    ap (map declared) pushed
    ∙ map-append declared old (one ∷ [])
    ∙ (λ i. so_far i ++ made i ∷ [])
    ∙ sym (map-append f (take place ps) (p ∷ []))
    ∙ sym (ap (map f) more)

-- no more than names
pub few_given : (decimals : ℕ) (ws : List Word) (ds : List Declared) → length (all_given_as decimals ws ds) ≤ length ws
few_given decimals [] ds = omega arith
few_given decimals (w ∷ ws) [] = omega arith
few_given decimals (w ∷ ws) (d ∷ ds) = omega (arith, few_given decimals ws ds)

-- what arguments stand for, one by one
pub arguments_written : (env : Environment Denotation) (es : List Expr) → map (λ e. as_expression (exp_denotation env (exp e))) es ≡ arguments_at env es
arguments_written env [] = refl
arguments_written env (e ∷ es) = ap (λ ps. as_expression (exp_denotation env (exp e)) ∷ ps) (arguments_written env es)
