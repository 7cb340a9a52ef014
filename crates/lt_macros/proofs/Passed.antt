-- Declarations before the node that is asked for.
use Rattle.std.proofs.Common.{◌≡◌, ℕ, suc, ◌+◌, ◌<◌, ◌≤◌, Bool, false, List, [], ◌∷◌, ◌++◌, length, map, drop, get_or, Option, Some, if◌then◌else◌, ap, sym, subst, ◌∙◌, arith, drop-cons}
use Rattle.lt_ast.specs.View.{declaration, groupings, macro, run, trace, word, words}
use Rattle.lt_ast.specs.declared.name.Names.{Names}
use Rattle.lt_ast.specs.declared.program.Decl.{Decl}
use Rattle.lt_ast.specs.declared.program.Decl.TheVariants as decl
use Rattle.lt_ast.specs.declared.trace.MacroDecl.{MacroDecl}
use Rattle.lt_macros.specs.Environment.{Environment, with_exceptions}
use Rattle.lt_macros.specs.Expanded.{Node}
use Rattle.lt_macros.specs.Denotation.{Denotation}
use Rattle.lt_macros.specs.Expansion.{is_wanted, node_among, node_of}
use Rattle.lt_macros.specs.inner.Asking.{AreThere, runnable_at, runnables}
use Rattle.lt_macros.specs.inner.HeadNormalForm.{AddsTo}
use Rattle.lt_macros.specs.inner.Reading.{environment, meant}
use Rattle.lt_macros.specs.inner.Rows.{rows as rows_of}
use Rattle.lt_macros.specs.inner.Leads.{with_macro}
use Rattle.lt_macros.specs.declared.declarations.DeclaredNode.{DeclaredNode}
use Rattle.lt_macros.specs.declared.scope.Entry.{Entry}
use Rattle.lt_macros.specs.declared.scope.Scope.{Scope}
use Rattle.lt_macros.proofs.Runs.{runnables_kept, runnables_pushed}

-- the declarations from one on are that one, and those behind it
left_from : (decls : List Decl) (place : ℕ) (x : Decl) → place < length decls → x ≡ get_or decls place x → map declaration (drop place decls) ≡ declaration x ∷ map declaration (drop (place + 1) decls)
left_from decls place x h is =
    let next : suc place ≡ place + 1 = omega arith in
    ap (map declaration) (drop-cons decls place x h ∙ (λ i. sym is i ∷ drop (next i) decls))

-- an environment is there, and nodes are, where scopes are the same
pub within_same : (s t : Scope) (k j : ℕ) → s ≡ t → k ≡ j → j ≤ length (rows_of t) → k ≤ length (rows_of s)
within_same s t k j same is h = omega (arith, is, ap (λ r. length (rows_of r)) same, h)

pub there_same : (s t : Scope) (ds es : List DeclaredNode) → s ≡ t → ds ≡ es → AreThere (length (rows_of t)) es → AreThere (length (rows_of s)) ds
there_same s t ds es same is h = subst (λ r. AreThere (length (rows_of r)) ds) (sym same) (subst (AreThere (length (rows_of t))) (sym is) h)

-- a node is passed that isn't the one that is asked for
pub node_passed : (d : ℕ) (rows : List Entry) (ds new : List DeclaredNode) (x : DeclaredNode) (wanted : Option (List ℕ)) (decls : List Decl) (place : ℕ) (y : Decl) (all : Option Node) → place < length decls → y ≡ get_or decls place y
    → y ≡ decl.Node x.node.now → is_wanted wanted (word x.node.now.name) ≡ false → new ≡ ds ++ x ∷ []
    → node_among (runnables d rows ds) (environment (meant d) rows x.environment) wanted (map declaration (drop place decls)) ≡ all
    → node_among (runnables d rows new) (environment (meant d) rows x.environment) wanted (map declaration (drop (place + 1) decls)) ≡ all
node_passed d rows ds new x wanted decls place y all h is node_is other pushed so_far =
    let known = runnables d rows ds in
    let env : Environment Denotation = environment (meant d) rows x.environment in
    let rest = map declaration (drop (place + 1) decls) in
    let n = x.node.now in
    let one : Node = node_of known env (word n.name) (groupings n.inputs) (groupings n.outputs) (map run n.runs.items) (trace n.body) in
    ap (λ ks. node_among ks env wanted rest) (runnables_pushed d rows ds new x pushed)
    ∙ sym (ap (λ (b : Bool). if b then Some one else node_among (runnable_at d rows x ∷ known) env wanted rest) other)
    ∙ sym (ap (node_among known env wanted) (left_from decls place y h is ∙ ap (λ (z : Decl). declaration z ∷ rest) node_is))
    ∙ so_far

-- a macro is
pub macro_passed : (d : ℕ) (old new : List Entry) (ds : List DeclaredNode) (k next : ℕ) (wanted : Option (List ℕ)) (decls : List Decl) (place : ℕ) (y : Decl) (m : MacroDecl) (all : Option Node) → place < length decls → y ≡ get_or decls place y
    → y ≡ decl.Macro m → AddsTo old new → AreThere (length old) ds → environment (meant d) new next ≡ with_macro (meant d) (macro m) (environment (meant d) old k)
    → node_among (runnables d old ds) (environment (meant d) old k) wanted (map declaration (drop place decls)) ≡ all
    → node_among (runnables d new ds) (environment (meant d) new next) wanted (map declaration (drop (place + 1) decls)) ≡ all
macro_passed d old new ds k next wanted decls place y m all h is macro_is a there made so_far =
    let env : Environment Denotation = environment (meant d) old k in
    let rest = map declaration (drop (place + 1) decls) in
    (λ i. node_among (runnables_kept d old new ds a there i) (made i) wanted rest)
    ∙ sym (ap (node_among (runnables d old ds) env wanted) (left_from decls place y h is ∙ ap (λ (z : Decl). declaration z ∷ rest) macro_is))
    ∙ so_far

-- so are exceptions
pub exceptions_passed : (d : ℕ) (old new : List Entry) (ds : List DeclaredNode) (k next : ℕ) (wanted : Option (List ℕ)) (decls : List Decl) (place : ℕ) (y : Decl) (ns : Names) (all : Option Node) → place < length decls → y ≡ get_or decls place y
    → y ≡ decl.Exceptions ns → AddsTo old new → AreThere (length old) ds → environment (meant d) new next ≡ with_exceptions 0 (words ns) (environment (meant d) old k)
    → node_among (runnables d old ds) (environment (meant d) old k) wanted (map declaration (drop place decls)) ≡ all
    → node_among (runnables d new ds) (environment (meant d) new next) wanted (map declaration (drop (place + 1) decls)) ≡ all
exceptions_passed d old new ds k next wanted decls place y ns all h is exceptions_are a there made so_far =
    let env : Environment Denotation = environment (meant d) old k in
    let rest = map declaration (drop (place + 1) decls) in
    (λ i. node_among (runnables_kept d old new ds a there i) (made i) wanted rest)
    ∙ sym (ap (node_among (runnables d old ds) env wanted) (left_from decls place y h is ∙ ap (λ (z : Decl). declaration z ∷ rest) exceptions_are))
    ∙ so_far
