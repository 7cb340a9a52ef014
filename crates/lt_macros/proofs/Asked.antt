-- The node that is asked for.
use Rattle.std.proofs.Common.{◌≡◌, ℕ, List, [], ◌∷◌, Option, None, map, slice_get, refl, ap, sym, ◌∙◌}
use Rattle.lt_ast.specs.View.{declaration, groupings, program, run, trace, word}
use Rattle.lt_ast.specs.declared.program.Decl.{Decl}
use Rattle.lt_ast.specs.declared.program.Program.{Program}
use Rattle.lt_macros.specs.Environment.{at_start}
use Rattle.lt_macros.specs.Expanded.{Node}
use Rattle.lt_macros.specs.Expansion.{expanded_node, node_among, node_of}
use Rattle.lt_macros.specs.inner.Asking.{runnables}
use Rattle.lt_macros.specs.inner.Reading.{environment, meant}
use Rattle.lt_macros.specs.inner.Rows.{rows}
use Rattle.lt_macros.specs.declared.declarations.Asked.{Asked}
use Rattle.lt_macros.specs.declared.limit.Limit.{Limit}
use Rattle.lt_macros.specs.declared.scope.Entry.{Entry}

-- the node as it is asked for
abbrev pub node_at : ℕ → List Entry → Asked → Node
node_at d rows a =
    node_of (runnables d rows a.before.items) (environment (meant d) rows a.environment) (word a.node.now.name) (groupings a.node.now.inputs) (groupings a.node.now.outputs) (map run a.node.now.runs.items) (trace a.node.now.body)

-- the declarations are those of the program
pub whole : (d : ℕ) (wanted : Option (List ℕ)) (p written : Program) (decls : List Decl) → decls ≡ p.decls.items → p ≡ written → expanded_node d wanted (program written) ≡ node_among [] (at_start d) wanted (map declaration decls)
whole d wanted p written decls is same = sym (ap (λ ds. node_among [] (at_start d) wanted (map declaration ds)) (is ∙ ap (λ (q : Program). q.decls.items) same))

-- there is none where there is no first one
pub none_passed : (limits : List Limit) → None ≡ slice_get limits 0 → limits ≡ []
none_passed [] h = refl
none_passed (l ∷ limits) h = absurd (cc)
