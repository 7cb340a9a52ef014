use Rattle.std.proofs.Common.{◌≡◌, ◌≤◌, ℕ, [], drop, length, map}
use Rattle.lt_ast.specs.View.{declaration}
use Rattle.lt_macros.specs.Environment.{at_start}
use Rattle.lt_macros.specs.Expansion.{node_among}
use Rattle.lt_macros.specs.Answer.{asked_name}
use Rattle.lt_macros.specs.inner.Asking.{AreThere, runnables}
use Rattle.lt_macros.specs.inner.Handing.{AreRight}
use Rattle.lt_macros.specs.inner.Reading.{environment, meant}
use Rattle.lt_macros.specs.inner.Rows.{rows}
use Rattle.lt_macros.proofs.declarations.asked_node.Given as goal

-- the node is still to be found among what is left
abbrev pub invariant-loop-decl : goal.invariant-loop-decl
invariant-loop-decl l =
    record {
      node :
          (decimals : ℕ) → node_among (runnables decimals (rows l.scope) l.before.items) (environment (meant decimals) (rows l.scope) l.environment) (asked_name l.wanted) (map declaration (drop l.decl-index l.decls))
          ≡ node_among [] (at_start decimals) (asked_name l.wanted) (map declaration l.decls);
      within : l.environment ≤ length (rows l.scope);
      there : AreThere (length (rows l.scope)) l.before.items;
      right : AreRight (rows l.scope);
    }
