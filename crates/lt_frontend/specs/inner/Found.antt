-- What is found of a node that is run.
use Rattle.std.specs.Prelude.{ℕ, ◌<◌, List, [], ◌∷◌, Option, Some}
use Rattle.lt_ast.specs.Syntax as s
use Rattle.lt_ast.specs.Syntax.{Run, Declaration}
use Rattle.lt_expand.specs.Nested.{runs_in_nest}

-- the runs of a declaration: only a node has some
abbrev pub runs_in_declaration : Declaration → List Run
runs_in_declaration (s.node w ins outs rs x) = rs
runs_in_declaration (s.macro_declaration m) = []
runs_in_declaration (s.exception_declaration ws) = []

-- Of these runs each leads to a smaller number than this one.
abbrev pub LeadBelow : (List ℕ → ℕ) → ℕ → List Run → Type 0
LeadBelow total most [] = Unit {0}
LeadBelow total most (r ∷ rs) = (total r.node.text < most) × LeadBelow total most rs

-- Each of these runs is of a node whose nest has fewer runs than that of the node that is asked for.
abbrev pub HaveFewer : List Declaration → Option (List ℕ) → List Run → Type 0
HaveFewer ds wanted rs = LeadBelow (λ q. runs_in_nest (Some q) ds) (runs_in_nest wanted ds) rs
