-- Where the nodes of a text stand, and how many runs their nests have, as a map of the code tells it.
use Rattle.std.specs.Prelude.{◌≡◌, ℕ, suc, List, [], ◌∷◌, bytes_eq, min, option_map, if◌then◌else◌}
use Rattle.std.specs.declared.option.Option.{Option}
use Rattle.std.specs.declared.option.Option.TheVariants.{None, Some}
use Rattle.indexmap.specs.IndexMap.{get_by_text}
use Rattle.lt_ast.specs.Syntax as s
use Rattle.lt_ast.specs.Syntax.{Declaration}
use Rattle.lt_expand.specs.Nested.{runs_in_nest}
use Rattle.lt_expand.specs.declared.nested.Nesting.{Nesting}
use Rattle.lt_expand.specs.inner.Nesting.{runs_found}

-- the place of the node of this name among declarations, of which the first has this place
abbrev pub node_place : List ℕ → ℕ → List Declaration → Option ℕ
node_place name i [] = None
node_place name i (s.node w ins outs rs x ∷ ds) =
    if bytes_eq name w.text then Some i else node_place name (suc i) ds
node_place name i (s.macro_declaration m ∷ ds) = node_place name (suc i) ds
node_place name i (s.exception_declaration ws ∷ ds) = node_place name (suc i) ds

-- Each name leads to the place of its node, and to how many runs its nest has, up to one more than there may be.
pub record IsNestingOf (ds : List Declaration) (n : Nesting) : Type 0 where
  pub places : (q : List ℕ) →
      option_map (λ x. x.place) (get_by_text n.nodes q) ≡ node_place q 0 ds
  pub runs : (q : List ℕ) →
      runs_found (get_by_text n.nodes q) ≡ min (runs_in_nest (Some q) ds) 17
