-- The lists of a tree, put together from parts in turn.
use Rattle.std.proofs.Common.{◌≡◌, Bool, List, [], ◌∷◌, Vec, Global, map, refl, ap, ◌∙◌}
use Rattle.lt_ast.specs.declared.group.Group.{Group}
use Rattle.lt_ast.specs.declared.group.Groups.{out-roll-Groups, roll-Groups}
use Rattle.lt_ast.specs.declared.trace.Braced.TheVariants.{Priority, Parallel}
use Rattle.lt_ast.specs.declared.trace.Part.{Part}
use Rattle.lt_ast.specs.declared.trace.Parts.{out-roll-Parts, roll-Parts}
use Rattle.lt_ast.specs.declared.trace.TraceExpr.{TraceExpr}
use Rattle.lt_ast.specs.declared.trace.TraceExpr.TheVariants.{Seq}
use Rattle.lt_ast.specs.declared.trace.Traces.{Traces}
use Rattle.lt_ast.specs.inner.Lists.{alternatives_of, groups_of, traces_of}
use Rattle.lt_ast.specs.inner.Rows.{group_of, part_of}
use Rattle.lt_ast.specs.Syntax as s
use Rattle.lt_ast.specs.View.{alternatives, braced, groupings, trace}
use Rattle.lt_ast.proofs.Public.{alternatives_list, groups_list, traces_list}
use Rattle.lt_parser.specs.inner.Onto.{alternatives_onto, groups_onto, traces_onto}

-- traces in turn
traces_onto-none : (xs : List TraceExpr) → traces_of (map trace xs) ≡ traces_onto xs s.no_traces
traces_onto-none [] = refl
traces_onto-none (x ∷ xs) = ap (s.one_trace (trace x)) (traces_onto-none xs)

-- alternatives in turn
alternatives_onto-none : (xs : List Part) → alternatives_of (map part_of xs) ≡ alternatives_onto xs s.no_alternatives
alternatives_onto-none [] = refl
alternatives_onto-none (x ∷ xs) = ap (s.alternative (part_of x)) (alternatives_onto-none xs)

-- groups in turn
groups_onto-none : (xs : List Group) → groups_of (map group_of xs) ≡ groups_onto xs s.no_groups
groups_onto-none [] = refl
groups_onto-none (x ∷ xs) = ap (s.one_group (group_of x)) (groups_onto-none xs)

-- a sequence
pub sequence_whole : (xs : Traces) → trace (Seq xs) ≡ s.sequence (traces_onto xs.items.items s.no_traces)
sequence_whole xs = ap s.sequence (traces_list xs.items ∙ traces_onto-none xs.items.items)

-- a priority
pub priority_whole : (lead : Bool) (xs : Traces) → braced (Priority lead xs) ≡ s.priority lead (traces_onto xs.items.items s.no_traces)
priority_whole lead xs = ap (s.priority lead) (traces_list xs.items ∙ traces_onto-none xs.items.items)

-- a parallel composition
pub parallel_whole : (lead : Bool) (xs : Traces) → braced (Parallel lead xs) ≡ s.parallel lead (traces_onto xs.items.items s.no_traces)
parallel_whole lead xs = ap (s.parallel lead) (traces_list xs.items ∙ traces_onto-none xs.items.items)

-- alternatives
pub alternatives_whole : (xs : Vec Part Global) → alternatives (roll-Parts (record { items = xs })) ≡ alternatives_onto xs.items s.no_alternatives
alternatives_whole xs = alternatives_list (roll-Parts (record { items = xs })) ∙ ap (λ p. alternatives_of (map part_of p.items.items)) (out-roll-Parts (record { items = xs })) ∙ alternatives_onto-none xs.items

-- groups
pub groups_whole : (xs : Vec Group Global) → groupings (roll-Groups (record { items = xs })) ≡ groups_onto xs.items s.no_groups
groups_whole xs = groups_list (roll-Groups (record { items = xs })) ∙ ap (λ g. groups_of (map group_of g.items.items)) (out-roll-Groups (record { items = xs })) ∙ groups_onto-none xs.items
