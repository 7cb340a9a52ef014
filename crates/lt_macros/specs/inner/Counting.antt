-- What is still to be counted of a node.
use Rattle.std.specs.Prelude.{◌≡◌, ◌<◌, ◌≤◌, ℕ, ◌+◌, List, [], ◌∷◌, map, reverse}
use Rattle.lt_ast.specs.Syntax.{Groupings, Trace, Word}
use Rattle.lt_ast.specs.View.{written_range, trace as trace_view, word}
use Rattle.lt_ast.specs.inner.Lists.{alternatives_of, groups_of}
use Rattle.lt_ast.specs.inner.Rows.{group_of, maybe_exp, part_of}
use Rattle.lt_ast.specs.declared.group.Group.{Group}
use Rattle.lt_formula.specs.declared.role.Role.TheVariants as role
use Rattle.lt_macros.specs.Environment.{Environment}
use Rattle.lt_macros.specs.Expanded.{Declared}
use Rattle.lt_macros.specs.Denotation.{Numbers, ExpandedTrace, ExpandedParts, Denotation, as_trace, as_expression, declared_as, first_of, in_groups, in_locals, parts_of, trace_denotation}
use Rattle.lt_macros.specs.Limits.{most_nodes}
use Rattle.lt_macros.specs.inner.Figures.{Figure, nodes, expanded_figure, expression_figure, parts_figure}
use Rattle.lt_macros.specs.inner.Numbers.{numbers_view}
use Rattle.lt_macros.specs.inner.Reading.{environment, meant, phrase_view}
use Rattle.lt_macros.specs.inner.Seen.{Seen, an_expression, a_trace}
use Rattle.lt_macros.specs.inner.Tallies.{counted}
use Rattle.lt_macros.specs.declared.tally.Tally.{Tally}
use Rattle.lt_macros.specs.declared.scope.Entry.{Entry}
use Rattle.lt_macros.specs.declared.scope.Phrase.{Phrase as CodePhrase}
use Rattle.lt_macros.specs.declared.counting.Count.{Count}
use Rattle.lt_macros.specs.declared.counting.Left.{Left}
use Rattle.lt_macros.specs.declared.counting.Left.TheVariants.{Trace as TraceLeft, Expression, Alternatives, Groups, Names}
use Rattle.lt_macros.specs.declared.counting.Locals.{Locals}
use Rattle.lt_macros.specs.declared.counting.Pending.{Pending}

-- the figure of what is seen at a depth, and then of what stands behind it
abbrev pub seen_then : Figure → ℕ → Seen → (Numbers → ℕ) → Numbers → ℕ
seen_then f depth (an_expression e) rest n = expression_figure f depth e + rest n
seen_then f depth (a_trace x) rest n = expanded_figure f depth x.expanded + rest x.after

-- the figure of a trace at a depth, and then of what stands behind it
abbrev pub trace_then : Figure → ℕ → ExpandedTrace → (Numbers → ℕ) → ℕ
trace_then f depth x rest = expanded_figure f depth x.expanded + rest x.after

-- the figure of alternatives at a depth, and then of what stands behind them
abbrev pub parts_then : Figure → ℕ → ExpandedParts → (Numbers → ℕ) → ℕ
parts_then f depth ps rest = parts_figure f depth ps.parts + rest ps.after

-- what is written in an environment among entries stands for this
abbrev pub denotation_at : ℕ → List Entry → ℕ → CodePhrase → Denotation
denotation_at decimals rows k phrase = (meant decimals).phrase (environment (meant decimals) rows k) (phrase_view phrase)

-- what a name of a group declares
abbrev pub group_declares : Environment Denotation → Group → Word → Declared
group_declares env g w = declared_as role.Local env g.kind (written_range g.range) (first_of env (maybe_exp g.first)) w

-- a trace with locals of groups
abbrev pub groups_trace : Groupings → Trace → Environment Denotation → Numbers → ExpandedTrace
groups_trace gs t env = in_groups env gs (λ inner. as_trace (trace_denotation inner t))

-- a trace with locals of the names of a group that are left, whose first value is written in the first environment, and then of
-- the groups that are left
abbrev pub locals_trace : Locals → Environment Denotation → Environment Denotation → Numbers → ExpandedTrace
locals_trace l outer env = in_locals (group_declares outer l.group.now) (map word l.names.now) env (groups_trace (groups_of (map group_of l.groups.now)) (trace_view l.body.now))

-- the figure of what is left in an environment at a depth, and then of what stands behind it
abbrev pub left_then : ℕ → List Entry → Figure → ℕ → ℕ → Left → (Numbers → ℕ) → Numbers → ℕ
left_then decimals rows f k depth (TraceLeft phrase) rest n = seen_then f depth (a_trace (as_trace (denotation_at decimals rows k phrase) n)) rest n
left_then decimals rows f k depth (Expression phrase) rest n = seen_then f depth (an_expression (as_expression (denotation_at decimals rows k phrase))) rest n
left_then decimals rows f k depth (Alternatives parts) rest n = parts_then f depth (parts_of (environment (meant decimals) rows k) (alternatives_of (map part_of parts.now)) n) rest
left_then decimals rows f k depth (Groups gs body) rest n = trace_then f depth (groups_trace (groups_of (map group_of gs.now)) (trace_view body.now) (environment (meant decimals) rows k) n) rest
left_then decimals rows f k depth (Names l) rest n = trace_then f depth (locals_trace l (environment (meant decimals) rows l.outer) (environment (meant decimals) rows k) n) rest

-- the figure of a part that is left, where it stands, and then of what stands behind it
abbrev pub pending_then : ℕ → List Entry → Figure → Pending → (Numbers → ℕ) → Numbers → ℕ
pending_then decimals rows f p rest n = left_then decimals rows f p.at.environment p.at.depth p.left rest n

-- the figure of what is on the list, from these numbers on
abbrev pub pending_figure : ℕ → List Entry → Figure → List Pending → Numbers → ℕ
pending_figure decimals rows f [] n = 0
pending_figure decimals rows f (p ∷ ps) n = pending_then decimals rows f p (pending_figure decimals rows f ps) n

-- what is on the list, the first part first
abbrev pub waiting : Count → List Pending
waiting c = reverse c.left.items

-- what was counted, and what is left
abbrev pub sum_of : ℕ → List Entry → Figure → Count → ℕ
sum_of decimals rows f c = counted c.tally f + pending_figure decimals rows f (waiting c) (numbers_view c.numbers)

-- The environments of what is left are among so many entries.
abbrev pub IsLeftWithin : ℕ → Left → Type 0
IsLeftWithin len (Names l) = l.outer ≤ len
IsLeftWithin len other = Unit {0}

-- There were so many entries when the first was put on the list, or fewer, and no more when the others were, but at least so
-- many at each time; each environment is among those of its time.
abbrev pub AreWithin : ℕ → ℕ → List Pending → Type 0
AreWithin least count [] = least ≤ count
AreWithin least count (p ∷ ps) = (p.at.environment ≤ p.at.len) × (IsLeftWithin p.at.len p.left × ((p.at.len ≤ count) × AreWithin least p.at.len ps))

-- The code's figures are these, if they aren't past the limit of nodes, and else these are past it.
abbrev pub IsTallied : Tally → (Figure → ℕ) → Type 0
IsTallied t figure = (t.nodes ≤ most_nodes → (f : Figure) → counted t f ≡ figure f) × (most_nodes < t.nodes → most_nodes < figure nodes)
