-- What a look tells.
use Rattle.std.specs.Prelude.{Bool, true, not}
use Rattle.lt_formula.specs.Expression.{Expression}
use Rattle.lt_space.specs.Formula.{Formula}
use Rattle.lt_term.specs.Evaluated.{Worth}
use Rattle.lt_term.specs.Offers.{TermTree}
use Rattle.lt_trace.specs.declared.recorded.RecordedEnd.{RecordedEnd}
use Rattle.lt_trace.specs.declared.recorded.RecordedEnd.TheVariants as recorded
use Rattle.lt_legal.specs.Asked.{IsHaltOf}
use Rattle.lt_legal.specs.declared.halt.Halt.{Halt}
use Rattle.lt_instant.specs.inner.DrawContextView.{scene_of, worth_of}
use Rattle.lt_check.specs.declared.looking.Look.{Look}
use Rattle.lt_check.specs.inner.AskingView.{AreNodesOf, MayGiveUpOf, is_told_of}
use Rattle.lt_check.specs.inner.Finding.{IsHaltIn, found_in}
use Rattle.lt_check.specs.inner.Offered.{offered_by}
use Rattle.lt_check.specs.inner.SearcherView.{IsSearcherOf}
use Rattle.lt_check.specs.inner.Searches.{is_alive}
use Rattle.lt_check.specs.inner.Some.{is_some_of}
use Rattle.lt_check.specs.inner.Wanted.{Wanted, for_fault, for_normal, for_raise}

-- what constraints and weights are worth
abbrev pub look_worth : Look → Worth Expression Formula
look_worth look = worth_of look.context

-- the tree of what the term offers
abbrev pub look_tree : Look → TermTree Expression
look_tree look = offered_by look.context.scenario.now look.term.now

-- A look can be made: it loads and searches for its scenario, and the nodes are those of the term.
pub record IsReady (look : Look) : Type 0 where
  pub searches : IsSearcherOf look.context.scenario.now look.searcher
  pub nodes : AreNodesOf look.context look.term.now look.tree.nodes.items

-- what halts a look for leaves
abbrev pub IsFindingHalt : Look → Wanted → Halt → Type 0
IsFindingHalt look w halt =
    IsHaltIn (scene_of look.context) (look_worth look) look.context.budget (look_tree look) w halt

-- whether some leaf that is wanted may be taken
abbrev pub look_finds : Look → Wanted → Bool
look_finds look w =
    is_some_of (found_in (scene_of look.context) (look_worth look) w (look_tree look))

-- whether a live leaf can be reached
abbrev pub look_lives : Look → Bool
look_lives look = is_told_of look.context look.term.now (is_alive (scene_of look.context)) 0

-- whether a run may end as a trace says
abbrev pub look_ends : Look → RecordedEnd → Bool
look_ends look recorded.Normal = look_finds look for_normal
look_ends look (recorded.Raise z) = look_finds look (for_raise (scene_of look.context) z)
look_ends look (recorded.Fault f) = look_finds look (for_fault f)
look_ends look recorded.Deadlock = not (look_lives look)
look_ends look recorded.Cut = true

-- what halts a look at the end
abbrev pub IsLookEndHalt : Look → RecordedEnd → Halt → Type 0
IsLookEndHalt look recorded.Normal halt = IsFindingHalt look for_normal halt
IsLookEndHalt look (recorded.Raise z) halt =
    IsFindingHalt look (for_raise (scene_of look.context) z) halt
IsLookEndHalt look (recorded.Fault f) halt = IsFindingHalt look (for_fault f) halt
IsLookEndHalt look recorded.Deadlock halt =
    IsHaltOf (MayGiveUpOf look.context look.term.now 0) halt
IsLookEndHalt look recorded.Cut halt = ⊥
