-- What loads and searches.
use Rattle.std.specs.Prelude.{◌≡◌, ◌≤◌, length, vec_capacity}
use Rattle.lt_instant.specs.Equipment.{HasRoomForEarlier}
use Rattle.lt_instant.specs.Solved.{drawn_ranges}
use Rattle.lt_solver.specs.WorkspaceView.{workspace_gates, workspace_ranges}
use Rattle.lt_space.specs.SpaceView.{space_gates, space_most, IsOver}
use Rattle.lt_space.specs.declared.space.Space.{Space}
use Rattle.lt_term.specs.SceneView.{scene}
use Rattle.lt_term.specs.declared.scenario.Scenario.{Scenario}
use Rattle.lt_check.specs.declared.searcher.Searcher.{Searcher}
use Rattle.lt_check.specs.inner.Searches.{lows_of}

-- the space of its constraints
abbrev pub searcher_space : Searcher → Space
searcher_space r = r.space

-- it is one for a scenario
pub record IsSearcherOf (s : Scenario) (r : Searcher) : Type 0 where
  pub table : IsOver s.table r.space
  pub most : r.most ≡ space_most r.space
  pub ranges : workspace_ranges r.workspace ≡ drawn_ranges (scene s)
  pub gates : space_gates r.space ≤ workspace_gates r.workspace
  pub lows : r.lows.items ≡ lows_of (drawn_ranges (scene s))
  pub scope : length (drawn_ranges (scene s)) ≤ vec_capacity r.scope
  pub earlier : HasRoomForEarlier s r.earlier
  pub points : length (drawn_ranges (scene s)) ≤ vec_capacity r.points
  pub kleenes : space_gates r.space ≤ vec_capacity r.kleenes
