-- The nest that a value of the code stands for.
use Rattle.std.specs.Prelude.{map}
use Rattle.lt_formula.specs.Table.{spelled}
use Rattle.lt_formula.specs.View.{table_expressions}
use Rattle.lt_term.specs.SceneView.{scene}
use Rattle.lt_frontend.specs.Nest as n
use Rattle.lt_frontend.specs.Nest.{Runs, no_run, run}
use Rattle.lt_frontend.specs.declared.nest.Nest.{Nest}
use Rattle.lt_frontend.specs.declared.nest.NestRun.{NestRun, NestRun'}
use Rattle.lt_frontend.specs.declared.nest.NestRuns.{NestRuns, NestRuns', Row_of-NestRun, end_of-NestRun, more_of-NestRun}

abbrev mutual
  -- runs of nodes
  pub runs : NestRuns → Runs
  runs (NestRuns' shape row) = run_row row

  -- the runs of a list
  pub run_row : {m : _} → Row_of-NestRun m → Runs
  run_row end_of-NestRun = no_run
  run_row (more_of-NestRun r rest) = run_before r (run_row rest)

  -- a run, and those after it
  pub run_before : NestRun → Runs → Runs
  run_before (NestRun' table arguments scenario own_inputs inner) rest =
      run (map (spelled (table_expressions table)) arguments.items) (scene scenario) own_inputs
      (runs inner) rest

-- a node with those that it runs
abbrev pub nest : Nest → n.Nest
nest m = record { scene = scene m.scenario; own_inputs = m.own_inputs; runs = runs m.runs }
