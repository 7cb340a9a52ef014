-- Runs of scenarios.
use Rattle.lt_loop.specs.CoreView.{plan_of}
use Rattle.lt_loop.specs.Machine.{giving_up}
use Rattle.lt_trace_laws.specs.Replay.{ReplaysAreTheSame}
use Rattle.lt_trace_laws.specs.Shown.{PrefixesShowTheirRun, TracesShowTheirRun}
use Rattle.lt_step.specs.Machine.{State, started}
use Rattle.lt_play.specs.Rules.{known_scene, scenario_rules}
use Rattle.lt_scenario_laws.specs.Traced.{ScenarioPrefixesShowTheirRun, ScenarioReplaysAreTheSame, ScenarioTracesShowTheirRun, ScenariosAreTraceable, ScenariosShowTheirInstants}

module _ (can : ScenariosAreTraceable) (shows : ScenariosShowTheirInstants) where
  pub scenario_replays_are_the_same : ReplaysAreTheSame State → ScenarioReplaysAreTheSame
  scenario_replays_are_the_same law decimals node text scene budget setup u c o e run small ends_so well room =
      law (giving_up u scenario_rules) (plan_of (known_scene scene) setup) setup.limit (started scene setup.seed budget setup.draw) c o e (can decimals node text scene run.scenario) small run.limit run.served
      (shows decimals node text scene setup.seed budget setup.draw setup.limit u run.scenario) ends_so well room

  pub scenario_traces_show_their_run : TracesShowTheirRun State → ScenarioTracesShowTheirRun
  scenario_traces_show_their_run law decimals node text scene budget setup u c o e run ends_so =
      law (giving_up u scenario_rules) (plan_of (known_scene scene) setup) setup.limit (started scene setup.seed budget setup.draw) c o e (can decimals node text scene run.scenario) run.limit run.served
      (shows decimals node text scene setup.seed budget setup.draw setup.limit u run.scenario) ends_so

  pub scenario_prefixes_show_their_run : PrefixesShowTheirRun State → ScenarioPrefixesShowTheirRun
  scenario_prefixes_show_their_run law decimals node text scene budget setup u c o ps rest run begins unended =
      law (giving_up u scenario_rules) (plan_of (known_scene scene) setup) setup.limit (started scene setup.seed budget setup.draw) c o ps rest (can decimals node text scene run.scenario) run.limit run.served
      (shows decimals node text scene setup.seed budget setup.draw setup.limit u run.scenario) begins unended
