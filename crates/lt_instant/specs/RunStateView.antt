-- Where a run of the code stands.
use Rattle.std.specs.Prelude.{ℕ, if◌then◌else◌, None, Some}
use Rattle.std.specs.declared.option.Option.{Option}
use Rattle.lt_formula.specs.Table.{spelled}
use Rattle.lt_formula.specs.View.{table_expressions}
use Rattle.lt_formula.specs.declared.table.Table.{Table}
use Rattle.lt_term.specs.Configuration.{Configuration, Reaction}
use Rattle.lt_term.specs.Process.{Process, dead, with_constraints}
use Rattle.lt_marks.specs.View as track
use Rattle.lt_instant.specs.declared.explorer.Explorer.{Explorer}
use Rattle.lt_instant.specs.declared.past.Past.{Past}
use Rattle.lt_instant.specs.declared.reaction.Reaction as code
use Rattle.lt_instant.specs.declared.run_state.RunState.{RunState}

-- the values of an instant
abbrev pub reaction : code.Reaction → Reaction
reaction r = record { inputs = r.inputs.items; outputs = r.outputs.items }

-- the instant before, if there was one
abbrev pub previous_of : Past → Option Reaction
previous_of p = if p.has_reacted then Some (reaction p.reaction) else None

-- what is still to be done
abbrev pub process_of : Explorer → Process ℕ
process_of e = track.standing e.track

-- where a run stands that has this behind it, whatever is still to be done
abbrev pub configuration_behind : Past → Configuration
configuration_behind p = record { process = dead; step = p.step; previous = previous_of p }

-- where a run stands, over a table
abbrev pub configuration : Table → RunState → Configuration
configuration table s = record (configuration_behind s.past) {
  process = with_constraints (spelled (table_expressions table)) (process_of s.explorer);
}
