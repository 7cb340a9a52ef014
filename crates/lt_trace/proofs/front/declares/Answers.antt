use Rattle.std.proofs.Common.{◌≡◌, None, map, sym, ◌∙◌}
use Rattle.std.specs.List.{flat_map}
use Rattle.lt_rif.specs.Trace.{declared_text, declared_variable}
use Rattle.lt_trace.specs.inner.Front.{behind}
use Rattle.lt_trace.proofs.Fronts.{left_none, left_some, same_behind, same_none}
use Rattle.lt_trace.proofs.front.declares.Goals as goal

pub returns-in_default : goal.returns-in_default
returns-in_default c =
    let none_there : None ≡ behind c.args.line.now c.args.mark.now = rw c.in_default.is at c.behind.ensures in
    sym (same_none c.args.line.now c.args.mark.now (flat_map declared_text (map declared_variable c.args.variables.now)) (sym none_there))

pub loop-variables-init : goal.loop-variables-init
loop-variables-init c = same_behind c.args.line.now c.args.mark.now c.in-Some.rest.now (flat_map declared_text (map declared_variable c.args.variables.now)) (sym c.in-Some.ensures)

pub returns-in_default-behind_declared : goal.returns-in_default-behind_declared
returns-in_default-behind_declared c =
    sym (c.loop-variables.invariant
    ∙ left_none c.loop-variables.rest.now c.loop-variables.variables.now c.variable-item.result c.in-len1-up.len_at_least c.variable-item.is (rw c.in_default-behind_declared.is at c.behind_declared.ensures))

pub loop-variables-preserved : goal.loop-variables-preserved
loop-variables-preserved c =
    c.loop-variables.invariant
    ∙ left_some c.loop-variables.rest.now c.in-Some-behind_declared.after.now c.loop-variables.variables.now c.variable-item.result c.in-len1-up.len_at_least c.variable-item.is c.in-Some-behind_declared.ensures
