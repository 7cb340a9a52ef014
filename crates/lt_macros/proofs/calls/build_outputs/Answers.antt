use Rattle.std.proofs.Common.{Some, None, length, map, ap, sym, ◌∙◌, arith}
use Rattle.lt_macros.specs.Tree.{declared}
use Rattle.lt_macros.specs.inner.Rows.{rows}
use Rattle.lt_macros.proofs.Adding.{adds_length, all_back}
use Rattle.lt_macros.proofs.Building.{kept_none}
use Rattle.lt_macros.proofs.Runs.{found_there, outputs_found}
use Rattle.lt_macros.proofs.calls.build_outputs.Goals as goal

pub build_own_outputs-requires : goal.build_own_outputs-requires
build_own_outputs-requires c =
    record {
      within = found_there (length (rows c.args.builder.now.scope)) c.args.name.now c.args.before.now c.in-Some.found (sym c.in-Some.is ∙ c.node_before.ensures.found) c.requires.there;
      right = c.requires.ready.right;
    }

pub truncate-requires : goal.truncate-requires
truncate-requires c =
    omega (arith, c.len-len.ensures, adds_length (rows c.args.builder.now.scope) (rows c.build_own_outputs.new.builder.scope) c.in_ok-outputs.ensures.grown.names)

pub returns-in_default : goal.returns-in_default
returns-in_default c =
    let b = c.args.builder.now in
    record {
      made = ap (map declared) c.new.ensures.items ∙ sym (outputs_found b.decimals (rows b.scope) c.args.name.now c.args.before.now None (sym c.in_default.is ∙ c.node_before.ensures.found));
      kept = kept_none b;
    }

pub returns : goal.returns
returns c =
    let b = c.args.builder.now in
    record {
      made = c.in_ok-outputs.ensures.outputs ∙ sym (outputs_found b.decimals (rows b.scope) c.args.name.now c.args.before.now (Some c.in-Some.found) (sym c.in-Some.is ∙ c.node_before.ensures.found));
      kept = record {
        names = all_back (rows b.scope) (rows c.build_own_outputs.new.builder.scope) (rows c.truncate.new.self) c.len-len.result c.truncate.ensures.rows c.len-len.ensures c.in_ok-outputs.ensures.grown.names;
        decimals = c.in_ok-outputs.ensures.grown.decimals;
      };
    }
