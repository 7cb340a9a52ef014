use Rattle.std.proofs.Common.{◌≡◌, length, map, take}
use Rattle.std.specs.List.{zip}
use Rattle.lt_macros.specs.Tree.{declared}
use Rattle.lt_macros.proofs.Runs.{pair_given}
use Rattle.lt_macros.proofs.calls.given_names.Given as goal

-- those of the names that are passed are made
abbrev pub invariant-loop-name : goal.invariant-loop-name
invariant-loop-name l = map declared l.given.items ≡ map (pair_given l.fn.builder.decimals) (take (length l.yielded) (zip l.fn.names l.fn.outputs.items))
