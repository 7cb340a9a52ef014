use Rattle.std.proofs.Common.{◌≡◌, ◌+◌, List, length, map, take, ◌++◌, ◌∷◌, [], ap, sym, ◌∙◌, arith, rules}
use Rattle.std.specs.List.{zip}
use Rattle.std.proofs.lemmas.Iterator.{YieldsList-from_slice, YieldsList-from_zip}
use Rattle.std.proofs.lemmas.Iterator.Adapters.{YieldsList-from_vec}
use Rattle.std.proofs.lemmas.Iterator.Consumers.{YieldsList-turn, YieldsList-end}
use Rattle.std.proofs.lemmas.List.{length_push, take_all}
use Rattle.lt_ast.specs.declared.name.Name.{Name}
use Rattle.lt_macros.specs.declared.tree.Declared.{Declared as Tree}
use Rattle.lt_macros.proofs.Runs.{pair_given, pair_pushed, pairs_given}
use Rattle.lt_macros.proofs.calls.given_names.Goals as goal

pub loop-name-preserved : goal.loop-name-preserved
loop-name-preserved c =
    let names = c.args.names.now in
    let outputs = c.args.outputs.items in
    let pairs : List (Name × Tree) = zip names outputs in
    let t = YieldsList-turn (YieldsList-from_zip {s = c.into_iter-name-iterator.result} (YieldsList-from_slice names (cc)) (YieldsList-from_vec outputs (cc) (search rules))) c.loop-name.yielded c.loop-name.name-iterator c.loop-name.yielded_by c.next.result c.next.new.self (c.in-Some.name, c.in-Some.output) c.in-Some.is c.next.ensures.steps in
    let next : length c.loop-name.yielded + 1 ≡ length (c.loop-name.yielded ++ (c.in-Some.name, c.in-Some.output) ∷ []) = sym (length_push c.loop-name.yielded (c.in-Some.name, c.in-Some.output)) in
    pair_pushed c.args.builder.now.decimals pairs (length c.loop-name.yielded) (c.in-Some.name.now, c.in-Some.output) c.loop-name.given.items c.push.new.self.items c.in_ok-given_name.field-0 t.0 t.1
    c.in_ok-push.ensures.items c.in_ok-given_name.ensures c.loop-name.invariant
    ∙ ap (λ k. map (pair_given c.args.builder.now.decimals) (take k pairs)) next

pub returns-clause-given : goal.returns-clause-given
returns-clause-given c =
    let names = c.args.names.now in
    let outputs = c.args.outputs.items in
    let pairs : List (Name × Tree) = zip names outputs in
    let t = YieldsList-end (YieldsList-from_zip {s = c.into_iter-name-iterator.result} (YieldsList-from_slice names (cc)) (YieldsList-from_vec outputs (cc) (search rules))) c.loop-name.yielded c.loop-name.name-iterator c.loop-name.yielded_by c.next.result c.next.new.self c.in-None.is c.next.ensures.steps in
    c.loop-name.invariant
    ∙ ap (map (pair_given c.args.builder.now.decimals)) (take_all (length c.loop-name.yielded) pairs (omega (arith, t.1)))
    ∙ pairs_given c.args.builder.now.decimals names outputs
