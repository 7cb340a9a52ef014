use Rattle.std.proofs.Common.{length, ap, ◌∙◌, sym, arith}
use Rattle.std.proofs.lemmas.Grind.{common_steps}
use Rattle.std.proofs.lemmas.List.{get_or-map, length-map, length_push}
use Rattle.std.proofs.lemmas.Slice.Zip.{zip_turn, zip_end}
use Rattle.lt_ast.specs.View.{word, words}
use Rattle.lt_types.proofs.Declaring.{variables_next, variables_done}
use Rattle.lt_types.proofs.scope.Scope.declare_variables.Goals as goal

pub loop-name-preserved : goal.loop-name-preserved
loop-name-preserved c =
    let items = c.args.names.now.items.items in
    let t = zip_turn items c.args.kinds.now c.loop-name.yielded c.into_iter-name-iterator.result c.loop-name.name-iterator c.next.new.self c.next.result (cc) (cc) c.loop-name.yielded_by _ c.in-Some.is c.next.ensures.steps in
    let e =
    variables_next (words c.args.names.now) c.args.kinds.now (length c.loop-name.yielded) (word c.in-Some.name.now) c.in-Some.kind.now c.loop-name.self.names (omega (arith, t.0, length-map items word)) t.1
    (ap word (t.2 c.in-Some.name.now) ∙ sym (get_or-map word items (length c.loop-name.yielded) c.in-Some.name.now (word c.in-Some.name.now) t.0)) (t.3 c.in-Some.kind.now) in
    let n = length_push c.loop-name.yielded (c.in-Some.name, c.in-Some.kind) in
    grind (arith, common_steps)

pub returns-clause-ok : goal.returns-clause-ok
returns-clause-ok c =
    let items = c.args.names.now.items.items in
    let t = zip_end items c.args.kinds.now c.loop-name.yielded c.into_iter-name-iterator.result c.loop-name.name-iterator c.next.new.self c.next.result (cc) (cc) c.loop-name.yielded_by c.in-None.is c.next.ensures.steps in
    let l = length-map items word in
    let e = variables_done (words c.args.names.now) c.args.kinds.now (length c.loop-name.yielded) c.loop-name.self.names (cc) in
    grind (arith, common_steps)
