use Rattle.std.proofs.Common.{ℕ, List, map, sym, refl, subst, arith}
use Rattle.std.proofs.lemmas.List.{length-map}
use Rattle.lt_walk.specs.Asked.{IsChoice}
use Rattle.lt_term.specs.TreeView.{weight}
use Rattle.lt_instant.specs.inner.DrawContextView.{drawn_word}
use Rattle.lt_instant.proofs.Picked.{come_is, fault_stops, part_fits, part_goes, picks_come, picks_left}
use Rattle.lt_instant.proofs.drawer.pick.Goals as goal

pub weigh-requires-clause-earlier : goal.weigh-requires-clause-earlier
weigh-requires-clause-earlier c = c.requires.asked.2.can.earlier

pub weigh-requires-clause-passes : goal.weigh-requires-clause-passes
weigh-requires-clause-passes c =
    let p = c.args.drawer.now in
    let path = come_is p.draw_path c.requires.ends in
    let at = subst (λ (ks : List ℕ). IsChoice c.requires.asked.0 ks c.args.scope.now (map weight c.args.weights.now) c.args.before.now) path c.requires.asked.3 in
    c.requires.asked.2.can.passes p.draw_path.path.items c.args.scope.now (map weight c.args.weights.now) at.stands

pub weigh-requires-clause-room : goal.weigh-requires-clause-room
weigh-requires-clause-room c =
    let p = c.args.drawer.now in
    let path = come_is p.draw_path c.requires.ends in
    let at = subst (λ (ks : List ℕ). IsChoice c.requires.asked.0 ks c.args.scope.now (map weight c.args.weights.now) c.args.before.now) path c.requires.asked.3 in
    let few = c.requires.asked.2.can.narrow p.draw_path.path.items c.args.scope.now (map weight c.args.weights.now) at.stands in
    let len = length-map c.args.weights.now weight in
    omega (arith, few, len, p.draw_path.weights_room)

pub go_to_part-requires : goal.go_to_part-requires
go_to_part-requires c =
    let p = c.args.drawer.now in
    let path = come_is p.draw_path c.requires.ends in
    let at = subst (λ (ks : List ℕ). IsChoice c.requires.asked.0 ks c.args.scope.now (map weight c.args.weights.now) c.args.before.now) path c.requires.asked.3 in
    let f = part_fits c.args.context.now c.requires.asked.0 c.trees_agree.ensures.sizes c.requires.asked.1 p c.requires.asked.2
    c.args.scope.now (map weight c.args.weights.now) c.args.before.now at c.weigh.new.found.items (sym c.in-Ok.ensures.weighs) in
    record { depth = f.0; room = f.1; position = f.2; few = f.3; parts = f.4; nodes = f.5 }

pub returns-in-Err-clause-at : goal.returns-in-Err-clause-at
returns-in-Err-clause-at c = λ whole most h o.
    let p = c.args.drawer.now in
    let path = come_is p.draw_path c.requires.ends in
    let at = subst (λ (ks : List ℕ). IsChoice whole ks c.args.scope.now (map weight c.args.weights.now) c.args.before.now) path o in
    fault_stops c.args.context.now whole c.trees_agree.ensures.sizes most p h
    c.args.scope.now (map weight c.args.weights.now) c.args.before.now at c.in-Err.fault _ (sym c.in-Err.ensures.weighs) refl refl refl refl c.weigh.ensures.earlier

pub returns-in-Ok-clause-at : goal.returns-in-Ok-clause-at
returns-in-Ok-clause-at c = λ whole most h o.
    let p = c.args.drawer.now in
    let path = come_is p.draw_path c.requires.ends in
    let at = subst (λ (ks : List ℕ). IsChoice whole ks c.args.scope.now (map weight c.args.weights.now) c.args.before.now) path o in
    part_goes c.args.context.now whole c.trees_agree.ensures.sizes most p h
    c.args.scope.now (map weight c.args.weights.now) c.args.before.now at c.weigh.new.found.items (sym c.in-Ok.ensures.weighs) c.go_to_part.result _ c.go_to_part.ensures refl c.weigh.ensures.earlier

pub returns-in-Ok-clause-come : goal.returns-in-Ok-clause-come
returns-in-Ok-clause-come c =
    picks_come (drawn_word c.args.context.now) c.args.before.now c.args.drawer.now.draw_path c.go_to_part.new.self c.weigh.new.found.items c.go_to_part.result c.requires.ends c.go_to_part.ensures

pub returns-in-Ok-clause-left : goal.returns-in-Ok-clause-left
returns-in-Ok-clause-left c =
    picks_left (drawn_word c.args.context.now) c.args.before.now c.args.drawer.now.draw_path c.go_to_part.new.self c.weigh.new.found.items c.go_to_part.result c.requires.ends c.go_to_part.ensures
