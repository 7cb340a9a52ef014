use Rattle.std.proofs.Common.{ℕ, List, ◌++◌, ◌∷◌, [], ap, sym, ◌∙◌, subst}
use Rattle.lt_walk.specs.Asked.{IsOrder}
use Rattle.lt_instant.proofs.Picked.{all_come, come_is, none_left, side_fits, side_goes}
use Rattle.lt_instant.proofs.drawer.DrawerChooserDrawContext.side.Goals as goal

pub go_to_side-requires : goal.go_to_side-requires
go_to_side-requires c =
    let p = c.args.self.now in
    let o = subst (λ (ks : List ℕ). IsOrder c.requires.asked.0 ks c.args.nodes) (come_is p.draw_path c.requires.ends) c.requires.asked.3 in
    let f = side_fits c.args._context.now c.requires.asked.0 c.trees_agree.ensures.sizes c.requires.asked.1 p c.requires.asked.2 c.args.nodes o in
    record { depth = f.0; room = f.1; position = f.2; nodes = f.3 }

pub returns-clause-come : goal.returns-clause-come
returns-clause-come c =
    all_come c.go_to_side.new.self c.go_to_side.ensures.taken ∙ c.go_to_side.ensures.path ∙ ap (λ (ks : List ℕ). ks ++ 0 ∷ []) (sym (come_is c.args.self.now.draw_path c.requires.ends))

pub returns-clause-left : goal.returns-clause-left
returns-clause-left c = none_left c.go_to_side.new.self c.go_to_side.ensures.taken

pub returns-clause-at : goal.returns-clause-at
returns-clause-at c = λ whole most h o.
    let p = c.args.self.now in
    side_goes c.args._context.now whole c.trees_agree.ensures.sizes most p h c.args.nodes (subst (λ (ks : List ℕ). IsOrder whole ks c.args.nodes) (come_is p.draw_path c.requires.ends) o)
    _ c.go_to_side.ensures.path c.go_to_side.ensures.position c.go_to_side.ensures.stack h.can.earlier
