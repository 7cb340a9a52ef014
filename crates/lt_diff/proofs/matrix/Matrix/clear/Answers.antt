use Rattle.std.proofs.Common.{List, ℤ, subst, sym, ◌∙◌}
use Rattle.std.proofs.lemmas.List.{with_items_is}
use Rattle.lt_diff.specs.Bounds.{cell_of}
use Rattle.lt_diff.specs.Closing.{AreStated}
use Rattle.lt_diff.proofs.Stating.{cleared_stated}
use Rattle.lt_diff.proofs.matrix.Matrix.clear.Goals as goal

pub returns-clause-stated : goal.returns-clause-stated
returns-clause-stated c =
    let n = c.args.self.now.size in
    let new = c.clear_bounds.new.cells in
    let is = with_items_is c.args.self.now.cells new (c.clear_bounds.auto.cells ∙ c.deref_mut.ensures.len) in
    subst (λ (xs : List ℤ). AreStated n (cell_of n xs)) (sym is) (cleared_stated n (cell_of n new) c.args.self.now.some c.clear_bounds.ensures)
