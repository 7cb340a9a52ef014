use Rattle.std.proofs.Common.{List, ℤ, subst, sym, ◌∙◌, to_z, of_z, ◌≡◌, rules}
use Rattle.std.specs.Int.{w64}
use Rattle.std.proofs.lemmas.List.{with_items_is}
use Rattle.lt_diff.specs.Bounds.{IsBounded, StaysStated, cell_of}
use Rattle.lt_diff.proofs.matrix.Matrix.bound.Goals as goal

pub returns-clause-cells : goal.returns-clause-cells
returns-clause-cells c =
    let n = c.args.self.now.size in
    let old = c.args.self.now.cells in
    let new = c.state.new.cells in
    let most : to_z w64 (of_z w64 c.args.most) ≡ c.args.most = search rules in
    let is = with_items_is old new (c.state.auto.cells ∙ c.deref_mut.ensures.len) in
    subst (λ (xs : List ℤ). IsBounded n c.args.a c.args.b c.args.most (cell_of n old.items) (cell_of n xs)) (sym is)
    (subst (λ (v : ℤ). IsBounded n c.args.a c.args.b v (cell_of n old.items) (cell_of n new)) most
    (subst (λ (xs : List ℤ). IsBounded n c.args.a c.args.b (to_z w64 (of_z w64 c.args.most)) (cell_of n xs) (cell_of n new)) c.deref_mut.ensures.value c.state.ensures.cells))

pub returns-clause-kept : goal.returns-clause-kept
returns-clause-kept c =
    let n = c.args.self.now.size in
    let old = c.args.self.now.cells in
    let new = c.state.new.cells in
    let is = with_items_is old new (c.state.auto.cells ∙ c.deref_mut.ensures.len) in
    subst (λ (xs : List ℤ). StaysStated n (cell_of n old.items) (cell_of n xs)) (sym is)
    (subst (λ (xs : List ℤ). StaysStated n (cell_of n xs) (cell_of n new)) c.deref_mut.ensures.value c.state.ensures.kept)
