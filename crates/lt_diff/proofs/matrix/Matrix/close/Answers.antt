use Rattle.std.proofs.Common.{◌≡◌, true, List, ℤ, subst, sym, ◌∙◌}
use Rattle.std.proofs.lemmas.List.{with_items_is}
use Rattle.lt_diff.specs.Bounds.{HasSameSolutions, cell_of}
use Rattle.lt_diff.proofs.matrix.Matrix.close.Goals as goal

pub returns-clause-same : goal.returns-clause-same
returns-clause-same c =
    let n = c.args.self.now.size in
    let old = c.args.self.now.cells in
    let new = c.close.new.cells in
    let is = with_items_is old new (c.close.auto.cells ∙ c.deref_mut.ensures.len) in
    subst (λ (xs : List ℤ). c.close.result ≡ true → HasSameSolutions n (cell_of n old.items) (cell_of n xs)) (sym is)
    (subst (λ (xs : List ℤ). c.close.result ≡ true → HasSameSolutions n (cell_of n xs) (cell_of n new)) c.deref_mut.ensures.value c.close.ensures.same)
