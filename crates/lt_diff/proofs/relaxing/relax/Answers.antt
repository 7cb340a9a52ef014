use Rattle.std.proofs.Common.{◌≡◌, ◌≢◌, ◌*◌, ◌+◌, ℕ, ℤ, length, inl, inr, refl, subst, sym, ◌∙◌, arith}
use Rattle.lt_diff.specs.Bounds.{cell_of}
use Rattle.lt_diff.specs.inner.Pivots.{IsRelaxed}
use Rattle.lt_diff.proofs.Cells.{AreRowsRelaxed, AreRowsLeft, rows_more, relaxed_same, pivot_relaxed}
use Rattle.lt_diff.proofs.relaxing.relax.Goals as goal
use Rattle.lt_diff.proofs.relaxing.relax.Goals.{then-row-pivot, else-row-pivot}

pub loop-row-preserved : goal.loop-row-preserved
loop-row-preserved c =
    let n = c.args.size in
    let k = c.args.pivot in
    let i = c.loop-row.row in
    let old = cell_of n c.args.cells.now in
    let now = cell_of n c.loop-row.cells in
    let new = cell_of n c.if-row-pivot.cells in
    let inv = c.loop-row.invariant in
    let long : length c.if-row-pivot.cells ≡ n * n = c.if-row-pivot.auto.cells ∙ inv.0 in
    let t : AreRowsRelaxed n k (i + 1) old new × AreRowsLeft n k (i + 1) old new = elim c.if-row-pivot.branch [
      | then-row-pivot w ↦
          let ne : i ≢ k = w.if-row-pivot.true in
          subst (λ xs. AreRowsRelaxed n k (i + 1) old (cell_of n xs) × AreRowsLeft n k (i + 1) old (cell_of n xs)) (sym w.cells-is)
          (rows_more n k i old now (cell_of n w.relax_row.new.cells) inv.1 inv.2 w.relax_row.ensures.others (λ b hb e. absurd (ne e))
          (λ b hb. relaxed_same _ _ _ _ _ _ _ (inv.2 i b hb (inr (omega arith))) (inv.2 i k c.requires.pivot (inr (omega arith))) (inv.2 k b hb (inl refl)) (w.relax_row.ensures.relaxed b hb)))
      | else-row-pivot w ↦
          let e : i ≡ k = w.if-row-pivot.false in
          subst (λ xs. AreRowsRelaxed n k (i + 1) old (cell_of n xs) × AreRowsLeft n k (i + 1) old (cell_of n xs)) (sym w.cells-is)
          (rows_more n k i old now now inv.1 inv.2 (λ a b hb ne. refl) (λ b hb h. refl)
          (λ b hb. subst (λ (v : ℤ). IsRelaxed (old i b) (old i k) (old k b) v) (sym (inv.2 i b hb (inr (omega arith))))
          (subst (λ (r : ℕ). IsRelaxed (old r b) (old r k) (old k b) (old r b)) (sym e) (pivot_relaxed (old k k) (old k b) c.requires.flat))))
    ] in
    (long, t.0, t.1)
