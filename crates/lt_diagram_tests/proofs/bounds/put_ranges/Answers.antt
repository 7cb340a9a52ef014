use Rattle.std.proofs.Common.{◌≢◌, ℕ, inl, inr, subst, sym, arith}
use Rattle.std.proofs.lemmas.Bool.{cases_eq}
use Rattle.lt_diff.specs.Bounds.{no_bound}
use Rattle.lt_diff.specs.MatrixView.{matrix_cell}
use Rattle.lt_diagram_tests.proofs.bounds.put_ranges.Goals as goal

-- this variable has one too
pub loop-variable-preserved : goal.loop-variable-preserved
loop-variable-preserved c =
    let v = c.loop-variable.variable in
    let new = c.put_range.new.matrix in (
      c.put_range.ensures.size,
      c.put_range.ensures.stated,
      (λ a ha. elim (cases_eq a v) [
        | inl e ↦ subst (λ (r : ℕ). matrix_cell new 0 r ≢ no_bound) (sym e) c.put_range.ensures.own
        | inr ne ↦ c.put_range.ensures.kept 0 a (omega arith) (let h = c.loop-variable-test.true in omega (arith, ha, h)) (c.loop-variable.invariant.2 a (omega (arith, ha, ne)))
      ]),
    )
