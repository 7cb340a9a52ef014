use Rattle.std.proofs.Common.{◌≤◌, ℕ, ℤ, refl, subst, ◌∙◌, add-one, arith}
use Rattle.lt_diff.specs.Bounds.{cell_of}
use Rattle.lt_diff.proofs.Closure.{IsClosing, closing_starts, closing_within, cycle_found, closing_kept, no_cycle, closed_all, same_all, stated_all}
use Rattle.lt_diff.proofs.Stating.{less_stays}
use Rattle.lt_diff.proofs.relaxing.close.Goals as goal

pub loop-pivot-init : goal.loop-pivot-init
loop-pivot-init c = (c.requires.square, closing_starts c.args.size (cell_of c.args.size c.args.cells.now) (c.if-not-is_flat.ensures.flat refl))

pub relax-requires-clause-within : goal.relax-requires-clause-within
relax-requires-clause-within c =
    closing_within c.args.size c.loop-pivot.pivot (cell_of c.args.size c.args.cells.now) (cell_of c.args.size c.loop-pivot.cells) c.requires.few c.loop-pivot.auto.pivot-end c.requires.stated.within c.loop-pivot.invariant.1

pub relax-requires-clause-flat : goal.relax-requires-clause-flat
relax-requires-clause-flat c = c.loop-pivot.invariant.1.flat c.loop-pivot.pivot c.loop-pivot-test.true

pub returns-then-not-is_flat-2-clause-cycle : goal.returns-then-not-is_flat-2-clause-cycle
returns-then-not-is_flat-2-clause-cycle c =
    let h = c.if-not-is_flat-2.ensures.negative refl in
    ((λ e. cycle_found c.args.size c.loop-pivot.pivot (cell_of c.args.size c.args.cells.now) (cell_of c.args.size c.loop-pivot.cells) (cell_of c.args.size c.relax.new.cells) c.requires.few c.loop-pivot-test.true c.requires.stated.within c.loop-pivot.invariant.1 c.relax.ensures h.0 h.1 h.2), (λ e. refl))

pub loop-pivot-preserved : goal.loop-pivot-preserved
loop-pivot-preserved c = (
  c.relax.auto.cells ∙ c.loop-pivot.invariant.0,
  rw add-one (closing_kept c.args.size c.loop-pivot.pivot (cell_of c.args.size c.args.cells.now) (cell_of c.args.size c.loop-pivot.cells) (cell_of c.args.size c.relax.new.cells) c.requires.few c.loop-pivot-test.true c.requires.stated.within c.loop-pivot.invariant.1 c.relax.ensures (c.if-not-is_flat-2.ensures.flat refl)),
)

-- after the last pivot
closing_done : (n k : ℕ) (stated cell : ℕ → ℕ → ℤ) → k ≤ n → n ≤ k → IsClosing n k stated cell → IsClosing n n stated cell
closing_done n k stated cell l h c = subst (λ (j : ℕ). IsClosing n j stated cell) (omega (arith, l, h)) c

pub returns-clause-cycle : goal.returns-clause-cycle
returns-clause-cycle c =
    let d = closing_done c.args.size c.loop-pivot.pivot (cell_of c.args.size c.args.cells.now) (cell_of c.args.size c.loop-pivot.cells) c.loop-pivot.auto.pivot-end c.loop-pivot-test.false c.loop-pivot.invariant.1 in
    ((λ e. absurd (cc)), (λ h. absurd (no_cycle c.args.size (cell_of c.args.size c.args.cells.now) (cell_of c.args.size c.loop-pivot.cells) c.requires.few c.requires.some c.requires.stated d h)))

pub returns-clause-closed : goal.returns-clause-closed
returns-clause-closed c =
    let d = closing_done c.args.size c.loop-pivot.pivot (cell_of c.args.size c.args.cells.now) (cell_of c.args.size c.loop-pivot.cells) c.loop-pivot.auto.pivot-end c.loop-pivot-test.false c.loop-pivot.invariant.1 in
    λ e. closed_all c.args.size (cell_of c.args.size c.args.cells.now) (cell_of c.args.size c.loop-pivot.cells) c.requires.few c.requires.some c.requires.stated d

pub returns-clause-same : goal.returns-clause-same
returns-clause-same c =
    let d = closing_done c.args.size c.loop-pivot.pivot (cell_of c.args.size c.args.cells.now) (cell_of c.args.size c.loop-pivot.cells) c.loop-pivot.auto.pivot-end c.loop-pivot-test.false c.loop-pivot.invariant.1 in
    λ e. same_all c.args.size (cell_of c.args.size c.args.cells.now) (cell_of c.args.size c.loop-pivot.cells) c.requires.few c.requires.some c.requires.stated d

pub returns-clause-stated : goal.returns-clause-stated
returns-clause-stated c =
    let d = closing_done c.args.size c.loop-pivot.pivot (cell_of c.args.size c.args.cells.now) (cell_of c.args.size c.loop-pivot.cells) c.loop-pivot.auto.pivot-end c.loop-pivot-test.false c.loop-pivot.invariant.1 in
    λ e. stated_all c.args.size (cell_of c.args.size c.args.cells.now) (cell_of c.args.size c.loop-pivot.cells) c.requires.few c.requires.some c.requires.stated d

pub returns-clause-less : goal.returns-clause-less
returns-clause-less c = λ e. c.loop-pivot.invariant.1.less

pub returns-clause-kept : goal.returns-clause-kept
returns-clause-kept c = λ e. less_stays c.args.size (cell_of c.args.size c.args.cells.now) (cell_of c.args.size c.loop-pivot.cells) c.requires.stated c.loop-pivot.invariant.1.less
