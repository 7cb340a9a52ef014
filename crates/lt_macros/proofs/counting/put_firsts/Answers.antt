use Rattle.std.proofs.Common.{◌≡◌, ◌*◌, ℕ, length, refl, ap, arith}
use Rattle.lt_ast.specs.View.{written_range}
use Rattle.lt_ast.specs.inner.Rows.{maybe_exp}
use Rattle.lt_macros.specs.Denotation.{declared_as, first_of}
use Rattle.lt_macros.specs.inner.Figures.{first_figure}
use Rattle.lt_macros.specs.inner.Reading.{environment, meant}
use Rattle.lt_macros.proofs.Opened.{firsts_all}
use Rattle.lt_macros.proofs.counting.put_firsts.Goals as goal

pub returns-clause-figures : goal.returns-clause-figures
returns-clause-figures c =
    λ decimals rows f n role.
    let g = c.args.group.now in
    let names = g.names.items.items in
    let passed : c.names._name-index ≡ length names = omega (arith, c.names-test.false, c.names.auto._name-index-end, ap length c.deref-name-items.ensures.value) in
    let env = environment (meant decimals) rows c.args.at.environment in
    let first = first_figure f (first_of env (maybe_exp g.first)) in
    omega (
      arith,
      c.names.invariant.figures decimals rows f n,
      ap (λ (k : ℕ). k * first) passed,
      firsts_all f (declared_as role env g.kind (written_range g.range) (first_of env (maybe_exp g.first))) first names (λ w. refl),
    )
