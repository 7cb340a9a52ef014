use Rattle.std.proofs.Common.{ℕ, ◌+◌, ap, ◌∙◌, arith}
use Rattle.lt_macros.specs.inner.Counting.{left_then, pending_figure, waiting}
use Rattle.lt_ast.specs.inner.Rows.{maybe_exp}
use Rattle.lt_macros.specs.Denotation.{behind_local, first_of}
use Rattle.lt_macros.specs.inner.Figures.{first_figure, local_weight, term_weight}
use Rattle.lt_macros.specs.inner.Reading.{environment, meant}
use Rattle.lt_macros.specs.declared.counting.Locals.{Locals}
use Rattle.lt_macros.specs.declared.counting.Left.TheVariants.{Names}
use Rattle.lt_macros.specs.inner.Numbers.{numbers_view}
use Rattle.lt_macros.specs.inner.Rows.{rows}
use Rattle.lt_macros.specs.inner.Tallies.{counted}
use Rattle.lt_macros.proofs.Waiting.{name_read, put_within}
use Rattle.lt_macros.proofs.counting.take_local.Goals as goal

pub returns-clause-figures : goal.returns-clause-figures
returns-clause-figures c =
    λ decimals f.
    let old = rows c.args.scope.now in
    let new = rows c.show_name.new.scope in
    let count = c.args.count.now in
    let left : Locals = record c.args.locals { names = c.args.names } in
    let deep = ap (λ (depth : ℕ). left_then decimals new f c.in_ok-inner.inner depth (Names left) (pending_figure decimals new f (waiting count)) (behind_local (numbers_view count.numbers))) c.in_ok-deeper.ensures in
    let read = name_read decimals old new f c.args.at.depth c.args.at.environment c.in_ok-inner.inner c.args.locals c.args.name.now c.args.names (waiting count) (numbers_view count.numbers) c.in_ok-inner.ensures.adds c.requires.names (omega (arith, c.requires.outer, c.requires.len)) c.requires.within (c.in_ok-inner.ensures.visible decimals) in
    let first = first_figure f (first_of (environment (meant decimals) new c.args.locals.outer) (maybe_exp c.args.locals.group.now.first)) in
    c.in_ok-put_local.ensures.figures decimals new f
    ∙ ap (λ (figure : ℕ). counted count.tally f + (term_weight f c.args.at.depth + (local_weight f + (first + figure)))) deep
    ∙ ap (λ (figure : ℕ). counted count.tally f + figure) read

pub returns-clause-within : goal.returns-clause-within
returns-clause-within c =
    λ least w.
    put_within least c.len.result (rows c.args.scope.now) (rows c.show_name.new.scope) (waiting c.args.count.now) (waiting c.put_local.new.count) c.in_ok-inner.ensures.adds c.len.ensures c.in_ok-put_local.ensures.within w
