use Rattle.lt_macros.proofs.Building.{adding}
use Rattle.std.proofs.Common.{ap, ◌∙◌, subst, sym, arith}
use Rattle.lt_macros.specs.Environment.{parameter, variable, with_name}
use Rattle.lt_macros.specs.inner.Reading.{environment, meant, worked}
use Rattle.lt_macros.specs.inner.Handing.{AreRight}
use Rattle.lt_macros.specs.inner.Rows.{rows}
use Rattle.lt_macros.specs.declared.scope.Entry.{Entry}
use Rattle.lt_macros.specs.declared.scope.Binding.TheVariants.{Variable}
use Rattle.lt_macros.proofs.Putting.{made_newest}
use Rattle.lt_macros.proofs.variables.show_name.Goals as goal

pub returns-clause-visible : goal.returns-clause-visible
returns-clause-visible c =
    let e : Entry = record { name = c.as_str.result; outer = c.args.outer; binding = Variable c.args.role c.args.place } in
    λ d.
    made_newest (meant d) (rows c.args.scope.now) (rows c.push.new.self) e c.in_ok-number.number c.in_ok-number.ensures.rows c.in_ok-number.ensures.number
    ∙ ap (λ name. with_name name (variable c.args.role c.args.place) (environment (meant d) (rows c.args.scope.now) c.args.outer)) c.as_str.ensures

pub returns-clause-work : goal.returns-clause-work
returns-clause-work c =
    let e : Entry = record { name = c.as_str.result; outer = c.args.outer; binding = Variable c.args.role c.args.place } in
    made_newest worked (rows c.args.scope.now) (rows c.push.new.self) e c.in_ok-number.number c.in_ok-number.ensures.rows c.in_ok-number.ensures.number
    ∙ ap (λ name. with_name name (parameter 1) (environment worked (rows c.args.scope.now) c.args.outer)) c.as_str.ensures

pub returns-clause-right : goal.returns-clause-right
returns-clause-right c = subst AreRight (sym c.in_ok-number.ensures.rows) (tt, c.requires.right)

pub push-requires : goal.push-requires
push-requires c = grind (arith, adding)

pub returns-clause-adds : goal.returns-clause-adds
returns-clause-adds c = grind (arith, adding)
