use Rattle.std.proofs.Common.{rules, arith, ◌≡◌, ◌∷◌, ◌++◌, ◌∙◌, to_z, of_z, w64, sym, subst, ap, ℤ}
use Rattle.lt_linear.specs.inner.Parsing.{BeginsWith}
use Rattle.lt_linear.proofs.Spellings.{begins, no_order, no_plus, no_term, no_zero, none_at}
use Rattle.lt_linear.proofs.spelling.first_term.Goals as goal

pub returns-in_err-variable : goal.returns-in_err-variable
returns-in_err-variable c = none_at c.from_residual.result _ _ (search rules) (no_term c.args.word.now c.args.behind.now c.args.least c.requires c.in_err-variable.ensures)

pub returns-in_err-rest : goal.returns-in_err-rest
returns-in_err-rest c = none_at c.from_residual-in_err-rest.result _ _ (search rules) (no_plus c.args.word.now c.args.behind.now c.args.least c.requires c.in_err-rest.ensures)

pub returns-then-from-least : goal.returns-then-from-least
returns-then-from-least c = no_order c.args.word.now c.args.behind.now c.args.least c.in_ok-variable.variable c.in_ok-variable.coefficient c.requires c.in_ok-variable.ensures (omega (arith, c.if-from-least.true, c.from.ensures))

pub returns-then-coefficient-eq0 : goal.returns-then-coefficient-eq0
returns-then-coefficient-eq0 c =
    let raw : to_z w64 (of_z w64 c.in_ok-variable.coefficient) ≡ c.in_ok-variable.coefficient = search rules in
    no_zero c.args.word.now c.args.behind.now c.args.least c.in_ok-variable.variable c.in_ok-variable.coefficient c.requires c.in_ok-variable.ensures (sym raw ∙ ap (to_z w64) c.if-coefficient-eq0.true)

pub returns : goal.returns
returns c =
    let raw : to_z w64 (of_z w64 c.in_ok-variable.coefficient) ≡ c.in_ok-variable.coefficient = search rules in
    subst (λ (z : ℤ). BeginsWith c.args.least (c.args.word.now ++ 32 ∷ c.args.behind.now) c.in_ok-variable.variable z c.in_ok-rest.rest.now) (sym raw)
    (begins c.args.word.now c.args.behind.now c.in_ok-rest.rest.now c.args.least c.in_ok-variable.variable c.in_ok-variable.coefficient c.requires c.in_ok-variable.ensures c.in_ok-rest.ensures
    (omega (arith, c.if-from-least.false, c.from.ensures)) (λ z. c.if-coefficient-eq0.false (ap (of_z w64) z)))
