use Rattle.std.proofs.Common.{◌≡◌, ◌∙◌, arith, ap, sym, Result, Ok}
use Rattle.lt_num.specs.declared.fault.Arith.{Arith}
use Rattle.lt_num.specs.declared.value.Value.{Value}
use Rattle.lt_num.specs.Value.{is_true}
use Rattle.lt_formula.specs.View.{table_kinds, valuation_of_known}
use Rattle.lt_space.specs.Formula.{truth}
use Rattle.lt_space.specs.Meaning.{after, known_formula}
use Rattle.lt_formula.specs.Table.{spelled}
use Rattle.lt_formula.specs.View.{table_expressions}
use Rattle.lt_space.proofs.Visitings.{gates_of, one_visited, pushed_gate}
use Rattle.lt_space.proofs.visiting.known_gate.Goals as goal

pub push-requires-clause-room : goal.push-requires-clause-room
push-requires-clause-room c = omega (arith, gates_of (valuation_of_known c.args.known.now) c.args.table.now c.args.exp c.args.work.now c.requires.ready)

pub returns : goal.returns
returns c =
    let v = valuation_of_known c.args.known.now in
    let t = c.args.table.now in
    let w = c.args.work.now in
    let e = c.push.ensures in
    let f = truth c.is_true.result in
    let p = pushed_gate w.circuit c.push.new.self c.push.result f e.number e.formulas e.len e.terms e.room e.terms_room in
    let due = known_formula v (table_kinds t) (spelled (table_expressions t) c.args.exp) in
    let told : Ok f ≡ due =
    ap (λ b. Ok (truth b)) c.is_true.ensures ∙ ap (λ (r : Result Value Arith). after r (λ value. Ok (truth (is_true value)))) (sym c.in_ok-value.was ∙ c.known_value.ensures) in
    one_visited v t c.args.exp w c.push.new.self c.push.result f due c.requires.ready p told
