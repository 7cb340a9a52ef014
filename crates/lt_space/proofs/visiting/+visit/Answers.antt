use Rattle.std.proofs.Common.{◌≡◌, ◌∙◌, ◌+◌, ◌<◌, true, false, arith, rules, ap, sym, refl, Bool, Option, Some, None, Ok, Err, if◌then◌else◌}
use Rattle.lt_num.specs.Value.{is_true}
use Rattle.lt_formula.specs.Kinds.{variables_of}
use Rattle.lt_formula.specs.Facts.{is_known_role}
use Rattle.lt_formula.specs.Table.{spelled}
use Rattle.lt_formula.specs.Valuation.{value_under}
use Rattle.lt_formula.specs.View.{table_expressions, table_kinds, valuation_of_known}
use Rattle.lt_formula.specs.declared.facts.Facts.{Facts}
use Rattle.lt_space.specs.Circuit.{formula_at}
use Rattle.lt_space.specs.Formula.{Formula, atom, negation, truth}
use Rattle.lt_space.specs.Formula as formula
use Rattle.lt_space.specs.Meaning.{after, connected, is_boolean, is_known, settled_truth}
use Rattle.lt_space.specs.inner.Kept.{number_at}
use Rattle.lt_space.specs.inner.Work.{formula_due, formulas_in, gates_in}
use Rattle.lt_space.specs.declared.formula.Atom.TheVariants.{Flag}
use Rattle.lt_space.proofs.GateDues.{chosen_due, not_boolean, numbers_due, open_due, settled_due}
use Rattle.lt_space.proofs.Measurings.{number_small}
use Rattle.lt_space.proofs.Shapes.{chosen_below, leaf_known, part_below, parts_below}
use Rattle.lt_space.proofs.Tellings.{formula_binary, formula_choice, formula_known, formula_unary, formula_variable}
use Rattle.lt_space.proofs.Visitings.{fault_visits, flag_fits, found_visited, gates_of, keep_visited, next_gate, one_fits, one_part, one_visited, part_visits, pushed_gate, stop_first, stop_here, stop_is, stop_then, stop_third, three_fit, three_parts, two_parts, visits_is}
use Rattle.lt_space.proofs.visiting.+visit.Goals.{binary_gate-in-Bool, binary_gate-in_default}
use Rattle.lt_space.proofs.visiting.+visit.Goals as goal

pub binary_gate-comparison_gate-requires-clause-ready : goal.binary_gate-comparison_gate-requires-clause-ready
binary_gate-comparison_gate-requires-clause-ready t c = c.requires.ready

pub binary_gate-returns-then-not-matches : goal.binary_gate-returns-then-not-matches
binary_gate-returns-then-not-matches t c =
    let v = valuation_of_known c.args.known.now in
    let table = c.args.table.now in
    let kinds = table_kinds table in
    let o = c.args.operator in
    let left = spelled (table_expressions table) c.args.left in
    let right = spelled (table_expressions table) c.args.right in
    let a = formula_due v table c.args.left in
    let b = formula_due v table c.args.right in
    let matched : is_boolean c.facts-kind.result.kind ≡ c.match-matches.matches =
    elim c.match-matches.branch [ binary_gate-in-Bool w ↦ ap is_boolean w.in-Bool.is ∙ sym w.matches-is | binary_gate-in_default w ↦ not_boolean c.facts-kind.result.kind w.in_default.not-Bool ∙ sym w.matches-is ] in
    let boolean = ap (λ (f : Facts). is_boolean f.kind) (sym c.facts-kind.ensures) ∙ matched ∙ c.if-not-matches.true in
    visits_is v table _ _ _ _ _ _ _ (numbers_due v kinds o left right a b boolean) c.comparison_gate.ensures

pub binary_gate-returns-in_err-truth : goal.binary_gate-returns-in_err-truth
binary_gate-returns-in_err-truth t c =
    let v = valuation_of_known c.args.known.now in
    let table = c.args.table.now in
    let kinds = table_kinds table in
    let o = c.args.operator in
    let left = spelled (table_expressions table) c.args.left in
    let right = spelled (table_expressions table) c.args.right in
    let a = formula_due v table c.args.left in
    let b = formula_due v table c.args.right in
    let matched : is_boolean c.facts-kind.result.kind ≡ c.match-matches.matches =
    elim c.match-matches.branch [ binary_gate-in-Bool w ↦ ap is_boolean w.in-Bool.is ∙ sym w.matches-is | binary_gate-in_default w ↦ not_boolean c.facts-kind.result.kind w.in_default.not-Bool ∙ sym w.matches-is ] in
    let boolean = ap (λ (f : Facts). is_boolean f.kind) (sym c.facts-kind.ensures) ∙ matched ∙ c.if-not-matches.false in
    let is : c.from_residual.result ≡ Err c.in_err-truth.field-0.0 = search rules in
    let settled : Err c.in_err-truth.field-0.0 ≡ settled_truth v kinds o left = sym c.in_err-truth.was ∙ c.settled_truth.ensures in
    fault_visits v table _ _ _ _ _ _ _ is (stop_here v table _ _ _ (settled_due v kinds o left right a b (Err c.in_err-truth.field-0.0) boolean settled))

pub binary_gate-push-requires-clause-fits : goal.binary_gate-push-requires-clause-fits
binary_gate-push-requires-clause-fits t c = refl

pub binary_gate-push-requires-clause-room : goal.binary_gate-push-requires-clause-room
binary_gate-push-requires-clause-room t c = omega (arith, gates_of (valuation_of_known c.args.known.now) c.args.table.now c.args.exp c.args.work.now c.requires.ready)

pub binary_gate-returns-in-Some : goal.binary_gate-returns-in-Some
binary_gate-returns-in-Some t c =
    let v = valuation_of_known c.args.known.now in
    let table = c.args.table.now in
    let kinds = table_kinds table in
    let o = c.args.operator in
    let left = spelled (table_expressions table) c.args.left in
    let right = spelled (table_expressions table) c.args.right in
    let a = formula_due v table c.args.left in
    let b = formula_due v table c.args.right in
    let matched : is_boolean c.facts-kind.result.kind ≡ c.match-matches.matches =
    elim c.match-matches.branch [ binary_gate-in-Bool w ↦ ap is_boolean w.in-Bool.is ∙ sym w.matches-is | binary_gate-in_default w ↦ not_boolean c.facts-kind.result.kind w.in_default.not-Bool ∙ sym w.matches-is ] in
    let boolean = ap (λ (f : Facts). is_boolean f.kind) (sym c.facts-kind.ensures) ∙ matched ∙ c.if-not-matches.false in
    let settled : Ok c.in_ok-truth.field-0 ≡ settled_truth v kinds o left = sym c.in_ok-truth.was ∙ c.settled_truth.ensures in
    let w = c.args.work.now in
    let f = truth c.in-Some.truth in
    let e = c.push.ensures in
    let p = pushed_gate w.circuit c.push.new.self c.push.result f e.number e.formulas e.len e.terms e.room e.terms_room in
    let told = settled_due v kinds o left right a b (Ok (Some c.in-Some.truth)) boolean (ap (λ (s : Option Bool). Ok s) (sym c.in-Some.is) ∙ settled) in
    one_visited v table c.args.exp w c.push.new.self c.push.result f _ c.requires.ready p told

pub binary_gate-visit-requires : goal.binary_gate-visit-requires
binary_gate-visit-requires t c = (omega (arith, c.decreases, c.requires.left), (omega (arith, c.requires.left, c.requires.ready.within), (c.requires.few, (c.requires.decimals, c.requires.ready.ready))))

pub binary_gate-returns-in_err-first : goal.binary_gate-returns-in_err-first
binary_gate-returns-in_err-first t c =
    let v = valuation_of_known c.args.known.now in
    let table = c.args.table.now in
    let kinds = table_kinds table in
    let o = c.args.operator in
    let left = spelled (table_expressions table) c.args.left in
    let right = spelled (table_expressions table) c.args.right in
    let a = formula_due v table c.args.left in
    let b = formula_due v table c.args.right in
    let matched : is_boolean c.facts-kind.result.kind ≡ c.match-matches.matches =
    elim c.match-matches.branch [ binary_gate-in-Bool w ↦ ap is_boolean w.in-Bool.is ∙ sym w.matches-is | binary_gate-in_default w ↦ not_boolean c.facts-kind.result.kind w.in_default.not-Bool ∙ sym w.matches-is ] in
    let boolean = ap (λ (f : Facts). is_boolean f.kind) (sym c.facts-kind.ensures) ∙ matched ∙ c.if-not-matches.false in
    let none : c.in_ok-truth.field-0 ≡ None = c.in_default-2.is in
    let settled : Ok c.in_ok-truth.field-0 ≡ settled_truth v kinds o left = sym c.in_ok-truth.was ∙ c.settled_truth.ensures in
    let due = settled_due v kinds o left right a b (Ok None) boolean (ap (λ (s : Option Bool). Ok s) (sym none) ∙ settled) in
    let is : c.from_residual-in_err-first.result ≡ Err c.in_err-first.field-0.0 = search rules in
    fault_visits v table _ _ _ _ _ _ _ is (stop_is v table _ _ _ _ _ due (stop_first v table a _ _ _ (λ f. after b (λ h. Ok (connected o f h))) c.in_err-first.ensures))

pub binary_gate-visit-requires-2 : goal.binary_gate-visit-requires-2
binary_gate-visit-requires-2 t c = (omega (arith, c.decreases, c.requires.right), (omega (arith, c.requires.right, c.requires.ready.within), (c.requires.few, (c.requires.decimals, record { right = c.in_ok-first.ensures.right; room = c.in_ok-first.ensures.room }))))

pub binary_gate-returns-in_err-second : goal.binary_gate-returns-in_err-second
binary_gate-returns-in_err-second t c =
    let v = valuation_of_known c.args.known.now in
    let table = c.args.table.now in
    let kinds = table_kinds table in
    let o = c.args.operator in
    let left = spelled (table_expressions table) c.args.left in
    let right = spelled (table_expressions table) c.args.right in
    let a = formula_due v table c.args.left in
    let b = formula_due v table c.args.right in
    let matched : is_boolean c.facts-kind.result.kind ≡ c.match-matches.matches =
    elim c.match-matches.branch [ binary_gate-in-Bool w ↦ ap is_boolean w.in-Bool.is ∙ sym w.matches-is | binary_gate-in_default w ↦ not_boolean c.facts-kind.result.kind w.in_default.not-Bool ∙ sym w.matches-is ] in
    let boolean = ap (λ (f : Facts). is_boolean f.kind) (sym c.facts-kind.ensures) ∙ matched ∙ c.if-not-matches.false in
    let none : c.in_ok-truth.field-0 ≡ None = c.in_default-2.is in
    let settled : Ok c.in_ok-truth.field-0 ≡ settled_truth v kinds o left = sym c.in_ok-truth.was ∙ c.settled_truth.ensures in
    let due = settled_due v kinds o left right a b (Ok None) boolean (ap (λ (s : Option Bool). Ok s) (sym none) ∙ settled) in
    let is : c.from_residual-in_err-second.result ≡ Err c.in_err-second.field-0.0 = search rules in
    fault_visits v table _ _ _ _ _ _ _ is (stop_is v table _ _ _ _ _ due (stop_then v table _ _ a b _ _ _ _ _ (λ f h. Ok (connected o f h)) c.in_ok-first.ensures c.in_err-second.ensures))

pub binary_gate-connect-requires-clause-left : goal.binary_gate-connect-requires-clause-left
binary_gate-connect-requires-clause-left t c = omega (arith, c.in_ok-first.ensures.stands.within, c.in_ok-second.ensures.grows.more)

pub binary_gate-connect-requires-clause-right : goal.binary_gate-connect-requires-clause-right
binary_gate-connect-requires-clause-right t c = c.in_ok-second.ensures.stands.within

pub binary_gate-connect-requires-clause-room : goal.binary_gate-connect-requires-clause-room
binary_gate-connect-requires-clause-room t c =
    let v = valuation_of_known c.args.known.now in
    let table = c.args.table.now in
    let once = next_gate v table (c.args.left + 1) c.args.exp _ _ c.args.work.now c.visit.new.work c.requires.ready c.in_ok-first.ensures (omega (arith, c.requires.left)) in
    gates_of v table c.args.exp c.visit-2.new.work (next_gate v table (c.args.right + 1) c.args.exp _ _ c.visit.new.work c.visit-2.new.work once c.in_ok-second.ensures (omega (arith, c.requires.right)))

pub binary_gate-returns : goal.binary_gate-returns
binary_gate-returns t c =
    let v = valuation_of_known c.args.known.now in
    let table = c.args.table.now in
    let kinds = table_kinds table in
    let o = c.args.operator in
    let left = spelled (table_expressions table) c.args.left in
    let right = spelled (table_expressions table) c.args.right in
    let a = formula_due v table c.args.left in
    let b = formula_due v table c.args.right in
    let matched : is_boolean c.facts-kind.result.kind ≡ c.match-matches.matches =
    elim c.match-matches.branch [ binary_gate-in-Bool w ↦ ap is_boolean w.in-Bool.is ∙ sym w.matches-is | binary_gate-in_default w ↦ not_boolean c.facts-kind.result.kind w.in_default.not-Bool ∙ sym w.matches-is ] in
    let boolean = ap (λ (f : Facts). is_boolean f.kind) (sym c.facts-kind.ensures) ∙ matched ∙ c.if-not-matches.false in
    let none : c.in_ok-truth.field-0 ≡ None = c.in_default-2.is in
    let settled : Ok c.in_ok-truth.field-0 ≡ settled_truth v kinds o left = sym c.in_ok-truth.was ∙ c.settled_truth.ensures in
    let due = settled_due v kinds o left right a b (Ok None) boolean (ap (λ (s : Option Bool). Ok s) (sym none) ∙ settled) in
    two_parts v table c.args.exp c.connect.result c.in_ok-first.first c.in_ok-second.second (c.args.left + 1) (c.args.right + 1) c.args.work.now c.visit.new.work c.visit-2.new.work c.connect.new.circuit a b _ (connected o)
    c.requires.ready c.in_ok-first.ensures (omega (arith, c.requires.left)) c.in_ok-second.ensures (omega (arith, c.requires.right)) c.connect.ensures due

pub choice_gate-returns-in_err-known_value : goal.choice_gate-returns-in_err-known_value
choice_gate-returns-in_err-known_value t c =
    let v = valuation_of_known c.args.known.now in
    let table = c.args.table.now in
    let kinds = table_kinds table in
    let x = spelled (table_expressions table) c.args.condition in
    let a = formula_due v table c.args.condition in
    let b = formula_due v table c.args.first in
    let d = formula_due v table c.args.second in
    let known : is_known kinds x ≡ true = ap (λ (f : Facts). f.is_known) (sym c.facts.ensures) ∙ c.if-facts.true in
    let is : c.from_residual.result ≡ Err c.in_err-known_value.field-0.0 = search rules in
    let value : Err c.in_err-known_value.field-0.0 ≡ value_under v kinds x = sym c.in_err-known_value.was ∙ c.known_value.ensures in
    fault_visits v table _ _ _ _ _ _ _ is (stop_here v table _ _ _ (chosen_due v kinds x a b d (Err c.in_err-known_value.field-0.0) known value))

pub choice_gate-visit-requires : goal.choice_gate-visit-requires
choice_gate-visit-requires t c = (omega (arith, c.decreases, c.requires.first), (omega (arith, c.requires.first, c.requires.ready.within), (c.requires.few, (c.requires.decimals, c.requires.ready.ready))))

pub choice_gate-visit-requires-else-is_true : goal.choice_gate-visit-requires-else-is_true
choice_gate-visit-requires-else-is_true t c = (omega (arith, c.decreases, c.requires.second), (omega (arith, c.requires.second, c.requires.ready.within), (c.requires.few, (c.requires.decimals, c.requires.ready.ready))))

pub choice_gate-returns-then-is_true : goal.choice_gate-returns-then-is_true
choice_gate-returns-then-is_true t c =
    let v = valuation_of_known c.args.known.now in
    let table = c.args.table.now in
    let kinds = table_kinds table in
    let x = spelled (table_expressions table) c.args.condition in
    let a = formula_due v table c.args.condition in
    let b = formula_due v table c.args.first in
    let d = formula_due v table c.args.second in
    let known : is_known kinds x ≡ true = ap (λ (f : Facts). f.is_known) (sym c.facts.ensures) ∙ c.if-facts.true in
    let value : Ok c.in_ok-known_value.field-0 ≡ value_under v kinds x = sym c.in_ok-known_value.was ∙ c.known_value.ensures in
    let told = chosen_due v kinds x a b d (Ok c.in_ok-known_value.field-0) known value in
    let yes : true ≡ is_true c.in_ok-known_value.field-0 = sym c.if-is_true.true ∙ c.is_true.ensures in
    part_visits v table c.args.exp (c.args.first + 1) b _ _ _ _ c.visit.ensures (omega (arith, c.requires.first)) (ap (λ q. if q then b else d) yes ∙ told)

pub choice_gate-returns-else-is_true : goal.choice_gate-returns-else-is_true
choice_gate-returns-else-is_true t c =
    let v = valuation_of_known c.args.known.now in
    let table = c.args.table.now in
    let kinds = table_kinds table in
    let x = spelled (table_expressions table) c.args.condition in
    let a = formula_due v table c.args.condition in
    let b = formula_due v table c.args.first in
    let d = formula_due v table c.args.second in
    let known : is_known kinds x ≡ true = ap (λ (f : Facts). f.is_known) (sym c.facts.ensures) ∙ c.if-facts.true in
    let value : Ok c.in_ok-known_value.field-0 ≡ value_under v kinds x = sym c.in_ok-known_value.was ∙ c.known_value.ensures in
    let told = chosen_due v kinds x a b d (Ok c.in_ok-known_value.field-0) known value in
    let no : false ≡ is_true c.in_ok-known_value.field-0 = sym c.if-is_true.false ∙ c.is_true.ensures in
    part_visits v table c.args.exp (c.args.second + 1) d _ _ _ _ c.visit-else-is_true.ensures (omega (arith, c.requires.second)) (ap (λ q. if q then b else d) no ∙ told)

pub choice_gate-visit-requires-2 : goal.choice_gate-visit-requires-2
choice_gate-visit-requires-2 t c = (omega (arith, c.decreases, c.requires.condition), (omega (arith, c.requires.condition, c.requires.ready.within), (c.requires.few, (c.requires.decimals, c.requires.ready.ready))))

pub choice_gate-returns-in_err-test : goal.choice_gate-returns-in_err-test
choice_gate-returns-in_err-test t c =
    let v = valuation_of_known c.args.known.now in
    let table = c.args.table.now in
    let kinds = table_kinds table in
    let x = spelled (table_expressions table) c.args.condition in
    let a = formula_due v table c.args.condition in
    let b = formula_due v table c.args.first in
    let d = formula_due v table c.args.second in
    let unknown : is_known kinds x ≡ false = ap (λ (f : Facts). f.is_known) (sym c.facts.ensures) ∙ c.if-facts.false in
    let due = open_due v kinds x a b d unknown in
    let is : c.from_residual-in_err-test.result ≡ Err c.in_err-test.field-0.0 = search rules in
    fault_visits v table _ _ _ _ _ _ _ is (stop_is v table _ _ _ _ _ due (stop_first v table a _ _ _ (λ f. after b (λ g. after d (λ h. Ok (formula.choice f g h)))) c.in_err-test.ensures))

pub choice_gate-visit-requires-3 : goal.choice_gate-visit-requires-3
choice_gate-visit-requires-3 t c = (omega (arith, c.decreases, c.requires.first), (omega (arith, c.requires.first, c.requires.ready.within), (c.requires.few, (c.requires.decimals, record { right = c.in_ok-test.ensures.right; room = c.in_ok-test.ensures.room }))))

pub choice_gate-returns-in_err-yes : goal.choice_gate-returns-in_err-yes
choice_gate-returns-in_err-yes t c =
    let v = valuation_of_known c.args.known.now in
    let table = c.args.table.now in
    let kinds = table_kinds table in
    let x = spelled (table_expressions table) c.args.condition in
    let a = formula_due v table c.args.condition in
    let b = formula_due v table c.args.first in
    let d = formula_due v table c.args.second in
    let unknown : is_known kinds x ≡ false = ap (λ (f : Facts). f.is_known) (sym c.facts.ensures) ∙ c.if-facts.false in
    let due = open_due v kinds x a b d unknown in
    let is : c.from_residual-in_err-yes.result ≡ Err c.in_err-yes.field-0.0 = search rules in
    fault_visits v table _ _ _ _ _ _ _ is (stop_is v table _ _ _ _ _ due (stop_then v table _ _ a b _ _ _ _ _ (λ f g. after d (λ h. Ok (formula.choice f g h))) c.in_ok-test.ensures c.in_err-yes.ensures))

pub choice_gate-visit-requires-4 : goal.choice_gate-visit-requires-4
choice_gate-visit-requires-4 t c = (omega (arith, c.decreases, c.requires.second), (omega (arith, c.requires.second, c.requires.ready.within), (c.requires.few, (c.requires.decimals, record { right = c.in_ok-yes.ensures.right; room = c.in_ok-yes.ensures.room }))))

pub choice_gate-returns-in_err-no : goal.choice_gate-returns-in_err-no
choice_gate-returns-in_err-no t c =
    let v = valuation_of_known c.args.known.now in
    let table = c.args.table.now in
    let kinds = table_kinds table in
    let x = spelled (table_expressions table) c.args.condition in
    let a = formula_due v table c.args.condition in
    let b = formula_due v table c.args.first in
    let d = formula_due v table c.args.second in
    let unknown : is_known kinds x ≡ false = ap (λ (f : Facts). f.is_known) (sym c.facts.ensures) ∙ c.if-facts.false in
    let due = open_due v kinds x a b d unknown in
    let is : c.from_residual-in_err-no.result ≡ Err c.in_err-no.field-0.0 = search rules in
    fault_visits v table _ _ _ _ _ _ _ is (stop_is v table _ _ _ _ _ due (stop_third v table _ _ a b d _ _ _ _ _ _ _ (λ f g h. Ok (formula.choice f g h)) c.in_ok-test.ensures c.in_ok-yes.ensures c.in_err-no.ensures))

pub choice_gate-push-requires-clause-fits : goal.choice_gate-push-requires-clause-fits
choice_gate-push-requires-clause-fits t c =
    three_fit c.visit-4.new.work.circuit c.in_ok-test.test c.in_ok-yes.yes c.in_ok-no.no (omega (arith, c.in_ok-test.ensures.stands.within, c.in_ok-yes.ensures.grows.more, c.in_ok-no.ensures.grows.more))
    (omega (arith, c.in_ok-yes.ensures.stands.within, c.in_ok-no.ensures.grows.more)) c.in_ok-no.ensures.stands.within

pub choice_gate-push-requires-clause-room : goal.choice_gate-push-requires-clause-room
choice_gate-push-requires-clause-room t c =
    let v = valuation_of_known c.args.known.now in
    let table = c.args.table.now in
    let once = next_gate v table (c.args.condition + 1) c.args.exp _ _ c.args.work.now c.visit-2.new.work c.requires.ready c.in_ok-test.ensures (omega (arith, c.requires.condition)) in
    let twice = next_gate v table (c.args.first + 1) c.args.exp _ _ c.visit-2.new.work c.visit-3.new.work once c.in_ok-yes.ensures (omega (arith, c.requires.first)) in
    omega (arith, gates_of v table c.args.exp c.visit-4.new.work (next_gate v table (c.args.second + 1) c.args.exp _ _ c.visit-3.new.work c.visit-4.new.work twice c.in_ok-no.ensures (omega (arith, c.requires.second))))

pub choice_gate-returns : goal.choice_gate-returns
choice_gate-returns t c =
    let v = valuation_of_known c.args.known.now in
    let table = c.args.table.now in
    let kinds = table_kinds table in
    let x = spelled (table_expressions table) c.args.condition in
    let a = formula_due v table c.args.condition in
    let b = formula_due v table c.args.first in
    let d = formula_due v table c.args.second in
    let unknown : is_known kinds x ≡ false = ap (λ (f : Facts). f.is_known) (sym c.facts.ensures) ∙ c.if-facts.false in
    let due = open_due v kinds x a b d unknown in
    let new = c.visit-4.new.work in
    let e = c.push.ensures in
    let at = formula_at (formulas_in new) in
    let whole = formula.choice (at c.in_ok-test.test) (at c.in_ok-yes.yes) (at c.in_ok-no.no) in
    let p = pushed_gate new.circuit c.push.new.self c.push.result whole e.number e.formulas e.len e.terms e.room e.terms_room in
    three_parts v table c.args.exp c.push.result c.in_ok-test.test c.in_ok-yes.yes c.in_ok-no.no (c.args.condition + 1) (c.args.first + 1) (c.args.second + 1) c.args.work.now c.visit-2.new.work c.visit-3.new.work new c.push.new.self a b d _ formula.choice
    c.requires.ready c.in_ok-test.ensures (omega (arith, c.requires.condition)) c.in_ok-yes.ensures (omega (arith, c.requires.first)) c.in_ok-no.ensures (omega (arith, c.requires.second)) p due

pub visit-find-requires : goal.visit-find-requires
visit-find-requires t c = omega (arith, c.requires.within, c.requires.ready.right.len)

pub visit-returns-in-Some : goal.visit-returns-in-Some
visit-returns-in-Some t c = found_visited (valuation_of_known c.args.known.now) c.args.table.now c.args.exp c.in-Some.gate c.args.work.now c.requires.ready c.in-Some.ensures

pub visit-evaluate-requires : goal.visit-evaluate-requires
visit-evaluate-requires t c =
    let free : number_at (gates_in c.args.work.now) c.args.exp ≡ None = cc in
    (omega (arith, c.decreases), (c.requires.within, (c.requires.few, (c.requires.decimals, record { ready = c.requires.ready; within = c.requires.within; free = free }))))

pub visit-returns-in_err-gate : goal.visit-returns-in_err-gate
visit-returns-in_err-gate t c =
    let is : c.from_residual.result ≡ Err c.in_err-gate.field-0.0 = search rules in
    fault_visits _ _ _ _ _ _ _ _ _ is c.in_err-gate.ensures

pub visit-keep-requires : goal.visit-keep-requires
visit-keep-requires t c = omega (arith, c.requires.within, c.in_ok-gate.ensures.right.len)

pub visit-returns : goal.visit-returns
visit-returns t c =
    let free : number_at (gates_in c.args.work.now) c.args.exp ≡ None = cc in
    keep_visited (valuation_of_known c.args.known.now) c.args.table.now c.args.exp c.in_ok-gate.gate c.args.work.now c.evaluate.new.work c.keep.new.self (record { ready = c.requires.ready; within = c.requires.within; free = free }) c.in_ok-gate.ensures c.keep.ensures

pub evaluate-known_gate-requires-clause-ready : goal.evaluate-known_gate-requires-clause-ready
evaluate-known_gate-requires-clause-ready t c = c.requires.ready

pub evaluate-returns-then-facts : goal.evaluate-returns-then-facts
evaluate-returns-then-facts t c =
    let v = valuation_of_known c.args.known.now in
    let kinds = table_kinds c.args.table.now in
    let x = spelled (table_expressions c.args.table.now) c.args.exp in
    let known : is_known kinds x ≡ true = sym (ap (λ (f : Facts). f.is_known) c.facts.ensures) ∙ c.if-facts.true in
    visits_is _ _ _ _ _ _ _ _ _ (sym (formula_known v kinds x known)) c.known_gate.ensures

pub evaluate-known_gate-requires-in-Constant-clause-ready : goal.evaluate-known_gate-requires-in-Constant-clause-ready
evaluate-known_gate-requires-in-Constant-clause-ready t c = c.requires.ready

pub evaluate-returns-in-Constant : goal.evaluate-returns-in-Constant
evaluate-returns-in-Constant t c =
    let v = valuation_of_known c.args.known.now in
    let kinds = table_kinds c.args.table.now in
    let es = table_expressions c.args.table.now in
    let x = spelled es c.args.exp in
    let known : is_known kinds x ≡ true = ap (is_known kinds) c.shape.ensures.spells ∙ leaf_known kinds (spelled es) c.shape.result c.in-Constant.is in
    visits_is _ _ _ _ _ _ _ _ _ (sym (formula_known v kinds x known)) c.known_gate-in-Constant.ensures

pub evaluate-number_of-requires-clause-few : goal.evaluate-number_of-requires-clause-few
evaluate-number_of-requires-clause-few t c = omega (arith, c.requires.few)

pub evaluate-number_of-requires-clause-fits : goal.evaluate-number_of-requires-clause-fits
evaluate-number_of-requires-clause-fits t c = c.in-Variable.ensures.parts

pub evaluate-push-requires-clause-fits : goal.evaluate-push-requires-clause-fits
evaluate-push-requires-clause-fits t c =
    let kinds = table_kinds c.args.table.now in
    let x = spelled (table_expressions c.args.table.now) c.args.exp in
    let unknown : is_known kinds x ≡ false = sym (ap (λ (f : Facts). f.is_known) c.facts.ensures) ∙ c.if-facts.false in
    let free : is_known_role c.in-Variable.role ≡ false = sym (ap (is_known kinds) c.in-Variable.ensures.spells) ∙ unknown in
    let below : c.number_of.result < variables_of kinds = omega (arith, c.number_of.ensures, number_small kinds c.in-Variable.role c.in-Variable.place c.in-Variable.ensures.parts free) in
    flag_fits c.number_of.result (variables_of kinds) below c.requires.few

pub evaluate-push-requires-clause-room : goal.evaluate-push-requires-clause-room
evaluate-push-requires-clause-room t c = omega (arith, gates_of (valuation_of_known c.args.known.now) c.args.table.now c.args.exp c.args.work.now c.requires.ready)

pub evaluate-returns-in-Variable : goal.evaluate-returns-in-Variable
evaluate-returns-in-Variable t c =
    let v = valuation_of_known c.args.known.now in
    let table = c.args.table.now in
    let kinds = table_kinds table in
    let w = c.args.work.now in
    let x = spelled (table_expressions table) c.args.exp in
    let unknown : is_known kinds x ≡ false = sym (ap (λ (f : Facts). f.is_known) c.facts.ensures) ∙ c.if-facts.false in
    let flag = atom (Flag c.number_of.result) in
    let e = c.push.ensures in
    let p = pushed_gate w.circuit c.push.new.self c.push.result flag e.number e.formulas e.len e.terms e.room e.terms_room in
    let told : Ok flag ≡ formula_due v table c.args.exp = ap (λ n. Ok (atom (Flag n))) c.number_of.ensures ∙ sym (formula_variable v kinds x c.in-Variable.role c.in-Variable.place c.in-Variable.ensures.spells unknown) in
    one_visited v table c.args.exp w c.push.new.self c.push.result flag (formula_due v table c.args.exp) c.requires.ready p told

pub evaluate-visit-requires : goal.evaluate-visit-requires
evaluate-visit-requires t c =
    let below = part_below (table_kinds c.args.table.now) c.args.exp c.in-Unary.field-0 c.in-Unary.part c.in-Unary.ensures.parts in
    (omega (arith, c.decreases, below), (omega (arith, below, c.requires.within), (c.requires.few, (c.requires.decimals, c.requires.ready.ready))))

pub evaluate-returns-in_err-gate-in-Unary : goal.evaluate-returns-in_err-gate-in-Unary
evaluate-returns-in_err-gate-in-Unary t c =
    let v = valuation_of_known c.args.known.now in
    let table = c.args.table.now in
    let kinds = table_kinds table in
    let x = spelled (table_expressions table) c.args.exp in
    let part = spelled (table_expressions table) c.in-Unary.part in
    let unknown : is_known kinds x ≡ false = sym (ap (λ (f : Facts). f.is_known) c.facts.ensures) ∙ c.if-facts.false in
    let is : c.from_residual.result ≡ Err c.in_err-gate-in-Unary.field-0.0 = search rules in
    let due = formula_unary v kinds x c.in-Unary.field-0 part c.in-Unary.ensures.spells unknown in
    fault_visits v table _ _ (formula_due v table c.args.exp) _ _ _ _ is
    (stop_is v table _ _ _ _ _ (sym due) (stop_first v table (formula_due v table c.in-Unary.part) _ _ _ (λ f. Ok (negation f)) c.in_err-gate-in-Unary.ensures))

pub evaluate-push-requires-in-Unary-clause-fits : goal.evaluate-push-requires-in-Unary-clause-fits
evaluate-push-requires-in-Unary-clause-fits t c = one_fits c.visit.new.work.circuit c.in_ok-gate-in-Unary.gate c.in_ok-gate-in-Unary.ensures.stands.within

pub evaluate-push-requires-in-Unary-clause-room : goal.evaluate-push-requires-in-Unary-clause-room
evaluate-push-requires-in-Unary-clause-room t c =
    let v = valuation_of_known c.args.known.now in
    let table = c.args.table.now in
    let below = part_below (table_kinds table) c.args.exp c.in-Unary.field-0 c.in-Unary.part c.in-Unary.ensures.parts in
    let await = next_gate v table (c.in-Unary.part + 1) c.args.exp _ _ c.args.work.now c.visit.new.work c.requires.ready c.in_ok-gate-in-Unary.ensures (omega (arith, below)) in
    omega (arith, gates_of v table c.args.exp c.visit.new.work await)

pub evaluate-returns-in_ok-gate-in-Unary : goal.evaluate-returns-in_ok-gate-in-Unary
evaluate-returns-in_ok-gate-in-Unary t c =
    let v = valuation_of_known c.args.known.now in
    let table = c.args.table.now in
    let kinds = table_kinds table in
    let x = spelled (table_expressions table) c.args.exp in
    let part = spelled (table_expressions table) c.in-Unary.part in
    let unknown : is_known kinds x ≡ false = sym (ap (λ (f : Facts). f.is_known) c.facts.ensures) ∙ c.if-facts.false in
    let due = formula_unary v kinds x c.in-Unary.field-0 part c.in-Unary.ensures.spells unknown in
    let below = part_below kinds c.args.exp c.in-Unary.field-0 c.in-Unary.part c.in-Unary.ensures.parts in
    let mid = c.visit.new.work in
    let e = c.push-in-Unary.ensures in
    let p = pushed_gate mid.circuit c.push-in-Unary.new.self c.push-in-Unary.result (negation (formula_at (formulas_in mid) c.in_ok-gate-in-Unary.gate)) e.number e.formulas e.len e.terms e.room e.terms_room in
    one_part v table c.args.exp c.push-in-Unary.result c.in_ok-gate-in-Unary.gate (c.in-Unary.part + 1) c.args.work.now mid c.push-in-Unary.new.self (formula_due v table c.in-Unary.part) (formula_due v table c.args.exp) negation
    c.requires.ready c.in_ok-gate-in-Unary.ensures (omega (arith, below)) p (sym due)

pub evaluate-binary_gate-requires : goal.evaluate-binary_gate-requires
evaluate-binary_gate-requires t c =
    let below = parts_below (table_kinds c.args.table.now) c.args.exp c.in-Binary.operator c.in-Binary.left c.in-Binary.right c.in-Binary.ensures.parts in
    (omega (arith, c.decreases), (below.0, (below.1, (c.requires.few, (c.requires.decimals, c.requires.ready)))))

pub evaluate-returns-in-Binary : goal.evaluate-returns-in-Binary
evaluate-returns-in-Binary t c =
    let v = valuation_of_known c.args.known.now in
    let kinds = table_kinds c.args.table.now in
    let es = table_expressions c.args.table.now in
    let x = spelled es c.args.exp in
    let unknown : is_known kinds x ≡ false = sym (ap (λ (f : Facts). f.is_known) c.facts.ensures) ∙ c.if-facts.false in
    visits_is _ _ _ _ _ _ _ _ _ (sym (formula_binary v kinds x c.in-Binary.operator (spelled es c.in-Binary.left) (spelled es c.in-Binary.right) c.in-Binary.ensures.spells unknown)) c.binary_gate.ensures

pub evaluate-choice_gate-requires : goal.evaluate-choice_gate-requires
evaluate-choice_gate-requires t c =
    let below = chosen_below (table_kinds c.args.table.now) c.args.exp c.in-Choice.condition c.in-Choice.first c.in-Choice.second c.in-Choice.ensures.parts in
    (omega (arith, c.decreases), (below.0, (below.1, (below.2, (c.requires.few, (c.requires.decimals, c.requires.ready))))))

pub evaluate-returns-in-Choice : goal.evaluate-returns-in-Choice
evaluate-returns-in-Choice t c =
    let v = valuation_of_known c.args.known.now in
    let kinds = table_kinds c.args.table.now in
    let es = table_expressions c.args.table.now in
    let x = spelled es c.args.exp in
    let unknown : is_known kinds x ≡ false = sym (ap (λ (f : Facts). f.is_known) c.facts.ensures) ∙ c.if-facts.false in
    visits_is _ _ _ _ _ _ _ _ _ (sym (formula_choice v kinds x (spelled es c.in-Choice.condition) (spelled es c.in-Choice.first) (spelled es c.in-Choice.second) c.in-Choice.ensures.spells unknown)) c.choice_gate.ensures
