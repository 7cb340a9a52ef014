use Rattle.std.proofs.Common.{◌≡◌, ◌+◌, ◌∙◌, true, false, not, ap, sym, subst, arith}
use Rattle.lt_formula.specs.Expression.{Expression, choice, unary}
use Rattle.lt_formula.specs.Valuation.{value_under}
use Rattle.lt_formula.specs.View.{table_kinds, valuation_of_known}
use Rattle.lt_formula.specs.declared.facts.Facts.{Facts}
use Rattle.lt_space.specs.Evaluated.{Evaluates, is_divided, is_truth}
use Rattle.lt_space.specs.Meaning.{is_known}
use Rattle.lt_space.specs.inner.Memo.{memo_numbers}
use Rattle.lt_space.specs.inner.Noted.{EvaluatesWithin, IsNoted, Notes, at}
use Rattle.lt_space.specs.inner.Work.{formula_due}
use Rattle.lt_space.proofs.Notings.{condition_due, due_ok, either_first, either_second, in_first, in_second, left_due, not_is_false, not_is_true, noted_on, notes_as, notes_both, notes_choice, notes_left, notes_none, notes_then, notes_whole, one_due, right_due, some_noted, visited_ok, where_in, where_none, where_out}
use Rattle.lt_space.proofs.noting.+note.Goals as goal

pub note-note_parts-requires : goal.note-note_parts-requires
note-note_parts-requires t c =
    let v = valuation_of_known c.args.known.now in
    let table = c.args.table.now in
    let g = visited_ok v table (c.args.exp + 1) 0 (formula_due v table c.args.exp) c.visit.result c.unwrap-gate.result c.args.work.now c.visit.new.work c.unwrap-gate.ensures c.visit.ensures in (
      omega (arith, c.decreases),
      (
        c.requires.within,
        (
          c.requires.few,
          (
            c.requires.decimals,
            (
              c.requires.once,
              (noted_on v table (c.args.exp + 1) (formula_due v table c.args.exp) c.unwrap-gate.result c.args.work.now c.visit.new.work (memo_numbers c.args.noted.now) c.requires.noted g, c.requires.due),
            ),
          ),
        ),
      ),
    )

pub note-returns : goal.note-returns
note-returns t c =
    let v = valuation_of_known c.args.known.now in
    let table = c.args.table.now in
    let g = visited_ok v table (c.args.exp + 1) 0 (formula_due v table c.args.exp) c.visit.result c.unwrap-gate.result c.args.work.now c.visit.new.work c.unwrap-gate.ensures c.visit.ensures in
    notes_whole v table c.args.exp c.unwrap-gate.result (c.args.exp + 1) c.args.work.now c.visit.new.work c.note_parts.new.work (memo_numbers c.args.noted.now) (memo_numbers c.note_parts.new.noted) _ c.requires.within c.requires.once c.requires.noted g
    c.note_parts.ensures c.keep.ensures

pub note_two-note-requires : goal.note_two-note-requires
note_two-note-requires t c =
    let v = valuation_of_known c.args.known.now in
    let table = c.args.table.now in
    let divided = sym c.is_divided.ensures ∙ c.if-not-is_divided.false in (
      omega (arith, c.decreases),
      (
        c.requires.left,
        (
          c.requires.few,
          (
            c.requires.decimals,
            (
              c.requires.once,
              (
                c.requires.noted,
                left_due v (table_kinds table) c.args.operator (at table c.args.left) (at table c.args.right) divided c.requires.due,
              ),
            ),
          ),
        ),
      ),
    )

pub note_two-returns-then-is_settled : goal.note_two-returns-then-is_settled
note_two-returns-then-is_settled t c =
    let v = valuation_of_known c.args.known.now in
    let table = c.args.table.now in
    let divided = sym c.is_divided.ensures ∙ c.if-not-is_divided.false in
    let settled_ = sym c.is_settled.ensures ∙ c.if-is_settled.true in
    notes_left v table c.args.work.now (memo_numbers c.args.noted.now) c.args.operator (at table c.args.left) (at table c.args.right) c.note.new.work (memo_numbers c.note.new.noted) divided settled_ c.note.ensures

pub note_two-note-requires-2 : goal.note_two-note-requires-2
note_two-note-requires-2 t c =
    let v = valuation_of_known c.args.known.now in
    let table = c.args.table.now in
    let divided = sym c.is_divided.ensures ∙ c.if-not-is_divided.false in
    let open_ = sym c.is_settled.ensures ∙ c.if-is_settled.false in (
      omega (arith, c.decreases),
      (
        c.requires.right,
        (
          c.requires.few,
          (
            c.requires.decimals,
            (
              c.requires.once,
              (
                c.note.ensures.right,
                right_due v (table_kinds table) c.args.operator (at table c.args.left) (at table c.args.right) divided open_ c.requires.due,
              ),
            ),
          ),
        ),
      ),
    )

pub note_two-returns : goal.note_two-returns
note_two-returns t c =
    let v = valuation_of_known c.args.known.now in
    let table = c.args.table.now in
    let divided = sym c.is_divided.ensures ∙ c.if-not-is_divided.false in
    let open_ = sym c.is_settled.ensures ∙ c.if-is_settled.false in
    notes_both v table c.args.work.now (memo_numbers c.args.noted.now) c.args.operator (at table c.args.left) (at table c.args.right) c.note.new.work c.note-2.new.work (memo_numbers c.note.new.noted) (memo_numbers c.note-2.new.noted) divided open_
    c.note.ensures c.note-2.ensures

pub note_choice-note-requires : goal.note_choice-note-requires
note_choice-note-requires t c =
    let v = valuation_of_known c.args.known.now in
    let table = c.args.table.now in
    let unknown = sym c.are_known.ensures ∙ c.if-are_known.false in (
      omega (arith, c.decreases),
      (
        c.requires.condition,
        (
          c.requires.few,
          (
            c.requires.decimals,
            (
              c.requires.once,
              (
                c.requires.noted,
                condition_due v (table_kinds table) (at table c.args.condition) (at table c.args.first) (at table c.args.second) unknown c.requires.due,
              ),
            ),
          ),
        ),
      ),
    )

pub note_choice-returns-then-not-facts : goal.note_choice-returns-then-not-facts
note_choice-returns-then-not-facts t c =
    let v = valuation_of_known c.args.known.now in
    let table = c.args.table.now in
    let kinds = table_kinds table in
    let x = at table c.args.condition in
    let y = at table c.args.first in
    let z = at table c.args.second in
    let unknown : is_known kinds (choice x y z) ≡ false = sym c.are_known.ensures ∙ c.if-are_known.false in
    let open_ : is_known kinds x ≡ false = sym (ap (λ (f : Facts). f.is_known) c.facts.ensures) ∙ not_is_true c.facts.result.is_known c.if-not-facts.true in
    let first = c.note-then-not-facts in
    let second = c.note-then-not-facts-2 in
    let both = notes_then v table (λ k. Evaluates v kinds y (at table k)) (λ k. Evaluates v kinds z (at table k)) c.note.new.work first.new.work second.new.work (memo_numbers c.note.new.noted) (memo_numbers first.new.noted) (memo_numbers second.new.noted) first.ensures second.ensures in
    notes_choice v table c.args.work.now (memo_numbers c.args.noted.now) x y z _ c.note.new.work second.new.work (memo_numbers c.note.new.noted) (memo_numbers second.new.noted) unknown (λ k w. either_second _ _ _ open_ w) (λ k w. in_second _ _ _ open_ w) c.note.ensures both

pub note_choice-returns-then-is_truth : goal.note_choice-returns-then-is_truth
note_choice-returns-then-is_truth t c =
    let v = valuation_of_known c.args.known.now in
    let table = c.args.table.now in
    let kinds = table_kinds table in
    let x = at table c.args.condition in
    let y = at table c.args.first in
    let z = at table c.args.second in
    let unknown : is_known kinds (choice x y z) ≡ false = sym c.are_known.ensures ∙ c.if-are_known.false in
    let known : is_known kinds x ≡ true = sym (ap (λ (f : Facts). f.is_known) c.facts.ensures) ∙ not_is_false c.facts.result.is_known c.if-not-facts.false in
    let yes : is_truth (value_under v kinds x) ≡ true = sym c.is_truth.ensures ∙ c.if-is_truth.true in
    let last = c.note-then-is_truth in
    notes_choice v table c.args.work.now (memo_numbers c.args.noted.now) x y z _ c.note.new.work last.new.work (memo_numbers c.note.new.noted) (memo_numbers last.new.noted) unknown (λ k w. either_first _ _ _ yes (either_first _ _ _ known w))
    (λ k w. in_first _ _ _ known (in_first _ _ _ yes w)) c.note.ensures last.ensures

pub note_choice-returns : goal.note_choice-returns
note_choice-returns t c =
    let v = valuation_of_known c.args.known.now in
    let table = c.args.table.now in
    let kinds = table_kinds table in
    let x = at table c.args.condition in
    let y = at table c.args.first in
    let z = at table c.args.second in
    let unknown : is_known kinds (choice x y z) ≡ false = sym c.are_known.ensures ∙ c.if-are_known.false in
    let known : is_known kinds x ≡ true = sym (ap (λ (f : Facts). f.is_known) c.facts.ensures) ∙ not_is_false c.facts.result.is_known c.if-not-facts.false in
    let no : is_truth (value_under v kinds x) ≡ false = sym c.is_truth.ensures ∙ c.if-is_truth.false in
    let last = c.note-2 in
    notes_choice v table c.args.work.now (memo_numbers c.args.noted.now) x y z _ c.note.new.work last.new.work (memo_numbers c.note.new.noted) (memo_numbers last.new.noted) unknown (λ k w. either_second _ _ _ no (either_first _ _ _ known w))
    (λ k w. in_first _ _ _ known (in_second _ _ _ no w)) c.note.ensures last.ensures

pub note-returns-then-is_some : goal.note-returns-then-is_some
note-returns-then-is_some t c =
    let v = valuation_of_known c.args.known.now in
    let table = c.args.table.now in
    let numbers = memo_numbers c.args.noted.now in
    let here : IsNoted numbers c.args.exp = some_noted numbers c.args.exp c.find.result c.find.ensures (sym c.is_some.ensures ∙ c.if-is_some.true) in
    notes_none v table _ c.args.work.now numbers c.requires.noted (λ k h e. c.requires.noted.closed c.args.exp k here c.requires.within h e)

pub note-unwrap-gate-requires : goal.note-unwrap-gate-requires
note-unwrap-gate-requires t c =
    let v = valuation_of_known c.args.known.now in
    let table = c.args.table.now in
    due_ok v table (c.args.exp + 1) 0 (formula_due v table c.args.exp) c.visit.result c.args.work.now c.visit.new.work c.requires.due c.visit.ensures

pub note_one-returns-then-facts : goal.note_one-returns-then-facts
note_one-returns-then-facts t c =
    let v = valuation_of_known c.args.known.now in
    let table = c.args.table.now in
    let known : is_known (table_kinds table) (at table c.args.part) ≡ true = sym (ap (λ (f : Facts). f.is_known) c.facts.ensures) ∙ c.if-facts.true in
    notes_none v table _ c.args.work.now (memo_numbers c.args.noted.now) c.requires.noted (λ k h e. absurd (where_none _ _ (ap not known) e))

pub note_one-note-requires : goal.note_one-note-requires
note_one-note-requires t c =
    let v = valuation_of_known c.args.known.now in
    let table = c.args.table.now in
    let unknown : is_known (table_kinds table) (at table c.args.part) ≡ false = sym (ap (λ (f : Facts). f.is_known) c.facts.ensures) ∙ c.if-facts.false in
    (omega (arith, c.decreases), (c.requires.part, (c.requires.few, (c.requires.decimals, (c.requires.once, (c.requires.noted, one_due v (table_kinds table) c.args.operator (at table c.args.part) unknown c.requires.due))))))

pub note_one-returns : goal.note_one-returns
note_one-returns t c =
    let v = valuation_of_known c.args.known.now in
    let table = c.args.table.now in
    let kinds = table_kinds table in
    let e = at table c.args.part in
    let unknown : is_known kinds e ≡ false = sym (ap (λ (f : Facts). f.is_known) c.facts.ensures) ∙ c.if-facts.false in
    notes_as v table (λ k. Evaluates v kinds e (at table k)) (λ k. EvaluatesWithin v kinds (unary c.args.operator e) (at table k)) c.args.work.now c.note.new.work (memo_numbers c.args.noted.now) (memo_numbers c.note.new.noted)
    (λ k w. where_out _ _ w) (λ k w. where_in _ _ (ap not unknown) w) c.note.ensures

pub note_two-returns-then-not-is_divided : goal.note_two-returns-then-not-is_divided
note_two-returns-then-not-is_divided t c =
    let v = valuation_of_known c.args.known.now in
    let table = c.args.table.now in
    let whole : is_divided (table_kinds table) c.args.operator (at table c.args.left) (at table c.args.right) ≡ false = sym c.is_divided.ensures ∙ c.if-not-is_divided.true in
    notes_none v table _ c.args.work.now (memo_numbers c.args.noted.now) c.requires.noted (λ k h e. absurd (where_none _ _ whole e))

pub note_choice-returns-then-are_known : goal.note_choice-returns-then-are_known
note_choice-returns-then-are_known t c =
    let v = valuation_of_known c.args.known.now in
    let table = c.args.table.now in
    let known : is_known (table_kinds table) (choice (at table c.args.condition) (at table c.args.first) (at table c.args.second)) ≡ true = sym c.are_known.ensures ∙ c.if-are_known.true in
    notes_none v table _ c.args.work.now (memo_numbers c.args.noted.now) c.requires.noted (λ k h e. absurd (where_none _ _ (ap not known) e))

pub note_parts-returns-in-Unary : goal.note_parts-returns-in-Unary
note_parts-returns-in-Unary t c =
    let v = valuation_of_known c.args.known.now in
    let table = c.args.table.now in
    subst (λ (x : Expression). Notes v table (λ k. EvaluatesWithin v (table_kinds table) x (at table k)) c.args.work.now c.note_one.new.work (memo_numbers c.args.noted.now) (memo_numbers c.note_one.new.noted)) (sym c.in-Unary.ensures.spells) c.note_one.ensures

pub note_parts-returns-in-Binary : goal.note_parts-returns-in-Binary
note_parts-returns-in-Binary t c =
    let v = valuation_of_known c.args.known.now in
    let table = c.args.table.now in
    subst (λ (x : Expression). Notes v table (λ k. EvaluatesWithin v (table_kinds table) x (at table k)) c.args.work.now c.note_two.new.work (memo_numbers c.args.noted.now) (memo_numbers c.note_two.new.noted)) (sym c.in-Binary.ensures.spells) c.note_two.ensures

pub note_parts-returns-in-Choice : goal.note_parts-returns-in-Choice
note_parts-returns-in-Choice t c =
    let v = valuation_of_known c.args.known.now in
    let table = c.args.table.now in
    subst (λ (x : Expression). Notes v table (λ k. EvaluatesWithin v (table_kinds table) x (at table k)) c.args.work.now c.note_choice.new.work (memo_numbers c.args.noted.now) (memo_numbers c.note_choice.new.noted)) (sym c.in-Choice.ensures.spells) c.note_choice.ensures
