-- A text has one answer in print.
use Rattle.std.proofs.Common.{◌⊎◌, inl, inr, ℕ, List, Result, Ok, Err, refl}
use Rattle.lt_ast.specs.Printed.{printed}
use Rattle.lt_ast.specs.Syntax.{Declaration}
use Rattle.lt_grammar.specs.Text.{IsProgramOf}
use Rattle.lt_parser.specs.Text.{IsRefusal}
use Rattle.lt_parser.specs.declared.refusal.ParseRefusal.{ParseRefusal}
use Rattle.lt_frontend.specs.Laws.{TextsHaveOnePrintedAnswer}
use Rattle.lt_frontend.specs.Prepared.{IsPrintedAnswer}
use Rattle.lt_frontend.specs.declared.refusal.Refusal.{Refusal}
use Rattle.lt_frontend.specs.declared.refusal.Refusal.TheVariants as refusal
use Rattle.lt_frontend.proofs.Once.{OneAnswer, Row, read, rows_agree, unread}

-- that of a program
abbrev printed_answer : List Declaration → Result (List ℕ) Refusal
printed_answer program = Ok (printed program)

text_has : (text : List ℕ) → ((x : List Declaration) × IsProgramOf text x) ⊎ ((reason : ParseRefusal) × IsRefusal text reason) → (answer : Result (List ℕ) Refusal) × IsPrintedAnswer text answer
text_has text (inl h) = (Ok (printed h.0), IsPrintedAnswer.has_text h.0 h.1)
text_has text (inr h) = (Err (refusal.Text h.0), IsPrintedAnswer.no_program h.0 h.1)

row : (text : List ℕ) (answer : Result (List ℕ) Refusal) → IsPrintedAnswer text answer → Row printed_answer text answer
row text answer (IsPrintedAnswer.no_program reason is) = unread reason is refl
row text answer (IsPrintedAnswer.has_text program spells) = read program spells refl

pub texts_have_one_printed_answer : OneAnswer → TextsHaveOnePrintedAnswer
texts_have_one_printed_answer texts text = (
  text_has text (texts.some text),
  λ answer other h k. rows_agree printed_answer texts text answer other (row text answer h) (row text other k),
)
