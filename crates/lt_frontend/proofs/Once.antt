-- What is made of a text by its program alone is one thing.
use Rattle.std.proofs.Common.{◌≡◌, ◌⊎◌, ℕ, List, Result, Err, ap, sym, ◌∙◌}
use Rattle.lt_ast.specs.Syntax.{Declaration}
use Rattle.lt_grammar.specs.Text.{IsProgramOf}
use Rattle.lt_parser.specs.Text.{IsRefusal}
use Rattle.lt_parser.specs.declared.refusal.ParseRefusal.{ParseRefusal}
use Rattle.lt_frontend.specs.declared.refusal.Refusal.{Refusal}
use Rattle.lt_frontend.specs.declared.refusal.Refusal.TheVariants as refusal

-- each text has a program or a refusal, one alone, and never both
pub record OneAnswer : Type 0 where
  pub some : (text : List ℕ) → ((x : List Declaration) × IsProgramOf text x) ⊎ ((reason : ParseRefusal) × IsRefusal text reason)
  pub one_program : (text : List ℕ) (x y : List Declaration) → IsProgramOf text x → IsProgramOf text y → x ≡ y
  pub one_refusal : (text : List ℕ) (reason other : ParseRefusal) → IsRefusal text reason → IsRefusal text other → reason ≡ other
  pub not_both : (text : List ℕ) (x : List Declaration) (reason : ParseRefusal) → IsProgramOf text x → IsRefusal text reason → ⊥

-- an answer is the refusal of a text that spells no program, or what is made of the one that it spells
pub data Row {X : Type 0} (made : List Declaration → Result X Refusal) (text : List ℕ) (answer : Result X Refusal) : Type 0 where
  unread : (reason : ParseRefusal) → IsRefusal text reason → answer ≡ Err (refusal.Text reason) → Row made text answer
  read : (program : List Declaration) → IsProgramOf text program → answer ≡ made program → Row made text answer

-- two such answers are one
pub rows_agree : {X : Type 0} (made : List Declaration → Result X Refusal) → OneAnswer → (text : List ℕ) (answer other : Result X Refusal) → Row made text answer → Row made text other → answer ≡ other
rows_agree made texts text answer other (unread reason is e) (unread reason' is' f) = e ∙ ap (λ x. Err (refusal.Text x)) (texts.one_refusal text reason reason' is is') ∙ sym f
rows_agree made texts text answer other (unread reason is e) (read program spells f) = absurd (texts.not_both text program reason spells is)
rows_agree made texts text answer other (read program spells e) (unread reason is f) = absurd (texts.not_both text program reason spells is)
rows_agree made texts text answer other (read program spells e) (read program' spells' f) = e ∙ ap made (texts.one_program text program program' spells spells') ∙ sym f
