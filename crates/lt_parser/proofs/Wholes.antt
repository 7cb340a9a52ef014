-- What is read of a whole text: a program, or one expression.
use Rattle.std.proofs.Common.{◌≡◌, ℕ, Ok, arith, refl}
use Rattle.lt_grammar.specs.Lexemes.{Lexemes}
use Rattle.lt_grammar.specs.Grammar.{SpellsWithin, SpellsExpressionWithin}
use Rattle.lt_parser.specs.inner.Reading.{Goal, Tree, program_tree, expression_tree, outcome, declarations, done, whole_exp, expression_done, ReadsTheSpelled, ReadIsSpelled}
use Rattle.lt_parser.proofs.Complete.{at_most_one, at_most_one_expression, reads_the_expression, reads_the_spelled}
use Rattle.lt_parser.proofs.Low.{Low}
use Rattle.lt_parser.proofs.Sound.{Accepts, accepted_is_expression, accepted_is_spelled, read_is_accepted, read_is_expression, read_is_spelled}
use Rattle.lt_parser.proofs.Tidy.{Tidy}
use Rattle.lt_grammar.specs.Nesting.{most_levels}

-- This is wanted of a whole text that is to be a tree of some kind.
pub record IsWhole {X : Type 0} (spells : ℕ → Lexemes → X → Type 0) (tree : X → Tree) (wanted : Goal) : Type 0 where
  -- what is spelled is read
  pub read : ReadsTheSpelled spells tree wanted
  -- what is read is spelled
  pub spelled : ReadIsSpelled spells tree wanted
  -- what is accepted is some such tree
  pub accepted : (most : ℕ) (ts : Lexemes) → Accepts most wanted ts → (x : X) × spells most ts x
  -- tokens spell at most one
  pub one : (most : ℕ) (ts : Lexemes) (x y : X) → spells most ts x → spells most ts y → x ≡ y
  -- after it comes nothing
  pub tidy : Tidy wanted
  -- it speaks of no more levels than may be open
  pub low : Low most_levels wanted

-- What is read is some tree of this kind.
pub some_spelled : {X : Type 0} (spells : ℕ → Lexemes → X → Type 0) (tree : X → Tree) (wanted : Goal) → IsWhole spells tree wanted
    → (most : ℕ) (ts : Lexemes) (y : Tree) → outcome most wanted ts ≡ Ok y → (x : X) × spells most ts x
some_spelled spells tree wanted whole most ts y e = whole.accepted most ts (read_is_accepted ts most y wanted e)

-- A program is wanted of a whole text.
pub whole_program : IsWhole SpellsWithin program_tree (declarations done)
whole_program = record {
  read = reads_the_spelled;
  spelled = read_is_spelled;
  accepted = accepted_is_spelled;
  one = at_most_one;
  tidy = λ xs. (tt, refl);
  low = (omega arith, λ xs. tt);
}

-- An expression alone is wanted of a whole text.
pub whole_expression : IsWhole SpellsExpressionWithin expression_tree (whole_exp expression_done)
whole_expression = record {
  read = reads_the_expression;
  spelled = read_is_expression;
  accepted = accepted_is_expression;
  one = at_most_one_expression;
  tidy = λ e. (tt, refl);
  low = (omega arith, λ e. tt);
}
