-- A literal's text with its minus is one that can be read.
use Rattle.lt_ast.specs.Letters.{letters}
use Rattle.lt_ast.specs.Literals.{figure_text}
use Rattle.lt_ast.specs.View.{figure}
use Rattle.lt_ast.specs.declared.name.Literal.{Literal}
use Rattle.lt_num.specs.Literal.{IsLiteral}
use Rattle.lt_num.proofs.Public.{number_literal}

pub literal_reads : (l : Literal) → IsLiteral (figure_text (figure l))
literal_reads l = number_literal l.minus (letters l.text) l.number

pub ruleset literal_parts = (literal_reads)
