-- What parts of the code stand for.
use Rattle.lt_parts.specs.Part.{Piece}
use Rattle.lt_parts.specs.declared.part.Part.{Part}
use Rattle.lt_space.specs.FormulaView.{formula_view}

-- the piece that a part is
abbrev pub piece_of : Part → Piece
piece_of part = record { conjunct = formula_view part.conjunct; atoms = part.atoms.items; known = part.known }
