-- The parts of the code.
use Rattle.lt_term.specs.View.{choices, process}
use Rattle.lt_same_term.specs.Alike.{Parts as Meant, many_parts, no_part, one_part, two_parts}
use Rattle.lt_same_term.specs.declared.parts.Parts.{Parts}
use Rattle.lt_same_term.specs.declared.parts.Parts.TheVariants.{Many, None, One, Two}

abbrev pub parts_view : Parts → Meant
parts_view None = no_part
parts_view (One t) = one_part (process t.now)
parts_view (Two t u) = two_parts (process t.now) (process u.now)
parts_view (Many ps) = many_parts (choices ps.now)
