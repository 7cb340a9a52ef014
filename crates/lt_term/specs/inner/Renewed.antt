-- What stands for a term after an instant: a new one, if there is one, or else the old one.
use Rattle.std.specs.Prelude.{ℕ, List, None, Some}
use Rattle.std.specs.declared.alloc.Global.{Global}
use Rattle.std.specs.declared.option.Option.{Option}
use Rattle.std.specs.declared.rc.Rc.{Rc}
use Rattle.std.specs.declared.vec.Vec.{Vec}
use Rattle.lt_term.specs.declared.advancing.Both.{Both}
use Rattle.lt_term.specs.declared.term.Term.{Term}

-- a term
abbrev pub term_of : Term → Option Term → Term
term_of old None = old
term_of old (Some new) = new

-- a part of a term
abbrev pub part_of : Term → Option (Rc Term Global) → Term
part_of old None = old
part_of old (Some new) = new.value

-- the first and the second of two parts
abbrev pub first_of : Term → Option Both → Term
first_of old None = old
first_of old (Some new) = new.first.value

abbrev pub second_of : Term → Option Both → Term
second_of old None = old
second_of old (Some new) = new.second.value

-- the parts of a choice
abbrev pub choices_of : List (ℕ × Term) → Option (Vec (ℕ × Term) Global) → List (ℕ × Term)
choices_of old None = old
choices_of old (Some new) = new.items
