-- The ranges of a scope.
use Rattle.std.specs.Prelude.{Bool, true, false, List, [], ◌∷◌, pos}
use Rattle.lt_num.specs.declared.range.Range.{Range}

-- the range of a variable that is out of scope: 0 alone
abbrev pub zero_alone : Range
zero_alone = record { low = pos 0; high = pos 0; step = pos 1 }

-- the range of a variable, by whether it is in scope
abbrev pub range_in : Bool → Range → Range
range_in true range = range
range_in false range = zero_alone

-- the ranges of a scope, which has a mark for each variable; one without a mark is out of scope
abbrev pub ranges_in : List Bool → List Range → List Range
ranges_in [] [] = []
ranges_in [] (range ∷ ranges) = zero_alone ∷ ranges_in [] ranges
ranges_in (mark ∷ marks) [] = []
ranges_in (mark ∷ marks) (range ∷ ranges) = range_in mark range ∷ ranges_in marks ranges
