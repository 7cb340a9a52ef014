-- The letters of names and numbers.
use Rattle.std.specs.Prelude.{ℕ, List, take, string_bytes}
use Rattle.lt_ast.specs.declared.letters.Few.{Few}
use Rattle.lt_ast.specs.declared.letters.Letters.{Letters}
use Rattle.lt_ast.specs.declared.letters.Place.{Place}
use Rattle.lt_ast.specs.declared.letters.Place.TheVariants.{Inside, Apart}

-- the bytes of letters that stand in the value itself
abbrev pub few : Few → List ℕ
few f = take f.count f.bytes

-- the bytes of letters where they stand
abbrev pub standing : Place → List ℕ
standing (Inside f) = few f
standing (Apart text) = string_bytes text.value

-- the bytes of letters
unfoldable pub letters : Letters → List ℕ
letters l = standing l.place
