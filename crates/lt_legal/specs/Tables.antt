-- The table of a tree's nodes tells what it has.
use Rattle.std.specs.Prelude.{◌≡◌, ◌<◌, ◌^◌, []}
use Rattle.lt_legal.specs.Nodes.{Shape, count, flat, found_at, has, run}

abbrev pub TablesTell : Type 0
TablesTell =
    (t : Shape) → count t < 2 ^ 32 →
    found_at (run (flat t [])) 0 ≡ record { has = has t; size = count t }
