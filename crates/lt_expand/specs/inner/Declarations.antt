-- The exceptions that a list of the code has, in the order of their numbers.
use Rattle.std.specs.Prelude.{ℕ, List, [], ◌∷◌, ◌++◌, map, if◌then◌else◌}
use Rattle.std.specs.Borrow.{Bor}
use Rattle.std.specs.List.{list_any}
use Rattle.lt_macros.specs.Expanded.{Exception}
use Rattle.lt_expand.specs.Exceptions.{same_exception}
use Rattle.lt_expand.specs.declared.exceptions.Declaration.{Declaration}
use Rattle.lt_expand.specs.declared.exceptions.Exceptions as code

-- an exception, by its declaration and its name
abbrev pub of_entry : Declaration × Bor (List ℕ) → Exception
of_entry e = record { name = e.1.now; place = e.0.place; terms_before = e.0.terms_before }

-- all of them
abbrev pub exceptions : code.Exceptions → List Exception
exceptions es = map of_entry es.names.entries

-- one more, where it isn't there
abbrev pub with_one : List Exception → Exception → List Exception
with_one done z = if list_any (same_exception z) done then done else done ++ z ∷ []

-- more of them
abbrev pub with_more : List Exception → List Exception → List Exception
with_more done [] = done
with_more done (z ∷ zs) = with_more (with_one done z) zs
