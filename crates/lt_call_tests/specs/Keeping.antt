-- What finished links leave behind.
use Rattle.std.specs.Prelude.{List, [], ◌∷◌, ◌++◌, Some}
use Rattle.lt_io.specs.Link.{anything}
use Rattle.lt_io.specs.Programs.{Closed}
use Rattle.lt_call_tests.specs.declared.keeping.Finished.{Finished}
use Rattle.lt_call_tests.specs.declared.keeping.Finished.TheVariants.{Nobody, After'}

-- an entry for each link, in the order in which they were finished
abbrev pub closed_by : Finished → List Closed
closed_by Nobody = []
closed_by (After' p others last) = closed_by others ++ record { sent = Some last.sent; faults = last.calls.faults; fits = anything } ∷ []
