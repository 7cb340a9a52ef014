-- A spawner in memory.
use Rattle.std.specs.Prelude.{ℕ, ◌≡◌, ◌⊎◌, List, [], ◌∷◌, None, Some, if◌then◌else◌, string_bytes}
use Rattle.std.specs.Str.{bytes_eq}
use Rattle.std.specs.declared.option.Option.{Option}
use Rattle.std.specs.declared.string.String.{String}
use Rattle.std.specs.declared.alloc.Global.{Global}
use Rattle.lt_io.specs.Calls.{IsNextToFail}
use Rattle.lt_io.specs.Files.{names_of}
use Rattle.lt_io.specs.Programs.{Programs}
use Rattle.lt_io.specs.ScriptState.{ScriptState}
use Rattle.lt_io.specs.declared.mem_spawner.MemSpawner.{MemSpawner}

-- the first link of a command
abbrev pub first_link : List (String Global × ScriptState) → List ℕ → Option ScriptState
first_link [] command = None
first_link (l ∷ ls) command = if bytes_eq (string_bytes l.0) command then Some l.1 else first_link ls command

-- the links without the first of a command
abbrev pub without_first : List (String Global × ScriptState) → List ℕ → List (String Global × ScriptState)
without_first [] command = []
without_first (l ∷ ls) command = if bytes_eq (string_bytes l.0) command then ls else l ∷ without_first ls command

-- what each link of a command has left, in turn
abbrev pub lefts_of : List (String Global × ScriptState) → List ℕ → List (List ℕ)
lefts_of [] command = []
lefts_of (l ∷ ls) command = if bytes_eq (string_bytes l.0) command then l.1.left ∷ lefts_of ls command else lefts_of ls command

-- what it tells: everything but what finished links leave behind
abbrev pub programs_of : MemSpawner → Programs
programs_of spawner = record {
  coming = λ command. Some (lefts_of spawner.links.items command);
  closed = None;
  asked = names_of spawner.asked.items;
  faults = spawner.calls.faults;
}

-- the next call fails at that command: it is to fail, or no link is left of the command
abbrev pub FailsToStart : MemSpawner → List ℕ → Type 0
FailsToStart spawner command = IsNextToFail spawner.calls ⊎ (first_link spawner.links.items command ≡ None)
