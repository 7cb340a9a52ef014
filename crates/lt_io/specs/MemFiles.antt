-- Files in memory.
use Rattle.std.specs.Prelude.{ℕ, ◌≡◌, ◌⊎◌, List, [], ◌∷◌, None, Some, if◌then◌else◌, string_bytes}
use Rattle.std.specs.Str.{bytes_eq}
use Rattle.std.specs.declared.option.Option.{Option}
use Rattle.std.specs.declared.string.String.{String}
use Rattle.std.specs.declared.vec.Vec.{Vec}
use Rattle.std.specs.declared.alloc.Global.{Global}
use Rattle.lt_io.specs.Calls.{IsNextToFail}
use Rattle.lt_io.specs.Files.{Files, names_of}
use Rattle.lt_io.specs.declared.mem_files.MemFiles.{MemFiles}

-- the contents of the first entry of that name
abbrev pub first_named : List (String Global × Vec ℕ Global) → List ℕ → Option (List ℕ)
first_named [] name = None
first_named (e ∷ es) name = if bytes_eq (string_bytes e.0) name then Some e.1.items else first_named es name

-- the contents of the file of that name
abbrev pub content_of : MemFiles → List ℕ → Option (List ℕ)
content_of files name = first_named files.entries.items name

-- what they tell: everything
abbrev pub files_of : MemFiles → Files
files_of files =
    record { contents = content_of files; asked = names_of files.asked.items; faults = files.calls.faults }

-- the next call fails at that name: it is to fail, or no file has the name
abbrev pub FailsAt : MemFiles → List ℕ → Type 0
FailsAt files name = IsNextToFail files.calls ⊎ (content_of files name ≡ None)
