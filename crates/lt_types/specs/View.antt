-- What values of the code stand for.
use Rattle.std.specs.Prelude.{string_bytes}
use Rattle.std.specs.declared.alloc.Global.{Global}
use Rattle.std.specs.declared.string.String.{String}
use Rattle.lt_ast.specs.declared.group.TypeName.{TypeName}
use Rattle.lt_types.specs.Environment.{TypedName}

-- a name of a variable, with its type
abbrev pub typed_name : (String Global × TypeName) → TypedName
typed_name v = record { name = string_bytes v.0; kind = v.1 }
