-- What refusals of the layers are told as. Want of memory is no refusal.
use Rattle.lt_expand.specs.declared.refusal.ExpandRefusal.{ExpandRefusal}
use Rattle.lt_expand.specs.declared.refusal.ExpandRefusal.TheVariants as expand
use Rattle.lt_parser.specs.declared.refusal.ParseRefusal.{ParseRefusal}
use Rattle.lt_parser.specs.declared.refusal.ParseRefusal.TheVariants as parse
use Rattle.lt_types.specs.declared.refusal.TypeRefusal.{TypeRefusal}
use Rattle.lt_types.specs.declared.refusal.TypeRefusal.TheVariants as types
use Rattle.lt_frontend.specs.declared.refusal.Refusal.TheVariants as refusal
use Rattle.lt_frontend.specs.declared.refusal.Unprepared.{Unprepared}
use Rattle.lt_frontend.specs.declared.refusal.Unprepared.TheVariants as unprepared

-- where no program is read
abbrev pub of_text : ParseRefusal → Unprepared
of_text parse.Memory = unprepared.Memory
of_text reason = unprepared.Refused (refusal.Text reason)

-- where a program isn't well typed
abbrev pub of_types : TypeRefusal → Unprepared
of_types types.Memory = unprepared.Memory
of_types reason = unprepared.Refused (refusal.Types reason)

-- where a node has no scenario
abbrev pub of_expansion : ExpandRefusal → Unprepared
of_expansion expand.Memory = unprepared.Memory
of_expansion reason = unprepared.Refused (refusal.Expand reason)
