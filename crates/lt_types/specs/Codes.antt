-- The codes and places of refusals.
use Rattle.std.specs.Prelude.{ℕ, List, codes}
use Rattle.std.specs.declared.option.Option.{Option}
use Rattle.std.specs.declared.option.Option.TheVariants.{None, Some}
use Rattle.lt_types.specs.declared.refusal.TypeRefusal.{TypeRefusal}
use Rattle.lt_types.specs.declared.refusal.TypeRefusal.TheVariants as r

-- the code of a refusal: `type`, a point, and what it is called
abbrev pub type_code : TypeRefusal → List ℕ
type_code (r.Unknown at) = codes "type.Unknown"
type_code (r.Twice at) = codes "type.Twice"
type_code (r.Mismatch at) = codes "type.Mismatch"
type_code (r.Arity at) = codes "type.Arity"
type_code (r.PreOfExpression at) = codes "type.PreOfExpression"
type_code (r.EmptyRange at) = codes "type.EmptyRange"
type_code (r.RangeTooLarge at) = codes "type.RangeTooLarge"
type_code r.NoNode = codes "type.NoNode"
type_code r.Memory = codes "type.Memory"
type_code (r.BadStep at) = codes "type.BadStep"

-- where in the text the rule is broken, if that is at one place
abbrev pub type_place : TypeRefusal → Option ℕ
type_place (r.Unknown at) = Some at.start
type_place (r.Twice at) = Some at.start
type_place (r.Mismatch at) = Some at.start
type_place (r.Arity at) = Some at.start
type_place (r.PreOfExpression at) = Some at.start
type_place (r.EmptyRange at) = Some at.start
type_place (r.RangeTooLarge at) = Some at.start
type_place r.NoNode = None
type_place r.Memory = None
type_place (r.BadStep at) = Some at.start
