-- What a phrase is where it stands.
use Rattle.lt_macros.specs.Placed.{Placed}
use Rattle.lt_macros.specs.Denotation.{ExpandedTrace, Denotation, as_expression, as_trace}
use Rattle.lt_macros.specs.inner.Numbers.{numbers_view}
use Rattle.lt_macros.specs.declared.position.Position.{Position}
use Rattle.lt_macros.specs.declared.position.Position.TheVariants as position

-- an expression, or a trace with numbers
pub data Seen : Type 0 where
  an_expression : Placed → Seen
  a_trace : ExpandedTrace → Seen

-- a denotation as what is asked for in a position
abbrev pub seen : Position → Denotation → Seen
seen position.Expression denotation = an_expression (as_expression denotation)
seen (position.Trace n) denotation = a_trace (as_trace denotation (numbers_view n))
