-- Places in a text.
use Rattle.lt_ast.specs.Syntax as s
use Rattle.lt_ast.specs.Syntax.{Exp}
use Rattle.lt_ast.specs.declared.span.Span.{Span}

-- from where the first begins to where the second ends
abbrev pub across : Span → Span → Span
across a b = record { start = a.start; end = b.end }

-- the place of a whole expression; that of a name with arguments is the name's
abbrev pub span_of : Exp → Span
span_of (s.number f) = f.span
span_of (s.flag b at) = at
span_of (s.named w) = w.span
span_of (s.called w args) = w.span
span_of (s.pre w at) = at
span_of (s.paren e at) = at
span_of (s.unary op e at) = at
span_of (s.binary op e f at) = at
span_of (s.choose c e f at) = at
