use Rattle.std.proofs.Common.{◌≡◌, ◌+◌, length}
use Rattle.std.specs.Option.{option_map}
use Rattle.lt_lexer.specs.inner.Reading.{closed}
use Rattle.lt_lexer.proofs.piece.close.Given as goal

-- no comment is closed so far, and it is closed where the rest is
abbrev pub invariant-loop-rest : goal.invariant-loop-rest
invariant-loop-rest l = record {
  whole : l.len + length l.rest ≡ length l.inside;
  same : option_map (λ parts. length parts.inside) (closed l.inside) ≡ option_map (λ parts. l.len + length parts.inside) (closed l.rest);
}

abbrev pub decreases-loop-rest : goal.decreases-loop-rest
decreases-loop-rest l = length l.rest
