use Rattle.std.proofs.Common.{◌-◌, ◌∙◌, ap, drop, length, sym}
use Rattle.lt_parser.specs.inner.Tokens.{lexemes}
use Rattle.lt_grammar.specs.Text.{start_of}
use Rattle.lt_parser.proofs.Placed.{length-lexemes, place_at}
use Rattle.lt_parser.proofs.text.place.Goals as goal

pub returns-in-Some : goal.returns-in-Some
returns-in-Some c =
    let ts = c.args.tokens.now in
    let found = c.in-Some.ensures.lookup.3 in
    place_at c.args.text.now ts (length ts - c.args.left) c.in-Some.token.now found.0 (found.1 c.in-Some.token.now)
    ∙ sym (ap (λ n. start_of c.args.text.now (drop (n - c.args.left) (lexemes ts))) (length-lexemes ts))
