use Rattle.std.proofs.Common.{Err, Ok, subst, sym}
use Rattle.lt_parser.specs.inner.Parsing.{ProgramReadsAs}
use Rattle.lt_grammar.specs.Grammar.{SpellsWithin}
use Rattle.lt_parser.specs.inner.Printing.{PrintsAs}
use Rattle.lt_parser.specs.inner.Reading.{declarations, done, program_tree}
use Rattle.lt_parser.specs.inner.Placing.{IsPlaced, IsWithin}
use Rattle.lt_parser.specs.inner.Tokens.{lexemes}
use Rattle.lt_parser.proofs.Placed.{has_lexemes, placed_refusal, refused_within}
use Rattle.lt_parser.proofs.Texts.{read_is_tree}
use Rattle.lt_parser.proofs.Wholes.{whole_program}
use Rattle.lt_parser.proofs.printing.print.Goals as goal

pub returns-in-Ok-clause-found : goal.returns-in-Ok-clause-found
returns-in-Ok-clause-found c =
    let text = c.args.text.now in
    let tokens = c.in_ok-tokens.tokens.items in
    let prints = subst (λ ts. PrintsAs (lexemes ts) (Ok c.in-Ok.printed)) c.deref.ensures.value c.in-Ok.ensures in
    (prints.0, read_is_tree SpellsWithin program_tree (declarations done) whole_program text (lexemes tokens) prints.0 (has_lexemes text tokens c.in_ok-tokens.ensures.found) prints.1, prints.2)

pub placed-requires : goal.placed-requires
placed-requires c =
    let reads = subst (λ ts. ProgramReadsAs (lexemes ts) (Err c.in-Err.refusal)) c.deref.ensures.value c.in-Err.ensures in
    subst (λ ts. IsWithin (lexemes ts) c.in-Err.refusal) (sym c.deref-in-Err.ensures.value) (refused_within (lexemes c.in_ok-tokens.tokens.items) c.in-Err.refusal reads)

pub returns-clause-refused : goal.returns-clause-refused
returns-clause-refused c =
    let text = c.args.text.now in
    let tokens = c.in_ok-tokens.tokens.items in
    let reads = subst (λ ts. ProgramReadsAs (lexemes ts) (Err c.in-Err.refusal)) c.deref.ensures.value c.in-Err.ensures in
    let placed = subst (λ ts. IsPlaced text (lexemes ts) c.in-Err.refusal c.placed.result) c.deref-in-Err.ensures.value c.placed.ensures in
    placed_refusal text (lexemes tokens) c.in-Err.refusal c.placed.result (has_lexemes text tokens c.in_ok-tokens.ensures.found) reads placed
