use Rattle.std.proofs.Common.{sym, ap, ◌∙◌, ◌+◌}
use Rattle.std.specs.List.{prefix_len}
use Rattle.lt_lexer.specs.Byte.{is_word_byte, is_in_line}
use Rattle.std.proofs.lemmas.List.{take_rest}
use Rattle.lt_lexer.proofs.Giving.{gives_line, gives_word}
use Rattle.lt_lexer.proofs.piece.first_piece.Goals as goal

pub returns-then-starts_with : goal.returns-then-starts_with
returns-then-starts_with c =
    gives_line c.args.place c.passed_over-then-starts_with.result c.args.text.now
    (sym c.starts_with.ensures.value ∙ c.if-starts_with.true)
    c.passed_over-then-starts_with.ensures.kind
    (c.passed_over-then-starts_with.ensures.len ∙ ap (λ n. 2 + n) (c.line_bytes.ensures.count ∙ ap (prefix_len is_in_line) (take_rest c.args.text.now 2)))

pub returns-then-is_ascii_alphabetic : goal.returns-then-is_ascii_alphabetic
returns-then-is_ascii_alphabetic c =
    gives_word c.args.place c.token.result c.args.text.now
    c.requires
    (sym c.is_blank.ensures ∙ c.if-is_blank.false)
    (sym c.is_ascii_alphabetic.ensures.value ∙ c.if-is_ascii_alphabetic.true)
    c.token.ensures.kind
    (c.token.ensures.len ∙ ap (λ n. 1 + n) (c.word_bytes.ensures.count ∙ ap (prefix_len is_word_byte) (take_rest c.args.text.now 1)))
