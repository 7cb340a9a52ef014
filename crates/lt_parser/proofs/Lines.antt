-- Lines that are printed declaration by declaration are those of the program.
use Rattle.std.proofs.Common.{◌≡◌, true, ℕ, ◌-◌, List, [], ◌∷◌, ◌++◌, length, map, take, refl, sym, ◌∙◌, ap, Result, Ok, Err, String, Global, IsErrAnd, string_bytes, append_assoc, length-append, arith}
use Rattle.std.proofs.Math.Seq.{take-append_seam}
use Rattle.std.proofs.lemmas.List.{append-nil, length-map, map-append, take-map}
use Rattle.lt_ast.specs.Printed.{line, printed}
use Rattle.lt_ast.specs.Syntax.{Declaration}
use Rattle.lt_ast.specs.Tokens.{Written, declaration_tokens, tokens_of}
use Rattle.lt_ast.specs.View.{declaration}
use Rattle.lt_ast.specs.declared.program.Decl.{Decl}
use Rattle.lt_ast.specs.Signs.{spelled}
use Rattle.lt_ast.specs.declared.sign.Sign.{Sign}
use Rattle.lt_ast.specs.declared.sign.Sign.TheVariants as t
use Rattle.lt_ast.specs.declared.span.Span.{Span}
use Rattle.lt_lexer.specs.Spelled.{has_own_letters}
use Rattle.lt_lexer.specs.declared.lexeme.Lexeme.{Lexeme as Token}
use Rattle.lt_parser.specs.declared.refusal.Refusal.{Refusal}
use Rattle.lt_parser.specs.inner.Onto.{declarations_after, declarations_more}
use Rattle.lt_parser.specs.inner.Parsing.{Refused}
use Rattle.lt_parser.specs.inner.Printing.{PrintsAs}
use Rattle.lt_parser.specs.inner.Reading.{declarations, done, outcome}
use Rattle.lt_parser.specs.inner.Tokens.{lexeme_of, lexemes}
use Rattle.lt_grammar.specs.Grammar.{SpellsWithin}
use Rattle.lt_grammar.specs.Lexemes.{Lexemes, lexeme}
use Rattle.lt_grammar.specs.Nesting.{most_levels}
use Rattle.lt_grammar.specs.Written.{AreSpelled, IsSpelled, written_of}
use Rattle.lt_parser.proofs.Complete.{reads_program}
use Rattle.lt_parser.proofs.Programs.{at_end, one_more, refused_after}
use Rattle.lt_parser.proofs.Sound.{read_is_spelled}
use Rattle.lt_grammar.proofs.Written.{written_as_spelled}

-- Some declarations are read, and these bytes are their lines: with the lines of those that the rest spells, they are
-- the lines of all.
pub record IsPrintedSoFar (all rest : Lexemes) (out : List ℕ) : Type 0 where
  pub before : List Decl
  pub read : outcome most_levels (declarations done) all ≡ outcome most_levels (declarations_after before) rest
  pub lines : (ds : List Declaration) → SpellsWithin most_levels rest ds → out ++ printed ds ≡ printed (map declaration before ++ ds)

is_spelled : (sign : Sign) (w : List ℕ) (at : Span) → (has_own_letters sign ≡ true → w ≡ spelled sign) → IsSpelled (lexeme sign w at)
is_spelled t.Name w at h = tt
is_spelled t.Number w at h = tt
is_spelled sign w at h = h refl

-- The parser's tokens have the letters of their signs.
pub all_spelled : (ts : List Token) → AreSpelled (lexemes ts)
all_spelled [] = tt
all_spelled (t ∷ ts) = (is_spelled t.sign t.text.now _ t.spelled, all_spelled ts)

-- none are
pub none_yet : (all : Lexemes) (out : List ℕ) → out ≡ [] → IsPrintedSoFar all all out
none_yet all out e = record { before = []; read = refl; lines = λ ds s. ap (λ bytes. bytes ++ printed ds) e }

-- the tokens of the first declaration are as many as stand before the rest
first_tokens : (ts c rest : List Written) (first more : List Written) → ts ≡ first ++ more → rest ≡ more → c ≡ take (length ts - length rest) ts → c ≡ first
first_tokens ts c rest first more is tail taken =
    let count : length ts - length rest ≡ length first = omega (arith, ap length is, ap length tail, length-append first more) in
    taken ∙ (λ i. take (count i) (is i)) ∙ take-append_seam first more

-- a declaration more is read, and its tokens are put on a line
pub one_line_more : (all ts rest : Lexemes) (d : Decl) (c : Lexemes) (out new : List ℕ) → AreSpelled ts → AreSpelled rest
    → ((k : List Decl) → outcome most_levels (declarations_after k) ts ≡ outcome most_levels (declarations_more k (declaration d)) rest)
    → c ≡ take (length ts - length rest) ts → new ≡ out ++ line (map written_of c) → IsPrintedSoFar all ts out → IsPrintedSoFar all rest new
one_line_more all ts rest d c out new spelled spelled' reads taken put h =
    record {
      before = h.before ++ d ∷ [];
      read = one_more all ts rest h.before (h.before ++ d ∷ []) d refl h.read (reads h.before);
      lines = λ ds s. lines ds s;
    }
  where
    lines : (ds : List Declaration) → SpellsWithin most_levels rest ds → new ++ printed ds ≡ printed (map declaration (h.before ++ d ∷ []) ++ ds)
    lines ds s =
        let x = declaration d in
        let whole : SpellsWithin most_levels ts (x ∷ ds) = read_is_spelled most_levels ts (x ∷ ds) (reads [] ∙ reads_program ds most_levels rest s (λ xs. done (x ∷ xs))) in
        let written : map written_of ts ≡ declaration_tokens x ++ tokens_of ds = written_as_spelled most_levels ts (x ∷ ds) spelled whole in
        let behind : map written_of rest ≡ tokens_of ds = written_as_spelled most_levels rest ds spelled' s in
        let counts : map written_of c ≡ take (length (map written_of ts) - length (map written_of rest)) (map written_of ts) =
        ap (map written_of) taken ∙ sym (take-map written_of (length ts - length rest) ts) ∙ (λ i. take (sym (length-map ts written_of) i - sym (length-map rest written_of) i) (map written_of ts)) in
        let first : map written_of c ≡ declaration_tokens x = first_tokens (map written_of ts) (map written_of c) (map written_of rest) (declaration_tokens x) (tokens_of ds) written behind counts in
        ap (λ bytes. bytes ++ printed ds) put
        ∙ ap (λ ws. (out ++ line ws) ++ printed ds) first
        ∙ append_assoc out (line (declaration_tokens x)) (printed ds)
        ∙ h.lines (x ∷ ds) whole
        ∙ ap printed (sym (append_assoc (map declaration h.before) (x ∷ []) ds) ∙ ap (λ xs. xs ++ ds) (sym (map-append declaration h.before (d ∷ []))))

-- At the end these are the lines of the program.
pub all_printed : (all : Lexemes) (rest : List Token) (text : String Global) → length rest ≡ 0 → IsPrintedSoFar all (lexemes rest) (string_bytes text) → PrintsAs all (Ok text)
all_printed all [] text e h = (map declaration h.before, at_end all [] h.before refl h.read, sym (append-nil (string_bytes text)) ∙ h.lines [] refl ∙ ap printed (append-nil (map declaration h.before)))
all_printed all (t ∷ rest) text e h = cc

-- What is refused after some declarations is refused.
pub refused_behind : (all rest : Lexemes) (out : List ℕ) (e : Refusal) (result : Result (String Global) Refusal) → IsPrintedSoFar all rest out → Refused declarations_after rest e → IsErrAnd result (λ e'. e' ≡ e) → PrintsAs all result
refused_behind all rest out e (Ok text) h g a = absurd a
refused_behind all rest out e (Err e') h g a = refused_after all rest h.before e (Err e') h.read g a

-- The same of the parser's tokens.
pub next_line : (all : Lexemes) (xs ys : List Token) (d : Decl) (out new : List ℕ)
    → ((k : List Decl) → outcome most_levels (declarations_after k) (lexemes xs) ≡ outcome most_levels (declarations_more k (declaration d)) (lexemes ys))
    → new ≡ out ++ line (map written_of (lexemes (take (length xs - length ys) xs))) → IsPrintedSoFar all (lexemes xs) out → IsPrintedSoFar all (lexemes ys) new
next_line all xs ys d out new reads put h =
    let count = length xs - length ys in
    one_line_more all (lexemes xs) (lexemes ys) d (lexemes (take count xs)) out new (all_spelled xs) (all_spelled ys) reads
    (sym (take-map lexeme_of count xs) ∙ (λ i. take (sym (length-map xs lexeme_of) i - sym (length-map ys lexeme_of) i) (lexemes xs)))
    put h
