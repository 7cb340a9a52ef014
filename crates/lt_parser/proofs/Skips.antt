-- What may be absent is, where its sign doesn't come.
use Rattle.std.proofs.Common.{◌≡◌, ℕ, suc, ◌≤◌, ◌<◌, List, [], ◌∷◌, length, refl, ap, Bool, true, false, if◌then◌else◌, nat_le, nat_lt, Err, Option, Some, None, arith}
use Rattle.std.proofs.lemmas.Bool.{le-leb}
use Rattle.std.proofs.lemmas.Bool.Decides.{nat_tests}
use Rattle.lt_ast.specs.declared.sign.Sign.{Sign}
use Rattle.lt_ast.specs.declared.sign.Sign.TheVariants as t
use Rattle.lt_ast.specs.declared.span.Span.{Span}
use Rattle.lt_ast.specs.declared.expr.BinOp.{BinOp}
use Rattle.lt_ast.specs.Syntax as s
use Rattle.lt_ast.specs.Syntax.{Word, Figure, Exp, Arguments, Limits, Traces, MaybeExp, MaybeTrace, Parameters, WrittenRange}
use Rattle.lt_grammar.specs.Lexemes.{Lexemes, lexeme, IsNotFirst}
use Rattle.lt_grammar.specs.Precedence.{rank, operator}
use Rattle.lt_ast.specs.Places.{across, span_of}
use Rattle.lt_parser.specs.inner.Reading.{Goal, Move, too_deep, outcome, onward, operand, stuck, extend, step, top, more_exp, after_name, more_items, a_handler, some_limits, a_ref, a_range, a_step, a_first, some_parameters, more_names}

-- A level that may be opened is.
pub enter : (most d : ℕ) → d ≤ most → (goal : Goal) (m : Lexemes) → (if nat_le d most then outcome most goal m else Err (too_deep (suc (length m)))) ≡ outcome most goal m
enter most d le goal m = ap (λ b. if b then outcome most goal m else Err (too_deep (suc (length m)))) (le-leb d most le)

pub no_call : (most : ℕ) (d : ℕ) (n : Word) (k : Exp → Goal) (ts : Lexemes) → IsNotFirst t.Open ts → outcome most (after_name d n k) ts ≡ outcome most (k (s.named n)) ts
no_call most d n k [] h = refl
no_call most d n k (lexeme t.Open w at ∷ us) h = absurd (h w at us refl)
no_call most d n k (lexeme sign w at ∷ us) h = refl

pub no_item : (most : ℕ) (d : ℕ) (k : Traces → Goal) (ts : Lexemes) → IsNotFirst t.Fby ts → outcome most (more_items d k) ts ≡ outcome most (k s.no_traces) ts
no_item most d k [] h = refl
no_item most d k (lexeme t.Fby w at ∷ us) h = absurd (h w at us refl)
no_item most d k (lexeme sign w at ∷ us) h = refl

pub no_handler : (most : ℕ) (d : ℕ) (k : MaybeTrace → Goal) (ts : Lexemes) → IsNotFirst t.Do ts → outcome most (a_handler d k) ts ≡ outcome most (k s.no_trace) ts
no_handler most d k [] h = refl
no_handler most d k (lexeme t.Do w at ∷ us) h = absurd (h w at us refl)
no_handler most d k (lexeme sign w at ∷ us) h = refl

pub no_ref : (most : ℕ) (k : Bool → Goal) (ts : Lexemes) → IsNotFirst t.Ref ts → outcome most (a_ref k) ts ≡ outcome most (k false) ts
no_ref most k [] h = refl
no_ref most k (lexeme t.Ref w at ∷ us) h = absurd (h w at us refl)
no_ref most k (lexeme sign w at ∷ us) h = refl

pub no_range : (most : ℕ) (k : Option WrittenRange → Goal) (ts : Lexemes) → IsNotFirst t.OpenBracket ts → outcome most (a_range k) ts ≡ outcome most (k None) ts
no_range most k [] h = refl
no_range most k (lexeme t.OpenBracket w at ∷ us) h = absurd (h w at us refl)
no_range most k (lexeme sign w at ∷ us) h = refl

pub no_step : (most : ℕ) (k : Option Figure → Goal) (ts : Lexemes) → IsNotFirst t.Semicolon ts → outcome most (a_step k) ts ≡ outcome most (k None) ts
no_step most k [] h = refl
no_step most k (lexeme t.Semicolon w at ∷ us) h = absurd (h w at us refl)
no_step most k (lexeme sign w at ∷ us) h = refl

pub no_first : (most : ℕ) (d : ℕ) (k : MaybeExp → Goal) (ts : Lexemes) → IsNotFirst t.Equal ts → outcome most (a_first d k) ts ≡ outcome most (k s.no_exp) ts
no_first most d k [] h = refl
no_first most d k (lexeme t.Equal w at ∷ us) h = absurd (h w at us refl)
no_first most d k (lexeme sign w at ∷ us) h = refl

pub no_parameters : (most : ℕ) (d : ℕ) (k : Parameters → Goal) (ts : Lexemes) → IsNotFirst t.Open ts → outcome most (some_parameters d k) ts ≡ outcome most (k s.no_parameters) ts
no_parameters most d k [] h = refl
no_parameters most d k (lexeme t.Open w at ∷ us) h = absurd (h w at us refl)
no_parameters most d k (lexeme sign w at ∷ us) h = refl

pub no_name : (most : ℕ) (k : List Word → Goal) (ts : Lexemes) → IsNotFirst t.Comma ts → outcome most (more_names k) ts ≡ outcome most (k []) ts
no_name most k [] h = refl
no_name most k (lexeme t.Comma w at ∷ us) h = absurd (h w at us refl)
no_name most k (lexeme sign w at ∷ us) h = refl

pub no_limits : (most d : ℕ) (k : Limits → Goal) (ts : Lexemes) → IsNotFirst t.OpenBracket ts → IsNotFirst t.Tilde ts → outcome most (some_limits d k) ts ≡ outcome most (k s.forever) ts
no_limits most d k [] h g = refl
no_limits most d k (lexeme t.OpenBracket w at ∷ us) h g = absurd (h w at us refl)
no_limits most d k (lexeme t.Tilde w at ∷ us) h g = absurd (g w at us refl)
no_limits most d k (lexeme sign w at ∷ us) h g = refl

-- the levels of an operator that comes first
abbrev pub Heads : (BinOp → Type 0) → Lexemes → Type 0
Heads P ts = (op : BinOp) (sign : Sign) (text : List ℕ) (at : Span) (rest : Lexemes) → ts ≡ lexeme sign text at ∷ rest → operator sign ≡ Some op → P op

unextended : (o : Option BinOp) (d low : ℕ) (x : Exp) (k : Exp → Goal) (skip : Move) → ((op : BinOp) → o ≡ Some op → rank op < low) → extend o d low x k skip ≡ skip
unextended None d low x k skip h = refl
unextended (Some op) d low x k skip h = let lt : rank op < low = h op refl in let e : nat_lt (rank op) low ≡ true = grind (arith, nat_tests) in ap (λ b. if b then skip else (if nat_le (rank op) (top x) then operand d op (λ y. more_exp d low (s.binary op x y (across (span_of x) (span_of y))) k) else stuck)) e

-- An expression isn't extended where only operators of lower levels come.
pub ends : (most d low : ℕ) (x : Exp) (k : Exp → Goal) (ts : Lexemes) → Heads (λ op. rank op < low) ts → outcome most (more_exp d low x k) ts ≡ outcome most (k x) ts
ends most d low x k [] h = refl
ends most d low x k (lexeme sign w at ∷ us) h =
    ap (λ a. onward most a (length us) (λ goal. outcome most goal us)) (unextended (operator sign) d low x k (step (k x) sign w at) (λ op e. h op sign w at us refl e))
