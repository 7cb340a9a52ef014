-- What the proofs of other crates may cite of this one.
use Rattle.std.specs.Prelude.{◌≡◌, ◌⊎◌, ℕ, List}
use Rattle.lt_ast.specs.declared.sign.Sign.{Sign}
use Rattle.lt_lexer.specs.Apart.{ReadsApart}
use Rattle.lt_lexer.specs.Source.{IsTokenOf, IsSign, StandInTurn}
use Rattle.lt_lexer.specs.Tokenization.{IsTokenization, IsRefusal}
use Rattle.lt_lexer.specs.declared.token.Token.{Token}
use Rattle.lt_lexer.specs.declared.refusal.LexRefusal.{LexRefusal}
use Rattle.lt_lexer.proofs.Apart as apart
use Rattle.lt_lexer.proofs.Divisions as divisions
use Rattle.lt_lexer.proofs.Places as places
use Rattle.lt_lexer.proofs.Signs as signs

-- a text has tokens or a refusal
pub some_answer : (text : List ℕ) → ((tokens : List Token) × IsTokenization text tokens) ⊎ ((refusal : LexRefusal) × IsRefusal text refusal)
some_answer = divisions.some_answer

-- it has one list of tokens ..
pub one_tokenization : (text : List ℕ) (tokens others : List Token) → IsTokenization text tokens → IsTokenization text others → tokens ≡ others
one_tokenization = divisions.tokenization_one

-- .. or one refusal ..
pub one_refusal : (text : List ℕ) (refusal other : LexRefusal) → IsRefusal text refusal → IsRefusal text other → refusal ≡ other
one_refusal = divisions.refusal_one

-- .. and not both
pub tokens_or_refusal : (text : List ℕ) (tokens : List Token) (refusal : LexRefusal) → IsTokenization text tokens → IsRefusal text refusal → ⊥
tokens_or_refusal = divisions.tokens_or_refusal

-- its tokens stand in turn, each in the text as a token of its kind
pub stand_in_turn : (text : List ℕ) (tokens : List Token) → IsTokenization text tokens → StandInTurn text 0 tokens
stand_in_turn = places.stand_in_turn

-- a token is some sign ..
pub some_sign : (text : List ℕ) (token : Token) → IsTokenOf text token → (sign : Sign) × IsSign text token sign
some_sign = signs.some_sign

-- .. and one alone
pub one_sign : (text : List ℕ) (token : Token) (sign other : Sign) → IsTokenOf text token → IsSign text token sign → IsSign text token other → sign ≡ other
one_sign = signs.one_sign

-- the tokens of a text, set apart by blanks, are read as the same tokens
pub reads_apart : ReadsApart
reads_apart = apart.reads_apart
