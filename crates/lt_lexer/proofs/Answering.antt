-- What is answered rightly is the one right answer.
use Rattle.std.proofs.Common.{◌≡◌, ℕ, List, Ok, Err, inl, inr, ◌⊎◌, IfOk, IfErr, subst}
use Rattle.std.specs.declared.result.Result.{Result}
use Rattle.std.specs.declared.vec.Vec.{Vec}
use Rattle.std.specs.declared.alloc.Global.{Global}
use Rattle.lt_lexer.specs.Tokenization.{IsTokenization, IsRefusal}
use Rattle.lt_lexer.specs.Source.{AreReadAs, TextIsReadAs, AnswersTokens, AnswersRefusal}
use Rattle.lt_lexer.specs.declared.lexeme.Lexeme.{Lexeme}
use Rattle.lt_lexer.specs.declared.token.Token.{Token}
use Rattle.lt_lexer.specs.declared.refusal.LexRefusal.{LexRefusal}
use Rattle.lt_lexer.specs.declared.refusal.LexRefusal.TheVariants.{Memory}
use Rattle.lt_lexer.proofs.Divisions.{tokenization_one, refusal_one, tokens_or_refusal}

abbrev Refuses : List ℕ → LexRefusal → Type 0
Refuses text refusal = (refusal ≡ Memory) ⊎ IsRefusal text refusal

-- the tokens of the text are answered
pub answers_tokens : (text : List ℕ) (result : Result (Vec Lexeme Global) LexRefusal) → IfOk result (λ v. TextIsReadAs text v.items) → IfErr result (Refuses text) → (tokens : List Token) → IsTokenization text tokens → AnswersTokens text tokens result
answers_tokens text (Ok v) found refused tokens h = subst (λ ts. AreReadAs text ts v.items) (tokenization_one text found.0 tokens found.1 h) found.2
answers_tokens text (Err r) found (inl memory) tokens h = memory
answers_tokens text (Err r) found (inr refused) tokens h = absurd (tokens_or_refusal text tokens r h refused)

-- its refusal is
pub answers_refusal : (text : List ℕ) (result : Result (Vec Lexeme Global) LexRefusal) → IfOk result (λ v. TextIsReadAs text v.items) → IfErr result (Refuses text) → (refusal : LexRefusal) → IsRefusal text refusal → AnswersRefusal refusal result
answers_refusal text (Ok v) found refused refusal h = tokens_or_refusal text found.0 refusal found.1 h
answers_refusal text (Err r) found (inl memory) refusal h = inr memory
answers_refusal text (Err r) found (inr refused) refusal h = inl (refusal_one text r refusal refused h)
