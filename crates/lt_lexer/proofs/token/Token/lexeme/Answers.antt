use Rattle.std.proofs.Common.{◌≡◌, ℕ, ◌+◌, length, sym, ap, ◌∙◌, arith, subst}
use Rattle.lt_num.specs.Literal.{IsNumber}
use Rattle.lt_ast.specs.declared.span.Span.{Span}
use Rattle.lt_lexer.specs.Source.{token_bytes}
use Rattle.lt_lexer.proofs.Lexemes.{number_letters, sign_letters, token_end}
use Rattle.lt_lexer.proofs.token.Token.lexeme.Goals as goal

pub invariant_of-result : goal.invariant_of-result
invariant_of-result c =
    let end : c.args.self.now.span.start + length (token_bytes c.args.text.now c.args.self.now) ≡ c.args.self.now.span.end = token_end c.args.text.now c.args.self.now c.requires in
    let long : length c.spelling.result.now ≡ length (token_bytes c.args.text.now c.args.self.now) = ap length c.spelling.ensures in
    record {
      number = λ is. subst IsNumber (sym c.spelling.ensures) (number_letters c.args.text.now c.args.self.now c.sign-sign.result c.requires c.sign-sign.ensures is);
      spelled = λ own. c.spelling.ensures ∙ sign_letters c.args.text.now c.args.self.now c.sign-sign.result c.sign-sign.ensures own;
      ends = omega arith;
    }

pub returns : goal.returns
returns c =
    let start = c.args.self.now.span.start in
    let at : ℕ → Span = λ end. record { start = start; end = end } in
    record {
      token = c.requires;
      sign = c.sign-sign.ensures;
      letters = c.spelling.ensures;
      place = ap at (ap (λ l. start + length l) c.spelling.ensures ∙ token_end c.args.text.now c.args.self.now c.requires);
    }
