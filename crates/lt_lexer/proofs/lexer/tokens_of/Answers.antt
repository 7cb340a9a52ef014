use Rattle.std.proofs.Common.{◌<◌, ◌≤◌, length, arith, rules, inr, subst, sym, ap, ◌-◌, refl, List, ℕ, drop, length-drop, ◌∙◌}
use Rattle.std.proofs.lemmas.List.{take_rest}
use Rattle.std.proofs.lemmas.Result.{err_from_is_err_and}
use Rattle.lt_lexer.specs.declared.lexeme.Lexeme.{Lexeme}
use Rattle.lt_lexer.proofs.Progress.{first_of, first-within, first-some, refusal_of}
use Rattle.lt_lexer.proofs.Lexemes.{LexemesSoFar, lexeme_read, blank_read, stands}
use Rattle.lt_lexer.proofs.lexer.tokens_of.Goals as goal
use Rattle.lt_lexer.proofs.lexer.tokens_of.Goals.{in-Some+in_ok-push, in_default}

pub returns-in_err-piece-clause-refused : goal.returns-in_err-piece-clause-refused
returns-in_err-piece-clause-refused c =
    let p = err_from_is_err_and c.from_residual-in_err-piece.result c.from_residual-in_err-piece.ensures.1 in
    rw (p.1, p.2) (inr (refusal_of c.args.text.now c.loop-rest.invariant.read.tokens c.loop-rest.rest.now (length c.args.text.now - length c.loop-rest.rest.now) c.in_err-piece.field-0.0 c.loop-rest.invariant.read.read refl c.in_err-piece.ensures))

pub overflow_add-span : goal.overflow_add-span
overflow_add-span c =
    let within : c.in_ok-piece.piece.len ≤ length c.loop-rest.rest.now = first-within c.loop-rest.rest.now c.in_ok-piece.piece (first_of (length c.args.text.now - length c.loop-rest.rest.now) _ _ c.in_ok-piece.ensures) in
    omega (arith, c.loop-rest.invariant.short)

pub overflow_cast-span-in-Some : goal.overflow_cast-span-in-Some
overflow_cast-span-in-Some c =
    let within : c.in_ok-piece.piece.len ≤ length c.loop-rest.rest.now = first-within c.loop-rest.rest.now c.in_ok-piece.piece (first_of (length c.args.text.now - length c.loop-rest.rest.now) _ _ c.in_ok-piece.ensures) in
    omega (arith, c.loop-rest.invariant.short, c.requires)

pub slice_bounds-rest-count : goal.slice_bounds-rest-count
slice_bounds-rest-count c = first-within c.loop-rest.rest.now c.in_ok-piece.piece (first_of (length c.args.text.now - length c.loop-rest.rest.now) _ _ c.in_ok-piece.ensures)

pub slice_bounds-rest-start : goal.slice_bounds-rest-start
slice_bounds-rest-start c =
    let within : c.in_ok-piece.piece.len ≤ length c.loop-rest.rest.now = first-within c.loop-rest.rest.now c.in_ok-piece.piece (first_of (length c.args.text.now - length c.loop-rest.rest.now) _ _ c.in_ok-piece.ensures) in
    search (rules, within)

pub loop-rest-smaller : goal.loop-rest-smaller
loop-rest-smaller c =
    let first = first_of (length c.args.text.now - length c.loop-rest.rest.now) _ _ c.in_ok-piece.ensures in
    let within : c.in_ok-piece.piece.len ≤ length c.loop-rest.rest.now = first-within c.loop-rest.rest.now c.in_ok-piece.piece first in
    let some : 0 < c.in_ok-piece.piece.len = first-some c.loop-rest.rest.now c.in_ok-piece.piece first in
    omega (arith, ap length (take_rest c.loop-rest.rest.now c.in_ok-piece.piece.len), length-drop c.in_ok-piece.piece.len c.loop-rest.rest.now)

pub loop-rest-preserved : goal.loop-rest-preserved
loop-rest-preserved c =
    let place = length c.args.text.now - length c.loop-rest.rest.now in
    let P : List ℕ → Type 0 = λ l. LexemesSoFar c.args.text.now c.match-piece.tokens.items l in
    let Q : List Lexeme → Type 0 = λ l. LexemesSoFar c.args.text.now l (drop c.in_ok-piece.piece.len c.loop-rest.rest.now) in
    record {
      short = omega (arith, ap length (take_rest c.loop-rest.rest.now c.in_ok-piece.piece.len), length-drop c.in_ok-piece.piece.len c.loop-rest.rest.now, c.loop-rest.invariant.short);
      read = subst P (sym (take_rest c.loop-rest.rest.now c.in_ok-piece.piece.len))
          (elim c.match-piece.branch [
            | in-Some+in_ok-push w ↦ subst Q (sym (ap (λ v. v.items) w.tokens-is ∙ w.in_ok-push.ensures.items))
                (lexeme_read c.args.text.now c.loop-rest.tokens.items c.loop-rest.rest.now c.in_ok-piece.piece w.in-Some.kind place w.lexeme.result c.loop-rest.invariant.read refl c.in_ok-piece.ensures w.in-Some.is w.lexeme.ensures)
            | in_default w ↦ subst Q (sym (ap (λ v. v.items) w.tokens-is))
                (blank_read c.args.text.now c.loop-rest.tokens.items c.loop-rest.rest.now c.in_ok-piece.piece place c.loop-rest.invariant.read refl c.in_ok-piece.ensures w.in_default.is)
          ]);
    }

pub lexeme-requires : goal.lexeme-requires
lexeme-requires c =
    stands c.args.text.now c.loop-rest.invariant.read.tokens c.loop-rest.rest.now c.in_ok-piece.piece c.in-Some.kind (length c.args.text.now - length c.loop-rest.rest.now) c.loop-rest.invariant.read.read refl c.in_ok-piece.ensures c.in-Some.is
