use Rattle.std.proofs.Common.{rules, arith, ◌≡◌, ◌<◌, ◌^◌, ◌∙◌, ◌++◌, ◌∷◌, [], to_z, of_z, w64, ap, length}
use Rattle.lt_linear.proofs.Spellings.{malformed, no_constant, read, stands_next}
use Rattle.lt_linear.proofs.parsing.read_form.Goals as goal

pub loop-word-smaller : goal.loop-word-smaller
loop-word-smaller c = omega (arith, c.in-Some-first_term.ensures.shorter, ap length c.in-Some.ensures.1)

-- one more term is read
pub loop-word-preserved : goal.loop-word-preserved
loop-word-preserved c =
    let first = c.in-Some-first_term.first in
    let raw : to_z w64 (of_z w64 first.coefficient) ≡ first.coefficient = search rules in
    record {
      stands = stands_next c.args.text.now c.loop-word.rest.now c.in-Some.word.now c.in-Some.behind.now first.rest.now
          c.loop-word.terms.items _ c.loop-word.least _ first.variable first.coefficient
          c.in-Some.ensures.1 (c.in_ok-push.ensures.items ∙ (λ i. c.loop-word.terms.items ++ (first.variable, raw i) ∷ [])) (omega (arith, c.from-least.ensures)) c.loop-word.invariant.stands c.in-Some-first_term.ensures;
      below = let small : first.variable < 2 ^ 32 = search rules in omega (arith, small, c.from-least.ensures);
    }

pub returns-in-Some-read_whole : goal.returns-in-Some-read_whole
returns-in-Some-read_whole c =
    let raw : to_z w64 (of_z w64 c.in-Some-read_whole.constant) ≡ c.in-Some-read_whole.constant = search rules in
    read c.args.text.now c.loop-word.rest.now c.loop-word.terms.items _ c.loop-word.least c.in-Some-read_whole.constant _ c.loop-word.invariant.stands c.loop-word.invariant.below c.in-Some-read_whole.ensures c.from_vec.ensures raw

pub returns-in-None : goal.returns-in-None
returns-in-None c =
    malformed c.args.text.now c.loop-word.rest.now c.loop-word.terms.items c.loop-word.least c.loop-word.invariant.stands
    (no_constant c.loop-word.rest.now c.loop-word.least c.in_default.ensures c.in-None.ensures)
