use Rattle.std.proofs.Common.{◌≡◌, Bool, of_z, to_z, subst, arith}
use Rattle.std.specs.Int.{w128}
use Rattle.std.proofs.lemmas.Int.{ints}
use Rattle.lt_bounds.proofs.Public.{narrower_more}
use Rattle.lt_formula.specs.Box.{IsInBox}
use Rattle.lt_space.specs.Evaluated.{Where}
use Rattle.lt_propagation.proofs.Boxes.{narrower_here}
use Rattle.lt_propagation.proofs.dividing.divide.Goals as goal

pub returns-then-not-is_divisible-clause-keeps : goal.returns-then-not-is_divisible-clause-keeps
returns-then-not-is_divisible-clause-keeps c = λ values p h.
    let constant : to_z w128 (of_z w128 c.args.constant) ≡ c.args.constant = omega (arith, ints) in
    let divides = (rw constant at c.is_divisible.ensures) values p h in
    absurd (cc (divides, c.if-not-is_divisible.true))

pub returns-then-not-is_divisible-clause-narrower : goal.returns-then-not-is_divisible-clause-narrower
returns-then-not-is_divisible-clause-narrower c = narrower_here c.args.ranges.now c.requires.domains

pub returns-then-open-lt2-clause-narrower : goal.returns-then-open-lt2-clause-narrower
returns-then-open-lt2-clause-narrower c = narrower_here c.args.ranges.now c.requires.domains

pub returns-then-open-gt-MOST_OPEN-clause-narrower : goal.returns-then-open-gt-MOST_OPEN-clause-narrower
returns-then-open-gt-MOST_OPEN-clause-narrower c = narrower_here c.args.ranges.now c.requires.domains

pub loop-term-init : goal.loop-term-init
loop-term-init c = record {
  left = λ values p h. p;
  narrower = narrower_here c.args.ranges.now c.requires.domains;
  domains = c.requires.domains;
}

pub returns-then-not-divide_others-clause-keeps : goal.returns-then-not-divide_others-clause-keeps
returns-then-not-divide_others-clause-keeps c = λ values p h.
    let constant : to_z w128 (of_z w128 c.args.constant) ≡ c.args.constant = omega (arith, ints) in
    let left = (rw constant at c.loop-term.invariant.left) values p h in
    let kept = (rw constant at c.divide_others.ensures.keeps) values left h in
    subst (λ (b : Bool). Where b (IsInBox c.divide_others.new.ranges values)) c.if-not-divide_others.true kept

pub returns-then-not-divide_others-clause-narrower : goal.returns-then-not-divide_others-clause-narrower
returns-then-not-divide_others-clause-narrower c = narrower_more c.args.ranges.now c.loop-term.ranges c.divide_others.new.ranges c.loop-term.invariant.narrower c.divide_others.ensures.narrower

pub loop-term-preserved : goal.loop-term-preserved
loop-term-preserved c = record {
  left = λ values p h. subst (λ (b : Bool). Where b (IsInBox c.divide_others.new.ranges values)) c.if-not-divide_others.false (c.divide_others.ensures.keeps values (c.loop-term.invariant.left values p h) h);
  narrower = narrower_more c.args.ranges.now c.loop-term.ranges c.divide_others.new.ranges c.loop-term.invariant.narrower c.divide_others.ensures.narrower;
  domains = c.divide_others.ensures.domains;
}

pub returns-clause-keeps : goal.returns-clause-keeps
returns-clause-keeps c =
    let constant : to_z w128 (of_z w128 c.args.constant) ≡ c.args.constant = omega (arith, ints) in
    rw constant at c.loop-term.invariant.left
