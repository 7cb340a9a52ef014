-- How deep terms and expressions are: one without parts is 1 deep.
use Rattle.std.specs.Prelude.{ℕ, suc, max}
use Rattle.lt_formula.specs.Expression as e
use Rattle.lt_formula.specs.Expression.{Expression}
use Rattle.lt_term.specs.Process.{Process, eps, dead, con, raise, seq, loop, count, any, pri, par, assert, exist, catch, try, Choices, no_choice, choice}

-- how deep the terms in a term stand in one another
abbrev mutual
  pub term_depth : {C : Type 0} → Process C → ℕ
  term_depth eps = 1
  term_depth dead = 1
  term_depth (con c) = 1
  term_depth (raise z) = 1
  term_depth (seq a b) = suc (max (term_depth a) (term_depth b))
  term_depth (loop t) = suc (term_depth t)
  term_depth (count i done t) = suc (term_depth t)
  term_depth (any cs) = suc (choices_depth cs)
  term_depth (pri a b) = suc (max (term_depth a) (term_depth b))
  term_depth (par a b) = suc (max (term_depth a) (term_depth b))
  term_depth (assert c t) = suc (term_depth t)
  term_depth (exist x v t) = suc (term_depth t)
  term_depth (catch z t h) = suc (max (term_depth t) (term_depth h))
  term_depth (try t h) = suc (max (term_depth t) (term_depth h))

  -- how deep the deepest one to choose is
  pub choices_depth : {C : Type 0} → Choices C → ℕ
  choices_depth no_choice = 0
  choices_depth (choice w t cs) = max (term_depth t) (choices_depth cs)

-- how deep the parts of an expression stand in one another
abbrev pub expression_depth : Expression → ℕ
expression_depth (e.constant k v) = 1
expression_depth (e.variable r i) = 1
expression_depth (e.previous r i) = 1
expression_depth (e.unary op d) = suc (expression_depth d)
expression_depth (e.binary op d f) = suc (max (expression_depth d) (expression_depth f))
expression_depth (e.choice c d f) = suc (max (expression_depth c) (max (expression_depth d) (expression_depth f)))
