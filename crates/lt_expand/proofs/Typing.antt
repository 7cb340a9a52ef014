-- The term of a well typed tree is well typed.
use Rattle.std.proofs.Common.{List}
use Rattle.lt_formula.specs.Kinds.{Kinds}
use Rattle.lt_macros.specs.Expanded.{Exception, Expanded, eps, dead, con, raise, seq, loop, count, any, pri, par, assert, exist, catch, try, Parts, no_part, part}
use Rattle.lt_term.specs.TypedTerm.{AreTypedChoices, IsTypedTerm}
use Rattle.lt_typing_laws.specs.TypedNode.{AreTyped, IsTyped}
use Rattle.lt_expand.specs.Scenes.{choices_of, process_of}

mutual
  pub term_typed : (kinds : Kinds) (zs : List Exception) (x : Expanded) → IsTyped kinds x → IsTypedTerm kinds (process_of zs x)
  term_typed kinds zs eps h = tt
  term_typed kinds zs dead h = tt
  term_typed kinds zs (con e) h = h
  term_typed kinds zs (raise z) h = tt
  term_typed kinds zs (seq x y) h = (term_typed kinds zs x h.0, term_typed kinds zs y h.1)
  term_typed kinds zs (loop x) h = term_typed kinds zs x h
  term_typed kinds zs (count n b x) h = term_typed kinds zs x h.1
  term_typed kinds zs (any ps) h = choices_typed kinds zs ps h
  term_typed kinds zs (pri x y) h = (term_typed kinds zs x h.0, term_typed kinds zs y h.1)
  term_typed kinds zs (par x y) h = (term_typed kinds zs x h.0, term_typed kinds zs y h.1)
  term_typed kinds zs (assert e x) h = (h.0, term_typed kinds zs x h.1)
  term_typed kinds zs (exist n d x) h = term_typed kinds zs x h.2
  term_typed kinds zs (catch z x y) h = (term_typed kinds zs x h.0, term_typed kinds zs y h.1)
  term_typed kinds zs (try x y) h = (term_typed kinds zs x h.0, term_typed kinds zs y h.1)

  choices_typed : (kinds : Kinds) (zs : List Exception) (ps : Parts) → AreTyped kinds ps → AreTypedChoices kinds (choices_of zs ps)
  choices_typed kinds zs no_part h = tt
  choices_typed kinds zs (part w x ps) h = (h.0, term_typed kinds zs x h.1, choices_typed kinds zs ps h.2)
