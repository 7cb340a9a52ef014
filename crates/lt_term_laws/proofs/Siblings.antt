-- What is done beside something else.
use Rattle.std.proofs.Common.{refl, ap}
use Rattle.lt_term.specs.Offers.{in_par, offers_of}
use Rattle.lt_term.specs.Tree.{with_leaves}
use Rattle.lt_term_laws.specs.Siblings.{FirstSideIsHeardFirst, PriorityIsJudgedWithSiblings}

pub priority : PriorityIsJudgedWithSiblings
priority kinds a b beside = refl

pub exceptions : FirstSideIsHeardFirst
exceptions kinds z a b h = ap (with_leaves (in_par (offers_of kinds b))) h

pub ruleset siblings = (priority, exceptions)
