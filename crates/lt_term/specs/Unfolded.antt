-- The tree of a part of a term under the rules of the terms round it.
use Rattle.std.specs.Prelude.{ℕ, zero, suc, List, [], ◌∷◌, ◌++◌}
use Rattle.lt_num.specs.declared.kind.Kind.{Kind}
use Rattle.lt_term.specs.declared.last.Last.{Last}
use Rattle.lt_term.specs.Next.{followed_by, beside, asserting, with_scope, catching, trying, kept}
use Rattle.lt_term.specs.Offers.{TermLeaf, TermTree, in_seq, in_turn, joined, in_par, in_assert, in_exist, in_catch, in_try, offers_of, start_of}
use Rattle.lt_term.specs.Process.{Process, eps}
use Rattle.lt_term.specs.Tree.{Lasts, Branches, no_branch, branch, go, leaf, nothing, with_leaves, with_local}

-- One instant: the constraints that hold in it, the locals in scope, and what comes next.
pub record Instant (C : Type 0) : Type 0 where
  pub constraints : List C
  pub locals : Lasts
  pub next : Process C

-- What a term makes of the leaves of one of its parts.
pub data Rule (C : Type 0) : Type 0 where
  -- a sequence, with its second part
  by_seq : Process C → Rule C
  -- a loop, as it begins anew
  by_turn : Process C → Rule C
  -- two sides at once, with the second one
  by_par : Process C → Rule C
  -- two sides at once, with an instant of the first one
  by_joined : Instant C → Rule C
  -- a constraint
  by_assert : C → Rule C
  -- a local variable, and the value that it had
  by_exist : ℕ → Last → Rule C
  -- an exception, and its handler
  by_catch : ℕ → Process C → Rule C
  -- another term for where nothing can be done
  by_try : Process C → Rule C

-- what a rule makes of a leaf, a line each
abbrev pub by_rule : {C : Type 0} → List Kind → Rule C → TermLeaf C → TermTree C
by_rule kinds (by_seq b) l = in_seq b (offers_of kinds b) l
by_rule kinds (by_turn again) l = in_turn again l
by_rule kinds (by_par b) l = in_par (offers_of kinds b) l
by_rule kinds (by_joined i) l = joined i.constraints i.locals i.next l
by_rule kinds (by_assert c) l = in_assert c l
by_rule kinds (by_exist x v) l = in_exist (start_of kinds x) x v l
by_rule kinds (by_catch z h) l = in_catch z h (offers_of kinds h) l
by_rule kinds (by_try h) l = in_try h l

-- the tree of a part, with the local of a rule in scope of its weights
abbrev pub scoped_by : {C : Type 0} → Rule C → TermTree C → TermTree C
scoped_by (by_exist x v) t = with_local (x, v) t
scoped_by r t = t

-- a tree under rules, the innermost of which stands first
abbrev pub under : {C : Type 0} → List Kind → List (Rule C) → TermTree C → TermTree C
under kinds [] t = t
under kinds (r ∷ rs) t = under kinds rs (with_leaves (by_rule kinds r) (scoped_by r t))

-- the parts of a choice of terms
abbrev pub TermBranches : Type 0 → Type 0
TermBranches C = Branches C (Process C)

-- the parts of a choice, each under rules
abbrev pub each_under : {C : Type 0} → List Kind → List (Rule C) → TermBranches C → TermBranches C
each_under kinds rs no_branch = no_branch
each_under kinds rs (branch w t bs) = branch w (under kinds rs t) (each_under kinds rs bs)

-- the tree of a part of a choice, by number; beyond the last one, any
abbrev pub branch_at : {C : Type 0} → TermBranches C → ℕ → TermTree C
branch_at no_branch n = leaf nothing
branch_at (branch w t bs) zero = t
branch_at (branch w t bs) (suc n) = branch_at bs n

-- locals, and before them that of a rule
abbrev pub with_local_of : {C : Type 0} → Rule C → Lasts → Lasts
with_local_of (by_exist x v) ls = (x, v) ∷ ls
with_local_of r ls = ls

-- locals, and before them those of rules, the outermost first
abbrev pub in_scope : {C : Type 0} → List (Rule C) → Lasts → Lasts
in_scope [] ls = ls
in_scope (r ∷ rs) ls = in_scope rs (with_local_of r ls)

-- the leaf of an instant
abbrev pub going : {C : Type 0} → Instant C → TermLeaf C
going i = go i.constraints i.locals i.next

-- An instant with something else after it.
abbrev pub then_next : {C : Type 0} → Instant C → Process C → Instant C
then_next i n = record { constraints = i.constraints; locals = i.locals; next = n }

-- What a rule makes of an instant, where it makes one. Two sides at once wait for the second one.
abbrev pub instant_by : {C : Type 0} → List Kind → Rule C → Instant C → Instant C
instant_by kinds (by_seq b) i = then_next i (followed_by i.next b)
instant_by kinds (by_turn again) i = then_next i (followed_by i.next again)
instant_by kinds (by_par b) i = i
instant_by kinds (by_joined f) i = record {
  constraints = f.constraints ++ i.constraints;
  locals = f.locals ++ i.locals;
  next = beside f.next i.next;
}
instant_by kinds (by_assert c) i = record {
  constraints = c ∷ i.constraints;
  locals = i.locals;
  next = asserting c i.next;
}
instant_by kinds (by_exist x v) i = record {
  constraints = i.constraints;
  locals = (x, v) ∷ i.locals;
  next = with_scope x (kept (start_of kinds x) v) i.next;
}
instant_by kinds (by_catch z h) i = then_next i (catching z i.next h)
instant_by kinds (by_try h) i = then_next i (trying i.next h)

-- the instant in which a constraint holds, and after which there is nothing
abbrev pub instant_of : {C : Type 0} → C → Instant C
instant_of c = record { constraints = c ∷ []; locals = []; next = eps }
