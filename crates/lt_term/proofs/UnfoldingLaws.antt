-- Trees under rules.
use Rattle.std.proofs.Common.{◌≡◌, ℕ, List, [], ◌∷◌, refl, ap, ◌∙◌}
use Rattle.lt_num.specs.declared.kind.Kind.{Kind}
use Rattle.lt_term.specs.declared.last.Last.{Last}
use Rattle.lt_term.specs.Offers.{TermLeaf, TermTree, in_turn, offers_of}
use Rattle.lt_term.specs.Process.{Process, seq, par, assert, exist, catch, try, pri, loop}
use Rattle.lt_term.specs.Tree.{Lasts, vanish, nothing, leaf, ordered, weighted, Branches, no_branch, branch, with_leaves, branches_with_leaves, branches_with_local, weights_of}
use Rattle.lt_term.specs.Unfolded.{Instant, Rule, by_seq, by_turn, by_par, by_joined, by_assert, by_exist, by_catch, by_try, by_rule, each_under, going, in_scope, instant_by, scoped_by, under, with_local_of}

scoped_by-leaf : {C : Type 0} (r : Rule C) (l : TermLeaf C) → scoped_by r (leaf l) ≡ leaf l
scoped_by-leaf (by_exist x v) l = refl
scoped_by-leaf r l = refl

scoped_by-ordered : {C : Type 0} (r : Rule C) (a b : TermTree C) → scoped_by r (ordered a b) ≡ ordered (scoped_by r a) (scoped_by r b)
scoped_by-ordered (by_exist x v) a b = refl
scoped_by-ordered r a b = refl

-- the parts of a choice, with the local of a rule in scope of their weights
abbrev each_scoped : {C : Type 0} → Rule C → Branches C (Process C) → Branches C (Process C)
each_scoped r no_branch = no_branch
each_scoped r (branch w t bs) = branch w (scoped_by r t) (each_scoped r bs)

each_with_local : {C : Type 0} (x : ℕ) (v : Last) (bs : Branches C (Process C)) → branches_with_local (x, v) bs ≡ each_scoped (by_exist x v) bs
each_with_local x v no_branch = refl
each_with_local x v (branch w t bs) = ap (branch w (scoped_by (by_exist x v) t)) (each_with_local x v bs)

module _ {C : Type 0} (r : Rule C) (same : (t : TermTree C) → t ≡ scoped_by r t) where
  each_same : (bs : Branches C (Process C)) → bs ≡ each_scoped r bs
  each_same no_branch = refl
  each_same (branch w t bs) = λ i. branch w (same t i) (each_same bs i)

scoped_by-weighted : {C : Type 0} (r : Rule C) (ls : Lasts) (bs : Branches C (Process C)) → scoped_by r (weighted ls bs) ≡ weighted (with_local_of r ls) (each_scoped r bs)
scoped_by-weighted (by_exist x v) ls bs = ap (weighted ((x, v) ∷ ls)) (each_with_local x v bs)
scoped_by-weighted (by_seq b) ls bs = ap (weighted ls) (each_same (by_seq b) (λ t. refl) bs)
scoped_by-weighted (by_turn b) ls bs = ap (weighted ls) (each_same (by_turn b) (λ t. refl) bs)
scoped_by-weighted (by_par b) ls bs = ap (weighted ls) (each_same (by_par b) (λ t. refl) bs)
scoped_by-weighted (by_joined i) ls bs = ap (weighted ls) (each_same (by_joined i) (λ t. refl) bs)
scoped_by-weighted (by_assert c) ls bs = ap (weighted ls) (each_same (by_assert c) (λ t. refl) bs)
scoped_by-weighted (by_catch z h) ls bs = ap (weighted ls) (each_same (by_catch z h) (λ t. refl) bs)
scoped_by-weighted (by_try h) ls bs = ap (weighted ls) (each_same (by_try h) (λ t. refl) bs)

each_under-more : {C : Type 0} (kinds : List Kind) (r : Rule C) (rs : List (Rule C)) (bs : Branches C (Process C))
    → each_under kinds rs (branches_with_leaves (by_rule kinds r) (each_scoped r bs)) ≡ each_under kinds (r ∷ rs) bs
each_under-more kinds r rs no_branch = refl
each_under-more kinds r rs (branch w t bs) = ap (branch w (under kinds (r ∷ rs) t)) (each_under-more kinds r rs bs)

each_under-none : {C : Type 0} (kinds : List Kind) (bs : Branches C (Process C)) → bs ≡ each_under kinds [] bs
each_under-none kinds no_branch = refl
each_under-none kinds (branch w t bs) = ap (branch w t) (each_under-none kinds bs)

-- a choice by priority under rules
pub under-ordered : {C : Type 0} (kinds : List Kind) (rs : List (Rule C)) (a b : TermTree C) → under kinds rs (ordered a b) ≡ ordered (under kinds rs a) (under kinds rs b)
under-ordered kinds [] a b = refl
under-ordered kinds (r ∷ rs) a b =
    ap (λ t. under kinds rs (with_leaves (by_rule kinds r) t)) (scoped_by-ordered r a b) ∙ under-ordered kinds rs (with_leaves (by_rule kinds r) (scoped_by r a)) (with_leaves (by_rule kinds r) (scoped_by r b))

-- a choice by weight under rules: the locals of their scopes come before its own
pub under-weighted : {C : Type 0} (kinds : List Kind) (rs : List (Rule C)) (ls : Lasts) (bs : Branches C (Process C)) → under kinds rs (weighted ls bs) ≡ weighted (in_scope rs ls) (each_under kinds rs bs)
under-weighted kinds [] ls bs = ap (weighted ls) (each_under-none kinds bs)
under-weighted kinds (r ∷ rs) ls bs =
    ap (λ t. under kinds rs (with_leaves (by_rule kinds r) t)) (scoped_by-weighted r ls bs)
    ∙ under-weighted kinds rs (with_local_of r ls) (branches_with_leaves (by_rule kinds r) (each_scoped r bs))
    ∙ ap (weighted (in_scope (r ∷ rs) ls)) (each_under-more kinds r rs bs)

-- a leaf under rules: the innermost one makes something of it, and the others of that
pub under-leaf : {C : Type 0} (kinds : List Kind) (r : Rule C) (rs : List (Rule C)) (l : TermLeaf C) → under kinds (r ∷ rs) (leaf l) ≡ under kinds rs (by_rule kinds r l)
under-leaf kinds r rs l = ap (λ t. under kinds rs (with_leaves (by_rule kinds r) t)) (scoped_by-leaf r l)

-- the weights of a choice stay under rules
pub weights-each_under : {C : Type 0} (kinds : List Kind) (rs : List (Rule C)) (bs : Branches C (Process C)) → weights_of (each_under kinds rs bs) ≡ weights_of bs
weights-each_under kinds rs no_branch = refl
weights-each_under kinds rs (branch w t bs) = ap (λ ws. w ∷ ws) (weights-each_under kinds rs bs)

-- whether a rule makes an instant of an instant
abbrev pub MakesInstant : {C : Type 0} → Rule C → Type 0
MakesInstant (by_par b) = ⊥
MakesInstant r = Unit {0}

-- what it makes of an instant
pub by_rule-instant : {C : Type 0} (kinds : List Kind) (r : Rule C) (i : Instant C) → MakesInstant r → by_rule kinds r (going i) ≡ leaf (going (instant_by kinds r i))
by_rule-instant kinds (by_par b) i h = absurd h
by_rule-instant kinds (by_seq b) i h = refl
by_rule-instant kinds (by_turn b) i h = refl
by_rule-instant kinds (by_joined f) i h = refl
by_rule-instant kinds (by_assert c) i h = refl
by_rule-instant kinds (by_exist x v) i h = refl
by_rule-instant kinds (by_catch z b) i h = refl
by_rule-instant kinds (by_try b) i h = refl

-- A leaf under its innermost rule, where it is no instant.

pub nothing-stays : {C : Type 0} (kinds : List Kind) (r : Rule C) → by_rule kinds r nothing ≡ leaf nothing
nothing-stays kinds (by_seq b) = refl
nothing-stays kinds (by_turn b) = refl
nothing-stays kinds (by_par b) = refl
nothing-stays kinds (by_joined i) = refl
nothing-stays kinds (by_assert c) = refl
nothing-stays kinds (by_exist x v) = refl
nothing-stays kinds (by_catch z h) = refl
nothing-stays kinds (by_try h) = refl

-- where the first side takes an instant, the second one goes on with it
pub par-goes_on : {C : Type 0} (kinds : List Kind) (b : Process C) (rs : List (Rule C)) (i : Instant C) → under kinds rs (by_rule kinds (by_par b) (going i)) ≡ under kinds (by_joined i ∷ rs) (offers_of kinds b)
par-goes_on kinds b rs i = refl

-- A term goes on with its first part, under one more rule.

pub seq-goes_in : {C : Type 0} (kinds : List Kind) (a b : Process C) (rs : List (Rule C)) → under kinds rs (offers_of kinds (seq a b)) ≡ under kinds (by_seq b ∷ rs) (offers_of kinds a)
seq-goes_in kinds a b rs = refl

pub par-goes_in : {C : Type 0} (kinds : List Kind) (a b : Process C) (rs : List (Rule C)) → under kinds rs (offers_of kinds (par a b)) ≡ under kinds (by_par b ∷ rs) (offers_of kinds a)
par-goes_in kinds a b rs = refl

pub assert-goes_in : {C : Type 0} (kinds : List Kind) (c : C) (a : Process C) (rs : List (Rule C)) → under kinds rs (offers_of kinds (assert c a)) ≡ under kinds (by_assert c ∷ rs) (offers_of kinds a)
assert-goes_in kinds c a rs = refl

pub exist-goes_in : {C : Type 0} (kinds : List Kind) (x : ℕ) (v : Last) (a : Process C) (rs : List (Rule C)) → under kinds rs (offers_of kinds (exist x v a)) ≡ under kinds (by_exist x v ∷ rs) (offers_of kinds a)
exist-goes_in kinds x v a rs = refl

pub catch-goes_in : {C : Type 0} (kinds : List Kind) (z : ℕ) (a h : Process C) (rs : List (Rule C)) → under kinds rs (offers_of kinds (catch z a h)) ≡ under kinds (by_catch z h ∷ rs) (offers_of kinds a)
catch-goes_in kinds z a h rs = refl

-- Terms that are choices.

pub loop-root : {C : Type 0} (kinds : List Kind) (a : Process C) (rs : List (Rule C)) → under kinds rs (offers_of kinds (loop a)) ≡ ordered (under kinds (by_turn (loop a) ∷ rs) (offers_of kinds a)) (under kinds rs (leaf vanish))
loop-root kinds a rs = under-ordered kinds rs (with_leaves (in_turn (loop a)) (offers_of kinds a)) (leaf vanish)

pub pri-root : {C : Type 0} (kinds : List Kind) (a b : Process C) (rs : List (Rule C)) → under kinds rs (offers_of kinds (pri a b)) ≡ ordered (under kinds rs (offers_of kinds a)) (under kinds rs (offers_of kinds b))
pri-root kinds a b rs = under-ordered kinds rs (offers_of kinds a) (offers_of kinds b)

pub try-root : {C : Type 0} (kinds : List Kind) (a h : Process C) (rs : List (Rule C)) → under kinds rs (offers_of kinds (try a h)) ≡ ordered (under kinds (by_try h ∷ rs) (offers_of kinds a)) (under kinds rs (offers_of kinds h))
try-root kinds a h rs = under-ordered kinds rs (under kinds (by_try h ∷ []) (offers_of kinds a)) (offers_of kinds h)
