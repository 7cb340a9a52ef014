-- What simplified terms offer.
use Rattle.std.proofs.Common.{◌≡◌, ◌<◌, ℕ, List, true, false, length, refl, ap, sym, ◌∙◌}
use Rattle.std.specs.Prelude.{slice_index_or}
use Rattle.std.proofs.lemmas.List.{get_or-map}
use Rattle.lt_num.specs.declared.kind.Kind.{Kind}
use Rattle.lt_num.specs.declared.kind.Kind.TheVariants as kind
use Rattle.lt_term.specs.declared.last.Last.{Last}
use Rattle.lt_term.specs.declared.variable.Var.{Var}
use Rattle.lt_term.specs.Counted.{IsDoneTo}
use Rattle.lt_term.specs.Process.{Process, eps}
use Rattle.lt_term.specs.Tree.{Leaf, vanish, nothing, raised, go, Tree, leaf, ordered, weighted, Branches, no_branch, branch, with_leaves, branches_with_leaves, with_local}
use Rattle.lt_term.specs.Next.{followed_by, beside, asserting, with_scope, catching, trying}
use Rattle.lt_term.specs.Offers.{TermLeaf, start_of, in_seq, in_par, in_assert, in_exist, in_catch, in_try, offers_of}
use Rattle.lt_term.specs.View.{kinds_of}
use Rattle.lt_marks.specs.Over.{is_over}

-- the kind of a local
pub kind_at : (locals : List Var) (x : ℕ) (v : Var) → x < length locals → slice_index_or (kinds_of locals) x kind.Bool ≡ (slice_index_or locals x v).kind
kind_at locals x v l = get_or-map (λ u. u.kind) locals x v kind.Bool l

-- Trees.

-- a tree whose leaves are replaced by themselves
module _ {C N : Type 0} (f : Leaf C N → Tree C N) (e : (l : Leaf C N) → f l ≡ leaf l) where
  mutual
    same_leaves : (t : Tree C N) → with_leaves f t ≡ t
    same_leaves (leaf l) = e l
    same_leaves (ordered a b) = λ i. ordered (same_leaves a i) (same_leaves b i)
    same_leaves (weighted ls bs) = λ i. weighted ls (same_branches bs i)

    same_branches : (bs : Branches C N) → branches_with_leaves f bs ≡ bs
    same_branches no_branch = refl
    same_branches (branch w t bs) = λ i. branch w (same_leaves t i) (same_branches bs i)

module _ (kinds : List Kind) where
  pub followed_by-offers : {C : Type 0} (a b : Process C) → offers_of kinds (followed_by a b) ≡ with_leaves (in_seq b (offers_of kinds b)) (offers_of kinds a)
  followed_by-offers eps b = refl
  followed_by-offers a b = refl

  beside-none : {C : Type 0} (a : Process C) → beside a eps ≡ a
  beside-none eps = refl
  beside-none a = refl

  par_none-leaf : {C : Type 0} (l : TermLeaf C) → in_par (leaf vanish) l ≡ leaf l
  par_none-leaf vanish = refl
  par_none-leaf nothing = refl
  par_none-leaf (raised z) = refl
  par_none-leaf (go cs ls n) = refl

  pub beside-offers : {C : Type 0} (a b : Process C) → offers_of kinds (beside a b) ≡ with_leaves (in_par (offers_of kinds b)) (offers_of kinds a)
  beside-offers eps b = refl
  beside-offers a eps = ap (offers_of kinds) (beside-none a) ∙ sym (same_leaves (in_par (leaf vanish)) par_none-leaf (offers_of kinds a))
  beside-offers a b = refl

  pub asserting-offers : {C : Type 0} (c : C) (t : Process C) → offers_of kinds (asserting c t) ≡ with_leaves (in_assert c) (offers_of kinds t)
  asserting-offers c eps = refl
  asserting-offers c t = refl

  pub with_scope-offers : {C : Type 0} (x : ℕ) (v : Last) (t : Process C) → offers_of kinds (with_scope x v t) ≡ with_leaves (in_exist (start_of kinds x) x v) (with_local (x, v) (offers_of kinds t))
  with_scope-offers x v eps = refl
  with_scope-offers x v t = refl

  pub catching-offers : {C : Type 0} (z : ℕ) (t h : Process C) → offers_of kinds (catching z t h) ≡ with_leaves (in_catch z h (offers_of kinds h)) (offers_of kinds t)
  catching-offers z eps h = refl
  catching-offers z t h = refl

  -- what is still to be done in a try whose part isn't over
  pub trying-offers : {C : Type 0} (t h : Process C) → is_over t ≡ false → offers_of kinds (trying t h) ≡ ordered (with_leaves (in_try h) (offers_of kinds t)) (offers_of kinds h)
  trying-offers eps h e = absurd (cc)
  trying-offers t h e = refl

pub trying_over : {C : Type 0} (t h : Process C) → is_over t ≡ true → trying t h ≡ eps
trying_over eps h e = refl
trying_over t h e = absurd (cc)

-- How many turns are done in parts.

module _ {C : Type 0} (k : ℕ) where
  pub followed_by-first : (a b : Process C) → IsDoneTo k (followed_by a b) → IsDoneTo k a
  followed_by-first eps b h = tt
  followed_by-first a b h = h.0

  pub followed_by-second : (a b : Process C) → IsDoneTo k (followed_by a b) → IsDoneTo k b
  followed_by-second eps b h = h
  followed_by-second a b h = h.1

  pub beside-first : (a b : Process C) → IsDoneTo k (beside a b) → IsDoneTo k a
  beside-first eps b h = tt
  beside-first a eps h = h
  beside-first a b h = h.0

  pub beside-second : (a b : Process C) → IsDoneTo k (beside a b) → IsDoneTo k b
  beside-second eps b h = h
  beside-second a eps h = tt
  beside-second a b h = h.1

  pub asserting-part : (c : C) (t : Process C) → IsDoneTo k (asserting c t) → IsDoneTo k t
  asserting-part c eps h = tt
  asserting-part c t h = h

  pub with_scope-part : (x : ℕ) (v : Last) (t : Process C) → IsDoneTo k (with_scope x v t) → IsDoneTo k t
  with_scope-part x v eps h = tt
  with_scope-part x v t h = h

  pub catching-part : (z : ℕ) (t u : Process C) → IsDoneTo k (catching z t u) → IsDoneTo k t
  catching-part z eps u h = tt
  catching-part z t u h = h.0

  pub trying-part : (t u : Process C) → IsDoneTo k (trying t u) → IsDoneTo k t
  trying-part eps u h = tt
  trying-part t u h = h.0
