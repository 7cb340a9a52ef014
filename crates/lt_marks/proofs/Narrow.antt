-- Choices by weight have few parts.
use Rattle.std.proofs.Common.{◌≡◌, ◌≤◌, ℕ, zero, suc, Bool, true, false, nat_eq, if◌then◌else◌, List, [], ◌∷◌, length, refl, ap, sym, subst, arith}
use Rattle.std.specs.Prelude.{slice_index_or}
use Rattle.lt_num.specs.declared.kind.Kind.{Kind}
use Rattle.lt_num.specs.declared.value.Value.{Value}
use Rattle.lt_term.specs.declared.last.Last.{Last}
use Rattle.lt_term.specs.Next.{followed_by, beside, asserting, with_scope, catching, trying}
use Rattle.lt_term.specs.Offers.{TermLeaf, TermTree, in_seq, in_turn, joined, in_par, in_assert, in_exist, in_catch, in_try, offers_of, offers_of_each, start_of}
use Rattle.lt_term.specs.Process.{Process, eps, dead, con, raise, seq, loop, count, any, pri, par, assert, exist, catch, try, Choices, no_choice, choice}
use Rattle.lt_term.specs.Subterms.{alternatives}
use Rattle.lt_term.specs.Tree.{Lasts, vanish, nothing, raised, go, Weight, leaf, ordered, weighted, Branches, no_branch, branch, weights_of, with_leaves, branches_with_leaves, with_local, branches_with_local}
use Rattle.lt_marks.specs.Marks.{con_at, seq_at, loop_at, count_at, any_at, pri_at, par_at, assert_at, exist_at, catch_at, try_at}
use Rattle.lt_marks.specs.Narrow.{IsNarrow, AreNarrow, ChoicesStayNarrow}
use Rattle.lt_marks.specs.Path.{at_weighted, at_path, at_branch}
use Rattle.lt_marks.specs.View.{body, choices_of, standing, standing_each}
use Rattle.lt_marks.specs.declared.track.Mark.{Mark}
use Rattle.lt_marks.specs.declared.track.Mark.TheVariants as mark
use Rattle.lt_marks.specs.declared.track.Track.{Track}
use Rattle.lt_marks.specs.declared.track.Track.TheVariants.{Eps, Dead, Con, Raise, Seq', Loop', Count', Any', Pri', Par', Assert', Exist', Catch', Try'}
use Rattle.lt_marks.specs.declared.track.Parts.{Parts}
use Rattle.lt_marks.specs.declared.track.Parts.TheVariants.{End, Part'}

-- Trees.

abbrev mutual
  Narrow : TermTree ℕ → Type 0
  Narrow (leaf l) = Unit {0}
  Narrow (ordered a b) = Narrow a × Narrow b
  Narrow (weighted ls bs) = (length (weights_of bs) ≤ 64) × EachNarrow bs

  EachNarrow : Branches ℕ (Process ℕ) → Type 0
  EachNarrow no_branch = Unit {0}
  EachNarrow (branch w t bs) = Narrow t × EachNarrow bs

module _ (f : TermLeaf ℕ → TermTree ℕ) where
  same_weights : (bs : Branches ℕ (Process ℕ)) → weights_of (branches_with_leaves f bs) ≡ weights_of bs
  same_weights no_branch = refl
  same_weights (branch w t bs) = ap (λ ws. w ∷ ws) (same_weights bs)

  module _ (e : (l : TermLeaf ℕ) → Narrow (f l)) where
    mutual
      leaves_narrow : (t : TermTree ℕ) → Narrow t → Narrow (with_leaves f t)
      leaves_narrow (leaf l) h = e l
      leaves_narrow (ordered a b) h = (leaves_narrow a h.0, leaves_narrow b h.1)
      leaves_narrow (weighted ls bs) h = (subst (λ ws. length ws ≤ 64) (sym (same_weights bs)) h.0, each_leaves_narrow bs h.1)

      each_leaves_narrow : (bs : Branches ℕ (Process ℕ)) → EachNarrow bs → EachNarrow (branches_with_leaves f bs)
      each_leaves_narrow no_branch h = tt
      each_leaves_narrow (branch w t bs) h = (leaves_narrow t h.0, each_leaves_narrow bs h.1)

module _ (x : ℕ × Last) where
  local_weights : (bs : Branches ℕ (Process ℕ)) → weights_of (branches_with_local x bs) ≡ weights_of bs
  local_weights no_branch = refl
  local_weights (branch w t bs) = ap (λ ws. w ∷ ws) (local_weights bs)

  mutual
    local_narrow : (t : TermTree ℕ) → Narrow t → Narrow (with_local x t)
    local_narrow (leaf l) h = tt
    local_narrow (ordered a b) h = (local_narrow a h.0, local_narrow b h.1)
    local_narrow (weighted ls bs) h = (subst (λ ws. length ws ≤ 64) (sym (local_weights bs)) h.0, each_local_narrow bs h.1)

    each_local_narrow : (bs : Branches ℕ (Process ℕ)) → EachNarrow bs → EachNarrow (branches_with_local x bs)
    each_local_narrow no_branch h = tt
    each_local_narrow (branch w t bs) h = (local_narrow t h.0, each_local_narrow bs h.1)

-- Leaves.

seq_leaf : (b : Process ℕ) (s : TermTree ℕ) → Narrow s → (l : TermLeaf ℕ) → Narrow (in_seq b s l)
seq_leaf b s h vanish = h
seq_leaf b s h nothing = tt
seq_leaf b s h (raised z) = tt
seq_leaf b s h (go cs ls n) = tt

joined_leaf : (cs : List ℕ) (ls : Lasts) (n : Process ℕ) (l : TermLeaf ℕ) → Narrow (joined cs ls n l)
joined_leaf cs ls n vanish = tt
joined_leaf cs ls n nothing = tt
joined_leaf cs ls n (raised z) = tt
joined_leaf cs ls n (go ds ms m) = tt

par_leaf : (s : TermTree ℕ) → Narrow s → (l : TermLeaf ℕ) → Narrow (in_par s l)
par_leaf s h vanish = h
par_leaf s h nothing = tt
par_leaf s h (raised z) = tt
par_leaf s h (go cs ls n) = leaves_narrow (joined cs ls n) (joined_leaf cs ls n) s h

assert_leaf : (c : ℕ) (l : TermLeaf ℕ) → Narrow (in_assert c l)
assert_leaf c vanish = tt
assert_leaf c nothing = tt
assert_leaf c (raised z) = tt
assert_leaf c (go cs ls n) = tt

exist_leaf : (start : Value) (x : ℕ) (v : Last) (l : TermLeaf ℕ) → Narrow (in_exist start x v l)
exist_leaf start x v vanish = tt
exist_leaf start x v nothing = tt
exist_leaf start x v (raised z) = tt
exist_leaf start x v (go cs ls n) = tt

raised_by : (y : ℕ) (b : Bool) (s : TermTree ℕ) → Narrow s → Narrow (if b then s else leaf (raised y))
raised_by y true s p = p
raised_by y false s p = tt

catch_leaf : (z : ℕ) (b : Process ℕ) (s : TermTree ℕ) → Narrow s → (l : TermLeaf ℕ) → Narrow (in_catch z b s l)
catch_leaf z b s h vanish = tt
catch_leaf z b s h nothing = tt
catch_leaf z b s h (raised y) = raised_by y (nat_eq y z) s h
catch_leaf z b s h (go cs ls n) = tt

try_leaf : (b : Process ℕ) (l : TermLeaf ℕ) → Narrow (in_try b l)
try_leaf b vanish = tt
try_leaf b nothing = tt
try_leaf b (raised z) = tt
try_leaf b (go cs ls n) = tt

-- Terms.

module _ (kinds : List Kind) where
  as_many : (cs : Choices ℕ) → length (weights_of (offers_of_each kinds cs)) ≡ alternatives cs
  as_many no_choice = refl
  as_many (choice w t cs) = ap suc (as_many cs)

  mutual
    offers_narrow : (p : Process ℕ) → IsNarrow p → Narrow (offers_of kinds p)
    offers_narrow eps h = tt
    offers_narrow dead h = tt
    offers_narrow (con c) h = tt
    offers_narrow (raise z) h = tt
    offers_narrow (seq a b) h = leaves_narrow (in_seq b (offers_of kinds b)) (seq_leaf b (offers_of kinds b) (offers_narrow b h.1)) (offers_of kinds a) (offers_narrow a h.0)
    offers_narrow (loop t) h = (leaves_narrow (in_turn (loop t)) (seq_leaf (loop t) (leaf nothing) tt) (offers_of kinds t) (offers_narrow t h), tt)
    offers_narrow (count i done t) h =
        let two : 2 ≤ 64 = omega arith in
        (two, (leaves_narrow (in_turn (count i (suc done) t)) (seq_leaf (count i (suc done) t) (leaf nothing) tt) (offers_of kinds t) (offers_narrow t h), (tt, tt)))
    offers_narrow (any cs) h = (let e = as_many cs in omega (arith, e, h.0), each_offers_narrow cs h.1)
    offers_narrow (pri a b) h = (offers_narrow a h.0, offers_narrow b h.1)
    offers_narrow (par a b) h = leaves_narrow (in_par (offers_of kinds b)) (par_leaf (offers_of kinds b) (offers_narrow b h.1)) (offers_of kinds a) (offers_narrow a h.0)
    offers_narrow (assert c t) h = leaves_narrow (in_assert c) (assert_leaf c) (offers_of kinds t) (offers_narrow t h)
    offers_narrow (exist x v t) h =
        leaves_narrow (in_exist (start_of kinds x) x v) (exist_leaf (start_of kinds x) x v) (with_local (x, v) (offers_of kinds t)) (local_narrow (x, v) (offers_of kinds t) (offers_narrow t h))
    offers_narrow (catch z t b) h = leaves_narrow (in_catch z b (offers_of kinds b)) (catch_leaf z b (offers_of kinds b) (offers_narrow b h.1)) (offers_of kinds t) (offers_narrow t h.0)
    offers_narrow (try t b) h = (leaves_narrow (in_try b) (try_leaf b) (offers_of kinds t) (offers_narrow t h.0), offers_narrow b h.1)

    each_offers_narrow : (cs : Choices ℕ) → AreNarrow cs → EachNarrow (offers_of_each kinds cs)
    each_offers_narrow no_choice h = tt
    each_offers_narrow (choice w t cs) h = (offers_narrow t h.0, each_offers_narrow cs h.1)

-- Paths.

module _ (ls : Lasts) (ws : List (Weight ℕ)) where
  mutual
    narrow_at : (t : TermTree ℕ) (ks : List ℕ) → Narrow t → at_path t ks ≡ at_weighted ls ws → length ws ≤ 64
    narrow_at (leaf m) ks h e = absurd (cc)
    narrow_at (ordered a b) [] h e = absurd (cc)
    narrow_at (ordered a b) (zero ∷ ks) h e = narrow_at a ks h.0 e
    narrow_at (ordered a b) (suc k ∷ ks) h e = narrow_at b ks h.1 e
    narrow_at (weighted ms bs) [] h e = let f : weights_of bs ≡ ws = cc in subst (λ vs. length vs ≤ 64) f h.0
    narrow_at (weighted ms bs) (k ∷ ks) h e = narrow_in bs k ks h.1 e

    narrow_in : (bs : Branches ℕ (Process ℕ)) (k : ℕ) (ks : List ℕ) → EachNarrow bs → at_branch bs k ks ≡ at_weighted ls ws → length ws ≤ 64
    narrow_in no_branch k ks h e = absurd (cc)
    narrow_in (branch w t bs) zero ks h e = narrow_at t ks h.0 e
    narrow_in (branch w t bs) (suc k) ks h e = narrow_in bs k ks h.1 e

-- Marks.

followed : (x b : Process ℕ) → IsNarrow x → IsNarrow b → IsNarrow (followed_by x b)
followed eps b h k = k
followed x b h k = (h, k)

besides : (x y : Process ℕ) → IsNarrow x → IsNarrow y → IsNarrow (beside x y)
besides eps y h k = k
besides x eps h k = h
besides x y h k = (h, k)

asserted : (c : ℕ) (x : Process ℕ) → IsNarrow x → IsNarrow (asserting c x)
asserted c eps k = tt
asserted c x k = k

scoped : (i : ℕ) (v : Last) (x : Process ℕ) → IsNarrow x → IsNarrow (with_scope i v x)
scoped i v eps k = tt
scoped i v x k = k

caught : (z : ℕ) (x u : Process ℕ) → IsNarrow x → IsNarrow u → IsNarrow (catching z x u)
caught z eps u k m = tt
caught z x u k m = (k, m)

tried : (x u : Process ℕ) → IsNarrow x → IsNarrow u → IsNarrow (trying x u)
tried eps u k m = tt
tried x u k m = (k, m)

con_narrow : (m : Mark) (c : ℕ) → IsNarrow (con_at m c)
con_narrow mark.Over c = tt
con_narrow m c = tt

seq_narrow : (m : Mark) (a b x y : Process ℕ) → IsNarrow a → IsNarrow b → IsNarrow x → IsNarrow y → IsNarrow (seq_at m a b x y)
seq_narrow mark.Inside a b x y p q r s = followed x b r q
seq_narrow mark.Second a b x y p q r s = s
seq_narrow m a b x y p q r s = (p, q)

loop_narrow : (m : Mark) (t x : Process ℕ) → IsNarrow t → IsNarrow x → IsNarrow (loop_at m t x)
loop_narrow mark.Inside t x p r = followed x (loop t) r p
loop_narrow m t x p r = p

count_narrow : (m : Mark) (i : ℕ) (t x : Process ℕ) → IsNarrow t → IsNarrow x → IsNarrow (count_at m i t x)
count_narrow (mark.Counted d) i t x p r = followed x (count i d t) r p
count_narrow m i t x p r = p

pri_narrow : (m : Mark) (a b x y : Process ℕ) → IsNarrow a → IsNarrow b → IsNarrow x → IsNarrow y → IsNarrow (pri_at m a b x y)
pri_narrow mark.Inside a b x y p q r s = r
pri_narrow mark.Second a b x y p q r s = s
pri_narrow m a b x y p q r s = (p, q)

par_narrow : (m : Mark) (a b x y : Process ℕ) → IsNarrow a → IsNarrow b → IsNarrow x → IsNarrow y → IsNarrow (par_at m a b x y)
par_narrow mark.Inside a b x y p q r s = r
par_narrow mark.Second a b x y p q r s = s
par_narrow mark.Both a b x y p q r s = besides x y r s
par_narrow m a b x y p q r s = (p, q)

assert_narrow : (m : Mark) (c : ℕ) (t x : Process ℕ) → IsNarrow t → IsNarrow x → IsNarrow (assert_at m c t x)
assert_narrow mark.Inside c t x p r = asserted c x r
assert_narrow m c t x p r = p

exist_narrow : (m : Mark) (i : ℕ) (t x : Process ℕ) → IsNarrow t → IsNarrow x → IsNarrow (exist_at m i t x)
exist_narrow (mark.Scoped v) i t x p r = scoped i v x r
exist_narrow m i t x p r = p

catch_narrow : (m : Mark) (z : ℕ) (t u x y : Process ℕ) → IsNarrow t → IsNarrow u → IsNarrow x → IsNarrow y → IsNarrow (catch_at m z t u x y)
catch_narrow mark.Inside z t u x y p q r s = caught z x u r q
catch_narrow mark.Second z t u x y p q r s = s
catch_narrow m z t u x y p q r s = (p, q)

try_narrow : (m : Mark) (t u x y : Process ℕ) → IsNarrow t → IsNarrow u → IsNarrow x → IsNarrow y → IsNarrow (try_at m t u x y)
try_narrow mark.Inside t u x y p q r s = tried x u r q
try_narrow mark.Second t u x y p q r s = s
try_narrow m t u x y p q r s = (p, q)

any_narrow : (m : Mark) (cs : Choices ℕ) (xs : List (Process ℕ)) → IsNarrow (any cs) → ((k : ℕ) → IsNarrow (slice_index_or xs k dead)) → IsNarrow (any_at m cs xs)
any_narrow (mark.Chosen k) cs xs h f = f k
any_narrow m cs xs h f = h

mutual
  standing_narrow : (t : Track) → IsNarrow (body t) → IsNarrow (standing t)
  standing_narrow Eps h = h
  standing_narrow Dead h = h
  standing_narrow (Con m c) h = con_narrow m.at c
  standing_narrow (Raise z) h = h
  standing_narrow (Seq' m p a q b) h = seq_narrow m.at (body a) (body b) (standing a) (standing b) h.0 h.1 (standing_narrow a h.0) (standing_narrow b h.1)
  standing_narrow (Loop' m p t) h = loop_narrow m.at (body t) (standing t) h (standing_narrow t h)
  standing_narrow (Count' m i p t) h = count_narrow m.at i (body t) (standing t) h (standing_narrow t h)
  standing_narrow (Any' m p ps) h = any_narrow m.at (choices_of ps) (standing_each ps) h (λ k. part_narrow ps k h.1)
  standing_narrow (Pri' m p a q b) h = pri_narrow m.at (body a) (body b) (standing a) (standing b) h.0 h.1 (standing_narrow a h.0) (standing_narrow b h.1)
  standing_narrow (Par' m p a q b) h = par_narrow m.at (body a) (body b) (standing a) (standing b) h.0 h.1 (standing_narrow a h.0) (standing_narrow b h.1)
  standing_narrow (Assert' m c p t) h = assert_narrow m.at c (body t) (standing t) h (standing_narrow t h)
  standing_narrow (Exist' m x p t) h = exist_narrow m.at x (body t) (standing t) h (standing_narrow t h)
  standing_narrow (Catch' m z p t q u) h = catch_narrow m.at z (body t) (body u) (standing t) (standing u) h.0 h.1 (standing_narrow t h.0) (standing_narrow u h.1)
  standing_narrow (Try' m p t q u) h = try_narrow m.at (body t) (body u) (standing t) (standing u) h.0 h.1 (standing_narrow t h.0) (standing_narrow u h.1)

  part_narrow : (ps : Parts) (k : ℕ) → AreNarrow (choices_of ps) → IsNarrow (slice_index_or (standing_each ps) k dead)
  part_narrow End k h = tt
  part_narrow (Part' w p t q ps) zero h = standing_narrow t h.0
  part_narrow (Part' w p t q ps) (suc k) h = part_narrow ps k h.1

pub choices_stay_narrow : ChoicesStayNarrow
choices_stay_narrow kinds t h path ls ws e = narrow_at ls ws (offers_of kinds (standing t)) path (offers_narrow kinds (standing t) (standing_narrow t h)) e
