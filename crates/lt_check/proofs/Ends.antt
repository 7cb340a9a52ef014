-- A run may end exactly where the test for its end finds a leaf.
use Rattle.std.proofs.Common.{◌≡◌, ◌<◌, ◌^◌, ◌⊎◌, inl, inr, ℕ, Bool, true, false, ◌&&◌, List, [], ◌∷◌, length, refl, ap, sym, ◌∙◌, subst, arith}
use Rattle.std.specs.Prelude.{◌||◌, nat_lt, not}
use Rattle.std.specs.Bool.{Decides}
use Rattle.std.specs.Cmp.{unsigned_Decides}
use Rattle.std.specs.Cmp.Lexicographic.{pointwise_decides}
use Rattle.lt_formula.specs.Expression.{Expression}
use Rattle.lt_legal.specs.Follows.{MayTake}
use Rattle.lt_legal.specs.LegalRun.{MayEnd, name_of}
use Rattle.lt_legal.specs.Leaves.{Tells}
use Rattle.lt_legal.specs.Walk.{IsTest, has_some, one_has_some}
use Rattle.lt_num.specs.declared.fault.Arith.{Arith}
use Rattle.lt_num.specs.declared.fault.Arith.TheVariants.{DivisionByZero, NegativeWeight, NoPrevious, Overflow}
use Rattle.lt_num.specs.declared.value.Value.{Value}
use Rattle.lt_space.specs.Formula.{Formula}
use Rattle.lt_term.specs.Configuration.{Configuration, kinds_of_all}
use Rattle.lt_term.specs.Evaluated as e
use Rattle.lt_term.specs.Evaluated.{Evaluated, Outlook, Parts, Worth, evaluated}
use Rattle.lt_term.specs.Live.{HasLive, OneHasLive}
use Rattle.lt_term.specs.Offers.{TermTree, offers_of}
use Rattle.lt_term.specs.Process.{Process}
use Rattle.lt_term.specs.Scene.{Scene}
use Rattle.lt_term.specs.Tree.{Lasts, flattened}
use Rattle.lt_trace.specs.declared.recorded.RecordedEnd.TheVariants as recorded
use Rattle.lt_instant.specs.Instant.{Judged, Leaf, is_too_large, worth_in}
use Rattle.lt_instant.specs.Solved.{CanHold}
use Rattle.lt_check.specs.inner.Finding.{found_in}
use Rattle.lt_check.specs.inner.Searches.{is_alive}
use Rattle.lt_check.specs.inner.Some.{is_some_of}
use Rattle.lt_check.specs.inner.Wanted.{Wanted, for_fault, for_normal, for_raise, is_wanted, same_fault, same_name}
use Rattle.lt_check.specs.inner.Members.{Has}
use Rattle.lt_check.proofs.Semantics.{Laws, alive_tells, found_tells, tells_found}

-- ---- what is live

or_either : (a b : Bool) → (a || b) ≡ true → (a ≡ true) ⊎ (b ≡ true)
or_either true b h = inl refl
or_either false b h = inr h

or_first : (a b : Bool) → a ≡ true → (a || b) ≡ true
or_first true b h = refl
or_first false b h = absurd (cc)

or_second : (a b : Bool) → b ≡ true → (a || b) ≡ true
or_second true b h = refl
or_second false b h = h

and_first : (a b : Bool) → (a && b) ≡ true → a ≡ true
and_first true b h = refl
and_first false b h = h

and_second : (a b : Bool) → (a && b) ≡ true → b ≡ true
and_second true b h = h
and_second false b h = absurd (cc)

both : (a b : Bool) → a ≡ true → b ≡ true → (a && b) ≡ true
both true b h k = k
both false b h k = h

over : {P Q R S : Type 0} → (P → R) → (Q → S) → P ⊎ Q → R ⊎ S
over f g (inl h) = inl (f h)
over f g (inr h) = inr (g h)

from : {P Q R : Type 0} → (P → R) → (Q → R) → P ⊎ Q → R
from f g (inl h) = f h
from f g (inr h) = g h

positive_is : (w : ℕ) → nat_lt 0 w ≡ true → 0 < w
positive_is w h = grind (arith, h)

is_positive : (w : ℕ) → 0 < w → nat_lt 0 w ≡ true
is_positive w h = grind (arith, h)

module _ (s : Scene) (tells : Tells (CanHold s) (is_alive s)) where
  mutual
    pub lives_has : (t : Judged) → has_some (is_alive s) t ≡ true → HasLive (CanHold s) t
    lives_has (e.leaf o) h = (tells o).0 h
    lives_has (e.ordered a b) h = over (lives_has a) (lives_has b) (or_either (has_some (is_alive s) a) (has_some (is_alive s) b) h)
    lives_has (e.weighted ps) h = lives_one ps h
    lives_has (e.spoilt x below) h = tt

    lives_one : (ps : Parts Formula (Process Expression)) → one_has_some (is_alive s) ps ≡ true → OneHasLive (CanHold s) ps
    lives_one e.no_part h = absurd (cc)
    lives_one (e.part w t ps) h =
        over (λ k. (positive_is w (and_first (nat_lt 0 w) (has_some (is_alive s) t) k), lives_has t (and_second (nat_lt 0 w) (has_some (is_alive s) t) k))) (lives_one ps)
        (or_either (nat_lt 0 w && has_some (is_alive s) t) (one_has_some (is_alive s) ps) h)

  mutual
    pub has_lives : (t : Judged) → HasLive (CanHold s) t → has_some (is_alive s) t ≡ true
    has_lives (e.leaf o) h = (tells o).1 h
    has_lives (e.ordered a b) h = from (λ k. or_first (has_some (is_alive s) a) (has_some (is_alive s) b) (has_lives a k)) (λ k. or_second (has_some (is_alive s) a) (has_some (is_alive s) b) (has_lives b k)) h
    has_lives (e.weighted ps) h = one_lives ps h
    has_lives (e.spoilt x below) h = refl

    one_lives : (ps : Parts Formula (Process Expression)) → OneHasLive (CanHold s) ps → one_has_some (is_alive s) ps ≡ true
    one_lives e.no_part h = absurd h
    one_lives (e.part w t ps) h =
        from (λ k. or_first (nat_lt 0 w && has_some (is_alive s) t) (one_has_some (is_alive s) ps) (both (nat_lt 0 w) (has_some (is_alive s) t) (is_positive w k.0) (has_lives t k.1)))
        (λ k. or_second (nat_lt 0 w && has_some (is_alive s) t) (one_has_some (is_alive s) ps) (one_lives ps k)) h

-- ---- the tests of ends

pub names_same : (s : Scene) (y z : ℕ) → Decides (same_name s y z) (name_of s y ≡ name_of s z)
names_same s y z = pointwise_decides unsigned_Decides (name_of s y) (name_of s z)

pub faults_same : (x y : Arith) → same_fault x y ≡ true → x ≡ y
faults_same NoPrevious NoPrevious h = refl
faults_same DivisionByZero DivisionByZero h = refl
faults_same Overflow Overflow h = refl
faults_same NegativeWeight NegativeWeight h = refl
faults_same x y h = absurd (cc)

pub same_faults : (x : Arith) → same_fault x x ≡ true
same_faults NoPrevious = refl
same_faults DivisionByZero = refl
same_faults Overflow = refl
same_faults NegativeWeight = refl

-- a test of ends wants no instant
pub end_test : (s : Scene) (w : Wanted) → ((f : Formula) (ls : Lasts) → w.instant f ls ≡ false) → IsTest (is_wanted w) (is_alive s)
end_test s w none = record { alive = λ o h. lives o h; faults = λ x. refl }
  where
    lives : (o : Leaf) → is_wanted w o ≡ true → is_alive s o ≡ true
    lives e.vanish h = refl
    lives e.nothing h = absurd (cc)
    lives (e.raised z) h = refl
    lives (e.faulty x) h = refl
    lives (e.go f ls n) h = absurd (let k = sym (none f ls) ∙ h in cc)

some_there : (ks : List ℕ) → is_some_of ks ≡ true → (k : ℕ) × Has ks k
some_there [] h = absurd (cc)
some_there (k ∷ ks) h = (k, inl refl)

there_some : (ks : List ℕ) (k : ℕ) → Has ks k → is_some_of ks ≡ true
there_some [] k h = absurd h
there_some (j ∷ ks) k h = refl

module _ (laws : Laws) (s : Scene) (c : Configuration) (inputs : List Value) (few : length (flattened (offers_of (kinds_of_all s.locals) c.process)) < 2 ^ 32) (small : is_too_large s c ≡ false) where
  abbrev pub offered_here : TermTree Expression
  offered_here = offers_of (kinds_of_all s.locals) c.process

  abbrev pub worth_there : Worth Expression Formula
  worth_there = worth_in s c inputs

  module _ (w : Wanted) (none : (f : Formula) (ls : Lasts) → w.instant f ls ≡ false) where
    pub some_offered : is_some_of (found_in s worth_there w offered_here) ≡ true → (o : Leaf) × (is_wanted w o ≡ true) × MayTake s c inputs o
    some_offered h =
        let k = some_there (found_in s worth_there w offered_here) h in
        let i = found_tells laws s worth_there offered_here few w (end_test s w none) k.0 k.1 in
        (i.outlook, i.wanted, (k.0, i.at, i.legal))

    pub offered_some : (o : Leaf) → is_wanted w o ≡ true → MayTake s c inputs o → is_some_of (found_in s worth_there w offered_here) ≡ true
    offered_some o h k =
        there_some (found_in s worth_there w offered_here) k.0 (tells_found laws s worth_there offered_here few w (end_test s w none) k.0 (record { outlook = o; at = k.1; wanted = h; legal = k.2 }))

  vanish_is : (o : Leaf) → is_wanted for_normal o ≡ true → o ≡ e.vanish
  vanish_is e.vanish h = refl
  vanish_is e.nothing h = absurd (cc)
  vanish_is (e.raised z) h = absurd (cc)
  vanish_is (e.faulty x) h = absurd (cc)
  vanish_is (e.go f ls n) h = absurd (cc)

  raised_is : (z : ℕ) (o : Leaf) → is_wanted (for_raise s z) o ≡ true → (y : ℕ) × (name_of s y ≡ name_of s z) × (o ≡ e.raised y)
  raised_is z e.vanish h = absurd (cc)
  raised_is z e.nothing h = absurd (cc)
  raised_is z (e.raised y) h = (y, (names_same s y z).0 h, refl)
  raised_is z (e.faulty x) h = absurd (cc)
  raised_is z (e.go f ls n) h = absurd (cc)

  faulty_is : (x : Arith) (o : Leaf) → is_wanted (for_fault x) o ≡ true → o ≡ e.faulty x
  faulty_is x e.vanish h = absurd (cc)
  faulty_is x e.nothing h = absurd (cc)
  faulty_is x (e.raised y) h = absurd (cc)
  faulty_is x (e.faulty y) h = ap (λ z. e.faulty z) (faults_same y x h)
  faulty_is x (e.go f ls n) h = absurd (cc)

  pub normal_tells : Decides (is_some_of (found_in s worth_there for_normal offered_here)) (MayEnd s c inputs recorded.Normal)
  normal_tells = (
    λ h. let r = some_offered for_normal (λ f ls. refl) h in (small, subst (λ (o : Leaf). MayTake s c inputs o) (vanish_is r.0 r.1) r.2),
    λ h. offered_some for_normal (λ f ls. refl) e.vanish refl h.1,
  )

  pub raise_tells : (z : ℕ) → Decides (is_some_of (found_in s worth_there (for_raise s z) offered_here)) (MayEnd s c inputs (recorded.Raise z))
  raise_tells z = (
    λ h. let r = some_offered (for_raise s z) (λ f ls. refl) h in let i = raised_is z r.0 r.1 in (small, (i.0, i.1, subst (λ (o : Leaf). MayTake s c inputs o) i.2 r.2)),
    λ h. offered_some (for_raise s z) (λ f ls. refl) (e.raised h.1.0) ((names_same s h.1.0 z).1 h.1.1) h.1.2,
  )

  pub fault_tells : (x : Arith) → Decides (is_some_of (found_in s worth_there (for_fault x) offered_here)) (MayEnd s c inputs (recorded.Fault x))
  fault_tells x = (
    λ h. let r = some_offered (for_fault x) (λ f ls. refl) h in (small, subst (λ (o : Leaf). MayTake s c inputs o) (faulty_is x r.0 r.1) r.2),
    λ h. offered_some (for_fault x) (λ f ls. refl) (e.faulty x) (same_faults x) h.1,
  )

  -- a deadlock, where it is told whether a live leaf can be reached
  pub deadlock_tells : (b : Bool) → b ≡ has_some (is_alive s) (evaluated worth_there offered_here) → Decides (not b) (MayEnd s c inputs recorded.Deadlock)
  deadlock_tells true h = (λ k. absurd (cc), λ k. absurd (k.1 (lives_has s (alive_tells laws.pass s) (evaluated worth_there offered_here) (sym h))))
  deadlock_tells false h = (λ k. (small, λ l. let g = h ∙ has_lives s (alive_tells laws.pass s) (evaluated worth_there offered_here) l in cc), λ k. refl)
