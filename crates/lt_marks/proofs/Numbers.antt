-- The numbers of what is still to be done are those of the body.
use Rattle.std.proofs.Common.{ℕ, zero, suc, Bool, true, false, ◌&&◌, IsTrue, List, refl}
use Rattle.std.specs.Prelude.{slice_index_or}
use Rattle.lt_term.specs.declared.last.Last.{Last}
use Rattle.lt_term.specs.Next.{followed_by, beside, asserting, with_scope, catching, trying}
use Rattle.lt_term.specs.Process.{Process, eps, dead, con, loop, count, any, Choices}
use Rattle.lt_term.specs.Within.{Tests, passes, each_passes}
use Rattle.lt_marks.specs.Marks.{con_at, seq_at, loop_at, count_at, any_at, pri_at, par_at, assert_at, exist_at, catch_at, try_at}
use Rattle.lt_marks.specs.View.{body, choices_of, standing, standing_each}
use Rattle.lt_marks.specs.declared.track.Mark.{Mark}
use Rattle.lt_marks.specs.declared.track.Mark.TheVariants as mark
use Rattle.lt_marks.specs.declared.track.Track.{Track}
use Rattle.lt_marks.specs.declared.track.Track.TheVariants.{Eps, Dead, Con, Raise, Seq', Loop', Count', Any', Pri', Par', Assert', Exist', Catch', Try'}
use Rattle.lt_marks.specs.declared.track.Parts.{Parts}
use Rattle.lt_marks.specs.declared.track.Parts.TheVariants.{End, Part'}

left_of : (a b : Bool) → IsTrue (a && b) → IsTrue a
left_of true b h = refl
left_of false b h = h

right_of : (a b : Bool) → IsTrue (a && b) → IsTrue b
right_of true b h = h
right_of false b h = absurd (cc)

both : (a b : Bool) → IsTrue a → IsTrue b → IsTrue (a && b)
both true b h k = k
both false b h k = h

module _ (ts : Tests ℕ) where
  abbrev P : Process ℕ → Type 0
  P p = IsTrue (passes ts p)

  followed : (x b : Process ℕ) → P x → P b → P (followed_by x b)
  followed eps b h k = k
  followed x b h k = both (passes ts x) (passes ts b) h k

  besides : (x y : Process ℕ) → P x → P y → P (beside x y)
  besides eps y h k = k
  besides x eps h k = h
  besides x y h k = both (passes ts x) (passes ts y) h k

  asserted : (c : ℕ) (x : Process ℕ) → IsTrue (ts.constraint c) → P x → P (asserting c x)
  asserted c eps h k = refl
  asserted c x h k = both (ts.constraint c) (passes ts x) h k

  scoped : (i : ℕ) (v : Last) (x : Process ℕ) → IsTrue (ts.local i) → P x → P (with_scope i v x)
  scoped i v eps h k = refl
  scoped i v x h k = both (ts.local i) (passes ts x) h k

  caught : (z : ℕ) (x u : Process ℕ) → IsTrue (ts.exception z) → P x → P u → P (catching z x u)
  caught z eps u h k m = refl
  caught z x u h k m = both (ts.exception z) (passes ts x && passes ts u) h (both (passes ts x) (passes ts u) k m)

  tried : (x u : Process ℕ) → P x → P u → P (trying x u)
  tried eps u k m = refl
  tried x u k m = both (passes ts x) (passes ts u) k m

  con_pass : (m : Mark) (c : ℕ) → P (con c) → P (con_at m c)
  con_pass mark.Over c h = refl
  con_pass m c h = h

  seq_pass : (m : Mark) (a b x y : Process ℕ) → P a → P b → P x → P y → P (seq_at m a b x y)
  seq_pass mark.Inside a b x y p q r s = followed x b r q
  seq_pass mark.Second a b x y p q r s = s
  seq_pass m a b x y p q r s = both (passes ts a) (passes ts b) p q

  loop_pass : (m : Mark) (t x : Process ℕ) → P t → P x → P (loop_at m t x)
  loop_pass mark.Inside t x p r = followed x (loop t) r p
  loop_pass m t x p r = p

  count_pass : (m : Mark) (i : ℕ) (t x : Process ℕ) → IsTrue (ts.counter i) → P t → P x → P (count_at m i t x)
  count_pass (mark.Counted d) i t x c p r = followed x (count i d t) r (both (ts.counter i) (passes ts t) c p)
  count_pass m i t x c p r = both (ts.counter i) (passes ts t) c p

  pri_pass : (m : Mark) (a b x y : Process ℕ) → P a → P b → P x → P y → P (pri_at m a b x y)
  pri_pass mark.Inside a b x y p q r s = r
  pri_pass mark.Second a b x y p q r s = s
  pri_pass m a b x y p q r s = both (passes ts a) (passes ts b) p q

  par_pass : (m : Mark) (a b x y : Process ℕ) → P a → P b → P x → P y → P (par_at m a b x y)
  par_pass mark.Inside a b x y p q r s = r
  par_pass mark.Second a b x y p q r s = s
  par_pass mark.Both a b x y p q r s = besides x y r s
  par_pass m a b x y p q r s = both (passes ts a) (passes ts b) p q

  assert_pass : (m : Mark) (c : ℕ) (t x : Process ℕ) → IsTrue (ts.constraint c) → P t → P x → P (assert_at m c t x)
  assert_pass mark.Inside c t x h p r = asserted c x h r
  assert_pass m c t x h p r = both (ts.constraint c) (passes ts t) h p

  exist_pass : (m : Mark) (i : ℕ) (t x : Process ℕ) → IsTrue (ts.local i) → P t → P x → P (exist_at m i t x)
  exist_pass (mark.Scoped v) i t x h p r = scoped i v x h r
  exist_pass m i t x h p r = both (ts.local i) (passes ts t) h p

  catch_pass : (m : Mark) (z : ℕ) (t u x y : Process ℕ) → IsTrue (ts.exception z) → P t → P u → P x → P y → P (catch_at m z t u x y)
  catch_pass mark.Inside z t u x y h p q r s = caught z x u h r q
  catch_pass mark.Second z t u x y h p q r s = s
  catch_pass m z t u x y h p q r s = both (ts.exception z) (passes ts t && passes ts u) h (both (passes ts t) (passes ts u) p q)

  try_pass : (m : Mark) (t u x y : Process ℕ) → P t → P u → P x → P y → P (try_at m t u x y)
  try_pass mark.Inside t u x y p q r s = tried x u r q
  try_pass mark.Second t u x y p q r s = s
  try_pass m t u x y p q r s = both (passes ts t) (passes ts u) p q

  any_pass : (m : Mark) (cs : Choices ℕ) (xs : List (Process ℕ)) → P (any cs) → ((k : ℕ) → P (slice_index_or xs k dead)) → P (any_at m cs xs)
  any_pass (mark.Chosen k) cs xs h f = f k
  any_pass m cs xs h f = h

  mutual
    pub standing_passes : (t : Track) → P (body t) → P (standing t)
    standing_passes Eps h = h
    standing_passes Dead h = h
    standing_passes (Con m c) h = con_pass m.at c h
    standing_passes (Raise z) h = h
    standing_passes (Seq' m p a q b) h =
        let l = left_of (passes ts (body a)) (passes ts (body b)) h in
        let r = right_of (passes ts (body a)) (passes ts (body b)) h in
        seq_pass m.at (body a) (body b) (standing a) (standing b) l r (standing_passes a l) (standing_passes b r)
    standing_passes (Loop' m p t) h = loop_pass m.at (body t) (standing t) h (standing_passes t h)
    standing_passes (Count' m i p t) h =
        let r = right_of (ts.counter i) (passes ts (body t)) h in
        count_pass m.at i (body t) (standing t) (left_of (ts.counter i) (passes ts (body t)) h) r (standing_passes t r)
    standing_passes (Any' m p ps) h = any_pass m.at (choices_of ps) (standing_each ps) h (λ k. part_passes ps k h)
    standing_passes (Pri' m p a q b) h =
        let l = left_of (passes ts (body a)) (passes ts (body b)) h in
        let r = right_of (passes ts (body a)) (passes ts (body b)) h in
        pri_pass m.at (body a) (body b) (standing a) (standing b) l r (standing_passes a l) (standing_passes b r)
    standing_passes (Par' m p a q b) h =
        let l = left_of (passes ts (body a)) (passes ts (body b)) h in
        let r = right_of (passes ts (body a)) (passes ts (body b)) h in
        par_pass m.at (body a) (body b) (standing a) (standing b) l r (standing_passes a l) (standing_passes b r)
    standing_passes (Assert' m c p t) h =
        let r = right_of (ts.constraint c) (passes ts (body t)) h in
        assert_pass m.at c (body t) (standing t) (left_of (ts.constraint c) (passes ts (body t)) h) r (standing_passes t r)
    standing_passes (Exist' m x p t) h =
        let r = right_of (ts.local x) (passes ts (body t)) h in
        exist_pass m.at x (body t) (standing t) (left_of (ts.local x) (passes ts (body t)) h) r (standing_passes t r)
    standing_passes (Catch' m z p t q u) h =
        let k = right_of (ts.exception z) (passes ts (body t) && passes ts (body u)) h in
        let l = left_of (passes ts (body t)) (passes ts (body u)) k in
        let r = right_of (passes ts (body t)) (passes ts (body u)) k in
        catch_pass m.at z (body t) (body u) (standing t) (standing u) (left_of (ts.exception z) (passes ts (body t) && passes ts (body u)) h) l r (standing_passes t l) (standing_passes u r)
    standing_passes (Try' m p t q u) h =
        let l = left_of (passes ts (body t)) (passes ts (body u)) h in
        let r = right_of (passes ts (body t)) (passes ts (body u)) h in
        try_pass m.at (body t) (body u) (standing t) (standing u) l r (standing_passes t l) (standing_passes u r)

    part_passes : (ps : Parts) (k : ℕ) → IsTrue (each_passes ts (choices_of ps)) → P (slice_index_or (standing_each ps) k dead)
    part_passes End k h = refl
    part_passes (Part' w p t q ps) zero h = standing_passes t (left_of (passes ts (body t)) (each_passes ts (choices_of ps)) (right_of (ts.constraint w) (passes ts (body t) && each_passes ts (choices_of ps)) h))
    part_passes (Part' w p t q ps) (suc k) h = part_passes ps k (right_of (passes ts (body t)) (each_passes ts (choices_of ps)) (right_of (ts.constraint w) (passes ts (body t) && each_passes ts (choices_of ps)) h))
