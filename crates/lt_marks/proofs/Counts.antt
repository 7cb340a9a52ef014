-- How many turns are done in parts of tracks.
use Rattle.std.proofs.Common.{◌≡◌, ◌≤◌, ℕ, zero, suc, Bool, true, false, refl, arith}
use Rattle.std.specs.Prelude.{slice_index_or}
use Rattle.lt_formula.specs.Limits.{most_turns}
use Rattle.lt_term.specs.Counted.{AreDoneTo, IsCounted}
use Rattle.lt_term.specs.Next.{followed_by}
use Rattle.lt_term.specs.Process.{Process, dead, count}
use Rattle.lt_marks.specs.Marks.{is_new, are_new, is_outside, seq_at, par_at, assert_at, exist_at, catch_at, try_at}
use Rattle.lt_marks.specs.View.{body, choices_of, body_each, standing, begun}
use Rattle.lt_marks.specs.declared.track.Mark.{Mark}
use Rattle.lt_marks.specs.declared.track.Mark.TheVariants as mark
use Rattle.lt_marks.specs.declared.track.Track.{Track}
use Rattle.lt_marks.specs.declared.track.Track.TheVariants.{Eps, Dead, Con, Raise, Seq', Loop', Count', Any', Pri', Par', Assert', Exist', Catch', Try'}
use Rattle.lt_marks.specs.declared.track.Parts.{Parts}
use Rattle.lt_marks.specs.declared.track.Parts.TheVariants.{End, Part'}
use Rattle.lt_marks.proofs.Rules.{followed_by-first, followed_by-second, beside-first, beside-second, asserting-part, with_scope-part, catching-part, trying-part}

mutual
  pub body_counted : (t : Track) → IsCounted (body t)
  body_counted Eps = tt
  body_counted Dead = tt
  body_counted (Con m c) = tt
  body_counted (Raise z) = tt
  body_counted (Seq' m p a q b) = (body_counted a, body_counted b)
  body_counted (Loop' m p t) = body_counted t
  body_counted (Count' m i p t) = (omega arith, body_counted t)
  body_counted (Any' m p ps) = choices_counted ps
  body_counted (Pri' m p a q b) = (body_counted a, body_counted b)
  body_counted (Par' m p a q b) = (body_counted a, body_counted b)
  body_counted (Assert' m c p t) = body_counted t
  body_counted (Exist' m x p t) = body_counted t
  body_counted (Catch' m z p t q h) = (body_counted t, body_counted h)
  body_counted (Try' m p t q h) = (body_counted t, body_counted h)

  choices_counted : (ps : Parts) → AreDoneTo most_turns (choices_of ps)
  choices_counted End = tt
  choices_counted (Part' w p t q ps) = (body_counted t, choices_counted ps)

pub bodies_counted : (ps : Parts) (k : ℕ) → IsCounted (slice_index_or (body_each ps) k dead)
bodies_counted End k = tt
bodies_counted (Part' w p t q ps) zero = body_counted t
bodies_counted (Part' w p t q ps) (suc k) = bodies_counted ps k

-- a part at its beginning, or where it stands
pub part_counted : (new : Bool) (t : Track) → (new ≡ false → IsCounted (standing t)) → IsCounted (begun new t)
part_counted true t h = body_counted t
part_counted false t h = h refl

true_false : {A : Type 0} → true ≡ false → A
true_false e = absurd (cc)

pub seq_part : (m : Mark) (a b x y : Process ℕ) → is_new m ≡ false → IsCounted (seq_at m a b x y) → IsCounted x
seq_part mark.Inside a b x y e h = followed_by-first most_turns x b h
seq_part mark.Fresh a b x y e h = true_false e
seq_part mark.Over a b x y e h = true_false e
seq_part mark.Second a b x y e h = true_false e
seq_part mark.Both a b x y e h = true_false e
seq_part (mark.Chosen j) a b x y e h = true_false e
seq_part (mark.Counted d) a b x y e h = true_false e
seq_part (mark.Scoped v) a b x y e h = true_false e

pub par_parts : (m : Mark) (a b x y : Process ℕ) → are_new m ≡ false → IsCounted (par_at m a b x y) → IsCounted x × IsCounted y
par_parts mark.Both a b x y e h = (beside-first most_turns x y h, beside-second most_turns x y h)
par_parts mark.Fresh a b x y e h = true_false e
par_parts mark.Over a b x y e h = true_false e
par_parts mark.Inside a b x y e h = true_false e
par_parts mark.Second a b x y e h = true_false e
par_parts (mark.Chosen j) a b x y e h = true_false e
par_parts (mark.Counted d) a b x y e h = true_false e
par_parts (mark.Scoped v) a b x y e h = true_false e

pub assert_part : (m : Mark) (c : ℕ) (t x : Process ℕ) → is_new m ≡ false → IsCounted (assert_at m c t x) → IsCounted x
assert_part mark.Inside c t x e h = asserting-part most_turns c x h
assert_part mark.Fresh c t x e h = true_false e
assert_part mark.Over c t x e h = true_false e
assert_part mark.Second c t x e h = true_false e
assert_part mark.Both c t x e h = true_false e
assert_part (mark.Chosen j) c t x e h = true_false e
assert_part (mark.Counted d) c t x e h = true_false e
assert_part (mark.Scoped v) c t x e h = true_false e

pub exist_part : (m : Mark) (i : ℕ) (t x : Process ℕ) → is_outside m ≡ false → IsCounted (exist_at m i t x) → IsCounted x
exist_part (mark.Scoped v) i t x e h = with_scope-part most_turns i v x h
exist_part mark.Fresh i t x e h = true_false e
exist_part mark.Over i t x e h = true_false e
exist_part mark.Inside i t x e h = true_false e
exist_part mark.Second i t x e h = true_false e
exist_part mark.Both i t x e h = true_false e
exist_part (mark.Chosen j) i t x e h = true_false e
exist_part (mark.Counted d) i t x e h = true_false e

pub catch_part : (m : Mark) (z : ℕ) (t u x y : Process ℕ) → is_new m ≡ false → IsCounted (catch_at m z t u x y) → IsCounted x
catch_part mark.Inside z t u x y e h = catching-part most_turns z x u h
catch_part mark.Fresh z t u x y e h = true_false e
catch_part mark.Over z t u x y e h = true_false e
catch_part mark.Second z t u x y e h = true_false e
catch_part mark.Both z t u x y e h = true_false e
catch_part (mark.Chosen j) z t u x y e h = true_false e
catch_part (mark.Counted d) z t u x y e h = true_false e
catch_part (mark.Scoped v) z t u x y e h = true_false e

pub try_part : (m : Mark) (t u x y : Process ℕ) → is_new m ≡ false → IsCounted (try_at m t u x y) → IsCounted x
try_part mark.Inside t u x y e h = trying-part most_turns x u h
try_part mark.Fresh t u x y e h = true_false e
try_part mark.Over t u x y e h = true_false e
try_part mark.Second t u x y e h = true_false e
try_part mark.Both t u x y e h = true_false e
try_part (mark.Chosen j) t u x y e h = true_false e
try_part (mark.Counted d) t u x y e h = true_false e
try_part (mark.Scoped v) t u x y e h = true_false e

-- the part of a counted loop, and its turns
pub counted_part : (i d : ℕ) (t x : Process ℕ) → IsCounted (followed_by x (count i d t)) → IsCounted x × (d ≤ most_turns)
counted_part i d t x h = (followed_by-first most_turns x (count i d t) h, (followed_by-second most_turns x (count i d t) h).0)
