-- What is still to be done in a term, by its mark.
use Rattle.std.specs.Prelude.{ℕ, Bool, true, false, List, if◌then◌else◌, slice_index_or}
use Rattle.lt_term.specs.declared.last.Last.{Last}
use Rattle.lt_term.specs.declared.last.Last.TheVariants as last
use Rattle.lt_term.specs.Next.{followed_by, beside, asserting, with_scope, catching, trying}
use Rattle.lt_term.specs.Process.{Process, eps, dead, con, seq, loop, count, any, pri, par, assert, exist, catch, try, Choices}
use Rattle.lt_marks.specs.declared.track.Mark.{Mark}
use Rattle.lt_marks.specs.declared.track.Mark.TheVariants as mark

-- a mark, or the beginning
abbrev pub marked : Bool → Mark → Mark
marked is_fresh m = if is_fresh then mark.Fresh else m

-- whether a part of a term with this mark begins anew
abbrev pub is_new : Mark → Bool
is_new mark.Inside = false
is_new m = true

-- whether the scope of a local with this mark isn't entered yet
abbrev pub is_outside : Mark → Bool
is_outside (mark.Scoped v) = false
is_outside m = true

-- what the local of a scope had in the instant before
abbrev pub last_of : Mark → Last
last_of (mark.Scoped v) = v
last_of m = last.First

-- whether the two sides of a term with this mark begin anew
abbrev pub are_new : Mark → Bool
are_new mark.Both = false
are_new m = true

-- What is still to be done in a term of these parts, where x and y is what is still to be done in
-- them. A mark that such a term doesn't have is its beginning.

-- a constraint
abbrev pub con_at : Mark → ℕ → Process ℕ
con_at mark.Over c = eps
con_at m c = con c

-- a sequence
abbrev pub seq_at : Mark → Process ℕ → Process ℕ → Process ℕ → Process ℕ → Process ℕ
seq_at mark.Inside a b x y = followed_by x b
seq_at mark.Second a b x y = y
seq_at m a b x y = seq a b

-- a loop
abbrev pub loop_at : Mark → Process ℕ → Process ℕ → Process ℕ
loop_at mark.Inside t x = followed_by x (loop t)
loop_at m t x = loop t

-- a counted loop
abbrev pub count_at : Mark → ℕ → Process ℕ → Process ℕ → Process ℕ
count_at (mark.Counted done) i t x = followed_by x (count i done t)
count_at m i t x = count i 0 t

-- a choice by weight, whose parts are in a list
abbrev pub any_at : Mark → Choices ℕ → List (Process ℕ) → Process ℕ
any_at (mark.Chosen k) cs xs = slice_index_or xs k dead
any_at m cs xs = any cs

-- a choice by priority
abbrev pub pri_at : Mark → Process ℕ → Process ℕ → Process ℕ → Process ℕ → Process ℕ
pri_at mark.Inside a b x y = x
pri_at mark.Second a b x y = y
pri_at m a b x y = pri a b

-- two sides at once
abbrev pub par_at : Mark → Process ℕ → Process ℕ → Process ℕ → Process ℕ → Process ℕ
par_at mark.Inside a b x y = x
par_at mark.Second a b x y = y
par_at mark.Both a b x y = beside x y
par_at m a b x y = par a b

-- a constraint in each instant
abbrev pub assert_at : Mark → ℕ → Process ℕ → Process ℕ → Process ℕ
assert_at mark.Inside c t x = asserting c x
assert_at m c t x = assert c t

-- the scope of a local
abbrev pub exist_at : Mark → ℕ → Process ℕ → Process ℕ → Process ℕ
exist_at (mark.Scoped v) i t x = with_scope i v x
exist_at m i t x = exist i last.First t

-- a term with a handler
abbrev pub catch_at : Mark → ℕ → Process ℕ → Process ℕ → Process ℕ → Process ℕ → Process ℕ
catch_at mark.Inside z t h x y = catching z x h
catch_at mark.Second z t h x y = y
catch_at m z t h x y = catch z t h

-- a term with another one for where nothing can be done
abbrev pub try_at : Mark → Process ℕ → Process ℕ → Process ℕ → Process ℕ → Process ℕ
try_at mark.Inside t h x y = trying x h
try_at mark.Second t h x y = y
try_at m t h x y = try t h
