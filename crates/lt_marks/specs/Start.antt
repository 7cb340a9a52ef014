-- Terms at their beginning.
use Rattle.std.specs.Prelude.{◌≡◌}
use Rattle.lt_term.specs.declared.last.Last.TheVariants as last
use Rattle.lt_term.specs.Process.{Process, eps, dead, con, raise, seq, loop, count, any, pri, par, assert, exist, catch, try, Choices, no_choice, choice}
use Rattle.lt_marks.specs.declared.track.Mark.TheVariants as mark
use Rattle.lt_marks.specs.declared.track.Track.{Track}
use Rattle.lt_marks.specs.declared.track.Track.TheVariants.{Eps, Dead, Con, Raise, Seq', Loop', Count', Any', Pri', Par', Assert', Exist', Catch', Try'}

-- no scope of a term is entered, and no turn of it is done
abbrev mutual
  pub IsAtStart : {C : Type 0} → Process C → Type 0
  IsAtStart eps = Unit {0}
  IsAtStart dead = Unit {0}
  IsAtStart (con c) = Unit {0}
  IsAtStart (raise z) = Unit {0}
  IsAtStart (seq a b) = IsAtStart a × IsAtStart b
  IsAtStart (loop t) = IsAtStart t
  IsAtStart (count i done t) = (done ≡ 0) × IsAtStart t
  IsAtStart (any cs) = AreAtStart cs
  IsAtStart (pri a b) = IsAtStart a × IsAtStart b
  IsAtStart (par a b) = IsAtStart a × IsAtStart b
  IsAtStart (assert c t) = IsAtStart t
  IsAtStart (exist x v t) = (v ≡ last.First) × IsAtStart t
  IsAtStart (catch z t h) = IsAtStart t × IsAtStart h
  IsAtStart (try t h) = IsAtStart t × IsAtStart h

  pub AreAtStart : {C : Type 0} → Choices C → Type 0
  AreAtStart no_choice = Unit {0}
  AreAtStart (choice w t cs) = IsAtStart t × AreAtStart cs

-- a track has not begun: its root has the mark of that, if it has marks
abbrev pub IsUnbegun : Track → Type 0
IsUnbegun Eps = Unit {0}
IsUnbegun Dead = Unit {0}
IsUnbegun (Con m c) = m.at ≡ mark.Fresh
IsUnbegun (Raise z) = Unit {0}
IsUnbegun (Seq' m p a q b) = m.at ≡ mark.Fresh
IsUnbegun (Loop' m p t) = m.at ≡ mark.Fresh
IsUnbegun (Count' m i p t) = m.at ≡ mark.Fresh
IsUnbegun (Any' m p ps) = m.at ≡ mark.Fresh
IsUnbegun (Pri' m p a q b) = m.at ≡ mark.Fresh
IsUnbegun (Par' m p a q b) = m.at ≡ mark.Fresh
IsUnbegun (Assert' m c p t) = m.at ≡ mark.Fresh
IsUnbegun (Exist' m x p t) = m.at ≡ mark.Fresh
IsUnbegun (Catch' m z p t q h) = m.at ≡ mark.Fresh
IsUnbegun (Try' m p t q h) = m.at ≡ mark.Fresh
