-- What a walk leaves as it is.
use Rattle.lt_marks.specs.declared.extent.Extent.{Extent}
use Rattle.lt_marks.specs.declared.track.Mark.{Mark}
use Rattle.lt_marks.specs.declared.track.Track.{Track}
use Rattle.lt_marks.specs.declared.track.Track.TheVariants.{Eps, Dead, Con, Raise, Seq', Loop', Count', Any', Pri', Par', Assert', Exist', Catch', Try'}
use Rattle.lt_marks.specs.declared.track.Parts.{Parts}
use Rattle.lt_marks.specs.declared.track.Parts.TheVariants.{End, Part'}

-- where a run stands at each node, and how large what the node offers is
pub data Stand : Type 0 where
  nowhere : Stand
  at : Mark → Extent → Extent → Stand → Stand → Stand
  -- of parts to choose from: where it stands in each
  each : Stand → Stand → Stand

-- where it stands at each node of a track
abbrev mutual
  pub still : Track → Stand
  still Eps = nowhere
  still Dead = nowhere
  still (Con m c) = at m.at m.whole m.rest nowhere nowhere
  still (Raise z) = nowhere
  still (Seq' m p a q b) = at m.at m.whole m.rest (still a) (still b)
  still (Loop' m p t) = at m.at m.whole m.rest (still t) nowhere
  still (Count' m i p t) = at m.at m.whole m.rest (still t) nowhere
  still (Any' m p ps) = at m.at m.whole m.rest (still_each ps) nowhere
  still (Pri' m p a q b) = at m.at m.whole m.rest (still a) (still b)
  still (Par' m p a q b) = at m.at m.whole m.rest (still a) (still b)
  still (Assert' m c p t) = at m.at m.whole m.rest (still t) nowhere
  still (Exist' m x p t) = at m.at m.whole m.rest (still t) nowhere
  still (Catch' m z p t q h) = at m.at m.whole m.rest (still t) (still h)
  still (Try' m p t q h) = at m.at m.whole m.rest (still t) (still h)

  pub still_each : Parts → Stand
  still_each End = nowhere
  still_each (Part' w p t q ps) = each (still t) (still_each ps)
