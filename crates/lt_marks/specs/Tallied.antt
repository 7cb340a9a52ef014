-- How large the trees of what tracks offer are, as each node keeps it.
use Rattle.std.specs.Prelude.{◌≢◌, ℕ, Bool, false, List, None, Some, if◌then◌else◌}
use Rattle.std.specs.declared.option.Option.{Option}
use Rattle.lt_num.specs.declared.kind.Kind.{Kind}
use Rattle.lt_tree_size.specs.TallyView.{IsRaised, IsTally}
use Rattle.lt_tree_size.specs.declared.tally.Tally.{Tally}
use Rattle.lt_term.specs.Offers.{offers_of}
use Rattle.lt_term.specs.Process.{Process, catch}
use Rattle.lt_marks.specs.Marks.{is_new, marked}
use Rattle.lt_marks.specs.View.{body, standing}
use Rattle.lt_marks.specs.declared.extent.Extent.{Extent}
use Rattle.lt_marks.specs.declared.track.Mark.{Mark}
use Rattle.lt_marks.specs.declared.track.Mark.TheVariants as mark
use Rattle.lt_marks.specs.declared.track.Marks.{Marks}
use Rattle.lt_marks.specs.declared.track.Track.{Track}
use Rattle.lt_marks.specs.declared.track.Track.TheVariants.{Eps, Dead, Con, Raise, Seq', Loop', Count', Any', Pri', Par', Assert', Exist', Catch', Try'}
use Rattle.lt_marks.specs.declared.track.Parts.{Parts}
use Rattle.lt_marks.specs.declared.track.Parts.TheVariants.{End, Part'}

-- a tally is that of the tree of a term, whatever the kinds of its locals
abbrev pub IsTallyOf : Tally → Process ℕ → Type 0
IsTallyOf k p = (kinds : List Kind) → IsTally k (offers_of kinds p)

-- so many leaves of that tree raise an exception
abbrev pub IsRaisedBy : ℕ → ℕ → Process ℕ → Type 0
IsRaisedBy n z p = (kinds : List Kind) → IsRaised n z (offers_of kinds p)

-- So many leaves of the part of a handler with this mark raise its exception. The part begins with
-- t, and x is what is still to
-- be done in it. Once the handler is entered nothing is said of it.
abbrev pub IsRaisedAt : Mark → ℕ → ℕ → Process ℕ → Process ℕ → Type 0
IsRaisedAt m n z t x = m ≢ mark.Second → IsRaisedBy n z (if is_new m then t else x)

-- so many leaves of the part of a term with a handler, if it is one, raise its exception
abbrev pub IsRaisedIn : ℕ → Process ℕ → Type 0
IsRaisedIn n (catch z t h) = IsRaisedBy n z t
IsRaisedIn n p = Unit {0}

-- the same of a track, of all that is to be done in it or of what is still to be done
abbrev pub IsRaisedWhile : Bool → ℕ → Track → Type 0
IsRaisedWhile is_fresh n (Catch' m z p t q h) = IsRaisedAt (marked is_fresh m.at) n z (body t)
    (standing t)
IsRaisedWhile is_fresh n t = Unit {0}

-- what marks keep of all that is to be done in a term, or of what is still to be done
abbrev pub extent_in : Bool → Marks → Extent
extent_in is_fresh m = if is_fresh then m.whole else m.rest

-- what a node keeps of it, if it has marks
abbrev pub extent_of : Bool → Track → Option Extent
extent_of is_fresh Eps = None
extent_of is_fresh Dead = None
extent_of is_fresh (Con m c) = Some (extent_in is_fresh m)
extent_of is_fresh (Raise z) = None
extent_of is_fresh (Seq' m p a q b) = Some (extent_in is_fresh m)
extent_of is_fresh (Loop' m p t) = Some (extent_in is_fresh m)
extent_of is_fresh (Count' m i p t) = Some (extent_in is_fresh m)
extent_of is_fresh (Any' m p ps) = Some (extent_in is_fresh m)
extent_of is_fresh (Pri' m p a q b) = Some (extent_in is_fresh m)
extent_of is_fresh (Par' m p a q b) = Some (extent_in is_fresh m)
extent_of is_fresh (Assert' m c p t) = Some (extent_in is_fresh m)
extent_of is_fresh (Exist' m x p t) = Some (extent_in is_fresh m)
extent_of is_fresh (Catch' m z p t q h) = Some (extent_in is_fresh m)
extent_of is_fresh (Try' m p t q h) = Some (extent_in is_fresh m)

-- what is kept of all that is to be done in a term is right, if anything is kept
abbrev pub IsWhole : Option Extent → Process ℕ → Type 0
IsWhole None p = Unit {0}
IsWhole (Some e) p = IsTallyOf e.tally p × IsRaisedIn e.raised p

-- what a node keeps of what is still to be done is right, if it keeps anything
abbrev pub IsRest : Option Extent → Track → Type 0
IsRest None t = Unit {0}
IsRest (Some e) t = IsTallyOf e.tally (standing t) × IsRaisedWhile false e.raised t

-- what each node keeps is right: of nodes that the run has left as well
abbrev mutual
  pub IsTallied : Track → Type 0
  IsTallied Eps = Unit {0}
  IsTallied Dead = Unit {0}
  IsTallied (Con m c) = IsWhole (Some m.whole) (body (Con m c)) × IsRest (Some m.rest) (Con m c) ×
      Unit {0}
  IsTallied (Raise z) = Unit {0}
  IsTallied (Seq' m p a q b) = IsWhole (Some m.whole) (body (Seq' m p a q b)) ×
      IsRest (Some m.rest) (Seq' m p a q b) × (IsTallied a × IsTallied b)
  IsTallied (Loop' m p t) = IsWhole (Some m.whole) (body (Loop' m p t)) ×
      IsRest (Some m.rest) (Loop' m p t) × IsTallied t
  IsTallied (Count' m i p t) = IsWhole (Some m.whole) (body (Count' m i p t)) ×
      IsRest (Some m.rest) (Count' m i p t) × IsTallied t
  IsTallied (Any' m p ps) = IsWhole (Some m.whole) (body (Any' m p ps)) ×
      IsRest (Some m.rest) (Any' m p ps) × AreTallied ps
  IsTallied (Pri' m p a q b) = IsWhole (Some m.whole) (body (Pri' m p a q b)) ×
      IsRest (Some m.rest) (Pri' m p a q b) × (IsTallied a × IsTallied b)
  IsTallied (Par' m p a q b) = IsWhole (Some m.whole) (body (Par' m p a q b)) ×
      IsRest (Some m.rest) (Par' m p a q b) × (IsTallied a × IsTallied b)
  IsTallied (Assert' m c p t) = IsWhole (Some m.whole) (body (Assert' m c p t)) ×
      IsRest (Some m.rest) (Assert' m c p t) × IsTallied t
  IsTallied (Exist' m x p t) = IsWhole (Some m.whole) (body (Exist' m x p t)) ×
      IsRest (Some m.rest) (Exist' m x p t) × IsTallied t
  IsTallied (Catch' m z p t q h) = IsWhole (Some m.whole) (body (Catch' m z p t q h)) ×
      IsRest (Some m.rest) (Catch' m z p t q h) × (IsTallied t × IsTallied h)
  IsTallied (Try' m p t q h) = IsWhole (Some m.whole) (body (Try' m p t q h)) ×
      IsRest (Some m.rest) (Try' m p t q h) × (IsTallied t × IsTallied h)

  pub AreTallied : Parts → Type 0
  AreTallied End = Unit {0}
  AreTallied (Part' w p t q ps) = IsTallied t × AreTallied ps

-- what each node below the root keeps is right
abbrev pub HasTalliedParts : Track → Type 0
HasTalliedParts Eps = Unit {0}
HasTalliedParts Dead = Unit {0}
HasTalliedParts (Con m c) = Unit {0}
HasTalliedParts (Raise z) = Unit {0}
HasTalliedParts (Seq' m p a q b) = IsTallied a × IsTallied b
HasTalliedParts (Loop' m p t) = IsTallied t
HasTalliedParts (Count' m i p t) = IsTallied t
HasTalliedParts (Any' m p ps) = AreTallied ps
HasTalliedParts (Pri' m p a q b) = IsTallied a × IsTallied b
HasTalliedParts (Par' m p a q b) = IsTallied a × IsTallied b
HasTalliedParts (Assert' m c p t) = IsTallied t
HasTalliedParts (Exist' m x p t) = IsTallied t
HasTalliedParts (Catch' m z p t q h) = IsTallied t × IsTallied h
HasTalliedParts (Try' m p t q h) = IsTallied t × IsTallied h

-- marks that keep another extent
abbrev pub with_extent : Bool → Extent → Marks → Marks
with_extent is_fresh e m = if is_fresh then record m { whole = e } else record m { rest = e }

-- a track whose root keeps another extent
abbrev pub keeping : Bool → Extent → Track → Track
keeping is_fresh e Eps = Eps
keeping is_fresh e Dead = Dead
keeping is_fresh e (Con m c) = Con (with_extent is_fresh e m) c
keeping is_fresh e (Raise z) = Raise z
keeping is_fresh e (Seq' m p a q b) = Seq' (with_extent is_fresh e m) p a q b
keeping is_fresh e (Loop' m p t) = Loop' (with_extent is_fresh e m) p t
keeping is_fresh e (Count' m i p t) = Count' (with_extent is_fresh e m) i p t
keeping is_fresh e (Any' m p ps) = Any' (with_extent is_fresh e m) p ps
keeping is_fresh e (Pri' m p a q b) = Pri' (with_extent is_fresh e m) p a q b
keeping is_fresh e (Par' m p a q b) = Par' (with_extent is_fresh e m) p a q b
keeping is_fresh e (Assert' m c p t) = Assert' (with_extent is_fresh e m) c p t
keeping is_fresh e (Exist' m x p t) = Exist' (with_extent is_fresh e m) x p t
keeping is_fresh e (Catch' m z p t q h) = Catch' (with_extent is_fresh e m) z p t q h
keeping is_fresh e (Try' m p t q h) = Try' (with_extent is_fresh e m) p t q h
