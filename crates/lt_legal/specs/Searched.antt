-- Which leaves have to be searched to check a trace.
use Rattle.std.specs.Prelude.{◌≡◌, ◌<◌, ◌⊎◌, ℕ, List, [], ◌∷◌, drop}
use Rattle.lt_term.specs.Evaluated.{Evaluated, Outlook, Parts, faulty, go, leaf, no_part, nothing, ordered, part, raised, spoilt, vanish, weighted}
use Rattle.lt_term.specs.Scene.{Scene}
use Rattle.lt_trace.specs.Told.{Shown, Told}
use Rattle.lt_trace.specs.declared.recorded.RecordedEnd.{RecordedEnd}
use Rattle.lt_trace.specs.declared.recorded.RecordedEnd.TheVariants as recorded
use Rattle.lt_instant.specs.Instant.{Judged, Leaf}
use Rattle.lt_legal.specs.Follows.{Shows}
use Rattle.lt_legal.specs.LegalRun.{name_of}

-- some leaf of a tree is this one, and it can be reached through parts of positive weight
abbrev mutual
  pub CanReach : {F N : Type 0} → Outlook F N → Evaluated F N → Type 0
  CanReach o (leaf l) = l ≡ o
  CanReach o (ordered a b) = CanReach o a ⊎ CanReach o b
  CanReach o (weighted ps) = CanReachIn o ps
  CanReach o (spoilt fault below) = faulty fault ≡ o

  pub CanReachIn : {F N : Type 0} → Outlook F N → Parts F N → Type 0
  CanReachIn o no_part = ⊥
  CanReachIn o (part w t ps) = ((0 < w) × CanReach o t) ⊎ CanReachIn o ps

-- some leaf that can be reached is of a sort
abbrev pub HasSort : {F N : Type 0} → (Outlook F N → Type 0) → Evaluated F N → Type 0
HasSort {F} {N} Sort t = (o : Outlook F N) × Sort o × CanReach o t

-- a leaf is live whatever values there are
abbrev pub IsFree : {F N : Type 0} → Outlook F N → Type 0
IsFree vanish = Unit {0}
IsFree nothing = ⊥
IsFree (raised z) = Unit {0}
IsFree (faulty fault) = Unit {0}
IsFree (go f ls n) = ⊥

-- Whether a tree is live isn't known without a search of this leaf: it can be reached, and none
-- that can is live for free.
abbrev pub IsOpenAt : {F N : Type 0} → Outlook F N → Evaluated F N → Type 0
IsOpenAt o t = (HasSort IsFree t → ⊥) × CanReach o t

-- To find the leaves of a sort that may be taken it has to be known of this leaf whether it is
-- live: it is in the left tree of an order that is come to through parts of positive weight, there
-- is none of the sort on the left, and there is one on the right.
abbrev mutual
  pub IsAsked : {F N : Type 0} → (Outlook F N → Type 0) → Outlook F N → Evaluated F N → Type 0
  IsAsked Sort o (leaf l) = ⊥
  IsAsked Sort o (ordered a b) =
      IsAsked Sort o a ⊎ (((HasSort Sort a → ⊥) × HasSort Sort b × IsOpenAt o a) ⊎ IsAsked Sort o b)
  IsAsked Sort o (weighted ps) = IsAskedIn Sort o ps
  IsAsked Sort o (spoilt fault below) = ⊥

  pub IsAskedIn : {F N : Type 0} → (Outlook F N → Type 0) → Outlook F N → Parts F N → Type 0
  IsAskedIn Sort o no_part = ⊥
  IsAskedIn Sort o (part w t ps) = ((0 < w) × IsAsked Sort o t) ⊎ IsAskedIn Sort o ps

-- a leaf has an instant of which a step shows the values
abbrev pub HasStep : Scene → Shown → Leaf → Type 0
HasStep s step (go f ls n) = Shows s step f ls
HasStep s step other = ⊥

-- a run may end at a leaf as a trace says
abbrev pub HasEnd : Scene → RecordedEnd → Leaf → Type 0
HasEnd s recorded.Normal o = o ≡ vanish
HasEnd s (recorded.Raise z) o = (y : ℕ) × (name_of s y ≡ name_of s z) × (o ≡ raised y)
HasEnd s (recorded.Fault f) o = o ≡ faulty f
HasEnd s recorded.Deadlock o = ⊥
HasEnd s recorded.Cut o = ⊥

-- this leaf has to be searched for an end: for a deadlock, each leaf has to be known
abbrev pub EndAsks : Scene → RecordedEnd → Leaf → Judged → Type 0
EndAsks s recorded.Deadlock o t = IsOpenAt o t
EndAsks s e o t = IsAsked (HasEnd s e) o t

-- this leaf has to be searched for the first of some steps, or else for an end
abbrev pub FirstAsks : Scene → List Shown → RecordedEnd → Leaf → Judged → Type 0
FirstAsks s [] e o t = EndAsks s e o t
FirstAsks s (step ∷ steps) e o t = IsAsked (HasStep s step) o t

-- this leaf has to be searched for what a trace shows behind so many steps
abbrev pub NextAsks : Scene → Told → ℕ → Leaf → Judged → Type 0
NextAsks s t k o tree = FirstAsks s (drop k t.steps) t.end o tree
