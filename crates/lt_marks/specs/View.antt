-- The terms that tracks stand for.
use Rattle.std.specs.Prelude.{ℕ, suc, ◌+◌, List, [], ◌∷◌, Bool, if◌then◌else◌}
use Rattle.lt_term.specs.declared.last.Last.TheVariants as last
use Rattle.lt_term.specs.Process.{Process, eps, dead, con, raise, seq, loop, count, any, pri, par, assert, exist, catch, try, Choices, no_choice, choice}
use Rattle.lt_marks.specs.Marks.{con_at, seq_at, loop_at, count_at, any_at, pri_at, par_at, assert_at, exist_at, catch_at, try_at}
use Rattle.lt_marks.specs.declared.track.Track.{Track}
use Rattle.lt_marks.specs.declared.track.Track.TheVariants.{Eps, Dead, Con, Raise, Seq', Loop', Count', Any', Pri', Par', Assert', Exist', Catch', Try'}
use Rattle.lt_marks.specs.declared.track.Parts.{Parts}
use Rattle.lt_marks.specs.declared.track.Parts.TheVariants.{End, Part'}

-- the term at its beginning: no scope is entered, and no turn is done
abbrev mutual
  pub body : Track → Process ℕ
  body Eps = eps
  body Dead = dead
  body (Con m c) = con c
  body (Raise z) = raise z
  body (Seq' m p a q b) = seq (body a) (body b)
  body (Loop' m p t) = loop (body t)
  body (Count' m i p t) = count i 0 (body t)
  body (Any' m p ps) = any (choices_of ps)
  body (Pri' m p a q b) = pri (body a) (body b)
  body (Par' m p a q b) = par (body a) (body b)
  body (Assert' m c p t) = assert c (body t)
  body (Exist' m x p t) = exist x last.First (body t)
  body (Catch' m z p t q h) = catch z (body t) (body h)
  body (Try' m p t q h) = try (body t) (body h)

  pub choices_of : Parts → Choices ℕ
  choices_of End = no_choice
  choices_of (Part' w p t q ps) = choice w (body t) (choices_of ps)

-- what is still to be done
abbrev mutual
  pub standing : Track → Process ℕ
  standing Eps = eps
  standing Dead = dead
  standing (Con m c) = con_at m.at c
  standing (Raise z) = raise z
  standing (Seq' m p a q b) = seq_at m.at (body a) (body b) (standing a) (standing b)
  standing (Loop' m p t) = loop_at m.at (body t) (standing t)
  standing (Count' m i p t) = count_at m.at i (body t) (standing t)
  standing (Any' m p ps) = any_at m.at (choices_of ps) (standing_each ps)
  standing (Pri' m p a q b) = pri_at m.at (body a) (body b) (standing a) (standing b)
  standing (Par' m p a q b) = par_at m.at (body a) (body b) (standing a) (standing b)
  standing (Assert' m c p t) = assert_at m.at c (body t) (standing t)
  standing (Exist' m x p t) = exist_at m.at x (body t) (standing t)
  standing (Catch' m z p t q h) = catch_at m.at z (body t) (body h) (standing t) (standing h)
  standing (Try' m p t q h) = try_at m.at (body t) (body h) (standing t) (standing h)

  pub standing_each : Parts → List (Process ℕ)
  standing_each End = []
  standing_each (Part' w p t q ps) = standing t ∷ standing_each ps

-- what is to be done behind the leaf that was reached last, before the values of its instant are written
abbrev mutual
  pub next : Track → Process ℕ
  next Eps = eps
  next Dead = dead
  next (Con m c) = con_at m.next c
  next (Raise z) = raise z
  next (Seq' m p a q b) = seq_at m.next (body a) (body b) (next a) (next b)
  next (Loop' m p t) = loop_at m.next (body t) (next t)
  next (Count' m i p t) = count_at m.next i (body t) (next t)
  next (Any' m p ps) = any_at m.next (choices_of ps) (next_each ps)
  next (Pri' m p a q b) = pri_at m.next (body a) (body b) (next a) (next b)
  next (Par' m p a q b) = par_at m.next (body a) (body b) (next a) (next b)
  next (Assert' m c p t) = assert_at m.next c (body t) (next t)
  next (Exist' m x p t) = exist_at m.next x (body t) (next t)
  next (Catch' m z p t q h) = catch_at m.next z (body t) (body h) (next t) (next h)
  next (Try' m p t q h) = try_at m.next (body t) (body h) (next t) (next h)

  pub next_each : Parts → List (Process ℕ)
  next_each End = []
  next_each (Part' w p t q ps) = next t ∷ next_each ps

-- the bodies of the alternatives
abbrev pub body_each : Parts → List (Process ℕ)
body_each End = []
body_each (Part' w p t q ps) = body t ∷ body_each ps

-- a term at its beginning, or where it stands
abbrev pub begun : Bool → Track → Process ℕ
begun is_fresh t = if is_fresh then body t else standing t

abbrev pub begun_each : Bool → Parts → List (Process ℕ)
begun_each is_fresh ps = if is_fresh then body_each ps else standing_each ps

-- how many nodes a term has, each alternative counted for one more
abbrev mutual
  pub nodes : {C : Type 0} → Process C → ℕ
  nodes eps = 1
  nodes dead = 1
  nodes (con c) = 1
  nodes (raise z) = 1
  nodes (seq a b) = suc (nodes a + nodes b)
  nodes (loop t) = suc (nodes t)
  nodes (count i done t) = suc (suc (nodes t))
  nodes (any cs) = suc (nodes_of_each cs)
  nodes (pri a b) = suc (nodes a + nodes b)
  nodes (par a b) = suc (nodes a + nodes b)
  nodes (assert c t) = suc (nodes t)
  nodes (exist x v t) = suc (nodes t)
  nodes (catch z t h) = suc (nodes t + nodes h)
  nodes (try t h) = suc (nodes t + nodes h)

  pub nodes_of_each : {C : Type 0} → Choices C → ℕ
  nodes_of_each no_choice = 1
  nodes_of_each (choice w t cs) = suc (nodes t + nodes_of_each cs)
