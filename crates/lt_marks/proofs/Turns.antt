-- How many turns of counted loops are done in tracks.
use Rattle.std.proofs.Common.{◌≢◌, ℕ, suc, List, [], ◌∷◌, ◌++◌, All, subst, arith}
use Rattle.std.proofs.lemmas.List.Elements.{All-head, All-tail}
use Rattle.lt_num.specs.declared.value.Value.{Value}
use Rattle.lt_term.specs.declared.last.Last.{Last}
use Rattle.lt_term.specs.Advanced.{advanced, advanced_each}
use Rattle.lt_term.specs.Counted.{IsDoneTo, AreDoneTo}
use Rattle.lt_term.specs.Offers.{TermLeaf, TermTree, offers_of}
use Rattle.lt_term.specs.Process.{Process, eps, dead, con, raise, seq, loop, count, any, pri, par, assert, exist, catch, try, Choices, no_choice, choice}
use Rattle.lt_term.specs.Tree.{nothing, go, Node, leaf_node}
use Rattle.lt_term.specs.Turns.{NextIsDoneTo, TurnsGrowByOne}
use Rattle.lt_marks.proofs.Nodes.{leaves_are_nodes}
use Rattle.lt_marks.specs.Turns.{NoTurnIsDone, StepsGrowByOne}
use Rattle.lt_marks.specs.View.{body, choices_of}
use Rattle.lt_marks.specs.declared.track.Track.{Track}
use Rattle.lt_marks.specs.declared.track.Track.TheVariants.{Eps, Dead, Con, Raise, Seq', Loop', Count', Any', Pri', Par', Assert', Exist', Catch', Try'}
use Rattle.lt_marks.specs.declared.track.Parts.{Parts}
use Rattle.lt_marks.specs.declared.track.Parts.TheVariants.{End, Part'}

module _ (k : ℕ) where
  mutual
    unbegun : (t : Track) → IsDoneTo k (body t)
    unbegun Eps = tt
    unbegun Dead = tt
    unbegun (Con m c) = tt
    unbegun (Raise z) = tt
    unbegun (Seq' m p a q b) = (unbegun a, unbegun b)
    unbegun (Loop' m p t) = unbegun t
    unbegun (Count' m i p t) = (omega arith, unbegun t)
    unbegun (Any' m p ps) = each_unbegun ps
    unbegun (Pri' m p a q b) = (unbegun a, unbegun b)
    unbegun (Par' m p a q b) = (unbegun a, unbegun b)
    unbegun (Assert' m c p t) = unbegun t
    unbegun (Exist' m x p t) = unbegun t
    unbegun (Catch' m z p t q h) = (unbegun t, unbegun h)
    unbegun (Try' m p t q h) = (unbegun t, unbegun h)

    each_unbegun : (ps : Parts) → AreDoneTo k (choices_of ps)
    each_unbegun End = tt
    each_unbegun (Part' w p t q ps) = (unbegun t, each_unbegun ps)

-- no turn is done by values
module _ (vs : List (ℕ × Value)) (k : ℕ) where
  mutual
    advanced-done : (p : Process ℕ) → IsDoneTo k p → IsDoneTo k (advanced vs p)
    advanced-done eps h = tt
    advanced-done dead h = tt
    advanced-done (con c) h = tt
    advanced-done (raise z) h = tt
    advanced-done (seq a b) h = (advanced-done a h.0, advanced-done b h.1)
    advanced-done (loop t) h = advanced-done t h
    advanced-done (count i done t) h = (h.0, advanced-done t h.1)
    advanced-done (any cs) h = advanced_each-done cs h
    advanced-done (pri a b) h = (advanced-done a h.0, advanced-done b h.1)
    advanced-done (par a b) h = (advanced-done a h.0, advanced-done b h.1)
    advanced-done (assert c t) h = advanced-done t h
    advanced-done (exist x v t) h = advanced-done t h
    advanced-done (catch z t b) h = (advanced-done t h.0, advanced-done b h.1)
    advanced-done (try t b) h = (advanced-done t h.0, advanced-done b h.1)

    advanced_each-done : (cs : Choices ℕ) → AreDoneTo k cs → AreDoneTo k (advanced_each vs cs)
    advanced_each-done no_choice h = tt
    advanced_each-done (choice w t cs) h = (advanced-done t h.0, advanced_each-done cs h.1)

-- what holds of all holds of one among them
among : {X : Type 0} (P : X → Type 0) (x : X) (xs ys : List X) → All P (xs ++ x ∷ ys) → P x
among P x [] ys h = All-head P x ys h
among P x (z ∷ xs) ys h = among P x xs ys (All-tail P z (xs ++ x ∷ ys) h)

leads_on : (cs : List ℕ) (ls : List (ℕ × Last)) (n : Process ℕ) → go cs ls n ≢ nothing
leads_on cs ls n e = cc

pub no_turn_is_done : NoTurnIsDone
no_turn_is_done k t = unbegun k t

pub steps_grow : TurnsGrowByOne → StepsGrowByOne
steps_grow grow k kinds p n before after values d h =
    let t : TermTree ℕ = offers_of kinds p in
    let l : TermLeaf ℕ = go h.found.constraints h.found.lasts n in
    let a = leaves_are_nodes t before.rest after.rest l (leads_on h.found.constraints h.found.lasts n) h.stands in
    let Q : List (Node ℕ (Process ℕ)) → Type 0 = All (NextIsDoneTo (suc k)) in
    advanced-done values (suc k) n (among (NextIsDoneTo (suc k)) (leaf_node l) a.0 a.1 (subst Q a.2 (grow k kinds p d)))
