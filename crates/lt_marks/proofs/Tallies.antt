-- What tracks keep of the trees of what they offer.
use Rattle.std.proofs.Common.{◌≡◌, ◌≢◌, ℕ, Bool, true, false, List, refl, ap, sym, ◌∙◌, subst, arith, ◌+◌, ◌*◌, []}
use Rattle.std.specs.Prelude.{None, Some}
use Rattle.std.specs.declared.option.Option.{Option}
use Rattle.lt_num.specs.declared.kind.Kind.{Kind}
use Rattle.lt_tree_size.specs.Tally.{nodes, vanishes, goes, raises, Counts}
use Rattle.lt_tree_size.specs.TallyView.{IsRaised, IsTally}
use Rattle.lt_tree_size.specs.declared.tally.Tally.{Tally}
use Rattle.lt_term.specs.Offers.{TermTree, in_turn, offers_of}
use Rattle.lt_tree_size.proofs.Public.{seq_row}
use Rattle.lt_term.specs.Process.{Process}
use Rattle.lt_term.specs.Tree.{branch, leaf, no_branch, ordered, vanish, nothing, Weight, weighted, with_leaves}
use Rattle.lt_term.specs.Size.{capped}
use Rattle.lt_marks.specs.Marks.{is_new, marked, con_at, seq_at, loop_at, count_at, any_at, pri_at, par_at, assert_at, exist_at, catch_at, try_at}
use Rattle.lt_marks.specs.Start.{IsUnbegun}
use Rattle.lt_marks.specs.Tallied.{IsTallyOf, IsRaisedBy, IsRaisedAt, IsRaisedIn, IsRaisedWhile, extent_in, extent_of, IsWhole, IsRest, IsTallied, HasTalliedParts, keeping}
use Rattle.lt_marks.specs.View.{body, choices_of, standing, standing_each, begun}
use Rattle.lt_marks.specs.declared.extent.Extent.{Extent}
use Rattle.lt_marks.specs.declared.track.Mark.{Mark}
use Rattle.lt_marks.specs.declared.track.Mark.TheVariants as mark
use Rattle.lt_marks.specs.declared.track.Marks.{Marks}
use Rattle.lt_marks.specs.declared.track.Track.{Track}
use Rattle.lt_marks.specs.declared.track.Track.TheVariants.{Eps, Dead, Con, Raise, Seq', Loop', Count', Any', Pri', Par', Assert', Exist', Catch', Try'}

-- What is known of a track whose nodes keep what is right.

pub whole_of : (t : Track) → IsTallied t → IsWhole (extent_of true t) (body t)
whole_of Eps h = tt
whole_of Dead h = tt
whole_of (Raise z) h = tt
whole_of t h = h.0

pub rest_of : (t : Track) → IsTallied t → IsRest (extent_of false t) t
rest_of Eps h = tt
rest_of Dead h = tt
rest_of (Raise z) h = tt
rest_of t h = h.1

pub parts_of : (t : Track) → IsTallied t → HasTalliedParts t
parts_of Eps h = tt
parts_of Dead h = tt
parts_of (Raise z) h = tt
parts_of t h = h.2

whole_tally : (x : Option Extent) (e : Extent) (p : Process ℕ) → x ≡ Some e → IsWhole x p → IsTallyOf e.tally p
whole_tally None e p q h = absurd (cc)
whole_tally (Some d) e p q h = let same : d ≡ e = cc in subst (λ y. IsTallyOf y.tally p) same h.0

rest_tally : (x : Option Extent) (e : Extent) (t : Track) → x ≡ Some e → IsRest x t → IsTallyOf e.tally (standing t)
rest_tally None e t q h = absurd (cc)
rest_tally (Some d) e t q h = let same : d ≡ e = cc in subst (λ y. IsTallyOf y.tally (standing t)) same h.0

-- a tally that is kept is right
pub kept_tally : (f : Bool) (t : Track) (e : Extent) → IsTallied t → extent_of f t ≡ Some e → IsTallyOf e.tally (begun f t)
kept_tally true t e h q = whole_tally (extent_of true t) e (body t) q (whole_of t h)
kept_tally false t e h q = rest_tally (extent_of false t) e t q (rest_of t h)

kept_by : (f : Bool) (m : Marks) (z : ℕ) (a : Track) → marked f m.at ≢ mark.Second → IsRaisedBy m.whole.raised z (body a) → IsRaisedAt m.at m.rest.raised z (body a) (standing a) → IsRaisedBy (extent_in f m).raised z (begun (is_new (marked f m.at)) a)
kept_by true m z a n w r = w
kept_by false m z a n w r = r n

-- a handler that isn't entered keeps how many leaves of its part raise its exception
pub kept_raised : (f : Bool) (m : Marks) (z : ℕ) (a : Track) (now : Mark) (new : Bool) → now ≡ marked f m.at → new ≡ is_new now → (now ≡ mark.Second → ⊥)
    → IsRaisedBy m.whole.raised z (body a) → IsRaisedAt m.at m.rest.raised z (body a) (standing a) → IsRaisedBy (extent_in f m).raised z (begun new a)
kept_raised f m z a now new e g n w r = subst (λ b. IsRaisedBy (extent_in f m).raised z (begun b a)) (sym (g ∙ ap is_new e)) (kept_by f m z a (λ d. n (e ∙ d)) w r)

found_by : (f : Bool) (at : Mark) (n z : ℕ) (a : Track) → marked f at ≢ mark.Second → IsRaisedAt (marked f at) n z (body a) (standing a) → IsRaisedBy n z (begun (is_new (marked f at)) a)
found_by f at n z a k r = r k

-- likewise what was found of it
pub found_raised : (f : Bool) (at : Mark) (n z : ℕ) (a : Track) (now : Mark) (new : Bool) → now ≡ marked f at → new ≡ is_new now → (now ≡ mark.Second → ⊥)
    → IsRaisedAt (marked f at) n z (body a) (standing a) → IsRaisedBy n z (begun new a)
found_raised f at n z a now new e g k r = subst (λ b. IsRaisedBy n z (begun b a)) (sym (g ∙ ap is_new e)) (found_by f at n z a (λ d. k (e ∙ d)) r)

-- what is kept of all that is to be done stays right where it stays
pub whole_stays : (t u : Track) → extent_of true u ≡ extent_of true t → body u ≡ body t → IsTallied t → IsWhole (extent_of true u) (body u)
whole_stays t u e b h = subst (λ p. IsWhole (extent_of true u) p) (sym b) (subst (λ x. IsWhole x (body t)) (sym e) (whole_of t h))

-- What becomes of a track that keeps another extent.

pub keeping-body : (f : Bool) (e : Extent) (t : Track) → body (keeping f e t) ≡ body t
keeping-body f e Eps = refl
keeping-body f e t = refl

pub keeping-standing : (f : Bool) (e : Extent) (t : Track) → standing (keeping f e t) ≡ standing t
keeping-standing true e Eps = refl
keeping-standing true e t = refl
keeping-standing false e Eps = refl
keeping-standing false e t = refl

pub keeping-parts : (f : Bool) (e : Extent) (t : Track) → HasTalliedParts t → HasTalliedParts (keeping f e t)
keeping-parts f e Eps h = tt
keeping-parts f e t h = h

raised_whole : (n : ℕ) (t : Track) → IsRaisedWhile true n t → IsRaisedIn n (body t)
raised_whole n (Catch' m z p t q h) r = r (λ e. cc)
raised_whole n t r = tt

-- what was found of all that is to be done
pub keeps_whole : (e : Extent) (t : Track) → IsTallyOf e.tally (body t) → IsRaisedWhile true e.raised t → IsWhole (extent_of true (keeping true e t)) (body (keeping true e t))
keeps_whole e Eps h r = tt
keeps_whole e Dead h r = tt
keeps_whole e (Raise z) h r = tt
keeps_whole e (Catch' m z p t q u) h r = (h, r (λ e. cc))
keeps_whole e t h r = (h, tt)

-- what was found of what is still to be done
pub keeps_rest : (e : Extent) (t : Track) → IsWhole (extent_of true t) (body t) → IsTallyOf e.tally (standing t) → IsRaisedWhile false e.raised t → HasTalliedParts t → IsTallied (keeping false e t)
keeps_rest e Eps w h r p = tt
keeps_rest e Dead w h r p = tt
keeps_rest e (Raise z) w h r p = tt
keeps_rest e (Con m c) w h r p = (w, (h, tt), tt)
keeps_rest e t w h r p = (w, (h, r), p)

-- What a track that has not begun keeps of all that is to be done is right of what is still to be done.

pub begins : (t : Track) → IsUnbegun t → standing t ≡ body t
begins Eps u = refl
begins Dead u = refl
begins (Con m c) u = ap (λ x. con_at x c) u
begins (Raise z) u = refl
begins (Seq' m p a q b) u = ap (λ x. seq_at x (body a) (body b) (standing a) (standing b)) u
begins (Loop' m p t) u = ap (λ x. loop_at x (body t) (standing t)) u
begins (Count' m i p t) u = ap (λ x. count_at x i (body t) (standing t)) u
begins (Any' m p ps) u = ap (λ x. any_at x (choices_of ps) (standing_each ps)) u
begins (Pri' m p a q b) u = ap (λ x. pri_at x (body a) (body b) (standing a) (standing b)) u
begins (Par' m p a q b) u = ap (λ x. par_at x (body a) (body b) (standing a) (standing b)) u
begins (Assert' m c p t) u = ap (λ x. assert_at x c (body t) (standing t)) u
begins (Exist' m x p t) u = ap (λ y. exist_at y x (body t) (standing t)) u
begins (Catch' m z p t q h) u = ap (λ x. catch_at x z (body t) (body h) (standing t) (standing h)) u
begins (Try' m p t q h) u = ap (λ x. try_at x (body t) (body h) (standing t) (standing h)) u

begins_raised : (e : Extent) (n : ℕ) (t : Track) → IsUnbegun t → IsRaisedWhile true n t → IsRaisedWhile false n (keeping true e t)
begins_raised e n (Catch' m z p t q h) u r = subst (λ x. IsRaisedAt x n z (body t) (standing t)) (sym u) r
begins_raised e n t u r = tt

pub keeps_both : (e : Extent) (t : Track) → IsUnbegun t → IsTallyOf e.tally (body t) → IsRaisedWhile true e.raised t → HasTalliedParts t → IsTallied (keeping false e (keeping true e t))
keeps_both e t u h r p =
    let stands = keeping-standing true e t ∙ begins t u in
    keeps_rest e (keeping true e t) (keeps_whole e t h r) (subst (IsTallyOf e.tally) (sym stands) h) (begins_raised e e.raised t u r) (keeping-parts true e t p)

-- a tally of trees is one of equal trees
pub over_kinds : (k : Tally) (u : List Kind → TermTree ℕ) (p : Process ℕ) → ((kinds : List Kind) → offers_of kinds p ≡ u kinds) → ((kinds : List Kind) → IsTally k (u kinds)) → IsTallyOf k p
over_kinds k u p e h = λ kinds. subst (IsTally k) (sym (e kinds)) (h kinds)

pub raised_over : (n z : ℕ) (u : List Kind → TermTree ℕ) (p : Process ℕ) → ((kinds : List Kind) → offers_of kinds p ≡ u kinds) → ((kinds : List Kind) → IsRaised n z (u kinds)) → IsRaisedBy n z p
raised_over n z u p e h = λ kinds. h kinds ∙ ap (λ t. capped (raises z t)) (sym (e kinds))

-- trees of the same numbers have the same tally
pub same_tally : (k : Tally) (t u : TermTree ℕ) (r : ℕ → ℕ) → Counts u (nodes t) (vanishes t) (goes t) r → IsTally k t → IsTally k u
same_tally k t u r c h = record {
  nodes_are = h.nodes_are ∙ ap capped (sym c.nodes_are);
  vanishes_are = h.vanishes_are ∙ ap capped (sym c.vanishes_are);
  goes_are = h.goes_are ∙ ap capped (sym c.goes_are);
}

-- a loop raises at its beginning what its part does
pub loop_raises : (z : ℕ) (b : Process ℕ) (t : TermTree ℕ) → raises z (ordered (with_leaves (in_turn b) t) (leaf vanish)) ≡ raises z t
loop_raises z b t = let row : raises z (with_leaves (in_turn b) t) ≡ raises z t + vanishes t * 0 = (seq_row b (leaf nothing) t).raises_are z in omega (arith, row)

pub count_raises : (z : ℕ) (b : Process ℕ) (x y : Weight ℕ) (t : TermTree ℕ) → raises z (weighted [] (branch x (with_leaves (in_turn b) t) (branch y (leaf vanish) no_branch))) ≡ raises z t
count_raises z b x y t = let row : raises z (with_leaves (in_turn b) t) ≡ raises z t + vanishes t * 0 = (seq_row b (leaf nothing) t).raises_are z in omega (arith, row)

-- where a loop has a turn at hand, it is asked where the run stands
pub inside_stands : (is_fresh : Bool) (m : Mark) → mark.Inside ≡ marked is_fresh m → is_fresh ≡ false
inside_stands true m e = absurd (cc)
inside_stands false m e = refl
