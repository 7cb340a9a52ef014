use Rattle.std.proofs.Common.{◌≡◌, ◌∙◌, ℕ, Bool, false, true, List, ℤ, to_z, of_z, w64, arith}
use Rattle.std.proofs.lemmas.Int.{ints}
use Rattle.lt_formula.proofs.Places.{lt_false}
use Rattle.lt_formula.specs.Solution.{comes_before}
use Rattle.lt_num.specs.declared.interval.Interval.{Interval}
use Rattle.lt_solver.specs.inner.Classified.{passes}
use Rattle.lt_solver.specs.inner.Drawing.{Passes, place_of}
use Rattle.lt_solver.specs.inner.Ends.{AreEnds}
use Rattle.lt_solver.proofs.Draws.{place_stays, up_from}
use Rattle.lt_solver.proofs.Scaled.{box_long}
use Rattle.lt_solver.proofs.possible.are_ends_found.Goals as goal

pub is_first_found-requires-2-clause-places : goal.is_first_found-requires-2-clause-places
is_first_found-requires-2-clause-places c = c.else-recall.auto.highest ∙ box_long c.args.current.now c.args.highest.now c.requires.highest.0

pub is_first_found-requires-clause-first : goal.is_first_found-requires-clause-first
is_first_found-requires-clause-first c other p =
    let low = c.args.part.low in
    let part = c.requires.part in
    let stays = place_stays c.args.scales.now c.args.current.now c.args.i c.requires.scaled c.requires.within low (part.0, omega (arith, ints, part.1, part.2)) in
    let over = (c.requires.all other p).0 in
    lt_false (place_of other c.args.i) (to_z w64 (of_z w64 low)) (omega (arith, ints, stays, over))

pub is_first_found-requires-2-clause-first : goal.is_first_found-requires-2-clause-first
is_first_found-requires-2-clause-first c other p =
    let high = c.args.part.high in
    let part = c.requires.part in
    let stays = place_stays c.args.scales.now c.args.current.now c.args.i c.requires.scaled c.requires.within high (omega (arith, ints, part.0, part.1), part.2) in
    let under = (c.requires.all other p).1 in
    lt_false (to_z w64 (of_z w64 high)) (place_of other c.args.i) (omega (arith, ints, stays, under))

-- Where none comes before the one upward, nor before the other downward, all places lie between theirs.
are_ends : (test : List ℤ → Bool) (box : List Interval) (i : ℕ) (lowest highest : List ℤ) → Passes test box lowest → Passes test box highest
    → ((other : List ℤ) → Passes test box other → comes_before false (place_of other i) (place_of lowest i) ≡ false)
    → ((other : List ℤ) → Passes test box other → comes_before true (place_of other i) (place_of highest i) ≡ false) → AreEnds test box i lowest highest
are_ends test box i lowest highest p q low high = (p, (q, (λ ks r. (up_from (place_of ks i) (place_of lowest i) (low ks r), up_from (place_of highest i) (place_of ks i) (high ks r)))))

pub keep_ends-requires-clause-ends : goal.keep_ends-requires-clause-ends
keep_ends-requires-clause-ends c =
    are_ends (passes c.args.space.now c.args.scales.now) c.args.current.now c.args.i c.is_first_found.new.places c.is_first_found-2.new.places
    (c.is_first_found.ensures.found c.if-not-is_first_found.false) (c.is_first_found-2.ensures.found c.if-not-is_first_found-2.false)
    (c.is_first_found.ensures.first c.if-not-is_first_found.false) (c.is_first_found-2.ensures.first c.if-not-is_first_found-2.false)

pub returns-then-recall-2-clause-ends : goal.returns-then-recall-2-clause-ends
returns-then-recall-2-clause-ends c so =
    are_ends (passes c.args.space.now c.args.scales.now) c.args.current.now c.args.i c.is_first_found.new.places c.is_first_found-2.new.places
    (c.is_first_found.ensures.found c.if-not-is_first_found.false) (c.is_first_found-2.ensures.found c.if-not-is_first_found-2.false)
    (c.is_first_found.ensures.first c.if-not-is_first_found.false) (c.is_first_found-2.ensures.first c.if-not-is_first_found-2.false)

pub returns-else-recall-2-clause-ends : goal.returns-else-recall-2-clause-ends
returns-else-recall-2-clause-ends c so =
    are_ends (passes c.args.space.now c.args.scales.now) c.args.current.now c.args.i c.is_first_found.new.places c.is_first_found-2.new.places
    (c.is_first_found.ensures.found c.if-not-is_first_found.false) (c.is_first_found-2.ensures.found c.if-not-is_first_found-2.false)
    (c.is_first_found.ensures.first c.if-not-is_first_found.false) (c.is_first_found-2.ensures.first c.if-not-is_first_found-2.false)
