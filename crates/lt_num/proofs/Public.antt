-- What the proofs of other crates may cite of this one.
use Rattle.std.specs.Prelude.{◌≡◌, ◌≢◌, ◌↔◌, ℕ, ◌*◌, ◌^◌, ◌<◌, Bool, List, [], ◌∷◌, ℤ, pos, ◌+ℤ◌, ◌≤ℤ◌, ◌<ℤ◌, unsigned_abs}
use Rattle.std.specs.declared.result.Result.{Result}
use Rattle.lt_num.specs.Answer.{bounded, IsRounded}
use Rattle.lt_num.specs.Literal.{IsNumber, IsLiteral, signed_text}
use Rattle.lt_num.specs.Interval.{raws_of, RawsAreWithin}
use Rattle.lt_num.specs.Range.{HasPoints, PointsAreThose, PointsOfStepOne, count_of, point_at}
use Rattle.lt_num.specs.Rounding.{nearest}
use Rattle.lt_num.specs.declared.fault.Arith.{Arith}
use Rattle.lt_num.specs.declared.fixed.Fixed.{Fixed}
use Rattle.lt_num.specs.declared.range.Range.{Range}
use Rattle.lt_num.proofs.AnswerLemmas as answers
use Rattle.lt_num.proofs.NumberLemmas as numbers
use Rattle.lt_num.proofs.IntervalLemmas as intervals
use Rattle.lt_num.proofs.PointLemmas as points
-- how far a number is under another one
pub use Rattle.lt_num.proofs.IntervalLemmas.{gap_above, gap_none}
-- products and sums of whole numbers
pub use Rattle.lt_num.proofs.Products.{difference_times, sum_times, times_difference, times_sum}

-- the raw numbers of an interval are exactly those within it, in rising order
pub raws_are_within : RawsAreWithin
raws_are_within = intervals.raws_are_within

-- the raw numbers from one that isn't over the greatest: that one, and those from the next one on
pub raws_of-more : (low high : ℤ) → low ≤ℤ high → raws_of (record { low = low; high = high }) ≡ low ∷ raws_of (record { low = low +ℤ pos 1; high = high })
raws_of-more = intervals.raws_of-more

-- there are none from one on that is over the greatest
pub raws_of-none : (low high : ℤ) → high <ℤ low → raws_of (record { low = low; high = high }) ≡ []
raws_of-none = intervals.raws_of-none

-- the points of a range are exactly those that stand at a place and aren't over the high end, in rising order ..
pub points_are_those : PointsAreThose
points_are_those = points.points_are_those

-- .. and those of one with the step 1 are the raw numbers of an interval
pub points_of_step_one : PointsOfStepOne
points_of_step_one = points.points_of_step_one

-- a point stands at a place that is under the count of the points, and at one alone
pub place_fits : (range : Range) → HasPoints range → (k : ℕ) → (k < count_of range) ↔ (point_at range (pos k) ≤ℤ range.high)
place_fits range has k = (points.inside range has k, points.outside range has k)

pub places_are_apart : (range : Range) → HasPoints range → (i j : ℕ) → point_at range (pos i) ≡ point_at range (pos j) → i ≡ j
places_are_apart = points.apart

-- so many steps above the low end
pub point_is : (range : Range) → HasPoints range → (k : ℕ) → point_at range (pos k) ≡ range.low +ℤ pos (k * unsigned_abs range.step)
point_is = points.point_is

-- ten to a power isn't zero
pub ten-not_zero : (k : ℕ) → pos (10 ^ k) ≢ pos 0
ten-not_zero = answers.ten-not_zero

-- the answer of a quotient is that of its nearest number ..
pub rounded_is : (n d : ℤ) (answer : Result Fixed Arith) → d ≢ pos 0 → IsRounded n d answer → answer ≡ bounded (nearest n d)
rounded_is = answers.rounded_is

-- .. and that one is its answer, also of numbers that stand for n and d
pub is_rounded : (n d x y : ℤ) (answer : Result Fixed Arith) → answer ≡ bounded (nearest x y) → x ≡ n → y ≡ d → d ≢ pos 0 → IsRounded n d answer
is_rounded = answers.is_rounded

-- a number is a literal, with a minus before it or without
pub number_literal : (minus : Bool) (number : List ℕ) → IsNumber number → IsLiteral (signed_text minus number)
number_literal = numbers.number_literal
