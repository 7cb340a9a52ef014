use Rattle.std.proofs.Common.{◌≡◌, ◌≤◌, ◌-ℤ◌, sym, subst, to_z, of_z, w64, IsTrue, ℤ, unsigned_abs, refl, arith, rules}
use Rattle.std.proofs.lemmas.Bool.{leb-true}
use Rattle.std.proofs.lemmas.Int.{ints}
use Rattle.lt_num.specs.Bounds.{most_raw}
use Rattle.lt_linear.specs.Form.{is_raw, merged, raw_compared}
use Rattle.lt_linear.specs.Order.{are_in_order, is_coefficient}
use Rattle.lt_linear.proofs.Mergings.{both_hold, compared_there, ended}
use Rattle.lt_linear.proofs.Ordered.{compared_size, left_of, le_true, merged_order, right_of, written_order}
use Rattle.lt_linear.proofs.draft.Draft.set_comparison.Goals as goal

pub unwrap-requires : goal.unwrap-requires
unwrap-requires c = ended c.merge.result _ _ c.merge.ensures.told (compared_there (to_z w64 (of_z w64 c.args.factor)) c.args.a.terms.now c.args.b.terms.now)

pub returns-clause-order : goal.returns-clause-order
returns-clause-order c =
    λ below ha hb.
    let factor = to_z w64 (of_z w64 c.args.factor) in
    let ts = c.args.a.terms.now in
    let us = c.args.b.terms.now in
    let x = to_z w64 (of_z w64 c.args.a.constant) in
    let y = to_z w64 (of_z w64 c.args.b.constant) in
    let small : unsigned_abs factor ≤ 1_000_000 = let same : factor ≡ c.args.factor = search rules in subst (λ (z : ℤ). unsigned_abs z ≤ 1_000_000) (sym same) c.requires.factor in
    let left : IsTrue (are_in_order is_raw 0 below ts) = left_of (are_in_order is_raw 0 below ts) _ ha in
    let right : IsTrue (are_in_order is_raw 0 below us) = left_of (are_in_order is_raw 0 below us) _ hb in
    let due = merged_order is_raw is_coefficient (raw_compared factor) refl (compared_size factor small) below 0 ts us left right in
    let there = ended c.merge.result _ _ c.merge.ensures.told (compared_there factor ts us) in
    let written = written_order is_coefficient 0 below c.merge.result c.merge.new.into.items (merged (raw_compared factor) ts us) c.merge.ensures.told there due in
    let lx : unsigned_abs c.args.a.constant ≤ most_raw = leb-true (unsigned_abs c.args.a.constant) most_raw (right_of (are_in_order is_raw 0 below ts) _ ha) in
    let ly : unsigned_abs c.args.b.constant ≤ most_raw = leb-true (unsigned_abs c.args.b.constant) most_raw (right_of (are_in_order is_raw 0 below us) _ hb) in
    let ex : x ≡ c.args.a.constant = search rules in
    let ey : y ≡ c.args.b.constant = search rules in
    let apart : unsigned_abs (to_z w64 (of_z w64 (x -ℤ y))) ≤ 2_000_000_000_000 = omega (arith, ints, ex, ey, lx, ly) in
    both_hold (are_in_order is_coefficient 0 below c.merge.new.into.items) _ written (le_true _ _ apart)
