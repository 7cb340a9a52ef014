use Rattle.std.proofs.Common.{◌≡◌, sym, subst, to_z, of_z, w64, IsTrue, Option, Some, ℤ, refl, rules}
use Rattle.lt_linear.specs.Form.{all_pass, is_raw, merged}
use Rattle.lt_linear.specs.Order.{are_in_order}
use Rattle.lt_linear.specs.inner.Merging.{combined, is_usable}
use Rattle.lt_linear.proofs.Mergings.{all_from, both_hold, combined_passes, merged_passes, number_passes, written_passes}
use Rattle.lt_linear.proofs.Ordered.{left_of, merged_order, written_order}
use Rattle.lt_linear.proofs.draft.Draft.set_by.Goals as goal

pub merge-requires-clause-left : goal.merge-requires-clause-left
merge-requires-clause-left c = all_from (is_usable c.args.operation) c.requires.usable c.args.a.terms.now

pub merge-requires-clause-right : goal.merge-requires-clause-right
merge-requires-clause-right c = all_from (is_usable c.args.operation) c.requires.usable c.args.b.terms.now

pub returns-in-Some-clause-order : goal.returns-in-Some-clause-order
returns-in-Some-clause-order c =
    λ below ha hb.
    let f = combined c.args.operation in
    let ts = c.args.a.terms.now in
    let us = c.args.b.terms.now in
    let x = to_z w64 (of_z w64 c.args.a.constant) in
    let y = to_z w64 (of_z w64 c.args.b.constant) in
    let each = combined_passes c.args.operation c.requires.usable in
    let raw : to_z w64 (of_z w64 c.in-Some.constant) ≡ c.in-Some.constant = search rules in
    let is : f x y ≡ Some c.in-Some.constant = sym c.in-Some.ensures in
    let here : IsTrue (is_raw c.in-Some.constant) = subst (λ (o : Option ℤ). IsTrue (number_passes is_raw o)) is (each x y) in
    let left : IsTrue (are_in_order is_raw 0 below ts) = left_of (are_in_order is_raw 0 below ts) _ ha in
    let right : IsTrue (are_in_order is_raw 0 below us) = left_of (are_in_order is_raw 0 below us) _ hb in
    let due = merged_order is_raw is_raw f refl (λ a b p q. each a b) below 0 ts us left right in
    let written = written_order is_raw 0 below c.merge.result c.merge.new.into.items (merged f ts us) c.merge.ensures.told c.if-is_none.ensures due in
    both_hold (are_in_order is_raw 0 below c.merge.new.into.items) _ written (subst (λ (z : ℤ). IsTrue (is_raw z)) (sym raw) here)

-- the numbers of a form that is there are within their bounds
pub returns-in-Some-clause-bounded : goal.returns-in-Some-clause-bounded
returns-in-Some-clause-bounded c =
    let f = combined c.args.operation in
    let ts = c.args.a.terms.now in
    let us = c.args.b.terms.now in
    let x = to_z w64 (of_z w64 c.args.a.constant) in
    let y = to_z w64 (of_z w64 c.args.b.constant) in
    let each = combined_passes c.args.operation c.requires.usable in
    let raw : to_z w64 (of_z w64 c.in-Some.constant) ≡ c.in-Some.constant = search rules in
    let is : f x y ≡ Some c.in-Some.constant = sym c.in-Some.ensures in
    let here : IsTrue (is_raw c.in-Some.constant) = subst (λ (o : Option ℤ). IsTrue (number_passes is_raw o)) is (each x y) in
    let written : IsTrue (all_pass is_raw c.merge.new.into.items) = written_passes is_raw c.merge.result c.merge.new.into.items (merged f ts us) c.merge.ensures.told c.if-is_none.ensures (merged_passes is_raw f each ts us) in
    both_hold _ (all_pass is_raw c.merge.new.into.items) (subst (λ (z : ℤ). IsTrue (is_raw z)) (sym raw) here) written
