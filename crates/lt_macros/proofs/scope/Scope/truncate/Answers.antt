use Rattle.std.proofs.Common.{◌≡◌, ◌≤◌, ℕ, List, ap, length, reverse, take, IsTrue, subst, sym, ◌∙◌, arith}
use Rattle.std.proofs.lemmas.List.{length-reverse}
use Rattle.lt_macros.specs.inner.Reading.{are_linked}
use Rattle.lt_macros.specs.inner.HeadNormalForm.{AddsTo}
use Rattle.lt_macros.specs.inner.Keyed.{keys}
use Rattle.lt_macros.specs.declared.scope.Entry.{Entry}
use Rattle.lt_macros.proofs.Adding.{adds_dropped, right_before}
use Rattle.lt_macros.proofs.Environments.{linked_front, taken_back}
use Rattle.lt_macros.proofs.Indexes.{keyed_take}
use Rattle.lt_macros.proofs.scope.Scope.truncate.Goals as goal

pub invariant_of-self : goal.invariant_of-self
invariant_of-self c =
    record {
      keyed = keyed_take c.args.len c.args.self.now.entries.items _ (keys c.args.self.now.index) _ c.truncate.ensures.items c.truncate-then-len.ensures (omega (arith, c.requires, length-reverse c.args.self.now.entries.items)) c.args.self.now.keyed;
      linked = subst (λ items. IsTrue (are_linked (reverse items))) (sym c.truncate.ensures.items) (linked_front c.args.len c.args.self.now.entries.items c.args.self.now.linked);
    }

back : (len : ℕ) (items cut : List Entry) → cut ≡ take len items → len ≤ length items → AddsTo (reverse cut) (reverse items)
back len items cut is h = subst (λ rows. AddsTo rows (reverse items)) (sym (ap reverse is ∙ taken_back len items h)) (adds_dropped _ (reverse items))

pub returns-then-len-clause-adds : goal.returns-then-len-clause-adds
returns-then-len-clause-adds c = back c.args.len c.args.self.now.entries.items _ c.truncate.ensures.items (omega (arith, c.requires, length-reverse c.args.self.now.entries.items))

pub returns-then-len-clause-right : goal.returns-then-len-clause-right
returns-then-len-clause-right c = λ right. right_before _ _ (back c.args.len c.args.self.now.entries.items _ c.truncate.ensures.items (omega (arith, c.requires, length-reverse c.args.self.now.entries.items))) right

pub returns-then-len-clause-rows : goal.returns-then-len-clause-rows
returns-then-len-clause-rows c = ap reverse c.truncate.ensures.items ∙ taken_back c.args.len c.args.self.now.entries.items (omega (arith, c.requires, length-reverse c.args.self.now.entries.items))
