use Rattle.std.proofs.Common.{◌≡◌, ◌≤◌, ◌+◌, false, [], drop, length, map, ap, sym, subst, ◌∙◌, arith}
use Rattle.std.proofs.lemmas.List.Elements.{All-nil}
use Rattle.lt_ast.specs.View.{declaration, word}
use Rattle.lt_macros.specs.Expansion.{is_wanted, node_among}
use Rattle.lt_macros.specs.Answer.{asked_name}
use Rattle.lt_macros.specs.inner.Asking.{AreThere, runnables}
use Rattle.lt_macros.specs.inner.Handing.{AreRight}
use Rattle.lt_macros.specs.inner.Reading.{environment, meant}
use Rattle.lt_macros.specs.inner.Rows.{rows}
use Rattle.lt_macros.proofs.Adding.{adds_length}
use Rattle.lt_macros.proofs.Environments.{environment_zero}
use Rattle.lt_macros.proofs.Passed.{exceptions_passed, macro_passed, node_passed, there_same, within_same}
use Rattle.lt_macros.proofs.Runs.{there_more, there_pushed}
use Rattle.lt_macros.proofs.declarations.asked_node.Goals as goal
use Rattle.lt_macros.proofs.declarations.asked_node.Goals.{in-Node+else-is_wanted+in_ok-push-in-Node, in-Macro+in_ok-environment-in-Macro, in-Exceptions+in_ok-environment-in-Exceptions}

pub loop-decl-init : goal.loop-decl-init
loop-decl-init c =
    let none : c.new-before.result.items ≡ [] = c.new-before.ensures.items in
    record {
      node = λ d i. node_among (runnables d (rows c.args.scope.now) (none i)) (environment_zero (meant d) (rows c.args.scope.now) i) (asked_name c.args.wanted) (map declaration c.args.decls.now);
      within = omega arith;
      there = subst (AreThere (length (rows c.args.scope.now))) (sym none) (All-nil (λ y. y.environment ≤ length (rows c.args.scope.now)));
      right = c.requires.right;
    }

pub loop-decl-preserved : goal.loop-decl-preserved
loop-decl-preserved c =
    let wanted = asked_name c.args.wanted in
    let decls = c.args.decls.now in
    let place = c.loop-decl.decl-index in
    let old = rows c.loop-decl.scope in
    let ds = c.loop-decl.before.items in
    let k = c.loop-decl.environment in
    let rest = map declaration (drop (place + 1) decls) in
    let so_far = c.loop-decl.invariant in
    elim c.match-decl.branch [
      | in-Node+else-is_wanted+in_ok-push-in-Node w ↦
          let new = w.push.new.self.items in
          let other : is_wanted wanted (word w.in-Node.node.name) ≡ false = sym w.is_wanted.ensures ∙ w.if-is_wanted.false in
          record {
            node = λ d.
                (λ i. node_among (runnables d (rows (w.scope-is i)) ((w.before-is i).items)) (environment (meant d) (rows (w.scope-is i)) (w.environment-is i)) wanted rest)
                ∙ node_passed d old ds new _ wanted decls place c.decl-item.result _ c.loop-decl-test.true c.decl-item.is w.in-Node.is other w.in_ok-push-in-Node.ensures.items (so_far.node d);
            within = within_same _ _ _ _ w.scope-is w.environment-is so_far.within;
            there = there_same _ _ _ _ w.scope-is (ap (λ v. v.items) w.before-is) (there_pushed (length old) ds new _ w.in_ok-push-in-Node.ensures.items so_far.there so_far.within);
            right = subst (λ s. AreRight (rows s)) (sym w.scope-is) so_far.right;
          }
      | in-Macro+in_ok-environment-in-Macro w ↦
          let new = rows w.declare.new.scope in
          let made = w.in_ok-environment-in-Macro.ensures in
          record {
            node = λ d.
                (λ i. node_among (runnables d (rows (w.scope-is i)) ((w.before-is i).items)) (environment (meant d) (rows (w.scope-is i)) (w.environment-is i)) wanted rest)
                ∙ macro_passed d old new ds k w.in_ok-environment-in-Macro.environment wanted decls place c.decl-item.result _ _ c.loop-decl-test.true c.decl-item.is w.in-Macro.is made.adds so_far.there (made.denotation (meant d)) (so_far.node d);
            within = within_same _ _ _ _ w.scope-is w.environment-is made.within;
            there = there_same _ _ _ _ w.scope-is (ap (λ v. v.items) w.before-is) (there_more (length old) (length new) ds (adds_length old new made.adds) so_far.there);
            right = subst (λ s. AreRight (rows s)) (sym w.scope-is) made.right;
          }
      | in-Exceptions+in_ok-environment-in-Exceptions w ↦
          let new = rows w.put_exceptions.new.scope in
          let made = w.in_ok-environment-in-Exceptions.ensures in
          record {
            node = λ d.
                (λ i. node_among (runnables d (rows (w.scope-is i)) ((w.before-is i).items)) (environment (meant d) (rows (w.scope-is i)) (w.environment-is i)) wanted rest)
                ∙ exceptions_passed d old new ds k w.in_ok-environment-in-Exceptions.environment wanted decls place c.decl-item.result _ _ c.loop-decl-test.true c.decl-item.is w.in-Exceptions.is made.adds so_far.there (made.denotation (meant d)) (so_far.node d);
            within = within_same _ _ _ _ w.scope-is w.environment-is made.within;
            there = there_same _ _ _ _ w.scope-is (ap (λ v. v.items) w.before-is) (there_more (length old) (length new) ds (adds_length old new made.adds) so_far.there);
            right = subst (λ s. AreRight (rows s)) (sym w.scope-is) made.right;
          }
    ]
