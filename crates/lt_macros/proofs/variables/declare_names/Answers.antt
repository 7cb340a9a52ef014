use Rattle.std.proofs.Common.{◌≡◌, ◌<◌, length, ap, ◌∙◌, arith}
use Rattle.lt_ast.specs.View.{word}
use Rattle.lt_ast.specs.Syntax.{Word}
use Rattle.lt_macros.specs.Expanded.{Declared}
use Rattle.lt_macros.specs.inner.Builder.{declares, names_at}
use Rattle.lt_macros.specs.Tree.{declared}
use Rattle.lt_macros.proofs.Building.{kept_both, names_kept, ready_kept}
use Rattle.lt_macros.proofs.Grouped.{name_declared, names_declared}
use Rattle.lt_macros.proofs.variables.declare_names.Goals as goal

pub loop-name-preserved : goal.loop-name-preserved
loop-name-preserved c =
    let made_of : Word → Declared = declares c.args.role (names_at c.args.builder.now c.args.environment) c.args.group.now in
    let more : c.loop-name.name-index < length c.deref-name-items.result.now = omega (arith, c.loop-name-test.true, c.loop-name.auto.name-index-end) in
    let made : declared c.in_ok-variable.variable ≡ made_of (word c.name-item.result) =
    c.in_ok-variable.ensures.made
    ∙ ap (λ names. declares c.args.role names c.args.group.now (word c.name-item.result)) (names_kept c.args.builder.now c.loop-name.builder c.args.environment c.loop-name.invariant.kept) in
    record {
      declared = name_declared made_of c.deref-name-items.result.now c.loop-name.name-index c.name-item.result c.loop-name.declared.items c.push.new.self.items c.in_ok-variable.variable _ more c.name-item.is c.in_ok-push.ensures.items made c.loop-name.invariant.declared;
      kept = kept_both _ _ _ c.loop-name.invariant.kept c.in_ok-variable.ensures.kept;
    }

pub declare_name-requires : goal.declare_name-requires
declare_name-requires c = ready_kept _ _ _ c.loop-name.invariant.kept c.requires

pub returns : goal.returns
returns c =
    let made_of : Word → Declared = declares c.args.role (names_at c.args.builder.now c.args.environment) c.args.group.now in
    record {
      made = names_declared made_of c.deref-name-items.result.now c.args.group.now.names.items.items c.loop-name.name-index _ _ c.loop-name-test.false c.deref-name-items.ensures.value c.loop-name.invariant.declared;
      kept = c.loop-name.invariant.kept;
    }
