use Rattle.std.proofs.Common.{◌≡◌, ◌<◌, ◌∙◌, length, get_or, true, false, not, nat_lt, vec_len, ap, subst, rules}
use Rattle.lt_ast.specs.View.{word}
use Rattle.lt_macros.specs.Answer.{asked_name}
use Rattle.lt_macros.specs.Expansion.{is_wanted}
use Rattle.lt_expand.proofs.Asked.{IsPassed, not_empty, left_found, left_more, passed_node, passed_other}
use Rattle.lt_expand.proofs.nested.has_runs.Goals as goal
use Rattle.lt_expand.proofs.nested.has_runs.Goals.{in-Node+else-is_wanted, in_default}

pub returns-then-is_wanted : goal.returns-then-is_wanted
returns-then-is_wanted c =
    let items = c.args.typed.now.program.decls.items in
    let at = c.loop-decl.decl-index in
    let same : c.deref-decl-items.result.now ≡ items = c.deref-decl-items.ensures.value ∙ ap (λ p. p.decls.items) c.program.ensures.same in
    let fits : at < length items = subst (λ xs. at < length xs) same c.loop-decl-test.true in
    let is : c.decl-item.result ≡ get_or items at c.decl-item.result = c.decl-item.is ∙ ap (λ xs. get_or xs at c.decl-item.result) same in
    let asked : is_wanted (asked_name c.args.wanted) (word c.in-Node.node.name) ≡ true = search rules in
    let some : not c.is_empty.result ≡ nat_lt 0 (length c.in-Node.node.runs.items) = ap not c.is_empty.ensures ∙ not_empty (vec_len c.in-Node.node.runs) (length c.in-Node.node.runs.items) c.in-Node.node.runs.ok.0 in
    some ∙ left_found (asked_name c.args.wanted) items at c.decl-item.result c.in-Node.node fits is c.loop-decl.invariant c.in-Node.is asked

pub loop-decl-preserved : goal.loop-decl-preserved
loop-decl-preserved c =
    let items = c.args.typed.now.program.decls.items in
    let at = c.loop-decl.decl-index in
    let wanted = asked_name c.args.wanted in
    let same : c.deref-decl-items.result.now ≡ items = c.deref-decl-items.ensures.value ∙ ap (λ p. p.decls.items) c.program.ensures.same in
    let fits : at < length items = subst (λ xs. at < length xs) same c.loop-decl-test.true in
    let is : c.decl-item.result ≡ get_or items at c.decl-item.result = c.decl-item.is ∙ ap (λ xs. get_or xs at c.decl-item.result) same in
    let passed : IsPassed wanted c.decl-item.result = elim c.match-decl.branch [
      | in-Node+else-is_wanted w ↦ (
          let unasked : is_wanted wanted (word w.in-Node.node.name) ≡ false = search rules in
          passed_node wanted c.decl-item.result w.in-Node.node w.in-Node.is unasked
          )
      | in_default w ↦ passed_other wanted c.decl-item.result w.in_default.not-Node
    ] in
    left_more wanted items at c.decl-item.result fits is c.loop-decl.invariant passed
