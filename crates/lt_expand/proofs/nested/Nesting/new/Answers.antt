use Rattle.std.proofs.Common.{◌≤◌, ◌<◌, ◌≡◌, ◌∙◌, ◌++◌, [], ◌∷◌, Some, ap, arith, get_or, length, map, min, rules, string_bytes, subst, sym, take}
use Rattle.std.proofs.lemmas.List.{length-map, length-take-le, take_all}
use Rattle.std.proofs.lemmas.Map.Text.{hash_map_updates_text}
use Rattle.lt_ast.specs.View.{declaration, program as declarations, run, word}
use Rattle.lt_types.specs.Environment.{at_start}
use Rattle.lt_types.specs.Typing.{AreDeclarations}
use Rattle.lt_expand.specs.Nested.{counted_runs}
use Rattle.lt_expand.specs.declared.nested.Nested as code
use Rattle.lt_expand.proofs.Nests.{IsRead, counted_after, read_node, read_other, read_whole}
use Rattle.lt_expand.proofs.Preorders.{taken}
use Rattle.lt_expand.proofs.nested.Nesting.new.Goals as goal
use Rattle.lt_expand.proofs.nested.Nesting.new.Goals.{in-Node+in_ok-name+in-Ok, in_default}

pub returns : goal.returns
returns c =
    let typed = c.args.typed.now in
    let ds = declarations typed.program in
    let all : length typed.program.decls.items ≤ c.loop-place.place = search rules in
    let whole : IsRead ds c.loop-place.nodes = subst (λ xs. IsRead (map declaration xs) c.loop-place.nodes) (take_all c.loop-place.place typed.program.decls.items all) c.loop-place.invariant in
    let well : AreDeclarations (at_start typed.decimals) ds = subst (λ p. AreDeclarations (at_start typed.decimals) (declarations p)) c.program.ensures.same c.program.ensures.typed.0 in
    let told = read_whole (at_start typed.decimals) ds c.loop-place.nodes well whole in
    record { places = told.0; runs = told.1 }

pub loop-place-preserved : goal.loop-place-preserved
loop-place-preserved c =
    let items = c.args.typed.now.program.decls.items in
    let at = c.loop-place.place in
    let same : c.deref-decl-items.result.now ≡ items = c.deref-decl-items.ensures.value ∙ ap (λ p. p.decls.items) c.program.ensures.same in
    let fits : at < length items = subst (λ xs. at < length xs) same c.loop-place-test.true in
    let is : c.decl-item.result ≡ get_or items at c.decl-item.result = c.decl-item.is ∙ ap (λ xs. get_or xs at c.decl-item.result) same in
    let ds = map declaration (take at items) in
    let many : length ds ≡ at = length-map (take at items) declaration ∙ length-take-le at items (omega (arith, fits)) in
    let next : IsRead (ds ++ declaration c.decl-item.result ∷ []) c.match-decl.nodes = elim c.match-decl.branch [
      | in-Node+in_ok-name+in-Ok w ↦ (
          let key = w.in_ok-name.name in
          let name : string_bytes key ≡ (word w.in-Node.node.name).text = search rules in
          let n : code.Nested = record { place = at; runs = w.counted_runs-runs.result } in
          let runs : w.deref.result.now ≡ w.in-Node.node.runs.items = search rules in
          let more = w.counted_runs-runs.ensures.told (counted_after [] ds) c.loop-place.invariant.told ∙ ap (λ rs. min (counted_runs (counted_after [] ds) (map run rs)) 17) runs in
          let made = hash_map_updates_text (string_bytes key) c.loop-place.nodes w.insert.new.self (Some n) w.in-Ok.ensures.updates in
          subst (IsRead (ds ++ declaration c.decl-item.result ∷ [])) (sym w.nodes-is)
          (subst (λ d. IsRead (ds ++ declaration d ∷ []) w.insert.new.self) (sym w.in-Node.is)
          (read_node ds w.in-Node.node n (string_bytes key) c.loop-place.nodes w.insert.new.self c.loop-place.invariant name made (sym many) more))
          )
      | in_default w ↦ subst (IsRead (ds ++ declaration c.decl-item.result ∷ [])) (sym w.nodes-is) (read_other ds c.decl-item.result c.loop-place.nodes w.in_default.not-Node c.loop-place.invariant)
    ] in
    subst (λ xs. IsRead xs c.match-decl.nodes) (sym (taken declaration items at c.decl-item.result fits is)) next
