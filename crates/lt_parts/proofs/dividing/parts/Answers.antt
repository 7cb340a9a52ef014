use Rattle.std.proofs.Common.{◌≡◌, ◌∙◌, ◌++◌, ap, map, subst}
use Rattle.lt_formula.specs.View.{table_kinds}
use Rattle.lt_parts.specs.Outline.{conjuncts_of}
use Rattle.lt_parts.specs.Part.{AreParts, at}
use Rattle.lt_parts.specs.PartView.{piece_of}
use Rattle.lt_parts.proofs.Numbers.{all_parts}
use Rattle.lt_parts.proofs.dividing.parts.Goals as goal

pub returns : goal.returns
returns c =
    let table = c.args.table.now in
    let all = conjuncts_of (table_kinds table) (at table c.args.exp) in
    let are : map (at table) c.as_slice-rest.result.now ≡ all =
    ap (map (at table)) c.as_slice-rest.ensures.value ∙ c.in_ok-collect_conjuncts.ensures.spell ∙ ap (λ ns. map (at table) ns ++ all) c.new-conjuncts.ensures.items in
    subst (λ es. AreParts table es (map piece_of c.loop-exp.parts.items)) are (all_parts table c.as_slice-rest.result.now c.loop-exp.parts.items c.loop-exp.rest.now c.in_default.ensures.cases c.loop-exp.invariant)
