-- Figures of what lists of the code have.
use Rattle.std.proofs.Common.{◌≡◌, ◌<◌, ◌+◌, ◌++◌, ℕ, zero, suc, List, [], ◌∷◌, length, length-append, map, take, get_or, refl, ap, sym, ◌∙◌, arith}
use Rattle.std.specs.List.{flat_map}
use Rattle.std.proofs.lemmas.List.{length-map}
use Rattle.lt_macros.specs.Expanded as x
use Rattle.lt_macros.specs.Nodes.{parts_count}
use Rattle.lt_macros.specs.Tree.{call, declared, expanded, parts, placed}
use Rattle.lt_macros.specs.inner.Figures.{Figure, arguments_figure, calls_figure, expanded_figure, expression_figure, first_figure, parts_figure, variables_figure}
use Rattle.lt_macros.specs.inner.Measured.{alternatives_figure}
use Rattle.lt_macros.specs.declared.tree.Call.{Call}
use Rattle.lt_macros.specs.declared.tree.Declared.{Declared}
use Rattle.lt_macros.specs.declared.tree.Placed.{Placed}
use Rattle.lt_macros.specs.declared.tree.Part.{Part}
use Rattle.lt_macros.specs.declared.tree.Parts.{Parts, out-Parts}
use Rattle.lt_macros.specs.inner.Built.{items_onto}
use Rattle.lt_macros.proofs.Built.{parts_list}

-- one more alternative
pub alternative_more : (f : Figure) (depth : ℕ) (ps : List Part) (i : ℕ) (p : Part) → i < length ps → p ≡ get_or ps i p
    → alternatives_figure f depth (take (i + 1) ps) ≡ alternatives_figure f depth (take i ps) + (expression_figure f 1 (placed p.weight) + expanded_figure f depth (expanded p.body.value))
alternative_more f depth [] i p h is = absurd (omega arith)
alternative_more f depth (q ∷ ps) zero p h is = omega (arith, ap (λ (r : Part). expression_figure f 1 (placed r.weight)) is, ap (λ (r : Part). expanded_figure f depth (expanded r.body.value)) is)
alternative_more f depth (q ∷ ps) (suc i) p h is =
    let next : suc i + 1 ≡ suc (i + 1) = omega arith in
    let more : alternatives_figure f depth (take (suc i + 1) (q ∷ ps)) ≡ expression_figure f 1 (placed q.weight) + (expanded_figure f depth (expanded q.body.value) + alternatives_figure f depth (take (i + 1) ps)) = ap (λ n. alternatives_figure f depth (take n (q ∷ ps))) next in
    omega (arith, more, alternative_more f depth ps i p (omega arith) is)

-- one more variable
pub variable_more : (f : Figure) (ds : List Declared) (i : ℕ) (d : Declared) → i < length ds → d ≡ get_or ds i d
    → variables_figure f (map declared (take (i + 1) ds)) ≡ variables_figure f (map declared (take i ds)) + first_figure f (declared d).first
variable_more f [] i d h is = absurd (omega arith)
variable_more f (e ∷ ds) zero d h is = omega (arith, ap (λ (r : Declared). first_figure f (declared r).first) is)
variable_more f (e ∷ ds) (suc i) d h is =
    let next : suc i + 1 ≡ suc (i + 1) = omega arith in
    let more : variables_figure f (map declared (take (suc i + 1) (e ∷ ds))) ≡ first_figure f (declared e).first + variables_figure f (map declared (take (i + 1) ds)) = ap (λ n. variables_figure f (map declared (take n (e ∷ ds)))) next in
    omega (arith, more, variable_more f ds i d (omega arith) is)

-- one more argument
pub argument_more : (f : Figure) (es : List Placed) (i : ℕ) (e : Placed) → i < length es → e ≡ get_or es i e
    → arguments_figure f (map placed (take (i + 1) es)) ≡ arguments_figure f (map placed (take i es)) + expression_figure f 1 (placed e)
argument_more f [] i e h is = absurd (omega arith)
argument_more f (d ∷ es) zero e h is = omega (arith, ap (λ (r : Placed). expression_figure f 1 (placed r)) is)
argument_more f (d ∷ es) (suc i) e h is =
    let next : suc i + 1 ≡ suc (i + 1) = omega arith in
    let more : arguments_figure f (map placed (take (suc i + 1) (d ∷ es))) ≡ expression_figure f 1 (placed d) + arguments_figure f (map placed (take (i + 1) es)) = ap (λ n. arguments_figure f (map placed (take n (d ∷ es)))) next in
    omega (arith, more, argument_more f es i e (omega arith) is)

-- one more run
pub call_more : (f : Figure) (cs : List Call) (i : ℕ) (c : Call) → i < length cs → c ≡ get_or cs i c
    → calls_figure f (map call (take (i + 1) cs)) ≡ calls_figure f (map call (take i cs)) + arguments_figure f (map placed c.arguments.items)
call_more f [] i c h is = absurd (omega arith)
call_more f (d ∷ cs) zero c h is = omega (arith, ap (λ (r : Call). arguments_figure f (map placed r.arguments.items)) is)
call_more f (d ∷ cs) (suc i) c h is =
    let next : suc i + 1 ≡ suc (i + 1) = omega arith in
    let more : calls_figure f (map call (take (suc i + 1) (d ∷ cs))) ≡ arguments_figure f (map placed d.arguments.items) + calls_figure f (map call (take (i + 1) cs)) = ap (λ n. calls_figure f (map call (take n (d ∷ cs)))) next in
    omega (arith, more, call_more f cs i c (omega arith) is)

-- the inputs that one more run gives
pub given_more : (cs : List Call) (i : ℕ) (c : Call) → i < length cs → c ≡ get_or cs i c
    → length (flat_map (λ (d : x.Call). d.names) (map call (take (i + 1) cs))) ≡ length (flat_map (λ (d : x.Call). d.names) (map call (take i cs))) + length c.names.items
given_more [] i c h is = absurd (omega arith)
given_more (d ∷ cs) zero c h is =
    omega (arith, length-append (map declared d.names.items) [], length-map d.names.items declared, ap (λ (r : Call). length r.names.items) is)
given_more (d ∷ cs) (suc i) c h is =
    let next : suc i + 1 ≡ suc (i + 1) = omega arith in
    let given : List Call → List x.Declared = λ ds. flat_map (λ (e : x.Call). e.names) (map call ds) in
    let more : length (given (take (suc i + 1) (d ∷ cs))) ≡ length (map declared d.names.items ++ given (take (i + 1) cs)) = ap (λ n. length (given (take n (d ∷ cs)))) next in
    omega (
      arith,
      more,
      length-append (map declared d.names.items) (given (take (i + 1) cs)),
      length-append (map declared d.names.items) (given (take i cs)),
      given_more cs i c (omega arith) is,
    )

listed : (f : Figure) (depth : ℕ) (ps : List Part) → parts_figure f depth (items_onto ps x.no_part) ≡ alternatives_figure f depth ps
listed f depth [] = refl
listed f depth (p ∷ ps) = ap (λ n. expression_figure f 1 (placed p.weight) + (expanded_figure f depth (expanded p.body.value) + n)) (listed f depth ps)

-- all alternatives are those of the tree
pub alternatives_are : (f : Figure) (depth : ℕ) (p : Parts) (items : List Part) → items ≡ (out-Parts p).items.items → parts_figure f depth (parts p) ≡ alternatives_figure f depth items
alternatives_are f depth p items is = ap (parts_figure f depth) (parts_list p) ∙ listed f depth (out-Parts p).items.items ∙ ap (alternatives_figure f depth) (sym is)

counted_are : (ps : List Part) → parts_count (items_onto ps x.no_part) ≡ length ps
counted_are [] = refl
counted_are (p ∷ ps) = ap suc (counted_are ps)

-- they are as many
pub alternatives_count : (p : Parts) (items : List Part) → items ≡ (out-Parts p).items.items → parts_count (parts p) ≡ length items
alternatives_count p items is = ap parts_count (parts_list p) ∙ counted_are (out-Parts p).items.items ∙ ap length (sym is)
