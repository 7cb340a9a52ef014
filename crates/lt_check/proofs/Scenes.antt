-- A scenario, as the definitions see it.
use Rattle.std.proofs.Common.{◌≡◌, List, [], ◌∷◌, map, refl, ap, ◌∙◌, ℕ, ◌≤◌, Bool, true, false, IsTrue, ◌&&◌, ℤ, pos, ◌≤ℤ◌, unsigned_abs, arith, ◌+◌, suc, length, length-append}
use Rattle.lt_formula.specs.View.{table_kinds}
use Rattle.lt_term.specs.Configuration.{kinds_of_all, scene_kinds}
use Rattle.lt_term.specs.SceneView.{scene, variable}
use Rattle.lt_term.specs.View.{all_kinds, kinds_of}
use Rattle.lt_term.specs.declared.scenario.Scenario.{Scenario}
use Rattle.lt_term.specs.declared.variable.Var.{Var}
use Rattle.std.specs.Prelude.{int_le, int_lt, nat_le, not}
use Rattle.std.proofs.lemmas.Bool.Decides.{nat_tests}
use Rattle.std.proofs.lemmas.Int.{ints}
use Rattle.std.proofs.lemmas.List.Folds.{list_all-append}
use Rattle.lt_linear.specs.Form.{is_raw}
use Rattle.lt_num.specs.Bounds.{most_raw}
use Rattle.lt_solver.specs.Domains.{are_domains, is_domain}
use Rattle.lt_instant.specs.Solved.{drawn_ranges, ranges_of_all, marks_from, scope_of}
use Rattle.std.proofs.lemmas.List.{length-map, length-replicate}
use Rattle.lt_formula.specs.Kinds.{Kinds, variables_of}
use Rattle.lt_formula.specs.Limits.{most_variables}
use Rattle.lt_term.specs.Scene.{Variable, Scene}
use Rattle.lt_term.specs.Tree.{Lasts}

-- the kinds of variables
pub kinds-view : (vars : List Var) → kinds_of vars ≡ kinds_of_all (map variable vars)
kinds-view [] = refl
kinds-view (v ∷ vs) = ap (λ ks. v.kind ∷ ks) (kinds-view vs)

-- the kinds of a scenario's variables
pub scene_kinds-view : (s : Scenario) → all_kinds s.inputs.items s.outputs.items s.locals.items ≡ scene_kinds (scene s)
scene_kinds-view s = λ i. record { inputs = kinds-view s.inputs.items i; outputs = kinds-view s.outputs.items i; locals = kinds-view s.locals.items i }

-- the kinds of its table's variables
pub table_kinds-view : (s : Scenario) → table_kinds s.table ≡ scene_kinds (scene s)
table_kinds-view s = s.kinds ∙ scene_kinds-view s

both : (a b : Bool) → IsTrue a → IsTrue b → IsTrue (a && b)
both true b h k = k
both false b h k = h

under_is : (a b : ℤ) → a ≤ℤ b → IsTrue (not (int_lt b a))
under_is a b h = grind (arith, ints)

from_is : (a b : ℤ) → a ≤ℤ b → IsTrue (int_le a b)
from_is a b h = grind (arith, ints)

few_is : (a b : ℕ) → a ≤ b → IsTrue (nat_le a b)
few_is a b h = grind (arith, nat_tests)

is_small : (raw : ℤ) → unsigned_abs raw ≤ most_raw → IsTrue (is_raw raw)
is_small raw h = few_is (unsigned_abs raw) most_raw h

domain_is : (v : Var) → IsTrue (is_domain v.range)
domain_is v =
    let r = v.range in
    let ends = both (is_raw r.high) (is_raw r.step) (is_small r.high v.sound.high) (is_small r.step v.sound.step) in
    let sizes = both (is_raw r.low) (is_raw r.high && is_raw r.step) (is_small r.low v.sound.low) ends in
    let steps = both (int_le (pos 1) r.step) (is_raw r.low && (is_raw r.high && is_raw r.step)) (from_is (pos 1) r.step v.sound.points.step) sizes in
    both (not (int_lt r.high r.low)) (int_le (pos 1) r.step && (is_raw r.low && (is_raw r.high && is_raw r.step))) (under_is r.low r.high v.sound.points.some) steps

domains_of_all : (vs : List Var) → IsTrue (are_domains (ranges_of_all (map variable vs)))
domains_of_all [] = refl
domains_of_all (v ∷ vs) = both (is_domain v.range) (are_domains (ranges_of_all (map variable vs))) (domain_is v) (domains_of_all vs)

pub drawn_domains : (s : Scenario) → IsTrue (are_domains (drawn_ranges (scene s)))
drawn_domains s =
    let outputs = ranges_of_all (scene s).outputs in
    let locals = ranges_of_all (scene s).locals in
    list_all-append is_domain outputs locals ∙ both (are_domains outputs) (are_domains locals) (domains_of_all s.outputs.items) (domains_of_all s.locals.items)

marks_len : (ls : Lasts) (x : ℕ) (vs : List Variable) → length (marks_from ls x vs) ≡ length vs
marks_len ls x [] = refl
marks_len ls x (v ∷ vs) = ap suc (marks_len ls (suc x) vs)

-- a scope has a mark for each range
pub scope_len : (s : Scene) (ls : Lasts) → length (scope_of s ls) ≡ length (drawn_ranges s)
scope_len s ls = let h = marks_len ls 0 s.locals in simp (length-append, length-map, length-replicate) (omega (arith, h))

-- a scenario has few outputs and locals
pub variables_few : (s : Scenario) → variables_of (table_kinds s.table) ≤ most_variables
variables_few s = omega (arith, ap (λ (ks : Kinds). length ks.outputs) s.kinds, ap (λ (ks : Kinds). length ks.locals) s.kinds, length-map s.outputs.items (λ v. v.kind), length-map s.locals.items (λ v. v.kind), s.few_drawn)

-- there are as many ranges as outputs and locals
pub ranges_len : (s : Scenario) → length (drawn_ranges (scene s)) ≡ length s.outputs.items + length s.locals.items
ranges_len s = simp (length-append, length-map) refl

pub ranges_few : (s : Scenario) → length (drawn_ranges (scene s)) ≤ most_variables
ranges_few s = let h = s.few_drawn in simp (length-append, length-map) (omega (arith, h))
