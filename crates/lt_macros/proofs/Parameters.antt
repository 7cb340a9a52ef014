-- The parameters of a macro as the code has them.
use Rattle.std.proofs.Common.{◌≡◌, ℕ, suc, ◌+◌, ◌<◌, List, ◌∷◌, get_or, drop, length, map, refl, ap, sym, ◌∙◌, arith, drop-cons}
use Rattle.std.proofs.lemmas.Grind.{common_steps}
use Rattle.lt_ast.specs.Syntax as s
use Rattle.lt_ast.specs.Syntax.{Macro, Meaning, Parameters}
use Rattle.lt_ast.specs.inner.Lists.{groups_of}
use Rattle.lt_ast.specs.inner.Rows.{group_of}
use Rattle.lt_ast.specs.View.{groupings, macro as macro_view, meaning, parameters as parameters_held, word}
use Rattle.lt_ast.specs.declared.group.Groups.{Groups, out-Groups}
use Rattle.lt_ast.specs.declared.trace.MacroDecl.{MacroDecl, MacroDecl', out-MacroDecl, view-MacroDecl-params, Held-MacroDecl-params, MacroDecl-params-None', MacroDecl-params-Some'}
use Rattle.lt_ast.proofs.Public.{groups_list}
use Rattle.lt_macros.specs.Denotation.{groups_names}
use Rattle.lt_macros.specs.inner.Parameters.{parameters_view}
use denote.Hole.Carrier.{out}

-- the next one
pub drop_next : {X : Type 0} (xs : List X) (i : ℕ) (x : X) → i < length xs → x ≡ get_or xs i x → drop i xs ≡ x ∷ drop (i + 1) xs
drop_next xs i x h is = let next : suc i ≡ i + 1 = omega arith in drop-cons xs i x h ∙ (λ j. sym is j ∷ drop (next j) xs)

-- the names of a list of groups
pub groups_names_list : (g : Groups) → groups_names (groupings g) ≡ groups_names (groups_of (map group_of (out-Groups g).items.items))
groups_names_list g = ap groups_names (groups_list g)

pub ruleset names = (common_steps, drop_next, groups_names_list)

parameters_held_seen : (ps : Held-MacroDecl-params) → parameters_held ps ≡ parameters_view (view-MacroDecl-params ps)
parameters_held_seen MacroDecl-params-None' = refl
parameters_held_seen (MacroDecl-params-Some' gs) = refl

-- a macro
pub macro_parts : (d : MacroDecl) → macro_view d ≡ s.macro (word (out-MacroDecl d).name) (parameters_view (out-MacroDecl d).params) (out-MacroDecl d).result (meaning (out-MacroDecl d).body)
unfolding out-MacroDecl out
macro_parts (MacroDecl' n ps kind b) = ap (λ p. s.macro (word n) p kind (meaning b)) (parameters_held_seen ps)
