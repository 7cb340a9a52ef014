-- Whole programs.
use Rattle.std.proofs.Common.{◌≡◌, ℕ, List, [], refl}
use Rattle.lt_ast.specs.Syntax.{Declaration, Exp}
use Rattle.lt_types.specs.Answer.{Leads, first, memory}
use Rattle.lt_types.specs.declared.refusal.TypeRefusal.{TypeRefusal}
use Rattle.lt_types.specs.declared.refusal.TypeRefusal.TheVariants.{Memory}
use Rattle.lt_types.proofs.Leading.{Leads_more, Leads_behind, Leads_alone}
use Rattle.lt_types.specs.Environment.{TypedName}
use Rattle.lt_types.specs.Refusals.{condition_refusals, type_refusals}
use Rattle.lt_types.specs.Typing.{IsCondition, IsWellTyped}
use Rattle.lt_types.proofs.WellTyped.{condition_agrees, well_typed_is_unrefused}

-- where no rule is broken, the program is well typed
pub unrefused_typed : (decimals : ℕ) (ds : List Declaration) → type_refusals decimals ds ≡ [] → IsWellTyped decimals ds
unrefused_typed decimals ds h = (well_typed_is_unrefused decimals ds).1 h

-- nothing but want of memory is answered where no rule is broken
leads_nothing : (r : TypeRefusal) (rs : List TypeRefusal) → Leads r rs → rs ≡ [] → r ≡ Memory
leads_nothing r rs (first r' rs') e = absurd (cc e)
leads_nothing r rs (memory rs') e = refl

pub well_typed_only : (r : TypeRefusal) (decimals : ℕ) (ds : List Declaration) → Leads r (type_refusals decimals ds) → IsWellTyped decimals ds → r ≡ Memory
well_typed_only r decimals ds h k = leads_nothing r (type_refusals decimals ds) h ((well_typed_is_unrefused decimals ds).0 k)

-- the same of conditions
pub unrefused_condition : (decimals : ℕ) (vs : List TypedName) (e : Exp) → condition_refusals decimals vs e ≡ [] → IsCondition decimals vs e
unrefused_condition decimals vs e h = (condition_agrees decimals vs e).back h

pub condition_only : (r : TypeRefusal) (decimals : ℕ) (vs : List TypedName) (e : Exp) → Leads r (condition_refusals decimals vs e) → IsCondition decimals vs e → r ≡ Memory
condition_only r decimals vs e h k = leads_nothing r (condition_refusals decimals vs e) h ((condition_agrees decimals vs e).clean k)

pub ruleset condition_checked = (Leads_more, Leads_behind, Leads_alone, unrefused_condition, condition_only)

pub ruleset checked = (Leads_more, Leads_behind, unrefused_typed, well_typed_only)
