-- The refusal that is answered.
use Rattle.std.specs.Prelude.{List, ◌∷◌}
use Rattle.lt_types.specs.declared.refusal.TypeRefusal.{TypeRefusal}
use Rattle.lt_types.specs.declared.refusal.TypeRefusal.TheVariants.{Memory}

-- a refusal is the first of these, or want of memory
pub data Leads : TypeRefusal → List TypeRefusal → Type 0 where
  first : (r : TypeRefusal) (rs : List TypeRefusal) → Leads r (r ∷ rs)
  memory : (rs : List TypeRefusal) → Leads Memory rs
