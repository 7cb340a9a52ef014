-- What is refused first stays so, where more follows.
use Rattle.std.proofs.Common.{◌≡◌, List, [], ◌∷◌, ◌++◌, sym, subst}
use Rattle.lt_types.specs.Answer.{Leads, first, memory}
use Rattle.lt_types.specs.Refusals.{first_nonempty}
use Rattle.lt_types.specs.declared.refusal.TypeRefusal.{TypeRefusal}
use Rattle.lt_types.specs.declared.refusal.TypeRefusal.TheVariants.{Memory}

-- after a front
pub Leads_more : {r : TypeRefusal} {xs : List TypeRefusal} (ys : List TypeRefusal) → Leads r xs → Leads r (xs ++ ys)
Leads_more ys (first r rs) = first r (rs ++ ys)
Leads_more ys (memory rs) = memory (rs ++ ys)

-- where nothing stands before
pub Leads_behind : {r : TypeRefusal} {xs ys : List TypeRefusal} → xs ≡ [] → Leads r ys → Leads r (xs ++ ys)
Leads_behind {r} {xs} {ys} e h = subst (λ zs. Leads r (zs ++ ys)) (sym e) h

-- want of memory
pub Leads_memory : (rs : List TypeRefusal) → Leads Memory rs
Leads_memory rs = memory rs

-- nothing but that
pub Leads_alone : {r : TypeRefusal} (rs : List TypeRefusal) → Leads r [] → Leads r rs
Leads_alone rs h = Leads_more rs h

-- the first one itself
pub Leads_first : (r : TypeRefusal) (rs : List TypeRefusal) → Leads r (r ∷ rs)
Leads_first r rs = first r rs

-- where the second list counts only if the first is empty
pub Leads_first_nonempty : {r : TypeRefusal} {xs : List TypeRefusal} (ys : List TypeRefusal) → Leads r xs → Leads r (first_nonempty xs ys)
Leads_first_nonempty ys (first r rs) = first r rs
Leads_first_nonempty ys (memory rs) = memory (first_nonempty rs ys)

-- and the first is
pub Leads_else : {r : TypeRefusal} {xs ys : List TypeRefusal} → xs ≡ [] → Leads r ys → Leads r (first_nonempty xs ys)
Leads_else {r} {xs} {ys} e h = subst (λ zs. Leads r (first_nonempty zs ys)) (sym e) h

pub ruleset leads = (Leads_more, Leads_behind, Leads_memory, Leads_alone, Leads_first)

pub ruleset leads_in_ranges = (Leads_more, Leads_behind, Leads_memory, Leads_alone, Leads_first, Leads_first_nonempty, Leads_else)
