use Rattle.std.proofs.Common.{◌∷◌, [], arith, inl, inr, refl, subst, sym}
use Rattle.lt_need.specs.declared.gathering.Parts.{Parts}
use Rattle.lt_need.specs.inner.Reached.{IsIn, Reaches, parts_of}
use Rattle.lt_need.proofs.Gatherings.{reach_both}
use Rattle.lt_need.proofs.gathering.reach_all.Goals as goal

pub reach-requires-clause-within : goal.reach-requires-clause-within
reach-requires-clause-within c = c.requires.within c.in-One.part (subst (λ (ps : Parts). IsIn (parts_of ps) c.in-One.part) (sym c.in-One.is) (inl refl))

pub reach-requires-in-Two-clause-within : goal.reach-requires-in-Two-clause-within
reach-requires-in-Two-clause-within c = c.requires.within c.in-Two.left (subst (λ (ps : Parts). IsIn (parts_of ps) c.in-Two.left) (sym c.in-Two.is) (inl refl))

pub reach-requires-in-Two-2-clause-within : goal.reach-requires-in-Two-2-clause-within
reach-requires-in-Two-2-clause-within c =
    omega (arith, c.reach-in-Two.ensures.len, c.requires.within c.in-Two.right (subst (λ (ps : Parts). IsIn (parts_of ps) c.in-Two.right) (sym c.in-Two.is) (inr (inl refl))))

pub returns-in-Two-clause-reaches : goal.returns-in-Two-clause-reaches
returns-in-Two-clause-reaches c =
    subst (λ (ps : Parts). Reaches c.args.reached.now.items c.reach-in-Two-2.new.reached.items (parts_of ps)) (sym c.in-Two.is)
    (reach_both c.args.reached.now.items c.reach-in-Two.new.reached.items c.reach-in-Two-2.new.reached.items (c.in-Two.left ∷ []) (c.in-Two.right ∷ []) c.reach-in-Two.ensures.reaches c.reach-in-Two-2.ensures.reaches)

pub reach-requires-in-Three-clause-within : goal.reach-requires-in-Three-clause-within
reach-requires-in-Three-clause-within c = c.requires.within c.in-Three.condition (subst (λ (ps : Parts). IsIn (parts_of ps) c.in-Three.condition) (sym c.in-Three.is) (inl refl))

pub reach-requires-in-Three-2-clause-within : goal.reach-requires-in-Three-2-clause-within
reach-requires-in-Three-2-clause-within c =
    omega (arith, c.reach-in-Three.ensures.len, c.requires.within c.in-Three.first (subst (λ (ps : Parts). IsIn (parts_of ps) c.in-Three.first) (sym c.in-Three.is) (inr (inl refl))))

pub reach-requires-in-Three-3-clause-within : goal.reach-requires-in-Three-3-clause-within
reach-requires-in-Three-3-clause-within c =
    omega (arith, c.reach-in-Three.ensures.len, c.reach-in-Three-2.ensures.len, c.requires.within c.in-Three.second (subst (λ (ps : Parts). IsIn (parts_of ps) c.in-Three.second) (sym c.in-Three.is) (inr (inr (inl refl)))))

pub returns-in-Three-clause-reaches : goal.returns-in-Three-clause-reaches
returns-in-Three-clause-reaches c =
    subst (λ (ps : Parts). Reaches c.args.reached.now.items c.reach-in-Three-3.new.reached.items (parts_of ps)) (sym c.in-Three.is)
    (reach_both c.args.reached.now.items c.reach-in-Three.new.reached.items c.reach-in-Three-3.new.reached.items (c.in-Three.condition ∷ []) (c.in-Three.first ∷ c.in-Three.second ∷ []) c.reach-in-Three.ensures.reaches
    (reach_both c.reach-in-Three.new.reached.items c.reach-in-Three-2.new.reached.items c.reach-in-Three-3.new.reached.items (c.in-Three.first ∷ []) (c.in-Three.second ∷ []) c.reach-in-Three-2.ensures.reaches c.reach-in-Three-3.ensures.reaches))
