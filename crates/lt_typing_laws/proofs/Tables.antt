-- Variables that stand in their tables in the order in which they are declared.
use Rattle.std.proofs.Common.{◌≡◌, ℕ, suc, ◌+◌, List, [], ◌∷◌, ◌++◌, length, length-append, map, append_assoc, slice_get, Some, arith, refl, sym, ◌∙◌, subst}
use Rattle.lt_num.specs.declared.kind.Kind.{Kind}
use Rattle.lt_formula.specs.Expression.{variable}
use Rattle.lt_formula.specs.Kinds.{Kinds, kinds_of_role}
use Rattle.lt_formula.specs.declared.role.Role.{Role}
use Rattle.lt_macros.specs.Expanded.{Declared}
use Rattle.lt_term.specs.WellTyped.{HasKind}

-- Variables have the places from this one on, with their kinds.
abbrev pub StandFrom : Kinds → Role → ℕ → List Declared → Type 0
StandFrom kinds r i [] = Unit {0}
StandFrom kinds r i (d ∷ ds) = HasKind kinds (variable r i) d.kind × StandFrom kinds r (suc i) ds

first_behind : (before : List Kind) (k : Kind) (rest : List Kind) → slice_get (before ++ k ∷ rest) (length before) ≡ Some k
first_behind [] k rest = refl
first_behind (b ∷ before) k rest = first_behind before k rest

-- where their kinds end a table, they stand behind what is before
pub stand_behind : (kinds : Kinds) (r : Role) (before : List Kind) (ds : List Declared) → kinds_of_role kinds r ≡ before ++ map (λ d. d.kind) ds → StandFrom kinds r (length before) ds
stand_behind kinds r before [] e = tt
stand_behind kinds r before (d ∷ ds) e =
    let count : length (before ++ d.kind ∷ []) ≡ suc (length before) = omega (arith, length-append before (d.kind ∷ [])) in (
      subst (λ ks. slice_get ks (length before) ≡ Some d.kind) (sym e) (first_behind before d.kind (map (λ d. d.kind) ds)),
      subst (λ i. StandFrom kinds r i ds) count (stand_behind kinds r (before ++ d.kind ∷ []) ds (e ∙ sym (append_assoc before (d.kind ∷ []) (map (λ d. d.kind) ds)))),
    )

-- the second ones of two lists stand behind the first ones
pub first_stand : (kinds : Kinds) (r : Role) (i : ℕ) (ds es : List Declared) → StandFrom kinds r i (ds ++ es) → StandFrom kinds r i ds
first_stand kinds r i [] es h = tt
first_stand kinds r i (d ∷ ds) es h = (h.0, first_stand kinds r (suc i) ds es h.1)

pub second_stand : (kinds : Kinds) (r : Role) (i : ℕ) (ds es : List Declared) → StandFrom kinds r i (ds ++ es) → StandFrom kinds r (i + length ds) es
second_stand kinds r i [] es h = let same : i ≡ i + 0 = omega arith in subst (λ n. StandFrom kinds r n es) same h
second_stand kinds r i (d ∷ ds) es h =
    let same : suc i + length ds ≡ i + length (d ∷ ds) = omega arith in
    subst (λ n. StandFrom kinds r n es) same (second_stand kinds r (suc i) ds es h.1)
