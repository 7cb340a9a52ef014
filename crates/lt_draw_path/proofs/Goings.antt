-- Where a draw goes on.
use Rattle.std.proofs.Common.{◌≡◌, ℕ, ◌+◌, Bool, true, false, List, [], ◌∷◌, ◌++◌, length, map, reverse, take, get_or, Some, ap, sym, ◌∙◌, arith}
use Rattle.std.specs.List.{slice_get}
use Rattle.std.proofs.lemmas.List.{take_all}
use Rattle.lt_draw_path.specs.Going.{Turns, part_entry}
use Rattle.lt_draw_path.specs.declared.draw_path.Entry.{Entry}
use Rattle.lt_draw_path.specs.declared.draw_path.DrawPath.{DrawPath}

-- Behind the parts of a choice that were put on the stack, the first of them is at hand.
pub goes_first : (p : ℕ) (before path ks : List ℕ) (k : ℕ) (es fs : List Entry) (s : DrawPath) (b : Bool) → fs ≡ map (part_entry p (length path) before) (k ∷ ks) ++ es → Turns path fs b s
    → (s.path.items ≡ path ++ k ∷ []) × (s.position ≡ p + get_or before k 0) × (reverse s.stack.items ≡ map (part_entry p (length path) before) ks ++ es)
goes_first p before path ks k es fs s false h t = absurd (cc)
goes_first p before path ks k es fs s true h t =
    let e : Entry = t.0 in
    let top : e ≡ part_entry p (length path) before k = cc in
    let left : reverse s.stack.items ≡ map (part_entry p (length path) before) ks ++ es = cc in (
      t.2 ∙ (λ i. take (top i).depth path ++ (top i).choice ∷ []) ∙ ap (λ js. js ++ k ∷ []) (take_all (length path) path (omega arith)),
      t.3 ∙ ap (λ x. x.position) top,
      left,
    )

-- a list with a first element
pub with_first : (xs : List ℕ) (k : ℕ) → Some k ≡ slice_get xs 0 → (ks : List ℕ) × (xs ≡ k ∷ ks)
with_first [] k h = absurd (cc)
with_first (x ∷ xs) k h = (xs, (let d : k ≡ x = cc in ap (λ j. j ∷ xs) (sym d)))
