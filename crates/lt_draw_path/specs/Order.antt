-- The order in which a draw arrives at the leaves of a tree.
use Rattle.std.specs.Prelude.{◌≡◌, ℕ, zero, suc, ◌+◌, ◌*◌, Bool, true, false, nat_eq, if◌then◌else◌, List, [], ◌∷◌, ◌++◌, length, sum, set, slice_index_or, Some, None}
use Rattle.std.specs.List.{flat_map}
use Rattle.std.specs.declared.option.Option.{Option}
use Rattle.lt_draw.specs.Pick.{picked}
use Rattle.lt_draw_path.specs.Tree.{Tree, leaf, ordered, weighted, spoilt, Branches, no_branch, branch, size, weights_of, leaf_of, below}

-- The slot of a try at a choice, by the choice's position; positions count the nodes of the whole
-- tree in preorder, from 0.
abbrev pub slot_of : ℕ → ℕ → ℕ
slot_of position try = 64 * position + try

-- The places in which a choice tries its parts, from its a-th try on, with so many tries left and
-- with these weights left: a part that was tried has the weight 0 from then on. The word of each slot
-- is given.
abbrev pub picks : (ℕ → ℕ) → ℕ → ℕ → ℕ → List ℕ → List ℕ
picks word position zero a ws = []
picks word position (suc n) a ws =
    if nat_eq (sum ws) 0 then []
    else (let k : ℕ = picked ws (word (slot_of position a)) in
    k ∷ picks word position n (suc a) (set ws k 0))

-- the order in which a choice at a position tries its parts
abbrev pub tries : (ℕ → ℕ) → ℕ → List ℕ → List ℕ
tries word position ws = picks word position (length ws) 0 ws

-- the leaves of a tree at a position, in the order in which a draw that stops at none arrives at them
abbrev mutual
  pub order : {L : Type 0} → (ℕ → ℕ) → ℕ → Tree L → List L
  order word position (leaf l) = l ∷ []
  order word position (ordered a b) =
      order word (position + 1) a ++ order word (position + 1 + size a) b
  order word position (weighted bs) =
      flat_map (λ k. slice_index_or (orders word (position + 1) bs) k [])
      (tries word position (weights_of bs))
  order word position (spoilt l bs) = l ∷ []

  pub orders : {L : Type 0} → (ℕ → ℕ) → ℕ → Branches L → List (List L)
  orders word position no_branch = []
  orders word position (branch w t bs) = order word position t ∷ orders word (position + size t) bs

-- the first of some leaves at which a draw stops
abbrev pub first_stop : {L : Type 0} → (L → Bool) → List L → Option L
first_stop stops [] = None
first_stop stops (l ∷ ls) = if stops l then Some l else first_stop stops ls

-- A draw that stops at this leaf, if any, ends so: it has found one, and the path leads there, or
-- it has found none.
abbrev pub Ends : {L : Type 0} → Option L → Tree L → List ℕ → Bool → Type 0
Ends (Some l) t path true = leaf_of (below t path) ≡ Some l
Ends (Some l) t path false = ⊥
Ends None t path true = ⊥
Ends None t path false = Unit {0}
