-- Where a draw goes on.
use Rattle.std.specs.Prelude.{◌≡◌, ℕ, ◌+◌, Bool, true, false, List, [], ◌∷◌, ◌++◌, drop, length, map, reverse, slice_index_or, take, None, Some}
use Rattle.std.specs.declared.option.Option.{Option}
use Rattle.lt_draw_path.specs.Order.{tries}
use Rattle.lt_draw_path.specs.Walking.{entry_of}
use Rattle.lt_draw_path.specs.declared.draw_path.Entry.{Entry}
use Rattle.lt_draw_path.specs.declared.draw_path.DrawPath.{DrawPath}

-- the choices of a path that were taken, and those that are left
abbrev pub come : DrawPath → List ℕ
come r = take r.taken r.path.items

abbrev pub rest : DrawPath → List ℕ
rest r = drop r.taken r.path.items

-- the next of some choices that are left, which is then one of those that were taken
abbrev pub Gives : List ℕ → List ℕ → Option ℕ → List ℕ → List ℕ → Type 0
Gives taken left None now then = (left ≡ []) × (now ≡ taken) × (then ≡ [])
Gives taken left (Some k) now then = (left ≡ k ∷ then) × (now ≡ taken ++ k ∷ [])

-- a part of a choice at this depth, whose first part has this position, where so many nodes stand before each part
abbrev pub part_entry : ℕ → ℕ → List ℕ → ℕ → Entry
part_entry position depth before k = entry_of (position + slice_index_or before k 0) depth k

-- a draw goes on to the part of a choice that is tried first, or nowhere where none is tried
abbrev pub Picks : (ℕ → ℕ) → List ℕ → DrawPath → Option ℕ → DrawPath → Type 0
Picks word before r None s =
    (tries word r.position r.weights.items ≡ []) × (s.path.items ≡ r.path.items) × (s.position ≡ r.position) ×
    (s.taken ≡ r.taken) × (s.stack.items ≡ r.stack.items)
Picks word before r (Some k) s =
    (ks : List ℕ) × (tries word r.position r.weights.items ≡ k ∷ ks) × (s.path.items ≡ r.path.items ++ k ∷ []) ×
    (s.position ≡ r.position + 1 + slice_index_or before k 0) × (s.taken ≡ length s.path.items) ×
    (reverse s.stack.items ≡ map (part_entry (r.position + 1) (length r.path.items) before) ks ++ reverse r.stack.items)

-- a draw at this path goes on to the first of these entries, or nowhere where there is none
abbrev pub Turns : List ℕ → List Entry → Bool → DrawPath → Type 0
Turns path es false s = es ≡ []
Turns path es true s =
    (e : Entry) × (es ≡ e ∷ reverse s.stack.items) × (s.path.items ≡ take e.depth path ++ e.choice ∷ []) × (s.position ≡ e.position)
