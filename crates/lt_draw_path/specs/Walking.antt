-- How a draw walks through a tree.
use Rattle.std.specs.Prelude.{◌≡◌, ◌≤◌, ◌<◌, ℕ, ◌+◌, Bool, List, [], ◌∷◌, ◌++◌, length, take, None}
use Rattle.lt_draw_path.specs.Order.{order, first_stop}
use Rattle.lt_draw_path.specs.Tree.{Tree, size, part_of, below, HasPart, Leads}
use Rattle.lt_draw_path.specs.declared.draw_path.Entry.{Entry}

-- an entry of a stack
abbrev pub entry_of : ℕ → ℕ → ℕ → Entry
entry_of position depth choice = record { position = position; depth = depth; choice = choice }

-- the choice of which an entry is a part, while this path is the one at hand; and the part
abbrev pub entry_parent : {L : Type 0} → Tree L → List ℕ → Entry → Tree L
entry_parent t path e = below t (take e.depth path)

abbrev pub entry_tree : {L : Type 0} → Tree L → List ℕ → Entry → Tree L
entry_tree t path e = part_of (entry_parent t path e) e.choice

-- the leaves of the entries of a stack, whose first one here is the next
abbrev pub order_on : {L : Type 0} → (ℕ → ℕ) → Tree L → List ℕ → List Entry → List L
order_on word t path [] = []
order_on word t path (e ∷ es) =
    order word e.position (entry_tree t path e) ++ order_on word t path es

-- how many nodes their trees have
abbrev pub size_on : {L : Type 0} → Tree L → List ℕ → List Entry → ℕ
size_on t path [] = 0
size_on t path (e ∷ es) = size (entry_tree t path e) + size_on t path es

-- an entry's tree lies in the whole one
pub record Fits {L : Type 0} (t : Tree L) (path : List ℕ) (e : Entry) : Type 0 where
  pub within : e.position + size (entry_tree t path e) ≤ size t
  pub deep : e.depth + 1 + size (entry_tree t path e) ≤ size t
  pub has : HasPart (entry_parent t path e) e.choice

-- each entry is no deeper than the one before it, and the first no deeper than this
abbrev pub AreNested : {L : Type 0} → Tree L → List ℕ → ℕ → List Entry → Type 0
AreNested t path n [] = Unit {0}
AreNested t path n (e ∷ es) = (e.depth ≤ n) × Fits t path e × AreNested t path e.depth es

-- Of the leaves at which a draw may arrive, in order, these are left: it was at the others before, and stops at none of those.
pub record AreLeft {L : Type 0} (stops : L → Bool) (all left : List L) : Type 0 where
  pub passed : List L
  pub split : all ≡ passed ++ left
  pub none : first_stop stops passed ≡ None

-- a walk is at a node, of this path and position, and has these entries still to try
pub record IsWalking {L : Type 0} (word : ℕ → ℕ) (stops : L → Bool) (t : Tree L)
    (path : List ℕ) (position : ℕ) (es : List Entry) : Type 0 where
  pub ends : AreLeft stops (order word 0 t) (order word position (below t path) ++ order_on word t path es)
  pub nested : AreNested t path (length path) es
  pub within : position + size (below t path) ≤ size t
  pub deep : length path + size (below t path) ≤ size t
  pub few : size (below t path) + size_on t path es ≤ size t
  pub leads : Leads t path

-- a walk has passed a node, and has these entries still to try, with fewer nodes than so many
pub record IsLeft {L : Type 0} (word : ℕ → ℕ) (stops : L → Bool) (t : Tree L) (path : List ℕ)
    (most : ℕ) (es : List Entry) : Type 0 where
  pub ends : AreLeft stops (order word 0 t) (order_on word t path es)
  pub nested : AreNested t path (length path) es
  pub few : size_on t path es < most
  pub whole : most ≤ size t
  pub leads : Leads t path
