-- Names that are found without going through all of them.
use Rattle.std.specs.Prelude.{◌≡◌, ℕ, List, [], ◌∷◌, map, reverse, string_bytes}
use Rattle.std.specs.declared.string.String.{String}
use Rattle.std.specs.declared.alloc.Global.{Global}
use Rattle.indexmap.specs.IndexMap.{IndexMap, get_by_text}
use Rattle.lt_types.specs.inner.Scoping.{newest}
use Rattle.lt_types.specs.declared.name_stack.Item.{Item}

-- the bytes of an item's name
abbrev pub item_name : Item → List ℕ
item_name x = string_bytes x.name

-- the names of items from the newest to the oldest
abbrev pub names_of : List Item → List (List ℕ)
names_of rows = map item_name rows

-- each item knows the place of the one that it hides
abbrev pub Hides : List Item → Type 0
Hides [] = Unit {0}
Hides (x ∷ rows) = (x.hidden ≡ newest (names_of rows) (item_name x)) × Hides rows

-- each name leads to the place of its newest item
abbrev pub Leads_to : {S : Type 0} → List Item → IndexMap (String Global) ℕ S → Type 0
Leads_to rows places = (q : List ℕ) → get_by_text places q ≡ newest (names_of rows) q

-- what a stack of names keeps to
pub record IsIndexed {S : Type 0} (items : List Item) (places : IndexMap (String Global) ℕ S) : Type 0 where
  pub placed : Leads_to (reverse items) places
  pub hidden : Hides (reverse items)
