-- The parts of a trace that a list of the code has.
use Rattle.std.specs.Prelude.{◌∷◌, List, map}
use Rattle.lt_macros.specs.Preorder.{Item, term, weight, items}
use Rattle.lt_macros.specs.Tree.{expanded, placed}
use Rattle.lt_expand.specs.declared.items.Item as code
use Rattle.lt_expand.specs.declared.items.Item.TheVariants.{Term, Weight}
use Rattle.lt_macros.specs.declared.tree.Part.{Part}

-- a part
abbrev pub item : code.Item → Item
item (Term t) = term (expanded t.now)
item (Weight w) = weight (placed w.now)

-- parts
abbrev pub items_view : List code.Item → List Item
items_view is = map item is

-- an alternative behind its weight, and all parts of it
abbrev pub part_items : Part → List Item
part_items p = weight (placed p.weight) ∷ items (expanded p.body.value)
