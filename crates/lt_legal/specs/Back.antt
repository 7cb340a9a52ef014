-- The leaves that are walked to, the last ones first.
use Rattle.std.specs.Prelude.{◌≡◌, ◌<◌, ℕ, ◌+◌, Bool, List, [], ◌∷◌, ◌++◌, drop, if◌then◌else◌}
use Rattle.lt_legal.specs.Asked.{AsksAmong, AsksAt}
use Rattle.lt_legal.specs.Nodes.{Node, Parts, Shape, count, faulty, flat, found_at, has, leaf, no_part, ordered, part, weighted}
use Rattle.lt_legal.specs.declared.found.Found.{Found}

-- By what is live of a tree whose node has a number: that is asked only of the left tree of an
-- order where no leaf passes there and one passes on the right.
abbrev mutual
  pub back : (ℕ → Bool) → ℕ → Shape → List ℕ
  back live at (leaf b) = if b then at ∷ [] else []
  back live at (ordered a b) =
      if has a then back live (at + 1) a
      else (if has b then (if live (at + 1) then [] else back live (at + 1 + count a) b) else [])
  back live at (weighted ps) = back_in live (at + 1) ps
  back live at (faulty b ps) = if b then at ∷ [] else []

  pub back_in : (ℕ → Bool) → ℕ → Parts → List ℕ
  back_in live at no_part = []
  back_in live at (part w t ps) =
      back_in live (at + count t) ps ++ (if w then back live at t else [])

-- among these nodes a tree begins at a number
abbrev pub IsAt : List Node → ℕ → Shape → Type 0
IsAt nodes number t = (ns : List Node) × (drop number nodes ≡ flat t ns)

-- trees begin at numbers
abbrev pub AreAt : List Node → List ℕ → List Shape → Type 0
AreAt nodes [] [] = Unit {0}
AreAt nodes (n ∷ ns) (t ∷ ts) = IsAt nodes n t × AreAt nodes ns ts
AreAt nodes _ _ = ⊥

-- what is walked to in trees that wait, the last one first
abbrev pub todo : (ℕ → Bool) → List ℕ → List Shape → List ℕ
todo live (n ∷ ns) (t ∷ ts) = todo live ns ts ++ back live n t
todo live _ _ = []

-- how many nodes they have
abbrev pub total : List Found → List ℕ → ℕ
total hs [] = 0
total hs (n ∷ ns) = (found_at hs n).size + total hs ns

-- A tree was looked at: these of its own wait now in its place.
pub record Visits
    (live : ℕ → Bool) (nodes : List Node) (hs : List Found) (number : ℕ) (t : Shape)
    (stack stack' out out' : List ℕ) : Type 0 where
  pub numbers : List ℕ
  pub trees : List Shape
  pub at : AreAt nodes numbers trees
  pub pushed : stack' ≡ stack ++ numbers
  pub same : out ++ back live number t ≡ out' ++ todo live numbers trees
  pub falls : total hs numbers < (found_at hs number).size
  pub asks : (k : ℕ) → AsksAmong numbers trees k → AsksAt number t k
