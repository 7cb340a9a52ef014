-- Of which trees a walk asks whether a live leaf can be reached in them.
use Rattle.std.specs.Prelude.{◌≡◌, ◌⊎◌, ℕ, ◌+◌, Bool, true, false, List, [], ◌∷◌, Ok, Err}
use Rattle.std.specs.declared.alloc.AllocError.{AllocError}
use Rattle.std.specs.declared.result.Result.{Result}
use Rattle.lt_legal.specs.Nodes.{Parts, Shape, count, faulty, has, leaf, no_part, ordered, part, weighted}
use Rattle.lt_legal.specs.declared.halt.Halt.{Halt}
use Rattle.lt_legal.specs.declared.halt.Halt.TheVariants as halt

-- The walk in a tree, whose node has a number, may ask of the tree with the number k: that is the
-- left one of an order where no leaf passes there and one passes on the right, and it is come to
-- through parts of positive weight.
abbrev mutual
  pub AsksAt : ℕ → Shape → ℕ → Type 0
  AsksAt at (leaf b) k = ⊥
  AsksAt at (ordered a b) k =
      AsksAt (at + 1) a k
      ⊎ (((k ≡ at + 1) × ((has a ≡ false) × (has b ≡ true))) ⊎ AsksAt (at + 1 + count a) b k)
  AsksAt at (weighted ps) k = AsksIn (at + 1) ps k
  AsksAt at (faulty b ps) k = ⊥

  pub AsksIn : ℕ → Parts → ℕ → Type 0
  AsksIn at no_part k = ⊥
  AsksIn at (part w t ps) k = ((w ≡ true) × AsksAt at t k) ⊎ AsksIn (at + count t) ps k

-- the walk in one of some trees
abbrev pub AsksAmong : List ℕ → List Shape → ℕ → Type 0
AsksAmong (n ∷ ns) (t ∷ ts) k = AsksAt n t k ⊎ AsksAmong ns ts k
AsksAmong _ _ k = ⊥

-- what halts a question of a tree, where searches there may be given up with these needs
abbrev pub IsHaltOf : (ℕ → Type 0) → Halt → Type 0
IsHaltOf may halt.Memory = Unit {0}
IsHaltOf may (halt.Over need) = may need

-- what halts a walk: want of memory, or a tree that it asks of
abbrev pub IsHaltAt : (ℕ → ℕ → Type 0) → ℕ → Shape → Halt → Type 0
IsHaltAt may at t halt.Memory = Unit {0}
IsHaltAt may at t (halt.Over need) = (k : ℕ) × (AsksAt at t k × may k need)

-- want of memory halts what is done
abbrev pub halting : Result (Unit {0}) AllocError → Result (Unit {0}) Halt
halting (Ok u) = Ok u
halting (Err e) = Err halt.Memory
