-- The shape of a tree is told by its nodes.
use Rattle.std.proofs.Common.{◌≡◌, ◌∙◌, ◌≤◌, ◌<◌, ◌+◌, ℕ, zero, suc, Bool, false, List, [], ◌∷◌, ap, arith, drop, length, refl, subst, sym}
use Rattle.lt_legal.specs.Back.{IsAt}
use Rattle.lt_legal.specs.Nodes.{Node, Parts, Shape, choice, count, count_in, faulty, flat, flat_in, leaf, no_part, order, ordered, part, spoilt, tip, weighted, weights}

-- what nodes begin with, and those behind
record Read (A : Type 0) : Type 0 where
  pub read : A
  pub behind : List Node

-- one part for each weight, by how a tree is read
parts_read : (List Node → Read Shape) → List Bool → List Node → Read Parts
parts_read tree [] ns = record { read = no_part; behind = ns }
parts_read tree (w ∷ ws) ns =
    record {
      read = part w (tree ns).read (parts_read tree ws (tree ns).behind).read;
      behind = (parts_read tree ws (tree ns).behind).behind;
    }

-- the first tree, if it isn't deeper than this
tree_read : ℕ → List Node → Read Shape
tree_read zero ns = record { read = leaf false; behind = ns }
tree_read (suc i) [] = record { read = leaf false; behind = [] }
tree_read (suc i) (tip b ∷ ns) = record { read = leaf b; behind = ns }
tree_read (suc i) (order ∷ ns) =
    record {
      read = ordered (tree_read i ns).read (tree_read i (tree_read i ns).behind).read;
      behind = (tree_read i (tree_read i ns).behind).behind;
    }
tree_read (suc i) (choice ws ∷ ns) =
    record {
      read = weighted (parts_read (tree_read i) ws ns).read;
      behind = (parts_read (tree_read i) ws ns).behind;
    }
tree_read (suc i) (spoilt b ws ∷ ns) =
    record {
      read = faulty b (parts_read (tree_read i) ws ns).read;
      behind = (parts_read (tree_read i) ws ns).behind;
    }

-- the shape of the tree that begins at a number
pub shape_at : List Node → ℕ → Shape
shape_at nodes number = (tree_read (length nodes) (drop number nodes)).read

two_read : (i : ℕ) (a b : Shape) (ms ns : List Node) → tree_read i (flat a ms) ≡ record { read = a; behind = ms } → tree_read i ms ≡ record { read = b; behind = ns } → tree_read (suc i) (order ∷ flat a ms) ≡ record { read = ordered a b; behind = ns }
unfolding tree_read
two_read i a b ms ns p q =
    (λ j. record { read = ordered (p j).read (tree_read i (p j).behind).read; behind = (tree_read i (p j).behind).behind })
    ∙ (λ j. record { read = ordered a (q j).read; behind = (q j).behind })

part_read : (tree : List Node → Read Shape) (w : Bool) (a : Shape) (ps : Parts) (ms ns : List Node) → tree (flat a ms) ≡ record { read = a; behind = ms } → parts_read tree (weights ps) ms ≡ record { read = ps; behind = ns } → parts_read tree (w ∷ weights ps) (flat a ms) ≡ record { read = part w a ps; behind = ns }
unfolding parts_read
part_read tree w a ps ms ns p q =
    (λ j. record { read = part w (p j).read (parts_read tree (weights ps) (p j).behind).read; behind = (parts_read tree (weights ps) (p j).behind).behind })
    ∙ (λ j. record { read = part w a (q j).read; behind = (q j).behind })

some : (u : Shape) → 0 < count u
some (leaf b) = omega arith
some (ordered a b) = omega arith
some (weighted ps) = omega arith
some (faulty b ps) = omega arith

mutual
  unfolding parts_read tree_read

  reads : (u : Shape) (i : ℕ) (ns : List Node) → count u ≤ i → tree_read i (flat u ns) ≡ record { read = u; behind = ns }
  reads u zero ns l = let h = some u in absurd (omega (arith, h, l))
  reads (leaf b) (suc i) ns l = refl
  reads (ordered a b) (suc i) ns l = two_read i a b (flat b ns) ns (reads a i (flat b ns) (omega (arith, l))) (reads b i ns (omega (arith, l)))
  reads (weighted ps) (suc i) ns l = let p = read_parts ps i ns (omega (arith, l)) in λ j. record { read = weighted (p j).read; behind = (p j).behind }
  reads (faulty b ps) (suc i) ns l = let p = read_parts ps i ns (omega (arith, l)) in λ j. record { read = faulty b (p j).read; behind = (p j).behind }

  read_parts : (ps : Parts) (i : ℕ) (ns : List Node) → count_in ps ≤ i → parts_read (tree_read i) (weights ps) (flat_in ps ns) ≡ record { read = ps; behind = ns }
  read_parts no_part i ns l = refl
  read_parts (part w a ps) i ns l = part_read (tree_read i) w a ps (flat_in ps ns) ns (reads a i (flat_in ps ns) (omega (arith, l))) (read_parts ps i ns (omega (arith, l)))

-- as many nodes as are counted
mutual
  long : (u : Shape) (ns : List Node) → length (flat u ns) ≡ count u + length ns
  long (leaf b) ns = omega arith
  long (ordered a b) ns = let p = long a (flat b ns) in let q = long b ns in omega (arith, p, q)
  long (weighted ps) ns = let p = long_in ps ns in omega (arith, p)
  long (faulty b ps) ns = let p = long_in ps ns in omega (arith, p)

  long_in : (ps : Parts) (ns : List Node) → length (flat_in ps ns) ≡ count_in ps + length ns
  long_in no_part ns = omega arith
  long_in (part w a ps) ns = let p = long a (flat_in ps ns) in let q = long_in ps ns in omega (arith, p, q)

shorter : {A : Type 0} (k : ℕ) (xs : List A) → length (drop k xs) ≤ length xs
shorter zero xs = omega arith
shorter (suc k) [] = omega arith
shorter (suc k) (x ∷ xs) = let h = shorter k xs in omega (arith, h)

-- it is the tree that begins there
pub shape_is : (nodes : List Node) (number : ℕ) (t : Shape) → IsAt nodes number t → shape_at nodes number ≡ t
unfolding shape_at
shape_is nodes number t at =
    let few : count t ≤ length nodes = omega (arith, ap length at.1, long t at.0, shorter number nodes) in
    ap (λ ns. (tree_read (length nodes) ns).read) at.1 ∙ ap (λ r. r.read) (reads t (length nodes) at.0 few)

-- and so the one that is read begins there
pub shape_there : (nodes : List Node) (number : ℕ) (t : Shape) → IsAt nodes number t → IsAt nodes number (shape_at nodes number)
shape_there nodes number t at = subst (λ u. IsAt nodes number u) (sym (shape_is nodes number t at)) at
