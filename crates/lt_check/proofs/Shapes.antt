-- What is seen of a tree's nodes is a shape, and it is what the test says of the evaluated tree.
use Rattle.std.proofs.Common.{◌≡◌, ◌<◌, ◌^◌, ◌+◌, ℕ, suc, Bool, true, false, List, [], ◌∷◌, ◌++◌, length, drop, map, append_assoc, append-nil, length-append, refl, ap, sym, ◌∙◌, subst, arith}
use Rattle.std.specs.Prelude.{Ok, Err, replicate}
use Rattle.std.specs.declared.result.Result.{Result}
use Rattle.std.proofs.lemmas.List.{map-append}
use Rattle.lt_num.specs.declared.fault.Arith.{Arith}
use Rattle.lt_legal.proofs.Public.{after_node, after_tree, count_is, has_is, tells}
use Rattle.lt_legal.specs.Back.{IsAt}
use Rattle.lt_legal.specs.Nodes as l
use Rattle.lt_legal.specs.Nodes.{Parts, Shape, count, count_in, flat, flat_in, found_at, has, order, run, weights}
use Rattle.lt_legal.specs.Shapes.{AreAnswered, AreShapesOf, IsAnswered, IsShapeOf}
use Rattle.lt_legal.specs.Walk.{has_some}
use Rattle.lt_legal.specs.declared.found.Found.{Found}
use Rattle.lt_marks_laws.specs.Valued.{with_worth, worths}
use Rattle.lt_term.specs.Evaluated as e
use Rattle.lt_term.specs.Evaluated.{Evaluated, Outlook, Worth, chosen_among, evaluated, evaluated_parts, faulty, node_count, node_count_of_each, outlook, with_part}
use Rattle.lt_term.specs.Tree as t
use Rattle.lt_term.specs.Tree.{Branches, Lasts, Node, Tree, Weight, branch, flattened, flattened_each, no_branch, weights_of}
use Rattle.lt_check.specs.inner.Seen.{Sight, choice_seen, node_by, order_seen, positive, test_sight}
use Rattle.lt_check.specs.inner.Shaped.{choice_shape, parts_by, shape_by, shape_seen, two_shapes}

-- ---- weights

-- where weights are worth something, as many numbers
abbrev LongAs : ℕ → Result (List ℕ) Arith → Type 0
LongAs n (Ok vs) = length vs ≡ n
LongAs n (Err f) = Unit {0}

module _ {C : Type 0} (weigh : Lasts → Weight C → Result ℕ Arith) (ls : Lasts) where
  joined_long : (n : ℕ) (x : Result ℕ Arith) (y : Result (List ℕ) Arith) → LongAs n y → LongAs (suc n) (with_worth x y)
  joined_long n (Ok v) (Ok vs) h = ap suc h
  joined_long n (Ok v) (Err f) h = tt
  joined_long n (Err f) y h = tt

  worths_long : (ws : List (Weight C)) → LongAs (length ws) (worths weigh ls ws)
  worths_long [] = refl
  worths_long (w ∷ ws) = joined_long (length ws) (weigh ls w) (worths weigh ls ws) (worths_long ws)

-- ---- nodes and shapes

module _ {C F N : Type 0} (worth : Worth C F) (sight : Sight C N) where
  abbrev seen_as : Node C N → l.Node
  seen_as n = node_by worth sight n

  weights_some : (bs : Branches C N) (vs : List ℕ) → length vs ≡ length (weights_of bs) → weights (parts_by worth sight bs vs) ≡ map positive vs
  weights_some no_branch [] h = refl
  weights_some no_branch (v ∷ vs) h = absurd (omega (arith, h))
  weights_some (branch w a bs) [] h = absurd (omega (arith, h))
  weights_some (branch w a bs) (v ∷ vs) h = ap (λ ws. positive v ∷ ws) (weights_some bs vs (omega (arith, h)))

  weights_none : (bs : Branches C N) → weights (parts_by worth sight bs []) ≡ replicate (length (weights_of bs)) false
  weights_none no_branch = refl
  weights_none (branch w a bs) = ap (λ ws. false ∷ ws) (weights_none bs)

  choice_flat : (bs : Branches C N) (y : Result (List ℕ) Arith) (xs ns : List l.Node) → LongAs (length (weights_of bs)) y → ((vs : List ℕ) → xs ++ ns ≡ flat_in (parts_by worth sight bs vs) ns)
      → choice_seen sight.fails y (length (weights_of bs)) ∷ (xs ++ ns) ≡ flat (choice_shape sight.fails y (parts_by worth sight bs)) ns
  choice_flat bs (Ok vs) xs ns h f = λ i. l.choice (sym (weights_some bs vs h) i) ∷ f vs i
  choice_flat bs (Err fault) xs ns h f = λ i. l.spoilt (sight.fails fault) (sym (weights_none bs) i) ∷ f [] i

  two_flat : (keeps : Bool) (a b : Shape) (ns : List l.Node) → order_seen keeps ∷ flat a (flat b ns) ≡ flat (two_shapes keeps a b) ns
  two_flat true a b ns = refl
  two_flat false a b ns = refl

  mutual
    pub flat_seen : (u : Tree C N) (ns : List l.Node) → map seen_as (flattened u) ++ ns ≡ flat (shape_by worth sight u) ns
    flat_seen (t.leaf m) ns = refl
    flat_seen (t.ordered a b) ns =
        ap (λ xs. order_seen sight.keeps_order ∷ (xs ++ ns)) (map-append seen_as (flattened a) (flattened b))
        ∙ ap (λ xs. order_seen sight.keeps_order ∷ xs) (append_assoc (map seen_as (flattened a)) (map seen_as (flattened b)) ns ∙ ap (λ xs. map seen_as (flattened a) ++ xs) (flat_seen b ns) ∙ flat_seen a (flat (shape_by worth sight b) ns))
        ∙ two_flat sight.keeps_order (shape_by worth sight a) (shape_by worth sight b) ns
    flat_seen (t.weighted ls bs) ns =
        choice_flat bs (worths worth.weight ls (weights_of bs)) (map seen_as (flattened_each bs)) ns (worths_long worth.weight ls (weights_of bs)) (λ vs. flat_parts_seen bs vs ns)

    flat_parts_seen : (bs : Branches C N) (vs : List ℕ) (ns : List l.Node) → map seen_as (flattened_each bs) ++ ns ≡ flat_in (parts_by worth sight bs vs) ns
    flat_parts_seen no_branch vs ns = refl
    flat_parts_seen (branch w a bs) [] ns =
        ap (λ xs. xs ++ ns) (map-append seen_as (flattened a) (flattened_each bs)) ∙ append_assoc (map seen_as (flattened a)) (map seen_as (flattened_each bs)) ns
        ∙ ap (λ xs. map seen_as (flattened a) ++ xs) (flat_parts_seen bs [] ns) ∙ flat_seen a (flat_in (parts_by worth sight bs []) ns)
    flat_parts_seen (branch w a bs) (v ∷ vs) ns =
        ap (λ xs. xs ++ ns) (map-append seen_as (flattened a) (flattened_each bs)) ∙ append_assoc (map seen_as (flattened a)) (map seen_as (flattened_each bs)) ns
        ∙ ap (λ xs. map seen_as (flattened a) ++ xs) (flat_parts_seen bs vs ns) ∙ flat_seen a (flat_in (parts_by worth sight bs vs) ns)

  pub nodes_are : (u : Tree C N) → map seen_as (flattened u) ≡ flat (shape_by worth sight u) []
  nodes_are u = sym (append-nil (map seen_as (flattened u))) ∙ flat_seen u []

  two_count : (keeps : Bool) (a b : Shape) → count (two_shapes keeps a b) ≡ 1 + count a + count b
  two_count true a b = refl
  two_count false a b = omega arith

  choice_count : (bs : Branches C N) (y : Result (List ℕ) Arith) → ((vs : List ℕ) → count_in (parts_by worth sight bs vs) ≡ length (flattened_each bs)) → count (choice_shape sight.fails y (parts_by worth sight bs)) ≡ suc (length (flattened_each bs))
  choice_count bs (Ok vs) f = let x = f vs in omega (arith, x)
  choice_count bs (Err fault) f = let x = f [] in omega (arith, x)

  mutual
    pub count_seen : (u : Tree C N) → count (shape_by worth sight u) ≡ length (flattened u)
    count_seen (t.leaf m) = refl
    count_seen (t.ordered a b) =
        let x = count_seen a in
        let y = count_seen b in
        let z = length-append (flattened a) (flattened b) in
        let w = two_count sight.keeps_order (shape_by worth sight a) (shape_by worth sight b) in
        omega (arith, x, y, z, w)
    count_seen (t.weighted ls bs) = choice_count bs (worths worth.weight ls (weights_of bs)) (λ vs. count_parts_seen bs vs)

    pub count_parts_seen : (bs : Branches C N) (vs : List ℕ) → count_in (parts_by worth sight bs vs) ≡ length (flattened_each bs)
    count_parts_seen no_branch vs = refl
    count_parts_seen (branch w a bs) [] = let x = count_seen a in let y = count_parts_seen bs [] in let z = length-append (flattened a) (flattened_each bs) in omega (arith, x, y, z)
    count_parts_seen (branch w a bs) (v ∷ vs) = let x = count_seen a in let y = count_parts_seen bs vs in let z = length-append (flattened a) (flattened_each bs) in omega (arith, x, y, z)

module _ {C F N : Type 0} (worth : Worth C F) (test : Outlook F N → Bool) where
  abbrev parts_seen : Branches C N → List ℕ → Parts
  parts_seen bs vs = parts_by worth (test_sight worth test) bs vs

  -- ---- the shape is that of the evaluated tree

  pub record Like (ls : Lasts) (bs : Branches C N) (vs : List ℕ) : Type 0 where
    pub parts : e.Parts F N
    pub is : evaluated_parts worth ls bs ≡ Ok parts
    pub like : AreShapesOf test parts (parts_seen bs vs)

  abbrev pub PartsLike : Lasts → Branches C N → Result (List ℕ) Arith → Type 0
  PartsLike ls bs (Ok vs) = Like ls bs vs
  PartsLike ls bs (Err f) = evaluated_parts worth ls bs ≡ Err f

  joined_like : (ls : Lasts) (w : Weight C) (a : Tree C N) (bs : Branches C N) → IsShapeOf test (evaluated worth a) (shape_seen worth test a) → (x : Result ℕ Arith) → worth.weight ls w ≡ x → (y : Result (List ℕ) Arith) → PartsLike ls bs y → PartsLike ls (branch w a bs) (with_worth x y)
  joined_like ls w a bs h (Ok v) p (Ok vs) q = record {
    parts = e.part v (evaluated worth a) q.parts;
    is = λ i. with_part (p i) (evaluated worth a) (q.is i);
    like = (refl, (h, q.like));
  }
  joined_like ls w a bs h (Ok v) p (Err f) q = λ i. with_part (p i) (evaluated worth a) (q i)
  joined_like ls w a bs h (Err f) p y q = λ i. with_part (p i) (evaluated worth a) (evaluated_parts worth ls bs)

  chosen_like : (ls : Lasts) (bs : Branches C N) (y : Result (List ℕ) Arith) → PartsLike ls bs y → IsShapeOf test (chosen_among (evaluated_parts worth ls bs) (length (flattened_each bs))) (choice_shape (λ f. test (faulty f)) y (parts_seen bs))
  chosen_like ls bs (Ok vs) q = subst (λ r. IsShapeOf test (chosen_among r (length (flattened_each bs))) (l.weighted (parts_seen bs vs))) (sym q.is) q.like
  chosen_like ls bs (Err f) q =
      subst (λ r. IsShapeOf test (chosen_among r (length (flattened_each bs))) (l.faulty (test (faulty f)) (parts_seen bs []))) (sym q) (refl, count_parts_seen worth (test_sight worth test) bs [])

  mutual
    pub shape_like : (u : Tree C N) → IsShapeOf test (evaluated worth u) (shape_seen worth test u)
    shape_like (t.leaf m) = refl
    shape_like (t.ordered a b) = (shape_like a, shape_like b)
    shape_like (t.weighted ls bs) = chosen_like ls bs (worths worth.weight ls (weights_of bs)) (parts_like ls bs)

    pub parts_like : (ls : Lasts) (bs : Branches C N) → PartsLike ls bs (worths worth.weight ls (weights_of bs))
    parts_like ls no_branch = record { parts = e.no_part; is = refl; like = tt }
    parts_like ls (branch w a bs) = joined_like ls w a bs (shape_like a) (worth.weight ls w) refl (worths worth.weight ls (weights_of bs)) (parts_like ls bs)

  pub has_seen : (u : Tree C N) → has (shape_seen worth test u) ≡ has_some test (evaluated worth u)
  has_seen u = has_is test test (evaluated worth u) (shape_seen worth test u) (shape_like u)

  pub count_like : (u : Tree C N) → count (shape_seen worth test u) ≡ node_count (evaluated worth u)
  count_like u = count_is test test (evaluated worth u) (shape_seen worth test u) (shape_like u)

  -- ---- the table answers for each left tree of an order

  module _ (nodes : List l.Node) (few : length nodes < 2 ^ 32) where
    abbrev pub told_at : ℕ → Bool
    told_at k = (found_at (run nodes) k).has

    pub told_here : (u : Tree C N) (at : ℕ) → IsAt nodes at (shape_seen worth test u) → told_at at ≡ has_some test (evaluated worth u)
    told_here u at h = ap (λ (f : Found). f.has) (tells nodes at (shape_seen worth test u) few h) ∙ has_seen u

    chosen_answered : (ls : Lasts) (bs : Branches C N) (at : ℕ) (y : Result (List ℕ) Arith) → PartsLike ls bs y → ((ps : e.Parts F N) → evaluated_parts worth ls bs ≡ Ok ps → AreAnswered test told_at (at + 1) ps)
        → IsAnswered test told_at at (chosen_among (evaluated_parts worth ls bs) (length (flattened_each bs)))
    chosen_answered ls bs at (Ok vs) q f = subst (λ r. IsAnswered test told_at at (chosen_among r (length (flattened_each bs)))) (sym q.is) (f q.parts q.is)
    chosen_answered ls bs at (Err fault) q f = subst (λ r. IsAnswered test told_at at (chosen_among r (length (flattened_each bs)))) (sym q) tt

    parted : (ls : Lasts) (w : Weight C) (a : Tree C N) (bs : Branches C N) (at : ℕ) (x : Result ℕ Arith) (y : Result (e.Parts F N) Arith) (ps : e.Parts F N) → with_part x (evaluated worth a) y ≡ Ok ps → IsAnswered test told_at at (evaluated worth a)
        → ((qs : e.Parts F N) → y ≡ Ok qs → AreAnswered test told_at (at + node_count (evaluated worth a)) qs) → AreAnswered test told_at at ps
    parted ls w a bs at (Ok v) (Ok qs) ps h k f = let same : e.part v (evaluated worth a) qs ≡ ps = cc in subst (λ r. AreAnswered test told_at at r) same (k, f qs refl)
    parted ls w a bs at (Ok v) (Err fault) ps h k f = absurd (cc)
    parted ls w a bs at (Err fault) y ps h k f = absurd (cc)

    first_at : (u : Shape) (at : ℕ) (rest : List l.Node) → drop at nodes ≡ flat u rest → IsAt nodes at u
    first_at u at rest h = (rest, h)

    parts_at : (bs : Branches C N) (at : ℕ) (rest : List l.Node) (y : Result (List ℕ) Arith) → drop at nodes ≡ flat (choice_shape (λ f. test (faulty f)) y (parts_seen bs)) rest → (vs : List ℕ) × (drop (at + 1) nodes ≡ flat_in (parts_seen bs vs) rest)
    parts_at bs at rest (Ok vs) h = (vs, after_node nodes at (l.choice (weights (parts_seen bs vs))) (flat_in (parts_seen bs vs) rest) h)
    parts_at bs at rest (Err fault) h = ([], after_node nodes at (l.spoilt (test (faulty fault)) (weights (parts_seen bs []))) (flat_in (parts_seen bs []) rest) h)

    mutual
      pub answered : (u : Tree C N) (at : ℕ) (rest : List l.Node) → drop at nodes ≡ flat (shape_seen worth test u) rest → IsAnswered test told_at at (evaluated worth u)
      answered (t.leaf m) at rest h = tt
      answered (t.ordered a b) at rest h =
          let one = after_node nodes at order (flat (shape_seen worth test a) (flat (shape_seen worth test b) rest)) h in
          let two = after_tree nodes (at + 1) (shape_seen worth test a) (flat (shape_seen worth test b) rest) one in
          let right = ap (λ n. drop (at + 1 + n) nodes) (sym (count_like a)) ∙ two in (
            told_here a (at + 1) (flat (shape_seen worth test b) rest, one),
            (answered a (at + 1) (flat (shape_seen worth test b) rest) one, answered b (at + 1 + node_count (evaluated worth a)) rest right),
          )
      answered (t.weighted ls bs) at rest h =
          let p = parts_at bs at rest (worths worth.weight ls (weights_of bs)) h in
          chosen_answered ls bs at (worths worth.weight ls (weights_of bs)) (parts_like ls bs) (λ ps q. parts_answered ls bs (at + 1) rest p.0 p.1 ps q)

      parts_answered : (ls : Lasts) (bs : Branches C N) (at : ℕ) (rest : List l.Node) (vs : List ℕ) → drop at nodes ≡ flat_in (parts_seen bs vs) rest → (ps : e.Parts F N) → evaluated_parts worth ls bs ≡ Ok ps → AreAnswered test told_at at ps
      parts_answered ls no_branch at rest vs h ps q = let same : e.no_part ≡ ps = cc in subst (λ r. AreAnswered test told_at at r) same tt
      parts_answered ls (branch w a bs) at rest [] h ps q =
          let two = ap (λ n. drop (at + n) nodes) (sym (count_like a)) ∙ after_tree nodes at (shape_seen worth test a) (flat_in (parts_seen bs []) rest) h in
          parted ls w a bs at (worth.weight ls w) (evaluated_parts worth ls bs) ps q (answered a at (flat_in (parts_seen bs []) rest) h) (λ qs k. parts_answered ls bs (at + node_count (evaluated worth a)) rest [] two qs k)
      parts_answered ls (branch w a bs) at rest (v ∷ vs) h ps q =
          let two = ap (λ n. drop (at + n) nodes) (sym (count_like a)) ∙ after_tree nodes at (shape_seen worth test a) (flat_in (parts_seen bs vs) rest) h in
          parted ls w a bs at (worth.weight ls w) (evaluated_parts worth ls bs) ps q (answered a at (flat_in (parts_seen bs vs) rest) h) (λ qs k. parts_answered ls bs (at + node_count (evaluated worth a)) rest vs two qs k)
