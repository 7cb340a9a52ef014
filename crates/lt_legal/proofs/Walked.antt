-- The walk of the code is that of the rules.
use Rattle.std.proofs.Common.{◌≡◌, ℕ, ◌+◌, Bool, true, false, ◌&&◌, List, [], ◌∷◌, ◌++◌, map, refl, ap, sym, ◌∙◌}
use Rattle.std.specs.Prelude.{◌||◌, if◌then◌else◌, nat_lt, reverse}
use Rattle.std.proofs.lemmas.List.{map-append, reverse-append}
use Rattle.lt_instant.specs.Drawn.{Met}
use Rattle.lt_legal.specs.Walk.{has_some, one_has_some, walked, walked_in}
use Rattle.lt_term.specs.Evaluated as rules
use Rattle.lt_term.specs.Evaluated.{Evaluated, Outlook, node_count, node_count_of_each}
use Rattle.lt_legal.specs.Back.{back, back_in}
use Rattle.lt_legal.specs.Nodes.{Parts, Shape, count, count_in, faulty, has, has_in, leaf, no_part, ordered, part, weighted}
use Rattle.lt_legal.specs.Shapes.{AreAnswered, AreShapesOf, IsAnswered, IsShapeOf, WalksAreWalked}

module _ {F N : Type 0} (test live : Outlook F N → Bool) where
  mutual
    pub has_is : (t : Evaluated F N) (s : Shape) → IsShapeOf test t s → has s ≡ has_some test t
    has_is (rules.leaf o) (leaf b) h = h
    has_is (rules.leaf o) (ordered x y) h = absurd h
    has_is (rules.leaf o) (weighted qs) h = absurd h
    has_is (rules.leaf o) (faulty b qs) h = absurd h
    has_is (rules.ordered a b) (leaf c) h = absurd h
    has_is (rules.ordered a b) (ordered x y) h = let l = has_is a x h.0 in let r = has_is b y h.1 in λ i. l i || r i
    has_is (rules.ordered a b) (weighted qs) h = absurd h
    has_is (rules.ordered a b) (faulty c qs) h = absurd h
    has_is (rules.weighted ps) (leaf b) h = absurd h
    has_is (rules.weighted ps) (ordered x y) h = absurd h
    has_is (rules.weighted ps) (weighted qs) h = has_in_is ps qs h
    has_is (rules.weighted ps) (faulty b qs) h = absurd h
    has_is (rules.spoilt fault below) (leaf b) h = absurd h
    has_is (rules.spoilt fault below) (ordered x y) h = absurd h
    has_is (rules.spoilt fault below) (weighted qs) h = absurd h
    has_is (rules.spoilt fault below) (faulty b qs) h = h.0

    has_in_is : (ps : rules.Parts F N) (qs : Parts) → AreShapesOf test ps qs → has_in qs ≡ one_has_some test ps
    has_in_is rules.no_part no_part h = refl
    has_in_is rules.no_part (part v s qs) h = absurd h
    has_in_is (rules.part w t ps) no_part h = absurd h
    has_in_is (rules.part w t ps) (part v s qs) h = let a = has_is t s h.1.0 in let b = has_in_is ps qs h.1.1 in λ i. (h.0 i && a i) || b i

  mutual
    pub count_is : (t : Evaluated F N) (s : Shape) → IsShapeOf test t s → count s ≡ node_count t
    count_is (rules.leaf o) (leaf b) h = refl
    count_is (rules.leaf o) (ordered x y) h = absurd h
    count_is (rules.leaf o) (weighted qs) h = absurd h
    count_is (rules.leaf o) (faulty b qs) h = absurd h
    count_is (rules.ordered a b) (leaf c) h = absurd h
    count_is (rules.ordered a b) (ordered x y) h = let l = count_is a x h.0 in let r = count_is b y h.1 in λ i. 1 + l i + r i
    count_is (rules.ordered a b) (weighted qs) h = absurd h
    count_is (rules.ordered a b) (faulty c qs) h = absurd h
    count_is (rules.weighted ps) (leaf b) h = absurd h
    count_is (rules.weighted ps) (ordered x y) h = absurd h
    count_is (rules.weighted ps) (weighted qs) h = ap (λ k. 1 + k) (count_in_is ps qs h)
    count_is (rules.weighted ps) (faulty b qs) h = absurd h
    count_is (rules.spoilt fault below) (leaf b) h = absurd h
    count_is (rules.spoilt fault below) (ordered x y) h = absurd h
    count_is (rules.spoilt fault below) (weighted qs) h = absurd h
    count_is (rules.spoilt fault below) (faulty b qs) h = ap (λ k. 1 + k) h.1

    count_in_is : (ps : rules.Parts F N) (qs : Parts) → AreShapesOf test ps qs → count_in qs ≡ node_count_of_each ps
    count_in_is rules.no_part no_part h = refl
    count_in_is rules.no_part (part v s qs) h = absurd h
    count_in_is (rules.part w t ps) no_part h = absurd h
    count_in_is (rules.part w t ps) (part v s qs) h = let a = count_is t s h.1.0 in let b = count_in_is ps qs h.1.1 in λ i. a i + b i

  -- positions, the last ones first
  abbrev last_first : List (Met F N) → List ℕ
  last_first ms = reverse (map (λ m. m.position) ms)

  one_leaf : (b : Bool) (at : ℕ) (o : Outlook F N) → (if b then at ∷ [] else []) ≡ last_first (if b then record { position = at; outlook = o } ∷ [] else [])
  one_leaf true at o = refl
  one_leaf false at o = refl

  joined : (xs ys : List (Met F N)) → last_first (xs ++ ys) ≡ last_first ys ++ last_first xs
  joined xs ys = ap reverse (map-append (λ (m : Met F N). m.position) xs ys) ∙ reverse-append (map (λ m. m.position) xs) (map (λ m. m.position) ys)

  where_positive : (v : Bool) (ks : List ℕ) (ms : List (Met F N)) → ks ≡ last_first ms → (if v then ks else []) ≡ last_first (if v then ms else [])
  where_positive true ks ms h = h
  where_positive false ks ms h = refl

  order_walked : (a b c : Bool) (xs ys : List ℕ) (ms ns : List (Met F N)) → xs ≡ last_first ms → ys ≡ last_first ns
      → (if a then xs else (if b then (if c then [] else ys) else [])) ≡ last_first (if a then ms else (if b then (if c then [] else ns) else []))
  order_walked true b c xs ys ms ns h k = h
  order_walked false false c xs ys ms ns h k = refl
  order_walked false true true xs ys ms ns h k = refl
  order_walked false true false xs ys ms ns h k = k

  module _ (alive : ℕ → Bool) where
    mutual
      walk_is : (t : Evaluated F N) (s : Shape) (at : ℕ) → IsShapeOf test t s → IsAnswered live alive at t → back alive at s ≡ last_first (walked test live at t)
      walk_is (rules.leaf o) (leaf b) at h k = ap (λ x. if x then at ∷ [] else []) h ∙ one_leaf (test o) at o
      walk_is (rules.leaf o) (ordered x y) at h k = absurd h
      walk_is (rules.leaf o) (weighted qs) at h k = absurd h
      walk_is (rules.leaf o) (faulty b qs) at h k = absurd h
      walk_is (rules.ordered a b) (leaf c) at h k = absurd h
      walk_is (rules.ordered a b) (ordered x y) at h k =
          let left = walk_is a x (at + 1) h.0 k.1.0 in
          let right = ap (λ n. back alive (at + 1 + n) y) (count_is a x h.0) ∙ walk_is b y (at + 1 + node_count a) h.1 k.1.1 in
          let first = has_is a x h.0 in
          let second = has_is b y h.1 in
          (λ i. if first i then back alive (at + 1) x else (if second i then (if k.0 i then [] else back alive (at + 1 + count x) y) else []))
          ∙ order_walked (has_some test a) (has_some test b) (has_some live a) (back alive (at + 1) x) (back alive (at + 1 + count x) y) (walked test live (at + 1) a) (walked test live (at + 1 + node_count a) b) left right
      walk_is (rules.ordered a b) (weighted qs) at h k = absurd h
      walk_is (rules.ordered a b) (faulty c qs) at h k = absurd h
      walk_is (rules.weighted ps) (leaf b) at h k = absurd h
      walk_is (rules.weighted ps) (ordered x y) at h k = absurd h
      walk_is (rules.weighted ps) (weighted qs) at h k = walk_in_is ps qs (at + 1) h k
      walk_is (rules.weighted ps) (faulty b qs) at h k = absurd h
      walk_is (rules.spoilt fault below) (leaf b) at h k = absurd h
      walk_is (rules.spoilt fault below) (ordered x y) at h k = absurd h
      walk_is (rules.spoilt fault below) (weighted qs) at h k = absurd h
      walk_is (rules.spoilt fault below) (faulty b qs) at h k = ap (λ x. if x then at ∷ [] else []) h.0 ∙ one_leaf (test (rules.faulty fault)) at (rules.faulty fault)

      walk_in_is : (ps : rules.Parts F N) (qs : Parts) (at : ℕ) → AreShapesOf test ps qs → AreAnswered live alive at ps → back_in alive at qs ≡ last_first (walked_in test live at ps)
      walk_in_is rules.no_part no_part at h k = refl
      walk_in_is rules.no_part (part v s qs) at h k = absurd h
      walk_in_is (rules.part w t ps) no_part at h k = absurd h
      walk_in_is (rules.part w t ps) (part v s qs) at h k =
          let own = ap (λ x. if x then back alive at s else []) h.0 ∙ where_positive (nat_lt 0 w) (back alive at s) (walked test live at t) (walk_is t s at h.1.0 k.0) in
          let others = ap (λ n. back_in alive (at + n) qs) (count_is t s h.1.0) ∙ walk_in_is ps qs (at + node_count t) h.1.1 k.1 in
          (λ i. others i ++ own i) ∙ sym (joined (if nat_lt 0 w then walked test live at t else []) (walked_in test live (at + node_count t) ps))

pub walks_are_walked : WalksAreWalked
walks_are_walked test live t s alive h k = walk_is test live alive t s 0 h k
