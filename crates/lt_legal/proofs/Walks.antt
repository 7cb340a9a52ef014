-- The walk.
use Rattle.std.proofs.Common.{◌≡◌, ◌≤◌, ◌<◌, ◌^◌, ◌+◌, ◌⊎◌, inl, inr, ℕ, zero, suc, Bool, true, false, List, [], ◌∷◌, ◌++◌, length, drop, drop-drop, get_or, map, append_assoc, append-nil, refl, ap, sym, ◌∙◌, subst, arith}
use Rattle.std.specs.Prelude.{not, if◌then◌else◌, Ok, Err, OnOk, IfErr}
use Rattle.std.specs.declared.result.Result.{Result}
use Rattle.std.proofs.lemmas.List.{drop_all, drop_more, length-drop}
use Rattle.lt_legal.proofs.Tables.{plus_is, tree_tells}
use Rattle.std.specs.declared.alloc.AllocError.{AllocError}
use Rattle.lt_legal.specs.Asked.{AsksAmong, AsksAt, AsksIn, IsHaltAt, IsHaltOf, halting}
use Rattle.lt_legal.specs.declared.halt.Halt.{Halt}
use Rattle.lt_legal.specs.declared.halt.Halt.TheVariants as halts_by
use Rattle.lt_legal.specs.Back.{AreAt, IsAt, Visits, back, back_in, todo, total}
use Rattle.lt_legal.specs.Nodes.{Node, Parts, Shape, children, choice, count, count_in, faulty, flat, flat_in, found_at, has, leaf, no_part, order, ordered, part, plus, put_of, run, spoilt, tip, weighted, weights}
use Rattle.lt_legal.specs.declared.found.Found.{Found}

-- ---- nodes of a tree

run_drop : (n : ℕ) (ns : List Node) → drop n (run ns) ≡ run (drop n ns)
run_drop zero ns = refl
run_drop (suc n) [] = refl
run_drop (suc n) (x ∷ ns) = run_drop n ns

mutual
  flat_length : (t : Shape) (ns : List Node) → length (flat t ns) ≡ count t + length ns
  flat_length (leaf b) ns = omega arith
  flat_length (ordered a b) ns = let x = flat_length a (flat b ns) in let y = flat_length b ns in omega (arith, x, y)
  flat_length (weighted ps) ns = let x = flat_in_length ps ns in omega (arith, x)
  flat_length (faulty b ps) ns = let x = flat_in_length ps ns in omega (arith, x)

  flat_in_length : (ps : Parts) (ns : List Node) → length (flat_in ps ns) ≡ count_in ps + length ns
  flat_in_length no_part ns = omega arith
  flat_in_length (part w t ps) ns = let x = flat_length t (flat_in ps ns) in let y = flat_in_length ps ns in omega (arith, x, y)

some_nodes : (t : Shape) → 1 ≤ count t
some_nodes (leaf b) = omega arith
some_nodes (ordered a b) = omega arith
some_nodes (weighted ps) = omega arith
some_nodes (faulty b ps) = omega arith

-- a tree's nodes are among all
ends_within : (nodes : List Node) (n : ℕ) (t : Shape) → IsAt nodes n t → n + count t ≤ length nodes
ends_within nodes n t h =
    let x = ap length h.1 in
    let y = flat_length t h.0 in
    let z = length-drop n nodes in
    let one = some_nodes t in
    omega (arith, x, y, z, one)

pub tells : (nodes : List Node) (n : ℕ) (t : Shape) → length nodes < 2 ^ 32 → IsAt nodes n t → found_at (run nodes) n ≡ record { has = has t; size = count t }
tells nodes n t l h =
    let small : count t < 2 ^ 32 = let e = ends_within nodes n t h in omega (arith, l, e) in
    (tree_tells t h.0 (run nodes) n small (run_drop n nodes ∙ ap run h.1)).here

mutual
  flat_drop : (t : Shape) (ns : List Node) → drop (count t) (flat t ns) ≡ ns
  flat_drop (leaf b) ns = refl
  flat_drop (ordered a b) ns =
      let sum : 1 + count a + count b ≡ suc (count a + count b) = omega arith in
      ap (λ k. drop k (order ∷ flat a (flat b ns))) sum ∙ sym (drop-drop (count b) (count a) (flat a (flat b ns))) ∙ ap (λ l. drop (count b) l) (flat_drop a (flat b ns)) ∙ flat_drop b ns
  flat_drop (weighted ps) ns =
      let sum : 1 + count_in ps ≡ suc (count_in ps) = omega arith in
      ap (λ k. drop k (choice (weights ps) ∷ flat_in ps ns)) sum ∙ flat_in_drop ps ns
  flat_drop (faulty b ps) ns =
      let sum : 1 + count_in ps ≡ suc (count_in ps) = omega arith in
      ap (λ k. drop k (spoilt b (weights ps) ∷ flat_in ps ns)) sum ∙ flat_in_drop ps ns

  flat_in_drop : (ps : Parts) (ns : List Node) → drop (count_in ps) (flat_in ps ns) ≡ ns
  flat_in_drop no_part ns = refl
  flat_in_drop (part w t ps) ns = sym (drop-drop (count_in ps) (count t) (flat t (flat_in ps ns))) ∙ ap (λ l. drop (count_in ps) l) (flat_drop t (flat_in ps ns)) ∙ flat_in_drop ps ns

-- what follows a tree, and what follows a node
pub after_tree : (nodes : List Node) (n : ℕ) (t : Shape) (ns : List Node) → drop n nodes ≡ flat t ns → drop (n + count t) nodes ≡ ns
after_tree nodes n t ns e = sym (drop-drop (count t) n nodes) ∙ ap (λ l. drop (count t) l) e ∙ flat_drop t ns

pub after_node : (nodes : List Node) (n : ℕ) (x : Node) (ns : List Node) → drop n nodes ≡ x ∷ ns → drop (n + 1) nodes ≡ ns
after_node nodes n x ns e = sym (drop-drop 1 n nodes) ∙ ap (λ l. drop 1 l) e

-- ---- a node tells what its tree is

abbrev node_flag : List Node → Bool
node_flag (tip b ∷ ns) = b
node_flag (spoilt b ws ∷ ns) = b
node_flag _ = false

abbrev node_weights : List Node → List Bool
node_weights (choice ws ∷ ns) = ws
node_weights _ = []

pub tip_tree : (live : ℕ → Bool) (nodes : List Node) (n : ℕ) (b : Bool) (rest : List Node) (t : Shape) → drop n nodes ≡ tip b ∷ rest → IsAt nodes n t → back live n t ≡ put_of b n
tip_tree live nodes n b rest (leaf c) e h = ap (λ x. put_of x n) (ap node_flag (sym h.1 ∙ e))
tip_tree live nodes n b rest (ordered a c) e h = absurd (cc (h.1))
tip_tree live nodes n b rest (weighted ps) e h = absurd (cc (h.1))
tip_tree live nodes n b rest (faulty c ps) e h = absurd (cc (h.1))

pub spoilt_tree : (live : ℕ → Bool) (nodes : List Node) (n : ℕ) (b : Bool) (ws : List Bool) (rest : List Node) (t : Shape) → drop n nodes ≡ spoilt b ws ∷ rest → IsAt nodes n t → back live n t ≡ put_of b n
spoilt_tree live nodes n b ws rest (leaf c) e h = absurd (cc (h.1))
spoilt_tree live nodes n b ws rest (ordered a c) e h = absurd (cc (h.1))
spoilt_tree live nodes n b ws rest (weighted ps) e h = absurd (cc (h.1))
spoilt_tree live nodes n b ws rest (faulty c ps) e h = ap (λ x. put_of x n) (ap node_flag (sym h.1 ∙ e))

record OrderAt (nodes : List Node) (n : ℕ) (t : Shape) : Type 0 where
  left : Shape
  right : Shape
  is : t ≡ ordered left right
  left_at : IsAt nodes (n + 1) left
  right_at : IsAt nodes (n + 1 + count left) right

order_tree : (nodes : List Node) (n : ℕ) (rest : List Node) (t : Shape) → drop n nodes ≡ order ∷ rest → IsAt nodes n t → OrderAt nodes n t
order_tree nodes n rest (leaf c) e h = absurd (cc (h.1))
order_tree nodes n rest (ordered a b) e h =
    let first = after_node nodes n order (flat a (flat b h.0)) h.1 in
    record { left = a; right = b; is = refl; left_at = (flat b h.0, first); right_at = (h.0, after_tree nodes (n + 1) a (flat b h.0) first) }
order_tree nodes n rest (weighted ps) e h = absurd (cc (h.1))
order_tree nodes n rest (faulty c ps) e h = absurd (cc (h.1))

record ChoiceAt (nodes : List Node) (n : ℕ) (t : Shape) (ws : List Bool) : Type 0 where
  parts : Parts
  rest : List Node
  is : t ≡ weighted parts
  same : ws ≡ weights parts
  at : drop (n + 1) nodes ≡ flat_in parts rest

choice_tree : (nodes : List Node) (n : ℕ) (ws : List Bool) (rest : List Node) (t : Shape) → drop n nodes ≡ choice ws ∷ rest → IsAt nodes n t → ChoiceAt nodes n t ws
choice_tree nodes n ws rest (leaf c) e h = absurd (cc (h.1))
choice_tree nodes n ws rest (ordered a b) e h = absurd (cc (h.1))
choice_tree nodes n ws rest (weighted ps) e h =
    record { parts = ps; rest = h.0; is = refl; same = ap node_weights (sym e ∙ h.1); at = after_node nodes n (choice (weights ps)) (flat_in ps h.0) h.1 }
choice_tree nodes n ws rest (faulty c ps) e h = absurd (cc (h.1))

-- ---- the parts of a choice

abbrev pub shapes_of : Parts → List Shape
shapes_of no_part = []
shapes_of (part true t ps) = t ∷ shapes_of ps
shapes_of (part false t ps) = shapes_of ps

-- what is asked in the first tree, or in the others
either_asks : {W : Type 0} (at : ℕ) (t : Shape) (next : ℕ) (ps : Parts) (k : ℕ) → (W → AsksIn next ps k) → AsksAt at t k ⊎ W → ((true ≡ true) × AsksAt at t k) ⊎ AsksIn next ps k
either_asks at t next ps k f (inl h) = inl (refl, h)
either_asks at t next ps k f (inr w) = inr (f w)

-- what is asked in one tree alone
only_one : {A : Type 0} → A ⊎ ⊥ → A
only_one (inl h) = h
only_one (inr h) = absurd h

-- what is said of the parts of positive weight
record Kids (live : ℕ → Bool) (nodes : List Node) (m : ℕ) (ps : Parts) (numbers : List ℕ) : Type 0 where
  are : AreAt nodes numbers (shapes_of ps)
  same : todo live numbers (shapes_of ps) ≡ back_in live m ps
  few : total (run nodes) numbers ≤ count_in ps
  asks : (k : ℕ) → AsksAmong numbers (shapes_of ps) k → AsksIn m ps k

module _ (live : ℕ → Bool) (nodes : List Node) (l : length nodes < 2 ^ 32) where
  part_next : (t : Shape) (m : ℕ) → IsAt nodes m t → plus m (found_at (run nodes) m).size ≡ m + count t
  part_next t m at = ap (λ (f : Found). plus m f.size) (tells nodes m t l at) ∙ plus_is m (count t) (let x = ends_within nodes m t at in omega (arith, l, x))

  kids : (ps : Parts) (m : ℕ) (ns : List Node) → drop m nodes ≡ flat_in ps ns → Kids live nodes m ps (children (weights ps) m (run nodes))
  kids no_part m ns e = record { are = tt; same = refl; few = omega arith; asks = λ k h. absurd h }
  kids (part true t ps) m ns e =
      let at : IsAt nodes m t = (flat_in ps ns, e) in
      let rest = kids ps (m + count t) ns (after_tree nodes m t (flat_in ps ns) e) in
      let next = sym (part_next t m at) in
      let one = ap (λ (f : Found). f.size) (tells nodes m t l at) in
      let few : total (run nodes) (children (weights ps) (plus m (found_at (run nodes) m).size) (run nodes)) ≤ count_in ps = subst (λ k. total (run nodes) (children (weights ps) k (run nodes)) ≤ count_in ps) next rest.few in
      record {
        are = (at, subst (λ k. AreAt nodes (children (weights ps) k (run nodes)) (shapes_of ps)) next rest.are);
        same = ap (λ k. k ++ back live m t) (ap (λ k. todo live (children (weights ps) k (run nodes)) (shapes_of ps)) (sym next) ∙ rest.same);
        few = omega (arith, one, few);
        asks = λ k h. either_asks m t (m + count t) ps k (λ w. rest.asks k (subst (λ j. AsksAmong (children (weights ps) j (run nodes)) (shapes_of ps) k) (sym next) w)) h;
      }
  kids (part false t ps) m ns e =
      let at : IsAt nodes m t = (flat_in ps ns, e) in
      let rest = kids ps (m + count t) ns (after_tree nodes m t (flat_in ps ns) e) in
      let next = sym (part_next t m at) in
      let few : total (run nodes) (children (weights ps) (plus m (found_at (run nodes) m).size) (run nodes)) ≤ count_in ps = subst (λ k. total (run nodes) (children (weights ps) k (run nodes)) ≤ count_in ps) next rest.few in
      record {
        are = subst (λ k. AreAt nodes (children (weights ps) k (run nodes)) (shapes_of ps)) next rest.are;
        same = ap (λ k. todo live (children (weights ps) k (run nodes)) (shapes_of ps)) (sym next) ∙ rest.same ∙ sym (append-nil (back_in live (m + count t) ps));
        few = omega (arith, few);
        asks = λ k h. inr (rest.asks k (subst (λ j. AsksAmong (children (weights ps) j (run nodes)) (shapes_of ps) k) (sym next) h));
      }

-- ---- one tree is looked at

module _ (live : ℕ → Bool) (nodes : List Node) (l : length nodes < 2 ^ 32) (n : ℕ) (t : Shape) (h : IsAt nodes n t) where
  own_size : (found_at (run nodes) n).size ≡ count t
  own_size = ap (λ (f : Found). f.size) (tells nodes n t l h)

  own_some : 0 < (found_at (run nodes) n).size
  own_some = let x = own_size in let y = some_nodes t in omega (arith, x, y)

  -- a leaf
  pub visit_leaf : (b : Bool) (stack out out' : List ℕ) → back live n t ≡ put_of b n → out' ≡ out ++ put_of b n → Visits live nodes (run nodes) n t stack stack out out'
  visit_leaf b stack out out' e f = record {
    numbers = [];
    trees = [];
    at = tt;
    pushed = sym (append-nil stack);
    same = ap (λ k. out ++ k) e ∙ sym f ∙ sym (append-nil out');
    falls = own_some;
    asks = λ k w. absurd w;
  }

  -- an order
  module _ (rest : List Node) (e : drop n nodes ≡ order ∷ rest) (left right : ℕ) (one : Found) (le : left ≡ plus n 1) (oe : one ≡ found_at (run nodes) left) (re : right ≡ plus left one.size) where
    abbrev parts_here : OrderAt nodes n t
    parts_here = order_tree nodes n rest t e h

    left_is : left ≡ n + 1
    left_is = le ∙ plus_is n 1 (let x = ends_within nodes n t h in let y = some_nodes t in omega (arith, l, x, y))

    one_is : one ≡ record { has = has parts_here.left; size = count parts_here.left }
    one_is = oe ∙ ap (λ k. found_at (run nodes) k) left_is ∙ tells nodes (n + 1) parts_here.left l parts_here.left_at

    right_is : right ≡ n + 1 + count parts_here.left
    right_is =
        let x = ends_within nodes (n + 1) parts_here.left parts_here.left_at in
        re ∙ (λ i. plus (left_is i) (one_is i).size) ∙ plus_is (n + 1) (count parts_here.left) (omega (arith, l, x))

    two_is : found_at (run nodes) right ≡ record { has = has parts_here.right; size = count parts_here.right }
    two_is = ap (λ k. found_at (run nodes) k) right_is ∙ tells nodes (n + 1 + count parts_here.left) parts_here.right l parts_here.right_at

    sizes : (found_at (run nodes) n).size ≡ 1 + count parts_here.left + count parts_here.right
    sizes = own_size ∙ ap count parts_here.is

    back_is : back live n t ≡ back live n (ordered parts_here.left parts_here.right)
    back_is = ap (back live n) parts_here.is

    has_left : one.has ≡ has parts_here.left
    has_left = ap (λ (f : Found). f.has) one_is

    has_right : (found_at (run nodes) right).has ≡ has parts_here.right
    has_right = ap (λ (f : Found). f.has) two_is

    abbrev left_back : List ℕ
    left_back = back live (n + 1) parts_here.left

    abbrev right_back : List ℕ
    right_back = back live (n + 1 + count parts_here.left) parts_here.right

    abbrev choose : Bool → Bool → Bool → List ℕ
    choose a b c = if a then left_back else (if b then (if c then [] else right_back) else [])

    chosen : (a b c : Bool) → a ≡ has parts_here.left → b ≡ has parts_here.right → c ≡ live (n + 1) → back live n t ≡ choose a b c
    chosen a b c x y z = back_is ∙ (λ i. choose (sym x i) (sym y i) (sym z i))

    pub visit_first : (stack stack' out : List ℕ) → one.has ≡ true → stack' ≡ stack ++ put_of true left → Visits live nodes (run nodes) n t stack stack' out out
    visit_first stack stack' out o p =
        let size = ap (λ (f : Found). f.size) (ap (λ k. found_at (run nodes) k) (sym left_is) ∙ sym oe ∙ one_is) in
        let s = sizes in
        record {
          numbers = (n + 1) ∷ [];
          trees = parts_here.left ∷ [];
          at = (parts_here.left_at, tt);
          pushed = p ∙ ap (λ k. stack ++ k ∷ []) left_is;
          same = ap (λ k. out ++ k) (chosen true (has parts_here.right) (live (n + 1)) (sym o ∙ has_left) refl refl);
          falls = omega (arith, size, s);
          asks = λ k w. subst (λ u. AsksAt n u k) (sym parts_here.is) (inl (only_one w));
        }

    pub visit_second : (stack stack' out : List ℕ) (lives : Bool) → one.has ≡ false → (found_at (run nodes) right).has ≡ true → lives ≡ live left → stack' ≡ stack ++ put_of (not lives) right → Visits live nodes (run nodes) n t stack stack' out out
    visit_second stack stack' out true o w v p = record {
      numbers = [];
      trees = [];
      at = tt;
      pushed = p;
      same = ap (λ k. out ++ k) (chosen false true true (sym o ∙ has_left) (sym w ∙ has_right) (v ∙ ap live left_is));
      falls = own_some;
      asks = λ k a. absurd a;
    }
    visit_second stack stack' out false o w v p =
        let size = ap (λ (f : Found). f.size) (ap (λ k. found_at (run nodes) k) (sym right_is) ∙ two_is) in
        let s = sizes in
        record {
          numbers = (n + 1 + count parts_here.left) ∷ [];
          trees = parts_here.right ∷ [];
          at = (parts_here.right_at, tt);
          pushed = p ∙ ap (λ k. stack ++ k ∷ []) right_is;
          same = ap (λ k. out ++ k) (chosen false true false (sym o ∙ has_left) (sym w ∙ has_right) (v ∙ ap live left_is));
          falls = omega (arith, size, s);
          asks = λ k a. subst (λ u. AsksAt n u k) (sym parts_here.is) (inr (inr (only_one a)));
        }

    -- what is asked here
    pub asked_here : one.has ≡ false → (found_at (run nodes) right).has ≡ true → AsksAt n t left
    asked_here o w = subst (λ u. AsksAt n u left) (sym parts_here.is) (inr (inl (left_is, (sym has_left ∙ o, sym has_right ∙ w))))

    pub visit_none : (stack out : List ℕ) → one.has ≡ false → (found_at (run nodes) right).has ≡ false → Visits live nodes (run nodes) n t stack stack out out
    visit_none stack out o w = record {
      numbers = [];
      trees = [];
      at = tt;
      pushed = sym (append-nil stack);
      same = ap (λ k. out ++ k) (chosen false false (live (n + 1)) (sym o ∙ has_left) (sym w ∙ has_right) refl);
      falls = own_some;
      asks = λ k a. absurd a;
    }

  -- a choice
  pub visit_choice : (ws : List Bool) (rest : List Node) (from : ℕ) (stack stack' out : List ℕ) → drop n nodes ≡ choice ws ∷ rest → from ≡ plus n 1 → stack' ≡ stack ++ children ws from (run nodes) → Visits live nodes (run nodes) n t stack stack' out out
  visit_choice ws rest from stack stack' out e f p =
      let c = choice_tree nodes n ws rest t e h in
      let x = ends_within nodes n t h in
      let y = some_nodes t in
      let start : from ≡ n + 1 = f ∙ plus_is n 1 (omega (arith, l, x, y)) in
      let k = kids live nodes l c.parts (n + 1) c.rest c.at in
      let s = own_size ∙ ap count c.is in
      let few = k.few in
      record {
        numbers = children (weights c.parts) (n + 1) (run nodes);
        trees = shapes_of c.parts;
        at = k.are;
        pushed = p ∙ (λ i. stack ++ children (c.same i) (start i) (run nodes));
        same = ap (λ b. out ++ b) (ap (back live n) c.is ∙ sym k.same);
        falls = omega (arith, s, few);
        asks = λ j a. subst (λ u. AsksAt n u j) (sym c.is) (k.asks j a);
      }

-- ---- trees that wait

pub total_append : (hs : List Found) (ns ms : List ℕ) → total hs (ns ++ ms) ≡ total hs ns + total hs ms
total_append hs [] ms = omega arith
total_append hs (n ∷ ns) ms = let x = total_append hs ns ms in omega (arith, x)

are_append : (nodes : List Node) (ns ms : List ℕ) (ts us : List Shape) → AreAt nodes ns ts → AreAt nodes ms us → AreAt nodes (ns ++ ms) (ts ++ us)
are_append nodes [] ms [] us a b = b
are_append nodes [] ms (t ∷ ts) us a b = absurd a
are_append nodes (n ∷ ns) ms [] us a b = absurd a
are_append nodes (n ∷ ns) ms (t ∷ ts) us a b = (a.0, are_append nodes ns ms ts us a.1 b)

todo_append : (live : ℕ → Bool) (nodes : List Node) (ns ms : List ℕ) (ts us : List Shape) → AreAt nodes ns ts → todo live (ns ++ ms) (ts ++ us) ≡ todo live ms us ++ todo live ns ts
todo_append live nodes [] ms [] us a = sym (append-nil (todo live ms us))
todo_append live nodes [] ms (t ∷ ts) us a = absurd a
todo_append live nodes (n ∷ ns) ms [] us a = absurd a
todo_append live nodes (n ∷ ns) ms (t ∷ ts) us a = ap (λ k. k ++ back live n t) (todo_append live nodes ns ms ts us a.1) ∙ append_assoc (todo live ms us) (todo live ns ts) (back live n t)

-- the last of them
pub record Last (nodes : List Node) (ns : List ℕ) (n : ℕ) (ts : List Shape) : Type 0 where
  pub front : List Shape
  pub tree : Shape
  pub are : ts ≡ front ++ tree ∷ []
  pub fronts : AreAt nodes ns front
  pub at : IsAt nodes n tree

pub last_of : (nodes : List Node) (ns : List ℕ) (n : ℕ) (ts : List Shape) → AreAt nodes (ns ++ n ∷ []) ts → Last nodes ns n ts
last_of nodes [] n [] a = absurd a
last_of nodes [] n (t ∷ []) a = record { front = []; tree = t; are = refl; fronts = tt; at = a.0 }
last_of nodes [] n (t ∷ u ∷ ts) a = absurd a.1
last_of nodes (m ∷ ns) n [] a = absurd a
last_of nodes (m ∷ ns) n (t ∷ ts) a =
    let r = last_of nodes ns n ts a.1 in
    record { front = t ∷ r.front; tree = r.tree; are = ap (λ k. t ∷ k) r.are; fronts = (a.0, r.fronts); at = r.at }

-- what is asked in trees that wait
asks_first : (nodes : List Node) (ns ms : List ℕ) (ts us : List Shape) (k : ℕ) → AreAt nodes ns ts → AsksAmong ns ts k → AsksAmong (ns ++ ms) (ts ++ us) k
asks_first nodes [] ms [] us k a h = absurd h
asks_first nodes [] ms (t ∷ ts) us k a h = absurd a
asks_first nodes (n ∷ ns) ms [] us k a h = absurd a
asks_first nodes (n ∷ ns) ms (t ∷ ts) us k a (inl h) = inl h
asks_first nodes (n ∷ ns) ms (t ∷ ts) us k a (inr h) = inr (asks_first nodes ns ms ts us k a.1 h)

asks_second : (nodes : List Node) (ns ms : List ℕ) (ts us : List Shape) (k : ℕ) → AreAt nodes ns ts → AsksAmong ms us k → AsksAmong (ns ++ ms) (ts ++ us) k
asks_second nodes [] ms [] us k a h = h
asks_second nodes [] ms (t ∷ ts) us k a h = absurd a
asks_second nodes (n ∷ ns) ms [] us k a h = absurd a
asks_second nodes (n ∷ ns) ms (t ∷ ts) us k a h = inr (asks_second nodes ns ms ts us k a.1 h)

asks_either : (nodes : List Node) (ns ms : List ℕ) (ts us : List Shape) (k : ℕ) → AreAt nodes ns ts → AsksAmong (ns ++ ms) (ts ++ us) k → AsksAmong ns ts k ⊎ AsksAmong ms us k
asks_either nodes [] ms [] us k a h = inr h
asks_either nodes [] ms (t ∷ ts) us k a h = absurd a
asks_either nodes (n ∷ ns) ms [] us k a h = absurd a
asks_either nodes (n ∷ ns) ms (t ∷ ts) us k a (inl h) = inl (inl h)
asks_either nodes (n ∷ ns) ms (t ∷ ts) us k a (inr h) = moved (asks_either nodes ns ms ts us k a.1 h)
  where
    moved : AsksAmong ns ts k ⊎ AsksAmong ms us k → (AsksAt n t k ⊎ AsksAmong ns ts k) ⊎ AsksAmong ms us k
    moved (inl x) = inl (inr x)
    moved (inr x) = inr x

-- what is left of a walk in a tree that begins at a number
pub record Left (live : ℕ → Bool) (nodes : List Node) (stack out all : List ℕ) (from : ℕ) (whole : Shape) : Type 0 where
  pub trees : List Shape
  pub are : AreAt nodes stack trees
  pub same : out ++ todo live stack trees ≡ all
  pub asks : (k : ℕ) → AsksAmong stack trees k → AsksAt from whole k

module _ (live : ℕ → Bool) (nodes : List Node) (all stack waiting : List ℕ) (n : ℕ) (out : List ℕ) (from : ℕ) (whole : Shape) (popped : stack ≡ waiting ++ n ∷ []) (left : Left live nodes stack out all from whole) where
  pub here : AreAt nodes (waiting ++ n ∷ []) left.trees
  here = subst (λ s. AreAt nodes s left.trees) popped left.are

  abbrev pub last : Last nodes waiting n left.trees
  last = last_of nodes waiting n left.trees here

  abbrev pub tree_here : Shape
  tree_here = last.tree

  pub tree_at : IsAt nodes n tree_here
  tree_at = last.at

  -- what is asked in the last tree, or in those before it
  asks_last : (k : ℕ) → AsksAmong (waiting ++ n ∷ []) (last.front ++ last.tree ∷ []) k → AsksAt from whole k
  asks_last k h = left.asks k (subst (λ (ts : List Shape). AsksAmong stack ts k) (sym last.are) (subst (λ (ns : List ℕ). AsksAmong ns (last.front ++ last.tree ∷ []) k) (sym popped) h))

  pub asks_here : (k : ℕ) → AsksAt n tree_here k → AsksAt from whole k
  asks_here k h = asks_last k (asks_second nodes waiting (n ∷ []) last.front (last.tree ∷ []) k last.fronts (inl h))

  asks_on : (k : ℕ) (numbers : List ℕ) (trees : List Shape) → ((j : ℕ) → AsksAmong numbers trees j → AsksAt n tree_here j) → AsksAmong waiting last.front k ⊎ AsksAmong numbers trees k → AsksAt from whole k
  asks_on k numbers trees f (inl h) = asks_last k (asks_first nodes waiting (n ∷ []) last.front (last.tree ∷ []) k last.fronts h)
  asks_on k numbers trees f (inr h) = asks_here k (f k h)

  pub goes_on : (stack' out' : List ℕ) → Visits live nodes (run nodes) n tree_here waiting stack' out out' → Left live nodes stack' out' all from whole
  goes_on stack' out' v = record {
    trees = last.front ++ v.trees;
    are = subst (λ s. AreAt nodes s (last.front ++ v.trees)) (sym v.pushed) (are_append nodes waiting v.numbers last.front v.trees last.fronts v.at);
    same =
        ap (λ s. out' ++ todo live s (last.front ++ v.trees)) v.pushed
        ∙ ap (λ k. out' ++ k) (todo_append live nodes waiting v.numbers last.front v.trees last.fronts)
        ∙ sym (append_assoc out' (todo live v.numbers v.trees) (todo live waiting last.front))
        ∙ ap (λ k. k ++ todo live waiting last.front) (sym v.same)
        ∙ append_assoc out (back live n last.tree) (todo live waiting last.front)
        ∙ ap (λ k. out ++ k) (sym (todo_append live nodes waiting (n ∷ []) last.front (last.tree ∷ []) last.fronts))
        ∙ (λ i. out ++ todo live (sym popped i) (sym last.are i))
        ∙ left.same;
    asks = λ k h. asks_on k v.numbers v.trees v.asks (asks_either nodes waiting v.numbers last.front v.trees k last.fronts (subst (λ (ns : List ℕ). AsksAmong ns (last.front ++ v.trees) k) v.pushed h));
  }

  pub falls_on : (stack' out' : List ℕ) → Visits live nodes (run nodes) n tree_here waiting stack' out out' → total (run nodes) stack' < total (run nodes) stack
  falls_on stack' out' v =
      let x = ap (total (run nodes)) v.pushed ∙ total_append (run nodes) waiting v.numbers in
      let y = ap (total (run nodes)) popped ∙ total_append (run nodes) waiting (n ∷ []) in
      let f = v.falls in
      omega (arith, x, y, f)

-- ---- parts that are put, one after another

pub children_more : (ws : List Bool) (i m : ℕ) (hs : List Found) (old new all : List ℕ) (one : Found) (next : ℕ) → i < length ws → all ≡ old ++ children (drop i ws) m hs → new ≡ old ++ put_of (get_or ws i false) m → one ≡ found_at hs m → next ≡ plus m one.size → all ≡ new ++ children (drop (i + 1) ws) next hs
children_more ws i m hs old new all one next l e p o q =
    let rest = children (drop (i + 1) ws) (plus m (found_at hs m).size) hs in
    e ∙ ap (λ us. old ++ children us m hs) (drop_more ws i false l) ∙ sym (append_assoc old (put_of (get_or ws i false) m) rest) ∙ ap (λ k. k ++ rest) (sym p)
    ∙ ap (λ k. new ++ children (drop (i + 1) ws) k hs) (sym (q ∙ ap (λ (f : Found). plus m f.size) o))

pub children_none : (ws : List Bool) (i m : ℕ) (hs : List Found) (old all : List ℕ) → length ws ≤ i → all ≡ old ++ children (drop i ws) m hs → old ≡ all
children_none ws i m hs old all l e = sym (e ∙ ap (λ us. old ++ children us m hs) (drop_all i ws l) ∙ append-nil old)

map_drop : {A B : Type 0} (f : A → B) (k : ℕ) (ys : List A) → map f (drop k ys) ≡ drop k (map f ys)
map_drop f zero ys = refl
map_drop f (suc k) [] = refl
map_drop f (suc k) (y ∷ ys) = map_drop f k ys

-- a node of the code, among all
pub node_at : {A B : Type 0} (f : A → B) (xs : List A) (n : ℕ) (x : A) → n < length xs → x ≡ get_or xs n x → drop n (map f xs) ≡ f x ∷ drop (n + 1) (map f xs)
node_at f xs n x l e = sym (map_drop f n xs) ∙ ap (map f) (drop_more xs n x l) ∙ (λ i. f (sym e i) ∷ map_drop f (n + 1) xs i)

-- past the end no tree begins
pub past_end : (nodes : List Node) (n : ℕ) (t : Shape) → length nodes ≤ n → IsAt nodes n t → ⊥
past_end nodes n t l h =
    let x = ends_within nodes n t h in
    let y = some_nodes t in
    omega (arith, l, x, y)

pub on_ok : {T E A B : Type 0} (r : Result T E) → (A → B) → OnOk r A → OnOk r B
on_ok (Ok t) f a = f a
on_ok (Err e) f a = tt

-- at first the whole tree waits
pub starts : (live : ℕ → Bool) (nodes : List Node) (from : ℕ) (t : Shape) (stack out : List ℕ) → stack ≡ from ∷ [] → out ≡ [] → IsAt nodes from t → Left live nodes stack out (back live from t) from t
starts live nodes from t stack out e f g = record {
  trees = t ∷ [];
  are = subst (λ s. AreAt nodes s (t ∷ [])) (sym e) (g, tt);
  same = λ i. f i ++ todo live (e i) (t ∷ []);
  asks = λ k h. only_one (subst (λ (ns : List ℕ). AsksAmong ns (t ∷ []) k) e h);
}

-- ---- where memory is wanting

pub on_halting : (A : Type 0) (r : Result (Unit {0}) AllocError) → OnOk r A → OnOk (halting r) A
on_halting A (Ok u) a = a
on_halting A (Err e) a = tt

pub via_halting : {A B : Type 0} (r : Result (Unit {0}) AllocError) (q : Result (Unit {0}) Halt) → q ≡ halting r → (A → B) → OnOk r A → OnOk q B
via_halting {A} {B} r q e f h = subst (λ x. OnOk x B) (sym e) (on_halting B r (on_ok r f h))

-- a tree that is asked of halts what asks
pub asked_halt : (may : ℕ → ℕ → Type 0) (n : ℕ) (t : Shape) (k : ℕ) (h : Halt) → AsksAt n t k → IsHaltOf (may k) h → IsHaltAt may n t h
asked_halt may n t k halts_by.Memory a m = tt
asked_halt may n t k (halts_by.Over need) a m = (k, (a, m))

pub halts : (may : ℕ → ℕ → Type 0) (at : ℕ) (t : Shape) (r : Result (Unit {0}) AllocError) → IfErr (halting r) (λ h. IsHaltAt may at t h)
halts may at t (Ok u) = tt
halts may at t (Err e) = tt

-- a halt by some needs is one by others that they are
pub halt_as : (may might : ℕ → ℕ → Type 0) (at : ℕ) (t : Shape) (h : Halt) → ((k n : ℕ) → may k n → might k n) → IsHaltAt may at t h → IsHaltAt might at t h
halt_as may might at t halts_by.Memory f h = tt
halt_as may might at t (halts_by.Over need) f h = (h.0, (h.1.0, f h.0 need h.1.1))

-- a halt in a tree is one in the whole
pub halt_on : (may : ℕ → ℕ → Type 0) (n from : ℕ) (t whole : Shape) (h : Halt) → ((k : ℕ) → AsksAt n t k → AsksAt from whole k) → IsHaltAt may n t h → IsHaltAt may from whole h
halt_on may n from t whole halts_by.Memory f h = tt
halt_on may n from t whole (halts_by.Over need) f h = (h.0, (f h.0 h.1.0, h.1.1))
