-- Walks in the trees of terms, by those in the trees of their parts.
use Rattle.std.proofs.Common.{◌≡◌, ◌≢◌, ℕ, zero, suc, List, [], ◌∷◌, ◌++◌, length, map, take, refl, ap, sym, ◌∙◌, subst, append-nil, append_assoc, ◌≤◌, arith}
use Rattle.std.specs.Prelude.{vec_capacity}
use Rattle.lt_num.specs.declared.value.Value.{Value}
use Rattle.lt_term.specs.declared.last.Last.{Last}
use Rattle.lt_term.specs.declared.tree.Weight.{Weight}
use Rattle.lt_term.specs.Next.{asserting, beside, kept, with_scope}
use Rattle.lt_term.specs.Offers.{TermTree, in_assert, in_catch, in_exist, in_par, in_seq, in_turn}
use Rattle.lt_term.specs.Process.{Process}
use Rattle.lt_term.specs.Tree.{Branches, ordered, weighted, weights_of, with_leaves, with_local}
use Rattle.lt_term.specs.TreeView.{weight}
use Rattle.lt_marks.proofs.Public as f
use Rattle.lt_marks.specs.Path.{at_branch, at_path}
use Rattle.lt_marks.specs.Walk.{State, Follows, HasRoom, closed, held, capacities, settled}
use Rattle.lt_marks.specs.declared.walk.Reached.{Reached}
use Rattle.lt_marks.specs.declared.walk.Reached.TheVariants as reached
use Rattle.lt_marks.specs.declared.walk.Walk.{Walk}
use Rattle.lt_walk.specs.Asked.{IsOpen}
use Rattle.lt_walk.specs.inner.Underway.{Walks}

-- a walk in a tree is one in an equal tree
pub on : (t u : TermTree ℕ) (c c2 : List ℕ) (w w2 : Walk) (r : Reached) (n m : Process ℕ) → t ≡ u → m ≡ n → Walks u c w r c2 w2 n → Walks t c w r c2 w2 m
on t u c c2 w w2 r n m e d h = record { taken = h.taken; comes = h.comes; follows = λ ks o. f.on t u (held (h.taken ++ ks) w) (held ks w2) r n m e d (h.follows ks o) }

-- a walk that takes no choice
pub stays_there : (t : TermTree ℕ) (c c2 : List ℕ) (w w2 : Walk) (r : Reached) (n : Process ℕ) → c2 ≡ c → ((ks : List ℕ) → IsOpen r ks → Follows t (held ks w) r (held ks w2) n) → Walks t c w r c2 w2 n
stays_there t c c2 w w2 r n e h = record { taken = []; comes = e ∙ sym (append-nil c); follows = h }

-- a walk whose leaf or choice stays one of another tree
pub still : (t u : TermTree ℕ) (c c2 : List ℕ) (w w2 : Walk) (r : Reached) (n m : Process ℕ) → ((s s2 : State) → Follows t s r s2 n → Follows u s r s2 m) → Walks t c w r c2 w2 n → Walks u c w r c2 w2 m
still t u c c2 w w2 r n m g h = record { taken = h.taken; comes = h.comes; follows = λ ks o. g (held (h.taken ++ ks) w) (held ks w2) (h.follows ks o) }

-- a turn that takes no instant
pub turn_is_none : (b : Process ℕ) (t : TermTree ℕ) (c c2 : List ℕ) (w w2 : Walk) (p q : Process ℕ) → Walks t c w reached.Vanish c2 w2 p → Walks (with_leaves (in_turn b) t) c w reached.Nothing c2 w2 q
turn_is_none b t c c2 w w2 p q h = record { taken = h.taken; comes = h.comes; follows = λ ks o. f.turn_is_none b t (held (h.taken ++ ks) w) (held ks w2) p q (h.follows ks tt) }

-- a walk, and one behind the leaf that it has reached
pub behind : (t u v : TermTree ℕ) (c c1 c2 : List ℕ) (w w1 w2 : Walk) (l r s : Reached) (p q m : Process ℕ) → ((ks : List ℕ) → IsOpen l ks) → ((x x1 x2 : State) → Follows t x l x1 p → Follows u x1 r x2 q → Follows v x s x2 m)
    → ((ks : List ℕ) → IsOpen s ks → IsOpen r ks) → Walks t c w l c1 w1 p → Walks u c1 w1 r c2 w2 q → Walks v c w s c2 w2 m
behind t u v c c1 c2 w w1 w2 l r s p q m opens g back h k = record {
  taken = h.taken ++ k.taken;
  comes = k.comes ∙ ap (λ js. js ++ k.taken) h.comes ∙ append_assoc c h.taken k.taken;
  follows = λ ks o.
      let P : List ℕ → Type 0 = λ js. Follows v (held js w) s (held ks w2) m in
      subst P (sym (append_assoc h.taken k.taken ks)) (g (held (h.taken ++ (k.taken ++ ks)) w) (held (k.taken ++ ks) w1) (held ks w2) (h.follows (k.taken ++ ks) (opens (k.taken ++ ks))) (k.follows ks (back ks o)));
}

-- Sequences, two sides and handlers.

pub first_leads : (b : Process ℕ) (u t : TermTree ℕ) (c c1 c2 : List ℕ) (w w1 w2 : Walk) (r : Reached) (p q : Process ℕ) → Walks t c w reached.Vanish c1 w1 p → Walks u c1 w1 r c2 w2 q → Walks (with_leaves (in_seq b u) t) c w r c2 w2 q
first_leads b u t c c1 c2 w w1 w2 r p q h k = behind t u (with_leaves (in_seq b u) t) c c1 c2 w w1 w2 reached.Vanish r r p q q (λ ks. tt) (λ x x1 x2 i j. f.first_leads b u t x x1 p i r x2 q j) (λ ks o. o) h k

pub side_leads : (t u : TermTree ℕ) (c c1 c2 : List ℕ) (w w1 w2 : Walk) (r : Reached) (p q : Process ℕ) → Walks t c w reached.Vanish c1 w1 p → Walks u c1 w1 r c2 w2 q → Walks (with_leaves (in_par u) t) c w r c2 w2 q
side_leads t u c c1 c2 w w1 w2 r p q h k = behind t u (with_leaves (in_par u) t) c c1 c2 w w1 w2 reached.Vanish r r p q q (λ ks. tt) (λ x x1 x2 i j. f.side_leads t u x x1 p i r x2 q j) (λ ks o. o) h k

pub handled : (z y : ℕ) (b : Process ℕ) (t u : TermTree ℕ) (c c1 c2 : List ℕ) (w w1 w2 : Walk) (r : Reached) (p q : Process ℕ) → y ≡ z → Walks t c w (reached.Raised y) c1 w1 p → Walks u c1 w1 r c2 w2 q → Walks (with_leaves (in_catch z b u) t) c w r c2 w2 q
handled z y b t u c c1 c2 w w1 w2 r p q e h k =
    behind t u (with_leaves (in_catch z b u) t) c c1 c2 w w1 w2 (reached.Raised y) r r p q q (λ ks. tt) (λ x x1 x2 i j. f.handled z y b t u x x1 p e i r x2 q j) (λ ks o. o) h k

pub both_go : (t u : TermTree ℕ) (c c1 c2 : List ℕ) (w w1 w2 : Walk) (p q : Process ℕ) → Walks t c w reached.Go c1 w1 p → Walks u c1 w1 reached.Go c2 w2 q → Walks (with_leaves (in_par u) t) c w reached.Go c2 w2 (beside p q)
both_go t u c c1 c2 w w1 w2 p q h k =
    behind t u (with_leaves (in_par u) t) c c1 c2 w w1 w2 reached.Go reached.Go reached.Go p q (beside p q) (λ ks. tt) (λ x x1 x2 i j. f.both_go t u x x1 x2 p q i j) (λ ks o. o) h k

pub first_goes : (t u : TermTree ℕ) (c c1 c2 : List ℕ) (w w1 w2 : Walk) (p q : Process ℕ) → Walks t c w reached.Go c1 w1 p → Walks u c1 w1 reached.Vanish c2 w2 q → Walks (with_leaves (in_par u) t) c w reached.Go c2 w2 p
first_goes t u c c1 c2 w w1 w2 p q h k =
    behind t u (with_leaves (in_par u) t) c c1 c2 w w1 w2 reached.Go reached.Vanish reached.Go p q p (λ ks. tt) (λ x x1 x2 i j. f.first_goes t u x x1 x2 p q i j) (λ ks o. o) h k

-- an instant of the first side, and none of the second: what was met is taken back
pub second_stops : (t u : TermTree ℕ) (c c1 c2 : List ℕ) (w w1 w2 w3 : Walk) (r : Reached) (p q x : Process ℕ) → (r ≡ reached.Go → ⊥) → (r ≡ reached.Vanish → ⊥)
    → ((ks : List ℕ) → held ks w3 ≡ record (held ks w2) { constraints = take (length w.constraints.items) w2.constraints.items; lasts = take (length w.lasts.items) w2.lasts.items })
    → Walks t c w reached.Go c1 w1 p → Walks u c1 w1 r c2 w2 q → Walks (with_leaves (in_par u) t) c w r c2 w3 x
second_stops t u c c1 c2 w w1 w2 w3 r p q x n v e h k = record {
  taken = h.taken ++ k.taken;
  comes = k.comes ∙ ap (λ js. js ++ k.taken) h.comes ∙ append_assoc c h.taken k.taken;
  follows = λ ks o.
      let P : List ℕ → Type 0 = λ js. Follows (with_leaves (in_par u) t) (held js w) r (held ks w3) x in
      subst P (sym (append_assoc h.taken k.taken ks))
      (f.second_stops t u (held (h.taken ++ (k.taken ++ ks)) w) (held (k.taken ++ ks) w1) (held ks w2) (held ks w3) r p q x n v (e ks) (h.follows (k.taken ++ ks) tt) (k.follows ks o));
}

-- Constraints and locals.

pub asserts : (z : ℕ) (t : TermTree ℕ) (c c2 : List ℕ) (w w1 w2 w3 : Walk) (r : Reached) (n : Process ℕ) → ((ks : List ℕ) → held ks w1 ≡ record (held ks w) { constraints = w.constraints.items ++ z ∷ [] })
    → ((ks : List ℕ) → held ks w3 ≡ settled r (length w.constraints.items) (held ks w2)) → Walks t c w1 r c2 w2 n → Walks (with_leaves (in_assert z) t) c w r c2 w3 (asserting z n)
asserts z t c c2 w w1 w2 w3 r n d e h = record {
  taken = h.taken;
  comes = h.comes;
  follows = λ ks o. f.asserts z t (held (h.taken ++ ks) w) (held (h.taken ++ ks) w1) (held ks w2) (held ks w3) r n (d (h.taken ++ ks)) (e ks) (h.follows ks o);
}

pub exists : (start : Value) (x : ℕ) (v : Last) (t : TermTree ℕ) (c c2 : List ℕ) (w w1 w2 w3 : Walk) (r : Reached) (n : Process ℕ)
    → ((ks : List ℕ) → held ks w1 ≡ record (held ks w) { lasts = w.lasts.items ++ (x, v) ∷ []; scope = w.scope.items ++ (x, v) ∷ [] })
    → ((ks : List ℕ) → held ks w3 ≡ closed r (length w.lasts.items) (length w.scope.items) (held ks w2)) → Walks t c w1 r c2 w2 n
    → Walks (with_leaves (in_exist start x v) (with_local (x, v) t)) c w r c2 w3 (with_scope x (kept start v) n)
exists start x v t c c2 w w1 w2 w3 r n d e h = record {
  taken = h.taken;
  comes = h.comes;
  follows = λ ks o. f.exists start x v t (held (h.taken ++ ks) w) (held (h.taken ++ ks) w1) (held ks w2) (held ks w3) r n (d (h.taken ++ ks)) (e ks) (h.follows ks o);
}

-- Walks that hold the same.

pub from_same : (t : TermTree ℕ) (c c2 : List ℕ) (v w w2 : Walk) (r : Reached) (n : Process ℕ) → ((ks : List ℕ) → held ks v ≡ held ks w) → Walks t c v r c2 w2 n → Walks t c w r c2 w2 n
from_same t c c2 v w w2 r n e h = record {
  taken = h.taken;
  comes = h.comes;
  follows = λ ks o. subst (λ s. Follows t s r (held ks w2) n) (e (h.taken ++ ks)) (h.follows ks o);
}

pub to_same : (t : TermTree ℕ) (c c2 : List ℕ) (w v w2 : Walk) (r : Reached) (n : Process ℕ) → ((ks : List ℕ) → held ks v ≡ held ks w2) → Walks t c w r c2 v n → Walks t c w r c2 w2 n
to_same t c c2 w v w2 r n e h = record {
  taken = h.taken;
  comes = h.comes;
  follows = λ ks o. subst (λ s. Follows t (held (h.taken ++ ks) w) r s n) (e ks) (h.follows ks o);
}

-- behind a leaf that vanishes, or raises, the locals in scope are as before
pub same_scope : (t : TermTree ℕ) (c c1 : List ℕ) (w w1 : Walk) (n : Process ℕ) → Walks t c w reached.Vanish c1 w1 n → w1.scope.items ≡ w.scope.items
same_scope t c c1 w w1 n h = ap (λ s. s.scope) (h.follows [] tt).holds

pub raised_scope : (y : ℕ) (t : TermTree ℕ) (c c1 : List ℕ) (w w1 : Walk) (n : Process ℕ) → Walks t c w (reached.Raised y) c1 w1 n → w1.scope.items ≡ w.scope.items
raised_scope y t c c1 w w1 n h = ap (λ s. s.scope) (h.follows [] tt).holds

pub gone_scope : (t : TermTree ℕ) (c c1 : List ℕ) (w w1 : Walk) (n : Process ℕ) → Walks t c w reached.Go c1 w1 n → w1.scope.items ≡ w.scope.items
gone_scope t c c1 w w1 n h = ap (λ s. s.scope) (h.follows [] tt).holds

no_weights : (ws : List Weight) → map weight ws ≡ [] → ws ≡ []
no_weights [] e = refl
no_weights (x ∷ ws) e = absurd (cc)

pub same_weights : (t : TermTree ℕ) (c c1 : List ℕ) (w w1 : Walk) (n : Process ℕ) → w.weights.items ≡ [] → Walks t c w reached.Vanish c1 w1 n → w1.weights.items ≡ []
same_weights t c c1 w w1 n e h = no_weights w1.weights.items (ap (λ s. s.weights) (h.follows [] tt).holds ∙ ap (map weight) e)

pub raised_weights : (y : ℕ) (t : TermTree ℕ) (c c1 : List ℕ) (w w1 : Walk) (n : Process ℕ) → w.weights.items ≡ [] → Walks t c w (reached.Raised y) c1 w1 n → w1.weights.items ≡ []
raised_weights y t c c1 w w1 n e h = no_weights w1.weights.items (ap (λ s. s.weights) (h.follows [] tt).holds ∙ ap (map weight) e)

pub gone_weights : (t : TermTree ℕ) (c c1 : List ℕ) (w w1 : Walk) (n : Process ℕ) → w.weights.items ≡ [] → Walks t c w reached.Go c1 w1 n → w1.weights.items ≡ []
gone_weights t c c1 w w1 n e h = no_weights w1.weights.items (ap (λ s. s.weights) (h.follows [] tt).holds ∙ ap (map weight) e)

-- behind a leaf that vanishes there is as much room as before
pub room_walked : (t : TermTree ℕ) (c c1 : List ℕ) (w v : Walk) (p : Process ℕ) (n m : ℕ) → n ≤ m → capacities v ≡ capacities w → Walks t c w reached.Vanish c1 v p → HasRoom m w → HasRoom n v
room_walked t c c1 w v p n m l e h r =
    let f : length v.constraints.items ≡ length w.constraints.items = ap (λ s. length s.constraints) (h.follows [] tt).holds in
    let g : length v.lasts.items ≡ length w.lasts.items = ap (λ s. length s.lasts) (h.follows [] tt).holds in
    let k : length v.scope.items ≡ length w.scope.items = ap (λ s. length s.scope) (h.follows [] tt).holds in
    record {
      constraints = (let i : vec_capacity v.constraints ≡ vec_capacity w.constraints = ap (λ r. r.constraints) e in omega (arith, l, f, i, r.constraints));
      lasts = (let i : vec_capacity v.lasts ≡ vec_capacity w.lasts = ap (λ r. r.lasts) e in omega (arith, l, g, i, r.lasts));
      scope = (let i : vec_capacity v.scope ≡ vec_capacity w.scope = ap (λ r. r.scope) e in omega (arith, l, k, i, r.scope));
      weights = (let i : vec_capacity v.weights ≡ vec_capacity w.weights = ap (λ r. r.weights) e in omega (arith, l, i, r.weights));
      before = (let i : vec_capacity v.before ≡ vec_capacity w.before = ap (λ r. r.before) e in omega (arith, l, i, r.before));
    }

-- Orders.

-- a choice, and a walk in the part
pub taken_one : (t u : TermTree ℕ) (c c1 c2 : List ℕ) (w w2 : Walk) (k : ℕ) (r : Reached) (n m : Process ℕ) → c1 ≡ c ++ k ∷ [] → ((ks js : List ℕ) → Follows t (held js w) r (held ks w2) n → Follows u (held (k ∷ js) w) r (held ks w2) m)
    → Walks t c1 w r c2 w2 n → Walks u c w r c2 w2 m
taken_one t u c c1 c2 w w2 k r n m e g h = record {
  taken = k ∷ h.taken;
  comes = h.comes ∙ ap (λ js. js ++ h.taken) e ∙ append_assoc c (k ∷ []) h.taken;
  follows = λ ks o. g ks (h.taken ++ ks) (h.follows ks o);
}

pub taken_first : (a b : TermTree ℕ) (c c1 c2 : List ℕ) (w w2 : Walk) (k : ℕ) (r : Reached) (n : Process ℕ) → k ≡ 0 → c1 ≡ c ++ k ∷ [] → Walks a c1 w r c2 w2 n → Walks (ordered a b) c w r c2 w2 n
taken_first a b c c1 c2 w w2 k r n z e h = taken_one a (ordered a b) c c1 c2 w w2 0 r n n (e ∙ ap (λ i. c ++ i ∷ []) z) (λ ks js i. f.goes_first a b (held (0 ∷ js) w) (held ks w2) js r n refl i) h

pub taken_second : (a b : TermTree ℕ) (c c1 c2 : List ℕ) (w w2 : Walk) (k : ℕ) (r : Reached) (n : Process ℕ) → k ≢ 0 → c1 ≡ c ++ k ∷ [] → Walks b c1 w r c2 w2 n → Walks (ordered a b) c w r c2 w2 n
taken_second a b c c1 c2 w w2 zero r n z e h = absurd (z refl)
taken_second a b c c1 c2 w w2 (suc k) r n z e h = taken_one b (ordered a b) c c1 c2 w w2 (suc k) r n n e (λ ks js i. f.goes_second a b (held (suc k ∷ js) w) (held ks w2) k js r n refl i) h

-- Choices by weight.

pub taken_part : (bs : Branches ℕ (Process ℕ)) (u : TermTree ℕ) (c c1 c2 : List ℕ) (w w2 : Walk) (k : ℕ) (r : Reached) (n : Process ℕ) → ((ks : List ℕ) → at_branch bs k ks ≡ at_path u ks) → c1 ≡ c ++ k ∷ [] → Walks u c1 w r c2 w2 n
    → Walks (weighted [] bs) c w r c2 w2 n
taken_part bs u c c1 c2 w w2 k r n d e h = taken_one u (weighted [] bs) c c1 c2 w w2 k r n n e (λ ks js i. f.chooses bs k u (held (k ∷ js) w) (held ks w2) js r n refl (d js) i) h

-- Where a walk stops at a choice.

pub stops_order : (a b : TermTree ℕ) (c c2 : List ℕ) (w : Walk) (n : Process ℕ) → c2 ≡ c ++ [] → Walks (ordered a b) c w reached.Ordered c2 w n
stops_order a b c c2 w n e = record { taken = []; comes = e; follows = λ ks o. f.stops a b (held ks w) n o }

pub stops_choice : (bs : Branches ℕ (Process ℕ)) (c c2 : List ℕ) (w w2 : Walk) (n : Process ℕ) → c2 ≡ c ++ [] → ((ks : List ℕ) → held ks w2 ≡ record (held ks w) { weights = weights_of bs }) → Walks (weighted [] bs) c w reached.Weighted c2 w2 n
stops_choice bs c c2 w w2 n e d = record { taken = []; comes = e; follows = λ ks o. f.weighs bs (held ks w) (held ks w2) n o (d ks) }
