-- A search that is given up is of a leaf that has to be searched.
use Rattle.std.proofs.Common.{◌≡◌, ◌<◌, ◌≤◌, ◌⊎◌, inl, inr, ◌+◌, ◌-◌, ℕ, zero, suc, Bool, true, false, ◌&&◌, List, [], ◌∷◌, ◌++◌, length, drop, drop-drop, Some, append_assoc, length-append, refl, ap, sym, ◌∙◌, subst, arith}
use Rattle.std.specs.Prelude.{◌||◌, Ok, Err, if◌then◌else◌, nat_eq, nat_lt, slice_get}
use Rattle.std.specs.declared.result.Result.{Result}
use Rattle.lt_num.specs.declared.fault.Arith.{Arith}
use Rattle.lt_legal.specs.Asked.{AsksAt, AsksIn}
use Rattle.lt_legal.specs.Back.{back, back_in}
use Rattle.lt_legal.specs.Nodes as l
use Rattle.lt_legal.specs.Nodes.{Parts, Shape, count, count_in, has}
use Rattle.lt_legal.specs.Searched.{CanReach, CanReachIn, HasSort, IsAsked, IsAskedIn, IsOpenAt}
use Rattle.lt_legal.specs.Walk.{has_some, one_has_some}
use Rattle.lt_marks_laws.specs.Valued.{with_worth, worths}
use Rattle.lt_term.specs.Evaluated as e
use Rattle.lt_term.specs.Evaluated.{Evaluated, Outlook, Worth, chosen_among, evaluated, evaluated_parts, faulty, outlook, with_part}
use Rattle.lt_term.specs.Tree as t
use Rattle.lt_term.specs.Tree.{Branches, Lasts, Leaf, Node, Tree, Weight, branch, flattened, flattened_each, leaf_node, no_branch, weights_of}
use Rattle.lt_check.specs.inner.Members.{Has}
use Rattle.lt_check.specs.inner.Seen.{is_instant, loose_sight, positive, test_sight}
use Rattle.lt_check.specs.inner.Shaped.{choice_shape, parts_by, shape_loose, shape_seen, tree_among, tree_from}
use Rattle.lt_check.proofs.Lists.{has_either}
use Rattle.lt_check.proofs.Loose.{after, here}
use Rattle.lt_check.proofs.Shapes.{count_seen, has_seen}

or_either : (a b : Bool) → (a || b) ≡ true → (a ≡ true) ⊎ (b ≡ true)
or_either true b h = inl refl
or_either false b h = inr h

or_left : (a b : Bool) → (a || b) ≡ false → a ≡ false
or_left false b h = refl
or_left true b h = absurd (cc)

or_right : (a b : Bool) → (a || b) ≡ false → b ≡ false
or_right false b h = h
or_right true b h = absurd (cc)

and_first : (a b : Bool) → (a && b) ≡ true → a ≡ true
and_first true b h = refl
and_first false b h = h

and_second : (a b : Bool) → (a && b) ≡ true → b ≡ true
and_second true b h = h
and_second false b h = absurd (cc)

positive_is : (w : ℕ) → nat_lt 0 w ≡ true → 0 < w
positive_is w h = grind (arith, h)

is_positive : (w : ℕ) → 0 < w → nat_lt 0 w ≡ true
is_positive w h = grind (arith, h)

-- ---- what a test has, as a fact

module _ {F N : Type 0} (test : Outlook F N → Bool) where
  -- a leaf that passes, and can be reached
  abbrev pub Passed : Evaluated F N → Type 0
  Passed u = (o : Outlook F N) × (test o ≡ true) × CanReach o u

  abbrev PassedIn : e.Parts F N → Type 0
  PassedIn ps = (o : Outlook F N) × (test o ≡ true) × CanReachIn o ps

  two : (a b : Evaluated F N) → (has_some test a ≡ true → Passed a) → (has_some test b ≡ true → Passed b) → (has_some test a ≡ true) ⊎ (has_some test b ≡ true) → Passed (e.ordered a b)
  two a b f g (inl h) = let r = f h in (r.0, r.1, inl r.2)
  two a b f g (inr h) = let r = g h in (r.0, r.1, inr r.2)

  part_of : (w : ℕ) (u : Evaluated F N) (ps : e.Parts F N) → (has_some test u ≡ true → Passed u) → (one_has_some test ps ≡ true → PassedIn ps) → ((nat_lt 0 w && has_some test u) ≡ true) ⊎ (one_has_some test ps ≡ true) → PassedIn (e.part w u ps)
  part_of w u ps f g (inl h) = let r = f (and_second (nat_lt 0 w) (has_some test u) h) in (r.0, r.1, inl (positive_is w (and_first (nat_lt 0 w) (has_some test u) h), r.2))
  part_of w u ps f g (inr h) = let r = g h in (r.0, r.1, inr r.2)

  mutual
    pub has_passed : (u : Evaluated F N) → has_some test u ≡ true → Passed u
    has_passed (e.leaf o) h = (o, h, refl)
    has_passed (e.ordered a b) h = two a b (has_passed a) (has_passed b) (or_either (has_some test a) (has_some test b) h)
    has_passed (e.weighted ps) h = one_passed ps h
    has_passed (e.spoilt x below) h = (faulty x, h, refl)

    one_passed : (ps : e.Parts F N) → one_has_some test ps ≡ true → PassedIn ps
    one_passed e.no_part h = absurd (cc)
    one_passed (e.part w u ps) h = part_of w u ps (has_passed u) (one_passed ps) (or_either (nat_lt 0 w && has_some test u) (one_has_some test ps) h)

  mutual
    pub none_passed : (u : Evaluated F N) → has_some test u ≡ false → (o : Outlook F N) → test o ≡ true → CanReach o u → ⊥
    none_passed (e.leaf m) h o k r = let j = sym h ∙ ap test r ∙ k in cc
    none_passed (e.ordered a b) h o k (inl r) = none_passed a (or_left (has_some test a) (has_some test b) h) o k r
    none_passed (e.ordered a b) h o k (inr r) = none_passed b (or_right (has_some test a) (has_some test b) h) o k r
    none_passed (e.weighted ps) h o k r = none_in ps h o k r
    none_passed (e.spoilt x below) h o k r = let j = sym h ∙ ap test r ∙ k in cc

    none_in : (ps : e.Parts F N) → one_has_some test ps ≡ false → (o : Outlook F N) → test o ≡ true → CanReachIn o ps → ⊥
    none_in e.no_part h o k r = r
    none_in (e.part w u ps) h o k (inl r) = none_passed u (let j = ap (λ b. b && has_some test u) (sym (is_positive w r.0)) ∙ or_left (nat_lt 0 w && has_some test u) (one_has_some test ps) h in j) o k r.1
    none_in (e.part w u ps) h o k (inr r) = none_in ps (or_right (nat_lt 0 w && has_some test u) (one_has_some test ps) h) o k r

-- ---- an instant of which it is told that it can be reached

module _ {C F N : Type 0} (worth : Worth C F) (all : List (Node C N)) (o : Outlook F N) (j : ℕ) where
  abbrev none : ℕ → Bool
  none k = false

  -- it is the node of this number, and has this outlook
  abbrev IsNode : Type 0
  IsNode = (m : Leaf C N) → slice_get all j ≡ Some (leaf_node m) → outlook worth m ≡ o

  one_there : (is : IsNode) (m : Leaf C N) (at : ℕ) (rest : List (Node C N)) → drop at all ≡ leaf_node m ∷ rest → (b : Bool) → Has (if b then at ∷ [] else []) j → outlook worth m ≡ o
  one_there is m at rest h true (inl k) = is m (ap (λ n. slice_get all n) (sym k) ∙ here all at (leaf_node m) rest h)
  one_there is m at rest h true (inr k) = absurd k
  one_there is m at rest h false k = absurd k

  if_part : (w : ℕ) (ks : List ℕ) → Has (if positive w then ks else []) j → (0 < w) × Has ks j
  if_part w ks h = by_sign (nat_lt 0 w) refl
    where
      by_sign : (p : Bool) → nat_lt 0 w ≡ p → (0 < w) × Has ks j
      by_sign true g = (positive_is w g, rw g at h)
      by_sign false g = absurd (let k : ⊥ = rw g at h in k)

  abbrev ThereIn : Lasts → Branches C N → ℕ → Result (List ℕ) Arith → Type 0
  ThereIn ls bs at (Ok vs) = (ps : e.Parts F N) × (evaluated_parts worth ls bs ≡ Ok ps) × (Has (back_in none at (parts_by worth loose_sight bs vs)) j → CanReachIn o ps)
  ThereIn ls bs at (Err x) = evaluated_parts worth ls bs ≡ Err x

  joined_there : (ls : Lasts) (w : Weight C) (a : Tree C N) (bs : Branches C N) (at : ℕ) → (Has (back none at (shape_loose worth a)) j → CanReach o (evaluated worth a)) → (x : Result ℕ Arith) → worth.weight ls w ≡ x → (y : Result (List ℕ) Arith) → ThereIn ls bs (at + count (shape_loose worth a)) y → ThereIn ls (branch w a bs) at (with_worth x y)
  joined_there ls w a bs at f (Ok v) p (Ok vs) q = (
    e.part v (evaluated worth a) q.0,
    λ i. with_part (p i) (evaluated worth a) (q.1 i),
    λ h. by_either (has_either (back_in none (at + count (shape_loose worth a)) (parts_by worth loose_sight bs vs)) (if positive v then back none at (shape_loose worth a) else []) j h),
  )
    where
      by_either : Has (back_in none (at + count (shape_loose worth a)) (parts_by worth loose_sight bs vs)) j ⊎ Has (if positive v then back none at (shape_loose worth a) else []) j → CanReachIn o (e.part v (evaluated worth a) q.0)
      by_either (inl k) = inr (q.2 k)
      by_either (inr k) = let r = if_part v (back none at (shape_loose worth a)) k in inl (r.0, f r.1)
  joined_there ls w a bs at f (Ok v) p (Err x) q = λ i. with_part (p i) (evaluated worth a) (q i)
  joined_there ls w a bs at f (Err x) p y q = λ i. with_part (p i) (evaluated worth a) (evaluated_parts worth ls bs)

  chosen_there : (ls : Lasts) (bs : Branches C N) (at : ℕ) (y : Result (List ℕ) Arith) → ThereIn ls bs (at + 1) y → Has (back none at (choice_shape (λ f. false) y (parts_by worth loose_sight bs))) j → CanReach o (chosen_among (evaluated_parts worth ls bs) (length (flattened_each bs)))
  chosen_there ls bs at (Ok vs) q h = subst (λ r. CanReach o (chosen_among r (length (flattened_each bs)))) (sym q.1) (q.2 h)
  chosen_there ls bs at (Err x) q h = absurd h

  two_there : (a b : Tree C N) (at : ℕ) → (Has (back none (at + 1) (shape_loose worth a)) j → CanReach o (evaluated worth a)) → (Has (back none (at + 1 + count (shape_loose worth a)) (shape_loose worth b)) j → CanReach o (evaluated worth b))
      → Has (back none (at + 1 + count (shape_loose worth a)) (shape_loose worth b)) j ⊎ Has (back none (at + 1) (shape_loose worth a)) j → CanReach o (evaluated worth a) ⊎ CanReach o (evaluated worth b)
  two_there a b at f g (inl h) = inr (g h)
  two_there a b at f g (inr h) = inl (f h)

  mutual
    pub there : IsNode → (u : Tree C N) (at : ℕ) (rest : List (Node C N)) → drop at all ≡ flattened u ++ rest → Has (back none at (shape_loose worth u)) j → CanReach o (evaluated worth u)
    there is (t.leaf m) at rest h k = one_there is m at rest h (is_instant m) k
    there is (t.ordered a b) at rest h k =
        let one : drop (at + 1) all ≡ flattened a ++ (flattened b ++ rest) = sym (drop-drop 1 at all) ∙ ap (λ xs. drop 1 xs) h ∙ append_assoc (flattened a) (flattened b) rest in
        let two : drop (at + 1 + count (shape_loose worth a)) all ≡ flattened b ++ rest = ap (λ n. drop (at + 1 + n) all) (count_seen worth loose_sight a) ∙ after all (flattened a) (flattened b ++ rest) (at + 1) one in
        two_there a b at (λ g. there is a (at + 1) (flattened b ++ rest) one g) (λ g. there is b (at + 1 + count (shape_loose worth a)) rest two g)
        (has_either (back none (at + 1 + count (shape_loose worth a)) (shape_loose worth b)) (back none (at + 1) (shape_loose worth a)) j k)
    there is (t.weighted ls bs) at rest h k =
        let one : drop (at + 1) all ≡ flattened_each bs ++ rest = sym (drop-drop 1 at all) ∙ ap (λ xs. drop 1 xs) h in
        chosen_there ls bs at (worths worth.weight ls (weights_of bs)) (there_in is ls bs (at + 1) rest one) k

    there_in : IsNode → (ls : Lasts) (bs : Branches C N) (at : ℕ) (rest : List (Node C N)) → drop at all ≡ flattened_each bs ++ rest → ThereIn ls bs at (worths worth.weight ls (weights_of bs))
    there_in is ls no_branch at rest h = (e.no_part, refl, λ k. absurd k)
    there_in is ls (branch w a bs) at rest h =
        let one : drop at all ≡ flattened a ++ (flattened_each bs ++ rest) = h ∙ append_assoc (flattened a) (flattened_each bs) rest in
        let two : drop (at + count (shape_loose worth a)) all ≡ flattened_each bs ++ rest = ap (λ n. drop (at + n) all) (count_seen worth loose_sight a) ∙ after all (flattened a) (flattened_each bs ++ rest) at one in
        joined_there ls w a bs at (λ g. there is a at (flattened_each bs ++ rest) one g) (worth.weight ls w) refl (worths worth.weight ls (weights_of bs)) (there_in is ls bs (at + count (shape_loose worth a)) rest two)

-- ---- numbers

either_nat : {P : Type 0} (k : ℕ) → (k ≡ 0 → P) → (0 < k → P) → P
either_nat zero f g = f refl
either_nat (suc k) f g = g (omega arith)

either_lt : {P : Type 0} (k n : ℕ) → (k < n → P) → (n ≤ k → P) → P
either_lt {P} k n f g = by_test (nat_lt k n) refl
  where
    by_test : (b : Bool) → nat_lt k n ≡ b → P
    by_test true h = f (grind (arith, h))
    by_test false h = g (grind (arith, h))

-- ---- trees that begin at a number

module _ {C N : Type 0} where
  some_node : (u : Tree C N) → 0 < length (flattened u)
  some_node (t.leaf m) = omega arith
  some_node (t.ordered a b) = omega arith
  some_node (t.weighted ls bs) = omega arith

  from_root : (u : Tree C N) → tree_from u 0 ≡ u
  from_root (t.leaf m) = refl
  from_root (t.ordered a b) = refl
  from_root (t.weighted ls bs) = refl

  from_left : (a b : Tree C N) (i : ℕ) → 0 < i → i - 1 < length (flattened a) → tree_from (t.ordered a b) i ≡ tree_from a (i - 1)
  from_left a b i p q = let x : nat_eq i 0 ≡ false = grind (arith, p) in let y : nat_lt (i - 1) (length (flattened a)) ≡ true = grind (arith, q) in rw (x, y) refl

  from_right : (a b : Tree C N) (i : ℕ) → 0 < i → length (flattened a) ≤ i - 1 → tree_from (t.ordered a b) i ≡ tree_from b (i - 1 - length (flattened a))
  from_right a b i p q = let x : nat_eq i 0 ≡ false = grind (arith, p) in let y : nat_lt (i - 1) (length (flattened a)) ≡ false = grind (arith, q) in rw (x, y) refl

  from_parts : (ls : Lasts) (bs : Branches C N) (i : ℕ) → 0 < i → tree_from (t.weighted ls bs) i ≡ tree_among bs (i - 1)
  from_parts ls bs i p = let x : nat_eq i 0 ≡ false = grind (arith, p) in rw x refl

  among_first : (w : Weight C) (a : Tree C N) (bs : Branches C N) (i : ℕ) → i < length (flattened a) → tree_among (branch w a bs) i ≡ tree_from a i
  among_first w a bs i p = let x : nat_lt i (length (flattened a)) ≡ true = grind (arith, p) in rw x refl

  among_rest : (w : Weight C) (a : Tree C N) (bs : Branches C N) (i : ℕ) → length (flattened a) ≤ i → tree_among (branch w a bs) i ≡ tree_among bs (i - length (flattened a))
  among_rest w a bs i p = let x : nat_lt i (length (flattened a)) ≡ false = grind (arith, p) in rw x refl

  -- its nodes follow
  abbrev pub Begins : List (Node C N) → ℕ → Tree C N → Type 0
  Begins nodes k u = (rest : List (Node C N)) × (drop k nodes ≡ flattened u ++ rest)

  begins_first : (xs ys : List (Node C N)) (k : ℕ) (u : Tree C N) → k < length xs → Begins xs k u → Begins (xs ++ ys) k u
  begins_first xs ys k u l r = (r.0 ++ ys, drop_first xs ys k l ∙ ap (λ zs. zs ++ ys) r.1 ∙ append_assoc (flattened u) r.0 ys)
    where
      drop_first : (xs ys : List (Node C N)) (k : ℕ) → k < length xs → drop k (xs ++ ys) ≡ drop k xs ++ ys
      drop_first [] ys k l = absurd (omega (arith, l))
      drop_first (x ∷ xs) ys zero l = refl
      drop_first (x ∷ xs) ys (suc k) l = drop_first xs ys k (omega (arith, l))

  begins_second : (xs ys : List (Node C N)) (k : ℕ) (u : Tree C N) → length xs ≤ k → Begins ys (k - length xs) u → Begins (xs ++ ys) k u
  begins_second xs ys k u l r = (r.0, drop_second xs ys k l ∙ r.1)
    where
      drop_second : (xs ys : List (Node C N)) (k : ℕ) → length xs ≤ k → drop k (xs ++ ys) ≡ drop (k - length xs) ys
      drop_second [] ys k l = let same : k ≡ k - 0 = omega arith in ap (λ i. drop i ys) same
      drop_second (x ∷ xs) ys zero l = absurd (omega (arith, l))
      drop_second (x ∷ xs) ys (suc k) l = let same : k - length xs ≡ suc k - suc (length xs) = omega arith in drop_second xs ys k (omega (arith, l)) ∙ ap (λ i. drop i ys) same

  begins_on : (x : Node C N) (xs : List (Node C N)) (k : ℕ) (u : Tree C N) → 0 < k → Begins xs (k - 1) u → Begins (x ∷ xs) k u
  begins_on x xs zero u p r = absurd (omega (arith, p))
  begins_on x xs (suc k) u p r = let same : suc k - 1 ≡ k = omega arith in (r.0, ap (λ i. drop i xs) (sym same) ∙ r.1)

  begins_root : (u : Tree C N) → Begins (flattened u) 0 u
  begins_root u = ([], sym (append_nil (flattened u)))
    where
      append_nil : (xs : List (Node C N)) → xs ++ [] ≡ xs
      append_nil [] = refl
      append_nil (x ∷ xs) = ap (λ ys. x ∷ ys) (append_nil xs)

  at_root : (u : Tree C N) (k : ℕ) → k ≡ 0 → Begins (flattened u) k (tree_from u k)
  at_root u k h = subst (λ i. Begins (flattened u) i (tree_from u i)) (sym h) (subst (λ v. Begins (flattened u) 0 v) (sym (from_root u)) (begins_root u))

  mutual
    pub begins : (u : Tree C N) (k : ℕ) → k < length (flattened u) → Begins (flattened u) k (tree_from u k)
    begins (t.leaf m) k l = at_root (t.leaf m) k (omega (arith, l))
    begins (t.ordered a b) k l =
        either_nat k (λ h. at_root (t.ordered a b) k h)
        (λ p.
        begins_on t.ordered_node (flattened a ++ flattened b) k (tree_from (t.ordered a b) k) p
        (either_lt (k - 1) (length (flattened a))
        (λ q. subst (λ v. Begins (flattened a ++ flattened b) (k - 1) v) (sym (from_left a b k p q)) (begins_first (flattened a) (flattened b) (k - 1) (tree_from a (k - 1)) q (begins a (k - 1) q)))
        (λ q.
        subst (λ v. Begins (flattened a ++ flattened b) (k - 1) v) (sym (from_right a b k p q))
        (begins_second (flattened a) (flattened b) (k - 1) (tree_from b (k - 1 - length (flattened a))) q (begins b (k - 1 - length (flattened a)) (let z = length-append (flattened a) (flattened b) in omega (arith, l, z, q, p)))))))
    begins (t.weighted ls bs) k l =
        either_nat k (λ h. at_root (t.weighted ls bs) k h)
        (λ p. begins_on (t.weighted_node ls (weights_of bs)) (flattened_each bs) k (tree_from (t.weighted ls bs) k) p (subst (λ v. Begins (flattened_each bs) (k - 1) v) (sym (from_parts ls bs k p)) (begins_in bs (k - 1) (omega (arith, l, p)))))

    begins_in : (bs : Branches C N) (k : ℕ) → k < length (flattened_each bs) → Begins (flattened_each bs) k (tree_among bs k)
    begins_in no_branch k l = absurd (omega (arith, l))
    begins_in (branch w a bs) k l =
        either_lt k (length (flattened a))
        (λ q. subst (λ v. Begins (flattened a ++ flattened_each bs) k v) (sym (among_first w a bs k q)) (begins_first (flattened a) (flattened_each bs) k (tree_from a k) q (begins a k q)))
        (λ q.
        subst (λ v. Begins (flattened a ++ flattened_each bs) k v) (sym (among_rest w a bs k q))
        (begins_second (flattened a) (flattened_each bs) k (tree_among bs (k - length (flattened a))) q (begins_in bs (k - length (flattened a)) (let z = length-append (flattened a) (flattened_each bs) in omega (arith, l, z, q)))))

-- ---- what a walk asks

count_some : (u : Shape) → 0 < count u
count_some (l.leaf b) = omega arith
count_some (l.ordered a b) = omega arith
count_some (l.weighted ps) = omega arith
count_some (l.faulty b ps) = omega arith

mutual
  pub asks_within : (u : Shape) (at k : ℕ) → AsksAt at u k → (at < k) × (k < at + count u)
  asks_within (l.leaf b) at k h = absurd h
  asks_within (l.ordered a b) at k (inl h) = let r = asks_within a (at + 1) k h in (omega (arith, r.0), omega (arith, r.1))
  asks_within (l.ordered a b) at k (inr (inl h)) = let e = h.0 in let x = count_some a in (omega (arith, e), omega (arith, e, x))
  asks_within (l.ordered a b) at k (inr (inr h)) = let r = asks_within b (at + 1 + count a) k h in (omega (arith, r.0), omega (arith, r.1))
  asks_within (l.weighted ps) at k h = let r = asks_in_within ps (at + 1) k h in (omega (arith, r.0), omega (arith, r.1))
  asks_within (l.faulty b ps) at k h = absurd h

  asks_in_within : (ps : Parts) (at k : ℕ) → AsksIn at ps k → (at < k) × (k < at + count_in ps)
  asks_in_within l.no_part at k h = absurd h
  asks_in_within (l.part w u ps) at k (inl h) = let r = asks_within u at k h.1 in (r.0, omega (arith, r.1))
  asks_in_within (l.part w u ps) at k (inr h) = let r = asks_in_within ps (at + count u) k h in (omega (arith, r.0), omega (arith, r.1))

module _ {C F N : Type 0} (worth : Worth C F) (test : Outlook F N → Bool) (Sort : Outlook F N → Type 0) (sorts : (o : Outlook F N) → test o ≡ true → Sort o) (tests : (o : Outlook F N) → Sort o → test o ≡ true) (o : Outlook F N) where
  abbrev shape : Tree C N → Shape
  shape u = shape_seen worth test u

  has_sort : (u : Tree C N) → has (shape u) ≡ true → HasSort Sort (evaluated worth u)
  has_sort u h = let r = has_passed test (evaluated worth u) (sym (has_seen worth test u) ∙ h) in (r.0, sorts r.0 r.1, r.2)

  no_sort : (u : Tree C N) → has (shape u) ≡ false → HasSort Sort (evaluated worth u) → ⊥
  no_sort u h r = none_passed test (evaluated worth u) (sym (has_seen worth test u) ∙ h) r.0 (tests r.0 r.1) r.2

  -- what opens the tree of a number
  abbrev Opens : Tree C N → Type 0
  Opens u = IsOpenAt o (evaluated worth u)

  abbrev AskedIn : Lasts → Branches C N → ℕ → ℕ → Result (List ℕ) Arith → Type 0
  AskedIn ls bs at k (Ok vs) = (ps : e.Parts F N) × (evaluated_parts worth ls bs ≡ Ok ps) × (AsksIn at (parts_by worth (test_sight worth test) bs vs) k → Opens (tree_among bs (k - at)) → IsAskedIn Sort o ps)
  AskedIn ls bs at k (Err x) = evaluated_parts worth ls bs ≡ Err x

  joined_asked : (ls : Lasts) (w : Weight C) (a : Tree C N) (bs : Branches C N) (at k : ℕ) → (AsksAt at (shape a) k → Opens (tree_from a (k - at)) → IsAsked Sort o (evaluated worth a)) → (x : Result ℕ Arith) → worth.weight ls w ≡ x → (y : Result (List ℕ) Arith) → AskedIn ls bs (at + count (shape a)) k y → AskedIn ls (branch w a bs) at k (with_worth x y)
  joined_asked ls w a bs at k f (Ok v) p (Ok vs) q = (
    e.part v (evaluated worth a) q.0,
    λ i. with_part (p i) (evaluated worth a) (q.1 i),
    λ h opens. by_either opens h,
  )
    where
      by_either : Opens (tree_among (branch w a bs) (k - at)) → ((positive v ≡ true) × AsksAt at (shape a) k) ⊎ AsksIn (at + count (shape a)) (parts_by worth (test_sight worth test) bs vs) k → IsAskedIn Sort o (e.part v (evaluated worth a) q.0)
      by_either opens (inl h) =
          let r = asks_within (shape a) at k h.1 in
          let c = count_seen worth (test_sight worth test) a in
          let small : k - at < length (flattened a) = omega (arith, r.0, r.1, c) in
          inl (positive_is v h.0, f h.1 (subst (λ u. Opens u) (among_first w a bs (k - at) small) opens))
      by_either opens (inr h) =
          let r = asks_in_within (parts_by worth (test_sight worth test) bs vs) (at + count (shape a)) k h in
          let c = count_seen worth (test_sight worth test) a in
          let large : length (flattened a) ≤ k - at = omega (arith, r.0, c) in
          let same : k - at - length (flattened a) ≡ k - (at + count (shape a)) = omega (arith, c) in
          inr (q.2 h (subst (λ i. Opens (tree_among bs i)) same (subst (λ u. Opens u) (among_rest w a bs (k - at) large) opens)))
  joined_asked ls w a bs at k f (Ok v) p (Err x) q = λ i. with_part (p i) (evaluated worth a) (q i)
  joined_asked ls w a bs at k f (Err x) p y q = λ i. with_part (p i) (evaluated worth a) (evaluated_parts worth ls bs)

  chosen_asked : (ls : Lasts) (bs : Branches C N) (at k : ℕ) (y : Result (List ℕ) Arith) → AskedIn ls bs (at + 1) k y → AsksAt at (choice_shape (λ f. test (faulty f)) y (parts_by worth (test_sight worth test) bs)) k → Opens (tree_from (t.weighted ls bs) (k - at)) → IsAsked Sort o (chosen_among (evaluated_parts worth ls bs) (length (flattened_each bs)))
  chosen_asked ls bs at k (Ok vs) q h opens =
      let r = asks_in_within (parts_by worth (test_sight worth test) bs vs) (at + 1) k h in
      let p : 0 < k - at = omega (arith, r.0) in
      let same : k - at - 1 ≡ k - (at + 1) = omega arith in
      subst (λ r. IsAsked Sort o (chosen_among r (length (flattened_each bs)))) (sym q.1) (q.2 h (subst (λ i. Opens (tree_among bs i)) same (subst (λ u. Opens u) (from_parts ls bs (k - at) p) opens)))
  chosen_asked ls bs at k (Err x) q h opens = absurd h

  two_asked : (a b : Tree C N) (at k : ℕ) → (AsksAt (at + 1) (shape a) k → Opens (tree_from a (k - (at + 1))) → IsAsked Sort o (evaluated worth a)) → (AsksAt (at + 1 + count (shape a)) (shape b) k → Opens (tree_from b (k - (at + 1 + count (shape a)))) → IsAsked Sort o (evaluated worth b))
      → AsksAt at (l.ordered (shape a) (shape b)) k → Opens (tree_from (t.ordered a b) (k - at)) → IsAsked Sort o (e.ordered (evaluated worth a) (evaluated worth b))
  two_asked a b at k f g (inl h) opens =
      let r = asks_within (shape a) (at + 1) k h in
      let c = count_seen worth (test_sight worth test) a in
      let p : 0 < k - at = omega (arith, r.0) in
      let q : k - at - 1 < length (flattened a) = omega (arith, r.0, r.1, c) in
      let same : k - at - 1 ≡ k - (at + 1) = omega arith in
      inl (f h (subst (λ i. Opens (tree_from a i)) same (subst (λ u. Opens u) (from_left a b (k - at) p q) opens)))
  two_asked a b at k f g (inr (inl h)) opens =
      let one : k - at ≡ 1 = omega (arith, h.0) in
      let some = some_node a in
      let p : 0 < k - at = omega (arith, one) in
      let q : k - at - 1 < length (flattened a) = omega (arith, one, some) in
      let zero_is : k - at - 1 ≡ 0 = omega (arith, one) in
      let left = subst (λ u. Opens u) (from_left a b (k - at) p q ∙ ap (λ i. tree_from a i) zero_is ∙ from_root a) opens in
      inr (inl (no_sort a h.1.0, has_sort b h.1.1, left))
  two_asked a b at k f g (inr (inr h)) opens =
      let r = asks_within (shape b) (at + 1 + count (shape a)) k h in
      let c = count_seen worth (test_sight worth test) a in
      let p : 0 < k - at = omega (arith, r.0) in
      let q : length (flattened a) ≤ k - at - 1 = omega (arith, r.0, c) in
      let same : k - at - 1 - length (flattened a) ≡ k - (at + 1 + count (shape a)) = omega (arith, c) in
      inr (inr (g h (subst (λ i. Opens (tree_from b i)) same (subst (λ u. Opens u) (from_right a b (k - at) p q) opens))))

  mutual
    pub asked_in : (u : Tree C N) (at k : ℕ) → AsksAt at (shape u) k → Opens (tree_from u (k - at)) → IsAsked Sort o (evaluated worth u)
    asked_in (t.leaf m) at k h opens = absurd h
    asked_in (t.ordered a b) at k h opens = two_asked a b at k (λ x y. asked_in a (at + 1) k x y) (λ x y. asked_in b (at + 1 + count (shape a)) k x y) h opens
    asked_in (t.weighted ls bs) at k h opens = chosen_asked ls bs at k (worths worth.weight ls (weights_of bs)) (asked_parts ls bs (at + 1) k) h opens

    asked_parts : (ls : Lasts) (bs : Branches C N) (at k : ℕ) → AskedIn ls bs at k (worths worth.weight ls (weights_of bs))
    asked_parts ls no_branch at k = (e.no_part, refl, λ h opens. absurd h)
    asked_parts ls (branch w a bs) at k = joined_asked ls w a bs at k (λ x y. asked_in a at k x y) (worth.weight ls w) refl (worths worth.weight ls (weights_of bs)) (asked_parts ls bs (at + count (shape a)) k)
