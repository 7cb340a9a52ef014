-- The leaves of an evaluated tree, among the nodes of what is offered.
use Rattle.std.proofs.Common.{◌≡◌, ◌+◌, ℕ, zero, suc, List, [], ◌∷◌, ◌++◌, length, map, None, Some, Option, length-append, get_or, refl, ap, sym, ◌∙◌, subst, arith}
use Rattle.std.specs.Prelude.{Ok, Err, replicate, slice_get}
use Rattle.std.specs.declared.result.Result.{Result}
use Rattle.std.proofs.lemmas.List.{length-replicate}
use Rattle.lt_num.specs.declared.fault.Arith.{Arith}
use Rattle.lt_term.specs.Evaluated as e
use Rattle.lt_term.specs.Evaluated.{Evaluated, Outlook, Worth, chosen_among, evaluated, evaluated_parts, faulty, going, outlook, with_part}
use Rattle.lt_term.specs.Tree as t
use Rattle.lt_term.specs.Tree.{Branches, Lasts, Leaf, Node, Tree, Weight, branch, flattened, flattened_each, leaf_node, no_branch, ordered_node, weighted_node, weights_of}
use Rattle.lt_instant.specs.Legal.{outlooks_of, outlooks_of_each}

-- ---- lists

-- what is at a place of two lists is at a place of one of them
pub data Lies {A : Type 0} (xs ys : List A) (p : ℕ) (x : A) : Type 0 where
  in_first : slice_get xs p ≡ Some x → Lies xs ys p x
  in_second : (q : ℕ) → p ≡ length xs + q → slice_get ys q ≡ Some x → Lies xs ys p x

lies_on : {A : Type 0} (y : A) (xs ys : List A) (p : ℕ) (x : A) → Lies xs ys p x → Lies (y ∷ xs) ys (suc p) x
lies_on y xs ys p x (in_first h) = in_first h
lies_on y xs ys p x (in_second q e h) = in_second q (omega (arith, e)) h

pub lies : {A : Type 0} (xs ys : List A) (p : ℕ) (x : A) → slice_get (xs ++ ys) p ≡ Some x → Lies xs ys p x
lies [] ys p x h = in_second p (omega arith) h
lies (y ∷ xs) ys zero x h = in_first h
lies (y ∷ xs) ys (suc p) x h = lies_on y xs ys p x (lies xs ys p x h)

pub get_first : {A : Type 0} (xs ys : List A) (p : ℕ) (x : A) → slice_get xs p ≡ Some x → slice_get (xs ++ ys) p ≡ Some x
get_first [] ys p x h = absurd (cc)
get_first (y ∷ xs) ys zero x h = h
get_first (y ∷ xs) ys (suc p) x h = get_first xs ys p x h

pub get_second : {A : Type 0} (xs ys : List A) (p q : ℕ) (x : A) → p ≡ length xs + q → slice_get ys q ≡ Some x → slice_get (xs ++ ys) p ≡ Some x
get_second [] ys p q x e h = let same : p ≡ q = omega (arith, e) in ap (λ k. slice_get ys k) same ∙ h
get_second (y ∷ xs) ys zero q x e h = absurd (omega (arith, e))
get_second (y ∷ xs) ys (suc p) q x e h = get_second xs ys p q x (omega (arith, e)) h

-- an option that is there, by its place
pub got : {A : Type 0} (xs : List (Option A)) (p : ℕ) (x : A) → get_or xs p None ≡ Some x → slice_get xs p ≡ Some (Some x)
got [] p x h = absurd (cc)
got (y ∷ xs) zero x h = ap (λ o. Some o) h
got (y ∷ xs) (suc p) x h = got xs p x h

none_there : {A : Type 0} (n p : ℕ) (x : A) → slice_get (replicate n None) p ≡ Some (Some x) → ⊥
none_there zero p x h = absurd (cc)
none_there (suc n) zero x h = absurd (cc)
none_there (suc n) (suc p) x h = none_there n p x h

pub get_map : {A B : Type 0} (f : A → B) (xs : List A) (p : ℕ) (y : B) → slice_get (map f xs) p ≡ Some y → (x : A) × (slice_get xs p ≡ Some x) × (f x ≡ y)
get_map f [] p y h = absurd (cc)
get_map f (x ∷ xs) zero y h = (x, refl, cc)
get_map f (x ∷ xs) (suc p) y h = get_map f xs p y h

-- ---- leaves

module _ {C F N : Type 0} (worth : Worth C F) where
  -- an instant without a fault, as a leaf of what is offered
  pub record FromGo (nodes : List (Node C N)) (p : ℕ) (f : F) (ls : Lasts) (n : N) : Type 0 where
    pub constraints : List C
    pub at : slice_get nodes p ≡ Some (leaf_node (t.go constraints ls n))
    pub worth_is : worth.formula ls constraints ≡ Ok f

  going_go : (f : F) (ls ms : Lasts) (n m : N) (cs : List C) (r : Result F Arith) → worth.formula ms cs ≡ r → going r ms m ≡ e.go f ls n → FromGo (leaf_node (t.go cs ms m) ∷ []) 0 f ls n
  going_go f ls ms n m cs (Ok g) q h = record {
    constraints = cs;
    at = let a : ms ≡ ls = cc in let b : m ≡ n = cc in λ i. Some (leaf_node (t.go cs (a i) (b i)));
    worth_is = let a : ms ≡ ls = cc in let c : g ≡ f = cc in ap (λ xs. worth.formula xs cs) (sym a) ∙ q ∙ ap Ok c;
  }
  going_go f ls ms n m cs (Err x) q h = absurd (cc)

  one_go : (l : Leaf C N) (p : ℕ) (f : F) (ls : Lasts) (n : N) → slice_get (Some (outlook worth l) ∷ []) p ≡ Some (Some (e.go f ls n)) → FromGo (leaf_node l ∷ []) p f ls n
  one_go t.vanish zero f ls n h = absurd (cc)
  one_go t.nothing zero f ls n h = absurd (cc)
  one_go (t.raised z) zero f ls n h = absurd (cc)
  one_go (t.go cs ms m) zero f ls n h = let k : going (worth.formula ms cs) ms m ≡ e.go f ls n = cc in going_go f ls ms n m cs (worth.formula ms cs) refl k
  one_go l (suc p) f ls n h = absurd (cc)

  module _ (f : F) (ls : Lasts) (n : N) where
    there_first : (xs ys : List (Node C N)) (p : ℕ) → FromGo xs p f ls n → FromGo (xs ++ ys) p f ls n
    there_first xs ys p g = record { constraints = g.constraints; at = get_first xs ys p _ g.at; worth_is = g.worth_is }

    there_second : (xs ys : List (Node C N)) (p q : ℕ) → p ≡ length xs + q → FromGo ys q f ls n → FromGo (xs ++ ys) p f ls n
    there_second xs ys p q e g = record { constraints = g.constraints; at = get_second xs ys p q _ e g.at; worth_is = g.worth_is }

    there_on : (x : Node C N) (xs : List (Node C N)) (p : ℕ) → FromGo xs p f ls n → FromGo (x ∷ xs) (suc p) f ls n
    there_on x xs p g = record { constraints = g.constraints; at = g.at; worth_is = g.worth_is }

  chosen_long : (bs : Branches C N) (r : Result (e.Parts F N) Arith) → ((ps : e.Parts F N) → r ≡ Ok ps → length (outlooks_of_each ps) ≡ length (flattened_each bs)) → length (outlooks_of (chosen_among r (length (flattened_each bs)))) ≡ suc (length (flattened_each bs))
  chosen_long bs (Ok ps) f = ap suc (f ps refl)
  chosen_long bs (Err x) f = ap suc (length-replicate (length (flattened_each bs)) None)

  part_long : (a : Tree C N) (bs : Branches C N) (x : Result ℕ Arith) (y : Result (e.Parts F N) Arith) (ps : e.Parts F N) → with_part x (evaluated worth a) y ≡ Ok ps → length (outlooks_of (evaluated worth a)) ≡ length (flattened a) → ((qs : e.Parts F N) → y ≡ Ok qs → length (outlooks_of_each qs) ≡ length (flattened_each bs)) → length (outlooks_of_each ps) ≡ length (flattened a ++ flattened_each bs)
  part_long a bs (Ok v) (Ok qs) ps h k f =
      let same : e.part v (evaluated worth a) qs ≡ ps = cc in
      let x = f qs refl in
      let z = length-append (flattened a) (flattened_each bs) in
      let w = length-append (outlooks_of (evaluated worth a)) (outlooks_of_each qs) in
      ap (λ r. length (outlooks_of_each r)) (sym same) ∙ omega (arith, x, k, z, w)
  part_long a bs (Ok v) (Err x) ps h k f = absurd (cc)
  part_long a bs (Err x) y ps h k f = absurd (cc)

  mutual
    pub outlooks_long : (u : Tree C N) → length (outlooks_of (evaluated worth u)) ≡ length (flattened u)
    outlooks_long (t.leaf l) = refl
    outlooks_long (t.ordered a b) =
        let x = outlooks_long a in
        let y = outlooks_long b in
        let z = length-append (flattened a) (flattened b) in
        let w = length-append (outlooks_of (evaluated worth a)) (outlooks_of (evaluated worth b)) in
        omega (arith, x, y, z, w)
    outlooks_long (t.weighted ls bs) = chosen_long bs (evaluated_parts worth ls bs) (λ ps h. parts_long ls bs ps h)

    parts_long : (ls : Lasts) (bs : Branches C N) (ps : e.Parts F N) → evaluated_parts worth ls bs ≡ Ok ps → length (outlooks_of_each ps) ≡ length (flattened_each bs)
    parts_long ls no_branch ps h = let same : e.no_part ≡ ps = cc in ap (λ r. length (outlooks_of_each r)) (sym same)
    parts_long ls (branch w a bs) ps h = part_long a bs (worth.weight ls w) (evaluated_parts worth ls bs) ps h (outlooks_long a) (λ qs k. parts_long ls bs qs k)

  module _ (f : F) (ls : Lasts) (n : N) where
    abbrev Found : List (Option (Outlook F N)) → List (Node C N) → Type 0
    Found os nodes = (p : ℕ) → slice_get os p ≡ Some (Some (e.go f ls n)) → FromGo nodes p f ls n

    two_found : (os us : List (Option (Outlook F N))) (xs ys : List (Node C N)) → length os ≡ length xs → Found os xs → Found us ys → Found (os ++ us) (xs ++ ys)
    two_found os us xs ys same a b p h = by_lies (lies os us p _ h)
      where
        by_lies : Lies os us p (Some (e.go f ls n)) → FromGo (xs ++ ys) p f ls n
        by_lies (in_first k) = there_first f ls n xs ys p (a p k)
        by_lies (in_second q eq k) = there_second f ls n xs ys p q (omega (arith, eq, same)) (b q k)

    on_found : (x : Node C N) (os : List (Option (Outlook F N))) (xs : List (Node C N)) → Found os xs → Found (None ∷ os) (x ∷ xs)
    on_found x os xs a zero h = absurd (cc)
    on_found x os xs a (suc p) h = there_on f ls n x xs p (a p h)

    spoilt_found : (x : Arith) (count : ℕ) (y : Node C N) (xs : List (Node C N)) → Found (Some (faulty x) ∷ replicate count None) (y ∷ xs)
    spoilt_found x count y xs zero h = absurd (cc)
    spoilt_found x count y xs (suc p) h = absurd (none_there count p _ h)

    chosen_found : (x : Node C N) (bs : Branches C N) (r : Result (e.Parts F N) Arith) → ((ps : e.Parts F N) → r ≡ Ok ps → Found (outlooks_of_each ps) (flattened_each bs)) → Found (outlooks_of (chosen_among r (length (flattened_each bs)))) (x ∷ flattened_each bs)
    chosen_found x bs (Ok ps) k p h = on_found x (outlooks_of_each ps) (flattened_each bs) (k ps refl) p h
    chosen_found x bs (Err y) k p h = spoilt_found y (length (flattened_each bs)) x (flattened_each bs) p h

    nowhere : (p : ℕ) → slice_get {X = Option (Outlook F N)} [] p ≡ Some (Some (e.go f ls n)) → ⊥
    nowhere p k = cc

    part_found : (a : Tree C N) (bs : Branches C N) (x : Result ℕ Arith) (y : Result (e.Parts F N) Arith) (ps : e.Parts F N) → with_part x (evaluated worth a) y ≡ Ok ps → Found (outlooks_of (evaluated worth a)) (flattened a) → ((qs : e.Parts F N) → y ≡ Ok qs → Found (outlooks_of_each qs) (flattened_each bs)) → Found (outlooks_of_each ps) (flattened a ++ flattened_each bs)
    part_found a bs (Ok v) (Ok qs) ps h k j =
        let same : e.part v (evaluated worth a) qs ≡ ps = cc in
        subst (λ r. Found (outlooks_of_each r) (flattened a ++ flattened_each bs)) same (two_found (outlooks_of (evaluated worth a)) (outlooks_of_each qs) (flattened a) (flattened_each bs) (outlooks_long a) k (j qs refl))
    part_found a bs (Ok v) (Err x) ps h k j = absurd (cc)
    part_found a bs (Err x) y ps h k j = absurd (cc)

    mutual
      pub go_found : (u : Tree C N) → Found (outlooks_of (evaluated worth u)) (flattened u)
      go_found (t.leaf l) p h = one_go l p f ls n h
      go_found (t.ordered a b) p h =
          on_found ordered_node (outlooks_of (evaluated worth a) ++ outlooks_of (evaluated worth b)) (flattened a ++ flattened b)
          (two_found (outlooks_of (evaluated worth a)) (outlooks_of (evaluated worth b)) (flattened a) (flattened b) (outlooks_long a) (go_found a) (go_found b)) p h
      go_found (t.weighted ms bs) p h = chosen_found (weighted_node ms (weights_of bs)) bs (evaluated_parts worth ms bs) (λ ps k. parts_found ms bs ps k) p h

      parts_found : (ms : Lasts) (bs : Branches C N) (ps : e.Parts F N) → evaluated_parts worth ms bs ≡ Ok ps → Found (outlooks_of_each ps) (flattened_each bs)
      parts_found ms no_branch ps h p k = let same : e.no_part ≡ ps = cc in absurd (nowhere p (subst (λ r. slice_get (outlooks_of_each r) p ≡ Some (Some (e.go f ls n))) (sym same) k))
      parts_found ms (branch w a bs) ps h p k = part_found a bs (worth.weight ms w) (evaluated_parts worth ms bs) ps h (go_found a) (λ qs j. parts_found ms bs qs j) p k
