-- What is true of a tree is true of the term that it is: its numbers, where it names locals, how many alternatives it has.
use Rattle.std.proofs.Common.{◌≡◌, ℕ, suc, Bool, true, false, ◌||◌, nat_eq, nat_le, List, [], ◌∷◌, ◌++◌, inl, inr, refl, sym, ap, ◌∙◌, eq-eqb}
use Rattle.std.specs.List.{flat_map, list_all, list_any}
use Rattle.std.proofs.lemmas.Grind.{flat_map-append}
use Rattle.std.proofs.lemmas.List.Folds.{list_all-append}
use Rattle.lt_formula.specs.Expression.{Expression}
use Rattle.lt_formula.specs.declared.role.Role.{Role}
use Rattle.lt_formula.specs.declared.role.Role.TheVariants as role
use Rattle.lt_term.proofs.Public.{both, left_of, right_of}
use Rattle.lt_formula.specs.Limits.{most_alternatives}
use Rattle.lt_term.specs.Process.{Process}
use Rattle.lt_term.specs.Scope.{is_open, names_only, are_named_inside, are_each_named_inside}
use Rattle.lt_term.specs.Subterms.{alternatives, counter_at, counters_in, is_at_start, is_narrow, is_narrow_choice, is_unbegun, local_at, locals_in, subterms, subterms_of_each}
use Rattle.lt_macros.specs.Placed as p
use Rattle.lt_macros.specs.Placed.{Placed, bare}
use Rattle.lt_macros.specs.Expanded.{Exception, Expanded, eps, dead, con, raise, seq, loop, count, any, pri, par, assert, exist, catch, try, Parts, no_part, part}
use Rattle.lt_macros.specs.Nodes.{alternatives_at, parts_count}
use Rattle.lt_macros.specs.Preorder.{Item, items, items_in}
use Rattle.lt_expand.specs.Scenes.{process_of, choices_of}
use Rattle.lt_macros.specs.Scoping.{IsOne, IsOpen, NamesOnly, AreInside, AreEachInside}
use Rattle.lt_macros.specs.Numbering.{local_numbers, local_numbers_in, counter_numbers, counter_numbers_in}

-- Numbers.

flat_both : (f : Process Expression → List ℕ) (xs ys : List (Process Expression)) (ks ls : List ℕ) → flat_map f xs ≡ ks → flat_map f ys ≡ ls → flat_map f (xs ++ ys) ≡ ks ++ ls
flat_both f xs ys ks ls g h = flat_map-append f xs ys ∙ (λ i. g i ++ h i)

mutual
  pub term_locals : (zs : List Exception) (x : Expanded) → locals_in (process_of zs x) ≡ local_numbers x
  term_locals zs eps = refl
  term_locals zs dead = refl
  term_locals zs (con e) = refl
  term_locals zs (raise z) = refl
  term_locals zs (seq x y) = flat_both local_at (subterms (process_of zs x)) (subterms (process_of zs y)) _ _ (term_locals zs x) (term_locals zs y)
  term_locals zs (loop x) = term_locals zs x
  term_locals zs (count i b x) = term_locals zs x
  term_locals zs (any ps) = choices_locals zs ps
  term_locals zs (pri x y) = flat_both local_at (subterms (process_of zs x)) (subterms (process_of zs y)) _ _ (term_locals zs x) (term_locals zs y)
  term_locals zs (par x y) = flat_both local_at (subterms (process_of zs x)) (subterms (process_of zs y)) _ _ (term_locals zs x) (term_locals zs y)
  term_locals zs (assert e x) = term_locals zs x
  term_locals zs (exist i d x) = ap (λ ks. i ∷ ks) (term_locals zs x)
  term_locals zs (catch z x h) = flat_both local_at (subterms (process_of zs x)) (subterms (process_of zs h)) _ _ (term_locals zs x) (term_locals zs h)
  term_locals zs (try x h) = flat_both local_at (subterms (process_of zs x)) (subterms (process_of zs h)) _ _ (term_locals zs x) (term_locals zs h)

  choices_locals : (zs : List Exception) (ps : Parts) → flat_map local_at (subterms_of_each (choices_of zs ps)) ≡ local_numbers_in ps
  choices_locals zs no_part = refl
  choices_locals zs (part w x ps) = flat_both local_at (subterms (process_of zs x)) (subterms_of_each (choices_of zs ps)) _ _ (term_locals zs x) (choices_locals zs ps)

mutual
  pub term_counters : (zs : List Exception) (x : Expanded) → counters_in (process_of zs x) ≡ counter_numbers x
  term_counters zs eps = refl
  term_counters zs dead = refl
  term_counters zs (con e) = refl
  term_counters zs (raise z) = refl
  term_counters zs (seq x y) = flat_both counter_at (subterms (process_of zs x)) (subterms (process_of zs y)) _ _ (term_counters zs x) (term_counters zs y)
  term_counters zs (loop x) = term_counters zs x
  term_counters zs (count i b x) = ap (λ ks. i ∷ ks) (term_counters zs x)
  term_counters zs (any ps) = choices_counters zs ps
  term_counters zs (pri x y) = flat_both counter_at (subterms (process_of zs x)) (subterms (process_of zs y)) _ _ (term_counters zs x) (term_counters zs y)
  term_counters zs (par x y) = flat_both counter_at (subterms (process_of zs x)) (subterms (process_of zs y)) _ _ (term_counters zs x) (term_counters zs y)
  term_counters zs (assert e x) = term_counters zs x
  term_counters zs (exist i d x) = term_counters zs x
  term_counters zs (catch z x h) = flat_both counter_at (subterms (process_of zs x)) (subterms (process_of zs h)) _ _ (term_counters zs x) (term_counters zs h)
  term_counters zs (try x h) = flat_both counter_at (subterms (process_of zs x)) (subterms (process_of zs h)) _ _ (term_counters zs x) (term_counters zs h)

  choices_counters : (zs : List Exception) (ps : Parts) → flat_map counter_at (subterms_of_each (choices_of zs ps)) ≡ counter_numbers_in ps
  choices_counters zs no_part = refl
  choices_counters zs (part w x ps) = flat_both counter_at (subterms (process_of zs x)) (subterms_of_each (choices_of zs ps)) _ _ (term_counters zs x) (choices_counters zs ps)

-- Nothing is begun.

all_both : (f : Process Expression → Bool) (xs ys : List (Process Expression)) → list_all f xs ≡ true → list_all f ys ≡ true → list_all f (xs ++ ys) ≡ true
all_both f xs ys g h = list_all-append f xs ys ∙ both (list_all f xs) (list_all f ys) g h

mutual
  pub term_unbegun : (zs : List Exception) (x : Expanded) → is_at_start (process_of zs x) ≡ true
  term_unbegun zs eps = refl
  term_unbegun zs dead = refl
  term_unbegun zs (con e) = refl
  term_unbegun zs (raise z) = refl
  term_unbegun zs (seq x y) = all_both is_unbegun (subterms (process_of zs x)) (subterms (process_of zs y)) (term_unbegun zs x) (term_unbegun zs y)
  term_unbegun zs (loop x) = term_unbegun zs x
  term_unbegun zs (count i b x) = term_unbegun zs x
  term_unbegun zs (any ps) = choices_unbegun zs ps
  term_unbegun zs (pri x y) = all_both is_unbegun (subterms (process_of zs x)) (subterms (process_of zs y)) (term_unbegun zs x) (term_unbegun zs y)
  term_unbegun zs (par x y) = all_both is_unbegun (subterms (process_of zs x)) (subterms (process_of zs y)) (term_unbegun zs x) (term_unbegun zs y)
  term_unbegun zs (assert e x) = term_unbegun zs x
  term_unbegun zs (exist i d x) = term_unbegun zs x
  term_unbegun zs (catch z x h) = all_both is_unbegun (subterms (process_of zs x)) (subterms (process_of zs h)) (term_unbegun zs x) (term_unbegun zs h)
  term_unbegun zs (try x h) = all_both is_unbegun (subterms (process_of zs x)) (subterms (process_of zs h)) (term_unbegun zs x) (term_unbegun zs h)

  choices_unbegun : (zs : List Exception) (ps : Parts) → list_all is_unbegun (subterms_of_each (choices_of zs ps)) ≡ true
  choices_unbegun zs no_part = refl
  choices_unbegun zs (part w x ps) = all_both is_unbegun (subterms (process_of zs x)) (subterms_of_each (choices_of zs ps)) (term_unbegun zs x) (choices_unbegun zs ps)

-- Alternatives.

-- a part has no more alternatives than a choice may have
abbrev pub has_few : Item → Bool
has_few x = nat_le (alternatives_at x) most_alternatives

choices_many : (zs : List Exception) (ps : Parts) → alternatives (choices_of zs ps) ≡ parts_count ps
choices_many zs no_part = refl
choices_many zs (part w x ps) = ap suc (choices_many zs ps)

all_left : (f : Item → Bool) (xs ys : List Item) → list_all f (xs ++ ys) ≡ true → list_all f xs ≡ true
all_left f xs ys h = left_of (list_all f xs) (list_all f ys) (sym (list_all-append f xs ys) ∙ h)

all_right : (f : Item → Bool) (xs ys : List Item) → list_all f (xs ++ ys) ≡ true → list_all f ys ≡ true
all_right f xs ys h = right_of (list_all f xs) (list_all f ys) (sym (list_all-append f xs ys) ∙ h)

mutual
  pub term_narrow : (zs : List Exception) (x : Expanded) → list_all has_few (items x) ≡ true → is_narrow (process_of zs x) ≡ true
  term_narrow zs eps h = refl
  term_narrow zs dead h = refl
  term_narrow zs (con e) h = refl
  term_narrow zs (raise z) h = refl
  term_narrow zs (seq x y) h = all_both is_narrow_choice (subterms (process_of zs x)) (subterms (process_of zs y)) (term_narrow zs x (all_left has_few (items x) (items y) h)) (term_narrow zs y (all_right has_few (items x) (items y) h))
  term_narrow zs (loop x) h = term_narrow zs x h
  term_narrow zs (count i b x) h = term_narrow zs x h
  term_narrow zs (any ps) h =
      both (nat_le (alternatives (choices_of zs ps)) most_alternatives) (list_all is_narrow_choice (subterms_of_each (choices_of zs ps)))
      (ap (λ n. nat_le n most_alternatives) (choices_many zs ps) ∙ left_of (nat_le (parts_count ps) most_alternatives) (list_all has_few (items_in ps)) h)
      (choices_narrow zs ps (right_of (nat_le (parts_count ps) most_alternatives) (list_all has_few (items_in ps)) h))
  term_narrow zs (pri x y) h = all_both is_narrow_choice (subterms (process_of zs x)) (subterms (process_of zs y)) (term_narrow zs x (all_left has_few (items x) (items y) h)) (term_narrow zs y (all_right has_few (items x) (items y) h))
  term_narrow zs (par x y) h = all_both is_narrow_choice (subterms (process_of zs x)) (subterms (process_of zs y)) (term_narrow zs x (all_left has_few (items x) (items y) h)) (term_narrow zs y (all_right has_few (items x) (items y) h))
  term_narrow zs (assert e x) h = term_narrow zs x h
  term_narrow zs (exist i d x) h = term_narrow zs x h
  term_narrow zs (catch z x y) h = all_both is_narrow_choice (subterms (process_of zs x)) (subterms (process_of zs y)) (term_narrow zs x (all_left has_few (items x) (items y) h)) (term_narrow zs y (all_right has_few (items x) (items y) h))
  term_narrow zs (try x y) h = all_both is_narrow_choice (subterms (process_of zs x)) (subterms (process_of zs y)) (term_narrow zs x (all_left has_few (items x) (items y) h)) (term_narrow zs y (all_right has_few (items x) (items y) h))

  choices_narrow : (zs : List Exception) (ps : Parts) → list_all has_few (items_in ps) ≡ true → list_all is_narrow_choice (subterms_of_each (choices_of zs ps)) ≡ true
  choices_narrow zs no_part h = refl
  choices_narrow zs (part w x ps) h = all_both is_narrow_choice (subterms (process_of zs x)) (subterms_of_each (choices_of zs ps)) (term_narrow zs x (all_left has_few (items x) (items_in ps) h)) (choices_narrow zs ps (all_right has_few (items x) (items_in ps) h))

-- Locals.

or_left : (a b : Bool) → a ≡ true → (a || b) ≡ true
or_left true b h = refl
or_left false b h = absurd (cc)

or_right : (a b : Bool) → b ≡ true → (a || b) ≡ true
or_right true b h = refl
or_right false b h = h

one_open : (i : ℕ) (xs : List ℕ) → IsOne i xs → list_any (nat_eq i) xs ≡ true
one_open i [] h = absurd h
one_open i (k ∷ ks) (inl e) = or_left (nat_eq i k) (list_any (nat_eq i) ks) (eq-eqb i k e)
one_open i (k ∷ ks) (inr o) = or_right (nat_eq i k) (list_any (nat_eq i) ks) (one_open i ks o)

role_open : (xs : List ℕ) (r : Role) (i : ℕ) → IsOpen xs r i → is_open xs r i ≡ true
role_open xs role.Input i h = refl
role_open xs role.Output i h = refl
role_open xs role.Local i h = one_open i xs h

expression_names : (xs : List ℕ) (e : Placed) → NamesOnly xs e → names_only xs (bare e) ≡ true
expression_names xs (p.constant k v at) h = refl
expression_names xs (p.variable r i at) h = role_open xs r i h
expression_names xs (p.previous r i at) h = role_open xs r i h
expression_names xs (p.unary op e at) h = expression_names xs e h
expression_names xs (p.binary op d e at) h = both _ _ (expression_names xs d h.0) (expression_names xs e h.1)
expression_names xs (p.choice c d e at) h = both _ _ (expression_names xs c h.0) (both _ _ (expression_names xs d h.1.0) (expression_names xs e h.1.1))

mutual
  pub term_inside : (zs : List Exception) (xs : List ℕ) (x : Expanded) → AreInside xs x → are_named_inside xs (process_of zs x) ≡ true
  term_inside zs xs eps h = refl
  term_inside zs xs dead h = refl
  term_inside zs xs (con e) h = expression_names xs e h
  term_inside zs xs (raise z) h = refl
  term_inside zs xs (seq x y) h = both _ _ (term_inside zs xs x h.0) (term_inside zs xs y h.1)
  term_inside zs xs (loop x) h = term_inside zs xs x h
  term_inside zs xs (count i b x) h = term_inside zs xs x h
  term_inside zs xs (any ps) h = choices_inside zs xs ps h
  term_inside zs xs (pri x y) h = both _ _ (term_inside zs xs x h.0) (term_inside zs xs y h.1)
  term_inside zs xs (par x y) h = both _ _ (term_inside zs xs x h.0) (term_inside zs xs y h.1)
  term_inside zs xs (assert e x) h = both _ _ (expression_names xs e h.0) (term_inside zs xs x h.1)
  term_inside zs xs (exist i d x) h = term_inside zs (i ∷ xs) x h
  term_inside zs xs (catch z x y) h = both _ _ (term_inside zs xs x h.0) (term_inside zs xs y h.1)
  term_inside zs xs (try x y) h = both _ _ (term_inside zs xs x h.0) (term_inside zs xs y h.1)

  choices_inside : (zs : List Exception) (xs : List ℕ) (ps : Parts) → AreEachInside xs ps → are_each_named_inside xs (choices_of zs ps) ≡ true
  choices_inside zs xs no_part h = refl
  choices_inside zs xs (part w x ps) h = both _ _ (expression_names xs w h.0) (both _ _ (term_inside zs xs x h.1.0) (choices_inside zs xs ps h.1.1))
