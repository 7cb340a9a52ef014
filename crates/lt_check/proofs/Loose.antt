-- Whether a live leaf can be reached is told by the instants that can be.
use Rattle.std.proofs.Common.{◌≡◌, ◌+◌, ℕ, zero, suc, Bool, true, false, ◌&&◌, List, [], ◌∷◌, ◌++◌, length, drop, drop-drop, append_assoc, refl, ap, sym, ◌∙◌}
use Rattle.std.specs.Prelude.{◌||◌, Ok, Err, Some, if◌then◌else◌, nat_lt, slice_get}
use Rattle.std.specs.List.{list_any}
use Rattle.std.specs.declared.result.Result.{Result}
use Rattle.lt_num.specs.declared.fault.Arith.{Arith}
use Rattle.lt_legal.specs.Back.{back, back_in}
use Rattle.lt_legal.specs.Nodes.{count}
use Rattle.lt_legal.specs.Walk.{has_some, one_has_some}
use Rattle.lt_marks_laws.specs.Valued.{with_worth, worths}
use Rattle.lt_term.specs.Evaluated as e
use Rattle.lt_term.specs.Evaluated.{Outlook, Worth, chosen_among, evaluated, evaluated_parts, faulty, outlook, with_part}
use Rattle.lt_term.specs.Tree as t
use Rattle.lt_term.specs.Tree.{Branches, Lasts, Leaf, Node, Tree, Weight, branch, flattened, flattened_each, leaf_node, no_branch, weights_of}
use Rattle.lt_check.specs.inner.Seen.{loose_sight, positive}
use Rattle.lt_check.specs.inner.Shaped.{choice_shape, parts_by, shape_loose}
use Rattle.lt_check.proofs.Shapes.{count_seen}

or_swap : (a b : Bool) → (a || b) ≡ (b || a)
or_swap true true = refl
or_swap true false = refl
or_swap false true = refl
or_swap false false = refl

or_left : (a b : Bool) → (a || b) ≡ false → a ≡ false
or_left false b h = refl
or_left true b h = absurd (cc)

or_right : (a b : Bool) → (a || b) ≡ false → b ≡ false
or_right false b h = h
or_right true b h = absurd (cc)

pub any_append : {A : Type 0} (p : A → Bool) (xs ys : List A) → list_any p (xs ++ ys) ≡ (list_any p xs || list_any p ys)
any_append p [] ys = refl
any_append p (x ∷ xs) ys = or_on (p x) (list_any p xs) (list_any p ys) (list_any p (xs ++ ys)) (any_append p xs ys)
  where
    or_on : (a b c d : Bool) → d ≡ (b || c) → (a || d) ≡ ((a || b) || c)
    or_on true b c d h = refl
    or_on false b c d h = h

past : {A : Type 0} (us vs : List A) → drop (length us) (us ++ vs) ≡ vs
past [] vs = refl
past (u ∷ us) vs = past us vs

pub after : {A : Type 0} (all xs ys : List A) (at : ℕ) → drop at all ≡ xs ++ ys → drop (at + length xs) all ≡ ys
after all xs ys at h = sym (drop-drop (length xs) at all) ∙ ap (λ zs. drop (length xs) zs) h ∙ past xs ys

pub here : {A : Type 0} (all : List A) (at : ℕ) (x : A) (ys : List A) → drop at all ≡ x ∷ ys → slice_get all at ≡ Some x
here [] zero x ys h = absurd (cc)
here [] (suc at) x ys h = absurd (cc)
here (y ∷ all) zero x ys h = let e : y ≡ x = cc in ap (λ z. Some z) e
here (y ∷ all) (suc at) x ys h = here all at x ys h

-- a test whose leaves are told apart: those that are live for free, and the instants
pub record Parted {C F N : Type 0} (worth : Worth C F) (free live : Outlook F N → Bool) : Type 0 where
  pub vanish : free e.vanish ≡ true
  pub raised : (z : ℕ) → free (e.raised z) ≡ true
  pub faults : (x : Arith) → free (faulty x) ≡ true
  pub nothing : live e.nothing ≡ false

module _ {C F N : Type 0} (worth : Worth C F) (free live : Outlook F N → Bool) (parted : Parted worth free live) (all : List (Node C N)) (alive : ℕ → Bool) (told : (k : ℕ) (cs : List C) (ls : Lasts) (n : N) → slice_get all k ≡ Some (leaf_node (t.go cs ls n)) → alive k ≡ live (outlook worth (t.go cs ls n))) where
  abbrev pub none : ℕ → Bool
  none k = false

  abbrev pub reached : Tree C N → ℕ → Bool
  reached u at = list_any alive (back none at (shape_loose worth u))

  one_reached : (m : Leaf C N) (at : ℕ) (rest : List (Node C N)) → drop at all ≡ leaf_node m ∷ rest → free (outlook worth m) ≡ false → list_any alive (back none at (shape_loose worth (t.leaf m))) ≡ live (outlook worth m)
  one_reached t.vanish at rest h f = absurd (let k = sym parted.vanish ∙ f in cc)
  one_reached t.nothing at rest h f = sym parted.nothing
  one_reached (t.raised z) at rest h f = absurd (let k = sym (parted.raised z) ∙ f in cc)
  one_reached (t.go cs ls n) at rest h f = or_false (alive at) ∙ told at cs ls n (here all at (leaf_node (t.go cs ls n)) rest h)
    where
      or_false : (a : Bool) → (a || false) ≡ a
      or_false true = refl
      or_false false = refl

  -- the parts of a choice, where none of its weights has a fault
  abbrev PartsReached : Lasts → Branches C N → ℕ → Result (List ℕ) Arith → Type 0
  PartsReached ls bs at (Ok vs) = (ps : e.Parts F N) × (evaluated_parts worth ls bs ≡ Ok ps) × (one_has_some free ps ≡ false → list_any alive (back_in none at (parts_by worth loose_sight bs vs)) ≡ one_has_some live ps)
  PartsReached ls bs at (Err x) = evaluated_parts worth ls bs ≡ Err x

  one_part : (w : ℕ) (b : List ℕ) (a c : Bool) → ((c ≡ false) → list_any alive b ≡ a) → (nat_lt 0 w && c) ≡ false → list_any alive (if positive w then b else []) ≡ (nat_lt 0 w && a)
  one_part w b a c h f = by_sign (nat_lt 0 w) refl
    where
      by_sign : (p : Bool) → nat_lt 0 w ≡ p → list_any alive (if positive w then b else []) ≡ (nat_lt 0 w && a)
      by_sign true e = rw e (h (rw e at f))
      by_sign false e = rw e refl

  joined_reached : (ls : Lasts) (w : Weight C) (a : Tree C N) (bs : Branches C N) (at : ℕ) → (has_some free (evaluated worth a) ≡ false → reached a at ≡ has_some live (evaluated worth a)) → (x : Result ℕ Arith) → worth.weight ls w ≡ x → (y : Result (List ℕ) Arith) → PartsReached ls bs (at + count (shape_loose worth a)) y → PartsReached ls (branch w a bs) at (with_worth x y)
  joined_reached ls w a bs at here (Ok v) p (Ok vs) q = (
    e.part v (evaluated worth a) q.0,
    λ i. with_part (p i) (evaluated worth a) (q.1 i),
    λ f.
        any_append alive (back_in none (at + count (shape_loose worth a)) (parts_by worth loose_sight bs vs)) (if positive v then back none at (shape_loose worth a) else [])
        ∙ (λ i. q.2 (or_right (nat_lt 0 v && has_some free (evaluated worth a)) (one_has_some free q.0) f) i || one_part v (back none at (shape_loose worth a)) (has_some live (evaluated worth a)) (has_some free (evaluated worth a)) here (or_left (nat_lt 0 v && has_some free (evaluated worth a)) (one_has_some free q.0) f) i)
        ∙ or_swap (one_has_some live q.0) (nat_lt 0 v && has_some live (evaluated worth a)),
  )
  joined_reached ls w a bs at here (Ok v) p (Err f) q = λ i. with_part (p i) (evaluated worth a) (q i)
  joined_reached ls w a bs at here (Err f) p y q = λ i. with_part (p i) (evaluated worth a) (evaluated_parts worth ls bs)

  chosen_reached : (ls : Lasts) (bs : Branches C N) (at : ℕ) (y : Result (List ℕ) Arith) → PartsReached ls bs (at + 1) y → has_some free (chosen_among (evaluated_parts worth ls bs) (length (flattened_each bs))) ≡ false
      → list_any alive (back none at (choice_shape (λ f. false) y (parts_by worth loose_sight bs))) ≡ has_some live (chosen_among (evaluated_parts worth ls bs) (length (flattened_each bs)))
  chosen_reached ls bs at (Ok vs) q f =
      q.2 (ap (λ r. has_some free (chosen_among r (length (flattened_each bs)))) (sym q.1) ∙ f) ∙ ap (λ r. has_some live (chosen_among r (length (flattened_each bs)))) (sym q.1)
  chosen_reached ls bs at (Err x) q f = absurd (let k = sym (parted.faults x) ∙ ap (λ r. has_some free (chosen_among r (length (flattened_each bs)))) (sym q) ∙ f in cc)

  two_reached : (a b : Tree C N) (at : ℕ) → has_some free (e.ordered (evaluated worth a) (evaluated worth b)) ≡ false → (has_some free (evaluated worth a) ≡ false → reached a (at + 1) ≡ has_some live (evaluated worth a)) → (has_some free (evaluated worth b) ≡ false → reached b (at + 1 + count (shape_loose worth a)) ≡ has_some live (evaluated worth b)) → reached (t.ordered a b) at ≡ (has_some live (evaluated worth a) || has_some live (evaluated worth b))
  two_reached a b at f h k =
      any_append alive (back none (at + 1 + count (shape_loose worth a)) (shape_loose worth b)) (back none (at + 1) (shape_loose worth a))
      ∙ (λ i. k (or_right (has_some free (evaluated worth a)) (has_some free (evaluated worth b)) f) i || h (or_left (has_some free (evaluated worth a)) (has_some free (evaluated worth b)) f) i)
      ∙ or_swap (has_some live (evaluated worth b)) (has_some live (evaluated worth a))

  mutual
    pub all_reached : (u : Tree C N) (at : ℕ) (rest : List (Node C N)) → drop at all ≡ flattened u ++ rest → has_some free (evaluated worth u) ≡ false → reached u at ≡ has_some live (evaluated worth u)
    all_reached (t.leaf m) at rest h f = one_reached m at rest h f
    all_reached (t.ordered a b) at rest h f =
        let one : drop (at + 1) all ≡ flattened a ++ (flattened b ++ rest) = sym (drop-drop 1 at all) ∙ ap (λ xs. drop 1 xs) h ∙ append_assoc (flattened a) (flattened b) rest in
        let two : drop (at + 1 + count (shape_loose worth a)) all ≡ flattened b ++ rest = ap (λ n. drop (at + 1 + n) all) (count_seen worth loose_sight a) ∙ after all (flattened a) (flattened b ++ rest) (at + 1) one in
        two_reached a b at f (λ g. all_reached a (at + 1) (flattened b ++ rest) one g) (λ g. all_reached b (at + 1 + count (shape_loose worth a)) rest two g)
    all_reached (t.weighted ls bs) at rest h f =
        let one : drop (at + 1) all ≡ flattened_each bs ++ rest = sym (drop-drop 1 at all) ∙ ap (λ xs. drop 1 xs) h in
        chosen_reached ls bs at (worths worth.weight ls (weights_of bs)) (parts_reached ls bs (at + 1) rest one) f

    parts_reached : (ls : Lasts) (bs : Branches C N) (at : ℕ) (rest : List (Node C N)) → drop at all ≡ flattened_each bs ++ rest → PartsReached ls bs at (worths worth.weight ls (weights_of bs))
    parts_reached ls no_branch at rest h = (e.no_part, refl, λ f. refl)
    parts_reached ls (branch w a bs) at rest h =
        let one : drop at all ≡ flattened a ++ (flattened_each bs ++ rest) = h ∙ append_assoc (flattened a) (flattened_each bs) rest in
        let two : drop (at + count (shape_loose worth a)) all ≡ flattened_each bs ++ rest = ap (λ n. drop (at + n) all) (count_seen worth loose_sight a) ∙ after all (flattened a) (flattened_each bs ++ rest) at one in
        joined_reached ls w a bs at (λ g. all_reached a at (flattened_each bs ++ rest) one g) (worth.weight ls w) refl (worths worth.weight ls (weights_of bs)) (parts_reached ls bs (at + count (shape_loose worth a)) rest two)
