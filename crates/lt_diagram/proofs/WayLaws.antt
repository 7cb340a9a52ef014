-- Ways within fixed truths: exactly one agrees, and they differ.
use Rattle.std.proofs.Common.{◌≡◌, ℕ, suc, ◌+◌, Bool, true, false, true≢false, nat_lt, List, [], ◌∷◌, ◌++◌, length, if◌then◌else◌, refl, ap, sym, ◌∙◌, subst, arith}
use Rattle.std.proofs.lemmas.Bool.{ltb-true}
use Rattle.lt_diagram.specs.Choice.{Choice, Path, allows, always, ask, behind, is_same, never, truth_of, truths}
use Rattle.lt_diagram.specs.Laws.{BeginWith, EachOnce, IsNoneOf, OnePathAgrees, PathsDiffer, agree, agreeing}
use Rattle.lt_diagram.specs.inner.Ways.{ways, ways_behind}
use Rattle.lt_diagram.proofs.Ways.{within_ways}

-- Exactly one way agrees.

joined : (told : ℕ → Bool) (ps qs : List Path) → agreeing told (ps ++ qs) ≡ agreeing told ps + agreeing told qs
joined told [] qs = omega arith
joined told (p ∷ ps) qs = by (agree told p) (joined told ps qs)
  where
    by : (b : Bool) → agreeing told (ps ++ qs) ≡ agreeing told ps + agreeing told qs
        → (if b then suc (agreeing told (ps ++ qs)) else agreeing told (ps ++ qs)) ≡ (if b then suc (agreeing told ps) else agreeing told ps) + agreeing told qs
    by true e = omega (arith, e)
    by false e = e

-- the ways behind an atom that has this truth, and behind one that hasn't
asked : (told : ℕ → Bool) (a : ℕ) (b : Bool) → is_same (told a) b ≡ true → (ps : List Path) → agreeing told (behind a b ps) ≡ agreeing told ps
asked told a b e [] = refl
asked told a b e (p ∷ ps) =
    ap (λ t. if (if t then agree told p else false) then suc (agreeing told (behind a b ps)) else agreeing told (behind a b ps)) e
    ∙ ap (λ n. if agree told p then suc n else n) (asked told a b e ps)

missed : (told : ℕ → Bool) (a : ℕ) (b : Bool) → is_same (told a) b ≡ false → (ps : List Path) → agreeing told (behind a b ps) ≡ 0
missed told a b e [] = refl
missed told a b e (p ∷ ps) =
    ap (λ t. if (if t then agree told p else false) then suc (agreeing told (behind a b ps)) else agreeing told (behind a b ps)) e
    ∙ missed told a b e ps

-- a truth of the atom that fixed truths don't let it have is another
barred : (fixed : List Bool) (told : ℕ → Bool) (a : ℕ) (b : Bool) → BeginWith fixed told → allows fixed a b ≡ false → is_same (told a) b ≡ false
barred fixed told a b begin e = by (nat_lt a (length fixed)) refl e
  where
    by : (less : Bool) → nat_lt a (length fixed) ≡ less → (if less then is_same (truths fixed a) b else true) ≡ false → is_same (told a) b ≡ false
    by true l h = ap (λ t. is_same t b) (begin a (ltb-true a (length fixed) l)) ∙ h
    by false l h = absurd (true≢false h)

-- the ways behind an atom within fixed truths
behind_fixed : (fixed : List Bool) (told : ℕ → Bool) (a : ℕ) (b : Bool) → BeginWith fixed told → (ps : List Path) → agreeing told (ways_behind fixed a b ps) ≡ (if is_same (told a) b then agreeing told ps else 0)
behind_fixed fixed told a b begin ps = by (allows fixed a b) (is_same (told a) b) refl refl
  where
    by : (t u : Bool) → allows fixed a b ≡ t → is_same (told a) b ≡ u → agreeing told (if t then behind a b ps else []) ≡ (if u then agreeing told ps else 0)
    by true true e h = asked told a b h ps
    by true false e h = missed told a b h ps
    by false true e h = absurd (true≢false (sym h ∙ barred fixed told a b begin e))
    by false false e h = refl

one_way : (fixed : List Bool) (told : ℕ → Bool) (c : Choice) → BeginWith fixed told → agreeing told (ways fixed c) ≡ (if truth_of told c then 1 else 0)
one_way fixed told never begin = refl
one_way fixed told always begin = refl
one_way fixed told (ask a n y) begin =
    joined told (ways_behind fixed a false (ways fixed n)) (ways_behind fixed a true (ways fixed y))
    ∙ (λ i. behind_fixed fixed told a false begin (ways fixed n) i + behind_fixed fixed told a true begin (ways fixed y) i)
    ∙ by (told a) (one_way fixed told n begin) (one_way fixed told y begin)
  where
    by : (t : Bool) → agreeing told (ways fixed n) ≡ (if truth_of told n then 1 else 0) → agreeing told (ways fixed y) ≡ (if truth_of told y then 1 else 0)
        → (if is_same t false then agreeing told (ways fixed n) else 0) + (if is_same t true then agreeing told (ways fixed y) else 0) ≡ (if (if t then truth_of told y else truth_of told n) then 1 else 0)
    by true hn hy = let e : 0 + agreeing told (ways fixed y) ≡ agreeing told (ways fixed y) = omega arith in e ∙ hy
    by false hn hy = let e : agreeing told (ways fixed n) + 0 ≡ agreeing told (ways fixed n) = omega arith in e ∙ hn

pub one_path_agrees : OnePathAgrees
one_path_agrees fixed told c begin = ap (agreeing told) (within_ways fixed c) ∙ one_way fixed told c begin

-- The ways differ.

-- the ways behind a step, without it
abbrev rest_of : Path → Path
rest_of [] = []
rest_of (s ∷ p) = p

-- the truth of a first step
abbrev first_truth : Path → Bool
first_truth [] = false
first_truth (s ∷ p) = s.1

none_behind : (a : ℕ) (b : Bool) (p : Path) (ps : List Path) → IsNoneOf p ps → IsNoneOf ((a, b) ∷ p) (behind a b ps)
none_behind a b p [] h = tt
none_behind a b p (q ∷ ps) h = ((λ e. h.0 (ap rest_of e)), none_behind a b p ps h.1)

once_behind : (a : ℕ) (b : Bool) (ps : List Path) → EachOnce ps → EachOnce (behind a b ps)
once_behind a b [] h = tt
once_behind a b (p ∷ ps) h = (none_behind a b p ps h.0, once_behind a b ps h.1)

once_within : (fixed : List Bool) (a : ℕ) (b t : Bool) (ps : List Path) → EachOnce ps → EachOnce (if t then behind a b ps else [])
once_within fixed a b true ps h = once_behind a b ps h
once_within fixed a b false ps h = tt

none_across : (a : ℕ) (p : Path) (t : Bool) (ps : List Path) → IsNoneOf ((a, false) ∷ p) (if t then behind a true ps else [])
none_across a p false ps = tt
none_across a p true [] = tt
none_across a p true (q ∷ ps) = ((λ e. true≢false (sym (ap first_truth e))), none_across a p true ps)

none_both : (p : Path) (ps qs : List Path) → IsNoneOf p ps → IsNoneOf p qs → IsNoneOf p (ps ++ qs)
none_both p [] qs h k = k
none_both p (q ∷ ps) qs h k = (h.0, none_both p ps qs h.1 k)

once_both : (a : ℕ) (ps : List Path) (t u : Bool) (qs : List Path) → EachOnce (if u then behind a false ps else []) → EachOnce (if t then behind a true qs else [])
    → EachOnce ((if u then behind a false ps else []) ++ (if t then behind a true qs else []))
once_both a ps t false qs h k = k
once_both a [] t true qs h k = k
once_both a (p ∷ ps) t true qs h k =
    (none_both ((a, false) ∷ p) (behind a false ps) (if t then behind a true qs else []) h.0 (none_across a p t qs), once_both a ps t true qs h.1 k)

each_once : (fixed : List Bool) (c : Choice) → EachOnce (ways fixed c)
each_once fixed never = tt
each_once fixed always = (tt, tt)
each_once fixed (ask a n y) =
    once_both a (ways fixed n) (allows fixed a true) (allows fixed a false) (ways fixed y)
    (once_within fixed a false (allows fixed a false) (ways fixed n) (each_once fixed n))
    (once_within fixed a true (allows fixed a true) (ways fixed y) (each_once fixed y))

pub paths_differ : PathsDiffer
paths_differ fixed c = subst EachOnce (sym (within_ways fixed c)) (each_once fixed c)
