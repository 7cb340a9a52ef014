-- Walks without the cycles on them.
use Rattle.std.proofs.Common.{◌≡◌, ℕ, ◌<◌, List, [], ◌∷◌, ℤ, pos, ◌+ℤ◌, ◌≤ℤ◌, inl, inr, refl, sym, subst, arith}
use Rattle.std.proofs.lemmas.Int.{ints}
use Rattle.lt_diff.specs.Walks.{IsWalk, walk_sum}
use Rattle.lt_diff.proofs.Places.{AreApart, AreBelow, IsIn, in_or_not}
use Rattle.lt_diff.proofs.Walks.{walk_start}

-- A walk, cut at a variable that it passes: the part before that, and the part behind, on which it doesn't stand again.
record IsCut (n : ℕ) (cell : ℕ → ℕ → ℤ) (a p b : ℕ) (ps : List ℕ) : Type 0 where
  front : List ℕ
  rest : List ℕ
  front_walk : IsWalk n cell a front p
  rest_walk : IsWalk n cell p rest b
  sum : walk_sum cell a ps b ≡ walk_sum cell a front p +ℤ walk_sum cell p rest b
  below : AreBelow n rest
  apart : AreApart rest
  out : IsIn p rest → ⊥

-- a walk that passes no variable twice is so cut at each of them
cut_at : (n : ℕ) (cell : ℕ → ℕ → ℤ) (a p b : ℕ) (ps : List ℕ) → b < n → IsWalk n cell a ps b → AreBelow n ps → AreApart ps → IsIn p ps → IsCut n cell a p b ps
cut_at n cell a p b [] hb w below apart i = absurd i
cut_at n cell a p b (q ∷ qs) hb w below apart i = elim i [
  | inl e ↦ subst (λ (r : ℕ). IsCut n cell a r b (q ∷ qs)) (sym e) (record {
    front = [];
    rest = qs;
    front_walk = (w.0, walk_start n cell q b qs w.2, w.1);
    rest_walk = w.2;
    sum = refl;
    below = below.1;
    apart = apart.1;
    out = apart.0;
  })
  | inr m ↦
      let c = cut_at n cell q p b qs hb w.2 below.1 apart.1 m in
      let s = c.sum in
      record {
        front = q ∷ c.front;
        rest = c.rest;
        front_walk = (w.0, w.1, c.front_walk);
        rest_walk = c.rest_walk;
        sum = omega (arith, ints);
        below = c.below;
        apart = c.apart;
        out = c.out;
      }
]

-- A walk that passes no variable twice, with at most this sum.
pub record IsShort (n : ℕ) (cell : ℕ → ℕ → ℤ) (a b : ℕ) (most : ℤ) : Type 0 where
  pub through : List ℕ
  pub walk : IsWalk n cell a through b
  pub sum : walk_sum cell a through b ≤ℤ most
  pub below : AreBelow n through
  pub apart : AreApart through

-- where no cycle is negative
module _ (n : ℕ) (cell : ℕ → ℕ → ℤ) (not_negative : (p : ℕ) (ps : List ℕ) → IsWalk n cell p ps p → pos 0 ≤ℤ walk_sum cell p ps p) where
  -- each walk is no less than one that passes no variable twice
  pub shortened : (a b : ℕ) (ps : List ℕ) → b < n → IsWalk n cell a ps b → IsShort n cell a b (walk_sum cell a ps b)
  shortened a b [] hb w = record { through = []; walk = w; sum = omega (arith, ints); below = tt; apart = tt }
  shortened a b (p ∷ ps) hb w =
      let s = shortened p b ps hb w.2 in
      let hp = walk_start n cell p b ps w.2 in
      let less = s.sum in
      elim (in_or_not p s.through) [
        | inl i ↦
            let c = cut_at n cell p p b s.through hb s.walk s.below s.apart i in
            let cycle = not_negative p c.front c.front_walk in
            let is = c.sum in
            record { through = p ∷ c.rest; walk = (w.0, w.1, c.rest_walk); sum = omega (arith, ints); below = (hp, c.below); apart = (c.out, c.apart) }
        | inr out ↦ record { through = p ∷ s.through; walk = (w.0, w.1, s.walk); sum = omega (arith, ints); below = (hp, s.below); apart = (out, s.apart) }
      ]
