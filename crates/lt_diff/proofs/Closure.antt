-- What stands between two pivots of a closure, and what stands at its end.
use Rattle.std.proofs.Common.{◌≡◌, ◌≢◌, ℕ, suc, ◌<◌, ◌≤◌, List, [], ◌∷◌, ◌++◌, ℤ, pos, ◌+ℤ◌, ◌≤ℤ◌, ◌<ℤ◌, inl, inr, refl, sym, ◌∙◌, subst, arith}
use Rattle.std.proofs.lemmas.Int.{ints}
use Rattle.std.proofs.lemmas.Bool.{cases_eq}
use Rattle.lt_diff.specs.Bounds.{HasSameSolutions, IsSolution, no_bound}
use Rattle.lt_diff.specs.Closing.{AreStated, AreWithin, IsClosed, IsClosedAt}
use Rattle.lt_diff.specs.Walks.{HasNegativeCycle, HasWalk, IsWalk, walk_sum}
use Rattle.lt_diff.specs.inner.Pivots.{HasNegative, IsFlat, IsPivoted}
use Rattle.lt_diff.proofs.LeastWalks.{least_parts, least_walk}
use Rattle.lt_diff.proofs.Pivots.{closed_kept, closed_now}
use Rattle.lt_diff.proofs.Places.{AreApart, AreBelow, IsIn, below_joined, below_more, few, is_below, joined_apart}
use Rattle.lt_diff.proofs.Shortening.{shortened}
use Rattle.lt_diff.proofs.Walks.{sum_append, walk_append, walk_below, walk_follows, walk_met, walk_start, walk_within}

-- a cell is the sum of a walk over the stated bounds that passes variables below k, each once
abbrev pub IsReached : ℕ → (ℕ → ℕ → ℤ) → ℕ → ℕ → ℕ → ℤ → Type 0
IsReached n stated k a b cell = (ps : List ℕ) × IsWalk n stated a ps b × (walk_sum stated a ps b ≡ cell) × AreBelow k ps × AreApart ps

-- what k pivots keep
pub record IsClosing (n k : ℕ) (stated cell : ℕ → ℕ → ℤ) : Type 0 where
  pub reached : (a b : ℕ) → a < n → b < n → cell a b ≢ no_bound → IsReached n stated k a b (cell a b)
  pub less : (a b : ℕ) → a < n → b < n → cell a b ≤ℤ stated a b
  pub closed : (p : ℕ) → p < k → IsClosedAt n cell p
  pub flat : IsFlat n cell

-- before the first pivot
pub closing_starts : (n : ℕ) (stated : ℕ → ℕ → ℤ) → IsFlat n stated → IsClosing n 0 stated stated
closing_starts n stated flat = record {
  reached = λ a b ha hb f. ([], (ha, hb, f), refl, tt, tt);
  less = λ a b ha hb. omega (arith, ints);
  closed = λ p h. absurd (omega (arith, h));
  flat = flat;
}

-- the cells stay within 130 times the greatest size of a stated bound
pub closing_within : (n k : ℕ) (stated cell : ℕ → ℕ → ℤ) → n ≤ 129 → k ≤ n → AreWithin 520000000000000 n stated → IsClosing n k stated cell → AreWithin 67600000000000000 n cell
closing_within n k stated cell hn hk within c a b ha hb f =
    let r = c.reached a b ha hb f in
    let w = walk_within 520000000000000 n stated within a b r.0 r.1 in
    let l = few k r.0 r.3 r.4 in
    let is = r.2 in
    let low = w.0 in
    let high = w.1 in
    (omega (arith, ints), omega (arith, ints))

module _ (n k : ℕ) (stated old new : ℕ → ℕ → ℤ) (hn : n ≤ 129) (hk : k < n) (within : AreWithin 520000000000000 n stated) (c : IsClosing n k stated old) (piv : IsPivoted n k old new) where
  small : AreWithin 67600000000000000 n old
  small = closing_within n k stated old hn (omega (arith, hk)) within c

  -- a negative cell between a variable and itself is a negative cycle
  pub cycle_found : (a : ℕ) → a < n → new a a <ℤ pos 0 → HasNegativeCycle n stated
  cycle_found a ha h = elim (piv a a ha ha).2 [
    | inl e ↦ (let f = c.flat a ha in absurd (omega (arith, ints)))
    | inr e ↦
        let x = c.reached a k ha hk e.0 in
        let y = c.reached k a hk ha e.1 in
        let s = sum_append stated a k a x.0 y.0 in
        let xs = x.2 in
        let ys = y.2 in
        let is = e.2 in
        (a, (x.0 ++ k ∷ y.0), walk_append n stated a k a x.0 y.0 x.1 y.1, omega (arith, ints))
  ]

  -- the two walks that a pivot joins pass no common variable, where no cell of the diagonal is negative
  nothing_common : IsFlat n new → (a b : ℕ) → a < n → b < n → (x : IsReached n stated k a k (old a k)) → (y : IsReached n stated k k b (old k b)) → (old a k +ℤ old k b) <ℤ old a b → (p : ℕ) → IsIn p x.0 → IsIn p y.0 → ⊥
  nothing_common flat a b ha hb x y less p ix iy =
      let u = least_parts n k stated old (omega (arith, hk)) small c.less within c.closed a p k x.0 hk x.1 x.3 ix in
      let v = least_parts n k stated old (omega (arith, hk)) small c.less within c.closed k p b y.0 hb y.1 y.3 iy in
      let loop = (piv p p u.0 u.0).1 u.2 v.1 in
      let zero = flat p u.0 in
      let low = c.closed p (is_below k p x.0 x.3 ix) a b ha hb u.1 v.2 in
      let su = u.3 in
      let sv = v.3 in
      let xs = x.2 in
      let ys = y.2 in
      omega (arith, ints)

  pub closing_kept : IsFlat n new → IsClosing n (suc k) stated new
  closing_kept flat = record {
    reached = λ a b ha hb f. elim (piv a b ha hb).2 [
      | inl e ↦
          let r = c.reached a b ha hb (λ h. f (e ∙ h)) in
          (r.0, r.1, r.2 ∙ sym e, below_more k r.0 r.3, r.4)
      | inr e ↦
          let x = c.reached a k ha hk e.0 in
          let y = c.reached k b hk hb e.1 in
          let s = sum_append stated a k b x.0 y.0 in
          let xs = x.2 in
          let ys = y.2 in
          let is = e.2 in
          let down = e.3 in (
            (x.0 ++ k ∷ y.0),
            walk_append n stated a k b x.0 y.0 x.1 y.1,
            omega (arith, ints),
            below_joined k x.0 y.0 x.3 y.3,
            joined_apart k x.0 y.0 x.3 y.3 x.4 y.4 (nothing_common flat a b ha hb x y (omega (arith, ints))),
          )
    ];
    less = λ a b ha hb. (let l = c.less a b ha hb in let m = (piv a b ha hb).0 in omega (arith, ints));
    closed = λ p hp. closed_at p hp;
    flat = flat;
  }
    where
      closed_at : (p : ℕ) → p < suc k → IsClosedAt n new p
      closed_at p hp = elim (cases_eq p k) [
        | inl e ↦ subst (λ (q : ℕ). IsClosedAt n new q) (sym e) (closed_now n k old new hk piv c.flat)
        | inr ne ↦
            let l : p < k = omega (arith, hp, ne) in
            closed_kept n k p old new hk (omega (arith, hk, l)) piv small c.flat (c.closed p l)
      ]

-- pivots keep the solutions
pub same_solutions : (n k : ℕ) (stated cell : ℕ → ℕ → ℤ) → AreWithin 520000000000000 n stated → IsClosing n k stated cell → (value : ℕ → ℤ)
    → (IsSolution n stated value → IsSolution n cell value) × (IsSolution n cell value → IsSolution n stated value)
same_solutions n k stated cell within c value = (
  (λ s. (s.0, (λ a b ha hb f. (let r = c.reached a b ha hb f in let m = walk_met n stated value s a b r.0 hb r.1 in let is = r.2 in omega (arith, ints))))),
  (λ s. (
    s.0,
    (λ a b ha hb f.
        let w = within a b ha hb f in
        let l = c.less a b ha hb in
        let m = s.1 a b ha hb (λ e. omega (arith, ints)) in
        omega (arith, ints)),
  )),
)

-- a negative cell between a variable and itself is a cycle of one step
pub cycle_at : (n : ℕ) (cell : ℕ → ℕ → ℤ) → HasNegative n cell → HasNegativeCycle n cell
cycle_at n cell h = let less = h.2 in (h.0, [], (h.1, h.1, (λ e. omega (arith, ints))), less)

-- after all pivots
module _ (n : ℕ) (stated cell : ℕ → ℕ → ℤ) (hn : n ≤ 129) (some : 0 < n) (start : AreStated n stated) (c : IsClosing n n stated cell) where
  closed_within : AreWithin 67600000000000000 n cell
  closed_within = closing_within n n stated cell hn (omega arith) start.within c

  -- there is no negative cycle
  pub no_cycle : HasNegativeCycle n stated → ⊥
  no_cycle h =
      let ha = walk_start n stated h.0 h.0 h.1 h.2 in
      let l = least_walk n n stated cell (omega arith) closed_within c.less start.within c.closed h.0 h.0 h.1 ha h.2 (walk_below n stated h.0 h.0 h.1 h.2) in
      let f = c.flat h.0 ha in
      let less = h.3 in
      let low = l.1 in
      omega (arith, ints)

  -- the solutions are the same
  pub same_all : HasSameSolutions n stated cell
  same_all value = (let s = same_solutions n n stated cell start.within c value in (s.1, s.0))

  -- no cell is greater than the bound that it comes of
  at_most_bound : (a b : ℕ) → a < n → b < n → cell a b ≤ℤ start.bounds a b
  at_most_bound a b ha hb =
      let x = c.less a b ha hb in
      let y = start.comes.less a b ha hb in
      omega (arith, ints)

  -- nor than the sum of a walk over bounds
  at_most_walk : (a b : ℕ) (ps : List ℕ) → b < n → IsWalk n start.bounds a ps b → (cell a b ≢ no_bound) × (cell a b ≤ℤ walk_sum start.bounds a ps b)
  at_most_walk a b ps hb w =
      least_walk n n start.bounds cell (omega arith) closed_within at_most_bound bounds_within c.closed a b ps hb w (walk_below n start.bounds a b ps w)
    where
      bounds_within : AreWithin 520000000000000 n start.bounds
      bounds_within i j hi hj f = (let x = start.comes.within i j hi hj f in (let low = x.0 in omega (arith, ints), let high = x.1 in omega (arith, ints)))

  -- each stated cell follows from a walk over bounds
  follows_still : (a b : ℕ) → a < n → b < n → cell a b ≢ no_bound → HasWalk n start.bounds a b (cell a b)
  follows_still a b ha hb f =
      let r = c.reached a b ha hb f in
      let w = walk_follows n start.bounds stated start.comes.follows a b r.0 hb r.1 in
      let is = r.2 in
      let sum = w.sum in
      record { through = w.through; is = w.is; sum = omega (arith, ints) }

  -- and from one that passes no variable twice: so it is within what so many bounds sum to
  within_still : AreWithin 520000000000000 n cell
  within_still a b ha hb f =
      let w = follows_still a b ha hb f in
      let short = shortened n start.bounds not_negative a b w.through hb w.is in
      let most = at_most_walk a b short.through hb short.walk in
      let size = walk_within 4000000000000 n start.bounds start.comes.within a b short.through short.walk in
      let count = few n short.through short.below short.apart in
      let sum = w.sum in
      let less = short.sum in
      let above = most.1 in
      let low = size.0 in
      let high = size.1 in
      (omega (arith, ints), omega (arith, ints))
    where
      not_negative : (p : ℕ) (ps : List ℕ) → IsWalk n start.bounds p ps p → pos 0 ≤ℤ walk_sum start.bounds p ps p
      not_negative p ps w =
          let hp = walk_start n start.bounds p p ps w in
          let l = (at_most_walk p p ps hp w).1 in
          let flat = c.flat p hp in
          omega (arith, ints)

  -- the cells say all that follows from them
  pub closed_all : IsClosed n cell
  closed_all = record {
    at = c.closed;
    origin = (let f = c.flat 0 some in let l = c.less 0 0 some some in let o = start.origin in omega (arith, ints));
    within = within_still;
  }

  -- further bounds may be stated
  pub stated_all : AreStated n cell
  stated_all = record {
    bounds = start.bounds;
    comes = record { within = start.comes.within; less = at_most_bound; follows = follows_still };
    within = within_still;
    origin = (let l = c.less 0 0 some some in let o = start.origin in omega (arith, ints));
  }
