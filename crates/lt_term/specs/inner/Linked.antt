-- What rules and instants by number keep: each names earlier ones alone.
use Rattle.std.specs.Prelude.{ℕ, suc, Bool, true, ◌&&◌, nat_lt, nat_le, List, [], ◌∷◌}
use Rattle.lt_formula.specs.Limits.{most_turns}
use Rattle.lt_term.specs.View.{process}
use Rattle.lt_term.specs.Process.{Process, eps, dead, con, raise, seq, loop, count, any, pri, par, assert, exist, catch, try, Choices, no_choice, choice}
use Rattle.lt_term.specs.declared.instants.Made.{Made}
use Rattle.lt_term.specs.declared.instants.Made.TheVariants as made
use Rattle.lt_term.specs.declared.waiting.Link.{Link}
use Rattle.lt_term.specs.declared.waiting.Waiting.{Waiting}
use Rattle.lt_term.specs.declared.waiting.Waiting.TheVariants as wait

-- whether no counted loop has more turns done than it may have
abbrev mutual
  pub is_counted : {C : Type 0} → Process C → Bool
  is_counted eps = true
  is_counted dead = true
  is_counted (con c) = true
  is_counted (raise z) = true
  is_counted (seq a b) = is_counted a && is_counted b
  is_counted (loop t) = is_counted t
  is_counted (count i done t) = nat_le done most_turns && is_counted t
  is_counted (any cs) = are_counted cs
  is_counted (pri a b) = is_counted a && is_counted b
  is_counted (par a b) = is_counted a && is_counted b
  is_counted (assert c t) = is_counted t
  is_counted (exist x v t) = is_counted t
  is_counted (catch z t h) = is_counted t && is_counted h
  is_counted (try t h) = is_counted t && is_counted h

  pub are_counted : {C : Type 0} → Choices C → Bool
  are_counted no_choice = true
  are_counted (choice w t cs) = is_counted t && are_counted cs

-- whether a rule names an instant among so many, and its loops have few enough turns done
abbrev pub is_sound : ℕ → Waiting → Bool
is_sound before (wait.Seq b) = is_counted (process b.now.value)
is_sound before (wait.Turn t) = true
is_sound before (wait.Again i done t) = nat_le done most_turns
is_sound before (wait.Par b) = is_counted (process b.now.value)
is_sound before (wait.Joined i) = nat_lt i before
is_sound before (wait.Assert c) = true
is_sound before (wait.Exist x v) = true
is_sound before (wait.Catch z h) = is_counted (process h.now.value)
is_sound before (wait.Try h) = true

-- whether an instant is made of ones among so many
abbrev pub is_made_before : ℕ → Made → Bool
is_made_before before (made.Con c) = true
is_made_before before (made.Under inner r) = nat_lt inner before && is_sound before r

-- whether each is made of earlier ones, where so many stand before the first
abbrev pub are_made : ℕ → List Made → Bool
are_made before [] = true
are_made before (m ∷ ms) = is_made_before before m && are_made (suc before) ms

-- whether each link leads to an earlier number, where so many stand before the first
abbrev pub are_linked : ℕ → List Link → Bool
are_linked before [] = true
are_linked before (l ∷ ls) = nat_lt l.outer before && are_linked (suc before) ls
