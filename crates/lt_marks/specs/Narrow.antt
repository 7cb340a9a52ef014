-- Choices by weight have few parts.
use Rattle.std.specs.Prelude.{◌≡◌, ◌≤◌, ℕ, List, length}
use Rattle.lt_num.specs.declared.kind.Kind.{Kind}
use Rattle.lt_term.specs.Offers.{TermTree, offers_of}
use Rattle.lt_term.specs.Process.{Process, eps, dead, con, raise, seq, loop, count, any, pri, par, assert, exist, catch, try, Choices, no_choice, choice}
use Rattle.lt_term.specs.Subterms.{alternatives}
use Rattle.lt_term.specs.Tree.{Lasts, Weight}
use Rattle.lt_marks.specs.Path.{at_weighted, at_path}
use Rattle.lt_marks.specs.View.{body, standing}
use Rattle.lt_marks.specs.declared.track.Track.{Track}

-- no choice of a term has more than 64 alternatives
abbrev mutual
  pub IsNarrow : {C : Type 0} → Process C → Type 0
  IsNarrow eps = Unit {0}
  IsNarrow dead = Unit {0}
  IsNarrow (con c) = Unit {0}
  IsNarrow (raise z) = Unit {0}
  IsNarrow (seq a b) = IsNarrow a × IsNarrow b
  IsNarrow (loop t) = IsNarrow t
  IsNarrow (count i done t) = IsNarrow t
  IsNarrow (any cs) = (alternatives cs ≤ 64) × AreNarrow cs
  IsNarrow (pri a b) = IsNarrow a × IsNarrow b
  IsNarrow (par a b) = IsNarrow a × IsNarrow b
  IsNarrow (assert c t) = IsNarrow t
  IsNarrow (exist x v t) = IsNarrow t
  IsNarrow (catch z t h) = IsNarrow t × IsNarrow h
  IsNarrow (try t h) = IsNarrow t × IsNarrow h

  pub AreNarrow : {C : Type 0} → Choices C → Type 0
  AreNarrow no_choice = Unit {0}
  AreNarrow (choice w t cs) = IsNarrow t × AreNarrow cs

-- no choice of a tree has more than 64 parts
abbrev pub HasNarrowChoices : TermTree ℕ → Type 0
HasNarrowChoices u = (path : List ℕ) (ls : Lasts) (ws : List (Weight ℕ)) →
    at_path u path ≡ at_weighted ls ws → length ws ≤ 64

-- What is still to be done in a body without greater choices offers none.
abbrev pub ChoicesStayNarrow : Type 0
ChoicesStayNarrow = (kinds : List Kind) (t : Track) → IsNarrow (body t) →
    HasNarrowChoices (offers_of kinds (standing t))
