-- What a tree has to be before its expressions and exceptions are put by number: all that it names is there.
use Rattle.std.specs.Prelude.{◌≡◌, ◌<◌, ◌≤◌, ◌^◌, ℕ, List, [], length}
use Rattle.lt_num.specs.Value.{raw_of, value_of}
use Rattle.lt_formula.specs.Domain.{IsDomain}
use Rattle.lt_formula.specs.Kinds.{Kinds, kinds_of_role}
use Rattle.lt_macros.specs.Placed as p
use Rattle.lt_macros.specs.Placed.{Placed}
use Rattle.lt_macros.specs.Expanded.{Declared, Exception, Expanded, eps, dead, con, raise, seq, loop, count, any, pri, par, assert, exist, catch, try, Parts, no_part, part}
use Rattle.lt_macros.specs.Preorder.{Item, term}
use Rattle.lt_expand.specs.Exceptions.{number_in}
use Rattle.lt_expand.specs.Static.{bad_bounds, bad_first}

-- An expression's variables are among those of these kinds, and its constants are values of their kinds.
abbrev pub IsReady : Kinds → Placed → Type 0
IsReady ks (p.constant k v at) = value_of k (raw_of v) ≡ v
IsReady ks (p.variable r i at) = i < length (kinds_of_role ks r)
IsReady ks (p.previous r i at) = i < length (kinds_of_role ks r)
IsReady ks (p.unary op e at) = IsReady ks e
IsReady ks (p.binary op d e at) = IsReady ks d × IsReady ks e
IsReady ks (p.choice c d e at) = IsReady ks c × (IsReady ks d × IsReady ks e)

-- An exception is one of these, and its number is one of 32 bits.
pub record IsKnown (zs : List Exception) (z : Exception) : Type 0 where
  pub there : number_in zs z < length zs
  pub few : length zs ≤ 2 ^ 32

-- The constraints and weights of a trace are ready, and its exceptions are among these.
abbrev mutual
  pub AreReady : Kinds → List Exception → Expanded → Type 0
  AreReady ks zs eps = Unit {0}
  AreReady ks zs dead = Unit {0}
  AreReady ks zs (con e) = IsReady ks e
  AreReady ks zs (raise z) = IsKnown zs z
  AreReady ks zs (seq x y) = AreReady ks zs x × AreReady ks zs y
  AreReady ks zs (loop x) = AreReady ks zs x
  AreReady ks zs (count i b x) = AreReady ks zs x
  AreReady ks zs (any ps) = AreEachReady ks zs ps
  AreReady ks zs (pri x y) = AreReady ks zs x × AreReady ks zs y
  AreReady ks zs (par x y) = AreReady ks zs x × AreReady ks zs y
  AreReady ks zs (assert e x) = IsReady ks e × AreReady ks zs x
  AreReady ks zs (exist i d x) = AreReady ks zs x
  AreReady ks zs (catch z x h) = IsKnown zs z × (AreReady ks zs x × AreReady ks zs h)
  AreReady ks zs (try x h) = AreReady ks zs x × AreReady ks zs h

  pub AreEachReady : Kinds → List Exception → Parts → Type 0
  AreEachReady ks zs no_part = Unit {0}
  AreEachReady ks zs (part w x ps) = IsReady ks w × (AreReady ks zs x × AreEachReady ks zs ps)

-- A variable's range is one of its kind, and its first value is one of its values.
pub record IsFine (decimals : ℕ) (d : Declared) : Type 0 where
  pub domain : IsDomain d.kind d.range
  pub first : bad_first decimals d ≡ []

-- So is the local that a part declares, and the bounds of its counter may stand there.
abbrev pub IsFinePart : ℕ → Item → Type 0
IsFinePart decimals (term (count i b x)) = bad_bounds decimals b ≡ []
IsFinePart decimals (term (exist i d x)) = IsFine decimals d
IsFinePart decimals other = Unit {0}
