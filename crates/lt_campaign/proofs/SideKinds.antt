-- The sides of sessions stay of their kinds.
use Rattle.std.proofs.Common.{◌≡◌, ◌<◌, ℕ, zero, suc, List, [], ◌∷◌, length, set, get_or, subst, sym, arith}
use Rattle.lt_loop.specs.InputSource.{InputSource}
use Rattle.lt_campaign.specs.RunView.{AllHaveKinds, HasKinds}
use Rattle.lt_campaign.specs.declared.session.Session as sessions

-- where a session keeps its kinds, all do
pub kinds_set : {M L : _} {b : _} (c o : InputSource) (xs : List (sessions.Session M L b)) (n : ℕ) (x y : sessions.Session M L b) → n < length xs → x ≡ get_or xs n x → (HasKinds c o x → HasKinds c o y) → AllHaveKinds c o xs → AllHaveKinds c o (set xs n y)
kinds_set c o [] n x y at is keeps all = absurd (omega (arith, at))
kinds_set c o (s ∷ ss) zero x y at is keeps all = (keeps (subst (HasKinds c o) (sym is) all.0), all.1)
kinds_set c o (s ∷ ss) (suc n) x y at is keeps all = (all.0, kinds_set c o ss n x y (omega (arith, at)) is keeps all.1)
