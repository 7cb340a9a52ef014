-- The numbers of exceptions, which are given once the whole trace is known: those that are raised come in the order of their
-- first `raise` in preorder, and behind them those that are only caught, in the order of their first `catch`.
use Rattle.std.specs.Prelude.{ℕ, suc, nat_eq, Bool, ◌&&◌, List, [], ◌∷◌, ◌++◌, map, if◌then◌else◌}
use Rattle.std.specs.List.{flat_map, list_any}
use Rattle.lt_macros.specs.Expanded.{Exception, Expanded}
use Rattle.lt_macros.specs.Preorder.{items, raised_at, caught_at}

-- two are one declaration of the expansion
abbrev pub same_exception : Exception → Exception → Bool
same_exception z y = nat_eq z.place y.place && nat_eq z.terms_before y.terms_before

-- those behind these ones that don't stand before, each once
abbrev pub added : List Exception → List Exception → List Exception
added before [] = []
added before (z ∷ zs) = if list_any (same_exception z) before then added before zs else z ∷ added (z ∷ before) zs

-- the exceptions of a trace, in the order of their numbers
abbrev pub numbered : Expanded → List Exception
numbered x = added [] (flat_map raised_at (items x) ++ flat_map caught_at (items x))

-- the number of an exception, where they have this order
abbrev pub number_in : List Exception → Exception → ℕ
number_in [] z = 0
number_in (y ∷ ys) z = if same_exception y z then 0 else suc (number_in ys z)

-- the names of exceptions
abbrev pub exception_names : List Exception → List (List ℕ)
exception_names zs = map (λ z. z.name) zs
