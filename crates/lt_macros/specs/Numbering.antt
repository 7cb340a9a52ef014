-- Each local and each counter of an expansion has a number of its own: in preorder they are 0, 1, 2 and so on.
use Rattle.std.specs.Prelude.{◌≡◌, ℕ, suc, List, [], ◌∷◌, ◌++◌, length}
use Rattle.std.specs.declared.option.Option.{Option}
use Rattle.std.specs.declared.option.Option.TheVariants.{Some}
use Rattle.lt_ast.specs.Syntax.{Declaration}
use Rattle.lt_macros.specs.Expanded.{Expanded, eps, dead, con, raise, seq, loop, count, any, pri, par, assert, exist, catch, try, Parts, no_part, part, Node}
use Rattle.lt_macros.specs.Expansion.{expanded_node}
use Rattle.lt_macros.specs.Preorder.{locals_in, counters_in}

-- the numbers of a trace's locals, in preorder
abbrev mutual
  pub local_numbers : Expanded → List ℕ
  local_numbers eps = []
  local_numbers dead = []
  local_numbers (con e) = []
  local_numbers (raise z) = []
  local_numbers (seq x y) = local_numbers x ++ local_numbers y
  local_numbers (loop x) = local_numbers x
  local_numbers (count i b x) = local_numbers x
  local_numbers (any ps) = local_numbers_in ps
  local_numbers (pri x y) = local_numbers x ++ local_numbers y
  local_numbers (par x y) = local_numbers x ++ local_numbers y
  local_numbers (assert e x) = local_numbers x
  local_numbers (exist i d x) = i ∷ local_numbers x
  local_numbers (catch z x h) = local_numbers x ++ local_numbers h
  local_numbers (try x h) = local_numbers x ++ local_numbers h

  pub local_numbers_in : Parts → List ℕ
  local_numbers_in no_part = []
  local_numbers_in (part w x ps) = local_numbers x ++ local_numbers_in ps

-- the numbers of its counters
abbrev mutual
  pub counter_numbers : Expanded → List ℕ
  counter_numbers eps = []
  counter_numbers dead = []
  counter_numbers (con e) = []
  counter_numbers (raise z) = []
  counter_numbers (seq x y) = counter_numbers x ++ counter_numbers y
  counter_numbers (loop x) = counter_numbers x
  counter_numbers (count i b x) = i ∷ counter_numbers x
  counter_numbers (any ps) = counter_numbers_in ps
  counter_numbers (pri x y) = counter_numbers x ++ counter_numbers y
  counter_numbers (par x y) = counter_numbers x ++ counter_numbers y
  counter_numbers (assert e x) = counter_numbers x
  counter_numbers (exist i d x) = counter_numbers x
  counter_numbers (catch z x h) = counter_numbers x ++ counter_numbers h
  counter_numbers (try x h) = counter_numbers x ++ counter_numbers h

  pub counter_numbers_in : Parts → List ℕ
  counter_numbers_in no_part = []
  counter_numbers_in (part w x ps) = counter_numbers x ++ counter_numbers_in ps

-- Numbers follow one another from this one up to that one.
abbrev pub Follow : ℕ → List ℕ → ℕ → Type 0
Follow i [] j = i ≡ j
Follow i (k ∷ ks) j = (k ≡ i) × Follow (suc i) ks j

-- The locals of a node have the numbers from 0 on, and so have its counters.
pub record IsNumbered (node : Node) : Type 0 where
  pub locals : Follow 0 (local_numbers node.body) (length (locals_in node))
  pub counters : Follow 0 (counter_numbers node.body) (length (counters_in node))

-- So it is in what each node stands for.
abbrev pub PartsAreNumbered : Type 0
PartsAreNumbered = (decimals : ℕ) (wanted : Option (List ℕ)) (ds : List Declaration) (node : Node) → expanded_node decimals wanted ds ≡ Some node → IsNumbered node
