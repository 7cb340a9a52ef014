-- What the proofs of other crates may cite of this one.
use Rattle.std.specs.Prelude.{ℕ, ◌+◌, ◌≤◌, Bool, IsTrue, List, length, ℤ}
use Rattle.lt_linear.specs.Form.{Term}
use Rattle.lt_linear.specs.Order.{are_in_order}
use Rattle.lt_linear.proofs.Ordered as ordered

-- terms in order are at most as many as their variables
pub few_terms : (test : ℤ → Bool) (n below : ℕ) (ts : List Term) → IsTrue (are_in_order test n below ts) → length ts + n ≤ below
few_terms = ordered.few_terms
