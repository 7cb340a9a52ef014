-- Keys of terms.
use Rattle.std.proofs.Common.{◌≡◌, ℕ, Bool, true}
use Rattle.std.specs.Bool.{Decides}
use Rattle.std.specs.Cmp.{IsEquivalence, IsPartialEquivalence, decided, on_equiv, partial_equiv_from_equiv}
use Rattle.std.specs.Hash.{Alike, on_Alike, same_Alike, u64}
use Rattle.lt_term.specs.Process.{Process}
use Rattle.lt_term.specs.View.{process}
use Rattle.lt_term.specs.declared.term.Term.{Term}
use Rattle.lt_same_term.specs.Alike.{alike}
use Rattle.lt_same_term.specs.Hash.{hash_of}
use Rattle.lt_same_term.proofs.Alikes.{alike_is_same}

pub decides : (s t : Process ℕ) → Decides (alike s t) (s ≡ t)
decides s t = alike_is_same s t

pub alike_equiv : IsEquivalence alike
alike_equiv = decided alike decides

pub alike_fed : Alike alike (λ p. u64 (hash_of p))
alike_fed = same_Alike (λ p. u64 (hash_of p)) decides
