-- What follows a term, one leaf after another.
use Rattle.std.proofs.Common.{◌≡◌, ◌∙◌, ◌<◌, ◌^◌, ◌+◌, ℕ, false, List, [], ◌∷◌, ◌++◌, ap, arith, append-nil, get_or, length, nat_lt, slice_get, sym, take}
use Rattle.std.proofs.lemmas.Bool.Decides.{nat_tests}
use Rattle.std.proofs.lemmas.Grind.{flat_map-append}
use Rattle.std.proofs.lemmas.List.{take_more}
use Rattle.lt_num.specs.declared.value.Value.{Value}
use Rattle.lt_term.specs.Process.{Process}
use Rattle.lt_term.specs.Limits.{most_tree_nodes}
use Rattle.lt_term.specs.Tree.{Node}
use Rattle.lt_check.specs.inner.Followers.{next_by, nexts_by}
use Rattle.lt_check.specs.inner.Terms.{with_each}
use Rattle.lt_check.proofs.Sets.{each_each}

-- what isn't over the limit of trees is few
pub are_few : (n : ℕ) → nat_lt most_tree_nodes n ≡ false → n < 2 ^ 32
are_few n small = grind (arith, nat_tests)

module _ (locals : List Value) (nodes : List (Node ℕ (Process ℕ))) (old : List (Process ℕ)) (leaves : List ℕ) where
  -- the terms that come after one leaf more
  pub next_more : (i : ℕ) (now new : List (Process ℕ)) → i < length leaves → now ≡ with_each old (nexts_by locals nodes (take i leaves))
      → new ≡ with_each now (next_by locals (slice_get nodes (get_or leaves i 0))) → new ≡ with_each old (nexts_by locals nodes (take (i + 1) leaves))
  next_more i now new l so e =
      let f : ℕ → List (Process ℕ) = λ k. next_by locals (slice_get nodes k) in
      let leaf : ℕ = get_or leaves i 0 in
      e
      ∙ ap (λ ts. with_each ts (f leaf)) so
      ∙ each_each old (nexts_by locals nodes (take i leaves)) (f leaf)
      ∙ ap (with_each old) (ap (λ ts. nexts_by locals nodes (take i leaves) ++ ts) (sym (append-nil (f leaf))) ∙ sym (flat_map-append f (take i leaves) (leaf ∷ [])))
      ∙ ap (λ ks. with_each old (nexts_by locals nodes ks)) (sym (take_more leaves i 0 l))
