-- How many decimals a real has is the same at each place of a text.
use Rattle.std.proofs.Common.{◌≡◌, ℕ, Bool, true, false, nat_le, List, [], ◌∷◌, length, if◌then◌else◌, refl}
use Rattle.lt_macros.specs.Environment.{Environment}
use Rattle.lt_macros.specs.inner.Reading.{Reading, added, environment}
use Rattle.lt_macros.specs.declared.scope.Entry.{Entry}
use Rattle.lt_macros.specs.declared.scope.Binding.{Binding as CodeBinding}
use Rattle.lt_macros.specs.declared.scope.Binding.TheVariants.{Variable, Argument, Parameter, Macro, Exception}

added-decimals : {S : Type 0} (r : Reading S) (at : ℕ → Environment S) (name : List ℕ) (outer : ℕ) (x : CodeBinding) → ((k : ℕ) → (at k).decimals ≡ r.decimals) → (added r at name outer x).decimals ≡ r.decimals
added-decimals r at name outer (Variable role place) h = h outer
added-decimals r at name outer (Argument p k) h = h outer
added-decimals r at name outer (Parameter i) h = h outer
added-decimals r at name outer (Macro m x) h = h outer
added-decimals r at name outer (Exception place before) h = h outer

chosen-decimals : {S : Type 0} (n : ℕ) (b : Bool) (x y : Environment S) → x.decimals ≡ n → y.decimals ≡ n → (if b then x else y).decimals ≡ n
chosen-decimals n true x y h k = h
chosen-decimals n false x y h k = k

pub decimals_same : {S : Type 0} (r : Reading S) (rows : List Entry) (k : ℕ) → (environment r rows k).decimals ≡ r.decimals
decimals_same r [] k = refl
decimals_same r (e ∷ older) k =
    chosen-decimals r.decimals (nat_le k (length older)) (environment r older k) (added r (environment r older) e.name.now e.outer e.binding) (decimals_same r older k) (added-decimals r (environment r older) e.name.now e.outer e.binding (decimals_same r older))
