-- A reader of which no more than so many bytes are read.
use Rattle.std.proofs.Common.{◌≡◌, ◌<◌, ◌++◌, ℕ, List, [], length, take, None, Some, IfSome, option_map, ap, subst, ◌∙◌, arith}
use Rattle.std.proofs.lemmas.List.{length-take, take_all}
use Rattle.std.specs.Io.Take.{take_remaining}
use Rattle.std.specs.declared.io.traits.Take.{Take}
use Rattle.std.specs.declared.option.Option.{Option}

-- fewer bytes came than were asked for, so they are all
few_read : (left : Option (List ℕ)) (most : ℕ) (bytes : List ℕ) → IfSome (option_map (take most) left) (λ xs. bytes ≡ xs) → length bytes < most → IfSome left (λ xs. bytes ≡ xs)
few_read None most bytes is few = tt
few_read (Some xs) most bytes is few =
    let same : bytes ≡ take most xs = is in
    let sizes : length bytes ≡ length (take most xs) = ap length same in
    let short = length-take most xs in
    same ∙ take_all most xs (omega (arith, sizes, few, short))

-- there are as many at least as came
some_read : (X : Type 0) (left : Option (List ℕ)) (most size : ℕ) (bytes : List ℕ) → IfSome (option_map (take most) left) (λ xs. bytes ≡ xs) → size < length bytes → IfSome left (λ xs. X → size < length xs)
some_read X None most size bytes is long = tt
some_read X (Some xs) most size bytes is long =
    let same : bytes ≡ take most xs = is in
    let sizes : length bytes ≡ length (take most xs) = ap length same in
    let short = length-take most xs in
    λ _. omega (arith, sizes, long, short)

module _ {R : Type 0} (remaining : R → Option (List ℕ)) (t : Take R) (file : R) (old bytes : List ℕ) (inner : t.inner ≡ file) (none : old ≡ []) (is : IfSome (take_remaining remaining t) (λ xs. bytes ≡ old ++ xs)) where
  given : IfSome (option_map (take t.limit) (remaining file)) (λ xs. bytes ≡ xs)
  given =
      subst (λ (f : R). IfSome (option_map (take t.limit) (remaining f)) (λ xs. bytes ≡ xs)) inner
      (subst (λ (o : List ℕ). IfSome (take_remaining remaining t) (λ xs. bytes ≡ o ++ xs)) none is)

  -- all that a file has was read
  pub all_read : length bytes < t.limit → IfSome (remaining file) (λ xs. bytes ≡ xs)
  all_read few = few_read (remaining file) t.limit bytes given few

  -- it has more than so many
  pub more_left : (X : Type 0) (size : ℕ) → size < length bytes → IfSome (remaining file) (λ xs. X → size < length xs)
  more_left X size long = some_read X (remaining file) t.limit size bytes given long
