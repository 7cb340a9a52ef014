-- Pieces of what is still to come.
use Rattle.std.proofs.Common.{◌≡◌, ℕ, ◌<◌, ◌≤◌, ◌+◌, List, [], ◌++◌, length, take, drop, min, arith, ap, sym, ◌∙◌}
use Rattle.std.proofs.lemmas.List.{take-append-drop, drop-drop, take-append-le, take_all, length-take-le}
use Rattle.std.proofs.Math.ListN.{drop_of_length-le}

-- one cut more is used
pub drop_one_more : (xs : List ℕ) (n : ℕ) → drop (n + 1) xs ≡ drop 1 (drop n xs)
drop_one_more xs n = sym (drop-drop 1 n xs)

-- the bytes of a piece are taken from what is left
pub piece_taken : (left into : List ℕ) (n : ℕ) → n ≤ length left → left ≡ take n (take n left ++ drop n into) ++ drop n left
piece_taken left into n h =
    let whole : length (take n left) ≡ n = length-take-le n left h in
    let prefix : take n (take n left ++ drop n into) ≡ take n left = take-append-le n (take n left) (drop n into) (omega (arith, whole)) ∙ take_all n (take n left) (omega (arith, whole)) in
    sym (ap (λ t. t ++ drop n left) prefix ∙ take-append-drop n left)

-- an empty piece comes at the end alone
pub none_left : (left : List ℕ) (most n : ℕ) → n ≡ min most (length left) → 0 < most → n ≡ 0 → drop n left ≡ []
none_left left most n e h z = drop_of_length-le left (omega arith)
