-- Products of whole numbers, and sums.
use Rattle.std.proofs.Common.{◌≡◌, zero, suc, ℤ, pos, negsuc, ◌+ℤ◌, ◌-ℤ◌, ◌*ℤ◌, ap, ◌∙◌, arith}
use Rattle.std.proofs.Math.IntN.{*ℤ_comm, suc_ℤ-*ℤ, pred_ℤ-*ℤ, zero-*ℤ}
use Rattle.std.proofs.lemmas.Int.{ints}

pub times_sum : (m k l : ℤ) → m *ℤ (k +ℤ l) ≡ m *ℤ k +ℤ m *ℤ l
times_sum (pos zero) k l = zero-*ℤ (k +ℤ l) ∙ omega (arith, ints, zero-*ℤ k, zero-*ℤ l)
times_sum (pos (suc n)) k l =
    let all = suc_ℤ-*ℤ (pos n) (k +ℤ l) in
    let left = suc_ℤ-*ℤ (pos n) k in
    let right = suc_ℤ-*ℤ (pos n) l in
    let less = times_sum (pos n) k l in
    omega (arith, ints, all, left, right, less)
times_sum (negsuc zero) k l =
    let all = pred_ℤ-*ℤ (pos zero) (k +ℤ l) in
    let left = pred_ℤ-*ℤ (pos zero) k in
    let right = pred_ℤ-*ℤ (pos zero) l in
    omega (arith, ints, all, left, right, zero-*ℤ (k +ℤ l), zero-*ℤ k, zero-*ℤ l)
times_sum (negsuc (suc n)) k l =
    let all = pred_ℤ-*ℤ (negsuc n) (k +ℤ l) in
    let left = pred_ℤ-*ℤ (negsuc n) k in
    let right = pred_ℤ-*ℤ (negsuc n) l in
    let less = times_sum (negsuc n) k l in
    omega (arith, ints, all, left, right, less)

pub times_difference : (m k l : ℤ) → m *ℤ (k -ℤ l) ≡ m *ℤ k -ℤ m *ℤ l
times_difference m k l =
    let parts : k ≡ (k -ℤ l) +ℤ l = omega (arith, ints) in
    let all = ap (λ (z : ℤ). m *ℤ z) parts ∙ times_sum m (k -ℤ l) l in
    omega (arith, ints, all)

pub sum_times : (k l m : ℤ) → (k +ℤ l) *ℤ m ≡ k *ℤ m +ℤ l *ℤ m
sum_times k l m = *ℤ_comm (k +ℤ l) m ∙ times_sum m k l ∙ (λ i. *ℤ_comm m k i +ℤ *ℤ_comm m l i)

pub difference_times : (k l m : ℤ) → (k -ℤ l) *ℤ m ≡ k *ℤ m -ℤ l *ℤ m
difference_times k l m = *ℤ_comm (k -ℤ l) m ∙ times_difference m k l ∙ (λ i. *ℤ_comm m k i -ℤ *ℤ_comm m l i)
