-- Cells of a square list, by row and column.
use Rattle.std.proofs.Common.{◌≡◌, ◌≢◌, ℕ, ◌+◌, ◌*◌, ◌<◌, ◌≤◌, ◌⊎◌, inl, inr, List, length, get_or, set, ℤ, pos, ◌+ℤ◌, ◌≤ℤ◌, ◌<ℤ◌, refl, ap, sym, ◌∙◌, subst, arith}
use Rattle.std.proofs.lemmas.Int.{ints}
use Rattle.std.proofs.lemmas.Bool.{cases_eq, cases_order}
use Rattle.std.proofs.lemmas.Nat.{mul-add-lt}
use Rattle.std.proofs.Math.Nat.{mul_comm}
use Rattle.std.proofs.lemmas.List.{get_or-set_same, get_or-set_other}
use Rattle.std.specs.Int.{int_min}
use Rattle.lt_diff.specs.Bounds.{IsBounded, cell_of, no_bound}
use Rattle.lt_diff.specs.inner.Pivots.{IsRelaxed}

-- a cell is one of the list
pub cell_in : (n a b : ℕ) → a < n → b < n → a * n + b < n * n
cell_in n a b ha hb = mul-add-lt a n b n ha hb

-- two cells are different places
apart : (n a b i j : ℕ) → b < n → j < n → (a ≢ i) ⊎ (b ≢ j) → a * n + b ≢ i * n + j
apart n a b i j hb hj d e = elim (cases_order a i) [
  | inl same ↦ elim d [ inl ne ↦ ne same | inr ne ↦ absurd (let m : a * n ≡ i * n = ap (λ x. x * n) same in omega (arith, ne)) ]
  | inr o ↦ elim o [
    | inl less ↦ (let h = mul-add-lt a n b i less hb in let m : n * i ≡ i * n = mul_comm n i in omega arith)
    | inr more ↦ (let h = mul-add-lt i n j a more hj in let m : n * a ≡ a * n = mul_comm n a in omega arith)
  ]
]

pub cell_written : (n : ℕ) (xs : List ℤ) (i j : ℕ) (v : ℤ) → length xs ≡ n * n → i < n → j < n → cell_of n (set xs (i * n + j) v) i j ≡ v
cell_written n xs i j v l hi hj = let h = cell_in n i j hi hj in get_or-set_same xs (i * n + j) v (pos 0) (omega (arith, l, h))

pub cell_left : (n : ℕ) (xs : List ℤ) (i j : ℕ) (v : ℤ) (a b : ℕ) → b < n → j < n → (a ≢ i) ⊎ (b ≢ j) → cell_of n (set xs (i * n + j) v) a b ≡ cell_of n xs a b
cell_left n xs i j v a b hb hj d = get_or-set_other xs (i * n + j) (a * n + b) v (pos 0) (apart n a b i j hb hj d)

-- the cells of a row before a column are relaxed by way of k
abbrev pub AreRelaxed : ℕ → ℕ → ℕ → (ℕ → ℕ → ℤ) → (ℕ → ℕ → ℤ) → Type 0
AreRelaxed row k j old now = (b : ℕ) → b < j → IsRelaxed (old row b) (old row k) (old k b) (now row b)

-- the other cells are as they were
abbrev pub AreLeft : ℕ → ℕ → ℕ → (ℕ → ℕ → ℤ) → (ℕ → ℕ → ℤ) → Type 0
AreLeft n row j old now = (a b : ℕ) → b < n → (a ≢ row) ⊎ (j ≤ b) → now a b ≡ old a b

-- one cell more is relaxed
pub relaxed_more : (n row k j : ℕ) (old now new : ℕ → ℕ → ℤ) → j < n → AreRelaxed row k j old now → AreLeft n row j old now
    → ((a b : ℕ) → b < n → (a ≢ row) ⊎ (b ≢ j) → new a b ≡ now a b) → IsRelaxed (old row j) (old row k) (old k j) (new row j)
    → AreRelaxed row k (j + 1) old new × AreLeft n row (j + 1) old new
relaxed_more n row k j old now new hj done left same at = (
  (λ b hb. elim (cases_eq b j) [
    | inl e ↦ subst (λ (c : ℕ). IsRelaxed (old row c) (old row k) (old k c) (new row c)) (sym e) at
    | inr ne ↦
        let h : b < j = omega (arith, hb, ne) in
        subst (λ (v : ℤ). IsRelaxed (old row b) (old row k) (old k b) v) (sym (same row b (omega (arith, h, hj)) (inr ne))) (done b h)
  ]),
  (λ a b hb d. elim d [
    | inl ne ↦ same a b hb (inl ne) ∙ left a b hb (inl ne)
    | inr le ↦
        let h : j < b = omega (arith, le) in
        same a b hb (inr (λ e. omega (arith, e, h))) ∙ left a b hb (inr (omega (arith, h)))
  ]),
)

-- the rows before a row are relaxed by way of k
abbrev pub AreRowsRelaxed : ℕ → ℕ → ℕ → (ℕ → ℕ → ℤ) → (ℕ → ℕ → ℤ) → Type 0
AreRowsRelaxed n k i old now = (a b : ℕ) → a < i → b < n → IsRelaxed (old a b) (old a k) (old k b) (now a b)

-- the other rows, and that of k, are as they were
abbrev pub AreRowsLeft : ℕ → ℕ → ℕ → (ℕ → ℕ → ℤ) → (ℕ → ℕ → ℤ) → Type 0
AreRowsLeft n k i old now = (a b : ℕ) → b < n → (a ≡ k) ⊎ (i ≤ a) → now a b ≡ old a b

-- one row more is relaxed
pub rows_more : (n k i : ℕ) (old now new : ℕ → ℕ → ℤ) → AreRowsRelaxed n k i old now → AreRowsLeft n k i old now
    → ((a b : ℕ) → b < n → a ≢ i → new a b ≡ now a b) → ((b : ℕ) → b < n → i ≡ k → new i b ≡ now i b)
    → ((b : ℕ) → b < n → IsRelaxed (old i b) (old i k) (old k b) (new i b))
    → AreRowsRelaxed n k (i + 1) old new × AreRowsLeft n k (i + 1) old new
rows_more n k i old now new done left same kept at = (
  (λ a b ha hb. elim (cases_eq a i) [
    | inl e ↦ subst (λ (c : ℕ). IsRelaxed (old c b) (old c k) (old k b) (new c b)) (sym e) (at b hb)
    | inr ne ↦ subst (λ (v : ℤ). IsRelaxed (old a b) (old a k) (old k b) v) (sym (same a b hb ne)) (done a b (omega (arith, ha, ne)) hb)
  ]),
  (λ a b hb d. elim (cases_eq a i) [
    | inl e ↦ elim d [
      | inl is ↦ subst (λ (c : ℕ). new c b ≡ now c b) (sym e) (kept b hb (sym e ∙ is)) ∙ left a b hb (inl is)
      | inr le ↦ absurd (omega (arith, e, le))
    ]
    | inr ne ↦ same a b hb ne ∙ left a b hb (elim d [ inl is ↦ inl is | inr le ↦ inr (omega (arith, le)) ])
  ]),
)

-- the row of the pivot is relaxed as it stands
pub pivot_relaxed : (x y : ℤ) → pos 0 ≤ℤ x → IsRelaxed y x y y
pivot_relaxed x y h = (omega (arith, ints), (λ f g. omega (arith, ints)), inl refl)

-- a cell takes the sum, which is less
pub sum_taken : (old x y : ℤ) → x ≢ no_bound → y ≢ no_bound → (x +ℤ y) <ℤ old → IsRelaxed old x y (x +ℤ y)
sum_taken old x y f g h = (omega (arith, ints), (λ f g. omega (arith, ints)), inr (f, g, refl, h))

-- a cell stays where there is no less sum
pub sum_left : (old x y : ℤ) → (x ≢ no_bound → y ≢ no_bound → old ≤ℤ (x +ℤ y)) → IsRelaxed old x y old
sum_left old x y h = (omega (arith, ints), h, inl refl)

-- the same of equal numbers
pub relaxed_same : (c d x v y w new : ℤ) → c ≡ d → x ≡ v → y ≡ w → IsRelaxed c x y new → IsRelaxed d v w new
relaxed_same c d x v y w new ec ex ey h =
    subst (λ (z : ℤ). IsRelaxed d v z new) ey (subst (λ (z : ℤ). IsRelaxed d z y new) ex (subst (λ (z : ℤ). IsRelaxed z x y new) ec h))

-- one turn of the loop over a row's cells
pub turn : (n row k j : ℕ) (old now : List ℤ) (v : ℤ) → length now ≡ n * n → row < n → k < n → row ≢ k → j < n
    → AreRelaxed row k j (cell_of n old) (cell_of n now) → AreLeft n row j (cell_of n old) (cell_of n now)
    → IsRelaxed (cell_of n now row j) (cell_of n old row k) (cell_of n now k j) v
    → AreRelaxed row k (j + 1) (cell_of n old) (cell_of n (set now (row * n + j) v)) × AreLeft n row (j + 1) (cell_of n old) (cell_of n (set now (row * n + j) v))
turn n row k j old now v l hr hk apart hj done left e =
    relaxed_more n row k j (cell_of n old) (cell_of n now) (cell_of n (set now (row * n + j) v)) hj done left
    (λ a b hb d. cell_left n now row j v a b hb hj d)
    (subst (λ (z : ℤ). IsRelaxed (cell_of n old row j) (cell_of n old row k) (cell_of n old k j) z) (sym (cell_written n now row j v l hr hj))
    (relaxed_same _ _ _ _ _ _ v (left row j hj (inr (omega arith))) refl (left k j hj (inl (λ h. apart (sym h)))) e))

-- a bound is written
pub bounded_written : (n : ℕ) (xs : List ℤ) (a b : ℕ) (v most : ℤ) → length xs ≡ n * n → a < n → b < n → v ≡ int_min (cell_of n xs a b) most → IsBounded n a b most (cell_of n xs) (cell_of n (set xs (a * n + b) v))
bounded_written n xs a b v most l ha hb e = (cell_written n xs a b v l ha hb ∙ e, (λ i j hj d. cell_left n xs a b v i j hj hb d))

-- one more cell of the diagonal is 0
pub diagonal_more : (n k : ℕ) (xs : List ℤ) → length xs ≡ n * n → k < n → ((a : ℕ) → a < k → cell_of n xs a a ≡ pos 0) → ((a b : ℕ) → a < n → b < n → a ≢ b → cell_of n xs a b ≡ no_bound)
    → ((a : ℕ) → a < k + 1 → cell_of n (set xs (k * n + k) (pos 0)) a a ≡ pos 0) × ((a b : ℕ) → a < n → b < n → a ≢ b → cell_of n (set xs (k * n + k) (pos 0)) a b ≡ no_bound)
diagonal_more n k xs l hk done left = (
  (λ a ha. elim (cases_eq a k) [
    | inl e ↦ subst (λ (r : ℕ). cell_of n (set xs (k * n + k) (pos 0)) r r ≡ pos 0) (sym e) (cell_written n xs k k (pos 0) l hk hk)
    | inr ne ↦
        let h : a < k = omega (arith, ha, ne) in
        cell_left n xs k k (pos 0) a a (omega (arith, h, hk)) hk (inl ne) ∙ done a h
  ]),
  (λ a b ha hb ne. cell_left n xs k k (pos 0) a b hb hk (elim (cases_eq a k) [ inl e ↦ inr (λ h. ne (e ∙ sym h)) | inr other ↦ inl other ]) ∙ left a b ha hb ne),
)

-- the first row's cells come first
pub first_row : (n : ℕ) (xs : List ℤ) (b : ℕ) → cell_of n xs 0 b ≡ get_or xs b (pos 0)
first_row n xs b = ap (λ i. get_or xs i (pos 0)) (omega arith)
