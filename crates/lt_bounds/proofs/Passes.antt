-- Rows one after another, and passes over them.
use Rattle.std.proofs.Common.{◌≡◌, ℕ, zero, suc, ◌+◌, ◌*◌, ◌/◌, ◌<◌, ◌≤◌, ◌^◌, List, [], ◌∷◌, ◌++◌, length, take, drop, ℤ, subst, refl, ap, sym, ◌∙◌, arith, length-append, length-drop}
use Rattle.std.proofs.lemmas.List.{drop-append-le, take-append-le, take_all}
use Rattle.std.proofs.lemmas.Nat.{div-mul-add}
use Rattle.lt_bounds.specs.Rows.{rows_from, rows_in, AreWholeRows, reach, ReachesAll}
use Rattle.lt_bounds.specs.Tightening.{Outcome, narrowed, and_then, row_taken, rows_taken, passes}
use Rattle.lt_num.specs.declared.interval.Interval.{Interval}

-- so many rows
count_is : (n k width : ℕ) → 0 < width → n ≡ k * width → n / width ≡ k
count_is n k width some e = ap (λ m. m / width) (let f : n ≡ k * width + 0 = omega arith in f) ∙ div-mul-add k width 0 some

-- the first row, and those after it
pub rows_more : (width : ℕ) (cells : List ℤ) (k : ℕ) → 0 < width → length cells ≡ suc k * width → rows_in width cells ≡ take width cells ∷ rows_in width (drop width cells)
rows_more width cells k some e =
    let rest : length (drop width cells) ≡ k * width = omega (arith, length-drop width cells) in
    ap (λ m. rows_from width m cells) (count_is (length cells) (suc k) width some e)
    ∙ ap (λ m. take width cells ∷ rows_from width m (drop width cells)) (sym (count_is (length (drop width cells)) k width some rest))

-- no cells are no rows
pub rows_none : (width : ℕ) (cells : List ℤ) → 0 < width → length cells ≡ 0 → rows_in width cells ≡ []
rows_none width cells some e = ap (λ m. rows_from width m cells) (count_is (length cells) 0 width some (omega arith))

-- cells that are there are one row at least
pub one_more : (cells : List ℤ) (count width : ℕ) → length cells ≡ count * width → 0 < length cells → (k : ℕ) × (count ≡ suc k)
one_more cells zero width e h = absurd (omega arith)
one_more cells (suc k) width e h = (k, refl)

-- so many rows, with one after them
rows_from_more : (width k : ℕ) (cells row : List ℤ) → length cells ≡ k * width → length row ≡ width → rows_from width (suc k) (cells ++ row) ≡ rows_from width k cells ++ row ∷ []
rows_from_more width zero [] row e f = ap (λ r. r ∷ []) (take_all width row (omega arith))
rows_from_more width zero (c ∷ cs) row e f = absurd (omega (arith, e))
rows_from_more width (suc k) cells row e f =
    let first : width ≤ length cells = omega arith in
    ap (λ r. r ∷ rows_from width (suc k) (drop width (cells ++ row))) (take-append-le width cells row first)
    ∙ ap (λ cs. take width cells ∷ rows_from width (suc k) cs) (drop-append-le width cells row first)
    ∙ ap (λ rs. take width cells ∷ rs) (rows_from_more width k (drop width cells) row (omega (arith, length-drop width cells)) f)

-- a row after others
pub rows_pushed : (width count : ℕ) (cells row : List ℤ) → 0 < width → length cells ≡ count * width → length row ≡ width → rows_in width (cells ++ row) ≡ rows_in width cells ++ row ∷ []
rows_pushed width count cells row some e f =
    let more : length (cells ++ row) ≡ suc count * width = omega (arith, length-append cells row) in
    ap (λ m. rows_from width m (cells ++ row)) (count_is (length (cells ++ row)) (suc count) width some more)
    ∙ rows_from_more width count cells row e f
    ∙ ap (λ m. rows_from width m cells ++ row ∷ []) (sym (count_is (length cells) count width some e))

-- a pass that changes nothing is followed by others that change nothing
pub passes_kept : (more : ℕ) (rows : List (List ℤ)) (ranges : List Interval) → rows_taken rows ranges ≡ narrowed ranges → passes more rows ranges ≡ narrowed ranges
unfolding passes
passes_kept zero rows ranges e = refl
passes_kept (suc more) rows ranges e = ap (λ o. and_then o (passes more rows)) e ∙ passes_kept more rows ranges e

-- one pass, and those after it
pub passes_more : (n more : ℕ) (rows : List (List ℤ)) (ranges : List Interval) (o : Outcome) → n ≡ suc more → rows_taken rows ranges ≡ o → passes n rows ranges ≡ and_then o (passes more rows)
unfolding passes
passes_more n more rows ranges o e h = ap (λ m. passes m rows ranges) e ∙ ap (λ o. and_then o (passes more rows)) h

pub passes_none : (n : ℕ) (rows : List (List ℤ)) (ranges : List Interval) → n ≡ 0 → passes n rows ranges ≡ narrowed ranges
unfolding passes
passes_none n rows ranges e = ap (λ m. passes m rows ranges) e

-- cells that are there begin with a row
pub in_row : (width : ℕ) (cells : List ℤ) (ranges : List Interval) → AreWholeRows width cells ranges → 0 < length cells → width ≤ length cells
in_row width cells ranges w h = by_count (one_more cells w.count width w.cells_are h)
  where
    by_count : (k : ℕ) × (w.count ≡ suc k) → width ≤ length cells
    by_count k = let e : length cells ≡ suc k.0 * width = w.cells_are ∙ ap (λ n. n * width) k.1 in omega arith

pub first_row : (width : ℕ) (cells : List ℤ) (ranges : List Interval) → AreWholeRows width cells ranges → 0 < length cells → rows_in width cells ≡ take width cells ∷ rows_in width (drop width cells)
first_row width cells ranges w h = by_count (one_more cells w.count width w.cells_are h)
  where
    by_count : (k : ℕ) × (w.count ≡ suc k) → rows_in width cells ≡ take width cells ∷ rows_in width (drop width cells)
    by_count k = let is = w.width_is in rows_more width cells k.0 (omega arith) (w.cells_are ∙ ap (λ n. n * width) k.1)

-- the cells after it are whole rows too
pub whole_rest : (width : ℕ) (cells after : List ℤ) (ranges new : List Interval) → AreWholeRows width cells ranges → 0 < length cells → after ≡ drop width cells → length new ≡ length ranges → AreWholeRows width after new
whole_rest width cells after ranges new w h a e = by_count (one_more cells w.count width w.cells_are h)
  where
    by_count : (k : ℕ) × (w.count ≡ suc k) → AreWholeRows width after new
    by_count k =
        let is = w.width_is in
        let all : length cells ≡ suc k.0 * width = w.cells_are ∙ ap (λ n. n * width) k.1 in
        record { width_is = omega arith; count = k.0; cells_are = ap length a ∙ omega (arith, length-drop width cells) }

-- one row is taken, and those after it are left
pub turn : (width : ℕ) (cells front after : List ℤ) (ranges : List Interval) (o whole : Outcome) → AreWholeRows width cells ranges → 0 < length cells → front ≡ take width cells → after ≡ drop width cells → o ≡ row_taken front ranges
    → whole ≡ rows_taken (rows_in width cells) ranges → whole ≡ and_then o (rows_taken (rows_in width after))
turn width cells front after ranges o whole w h f a is left =
    left ∙ ap (λ rows. rows_taken rows ranges) (first_row width cells ranges w h)
    ∙ ap (λ row. and_then (row_taken row ranges) (rows_taken (rows_in width (drop width cells)))) (sym f)
    ∙ ap (λ cs. and_then (row_taken front ranges) (rows_taken (rows_in width cs))) (sym a)
    ∙ ap (λ z. and_then z (rows_taken (rows_in width after))) (sym is)

-- how far the first row reaches, and those after it
pub reach_first : (width : ℕ) (cells front after : List ℤ) (ranges : List Interval) → AreWholeRows width cells ranges → 0 < length cells → front ≡ take width cells → after ≡ drop width cells → ReachesAll (rows_in width cells) ranges
    → (reach front ranges < 2 ^ 126) × ReachesAll (rows_in width after) ranges
reach_first width cells front after ranges w h f a r =
    let P : List (List ℤ) → Type 0 = λ rows. ReachesAll rows ranges in
    let both : (reach (take width cells) ranges < 2 ^ 126) × ReachesAll (rows_in width (drop width cells)) ranges = subst P (first_row width cells ranges w h) r in
    rw (f, a) both

-- all rows were taken
pub ended : (width : ℕ) (cells : List ℤ) (ranges : List Interval) (whole : Outcome) → AreWholeRows width cells ranges → length cells ≡ 0 → whole ≡ rows_taken (rows_in width cells) ranges → whole ≡ narrowed ranges
ended width cells ranges whole w e left = let is = w.width_is in left ∙ ap (λ rows. rows_taken rows ranges) (rows_none width cells (omega arith) e)

-- rows are whole over as many other ranges
pub whole_same : (width : ℕ) (cells : List ℤ) (ranges new : List Interval) → AreWholeRows width cells ranges → length new ≡ length ranges → AreWholeRows width cells new
whole_same width cells ranges new w e = let is = w.width_is in record { width_is = omega arith; count = w.count; cells_are = w.cells_are }
