-- What memos keep.
use Rattle.std.proofs.Common.{◌≡◌, ℕ, zero, suc, ◌+◌, ◌<◌, ◌≤◌, Bool, true, false, IsTrue, List, [], ◌∷◌, ◌++◌, length, map, replicate, nat_eq, nat_le, Option, None, Some, Result, Ok, refl, ap, sym, ◌∙◌, subst, arith, length-append, if◌then◌else◌}
use Rattle.std.specs.Prelude.{slice_set}
use Rattle.std.proofs.lemmas.Bool.{leb-true}
use Rattle.std.proofs.lemmas.Bool.Decides.{nat_tests}
use Rattle.std.proofs.lemmas.List.{get_or_append_left}
use Rattle.std.proofs.Math.Seq.{get_or-append_seam}
use Rattle.lt_num.specs.declared.fault.Arith.{Arith}
use Rattle.lt_space.specs.inner.Kept.{AreKept, Grows, Stands, are_free, is_free, number_at, unkept}
use Rattle.lt_space.specs.inner.Cell.{are_past, number_in}
use Rattle.lt_space.specs.declared.memo.Cell.{Cell}
use Rattle.lt_space.proofs.Circuits.{both, left_of, le_true, right_of}

-- Numbers.

-- where no place keeps a number
pub free_at : (numbers : List (Option ℕ)) (k : ℕ) → IsTrue (are_free numbers) → number_at numbers k ≡ None
free_at [] k h = refl
free_at (None ∷ numbers) zero h = refl
free_at (None ∷ numbers) (suc k) h = free_at numbers k h
free_at (Some n ∷ numbers) k h = absurd (cc)

pub free_unkept : (numbers : List (Option ℕ)) → IsTrue (are_free numbers) → unkept numbers ≡ length numbers
free_unkept [] h = refl
free_unkept (None ∷ numbers) h = ap suc (free_unkept numbers h)
free_unkept (Some n ∷ numbers) h = absurd (cc)

-- one place more keeps one
pub unkept_set : (numbers : List (Option ℕ)) (k n : ℕ) → number_at numbers k ≡ None → k < length numbers → unkept (slice_set numbers k (Some n)) + 1 ≡ unkept numbers
unkept_set [] k n h l = absurd (omega arith)
unkept_set (None ∷ numbers) zero n h l = omega arith
unkept_set (Some m ∷ numbers) zero n h l = absurd (cc)
unkept_set (None ∷ numbers) (suc k) n h l = let more = unkept_set numbers k n h (omega arith) in omega (arith, more)
unkept_set (Some m ∷ numbers) (suc k) n h l = unkept_set numbers k n h (omega arith)

-- so one is left before
pub one_unkept : (numbers : List (Option ℕ)) (k : ℕ) → number_at numbers k ≡ None → k < length numbers → 1 ≤ unkept numbers
one_unkept numbers k h l = let more = unkept_set numbers k 0 h l in omega (arith, more)

-- a place that isn't written stays
pub other_at : (numbers : List (Option ℕ)) (k j : ℕ) (o : Option ℕ) → k < j → number_at (slice_set numbers k o) j ≡ number_at numbers j
other_at [] k j o h = refl
other_at (x ∷ numbers) zero (suc j) o h = refl
other_at (x ∷ numbers) (suc k) (suc j) o h = other_at numbers k j o (omega arith)
other_at (x ∷ numbers) k zero o h = absurd (omega arith)

module _ (A : Type 0) (filler : A) where
  -- what stands for something does so in a longer list
  pub stands_on : (old new : List A) (n : ℕ) (due : Result A Arith) → Grows A filler old new → Stands A filler old n due → Stands A filler new n due
  stands_on old new n due grows stands = record { within = omega (arith, grows.more, stands.within); is = ap Ok (grows.same n stands.within) ∙ stands.is }

  pub kept_on : (old new : List A) (numbers : List (Option ℕ)) (due : ℕ → Result A Arith) → Grows A filler old new → AreKept A filler old numbers due → AreKept A filler new numbers due
  kept_on old new numbers due grows kept = λ k n h. stands_on old new n (due k) grows (kept k n h)

  pub grows_same : (items : List A) → Grows A filler items items
  grows_same items = record { more = omega arith; same = λ n h. refl }

  pub grows_twice : (a b c : List A) → Grows A filler a b → Grows A filler b c → Grows A filler a c
  grows_twice a b c g h = record { more = omega (arith, g.more, h.more); same = λ n l. h.same n (omega (arith, g.more)) ∙ g.same n l }

  pub grows_one : (old new : List A) (x : A) → new ≡ old ++ x ∷ [] → Grows A filler old new
  grows_one old new x is = subst (Grows A filler old) (sym is) (record { more = simp length-append (omega arith); same = λ n h. get_or_append_left old (x ∷ []) filler n h })

  pub stands_last : (old new : List A) (x : A) (due : Result A Arith) → new ≡ old ++ x ∷ [] → Ok x ≡ due → Stands A filler new (length old) due
  stands_last old new x due is told =
      subst (λ items. Stands A filler items (length old) due) (sym is)
      (record { within = simp length-append (omega arith); is = ap Ok (get_or-append_seam old x [] filler) ∙ told })

  -- one number more is kept
  pub kept_set : (items : List A) (numbers : List (Option ℕ)) (due : ℕ → Result A Arith) (e m : ℕ) → AreKept A filler items numbers due → Stands A filler items m (due e) → AreKept A filler items (slice_set numbers e (Some m)) due
  kept_set items [] due e m kept stands = λ k n h. absurd (cc)
  kept_set items (x ∷ numbers) due zero m kept stands =
      λ k n h. first k n h
    where
      first : (k n : ℕ) → number_at (Some m ∷ numbers) k ≡ Some n → Stands A filler items n (due k)
      first zero n h = let same : m ≡ n = cc in subst (λ j. Stands A filler items j (due zero)) same stands
      first (suc k) n h = kept (suc k) n h
  kept_set items (x ∷ numbers) due (suc e) m kept stands =
      later (kept_set items numbers (λ j. due (suc j)) e m (λ j i l. kept (suc j) i l) stands)
    where
      later : AreKept A filler items (slice_set numbers e (Some m)) (λ j. due (suc j)) → (k n : ℕ) → number_at (x ∷ slice_set numbers e (Some m)) k ≡ Some n → Stands A filler items n (due k)
      later more zero n h = kept zero n h
      later more (suc k) n h = more k n h

  -- nothing is kept
  pub kept_none : (items : List A) (numbers : List (Option ℕ)) (due : ℕ → Result A Arith) → IsTrue (are_free numbers) → AreKept A filler items numbers due
  kept_none items numbers due h = λ k n is. absurd (let none = free_at numbers k h in cc)

-- Cells.

number_later : (stamp later : ℕ) (cell : Cell) → IsTrue (nat_le cell.stamp stamp) → stamp < later → is_free (number_in later cell) ≡ true
number_later stamp later cell h l = by (nat_eq cell.stamp later) refl
  where
    by : (b : Bool) → nat_eq cell.stamp later ≡ b → is_free (if b then Some cell.number else None) ≡ true
    by true e = let past = leb-true cell.stamp stamp h in let same = equal cell.stamp later e in absurd (omega arith)
      where
        equal : (i j : ℕ) → nat_eq i j ≡ true → i ≡ j
        equal i j d = grind (arith, nat_tests)
    by false e = refl

-- with a later stamp no cell keeps a number
pub later_free : (stamp later : ℕ) (cells : List Cell) → IsTrue (are_past stamp cells) → stamp < later → IsTrue (are_free (map (number_in later) cells))
later_free stamp later [] h l = refl
later_free stamp later (cell ∷ cells) h l =
    both (is_free (number_in later cell)) _ (number_later stamp later cell (left_of (nat_le cell.stamp stamp) _ h) l) (later_free stamp later cells (right_of (nat_le cell.stamp stamp) _ h) l)

-- and no cell is of a later one
pub later_past : (stamp later : ℕ) (cells : List Cell) → IsTrue (are_past stamp cells) → stamp ≤ later → IsTrue (are_past later cells)
later_past stamp later [] h l = refl
later_past stamp later (cell ∷ cells) h l =
    both (nat_le cell.stamp later) _ (more cell.stamp (leb-true cell.stamp stamp (left_of (nat_le cell.stamp stamp) _ h))) (later_past stamp later cells (right_of (nat_le cell.stamp stamp) _ h) l)
  where
    more : (i : ℕ) → i ≤ stamp → IsTrue (nat_le i later)
    more i k = let m : i ≤ later = omega arith in grind (arith, nat_tests)

-- a cell that is written now
pub past_set : (stamp : ℕ) (cells : List Cell) (k : ℕ) (cell : Cell) → IsTrue (are_past stamp cells) → IsTrue (nat_le cell.stamp stamp) → IsTrue (are_past stamp (slice_set cells k cell))
past_set stamp [] k cell h l = refl
past_set stamp (c ∷ cells) zero cell h l = both (nat_le cell.stamp stamp) _ l (right_of (nat_le c.stamp stamp) _ h)
past_set stamp (c ∷ cells) (suc k) cell h l = both (nat_le c.stamp stamp) _ (left_of (nat_le c.stamp stamp) _ h) (past_set stamp cells k cell (right_of (nat_le c.stamp stamp) _ h) l)

-- writing keeps the length
pub set_length : (numbers : List (Option ℕ)) (k : ℕ) (o : Option ℕ) → length (slice_set numbers k o) ≡ length numbers
set_length [] k o = refl
set_length (x ∷ numbers) zero o = refl
set_length (x ∷ numbers) (suc k) o = ap suc (set_length numbers k o)

-- cells that were never written
pub unwritten_past : (stamp n : ℕ) → IsTrue (are_past stamp (replicate n (record { stamp = 0; number = 0 })))
unwritten_past stamp zero = refl
unwritten_past stamp (suc n) = both (nat_le 0 stamp) _ (le_true 0 stamp (omega arith)) (unwritten_past stamp n)

pub unwritten_free : (n : ℕ) → IsTrue (are_free (map (number_in 1) (replicate n (record { stamp = 0; number = 0 }))))
unwritten_free zero = refl
unwritten_free (suc n) = unwritten_free n

pub unwritten_len : (n : ℕ) → length (map (number_in 1) (replicate n (record { stamp = 0; number = 0 }))) ≡ n
unwritten_len zero = refl
unwritten_len (suc n) = ap suc (unwritten_len n)

pub ruleset unwrittens = (unwritten_past, unwritten_free, unwritten_len)

-- a cell that was written now keeps its number
pub now_number : (stamp number : ℕ) → number_in stamp (record { stamp = stamp; number = number }) ≡ Some number
now_number stamp number = ap (λ b. if b then Some number else None) (equal_self stamp)
  where
    equal_self : (i : ℕ) → nat_eq i i ≡ true
    equal_self i = grind (arith, nat_tests)
