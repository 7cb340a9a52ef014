-- A line tells one end, or none.
use Rattle.std.proofs.Common.{◌≡◌, ◌<◌, ◌≤◌, ◌⊎◌, inl, inr, ◌^◌, ℕ, zero, suc, Bool, List, [], ◌∷◌, ◌++◌, None, Some, Option, codes, decimal, length, if◌then◌else◌, refl, ap, sym, subst, ◌∙◌, arith, append-nil}
use Rattle.std.specs.Option.{is_some}
use Rattle.std.specs.Str.Parse.{digits_value}
use Rattle.std.proofs.lemmas.Bool.{cases_lt, cases_order}
use Rattle.lt_num.specs.declared.fault.Arith.TheVariants as arith_fault
use Rattle.lt_rif.specs.Trace.{end_number, line}
use Rattle.lt_rif.specs.declared.end.End.{End}
use Rattle.lt_rif.specs.declared.end.End.TheVariants as end
use Rattle.lt_trace.specs.End.{IsEnd, MayTell, end_line, recorded_of}
use Rattle.lt_trace.specs.declared.recorded.RecordedEnd.{RecordedEnd}
use Rattle.lt_trace.specs.declared.recorded.RecordedEnd.TheVariants as told
use Rattle.lt_trace.specs.inner.Ends.{FindsEnd, FindsRaise, FindsTold, end_word_text, plain_ends}
use Rattle.lt_trace.specs.inner.Front.{behind, is_same}
use Rattle.lt_trace.proofs.Ends.{nothing-told, plain-told, raise-told}
use Rattle.lt_trace.proofs.Fronts.{behind_front, same_back, same_on}
use Rattle.lt_trace.proofs.Numbers.{decimal-back, digits-unspaced}
use Rattle.lt_trace.proofs.Spaces.{end-words-back, end-words-on}
use Rattle.lt_trace.proofs.Words.{cut-word, either}
use Rattle.lt_trace.specs.inner.Words.{cut}

-- what stands behind a front, or nothing
behind_or : Option (List ℕ) → List ℕ
behind_or None = []
behind_or (Some rest) = rest

-- ---- one end

-- a text begins so
abbrev begins : List ℕ → List ℕ → Bool
begins text front = is_some (behind text front)

-- the end of which words are, but for the number of an exception
abbrev by_words : List ℕ → RecordedEnd
by_words text =
    if begins text (codes "#end normal ") then told.Normal
    else if begins text (codes "#end deadlock ") then told.Deadlock
    else if begins text (codes "#end raise ") then told.Raise 0
    else if begins text (codes "#end fault NoPrevious ") then told.Fault arith_fault.NoPrevious
    else if begins text (codes "#end fault DivisionByZero ") then told.Fault arith_fault.DivisionByZero
    else if begins text (codes "#end fault Overflow ") then told.Fault arith_fault.Overflow
    else if begins text (codes "#end fault NegativeWeight ") then told.Fault arith_fault.NegativeWeight
    else told.Cut

abbrev without_number : RecordedEnd → RecordedEnd
without_number (told.Raise z) = told.Raise 0
without_number r = r

words-tell : (e : End) (names : List (List ℕ)) (steps : ℕ) → by_words (end_word_text e names steps) ≡ without_number (recorded_of e)
words-tell end.Normal names steps = refl
words-tell end.Limit names steps = refl
words-tell end.Oracle names steps = refl
words-tell end.Deadlock names steps = refl
words-tell (end.Raise z) names steps = refl
words-tell (end.Fault arith_fault.NoPrevious) names steps = refl
words-tell (end.Fault arith_fault.DivisionByZero) names steps = refl
words-tell (end.Fault arith_fault.Overflow) names steps = refl
words-tell (end.Fault arith_fault.NegativeWeight) names steps = refl
words-tell end.TooLarge names steps = refl
words-tell (end.Malformed w f place) names steps = refl
words-tell (end.Ended w taken) names steps = refl
words-tell (end.Device w) names steps = refl
words-tell (end.Budget need) names steps = refl

-- an end is known without the number of an exception, or raises one
plain-or-raise : (r : RecordedEnd) → (without_number r ≡ r) ⊎ ((z : ℕ) × (r ≡ told.Raise z))
plain-or-raise told.Normal = inl refl
plain-or-raise told.Deadlock = inl refl
plain-or-raise (told.Raise z) = inr (z, refl)
plain-or-raise (told.Fault f) = inl refl
plain-or-raise told.Cut = inl refl

ends-agree : (r s : RecordedEnd) → without_number r ≡ without_number s → ((z y : ℕ) → r ≡ told.Raise z → s ≡ told.Raise y → z ≡ y) → r ≡ s
ends-agree r s e same = by_cases (plain-or-raise r) (plain-or-raise s)
  where
    by_cases : (without_number r ≡ r) ⊎ ((z : ℕ) × (r ≡ told.Raise z)) → (without_number s ≡ s) ⊎ ((z : ℕ) × (s ≡ told.Raise z)) → r ≡ s
    by_cases (inl h) (inl k) = sym h ∙ e ∙ k
    by_cases (inl h) (inr k) =
        let f : r ≡ told.Raise 0 = sym h ∙ e ∙ ap without_number k.1 in
        f ∙ ap (λ (n : ℕ). told.Raise n) (same 0 k.0 f k.1) ∙ sym k.1
    by_cases (inr h) (inl k) =
        let f : s ≡ told.Raise 0 = sym k ∙ sym e ∙ ap without_number h.1 in
        h.1 ∙ ap (λ (n : ℕ). told.Raise n) (same h.0 0 h.1 f) ∙ sym f
    by_cases (inr h) (inr k) = h.1 ∙ ap (λ (n : ℕ). told.Raise n) (same h.0 k.0 h.1 k.1) ∙ sym k.1

-- an end that raises an exception is that of the exception
raise-of : (e : End) (z : ℕ) → recorded_of e ≡ told.Raise z → e ≡ end.Raise z
raise-of (end.Raise y) z h = ap (λ (n : ℕ). end.Raise n) (let same : y ≡ z = cc in same)
raise-of end.Normal z h = absurd (cc)
raise-of end.Limit z h = absurd (cc)
raise-of end.Oracle z h = absurd (cc)
raise-of end.Deadlock z h = absurd (cc)
raise-of (end.Fault f) z h = absurd (cc)
raise-of end.TooLarge z h = absurd (cc)
raise-of (end.Malformed w f place) z h = absurd (cc)
raise-of (end.Ended w taken) z h = absurd (cc)
raise-of (end.Device w) z h = absurd (cc)
raise-of (end.Budget need) z h = absurd (cc)

-- the first of two exceptions of one name is one
first-is-one : (names : List (List ℕ)) (steps z y : ℕ) → MayTell (end.Raise z) names steps → MayTell (end.Raise y) names steps → end_line (end.Raise z) names steps ≡ end_line (end.Raise y) names steps → z ≡ y
first-is-one names steps z y m n e = by_order (cases_order z y)
  where
    by_order : (z ≡ y) ⊎ ((z < y) ⊎ (y < z)) → z ≡ y
    by_order (inl h) = h
    by_order (inr (inl h)) = absurd (n.1 z h e)
    by_order (inr (inr h)) = absurd (m.1 y h (sym e))

pub one-end : (names : List (List ℕ)) (steps : ℕ) (text : List ℕ) (r s : RecordedEnd) → IsEnd names steps text r → IsEnd names steps text s → r ≡ s
one-end names steps text r s is also =
    let one = end-words-back is.0 names steps text is.2 in
    let two = end-words-back also.0 names steps text also.2 in
    let words : without_number (recorded_of is.0) ≡ without_number (recorded_of also.0) =
    sym (words-tell is.0 names steps) ∙ ap by_words (sym one ∙ two) ∙ words-tell also.0 names steps in
    is.3 ∙ ends-agree (recorded_of is.0) (recorded_of also.0) words raises ∙ sym also.3
  where
    raises : (z y : ℕ) → recorded_of is.0 ≡ told.Raise z → recorded_of also.0 ≡ told.Raise y → z ≡ y
    raises z y h k =
        let d = raise-of is.0 z h in
        let f = raise-of also.0 y k in
        first-is-one names steps z y
        (subst (λ (e : End). MayTell e names steps) d is.1)
        (subst (λ (e : End). MayTell e names steps) f also.1)
        (ap (λ (e : End). end_line e names steps) (sym d) ∙ sym is.2 ∙ also.2 ∙ ap (λ (e : End). end_line e names steps) f)

-- ---- whether there is one

-- whether a text is the line of an end
is-line-of : (e : End) (names : List (List ℕ)) (steps : ℕ) (text : List ℕ) → (line text ≡ end_line e names steps) ⊎ (line text ≡ end_line e names steps → ⊥)
is-line-of e names steps text =
    either (is_same text (end_word_text e names steps))
    (λ t. inl (end-words-on e names steps text (same_back text (end_word_text e names steps) t)))
    (λ t. inr (λ h. let u = same_on text (end_word_text e names steps) (end-words-back e names steps text h) in absurd (cc)))

find-end : (es : List End) (names : List (List ℕ)) (steps : ℕ) (text : List ℕ) → (o : Option End) × FindsEnd es names steps text o
find-end [] names steps text = (None, λ e is h. absurd is)
find-end (x ∷ es) names steps text = by_first (is-line-of x names steps text) (find-end es names steps text)
  where
    skip : (line text ≡ end_line x names steps → ⊥) → FindsEnd es names steps text None → FindsEnd (x ∷ es) names steps text None
    skip not_so none e (inl h) k = not_so (subst (λ (y : End). line text ≡ end_line y names steps) h k)
    skip not_so none e (inr h) k = none e h k

    by_rest : (line text ≡ end_line x names steps → ⊥) → (o : Option End) → FindsEnd es names steps text o → (o : Option End) × FindsEnd (x ∷ es) names steps text o
    by_rest not_so None f = (None, skip not_so f)
    by_rest not_so (Some e) f = (Some e, (inr f.0, f.1))

    by_first : (line text ≡ end_line x names steps) ⊎ (line text ≡ end_line x names steps → ⊥) → (o : Option End) × FindsEnd es names steps text o → (o : Option End) × FindsEnd (x ∷ es) names steps text o
    by_first (inl h) rest = (Some x, (inl refl, h))
    by_first (inr not_so) rest = by_rest not_so rest.0 rest.1

-- the first raise among so many exceptions
abbrev FirstRaise : ℕ → List (List ℕ) → ℕ → List ℕ → Option ℕ → Type 0
FirstRaise count names steps text None = (z : ℕ) → z < count → line text ≡ end_line (end.Raise z) names steps → ⊥
FirstRaise count names steps text (Some z) = (z < count) × (line text ≡ end_line (end.Raise z) names steps) × ((y : ℕ) → y < z → line text ≡ end_line (end.Raise y) names steps → ⊥)

find-raise : (count : ℕ) (names : List (List ℕ)) (steps : ℕ) (text : List ℕ) → (o : Option ℕ) × FirstRaise count names steps text o
find-raise zero names steps text = (None, λ z l h. absurd (omega (arith, l)))
find-raise (suc count) names steps text = by_rest (find-raise count names steps text)
  where
    last : FirstRaise count names steps text None → (line text ≡ end_line (end.Raise count) names steps → ⊥) → (z : ℕ) → z < suc count → line text ≡ end_line (end.Raise z) names steps → ⊥
    last none not_so z l h = by_order (cases_lt z count)
      where
        by_order : (z < count) ⊎ (count ≤ z) → ⊥
        by_order (inl less) = none z less h
        by_order (inr most) =
            let same : z ≡ count = omega (arith, l, most) in
            not_so (h ∙ ap (λ (n : ℕ). end_line (end.Raise n) names steps) same)

    by_last : FirstRaise count names steps text None → (line text ≡ end_line (end.Raise count) names steps) ⊎ (line text ≡ end_line (end.Raise count) names steps → ⊥) → (o : Option ℕ) × FirstRaise (suc count) names steps text o
    by_last none (inl h) = (Some count, (omega arith, h, none))
    by_last none (inr not_so) = (None, last none not_so)

    by_rest : (o : Option ℕ) × FirstRaise count names steps text o → (o : Option ℕ) × FirstRaise (suc count) names steps text o
    by_rest (None, f) = by_last f (is-line-of (end.Raise count) names steps text)
    by_rest (Some z, f) = let less = f.0 in (Some z, (omega (arith, less), f.1, f.2))

-- the need that a text may tell
word_of : Option (List ℕ × List ℕ) → List ℕ
word_of None = []
word_of (Some x) = x.0

need_of : List ℕ → ℕ
need_of text = digits_value 10 (word_of (cut (behind_or (behind text (codes "#end budget ")))))

pub need-words : (need : ℕ) (names : List (List ℕ)) (steps : ℕ) → end_word_text (end.Budget need) names steps ≡ codes "#end budget " ++ (decimal need ++ 32 ∷ decimal (end_number (end.Budget need) steps))
need-words need names steps =
    ap (λ (t : List ℕ). codes "#end budget " ++ (t ++ 32 ∷ decimal (end_number (end.Budget need) steps))) (append-nil (decimal need))

need-is : (text : List ℕ) (need : ℕ) (rest : List ℕ) → need < 2 ^ 128 → text ≡ codes "#end budget " ++ (decimal need ++ 32 ∷ rest) → need_of text ≡ need
unfolding word_of need_of behind_or
need-is text need rest small e =
    let back = decimal-back need small in
    let one : behind text (codes "#end budget ") ≡ Some (decimal need ++ 32 ∷ rest) = ap (λ (t : List ℕ). behind t (codes "#end budget ")) e ∙ behind_front (codes "#end budget ") (decimal need ++ 32 ∷ rest) in
    let two : cut (decimal need ++ 32 ∷ rest) ≡ Some (decimal need, rest) = cut-word (decimal need) rest (digits-unspaced (decimal need) back.0) in
    ap (λ (o : Option (List ℕ)). digits_value 10 (word_of (cut (behind_or o)))) one ∙ ap (λ (o : Option (List ℕ × List ℕ)). digits_value 10 (word_of o)) two ∙ back.1

abbrev TellsNeed : List (List ℕ) → ℕ → List ℕ → Type 0
TellsNeed names steps text = (need : ℕ) × (need < 2 ^ 128) × (line text ≡ end_line (end.Budget need) names steps)

same-need : (names : List (List ℕ)) (steps : ℕ) (text : List ℕ) (need : ℕ) → need < 2 ^ 128 → line text ≡ end_line (end.Budget need) names steps → need_of text ≡ need
same-need names steps text need small h = need-is text need _ small (end-words-back (end.Budget need) names steps text h ∙ need-words need names steps)

find-need : (names : List (List ℕ)) (steps : ℕ) (text : List ℕ) → TellsNeed names steps text ⊎ (TellsNeed names steps text → ⊥)
find-need names steps text = by_size (cases_lt (need_of text) (2 ^ 128)) (is-line-of (end.Budget (need_of text)) names steps text)
  where
    by_size : (need_of text < 2 ^ 128) ⊎ (2 ^ 128 ≤ need_of text) → (line text ≡ end_line (end.Budget (need_of text)) names steps) ⊎ (line text ≡ end_line (end.Budget (need_of text)) names steps → ⊥) → TellsNeed names steps text ⊎ (TellsNeed names steps text → ⊥)
    by_size (inl small) (inl h) = inl (need_of text, small, h)
    by_size (inl small) (inr not_so) = inr (λ n. not_so (n.2 ∙ ap (λ (k : ℕ). end_line (end.Budget k) names steps) (sym (same-need names steps text n.0 n.1 n.2))))
    by_size (inr big) o = inr (λ n. let same = same-need names steps text n.0 n.1 n.2 in let small = n.1 in omega arith)

-- the end that a line tells, if it tells one
pub find-told : (names : List (List ℕ)) (steps : ℕ) (text : List ℕ) → (o : Option RecordedEnd) × FindsTold names steps text o
find-told names steps text = by_plain (find-end plain_ends names steps text)
  where
    verdict : (0 < steps) ⊎ (steps ≤ 0) → (line text ≡ end_line end.Oracle names steps) ⊎ (line text ≡ end_line end.Oracle names steps → ⊥) → (IsEnd names steps text told.Cut) ⊎ (0 < steps → line text ≡ end_line end.Oracle names steps → ⊥)
    verdict (inl some) (inl h) = inl (end.Oracle, some, h, refl)
    verdict (inl some) (inr not_so) = inr (λ l h. not_so h)
    verdict (inr none) o = inr (λ l h. omega (arith, l, none))

    by_need : FindsEnd plain_ends names steps text None → FindsRaise names steps text None → (0 < steps → line text ≡ end_line end.Oracle names steps → ⊥)
        → TellsNeed names steps text ⊎ (TellsNeed names steps text → ⊥) → (o : Option RecordedEnd) × FindsTold names steps text o
    by_need f g v (inl n) = (Some told.Cut, (end.Budget n.0, n.1, n.2, refl))
    by_need f g v (inr not_so) = (None, nothing-told names steps text f g v (λ need small h. not_so (need, small, h)))

    by_verdict : FindsEnd plain_ends names steps text None → FindsRaise names steps text None → (IsEnd names steps text told.Cut) ⊎ (0 < steps → line text ≡ end_line end.Oracle names steps → ⊥) → (o : Option RecordedEnd) × FindsTold names steps text o
    by_verdict f g (inl is) = (Some told.Cut, is)
    by_verdict f g (inr not_so) = by_need f g not_so (find-need names steps text)

    by_raise : FindsEnd plain_ends names steps text None → (o : Option ℕ) × FirstRaise (length names) names steps text o → (o : Option RecordedEnd) × FindsTold names steps text o
    by_raise f (None, g) = by_verdict f g (verdict (cases_lt 0 steps) (is-line-of end.Oracle names steps text))
    by_raise f (Some z, g) = (Some (told.Raise z), raise-told names steps text z g)

    by_plain : (o : Option End) × FindsEnd plain_ends names steps text o → (o : Option RecordedEnd) × FindsTold names steps text o
    by_plain (None, f) = by_raise f (find-raise (length names) names steps text)
    by_plain (Some e, f) = (Some (recorded_of e), plain-told names steps text e f)
