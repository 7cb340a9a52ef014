-- Each text has one reading.
use Rattle.std.proofs.Common.{◌≡◌, ◌<◌, ◌≤◌, inl, inr, ◌+◌, ℕ, zero, suc, false, List, [], ◌∷◌, ◌++◌, None, Some, Option, Ok, Err, Result, length, drop, refl, ap, sym, subst, ◌∙◌, arith, append_assoc, append-nil, length-append}
use Rattle.std.specs.List.{list_any, position}
use Rattle.std.proofs.lemmas.List.{append_cancel_left}
use Rattle.lt_num.specs.Bounds.{most_decimals}
use Rattle.lt_rif.specs.ReadBack.{ValueReadsBack}
use Rattle.lt_rif.specs.Trace.{line}
use Rattle.lt_trace.specs.Laws.{TextsHaveOneReading}
use Rattle.lt_trace.specs.Lines.{AreLines, Breaks, IsDone, IsLine, IsOnLine, IsReading, IsStuck, IsTold, Place, at_end, at_inputs, at_locals, at_outputs, at_rule, at_seed, at_step, at_values, is_feed, no_line, one_more}
use Rattle.lt_trace.specs.Shape.{Shape}
use Rattle.lt_trace.specs.Told.{Told}
use Rattle.lt_trace.proofs.Chains.{any-feed, same-word}
use Rattle.lt_trace.proofs.Feeds.{HasFeed, has-feed, no-feed}
use Rattle.lt_trace.proofs.Headers.{says}
use Rattle.lt_trace.proofs.OneLine.{Decided, LeadsNowhere, decide-line}

-- ---- there is one

abbrev HasReading : Shape → List ℕ → Type 0
HasReading shape text = (reading : Result Told ℕ) × IsReading shape text reading

-- lines, and what is left, that break a text
broken : (shape : Shape) (front rest : List ℕ) (n : ℕ) (p : Place) → AreLines shape front n p → IsStuck shape p rest → (IsDone p rest → ⊥) → HasReading shape (front ++ rest)
broken shape front rest n p lines stuck undone = (Err (suc n), record { front = front; rest = rest; place = p; whole = refl; lines = lines; stuck = stuck; undone = undone })

-- without a line feed no line is left
no-line-left : (shape : Shape) (p : Place) (rest : List ℕ) → list_any is_feed rest ≡ false → IsStuck shape p rest
no-line-left shape p rest none word behind q on e l =
    let t = any-feed word behind in
    let s : list_any is_feed (word ++ 10 ∷ behind) ≡ false = ap (λ (x : List ℕ). list_any is_feed x) (sym e) ∙ none in
    cc

-- all is told, or the text breaks where no line is left
over-or-broken : (shape : Shape) (front rest : List ℕ) (n : ℕ) (p : Place) → AreLines shape front n p → list_any is_feed rest ≡ false → HasReading shape (front ++ rest)
over-or-broken shape front [] n (at_end t) lines none = (Ok t, (n, subst (λ (x : List ℕ). AreLines shape x n (at_end t)) (sym (append-nil front)) lines))
over-or-broken shape front (b ∷ rest) n (at_end t) lines none = broken shape front (b ∷ rest) n (at_end t) lines (no-line-left shape (at_end t) (b ∷ rest) none) (λ h. cc)
over-or-broken shape front rest n at_seed lines none = broken shape front rest n at_seed lines (no-line-left shape at_seed rest none) (λ h. h)
over-or-broken shape front rest n at_rule lines none = broken shape front rest n at_rule lines (no-line-left shape at_rule rest none) (λ h. h)
over-or-broken shape front rest n at_outputs lines none = broken shape front rest n at_outputs lines (no-line-left shape at_outputs rest none) (λ h. h)
over-or-broken shape front rest n at_inputs lines none = broken shape front rest n at_inputs lines (no-line-left shape at_inputs rest none) (λ h. h)
over-or-broken shape front rest n at_locals lines none = broken shape front rest n at_locals lines (no-line-left shape at_locals rest none) (λ h. h)
over-or-broken shape front rest n (at_step steps) lines none = broken shape front rest n (at_step steps) lines (no-line-left shape (at_step steps) rest none) (λ h. h)
over-or-broken shape front rest n (at_values steps) lines none = broken shape front rest n (at_values steps) lines (no-line-left shape (at_values steps) rest none) (λ h. h)

-- where something is left not all is done
something-left : (p : Place) (rest word behind : List ℕ) → rest ≡ word ++ 10 ∷ behind → IsDone p rest → ⊥
something-left (at_end t) rest word behind e h = let size : length rest ≡ 0 = ap length h in let more = ap length e ∙ length-append word (10 ∷ behind) in omega arith
something-left at_seed rest word behind e h = h
something-left at_rule rest word behind e h = h
something-left at_outputs rest word behind e h = h
something-left at_inputs rest word behind e h = h
something-left at_locals rest word behind e h = h
something-left (at_step steps) rest word behind e h = h
something-left (at_values steps) rest word behind e h = h

-- the next line leads nowhere
stuck-at : (shape : Shape) (p : Place) (rest word behind : List ℕ) → IsOnLine word → rest ≡ word ++ 10 ∷ behind → LeadsNowhere shape p word → IsStuck shape p rest
stuck-at shape p rest word behind on e not_so other left q also f l =
    not_so q (says (subst (λ (t : List ℕ). IsLine shape p t q) (same-word other word left behind also on (sym f ∙ e)) l))

-- one line is read, and what is left of the text is shorter
read-step : ValueReadsBack → (shape : Shape) → shape.decimals ≤ most_decimals → (front rest : List ℕ) (n : ℕ) (p : Place) → AreLines shape front n p →
    ((longer left : List ℕ) (m : ℕ) (q : Place) → length left < length rest → AreLines shape longer m q → HasReading shape (longer ++ left)) → HasReading shape (front ++ rest)
read-step law shape few front rest n p lines onward = by_feed (position is_feed rest) refl
  where
    by_line : (k : ℕ) → (f : HasFeed rest k) → Decided shape p f.word → HasReading shape (front ++ rest)
    by_line k f (inr not_so) = broken shape front rest n p lines (stuck-at shape p rest f.word (drop (suc k) rest) f.none f.whole not_so) (something-left p rest f.word (drop (suc k) rest) f.whole)
    by_line k f (inl one) =
        let sizes : length rest ≡ length f.word + length (10 ∷ drop (suc k) rest) = ap (λ (t : List ℕ). length t) f.whole ∙ length-append f.word (10 ∷ drop (suc k) rest) in
        let same : (front ++ line f.word) ++ drop (suc k) rest ≡ front ++ rest =
        append_assoc front (line f.word) (drop (suc k) rest) ∙ ap (λ (t : List ℕ). front ++ t) (append_assoc f.word (10 ∷ []) (drop (suc k) rest) ∙ sym f.whole) in
        subst (HasReading shape) same
        (onward (front ++ line f.word) (drop (suc k) rest) (suc n) one.place (omega (arith, sizes)) (one_more front f.word n p one.place lines f.none one.leads))

    by_feed : (o : Option ℕ) → position is_feed rest ≡ o → HasReading shape (front ++ rest)
    by_feed None e = over-or-broken shape front rest n p lines (no-feed rest e)
    by_feed (Some k) e = let f = has-feed rest k e in by_line k f (decide-line law shape few p f.word)

-- what is left is read on
read-on : ValueReadsBack → (shape : Shape) → shape.decimals ≤ most_decimals → (fuel : ℕ) (front rest : List ℕ) (n : ℕ) (p : Place) → length rest ≤ fuel → AreLines shape front n p → HasReading shape (front ++ rest)
read-on law shape few zero front rest n p short lines = read-step law shape few front rest n p lines (λ longer left m q less next. absurd (omega (arith, less, short)))
read-on law shape few (suc fuel) front rest n p short lines = read-step law shape few front rest n p lines (λ longer left m q less next. read-on law shape few fuel longer left m q (omega (arith, less, short)) next)

-- ---- there is no other one

abbrev tail_of : List ℕ → List ℕ
tail_of [] = []
tail_of (b ∷ rest) = rest

-- so many lines of a text lead from a place to another one, and this is left
abbrev Leads : Shape → Place → List ℕ → ℕ → Place → List ℕ → Type 0
Leads shape p text zero q rest = (p ≡ q) × (text ≡ rest)
Leads shape p text (suc n) q rest =
    (word behind : List ℕ) × (middle : Place) × (text ≡ word ++ 10 ∷ behind) × IsOnLine word × IsLine shape p word middle × Leads shape middle behind n q rest

-- lines in turn, from the first one
from-first : {shape : Shape} {front : List ℕ} {n : ℕ} {p : Place} → AreLines shape front n p → (m : ℕ) (rest left : List ℕ) (q : Place) → Leads shape p rest m q left → Leads shape at_seed (front ++ rest) (n + m) q left
from-first {shape} no_line m rest left q leads = subst (λ (k : ℕ). Leads shape at_seed rest k q left) {x = m} {y = 0 + m} (omega arith) leads
from-first {shape} (one_more front text n p r lines on l) m rest left q leads =
    let whole : front ++ (text ++ 10 ∷ rest) ≡ (front ++ line text) ++ rest =
    sym (append_assoc front (line text) rest ∙ ap (λ (t : List ℕ). front ++ t) (append_assoc text (10 ∷ []) rest)) in
    let count : n + suc m ≡ suc n + m = omega arith in
    subst (λ (t : List ℕ). Leads shape at_seed t (suc n + m) q left) whole
    (subst (λ (k : ℕ). Leads shape at_seed (front ++ (text ++ 10 ∷ rest)) k q left) count
    (from-first lines (suc m) (text ++ 10 ∷ rest) left q (text, rest, r, refl, on, l, leads)))

-- .. to where they lead
reached : (shape : Shape) (front rest : List ℕ) (n : ℕ) (p : Place) → AreLines shape front n p → Leads shape at_seed (front ++ rest) n p rest
reached shape front rest n p lines =
    subst (λ (k : ℕ). Leads shape at_seed (front ++ rest) k p rest) {x = n + 0} {y = n} (omega arith) (from-first lines 0 rest rest p (refl, refl))

-- a line leads to one place
one-place : ValueReadsBack → (shape : Shape) → shape.decimals ≤ most_decimals → (p q r : Place) (text : List ℕ) → IsLine shape p text q → IsLine shape p text r → q ≡ r
one-place law shape few p q r text l k = by_decision (decide-line law shape few p text)
  where
    by_decision : Decided shape p text → q ≡ r
    by_decision (inl one) = one.only q (says l) ∙ sym (one.only r (says k))
    by_decision (inr not_so) = absurd (not_so q (says l))

-- where lines stop
record Stops (p : Place) (rest : List ℕ) (n : ℕ) (q : Place) (left : List ℕ) (m : ℕ) : Type 0 where
  count : n ≡ m
  place : p ≡ q
  bytes : rest ≡ left

stop-once : ValueReadsBack → (shape : Shape) → shape.decimals ≤ most_decimals → (n m : ℕ) (p q r : Place) (text rest left : List ℕ)
    → Leads shape p text n q rest → Leads shape p text m r left → IsStuck shape q rest → IsStuck shape r left → Stops q rest n r left m
stop-once law shape few zero zero p q r text rest left g h s t = record { count = refl; place = sym g.0 ∙ h.0; bytes = sym g.1 ∙ h.1 }
stop-once law shape few zero (suc m) p q r text rest left g h s t =
    absurd (s h.0 h.1 h.2 h.4 (sym g.1 ∙ h.3) (subst (λ (x : Place). IsLine shape x h.0 h.2) g.0 h.5))
stop-once law shape few (suc n) zero p q r text rest left g h s t =
    absurd (t g.0 g.1 g.2 g.4 (sym h.1 ∙ g.3) (subst (λ (x : Place). IsLine shape x g.0 g.2) h.0 g.5))
stop-once law shape few (suc n) (suc m) p q r text rest left g h s t =
    let whole : h.0 ++ 10 ∷ h.1 ≡ g.0 ++ 10 ∷ g.1 = sym h.3 ∙ g.3 in
    let word : h.0 ≡ g.0 = same-word h.0 g.0 h.1 g.1 h.4 g.4 whole in
    let behind : h.1 ≡ g.1 = ap tail_of (append_cancel_left g.0 (10 ∷ h.1) (10 ∷ g.1) (ap (λ (w : List ℕ). w ++ 10 ∷ h.1) (sym word) ∙ whole)) in
    let middle : h.2 ≡ g.2 = one-place law shape few p h.2 g.2 g.0 (subst (λ (w : List ℕ). IsLine shape p w h.2) word h.5) g.5 in
    let onward : Leads shape g.2 g.1 m r left = subst (λ (b : List ℕ). Leads shape g.2 b m r left) behind (subst (λ (x : Place). Leads shape x h.1 m r left) middle h.6) in
    let both = stop-once law shape few n m g.2 q r g.1 rest left g.6 onward s t in
    record { count = ap suc both.count; place = both.place; bytes = both.bytes }

-- what a reading tells of where it stops
record Stop (shape : Shape) (text : List ℕ) (n : ℕ) (p : Place) (rest : List ℕ) : Type 0 where
  leads : Leads shape at_seed text n p rest
  stuck : IsStuck shape p rest

told-stop : (shape : Shape) (text : List ℕ) (t : Told) → (is : IsTold shape text t) → Stop shape text is.0 (at_end t) []
told-stop shape text t is = record {
  leads = subst (λ (x : List ℕ). Leads shape at_seed x is.0 (at_end t) []) (append-nil text) (reached shape text [] is.0 (at_end t) is.1);
  stuck = λ word behind q on e l. says l;
}

break-stop : (shape : Shape) (text : List ℕ) (n : ℕ) → (b : Breaks shape text n) → Stop shape text n b.place b.rest
break-stop shape text n b = record {
  leads = subst (λ (x : List ℕ). Leads shape at_seed x n b.place b.rest) (sym b.whole) (reached shape b.front b.rest n b.place b.lines);
  stuck = b.stuck;
}

both-stop : ValueReadsBack → (shape : Shape) → shape.decimals ≤ most_decimals → (text : List ℕ) (n m : ℕ) (p q : Place) (rest left : List ℕ) → Stop shape text n p rest → Stop shape text m q left → Stops p rest n q left m
both-stop law shape few text n m p q rest left s t = stop-once law shape few n m at_seed p q text rest left s.leads t.leads s.stuck t.stuck

abbrev told_in : Told → Place → Told
told_in t (at_end u) = u
told_in t p = t

done-at : (t : Told) (p : Place) (rest : List ℕ) → at_end t ≡ p → [] ≡ rest → IsDone p rest
done-at t p rest e f = subst (λ (q : Place). IsDone q rest) e (sym f)

readings-agree : ValueReadsBack → (shape : Shape) → shape.decimals ≤ most_decimals → (text : List ℕ) (a b : Result Told ℕ) → IsReading shape text a → IsReading shape text b → a ≡ b
readings-agree law shape few text (Ok t) (Ok u) is also =
    let stops = both-stop law shape few text is.0 also.0 (at_end t) (at_end u) [] [] (told-stop shape text t is) (told-stop shape text u also) in
    ap (λ (x : Told). Ok x) (ap (told_in t) stops.place)
readings-agree law shape few text (Ok t) (Err zero) is also = absurd also
readings-agree law shape few text (Err zero) b is also = absurd is
readings-agree law shape few text (Ok t) (Err (suc n)) is also =
    let stops = both-stop law shape few text is.0 n (at_end t) also.place [] also.rest (told-stop shape text t is) (break-stop shape text n also) in
    absurd (also.undone (done-at t also.place also.rest stops.place stops.bytes))
readings-agree law shape few text (Err (suc n)) (Ok t) is also =
    let stops = both-stop law shape few text also.0 n (at_end t) is.place [] is.rest (told-stop shape text t also) (break-stop shape text n is) in
    absurd (is.undone (done-at t is.place is.rest stops.place stops.bytes))
readings-agree law shape few text (Err (suc n)) (Err zero) is also = absurd also
readings-agree law shape few text (Err (suc n)) (Err (suc m)) is also =
    let stops = both-stop law shape few text n m is.place also.place is.rest also.rest (break-stop shape text n is) (break-stop shape text m also) in
    ap (λ (k : ℕ). Err (suc k)) stops.count

-- ---- both

pub texts_have_one_reading : ValueReadsBack → TextsHaveOneReading
texts_have_one_reading law shape text few = (read-on law shape few (length text) [] text 0 at_seed (omega arith) no_line, λ a b is also. readings-agree law shape few text a b is also)
