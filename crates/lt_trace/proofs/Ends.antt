-- Which end a line tells.
use Rattle.std.proofs.Common.{◌≡◌, ◌<◌, inl, inr, ◌^◌, ℕ, zero, suc, List, [], ◌∷◌, None, Some, length, get_or, refl, sym, subst, ◌∙◌, arith}
use Rattle.lt_num.specs.declared.fault.Arith.TheVariants as arith_fault
use Rattle.lt_rif.specs.Trace.{line}
use Rattle.lt_rif.specs.declared.end.End.{End}
use Rattle.lt_rif.specs.declared.end.End.TheVariants as end
use Rattle.lt_rif.specs.declared.end.Who.TheVariants as who
use Rattle.lt_rif.specs.declared.fault.ValueFault.TheVariants as fault
use Rattle.lt_trace.specs.End.{IsEnd, MayTell, end_line, recorded_of}
use Rattle.lt_trace.specs.inner.Ends.{FindsEnd, FindsRaise, FindsTold, IsIn, plain_ends}

-- an end at a place is one of them
pub in_at : (es : List End) (i : ℕ) (d : End) → i < length es → IsIn (get_or es i d) es
in_at [] i d l = absurd (omega (arith, l))
in_at (e ∷ es) zero d l = inl refl
in_at (e ∷ es) (suc i) d l = inr (in_at es i d (omega (arith, l)))

-- what holds of each end holds of one of them
abbrev HoldsOfAll : (End → Type 0) → List End → Type 0
HoldsOfAll p [] = Unit {0}
HoldsOfAll p (e ∷ es) = p e × HoldsOfAll p es

holds-of : (p : End → Type 0) (es : List End) → HoldsOfAll p es → (e : End) → IsIn e es → p e
holds-of p [] all e is = absurd is
holds-of p (x ∷ es) all e (inl h) = subst p (sym h) all.0
holds-of p (x ∷ es) all e (inr h) = holds-of p es all.1 e h

-- the plain ones may be told behind any number of steps
pub plain-may-tell : (names : List (List ℕ)) (steps : ℕ) (e : End) → IsIn e plain_ends → MayTell e names steps
plain-may-tell names steps e is =
    holds-of (λ x. MayTell x names steps) plain_ends
    (tt, (tt, (tt, (tt, (tt, (tt, (tt, (tt, (tt, (tt, (tt, (tt, (tt, (tt, (tt, (tt, (tt, (tt, tt))))))))))))))))))
    e is

-- a plain end by its place
plain : (i : ℕ) → i < 18 → IsIn (get_or plain_ends i end.Normal) plain_ends
plain i l = in_at plain_ends i end.Normal l

-- ---- what the code finds

pub plain-told : (names : List (List ℕ)) (steps : ℕ) (text : List ℕ) (e : End) → FindsEnd plain_ends names steps text (Some e) → IsEnd names steps text (recorded_of e)
plain-told names steps text e found = (e, plain-may-tell names steps e found.0, found.1, refl)

pub raise-told : (names : List (List ℕ)) (steps : ℕ) (text : List ℕ) (z : ℕ) → FindsRaise names steps text (Some z) → IsEnd names steps text (recorded_of (end.Raise z))
raise-told names steps text z found =
    (end.Raise z, (found.0, λ y less same. found.2 y less (found.1 ∙ sym same)), found.1, refl)

-- where no end was found no line of one is there
pub none-told : (names : List (List ℕ)) (steps : ℕ) (text : List ℕ)
    → FindsEnd plain_ends names steps text None
    → FindsRaise names steps text None
    → (0 < steps → line text ≡ end_line end.Oracle names steps → ⊥)
    → ((need : ℕ) → need < 2 ^ 128 → line text ≡ end_line (end.Budget need) names steps → ⊥)
    → (e : End) → MayTell e names steps → line text ≡ end_line e names steps → ⊥
none-told names steps text f g o b end.Normal may h = f end.Normal (plain 0 (omega arith)) h
none-told names steps text f g o b end.Limit may h = f end.Limit (plain 1 (omega arith)) h
none-told names steps text f g o b end.Oracle may h = o may h
none-told names steps text f g o b end.Deadlock may h = f end.Deadlock (plain 2 (omega arith)) h
none-told names steps text f g o b end.TooLarge may h = f end.TooLarge (plain 3 (omega arith)) h
none-told names steps text f g o b (end.Raise z) may h = g z may.0 h
none-told names steps text f g o b (end.Fault arith_fault.NoPrevious) may h = f (end.Fault arith_fault.NoPrevious) (plain 4 (omega arith)) h
none-told names steps text f g o b (end.Fault arith_fault.DivisionByZero) may h = f (end.Fault arith_fault.DivisionByZero) (plain 5 (omega arith)) h
none-told names steps text f g o b (end.Fault arith_fault.Overflow) may h = f (end.Fault arith_fault.Overflow) (plain 6 (omega arith)) h
none-told names steps text f g o b (end.Fault arith_fault.NegativeWeight) may h = f (end.Fault arith_fault.NegativeWeight) (plain 7 (omega arith)) h
none-told names steps text f g o b (end.Malformed who.Controller fault.NotAValue place) may h = f (end.Malformed who.Controller fault.NotAValue 0) (plain 8 (omega arith)) h
none-told names steps text f g o b (end.Malformed who.Controller fault.OutOfRange place) may h = f (end.Malformed who.Controller fault.OutOfRange 0) (plain 9 (omega arith)) h
none-told names steps text f g o b (end.Malformed who.Controller fault.TooLong place) may h = f (end.Malformed who.Controller fault.TooLong 0) (plain 10 (omega arith)) h
none-told names steps text f g o b (end.Malformed who.Oracle fault.NotAValue place) may h = f (end.Malformed who.Oracle fault.NotAValue 0) (plain 11 (omega arith)) h
none-told names steps text f g o b (end.Malformed who.Oracle fault.OutOfRange place) may h = f (end.Malformed who.Oracle fault.OutOfRange 0) (plain 12 (omega arith)) h
none-told names steps text f g o b (end.Malformed who.Oracle fault.TooLong place) may h = f (end.Malformed who.Oracle fault.TooLong 0) (plain 13 (omega arith)) h
none-told names steps text f g o b (end.Ended who.Controller taken) may h = f (end.Ended who.Controller 0) (plain 14 (omega arith)) h
none-told names steps text f g o b (end.Ended who.Oracle taken) may h = f (end.Ended who.Oracle 0) (plain 15 (omega arith)) h
none-told names steps text f g o b (end.Device who.Controller) may h = f (end.Device who.Controller) (plain 16 (omega arith)) h
none-told names steps text f g o b (end.Device who.Oracle) may h = f (end.Device who.Oracle) (plain 17 (omega arith)) h
none-told names steps text f g o b (end.Budget need) may h = b need may h

pub nothing-told : (names : List (List ℕ)) (steps : ℕ) (text : List ℕ)
    → FindsEnd plain_ends names steps text None
    → FindsRaise names steps text None
    → (0 < steps → line text ≡ end_line end.Oracle names steps → ⊥)
    → ((need : ℕ) → need < 2 ^ 128 → line text ≡ end_line (end.Budget need) names steps → ⊥)
    → FindsTold names steps text None
nothing-told names steps text f g o b r is = none-told names steps text f g o b is.0 is.1 is.2
