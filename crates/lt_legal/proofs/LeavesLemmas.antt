-- Legal leaves as a list.
use Rattle.std.proofs.Common.{◌≡◌, ◌≢◌, ◌+◌, ◌⊎◌, inl, inr, ℕ, nat_lt, Bool, true, false, List, [], ◌∷◌, ◌++◌, refl, subst, arith, if◌then◌else◌}
use Rattle.std.proofs.lemmas.Bool.Decides.{Decides-ltb}
use Rattle.lt_term.specs.Evaluated.{Outlook, Evaluated, leaf, ordered, weighted, spoilt, Parts, no_part, part, node_count}
use Rattle.lt_term.specs.Live.{HasLive, IsLegal, IsLegalInOne, OneHasLive}
use Rattle.lt_term.specs.Tree.{Lasts}
use Rattle.lt_term.specs.Scene.{Scene}
use Rattle.lt_instant.specs.Drawn.{Met}
use Rattle.lt_instant.specs.Instant.{Judged, Leaf as Leaf'}
use Rattle.lt_instant.specs.Solved.{CanHold}
use Rattle.lt_legal.specs.Leaves.{HasPosition, LegalLeavesTell, Tells, first_nonempty, legal_in_parts, legal_leaves}

either : {P : Type 0} (b : Bool) → (b ≡ true → P) → (b ≡ false → P) → P
either true first second = first refl
either false first second = second refl

first-left : {X : Type 0} (xs ys : List X) → xs ≢ [] → first_nonempty xs ys ≢ []
first-left [] ys some = absurd (some refl)
first-left (x ∷ xs) ys some = λ e. cc

first-right : {X : Type 0} (xs ys : List X) → ys ≢ [] → first_nonempty xs ys ≢ []
first-right [] ys some = some
first-right (x ∷ xs) ys some = λ e. cc

first-back : {X : Type 0} (xs ys : List X) → first_nonempty xs ys ≢ [] → (xs ≢ []) ⊎ (ys ≢ [])
first-back [] ys some = inr some
first-back (x ∷ xs) ys some = inl (λ e. cc)

join-left : {X : Type 0} (xs ys : List X) → xs ≢ [] → xs ++ ys ≢ []
join-left [] ys some = absurd (some refl)
join-left (x ∷ xs) ys some = λ e. cc

join-right : {X : Type 0} (xs ys : List X) → ys ≢ [] → xs ++ ys ≢ []
join-right [] ys some = some
join-right (x ∷ xs) ys some = λ e. cc

join-back : {X : Type 0} (xs ys : List X) → xs ++ ys ≢ [] → (xs ≢ []) ⊎ (ys ≢ [])
join-back [] ys some = inr some
join-back (x ∷ xs) ys some = inl (λ e. cc)

mutual
  live-on : {F N : Type 0} (CanHold : F → Lasts → Type 0) (live : Outlook F N → Bool) → Tells CanHold live → (at : ℕ) (t : Evaluated F N) → HasLive CanHold t → legal_leaves live at t ≢ []
  live-on CanHold live tells at (leaf o) h = rw ((tells o).1 h) (λ e. cc)
  live-on CanHold live tells at (ordered a b) (inl h) = first-left (legal_leaves live (at + 1) a) (legal_leaves live (at + 1 + node_count a) b) (live-on CanHold live tells (at + 1) a h)
  live-on CanHold live tells at (ordered a b) (inr h) = first-right (legal_leaves live (at + 1) a) (legal_leaves live (at + 1 + node_count a) b) (live-on CanHold live tells (at + 1 + node_count a) b h)
  live-on CanHold live tells at (weighted ps) h = parts-on CanHold live tells (at + 1) ps h
  live-on CanHold live tells at (spoilt fault below) h = λ e. cc

  parts-on : {F N : Type 0} (CanHold : F → Lasts → Type 0) (live : Outlook F N → Bool) → Tells CanHold live → (at : ℕ) (ps : Parts F N) → OneHasLive CanHold ps → legal_in_parts live at ps ≢ []
  parts-on CanHold live tells at no_part h = absurd h
  parts-on CanHold live tells at (part w t ps) (inl h) =
      rw ((Decides-ltb 0 w).1 h.0) (join-left (legal_leaves live at t) (legal_in_parts live (at + node_count t) ps) (live-on CanHold live tells at t h.1))
  parts-on CanHold live tells at (part w t ps) (inr h) =
      join-right (if nat_lt 0 w then legal_leaves live at t else []) (legal_in_parts live (at + node_count t) ps) (parts-on CanHold live tells (at + node_count t) ps h)

mutual
  live-back : {F N : Type 0} (CanHold : F → Lasts → Type 0) (live : Outlook F N → Bool) → Tells CanHold live → (at : ℕ) (t : Evaluated F N) → legal_leaves live at t ≢ [] → HasLive CanHold t
  live-back CanHold live tells at (leaf o) some = either (live o) (λ e. (tells o).0 e) (λ e. absurd (some (rw e refl)))
  live-back CanHold live tells at (ordered a b) some =
      elim (first-back (legal_leaves live (at + 1) a) (legal_leaves live (at + 1 + node_count a) b) some) as (λ x. HasLive CanHold (ordered a b)) [
        | inl h ↦ inl (live-back CanHold live tells (at + 1) a h)
        | inr h ↦ inr (live-back CanHold live tells (at + 1 + node_count a) b h)
      ]
  live-back CanHold live tells at (weighted ps) some = parts-back CanHold live tells (at + 1) ps some
  live-back CanHold live tells at (spoilt fault below) some = tt

  parts-back : {F N : Type 0} (CanHold : F → Lasts → Type 0) (live : Outlook F N → Bool) → Tells CanHold live → (at : ℕ) (ps : Parts F N) → legal_in_parts live at ps ≢ [] → OneHasLive CanHold ps
  parts-back CanHold live tells at no_part some = absurd (some refl)
  parts-back CanHold live tells at (part w t ps) some =
      elim (join-back (if nat_lt 0 w then legal_leaves live at t else []) (legal_in_parts live (at + node_count t) ps) some) as (λ x. OneHasLive CanHold (part w t ps)) [
        | inl h ↦ either (nat_lt 0 w) (λ e. inl ((Decides-ltb 0 w).0 e, live-back CanHold live tells at t (rw e at h))) (λ e. absurd (let k = rw e at h in k refl))
        | inr h ↦ inr (parts-back CanHold live tells (at + node_count t) ps h)
      ]

-- ---- positions

has-left : {F N : Type 0} (xs ys : List (Met F N)) (p : ℕ) → HasPosition xs p → HasPosition (xs ++ ys) p
has-left [] ys p h = absurd h
has-left (x ∷ xs) ys p (inl e) = inl e
has-left (x ∷ xs) ys p (inr h) = inr (has-left xs ys p h)

has-right : {F N : Type 0} (xs ys : List (Met F N)) (p : ℕ) → HasPosition ys p → HasPosition (xs ++ ys) p
has-right [] ys p h = h
has-right (x ∷ xs) ys p h = inr (has-right xs ys p h)

has-back : {F N : Type 0} (xs ys : List (Met F N)) (p : ℕ) → HasPosition (xs ++ ys) p → HasPosition xs p ⊎ HasPosition ys p
has-back [] ys p h = inr h
has-back (x ∷ xs) ys p (inl e) = inl (inl e)
has-back (x ∷ xs) ys p (inr h) = elim (has-back xs ys p h) as (λ t. HasPosition (x ∷ xs) p ⊎ HasPosition ys p) [ inl k ↦ inl (inr k) | inr k ↦ inr k ]

has-first : {F N : Type 0} (xs ys : List (Met F N)) (p : ℕ) → HasPosition xs p → HasPosition (first_nonempty xs ys) p
has-first [] ys p h = absurd h
has-first (x ∷ xs) ys p h = h

has-second : {F N : Type 0} (xs ys : List (Met F N)) (p : ℕ) → xs ≡ [] → HasPosition ys p → HasPosition (first_nonempty xs ys) p
has-second [] ys p e h = h
has-second (x ∷ xs) ys p e h = absurd (cc)

has-either : {F N : Type 0} (xs ys : List (Met F N)) (p : ℕ) → HasPosition (first_nonempty xs ys) p → HasPosition xs p ⊎ ((xs ≡ []) × HasPosition ys p)
has-either [] ys p h = inr (refl, h)
has-either (x ∷ xs) ys p h = inl h

at-same : {F N : Type 0} (xs : List (Met F N)) (p q : ℕ) → p ≡ q → HasPosition xs p → HasPosition xs q
at-same xs p q e h = subst (HasPosition xs) e h

is-empty : {X : Type 0} (xs : List X) → (xs ≢ [] → ⊥) → xs ≡ []
is-empty [] h = refl
is-empty (x ∷ xs) h = absurd (h (λ e. cc))

mutual
  legal-on : {F N : Type 0} (CanHold : F → Lasts → Type 0) (live : Outlook F N → Bool) → Tells CanHold live → (at : ℕ) (t : Evaluated F N) (p : ℕ) → IsLegal CanHold t p → HasPosition (legal_leaves live at t) (at + p)
  legal-on CanHold live tells at (leaf o) p h = rw ((tells o).1 h.1) (inl (let e = h.0 in omega arith))
  legal-on CanHold live tells at (ordered a b) p (inl h) =
      let e = h.1 in
      has-first (legal_leaves live (at + 1) a) (legal_leaves live (at + 1 + node_count a) b) (at + p)
      (at-same (legal_leaves live (at + 1) a) (at + 1 + h.0) (at + p) (omega arith) (legal-on CanHold live tells (at + 1) a h.0 h.2))
  legal-on CanHold live tells at (ordered a b) p (inr h) =
      let e = h.1.1 in
      has-second (legal_leaves live (at + 1) a) (legal_leaves live (at + 1 + node_count a) b) (at + p)
      (is-empty (legal_leaves live (at + 1) a) (λ some. h.0 (live-back CanHold live tells (at + 1) a some)))
      (at-same (legal_leaves live (at + 1 + node_count a) b) (at + 1 + node_count a + h.1.0) (at + p) (omega arith) (legal-on CanHold live tells (at + 1 + node_count a) b h.1.0 h.1.2))
  legal-on CanHold live tells at (weighted ps) p h =
      let e = h.1 in at-same (legal_in_parts live (at + 1) ps) (at + 1 + h.0) (at + p) (omega arith) (legal-in-on CanHold live tells (at + 1) ps h.0 h.2)
  legal-on CanHold live tells at (spoilt fault below) p h = inl (omega arith)

  legal-in-on : {F N : Type 0} (CanHold : F → Lasts → Type 0) (live : Outlook F N → Bool) → Tells CanHold live → (at : ℕ) (ps : Parts F N) (p : ℕ) → IsLegalInOne CanHold ps p → HasPosition (legal_in_parts live at ps) (at + p)
  legal-in-on CanHold live tells at no_part p h = absurd h
  legal-in-on CanHold live tells at (part w t ps) p (inl h) =
      rw ((Decides-ltb 0 w).1 h.0) (has-left (legal_leaves live at t) (legal_in_parts live (at + node_count t) ps) (at + p) (legal-on CanHold live tells at t p h.1))
  legal-in-on CanHold live tells at (part w t ps) p (inr h) =
      let e = h.1 in
      has-right (if nat_lt 0 w then legal_leaves live at t else []) (legal_in_parts live (at + node_count t) ps) (at + p)
      (at-same (legal_in_parts live (at + node_count t) ps) (at + node_count t + h.0) (at + p) (omega arith) (legal-in-on CanHold live tells (at + node_count t) ps h.0 h.2))

-- a position, so many further on
record Further (P : ℕ → Type 0) (at q : ℕ) : Type 0 where
  steps : ℕ
  is : q ≡ at + steps
  holds : P steps

mutual
  legal-back : {F N : Type 0} (CanHold : F → Lasts → Type 0) (live : Outlook F N → Bool) → Tells CanHold live → (at : ℕ) (t : Evaluated F N) (q : ℕ) → HasPosition (legal_leaves live at t) q → Further (IsLegal CanHold t) at q
  legal-back CanHold live tells at (leaf o) q h =
      either (live o)
      (λ e. elim (rw e at h) as (λ x. Further (IsLegal CanHold (leaf o)) at q) [ inl k ↦ record { steps = 0; is = omega arith; holds = (refl, (tells o).0 e) } | inr k ↦ absurd k ])
      (λ e. absurd (rw e at h))
  legal-back CanHold live tells at (ordered a b) q h =
      elim (has-either (legal_leaves live (at + 1) a) (legal_leaves live (at + 1 + node_count a) b) q h) as (λ x. Further (IsLegal CanHold (ordered a b)) at q) [
        | inl k ↦ let r = legal-back CanHold live tells (at + 1) a q k in let e = r.is in record { steps = 1 + r.steps; is = omega arith; holds = inl (r.steps, refl, r.holds) }
        | inr k ↦ let r = legal-back CanHold live tells (at + 1 + node_count a) b q k.1 in let e = r.is in
            record { steps = 1 + node_count a + r.steps; is = omega arith; holds = inr ((λ some. live-on CanHold live tells (at + 1) a some k.0), (r.steps, refl, r.holds)) }
      ]
  legal-back CanHold live tells at (weighted ps) q h =
      let r = legal-in-back CanHold live tells (at + 1) ps q h in let e = r.is in record { steps = 1 + r.steps; is = omega arith; holds = (r.steps, refl, r.holds) }
  legal-back CanHold live tells at (spoilt fault below) q (inl e) = record { steps = 0; is = omega arith; holds = refl }
  legal-back CanHold live tells at (spoilt fault below) q (inr h) = absurd h

  legal-in-back : {F N : Type 0} (CanHold : F → Lasts → Type 0) (live : Outlook F N → Bool) → Tells CanHold live → (at : ℕ) (ps : Parts F N) (q : ℕ) → HasPosition (legal_in_parts live at ps) q → Further (IsLegalInOne CanHold ps) at q
  legal-in-back CanHold live tells at no_part q h = absurd h
  legal-in-back CanHold live tells at (part w t ps) q h =
      elim (has-back (if nat_lt 0 w then legal_leaves live at t else []) (legal_in_parts live (at + node_count t) ps) q h) as (λ x. Further (IsLegalInOne CanHold (part w t ps)) at q) [
        | inl k ↦ either (nat_lt 0 w)
            (λ e. let r = legal-back CanHold live tells at t q (rw e at k) in record { steps = r.steps; is = r.is; holds = inl ((Decides-ltb 0 w).0 e, r.holds) })
            (λ e. absurd (rw e at k))
        | inr k ↦ let r = legal-in-back CanHold live tells (at + node_count t) ps q k in let e = r.is in record { steps = node_count t + r.steps; is = omega arith; holds = inr (r.steps, refl, r.holds) }
      ]

positions-back : (s : Scene) (live : Leaf' → Bool) (t : Judged) → Tells (CanHold s) live → (p : ℕ) → HasPosition (legal_leaves live 0 t) p → IsLegal (CanHold s) t p
positions-back s live t tells p h = let r = legal-back (CanHold s) live tells 0 t p h in let e = r.is in subst (IsLegal (CanHold s) t) {x = r.steps} {y = p} (omega arith) r.holds

positions-on : (s : Scene) (live : Leaf' → Bool) (t : Judged) → Tells (CanHold s) live → (p : ℕ) → IsLegal (CanHold s) t p → HasPosition (legal_leaves live 0 t) p
positions-on s live t tells p h = at-same (legal_leaves live 0 t) (0 + p) p (omega arith) (legal-on (CanHold s) live tells 0 t p h)

pub legal_leaves_tell : LegalLeavesTell
legal_leaves_tell s live t tells = ((live-on (CanHold s) live tells 0 t, live-back (CanHold s) live tells 0 t), (λ p. (positions-on s live t tells p, positions-back s live t tells p)))
