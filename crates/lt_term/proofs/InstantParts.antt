-- Instants by what they are made of.
use Rattle.std.proofs.Common.{◌≡◌, ◌<◌, ℕ, IsTrue, List, ◌++◌, length, get_or, refl, ap, sym, ◌∙◌, subst, append_assoc}
use Rattle.std.proofs.lemmas.Bool.{ltb-true}
use Rattle.std.specs.Prelude.{nat_lt}
use Rattle.lt_num.specs.declared.kind.Kind.{Kind}
use Rattle.lt_term.specs.Unfolded.{Instant, instant_by, instant_of}
use Rattle.lt_term.specs.UnfoldedView.{instant_at, instants_of, made_of, rule_of}
use Rattle.lt_term.specs.inner.Linked.{are_made, is_made_before, is_sound}
use Rattle.lt_term.specs.declared.instants.Made.{Made}
use Rattle.lt_term.specs.declared.instants.Made.TheVariants as made
use Rattle.lt_term.specs.declared.last.Last.{Last}
use Rattle.lt_term.specs.declared.waiting.Waiting.{Waiting}
use Rattle.lt_term.specs.declared.waiting.Waiting.TheVariants as wait
use Rattle.lt_term.proofs.Numbered.{instant-there, made-there}
use Rattle.lt_term.proofs.Tests.{left_of, right_of}

-- one part put behind another
pub onto : {A : Type 0} (old mid new part rest whole : List A) → mid ≡ old ++ part → new ≡ mid ++ rest → whole ≡ part ++ rest → new ≡ old ++ whole
onto old mid new part rest whole m n w = n ∙ ap (λ xs. xs ++ rest) m ∙ append_assoc old part rest ∙ ap (λ xs. old ++ xs) (sym w)

-- an instant of one constraint
pub con-there : (ms : List Made) (n : ℕ) (d : Made) (c : ℕ) → IsTrue (are_made 0 ms) → n < length ms → get_or ms n d ≡ made.Con c → (kinds : List Kind) → instant_at kinds ms n ≡ instant_of c
con-there ms n d c h w is kinds = instant-there kinds ms d n h w ∙ ap (made_of kinds (instants_of kinds ms)) is

module _ (ms : List Made) (n : ℕ) (d : Made) (inner : ℕ) (r : Waiting) (h : IsTrue (are_made 0 ms)) (w : n < length ms) (is : get_or ms n d ≡ made.Under inner r) where
  made-before : IsTrue (is_made_before n (made.Under inner r))
  made-before = subst (λ m. IsTrue (is_made_before n m)) is (made-there ms d n h w)

  -- what a rule changes has a smaller number
  pub inner-earlier : inner < n
  inner-earlier = ltb-true inner n (left_of (nat_lt inner n) (is_sound n r) made-before)

  pub rule-there : IsTrue (is_sound n r)
  rule-there = right_of (nat_lt inner n) (is_sound n r) made-before

  -- and so has what it is joined with
  pub first-earlier : (i : ℕ) → r ≡ wait.Joined i → i < n
  first-earlier i e = ltb-true i n (subst (λ q. IsTrue (is_sound n q)) e rule-there)

  -- what a rule makes of an earlier instant
  pub instant-under : (kinds : List Kind) → instant_at kinds ms n ≡ instant_by kinds (rule_of (instant_at kinds ms) r) (instant_at kinds ms inner)
  instant-under kinds = instant-there kinds ms d n h w ∙ ap (made_of kinds (instants_of kinds ms)) is

  pub instant-with : (kinds : List Kind) (q : Waiting) → r ≡ q → instant_at kinds ms n ≡ instant_by kinds (rule_of (instant_at kinds ms) q) (instant_at kinds ms inner)
  instant-with kinds q e = instant-under kinds ∙ ap (λ p. instant_by kinds (rule_of (instant_at kinds ms) p) (instant_at kinds ms inner)) e

-- a rule that is none of these adds nothing to an instant
module _ (kinds : List Kind) (at : ℕ → Instant ℕ) (i : Instant ℕ) where
  pub same-constraints : (r : Waiting) → ((x : ℕ) → r ≡ wait.Joined x → ⊥) → ((x : ℕ) → r ≡ wait.Assert x → ⊥) → (instant_by kinds (rule_of at r) i).constraints ≡ i.constraints
  same-constraints (wait.Seq b) j a = refl
  same-constraints (wait.Turn t) j a = refl
  same-constraints (wait.Again k done t) j a = refl
  same-constraints (wait.Par b) j a = refl
  same-constraints (wait.Joined k) j a = absurd (j k refl)
  same-constraints (wait.Assert c) j a = absurd (a c refl)
  same-constraints (wait.Exist x v) j a = refl
  same-constraints (wait.Catch z t) j a = refl
  same-constraints (wait.Try t) j a = refl

  pub same-locals : (r : Waiting) → ((x : ℕ) → r ≡ wait.Joined x → ⊥) → ((x : ℕ) (v : Last) → r ≡ wait.Exist x v → ⊥) → (instant_by kinds (rule_of at r) i).locals ≡ i.locals
  same-locals (wait.Seq b) j a = refl
  same-locals (wait.Turn t) j a = refl
  same-locals (wait.Again k done t) j a = refl
  same-locals (wait.Par b) j a = refl
  same-locals (wait.Joined k) j a = absurd (j k refl)
  same-locals (wait.Assert c) j a = refl
  same-locals (wait.Exist x v) j a = absurd (a x v refl)
  same-locals (wait.Catch z t) j a = refl
  same-locals (wait.Try t) j a = refl

-- a rule that joins nothing names no instant
pub alone-sound : (n : ℕ) (r : Waiting) → ((x : ℕ) → r ≡ wait.Joined x → ⊥) → IsTrue (is_sound n r) → IsTrue (is_sound 0 r)
alone-sound n (wait.Seq b) j h = h
alone-sound n (wait.Turn t) j h = h
alone-sound n (wait.Again k done t) j h = h
alone-sound n (wait.Par b) j h = h
alone-sound n (wait.Joined k) j h = absurd (j k refl)
alone-sound n (wait.Assert c) j h = h
alone-sound n (wait.Exist x v) j h = h
alone-sound n (wait.Catch z t) j h = h
alone-sound n (wait.Try t) j h = h
