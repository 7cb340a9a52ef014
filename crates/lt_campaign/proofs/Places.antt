-- The first sessions of a round took their parts, one after another.
use Rattle.std.proofs.Common.{◌≡◌, ◌≢◌, ◌<◌, ◌≤◌, ◌+◌, ◌-◌, ◌⊎◌, inl, inr, ℕ, zero, suc, List, [], ◌∷◌, ◌++◌, Some, length, length-append, append_assoc, append-nil, take, map, set, get_or, option_map, refl, ap, ◌∙◌, sym, subst, arith}
use Rattle.std.specs.Prelude.{slice_get}
use Rattle.std.specs.declared.option.Option.{Option}
use Rattle.std.proofs.lemmas.Option.{slice_get-get_or, slice_get_past, slice_get_within, slice_get-map}
use Rattle.std.proofs.lemmas.List.{get_or-set_same, get_or-set_other, take_at}
use Rattle.std.proofs.Math.ListN.{length-set, length-map}
use Rattle.lt_io.specs.Sink.{Sink}
use Rattle.lt_campaign.specs.Campaign.{IsCutText}
use Rattle.lt_campaign.specs.Rounds.{IsRoundTo, Parts, framed, part_text}
use Rattle.lt_campaign.specs.Session.{Session, TakesItsPart}
use Rattle.lt_campaign.specs.inner.Parting.{Parted, PartedNot, Rounded, RoundedNot, early, late}
use Rattle.lt_campaign.specs.inner.Writing.{HasText}
use Rattle.lt_campaign.proofs.Writing.{cut_more}

-- ---- lists

-- what is put at a place is there
placed : {A : Type 0} (xs : List A) (i : ℕ) (y : A) → i < length xs → slice_get (set xs i y) i ≡ Some y
placed xs i y at =
    let within : i < length (set xs i y) = rw length-set at in
    slice_get-get_or (set xs i y) i y within ∙ ap Some (get_or-set_same xs i y y at)

within_or : (j n : ℕ) → (j < n) ⊎ (n ≤ j)
within_or j n = grind arith

own_or : (i n : ℕ) → (i ≡ n) ⊎ (i ≢ n)
own_or i n = grind arith

-- and nothing else changes
kept : {A : Type 0} (xs : List A) (i j : ℕ) (y : A) → j ≢ i → slice_get (set xs i y) j ≡ slice_get xs j
kept xs i j y other =
    elim (within_or j (length xs)) as (λ _. slice_get (set xs i y) j ≡ slice_get xs j) [
      | inl at ↦
          let within : j < length (set xs i y) = rw length-set at in
          slice_get-get_or (set xs i y) j y within ∙ ap Some (get_or-set_other xs i j y y other) ∙ sym (slice_get-get_or xs j y at)
      | inr past ↦
          let beyond : length (set xs i y) ≤ j = rw length-set past in
          slice_get_past (set xs i y) j beyond ∙ sym (slice_get_past xs j past)
    ]

some_same : {A : Type 0} (x y : A) → Some x ≡ Some y → x ≡ y
some_same x y e = cc e

front : {A : Type 0} (ps : List A) (q : A) (i : ℕ) → i < length ps → slice_get (ps ++ q ∷ []) i ≡ slice_get ps i
front [] q i l = absurd (omega (arith, l))
front (p ∷ ps) q zero l = refl
front (p ∷ ps) q (suc i) l = front ps q i (omega (arith, l))

last : {A : Type 0} (ps : List A) (q : A) → slice_get (ps ++ q ∷ []) (length ps) ≡ Some q
last [] q = refl
last (p ∷ ps) q = last ps q

-- ---- frames

-- the frames of parts and one more
pub framed_snoc : (k : ℕ) (ps : Parts) (q : Option (List ℕ)) → framed k (ps ++ q ∷ []) ≡ framed k ps ++ part_text (k + length ps) q
framed_snoc k [] q = let e : k + 0 ≡ k = omega arith in append-nil (part_text k q) ∙ ap (λ n. part_text n q) (sym e)
framed_snoc k (p ∷ ps) q =
    let e : k + 1 + length ps ≡ k + (suc (length ps)) = omega arith in
    ap (λ w. part_text k p ++ w) (framed_snoc (k + 1) ps q) ∙ sym (append_assoc (part_text k p) (framed (k + 1) ps) (part_text (k + 1 + length ps) q))
    ∙ ap (λ n. (part_text k p ++ framed (k + 1) ps) ++ part_text n q) e

-- the frames of the first parts are no longer than those of all
framed_front : (k n : ℕ) (ps : Parts) → length (framed k (take n ps)) ≤ length (framed k ps)
framed_front k zero ps = omega arith
framed_front k (suc n) [] = omega arith
framed_front k (suc n) (p ∷ ps) =
    let rest : length (framed (k + 1) (take n ps)) ≤ length (framed (k + 1) ps) = framed_front (k + 1) n ps in
    let some : length (part_text k p ++ framed (k + 1) (take n ps)) ≡ length (part_text k p) + length (framed (k + 1) (take n ps)) = length-append (part_text k p) (framed (k + 1) (take n ps)) in
    let all : length (part_text k p ++ framed (k + 1) ps) ≡ length (part_text k p) + length (framed (k + 1) ps) = length-append (part_text k p) (framed (k + 1) ps) in
    omega arith

-- and so behind a text
front_within : (before : List ℕ) (n : ℕ) (ps : Parts) → length (before ++ framed 0 (take n ps)) ≤ length (before ++ framed 0 ps)
front_within before n ps =
    let some : length (before ++ framed 0 (take n ps)) ≡ length before + length (framed 0 (take n ps)) = length-append before (framed 0 (take n ps)) in
    let all : length (before ++ framed 0 ps) ≡ length before + length (framed 0 ps) = length-append before (framed 0 ps) in
    let less : length (framed 0 (take n ps)) ≤ length (framed 0 ps) = framed_front 0 n ps in
    omega arith

module _ {State : Type 0} where
  -- ---- so many sessions took their parts

  pub none_parted : (old : List (Session State)) → IsRoundTo 0 old old []
  none_parted old = record { within = omega arith; same_number = refl; as_many = refl; parted = λ i s t p e f g. absurd (cc g); others = λ i l. refl }

  module _ {A : Type 0} (view : A → Session State) (old : List (Session State)) (xs : List A) (n : ℕ) (x y : A) (parts : Parts)
      (at : n < length xs) (is : x ≡ get_or xs n x) (same : view y ≡ view x) (begun : IsRoundTo n old (map view xs) parts) where
    same_there : (i : ℕ) → (i ≡ n) ⊎ (i ≢ n) → slice_get (map view (set xs n y)) i ≡ slice_get (map view xs) i
    same_there i (inl own) =
        let now_is = slice_get-map view (set xs n y) n ∙ ap (option_map view) (placed xs n y at) ∙ ap Some same in
        let then_is = slice_get-map view xs n ∙ ap (option_map view) (slice_get-get_or xs n x at ∙ ap Some (sym is)) in
        subst (λ j. slice_get (map view (set xs n y)) j ≡ slice_get (map view xs) j) (sym own) (now_is ∙ sym then_is)
    same_there i (inr other) = slice_get-map view (set xs n y) i ∙ ap (option_map view) (kept xs n i y other) ∙ sym (slice_get-map view xs i)

    -- where one was put back as it was, the same took their parts
    pub same_parted : IsRoundTo n old (map view (set xs n y)) parts
    same_parted = record {
      within = begun.within;
      same_number = length-map (set xs n y) view ∙ length-set xs n y ∙ sym (length-map xs view) ∙ begun.same_number;
      as_many = begun.as_many;
      parted = λ i s t q e f g. begun.parted i s t q e (sym (same_there i (own_or i n)) ∙ f) g;
      others = λ i l. same_there i (own_or i n) ∙ begun.others i l;
    }

  module _ {A : Type 0} (view : A → Session State) (old : List (Session State)) (xs : List A) (n : ℕ) (x y : A) (parts : Parts) (p : Option (List ℕ))
      (at : n < length xs) (is : x ≡ get_or xs n x) (takes : TakesItsPart (view x) (view y) p) (begun : IsRoundTo n old (map view xs) parts) where
    now_here : slice_get (map view (set xs n y)) n ≡ Some (view y)
    now_here = slice_get-map view (set xs n y) n ∙ ap (option_map view) (placed xs n y at)

    then_here : slice_get old n ≡ Some (view x)
    then_here = sym (begun.others n (omega arith)) ∙ slice_get-map view xs n ∙ ap (option_map view) (slice_get-get_or xs n x at ∙ ap Some (sym is))

    now_others : (i : ℕ) → i ≢ n → slice_get (map view (set xs n y)) i ≡ slice_get (map view xs) i
    now_others i other = slice_get-map view (set xs n y) i ∙ ap (option_map view) (kept xs n i y other) ∙ sym (slice_get-map view xs i)

    -- and one more did
    pub one_more_parted : IsRoundTo (n + 1) old (map view (set xs n y)) (parts ++ p ∷ [])
    one_more_parted = record {
      within = let many = begun.same_number in let own = length-map xs view in omega (arith, many, own, at);
      same_number = length-map (set xs n y) view ∙ length-set xs n y ∙ sym (length-map xs view) ∙ begun.same_number;
      as_many = length-append parts (p ∷ []) ∙ ap (λ k. k + 1) begun.as_many;
      parted = λ i s t q e f g. by_place i s t q e f g (within_or i n);
      others = λ i l. now_others i (λ k. absurd (omega (arith, l, k))) ∙ begun.others i (omega (arith, l));
    }
      where
        within_parts : (i : ℕ) (q : Option (List ℕ)) → slice_get (parts ++ p ∷ []) i ≡ Some q → i < n + 1
        within_parts i q g = let inside = slice_get_within (parts ++ p ∷ []) i q g in let many = length-append parts (p ∷ []) in let count = begun.as_many in omega (arith, inside, many, count)

        by_place : (i : ℕ) (s t : Session State) (q : Option (List ℕ)) → slice_get old i ≡ Some s → slice_get (map view (set xs n y)) i ≡ Some t → slice_get (parts ++ p ∷ []) i ≡ Some q → (i < n) ⊎ (n ≤ i) → TakesItsPart s t q
        by_place i s t q e f g (inl k) =
            let inside : i < length parts = subst (λ j. i < j) (sym begun.as_many) k in
            begun.parted i s t q e (sym (now_others i (λ same. absurd (omega (arith, k, same)))) ∙ f) (sym (front parts p i inside) ∙ g)
        by_place i s t q e f g (inr k) =
            let l = within_parts i q g in
            let own : i ≡ n = omega (arith, k, l) in
            let final : i ≡ length parts = own ∙ sym begun.as_many in
            let first : view x ≡ s = some_same (view x) s (sym then_here ∙ ap (slice_get old) (sym own) ∙ e) in
            let second : view y ≡ t = some_same (view y) t (sym now_here ∙ ap (slice_get (map view (set xs n y))) (sym own) ∙ f) in
            let third : p ≡ q = some_same p q (sym (last parts p) ∙ ap (slice_get (parts ++ p ∷ [])) (sym final) ∙ g) in
            subst (TakesItsPart s t) third (subst (λ u. TakesItsPart s u p) second (subst (λ u. TakesItsPart u (view y) p) first takes))

    -- the text of one more
    one_more_text : (before : List ℕ) → (before ++ framed 0 parts) ++ part_text n p ≡ before ++ framed 0 (parts ++ p ∷ [])
    one_more_text before =
        let count : 0 + length parts ≡ n = let e = begun.as_many in omega (arith, e) in
        append_assoc before (framed 0 parts) (part_text n p) ∙ ap (λ (t : List ℕ). before ++ t) (ap (λ k. framed 0 parts ++ part_text k p) (sym count) ∙ sym (framed_snoc 0 parts p))

  -- the sessions before a place took their parts, and their frames were put behind a text
  pub record BegunTo (n : ℕ) (old new : List (Session State)) (start now : Sink) (waiting before : List ℕ) : Type 0 where
    pub parts : Parts
    pub round : IsRoundTo n old new parts
    pub text : HasText start now waiting (before ++ framed 0 parts)

  pub none_begun : (old : List (Session State)) (start now : Sink) (waiting before : List ℕ) → HasText start now waiting before → BegunTo 0 old old start now waiting before
  none_begun old start now waiting before has = record { parts = []; round = none_parted old; text = subst (HasText start now waiting) (sym (append-nil before)) has }

  pub all_begun : (n : ℕ) (old new : List (Session State)) (start now : Sink) (waiting before : List ℕ) → n ≡ length old → BegunTo n old new start now waiting before → Rounded old new start now waiting before
  all_begun n old new start now waiting before all begun = record { parts = begun.parts; round = subst (λ k. IsRoundTo k old new begun.parts) all begun.round; text = begun.text }

  module _ {A : Type 0} (view : A → Session State) (old : List (Session State)) (xs : List A) (n : ℕ) (x y : A) (start now after : Sink) (waiting waiting' before : List ℕ)
      (at : n < length xs) (is : x ≡ get_or xs n x) (begun : BegunTo n old (map view xs) start now waiting before) where
    -- one more took its part, and its frame was put
    pub one_more : Parted n (view x) (view y) start after waiting' (before ++ framed 0 begun.parts) → BegunTo (n + 1) old (map view (set xs n y)) start after waiting' before
    one_more parted = record {
      parts = begun.parts ++ parted.part ∷ [];
      round = one_more_parted view old xs n x y begun.parts parted.part at is parted.takes begun.round;
      text = subst (HasText start after waiting') (one_more_text view old xs n x y begun.parts parted.part at is parted.takes begun.round before) parted.text;
    }

    -- a write failed there
    pub not_one_more : PartedNot n (view x) (view y) start after (before ++ framed 0 begun.parts) → RoundedNot old (map view (set xs n y)) start after before
    not_one_more (early same cut) = record {
      count = n;
      parts = begun.parts;
      round = same_parted view old xs n x y begun.parts at is same begun.round;
      cut =
          let all = before ++ framed 0 begun.parts in
          let shorter = before ++ framed 0 (take (n - 1) begun.parts) in
          subst (IsCutText start after shorter) (append-nil all) (cut_more start after all all shorter [] (front_within before (n - 1) begun.parts) cut);
    }
    not_one_more (late part takes cut) = record {
      count = n + 1;
      parts = begun.parts ++ part ∷ [];
      round = one_more_parted view old xs n x y begun.parts part at is takes begun.round;
      cut =
          let many = begun.round.as_many in
          let first : take (n + 1 - 1) (begun.parts ++ part ∷ []) ≡ begun.parts = take_at begun.parts (part ∷ []) (n + 1 - 1) (omega (arith, many)) in
          let all = begun.parts ++ part ∷ [] in
          subst (λ (ps : Parts). IsCutText start after (before ++ framed 0 ps) (before ++ framed 0 all)) (sym first)
          (subst (IsCutText start after (before ++ framed 0 begun.parts)) (one_more_text view old xs n x y begun.parts part at is takes begun.round before) cut);
    }
