-- How many sessions ended well, one after another.
use Rattle.std.proofs.Common.{◌≡◌, ◌<◌, ◌≤◌, ◌+◌, ℕ, Bool, true, false, List, ◌∷◌, if◌then◌else◌, drop, get_or, length, map, refl, ap, ◌∙◌, sym, arith}
use mir.Val.{bool_byte}
use Rattle.std.proofs.lemmas.List.{at_drop_more}
use Rattle.lt_campaign.specs.Campaign.{ends_well, well_count}
use Rattle.lt_campaign.specs.Session.{Session, outcome_of}

-- one or none
pub one_at_most : (b : Bool) → (if b then 1 else 0) ≤ 1
one_at_most true = omega arith
one_at_most false = omega arith

-- a truth as a number
pub byte_is : (b : Bool) → bool_byte b ≡ (if b then 1 else 0)
byte_is true = refl
byte_is false = refl

-- one session more
pub well_one_more : {State A : Type 0} (view : A → Session State) (xs : List A) (i : ℕ) (x : A) (count one : ℕ) → i < length xs → x ≡ get_or xs i x → one ≡ (if ends_well (outcome_of (view x)) then 1 else 0) →
    count + well_count (map view (drop i xs)) ≡ well_count (map view xs) → (count + one) + well_count (map view (drop (i + 1) xs)) ≡ well_count (map view xs)
well_one_more view xs i x count one at is now so_far =
    let rest = well_count (map view (drop (i + 1) xs)) in
    let whole : well_count (map view (drop i xs)) ≡ well_count (map view (get_or xs i x ∷ drop (i + 1) xs)) = at_drop_more (λ ss. well_count (map view ss)) xs i x at in
    let same : well_count (map view (drop i xs)) ≡ one + rest = whole ∙ ap (λ s. (if ends_well (outcome_of (view s)) then 1 else 0) + rest) (sym is) ∙ ap (λ n. n + rest) (sym now) in
    omega arith
