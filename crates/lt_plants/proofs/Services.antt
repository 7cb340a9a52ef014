-- What a service took and sent.
use Rattle.std.proofs.Common.{◌≡◌, ◌≢◌, ℕ, ◌<◌, ◌≤◌, List, [], ◌++◌, length, take, append-nil, subst, sym, ap, refl, ◌∙◌, arith, Bool, None, Some, inl, inr}
use Rattle.std.proofs.KnownBytes.{Appends-trans, Consumes-trans}
use Rattle.std.specs.Io.KnownBytes.{Appends, Consumes, IsAtEnd, Keeps}
use Rattle.std.specs.declared.option.Option.{Option}
use Rattle.lt_io.specs.Causes.{WhereTold}
use Rattle.lt_plants.specs.Service.{input_of, longest_line, most_taken, ended, IsDue, IsServed}
use Rattle.lt_plants.specs.inner.Endings.{code_of}
use Rattle.lt_plants.specs.inner.Going.{GoesOn, EndsAfter, Serves, due_after}
use Rattle.lt_plants.specs.declared.plant.Plant.{Plant}
use Rattle.lt_plants.specs.declared.ending.Ending.{Ending}
use Rattle.lt_plants.specs.declared.ending.Ending.TheVariants as ending
use Rattle.lt_plants.proofs.Ways.{way_ends}

-- what was sent stays sent
pub sent_kept : (a b c : Option (List ℕ)) (sent : List ℕ) → Appends a b sent → Keeps b c → Appends a c sent
sent_kept None b c sent p q = tt
sent_kept (Some x) None c sent p q = absurd p
sent_kept (Some x) (Some y) None sent p q = absurd q
sent_kept (Some x) (Some y) (Some z) sent p q = q ∙ p

-- a way goes on where nothing is sent
pub way_kept : (a b c : Option (List ℕ)) (plant plant' : Plant) (last last' : Bool) (text before : List ℕ) →
    GoesOn a b (λ bytes. due_after plant last [] (before ++ bytes)) (due_after plant' last' text) → Keeps b c → GoesOn a c (λ bytes. due_after plant last [] (before ++ bytes)) (due_after plant' last' text)
way_kept a b c plant plant' last last' text before way kept = (way.0, sent_kept a b c way.0 way.1 kept, way.2)

-- nothing more was taken
none_more : (a b c : Option (List ℕ)) (bytes buffer : List ℕ) (count : ℕ) → count ≡ 0 → Consumes a b bytes → Consumes b c (take count buffer) → Consumes a c bytes
none_more a b c bytes buffer count z p q =
    let P : List ℕ → Type 0 = λ t. Consumes a c t in
    let none : bytes ++ take count buffer ≡ bytes = rw z (append-nil bytes) in
    subst P none (Consumes-trans a b c bytes (take count buffer) p q)

-- a service ends at the end of the input
pub served_end : (plant plant' : Plant) (last last' : Bool) (text : List ℕ) (l0 l1 l2 s0 s1 s2 : Option (List ℕ)) (bytes buffer : List ℕ) (count taken : ℕ) →
    taken ≡ length bytes → taken < most_taken → Consumes l0 l1 bytes → Consumes l1 l2 (take count buffer) → count ≡ 0 → IsAtEnd l2 →
    GoesOn s0 s1 (λ more. due_after plant last [] (bytes ++ more)) (due_after plant' last' text) → Keeps s1 s2 → length text ≤ longest_line →
    Serves plant last l0 l2 s0 s2 ending.Ended
served_end plant plant' last last' text l0 l1 l2 s0 s1 s2 bytes buffer count taken long few p q z over way kept short =
    let due = way.2 [] [] 0 (ended plant' last' text short) in
    let P : List ℕ → Type 0 = λ t. IsDue plant last (input_of [] t) (way.0 ++ []) 0 in
    let Q : List ℕ → Type 0 = λ t. IsDue plant last (input_of [] bytes) t 0 in
    (bytes, none_more l0 l1 l2 bytes buffer count z p q, over, omega (arith, long, few), (way.0, sent_kept s0 s1 s2 way.0 way.1 kept, subst Q (append-nil way.0) (subst P (append-nil bytes) due)))

-- a service ends in a piece
pub served_after : (e : Ending) (plant plant' : Plant) (last last' : Bool) (text : List ℕ) (l0 l3 s0 s2 s3 : Option (List ℕ)) (bytes piece : List ℕ) (taken : ℕ) →
    taken ≡ length (bytes ++ piece) → Consumes l0 l3 (bytes ++ piece) →
    GoesOn s0 s2 (λ more. due_after plant last [] (bytes ++ more)) (due_after plant' last' text) → EndsAfter s2 s3 (λ more. due_after plant' last' text (piece ++ more)) taken e →
    Serves plant last l0 l3 s0 s3 e
served_after ending.Failed plant plant' last last' text l0 l3 s0 s2 s3 bytes piece taken long p way h = tt
served_after ending.Ended plant plant' last last' text l0 l3 s0 s2 s3 bytes piece taken long p way h = absurd h
served_after ending.NoReply plant plant' last last' text l0 l3 s0 s2 s3 bytes piece taken long p way h =
    let few = h.0 in (bytes ++ piece, p, omega (arith, long, few), way_ends s0 s2 s3 plant plant' last last' text bytes piece 1 way h.1)
served_after ending.TooLong plant plant' last last' text l0 l3 s0 s2 s3 bytes piece taken long p way h =
    let few = h.0 in (bytes ++ piece, p, omega (arith, long, few), way_ends s0 s2 s3 plant plant' last last' text bytes piece 2 way h.1)
served_after ending.TooMany plant plant' last last' text l0 l3 s0 s2 s3 bytes piece taken long p way h =
    let many = h.0 in
    let P : List ℕ → Type 0 = λ t. IsDue plant last (input_of [] (bytes ++ t)) (way.0 ++ h.1.0) h.1.1 in
    (bytes ++ piece, p, omega (arith, long, many), (way.0 ++ h.1.0, h.1.1, Appends-trans s0 s2 s3 way.0 h.1.0 way.1 h.1.2, subst P (append-nil piece) (way.2 (piece ++ []) h.1.0 h.1.1 h.1.3)))

-- what was taken of told bytes, and what is left of them
told_at : (xs : List ℕ) (left : Option (List ℕ)) (taken : List ℕ) → Consumes (Some xs) left taken → (ys : List ℕ) × (left ≡ Some ys) × (xs ≡ taken ++ ys)
told_at xs None taken h = absurd h
told_at xs (Some ys) taken h = (ys, refl, h)

-- a service of bytes that are told
pub served_told : (e : Ending) (plant : Plant) (last : Bool) (l0 l1 s0 s1 : Option (List ℕ)) → Serves plant last l0 l1 s0 s1 e → code_of e ≢ 9 → WhereTold l0 (λ bytes. IsServed plant last bytes l1 s0 s1 (code_of e))
served_told e plant last None l1 s0 s1 h other = tt
served_told ending.Failed plant last (Some xs) l1 s0 s1 h other = absurd (other refl)
served_told ending.Ended plant last (Some xs) None s0 s1 h other = absurd h.1
served_told ending.Ended plant last (Some xs) (Some ys) s0 s1 h other =
    let all : xs ≡ h.0 = h.1 ∙ ap (λ t. h.0 ++ t) h.2 ∙ append-nil h.0 in
    let P : List ℕ → Type 0 = λ t. IsDue plant last (input_of [] t) h.4.0 0 in
    record { taken = h.0; after = ys; takes = h.1; leaves = refl; replies = h.4.0; sends = h.4.1; number = 0; answers = inl (h.3, subst P (sym all) h.4.2, refl) }
served_told ending.NoReply plant last (Some xs) l1 s0 s1 h other =
    let told = told_at xs l1 h.0 h.1 in
    let P : List ℕ → Type 0 = λ t. IsDue plant last (input_of [] t) h.3.0 1 in
    record { taken = h.0; after = told.0; takes = told.2; leaves = told.1; replies = h.3.0; sends = h.3.1; number = 1; answers = inl (h.2, subst P (sym told.2) (h.3.2 told.0), refl) }
served_told ending.TooLong plant last (Some xs) l1 s0 s1 h other =
    let told = told_at xs l1 h.0 h.1 in
    let P : List ℕ → Type 0 = λ t. IsDue plant last (input_of [] t) h.3.0 2 in
    record { taken = h.0; after = told.0; takes = told.2; leaves = told.1; replies = h.3.0; sends = h.3.1; number = 2; answers = inl (h.2, subst P (sym told.2) (h.3.2 told.0), refl) }
served_told ending.TooMany plant last (Some xs) l1 s0 s1 h other =
    let told = told_at xs l1 h.0 h.1 in
    record { taken = h.0; after = told.0; takes = told.2; leaves = told.1; replies = h.3.0; sends = h.3.2; number = h.3.1; answers = inr (h.2, h.3.3, refl) }

-- the number of a failed link is of no other ending
pub failed_code : (e : Ending) (n : ℕ) → n ≡ code_of e → n ≡ 9 → e ≡ ending.Failed
failed_code ending.Ended n is nine = absurd (omega (arith, is, nine))
failed_code ending.NoReply n is nine = absurd (omega (arith, is, nine))
failed_code ending.TooLong n is nine = absurd (omega (arith, is, nine))
failed_code ending.TooMany n is nine = absurd (omega (arith, is, nine))
failed_code ending.Failed n is nine = refl

pub other_code : (e : Ending) (n : ℕ) → n ≡ code_of e → n ≢ 9 → e ≢ ending.Failed
other_code e n is other failed = other (is ∙ ap code_of failed)
