-- The parts of tests, and their answers on bytes.
use Rattle.std.proofs.Common.{◌≡◌, Bool, true, false, ◌&&◌, ◌||◌, refl}

pub both : (a b : Bool) → a ≡ true → b ≡ true → (a && b) ≡ true
both true b h k = k
both false b h k = h

pub left_of : (a b : Bool) → (a && b) ≡ true → a ≡ true
left_of true b h = refl
left_of false b h = h

pub right_of : (a b : Bool) → (a && b) ≡ true → b ≡ true
right_of true b h = h
right_of false b h = absurd (cc)

pub left_or : (a b : Bool) → a ≡ true → (a || b) ≡ true
left_or true b h = refl
left_or false b h = absurd (cc)

pub right_or : (a b : Bool) → b ≡ true → (a || b) ≡ true
right_or true b h = refl
right_or false b h = h

-- of two tests of which one holds, the second does where the first doesn't
pub other_or : (a b : Bool) → (a || b) ≡ true → a ≡ false → b ≡ true
other_or true b h k = absurd (cc)
other_or false b h k = h

pub neither : (a b : Bool) → a ≡ false → b ≡ false → (a || b) ≡ false
neither true b h k = h
neither false b h k = k

pub left_neither : (a b : Bool) → (a || b) ≡ false → a ≡ false
left_neither true b h = h
left_neither false b h = refl

pub right_neither : (a b : Bool) → (a || b) ≡ false → b ≡ false
right_neither true b h = absurd (cc)
right_neither false b h = h

pub is_false : (b : Bool) → (b ≡ true → ⊥) → b ≡ false
is_false true h = absurd (h refl)
is_false false h = refl

pub first_or : (a b : Bool) → (a || b) ≡ true → b ≡ false → a ≡ true
first_or true b h k = refl
first_or false b h k = absurd (cc)

pub left_false : (a b : Bool) → a ≡ false → (a && b) ≡ false
left_false true b h = absurd (cc)
left_false false b h = refl
