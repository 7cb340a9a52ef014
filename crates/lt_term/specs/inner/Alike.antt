-- Numbers that count alike where a tree is large, and what leaves that raise exceptions weigh.
use Rattle.std.specs.Prelude.{◌≡◌, ℕ, ◌*◌, not, nat_eq, List, map, sum_by, if◌then◌else◌}
use Rattle.std.specs.List.{filter}
use Rattle.lt_term.specs.Size.{capped}

-- two numbers are equal, or both too large
abbrev pub IsAlike : ℕ → ℕ → Type 0
IsAlike m n = capped m ≡ capped n

-- what so many leaves of each exception weigh
abbrev pub raises_weight : (ℕ → ℕ) → List (ℕ × ℕ) → ℕ
raises_weight raise rs = sum_by (λ r. r.1 * raise r.0) rs

-- so many times as many leaves
abbrev pub scaled : ℕ → List (ℕ × ℕ) → List (ℕ × ℕ)
scaled n rs = map (λ r. (r.0, capped (n * r.1))) rs

-- how many raise an exception
abbrev pub count_in : ℕ → List (ℕ × ℕ) → ℕ
count_in z rs = sum_by (λ r. if nat_eq r.0 z then r.1 else 0) rs

-- those that raise another one
abbrev pub without : ℕ → List (ℕ × ℕ) → List (ℕ × ℕ)
without z rs = filter (λ r. not (nat_eq r.0 z)) rs
