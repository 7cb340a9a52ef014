-- The links of a command.
use Rattle.std.proofs.Common.{◌≡◌, ℕ, List, [], ◌∷◌, Some, refl, ap, sym, ◌∙◌, Bool, true, false, string_bytes, if◌then◌else◌}
use Rattle.std.specs.Str.{bytes_eq}
use Rattle.std.proofs.lemmas.Slice.Eq.{bytes_eq-Decides}
use Rattle.std.specs.declared.string.String.{String}
use Rattle.std.specs.declared.alloc.Global.{Global}
use Rattle.lt_io.specs.ScriptState.{ScriptState}
use Rattle.lt_io.specs.MemSpawner.{first_link, without_first, lefts_of}
use Rattle.lt_io.specs.Programs.{Starts}

some_left_at : (b : Bool) (l : String Global × ScriptState) (ls : List (String Global × ScriptState)) (command : List ℕ) (link : ScriptState) →
    b ≡ bytes_eq (string_bytes l.0) command → (first_link ls command ≡ Some link → lefts_of ls command ≡ link.left ∷ lefts_of (without_first ls command) command) → (if b then Some l.1 else first_link ls command) ≡ Some link →
    (if b then l.1.left ∷ lefts_of ls command else lefts_of ls command) ≡ link.left ∷ lefts_of (if b then ls else l ∷ without_first ls command) command
some_left_at true l ls command link same more h = let e : l.1 ≡ link = cc in ap (λ (k : ScriptState). k.left ∷ lefts_of ls command) e
some_left_at false l ls command link same more h = rw (← same) (more h)

-- where a command has a first link, that is the first of what its links have left
pub some_left : (ls : List (String Global × ScriptState)) (command : List ℕ) (link : ScriptState) → first_link ls command ≡ Some link → lefts_of ls command ≡ link.left ∷ lefts_of (without_first ls command) command
some_left [] command link h = (cc)
some_left (l ∷ ls) command link h = some_left_at (bytes_eq (string_bytes l.0) command) l ls command link refl (some_left ls command link) h

-- the first link of a command is the first of those to come
pub starts_first : (ls new : List (String Global × ScriptState)) (command : List ℕ) (link : ScriptState) (left : List ℕ) → first_link ls command ≡ Some link → new ≡ without_first ls command → left ≡ link.left → Starts (Some (lefts_of ls command)) (Some (lefts_of new command)) (Some left)
starts_first ls new command link left h n e = rw (some_left ls command link h, n, e) (refl, refl)

others_stay_at : (b c : Bool) (l : String Global × ScriptState) (ls : List (String Global × ScriptState)) (command other : List ℕ) →
    c ≡ bytes_eq (string_bytes l.0) other → (b ≡ true → c ≡ true → ⊥) → lefts_of (without_first ls command) other ≡ lefts_of ls other →
    lefts_of (if b then ls else l ∷ without_first ls command) other ≡ (if c then l.1.left ∷ lefts_of ls other else lefts_of ls other)
others_stay_at true true l ls command other same apart more = absurd (apart refl refl)
others_stay_at true false l ls command other same apart more = refl
others_stay_at false true l ls command other same apart more = rw (← same) (ap (λ t. l.1.left ∷ t) more)
others_stay_at false false l ls command other same apart more = rw (← same) more

-- the links of other commands stay
pub others_stay : (ls : List (String Global × ScriptState)) (command other : List ℕ) → (other ≡ command → ⊥) → lefts_of (without_first ls command) other ≡ lefts_of ls other
others_stay [] command other h = refl
others_stay (l ∷ ls) command other h =
    others_stay_at (bytes_eq (string_bytes l.0) command) (bytes_eq (string_bytes l.0) other) l ls command other refl (λ p q. h (sym ((bytes_eq-Decides (string_bytes l.0) other).0 q) ∙ (bytes_eq-Decides (string_bytes l.0) command).0 p)) (others_stay ls command other h)
