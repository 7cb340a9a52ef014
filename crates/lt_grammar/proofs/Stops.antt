-- A text has one place where reading must stop, and a text that spells a tree has none.
use Rattle.std.proofs.Common.{◌≡◌, [], ◌∷◌, ◌++◌, refl, sym, ◌∙◌, ap, subst, ℕ, suc, ◌⊎◌, inl, inr}
use Rattle.std.proofs.lemmas.List.{append_assoc, append-nil}
use Rattle.lt_grammar.specs.Lexemes.{Lexeme, Lexemes}
use Rattle.lt_grammar.specs.Program.{IsViableWithin, NoneContinues, IsUnexpected, IsTooDeep}
use Rattle.lt_grammar.specs.Nesting.{most_levels}

-- TWO WAYS TO PART A TEXT

-- The first token of the rest belongs to this other front too.
abbrev pub IsPast : Lexemes → Lexemes → Lexemes → Type 0
IsPast before rest other = (u : Lexeme) × (us : Lexemes) × (m : Lexemes) × (rest ≡ u ∷ us) × (other ≡ (before ++ u ∷ []) ++ m)

-- Two parts are the same.
abbrev AreSame : Lexemes → Lexemes → Lexemes → Lexemes → Type 0
AreSame a b c d = (a ≡ c) × (b ≡ d)

-- The fronts are the same, or one reaches past the other.
abbrev Compared : Lexemes → Lexemes → Lexemes → Lexemes → Type 0
Compared a b c d = AreSame a b c d ⊎ (IsPast a b c ⊎ IsPast c d a)

-- equal texts begin with equal tokens
same_head : (v w : Lexeme) (a c : Lexemes) → ◌≡◌ {A = Lexemes} (v ∷ a) (w ∷ c) → v ≡ w
same_head v w a c e = cc

-- and go on with equal ones
same_tail : (v w : Lexeme) (a c : Lexemes) → ◌≡◌ {A = Lexemes} (v ∷ a) (w ∷ c) → a ≡ c
same_tail v w a c e = cc

-- A front with a token before it reaches past another with the same token before it, where it does so without them.
past_after : (v w : Lexeme) (a b c : Lexemes) → v ≡ w → IsPast a b c → IsPast (v ∷ a) b (w ∷ c)
past_after v w a b c e p = (p.0, p.1, p.2, p.3, ap (λ m. w ∷ m) p.4 ∙ ap (λ x. x ∷ ((a ++ p.0 ∷ []) ++ p.2)) (sym e))

-- The comparison stays, with equal tokens put before both fronts.
compared_after : (v w : Lexeme) (a b c d : Lexemes) → v ≡ w → Compared a b c d → Compared (v ∷ a) b (w ∷ c) d
compared_after v w a b c d e (inl p) = inl (ap (λ m. v ∷ m) p.0 ∙ ap (λ x. x ∷ c) e, p.1)
compared_after v w a b c d e (inr (inl p)) = inr (inl (past_after v w a b c e p))
compared_after v w a b c d e (inr (inr p)) = inr (inr (past_after w v c d a (sym e) p))

-- any two fronts of one text
compared : (a b c d : Lexemes) → a ++ b ≡ c ++ d → Compared a b c d
compared [] b [] d e = inl (refl, e)
compared [] b (w ∷ c) d e = inr (inl (w, c ++ d, c, e, refl))
compared (v ∷ a) b [] d e = inr (inr (v, a ++ b, a, sym e, refl))
compared (v ∷ a) b (w ∷ c) d e = compared_after v w a b c d (same_head v w (a ++ b) (c ++ d) e) (compared a b c d (same_tail v w (a ++ b) (c ++ d) e))

-- WHERE READING MUST STOP

-- No tree within the levels that may be open begins with the tokens before a place and the next one; where no next one is, the
-- tokens before are no tree.
abbrev pub IsBarred : {X : Type 0} → (ℕ → Lexemes → X → Type 0) → Lexemes → Lexemes → Type 0
IsBarred {X} spells before [] = (x : X) → spells most_levels before x → ⊥
IsBarred {X} spells before (u ∷ us) = IsViableWithin spells most_levels (before ++ u ∷ []) → ⊥

-- At this place a text stops beginning trees within the levels that may be open.
pub record StopsAt {X : Type 0} (spells : ℕ → Lexemes → X → Type 0) (ts before rest : Lexemes) : Type 0 where
  pub parts : ts ≡ before ++ rest
  pub viable : IsViableWithin spells most_levels before
  pub barred : IsBarred spells before rest

-- Where no tree of any number of levels continues, none within those that may be open does.
none_is_barred : {X : Type 0} (spells : ℕ → Lexemes → X → Type 0) (before rest : Lexemes) → NoneContinues spells before rest → IsBarred spells before rest
none_is_barred spells before [] h = h most_levels
none_is_barred spells before (u ∷ us) h = h most_levels

-- An unexpected token is such a place.
pub unexpected_stops : {X : Type 0} (spells : ℕ → Lexemes → X → Type 0) (ts rest : Lexemes) (q : IsUnexpected spells ts rest) → StopsAt spells ts q.before rest
unexpected_stops spells ts rest q = record { parts = q.parts; viable = q.viable; barred = none_is_barred spells q.before rest q.stuck }

-- A token that opens a level too many is such a place.
pub deep_stops : {X : Type 0} (spells : ℕ → Lexemes → X → Type 0) (ts : Lexemes) (token : Lexeme) (rest : Lexemes) (q : IsTooDeep spells ts token rest) → StopsAt spells ts q.before (token ∷ rest)
deep_stops spells ts token rest q = record { parts = q.parts; viable = q.viable; barred = q.stuck }

-- A front of tokens that may go on to a tree may go on to it too.
viable_front : {X : Type 0} (spells : ℕ → Lexemes → X → Type 0) (most : ℕ) (a m : Lexemes) → IsViableWithin spells most (a ++ m) → IsViableWithin spells most a
viable_front spells most a m v = (m ++ v.0, v.1, subst (λ ts. spells most ts v.1) (append_assoc a m v.0) v.2)

-- No front that begins a tree reaches past such a place.
none_past : {X : Type 0} (spells : ℕ → Lexemes → X → Type 0) (ts a b c : Lexemes) → StopsAt spells ts a b → IsViableWithin spells most_levels c → IsPast a b c → ⊥
none_past spells ts a b c s v p =
    let h : IsViableWithin spells most_levels (a ++ p.0 ∷ []) → ⊥ = subst (λ m. IsBarred spells a m) p.3 s.barred in
    h (viable_front spells most_levels (a ++ p.0 ∷ []) p.2 (subst (λ m. IsViableWithin spells most_levels m) p.4 v))

-- Of two such places, compared, only one can be.
same_compared : {X : Type 0} (spells : ℕ → Lexemes → X → Type 0) (ts a b c d : Lexemes) → StopsAt spells ts a b → StopsAt spells ts c d → Compared a b c d → AreSame a b c d
same_compared spells ts a b c d s r (inl e) = e
same_compared spells ts a b c d s r (inr (inl p)) = absurd (none_past spells ts a b c s r.viable p)
same_compared spells ts a b c d s r (inr (inr p)) = absurd (none_past spells ts c d a r s.viable p)

-- A text has one such place.
pub one_stop : {X : Type 0} (spells : ℕ → Lexemes → X → Type 0) (ts a b c d : Lexemes) → StopsAt spells ts a b → StopsAt spells ts c d → (a ≡ c) × (b ≡ d)
one_stop spells ts a b c d s r = same_compared spells ts a b c d s r (compared a b c d (sym s.parts ∙ r.parts))

-- Tokens parted at such a place are no tree.
barred_is_no_tree : {X : Type 0} (spells : ℕ → Lexemes → X → Type 0) (a b : Lexemes) (x : X) → IsBarred spells a b → spells most_levels (a ++ b) x → ⊥
barred_is_no_tree spells a [] x h p = h x (subst (λ m. spells most_levels m x) (append-nil a) p)
barred_is_no_tree spells a (u ∷ us) x h p = h (us, x, subst (λ m. spells most_levels m x) (sym (append_assoc a (u ∷ []) us)) p)

-- A tree's text has no such place.
pub tree_has_none : {X : Type 0} (spells : ℕ → Lexemes → X → Type 0) (ts a b : Lexemes) (x : X) → StopsAt spells ts a b → spells most_levels ts x → ⊥
tree_has_none spells ts a b x s p = barred_is_no_tree spells a b x s.barred (subst (λ m. spells most_levels m x) s.parts p)

-- Two unexpected places leave as many tokens.
pub one_unexpected : {X : Type 0} (spells : ℕ → Lexemes → X → Type 0) (ts rest rest' : Lexemes) → IsUnexpected spells ts rest → IsUnexpected spells ts rest' → rest ≡ rest'
one_unexpected spells ts rest rest' q r =
    (one_stop spells ts q.before rest r.before rest' (unexpected_stops spells ts rest q) (unexpected_stops spells ts rest' r)).1

-- Two levels too many leave as many tokens.
pub one_deep : {X : Type 0} (spells : ℕ → Lexemes → X → Type 0) (ts : Lexemes) (token token' : Lexeme) (rest rest' : Lexemes)
    → IsTooDeep spells ts token rest → IsTooDeep spells ts token' rest' → rest ≡ rest'
one_deep spells ts token token' rest rest' q r =
    same_tail token token' rest rest' (one_stop spells ts q.before (token ∷ rest) r.before (token' ∷ rest') (deep_stops spells ts token rest q) (deep_stops spells ts token' rest' r)).1

-- Where a tree with one level more continues, no number of levels bars it.
none_is_not_deep : {X : Type 0} (spells : ℕ → Lexemes → X → Type 0) (a c b d : Lexemes) (token : Lexeme) → a ≡ c → b ≡ token ∷ d
    → NoneContinues spells a b → IsViableWithin spells (suc most_levels) (c ++ token ∷ []) → ⊥
none_is_not_deep spells a c b d token e f h v =
    let g : NoneContinues spells c (token ∷ d) = subst (λ m. NoneContinues spells m (token ∷ d)) e (subst (λ m. NoneContinues spells a m) f h) in
    g (suc most_levels) v

-- A text with an unexpected token has no level too many.
pub not_both : {X : Type 0} (spells : ℕ → Lexemes → X → Type 0) (ts : Lexemes) (rest : Lexemes) (token : Lexeme) (rest' : Lexemes)
    → IsUnexpected spells ts rest → IsTooDeep spells ts token rest' → ⊥
not_both spells ts rest token rest' q r =
    let e = one_stop spells ts q.before rest r.before (token ∷ rest') (unexpected_stops spells ts rest q) (deep_stops spells ts token rest' r) in
    none_is_not_deep spells q.before r.before rest rest' token e.0 e.1 q.stuck r.deep
