-- Variables that are declared one after another.
use Rattle.std.proofs.Common.{◌≡◌, ℕ, ◌+◌, ◌<◌, ◌≤◌, ◌⊎◌, inl, inr, min, get_or, List, [], ◌∷◌, String, Global, map, reverse, take, drop, length, refl, ap, sym, ◌∙◌, arith}
use Rattle.std.proofs.lemmas.List.{at_drop_all, take_more}
use Rattle.std.proofs.lemmas.Bool.{cases_lt}
use Rattle.lt_ast.specs.declared.group.TypeName.{TypeName}
use Rattle.lt_ast.specs.Syntax.{Word}
use Rattle.lt_types.specs.Environment.{Binding, binding_of, variable, with_variables}
use Rattle.lt_types.specs.View.{typed_name}
use Rattle.lt_types.proofs.Stacks.{drop_next, turned}

-- the next one of names and types
pub variables_next : (ws : List Word) (kinds : List TypeName) (i : ℕ) (w : Word) (k : TypeName) (names : List Binding) → i < length ws → i < length kinds → w ≡ get_or ws i w → k ≡ get_or kinds i k
    → with_variables (drop i ws) (drop i kinds) names ≡ with_variables (drop (i + 1) ws) (drop (i + 1) kinds) (record { name = w.text; entry = variable k } ∷ names)
variables_next ws kinds i w k names h h' is is' =
    ap (λ l. with_variables l (drop i kinds) names) (drop_next ws i w h is) ∙ ap (λ l. with_variables (w ∷ drop (i + 1) ws) l names) (drop_next kinds i k h' is')

-- none is left
variables_none : (ws : List Word) (names : List Binding) → with_variables ws [] names ≡ names
variables_none [] names = refl
variables_none (w ∷ ws) names = refl

none_left : (ws : List Word) (kinds : List TypeName) (i : ℕ) (names : List Binding) → (length ws ≤ i) ⊎ (length kinds ≤ i) → with_variables (drop i ws) (drop i kinds) names ≡ names
none_left ws kinds i names (inl h) = at_drop_all (λ l. with_variables l (drop i kinds) names) ws i h
none_left ws kinds i names (inr h) = at_drop_all (λ l. with_variables (drop i ws) l names) kinds i h ∙ variables_none (drop i ws) names

reached : (m n i : ℕ) → i ≡ min m n → (m < n) ⊎ (n ≤ m) → (m ≤ i) ⊎ (n ≤ i)
reached m n i e (inl h) = inl (omega arith)
reached m n i e (inr h) = inr (omega arith)

pub variables_done : (ws : List Word) (kinds : List TypeName) (i : ℕ) (names : List Binding) → i ≡ min (length ws) (length kinds) → with_variables (drop i ws) (drop i kinds) names ≡ names
variables_done ws kinds i names e = none_left ws kinds i names (reached (length ws) (length kinds) i e (cases_lt (length ws) (length kinds)))

-- the next one of variables that are declared from the last to the first
pub variable_next : (vs : List (String Global × TypeName)) (i : ℕ) (v : String Global × TypeName) → i < length vs → v ≡ get_or vs i v
    → map binding_of (map typed_name (reverse (take (i + 1) vs))) ≡ binding_of (typed_name v) ∷ map binding_of (map typed_name (reverse (take i vs)))
variable_next vs i v h is =
    ap (λ l. map binding_of (map typed_name (reverse l))) (take_more vs i v h) ∙ ap (λ l. map binding_of (map typed_name l)) (turned (take i vs) (get_or vs i v))
    ∙ ap (λ x. binding_of (typed_name x) ∷ map binding_of (map typed_name (reverse (take i vs)))) (sym is)
