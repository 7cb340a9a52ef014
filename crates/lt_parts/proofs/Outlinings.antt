-- Outlines, by what an expression is.
use Rattle.std.proofs.Common.{◌≡◌, ℕ, ◌<◌, Bool, true, false, List, [], ◌∷◌, ◌++◌, ◌⊎◌, inl, inr, refl, ap, sym, ◌∙◌, subst}
use Rattle.std.specs.List.{Contains}
use Rattle.std.proofs.lemmas.List.Elements.{Contains-append_left, Contains-append_right, Contains-push}
use Rattle.lt_formula.specs.Expression.{Expression, constant, variable, previous, unary, binary, choice}
use Rattle.lt_formula.specs.Kinds.{Kinds}
use Rattle.lt_formula.specs.Shape.{built}
use Rattle.lt_formula.specs.View.{table_kinds, table_len}
use Rattle.lt_formula.specs.declared.operator.BinaryOperator.{BinaryOperator}
use Rattle.lt_formula.specs.declared.operator.UnaryOperator.{UnaryOperator}
use Rattle.lt_formula.specs.declared.role.Role.{Role}
use Rattle.lt_formula.specs.declared.shape.Shape.{Shape}
use Rattle.lt_formula.specs.declared.shape.Shape.TheVariants.{Constant, Previous, Variable}
use Rattle.lt_formula.specs.declared.table.Table.{Table}
use Rattle.lt_num.specs.declared.kind.Kind.{Kind}
use Rattle.lt_num.specs.declared.value.Value.{Value}
use Rattle.lt_parts.specs.Outline.{Outlines, OutlinesComparison, atoms_in, is_comparison, is_unequal}
use Rattle.lt_parts.specs.Part.{IsFlagOf, at}
use Rattle.lt_parts.specs.inner.Flags.{HasFlag, HaveFlags, IsFlagAt}
use Rattle.lt_parts.proofs.Numbers.{atoms_binary, atoms_choice, atoms_unary}
use Rattle.lt_space.specs.Evaluated.{Either}
use Rattle.lt_space.specs.Formula.{Formula, negation}
use Rattle.lt_space.specs.Formula as formula
use Rattle.lt_space.specs.Meaning.{connected, is_known}

in_first : (b : Bool) (P Q : Type 0) → b ≡ true → P → Either b P Q
in_first true P Q h p = p
in_first false P Q h p = absurd (cc)

in_second : (b : Bool) (P Q : Type 0) → b ≡ false → Q → Either b P Q
in_second true P Q h p = absurd (cc)
in_second false P Q h p = p

either_map : (b : Bool) (P Q R S : Type 0) → (P → R) → (Q → S) → Either b P Q → Either b R S
either_map true P Q R S f g h = f h
either_map false P Q R S f g h = g h

-- the flag of a number is that of its expression
pub flag_of : (t : Table) (atoms : List ℕ) (n : ℕ) (f : Formula) → n < table_len t → IsFlagAt atoms n f → IsFlagOf t atoms (at t n) f
flag_of t atoms n f h flag = (flag.0, n, flag.1, flag.2, h, refl, flag.3)

pub comparison_of : (t : Table) (atoms : List ℕ) (n : ℕ) (op : BinaryOperator) (f : Formula) → n < table_len t → OutlinesComparison (λ g. IsFlagAt atoms n g) op f → OutlinesComparison (IsFlagOf t atoms (at t n)) op f
comparison_of t atoms n op f h o =
    either_map (is_unequal op) ((g : Formula) × (f ≡ negation g) × IsFlagAt atoms n g) (IsFlagAt atoms n f) ((g : Formula) × (f ≡ negation g) × IsFlagOf t atoms (at t n) g) (IsFlagOf t atoms (at t n) f)
    (λ p. (p.0, p.1, flag_of t atoms n p.0 h p.2)) (λ p. flag_of t atoms n f h p) o

module _ (Is : Expression → Formula → Type 0) (kinds : Kinds) (x : Expression) (f : Formula) where
  known_of : (y : Expression) → is_known kinds y ≡ true → Is y f → Outlines Is kinds y f
  known_of (constant k c) h is = is
  known_of (variable r i) h is = is
  known_of (previous r i) h is = is
  known_of (unary op e) h is = in_first _ _ _ h is
  known_of (binary op d e) h is = in_first _ _ _ h is
  known_of (choice c d e) h is = in_first _ _ _ h is

  pub outlines_known : is_known kinds x ≡ true → Is x f → Outlines Is kinds x f
  outlines_known h is = known_of x h is

  pub outlines_variable : (r : Role) (i : ℕ) → x ≡ variable r i → Is x f → Outlines Is kinds x f
  outlines_variable r i s is = subst (λ y. Outlines Is kinds y f) (sym s) (subst (λ y. Is y f) s is)

  pub outlines_unary : (op : UnaryOperator) (e : Expression) (g : Formula) → x ≡ unary op e → is_known kinds x ≡ false → f ≡ negation g → Outlines Is kinds e g → Outlines Is kinds x f
  outlines_unary op e g s h is o = subst (λ y. Outlines Is kinds y f) (sym s) (in_second _ _ _ (sym (ap (is_known kinds) s) ∙ h) (g, is, o))

  pub outlines_comparison : (op : BinaryOperator) (d e : Expression) → x ≡ binary op d e → is_known kinds x ≡ false → is_comparison kinds d ≡ true → OutlinesComparison (Is x) op f → Outlines Is kinds x f
  outlines_comparison op d e s h k o =
      subst (λ y. Outlines Is kinds y f) (sym s) (in_second _ _ _ (sym (ap (is_known kinds) s) ∙ h) (in_first _ _ _ k (subst (λ y. OutlinesComparison (Is y) op f) s o)))

  pub outlines_binary : (op : BinaryOperator) (d e : Expression) (g i : Formula) → x ≡ binary op d e → is_known kinds x ≡ false → is_comparison kinds d ≡ false → f ≡ connected op g i → Outlines Is kinds d g → Outlines Is kinds e i → Outlines Is kinds x f
  outlines_binary op d e g i s h k is o p =
      subst (λ y. Outlines Is kinds y f) (sym s) (in_second _ _ _ (sym (ap (is_known kinds) s) ∙ h) (in_second _ _ _ k (g, i, is, o, p)))

  pub outlines_choice : (c d e : Expression) (g i j : Formula) → x ≡ choice c d e → is_known kinds x ≡ false → f ≡ formula.choice g i j → Outlines Is kinds c g → Outlines Is kinds d i → Outlines Is kinds e j → Outlines Is kinds x f
  outlines_choice c d e g i j s h is o p q =
      subst (λ y. Outlines Is kinds y f) (sym s) (in_second _ _ _ (sym (ap (is_known kinds) s) ∙ h) (g, i, j, is, o, p, q))

-- Which numbers have flags, by what an expression is.

-- an expression without parts is an atom
pub leaf_atoms : (kinds : Kinds) (look : ℕ → Expression) (shape : Shape)
    → ((k : Kind) × (w : Value) × shape ≡ Constant k w) ⊎ (((r : Role) × (i : ℕ) × shape ≡ Variable r i) ⊎ ((r : Role) × (i : ℕ) × shape ≡ Previous r i))
    → atoms_in kinds (built look shape) ≡ built look shape ∷ []
leaf_atoms kinds look shape (inl h) = let P : Shape → Type 0 = λ s. atoms_in kinds (built look s) ≡ built look s ∷ [] in subst P (sym h.2) refl
leaf_atoms kinds look shape (inr (inl h)) = let P : Shape → Type 0 = λ s. atoms_in kinds (built look s) ≡ built look s ∷ [] in subst P (sym h.2) refl
leaf_atoms kinds look shape (inr (inr h)) = let P : Shape → Type 0 = λ s. atoms_in kinds (built look s) ≡ built look s ∷ [] in subst P (sym h.2) refl

module _ (t : Table) (atoms : List ℕ) where
  flags_as : (these those : List Expression) → these ≡ those → HaveFlags t atoms these → HaveFlags t atoms those
  flags_as these those is h = subst (HaveFlags t atoms) is h

  -- those of the first of some expressions, and those of the others
  flags_before : (these those : List Expression) → HaveFlags t atoms (these ++ those) → HaveFlags t atoms these
  flags_before these those h = record { few = h.few; among = λ n within among. h.among n within (Contains-append_left these those (at t n) among) }

  flags_behind : (these those : List Expression) → HaveFlags t atoms (these ++ those) → HaveFlags t atoms those
  flags_behind these those h = record { few = h.few; among = λ n within among. h.among n within (Contains-append_right these those (at t n) among) }

  -- the number of an expression that is an atom
  pub atom_has : (n : ℕ) → n < table_len t → atoms_in (table_kinds t) (at t n) ≡ at t n ∷ [] → HaveFlags t atoms (atoms_in (table_kinds t) (at t n)) → HasFlag atoms n
  atom_has n within is h = record { few = h.few; among = h.among n within (subst (λ es. Contains es (at t n)) (sym is) (Contains-push [] (at t n))) }

  module _ (x : Expression) where
    pub flags_unary : (op : UnaryOperator) (e : Expression) → x ≡ unary op e → is_known (table_kinds t) x ≡ false → HaveFlags t atoms (atoms_in (table_kinds t) x) → HaveFlags t atoms (atoms_in (table_kinds t) e)
    flags_unary op e s h flags = flags_as _ _ (atoms_unary (table_kinds t) x op e s h) flags

    pub flags_left : (op : BinaryOperator) (d e : Expression) → x ≡ binary op d e → is_known (table_kinds t) x ≡ false → is_comparison (table_kinds t) d ≡ false → HaveFlags t atoms (atoms_in (table_kinds t) x) → HaveFlags t atoms (atoms_in (table_kinds t) d)
    flags_left op d e s h k flags = flags_before _ _ (flags_as _ _ (atoms_binary (table_kinds t) x op d e s h k) flags)

    pub flags_right : (op : BinaryOperator) (d e : Expression) → x ≡ binary op d e → is_known (table_kinds t) x ≡ false → is_comparison (table_kinds t) d ≡ false → HaveFlags t atoms (atoms_in (table_kinds t) x) → HaveFlags t atoms (atoms_in (table_kinds t) e)
    flags_right op d e s h k flags = flags_behind _ _ (flags_as _ _ (atoms_binary (table_kinds t) x op d e s h k) flags)

    pub flags_condition : (c d e : Expression) → x ≡ choice c d e → is_known (table_kinds t) x ≡ false → HaveFlags t atoms (atoms_in (table_kinds t) x) → HaveFlags t atoms (atoms_in (table_kinds t) c)
    flags_condition c d e s h flags = flags_before _ _ (flags_as _ _ (atoms_choice (table_kinds t) x c d e s h) flags)

    pub flags_first : (c d e : Expression) → x ≡ choice c d e → is_known (table_kinds t) x ≡ false → HaveFlags t atoms (atoms_in (table_kinds t) x) → HaveFlags t atoms (atoms_in (table_kinds t) d)
    flags_first c d e s h flags =
        flags_before _ (atoms_in (table_kinds t) e) (flags_behind (atoms_in (table_kinds t) c) _ (flags_as _ _ (atoms_choice (table_kinds t) x c d e s h) flags))

    pub flags_second : (c d e : Expression) → x ≡ choice c d e → is_known (table_kinds t) x ≡ false → HaveFlags t atoms (atoms_in (table_kinds t) x) → HaveFlags t atoms (atoms_in (table_kinds t) e)
    flags_second c d e s h flags =
        flags_behind (atoms_in (table_kinds t) d) _ (flags_behind (atoms_in (table_kinds t) c) _ (flags_as _ _ (atoms_choice (table_kinds t) x c d e s h) flags))
