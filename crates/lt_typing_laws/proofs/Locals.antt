-- The locals of a node stand in their table, each with its own number.
use Rattle.std.proofs.Common.{◌≡◌, ℕ, suc, List, [], ◌∷◌, ◌++◌, length, length-append, flat_map, arith, refl, sym, ap, subst}
use Rattle.std.proofs.lemmas.Grind.{flat_map-append}
use Rattle.lt_formula.specs.Expression.{variable}
use Rattle.lt_formula.specs.Kinds.{Kinds}
use Rattle.lt_formula.specs.declared.role.Role.TheVariants as role
use Rattle.lt_macros.specs.Expanded.{Declared, Expanded, eps, dead, con, raise, seq, loop, count, any, pri, par, assert, exist, catch, try, Parts, no_part, part, Node}
use Rattle.lt_macros.specs.Numbering.{Follow, local_numbers, local_numbers_in, IsNumbered}
use Rattle.lt_macros.specs.Preorder.{Item, items, items_in, local_at, locals_in}
use Rattle.lt_typing_laws.specs.TypedNode.{node_kinds}
use Rattle.lt_term.specs.WellTyped.{HasKind}
use Rattle.lt_typing_laws.proofs.Tables.{StandFrom, stand_behind}

-- Each local that a trace declares stands in its table with its kind.
abbrev mutual
  pub AreDeclared : Kinds → Expanded → Type 0
  AreDeclared kinds eps = Unit {0}
  AreDeclared kinds dead = Unit {0}
  AreDeclared kinds (con e) = Unit {0}
  AreDeclared kinds (raise z) = Unit {0}
  AreDeclared kinds (seq x y) = AreDeclared kinds x × AreDeclared kinds y
  AreDeclared kinds (loop x) = AreDeclared kinds x
  AreDeclared kinds (count i b x) = AreDeclared kinds x
  AreDeclared kinds (any ps) = AreDeclaredIn kinds ps
  AreDeclared kinds (pri x y) = AreDeclared kinds x × AreDeclared kinds y
  AreDeclared kinds (par x y) = AreDeclared kinds x × AreDeclared kinds y
  AreDeclared kinds (assert e x) = AreDeclared kinds x
  AreDeclared kinds (exist i d x) = HasKind kinds (variable role.Local i) d.kind × AreDeclared kinds x
  AreDeclared kinds (catch z x h) = AreDeclared kinds x × AreDeclared kinds h
  AreDeclared kinds (try x h) = AreDeclared kinds x × AreDeclared kinds h

  pub AreDeclaredIn : Kinds → Parts → Type 0
  AreDeclaredIn kinds no_part = Unit {0}
  AreDeclaredIn kinds (part w x ps) = AreDeclared kinds x × AreDeclaredIn kinds ps

-- Locals have these numbers.
abbrev Stand : Kinds → List ℕ → List Declared → Type 0
Stand kinds [] [] = Unit {0}
Stand kinds [] (d ∷ ds) = ⊥
Stand kinds (n ∷ ns) [] = ⊥
Stand kinds (n ∷ ns) (d ∷ ds) = HasKind kinds (variable role.Local n) d.kind × Stand kinds ns ds

first_stand : (kinds : Kinds) (ns ms : List ℕ) (ds es : List Declared) → length ns ≡ length ds → Stand kinds (ns ++ ms) (ds ++ es) → Stand kinds ns ds
first_stand kinds [] ms [] es c h = tt
first_stand kinds [] ms (d ∷ ds) es c h = absurd (omega (arith, c))
first_stand kinds (n ∷ ns) ms [] es c h = absurd (omega (arith, c))
first_stand kinds (n ∷ ns) ms (d ∷ ds) es c h = (h.0, first_stand kinds ns ms ds es (omega (arith, c)) h.1)

second_stand : (kinds : Kinds) (ns ms : List ℕ) (ds es : List Declared) → length ns ≡ length ds → Stand kinds (ns ++ ms) (ds ++ es) → Stand kinds ms es
second_stand kinds [] ms [] es c h = h
second_stand kinds [] ms (d ∷ ds) es c h = absurd (omega (arith, c))
second_stand kinds (n ∷ ns) ms [] es c h = absurd (omega (arith, c))
second_stand kinds (n ∷ ns) ms (d ∷ ds) es c h = second_stand kinds ns ms ds es (omega (arith, c)) h.1

-- the locals of parts of a trace
abbrev locals_at : List Item → List Declared
locals_at xs = flat_map local_at xs

-- they have as many numbers
both_many : (ns ms : List ℕ) (xs ys : List Item) → length ns ≡ length (locals_at xs) → length ms ≡ length (locals_at ys) → length (ns ++ ms) ≡ length (locals_at (xs ++ ys))
both_many ns ms xs ys a b = omega (arith, a, b, length-append ns ms, length-append (locals_at xs) (locals_at ys), ap length (flat_map-append local_at xs ys))

mutual
  as_many : (x : Expanded) → length (local_numbers x) ≡ length (locals_at (items x))
  as_many eps = refl
  as_many dead = refl
  as_many (con e) = refl
  as_many (raise z) = refl
  as_many (seq x y) = both_many (local_numbers x) (local_numbers y) (items x) (items y) (as_many x) (as_many y)
  as_many (loop x) = as_many x
  as_many (count i b x) = as_many x
  as_many (any ps) = as_many_in ps
  as_many (pri x y) = both_many (local_numbers x) (local_numbers y) (items x) (items y) (as_many x) (as_many y)
  as_many (par x y) = both_many (local_numbers x) (local_numbers y) (items x) (items y) (as_many x) (as_many y)
  as_many (assert e x) = as_many x
  as_many (exist i d x) = ap suc (as_many x)
  as_many (catch z x h) = both_many (local_numbers x) (local_numbers h) (items x) (items h) (as_many x) (as_many h)
  as_many (try x h) = both_many (local_numbers x) (local_numbers h) (items x) (items h) (as_many x) (as_many h)

  as_many_in : (ps : Parts) → length (local_numbers_in ps) ≡ length (locals_at (items_in ps))
  as_many_in no_part = refl
  as_many_in (part w x ps) = both_many (local_numbers x) (local_numbers_in ps) (items x) (items_in ps) (as_many x) (as_many_in ps)

-- those of two parts
halves : (kinds : Kinds) (ns ms : List ℕ) (xs ys : List Item) → length ns ≡ length (locals_at xs) → Stand kinds (ns ++ ms) (locals_at (xs ++ ys)) → Stand kinds ns (locals_at xs) × Stand kinds ms (locals_at ys)
halves kinds ns ms xs ys c h =
    let both : Stand kinds (ns ++ ms) (locals_at xs ++ locals_at ys) = subst (Stand kinds (ns ++ ms)) (flat_map-append local_at xs ys) h in
    (first_stand kinds ns ms (locals_at xs) (locals_at ys) c both, second_stand kinds ns ms (locals_at xs) (locals_at ys) c both)

of_two : (kinds : Kinds) (x y : Expanded) → Stand kinds (local_numbers x ++ local_numbers y) (locals_at (items x ++ items y)) → Stand kinds (local_numbers x) (locals_at (items x)) × Stand kinds (local_numbers y) (locals_at (items y))
of_two kinds x y h = halves kinds (local_numbers x) (local_numbers y) (items x) (items y) (as_many x) h

mutual
  declared : (kinds : Kinds) (x : Expanded) → Stand kinds (local_numbers x) (locals_at (items x)) → AreDeclared kinds x
  declared kinds eps h = tt
  declared kinds dead h = tt
  declared kinds (con e) h = tt
  declared kinds (raise z) h = tt
  declared kinds (seq x y) h = let p = of_two kinds x y h in (declared kinds x p.0, declared kinds y p.1)
  declared kinds (loop x) h = declared kinds x h
  declared kinds (count i b x) h = declared kinds x h
  declared kinds (any ps) h = declared_in kinds ps h
  declared kinds (pri x y) h = let p = of_two kinds x y h in (declared kinds x p.0, declared kinds y p.1)
  declared kinds (par x y) h = let p = of_two kinds x y h in (declared kinds x p.0, declared kinds y p.1)
  declared kinds (assert e x) h = declared kinds x h
  declared kinds (exist i d x) h = (h.0, declared kinds x h.1)
  declared kinds (catch z x y) h = let p = of_two kinds x y h in (declared kinds x p.0, declared kinds y p.1)
  declared kinds (try x y) h = let p = of_two kinds x y h in (declared kinds x p.0, declared kinds y p.1)

  declared_in : (kinds : Kinds) (ps : Parts) → Stand kinds (local_numbers_in ps) (locals_at (items_in ps)) → AreDeclaredIn kinds ps
  declared_in kinds no_part h = tt
  declared_in kinds (part w x ps) h =
      let p = halves kinds (local_numbers x) (local_numbers_in ps) (items x) (items_in ps) (as_many x) h in
      (declared kinds x p.0, declared_in kinds ps p.1)

-- numbers that follow one another are the places of a table
stand_in_turn : (kinds : Kinds) (i j : ℕ) (ns : List ℕ) (ds : List Declared) → length ns ≡ length ds → Follow i ns j → StandFrom kinds role.Local i ds → Stand kinds ns ds
stand_in_turn kinds i j [] [] c f h = tt
stand_in_turn kinds i j [] (d ∷ ds) c f h = absurd (omega (arith, c))
stand_in_turn kinds i j (n ∷ ns) [] c f h = absurd (omega (arith, c))
stand_in_turn kinds i j (n ∷ ns) (d ∷ ds) c f h =
    (subst (λ m. HasKind kinds (variable role.Local m) d.kind) (sym f.0) h.0, stand_in_turn kinds (suc i) j ns ds (omega (arith, c)) f.1 h.1)

-- So each local of a node that is numbered in preorder stands in its table.
pub locals_declared : (node : Node) → IsNumbered node → AreDeclared (node_kinds node) node.body
locals_declared node numbered =
    let kinds = node_kinds node in
    declared kinds node.body
    (stand_in_turn kinds 0 (length (locals_in node)) (local_numbers node.body) (locals_in node) (as_many node.body) numbered.locals (stand_behind kinds role.Local [] (locals_in node) refl))
