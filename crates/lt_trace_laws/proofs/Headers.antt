-- A header may stand between values: each of its lines is a comment.
use Rattle.std.proofs.Common.{◌≡◌, ℕ, ◌^◌, ◌<◌, ◌≤◌, Bool, true, false, ◌||◌, ◌&&◌, ◌==◌, IsTrue, List, [], ◌∷◌, ◌++◌, codes, decimal, unwrap_or, None, Some, Option, refl, ap, sym, ◌∙◌, arith, append_assoc, append-nil}
use Rattle.std.specs.Char.{is_ascii_digit}
use Rattle.std.specs.Int.{IsInRange}
use Rattle.std.specs.List.{flat_map, list_any}
use Rattle.std.specs.Str.{all_ascii_digits}
use Rattle.std.specs.Str.Parse.{digits_value}
use Rattle.std.proofs.lemmas.Bool.Decides.{nat_tests}
use Rattle.std.proofs.lemmas.Fmt.{digits_decimal}
use Rattle.std.proofs.lemmas.List.Folds.{list_any-append}
use Rattle.std.proofs.lemmas.Str.Parse.{digit_at, numerals_by_value, tells_all_ascii_digits, IsNumeralModel}
use Rattle.lt_draw.specs.declared.directions.Draw.{Draw}
use Rattle.lt_draw.specs.declared.directions.Draw.TheVariants.{Directed, Inside, Up}
use Rattle.lt_num.specs.declared.kind.Kind.{Kind}
use Rattle.lt_num.specs.declared.kind.Kind.TheVariants as kind
use Rattle.lt_rif.specs.ReadBack.{AreOnLines}
use Rattle.lt_rif.specs.Spelling.{Filler, comment, AreFillers, IsFiller, gap_text}
use Rattle.lt_rif.specs.Trace.{DeclaredVariable, declared_text, draw_header, header_text, kind_text, line, locals_header}
use Rattle.lt_rif.specs.Word.{class_of}

-- ---- lines without a line feed

pub either_none : (a b : Bool) → a ≡ false → b ≡ false → a || b ≡ false
either_none a b h k = rw (h, k) refl

none_append : (xs ys : List ℕ) → list_any (λ b. b == 10) xs ≡ false → list_any (λ b. b == 10) ys ≡ false → list_any (λ b. b == 10) (xs ++ ys) ≡ false
none_append xs ys h k = rw (list_any-append (λ (b : ℕ). b == 10) xs ys) (either_none _ _ h k)

-- digits have none
pub own : IsNumeralModel (λ ds. all_ascii_digits ds ≡ true) (digits_value 10)
own = numerals_by_value _ tells_all_ascii_digits

no_feed : (c : ℕ) → 48 ≤ c → c == 10 ≡ false
no_feed c low = grind (arith, nat_tests)

first_digit : (x : ℕ) (xs : List ℕ) → IsTrue (all_ascii_digits (x ∷ xs)) → x == 10 ≡ false
first_digit x xs h =
    let r : IsInRange 48 57 x = digit_at (x ∷ xs) 0 (own.to (x ∷ xs) h) (omega arith) in
    let low : 48 ≤ x = omega arith in
    no_feed x low

pub rest_digits : (x : ℕ) (xs : List ℕ) → IsTrue (all_ascii_digits (x ∷ xs)) → IsTrue (all_ascii_digits xs)
rest_digits x xs h = elim (is_ascii_digit x) as (λ t. IsTrue (t && all_ascii_digits xs) → IsTrue (all_ascii_digits xs)) [ true ↦ λ g. g | false ↦ λ g. absurd (cc) ] h

none_digits : (ds : List ℕ) → IsTrue (all_ascii_digits ds) → list_any (λ b. b == 10) ds ≡ false
none_digits [] h = refl
none_digits (d ∷ ds) h = rw (first_digit d ds h) (none_digits ds (rest_digits d ds h))

none_kind : (k : Kind) → list_any (λ b. b == 10) (kind_text k) ≡ false
none_kind kind.Bool = refl
none_kind kind.Int = refl
none_kind kind.Real = refl

none_declared : (ds : List DeclaredVariable) → AreOnLines ds → list_any (λ b. b == 10) (flat_map declared_text ds) ≡ false
none_declared [] are = refl
none_declared (d ∷ ds) are =
    none_append (declared_text d) (flat_map declared_text ds)
    (none_append (codes " \"" ++ d.name ++ codes "\":") (kind_text d.kind)
    (none_append (codes " \"" ++ d.name) (codes "\":") (none_append (codes " \"") d.name refl are.0) refl)
    (none_kind d.kind))
    (none_declared ds are.1)

-- ---- lines as comments

seed_comment : (seed : ℕ) → seed < 2 ^ 64 → IsFiller (comment (codes "#seed " ++ decimal seed))
unfolding class_of
seed_comment seed small = (refl, none_digits (decimal seed) (digits_decimal own seed small))

inputs_comment : (ds : List DeclaredVariable) → AreOnLines ds → IsFiller (comment (codes "#inputs" ++ flat_map declared_text ds))
unfolding class_of
inputs_comment [] are = (refl, refl)
inputs_comment (d ∷ ds) are = (refl, none_declared (d ∷ ds) are)

outputs_comment : (ds : List DeclaredVariable) → AreOnLines ds → IsFiller (comment (codes "#outputs" ++ flat_map declared_text ds))
unfolding class_of
outputs_comment [] are = (refl, refl)
outputs_comment (d ∷ ds) are = (refl, none_declared (d ∷ ds) are)

locals_comment : (ds : List DeclaredVariable) → AreOnLines ds → IsFiller (comment (codes "#locals" ++ flat_map declared_text ds))
unfolding class_of
locals_comment [] are = (refl, refl)
locals_comment (d ∷ ds) are = (refl, none_declared (d ∷ ds) are)

-- a text as parts that may stand between values
pub record Parts (text : List ℕ) : Type 0 where
  pub gap : List Filler
  pub are : AreFillers gap
  pub is : text ≡ gap_text gap

-- the line of the rule of drawing, where it stands, before such parts
draw_then : (draw : Draw) (gap : List Filler) → AreFillers gap → Parts (draw_header draw ++ gap_text gap)
unfolding class_of
draw_then Up gap are = record { gap = gap; are = are; is = refl }
draw_then Directed gap are = record { gap = comment (codes "#draw 2") ∷ gap; are = ((refl, refl), are); is = refl }
draw_then Inside gap are = record { gap = comment (codes "#draw 3") ∷ gap; are = ((refl, refl), are); is = refl }

locals_parts : (locals : Option (List DeclaredVariable)) → AreOnLines (unwrap_or locals []) → Parts (locals_header locals)
locals_parts None are = record { gap = []; are = tt; is = refl }
locals_parts (Some ds) are =
    let text = codes "#locals" ++ flat_map declared_text ds in
    record { gap = comment text ∷ []; are = (locals_comment ds are, tt); is = sym (append-nil (line text)) }

pub header_parts : (seed : ℕ) (draw : Draw) (outputs inputs : List DeclaredVariable) (locals : Option (List DeclaredVariable)) → seed < 2 ^ 64 → AreOnLines outputs → AreOnLines inputs → AreOnLines (unwrap_or locals [])
    → Parts (header_text seed draw outputs inputs locals)
header_parts seed draw outputs inputs locals small outputs_are inputs_are locals_are =
    let rest = locals_parts locals locals_are in
    let first = codes "#seed " ++ decimal seed in
    let second = codes "#inputs" ++ flat_map declared_text outputs in
    let third = codes "#outputs" ++ flat_map declared_text inputs in
    let variables = comment second ∷ comment third ∷ rest.gap in
    let variables_are : AreFillers variables = (inputs_comment outputs outputs_are, (outputs_comment inputs inputs_are, rest.are)) in
    let after = draw_then draw variables variables_are in
    record {
      gap = comment first ∷ after.gap;
      are = (seed_comment seed small, after.are);
      is =
          append_assoc (line first ++ draw_header draw ++ line second) (line third) (locals_header locals)
          ∙ append_assoc (line first ++ draw_header draw) (line second) (line third ++ locals_header locals)
          ∙ append_assoc (line first) (draw_header draw) (line second ++ (line third ++ locals_header locals))
          ∙ ap (λ (t : List ℕ). line first ++ (draw_header draw ++ (line second ++ (line third ++ t)))) rest.is
          ∙ ap (λ (t : List ℕ). line first ++ t) after.is;
    }
