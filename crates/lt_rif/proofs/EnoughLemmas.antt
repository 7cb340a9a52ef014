-- How long texts are.
use Rattle.std.proofs.Common.{◌≡◌, ℕ, zero, suc, ◌+◌, ◌*◌, ◌/◌, ◌^◌, ◌<◌, ◌≤◌, List, [], ◌∷◌, ◌++◌, length, drop, codes, decimal, pos, negsuc, ℤ, unsigned_abs, None, Some, Option, refl, ap, ◌∙◌, true, false, arith, length-append, length-drop}
use Rattle.std.specs.Prelude.{sum_by, slice_index_or, unwrap_or}
use Rattle.std.specs.List.{flat_map}
use Rattle.std.proofs.lemmas.Fmt.{length-decimal-le, length-decimal-le_wide}
use Rattle.std.proofs.lemmas.List.Sums.{sum_by-cons}
use Rattle.std.proofs.Math.Nat.{div-le_self}
use Rattle.lt_draw.specs.declared.directions.Draw.{Draw}
use Rattle.lt_draw.specs.declared.directions.Draw.TheVariants.{Directed, Inside, Up}
use Rattle.lt_num.specs.Text.{last_digits, decimals_text, size_text, text_of}
use Rattle.lt_num.specs.declared.fault.Arith.{Arith}
use Rattle.lt_num.specs.declared.fault.Arith.TheVariants as arith_fault
use Rattle.lt_num.specs.declared.kind.Kind.{Kind}
use Rattle.lt_num.specs.declared.kind.Kind.TheVariants as kind
use Rattle.lt_num.specs.declared.value.Value.{Value}
use Rattle.lt_num.specs.declared.value.Value.TheVariants as value
use Rattle.lt_rif.specs.Enough.{IsSized, AreSized, AreLocalsSized, IsEndSized, names_length, HeaderFits, LineFits, StepFits, RoomIsEnough}
use Rattle.lt_rif.specs.Trace.{DeclaredVariable, declared_text, kind_text, draw_header, locals_header, decimals_of, value_text, value_words, local_words, locals_part, line, spaced, step_words, who_text, fault_text, refusal_text, end_words}
use Rattle.lt_rif.specs.declared.end.End.{End}
use Rattle.lt_rif.specs.declared.end.End.TheVariants as end
use Rattle.lt_rif.specs.declared.end.Who.{Who}
use Rattle.lt_rif.specs.declared.end.Who.TheVariants as who
use Rattle.lt_rif.specs.declared.fault.ValueFault.{ValueFault}
use Rattle.lt_rif.specs.declared.fault.ValueFault.TheVariants as fault
use Rattle.lt_rif.specs.inner.Spaced.{before_space, after_space}
use Rattle.lt_rif.proofs.TraceLemmas.{after-append, step_lays_out}

-- ---- the header

kind-short : (k : Kind) → length (kind_text k) ≤ 4
kind-short kind.Bool = omega arith
kind-short kind.Int = omega arith
kind-short kind.Real = omega arith

declared-length : (d : DeclaredVariable) → length (declared_text d) ≤ 8 + length d.name
declared-length d =
    omega (arith, kind-short d.kind, length-append (codes " \"" ++ d.name ++ codes "\":") (kind_text d.kind), length-append (codes " \"" ++ d.name) (codes "\":"), length-append (codes " \"") d.name)

declared-all : (ds : List DeclaredVariable) → length (flat_map declared_text ds) ≤ 8 * length ds + names_length ds
declared-all [] = omega arith
declared-all (d ∷ ds) =
    let rest = declared-all ds in
    omega (arith, declared-length d, length-append (declared_text d) (flat_map declared_text ds), sum_by-cons (λ (v : DeclaredVariable). length v.name) d ds)

locals-length : (locals : Option (List DeclaredVariable)) → length (locals_header locals) ≤ 8 + 8 * length (unwrap_or locals []) + names_length (unwrap_or locals [])
locals-length None = omega arith
locals-length (Some ds) = omega (arith, declared-all ds, length-append (codes "#locals" ++ flat_map declared_text ds) (10 ∷ []), length-append (codes "#locals") (flat_map declared_text ds))

draw-length : (draw : Draw) → length (draw_header draw) ≤ 8
draw-length Up = omega arith
draw-length Directed = omega arith
draw-length Inside = omega arith

number-length : (n : ℕ) → n < 2 ^ 64 → length (decimal n) ≤ 20
number-length n small = length-decimal-le 20 n (omega arith) (omega arith) small

header-fits : HeaderFits
header-fits seed draw outputs inputs locals small =
    let first = line (codes "#seed " ++ decimal seed) in
    let second = line (codes "#inputs" ++ flat_map declared_text outputs) in
    let third = line (codes "#outputs" ++ flat_map declared_text inputs) in
    let one : length first ≤ 27 = omega (arith, number-length seed small, length-append (codes "#seed " ++ decimal seed) (10 ∷ []), length-append (codes "#seed ") (decimal seed)) in
    let two : length second ≤ 8 + length (flat_map declared_text outputs) = omega (arith, length-append (codes "#inputs" ++ flat_map declared_text outputs) (10 ∷ []), length-append (codes "#inputs") (flat_map declared_text outputs)) in
    let three : length third ≤ 9 + length (flat_map declared_text inputs) = omega (arith, length-append (codes "#outputs" ++ flat_map declared_text inputs) (10 ∷ []), length-append (codes "#outputs") (flat_map declared_text inputs)) in
    omega (
      arith,
      declared-all outputs,
      declared-all inputs,
      draw-length draw,
      locals-length locals,
      length-append (first ++ draw_header draw ++ second ++ third) (locals_header locals),
      length-append (first ++ draw_header draw ++ second) third,
      length-append (first ++ draw_header draw) second,
      length-append first (draw_header draw),
    )

-- ---- values

pub length-last_digits : (k n : ℕ) → length (last_digits k n) ≡ k
length-last_digits zero n = refl
length-last_digits (suc k) n = length-append (last_digits k (n / 10)) _ ∙ let e = length-last_digits k (n / 10) in omega arith

decimals-length : (k n : ℕ) → length (decimals_text k n) ≤ k + 1
decimals-length zero n = omega arith
decimals-length (suc k) n = let e = length-last_digits (suc k) n in omega arith

size-length : (k size : ℕ) → k ≤ 6 → size ≤ 2 ^ 63 → length (size_text k size) ≤ 27
size-length k size few small =
    let least = div-le_self size (10 ^ k) in
    omega (arith, number-length (size / 10 ^ k) (omega arith), decimals-length k size, length-append (decimal (size / 10 ^ k)) (decimals_text k size))

text-length : (k : ℕ) (raw : ℤ) → k ≤ 6 → unsigned_abs raw ≤ 2 ^ 63 → length (text_of k raw) ≤ 28
text-length k (pos n) few small = let h = size-length k n few small in omega arith
text-length k (negsuc n) few small = let h = size-length k (suc n) few small in omega arith

decimals-few : (decimals : ℕ) (k : Kind) → decimals ≤ 6 → decimals_of decimals k ≤ 6
decimals-few decimals kind.Bool few = omega arith
decimals-few decimals kind.Int few = omega arith
decimals-few decimals kind.Real few = few

bool-length : (decimals : ℕ) (k : Kind) (v : Value) → decimals ≤ 6 → IsSized v → length (value_text decimals k v) ≤ 28
bool-length decimals k (value.Bool true) few sized = omega arith
bool-length decimals k (value.Bool false) few sized = omega arith
bool-length decimals k (value.Num raw) few sized = text-length (decimals_of decimals k) raw (decimals-few decimals k few) sized

-- words with a space, as many as there are kinds and values
before-length : (decimals : ℕ) (kinds : List Kind) (values : List Value) → decimals ≤ 6 → AreSized values → length (before_space (value_words decimals kinds values)) ≤ 32 * length (value_words decimals kinds values)
before-length decimals [] values few sized = omega arith
before-length decimals (k ∷ kinds) [] few sized = omega arith
before-length decimals (k ∷ kinds) (v ∷ values) few sized =
    let rest = before-length decimals kinds values few sized.1 in
    let text = value_text decimals k v in
    omega (arith, bool-length decimals k v few sized.0, length-append (text ++ codes " ") (before_space (value_words decimals kinds values)), length-append text (codes " "))

after-length : (decimals : ℕ) (kinds : List Kind) (values : List Value) → decimals ≤ 6 → AreSized values → length (after_space (value_words decimals kinds values)) ≤ 32 * length (value_words decimals kinds values)
after-length decimals [] values few sized = omega arith
after-length decimals (k ∷ kinds) [] few sized = omega arith
after-length decimals (k ∷ kinds) (v ∷ values) few sized =
    let rest = after-length decimals kinds values few sized.1 in
    let text = value_text decimals k v in
    omega (arith, bool-length decimals k v few sized.0, length-append (codes " " ++ text) (after_space (value_words decimals kinds values)), length-append (codes " ") text)

words-few : (decimals : ℕ) (kinds : List Kind) (values : List Value) → (length (value_words decimals kinds values) ≤ length kinds) × (length (value_words decimals kinds values) ≤ length values)
words-few decimals [] values = (omega arith, omega arith)
words-few decimals (k ∷ kinds) [] = (omega arith, omega arith)
words-few decimals (k ∷ kinds) (v ∷ values) = let rest = words-few decimals kinds values in (omega (arith, rest.0), omega (arith, rest.1))

locals-after-length : (decimals : ℕ) (kinds : List Kind) (locals : List (Option Value)) → decimals ≤ 6 → AreLocalsSized locals → length (after_space (local_words decimals kinds locals)) ≤ 32 * length kinds
locals-after-length decimals [] locals few sized = omega arith
locals-after-length decimals (k ∷ kinds) [] few sized = omega arith
locals-after-length decimals (k ∷ kinds) (None ∷ locals) few sized =
    let rest = locals-after-length decimals kinds locals few sized in
    omega (arith, length-append (codes " " ++ codes "?") (after_space (local_words decimals kinds locals)))
locals-after-length decimals (k ∷ kinds) (Some v ∷ locals) few sized =
    let rest = locals-after-length decimals kinds locals few sized.1 in
    let text = value_text decimals k v in
    omega (arith, bool-length decimals k v few sized.0, length-append (codes " " ++ text) (after_space (local_words decimals kinds locals)), length-append (codes " ") text)

part-length : (decimals : ℕ) (kinds : List Kind) (locals : Option (List (Option Value))) → decimals ≤ 6 → AreLocalsSized (unwrap_or locals []) → length (after_space (locals_part decimals kinds locals)) ≤ 6 + 32 * length kinds
part-length decimals kinds None few sized = omega arith
part-length decimals kinds (Some locals) few sized =
    let rest = locals-after-length decimals kinds locals few sized in
    omega (arith, length-append (codes " " ++ codes "#locs") (after_space (local_words decimals kinds locals)))

spaced-length : (words : List (List ℕ)) → length (spaced words) ≤ length (after_space words)
spaced-length [] = omega arith
spaced-length (w ∷ ws) = omega (arith, length-append w (after_space ws), length-append (codes " " ++ w) (after_space ws), length-append (codes " ") w)

line-fits : LineFits
line-fits decimals kinds values few sized =
    omega (arith, after-length decimals kinds values few sized, (words-few decimals kinds values).1, spaced-length (value_words decimals kinds values), length-append (spaced (value_words decimals kinds values)) (10 ∷ []))

-- ---- the end line

name-length : (names : List (List ℕ)) (z : ℕ) → length (slice_index_or names z []) ≤ sum_by (λ name. length name) names
name-length [] z = omega arith
name-length (n ∷ names) zero = omega (arith, sum_by-cons (λ (name : List ℕ). length name) n names)
name-length (n ∷ names) (suc z) = let rest = name-length names z in omega (arith, sum_by-cons (λ (name : List ℕ). length name) n names)

who-length : (w : Who) → length (who_text w) ≤ 10
who-length who.Controller = omega arith
who-length who.Oracle = omega arith

fault-length : (f : Arith) → length (fault_text f) ≤ 14
fault-length arith_fault.NoPrevious = omega arith
fault-length arith_fault.DivisionByZero = omega arith
fault-length arith_fault.Overflow = omega arith
fault-length arith_fault.NegativeWeight = omega arith

refusal-length : (f : ValueFault) → length (refusal_text f) ≤ 10
refusal-length fault.NotAValue = omega arith
refusal-length fault.OutOfRange = omega arith
refusal-length fault.TooLong = omega arith

-- one word, two, and three
one-word : (a : List ℕ) → length (after_space (a ∷ [])) ≡ 1 + length a
one-word a = length-append (codes " " ++ a) [] ∙ let e = length-append (codes " ") a in omega arith

two-words : (a b : List ℕ) → length (after_space (a ∷ b ∷ [])) ≡ 2 + length a + length b
two-words a b = length-append (codes " " ++ a) (after_space (b ∷ [])) ∙ let e = length-append (codes " ") a in let rest = one-word b in omega arith

three-words : (a b c : List ℕ) → length (after_space (a ∷ b ∷ c ∷ [])) ≡ 3 + length a + length b + length c
three-words a b c = length-append (codes " " ++ a) (after_space (b ∷ c ∷ [])) ∙ let e = length-append (codes " ") a in let rest = two-words b c in omega arith

end-length : (e : End) (names : List (List ℕ)) → IsEndSized e → length (after_space (end_words e names)) ≤ 64 + sum_by (λ name. length name) names
end-length end.Normal names sized = omega arith
end-length end.Limit names sized = omega arith
end-length end.Oracle names sized = omega arith
end-length end.Deadlock names sized = omega arith
end-length (end.Raise z) names sized = omega (arith, name-length names z, two-words (codes "raise") (slice_index_or names z []))
end-length (end.Fault f) names sized = omega (arith, fault-length f, two-words (codes "fault") (fault_text f))
end-length end.TooLarge names sized = omega arith
end-length (end.Malformed w f place) names sized = omega (arith, who-length w, refusal-length f, three-words (codes "malformed") (who_text w) (refusal_text f))
end-length (end.Ended w taken) names sized = omega (arith, who-length w, two-words (codes "ended") (who_text w))
end-length (end.Device w) names sized = omega (arith, who-length w, two-words (codes "device") (who_text w))
end-length (end.Budget need) names sized = omega (arith, length-decimal-le_wide 39 need (omega arith) (omega arith) (omega arith), two-words (codes "budget") (decimal need))

step-fits : StepFits
step-fits decimals step number kinds outputs inputs locals e names few small tiny outputs_sized inputs_sized locals_sized end_sized =
    let first = line (codes "#step " ++ decimal step) in
    let values = line (spaced (step_words decimals kinds outputs inputs locals)) in
    let before = before_space (value_words decimals kinds outputs) in
    let after = after_space (value_words decimals (drop (length outputs) kinds) inputs) in
    let part = after_space (locals_part decimals (drop (length outputs + length inputs) kinds) locals) in
    let words = end_words e names in
    let last = decimal number in
    let layout : length values ≡ length (before ++ codes "#outs" ++ after ++ part ++ 10 ∷ []) = ap (λ (text : List ℕ). length text) (step_lays_out decimals kinds outputs inputs locals) in
    let one : length first ≤ 27 = omega (arith, number-length step small, length-append (codes "#step " ++ decimal step) (10 ∷ []), length-append (codes "#step ") (decimal step)) in
    let two : length values ≤ 12 + 32 * length kinds =
    omega (
      arith,
      layout,
      before-length decimals kinds outputs few outputs_sized,
      (words-few decimals kinds outputs).0,
      (words-few decimals kinds outputs).1,
      after-length decimals (drop (length outputs) kinds) inputs few inputs_sized,
      (words-few decimals (drop (length outputs) kinds) inputs).0,
      (words-few decimals (drop (length outputs) kinds) inputs).1,
      length-drop (length outputs) kinds,
      length-drop (length outputs + length inputs) kinds,
      part-length decimals (drop (length outputs + length inputs) kinds) locals few locals_sized,
      length-append (before ++ codes "#outs" ++ after ++ part) (10 ∷ []),
      length-append (before ++ codes "#outs" ++ after) part,
      length-append (before ++ codes "#outs") after,
      length-append before (codes "#outs"),
    ) in
    let all : after_space (words ++ last ∷ []) ≡ after_space words ++ after_space (last ∷ []) = after-append words (last ∷ []) in
    let count : length (after_space (words ++ last ∷ [])) ≤ 85 + sum_by (λ name. length name) names =
    omega (arith, ap (λ (text : List ℕ). length text) all, end-length e names end_sized, one-word last, number-length number tiny, length-append (after_space words) (after_space (last ∷ []))) in
    omega (arith, one, two, count, length-append first values, length-append (codes "#end" ++ after_space (words ++ last ∷ [])) (10 ∷ []), length-append (codes "#end") (after_space (words ++ last ∷ [])))

pub room_is_enough : RoomIsEnough
room_is_enough = (header-fits, line-fits, step-fits)
