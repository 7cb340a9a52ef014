-- The line of a step.
use Rattle.std.proofs.Common.{◌≡◌, ℕ, ◌+◌, ◌≤◌, List, [], ◌∷◌, ◌++◌, None, Some, Option, codes, drop, length, refl, ap, sym, ◌∙◌, subst, append_assoc, append-nil, if◌then◌else◌}
use Rattle.std.specs.List.{flat_map}
use Rattle.std.specs.Str.{bytes_eq}
use Rattle.std.proofs.lemmas.Grind.{flat_map-append}
use Rattle.std.proofs.lemmas.List.{append_cancel_right, drop-drop}
use Rattle.std.proofs.lemmas.Slice.Eq.{bytes_eq-Decides}
use Rattle.lt_num.specs.Bounds.{most_decimals}
use Rattle.lt_num.specs.declared.kind.Kind.{Kind}
use Rattle.lt_num.specs.declared.value.Value.{Value}
use Rattle.lt_rif.specs.ReadBack.{HoldAll, ValueReadsBack, kinds_of}
use Rattle.lt_rif.specs.Trace.{local_words, spaced, step_words, value_text, value_words}
use Rattle.lt_rif.specs.declared.slot.Slot.{Slot}
use Rattle.lt_trace.specs.Shape.{IsShown, Shape, kinds_in, shown_text}
use Rattle.lt_trace.specs.Told.{Shown}
use Rattle.lt_trace.specs.inner.Words.{IsLineRead, StepLineIsRead, cut, ended, marked, on_some, on_word, read_line, read_locals, read_values}
use Rattle.lt_trace.proofs.Values.{before_space, locals-back, locals-on, values-back, values-on}
use Rattle.lt_trace.proofs.Words.{cut-back, either}

-- ---- the words of a step

-- a space behind words, all of them
behind : List (List ℕ) → List ℕ
behind words = flat_map (λ word. codes " " ++ word) words

spaced-cons : (w : List ℕ) (ws : List (List ℕ)) → spaced (w ∷ ws) ++ 32 ∷ [] ≡ before_space (w ∷ ws)
spaced-cons w [] = ap (λ (t : List ℕ). t ++ 32 ∷ []) (append-nil w) ∙ sym (append-nil (w ++ 32 ∷ []))
spaced-cons w (v ∷ ws) =
    append_assoc w (32 ∷ spaced (v ∷ ws)) (32 ∷ [])
    ∙ ap (λ (t : List ℕ). w ++ 32 ∷ t) (spaced-cons v ws)
    ∙ sym (append_assoc w (32 ∷ []) (before_space (v ∷ ws)))

spaced-middle : (xs : List (List ℕ)) (m : List ℕ) (ys : List (List ℕ)) → spaced (xs ++ m ∷ ys) ++ 32 ∷ [] ≡ before_space (xs ++ m ∷ ys)
spaced-middle [] m ys = spaced-cons m ys
spaced-middle (x ∷ xs) m ys = spaced-cons x (xs ++ m ∷ ys)

-- the words of values are those by the first kinds
words-front : (decimals : ℕ) (slots : List Slot) (values : List Value) (more : List Kind) → HoldAll slots values → value_words decimals (kinds_of slots ++ more) values ≡ value_words decimals (kinds_of slots) values
words-front decimals [] [] [] holds = refl
words-front decimals [] [] (k ∷ more) holds = refl
words-front decimals [] (v ∷ values) more holds = absurd holds
words-front decimals (slot ∷ slots) [] more holds = absurd holds
words-front decimals (slot ∷ slots) (v ∷ values) more holds = ap (λ (t : List (List ℕ)). value_text decimals slot.kind v ∷ t) (words-front decimals slots values more holds.1)

-- the kinds behind them
kinds-behind : (slots : List Slot) (values : List Value) (more : List Kind) → HoldAll slots values → drop (length values) (kinds_of slots ++ more) ≡ more
kinds-behind [] [] more holds = refl
kinds-behind [] (v ∷ values) more holds = absurd holds
kinds-behind (slot ∷ slots) [] more holds = absurd holds
kinds-behind (slot ∷ slots) (v ∷ values) more holds = kinds-behind slots values more holds.1

-- the words of a step, by the slots
abbrev words_in : Shape → Shown → List (List ℕ)
words_in shape step =
    value_words shape.decimals (kinds_of shape.outputs) step.outputs
    ++ codes "#outs" ∷ (value_words shape.decimals (kinds_of shape.inputs) step.inputs ++ codes "#locs" ∷ local_words shape.decimals (kinds_of shape.locals) step.locals)

words-are : (shape : Shape) (step : Shown) → IsShown shape step → step_words shape.decimals (kinds_in shape) step.outputs step.inputs (Some step.locals) ≡ words_in shape step
words-are shape step is =
    let d = shape.decimals in
    let ins = kinds_of shape.inputs in
    let locs = kinds_of shape.locals in
    let x = words-front d shape.outputs step.outputs (ins ++ locs) is.outputs in
    let one : drop (length step.outputs) (kinds_in shape) ≡ ins ++ locs = kinds-behind shape.outputs step.outputs (ins ++ locs) is.outputs in
    let y = words-front d shape.inputs step.inputs locs is.inputs in
    let two : drop (length step.outputs + length step.inputs) (kinds_in shape) ≡ locs =
    sym (drop-drop (length step.inputs) (length step.outputs) (kinds_in shape)) ∙ ap (λ (t : List Kind). drop (length step.inputs) t) one ∙ kinds-behind shape.inputs step.inputs locs is.inputs in
    ap (λ (t : List (List ℕ)). t ++ codes "#outs" ∷ (value_words d (drop (length step.outputs) (kinds_in shape)) step.inputs ++ codes "#locs" ∷ local_words d (drop (length step.outputs + length step.inputs) (kinds_in shape)) step.locals)) x
    ∙ ap (λ (t : List Kind). value_words d (kinds_of shape.outputs) step.outputs ++ codes "#outs" ∷ (value_words d t step.inputs ++ codes "#locs" ∷ local_words d (drop (length step.outputs + length step.inputs) (kinds_in shape)) step.locals)) one
    ∙ ap (λ (t : List Kind). value_words d (kinds_of shape.outputs) step.outputs ++ codes "#outs" ∷ (value_words d (ins ++ locs) step.inputs ++ codes "#locs" ∷ local_words d t step.locals)) two
    ∙ ap (λ (t : List (List ℕ)). value_words d (kinds_of shape.outputs) step.outputs ++ codes "#outs" ∷ (t ++ codes "#locs" ∷ local_words d locs step.locals)) y

-- a line with a space behind it, by its parts
abbrev parts : List ℕ → List ℕ → List ℕ → List ℕ
parts x y z = x ++ (codes "#outs" ++ 32 ∷ (y ++ (codes "#locs" ++ 32 ∷ z)))

abbrev layout : Shape → Shown → List ℕ
layout shape step =
    parts (before_space (value_words shape.decimals (kinds_of shape.outputs) step.outputs)) (before_space (value_words shape.decimals (kinds_of shape.inputs) step.inputs)) (before_space (local_words shape.decimals (kinds_of shape.locals) step.locals))

layout-words : (xs ys zs : List (List ℕ)) → before_space (xs ++ codes "#outs" ∷ (ys ++ codes "#locs" ∷ zs)) ≡ parts (before_space xs) (before_space ys) (before_space zs)
layout-words xs ys zs =
    flat_map-append (λ word. word ++ 32 ∷ []) xs (codes "#outs" ∷ (ys ++ codes "#locs" ∷ zs))
    ∙ ap (λ (t : List ℕ). before_space xs ++ (codes "#outs" ++ 32 ∷ t)) (flat_map-append (λ word. word ++ 32 ∷ []) ys (codes "#locs" ∷ zs))

laid-out : (shape : Shape) (step : Shown) → IsShown shape step → shown_text shape step ++ 32 ∷ [] ≡ layout shape step
laid-out shape step is =
    let d = shape.decimals in
    let xs = value_words d (kinds_of shape.outputs) step.outputs in
    let ys = value_words d (kinds_of shape.inputs) step.inputs in
    let zs = local_words d (kinds_of shape.locals) step.locals in
    ap (λ (ws : List (List ℕ)). spaced ws ++ 32 ∷ []) (words-are shape step is) ∙ spaced-middle xs (codes "#outs") (ys ++ codes "#locs" ∷ zs) ∙ layout-words xs ys zs

-- ---- what is written is read

line-on : ValueReadsBack → (shape : Shape) → shape.decimals ≤ most_decimals → (step : Shown) (line : List ℕ) → IsShown shape step → line ++ 32 ∷ [] ≡ layout shape step → read_line shape line ≡ Some step
line-on law shape few step line is text =
    let d = shape.decimals in
    let y = before_space (value_words d (kinds_of shape.inputs) step.inputs) in
    let z = before_space (local_words d (kinds_of shape.locals) step.locals) in
    let tail = y ++ (codes "#locs" ++ 32 ∷ z) in
    let first : read_values d shape.outputs (line ++ 32 ∷ []) [] ≡ Some (step.outputs, codes "#outs" ++ 32 ∷ tail) = ap (λ (t : List ℕ). read_values d shape.outputs t []) text ∙ values-on law d few shape.outputs step.outputs is.outputs (codes "#outs" ++ 32 ∷ tail) [] in
    let second : read_values d shape.inputs tail [] ≡ Some (step.inputs, codes "#locs" ++ 32 ∷ z) = values-on law d few shape.inputs step.inputs is.inputs (codes "#locs" ++ 32 ∷ z) [] in
    let third : read_locals d shape.locals z [] ≡ Some (step.locals, []) = ap (λ (t : List ℕ). read_locals d shape.locals t []) (sym (append-nil z)) ∙ locals-on law d few shape.locals step.locals is.locals [] [] in
    rw first (rw second (rw third refl))

-- ---- what is read was written

rest_or : Option (List ℕ) → List ℕ
rest_or None = []
rest_or (Some t) = t

mark-back : (mark text rest : List ℕ) → marked mark text ≡ Some rest → text ≡ mark ++ 32 ∷ rest
unfolding rest_or
mark-back mark text rest e =
    elim (cut text) as (λ o. cut text ≡ o → on_word o (λ word r. if bytes_eq word mark then Some r else None) ≡ Some rest → text ≡ mark ++ 32 ∷ rest) [
      | None ↦ λ f g. absurd (cc)
      | Some x ↦ λ f g.
          either (bytes_eq x.0 mark)
          (λ t.
          let h : Some x.1 ≡ Some rest = rw t at g in
          let same : x.1 ≡ rest = ap rest_or h in
          cut-back text x.0 x.1 f ∙ ap (λ (w : List ℕ). w ++ 32 ∷ x.1) ((bytes_eq-Decides _ _).0 t) ∙ ap (λ (r : List ℕ). mark ++ 32 ∷ r) same)
          (λ t. absurd (let h = rw t at g in cc))
    ] refl e

ended-back : {R : Type 0} (text : List ℕ) (r s : R) → ended text r ≡ Some s → (text ≡ []) × (r ≡ s)
ended-back [] r s e = (refl, cc)
ended-back (b ∷ text) r s e = absurd (cc)

line-back : (shape : Shape) (line : List ℕ) (step : Shown) → read_line shape line ≡ Some step → IsShown shape step × (line ≡ shown_text shape step)
line-back shape line step e =
    let d = shape.decimals in
    let goal = IsShown shape step × (line ≡ shown_text shape step) in
    let to_locals = λ (x y : List Value) (t : List ℕ). on_some (read_locals d shape.locals t []) (λ z. ended z.1 (record { outputs = x; inputs = y; locals = z.0 })) in
    let to_inputs = λ (x : List Value) (t : List ℕ). on_some (read_values d shape.inputs t []) (λ y. on_some (marked (codes "#locs") y.1) (to_locals x y.0)) in
    elim (read_values d shape.outputs (line ++ 32 ∷ []) []) as (λ o. read_values d shape.outputs (line ++ 32 ∷ []) [] ≡ o → on_some o (λ x. on_some (marked (codes "#outs") x.1) (to_inputs x.0)) ≡ Some step → goal) [
      | None ↦ λ f g. absurd (cc)
      | Some x ↦ λ f g. elim (marked (codes "#outs") x.1) as (λ o. marked (codes "#outs") x.1 ≡ o → on_some o (to_inputs x.0) ≡ Some step → goal) [
        | None ↦ λ f2 g2. absurd (cc)
        | Some t2 ↦ λ f2 g2. elim (read_values d shape.inputs t2 []) as (λ o. read_values d shape.inputs t2 [] ≡ o → on_some o (λ y. on_some (marked (codes "#locs") y.1) (to_locals x.0 y.0)) ≡ Some step → goal) [
          | None ↦ λ f3 g3. absurd (cc)
          | Some y ↦ λ f3 g3. elim (marked (codes "#locs") y.1) as (λ o. marked (codes "#locs") y.1 ≡ o → on_some o (to_locals x.0 y.0) ≡ Some step → goal) [
            | None ↦ λ f4 g4. absurd (cc)
            | Some t4 ↦ λ f4 g4. elim (read_locals d shape.locals t4 []) as (λ o. read_locals d shape.locals t4 [] ≡ o → on_some o (λ z. ended z.1 (record { outputs = x.0; inputs = y.0; locals = z.0 })) ≡ Some step → goal) [
              | None ↦ λ f5 g5. absurd (cc)
              | Some z ↦ λ f5 g5.
                  let over = ended-back z.1 (record { outputs = x.0; inputs = y.0; locals = z.0 }) step g5 in
                  let xs = values-back d shape.outputs (line ++ 32 ∷ []) [] x.0 x.1 f in
                  let ys = values-back d shape.inputs t2 [] y.0 y.1 f3 in
                  let zs = locals-back d shape.locals t4 [] z.0 z.1 f5 in
                  let read : Shown = record { outputs = xs.values; inputs = ys.values; locals = zs.locals } in
                  let same : read ≡ step =
                  ap (λ (v : List Value). record { outputs = v; inputs = ys.values; locals = zs.locals }) (sym xs.out_is)
                  ∙ ap (λ (v : List Value). record { outputs = x.0; inputs = v; locals = zs.locals }) (sym ys.out_is)
                  ∙ ap (λ (v : List (Option Value)). record { outputs = x.0; inputs = y.0; locals = v }) (sym zs.out_is)
                  ∙ over.1 in
                  let shown : IsShown shape read = record { outputs = xs.holds; inputs = ys.holds; locals = zs.holds } in
                  let bx = before_space (value_words d (kinds_of shape.outputs) xs.values) in
                  let by = before_space (value_words d (kinds_of shape.inputs) ys.values) in
                  let bz = before_space (local_words d (kinds_of shape.locals) zs.locals) in
                  let last : t4 ≡ bz = zs.text_is ∙ ap (λ (t : List ℕ). bz ++ t) over.0 ∙ append-nil bz in
                  let text : line ++ 32 ∷ [] ≡ parts bx by bz =
                  xs.text_is
                  ∙ ap (λ (t : List ℕ). bx ++ t) (mark-back (codes "#outs") x.1 t2 f2)
                  ∙ ap (λ (t : List ℕ). bx ++ (codes "#outs" ++ 32 ∷ t)) ys.text_is
                  ∙ ap (λ (t : List ℕ). bx ++ (codes "#outs" ++ 32 ∷ (by ++ t))) (mark-back (codes "#locs") y.1 t4 f4)
                  ∙ ap (λ (t : List ℕ). bx ++ (codes "#outs" ++ 32 ∷ (by ++ (codes "#locs" ++ 32 ∷ t)))) last in
                  subst (λ (s : Shown). IsShown shape s × (line ≡ shown_text shape s)) same (shown, append_cancel_right line (shown_text shape read) (32 ∷ []) (text ∙ sym (laid-out shape read shown)))
            ] refl g4
          ] refl g3
        ] refl g2
      ] refl g
    ] refl e

-- the line of a step is read as it
pub read-on : ValueReadsBack → (shape : Shape) → shape.decimals ≤ most_decimals → (step : Shown) (line : List ℕ) → IsShown shape step → line ≡ shown_text shape step → read_line shape line ≡ Some step
read-on law shape few step line is same = line-on law shape few step line is (ap (λ (t : List ℕ). t ++ 32 ∷ []) same ∙ laid-out shape step is)

-- ---- both

pub line-read : ValueReadsBack → StepLineIsRead
line-read law shape line few =
    elim (read_line shape line) as (λ o. read_line shape line ≡ o → IsLineRead shape line o) [
      | None ↦ λ e. λ step is same. let f = read-on law shape few step line is same in absurd (cc)
      | Some step ↦ λ e. line-back shape line step e
    ] refl
