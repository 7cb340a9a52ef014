-- A line leads from a place to one place, or to none.
use Rattle.std.proofs.Common.{◌≡◌, ◌<◌, ◌≤◌, ◌⊎◌, inl, inr, ◌+◌, ◌^◌, ℕ, Bool, true, false, List, [], ◌∷◌, ◌++◌, None, Some, Option, codes, decimal, get_or, length, refl, ap, sym, subst, ◌∙◌, arith}
use Rattle.std.specs.Str.Parse.{digits_value}
use Rattle.std.specs.Str.{bytes_eq}
use Rattle.std.proofs.lemmas.Bool.{cases_lt}
use Rattle.std.proofs.lemmas.Slice.Eq.{bytes_eq-Decides}
use Rattle.lt_draw.specs.declared.directions.Draw.{Draw}
use Rattle.lt_draw.specs.declared.directions.Draw.TheVariants.{Directed, Inside, Up}
use Rattle.lt_num.specs.Bounds.{most_decimals}
use Rattle.lt_rif.specs.ReadBack.{ValueReadsBack}
use Rattle.lt_rif.specs.Trace.{draw_header, line}
use Rattle.lt_trace.specs.End.{IsEnd}
use Rattle.lt_trace.specs.Lines.{IsLine, Place, at_end, at_inputs, at_locals, at_outputs, at_rule, at_seed, at_step, at_values, declaration, declares_inputs, declares_locals, declares_outputs, numbers_step, shows_step, tells_end, tells_no_rule, tells_rule, tells_seed}
use Rattle.lt_trace.specs.Shape.{Shape}
use Rattle.lt_trace.specs.Told.{Shown}
use Rattle.lt_trace.specs.declared.recorded.RecordedEnd.{RecordedEnd}
use Rattle.lt_trace.specs.inner.Ends.{FindsTold, end_word_text}
use Rattle.lt_trace.specs.inner.Front.{behind, is_same}
use Rattle.lt_trace.specs.inner.Words.{IsLineRead, read_line}
use Rattle.lt_trace.proofs.Fronts.{behind_front, same_back, same_on}
use Rattle.lt_trace.proofs.Headers.{Says}
use Rattle.lt_trace.proofs.Lines.{line-read, read-on}
use Rattle.lt_trace.proofs.Numbers.{decimal-back}
use Rattle.lt_trace.proofs.OneEnd.{find-told, one-end}
use Rattle.lt_trace.proofs.Spaces.{end-words-back, same-line}
use Rattle.lt_trace.proofs.Words.{either}

-- a line leads to one place ..
pub record LeadsToOne (shape : Shape) (p : Place) (text : List ℕ) : Type 0 where
  pub place : Place
  pub leads : IsLine shape p text place
  pub only : (q : Place) → Says shape p text q → q ≡ place

-- .. or to none
abbrev pub LeadsNowhere : Shape → Place → List ℕ → Type 0
LeadsNowhere shape p text = (q : Place) → Says shape p text q → ⊥

abbrev pub Decided : Shape → Place → List ℕ → Type 0
Decided shape p text = LeadsToOne shape p text ⊎ LeadsNowhere shape p text

-- texts are compared
same-or-not : (text other : List ℕ) → (text ≡ other) ⊎ (text ≡ other → ⊥)
same-or-not text other =
    either (is_same text other)
    (λ t. inl (same_back text other t))
    (λ t. inr (λ h. let u = same_on text other h in absurd (cc)))

-- ---- the seed

behind_or : Option (List ℕ) → List ℕ
behind_or None = []
behind_or (Some rest) = rest

seed_of : List ℕ → ℕ
seed_of text = digits_value 10 (behind_or (behind text (codes "#seed ")))

seed-is : (text : List ℕ) (n : ℕ) → n < 2 ^ 64 → text ≡ codes "#seed " ++ decimal n → seed_of text ≡ n
unfolding seed_of behind_or
seed-is text n small e =
    let wide : n < 2 ^ 128 = omega arith in
    ap (λ (o : Option (List ℕ)). digits_value 10 (behind_or o)) (ap (λ (t : List ℕ). behind t (codes "#seed ")) e ∙ behind_front (codes "#seed ") (decimal n)) ∙ (decimal-back n wide).1

decide-seed : (shape : Shape) (text : List ℕ) → Decided shape at_seed text
decide-seed shape text = by_size (cases_lt (seed_of text) (2 ^ 64)) (same-or-not text (codes "#seed " ++ decimal (seed_of text)))
  where
    by_size : (seed_of text < 2 ^ 64) ⊎ (2 ^ 64 ≤ seed_of text) → (text ≡ codes "#seed " ++ decimal (seed_of text)) ⊎ (text ≡ codes "#seed " ++ decimal (seed_of text) → ⊥) → Decided shape at_seed text
    by_size (inl small) (inl h) = inl (record {
      place = at_rule;
      leads = subst (λ (t : List ℕ). IsLine shape at_seed t at_rule) (sym h) (tells_seed (seed_of text) small);
      only = λ q s. s.3;
    })
    by_size (inl small) (inr not_so) = inr (λ q s. not_so (s.2 ∙ ap (λ (n : ℕ). codes "#seed " ++ decimal n) (sym (seed-is text s.0 s.1 s.2))))
    by_size (inr big) o = inr (λ q s. let same = seed-is text s.0 s.1 s.2 in let small = s.1 in omega arith)

-- texts whose second bytes are different
other-second : (text a b : List ℕ) → text ≡ a → text ≡ b → (get_or a 1 0 ≡ get_or b 1 0 → ⊥) → ⊥
other-second text a b e f differ = differ (ap (λ (t : List ℕ). get_or t 1 0) (sym e ∙ f))

-- ---- the rule of drawing

-- the line of a rule isn't that of the outputs
no-rule-there : (shape : Shape) (text : List ℕ) (draw : Draw) → line text ≡ draw_header draw → text ≡ declaration (codes "#inputs") shape.declared.outputs → ⊥
no-rule-there shape [] Up e h = absurd (cc)
no-rule-there shape (b ∷ text) Up e h = absurd (cc)
no-rule-there shape text Directed e h = other-second text (codes "#draw 2") _ (same-line text (codes "#draw 2") e) h (λ f. omega (arith, f))
no-rule-there shape text Inside e h = other-second text (codes "#draw 3") _ (same-line text (codes "#draw 3") e) h (λ f. omega (arith, f))

rule-or-not : (text : List ℕ) → ((draw : Draw) × (line text ≡ draw_header draw)) ⊎ ((draw : Draw) → line text ≡ draw_header draw → ⊥)
rule-or-not text = by_text (same-or-not text (codes "#draw 2")) (same-or-not text (codes "#draw 3"))
  where
    none : (text ≡ codes "#draw 2" → ⊥) → (text ≡ codes "#draw 3" → ⊥) → (draw : Draw) → line text ≡ draw_header draw → ⊥
    none not_so also Up e = no_line text e
      where
        no_line : (t : List ℕ) → line t ≡ [] → ⊥
        no_line [] h = absurd (cc)
        no_line (b ∷ t) h = absurd (cc)
    none not_so also Directed e = not_so (same-line text (codes "#draw 2") e)
    none not_so also Inside e = also (same-line text (codes "#draw 3") e)

    by_text : (text ≡ codes "#draw 2") ⊎ (text ≡ codes "#draw 2" → ⊥) → (text ≡ codes "#draw 3") ⊎ (text ≡ codes "#draw 3" → ⊥) → ((draw : Draw) × (line text ≡ draw_header draw)) ⊎ ((draw : Draw) → line text ≡ draw_header draw → ⊥)
    by_text (inl h) o = inl (Directed, ap line h)
    by_text (inr not_so) (inl h) = inl (Inside, ap line h)
    by_text (inr not_so) (inr also) = inr (none not_so also)

-- a text that isn't the line of the second rule, and tells one
pub second-rule : (text a b : List ℕ) (x y : Bool) → a ≡ codes "#draw 2" → b ≡ codes "#draw 3" → x ≡ bytes_eq text a → x ≡ false → y ≡ bytes_eq text b → (draw : Draw) → line text ≡ draw_header draw → y ≡ true
second-rule [] a b x y first second tried other last Up e = absurd (cc)
second-rule (c ∷ text) a b x y first second tried other last Up e = absurd (cc)
second-rule text a b x y first second tried other last Directed e =
    let same : bytes_eq text a ≡ true = (bytes_eq-Decides text a).1 (same-line text (codes "#draw 2") e ∙ sym first) in
    absurd (let both : true ≡ false = sym same ∙ sym tried ∙ other in cc)
second-rule text a b x y first second tried other last Inside e = last ∙ (bytes_eq-Decides text b).1 (same-line text (codes "#draw 3") e ∙ sym second)

decide-rule : (shape : Shape) (text : List ℕ) → Decided shape at_rule text
decide-rule shape text = by_rule (rule-or-not text) (same-or-not text (declaration (codes "#inputs") shape.declared.outputs))
  where
    after_rule : (draw : Draw) → line text ≡ draw_header draw → (q : Place) → Says shape at_rule text q → q ≡ at_outputs
    after_rule draw e q (inl s) = s.2
    after_rule draw e q (inr s) = absurd (no-rule-there shape text draw e s.0)

    after_outputs : ((draw : Draw) → line text ≡ draw_header draw → ⊥) → (q : Place) → Says shape at_rule text q → q ≡ at_inputs
    after_outputs not_so q (inl s) = absurd (not_so s.0 s.1)
    after_outputs not_so q (inr s) = s.1

    nowhere : ((draw : Draw) → line text ≡ draw_header draw → ⊥) → (text ≡ declaration (codes "#inputs") shape.declared.outputs → ⊥) → LeadsNowhere shape at_rule text
    nowhere not_so also q (inl s) = not_so s.0 s.1
    nowhere not_so also q (inr s) = also s.0

    by_rule : ((draw : Draw) × (line text ≡ draw_header draw)) ⊎ ((draw : Draw) → line text ≡ draw_header draw → ⊥)
        → (text ≡ declaration (codes "#inputs") shape.declared.outputs) ⊎ (text ≡ declaration (codes "#inputs") shape.declared.outputs → ⊥) → Decided shape at_rule text
    by_rule (inl r) o = inl (record { place = at_outputs; leads = tells_rule r.0 text r.1; only = after_rule r.0 r.1 })
    by_rule (inr not_so) (inl h) = inl (record {
      place = at_inputs;
      leads = subst (λ (t : List ℕ). IsLine shape at_rule t at_inputs) (sym h) tells_no_rule;
      only = after_outputs not_so;
    })
    by_rule (inr not_so) (inr also) = inr (nowhere not_so also)

-- ---- declarations

decide-declared : (shape : Shape) (p after : Place) (due text : List ℕ) → IsLine shape p due after → ((q : Place) → Says shape p text q → (text ≡ due) × (q ≡ after)) → Decided shape p text
decide-declared shape p after due text l back = by_text (same-or-not text due)
  where
    by_text : (text ≡ due) ⊎ (text ≡ due → ⊥) → Decided shape p text
    by_text (inl h) = inl (record { place = after; leads = subst (λ (t : List ℕ). IsLine shape p t after) (sym h) l; only = λ q s. (back q s).1 })
    by_text (inr not_so) = inr (λ q s. not_so (back q s).0)

-- ---- steps and the end

-- the number of a step isn't the end
no-end-there : (names : List (List ℕ)) (steps : ℕ) (text digits : List ℕ) (e : RecordedEnd) → IsEnd names steps text e → text ≡ codes "#step " ++ digits → ⊥
no-end-there names steps text digits e is h =
    other-second text (end_word_text is.0 names steps) (codes "#step " ++ digits) (end-words-back is.0 names steps text is.2) h (λ f. omega (arith, f))

decide-step : (shape : Shape) (steps : List Shown) (text : List ℕ) → Decided shape (at_step steps) text
decide-step shape steps text = by_number (same-or-not text (codes "#step " ++ decimal (length steps + 1))) (find-told shape.exceptions (length steps) text)
  where
    only_number : text ≡ codes "#step " ++ decimal (length steps + 1) → (q : Place) → Says shape (at_step steps) text q → q ≡ at_values steps
    only_number h q (inl s) = s.1
    only_number h q (inr s) = absurd (no-end-there shape.exceptions (length steps) text (decimal (length steps + 1)) s.0 s.1 h)

    only_end : (text ≡ codes "#step " ++ decimal (length steps + 1) → ⊥) → (e : RecordedEnd) → IsEnd shape.exceptions (length steps) text e → (q : Place) → Says shape (at_step steps) text q → q ≡ at_end (record { steps = steps; end = e })
    only_end not_so e is q (inl s) = absurd (not_so s.0)
    only_end not_so e is q (inr s) = s.2 ∙ ap (λ (r : RecordedEnd). at_end (record { steps = steps; end = r })) (one-end shape.exceptions (length steps) text s.0 e s.1 is)

    nowhere : (text ≡ codes "#step " ++ decimal (length steps + 1) → ⊥) → FindsTold shape.exceptions (length steps) text None → LeadsNowhere shape (at_step steps) text
    nowhere not_so none q (inl s) = not_so s.0
    nowhere not_so none q (inr s) = none s.0 s.1

    by_end : (text ≡ codes "#step " ++ decimal (length steps + 1) → ⊥) → (o : Option RecordedEnd) → FindsTold shape.exceptions (length steps) text o → Decided shape (at_step steps) text
    by_end not_so None f = inr (nowhere not_so f)
    by_end not_so (Some e) f = inl (record { place = at_end (record { steps = steps; end = e }); leads = tells_end steps text e f; only = only_end not_so e f })

    by_number : (text ≡ codes "#step " ++ decimal (length steps + 1)) ⊎ (text ≡ codes "#step " ++ decimal (length steps + 1) → ⊥) → (o : Option RecordedEnd) × FindsTold shape.exceptions (length steps) text o → Decided shape (at_step steps) text
    by_number (inl h) o = inl (record { place = at_values steps; leads = subst (λ (t : List ℕ). IsLine shape (at_step steps) t (at_values steps)) (sym h) (numbers_step steps); only = only_number h })
    by_number (inr not_so) o = by_end not_so o.0 o.1

decide-values : ValueReadsBack → (shape : Shape) → shape.decimals ≤ most_decimals → (steps : List Shown) (text : List ℕ) → Decided shape (at_values steps) text
decide-values law shape few steps text = by_read (read_line shape text) refl
  where
    only_step : (step : Shown) → read_line shape text ≡ Some step → (q : Place) → Says shape (at_values steps) text q → q ≡ at_step (steps ++ step ∷ [])
    only_step step e q s =
        let other = read-on law shape few s.0 text s.1 s.2 in
        let both : Some s.0 ≡ Some step = sym other ∙ e in
        let same : s.0 ≡ step = cc in
        s.3 ∙ ap (λ (x : Shown). at_step (steps ++ x ∷ [])) same

    by_read : (o : Option Shown) → read_line shape text ≡ o → Decided shape (at_values steps) text
    by_read None e =
        let none : IsLineRead shape text None = subst (IsLineRead shape text) e (line-read law shape text few) in
        inr (λ q s. none s.0 s.1 s.2)
    by_read (Some step) e =
        let read : IsLineRead shape text (Some step) = subst (IsLineRead shape text) e (line-read law shape text few) in
        inl (record {
          place = at_step (steps ++ step ∷ []);
          leads = subst (λ (t : List ℕ). IsLine shape (at_values steps) t (at_step (steps ++ step ∷ []))) (sym read.1) (shows_step steps step read.0);
          only = only_step step e;
        })

pub decide-line : ValueReadsBack → (shape : Shape) → shape.decimals ≤ most_decimals → (p : Place) (text : List ℕ) → Decided shape p text
decide-line law shape few at_seed text = decide-seed shape text
decide-line law shape few at_rule text = decide-rule shape text
decide-line law shape few at_outputs text = decide-declared shape at_outputs at_inputs _ text declares_outputs (λ q s. s)
decide-line law shape few at_inputs text = decide-declared shape at_inputs at_locals _ text declares_inputs (λ q s. s)
decide-line law shape few at_locals text = decide-declared shape at_locals (at_step []) _ text declares_locals (λ q s. s)
decide-line law shape few (at_step steps) text = decide-step shape steps text
decide-line law shape few (at_values steps) text = decide-values law shape few steps text
decide-line law shape few (at_end t) text = inr (λ q s. s)
