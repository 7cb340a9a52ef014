-- What a line says, and where it leads.
use Rattle.std.proofs.Common.{◌≡◌, ◌<◌, ◌⊎◌, inl, inr, ◌+◌, ◌^◌, ℕ, Bool, true, false, List, [], ◌∷◌, ◌++◌, codes, decimal, length, if◌then◌else◌, refl, sym, subst, ◌∙◌}
use Rattle.lt_draw.specs.declared.directions.Draw.{Draw}
use Rattle.lt_rif.specs.Trace.{draw_header, line}
use Rattle.lt_trace.specs.End.{IsEnd}
use Rattle.lt_trace.specs.Lines.{IsLine, Place, at_end, at_inputs, at_locals, at_outputs, at_rule, at_seed, at_step, at_values, declaration, declares_inputs, declares_locals, declares_outputs, numbers_step, shows_step, tells_end, tells_no_rule, tells_rule, tells_seed}
use Rattle.lt_trace.specs.Shape.{IsShown, Shape, shown_text}
use Rattle.lt_trace.specs.Told.{Shown}
use Rattle.lt_trace.specs.declared.recorded.RecordedEnd.{RecordedEnd}
use Rattle.lt_trace.specs.declared.stage.HeaderLine.TheVariants as header
use Rattle.lt_trace.specs.declared.stage.Next.{Next}
use Rattle.lt_trace.specs.declared.stage.Next.TheVariants as next
use Rattle.lt_trace.specs.declared.stage.Stage.{Stage}
use Rattle.lt_trace.specs.declared.stage.Stage.TheVariants as stage
use Rattle.lt_trace.specs.inner.Front.{is_same}
use Rattle.lt_trace.specs.inner.Stages.{ComesNext, IsSoFar, place_at}
use Rattle.lt_trace.proofs.Fronts.{same_back, same_on}

-- what a line says that stands at a place and leads to another one
abbrev pub Says : Shape → Place → List ℕ → Place → Type 0
Says shape at_seed text q = (n : ℕ) × (n < 2 ^ 64) × (text ≡ codes "#seed " ++ decimal n) × (q ≡ at_rule)
Says shape at_rule text q = ((draw : Draw) × (line text ≡ draw_header draw) × (q ≡ at_outputs)) ⊎ ((text ≡ declaration (codes "#inputs") shape.declared.outputs) × (q ≡ at_inputs))
Says shape at_outputs text q = (text ≡ declaration (codes "#inputs") shape.declared.outputs) × (q ≡ at_inputs)
Says shape at_inputs text q = (text ≡ declaration (codes "#outputs") shape.declared.inputs) × (q ≡ at_locals)
Says shape at_locals text q = (text ≡ declaration (codes "#locals") shape.declared.locals) × (q ≡ at_step [])
Says shape (at_step steps) text q =
    ((text ≡ codes "#step " ++ decimal (length steps + 1)) × (q ≡ at_values steps))
    ⊎ ((e : RecordedEnd) × IsEnd shape.exceptions (length steps) text e × (q ≡ at_end (record { steps = steps; end = e })))
Says shape (at_values steps) text q = (step : Shown) × IsShown shape step × (text ≡ shown_text shape step) × (q ≡ at_step (steps ++ step ∷ []))
Says shape (at_end t) text q = ⊥

pub says : {shape : Shape} {p q : Place} {text : List ℕ} → IsLine shape p text q → Says shape p text q
says (tells_seed n small) = (n, small, refl, refl)
says (tells_rule draw text e) = inl (draw, e, refl)
says tells_no_rule = inr (refl, refl)
says declares_outputs = (refl, refl)
says declares_inputs = (refl, refl)
says declares_locals = (refl, refl)
says (numbers_step steps) = inl (refl, refl)
says (shows_step steps step is) = (step, is, refl, refl)
says (tells_end steps text e h) = inr (e, h, refl)

-- ---- lines of the header

-- where a test of a line decides
leads : (shape : Shape) (p : Place) (text : List ℕ) (s : Stage) (due : Bool) (r : Next) → r ≡ (if due then next.At s else next.Bad)
    → (due ≡ true → IsLine shape p text (place_at s [])) → IsSoFar s [] → ((q : Place) → Says shape p text q → due ≡ true) → ComesNext shape p text r []
leads shape p text s true r e on so_far back = subst (λ (n : Next). ComesNext shape p text n []) (sym e) (on refl, so_far)
leads shape p text s false r e on so_far back = subst (λ (n : Next). ComesNext shape p text n []) (sym e) (λ q l. let h = back q (says l) in absurd (cc))

pub seed-next : (shape : Shape) (text : List ℕ) (due : Bool) (r : Next) → r ≡ (if due then next.At (stage.Header header.Rule) else next.Bad)
    → (due ≡ true → (n : ℕ) × (n < 2 ^ 64) × (text ≡ codes "#seed " ++ decimal n))
    → ((n : ℕ) → n < 2 ^ 64 → text ≡ codes "#seed " ++ decimal n → due ≡ true)
    → ComesNext shape at_seed text r []
seed-next shape text due r e if_so not_so =
    leads shape at_seed text (stage.Header header.Rule) due r e
    (λ h. let n = if_so h in subst (λ (t : List ℕ). IsLine shape at_seed t at_rule) (sym n.2) (tells_seed n.0 n.1))
    refl (λ q h. not_so h.0 h.1 h.2)

pub rule-next : (shape : Shape) (text : List ℕ) → (draw : Draw) × (line text ≡ draw_header draw) → ComesNext shape at_rule text (next.At (stage.Header header.Outputs)) []
rule-next shape text h = (tells_rule h.0 text h.1, refl)

pub no-rule-next : (shape : Shape) (text : List ℕ) (due : Bool) (r : Next) → r ≡ (if due then next.At (stage.Header header.Inputs) else next.Bad)
    → ((draw : Draw) → line text ≡ draw_header draw → ⊥)
    → due ≡ is_same text (declaration (codes "#inputs") shape.declared.outputs)
    → ComesNext shape at_rule text r []
no-rule-next shape text due r e no_rule same =
    leads shape at_rule text (stage.Header header.Inputs) due r e
    (λ h. subst (λ (t : List ℕ). IsLine shape at_rule t at_inputs) (sym (same_back text _ (sym same ∙ h))) tells_no_rule)
    refl back
  where
    back : (q : Place) → Says shape at_rule text q → due ≡ true
    back q (inl h) = absurd (no_rule h.0 h.1)
    back q (inr h) = same ∙ same_on text _ h.0

pub outputs-next : (shape : Shape) (text : List ℕ) (due : Bool) (r : Next) → r ≡ (if due then next.At (stage.Header header.Inputs) else next.Bad)
    → due ≡ is_same text (declaration (codes "#inputs") shape.declared.outputs)
    → ComesNext shape at_outputs text r []
outputs-next shape text due r e same =
    leads shape at_outputs text (stage.Header header.Inputs) due r e
    (λ h. subst (λ (t : List ℕ). IsLine shape at_outputs t at_inputs) (sym (same_back text _ (sym same ∙ h))) declares_outputs)
    refl (λ q h. same ∙ same_on text _ h.0)

pub inputs-next : (shape : Shape) (text : List ℕ) (due : Bool) (r : Next) → r ≡ (if due then next.At (stage.Header header.Locals) else next.Bad)
    → due ≡ is_same text (declaration (codes "#outputs") shape.declared.inputs)
    → ComesNext shape at_inputs text r []
inputs-next shape text due r e same =
    leads shape at_inputs text (stage.Header header.Locals) due r e
    (λ h. subst (λ (t : List ℕ). IsLine shape at_inputs t at_locals) (sym (same_back text _ (sym same ∙ h))) declares_inputs)
    refl (λ q h. same ∙ same_on text _ h.0)

pub locals-next : (shape : Shape) (text : List ℕ) (due : Bool) (r : Next) → r ≡ (if due then next.At stage.Step else next.Bad)
    → due ≡ is_same text (declaration (codes "#locals") shape.declared.locals)
    → ComesNext shape at_locals text r []
locals-next shape text due r e same =
    leads shape at_locals text stage.Step due r e
    (λ h. subst (λ (t : List ℕ). IsLine shape at_locals t (at_step [])) (sym (same_back text _ (sym same ∙ h))) declares_locals)
    tt (λ q h. same ∙ same_on text _ h.0)
