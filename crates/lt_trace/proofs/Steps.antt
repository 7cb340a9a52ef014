-- Where the lines of a step, and of the end, lead.
use Rattle.std.proofs.Common.{◌≡◌, inl, inr, ◌+◌, ℕ, true, false, List, [], ◌∷◌, ◌++◌, codes, decimal, length, None, Some, ap, sym, subst, ◌∙◌}
use Rattle.lt_trace.specs.End.{IsEnd}
use Rattle.lt_trace.specs.Lines.{IsLine, Place, at_step, at_values, numbers_step, shows_step, tells_end}
use Rattle.lt_trace.specs.Shape.{Shape}
use Rattle.lt_trace.specs.Told.{Shown}
use Rattle.lt_trace.specs.declared.recorded.RecordedEnd.{RecordedEnd}
use Rattle.lt_trace.specs.declared.stage.Next.TheVariants as next
use Rattle.lt_trace.specs.declared.stage.Stage.TheVariants as stage
use Rattle.lt_trace.specs.inner.Ends.{FindsTold}
use Rattle.lt_trace.specs.inner.Front.{is_same}
use Rattle.lt_trace.specs.inner.Stages.{ComesNext}
use Rattle.lt_trace.specs.inner.Words.{IsLineRead}
use Rattle.lt_trace.proofs.Fronts.{same_back, same_on}
use Rattle.lt_trace.proofs.Headers.{Says, says}

-- the line of a step's number
abbrev numbered : ℕ → List ℕ
numbered k = codes "#step " ++ decimal (k + 1)

pub number-next : (shape : Shape) (k : ℕ) (text : List ℕ) → is_same text (numbered k) ≡ true → (told : List Shown) → length told ≡ k → ComesNext shape (at_step told) text (next.At stage.Values) told
number-next shape k text same told count =
    (subst (λ (t : List ℕ). IsLine shape (at_step told) t (at_values told)) (ap numbered count ∙ sym (same_back text _ same)) (numbers_step told), tt)

pub end-next : (shape : Shape) (k : ℕ) (text : List ℕ) (e : RecordedEnd) → FindsTold shape.exceptions k text (Some e) → (told : List Shown) → length told ≡ k → ComesNext shape (at_step told) text (next.Over e) told
end-next shape k text e is told count = tells_end told text e (subst (λ (n : ℕ). IsEnd shape.exceptions n text e) (sym count) is)

pub no-step-next : (shape : Shape) (k : ℕ) (text : List ℕ) → is_same text (numbered k) ≡ false → FindsTold shape.exceptions k text None → (told : List Shown) → length told ≡ k → ComesNext shape (at_step told) text next.Bad told
no-step-next shape k text other no_end told count = λ q l. refuted q (says l)
  where
    refuted : (q : Place) → Says shape (at_step told) text q → ⊥
    refuted q (inl h) = let f = same_on text (numbered k) (h.0 ∙ ap numbered count) in absurd (cc)
    refuted q (inr h) = no_end h.0 (subst (λ (n : ℕ). IsEnd shape.exceptions n text h.0) count h.1)

pub values-next : (shape : Shape) (told longer : List Shown) (step : Shown) (text : List ℕ) → longer ≡ told ++ step ∷ [] → IsLineRead shape text (Some step) → ComesNext shape (at_values told) text (next.At stage.Step) longer
values-next shape told longer step text e read = (
  subst (λ (t : List Shown). IsLine shape (at_values told) text (at_step t)) (sym e)
      (subst (λ (t : List ℕ). IsLine shape (at_values told) t (at_step (told ++ step ∷ []))) (sym read.1) (shows_step told step read.0)),
  tt,
)

pub no-values-next : (shape : Shape) (told steps : List Shown) (text : List ℕ) → IsLineRead shape text None → ComesNext shape (at_values told) text next.Bad steps
no-values-next shape told steps text none_read = λ q l. let h = says l in none_read h.0 h.1 h.2
