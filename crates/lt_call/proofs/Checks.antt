-- What comes of checking a trace.
use Rattle.std.proofs.Common.{◌≡◌, ℕ, List, [], ◌∷◌, ◌++◌, subst, sym, append_assoc}
use Rattle.std.specs.Io.KnownBytes.{Appends}
use Rattle.std.specs.declared.option.Option.{Option}
use Rattle.lt_io.specs.Outside.{Outside, Sources}
use Rattle.lt_io.specs.Sending.{AppendsProperPrefix}
use Rattle.lt_check.specs.Shape.{trace_shape}
use Rattle.lt_legal.specs.Verdict.{IsVerdict}
use Rattle.lt_legal.specs.declared.verdict.Verdict.{Verdict}
use Rattle.lt_rif.specs.Trace.{line}
use Rattle.lt_term.specs.Scene.{Scene}
use Rattle.lt_trace.specs.Laws.{TracesHaveTheirShape}
use Rattle.lt_trace.specs.Lines.{HasShape, IsBadLine, IsTold}
use Rattle.lt_trace.specs.Shape.{Shape}
use Rattle.lt_trace.specs.Told.{Told}
use Rattle.lt_args.specs.Words.{Request}
use Rattle.lt_call.proofs.Gives.{kept_same}
use Rattle.lt_call.specs.Given.{verdict_text}
use Rattle.lt_call.specs.inner.Parts as parts
use Rattle.lt_call.specs.inner.Parts.{AnswersText, Checks}
use Rattle.lt_call.specs.declared.status.Device.TheVariants as device
use Rattle.lt_call.specs.declared.status.Refusal.TheVariants as refusal
use Rattle.lt_call.specs.declared.status.Status.{Status}
use Rattle.lt_call.specs.declared.status.Status.TheVariants as status

-- what is told has the shape that a check asks for
pub told_in_shape : TracesHaveTheirShape → (s : Scene) (bytes : List ℕ) (t : Told) (shape : Shape) → shape ≡ trace_shape s → IsTold shape bytes t → HasShape (trace_shape s) t
told_in_shape law s bytes t shape is read = law (trace_shape s) bytes t (subst (λ (x : Shape). IsTold x bytes t) is read)

-- a line is bad
pub bad_line_found : (s : Scene) (bytes : List ℕ) (budget n : ℕ) (o : Option (List ℕ)) (shape : Shape) → shape ≡ trace_shape s → IsBadLine shape bytes n → Checks s bytes budget o o (status.Refused (refusal.BadLine n))
bad_line_found s bytes budget n o shape is bad = parts.bad_line n (subst (λ (x : Shape). IsBadLine x bytes n) is bad) (kept_same o)

-- what the verdict says was written, or but for its end
pub verdict_written : (s : Scene) (bytes : List ℕ) (budget : ℕ) (old new : Option (List ℕ)) (shape : Shape) (t : Told) (v : Verdict) → shape ≡ trace_shape s → IsTold shape bytes t → IsVerdict s budget t v →
    Appends old new (verdict_text t v) → Checks s bytes budget old new (status.Checked v)
verdict_written s bytes budget old new shape t v is read verdict all = parts.whole t v (subst (λ (x : Shape). IsTold x bytes t) is read) verdict all

pub verdict_cut : (s : Scene) (bytes : List ℕ) (budget : ℕ) (old new : Option (List ℕ)) (shape : Shape) (t : Told) (v : Verdict) → shape ≡ trace_shape s → IsTold shape bytes t → IsVerdict s budget t v →
    AppendsProperPrefix old new (verdict_text t v) → Checks s bytes budget old new (status.Device device.Trace 0)
verdict_cut s bytes budget old new shape t v is read verdict some = parts.part t v (subst (λ (x : Shape). IsTold x bytes t) is read) verdict some

-- memory ran out
pub check_starved : (s : Scene) (bytes : List ℕ) (budget : ℕ) (o : Option (List ℕ)) → Checks s bytes budget o o status.Memory
check_starved s bytes budget o = parts.memory (kept_same o)

-- a line of three parts
pub three_parts : (a b : List ℕ) → a ++ (b ++ (10 ∷ [])) ≡ line (a ++ b)
three_parts a b = sym (append_assoc a b (10 ∷ []))

-- an answer has these names and this status
pub answers_as : (r : Request) (text : List ℕ) (old new : Outside Sources) (names names' : List (List ℕ)) (s s' : Status) → names ≡ names' → s ≡ s' → AnswersText r text old new names' s' → AnswersText r text old new names s
answers_as r text old new names names' s s' e f h = subst (λ ns. AnswersText r text old new ns s) (sym e) (subst (λ t. AnswersText r text old new names' t) (sym f) h)
