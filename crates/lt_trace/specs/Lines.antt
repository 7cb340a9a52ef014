-- The lines of a trace, one after another.
use Rattle.std.specs.Prelude.{◌≡◌, ◌<◌, ℕ, zero, suc, ◌+◌, ◌^◌, Bool, false, ◌==◌, List, [], ◌∷◌, ◌++◌, All, codes, decimal, length, Ok, Err}
use Rattle.std.specs.List.{flat_map, list_any}
use Rattle.std.specs.declared.result.Result.{Result}
use Rattle.lt_draw.specs.declared.directions.Draw.{Draw}
use Rattle.lt_rif.specs.Trace.{DeclaredVariable, declared_text, draw_header, line}
use Rattle.lt_trace.specs.End.{IsEnd}
use Rattle.lt_trace.specs.Shape.{IsShown, Shape, shown_text}
use Rattle.lt_trace.specs.Told.{Shown, Told}
use Rattle.lt_trace.specs.declared.recorded.RecordedEnd.{RecordedEnd}
use Rattle.lt_trace.specs.declared.recorded.RecordedEnd.TheVariants as recorded
use Rattle.lt_trace.specs.declared.refusal.TraceRefusal.{TraceRefusal}
use Rattle.lt_trace.specs.declared.refusal.TraceRefusal.TheVariants as refusal

-- Where a reader of a trace stands, between two lines: what may follow.
pub data Place : Type 0 where
  -- the seed
  at_seed : Place
  -- the rule of drawing, or, where it is the first one, the scenario's outputs
  at_rule : Place
  -- the scenario's outputs, its inputs and its locals
  at_outputs : Place
  at_inputs : Place
  at_locals : Place
  -- these steps were told: the number of one more, or the end
  at_step : List Shown → Place
  -- .. the values of one more
  at_values : List Shown → Place
  -- nothing: all was told
  at_end : Told → Place

-- the line of a mark and of variables that are declared
abbrev pub declaration : List ℕ → List DeclaredVariable → List ℕ
declaration mark variables = mark ++ flat_map declared_text variables

-- A line, without its line feed, leads from one place to another. What the controller takes in are the scenario's outputs.
pub data IsLine (shape : Shape) : Place → List ℕ → Place → Type 0 where
  tells_seed : (n : ℕ) → n < 2 ^ 64 → IsLine shape at_seed (codes "#seed " ++ decimal n) at_rule
  tells_rule : (draw : Draw) (text : List ℕ) → line text ≡ draw_header draw → IsLine shape at_rule text at_outputs
  tells_no_rule : IsLine shape at_rule (declaration (codes "#inputs") shape.declared.outputs) at_inputs
  declares_outputs : IsLine shape at_outputs (declaration (codes "#inputs") shape.declared.outputs) at_inputs
  declares_inputs : IsLine shape at_inputs (declaration (codes "#outputs") shape.declared.inputs) at_locals
  declares_locals : IsLine shape at_locals (declaration (codes "#locals") shape.declared.locals) (at_step [])
  numbers_step : (steps : List Shown) →
      IsLine shape (at_step steps) (codes "#step " ++ decimal (length steps + 1)) (at_values steps)
  shows_step : (steps : List Shown) (step : Shown) → IsShown shape step →
      IsLine shape (at_values steps) (shown_text shape step) (at_step (steps ++ step ∷ []))
  tells_end : (steps : List Shown) (text : List ℕ) (e : RecordedEnd) → IsEnd shape.exceptions (length steps) text e →
      IsLine shape (at_step steps) text (at_end (record { steps = steps; end = e }))

-- a line feed
abbrev pub is_feed : ℕ → Bool
is_feed byte = byte == 10

-- a text stands on one line
abbrev pub IsOnLine : List ℕ → Type 0
IsOnLine text = list_any is_feed text ≡ false

-- so many lines, each with its line feed, lead to a place
pub data AreLines (shape : Shape) : List ℕ → ℕ → Place → Type 0 where
  no_line : AreLines shape [] 0 at_seed
  one_more : (front text : List ℕ) (n : ℕ) (p q : Place) → AreLines shape front n p → IsOnLine text →
      IsLine shape p text q → AreLines shape (front ++ line text) (suc n) q

-- the whole text tells this
abbrev pub IsTold : Shape → List ℕ → Told → Type 0
IsTold shape text t = (n : ℕ) × AreLines shape text n (at_end t)

-- ---- texts that tell nothing

-- no line of what is left leads on
abbrev pub IsStuck : Shape → Place → List ℕ → Type 0
IsStuck shape p rest =
    (text behind : List ℕ) (q : Place) → IsOnLine text → rest ≡ text ++ 10 ∷ behind → IsLine shape p text q → ⊥

-- all was told, and nothing is left
abbrev pub IsDone : Place → List ℕ → Type 0
IsDone (at_end t) rest = rest ≡ []
IsDone _ rest = ⊥

-- so many lines of a text are those of a trace, and the line behind them is none of it, or isn't there
pub record Breaks (shape : Shape) (text : List ℕ) (n : ℕ) : Type 0 where
  pub front : List ℕ
  pub rest : List ℕ
  pub place : Place
  pub whole : text ≡ front ++ rest
  pub lines : AreLines shape front n place
  pub stuck : IsStuck shape place rest
  pub undone : IsDone place rest → ⊥

-- the line of this number, from 1, is the first that is none of a trace
abbrev pub IsBadLine : Shape → List ℕ → ℕ → Type 0
IsBadLine shape text zero = ⊥
IsBadLine shape text (suc n) = Breaks shape text n

-- what a text tells, or the number of the first line that is none of a trace
abbrev pub IsReading : Shape → List ℕ → Result Told ℕ → Type 0
IsReading shape text (Ok t) = IsTold shape text t
IsReading shape text (Err n) = IsBadLine shape text n

-- a text is refused for this, or for want of memory
abbrev pub IsRefusedFor : Shape → List ℕ → TraceRefusal → Type 0
IsRefusedFor shape text (refusal.BadLine n) = IsBadLine shape text n
IsRefusedFor shape text refusal.Memory = Unit {0}

-- ---- what is told

-- an exception that is told to be raised is one of so many
abbrev pub IsNamedEnd : RecordedEnd → ℕ → Type 0
IsNamedEnd (recorded.Raise exception) names = exception < names
IsNamedEnd _ names = Unit {0}

-- what is told has the shape of a scenario's traces
pub record HasShape (shape : Shape) (t : Told) : Type 0 where
  pub steps : All (IsShown shape) t.steps
  pub end : IsNamedEnd t.end (length shape.exceptions)
