-- The trace that a run writes with its locals is Legal, whatever its seed and its rule of drawing are.
use Rattle.std.specs.Prelude.{◌≡◌, ◌<◌, ℕ, ◌^◌, true, List, [], ◌∷◌, length, take}
use Rattle.std.specs.declared.option.Option.{Option}
use Rattle.lt_rif.specs.Reply.{Stream}
use Rattle.lt_rif.specs.Trace.{IsNamed}
use Rattle.lt_rif.specs.declared.end.End.{End}
use Rattle.lt_loop.specs.Machine.{GivenUp}
use Rattle.lt_loop.specs.Play.{ends}
use Rattle.lt_loop.specs.declared.setup.Setup.{Setup}
use Rattle.lt_trace.specs.Lines.{IsOnLine, IsTold}
use Rattle.lt_trace.specs.Told.{Told}
use Rattle.lt_trace_laws.specs.Replay.{trace_text}
use Rattle.lt_term.specs.Scene.{Scene}
use Rattle.lt_play.specs.Run.{scenario_play}
use Rattle.lt_legal.specs.LegalRun.{IsLegalRun}
use Rattle.lt_legal.specs.Verdict.{IsVerdict, NeedsSearch, ReachMany}
use Rattle.lt_legal.specs.declared.verdict.Verdict.{Verdict}
use Rattle.lt_legal.specs.declared.verdict.Verdict.TheVariants.{Legal}
use Rattle.lt_check.specs.Shape.{trace_shape}
use Rattle.lt_scenario_laws.specs.Traced.{IsRunOf}
use Rattle.lt_check_laws.specs.Written.{HasShortNeed}

-- no name has a line feed
abbrev pub AreNamesOnLines : List (List ℕ) → Type 0
AreNamesOnLines [] = Unit {0}
AreNamesOnLines (name ∷ names) = IsOnLine name × AreNamesOnLines names

-- A run with its locals ends so, and its trace has this text. Its seed has 64 bits, the need of an instant that is given up has
-- 128; and an exception that is raised has a name, and no name of one has a line feed.
pub record IsTraceOf (s : Scene) (setup : Setup) (u : Option GivenUp) (e : End) : Type 0 where
  pub locals : setup.locals ≡ true
  pub seed : setup.seed < 2 ^ 64
  pub need : HasShortNeed u
  pub named : IsNamed e (length s.exceptions)
  pub lined : AreNamesOnLines s.exceptions

-- The trace of a run that ended tells steps and an end, and these are a legal run. An exception that was raised may be told as
-- another one of the same name.
abbrev pub TracesTellLegalRuns : Type 0
TracesTellLegalRuns =
    (decimals : ℕ) (node : Option (List ℕ)) (text : List ℕ) (s : Scene) (budget : ℕ) (setup : Setup)
    (u : Option GivenUp) (c o : Stream) (e : End) →
    IsRunOf decimals node text s setup → IsTraceOf s setup u e →
    (let run = scenario_play s budget setup u c o in
    run.stop ≡ ends e → (t : Told) × IsTold (trace_shape s) (trace_text run.pieces) t × IsLegalRun s t)

-- no steps at the front of these lead to more configurations than a check keeps
abbrev pub ReachFew : Scene → Told → Type 0
ReachFew s t = (k : ℕ) → ReachMany s (take k t.steps) → ⊥

-- no leaf that has to be searched has a need over the budget
abbrev pub IsWithin : Scene → ℕ → Told → Type 0
IsWithin s budget t = (k need : ℕ) → NeedsSearch s t budget k need → ⊥

-- So each verdict on what the trace of such a run tells is Legal, where its steps lead to few configurations and no need is over
-- the budget of the check.
abbrev pub TracesAreLegal : Type 0
TracesAreLegal =
    (decimals : ℕ) (node : Option (List ℕ)) (text : List ℕ) (s : Scene) (budget : ℕ) (setup : Setup)
    (u : Option GivenUp) (c o : Stream) (e : End) →
    IsRunOf decimals node text s setup → IsTraceOf s setup u e →
    (let run = scenario_play s budget setup u c o in
    run.stop ≡ ends e → (t : Told) → IsTold (trace_shape s) (trace_text run.pieces) t →
    (allowed : ℕ) → ReachFew s t → IsWithin s allowed t →
    (v : Verdict) → IsVerdict s allowed t v → v ≡ Legal)
