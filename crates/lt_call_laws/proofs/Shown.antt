-- The trace of a call shows its run.
use Rattle.std.proofs.Common.{◌≡◌, ◌≢◌, ◌+◌, ℕ, suc, Bool, true, false, ◌⊎◌, inl, inr, List, [], ◌∷◌, ◌++◌, None, Some, Ok, refl, ap, sym, subst, ◌∙◌, arith, append_assoc, append-nil}
use Rattle.lt_rif.specs.Trace.{end_number}
use Rattle.std.specs.Io.KnownBytes.{Appends, Keeps}
use Rattle.std.specs.declared.option.Option.{Option}
use Rattle.lt_drive.specs.Drive as drive
use Rattle.lt_drive.specs.Drive.{Continuation, GivesOut, IsDriven, IsUnended, fault_line}
use Rattle.lt_io.specs.Link.{Link}
use Rattle.lt_drive.specs.Interaction.{Received, piece, received_then, side, text_to}
use Rattle.lt_io.specs.Sink.{Sink}
use Rattle.lt_loop.specs.InputSource.{InputSource}
use Rattle.lt_session.specs.Session.{IsPlayed}
use Rattle.lt_io.specs.Programs.{Programs}
use Rattle.lt_io.specs.Outside.{Outside, Sources, without_files, linked}
use Rattle.lt_drive.specs.declared.drive_end.DriveEnd.{DriveEnd}
use Rattle.lt_io.specs.Causes.{WhereTold}
use Rattle.lt_loop.specs.CoreView.{stream_of}
use Rattle.lt_loop.specs.Plan.{Plan, closing_text}
use Rattle.lt_loop.specs.Play.{Piece, Play, Stop, destination_of, ends, needs_byte, untold, step_count, steps_of, stopped}
use Rattle.lt_loop.specs.GivingUp.{GivesUp, GivingUpIsACut, PlaysKeepToTheirRules, cut, unmet}
use Rattle.lt_loop.specs.Machine.{GivenUp}
use Rattle.lt_loop.specs.Places.{play_at}
use Rattle.lt_loop.specs.Run.{pieces_then}
use Rattle.lt_loop.specs.Side.{Rest, silent}
use Rattle.lt_loop.specs.CoreState.{CoreState}
use Rattle.lt_loop.specs.declared.event.Destination.{Destination}
use Rattle.lt_loop.specs.declared.event.Destination.TheVariants as destination
use Rattle.lt_loop.specs.declared.event.PieceKind.{PieceKind}
use Rattle.lt_loop.specs.declared.event.PieceKind.TheVariants as piece_kind
use Rattle.lt_frontend.specs.Laws.{TextsHaveOneScenarioAnswer}
use Rattle.lt_frontend.specs.Prepared.{IsScenarioAnswer}
use Rattle.lt_loop.proofs.GivingUpLemmas.{comes_unended}
use Rattle.lt_trace_laws.specs.Replay.{is_replayable, trace_text, traced_to}
use Rattle.lt_trace_laws.specs.Shown.{Begins, IsTold, reply_in, shown_replies, shown_verdicts, verdict_before, verdict_in}
use Rattle.lt_rif.specs.Trace.{bool_text, line}
use Rattle.lt_rif.specs.declared.end.End.{End}
use Rattle.lt_rif.specs.declared.end.End.TheVariants as end
use Rattle.lt_rif.specs.declared.end.Who.{Who}
use Rattle.lt_rif.specs.declared.end.Who.TheVariants as who
use Rattle.lt_session.specs.Session as session
use Rattle.lt_session.specs.declared.session_end.SessionEnd.{SessionEnd}
use Rattle.lt_session.specs.declared.session_end.SessionEnd.TheVariants as session_end
use Rattle.lt_play.specs.Rules.{scenario_rules}
use Rattle.lt_step.specs.Machine.{State}
use Rattle.lt_term.specs.Scene.{Scene}
use Rattle.lt_trace.specs.Told.{Told}
use Rattle.lt_scenario_laws.specs.Traced.{IsRunOf, ScenarioPrefixesShowTheirRun, ScenarioTracesShowTheirRun}
use Rattle.lt_args.specs.Words.{IsWithin, Request}
use Rattle.lt_args.specs.declared.words.Mode.TheVariants as mode
use Rattle.lt_call.specs.Call.{IsText}
use Rattle.lt_call.specs.Run.{IsContinuationOf, first_machine, plan_of, run_of}
use Rattle.lt_call.specs.Due.{Answer, Contents, IsDue, IsServed, Work, checks, has_file, plays, plays_many, stresses, writes}
use Rattle.lt_call.specs.Due as due
use Rattle.lt_call.specs.Given as given
use Rattle.lt_call.specs.Given.{Gives, IsDone, status_of}
use Rattle.lt_call.specs.declared.status.Status.{Status}
use Rattle.lt_call_laws.specs.Repeatable.{is_repeatable}
use Rattle.lt_call_laws.specs.Setup.{setup_of}
use Rattle.lt_call_laws.specs.Shown as shown
use Rattle.lt_call_laws.specs.Shown.{ShowsBy, ShowsPrefix, ShowsRun, TracesOfCallsShowTheirRuns, shown_run}
use Rattle.lt_call.proofs.Budgets.{never_ends}
use Rattle.lt_call_laws.proofs.Traces.{none_appended, same_text, text_append}

-- ---- verdicts

before_same : (ps : List Piece) (e : End) → is_repeatable e ≡ false → verdict_before ps (ends e) ≡ verdict_before ps untold
before_same [] end.Oracle fails = absurd (cc)
before_same [] e fails = refl
before_same (p ∷ ps) e fails = refl

in_same : (k : PieceKind) (ps : List Piece) (e : End) → is_repeatable e ≡ false → verdict_in k ps (ends e) ≡ verdict_in k ps untold
in_same piece_kind.Step ps e fails = ap (λ (b : Bool). line (bool_text b)) (before_same ps e fails)
in_same k ps e fails = refl

-- where a reply was refused or missed, or a side failed, all verdicts are true, as where a run isn't over
verdicts_same : (ps : List Piece) (e : End) → is_repeatable e ≡ false → shown_verdicts ps (ends e) ≡ shown_verdicts ps untold
verdicts_same [] e fails = refl
verdicts_same (p ∷ ps) e fails = λ i. in_same p.kind ps e fails i ++ verdicts_same ps e fails i

true_before : (ps : List Piece) → verdict_before ps untold ≡ true
true_before [] = refl
true_before (p ∷ ps) = refl

in_longer : (k : PieceKind) (ps qs : List Piece) → verdict_in k ps untold ≡ verdict_in k qs untold
in_longer piece_kind.Step ps qs = ap (λ (b : Bool). line (bool_text b)) (true_before ps ∙ sym (true_before qs))
in_longer k ps qs = refl

-- ---- pieces that show nothing

-- pieces that show no reply and no verdict, and are no steps
record IsQuiet (plan : Plan) (qs : List Piece) : Type 0 where
  replies : shown_replies plan qs ≡ []
  verdicts : shown_verdicts qs untold ≡ []
  steps : step_count qs ≡ 0

replies_before : (plan : Plan) (ps qs : List Piece) → IsQuiet plan qs → shown_replies plan (ps ++ qs) ≡ shown_replies plan ps
replies_before plan [] qs quiet = quiet.replies
replies_before plan (p ∷ ps) qs quiet = ap (λ (t : List ℕ). reply_in p.kind plan p.bytes ++ t) (replies_before plan ps qs quiet)

verdicts_before : (plan : Plan) (ps qs : List Piece) → IsQuiet plan qs → shown_verdicts (ps ++ qs) untold ≡ shown_verdicts ps untold
verdicts_before plan [] qs quiet = quiet.verdicts
verdicts_before plan (p ∷ ps) qs quiet = λ i. in_longer p.kind (ps ++ qs) ps i ++ verdicts_before plan ps qs quiet i

steps_before : (plan : Plan) (ps qs : List Piece) → IsQuiet plan qs → step_count (ps ++ qs) ≡ step_count ps
steps_before plan [] qs quiet = quiet.steps
steps_before plan (p ∷ ps) qs quiet = ap (λ (n : ℕ). steps_of p.kind + n) (steps_before plan ps qs quiet)

-- an end line is such a piece
line_quiet : (plan : Plan) (text : List ℕ) → IsQuiet plan (piece piece_kind.EndLine text ∷ [])
line_quiet plan text = record { replies = refl; verdicts = refl; steps = refl }

-- and so is a piece for a side before it
sent_quiet : (plan : Plan) (kind : PieceKind) (w : Who) (sent text : List ℕ) → destination_of kind ≡ side w → IsQuiet plan (piece kind sent ∷ piece piece_kind.EndLine text ∷ [])
sent_quiet plan piece_kind.Outputs w sent text goes = record { replies = refl; verdicts = refl; steps = refl }
sent_quiet plan piece_kind.Question w sent text goes = record { replies = refl; verdicts = refl; steps = refl }
sent_quiet plan piece_kind.Header who.Controller sent text goes = absurd (cc)
sent_quiet plan piece_kind.Header who.Oracle sent text goes = absurd (cc)
sent_quiet plan piece_kind.Step who.Controller sent text goes = absurd (cc)
sent_quiet plan piece_kind.Step who.Oracle sent text goes = absurd (cc)
sent_quiet plan piece_kind.EndLine who.Controller sent text goes = absurd (cc)
sent_quiet plan piece_kind.EndLine who.Oracle sent text goes = absurd (cc)

-- which isn't written to the trace
sent_unseen : (kind : PieceKind) (w : Who) (sent : List ℕ) → destination_of kind ≡ side w → trace_text (piece kind sent ∷ []) ≡ []
sent_unseen piece_kind.Outputs w sent goes = refl
sent_unseen piece_kind.Question w sent goes = refl
sent_unseen piece_kind.Header who.Controller sent goes = absurd (cc)
sent_unseen piece_kind.Header who.Oracle sent goes = absurd (cc)
sent_unseen piece_kind.Step who.Controller sent goes = absurd (cc)
sent_unseen piece_kind.Step who.Oracle sent goes = absurd (cc)
sent_unseen piece_kind.EndLine who.Controller sent goes = absurd (cc)
sent_unseen piece_kind.EndLine who.Oracle sent goes = absurd (cc)

-- one for the trace is
part_traced : (kind : PieceKind) (bytes : List ℕ) → destination_of kind ≡ destination.Trace → trace_text (piece kind bytes ∷ []) ≡ bytes
part_traced kind bytes goes = append-nil (traced_to (destination_of kind) bytes) ∙ ap (λ (d : Destination). traced_to d bytes) goes

-- ---- plays that are over, and others

over_or_not : (ps : List Piece) (s : Stop) → ((e : End) × (record { pieces = ps; stop = s } ≡ stopped (ends e))) ⊎ IsUnended (record { pieces = ps; stop = s })
over_or_not [] (ends e) = inl (e, refl)
over_or_not [] (needs_byte w) = inr (λ e is. let stops : needs_byte w ≡ ends e = ap (λ (q : Play). q.stop) is in absurd (cc stops))
over_or_not [] untold = inr (λ e is. let stops : untold ≡ ends e = ap (λ (q : Play). q.stop) is in absurd (cc stops))
over_or_not (p ∷ ps) s = inr (λ e is. let pieces : p ∷ ps ≡ [] = ap (λ (q : Play). q.pieces) is in absurd (cc pieces))

more_unended : (p : Piece) (rest : Play) → IsUnended (pieces_then (p ∷ []) rest)
more_unended p rest e is = let pieces : p ∷ rest.pieces ≡ [] = ap (λ (q : Play). q.pieces) is in absurd (cc pieces)

behind_both : (ps qs : List Piece) (rest : Play) → pieces_then (ps ++ qs) rest ≡ pieces_then ps (pieces_then qs rest)
behind_both ps qs rest = ap (λ (t : List Piece). record { pieces = t; stop = rest.stop }) (append_assoc ps qs rest.pieces)

behind_none : (ps : List Piece) (s : Stop) → pieces_then ps (stopped s) ≡ record { pieces = ps; stop = s }
behind_none ps s = ap (λ (t : List Piece). record { pieces = t; stop = s }) (append-nil ps)

behind_unended : (ps : List Piece) (rest : Play) → IsUnended rest → IsUnended (pieces_then ps rest)
behind_unended [] rest unended = unended
behind_unended (p ∷ ps) rest unended = more_unended p (pieces_then ps rest)

none_both : (ps rs : List Piece) → ps ++ rs ≡ [] → (ps ≡ []) × (rs ≡ [])
none_both [] rs e = (refl, e)
none_both (p ∷ ps) rs e = absurd (cc e)

front_more : (ps rs qs : List Piece) (p q x : Piece) → p ≡ q → ((more : List Piece) × (qs ≡ ps ++ more)) ⊎ ((ps ≡ qs ++ x ∷ []) × (rs ≡ [])) →
    ((more : List Piece) × (q ∷ qs ≡ p ∷ (ps ++ more))) ⊎ ((p ∷ ps ≡ q ∷ (qs ++ x ∷ [])) × (rs ≡ []))
front_more ps rs qs p q x head (inl front) = inl (front.0, λ i. sym head i ∷ front.1 i)
front_more ps rs qs p q x head (inr all) = inr (λ i. head i ∷ all.0 i, all.1)

-- what stands before some pieces with one more behind them is the front of them, or all
list_front : (ps rs qs : List Piece) (x : Piece) → ps ++ rs ≡ qs ++ x ∷ [] → ((more : List Piece) × (qs ≡ ps ++ more)) ⊎ ((ps ≡ qs ++ x ∷ []) × (rs ≡ []))
list_front [] rs qs x e = inl (qs, refl)
list_front (p ∷ ps) rs [] x e =
    let head : p ≡ x = cc e in
    let tail : ps ++ rs ≡ [] = cc e in
    let none = none_both ps rs tail in
    inr (λ i. head i ∷ none.0 i, none.1)
list_front (p ∷ ps) rs (q ∷ qs) x e =
    let head : p ≡ q = cc e in
    let tail : ps ++ rs ≡ qs ++ x ∷ [] = cc e in
    front_more ps rs qs p q x head (list_front ps rs qs x tail)

-- ---- ends

no_budget : (e : End) → ((need : ℕ) → e ≢ end.Budget need) → is_repeatable e ≡ is_replayable e
no_budget end.Normal other = refl
no_budget end.Limit other = refl
no_budget end.Oracle other = refl
no_budget end.Deadlock other = refl
no_budget (end.Raise z) other = refl
no_budget (end.Fault f) other = refl
no_budget end.TooLarge other = refl
no_budget (end.Malformed w f place) other = refl
no_budget (end.Ended w n) other = refl
no_budget (end.Device w) other = refl
no_budget (end.Budget need) other = absurd (other need refl)

-- ---- runs

keeps_itself : (o : Option (List ℕ)) → Keeps o o
keeps_itself None = tt
keeps_itself (Some xs) = refl

module _ (keep : PlaysKeepToTheirRules State) (cuts : GivingUpIsACut State) (traces : ScenarioTracesShowTheirRun) (prefixes : ScenarioPrefixesShowTheirRun) (request : Request) (text : List ℕ) (scene : Scene) (known : IsRunOf request.decimals request.node text scene (setup_of request)) where
  abbrev plan : Plan
  plan = plan_of request scene

  -- a run in which nothing was given up, and which ended, shows itself
  ended_by : (ps : List Piece) (e : End) (b : Bool) → is_repeatable e ≡ b → is_repeatable e ≡ is_replayable e → IsTold plan e (shown_run request scene ps (ends e)) (record { pieces = ps; stop = ends e }) → ShowsRun request scene ps e
  ended_by ps e true well same told = shown.whole well (told.same (sym same ∙ well))
  ended_by ps e false fails same told =
      let misses : is_replayable e ≡ false = sym same ∙ fails in
      let again = shown_run request scene ps (ends e) in
      let steps = told.steps misses in
      shown.cut again.pieces (stopped again.stop) fails (sym (behind_none again.pieces again.stop)) steps
      (told.missed misses ∙ ap (λ (n : ℕ). trace_text again.pieces ++ closing_text plan e (n + 1)) (sym steps))

  whole_shows : (c o : Rest) (ps : List Piece) (e : End) → run_of request scene None c o ≡ record { pieces = ps; stop = ends e } → ShowsRun request scene ps e
  whole_shows c o ps e is =
      let stops : (run_of request scene None c o).stop ≡ ends e = ap (λ (p : Play). p.stop) is in
      let same = no_budget e (λ need budget. never_ends keep request scene c o need (stops ∙ ap ends budget)) in
      let told = traces request.decimals request.node text scene request.budget (setup_of request) None (stream_of c) (stream_of o) e known (ap (λ (p : Play). p.stop) is) in
      ended_by ps e (is_repeatable e) refl same (subst (λ (run : Play). IsTold plan e (shown_run request scene run.pieces run.stop) run) is told)

  -- the run itself begins with what one that gives up begins with, and isn't over after it
  abbrev Unended : (c o : Rest) (ps : List Piece) → Type 0
  Unended c o ps = (rest : Play) × (run_of request scene None c o ≡ pieces_then ps rest) × IsUnended rest

  from_front : (need : ℕ) (c o : Rest) (ps qs : List Piece) (rest tail : Play) (x : Piece) → run_of request scene None c o ≡ pieces_then qs tail → IsUnended tail → IsUnended rest → rest.stop ≡ ends (end.Budget need) →
      ((more : List Piece) × (qs ≡ ps ++ more)) ⊎ ((ps ≡ qs ++ x ∷ []) × (rest.pieces ≡ [])) → Unended c o ps
  from_front need c o ps qs rest tail x first goes_on unended stops (inl front) =
      (pieces_then front.0 tail, first ∙ ap (λ (t : List Piece). pieces_then t tail) front.1 ∙ behind_both ps front.0 tail, behind_unended front.0 tail goes_on)
  from_front need c o ps qs rest tail x first goes_on unended stops (inr all) =
      let over : rest ≡ stopped (ends (end.Budget need)) = λ i. record { pieces = all.1 i; stop = stops i } in
      absurd (unended (end.Budget need) over)

  -- what is put out in which this instant is given up
  abbrev IsGiven : GivenUp → Rest → Rest → Play → Type 0
  IsGiven g c o play = GivesUp scenario_rules plan request.limit (first_machine request scene) (stream_of c) (stream_of o) g play

  by_way : (g : GivenUp) (c o : Rest) (play : Play) (ps : List Piece) (rest : Play) → IsGiven g c o play → play ≡ pieces_then ps rest → IsUnended rest → Unended c o ps
  by_way g c o play ps rest (unmet each same) is unended = (rest, sym same ∙ is, unended)
  by_way g c o play ps rest (cut qs q comes met given_is) is unended =
      let x : Piece = piece piece_kind.EndLine (closing_text plan (end.Budget g.need) (end_number (end.Budget g.need) (step_count qs))) in
      let pieces : ps ++ rest.pieces ≡ qs ++ x ∷ [] = sym (ap (λ (p : Play). p.pieces) is) ∙ ap (λ (p : Play). p.pieces) given_is in
      let stops : rest.stop ≡ ends (end.Budget g.need) = sym (ap (λ (p : Play). p.stop) is) ∙ ap (λ (p : Play). p.stop) given_is in
      from_front g.need c o ps qs rest (play_at scenario_rules plan (suc comes.left) (step_count qs + 1) q) x comes.puts (comes_unended scenario_rules plan comes.left (step_count qs + 1) q) unended stops
      (list_front ps rest.pieces qs x pieces)

  gives_way : (g : GivenUp) (c o : Rest) → IsGiven g c o (run_of request scene (Some g) c o)
  gives_way g c o = cuts scenario_rules plan request.limit (first_machine request scene) (stream_of c) (stream_of o) g

  unended_run : (u : Option GivenUp) (c o : Rest) (ps : List Piece) (rest : Play) → run_of request scene u c o ≡ pieces_then ps rest → IsUnended rest → Unended c o ps
  unended_run None c o ps rest is unended = (rest, is, unended)
  unended_run (Some g) c o ps rest is unended = by_way g c o (run_of request scene (Some g) c o) ps rest (gives_way g c o) is unended

  -- a prefix of a run that isn't over shows itself
  first_shows : (c o : Rest) (ps : List Piece) (rest : Play) → run_of request scene None c o ≡ pieces_then ps rest → IsUnended rest → Begins (shown_run request scene ps untold) ps
  first_shows c o ps rest is unended = prefixes request.decimals request.node text scene request.budget (setup_of request) None (stream_of c) (stream_of o) ps rest known is unended

  prefix_shows : (u : Option GivenUp) (c o : Rest) (ps : List Piece) (rest : Play) → run_of request scene u c o ≡ pieces_then ps rest → IsUnended rest → Begins (shown_run request scene ps untold) ps
  prefix_shows u c o ps rest is unended = let run = unended_run u c o ps rest is unended in first_shows c o ps run.0 run.1 run.2

  -- so does a run that was broken off
  broken_shows : (c o : Rest) (ps qs : List Piece) (rest : Play) (e : End) → is_repeatable e ≡ false → run_of request scene None c o ≡ pieces_then ps rest → IsUnended rest → IsQuiet plan qs →
      trace_text qs ≡ closing_text plan e (step_count ps + 1) → ShowsRun request scene (ps ++ qs) e
  broken_shows c o ps qs rest e fails is unended quiet last =
      let begins = first_shows c o ps rest is unended in
      let replies = replies_before plan ps qs quiet in
      let verdicts = verdicts_same (ps ++ qs) e fails ∙ verdicts_before plan ps qs quiet in
      let same : shown_run request scene (ps ++ qs) (ends e) ≡ shown_run request scene ps untold =
      λ i. run_of request scene None (record { bytes = replies i; is_closed = false }) (record { bytes = verdicts i; is_closed = false }) in
      let steps = begins.steps in
      let before : trace_text ps ≡ trace_text begins.prefix = sym begins.text in
      let after : trace_text qs ≡ closing_text plan e (step_count begins.prefix + 1) = last ∙ ap (λ (n : ℕ). closing_text plan e (n + 1)) (sym steps) in
      shown.cut begins.prefix begins.rest fails (same ∙ begins.joined) (steps ∙ sym (steps_before plan ps qs quiet)) (text_append ps qs ∙ (λ i. before i ++ after i))

  -- a run that ended shows itself, though an instant was given up
  ended_way : (g : GivenUp) (c o : Rest) (play : Play) (ps : List Piece) (e : End) → IsGiven g c o play → play ≡ record { pieces = ps; stop = ends e } → ShowsRun request scene ps e
  ended_way g c o play ps e (unmet each same) is = whole_shows c o ps e (sym same ∙ is)
  ended_way g c o play ps e (cut qs q comes met given_is) is =
      let need : ℕ = g.need in
      let tail : Play = play_at scenario_rules plan (suc comes.left) (step_count qs + 1) q in
      let line : List ℕ = closing_text plan (end.Budget need) (end_number (end.Budget need) (step_count qs)) in
      let pieces : ps ≡ qs ++ piece piece_kind.EndLine line ∷ [] = sym (ap (λ (p : Play). p.pieces) is) ∙ ap (λ (p : Play). p.pieces) given_is in
      let stops : ends e ≡ ends (end.Budget need) = sym (ap (λ (p : Play). p.stop) is) ∙ ap (λ (p : Play). p.stop) given_is in
      let e_is : e ≡ end.Budget need = cc stops in
      let shows : ShowsRun request scene (qs ++ piece piece_kind.EndLine line ∷ []) (end.Budget need) =
      broken_shows c o qs (piece piece_kind.EndLine line ∷ []) tail (end.Budget need) refl comes.puts (comes_unended scenario_rules plan comes.left (step_count qs + 1) q) (line_quiet plan line) (append-nil line) in
      subst (λ (x : End). ShowsRun request scene ps x) (sym e_is) (subst (λ (t : List Piece). ShowsRun request scene t (end.Budget need)) (sym pieces) shows)

  ended_shows : (u : Option GivenUp) (c o : Rest) (ps : List Piece) (e : End) → run_of request scene u c o ≡ record { pieces = ps; stop = ends e } → ShowsRun request scene ps e
  ended_shows None c o ps e is = whole_shows c o ps e is
  ended_shows (Some g) c o ps e is = ended_way g c o (run_of request scene (Some g) c o) ps e (gives_way g c o) is

  -- a prefix of a run shows itself, whether it is over or not
  some_prefix_shows : (u : Option GivenUp) (c o : Rest) (ps : List Piece) (rest : Play) → run_of request scene u c o ≡ pieces_then ps rest → ((e : End) × (rest ≡ stopped (ends e))) ⊎ IsUnended rest → ShowsPrefix request scene ps
  some_prefix_shows u c o ps rest is (inl over) = shown.over over.0 (ended_shows u c o ps over.0 (is ∙ ap (λ (r : Play). pieces_then ps r) over.1 ∙ behind_none ps (ends over.0)))
  some_prefix_shows u c o ps rest is (inr unended) = shown.begun (prefix_shows u c o ps rest is unended)

  -- so does a run that a side's fault ended
  fault_shows : (u : Option GivenUp) (c o : Rest) (ps qs : List Piece) (rest : Play) (w : Who) → run_of request scene u c o ≡ pieces_then ps rest → IsUnended rest → IsQuiet plan qs →
      trace_text qs ≡ closing_text plan (end.Device w) (step_count ps + 1) → ShowsRun request scene (ps ++ qs) (end.Device w)
  fault_shows u c o ps qs rest w is unended quiet last = let run = unended_run u c o ps rest is unended in broken_shows c o ps qs run.0 (end.Device w) refl run.1 run.2 quiet last

  -- ---- what is driven

  module _ (k : Continuation) (course : IsContinuationOf request scene k) where
    -- what a course plays is the run
    begins_run : (received : Received) (ps : List Piece) (rest : Play) → drive.play_on k received silent silent ≡ pieces_then ps rest → run_of request scene course.gives_up (received_then received.controller silent) (received_then received.oracle silent) ≡ pieces_then ps rest
    begins_run received ps rest is = sym (course.plays (received_then received.controller silent) (received_then received.oracle silent)) ∙ is

    line_is : (ps : List Piece) (w : Who) → (fault_line k ps w).bytes ≡ closing_text plan (end.Device w) (step_count ps + 1)
    line_is ps w =
        let number : k.written + step_count ps + 1 ≡ step_count ps + 1 = let none = course.unwritten in omega (arith, none) in
        ap (λ (p : Plan). closing_text p (end.Device w) (k.written + step_count ps + 1)) course.plan ∙ ap (λ (n : ℕ). closing_text plan (end.Device w) n) number

    -- what is given out up to a side's fault
    fault_given : (received : Received) (out : List Piece) (fault : Option Who) (w : Who) → fault ≡ Some w → GivesOut k received out fault → ShowsRun request scene out (end.Device w)
    fault_given received out _ w is (drive.calm begins) = absurd (cc)
    fault_given received out _ w is (drive.unheard v ps begins awaits given_is) =
        let same : v ≡ w = cc in
        let here = begins silent silent in
        let last = line_is ps v in
        subst (λ (u : Who). ShowsRun request scene out (end.Device u)) same
        (subst (λ (t : List Piece). ShowsRun request scene t (end.Device v)) (sym given_is)
        (fault_shows course.gives_up _ _ ps (fault_line k ps v ∷ []) here.0 v (begins_run received ps here.0 here.1) here.2 (line_quiet plan (fault_line k ps v).bytes) (append-nil (fault_line k ps v).bytes ∙ last)))
    fault_given received out _ w is (drive.unsent v ps kind prefix rest goes begins given_is) =
        let same : v ≡ w = cc in
        let here = begins silent silent in
        let whole = piece kind (prefix ++ rest) in
        let sent = piece kind prefix in
        let end_line = fault_line k ps v in
        let last = line_is ps v in
        let unseen = sent_unseen kind v prefix goes in
        subst (λ (u : Who). ShowsRun request scene out (end.Device u)) same
        (subst (λ (t : List Piece). ShowsRun request scene t (end.Device v)) (sym given_is)
        (fault_shows course.gives_up _ _ ps (sent ∷ end_line ∷ []) (pieces_then (whole ∷ []) here.0) v (begins_run received (ps ++ whole ∷ []) here.0 here.1 ∙ behind_both ps (whole ∷ []) here.0) (more_unended whole here.0)
        (sent_quiet plan kind v prefix end_line.bytes goes)
        (text_append (sent ∷ []) (end_line ∷ []) ∙ ap (λ (t : List ℕ). t ++ trace_text (end_line ∷ [])) unseen ∙ append-nil end_line.bytes ∙ last)))

    -- what is given out, whether a side failed or not
    prefix_given : (received : Received) (out : List Piece) (fault : Option Who) → GivesOut k received out fault → ShowsPrefix request scene out
    prefix_given received out None (drive.calm begins) =
        let here = begins silent silent in
        let rest = here.0 in
        some_prefix_shows course.gives_up _ _ out rest (begins_run received out rest here.1) (over_or_not rest.pieces rest.stop)
    prefix_given received out (Some w) gives = shown.over (end.Device w) (fault_given received out (Some w) w refl gives)

    module _ (old new : Outside Programs) (core : CoreState State) where
      grown : (ps : List Piece) → Appends old.trace.written new.trace.written (text_to destination.Trace ps) → Appends old.trace.written new.trace.written (trace_text ps)
      grown ps h = subst (λ (t : List ℕ). Appends old.trace.written new.trace.written t) (same_text ps) h

      numbered : (ps : List Piece) (e : End) → core.written ≡ k.written + step_count ps → end_number e core.written ≡ end_number e (step_count ps)
      numbered ps e counts = ap (λ (n : ℕ). end_number e n) (let none = course.unwritten in let same : core.written ≡ step_count ps = omega (arith, none, counts) in same)

      driven_shows : (c o c' o' : Link) (how : DriveEnd) → IsDriven k (linked c o old.trace) (linked c' o' new.trace) core how → ShowsBy request scene (status_of (session_end.Driven how) core.written) old.trace.written new.trace.written
      driven_shows c o c' o' _ (drive.ended received ps e whole interaction history counts over) = record {
        pieces = ps;
        grows = grown ps (interaction.gives destination.Trace);
        shows = ended_shows course.gives_up _ _ ps e (begins_run received ps (stopped (ends e)) (whole silent silent ∙ sym (behind_none ps (ends e))) ∙ behind_none ps (ends e));
        number = numbered ps e counts.1;
      }
      driven_shows c o c' o' _ (drive.failed received out w gives interaction history counts over) = record {
        pieces = out;
        grows = grown out (interaction.gives destination.Trace);
        shows = fault_given received out (Some w) w refl gives;
        number = numbered out (end.Device w) counts.1;
      }
      driven_shows c o c' o' _ (drive.untraced received fault out kind prefix rest gives goes some interaction history counts) = record {
        pieces = out;
        kind = kind;
        prefix = prefix;
        rest = rest;
        grows =
            subst (λ (t : List ℕ). Appends old.trace.written new.trace.written t)
            (text_append out (piece kind prefix ∷ []) ∙ ap (λ (t : List ℕ). trace_text out ++ t) (part_traced kind prefix goes))
            (grown (out ++ piece kind prefix ∷ []) (interaction.gives destination.Trace));
        to_trace = goes;
        part = some;
        shows = prefix_given received (out ++ piece kind (prefix ++ rest) ∷ []) fault gives;
        number = ap (λ (n : ℕ). drive.failed_step kind n) (let none = course.unwritten in let same : k.written + step_count out ≡ step_count out = omega (arith, none) in same);
      }

      unchanged : new.trace ≡ old.trace → Appends old.trace.written new.trace.written []
      unchanged trace_is = none_appended old.trace.written new.trace.written (subst (λ (t : Sink). Keeps old.trace.written t.written) (sym trace_is) (keeps_itself old.trace.written))

      played_shows : (controller oracle : InputSource) (how : SessionEnd) → IsPlayed k controller oracle old new core how → ShowsBy request scene (status_of how core.written) old.trace.written new.trace.written
      played_shows controller oracle _ (session.driven c c' o o' p q r how opens opened drove closes closed) = driven_shows c o c' o' how drove
      played_shows controller oracle _ (session.no_controller command why unstarted trace_is) = tt
      played_shows controller oracle _ (session.no_oracle command c p q why opens unstarted closes trace_is) = tt
      played_shows controller oracle _ (session.memory_at_first same trace_is) = unchanged trace_is
      played_shows controller oracle _ (session.memory_later c p q opens same closes trace_is) = unchanged trace_is

-- ---- what is done

-- what is due runs the scenario, whose inputs are given values, and writes nothing else
record RunsIt (request : Request) (scene : Scene) (work : Work) : Type 0 where
  runs : (other : Scene) → work ≡ plays other → (other ≡ scene) × IsServed request scene
  writes_not : (printed : List ℕ) → work ≡ writes printed → ⊥
  stresses_not : (n : ℕ) (other : Scene) → work ≡ stresses n other → ⊥
  checks_not : (other : Scene) (told : Told) → work ≡ checks other told → ⊥
  campaigns_not : (other : Scene) → work ≡ plays_many other → ⊥

module _ (keep : PlaysKeepToTheirRules State) (cuts : GivingUpIsACut State) (traces : ScenarioTracesShowTheirRun) (prefixes : ScenarioPrefixesShowTheirRun) (request : Request) (text : List ℕ) (scene : Scene) (within : IsWithin request) (has : IsScenarioAnswer request.decimals request.node text (Ok scene)) where
  is_run : IsServed request scene → IsRunOf request.decimals request.node text scene (setup_of request)
  is_run served = record { scenario = record { few = within.decimals; is = has }; limit = within.limit; served = served }

  done_shows : (trace : List ℕ) (old new : Outside Programs) (work : Work) (names : List (List ℕ)) (s : Status) → RunsIt request scene work → IsDone request trace old new work names s → ShowsBy request scene s old.trace.written new.trace.written
  done_shows trace old new _ _ _ it (given.refused reason puts) = tt
  done_shows trace old new _ _ _ it (given.written printed same all) = tt
  done_shows trace old new _ _ _ it (given.cut printed same part) = absurd (it.writes_not printed refl)
  done_shows trace old new _ _ _ it (given.checked other told v verdict same all) = tt
  done_shows trace old new _ _ _ it (given.checked_in_part other told v verdict same part) = absurd (it.checks_not other told refl)
  done_shows trace old new _ _ _ it (given.ran_many other cores how blamed count first was) = absurd (it.campaigns_not other refl)
  done_shows trace old new _ _ _ it (given.told n other ps run same all) = tt
  done_shows trace old new _ _ _ it (given.told_in_part n other ps run same part) = absurd (it.stresses_not n other refl)
  done_shows trace old new _ _ _ it (given.ran other k core how course ahead is) =
      let it_is = it.runs other refl in
      played_shows keep cuts traces prefixes request text scene (is_run it_is.1) k (subst (λ (x : Scene). IsContinuationOf request x k) it_is.0 course) old new core _ _ how is

  gives_shows : (contents : Contents) (answer : Answer) (asked names : List (List ℕ)) (old new : Outside Sources) (s : Status) → RunsIt request scene answer.work → Gives request contents answer asked old new names s → ShowsBy request scene s old.trace.written new.trace.written
  gives_shows contents answer asked _ old new _ it (given.done names s files is) = done_shows contents.replay (without_files old) (without_files new) answer.work names s it is
  gives_shows contents answer asked _ old new _ it (given.by_file n some within files puts) = tt
  gives_shows contents answer asked _ old new _ it (given.by_memory n files puts) = none_appended old.trace.written new.trace.written puts.trace

-- what is due to a request whose scenario is this one
due_runs : TextsHaveOneScenarioAnswer → (request : Request) (text : List ℕ) (scene : Scene) (contents : Contents) (answer : Answer) → request.mode ≡ mode.Run → contents.scenario ≡ text →
    IsScenarioAnswer request.decimals request.node text (Ok scene) → IsDue request contents answer → RunsIt request scene answer.work
due_runs one request text scene contents _ run read has (due.too_long file long) = record { runs = λ other e. absurd (cc e); writes_not = λ printed e. absurd (cc e); stresses_not = λ n x e. absurd (cc e); checks_not = λ x t e. absurd (cc e); campaigns_not = λ x e. absurd (cc e) }
due_runs one request text scene contents _ run read has (due.no_scenario reason way short why) = record { runs = λ other e. absurd (cc e); writes_not = λ printed e. absurd (cc e); stresses_not = λ n x e. absurd (cc e); checks_not = λ x t e. absurd (cc e); campaigns_not = λ x e. absurd (cc e) }
due_runs one request text scene contents _ run read has (due.too_many_atoms other way short also many) = record { runs = λ x e. absurd (cc e); writes_not = λ printed e. absurd (cc e); stresses_not = λ n x e. absurd (cc e); checks_not = λ x t e. absurd (cc e); campaigns_not = λ x e. absurd (cc e) }
due_runs one request text scene contents _ run read has (due.unserved other way short also few none) = record { runs = λ x e. absurd (cc e); writes_not = λ printed e. absurd (cc e); stresses_not = λ n x e. absurd (cc e); checks_not = λ x t e. absurd (cc e); campaigns_not = λ x e. absurd (cc e) }
due_runs one request text scene contents _ run read has (due.long_trace other name way short also few served by long) = record { runs = λ x e. absurd (cc e); writes_not = λ printed e. absurd (cc e); stresses_not = λ n x e. absurd (cc e); checks_not = λ x t e. absurd (cc e); campaigns_not = λ x e. absurd (cc e) }
due_runs one request text scene contents _ run read has (due.runs other way short also few served fits) =
    let there : IsScenarioAnswer request.decimals request.node text (Ok other) = subst (λ (t : List ℕ). IsScenarioAnswer request.decimals request.node t (Ok other)) read also in
    let answers : Ok other ≡ Ok scene = (one request.decimals request.node text).1 (Ok other) (Ok scene) there has in
    let same : other ≡ scene = cc in
    record { runs = λ x e. let again : other ≡ x = cc in (sym again ∙ same, subst (IsServed request) same served); writes_not = λ printed e. absurd (cc e); stresses_not = λ n x e. absurd (cc e); checks_not = λ x t e. absurd (cc e); campaigns_not = λ x e. absurd (cc e) }
due_runs one request text scene contents _ run read has (due.runs_many other way short also few served fits) = absurd (let modes : mode.Campaign ≡ mode.Run = sym way ∙ run in cc modes)
due_runs one request text scene contents _ run read has (due.long_checked other name way short also few by long) = record { runs = λ x e. absurd (cc e); writes_not = λ printed e. absurd (cc e); stresses_not = λ n x e. absurd (cc e); checks_not = λ x t e. absurd (cc e); campaigns_not = λ x e. absurd (cc e) }
due_runs one request text scene contents _ run read has (due.bad_trace other n way short also few fits bad) = record { runs = λ x e. absurd (cc e); writes_not = λ printed e. absurd (cc e); stresses_not = λ n x e. absurd (cc e); checks_not = λ x t e. absurd (cc e); campaigns_not = λ x e. absurd (cc e) }
due_runs one request text scene contents _ run read has (due.checked other told way short also few fits tells) = absurd (let modes : mode.Check ≡ mode.Run = sym way ∙ run in cc modes)
due_runs one request text scene contents _ run read has (due.unprinted reason way short why) = record { runs = λ other e. absurd (cc e); writes_not = λ printed e. absurd (cc e); stresses_not = λ n x e. absurd (cc e); checks_not = λ x t e. absurd (cc e); campaigns_not = λ x e. absurd (cc e) }
due_runs one request text scene contents _ run read has (due.prints printed way short why) = absurd (let modes : mode.Print ≡ mode.Run = sym way ∙ run in cc modes)
due_runs one request text scene contents _ run read has (due.stressed n other way is) = absurd (let modes : mode.Stress n ≡ mode.Run = sym way ∙ run in cc modes)

-- the text of a file, where a mode has one
of_file : (has : Bool) (told : Option (List ℕ)) (text : List ℕ) → has ≡ true → IsText has told text → WhereTold told (λ bytes. text ≡ bytes)
of_file true told text e is = is
of_file false told text e is = absurd (cc e)

-- ---- the law

pub traces_of_calls_show_their_runs : TextsHaveOneScenarioAnswer → PlaysKeepToTheirRules State → GivingUpIsACut State → ScenarioTracesShowTheirRun → ScenarioPrefixesShowTheirRun → TracesOfCallsShowTheirRuns
traces_of_calls_show_their_runs one keep cuts traces prefixes request told asked names old new s within run gives =
    let contents = gives.0 in
    let are = gives.1 in
    let answer = gives.2 in (
      contents.scenario,
      of_file (has_file request.mode) (told request.file) contents.scenario (ap has_file run) are.0,
      λ scene has.
          gives_shows keep cuts traces prefixes request contents.scenario scene within has contents answer asked names old new s (due_runs one request contents.scenario scene contents answer run refl has gives.3) gives.4,
    )
