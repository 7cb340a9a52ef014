-- A run that has ended is told by the play on what it shows.
use Rattle.std.proofs.Common.{◌≡◌, ◌+◌, ◌≤◌, ℕ, Bool, true, false, List, [], ◌∷◌, ◌++◌, refl, ap, sym, subst, ◌∙◌, arith, append_assoc, append-nil, if◌then◌else◌, None}
use Rattle.lt_num.specs.Bounds.{most_decimals}
use Rattle.lt_num.specs.declared.kind.Kind.TheVariants as kind
use Rattle.lt_num.specs.declared.value.Value.{Value}
use Rattle.lt_rif.specs.Enough.{RoomIsEnough}
use Rattle.lt_rif.specs.ReadBack.{StepReadsBack}
use Rattle.lt_rif.specs.Reply.{Reply, Stream, whole, needs, short, malformed, beginning, reply_in, reply_of}
use Rattle.lt_rif.specs.Spelling.{SpellingIsRead}
use Rattle.lt_rif.specs.Trace.{bool_text, line}
use Rattle.lt_rif.specs.Word.{last, words_of}
use Rattle.lt_rif.specs.declared.end.End.{End}
use Rattle.lt_rif.specs.declared.end.End.TheVariants as end
use Rattle.lt_rif.specs.declared.end.Who.TheVariants as who
use Rattle.lt_rif.specs.declared.slot.Slot.{Slot}
use Rattle.lt_loop.specs.Plan.{Plan, closing_text, reply_slots, step_line, traced_step}
use Rattle.lt_loop.specs.Play.{Made, Play, ends, holds, needs_byte, oracle_asked, oracle_read, piece_then, step_count, stepped, stopped}
use Rattle.lt_loop.specs.Scene.{verdict_slots}
use Rattle.lt_loop.specs.declared.event.PieceKind.TheVariants as piece_kind
use Rattle.lt_trace_laws.specs.Replay.{is_replayable, trace_text}
use Rattle.lt_trace_laws.specs.Shown.{shown_replies, shown_reply, shown_verdicts, verdict_before}
use Rattle.lt_trace_laws.proofs.Lines.{IsAt, verdict_read}

-- ---- plays that are told

-- a play from instant k on, which ends so, is told by another one
pub record IsToldFrom (plan : Plan) (k : ℕ) (e : End) (again run : Play) : Type 0 where
  pub same : is_replayable e ≡ true → again ≡ run
  pub missed : is_replayable e ≡ false → trace_text run.pieces ≡ trace_text again.pieces ++ closing_text plan e (k + step_count run.pieces)
  pub steps : is_replayable e ≡ false → step_count again.pieces ≡ step_count run.pieces

truth : (b : Bool) → b ≡ true → b ≡ false → ⊥
truth b h k = absurd (cc)

end_was : (f e : End) → ends f ≡ ends e → f ≡ e
end_was f e is = cc

pub told_same : (plan : Plan) (k : ℕ) (f e : End) (again run : Play) → ends f ≡ ends e → is_replayable f ≡ true → again ≡ run → IsToldFrom plan k e again run
told_same plan k f e again run is well same = record {
  same = λ w. same;
  missed = λ fails. absurd (truth (is_replayable e) (subst (λ (x : End). is_replayable x ≡ true) (end_was f e is) well) fails);
  steps = λ fails. ap (λ (p : Play). step_count p.pieces) same;
}

pub told_missed : (plan : Plan) (k : ℕ) (e : End) (again run : Play) → is_replayable e ≡ false → trace_text run.pieces ≡ trace_text again.pieces ++ closing_text plan e (k + step_count run.pieces)
    → step_count again.pieces ≡ step_count run.pieces → IsToldFrom plan k e again run
told_missed plan k e again run fails text count = record { same = λ w. absurd (truth (is_replayable e) w fails); missed = λ f. text; steps = λ f. count }

-- ---- pieces in prefix

module _ (plan : Plan) (k : ℕ) (e : End) (again run : Play) (bytes : List ℕ) where
  pub after_outputs : IsToldFrom plan k e again run → IsToldFrom plan k e (piece_then piece_kind.Outputs bytes again) (piece_then piece_kind.Outputs bytes run)
  after_outputs told = record {
    same = λ w. ap (λ (p : Play). piece_then piece_kind.Outputs bytes p) (told.same w);
    missed = λ fails. told.missed fails ∙ ap (λ (n : ℕ). trace_text again.pieces ++ closing_text plan e n) {x = k + step_count run.pieces} {y = k + (0 + step_count run.pieces)} (omega arith);
    steps = λ fails. ap (λ (n : ℕ). 0 + n) (told.steps fails);
  }

  after_question : IsToldFrom plan k e again run → IsToldFrom plan k e (piece_then piece_kind.Question bytes again) (piece_then piece_kind.Question bytes run)
  after_question told = record {
    same = λ w. ap (λ (p : Play). piece_then piece_kind.Question bytes p) (told.same w);
    missed = λ fails. told.missed fails ∙ ap (λ (n : ℕ). trace_text again.pieces ++ closing_text plan e n) {x = k + step_count run.pieces} {y = k + (0 + step_count run.pieces)} (omega arith);
    steps = λ fails. ap (λ (n : ℕ). 0 + n) (told.steps fails);
  }

  after_step : IsToldFrom plan (k + 1) e again run → IsToldFrom plan k e (piece_then piece_kind.Step bytes again) (piece_then piece_kind.Step bytes run)
  after_step told = record {
    same = λ w. ap (λ (p : Play). piece_then piece_kind.Step bytes p) (told.same w);
    missed =
        λ fails.
        ap (λ (t : List ℕ). bytes ++ t) (told.missed fails)
        ∙ sym (append_assoc bytes (trace_text again.pieces) (closing_text plan e (k + 1 + step_count run.pieces)))
        ∙ ap (λ (n : ℕ). (bytes ++ trace_text again.pieces) ++ closing_text plan e n) {x = k + 1 + step_count run.pieces} {y = k + (1 + step_count run.pieces)} (omega arith);
    steps = λ fails. ap (λ (n : ℕ). 1 + n) (told.steps fails);
  }

-- ---- streams that show no more

-- such a reply isn't whole, where there is anything to read
no_reply : (decimals : ℕ) (slot : Slot) (slots : List Slot) (s : Stream) → IsAt (slot ∷ slots) [] s → reply_of decimals (slot ∷ slots) s ≡ needs
no_reply decimals slot slots s at =
    ap (λ (bs : List ℕ). reply_in s.is_closed (beginning decimals (slot ∷ slots) s.place) (words_of [] bs)) (at.0 (omega arith))
    ∙ ap (λ (closed : Bool). reply_in closed (beginning decimals (slot ∷ slots) s.place) (last [])) at.1

pub idle_reply : (decimals : ℕ) (slots : List Slot) (s : Stream) → IsAt slots [] s → (P : Reply → Type 0) → P needs → (slots ≡ [] → P (whole [] s)) → P (reply_of decimals slots s)
idle_reply decimals [] s at P waits nothing = nothing refl
idle_reply decimals (slot ∷ slots) s at P waits nothing = subst P (sym (no_reply decimals slot slots s at)) waits

-- an oracle that says no more
pub oracle_idle : (plan : Plan) (made : Made) (y : List Value) (go : Stream → Play) (t : Stream) → plan.has_oracle ≡ true → t.bytes ≡ [] → t.is_closed ≡ false
    → oracle_asked plan made y go t ≡ piece_then piece_kind.Question (step_line plan made.outputs y) (stopped (needs_byte who.Oracle))
oracle_idle plan made y go t has none is_open =
    ap (λ (b : Bool). if b then piece_then piece_kind.Question (step_line plan made.outputs y) (oracle_read plan made y go (reply_of plan.scene.decimals verdict_slots t)) else stepped plan made y true (go t)) has
    ∙ ap (λ (r : Reply). piece_then piece_kind.Question (step_line plan made.outputs y) (oracle_read plan made y go r))
    (no_reply plan.scene.decimals (record { kind = kind.Bool; range = None; keep = true }) [] t (λ some. none, is_open))

-- ---- from the inputs of a step on

-- two streams that show these replies and these verdicts, and no more
abbrev pub IsFed : Plan → List ℕ → List ℕ → Stream → Stream → Type 0
IsFed plan replies verdicts s t = IsAt (reply_slots plan.controller plan.scene) replies s × (plan.has_oracle ≡ true → t.bytes ≡ verdicts) × (t.is_closed ≡ false)

-- what follows a step is told, from streams that show it
abbrev pub Follows : Plan → ℕ → End → (Stream → Play) → (Stream → Stream → Play) → Type 0
Follows plan k e go go' =
    (o s t : Stream) → (go o).stop ≡ ends e → IsFed plan (shown_replies plan (go o).pieces) (shown_verdicts (go o).pieces (go o).stop) s t → IsToldFrom plan (k + 1) e (go' s t) (go o)

-- The step is written, with this after it in its piece. What follows shows these replies, and it is enough that it is told.
pub record IsWritten (plan : Plan) (made : Made) (y : List Value) (go : Stream → Play) (e : End) (first : Play) : Type 0 where
  pub after : List ℕ
  pub rest : List ℕ
  pub replies : shown_replies plan first.pieces ≡ shown_reply plan.controller plan (traced_step plan made.number made.outputs y made.locals ++ after) ++ rest
  pub goes : (go' : Stream → Stream → Play) (s t : Stream) → Follows plan made.number e go go' → IsFed plan rest (shown_verdicts first.pieces first.stop) s t
      → IsToldFrom plan made.number e (oracle_asked plan made y (go' s) t) first

-- It isn't, since the oracle's reply was missed or refused.
pub record IsMissed (plan : Plan) (made : Made) (e : End) (first : Play) : Type 0 where
  pub has : plan.has_oracle ≡ true
  pub fails : is_replayable e ≡ false
  pub replies : shown_replies plan first.pieces ≡ []
  pub verdicts : shown_verdicts first.pieces first.stop ≡ []
  pub text : trace_text first.pieces ≡ closing_text plan e (made.number + step_count first.pieces)
  pub none : step_count first.pieces ≡ 0

pub data Asked (plan : Plan) (made : Made) (y : List Value) (go : Stream → Play) (e : End) (first : Play) : Type 0 where
  written : IsWritten plan made y go e first → Asked plan made y go e first
  missed : IsMissed plan made e first → Asked plan made y go e first

-- the trace of an end alone
pub end_text_is : (plan : Plan) (f e : End) (k : ℕ) → ends f ≡ ends e → closing_text plan f k ++ [] ≡ closing_text plan e (k + 0)
end_text_is plan f e k is = append-nil (closing_text plan f k) ∙ ap (λ (x : End). closing_text plan x k) (end_was f e is) ∙ ap (λ (n : ℕ). closing_text plan e n) {x = k} {y = k + 0} (omega arith)

pub fails_so : (f e : End) → ends f ≡ ends e → is_replayable f ≡ false → is_replayable e ≡ false
fails_so f e is fails = subst (λ (x : End). is_replayable x ≡ false) (end_was f e is) fails

module _ (reads : StepReadsBack) (spelling : SpellingIsRead) (rooms : RoomIsEnough) where
  module _ (base : Plan) (few : base.scene.decimals ≤ most_decimals) (made : Made) (y : List Value) (go : Stream → Play) (e : End) (firm : (o : Stream) → verdict_before (go o).pieces (go o).stop ≡ true) where
    -- with an oracle
    abbrev asking : Plan
    asking = record base { has_oracle = true }

    abbrev question : Play → Play
    question p = piece_then piece_kind.Question (step_line asking made.outputs y) p

    verdict_asked : (b : Bool) (o : Stream) → (stepped asking made y b (go o)).stop ≡ ends e → IsWritten asking made y go e (question (stepped asking made y b (go o)))
    verdict_asked true o is = record {
      after = [];
      rest = shown_replies asking (go o).pieces;
      replies = ap (λ (t : List ℕ). shown_reply asking.controller asking t ++ shown_replies asking (go o).pieces) (sym (append-nil (traced_step asking made.number made.outputs y made.locals)));
      goes =
          λ go' s t follows fed.
          let verdicts = shown_verdicts (go o).pieces (go o).stop in
          let read = verdict_read reads spelling rooms asking.scene.decimals true verdicts t few (fed.1 refl ∙ ap (λ (b : Bool). line (bool_text b) ++ verdicts) (firm o)) fed.2 in
          let next = read.next in
          let told = follows o s read.left is (fed.0, (λ has. next.0 (omega arith)), next.1) in
          subst (λ (r : Reply). IsToldFrom asking made.number e (question (oracle_read asking made y (go' s) r)) (question (stepped asking made y true (go o)))) (sym read.is)
          (after_question asking made.number e _ _ _ (after_step asking made.number e _ _ _ told));
    }
    verdict_asked false o is = record {
      after = closing_text asking end.Oracle made.number;
      rest = [];
      replies = refl;
      goes =
          λ go' s t follows fed.
          let read = verdict_read reads spelling rooms asking.scene.decimals false [] t few (fed.1 refl) fed.2 in
          subst (λ (r : Reply). IsToldFrom asking made.number e (question (oracle_read asking made y (go' s) r)) (question (stepped asking made y false (go o)))) (sym read.is)
          (told_same asking made.number end.Oracle e _ _ is refl refl);
    }

    reply_asked : (r : Reply) → (oracle_read asking made y go r).stop ≡ ends e → Asked asking made y go e (question (oracle_read asking made y go r))
    reply_asked (whole vs o) is = written (verdict_asked (holds vs) o is)
    reply_asked needs is = absurd (cc is)
    reply_asked (short n) is = missed (record { has = refl; fails = fails_so (end.Ended who.Oracle n) e is refl; replies = refl; verdicts = refl; text = end_text_is asking (end.Ended who.Oracle n) e made.number is; none = refl })
    reply_asked (malformed f place) is =
        missed (record { has = refl; fails = fails_so (end.Malformed who.Oracle f place) e is refl; replies = refl; verdicts = refl; text = end_text_is asking (end.Malformed who.Oracle f place) e made.number is; none = refl })

    -- with one or without
    pub oracle_is_asked : (has : Bool) (o : Stream) → (oracle_asked (record base { has_oracle = has }) made y go o).stop ≡ ends e
        → Asked (record base { has_oracle = has }) made y go e (oracle_asked (record base { has_oracle = has }) made y go o)
    oracle_is_asked true o is = reply_asked (reply_of base.scene.decimals verdict_slots o) is
    oracle_is_asked false o is =
        let alone : Plan = record base { has_oracle = false } in
        written (record {
          after = [];
          rest = shown_replies alone (go o).pieces;
          replies = ap (λ (t : List ℕ). shown_reply alone.controller alone t ++ shown_replies alone (go o).pieces) (sym (append-nil (traced_step alone made.number made.outputs y made.locals)));
          goes = λ go' s t follows fed. after_step alone made.number e _ _ _ (follows o s t is (fed.0, (λ has. absurd (cc has)), fed.2));
        })
