-- Prefixes of runs are told by the plays on what they show.
use Rattle.std.proofs.Common.{◌≡◌, ◌≢◌, ◌+◌, ◌^◌, ◌<◌, ◌≤◌, ◌-◌, ℕ, zero, suc, Bool, true, false, List, [], ◌∷◌, ◌++◌, refl, ap, sym, subst, ◌∙◌, arith, append-nil}
use Rattle.lt_num.specs.Bounds.{most_decimals}
use Rattle.lt_num.specs.declared.value.Value.{Value}
use Rattle.lt_rif.specs.Enough.{RoomIsEnough}
use Rattle.lt_rif.specs.ReadBack.{StepReadsBack}
use Rattle.lt_rif.specs.Reply.{Reply, Stream, whole, needs, short, malformed, reply_of}
use Rattle.lt_rif.specs.Spelling.{SpellingIsRead}
use Rattle.lt_rif.specs.Trace.{bool_text, end_number, line, line_text}
use Rattle.lt_rif.specs.declared.end.End.{End}
use Rattle.lt_rif.specs.declared.end.End.TheVariants as end
use Rattle.lt_rif.specs.declared.end.Who.TheVariants as who
use Rattle.lt_loop.specs.Fits.{RepliesFit}
use Rattle.lt_loop.specs.Machine.{Instant, Rules, values, over, end_of}
use Rattle.lt_loop.specs.Plan.{Plan, closing_text, opening_text, outputs_line, reply_slots, step_line, traced_step}
use Rattle.lt_loop.specs.Play.{Made, Piece, Play, Stop, controller_asked, controller_read, controller_reply, destination_of, ended, ends, holds, instant_made, made_by, needs_byte, oracle_asked, oracle_read, piece_then, play_from, untold, step_count, steps_of, stepped, stopped}
use Rattle.lt_loop.specs.Run.{pieces_then}
use Rattle.lt_loop.specs.Scene.{first_inputs, fit, input_slots, verdict_slots}
use Rattle.lt_loop.specs.Stands.{is_served}
use Rattle.lt_loop.specs.declared.event.PieceKind.{PieceKind}
use Rattle.lt_loop.specs.declared.event.PieceKind.TheVariants as piece_kind
use Rattle.lt_loop.specs.declared.setup.Talk.{Talk}
use Rattle.lt_loop.specs.declared.setup.Talk.TheVariants as talk
use Rattle.lt_trace_laws.specs.Replay.{IsTraceable, Shows, ShowsFor, trace_text, traced_to}
use Rattle.lt_trace_laws.specs.Shown.{Begins, PrefixesShowTheirRun, open_text, reply_kinds, shown_replies, shown_reply, shown_values, shown_verdicts, verdict_before}
use Rattle.lt_trace_laws.proofs.Lines.{IsAt, reply_read, reply_values, step_shows, verdict_read}
use Rattle.lt_trace_laws.proofs.Replaying.{given_fit, none_fit}
use Rattle.lt_trace_laws.proofs.Shown.{inputs_held}
use Rattle.lt_trace_laws.proofs.Telling.{IsFed}
use Rattle.lt_trace_laws.proofs.ToldRuns.{IsInstant}

-- ---- prefixes of plays

-- a play that isn't over
abbrev IsUnended : Play → Type 0
IsUnended rest = (e : End) → rest ≢ stopped (ends e)

-- pieces that write no trace, and so no step
abbrev IsSilent : List Piece → Type 0
IsSilent ps = (trace_text ps ≡ []) × (step_count ps ≡ 0)

-- are written by no pieces
nothing : (play : Play) (ps : List Piece) → IsSilent ps → Begins play ps
nothing play ps none = record { prefix = []; rest = play; joined = refl; sent = ps; pieces = refl; unseen = none.0; text = sym none.0; steps = sym none.1 }

-- one piece more
begins_then : (kind : PieceKind) (bytes : List ℕ) (play : Play) (ps : List Piece) → Begins play ps → Begins (piece_then kind bytes play) (record { kind = kind; bytes = bytes } ∷ ps)
begins_then kind bytes play ps begins = record {
  prefix = record { kind = kind; bytes = bytes } ∷ begins.prefix;
  rest = begins.rest;
  joined = ap (λ (p : Play). piece_then kind bytes p) begins.joined;
  sent = begins.sent;
  pieces = ap (λ (qs : List Piece). record { kind = kind; bytes = bytes } ∷ qs) begins.pieces;
  unseen = begins.unseen;
  text = ap (λ (t : List ℕ). traced_to (destination_of kind) bytes ++ t) begins.text;
  steps = ap (λ (n : ℕ). steps_of kind + n) begins.steps;
}

head_was : (x y : Piece) (xs ys : List Piece) → x ∷ xs ≡ y ∷ ys → x ≡ y
head_was x y xs ys is = cc

tail_was : (x y : Piece) (xs ys : List Piece) → x ∷ xs ≡ y ∷ ys → xs ≡ ys
tail_was x y xs ys is = cc

-- a prefix of a play that begins with a piece is empty, or begins with it
prefix_is : (kind : PieceKind) (bytes : List ℕ) (play : Play) (ps : List Piece) (rest : Play) → piece_then kind bytes play ≡ pieces_then ps rest → (P : List Piece → Type 0) → P []
    → ((after : List Piece) → play ≡ pieces_then after rest → P (record { kind = kind; bytes = bytes } ∷ after)) → P ps
prefix_is kind bytes play [] rest is P none some = none
prefix_is kind bytes play (p ∷ ps) rest is P none some =
    let pieces : record { kind = kind; bytes = bytes } ∷ play.pieces ≡ p ∷ (ps ++ rest.pieces) = ap (λ (q : Play). q.pieces) is in
    let stops : play.stop ≡ rest.stop = ap (λ (q : Play). q.stop) is in
    let after : play.pieces ≡ ps ++ rest.pieces = tail_was _ _ _ _ pieces in
    subst (λ (q : Piece). P (q ∷ ps)) (head_was _ _ _ _ pieces) (some ps (λ i. record { pieces = after i; stop = stops i }))

-- nothing follows where a play is over
over_after : (e : End) (ps : List Piece) (rest : Play) → stopped (ends e) ≡ pieces_then ps rest → IsUnended rest → ⊥
over_after e [] rest is unended = unended e (sym is)
over_after e (p ∷ ps) rest is unended = let pieces : [] ≡ p ∷ (ps ++ rest.pieces) = ap (λ (q : Play). q.pieces) is in absurd (cc)

waits_after : (s : Stop) (ps : List Piece) (rest : Play) → stopped s ≡ pieces_then ps rest → IsSilent ps
waits_after s [] rest is = (refl, refl)
waits_after s (p ∷ ps) rest is = let pieces : [] ≡ p ∷ (ps ++ rest.pieces) = ap (λ (q : Play). q.pieces) is in absurd (cc)

ended_after : (plan : Plan) (e : End) (k : ℕ) (ps : List Piece) (rest : Play) → ended plan e k ≡ pieces_then ps rest → IsUnended rest → IsSilent ps
ended_after plan e k ps rest is unended =
    prefix_is piece_kind.EndLine (closing_text plan e k) (stopped (ends e)) ps rest is (λ (qs : List Piece). IsSilent qs) (refl, refl) (λ after at. absurd (over_after e after rest at unended))

true_before : (ps : List Piece) → verdict_before ps untold ≡ true
true_before [] = refl
true_before (p ∷ ps) = refl

-- ---- from the inputs of a step on

-- prefixes of what follows a step
abbrev PrefixesFollow : Plan → (Stream → Play) → (Stream → Stream → Play) → Type 0
PrefixesFollow plan go go' =
    (o s t : Stream) (ps : List Piece) (rest : Play) → go o ≡ pieces_then ps rest → IsUnended rest → IsFed plan (shown_replies plan ps) (shown_verdicts ps untold) s t → Begins (go' s t) ps

-- the step is among these pieces, and those after it show these replies
record HasStep (plan : Plan) (made : Made) (y : List Value) (go : Stream → Play) (ps : List Piece) : Type 0 where
  rest : List ℕ
  replies : shown_replies plan ps ≡ shown_reply plan.controller plan (traced_step plan made.number made.outputs y made.locals ++ []) ++ rest
  goes : (go' : Stream → Stream → Play) (s t : Stream) → PrefixesFollow plan go go' → IsFed plan rest (shown_verdicts ps untold) s t → Begins (oracle_asked plan made y (go' s) t) ps

-- or they write no trace
data Prefixes (plan : Plan) (made : Made) (y : List Value) (go : Stream → Play) (ps : List Piece) : Type 0 where
  has_step : HasStep plan made y go ps → Prefixes plan made y go ps
  silent : IsSilent ps → Prefixes plan made y go ps

module _ (reads : StepReadsBack) (spelling : SpellingIsRead) (rooms : RoomIsEnough) where
  module _ (base : Plan) (few : base.scene.decimals ≤ most_decimals) (made : Made) (y : List Value) (go : Stream → Play) where
    -- with an oracle
    abbrev asking : Plan
    asking = record base { has_oracle = true }

    abbrev question : Piece
    question = record { kind = piece_kind.Question; bytes = step_line asking made.outputs y }

    verdict_prefixes : (b : Bool) (o : Stream) (ps : List Piece) (rest : Play) → stepped asking made y b (go o) ≡ pieces_then ps rest → IsUnended rest → Prefixes asking made y go (question ∷ ps)
    verdict_prefixes true o ps rest is unended =
        let text = traced_step asking made.number made.outputs y made.locals in
        prefix_is piece_kind.Step text (go o) ps rest is (λ (qs : List Piece). Prefixes asking made y go (question ∷ qs)) (silent (refl, refl))
        (λ after at.
        has_step (record {
          rest = shown_replies asking after;
          replies = ap (λ (t : List ℕ). shown_reply asking.controller asking t ++ shown_replies asking after) (sym (append-nil text));
          goes =
              λ go' s t follows fed.
              let verdicts = shown_verdicts after untold in
              let read = verdict_read reads spelling rooms asking.scene.decimals true verdicts t few (fed.1 refl ∙ ap (λ (b : Bool). line (bool_text b) ++ verdicts) (true_before after)) fed.2 in
              let next = read.next in
              let begins = follows o s read.left after rest at unended (fed.0, (λ has. next.0 (omega arith)), next.1) in
              subst (λ (r : Reply). Begins (piece_then piece_kind.Question (step_line asking made.outputs y) (oracle_read asking made y (go' s) r)) (question ∷ record { kind = piece_kind.Step; bytes = text } ∷ after)) (sym read.is)
              (begins_then piece_kind.Question (step_line asking made.outputs y) _ _ (begins_then piece_kind.Step text _ _ begins));
        }))
    verdict_prefixes false o ps rest is unended =
        prefix_is piece_kind.Step (traced_step asking made.number made.outputs y made.locals ++ closing_text asking end.Oracle made.number) (stopped (ends end.Oracle)) ps rest is
        (λ (qs : List Piece). Prefixes asking made y go (question ∷ qs)) (silent (refl, refl))
        (λ after at. absurd (over_after end.Oracle after rest at unended))

    after_question : (ps : List Piece) → IsSilent ps → IsSilent (question ∷ ps)
    after_question ps none = (none.0, ap (λ (n : ℕ). 0 + n) none.1)

    reply_prefixes : (r : Reply) (ps : List Piece) (rest : Play) → oracle_read asking made y go r ≡ pieces_then ps rest → IsUnended rest → Prefixes asking made y go (question ∷ ps)
    reply_prefixes (whole vs o) ps rest is unended = verdict_prefixes (holds vs) o ps rest is unended
    reply_prefixes needs ps rest is unended = silent (after_question ps (waits_after (needs_byte who.Oracle) ps rest is))
    reply_prefixes (short n) ps rest is unended = silent (after_question ps (ended_after asking (end.Ended who.Oracle n) made.number ps rest is unended))
    reply_prefixes (malformed f place) ps rest is unended = silent (after_question ps (ended_after asking (end.Malformed who.Oracle f place) made.number ps rest is unended))

    -- with one or without
    oracle_prefixes : (has : Bool) (o : Stream) (ps : List Piece) (rest : Play) → oracle_asked (record base { has_oracle = has }) made y go o ≡ pieces_then ps rest → IsUnended rest
        → Prefixes (record base { has_oracle = has }) made y go ps
    oracle_prefixes true o ps rest is unended =
        let reply = reply_of base.scene.decimals verdict_slots o in
        prefix_is piece_kind.Question (step_line asking made.outputs y) (oracle_read asking made y go reply) ps rest is (λ (qs : List Piece). Prefixes asking made y go qs) (silent (refl, refl))
        (λ after at. reply_prefixes reply after rest at unended)
    oracle_prefixes false o ps rest is unended =
        let alone : Plan = record base { has_oracle = false } in
        let text = traced_step alone made.number made.outputs y made.locals in
        prefix_is piece_kind.Step text (go o) ps rest is (λ (qs : List Piece). Prefixes alone made y go qs) (silent (refl, refl))
        (λ after at.
        has_step (record {
          rest = shown_replies alone after;
          replies = ap (λ (t : List ℕ). shown_reply alone.controller alone t ++ shown_replies alone after) (sym (append-nil text));
          goes = λ go' s t follows fed. begins_then piece_kind.Step text _ _ (follows o s t after rest at unended (fed.0, (λ has. absurd (cc has)), fed.2));
        }))

-- ---- from an instant on

-- prefixes of what may follow an instant
abbrev PrefixesFollowAll : Plan → (List Value → Stream → Stream → Play) → (List Value → Stream → Stream → Play) → Type 0
PrefixesFollowAll plan go go' = (y : List Value) (c : Stream) → fit (input_slots plan.scene) y ≡ true → PrefixesFollow plan (go y c) (go' y)

module _ (reads : StepReadsBack) (spelling : SpellingIsRead) (rooms : RoomIsEnough) (fits : RepliesFit) where
  -- the reply that a step shows is read
  part_begins : (plan : Plan) (made : Made) (y : List Value) (go : Stream → Play) (go' : List Value → Stream → Stream → Play) (s t : Stream) (ps : List Piece) → IsInstant plan made → fit (input_slots plan.scene) y ≡ true
      → ((text : List ℕ) → shown_reply plan.controller plan text ≡ line_text plan.scene.decimals (reply_kinds plan.controller plan.scene) (shown_values plan.controller plan text))
      → Prefixes plan made y go ps → PrefixesFollow plan go (go' y) → IsFed plan (shown_replies plan ps) (shown_verdicts ps untold) s t
      → Begins (controller_read plan made go' (controller_reply plan s) t) ps
  part_begins plan made y go go' s t ps known fitting is_line (has_step w) follows fed =
      let can = known.can in
      let held = inputs_held plan.scene.inputs y fitting in
      let shows = known.shows in
      let text = traced_step plan made.number made.outputs y made.locals ++ [] in
      let kinds = reply_kinds plan.controller plan.scene in
      let line_is : shown_reply plan.controller plan text ≡ line_text plan.scene.decimals kinds (reply_values plan.controller made.outputs y) =
      is_line text
      ∙ ap (λ (vs : List Value). line_text plan.scene.decimals kinds vs) (step_shows reads rooms plan made.number made.outputs y made.locals [] can known.small shows held plan.controller) in
      let at : IsAt (reply_slots plan.controller plan.scene) (line_text plan.scene.decimals kinds (reply_values plan.controller made.outputs y) ++ w.rest) s =
      ((λ some. fed.0.0 some ∙ w.replies ∙ ap (λ (l : List ℕ). l ++ w.rest) line_is), fed.0.1) in
      let read = reply_read reads spelling rooms plan.controller plan.scene made.outputs y w.rest s can shows.holds held at in
      subst (λ (r : Reply). Begins (controller_read plan made go' r t) ps) (sym read.is) (w.goes (go' y) read.left t follows (read.next, fed.1, fed.2))
  part_begins plan made y go go' s t ps known fitting is_line (silent none) follows fed = nothing _ ps none

  -- nobody's reply is read
  unread_begins : (plan : Plan) (made : Made) (go : Stream → Play) (go' : List Value → Stream → Stream → Play) (s t : Stream) (ps : List Piece) → ((text : List ℕ) → shown_reply plan.controller plan text ≡ [])
      → Prefixes plan made [] go ps → PrefixesFollow plan go (go' []) → IsFed plan (shown_replies plan ps) (shown_verdicts ps untold) s t → Begins (oracle_asked plan made [] (go' [] s) t) ps
  unread_begins plan made go go' s t ps no_line (has_step w) follows fed =
      w.goes (go' []) s t follows (((λ some. fed.0.0 some ∙ w.replies ∙ ap (λ (l : List ℕ). l ++ w.rest) (no_line (traced_step plan made.number made.outputs [] made.locals ++ []))), fed.0.1), fed.1, fed.2)
  unread_begins plan made go go' s t ps no_line (silent none) follows fed = nothing _ ps none

  reply_begins : (plan : Plan) (made : Made) (go go' : List Value → Stream → Stream → Play) (c s o t : Stream) (ps : List Piece) (rest : Play) (r : Reply) → controller_reply plan c ≡ r → IsInstant plan made
      → ((text : List ℕ) → shown_reply plan.controller plan text ≡ line_text plan.scene.decimals (reply_kinds plan.controller plan.scene) (shown_values plan.controller plan text))
      → PrefixesFollowAll plan go go' → controller_read plan made go r o ≡ pieces_then ps rest → IsUnended rest → IsFed plan (shown_replies plan ps) (shown_verdicts ps untold) s t
      → Begins (controller_read plan made go' (controller_reply plan s) t) ps
  reply_begins plan made go go' c s o t ps rest (whole y left) read known is_line follows is unended fed =
      let fitting = given_fit fits plan.controller plan.scene y c left read in
      let can = known.can in
      part_begins plan made y (go y left) go' s t ps known fitting is_line (oracle_prefixes reads spelling rooms plan can.decimals made y (go y left) plan.has_oracle o ps rest is unended) (follows y left fitting) fed
  reply_begins plan made go go' c s o t ps rest needs read known is_line follows is unended fed = nothing _ ps (waits_after (needs_byte who.Controller) ps rest is)
  reply_begins plan made go go' c s o t ps rest (short n) read known is_line follows is unended fed = nothing _ ps (ended_after plan (end.Ended who.Controller n) made.number ps rest is unended)
  reply_begins plan made go go' c s o t ps rest (malformed f place) read known is_line follows is unended fed =
      nothing _ ps (ended_after plan (end.Malformed who.Controller f place) made.number ps rest is unended)

  talk_begins : (base : Plan) (t : Talk) (made : Made)
      → (let plan : Plan = record base { controller = t } in
      (go go' : List Value → Stream → Stream → Play) (c s o u : Stream) (ps : List Piece) (rest : Play) → IsInstant plan made → is_served t plan.scene ≡ true → PrefixesFollowAll plan go go'
      → controller_asked t plan made go c o ≡ pieces_then ps rest → IsUnended rest → IsFed plan (shown_replies plan ps) (shown_verdicts ps untold) s u → Begins (controller_asked t plan made go' s u) ps)
  talk_begins base talk.Nobody made go go' c s o u ps rest known served follows is unended fed =
      let plan : Plan = record base { controller = talk.Nobody } in
      let can = known.can in
      unread_begins plan made (go [] c) go' s u ps (λ text. refl) (oracle_prefixes reads spelling rooms plan can.decimals made [] (go [] c) plan.has_oracle o ps rest is unended) (follows [] c (none_fit plan.scene.inputs served)) fed
  talk_begins base talk.Live made go go' c s o u ps rest known served follows is unended fed =
      let plan : Plan = record base { controller = talk.Live } in
      let text = outputs_line plan made.outputs in
      prefix_is piece_kind.Outputs text (controller_read plan made go (controller_reply plan c) o) ps rest is
      (λ (qs : List Piece). IsFed plan (shown_replies plan qs) (shown_verdicts qs untold) s u → Begins (controller_asked talk.Live plan made go' s u) qs)
      (λ fed_none. nothing _ [] (refl, refl))
      (λ after at fed_some. begins_then piece_kind.Outputs text _ after (reply_begins plan made go go' c s o u after rest (controller_reply plan c) refl known (λ text. refl) follows at unended fed_some))
      fed
  talk_begins base talk.Replay made go go' c s o u ps rest known served follows is unended fed =
      let plan : Plan = record base { controller = talk.Replay } in
      reply_begins plan made go go' c s o u ps rest (controller_reply plan c) refl known (λ text. refl) follows is unended fed

  module _ {State : Type 0} (rules : Rules State) (plan : Plan) (can : IsTraceable plan.scene) (served : is_served plan.controller plan.scene ≡ true) where
    instant_begins : (k : ℕ) (i : Instant State) (go go' : State → List Value → Stream → Stream → Play) (c s o t : Stream) (ps : List Piece) (rest : Play) → k < 2 ^ 64
        → ((next : State) → i ≡ values next → Shows plan.scene (rules.outputs next) (rules.locals next))
        → ((next : State) → i ≡ values next → PrefixesFollowAll plan (go next) (go' next))
        → instant_made rules plan k i go c o ≡ pieces_then ps rest → IsUnended rest → IsFed plan (shown_replies plan ps) (shown_verdicts ps untold) s t → Begins (instant_made rules plan k i go' s t) ps
    instant_begins k (values m) go go' c s o t ps rest small shows follows is unended fed =
        talk_begins plan plan.controller (made_by rules k m) (go m) (go' m) c s o t ps rest (record { can = can; small = small; shows = shows m refl }) served (follows m refl) is unended fed
    instant_begins k (over e) go go' c s o t ps rest small shows follows is unended fed = nothing _ ps (ended_after plan (end_of e) (end_number (end_of e) (k - 1)) ps rest is unended)

    play_begins : (left k : ℕ) (m : State) (y : List Value) (c s o t : Stream) (ps : List Piece) (rest : Play) → k + left ≤ 1_000_001 → ShowsFor rules plan.scene left m y
        → play_from rules plan left k m y c o ≡ pieces_then ps rest → IsUnended rest → IsFed plan (shown_replies plan ps) (shown_verdicts ps untold) s t → Begins (play_from rules plan left k m y s t) ps
    play_begins zero k m y c s o t ps rest small shows is unended fed = nothing _ ps (ended_after plan end.Limit (k - 1) ps rest is unended)
    play_begins (suc left) k m y c s o t ps rest small shows is unended fed =
        instant_begins k (rules.instant m y) (play_from rules plan left (k + 1)) (play_from rules plan left (k + 1)) c s o t ps rest (omega (arith, small)) (λ next at. (shows next at).0)
        (λ next at z d fitting p q r qs more split going fed_next. play_begins left (k + 1) next z d q p r qs more (omega (arith, small)) ((shows next at).1 z fitting) split going fed_next)
        is unended fed

-- ---- the law

pub prefixes_show_their_run : {State : Type 0} → StepReadsBack → SpellingIsRead → RoomIsEnough → RepliesFit → PrefixesShowTheirRun State
prefixes_show_their_run reads spelling rooms fits rules plan limit m c o ps rest can few served shows is unended =
    prefix_is piece_kind.Header (opening_text plan) (play_from rules plan limit 1 m (first_inputs plan.scene) c o) ps rest is
    (λ (qs : List Piece). Begins (piece_then piece_kind.Header (opening_text plan) (play_from rules plan limit 1 m (first_inputs plan.scene) (open_text (shown_replies plan qs)) (open_text (shown_verdicts qs untold)))) qs)
    (nothing _ [] (refl, refl))
    (λ after at.
    begins_then piece_kind.Header (opening_text plan) _ after
    (play_begins reads spelling rooms fits rules plan can served limit 1 m (first_inputs plan.scene) c (open_text (shown_replies plan after)) o (open_text (shown_verdicts after untold)) after rest (omega (arith, few)) shows at unended
    (((λ some. refl), refl), (λ has. refl), refl)))
