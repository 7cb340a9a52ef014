-- A stream that goes on with the text of a trace.
use Rattle.std.proofs.Common.{◌≡◌, ◌+◌, ◌^◌, ◌<◌, ◌≤◌, ℕ, List, [], ◌∷◌, ◌++◌, length, map, Option, refl, ap, sym, ◌∙◌, arith, append_assoc, length-append}
use Rattle.lt_num.specs.declared.value.Value.{Value}
use Rattle.lt_rif.specs.ReadBack.{HoldAll, StepReadsBack, WrittenStep, half_longest, text_of_step}
use Rattle.lt_rif.specs.Reply.{Stream, whole, longest, reply_of}
use Rattle.lt_rif.specs.Spelling.{Filler, AreFillers, gap_text}
use Rattle.lt_rif.specs.declared.slot.Slot.{Slot}
use Rattle.lt_loop.specs.Plan.{Plan, traced_step, where_written}
use Rattle.lt_loop.specs.Play.{controller_reply}
use Rattle.lt_loop.specs.Scene.{input_slots, kinds_of, passed_slot, traced_slots}
use Rattle.lt_trace_laws.specs.Replay.{IsTraceable, Shows, replaying}
use Rattle.lt_trace_laws.proofs.Shown.{kept_is, none_held, traced_is, written_sized}

-- What is read by some slots goes on with a text: before it stands at most so much of what may stand between values. A reply
-- of no slots reads nothing, whatever stands there.
pub data GoesOn (slots : List Slot) (most : ℕ) (text : List ℕ) (s : Stream) : Type 0 where
  unread : slots ≡ [] → GoesOn slots most text s
  stands : (gap : List Filler) → 0 < length slots → AreFillers gap → length (gap_text gap) ≤ most → s.bytes ≡ gap_text gap ++ text → GoesOn slots most text s

pub goes_on : (slots : List Slot) (most : ℕ) (text : List ℕ) (s : Stream) (gap : List Filler) → AreFillers gap → length (gap_text gap) ≤ most → s.bytes ≡ gap_text gap ++ text → GoesOn slots most text s
goes_on [] most text s gap are short is = unread refl
goes_on (slot ∷ slots) most text s gap are short is = stands gap (omega arith) are short is

-- what the next reply is, and what is left behind it
pub record IsRead (plan : Plan) (y : List Value) (after : List ℕ) (s : Stream) : Type 0 where
  pub left : Stream
  pub is : controller_reply (replaying plan) s ≡ whole y left
  pub next : GoesOn (traced_slots plan.scene) half_longest after left

-- a step is read as its inputs
pub step_read : StepReadsBack → (plan : Plan) (k most : ℕ) (x y : List Value) (locals : List (Option Value)) (after : List ℕ) (s : Stream) → IsTraceable plan.scene → k < 2 ^ 64 → Shows plan.scene x locals
    → HoldAll (input_slots plan.scene) y → length (traced_step plan k x y locals) ≤ half_longest → most + length (traced_step plan k x y locals) ≤ longest
    → GoesOn (traced_slots plan.scene) most (traced_step plan k x y locals ++ after) s → IsRead plan y after s
step_read law plan k most x y locals after s can small shows holds half short (unread none) = record {
  left = s;
  is =
      ap (λ (slots : List Slot). reply_of plan.scene.decimals slots s) none
      ∙ ap (λ (vs : List Value). whole vs s) (sym (none_held plan.scene.outputs plan.scene.inputs y none holds));
  next = unread none;
}
step_read law plan k most x y locals after s can small shows holds half short (stands gap some are least bytes) =
    let outs = map passed_slot plan.scene.outputs in
    let ins = input_slots plan.scene in
    let step : WrittenStep = record { number = k; outputs = x; inputs = y; locals = where_written plan.writes_locals locals } in
    let kinds = kinds_of plan.scene.locals in
    let text = text_of_step plan.scene.decimals outs ins kinds step in
    let same : length (traced_step plan k x y locals) ≡ length text = ap (λ (t : List ℕ). length t) (traced_is plan k x y locals) in
    let read = law plan.scene.decimals s.place outs ins step kinds gap after s.is_closed can.decimals some
    (record { number = small; outputs = shows.holds; inputs = holds; locals = written_sized plan.writes_locals locals shows.sized }) are
    (omega (arith, length-append (gap_text gap) text, same, least, short)) in
    let little = read.3 in
    let all : s.bytes ≡ (gap_text gap ++ text) ++ after =
    bytes
    ∙ ap (λ (t : List ℕ). gap_text gap ++ (t ++ after)) (traced_is plan k x y locals)
    ∙ sym (append_assoc (gap_text gap) text after) in
    let left : Stream = record { place = s.place + read.0; bytes = gap_text read.1 ++ after; is_closed = s.is_closed } in
    record {
      left = left;
      is =
          ap (λ (bs : List ℕ). reply_of plan.scene.decimals (outs ++ ins) (record { place = s.place; bytes = bs; is_closed = s.is_closed })) all
          ∙ read.4
          ∙ ap (λ (vs : List Value). whole vs left) (kept_is plan.scene.outputs plan.scene.inputs x y shows.holds holds);
      next = stands read.1 some read.2 (omega (arith, little, same, half)) refl;
    }
