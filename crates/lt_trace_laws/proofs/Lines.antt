-- Lines of values: they are read as these values, and a step shows them.
use Rattle.std.proofs.Common.{◌≡◌, ◌+◌, ◌^◌, ◌<◌, ◌≤◌, ℕ, suc, Bool, true, false, List, [], ◌∷◌, ◌++◌, length, map, Option, refl, ap, sym, subst, ◌∙◌, arith, append_assoc, append-nil, length-append}
use Rattle.std.proofs.lemmas.List.{length-map}
use Rattle.lt_num.specs.Bounds.{most_decimals}
use Rattle.lt_num.specs.declared.kind.Kind.{Kind}
use Rattle.lt_num.specs.declared.value.Value.{Value}
use Rattle.lt_num.specs.declared.value.Value.TheVariants as value
use Rattle.lt_rif.specs.Enough.{RoomIsEnough}
use Rattle.lt_rif.specs.ReadBack as written
use Rattle.lt_rif.specs.ReadBack.{HoldAll, IsStep, StepReadsBack, WrittenStep, text_of_step, values_of_step}
use Rattle.lt_rif.specs.Reply.{Reply, Stream, whole, longest, reply_of}
use Rattle.lt_rif.specs.Spelling.{Field, SpellingIsRead, Writes, fields_text, kept}
use Rattle.lt_rif.specs.Trace.{bool_text, line, line_text, spaced, step_text, value_words}
use Rattle.lt_rif.specs.declared.slot.Slot.{Slot}
use Rattle.lt_loop.specs.Plan.{Plan, reply_slots, traced_step, where_written}
use Rattle.lt_loop.specs.Scene.{Scene, Variable, input_slots, kinds_of, passed_slot, slot_of, traced_slots, verdict_slots}
use Rattle.lt_loop.specs.declared.setup.Talk.{Talk}
use Rattle.lt_loop.specs.declared.setup.Talk.TheVariants as talk
use Rattle.lt_trace_laws.specs.Replay.{IsTraceable, Shows, values_of, whole_text}
use Rattle.lt_trace_laws.specs.Shown.{any_slot, reply_kinds, shown_values}
use Rattle.lt_trace_laws.proofs.Shown.{inputs_kept, kept_is, passed_kinds, slot_kinds, step_short, traced_is, values_sized, written_sized}
use Rattle.lt_trace_laws.proofs.Words.{value_word}

-- ---- lines as fields

-- with a space between two, and a line feed after the last
abbrev line_fields : List (List ℕ) → List Field
line_fields [] = []
line_fields (w ∷ []) = record { gap = []; word = w; blank = 10 } ∷ []
line_fields (w ∷ v ∷ words) = record { gap = []; word = w; blank = 32 } ∷ line_fields (v ∷ words)

line_is : (w : List ℕ) (words : List (List ℕ)) → line (spaced (w ∷ words)) ≡ fields_text (line_fields (w ∷ words))
line_is w [] = ap line (append-nil w) ∙ sym (append-nil (line w))
line_is w (v ∷ words) =
    append_assoc w (32 ∷ spaced (v ∷ words)) (10 ∷ [])
    ∙ ap (λ (t : List ℕ). w ++ 32 ∷ t) (line_is v words)
    ∙ sym (append_assoc w (32 ∷ []) (fields_text (line_fields (v ∷ words))))

module _ (reads : StepReadsBack) (rooms : RoomIsEnough) where
  line_writes : (decimals : ℕ) (slots : List Slot) (values : List Value) → decimals ≤ most_decimals → HoldAll slots values
      → Writes decimals slots (line_fields (value_words decimals (written.kinds_of slots) values)) values
  line_writes decimals [] [] few holds = tt
  line_writes decimals [] (v ∷ values) few holds = absurd holds
  line_writes decimals (slot ∷ slots) [] few holds = absurd holds
  line_writes decimals (slot ∷ []) (v ∷ []) few holds =
      let w = value_word reads rooms decimals slot v few holds.0 in
      (record { gap = tt; word = w.blank; class = w.class; blank = refl }, w.judged, tt)
  line_writes decimals (slot ∷ []) (v ∷ u ∷ values) few holds = absurd holds.1
  line_writes decimals (slot ∷ next ∷ slots) (v ∷ []) few holds = absurd holds.1
  line_writes decimals (slot ∷ next ∷ slots) (v ∷ u ∷ values) few holds =
      let w = value_word reads rooms decimals slot v few holds.0 in
      (record { gap = tt; word = w.blank; class = w.class; blank = refl }, w.judged, line_writes decimals (next ∷ slots) (u ∷ values) few holds.1)

-- ---- streams of lines

-- What is read by some slots has this text, and more may come after it. A reply of no slots reads nothing.
abbrev pub IsAt : List Slot → List ℕ → Stream → Type 0
IsAt slots text s = (0 < length slots → s.bytes ≡ text) × (s.is_closed ≡ false)

-- what the next reply is, and what is left behind it
pub record IsLineRead (decimals : ℕ) (slots : List Slot) (values : List Value) (rest : List ℕ) (s : Stream) : Type 0 where
  pub left : Stream
  pub is : reply_of decimals slots s ≡ whole values left
  pub next : IsAt slots rest left

pub line_read : StepReadsBack → SpellingIsRead → RoomIsEnough → (decimals : ℕ) (slots : List Slot) (values : List Value) (rest : List ℕ) (s : Stream) → decimals ≤ most_decimals → length values ≤ 1_000 → HoldAll slots values
    → IsAt slots (line_text decimals (written.kinds_of slots) values ++ rest) s → IsLineRead decimals slots (kept slots values) rest s
line_read reads spelling rooms decimals [] values rest s few short holds at = record { left = s; is = refl; next = (λ some. absurd (omega (arith, some)), at.1) }
line_read reads spelling rooms decimals (slot ∷ slots) [] rest s few short holds at = absurd holds
line_read reads spelling rooms decimals (slot ∷ slots) (v ∷ values) rest s few short holds at =
    let words = value_words decimals (written.kinds_of (slot ∷ slots)) (v ∷ values) in
    let fields = line_fields words in
    let text = line_text decimals (written.kinds_of (slot ∷ slots)) (v ∷ values) in
    let is_text : text ≡ fields_text fields = line_is _ _ in
    let fits = rooms.1 decimals (written.kinds_of (slot ∷ slots)) (v ∷ values) few (values_sized (slot ∷ slots) (v ∷ values) holds) in
    let count : length text ≡ length (fields_text fields) = ap (λ (t : List ℕ). length t) is_text in
    let bytes : s.bytes ≡ fields_text fields ++ rest = at.0 (omega arith) ∙ ap (λ (t : List ℕ). t ++ rest) is_text in
    let left : Stream = record { place = s.place + length (fields_text fields); bytes = rest; is_closed = s.is_closed } in
    record {
      left = left;
      is =
          ap (λ (bs : List ℕ). reply_of decimals (slot ∷ slots) (record { place = s.place; bytes = bs; is_closed = s.is_closed })) bytes
          ∙ spelling decimals s.place (slot ∷ slots) fields (v ∷ values) rest s.is_closed (line_writes reads rooms decimals (slot ∷ slots) (v ∷ values) few holds) (omega (arith, fits, count, short));
      next = (λ some. refl, at.1);
    }

-- ---- verdicts

verdict_holds : (b : Bool) → HoldAll verdict_slots (value.Bool b ∷ [])
verdict_holds true = (record { kind = refl; bound = omega arith; range = refl }, tt)
verdict_holds false = (record { kind = refl; bound = omega arith; range = refl }, tt)

verdict_line : (decimals : ℕ) (b : Bool) → line (bool_text b) ≡ line_text decimals (written.kinds_of verdict_slots) (value.Bool b ∷ [])
verdict_line decimals true = refl
verdict_line decimals false = refl

pub verdict_read : StepReadsBack → SpellingIsRead → RoomIsEnough → (decimals : ℕ) (b : Bool) (rest : List ℕ) (s : Stream) → decimals ≤ most_decimals → s.bytes ≡ line (bool_text b) ++ rest → s.is_closed ≡ false
    → IsLineRead decimals verdict_slots (value.Bool b ∷ []) rest s
verdict_read reads spelling rooms decimals b rest s few bytes is_open =
    line_read reads spelling rooms decimals verdict_slots (value.Bool b ∷ []) rest s few (omega arith) (verdict_holds b)
    (λ some. bytes ∙ ap (λ (t : List ℕ). t ++ rest) (verdict_line decimals b), is_open)

-- ---- values of a step

-- the values of the reply to a step
abbrev pub reply_values : Talk → List Value → List Value → List Value
reply_values talk.Replay x y = x ++ y
reply_values _ x y = y

values_read : StepReadsBack → (decimals : ℕ) (outs ins : List Slot) (step : WrittenStep) (kinds : List Kind) (after : List ℕ) → decimals ≤ most_decimals → IsStep outs ins step
    → length (text_of_step decimals outs ins kinds step) ≤ longest
    → values_of (reply_of decimals (outs ++ ins) (whole_text (text_of_step decimals outs ins kinds step ++ after))) ≡ values_of_step outs ins step
values_read reads decimals [] [] step kinds after few is short = refl
values_read reads decimals [] (i ∷ ins) step kinds after few is short =
    ap (λ (r : Reply). values_of r) (reads decimals 0 [] (i ∷ ins) step kinds [] after true few (omega arith) is tt short).4
values_read reads decimals (o ∷ outs) ins step kinds after few is short =
    ap (λ (r : Reply). values_of r) (reads decimals 0 (o ∷ outs) ins step kinds [] after true few (omega arith) is tt short).4

any_kinds : (vs : List Variable) → written.kinds_of (map any_slot vs) ≡ kinds_of vs
any_kinds [] = refl
any_kinds (v ∷ vs) = ap (λ (ks : List Kind). v.kind ∷ ks) (any_kinds vs)

any_held : (vs : List Variable) (xs : List Value) → HoldAll (map passed_slot vs) xs → HoldAll (map any_slot vs) xs
any_held [] [] h = tt
any_held [] (x ∷ xs) h = absurd h
any_held (v ∷ vs) [] h = absurd h
any_held (v ∷ vs) (x ∷ xs) h = let first = h.0 in (record { kind = first.kind; bound = first.bound; range = first.range }, any_held vs xs h.1)

any_kept : (vs : List Variable) (xs : List Value) → HoldAll (map any_slot vs) xs → kept (map any_slot vs) xs ≡ xs
any_kept [] [] h = refl
any_kept [] (x ∷ xs) h = absurd h
any_kept (v ∷ vs) [] h = absurd h
any_kept (v ∷ vs) (x ∷ xs) h = ap (λ (ys : List Value). x ∷ ys) (any_kept vs xs h.1)

any_traced : (plan : Plan) (k : ℕ) (x y : List Value) (locals : List (Option Value))
    → traced_step plan k x y locals
    ≡ text_of_step plan.scene.decimals (map any_slot plan.scene.outputs) (input_slots plan.scene) (kinds_of plan.scene.locals)
    (record { number = k; outputs = x; inputs = y; locals = where_written plan.writes_locals locals })
unfolding traced_step
any_traced plan k x y locals =
    λ i.
    step_text plan.scene.decimals k ((sym (any_kinds plan.scene.outputs) i ++ sym (slot_kinds plan.scene.inputs) i) ++ kinds_of plan.scene.locals) x y (where_written plan.writes_locals locals)

module _ (reads : StepReadsBack) (rooms : RoomIsEnough) (plan : Plan) (k : ℕ) (x y : List Value) (locals : List (Option Value)) (after : List ℕ) (can : IsTraceable plan.scene) (small : k < 2 ^ 64)
    (shows : Shows plan.scene x locals) (holds : HoldAll (input_slots plan.scene) y) where
  abbrev step : WrittenStep
  step = record { number = k; outputs = x; inputs = y; locals = where_written plan.writes_locals locals }

  fits : length (traced_step plan k x y locals) ≤ 32_256
  fits = step_short rooms plan k x y locals can small (values_sized (map passed_slot plan.scene.outputs) x shows.holds) (values_sized (input_slots plan.scene) y holds) shows.sized

  -- a controller gives the inputs
  inputs_shown : values_of (reply_of plan.scene.decimals (traced_slots plan.scene) (whole_text (traced_step plan k x y locals ++ after))) ≡ y
  inputs_shown =
      let outs = map passed_slot plan.scene.outputs in
      let is = traced_is plan k x y locals in
      let same : length (traced_step plan k x y locals) ≡ length (text_of_step plan.scene.decimals outs (input_slots plan.scene) (kinds_of plan.scene.locals) step) = ap (λ (t : List ℕ). length t) is in
      let short = fits in
      ap (λ (t : List ℕ). values_of (reply_of plan.scene.decimals (traced_slots plan.scene) (whole_text (t ++ after)))) is
      ∙ values_read reads plan.scene.decimals outs (input_slots plan.scene) step (kinds_of plan.scene.locals) after can.decimals
      (record { number = small; outputs = shows.holds; inputs = holds; locals = written_sized plan.writes_locals locals shows.sized }) (omega (arith, same, short))
      ∙ kept_is plan.scene.outputs plan.scene.inputs x y shows.holds holds

  -- an earlier trace shows all
  all_shown : values_of (reply_of plan.scene.decimals (map any_slot plan.scene.outputs ++ input_slots plan.scene) (whole_text (traced_step plan k x y locals ++ after))) ≡ x ++ y
  all_shown =
      let outs = map any_slot plan.scene.outputs in
      let held = any_held plan.scene.outputs x shows.holds in
      let is = any_traced plan k x y locals in
      let same : length (traced_step plan k x y locals) ≡ length (text_of_step plan.scene.decimals outs (input_slots plan.scene) (kinds_of plan.scene.locals) step) = ap (λ (t : List ℕ). length t) is in
      let short = fits in
      ap (λ (t : List ℕ). values_of (reply_of plan.scene.decimals (outs ++ input_slots plan.scene) (whole_text (t ++ after)))) is
      ∙ values_read reads plan.scene.decimals outs (input_slots plan.scene) step (kinds_of plan.scene.locals) after can.decimals
      (record { number = small; outputs = held; inputs = holds; locals = written_sized plan.writes_locals locals shows.sized }) (omega (arith, same, short))
      ∙ ap (λ (vs : List Value). vs ++ kept (input_slots plan.scene) y) (any_kept plan.scene.outputs x held)
      ∙ ap (λ (vs : List Value). x ++ vs) (inputs_kept plan.scene.inputs y holds)

  pub step_shows : (t : Talk) → shown_values t plan (traced_step plan k x y locals ++ after) ≡ reply_values t x y
  step_shows talk.Nobody = inputs_shown
  step_shows talk.Live = inputs_shown
  step_shows talk.Replay = all_shown

-- ---- a reply line

hold_both : (first slots : List Slot) (xs ys : List Value) → HoldAll first xs → HoldAll slots ys → HoldAll (first ++ slots) (xs ++ ys)
hold_both [] slots [] ys h k = k
hold_both [] slots (x ∷ xs) ys h k = absurd h
hold_both (s ∷ first) slots [] ys h k = absurd h
hold_both (s ∷ first) slots (x ∷ xs) ys h k = (h.0, hold_both first slots xs ys h.1 k)

passed_kept : (vs : List Variable) (slots : List Slot) (xs ys : List Value) → HoldAll (map passed_slot vs) xs → kept (map passed_slot vs ++ slots) (xs ++ ys) ≡ kept slots ys
passed_kept [] slots [] ys h = refl
passed_kept [] slots (x ∷ xs) ys h = absurd h
passed_kept (v ∷ vs) slots [] ys h = absurd h
passed_kept (v ∷ vs) slots (x ∷ xs) ys h = passed_kept vs slots xs ys h.1

kinds_both : (first slots : List Slot) → written.kinds_of (first ++ slots) ≡ written.kinds_of first ++ written.kinds_of slots
kinds_both [] slots = refl
kinds_both (s ∷ first) slots = ap (λ (ks : List Kind). s.kind ∷ ks) (kinds_both first slots)

held_count : (slots : List Slot) (vs : List Value) → HoldAll slots vs → length vs ≡ length slots
held_count [] [] h = refl
held_count [] (v ∷ vs) h = absurd h
held_count (s ∷ slots) [] h = absurd h
held_count (s ∷ slots) (v ∷ vs) h = ap (λ (n : ℕ). suc n) (held_count slots vs h.1)

slots_kinds : (t : Talk) (s : Scene) → written.kinds_of (reply_slots t s) ≡ reply_kinds t s
slots_kinds talk.Nobody s = slot_kinds s.inputs
slots_kinds talk.Live s = slot_kinds s.inputs
slots_kinds talk.Replay s =
    kinds_both (map passed_slot s.outputs) (input_slots s)
    ∙ ap (λ (ks : List Kind). ks ++ written.kinds_of (input_slots s)) (passed_kinds s.outputs)
    ∙ ap (λ (ks : List Kind). kinds_of s.outputs ++ ks) (slot_kinds s.inputs)

module _ (s : Scene) (x y : List Value) (few : length s.outputs + length s.inputs + length s.locals ≤ 1_000) (outs : HoldAll (map passed_slot s.outputs) x) (ins : HoldAll (input_slots s) y) where
  reply_held : (t : Talk) → HoldAll (reply_slots t s) (reply_values t x y)
  reply_held talk.Nobody = ins
  reply_held talk.Live = ins
  reply_held talk.Replay = hold_both (map passed_slot s.outputs) (input_slots s) x y outs ins

  reply_kept : (t : Talk) → kept (reply_slots t s) (reply_values t x y) ≡ y
  reply_kept talk.Nobody = inputs_kept s.inputs y ins
  reply_kept talk.Live = inputs_kept s.inputs y ins
  reply_kept talk.Replay = passed_kept s.outputs (input_slots s) x y outs ∙ inputs_kept s.inputs y ins

  few_inputs : length y ≤ 1_000
  few_inputs = omega (arith, few, held_count (input_slots s) y ins, length-map s.inputs slot_of)

  reply_few : (t : Talk) → length (reply_values t x y) ≤ 1_000
  reply_few talk.Nobody = few_inputs
  reply_few talk.Live = few_inputs
  reply_few talk.Replay =
      omega (arith, few, length-append x y, held_count (map passed_slot s.outputs) x outs, length-map s.outputs passed_slot, held_count (input_slots s) y ins, length-map s.inputs slot_of)

-- the line of a reply is read as the inputs
pub reply_read : StepReadsBack → SpellingIsRead → RoomIsEnough → (t : Talk) (scene : Scene) (x y : List Value) (rest : List ℕ) (s : Stream) → IsTraceable scene → HoldAll (map passed_slot scene.outputs) x
    → HoldAll (input_slots scene) y → IsAt (reply_slots t scene) (line_text scene.decimals (reply_kinds t scene) (reply_values t x y) ++ rest) s → IsLineRead scene.decimals (reply_slots t scene) y rest s
reply_read reads spelling rooms t scene x y rest s can outs ins at =
    let few = can.few in
    subst (λ (vs : List Value). IsLineRead scene.decimals (reply_slots t scene) vs rest s) (reply_kept scene x y few outs ins t)
    (line_read reads spelling rooms scene.decimals (reply_slots t scene) (reply_values t x y) rest s can.decimals (reply_few scene x y few outs ins t) (reply_held scene x y few outs ins t)
    (λ some. at.0 some ∙ ap (λ (ks : List Kind). line_text scene.decimals ks (reply_values t x y) ++ rest) (sym (slots_kinds t scene)), at.1))
