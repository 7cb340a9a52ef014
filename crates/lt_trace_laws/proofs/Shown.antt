-- Values of steps that can be written, and read back.
use Rattle.std.proofs.Common.{◌≡◌, ◌+◌, ◌^◌, ◌<◌, ◌≤◌, ℕ, Bool, true, false, ◌&&◌, List, [], ◌∷◌, ◌++◌, length, map, Option, unwrap_or, refl, ap, sym, ◌∙◌, arith, length-append}
use Rattle.std.proofs.lemmas.Bool.Decides.{nat_tests}
use Rattle.std.proofs.lemmas.List.{length-map}
use Rattle.lt_num.specs.Value.{raw_of, value_of}
use Rattle.lt_num.specs.declared.kind.Kind.{Kind}
use Rattle.lt_num.specs.declared.kind.Kind.TheVariants as kind
use Rattle.lt_num.specs.declared.value.Value.{Value}
use Rattle.lt_num.specs.declared.value.Value.TheVariants as value
use Rattle.lt_rif.specs.Enough.{AreSized, AreLocalsSized, IsSized, RoomIsEnough}
use Rattle.lt_rif.specs.ReadBack as written
use Rattle.lt_rif.specs.ReadBack.{HoldAll, Holds, text_of_step}
use Rattle.lt_rif.specs.Spelling.{kept}
use Rattle.lt_rif.specs.Trace.{step_text}
use Rattle.lt_rif.specs.declared.end.End.TheVariants as end
use Rattle.lt_rif.specs.declared.slot.Slot.{Slot}
use Rattle.lt_loop.specs.Plan.{Plan, all_kinds, traced_step, where_written}
use Rattle.lt_loop.specs.Scene.{Scene, Variable, fit, input_slots, is_of_kind, kinds_of, may_hold, passed_slot, slot_of}
use Rattle.lt_trace_laws.specs.Replay.{IsTraceable}

-- ---- values that fit

pub both : (a b : Bool) → (a && b) ≡ true → (a ≡ true) × (b ≡ true)
both true b h = (refl, h)
both false b h = absurd (cc)

of_kind : (k : Kind) (v : Value) → is_of_kind k v ≡ true → value_of k (raw_of v) ≡ v
of_kind kind.Bool (value.Bool true) h = refl
of_kind kind.Bool (value.Bool false) h = refl
of_kind kind.Bool (value.Num raw) h = absurd (cc)
of_kind kind.Int (value.Bool b) h = absurd (cc)
of_kind kind.Int (value.Num raw) h = refl
of_kind kind.Real (value.Bool b) h = absurd (cc)
of_kind kind.Real (value.Num raw) h = refl

held : (slot : Slot) (v : Value) → may_hold slot v ≡ true → Holds slot v
unfolding may_hold
held slot v h =
    let outer = both _ _ h in
    let inner = both _ _ outer.0 in
    record { kind = of_kind slot.kind v inner.0; bound = grind (inner.1, arith, nat_tests); range = outer.1 }

-- the inputs of a scenario
pub inputs_held : (vs : List Variable) (ys : List Value) → fit (map slot_of vs) ys ≡ true → HoldAll (map slot_of vs) ys
unfolding fit
inputs_held [] [] h = tt
inputs_held [] (y ∷ ys) h = absurd (cc)
inputs_held (v ∷ vs) [] h = absurd (cc)
inputs_held (v ∷ vs) (y ∷ ys) h = let two = both _ _ h in (held (slot_of v) y two.0, inputs_held vs ys two.1)

-- what a trace shows of them, after outputs that are passed
pub inputs_fit : (outs : List Variable) (slots : List Slot) (ys : List Value) → fit (map passed_slot outs ++ slots) ys ≡ true → fit slots ys ≡ true
unfolding fit
inputs_fit [] slots ys h = h
inputs_fit (v ∷ outs) slots ys h = inputs_fit outs slots ys h

-- ---- values that are kept

outputs_passed : (outs : List Variable) (xs : List Value) → HoldAll (map passed_slot outs) xs → kept (map passed_slot outs) xs ≡ []
outputs_passed [] xs h = refl
outputs_passed (v ∷ outs) [] h = refl
outputs_passed (v ∷ outs) (x ∷ xs) h = outputs_passed outs xs h.1

pub inputs_kept : (ins : List Variable) (ys : List Value) → HoldAll (map slot_of ins) ys → kept (map slot_of ins) ys ≡ ys
inputs_kept [] [] h = refl
inputs_kept [] (y ∷ ys) h = absurd h
inputs_kept (v ∷ ins) [] h = refl
inputs_kept (v ∷ ins) (y ∷ ys) h = ap (λ (vs : List Value). y ∷ vs) (inputs_kept ins ys h.1)

pub kept_is : (outs ins : List Variable) (xs ys : List Value) → HoldAll (map passed_slot outs) xs → HoldAll (map slot_of ins) ys → kept (map passed_slot outs) xs ++ kept (map slot_of ins) ys ≡ ys
kept_is outs ins xs ys h k = ap (λ (vs : List Value). vs ++ kept (map slot_of ins) ys) (outputs_passed outs xs h) ∙ inputs_kept ins ys k

-- a step of no variables has no inputs
pub none_held : (outs ins : List Variable) (ys : List Value) → map passed_slot outs ++ map slot_of ins ≡ [] → HoldAll (map slot_of ins) ys → ys ≡ []
none_held [] [] [] is h = refl
none_held [] [] (y ∷ ys) is h = absurd h
none_held [] (v ∷ ins) ys is h = absurd (cc is)
none_held (v ∷ outs) ins ys is h = absurd (cc is)

-- ---- sizes

value_sized : (slot : Slot) (v : Value) → Holds slot v → IsSized v
value_sized slot (value.Bool b) h = tt
value_sized slot (value.Num raw) h = let small = h.bound in omega (arith, small)

pub values_sized : (slots : List Slot) (vs : List Value) → HoldAll slots vs → AreSized vs
values_sized [] [] h = tt
values_sized [] (v ∷ vs) h = absurd h
values_sized (slot ∷ slots) [] h = absurd h
values_sized (slot ∷ slots) (v ∷ vs) h = (value_sized slot v h.0, values_sized slots vs h.1)

pub written_sized : (writes_locals : Bool) (locals : List (Option Value)) → AreLocalsSized locals → AreLocalsSized (unwrap_or (where_written writes_locals locals) [])
written_sized true locals sized = sized
written_sized false locals sized = tt

-- ---- the text of a step

pub passed_kinds : (vs : List Variable) → written.kinds_of (map passed_slot vs) ≡ kinds_of vs
passed_kinds [] = refl
passed_kinds (v ∷ vs) = ap (λ (ks : List Kind). v.kind ∷ ks) (passed_kinds vs)

pub slot_kinds : (vs : List Variable) → written.kinds_of (map slot_of vs) ≡ kinds_of vs
slot_kinds [] = refl
slot_kinds (v ∷ vs) = ap (λ (ks : List Kind). v.kind ∷ ks) (slot_kinds vs)

pub traced_is : (plan : Plan) (k : ℕ) (x y : List Value) (locals : List (Option Value))
    → traced_step plan k x y locals
    ≡ text_of_step plan.scene.decimals (map passed_slot plan.scene.outputs) (input_slots plan.scene) (kinds_of plan.scene.locals)
    (record { number = k; outputs = x; inputs = y; locals = where_written plan.writes_locals locals })
unfolding traced_step
traced_is plan k x y locals =
    λ i.
    step_text plan.scene.decimals k ((sym (passed_kinds plan.scene.outputs) i ++ sym (slot_kinds plan.scene.inputs) i) ++ kinds_of plan.scene.locals) x y (where_written plan.writes_locals locals)

kinds_count : (s : Scene) → length (all_kinds s) ≡ length s.outputs + length s.inputs + length s.locals
kinds_count s =
    omega (
      arith,
      length-append (map (λ (v : Variable). v.kind) s.outputs ++ map (λ (v : Variable). v.kind) s.inputs) (map (λ (v : Variable). v.kind) s.locals),
      length-append (map (λ (v : Variable). v.kind) s.outputs) (map (λ (v : Variable). v.kind) s.inputs),
      length-map s.outputs (λ (v : Variable). v.kind),
      length-map s.inputs (λ (v : Variable). v.kind),
      length-map s.locals (λ (v : Variable). v.kind),
    )

-- two of them have room in a reply
pub step_short : RoomIsEnough → (plan : Plan) (k : ℕ) (x y : List Value) (locals : List (Option Value)) → IsTraceable plan.scene → k < 2 ^ 64 → AreSized x → AreSized y → AreLocalsSized locals
    → length (traced_step plan k x y locals) ≤ 32_256
unfolding traced_step
step_short law plan k x y locals can small sized_x sized_y sized =
    let fits = law.2 plan.scene.decimals k k (all_kinds plan.scene) x y (where_written plan.writes_locals locals) end.Normal [] can.decimals small small sized_x sized_y (written_sized plan.writes_locals locals sized) tt in
    let count = kinds_count plan.scene in
    let few = can.few in
    omega (arith, fits, count, few)
