use Rattle.std.proofs.Common.{ℕ, ◌^◌, ◌<◌, ◌∙◌, sym, subst, arith, mod-lt}
use Rattle.rand_pcg.specs.Lcg.{increment_of}
use Rattle.lt_draw.proofs.JumpLemmas.{arrived, one_jump, row_within, places_above}
use Rattle.lt_draw.proofs.jumps.moved_on.Goals as goal

pub overflow_mul-row : goal.overflow_mul-row
overflow_mul-row c = omega (arith, row_within c.digits.rest c.digits.place c.digits-test.true c.digits.invariant.few)

pub overflow_add-row : goal.overflow_add-row
overflow_add-row c = omega (arith, row_within c.digits.rest c.digits.place c.digits-test.true c.digits.invariant.few)

pub offset_bounds-row : goal.offset_bounds-row
offset_bounds-row c = omega (arith, row_within c.digits.rest c.digits.place c.digits-test.true c.digits.invariant.few)

pub bounds-row : goal.bounds-row
bounds-row c = omega (arith, row_within c.digits.rest c.digits.place c.digits-test.true c.digits.invariant.few)

pub overflow_add-place : goal.overflow_add-place
overflow_add-place c = omega (arith, row_within c.digits.rest c.digits.place c.digits-test.true c.digits.invariant.few)

pub digits-preserved : goal.digits-preserved
digits-preserved c =
    let rest : ℕ = c.digits.rest in
    let place : ℕ = c.digits.place in
    let known = c.digits.invariant in
    record {
      few = omega (arith, known.few, places_above rest place);
      state = subst (λ (x : ℕ). x < 2 ^ 128) (sym c.state_after-state.ensures) (mod-lt _ (omega arith));
      leads = one_jump (increment_of 128 c.stream-stream.result) c.digits.state rest place c.state_after-state.result _
          (row_within rest place c.digits-test.true known.few) known.state c.state_after-state.ensures
          ∙ known.leads;
    }

pub returns : goal.returns
returns c =
    arrived c.args.generator.now c.from_state.result c.args.words c.digits.rest c.digits.place c.digits.state c.stream-stream.result
    c.requires.stream c.stream-stream.ensures (omega (arith, c.digits-test.false)) c.digits.invariant.leads c.from_state.ensures
