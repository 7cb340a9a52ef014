use Rattle.std.proofs.Common.{◌≡◌, ◌+◌, ◌-◌, ◌≤◌, None, length, take, drop, Vec, Global, ap, ◌∙◌, sym, refl, arith, length-drop}
use Rattle.std.proofs.lemmas.List.{take_all}
use Rattle.std.proofs.lemmas.Bool.{eqb-true, eqb-false}
use Rattle.lt_rif.specs.Reading.{reading}
use Rattle.lt_rif.specs.declared.slot.Slot.{Slot}
use Rattle.lt_rif.proofs.ReadingLemmas.{no_refusal, refused_fed, none_fed, whole_fed, malformed_fed, same_after, more_fed, chunk_prefix, chunk_length}
use Rattle.lt_rif.proofs.reader.Reader.feed.Goals as goal

pub returns-in-Some-clause-tells : goal.returns-in-Some-clause-tells
returns-in-Some-clause-tells c = refused_fed (reading c.args.self.now) c.args.piece.now c.in-Some.refusal c.args.self.now.values.items c.in-Some.is

pub returns-then-is_empty-clause-tells : goal.returns-then-is_empty-clause-tells
returns-then-is_empty-clause-tells c =
    let open_now : c.args.self.now.refusal ≡ None = no_refusal c.args.self.now.refusal c.in_default.not-Some in
    let none = eqb-true _ _ (sym c.is_empty.ensures ∙ c.if-is_empty.true) in
    none_fed c.args.self.now.draft (reading c.args.self.now) _ c.args.piece.now c.skip_reply.new.self.values.items (omega arith) (rw open_now refl) c.skip_reply.ensures.values c.skip_reply.ensures.begins

pub take-requires-clause-chunk : goal.take-requires-clause-chunk
take-requires-clause-chunk c =
    let count : c.loop-used.used + c.length_of_chunk-chunk.result - c.loop-used.used ≡ c.length_of_chunk-chunk.result = omega arith in
    let whole : take (length c.args.piece.now - c.loop-used.used) (drop c.loop-used.used c.args.piece.now) ≡ drop c.loop-used.used c.args.piece.now =
    take_all _ _ (omega (arith, length-drop c.loop-used.used c.args.piece.now)) in
    rw count (rw whole at c.length_of_chunk-chunk.ensures.chunk)

pub returns-in-Whole-clause-tells : goal.returns-in-Whole-clause-tells
returns-in-Whole-clause-tells c =
    whole_fed c.loop-used.self.draft (reading c.args.self.now) (reading c.loop-used.self) (reading c.take.new.self) c.args.piece.now c.loop-used.used _ c.length_of_chunk-chunk.result c.in-Whole.field-0 _
    (omega arith) c.loop-used.invariant.same (chunk_prefix c.args.piece.now c.loop-used.used c.length_of_chunk-chunk.result)
    (ap (λ (v : Vec Slot Global). v.items) (sym c.loop-used.invariant.slots)) (sym c.loop-used.invariant.decimals) (rw c.loop-used.invariant.goes_on refl) (c.in-Whole.ensures.all c.in-Whole.field-0 refl) c.in-Whole.ensures.tells

pub returns-in-Malformed-clause-tells : goal.returns-in-Malformed-clause-tells
returns-in-Malformed-clause-tells c =
    malformed_fed c.loop-used.self.draft (reading c.args.self.now) (reading c.loop-used.self) (reading c.take.new.self) c.args.piece.now c.loop-used.used _ c.length_of_chunk-chunk.result c.in-Malformed.fault c.in-Malformed.place c.take.new.self.values.items
    c.loop-used.invariant.same (chunk_prefix c.args.piece.now c.loop-used.used c.length_of_chunk-chunk.result) (rw c.loop-used.invariant.goes_on refl) c.in-Malformed.ensures.tells

pub loop-used-preserved : goal.loop-used-preserved
loop-used-preserved c =
    let m = c.length_of_chunk-chunk.result in
    let within : c.loop-used.used + m ≤ length c.args.piece.now = omega arith in
    let count = chunk_length c.args.piece.now c.loop-used.used m within in
    let moves = c.in-More.ensures.moves in
    record {
      within = within;
      goes_on = c.in-More.ensures.goes_on refl;
      slots = c.in-More.ensures.slots ∙ c.loop-used.invariant.slots;
      decimals = c.in-More.ensures.decimals ∙ c.loop-used.invariant.decimals;
      place = moves.0 ∙ c.loop-used.invariant.place;
      taken = omega (arith, moves.1, c.loop-used.invariant.taken);
      values = c.in-More.ensures.keeps ∙ c.loop-used.invariant.values;
      same = same_after c.loop-used.self.draft (reading c.args.self.now) (reading c.loop-used.self) (reading c.take.new.self) c.args.piece.now c.loop-used.used _ m c.take.new.self.values.items
          c.loop-used.invariant.same (chunk_prefix c.args.piece.now c.loop-used.used m) (rw c.loop-used.invariant.goes_on refl) c.in-More.ensures.tells;
    }

pub returns-clause-tells : goal.returns-clause-tells
returns-clause-tells c =
    let some = eqb-false _ _ (sym c.is_empty.ensures ∙ c.if-is_empty.false) in
    let short = c.loop-used.self.is_short c.loop-used.invariant.goes_on in
    more_fed c.loop-used.self.draft (reading c.args.self.now) (reading c.loop-used.self) c.args.piece.now c.loop-used.used c.loop-used.self.values.items
    (omega arith) (omega (arith, some, ap (λ (v : Vec Slot Global). length v.items) c.loop-used.invariant.slots)) (omega arith) c.loop-used.invariant.same (rw c.loop-used.invariant.goes_on refl)
