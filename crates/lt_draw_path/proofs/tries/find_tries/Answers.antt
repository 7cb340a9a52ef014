use Rattle.std.proofs.Common.{◌+◌, ◌*◌, ◌∷◌, [], ◌≡◌, ◌<◌, All, length, sum, ap, sym, ◌∙◌, subst, arith, length-set, length-append}
use Rattle.std.proofs.lemmas.List.Elements.{All-append}
use Rattle.lt_draw.specs.Word.{word_at}
use Rattle.lt_draw_path.proofs.Stacks.{one_below, picks-none, places-none, tried_more}
use Rattle.lt_draw_path.proofs.tries.find_tries.Goals as goal

pub loop-weights-preserved : goal.loop-weights-preserved
loop-weights-preserved c =
    let n = length c.loop-weights.places.items in
    let k = c.pick-place.result in
    let some : 0 < sum c.loop-weights.weights = omega (arith, c.sum_of.ensures, c.if-sum_of-gt0.true) in
    let count : length c.push_reserved.new.self.items ≡ n + 1 = ap length c.push_reserved.ensures.items ∙ length-append c.loop-weights.places.items (k ∷ []) in
    let left : n < length c.args.weights.now = omega (arith, c.loop-weights-test.true, c.len.ensures, c.loop-weights.invariant.len, c.loop-weights.places.ok.0) in
    let slot : 64 * c.args.position + n + 1 ≡ 64 * c.args.position + length c.push_reserved.new.self.items = omega (arith, count) in
    let below : k < length c.args.weights.now = omega (arith, c.pick-place.ensures.within, c.loop-weights.invariant.len) in
    record {
      len = length-set c.loop-weights.weights k 0 ∙ c.loop-weights.invariant.len;
      count = omega (arith, count, left);
      within = subst (All (λ j. j < length c.args.weights.now)) (sym c.push_reserved.ensures.items)
          (All-append (λ j. j < length c.args.weights.now) c.loop-weights.places.items (k ∷ []) c.loop-weights.invariant.within (one_below k _ below));
      room = c.push_reserved.ensures.capacity ∙ c.loop-weights.invariant.room;
      drawn = c.next_word.ensures.next ∙ (λ i. record (c.loop-weights.invariant.drawn i) { slot = (c.loop-weights.invariant.drawn i).slot + 1 }) ∙ (λ i. record { seed = c.args.words.now.seed; step = c.args.words.now.step; slot = slot i });
      finds = tried_more (word_at c.args.words.now.seed c.args.words.now.step) c.args.position _ k _ c.loop-weights.weights c.loop-weights.places.items _ _ left some c.pick-place.ensures.place
          (c.next_word.ensures.word ∙ ap (λ d. word_at d.seed d.step d.slot) c.loop-weights.invariant.drawn) c.loop-weights.invariant.finds c.push_reserved.ensures.items;
    }

pub returns-else-sum_of-gt0-clause-finds : goal.returns-else-sum_of-gt0-clause-finds
returns-else-sum_of-gt0-clause-finds c =
    let none : sum c.loop-weights.weights ≡ 0 = omega (arith, c.sum_of.ensures, c.if-sum_of-gt0.false) in
    places-none _ _ _ c.loop-weights.invariant.finds
    (picks-none (word_at c.args.words.now.seed c.args.words.now.step) c.args.position _ _ c.loop-weights.weights none)
