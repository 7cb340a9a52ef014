use Rattle.std.proofs.Common.{◌≡◌, ◌<◌, ◌+◌, ◌⊎◌, inl, inr, ℕ, arith, map, sym, ap, ◌∙◌, string_bytes}
use Rattle.std.proofs.lemmas.List.{length-map}
use Rattle.lt_rif.specs.Trace.{line}
use Rattle.lt_rif.specs.declared.end.End.TheVariants as end
use Rattle.lt_trace.specs.End.{end_line}
use Rattle.lt_trace.proofs.ending.raise_in.Goals as goal

one-more : (z n : ℕ) → z < n + 1 → (z < n) ⊎ (z ≡ n)
one-more z n l = grind (arith, l)

pub returns-then-is_end : goal.returns-then-is_end
returns-then-is_end c =
    let less = c.loop-exception-test.true in
    let count = c.loop-exception.invariant.count in
    let all = length-map c.args.names.now string_bytes in
    (omega (arith, less, count, all), c.is_end.ensures.yes c.if-is_end.true, c.loop-exception.invariant.none)

pub loop-exception-preserved : goal.loop-exception-preserved
loop-exception-preserved c =
    let less = c.loop-exception-test.true in
    record {
      none = λ z l h. by_place z h (one-more z c.loop-exception.exception l);
      within = omega (arith, less);
      count = c.loop-exception.invariant.count;
    }
  where
    by_place : (z : ℕ) → line c.args.text.now ≡ end_line (end.Raise z) (map string_bytes c.args.names.now) c.args.steps → (z < c.loop-exception.exception) ⊎ (z ≡ c.loop-exception.exception) → ⊥
    by_place z h (inl l) = c.loop-exception.invariant.none z l h
    by_place z h (inr e) = absurd (cc (sym (c.is_end.ensures.no (h ∙ ap (λ k. end_line (end.Raise k) (map string_bytes c.args.names.now) c.args.steps) e)) ∙ c.if-is_end.false))

pub returns : goal.returns
returns c = λ z l h.
    let past = c.loop-exception-test.false in
    let count = c.loop-exception.invariant.count in
    let all = length-map c.args.names.now string_bytes in
    c.loop-exception.invariant.none z (omega (arith, l, past, count, all)) h
