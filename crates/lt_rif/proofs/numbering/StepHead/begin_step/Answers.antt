use Rattle.std.proofs.Common.{List, ℕ, ◌+◌, ◌%◌, ap, length, sym, ◌∙◌, ◌∷◌, [], ◌++◌, append_assoc, length-append, arith}
use Rattle.lt_rif.proofs.NumberingLemmas.{by_head, long_by_head}
use Rattle.lt_rif.proofs.numbering.StepHead.begin_step.Goals as goal

pub keep-requires-clause-room : goal.keep-requires-clause-room
keep-requires-clause-room c = omega (arith, long_by_head c.args.step c.ranges.step.fits, c.requires.room)

pub append_byte-requires : goal.append_byte-requires
append_byte-requires c =
    let head = ap (λ (text : List ℕ). length text) c.keep.ensures.items in
    omega (arith, head, long_by_head c.args.step c.ranges.step.fits, c.requires.room, c.keep.ensures.capacity)

pub append_byte-requires-2 : goal.append_byte-requires-2
append_byte-requires-2 c =
    let head = ap (λ (text : List ℕ). length text) c.keep.ensures.items in
    let digit = ap (λ (text : List ℕ). length text) c.append_byte.ensures.items ∙ length-append c.keep.new.text.items _ in
    omega (arith, head, digit, long_by_head c.args.step c.ranges.step.fits, c.requires.room, c.keep.ensures.capacity, c.append_byte.ensures.capacity)

pub returns-clause-items : goal.returns-clause-items
returns-clause-items c =
    c.append_byte-2.ensures.items
    ∙ ap (λ (text : List ℕ). text ++ (10 ∷ [])) c.append_byte.ensures.items
    ∙ append_assoc c.keep.new.text.items ((48 + c.args.step % 10) ∷ []) (10 ∷ [])
    ∙ ap (λ (text : List ℕ). text ++ ((48 + c.args.step % 10) ∷ 10 ∷ [])) c.keep.ensures.items
    ∙ sym (by_head c.args.step c.ranges.step.fits)
