use Rattle.std.proofs.Common.{◌+◌, Vec, Global, sym, ap, ◌∙◌, refl, arith}
use Rattle.std.proofs.lemmas.Bool.{leb-true, leb-false}
use Rattle.lt_num.specs.declared.value.Value.{Value}
use Rattle.lt_rif.specs.declared.slot.Slot.{Slot}
use Rattle.lt_rif.proofs.ReadingLemmas.{begun_again, blank_more, blank_full, blank_done, blank_refused}
use Rattle.lt_rif.proofs.reader.Reader.take_blank.Goals as goal

pub returns-then-is_full-clause-tells : goal.returns-then-is_full-clause-tells
returns-then-is_full-clause-tells c =
    let short = c.args.self.now.is_short c.requires.goes_on in
    rw c.refuse.ensures.answer (blank_full c.args.self.now.draft c.end_word.new.self c.args.byte _ c.args.self.now.values.items (omega arith) c.requires.blank (omega arith) c.in-More.ensures.effect
    (leb-true _ _ (sym c.is_full.ensures ∙ c.if-is_full.true)) c.end_word.ensures.place c.refuse.ensures.refusal)

pub returns-else-is_full-clause-tells : goal.returns-else-is_full-clause-tells
returns-else-is_full-clause-tells c =
    let short = c.args.self.now.is_short c.requires.goes_on in
    blank_more c.args.self.now.draft c.end_word.new.self c.args.byte _ c.args.self.now.values.items (omega arith) c.requires.blank (omega arith) c.in-More.ensures.effect
    (leb-false _ _ (sym c.is_full.ensures ∙ c.if-is_full.false)) (rw c.requires.goes_on refl)

pub returns-in-Done-clause-tells : goal.returns-in-Done-clause-tells
returns-in-Done-clause-tells c =
    let short = c.args.self.now.is_short c.requires.goes_on in
    blank_done c.args.self.now.draft c.end_word.new.self c.args.byte _ c.restart.new.values.items (omega arith) c.requires.blank (omega arith) c.in-Done.ensures.effect
    (ap (λ (v : Vec Value Global). v.items) c.restart.ensures.values)
    (begun_again c.restart.new.self _ c.end_word.new.self.decimals c.end_word.new.self.slots.items (c.end_word.new.self.place + c.end_word.new.self.taken)
    (ap (λ (v : Vec Slot Global). v.items) c.restart.ensures.slots) c.restart.ensures.begun c.restart.ensures.word (rw c.requires.goes_on refl))

pub returns-in-Refused-clause-tells : goal.returns-in-Refused-clause-tells
returns-in-Refused-clause-tells c =
    let short = c.args.self.now.is_short c.requires.goes_on in
    rw c.refuse-in-Refused.ensures.answer (blank_refused c.args.self.now.draft c.end_word.new.self c.args.byte c.in-Refused.fault _ c.args.self.now.values.items (omega arith) c.requires.blank (omega arith) c.in-Refused.ensures.effect c.refuse-in-Refused.ensures.refusal)
