use Rattle.std.proofs.Common.{◌≡◌, ◌+◌, length, Vec, Global, ap, ◌∙◌, refl, arith}
use Rattle.lt_rif.specs.Reply.{beginning}
use Rattle.lt_rif.specs.declared.slot.Slot.{Slot}
use Rattle.lt_num.specs.declared.value.Value.{Value}
use Rattle.lt_rif.proofs.ReadingLemmas.{begun_again, short_closing, done_closing}
use Rattle.lt_rif.proofs.reader.Reader.finish_with.Goals as goal

pub returns-then-self-len-clause-tells : goal.returns-then-self-len-clause-tells
returns-then-self-len-clause-tells c =
    let short = c.args.self.now.is_short c.requires.goes_on in
    short_closing c.args.self.now.draft _ c.args.value c.args.keep _ c.args.self.now.values.items (omega arith) (omega arith) (omega arith) c.requires.ends (omega arith) (rw c.requires.goes_on refl)

pub returns-clause-tells : goal.returns-clause-tells
returns-clause-tells c =
    let short = c.args.self.now.is_short c.requires.goes_on in
    let slots : c.add.new.self.slots.items ≡ c.args.self.now.draft.slots.items = ap (λ (v : Vec Slot Global). v.items) c.add.ensures.slots in
    let place : c.args.self.now.draft.place + (c.args.self.now.draft.taken + c.len.result) ≡ c.args.self.now.draft.place + c.args.self.now.draft.taken + length c.args.self.now.draft.word.items = omega arith in
    let again : beginning c.add.new.self.decimals c.add.new.self.slots.items (c.args.self.now.draft.place + (c.args.self.now.draft.taken + c.len.result)) ≡ beginning c.args.self.now.draft.decimals c.args.self.now.draft.slots.items (c.args.self.now.draft.place + c.args.self.now.draft.taken + length c.args.self.now.draft.word.items) =
    λ i. beginning (c.add.ensures.decimals i) (slots i) (place i) in
    done_closing c.args.self.now.draft c.args.value c.args.keep _ c.restart.new.values.items (omega arith) (omega arith) c.requires.ends (omega arith)
    (ap (λ (v : Vec Value Global). v.items) c.restart.ensures.values ∙ c.add.ensures.values)
    (begun_again c.restart.new.self _ c.args.self.now.draft.decimals c.args.self.now.draft.slots.items (c.args.self.now.draft.place + c.args.self.now.draft.taken + length c.args.self.now.draft.word.items)
    (ap (λ (v : Vec Slot Global). v.items) (c.restart.ensures.slots ∙ c.add.ensures.slots)) (c.restart.ensures.begun ∙ again) c.restart.ensures.word (rw c.requires.goes_on refl))
