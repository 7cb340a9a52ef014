use Rattle.std.proofs.Common.{◌≡◌, None, ap, ◌∙◌, sym, refl, arith}
use Rattle.std.proofs.lemmas.Bool.{eqb-true, eqb-false}
use Rattle.lt_rif.specs.Reading.{reading}
use Rattle.lt_rif.specs.inner.Draft.{looked}
use Rattle.lt_rif.proofs.ReadingLemmas.{no_refusal, refused_closing, none_closing, pass_closing, refused_at_end}
use Rattle.lt_rif.proofs.reader.Reader.finish.Goals as goal

pub returns-in-Some-clause-tells : goal.returns-in-Some-clause-tells
returns-in-Some-clause-tells c = refused_closing (reading c.args.self.now) c.in-Some.refusal c.args.self.now.values.items c.in-Some.is

pub returns-then-is_empty-clause-tells : goal.returns-then-is_empty-clause-tells
returns-then-is_empty-clause-tells c =
    let open_now : c.args.self.now.refusal ≡ None = no_refusal c.args.self.now.refusal c.in_default.not-Some in
    let none = eqb-true _ _ (sym c.is_empty.ensures ∙ c.if-is_empty.true) in
    none_closing c.args.self.now.draft (reading c.args.self.now) _ c.skip_reply.new.self.values.items (omega arith) (rw open_now refl) c.skip_reply.ensures.values c.skip_reply.ensures.begins

pub returns-in-Pass-clause-tells : goal.returns-in-Pass-clause-tells
returns-in-Pass-clause-tells c =
    let open_now : c.args.self.now.refusal ≡ None = no_refusal c.args.self.now.refusal c.in_default.not-Some in
    let short = c.args.self.now.is_short open_now in
    let some = eqb-false _ _ (sym c.is_empty.ensures ∙ c.if-is_empty.false) in
    pass_closing c.args.self.now.draft (reading c.args.self.now) c.in-Pass.is_comment _ c.args.self.now.values.items (omega arith) (omega arith) (omega arith) (c.look.ensures ∙ ap (looked c.args.self.now.draft) c.in-Pass.is) (rw open_now refl)

pub returns-in-Refused-clause-tells : goal.returns-in-Refused-clause-tells
returns-in-Refused-clause-tells c =
    let open_now : c.args.self.now.refusal ≡ None = no_refusal c.args.self.now.refusal c.in_default.not-Some in
    let short = c.args.self.now.is_short open_now in
    let some = eqb-false _ _ (sym c.is_empty.ensures ∙ c.if-is_empty.false) in
    refused_at_end c.args.self.now.draft (reading c.args.self.now) _ c.in-Refused.fault c.args.self.now.values.items (omega arith) (omega arith) (c.look.ensures ∙ ap (looked c.args.self.now.draft) c.in-Refused.is) (rw open_now refl) refl
