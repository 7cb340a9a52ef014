use Rattle.std.proofs.Common.{arith, ap, length, refl, ◌++◌, ◌∷◌, [], ◌∙◌}
use Rattle.lt_linear.specs.Draft.{draft_form}
use Rattle.lt_linear.specs.declared.form.Form.{Form}
use Rattle.lt_space.specs.inner.Measures.{measured}
use Rattle.lt_space.proofs.Measurings.{form_few}
use Rattle.lt_space.proofs.measures.Measures.push_draft.Goals as goal

pub push-requires-clause-terms_room : goal.push-requires-clause-terms_room
push-requires-clause-terms_room c =
    let s = c.args.self.now in
    omega (arith, ap (λ (f : Form). length f.terms) c.form.ensures, form_few s.variables (draft_form s.draft) c.requires.form, c.requires.place.terms)

pub returns : goal.returns
returns c =
    let s = c.args.self.now in
    record {
      number = c.push.ensures.number;
      forms = c.push.ensures.forms ∙ ap (λ (f : Form). measured s ++ f ∷ []) c.form.ensures;
      is_form = c.requires.form;
      terms = omega (arith, c.push.ensures.terms, ap (λ (f : Form). length f.terms) c.form.ensures, form_few s.variables (draft_form s.draft) c.requires.form);
      numbers = refl;
      large = record {
        len = refl;
        variables = refl;
        forms = omega (arith, c.push.ensures.room);
        terms = c.push.ensures.terms_room;
        draft = omega arith;
      };
    }
