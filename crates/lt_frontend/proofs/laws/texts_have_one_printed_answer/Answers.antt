use Rattle.lt_frontend.proofs.Printing.{texts_have_one_printed_answer}
use Rattle.lt_frontend.proofs.laws.texts_have_one_printed_answer.Goals as goal

pub returns : goal.returns
returns c =
    let texts = c.one_answer_belongs_to_a_text.ensures in
    texts_have_one_printed_answer (record {
      some = texts.some;
      one_program = texts.one_program;
      one_refusal = texts.one_refusal;
      not_both = texts.not_both;
    })
