use Rattle.std.proofs.Common.{◌≡◌, ◌-◌, ◌≤◌, ℕ, List, ap, sym, ◌∙◌, arith, drop, take, length, length-drop}
use Rattle.std.specs.List.{position}
use Rattle.std.proofs.Math.Seq.{take-length}
use Rattle.lt_trace.specs.inner.Words.{is_space}
use Rattle.lt_trace.proofs.Words.{word-found, word-last}
use Rattle.lt_trace.proofs.fields.end_of_word.Goals as goal

whole : (line : List ℕ) (at : ℕ) → take (length line - at) (drop at line) ≡ drop at line
whole line at = ap (λ (n : ℕ). take n (drop at line)) (sym (length-drop at line)) ∙ take-length (drop at line)

pub returns-in-Some-clause-word : goal.returns-in-Some-clause-word
returns-in-Some-clause-word c =
    let within : c.args.at ≤ length c.args.line.now = omega arith in
    word-found c.args.line.now c.args.at c.in-Some.before within (sym (c.in-Some.ensures ∙ ap (λ (t : List ℕ). position is_space t) (whole c.args.line.now c.args.at)))

pub returns-in-None-clause-word : goal.returns-in-None-clause-word
returns-in-None-clause-word c =
    let within : c.args.at ≤ length c.args.line.now = omega arith in
    word-last c.args.line.now c.args.at within (sym (c.in-None.ensures ∙ ap (λ (t : List ℕ). position is_space t) (whole c.args.line.now c.args.at)))
