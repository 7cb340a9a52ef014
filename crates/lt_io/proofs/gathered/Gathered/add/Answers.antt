use Rattle.std.proofs.Common.{◌≡◌, ◌∷◌, ◌++◌, ◌∙◌, [], List, ℕ, ap, length, rules}
use Rattle.lt_io.specs.Gathering.{cut_at}
use Rattle.lt_io.proofs.Gathering.{cut_more}
use Rattle.lt_io.proofs.gathered.Gathered.add.Goals as goal

pub returns-clause-added : goal.returns-clause-added
returns-clause-added c = λ _.
    let old = c.self.inside in
    let text = c.args.text.now in
    let bytes : c.extend_from_slice.new.self.items ≡ old.bytes.items ++ text = search rules in
    let lengths : c.push.new.self.items ≡ old.lengths.items ++ length text ∷ [] = search rules in
    ap (λ (t : List ℕ). cut_at c.push.new.self.items t) bytes ∙ ap (λ (t : List ℕ). cut_at t (old.bytes.items ++ text)) lengths
    ∙ cut_more old.lengths.items old.bytes.items text c.self.invariant ∙ ap (λ (t : List (List ℕ)). t ++ text ∷ []) c.self.view_is
