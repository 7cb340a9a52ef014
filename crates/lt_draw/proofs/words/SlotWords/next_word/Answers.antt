use Rattle.std.proofs.Common.{ℕ, ap, ◌∙◌}
use Rattle.rand_pcg.specs.Lcg.{Lcg, next}
use Rattle.rand_pcg.specs.Pcg.{multiplier_128}
use Rattle.lt_draw.specs.Word.{place_of}
use Rattle.lt_draw.proofs.WordLemmas.{generator_at-next, place_of-next}
use Rattle.lt_draw.proofs.words.SlotWords.next_word.Goals as goal

pub invariant_of-self : goal.invariant_of-self
invariant_of-self c =
    ap (λ (p : ℕ × Lcg). p.1) c.next_word.ensures
    ∙ ap (next 128 multiplier_128) c.self.invariant
    ∙ generator_at-next c.self.inside.seed (place_of c.self.inside.step c.self.inside.slot) _ (place_of-next c.self.inside.step c.self.inside.slot)
