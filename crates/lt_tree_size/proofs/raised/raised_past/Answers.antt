use Rattle.std.proofs.Common.{◌≡◌, ℕ, Bool, true, false, nat_eq, if◌then◌else◌, ap, sym, ◌∙◌}
use Rattle.lt_term.specs.Size.{capped}
use Rattle.lt_tree_size.specs.Tally.{raises}
use Rattle.lt_tree_size.proofs.Weighings.{catch_row}
use Rattle.lt_tree_size.proofs.raised.raised_past.Goals as goal

-- what is left of a number that may be taken away
left : (b d : Bool) (n x : ℕ) → b ≡ d → n ≡ capped x → (if b then 0 else n) ≡ capped (if d then 0 else x)
left true d n x e h = ap (λ f. capped (if f then 0 else x)) e
left false d n x e h = h ∙ ap (λ f. capped (if f then 0 else x)) e

pub returns-clause-is : goal.returns-clause-is
returns-clause-is c = λ y z h u t e r s k.
    c.joined.ensures.is (if nat_eq y z then 0 else raises y t) (raises z t) (raises y u) (c.unless-kept.ensures.is ∙ left c.args.is_handled (nat_eq y z) c.args.raised (raises y t) e r) s k ∙ ap capped (sym ((catch_row z h u t).raises_are y))
