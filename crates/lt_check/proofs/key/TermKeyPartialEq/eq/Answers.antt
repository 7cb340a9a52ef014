use Rattle.std.proofs.Common.{◌≡◌, ◌∙◌, ℕ, Bool, true, false, ap, arith, nat_eq, refl, sym}
use Rattle.lt_term.specs.Process.{Process}
use Rattle.lt_term.specs.View.{process}
use Rattle.lt_same_term.proofs.Public.{decides}
use Rattle.lt_same_term.specs.Alike.{alike}
use Rattle.lt_same_term.specs.Hash.{hash_of}
use Rattle.lt_check.proofs.key.TermKeyPartialEq.eq.Goals as goal

-- other numbers don't pass the test of one
apart_is : (h k : ℕ) → (h ≡ k → ⊥) → (b : Bool) → nat_eq h k ≡ b → nat_eq h k ≡ false
apart_is h k apart true e = absurd (apart (grind (arith, e)))
apart_is h k apart false e = e

-- terms of other hashes aren't alike
unlike : (p q : Process ℕ) (h k : ℕ) → h ≡ hash_of p → k ≡ hash_of q → (h ≡ k → ⊥) → (b : Bool) → alike p q ≡ b → nat_eq h k ≡ b
unlike p q h k e f apart true is = absurd (apart (e ∙ ap hash_of ((decides p q).0 is) ∙ sym f))
unlike p q h k e f apart false is = apart_is h k apart (nat_eq h k) refl

pub returns-else-self-other : goal.returns-else-self-other
returns-else-self-other c =
    let a = c.args.self.now in
    let b = c.args.other.now in
    unlike (process a.term) (process b.term) a.hash b.hash a.determined b.determined c.if-self-other.false (alike (process a.term) (process b.term)) refl
