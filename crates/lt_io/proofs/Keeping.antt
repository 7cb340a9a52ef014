-- What two pipes tell.
use Rattle.std.proofs.Common.{◌≡◌, ℕ, List, ◌++◌, length, take, drop, None, Some, ap, arith, subst, sym, ◌∙◌, append_assoc}
use Rattle.std.proofs.KnownBytes.{Appends-kept, Keeps-trans}
use Rattle.std.proofs.lemmas.List.{take-append-drop, take_all}
use Rattle.std.specs.declared.option.Option.{Option}
use Rattle.std.specs.Io.KnownBytes.{Appends, Consumes, Keeps, prepend_known}
use Rattle.lt_io.specs.Sending.{AppendsPrefix}

-- what was kept is received
pub received : (left : Option (List ℕ)) (kept bytes rest : List ℕ) → kept ≡ bytes ++ rest → Consumes (prepend_known kept left) (prepend_known rest left) bytes
received None kept bytes rest e = tt
received (Some xs) kept bytes rest e = ap (λ (t : List ℕ). t ++ xs) e ∙ append_assoc bytes rest xs

-- what is left stays, and stays on
pub stays_longer : (old mid new : Option (List ℕ)) → Keeps old mid → Keeps mid new → Keeps old new
stays_longer old mid new h k = Keeps-trans old mid new h k

-- all of a text was sent
pub sent_all : (old new : Option (List ℕ)) (text : List ℕ) (n : ℕ) → n ≡ length text → Appends old new (take n text) → Appends old new text
sent_all old new text n e h = subst (λ (t : List ℕ). Appends old new t) (take_all n text (omega (arith, e))) h

-- some of a text was sent
pub sent_part : (old new : Option (List ℕ)) (text : List ℕ) (n : ℕ) → Appends old new (take n text) → AppendsPrefix old new text
sent_part old new text n h = (take n text, drop n text, sym (take-append-drop n text), h)

-- and then nothing more
pub sent_part_at_last : (old mid new : Option (List ℕ)) (text : List ℕ) (n : ℕ) → Appends old mid (take n text) → Keeps mid new → AppendsPrefix old new text
sent_part_at_last old mid new text n h k = sent_part old new text n (Appends-kept old mid new (take n text) h k)
