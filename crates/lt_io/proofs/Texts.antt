-- Texts in parts.
use Rattle.std.proofs.Common.{ℕ, List, ◌+◌, ◌<◌, length, take, drop, subst, sym, arith, length-drop}
use Rattle.std.proofs.Math.Seq.{take-add}
use Rattle.std.proofs.lemmas.List.{take-append-drop}
use Rattle.std.proofs.KnownBytes.{Appends-trans}
use Rattle.std.specs.declared.option.Option.{Option}
use Rattle.std.specs.Io.KnownBytes.{Appends}
use Rattle.lt_io.specs.Sending.{AppendsProperPrefix}

-- a prefix of a text, and then a prefix of what is left of it
pub written_more : (old mid new : Option (List ℕ)) (text : List ℕ) (w n : ℕ) → Appends old mid (take w text) → Appends mid new (take n (drop w text)) → Appends old new (take (w + n) text)
written_more old mid new text w n h k =
    let P : List ℕ → Type 0 = λ t. Appends old new t in
    subst P (sym (take-add w n text)) (Appends-trans old mid new (take w text) (take n (drop w text)) h k)

-- fewer bytes than all of a text are a prefix that is not all of it
pub all_but_an_end : (old new : Option (List ℕ)) (text : List ℕ) (n : ℕ) → n < length text → Appends old new (take n text) → AppendsProperPrefix old new text
all_but_an_end old new text n few h = (take n text, drop n text, sym (take-append-drop n text), (let rest = length-drop n text in omega (arith, rest)), h)
