-- What the getters of clap's matches read.
use Rattle.std.proofs.Common.{◌≡◌, ◌≤◌, ℕ, Bool, true, false, List, [], Option, None, Some, IfSome, refl, sym, ap, ◌∙◌, arith, codes, unwrap_or, option_map}
use Rattle.std.proofs.lemmas.Bool.{false_from_ne_true}
use Rattle.std.proofs.lemmas.Slice.Eq.{bytes_eq-Decides}
use Rattle.std.specs.Borrow.{Bor}
use Rattle.std.specs.Str.{bytes_eq}
use Rattle.std.specs.Str.Parse.{ExplainsUnsignedError, HasUnsignedDigitsIfOk, ParsesBool, ParsesUnsigned}
use Rattle.clap.specs.Matches.{ReadsOne}
use Rattle.clap.specs.Values.{IsUnsignedIn}
use Rattle.clap.specs.Walk.{Row, one_of}
use Rattle.lt_args.specs.Words.{number_at, number_of}
use Rattle.lt_args.specs.inner.Fitting.{Fits}

-- what stands after a borrowed word, or after a default for it
pub word_or : (word : Option (Bor (List ℕ))) (other : Bor (List ℕ)) (text : Option (List ℕ)) → option_map (λ s. s.now) word ≡ text → other.now ≡ [] → (unwrap_or word other).now ≡ unwrap_or text []
word_or None other text is empty = empty ∙ ap (λ o. unwrap_or o []) is
word_or (Some word) other text is empty = ap (λ o. unwrap_or o []) is

-- the number that `get_one` reads of a word that is one
pub number_read : (least most : ℕ) (text : Option (List ℕ)) (read : Option ℕ) → IfSome text (IsUnsignedIn least most) → (text ≡ None → read ≡ None) →
    ((word : List ℕ) → text ≡ Some word → ReadsOne (λ w r. ParsesUnsigned 64 10 w r × ExplainsUnsignedError 10 w r × HasUnsignedDigitsIfOk w r) word read) →
    read ≡ option_map number_of text
number_read least most None read fits none value = none refl
number_read least most (Some word) None fits none value = absurd ((value word refl).1.0 (fits.0, fits.1))
number_read least most (Some word) (Some n) fits none value = ap Some (value word refl).0.1

-- the flag that `get_one` reads
pub flag_read : (E : Type 0) (text : Option (List ℕ)) (read : Option Bool) → (text ≡ None → read ≡ None) → ((word : List ℕ) → text ≡ Some word → ReadsOne (ParsesBool {E = E}) word read) →
    unwrap_or read false ≡ bytes_eq (unwrap_or text []) (codes "true")
flag_read E None read none value = ap (λ o. unwrap_or o false) (none refl)
flag_read E (Some word) None none value = sym (false_from_ne_true (bytes_eq word (codes "true")) (λ same. (value word refl).1.0 ((bytes_eq-Decides word (codes "true")).0 same)))
flag_read E (Some word) (Some true) none value = sym (ap (λ w. bytes_eq w (codes "true")) (value word refl))
flag_read E (Some word) (Some false) none value = sym (ap (λ w. bytes_eq w (codes "true")) (value word refl))

-- wider bounds
pub wider : (name : List ℕ) (least most more : ℕ) (found : List Row) → most ≤ more → Fits name least most found → Fits name 0 more found
wider name least most more found up fits = go (one_of name found) fits
  where
    go : (o : Option (List ℕ)) → IfSome o (IsUnsignedIn least most) → IfSome o (IsUnsignedIn 0 more)
    go None h = tt
    go (Some word) h = (h.0, h.1, omega arith, let few = h.3 in omega arith)

-- a number of an option, or one that stands for it, is no greater than the option's most
pub at_most : (name : List ℕ) (least most other : ℕ) (found : List Row) → other ≤ most → Fits name least most found → unwrap_or (number_at name found) other ≤ most
at_most name least most other found few fits = go (one_of name found) fits
  where
    go : (o : Option (List ℕ)) → IfSome o (IsUnsignedIn least most) → unwrap_or (option_map number_of o) other ≤ most
    go None h = few
    go (Some word) h = h.3

-- nor is it less than the option's least
pub at_least : (name : List ℕ) (least most other : ℕ) (found : List Row) → least ≤ other → Fits name least most found → least ≤ unwrap_or (number_at name found) other
at_least name least most other found some fits = go (one_of name found) fits
  where
    go : (o : Option (List ℕ)) → IfSome o (IsUnsignedIn least most) → least ≤ unwrap_or (option_map number_of o) other
    go None h = some
    go (Some word) h = h.2
