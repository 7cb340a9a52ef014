-- What an open stream has for a reply stays so.
use Rattle.std.proofs.Common.{◌≡◌, ◌+◌, ℕ, Bool, true, false, ◌==◌, List, [], ◌∷◌, ◌++◌, length, nat_le, nat_lt, refl, if◌then◌else◌}
use Rattle.std.proofs.lemmas.Bool.{leb-true}
use Rattle.lt_rif.specs.Word.{is_blank, word, words_of}
use Rattle.lt_rif.specs.Reply.{longest, Reply, needs, malformed, Begun, Progress, more, done, refused, after_word, go_on, reply_in}
use Rattle.lt_rif.specs.Growing.{Grows, RepliesGrow}
use Rattle.lt_rif.specs.declared.fault.ValueFault.TheVariants as fault
use Rattle.lt_rif.proofs.ReadingLemmas.{full_in}

-- two cases of a test
by_test : (b : Bool) (P : Bool → Type 0) → (b ≡ true → P true) → (b ≡ false → P false) → P b
by_test true P first second = first refl
by_test false P first second = second refl

-- a word's end
grows_on : (p : Progress) (place : ℕ) (bytes : List ℕ) (further : List ℕ) (closed : Bool) (go go' : Begun → Reply) → ((r : Begun) → Grows (go r) further closed (go' r))
    → Grows (go_on p (record { place = place; bytes = bytes; is_closed = false }) go) further closed (go_on p (record { place = place; bytes = bytes ++ further; is_closed = closed }) go')
grows_on (more r) place bytes further closed go go' grow = grow r
grows_on (done values) place bytes further closed go go' grow = (refl, refl)
grows_on (refused f at) place bytes further closed go go' grow = refl

-- a reply that has begun
grows_in : (bytes : List ℕ) (r : Begun) (text further : List ℕ) (closed : Bool) → Grows (reply_in false r (words_of text bytes)) further closed (reply_in closed r (words_of text (bytes ++ further)))
grows_in [] r text further closed =
    by_test (nat_le longest (r.taken + length text))
    (λ b. Grows (if b then malformed fault.TooLong r.place else needs) further closed (reply_in closed r (words_of text further)))
    (λ e. full_in closed r text further (leb-true longest (r.taken + length text) e))
    (λ e. tt)
grows_in (b ∷ bs) r text further closed =
    by_test (is_blank b)
    (λ x. Grows (reply_in false r (if x then word text b bs (words_of [] bs) else words_of (text ++ b ∷ []) bs)) further closed
    (reply_in closed r (if x then word text b (bs ++ further) (words_of [] (bs ++ further)) else words_of (text ++ b ∷ []) (bs ++ further))))
    (λ e. by_test (nat_lt longest (r.taken + length text + 1))
    (λ x. Grows (if x then malformed fault.TooLong r.place else go_on (after_word r text (b == 10)) (record { place = r.place + r.taken + length text + 1; bytes = bs; is_closed = false }) (λ q. reply_in false q (words_of [] bs))) further closed
    (if x then malformed fault.TooLong r.place else go_on (after_word r text (b == 10)) (record { place = r.place + r.taken + length text + 1; bytes = bs ++ further; is_closed = closed }) (λ q. reply_in closed q (words_of [] (bs ++ further)))))
    (λ f. refl)
    (λ f. grows_on (after_word r text (b == 10)) _ bs further closed _ _ (λ q. grows_in bs q [] further closed)))
    (λ e. grows_in bs r (text ++ b ∷ []) further closed)

pub replies_grow : RepliesGrow
replies_grow decimals [] s further closed open_now = (open_now, refl)
replies_grow decimals (slot ∷ slots) s further closed open_now = rw open_now (grows_in s.bytes _ [] further closed)
