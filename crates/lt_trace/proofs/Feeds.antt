-- Line feeds.
use Rattle.std.proofs.Common.{◌≡◌, ◌<◌, ℕ, suc, ◌+◌, false, not, nat_lt, List, [], ◌∷◌, ◌++◌, length, drop, None, Some, refl, ap, subst, ◌∙◌, arith}
use Rattle.std.specs.List.{list_any, position, position_or_len}
use Rattle.std.proofs.lemmas.Bool.Decides.{Decides-eqb, Decides-ltb, nat_tests}
use Rattle.std.proofs.lemmas.List.{drop-drop}
use Rattle.std.proofs.lemmas.List.Sums.{prefix_len-le-length}
use Rattle.lt_trace.specs.Lines.{is_feed}
use Rattle.lt_trace.specs.inner.Stages.{IsFeed}
use Rattle.lt_trace.proofs.Words.{either}

none-any : (text : List ℕ) → position_or_len is_feed text ≡ length text → list_any is_feed text ≡ false
none-any [] e = refl
none-any (b ∷ text) e =
    either (is_feed b)
    (λ t. absurd (let f : 0 ≡ suc (length text) = rw t at e in omega arith))
    (λ t. let f : 1 + position_or_len is_feed text ≡ suc (length text) = rw t at e in rw t (none-any text (omega arith)))

pub no-feed : (text : List ℕ) → position is_feed text ≡ None → list_any is_feed text ≡ false
no-feed text e =
    let n = position_or_len is_feed text in
    let most = prefix_len-le-length (λ b. not (is_feed b)) text in
    either (nat_lt n (length text))
    (λ t. absurd (let f = rw t at e in cc))
    (λ t. none-any text (grind (arith, nat_tests)))

pub record HasFeed (text : List ℕ) (k : ℕ) : Type 0 where
  pub word : List ℕ
  pub none : list_any is_feed word ≡ false
  pub size : k ≡ length word
  pub whole : text ≡ word ++ 10 ∷ drop (suc k) text

more-feed : (b : ℕ) (text : List ℕ) (k : ℕ) → is_feed b ≡ false → HasFeed text k → HasFeed (b ∷ text) (suc k)
more-feed b text k t rest = record { word = b ∷ rest.word; none = rw t rest.none; size = ap suc rest.size; whole = ap (λ (s : List ℕ). b ∷ s) rest.whole }

found : (text : List ℕ) (n : ℕ) → position_or_len is_feed text ≡ n → n < length text → HasFeed text n
found [] n e h = absurd (omega arith)
found (b ∷ text) n e h =
    either (is_feed b)
    (λ t.
    let byte : b ≡ 10 = (Decides-eqb b 10).0 t in
    let f : 0 ≡ n = rw t at e in
    subst (HasFeed (b ∷ text)) f (record { word = []; none = refl; size = refl; whole = ap (λ (c : ℕ). c ∷ text) byte }))
    (λ t.
    let f : 1 + position_or_len is_feed text ≡ n = rw t at e in
    let g : suc (position_or_len is_feed text) ≡ n = omega arith in
    subst (HasFeed (b ∷ text)) g (more-feed b text (position_or_len is_feed text) t (found text (position_or_len is_feed text) refl (omega arith))))

pub has-feed : (text : List ℕ) (k : ℕ) → position is_feed text ≡ Some k → HasFeed text k
has-feed text k e =
    let n = position_or_len is_feed text in
    either (nat_lt n (length text))
    (λ t. let f : Some n ≡ Some k = rw t at e in let g : n ≡ k = cc in subst (HasFeed text) g (found text n refl ((Decides-ltb n (length text)).0 t)))
    (λ t. absurd (let f = rw t at e in cc))

-- from a place on
pub feed-is : (text : List ℕ) (at k : ℕ) → position is_feed (drop at text) ≡ Some k → IsFeed text at (Some (at + k))
feed-is text at k e =
    let f = has-feed (drop at text) k e in
    let behind : drop (suc k) (drop at text) ≡ drop (suc (at + k)) text = drop-drop (suc k) at text ∙ ap (λ (m : ℕ). drop m text) {x = at + suc k} {y = suc (at + k)} (omega arith) in
    (f.word, f.none, ap (λ (m : ℕ). at + m) f.size, f.whole ∙ ap (λ (t : List ℕ). f.word ++ 10 ∷ t) behind)
