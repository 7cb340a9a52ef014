-- Rules and instants by number: what was there stays.
use Rattle.std.proofs.Common.{◌≡◌, ◌≤◌, ◌<◌, ℕ, zero, suc, ◌+◌, Bool, true, nat_lt, IsTrue, List, [], ◌∷◌, ◌++◌, length, map, get_or, refl, ap, sym, ◌∙◌, arith, length-append, subst}
use Rattle.std.proofs.lemmas.List.{get_or_append_left}
use Rattle.std.proofs.lemmas.Bool.{ltb-true, lt-ltb}
use Rattle.std.proofs.Math.Seq.{get_or-append_seam}
use Rattle.std.specs.List.{list_all}
use Rattle.lt_num.specs.declared.kind.Kind.{Kind}
use Rattle.lt_term.specs.Unfolded.{Instant, by_joined, instant_by, instant_of}
use Rattle.lt_term.specs.UnfoldedView.{chain_among, chain_at, chain_of, chains_of, grown, instant_at, instants_of, made_of, numbered, rule_of, rules_at}
use Rattle.lt_term.specs.inner.Linked.{are_linked, are_made, is_made_before, is_sound}
use Rattle.lt_term.specs.declared.instants.Made.{Made}
use Rattle.lt_term.specs.declared.instants.Made.TheVariants as made
use Rattle.lt_term.specs.declared.waiting.Link.{Link}
use Rattle.lt_term.specs.declared.waiting.Waiting.{Waiting}
use Rattle.lt_term.specs.declared.waiting.Waiting.TheVariants as wait
use Rattle.lt_term.proofs.Tests.{both, left_of, right_of}

-- Lists that grow.

module _ {A B : Type 0} (f : List A → B → A) where
  grown-append : (xs : List A) (bs cs : List B) → grown f xs (bs ++ cs) ≡ grown f (grown f xs bs) cs
  grown-append xs [] cs = refl
  grown-append xs (b ∷ bs) cs = grown-append (xs ++ f xs b ∷ []) bs cs

  length-grown : (xs : List A) (bs : List B) → length (grown f xs bs) ≡ length xs + length bs
  length-grown xs [] = omega arith
  length-grown xs (b ∷ bs) = length-grown (xs ++ f xs b ∷ []) bs ∙ simp length-append (omega arith)

  -- what is there stays
  grown-keeps : (d : A) (xs : List A) (bs : List B) (n : ℕ) → n < length xs → get_or (grown f xs bs) n d ≡ get_or xs n d
  grown-keeps d xs [] n h = refl
  grown-keeps d xs (b ∷ bs) n h =
      grown-keeps d (xs ++ f xs b ∷ []) bs n (simp length-append (omega arith))
      ∙ get_or_append_left xs (f xs b ∷ []) d n h

  -- the first of what comes
  grown-first : (d : A) (xs : List A) (b : B) (bs : List B) → get_or (grown f xs (b ∷ bs)) (length xs) d ≡ f xs b
  grown-first d xs b bs =
      grown-keeps d (xs ++ f xs b ∷ []) bs (length xs) (simp length-append (omega arith))
      ∙ get_or-append_seam xs (f xs b) [] d

pub length_more : {A : Type 0} (xs : List A) (a : A) → suc (length xs) ≡ length (xs ++ a ∷ [])
length_more xs a = simp length-append (omega arith)

-- Chains.

length-chains : (ls : List Link) → length (chains_of ls) ≡ suc (length ls)
length-chains ls = length-grown chain_of ([] ∷ []) ls ∙ omega arith

-- a chain that is there stays
pub chain-stays : (ls more : List Link) (n : ℕ) → n ≤ length ls → chain_at (ls ++ more) n ≡ chain_at ls n
chain-stays ls more n h =
    ap (λ cs. chain_among cs n) (grown-append chain_of ([] ∷ []) ls more)
    ∙ grown-keeps chain_of [] (chains_of ls) more n (omega (arith, length-chains ls))

-- no rule has the number 0
pub chain-none : (ls : List Link) → chain_at ls 0 ≡ []
chain-none ls = grown-keeps chain_of [] ([] ∷ []) ls 0 (omega arith)

-- one more link
pub chain-more : (ls : List Link) (l : Link) (n : ℕ) → n ≡ suc (length ls) → chain_at (ls ++ l ∷ []) n ≡ l.rule ∷ chain_at ls l.outer
chain-more ls l n e =
    ap (λ cs. chain_among cs n) (grown-append chain_of ([] ∷ []) ls (l ∷ []))
    ∙ ap (λ k. get_or (grown chain_of (chains_of ls) (l ∷ [])) k []) (let g : n ≡ length (chains_of ls) = e ∙ sym (length-chains ls) in g)
    ∙ grown-first chain_of [] (chains_of ls) l []

chain-from : (chains : List (List Waiting)) (ls : List Link) (d : Link) (before k n : ℕ) → length chains ≡ before → before + k ≡ n → IsTrue (are_linked before ls) → k < length ls
    → chain_among (grown chain_of chains ls) n ≡ (get_or ls k d).rule ∷ chain_among (grown chain_of chains ls) (get_or ls k d).outer
chain-from chains [] d before k n b at h l = absurd (omega arith)
chain-from chains (m ∷ ls) d before zero n b at h l =
    let below : m.outer < length chains = omega (arith, b, ltb-true _ _ (left_of (nat_lt m.outer before) _ h)) in
    let here : n ≡ length chains = omega arith in
    ap (λ k. chain_among (grown chain_of chains (m ∷ ls)) k) here
    ∙ grown-first chain_of [] chains m ls
    ∙ ap (λ c. m.rule ∷ c) (sym (grown-keeps chain_of [] chains (m ∷ ls) m.outer below))
chain-from chains (m ∷ ls) d before (suc k) n b at h l =
    chain-from (chains ++ chain_of chains m ∷ []) ls d (suc before) k n (sym (length_more chains (chain_of chains m)) ∙ ap suc b) (omega arith) (right_of (nat_lt m.outer before) _ h) (omega arith)

-- the chain of a link: its rule, and the chain outside of it
pub chain-there : (ls : List Link) (d : Link) (k n : ℕ) → suc k ≡ n → IsTrue (are_linked 1 ls) → k < length ls → chain_at ls n ≡ (get_or ls k d).rule ∷ chain_at ls (get_or ls k d).outer
chain-there ls d k n at h l = chain-from ([] ∷ []) ls d 1 k n refl (omega arith) h l

linked-from : (ls : List Link) (d : Link) (before k : ℕ) → IsTrue (are_linked before ls) → k < length ls → (get_or ls k d).outer < before + k
linked-from [] d before k h l = absurd (omega arith)
linked-from (m ∷ ls) d before zero h l = let g : m.outer < before = ltb-true _ _ (left_of (nat_lt m.outer before) _ h) in omega arith
linked-from (m ∷ ls) d before (suc k) h l = let g = linked-from ls d (suc before) k (right_of (nat_lt m.outer before) _ h) (omega arith) in omega (arith, g)

-- a link leads to an earlier number
pub linked-there : (ls : List Link) (d : Link) (k : ℕ) → IsTrue (are_linked 1 ls) → k < length ls → (get_or ls k d).outer ≤ k
linked-there ls d k h l = omega (arith, linked-from ls d 1 k h l)

linked-more : (before : ℕ) (ls : List Link) (l : Link) → IsTrue (are_linked before ls) → l.outer < before + length ls → IsTrue (are_linked before (ls ++ l ∷ []))
linked-more before [] l h o = both _ true (let g : l.outer < before = omega arith in lt-ltb l.outer before g) refl
linked-more before (m ∷ ls) l h o = both _ _ (left_of (nat_lt m.outer before) _ h) (linked-more (suc before) ls l (right_of (nat_lt m.outer before) _ h) (omega arith))

-- one more link to an earlier number
pub one_linked : (ls : List Link) (l : Link) → IsTrue (are_linked 1 ls) → l.outer ≤ length ls → IsTrue (are_linked 1 (ls ++ l ∷ []))
one_linked ls l h o = linked-more 1 ls l h (omega arith)

-- What rules keep.

module _ (P : List Waiting → Type 0) (none : P []) where
  among-append : (cs : List (List Waiting)) (c : List Waiting) → ((n : ℕ) → P (chain_among cs n)) → P c → (n : ℕ) → P (chain_among (cs ++ c ∷ []) n)
  among-append [] c h p zero = p
  among-append [] c h p (suc n) = none
  among-append (d ∷ cs) c h p zero = h 0
  among-append (d ∷ cs) c h p (suc n) = among-append cs c (λ k. h (suc k)) p n

module _ (test : Waiting → Bool) where
  chains-pass : (cs : List (List Waiting)) (ls : List Link) → ((n : ℕ) → IsTrue (list_all test (chain_among cs n))) → IsTrue (list_all (λ l. test l.rule) ls) → (n : ℕ) → IsTrue (list_all test (chain_among (grown chain_of cs ls) n))
  chains-pass cs [] all h n = all n
  chains-pass cs (l ∷ ls) all h n =
      chains-pass (cs ++ chain_of cs l ∷ []) ls
      (among-append (λ c. IsTrue (list_all test c)) refl cs (chain_of cs l) all (both (test l.rule) _ (left_of (test l.rule) _ h) (all l.outer)))
      (right_of (test l.rule) _ h) n

  -- what each link's rule passes, each rule of a chain does
  pub chain-passes : (ls : List Link) (n : ℕ) → IsTrue (list_all (λ l. test l.rule) ls) → IsTrue (list_all test (chain_at ls n))
  chain-passes ls n h = chains-pass ([] ∷ []) ls (among-append (λ c. IsTrue (list_all test c)) refl [] [] (λ k. refl) refl) h n

  -- each link's rule does
  pub link-passes : (ls : List Link) (d : Link) (k : ℕ) → IsTrue (list_all (λ l. test l.rule) ls) → k < length ls → IsTrue (test (get_or ls k d).rule)
  link-passes [] d k h l = absurd (omega arith)
  link-passes (m ∷ ls) d zero h l = left_of (test m.rule) _ h
  link-passes (m ∷ ls) d (suc k) h l = link-passes ls d k (right_of (test m.rule) _ h) (omega arith)

  pub links-pass-more : (ls : List Link) (l : Link) → IsTrue (list_all (λ m. test m.rule) ls) → IsTrue (test l.rule) → IsTrue (list_all (λ m. test m.rule) (ls ++ l ∷ []))
  links-pass-more [] l h t = both (test l.rule) true t refl
  links-pass-more (m ∷ ls) l h t = both (test m.rule) _ (left_of (test m.rule) _ h) (links-pass-more ls l (right_of (test m.rule) _ h) t)

-- a rule that names an instant among so many names one among more
pub sound-more : (a b : ℕ) (r : Waiting) → a ≤ b → IsTrue (is_sound a r) → IsTrue (is_sound b r)
sound-more a b (wait.Seq t) l h = h
sound-more a b (wait.Turn t) l h = h
sound-more a b (wait.Again i done t) l h = h
sound-more a b (wait.Par t) l h = h
sound-more a b (wait.Joined i) l h = let g : i < a = ltb-true i a h in lt-ltb i b (omega arith)
sound-more a b (wait.Assert c) l h = h
sound-more a b (wait.Exist x v) l h = h
sound-more a b (wait.Catch z t) l h = h
sound-more a b (wait.Try t) l h = h

-- so do all
pub links-sound-more : (a b : ℕ) (ls : List Link) → a ≤ b → IsTrue (list_all (λ l. is_sound a l.rule) ls) → IsTrue (list_all (λ l. is_sound b l.rule) ls)
links-sound-more a b [] l h = refl
links-sound-more a b (m ∷ ls) l h = both (is_sound b m.rule) _ (sound-more a b m.rule l (left_of (is_sound a m.rule) _ h)) (links-sound-more a b ls l (right_of (is_sound a m.rule) _ h))

-- Instants.

module _ (before : ℕ) (at new : ℕ → Instant ℕ) (same : (k : ℕ) → k < before → at k ≡ new k) where
  -- a rule depends on the instant alone that it names
  pub rule-same : (r : Waiting) → IsTrue (is_sound before r) → rule_of at r ≡ rule_of new r
  rule-same (wait.Seq t) h = refl
  rule-same (wait.Turn t) h = refl
  rule-same (wait.Again i done t) h = refl
  rule-same (wait.Par t) h = refl
  rule-same (wait.Joined i) h = ap by_joined (same i (ltb-true i before h))
  rule-same (wait.Assert c) h = refl
  rule-same (wait.Exist x v) h = refl
  rule-same (wait.Catch z t) h = refl
  rule-same (wait.Try t) h = refl

  pub rules-same : (rs : List Waiting) → IsTrue (list_all (is_sound before) rs) → map (rule_of at) rs ≡ map (rule_of new) rs
  rules-same [] h = refl
  rules-same (r ∷ rs) h = λ i. rule-same r (left_of (is_sound before r) _ h) i ∷ rules-same rs (right_of (is_sound before r) _ h) i

made-same : (kinds : List Kind) (before : ℕ) (is js : List (Instant ℕ)) → ((k : ℕ) → k < before → numbered is k ≡ numbered js k) → (m : Made) → IsTrue (is_made_before before m) → made_of kinds is m ≡ made_of kinds js m
made-same kinds before is js same (made.Con c) h = refl
made-same kinds before is js same (made.Under inner r) h =
    let rules = rule-same before (numbered is) (numbered js) same r (right_of (nat_lt inner before) _ h) in
    let inners = same inner (ltb-true inner before (left_of (nat_lt inner before) _ h)) in
    λ i. instant_by kinds (rules i) (inners i)

length-instants : (kinds : List Kind) (ms : List Made) → length (instants_of kinds ms) ≡ length ms
length-instants kinds ms = length-grown (made_of kinds) [] ms ∙ omega arith

-- an instant that is there stays
pub instant-stays : (kinds : List Kind) (ms more : List Made) (n : ℕ) → n < length ms → instant_at kinds (ms ++ more) n ≡ instant_at kinds ms n
instant-stays kinds ms more n h =
    ap (λ is. numbered is n) (grown-append (made_of kinds) [] ms more)
    ∙ grown-keeps (made_of kinds) (instant_of 0) (instants_of kinds ms) more n (omega (arith, length-instants kinds ms))

-- one more instant
pub instant-more : (kinds : List Kind) (ms : List Made) (m : Made) (n : ℕ) → n ≡ length ms → instant_at kinds (ms ++ m ∷ []) n ≡ made_of kinds (instants_of kinds ms) m
instant-more kinds ms m n e =
    ap (λ is. numbered is n) (grown-append (made_of kinds) [] ms (m ∷ []))
    ∙ ap (λ k. numbered (grown (made_of kinds) (instants_of kinds ms) (m ∷ [])) k) (e ∙ sym (length-instants kinds ms))
    ∙ grown-first (made_of kinds) (instant_of 0) (instants_of kinds ms) m []

instant-from : (kinds : List Kind) (is : List (Instant ℕ)) (ms : List Made) (d : Made) (before k n : ℕ) → length is ≡ before → before + k ≡ n → IsTrue (are_made before ms) → k < length ms
    → numbered (grown (made_of kinds) is ms) n ≡ made_of kinds (grown (made_of kinds) is ms) (get_or ms k d)
instant-from kinds is [] d before k n b at h l = absurd (omega arith)
instant-from kinds is (m ∷ ms) d before zero n b at h l =
    let here : n ≡ length is = omega arith in
    ap (λ k. numbered (grown (made_of kinds) is (m ∷ ms)) k) here
    ∙ grown-first (made_of kinds) (instant_of 0) is m ms
    ∙ made-same kinds before is (grown (made_of kinds) is (m ∷ ms)) (λ k g. sym (grown-keeps (made_of kinds) (instant_of 0) is (m ∷ ms) k (omega arith))) m (left_of (is_made_before before m) _ h)
instant-from kinds is (m ∷ ms) d before (suc k) n b at h l =
    instant-from kinds (is ++ made_of kinds is m ∷ []) ms d (suc before) k n (sym (length_more is (made_of kinds is m)) ∙ ap suc b) (omega arith) (right_of (is_made_before before m) _ h) (omega arith)

-- an instant by what it is made of
pub instant-there : (kinds : List Kind) (ms : List Made) (d : Made) (n : ℕ) → IsTrue (are_made 0 ms) → n < length ms → instant_at kinds ms n ≡ made_of kinds (instants_of kinds ms) (get_or ms n d)
instant-there kinds ms d n h l = instant-from kinds [] ms d 0 n n refl (omega arith) h l

made-from : (ms : List Made) (d : Made) (before k n : ℕ) → before + k ≡ n → IsTrue (are_made before ms) → k < length ms → IsTrue (is_made_before n (get_or ms k d))
made-from [] d before k n at h l = absurd (omega arith)
made-from (m ∷ ms) d before zero n at h l = let here : before ≡ n = omega arith in subst (λ k. IsTrue (is_made_before k m)) here (left_of (is_made_before before m) _ h)
made-from (m ∷ ms) d before (suc k) n at h l = made-from ms d (suc before) k n (omega arith) (right_of (is_made_before before m) _ h) (omega arith)

-- it is made of earlier ones
pub made-there : (ms : List Made) (d : Made) (n : ℕ) → IsTrue (are_made 0 ms) → n < length ms → IsTrue (is_made_before n (get_or ms n d))
made-there ms d n h l = made-from ms d 0 n n (omega arith) h l

made-more : (before all : ℕ) (ms : List Made) (m : Made) → before + length ms ≡ all → IsTrue (are_made before ms) → IsTrue (is_made_before all m) → IsTrue (are_made before (ms ++ m ∷ []))
made-more before all [] m at h t = let here : all ≡ before = omega arith in both (is_made_before before m) true (subst (λ k. IsTrue (is_made_before k m)) here t) refl
made-more before all (n ∷ ms) m at h t = both (is_made_before before n) _ (left_of (is_made_before before n) _ h) (made-more (suc before) all ms m (omega arith) (right_of (is_made_before before n) _ h) t)

-- one more instant, of earlier ones
pub one_made : (ms : List Made) (m : Made) → IsTrue (are_made 0 ms) → IsTrue (is_made_before (length ms) m) → IsTrue (are_made 0 (ms ++ m ∷ []))
one_made ms m h t = made-more 0 (length ms) ms m (omega arith) h t

-- the rules of a number stay, whatever is put behind
pub rules-stay : (kinds : List Kind) (ls ls_more : List Link) (ms ms_more : List Made) (n : ℕ) → IsTrue (list_all (λ l. is_sound (length ms) l.rule) ls) → n ≤ length ls
    → rules_at kinds (ls ++ ls_more) (ms ++ ms_more) n ≡ rules_at kinds ls ms n
rules-stay kinds ls ls_more ms ms_more n h l =
    ap (map (rule_of (instant_at kinds (ms ++ ms_more)))) (chain-stays ls ls_more n l)
    ∙ rules-same (length ms) (instant_at kinds (ms ++ ms_more)) (instant_at kinds ms) (λ k g. instant-stays kinds ms ms_more k g) (chain_at ls n) (chain-passes (is_sound (length ms)) ls n h)

pub checked : ℕ
checked = 0
