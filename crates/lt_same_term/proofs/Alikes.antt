-- Two terms are alike exactly where they are the same.
use Rattle.std.proofs.Common.{◌≡◌, ℕ, Bool, true, false, ◌&&◌, nat_eq, refl, ap, sym, ◌∙◌, subst, arith, zero, suc}
use Rattle.std.specs.Prelude.{not, if◌then◌else◌}
use Rattle.std.proofs.lemmas.Bool.Decides.{Decides-int_eq}
use Rattle.lt_num.specs.declared.value.Value.{Value}
use Rattle.lt_num.specs.declared.value.Value.TheVariants as value
use Rattle.lt_term.specs.Process.{Process, Choices, eps, dead, con, raise, seq, loop, count, any, pri, par, assert, exist, catch, try, no_choice, choice}
use Rattle.lt_term.specs.declared.last.Last.{Last}
use Rattle.lt_term.specs.declared.last.Last.TheVariants as lasts
use Rattle.lt_same_term.specs.Alike.{Parts, alike, choices_alike, head_eq, head_of, last_eq, many_alike, many_parts, no_part, one_alike, one_part, parts_of, two_alike, two_parts, value_eq}
use Rattle.lt_same_term.specs.Laws.{AlikeIsSame}
use Rattle.lt_same_term.specs.declared.head.Head.{Head}

first_of : (a b : Bool) → (a && b) ≡ true → a ≡ true
first_of true b h = refl
first_of false b h = absurd (cc)

second_of : (a b : Bool) → (a && b) ≡ true → b ≡ true
second_of true b h = h
second_of false b h = absurd (cc)

both_are : (a b : Bool) → a ≡ true → b ≡ true → (a && b) ≡ true
both_are true b h k = k
both_are false b h k = absurd (cc)

number_is : (m n : ℕ) → nat_eq m n ≡ true → m ≡ n
number_is m n h = grind (arith, h)

number_self : (n : ℕ) → nat_eq n n ≡ true
number_self n = grind arith

truth_is : (b c : Bool) → (if b then c else not c) ≡ true → b ≡ c
truth_is true c h = sym h
truth_is false true h = absurd (cc)
truth_is false false h = refl

truth_self : (b : Bool) → (if b then b else not b) ≡ true
truth_self true = refl
truth_self false = refl

value_is : (u v : Value) → value_eq u v ≡ true → u ≡ v
value_is (value.Bool b) (value.Bool c) h = ap (λ x. value.Bool x) (truth_is b c h)
value_is (value.Bool b) (value.Num n) h = absurd (cc)
value_is (value.Num m) (value.Bool c) h = absurd (cc)
value_is (value.Num m) (value.Num n) h = ap (λ x. value.Num x) ((Decides-int_eq m n).0 h)

value_self : (v : Value) → value_eq v v ≡ true
value_self (value.Bool b) = truth_self b
value_self (value.Num n) = (Decides-int_eq n n).1 refl

last_is : (u v : Last) → last_eq u v ≡ true → u ≡ v
last_is lasts.First lasts.First h = refl
last_is lasts.First (lasts.Kept v) h = absurd (cc)
last_is (lasts.Kept u) lasts.First h = absurd (cc)
last_is (lasts.Kept u) (lasts.Kept v) h = ap (λ x. lasts.Kept x) (value_is u v h)

last_self : (v : Last) → last_eq v v ≡ true
last_self lasts.First = refl
last_self (lasts.Kept v) = value_self v

head_is : (h k : Head) → head_eq h k ≡ true → h ≡ k
head_is h k e =
    let a = number_is h.kind k.kind (first_of _ _ e) in
    let r = second_of _ _ e in
    let b = number_is h.number k.number (first_of _ _ r) in
    let s = second_of _ _ r in
    let c = number_is h.done k.done (first_of _ _ s) in
    let d = last_is h.last k.last (second_of _ _ s) in
    λ i. record { kind = a i; number = b i; done = c i; last = d i }

head_self : (h : Head) → head_eq h h ≡ true
head_self h = both_are _ _ (number_self h.kind) (both_are _ _ (number_self h.number) (both_are _ _ (number_self h.done) (last_self h.last)))

-- a term of a head and of parts
abbrev first_part : Parts → Process ℕ
first_part no_part = eps
first_part (one_part t) = t
first_part (two_parts a b) = a
first_part (many_parts cs) = eps

abbrev second_part : Parts → Process ℕ
second_part no_part = eps
second_part (one_part t) = eps
second_part (two_parts a b) = b
second_part (many_parts cs) = eps

abbrev choices_part : Parts → Choices ℕ
choices_part (many_parts cs) = cs
choices_part _ = no_choice

abbrev rebuilt_as : ℕ → Head → Parts → Process ℕ
rebuilt_as zero h p = eps
rebuilt_as (suc zero) h p = dead
rebuilt_as (suc (suc zero)) h p = con h.number
rebuilt_as (suc (suc (suc zero))) h p = raise h.number
rebuilt_as (suc (suc (suc (suc zero)))) h p = seq (first_part p) (second_part p)
rebuilt_as (suc (suc (suc (suc (suc zero))))) h p = loop (first_part p)
rebuilt_as (suc (suc (suc (suc (suc (suc zero)))))) h p = count h.number h.done (first_part p)
rebuilt_as (suc (suc (suc (suc (suc (suc (suc zero))))))) h p = any (choices_part p)
rebuilt_as (suc (suc (suc (suc (suc (suc (suc (suc zero)))))))) h p = pri (first_part p) (second_part p)
rebuilt_as (suc (suc (suc (suc (suc (suc (suc (suc (suc zero))))))))) h p = par (first_part p) (second_part p)
rebuilt_as (suc (suc (suc (suc (suc (suc (suc (suc (suc (suc zero)))))))))) h p = assert h.number (first_part p)
rebuilt_as (suc (suc (suc (suc (suc (suc (suc (suc (suc (suc (suc zero))))))))))) h p = exist h.number h.last (first_part p)
rebuilt_as (suc (suc (suc (suc (suc (suc (suc (suc (suc (suc (suc (suc zero)))))))))))) h p = catch h.number (first_part p) (second_part p)
rebuilt_as (suc (suc (suc (suc (suc (suc (suc (suc (suc (suc (suc (suc (suc zero))))))))))))) h p = try (first_part p) (second_part p)
rebuilt_as more h p = eps

abbrev rebuilt : Head → Parts → Process ℕ
rebuilt h p = rebuilt_as h.kind h p

rebuilt_is : (t : Process ℕ) → rebuilt (head_of t) (parts_of t) ≡ t
rebuilt_is eps = refl
rebuilt_is dead = refl
rebuilt_is (con c) = refl
rebuilt_is (raise z) = refl
rebuilt_is (seq a b) = refl
rebuilt_is (loop a) = refl
rebuilt_is (count i done a) = refl
rebuilt_is (any cs) = refl
rebuilt_is (pri a b) = refl
rebuilt_is (par a b) = refl
rebuilt_is (assert c a) = refl
rebuilt_is (exist x v a) = refl
rebuilt_is (catch z a b) = refl
rebuilt_is (try a b) = refl

-- terms of the same head and of the same parts are the same
same_by : (s t : Process ℕ) → head_of s ≡ head_of t → parts_of s ≡ parts_of t → s ≡ t
same_by s t h p = sym (rebuilt_is s) ∙ (λ i. rebuilt (h i) (p i)) ∙ rebuilt_is t

one_is : (a : Process ℕ) (f : Process ℕ → Bool) (p : Parts) → ((t : Process ℕ) → f t ≡ true → a ≡ t) → one_alike f p ≡ true → one_part a ≡ p
one_is a f (one_part t) k h = ap (λ x. one_part x) (k t h)
one_is a f no_part k h = absurd (cc)
one_is a f (two_parts s t) k h = absurd (cc)
one_is a f (many_parts cs) k h = absurd (cc)

two_is : (a b : Process ℕ) (f g : Process ℕ → Bool) (p : Parts) → ((t : Process ℕ) → f t ≡ true → a ≡ t) → ((t : Process ℕ) → g t ≡ true → b ≡ t) → two_alike f g p ≡ true → two_parts a b ≡ p
two_is a b f g (two_parts s t) k l h = let x = k s (first_of _ _ h) in let y = l t (second_of _ _ h) in λ i. two_parts (x i) (y i)
two_is a b f g no_part k l h = absurd (cc)
two_is a b f g (one_part t) k l h = absurd (cc)
two_is a b f g (many_parts cs) k l h = absurd (cc)

many_is : (cs : Choices ℕ) (f : Choices ℕ → Bool) (p : Parts) → ((ds : Choices ℕ) → f ds ≡ true → cs ≡ ds) → many_alike f p ≡ true → many_parts cs ≡ p
many_is cs f (many_parts ds) k h = ap (λ x. many_parts x) (k ds h)
many_is cs f no_part k h = absurd (cc)
many_is cs f (one_part t) k h = absurd (cc)
many_is cs f (two_parts s t) k h = absurd (cc)

-- of one part, of two, and of many
by_one : (s t a : Process ℕ) → parts_of s ≡ one_part a → ((u : Process ℕ) → alike a u ≡ true → a ≡ u) → (head_eq (head_of s) (head_of t) && one_alike (λ u. alike a u) (parts_of t)) ≡ true → s ≡ t
by_one s t a p k h = same_by s t (head_is (head_of s) (head_of t) (first_of _ _ h)) (p ∙ one_is a (λ u. alike a u) (parts_of t) k (second_of _ _ h))

by_two : (s t a b : Process ℕ) → parts_of s ≡ two_parts a b → ((u : Process ℕ) → alike a u ≡ true → a ≡ u) → ((u : Process ℕ) → alike b u ≡ true → b ≡ u)
    → (head_eq (head_of s) (head_of t) && two_alike (λ u. alike a u) (λ u. alike b u) (parts_of t)) ≡ true → s ≡ t
by_two s t a b p k l h = same_by s t (head_is (head_of s) (head_of t) (first_of _ _ h)) (p ∙ two_is a b (λ u. alike a u) (λ u. alike b u) (parts_of t) k l (second_of _ _ h))

-- a head without parts tells the parts
abbrev no_parts_at : ℕ → Parts → Type 0
no_parts_at zero p = no_part ≡ p
no_parts_at (suc zero) p = no_part ≡ p
no_parts_at (suc (suc zero)) p = no_part ≡ p
no_parts_at (suc (suc (suc zero))) p = no_part ≡ p
no_parts_at more p = Unit {0}

no_parts : (t : Process ℕ) → no_parts_at (head_of t).kind (parts_of t)
no_parts eps = refl
no_parts dead = refl
no_parts (con c) = refl
no_parts (raise z) = refl
no_parts (seq a b) = tt
no_parts (loop a) = tt
no_parts (count i done a) = tt
no_parts (any cs) = tt
no_parts (pri a b) = tt
no_parts (par a b) = tt
no_parts (assert c a) = tt
no_parts (exist x v a) = tt
no_parts (catch z a b) = tt
no_parts (try a b) = tt

leaf_eps : (t : Process ℕ) → head_eq (head_of eps) (head_of t) ≡ true → eps ≡ t
leaf_eps t h =
    let e = head_is (head_of eps) (head_of t) h in
    same_by eps t e (subst (λ k. no_parts_at k (parts_of t)) (sym (ap (λ (x : Head). x.kind) e)) (no_parts t))

leaf_dead : (t : Process ℕ) → head_eq (head_of dead) (head_of t) ≡ true → dead ≡ t
leaf_dead t h =
    let e = head_is (head_of dead) (head_of t) h in
    same_by dead t e (subst (λ k. no_parts_at k (parts_of t)) (sym (ap (λ (x : Head). x.kind) e)) (no_parts t))

leaf_con : (c : ℕ) (t : Process ℕ) → head_eq (head_of (con c)) (head_of t) ≡ true → con c ≡ t
leaf_con c t h =
    let e = head_is (head_of (con c)) (head_of t) h in
    same_by (con c) t e (subst (λ k. no_parts_at k (parts_of t)) (sym (ap (λ (x : Head). x.kind) e)) (no_parts t))

leaf_raise : (z : ℕ) (t : Process ℕ) → head_eq (head_of (raise z)) (head_of t) ≡ true → raise z ≡ t
leaf_raise z t h =
    let e = head_is (head_of (raise z)) (head_of t) h in
    same_by (raise z) t e (subst (λ k. no_parts_at k (parts_of t)) (sym (ap (λ (x : Head). x.kind) e)) (no_parts t))

mutual
  alike_same : (s t : Process ℕ) → alike s t ≡ true → s ≡ t
  alike_same eps t h = leaf_eps t h
  alike_same dead t h = leaf_dead t h
  alike_same (con c) t h = leaf_con c t h
  alike_same (raise z) t h = leaf_raise z t h
  alike_same (seq a b) t h = by_two (seq a b) t a b refl (alike_same a) (alike_same b) h
  alike_same (loop a) t h = by_one (loop a) t a refl (alike_same a) h
  alike_same (count i done a) t h = by_one (count i done a) t a refl (alike_same a) h
  alike_same (any cs) t h = same_by (any cs) t (head_is (head_of (any cs)) (head_of t) (first_of _ _ h)) (many_is cs (λ ds. choices_alike cs ds) (parts_of t) (choices_same cs) (second_of _ _ h))
  alike_same (pri a b) t h = by_two (pri a b) t a b refl (alike_same a) (alike_same b) h
  alike_same (par a b) t h = by_two (par a b) t a b refl (alike_same a) (alike_same b) h
  alike_same (assert c a) t h = by_one (assert c a) t a refl (alike_same a) h
  alike_same (exist x v a) t h = by_one (exist x v a) t a refl (alike_same a) h
  alike_same (catch z a b) t h = by_two (catch z a b) t a b refl (alike_same a) (alike_same b) h
  alike_same (try a b) t h = by_two (try a b) t a b refl (alike_same a) (alike_same b) h

  choices_same : (cs ds : Choices ℕ) → choices_alike cs ds ≡ true → cs ≡ ds
  choices_same no_choice no_choice h = refl
  choices_same no_choice (choice w t ds) h = absurd (cc)
  choices_same (choice v a cs) no_choice h = absurd (cc)
  choices_same (choice v a cs) (choice w b ds) h =
      let x = number_is v w (first_of _ _ h) in
      let r = second_of _ _ h in
      let y = alike_same a b (first_of _ _ r) in
      let z = choices_same cs ds (second_of _ _ r) in
      λ i. choice (x i) (y i) (z i)

mutual
  alike_self : (t : Process ℕ) → alike t t ≡ true
  alike_self eps = head_self (head_of eps)
  alike_self dead = head_self (head_of dead)
  alike_self (con c) = head_self (head_of (con c))
  alike_self (raise z) = head_self (head_of (raise z))
  alike_self (seq a b) = both_are _ _ (head_self (head_of (seq a b))) (both_are _ _ (alike_self a) (alike_self b))
  alike_self (loop a) = both_are _ _ (head_self (head_of (loop a))) (alike_self a)
  alike_self (count i done a) = both_are _ _ (head_self (head_of (count i done a))) (alike_self a)
  alike_self (any cs) = both_are _ _ (head_self (head_of (any cs))) (choices_self cs)
  alike_self (pri a b) = both_are _ _ (head_self (head_of (pri a b))) (both_are _ _ (alike_self a) (alike_self b))
  alike_self (par a b) = both_are _ _ (head_self (head_of (par a b))) (both_are _ _ (alike_self a) (alike_self b))
  alike_self (assert c a) = both_are _ _ (head_self (head_of (assert c a))) (alike_self a)
  alike_self (exist x v a) = both_are _ _ (head_self (head_of (exist x v a))) (alike_self a)
  alike_self (catch z a b) = both_are _ _ (head_self (head_of (catch z a b))) (both_are _ _ (alike_self a) (alike_self b))
  alike_self (try a b) = both_are _ _ (head_self (head_of (try a b))) (both_are _ _ (alike_self a) (alike_self b))

  choices_self : (cs : Choices ℕ) → choices_alike cs cs ≡ true
  choices_self no_choice = refl
  choices_self (choice w t cs) = both_are _ _ (number_self w) (both_are _ _ (alike_self t) (choices_self cs))

pub alike_is_same : AlikeIsSame
alike_is_same s t = (alike_same s t, λ e. subst (λ u. alike s u ≡ true) e (alike_self s))
