-- Tries, one more and no more.
use Rattle.std.proofs.Common.{◌≡◌, ℕ, zero, suc, ◌+◌, ◌-◌, ◌<◌, ◌≤◌, Bool, true, false, nat_eq, if◌then◌else◌, List, [], ◌∷◌, ◌++◌, All, length, sum, set, refl, ap, sym, ◌∙◌, arith, append_assoc, append-nil, length-append}
use Rattle.std.proofs.lemmas.Bool.{eqb-true}
use Rattle.lt_draw.specs.Pick.{picked}
use Rattle.lt_draw_path.specs.Order.{picks, slot_of}

more_by : (word : ℕ → ℕ) (position n a k : ℕ) (ws : List ℕ) (b : Bool) → nat_eq (sum ws) 0 ≡ b → 0 < sum ws → k ≡ picked ws (word (slot_of position a))
    → (if b then [] else (let j : ℕ = picked ws (word (slot_of position a)) in j ∷ picks word position n (suc a) (set ws j 0))) ≡ k ∷ picks word position n (suc a) (set ws k 0)
more_by word position n a k ws true e h is = absurd (let z = eqb-true (sum ws) 0 e in omega (arith, z, h))
more_by word position n a k ws false e h is = ap (λ j. j ∷ picks word position n (suc a) (set ws j 0)) (sym is)

-- one more try, while weights are left
pub picks-more : (word : ℕ → ℕ) (position n a k : ℕ) (ws : List ℕ) → a < n → 0 < sum ws → k ≡ picked ws (word (slot_of position a))
    → picks word position (n - a) a ws ≡ k ∷ picks word position (n - (a + 1)) (a + 1) (set ws k 0)
picks-more word position n a k ws l h is =
    let m : n - a ≡ suc (n - (a + 1)) = omega arith in
    let s : suc a ≡ a + 1 = omega arith in
    ap (λ j. picks word position j a ws) m
    ∙ more_by word position (n - (a + 1)) a k ws (nat_eq (sum ws) 0) refl h is
    ∙ ap (λ j. k ∷ picks word position (n - (a + 1)) j (set ws k 0)) s

none_by : (word : ℕ → ℕ) (position n a : ℕ) (ws : List ℕ) → sum ws ≡ 0 → picks word position n a ws ≡ []
none_by word position zero a ws h = refl
none_by word position (suc n) a ws h = ap (λ s. if nat_eq s 0 then [] else (let j : ℕ = picked ws (word (slot_of position a)) in j ∷ picks word position n (suc a) (set ws j 0))) h

-- no more tries, once no weights are left
pub picks-none : (word : ℕ → ℕ) (position n a : ℕ) (ws : List ℕ) → sum ws ≡ 0 → picks word position n a ws ≡ []
picks-none word position n a ws h = none_by word position n a ws h

-- no more tries, once there were as many as parts
pub picks-all : (word : ℕ → ℕ) (position n a : ℕ) (ws : List ℕ) → n ≤ a → picks word position (n - a) a ws ≡ []
picks-all word position n a ws l = let z : n - a ≡ 0 = omega arith in ap (λ j. picks word position j a ws) z

-- one more place, and no more
pub places-more : (old new all : List ℕ) (k : ℕ) (ks ks' : List ℕ) → old ++ ks ≡ all → ks ≡ k ∷ ks' → new ≡ old ++ k ∷ [] → new ++ ks' ≡ all
places-more old new all k ks ks' h e n = ap (λ t. t ++ ks') n ∙ append_assoc old (k ∷ []) ks' ∙ ap (λ js. old ++ js) (sym e) ∙ h

pub places-none : (old all ks : List ℕ) → old ++ ks ≡ all → ks ≡ [] → old ≡ all
places-none old all ks h e = sym (append-nil old) ∙ ap (λ js. old ++ js) (sym e) ∙ h

-- one more place among those that are tried
pub tried_more : (word : ℕ → ℕ) (position n k x : ℕ) (ws old new all : List ℕ) → length old < n → 0 < sum ws → k ≡ picked ws x → x ≡ word (slot_of position (length old))
    → old ++ picks word position (n - length old) (length old) ws ≡ all → new ≡ old ++ k ∷ [] → new ++ picks word position (n - length new) (length new) (set ws k 0) ≡ all
tried_more word position n k x ws old new all l h is at e d =
    let m : length new ≡ length old + 1 = ap length d ∙ length-append old (k ∷ []) in
    places-more old new all k _ _ e
    (picks-more word position n (length old) k ws l h (is ∙ ap (picked ws) at) ∙ ap (λ j. k ∷ picks word position (n - j) j (set ws k 0)) (sym m)) d

-- one number below another
pub one_below : (k n : ℕ) → k < n → All (λ j. j < n) (k ∷ [])
one_below k n l zero d h = l
one_below k n l (suc j) d h = absurd (omega (arith, h))
