-- Numbers that count alike where a tree is large, and what tallies weigh.
use Rattle.std.proofs.Common.{◌≡◌, ◌<◌, ◌+◌, ◌*◌, ℕ, zero, suc, Bool, true, false, not, nat_eq, if◌then◌else◌, List, [], ◌∷◌, ◌++◌, refl, ap, sym, ◌∙◌, arith, Ok, Err, IfOk, Vec, Global, length, take, get_or}
use Rattle.std.proofs.lemmas.List.Sums.{sum_by-append, sum_by-cons, sum_by_push}
use Rattle.std.proofs.lemmas.List.{take_more}
use Rattle.std.specs.Prelude.{sum_by}
use Rattle.std.specs.declared.alloc.AllocError.{AllocError}
use Rattle.std.specs.declared.result.Result.{Result}
use Rattle.lt_num.specs.declared.kind.Kind.{Kind}
use Rattle.lt_term.proofs.Sizes.{size_is_weight}
use Rattle.lt_term.specs.Offers.{offers_of}
use Rattle.lt_term.specs.Process.{Process, seq, par, catch}
use Rattle.lt_term.specs.Size.{Weights, capped, each_one, weight_of, weight_of_each, with_raise}
use Rattle.lt_term.specs.Tree.{size}
use Rattle.lt_term.specs.View.{process, choices}
use Rattle.lt_term.proofs.Views.{process_any}
use Rattle.lt_term.specs.declared.term.Term.{Term, Any}
use Rattle.lt_term.specs.declared.tally.Tally.{Tally}
use Rattle.lt_term.specs.inner.Alike.{IsAlike, count_in, raises_weight, scaled, without}
use Rattle.lt_term.specs.inner.TallyView.{tally_weight}

-- Sums and products of numbers that count alike.

capped_alike : (n : ℕ) → IsAlike (capped n) n
capped_alike n = omega arith

plus_alike : (a b c d : ℕ) → IsAlike a b → IsAlike c d → IsAlike (a + c) (b + d)
plus_alike a b c d h k = omega (arith, h, k)

times_alike_right : (n a b : ℕ) → IsAlike a b → IsAlike (n * a) (n * b)
times_alike_right zero a b h = omega arith
times_alike_right (suc n) a b h =
    let k : IsAlike (a + n * a) (b + n * b) = plus_alike a b (n * a) (n * b) h (times_alike_right n a b h) in
    let e : suc n * a ≡ a + n * a = omega arith in
    let d : suc n * b ≡ b + n * b = omega arith in
    ap capped e ∙ k ∙ sym (ap capped d)

times_alike_left : (m n a : ℕ) → IsAlike m n → IsAlike (m * a) (n * a)
times_alike_left m n a h =
    let e : m * a ≡ a * m = omega arith in
    let d : n * a ≡ a * n = omega arith in
    ap capped e ∙ times_alike_right a m n h ∙ sym (ap capped d)

-- four parts that count alike
four_alike : (a b c d a' b' c' d' : ℕ) → IsAlike a a' → IsAlike b b' → IsAlike c c' → IsAlike d d' → IsAlike (a + (b + (c + d))) (a' + (b' + (c' + d')))
four_alike a b c d a' b' c' d' ha hb hc hd =
    plus_alike a a' (b + (c + d)) (b' + (c' + d')) ha (plus_alike b b' (c + d) (c' + d') hb (plus_alike c c' d d' hc hd))

-- What leaves that raise exceptions weigh.

raises_alike : (f g : ℕ → ℕ) (rs : List (ℕ × ℕ)) → ((z : ℕ) → IsAlike (f z) (g z)) → IsAlike (raises_weight f rs) (raises_weight g rs)
raises_alike f g [] h = refl
raises_alike f g (r ∷ rs) h =
    ap capped (sum_by-cons (λ (x : ℕ × ℕ). x.1 * f x.0) r rs)
    ∙ plus_alike (r.1 * f r.0) (r.1 * g r.0) (raises_weight f rs) (raises_weight g rs) (times_alike_right r.1 (f r.0) (g r.0) (h r.0)) (raises_alike f g rs h)
    ∙ sym (ap capped (sum_by-cons (λ (x : ℕ × ℕ). x.1 * g x.0) r rs))

scaled_weight : (f : ℕ → ℕ) (c : ℕ) (rs : List (ℕ × ℕ)) → IsAlike (raises_weight f (scaled c rs)) (c * raises_weight f rs)
scaled_weight f c [] = omega arith
scaled_weight f c (r ∷ rs) =
    let e : c * r.1 * f r.0 + c * raises_weight f rs ≡ c * (r.1 * f r.0 + raises_weight f rs) = omega arith in
    ap capped (sum_by-cons (λ (x : ℕ × ℕ). x.1 * f x.0) (r.0, capped (c * r.1)) (scaled c rs))
    ∙ plus_alike (capped (c * r.1) * f r.0) (c * r.1 * f r.0) (raises_weight f (scaled c rs)) (c * raises_weight f rs) (times_alike_left (capped (c * r.1)) (c * r.1) (f r.0) (capped_alike (c * r.1))) (scaled_weight f c rs)
    ∙ ap capped (e ∙ ap (λ n. c * n) (sym (sum_by-cons (λ (x : ℕ × ℕ). x.1 * f x.0) r rs)))

more_raises : (f : ℕ → ℕ) (c : ℕ) (rs ps : List (ℕ × ℕ)) → IsAlike (raises_weight f (rs ++ scaled c ps)) (raises_weight f rs + c * raises_weight f ps)
more_raises f c rs ps =
    ap capped (sum_by-append (λ (x : ℕ × ℕ). x.1 * f x.0) rs (scaled c ps))
    ∙ plus_alike (raises_weight f rs) (raises_weight f rs) (raises_weight f (scaled c ps)) (c * raises_weight f ps) refl (scaled_weight f c ps)

-- one more leaf, of the exception or of another one
caught_one : (b : Bool) (f : ℕ → ℕ) (n m s : ℕ) (r : ℕ × ℕ) (rs : List (ℕ × ℕ)) → m ≡ s * n + raises_weight f rs
    → r.1 * (if b then n else f r.0) + m ≡ ((if b then r.1 else 0) + s) * n + raises_weight f (if not b then r ∷ rs else rs)
caught_one true f n m s r rs e =
    let d : r.1 * n + (s * n + raises_weight f rs) ≡ (r.1 + s) * n + raises_weight f rs = omega arith in
    ap (λ k. r.1 * n + k) e ∙ d
caught_one false f n m s r rs e =
    let d : r.1 * f r.0 + (s * n + raises_weight f rs) ≡ (0 + s) * n + (r.1 * f r.0 + raises_weight f rs) = omega arith in
    ap (λ k. r.1 * f r.0 + k) e ∙ d ∙ ap (λ k. (0 + s) * n + k) (sym (sum_by-cons (λ (x : ℕ × ℕ). x.1 * f x.0) r rs))

-- what leaves weigh, where those of one exception weigh something else
caught_weight : (f : ℕ → ℕ) (z n : ℕ) (rs : List (ℕ × ℕ)) → raises_weight (λ y. if nat_eq y z then n else f y) rs ≡ count_in z rs * n + raises_weight f (without z rs)
caught_weight f z n [] = omega arith
caught_weight f z n (r ∷ rs) =
    sum_by-cons (λ (x : ℕ × ℕ). x.1 * (if nat_eq x.0 z then n else f x.0)) r rs
    ∙ caught_one (nat_eq r.0 z) f n (raises_weight (λ y. if nat_eq y z then n else f y) rs) (count_in z rs) r (without z rs) (caught_weight f z n rs)
    ∙ ap (λ k. k * n + raises_weight f (without z (r ∷ rs))) (sym (sum_by-cons (λ (x : ℕ × ℕ). if nat_eq x.0 z then x.1 else 0) r rs))

-- two weights that count alike
tally_alike : (w u : Weights) (k : Tally) → IsAlike w.other u.other → IsAlike w.vanish u.vanish → IsAlike w.go u.go → ((z : ℕ) → IsAlike (w.raise z) (u.raise z)) → IsAlike (tally_weight w k) (tally_weight u k)
tally_alike w u k o v g r =
    four_alike _ _ _ _ _ _ _ _ (times_alike_right k.others w.other u.other o) (times_alike_right k.vanishes w.vanish u.vanish v) (times_alike_right k.goes w.go u.go g) (raises_alike w.raise u.raise k.raises.items r)

-- What the rules make of tallies.

-- a tally that has what counts alike
refined : (r : Result Tally AllocError) (f g : Weights → ℕ) → ((w : Weights) → IsAlike (f w) (g w)) → IfOk r (λ k. (w : Weights) → IsAlike (tally_weight w k) (f w)) → IfOk r (λ k. (w : Weights) → IsAlike (tally_weight w k) (g w))
refined (Ok k) f g e h = λ w. h w ∙ e w
refined (Err x) f g e h = tt

-- so many copies, by the numbers of each kind
pub copies_weigh : (rest part k : Tally) (c x y z : ℕ) → x ≡ capped (c * part.others) → k.others ≡ capped (rest.others + x) → y ≡ capped (c * part.vanishes) → k.vanishes ≡ capped (rest.vanishes + y) → z ≡ capped (c * part.goes) → k.goes ≡ capped (rest.goes + z)
    → k.raises.items ≡ rest.raises.items ++ scaled c part.raises.items → (w : Weights) → IsAlike (tally_weight w k) (tally_weight w rest + c * tally_weight w part)
copies_weigh rest part k c x y z hx ho hy hv hz hg hr w =
    let more : (n m p q : ℕ) → q ≡ capped (c * p) → n ≡ capped (m + q) → IsAlike n (m + c * p) = λ n m p q e d. ap capped d ∙ capped_alike (m + q) ∙ plus_alike m m q (c * p) refl (ap capped e ∙ capped_alike (c * p)) in
    let sums : (o v g r po pv pg pr wo wv wg : ℕ) → (o + c * po) * wo + ((v + c * pv) * wv + ((g + c * pg) * wg + (r + c * pr))) ≡ (o * wo + (v * wv + (g * wg + r))) + c * (po * wo + (pv * wv + (pg * wg + pr))) = λ o v g r po pv pg pr wo wv wg. omega arith in
    four_alike (k.others * w.other) (k.vanishes * w.vanish) (k.goes * w.go) (raises_weight w.raise k.raises.items) _ _ _ _
    (times_alike_left k.others (rest.others + c * part.others) w.other (more k.others rest.others part.others x hx ho))
    (times_alike_left k.vanishes (rest.vanishes + c * part.vanishes) w.vanish (more k.vanishes rest.vanishes part.vanishes y hy hv))
    (times_alike_left k.goes (rest.goes + c * part.goes) w.go (more k.goes rest.goes part.goes z hz hg))
    (ap (λ rs. capped (raises_weight w.raise rs)) hr ∙ more_raises w.raise c rest.raises.items part.raises.items)
    ∙ ap capped (sums rest.others rest.vanishes rest.goes (raises_weight w.raise rest.raises.items) part.others part.vanishes part.goes (raises_weight w.raise part.raises.items) w.other w.vanish w.go)

pub both_weigh : (r : Result Tally AllocError) (first second : Tally) → IfOk r (λ k. (w : Weights) → IsAlike (tally_weight w k) (tally_weight w first + 1 * tally_weight w second)) → IfOk r (λ k. (w : Weights) → IsAlike (tally_weight w k) (tally_weight w first + tally_weight w second))
both_weigh r first second h =
    let one : (a b : ℕ) → a + 1 * b ≡ a + b = λ a b. omega arith in
    refined r (λ w. tally_weight w first + 1 * tally_weight w second) (λ w. tally_weight w first + tally_weight w second) (λ w. ap capped (one (tally_weight w first) (tally_weight w second))) h

pub choice_weighs : (below : Tally) (n : ℕ) → n ≡ capped (below.others + 1) → (w : Weights) → IsAlike (tally_weight w (record below { others = n })) (w.other + tally_weight w below)
choice_weighs below n e w =
    let sums : (o v g r wo wv wg : ℕ) → (o + 1) * wo + (v * wv + (g * wg + r)) ≡ wo + (o * wo + (v * wv + (g * wg + r))) = λ o v g r wo wv wg. omega arith in
    four_alike (n * w.other) (below.vanishes * w.vanish) (below.goes * w.go) (raises_weight w.raise below.raises.items) ((below.others + 1) * w.other) _ _ _
    (times_alike_left n (below.others + 1) w.other (ap capped e ∙ capped_alike (below.others + 1))) refl refl refl
    ∙ ap capped (sums below.others below.vanishes below.goes (raises_weight w.raise below.raises.items) w.other w.vanish w.go)

pub followed_weighs : (r : Result Tally AllocError) (first second : Tally) → IfOk r (λ k. (w : Weights) → IsAlike (tally_weight w k) (tally_weight w (record first { vanishes = 0 }) + first.vanishes * tally_weight w second))
    → IfOk r (λ k. (w : Weights) → IsAlike (tally_weight w k) (tally_weight (record w { vanish = tally_weight w second }) first))
followed_weighs r first second h =
    let sums : (o v g s b wo wv wg : ℕ) → (o * wo + (0 * wv + (g * wg + s))) + v * b ≡ o * wo + (v * b + (g * wg + s)) = λ o v g s b wo wv wg. omega arith in
    refined r (λ w. tally_weight w (record first { vanishes = 0 }) + first.vanishes * tally_weight w second) (λ w. tally_weight (record w { vanish = tally_weight w second }) first)
    (λ w. ap capped (sums first.others first.vanishes first.goes (raises_weight w.raise first.raises.items) (tally_weight w second) w.other w.vanish w.go)) h

pub repeated_weighs : (body : Tally) (m n : ℕ) → m ≡ capped (body.others + body.vanishes) → n ≡ capped (m + 1) → (w : Weights)
    → IsAlike (tally_weight w (record body { others = n; vanishes = 1 })) (w.other + (tally_weight (record w { vanish = w.other }) body + w.vanish))
repeated_weighs body m n e d w =
    let sums : (o v g s wo wv wg : ℕ) → ((o + v) + 1) * wo + (1 * wv + (g * wg + s)) ≡ wo + ((o * wo + (v * wo + (g * wg + s))) + wv) = λ o v g s wo wv wg. omega arith in
    let all : IsAlike n ((body.others + body.vanishes) + 1) =
    ap capped d ∙ capped_alike (m + 1) ∙ plus_alike m (body.others + body.vanishes) 1 1 (ap capped e ∙ capped_alike (body.others + body.vanishes)) refl in
    four_alike (n * w.other) (1 * w.vanish) (body.goes * w.go) (raises_weight w.raise body.raises.items) (((body.others + body.vanishes) + 1) * w.other) _ _ _
    (times_alike_left n ((body.others + body.vanishes) + 1) w.other all) refl refl refl
    ∙ ap capped (sums body.others body.vanishes body.goes (raises_weight w.raise body.raises.items) w.other w.vanish w.go)

pub beside_weighs : (first second all : Tally) (n x v y g : ℕ) → n ≡ capped (first.vanishes + first.goes) → x ≡ capped (first.vanishes * second.vanishes) → v ≡ capped (all.vanishes + x) → y ≡ capped (first.goes * second.vanishes) → g ≡ capped (all.goes + y)
    → ((w : Weights) → IsAlike (tally_weight w all) (tally_weight w (record first { vanishes = 0; goes = 0 }) + n * tally_weight w (record second { vanishes = 0 })))
    → (w : Weights) → IsAlike (tally_weight w (record all { vanishes = v; goes = g })) (tally_weight (record w { vanish = tally_weight w second; go = tally_weight (record w { vanish = w.go }) second }) first)
beside_weighs first second all n x v y g hn hx hv hy hg h w =
    let more : (n m p q : ℕ) → q ≡ capped p → n ≡ capped (m + q) → IsAlike n (m + p) = λ n m p q e d. ap capped d ∙ capped_alike (m + q) ∙ plus_alike m m q p refl (ap capped e ∙ capped_alike p) in
    let ends : ℕ = first.vanishes * second.vanishes * w.vanish + first.goes * second.vanishes * w.go in
    let apart : (o v g r ae be wo wv wg : ℕ) → o * wo + ((v + ae) * wv + ((g + be) * wg + r)) ≡ (o * wo + (v * wv + (g * wg + r))) + (ae * wv + be * wg) = λ o v g r ae be wo wv wg. omega arith in
    let sums : (o t a b p q f e wo wv wg : ℕ) → (o * wo + (0 * wv + (0 * wg + t)) + (a + b) * (p * wo + (0 * wv + (q * wg + f)))) + (a * e * wv + b * e * wg)
    ≡ o * wo + (a * (p * wo + (e * wv + (q * wg + f))) + (b * (p * wo + (e * wg + (q * wg + f))) + t)) = λ o t a b p q f e wo wv wg. omega arith in
    four_alike (all.others * w.other) (v * w.vanish) (g * w.go) (raises_weight w.raise all.raises.items) _ _ _ _ refl
    (times_alike_left v (all.vanishes + first.vanishes * second.vanishes) w.vanish (more v all.vanishes (first.vanishes * second.vanishes) x hx hv))
    (times_alike_left g (all.goes + first.goes * second.vanishes) w.go (more g all.goes (first.goes * second.vanishes) y hy hg)) refl
    ∙ ap capped (apart all.others all.vanishes all.goes (raises_weight w.raise all.raises.items) (first.vanishes * second.vanishes) (first.goes * second.vanishes) w.other w.vanish w.go)
    ∙ plus_alike _ _ ends ends (h w ∙ plus_alike (tally_weight w (record first { vanishes = 0; goes = 0 })) _ _ _ refl
    (times_alike_left n (first.vanishes + first.goes) (tally_weight w (record second { vanishes = 0 })) (ap capped hn ∙ capped_alike (first.vanishes + first.goes)))) refl
    ∙ ap capped (sums first.others (raises_weight w.raise first.raises.items) first.vanishes first.goes second.others second.goes (raises_weight w.raise second.raises.items) second.vanishes w.other w.vanish w.go)

pub caught_weighs : (r : Result Tally AllocError) (z : ℕ) (body rest handler : Tally) (c : ℕ) → c ≡ capped (count_in z body.raises.items) → rest.others ≡ body.others → rest.vanishes ≡ body.vanishes → rest.goes ≡ body.goes → rest.raises.items ≡ without z body.raises.items
    → IfOk r (λ k. (w : Weights) → IsAlike (tally_weight w k) (tally_weight w rest + c * tally_weight w handler))
    → IfOk r (λ k. (w : Weights) → IsAlike (tally_weight w k) (tally_weight (with_raise w z (tally_weight w handler)) body))
caught_weighs r z body rest handler c e ho hv hg hr h =
    let sums : (a b d s c n : ℕ) → (a + (b + (d + s))) + c * n ≡ a + (b + (d + (c * n + s))) = λ a b d s c n. omega arith in
    refined r (λ w. tally_weight w rest + c * tally_weight w handler) (λ w. tally_weight (with_raise w z (tally_weight w handler)) body)
    (λ w.
    plus_alike (tally_weight w rest) (tally_weight w rest) (c * tally_weight w handler) (count_in z body.raises.items * tally_weight w handler) refl
    (times_alike_left c (count_in z body.raises.items) (tally_weight w handler) (ap capped e ∙ capped_alike (count_in z body.raises.items)))
    ∙ ap (λ n. capped (n + count_in z body.raises.items * tally_weight w handler)) (λ i. ho i * w.other + (hv i * w.vanish + (hg i * w.go + raises_weight w.raise (hr i))))
    ∙ ap capped (sums (body.others * w.other) (body.vanishes * w.vanish) (body.goes * w.go) (raises_weight w.raise (without z body.raises.items)) (count_in z body.raises.items) (tally_weight w handler))
    ∙ ap (λ n. capped (body.others * w.other + (body.vanishes * w.vanish + (body.goes * w.go + n)))) (sym (caught_weight w.raise z (tally_weight w handler) body.raises.items))) h

-- What the terms weigh of which these are the tallies.

-- a tally of a term
abbrev IsTally : Process ℕ → Tally → Type 0
IsTally p k = (w : Weights) → IsAlike (tally_weight w k) (weight_of w p)

pub seq_tally : (r : Result Tally AllocError) (whole a b : Process ℕ) (first second : Tally) → whole ≡ seq a b → IsTally a first → IsTally b second
    → IfOk r (λ k. (w : Weights) → IsAlike (tally_weight w k) (tally_weight (record w { vanish = tally_weight w second }) first)) → IfOk r (λ k. (w : Weights) → IsAlike (tally_weight w k) (weight_of w whole))
seq_tally r whole a b first second e ha hb h =
    refined r (λ w. tally_weight (record w { vanish = tally_weight w second }) first) (λ w. weight_of w whole)
    (λ w.
    tally_alike (record w { vanish = tally_weight w second }) (record w { vanish = weight_of w b }) first refl (hb w) refl (λ z. refl)
    ∙ ha (record w { vanish = weight_of w b }) ∙ ap (λ p. capped (weight_of w p)) (sym e)) h

pub par_tally : (r : Result Tally AllocError) (whole a b : Process ℕ) (first second : Tally) → whole ≡ par a b → IsTally a first → IsTally b second
    → IfOk r (λ k. (w : Weights) → IsAlike (tally_weight w k) (tally_weight (record w { vanish = tally_weight w second; go = tally_weight (record w { vanish = w.go }) second }) first))
    → IfOk r (λ k. (w : Weights) → IsAlike (tally_weight w k) (weight_of w whole))
par_tally r whole a b first second e ha hb h =
    refined r (λ w. tally_weight (record w { vanish = tally_weight w second; go = tally_weight (record w { vanish = w.go }) second }) first) (λ w. weight_of w whole)
    (λ w.
    let u : Weights = record w { vanish = weight_of w b; go = weight_of (record w { vanish = w.go }) b } in
    tally_alike (record w { vanish = tally_weight w second; go = tally_weight (record w { vanish = w.go }) second }) (record w { vanish = weight_of w b; go = weight_of (record w { vanish = w.go }) b }) first
    refl (hb w) (hb (record w { vanish = w.go })) (λ z. refl)
    ∙ ha (record w { vanish = weight_of w b; go = weight_of (record w { vanish = w.go }) b }) ∙ ap (λ p. capped (weight_of w p)) (sym e)) h

raise_alike : (w : Weights) (z m n y : ℕ) (b : Bool) → IsAlike m n → IsAlike (if b then m else w.raise y) (if b then n else w.raise y)
raise_alike w z m n y true h = h
raise_alike w z m n y false h = refl

pub catch_tally : (r : Result Tally AllocError) (whole a b : Process ℕ) (z : ℕ) (body handler : Tally) → whole ≡ catch z a b → IsTally a body → IsTally b handler
    → IfOk r (λ k. (w : Weights) → IsAlike (tally_weight w k) (tally_weight (with_raise w z (tally_weight w handler)) body)) → IfOk r (λ k. (w : Weights) → IsAlike (tally_weight w k) (weight_of w whole))
catch_tally r whole a b z body handler e ha hb h =
    refined r (λ w. tally_weight (with_raise w z (tally_weight w handler)) body) (λ w. weight_of w whole)
    (λ w.
    tally_alike (with_raise w z (tally_weight w handler)) (with_raise w z (weight_of w b)) body refl refl refl (λ y. raise_alike w z (tally_weight w handler) (weight_of w b) y (nat_eq y z) (hb w))
    ∙ ha (with_raise w z (weight_of w b)) ∙ ap (λ p. capped (weight_of w p)) (sym e)) h

-- a loop, or a counted one
pub turn_tally : (whole a : Process ℕ) (k body : Tally) → ((w : Weights) → weight_of w whole ≡ w.other + (weight_of (record w { vanish = w.other }) a + w.vanish)) → IsTally a body
    → ((w : Weights) → IsAlike (tally_weight w k) (w.other + (tally_weight (record w { vanish = w.other }) body + w.vanish))) → IsTally whole k
turn_tally whole a k body e ha h w =
    h w ∙ plus_alike w.other w.other _ _ refl (plus_alike _ _ w.vanish w.vanish (ha (record w { vanish = w.other })) refl) ∙ sym (ap capped (e w))

-- two parts, and a choice above them
pub either_tally : (a b : Process ℕ) (k below first second : Tally) → IsTally a first → IsTally b second
    → ((w : Weights) → IsAlike (tally_weight w below) (tally_weight w first + tally_weight w second)) → ((w : Weights) → IsAlike (tally_weight w k) (w.other + tally_weight w below))
    → (w : Weights) → IsAlike (tally_weight w k) (w.other + (weight_of w a + weight_of w b))
either_tally a b k below first second ha hb h g w =
    g w ∙ plus_alike w.other w.other _ _ refl (h w ∙ plus_alike _ _ _ _ (ha w) (hb w))

-- a priority, or a part that has another one for where nothing can be done
pub order_tally : (r : Result Tally AllocError) (whole a b : Process ℕ) → ((w : Weights) → weight_of w whole ≡ w.other + (weight_of w a + weight_of w b))
    → IfOk r (λ k. (w : Weights) → IsAlike (tally_weight w k) (w.other + (weight_of w a + weight_of w b))) → IfOk r (λ k. (w : Weights) → IsAlike (tally_weight w k) (weight_of w whole))
order_tally r whole a b e h = refined r (λ w. w.other + (weight_of w a + weight_of w b)) (λ w. weight_of w whole) (λ w. sym (ap capped (e w))) h

-- what parts of a choice weigh, one by one
each_weight : (w : Weights) (parts : List (ℕ × Term)) → weight_of_each w (choices parts) ≡ sum_by (λ p. weight_of w (process p.1)) parts
each_weight w [] = refl
each_weight w (p ∷ parts) = ap (λ n. weight_of w (process p.1) + n) (each_weight w parts) ∙ sym (sum_by-cons (λ (q : ℕ × Term). weight_of w (process q.1)) p parts)

pub any_tally : (whole : Process ℕ) (v : Vec (ℕ × Term) Global) (k below : Tally) → whole ≡ process (Any v) → ((w : Weights) → IsAlike (tally_weight w below) (sum_by (λ p. weight_of w (process p.1)) v.items))
    → ((w : Weights) → IsAlike (tally_weight w k) (w.other + tally_weight w below)) → IsTally whole k
any_tally whole v k below e h g w =
    g w ∙ plus_alike w.other w.other _ _ refl (h w ∙ sym (ap capped (each_weight w v.items))) ∙ sym (ap (λ p. capped (weight_of w p)) (e ∙ process_any v))

-- one more part of a choice
pub more_tally : (items : List (ℕ × Term)) (i : ℕ) (p : ℕ × Term) (all tally new : Tally) → i < length items → p ≡ get_or items i p → ((w : Weights) → IsAlike (tally_weight w all) (sum_by (λ q. weight_of w (process q.1)) (take i items))) → IsTally (process p.1) tally
    → ((w : Weights) → IsAlike (tally_weight w new) (tally_weight w all + tally_weight w tally)) → (w : Weights) → IsAlike (tally_weight w new) (sum_by (λ q. weight_of w (process q.1)) (take (i + 1) items))
more_tally items i p all tally new l e ha ht h w =
    let f : ℕ × Term → ℕ = λ q. weight_of w (process q.1) in
    let more : sum_by f (take (i + 1) items) ≡ sum_by f (take i items) + f p =
    ap (sum_by f) (take_more items i p l) ∙ sum_by_push f (take i items) (get_or items i p) ∙ ap (λ q. sum_by f (take i items) + f q) (sym e) in
    h w ∙ plus_alike _ _ _ _ (ha w) (ht w) ∙ sym (ap capped more)

-- the number of nodes of a tree is what its tally weighs
pub size_is_total : (p : Process ℕ) (k : Tally) (n : ℕ) → IsTally p k → n ≡ capped (tally_weight each_one k) → (kinds : List Kind) → n ≡ capped (size (offers_of kinds p))
size_is_total p k n h e kinds = e ∙ h each_one ∙ sym (ap capped (size_is_weight kinds p))
