-- Nodes in preorder are those of one tree alone.
use Rattle.std.proofs.Common.{◌≡◌, Bool, List, ◌∷◌, ap, refl}
use Rattle.lt_legal.specs.Nodes.{Node, Parts, Shape, choice, faulty, flat, flat_in, leaf, no_part, order, ordered, part, spoilt, tip, weighted, weights}

head_is : {A : Type 0} (x y : A) (xs ys : List A) → x ∷ xs ≡ y ∷ ys → x ≡ y
head_is x y xs ys h = cc

tail_is : {A : Type 0} (x y : A) (xs ys : List A) → x ∷ xs ≡ y ∷ ys → xs ≡ ys
tail_is x y xs ys h = cc

tip_is : (b c : Bool) → tip b ≡ tip c → b ≡ c
tip_is b c h = cc

choice_is : (xs ys : List Bool) → choice xs ≡ choice ys → xs ≡ ys
choice_is xs ys h = cc

spoilt_is : (b c : Bool) (xs ys : List Bool) → spoilt b xs ≡ spoilt c ys → (b ≡ c) × (xs ≡ ys)
spoilt_is b c xs ys h = let p : b ≡ c = cc in let q : xs ≡ ys = cc in (p, q)

mutual
  pub flat_one : (s t : Shape) (ns ms : List Node) → flat s ns ≡ flat t ms → (s ≡ t) × (ns ≡ ms)
  flat_one (leaf b) (leaf c) ns ms h = (ap leaf (tip_is b c (head_is (tip b) (tip c) ns ms h)), tail_is (tip b) (tip c) ns ms h)
  flat_one (leaf b) (ordered a d) ns ms h = absurd (let k = head_is (tip b) order ns (flat a (flat d ms)) h in cc)
  flat_one (leaf b) (weighted ps) ns ms h = absurd (let k = head_is (tip b) (choice (weights ps)) ns (flat_in ps ms) h in cc)
  flat_one (leaf b) (faulty c ps) ns ms h = absurd (let k = head_is (tip b) (spoilt c (weights ps)) ns (flat_in ps ms) h in cc)
  flat_one (ordered a b) (leaf c) ns ms h = absurd (let k = head_is order (tip c) (flat a (flat b ns)) ms h in cc)
  flat_one (ordered a b) (ordered c d) ns ms h =
      let p = flat_one a c (flat b ns) (flat d ms) (tail_is order order (flat a (flat b ns)) (flat c (flat d ms)) h) in
      let q = flat_one b d ns ms p.1 in
      (λ i. ordered (p.0 i) (q.0 i), q.1)
  flat_one (ordered a b) (weighted ps) ns ms h = absurd (let k = head_is order (choice (weights ps)) (flat a (flat b ns)) (flat_in ps ms) h in cc)
  flat_one (ordered a b) (faulty c ps) ns ms h = absurd (let k = head_is order (spoilt c (weights ps)) (flat a (flat b ns)) (flat_in ps ms) h in cc)
  flat_one (weighted ps) (leaf c) ns ms h = absurd (let k = head_is (choice (weights ps)) (tip c) (flat_in ps ns) ms h in cc)
  flat_one (weighted ps) (ordered c d) ns ms h = absurd (let k = head_is (choice (weights ps)) order (flat_in ps ns) (flat c (flat d ms)) h in cc)
  flat_one (weighted ps) (weighted qs) ns ms h =
      let e = choice_is (weights ps) (weights qs) (head_is (choice (weights ps)) (choice (weights qs)) (flat_in ps ns) (flat_in qs ms) h) in
      let p = parts_one ps qs ns ms e (tail_is (choice (weights ps)) (choice (weights qs)) (flat_in ps ns) (flat_in qs ms) h) in
      (ap weighted p.0, p.1)
  flat_one (weighted ps) (faulty c qs) ns ms h = absurd (let k = head_is (choice (weights ps)) (spoilt c (weights qs)) (flat_in ps ns) (flat_in qs ms) h in cc)
  flat_one (faulty b ps) (leaf c) ns ms h = absurd (let k = head_is (spoilt b (weights ps)) (tip c) (flat_in ps ns) ms h in cc)
  flat_one (faulty b ps) (ordered c d) ns ms h = absurd (let k = head_is (spoilt b (weights ps)) order (flat_in ps ns) (flat c (flat d ms)) h in cc)
  flat_one (faulty b ps) (weighted qs) ns ms h = absurd (let k = head_is (spoilt b (weights ps)) (choice (weights qs)) (flat_in ps ns) (flat_in qs ms) h in cc)
  flat_one (faulty b ps) (faulty c qs) ns ms h =
      let e = spoilt_is b c (weights ps) (weights qs) (head_is (spoilt b (weights ps)) (spoilt c (weights qs)) (flat_in ps ns) (flat_in qs ms) h) in
      let p = parts_one ps qs ns ms e.1 (tail_is (spoilt b (weights ps)) (spoilt c (weights qs)) (flat_in ps ns) (flat_in qs ms) h) in
      (λ i. faulty (e.0 i) (p.0 i), p.1)

  parts_one : (ps qs : Parts) (ns ms : List Node) → weights ps ≡ weights qs → flat_in ps ns ≡ flat_in qs ms → (ps ≡ qs) × (ns ≡ ms)
  parts_one no_part no_part ns ms e h = (refl, h)
  parts_one no_part (part w t qs) ns ms e h = absurd (cc)
  parts_one (part w t ps) no_part ns ms e h = absurd (cc)
  parts_one (part v s ps) (part w t qs) ns ms e h =
      let p = flat_one s t (flat_in ps ns) (flat_in qs ms) h in
      let q = parts_one ps qs ns ms (tail_is v w (weights ps) (weights qs) e) p.1 in
      let r = head_is v w (weights ps) (weights qs) e in
      (λ i. part (r i) (p.0 i) (q.0 i), q.1)
