-- The table of a tree's nodes tells what it has.
use Rattle.std.proofs.Common.{◌≡◌, ◌<◌, ◌^◌, ◌+◌, ℕ, suc, Bool, true, false, ◌&&◌, List, [], ◌∷◌, length, drop, drop-drop, get_or, get_or-drop, refl, ap, sym, ◌∙◌, arith}
use Rattle.std.specs.Prelude.{◌||◌}
use Rattle.std.proofs.lemmas.List.{drop_more}
use Rattle.lt_legal.specs.Tables.{TablesTell}
use Rattle.lt_legal.specs.Nodes.{Node, Parts, Shape, along, count, count_in, faulty, flat, flat_in, found_at, found_of, has, has_in, leaf, no_part, order, ordered, part, plus, run, weighted, weights, whole}
use Rattle.lt_legal.specs.declared.found.Found.{Found}

pub plus_is : (m n : ℕ) → m + n < 2 ^ 32 → plus m n ≡ m + n
plus_is m n h = omega (arith, h)

-- the tree at a place, and what follows its node
top : (hs : List Found) (off : ℕ) (x : Found) (rest : List Found) → drop off hs ≡ x ∷ rest → found_at hs off ≡ x
top hs off x rest e =
    let whole : off + 0 ≡ off = omega arith in
    sym (ap (λ k. found_at hs k) whole) ∙ sym (get_or-drop off hs 0 (record { has = false; size = 0 })) ∙ ap (λ l. found_at l 0) e

behind : (hs : List Found) (off n : ℕ) (x : Found) (rest : List Found) → drop off hs ≡ x ∷ rest → drop (off + (1 + n)) hs ≡ drop n rest
behind hs off n x rest e =
    let next : 1 + n ≡ suc n = omega arith in
    sym (drop-drop (1 + n) off hs) ∙ ap (λ l. drop (1 + n) l) e ∙ ap (λ k. drop k (x ∷ rest)) next

or_of : (a b c : Bool) → ((a || b) || c) ≡ (a || (b || c))
or_of true b c = refl
or_of false b c = refl

or_false : (a : Bool) → (a || false) ≡ a
or_false true = refl
or_false false = refl

-- a tree behind a place, with what follows it
pub record Tells (hs : List Found) (off : ℕ) (b : Bool) (n : ℕ) (rest : List Found) : Type 0 where
  pub here : found_at hs off ≡ record { has = b; size = n }
  pub left : drop (off + n) hs ≡ rest

abbrev both : Found → Found → Found
both l r = record { has = l.has || r.has; size = plus (plus 1 l.size) r.size }

order_is : (hs : List Found) (a b : Bool) (m n : ℕ) → 1 + m + n < 2 ^ 32 → found_at hs 0 ≡ record { has = a; size = m } → found_at hs m ≡ record { has = b; size = n } → found_of order hs ≡ record { has = a || b; size = 1 + m + n }
order_is hs a b m n l e f =
    let first : plus 1 m ≡ 1 + m = plus_is 1 m (omega (arith, l)) in
    let size : plus (plus 1 m) n ≡ 1 + m + n = ap (λ k. plus k n) first ∙ plus_is (1 + m) n l in
    (λ i. both (e i) (found_at hs (e i).size)) ∙ ap (λ r. both (record { has = a; size = m }) r) f ∙ ap (λ k. record { has = a || b; size = k }) size

mutual
  pub tree_tells : (t : Shape) (ns : List Node) (hs : List Found) (off : ℕ) → count t < 2 ^ 32 → drop off hs ≡ run (flat t ns) → Tells hs off (has t) (count t) (run ns)
  tree_tells (leaf b) ns hs off l e = record { here = top hs off _ _ e; left = behind hs off 0 _ _ e }
  tree_tells (ordered a b) ns hs off l e =
      let h = run (flat a (flat b ns)) in
      let first : Tells h 0 (has a) (count a) (run (flat b ns)) = tree_tells a (flat b ns) h 0 (omega (arith, l)) refl in
      let zero_is : 0 + count a ≡ count a = omega arith in
      let on : drop (count a) h ≡ run (flat b ns) = sym (ap (λ k. drop k h) zero_is) ∙ first.left in
      let second : Tells h (count a) (has b) (count b) (run ns) = tree_tells b ns h (count a) (omega (arith, l)) on in
      let sum : off + (1 + count a + count b) ≡ off + (1 + (count a + count b)) = omega arith in
      record {
        here = top hs off _ _ e ∙ order_is h (has a) (has b) (count a) (count b) l first.here second.here;
        left = ap (λ k. drop k hs) sum ∙ behind hs off (count a + count b) _ _ e ∙ second.left;
      }
  tree_tells (weighted ps) ns hs off l e =
      let h = run (flat_in ps ns) in
      let below = parts_tell ps ns h (record { has = false; size = 0 }) (omega (arith, l)) refl in
      let zero_is : 0 + count_in ps ≡ count_in ps = omega arith in
      let size : plus 1 (0 + count_in ps) ≡ 1 + count_in ps = ap (λ k. plus 1 k) zero_is ∙ plus_is 1 (count_in ps) l in
      record {
        here = top hs off _ _ e ∙ ap (λ (f : Found). whole f.has f) below.0 ∙ ap (λ k. record { has = has_in ps; size = k }) size;
        left = behind hs off (count_in ps) _ _ e ∙ sym (ap (λ k. drop k h) zero_is) ∙ below.1;
      }
  tree_tells (faulty b ps) ns hs off l e =
      let h = run (flat_in ps ns) in
      let below = parts_tell ps ns h (record { has = false; size = 0 }) (omega (arith, l)) refl in
      let zero_is : 0 + count_in ps ≡ count_in ps = omega arith in
      let size : plus 1 (0 + count_in ps) ≡ 1 + count_in ps = ap (λ k. plus 1 k) zero_is ∙ plus_is 1 (count_in ps) l in
      record {
        here = top hs off _ _ e ∙ ap (λ (f : Found). whole b f) below.0 ∙ ap (λ k. record { has = b; size = k }) size;
        left = behind hs off (count_in ps) _ _ e ∙ sym (ap (λ k. drop k h) zero_is) ∙ below.1;
      }

  parts_tell : (ps : Parts) (ns : List Node) (hs : List Found) (acc : Found) → acc.size + count_in ps < 2 ^ 32 → drop acc.size hs ≡ run (flat_in ps ns)
      → (along (weights ps) hs acc ≡ record { has = acc.has || has_in ps; size = acc.size + count_in ps }) × (drop (acc.size + count_in ps) hs ≡ run ns)
  parts_tell no_part ns hs acc l e =
      let same : acc.size + 0 ≡ acc.size = omega arith in
      (λ i. record { has = sym (or_false acc.has) i; size = sym same i }, ap (λ k. drop k hs) same ∙ e)
  parts_tell (part w t ps) ns hs acc l e =
      let one = tree_tells t (flat_in ps ns) hs acc.size (omega (arith, l)) e in
      let next : Found = record { has = acc.has || (w && has t); size = acc.size + count t } in
      let sum : (acc.size + count t) + count_in ps ≡ acc.size + (count t + count_in ps) = omega arith in
      let rest = parts_tell ps ns hs next (omega (arith, l)) one.left in
      let size : plus acc.size (count t) ≡ acc.size + count t = plus_is acc.size (count t) (omega (arith, l)) in (
        ap (λ (f : Found). along (weights ps) hs (record { has = acc.has || (w && f.has); size = plus acc.size f.size })) one.here
            ∙ ap (λ k. along (weights ps) hs (record { has = acc.has || (w && has t); size = k })) size ∙ rest.0
            ∙ (λ i. record { has = or_of acc.has (w && has t) (has_in ps) i; size = sum i }),
        sym (ap (λ k. drop k hs) sum) ∙ rest.1,
      )

pub tables_tell : TablesTell
tables_tell t l = (tree_tells t [] (run (flat t [])) 0 l refl).here

-- parts that are looked at one after another
pub along_more : (ws : List Bool) (i : ℕ) (hs : List Found) (all one next : Found) → i < length ws → one ≡ found_at hs all.size → next ≡ record { has = all.has || (get_or ws i false && one.has); size = plus all.size one.size }
    → along (drop i ws) hs all ≡ along (drop (i + 1) ws) hs next
along_more ws i hs all one next l e f =
    ap (λ us. along us hs all) (drop_more ws i false l)
    ∙ ap (λ (p : Found). along (drop (i + 1) ws) hs (record { has = all.has || (get_or ws i false && p.has); size = plus all.size p.size })) (sym e)
    ∙ ap (λ x. along (drop (i + 1) ws) hs x) (sym f)
