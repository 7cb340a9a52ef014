-- A table that is filled with expressions, one by one.
use Rattle.std.proofs.Common.{OnOk, Ok, Err, Result, ◌≡◌, ℕ, ◌+◌, ◌<◌, ◌≤◌, Bool, true, false, if◌then◌else◌, List, [], ◌∷◌, ◌++◌, length, length-append, append_assoc, take, get_or, ◌⊎◌, inl, inr, ap, sym, ◌∙◌, subst, arith}
use Rattle.std.specs.Prelude.{IfOk}
use Rattle.std.specs.List.{All, Contains, flat_map}
use Rattle.std.proofs.lemmas.Grind.{flat_map-append}
use Rattle.std.proofs.lemmas.List.{append-nil, take_all, take_more}
use Rattle.std.proofs.lemmas.List.Elements.{All-contains, All-contains_itself, Contains-append_cases, Contains-append_left, Contains-append_right}
use Rattle.lt_formula.specs.Expression.{Expression}
use Rattle.lt_formula.specs.declared.memory.Memory.{Memory}
use Rattle.lt_macros.specs.Expanded.{Exception, Expanded}
use Rattle.lt_macros.specs.Placed.{bare}
use Rattle.lt_macros.specs.Tree.{expanded, parts, placed}
use Rattle.lt_macros.specs.declared.tree.Part.{Part}
use Rattle.lt_macros.specs.declared.tree.Parts.{Parts, out-Parts}
use Rattle.lt_term.specs.Named.{expressions_in, expressions_in_each, parts_in, with_parts}
use Rattle.lt_expand.specs.Scenes.{choices_of, process_of}
use Rattle.lt_expand.specs.inner.Put.{IsFilled, parts_from, parts_in_each}
use Rattle.lt_expand.proofs.Grown.{parts_listed}

among_more : (a ps qs : List Expression) → All (Contains (a ++ ps)) a
among_more a ps qs = λ k d l. Contains-append_left a ps _ (All-contains_itself a k d l)

-- where nothing is put
pub filled_none : (a : List Expression) → IsFilled a a []
filled_none a = record { only = among_more a [] []; few = omega arith }

-- one of these, or one of those
either : (a ps qs : List Expression) (x : Expression) → Contains (a ++ ps) x ⊎ Contains qs x → Contains (a ++ (ps ++ qs)) x
either a ps qs x (inl c) = subst (λ xs. Contains xs x) (append_assoc a ps qs) (Contains-append_left (a ++ ps) qs x c)
either a ps qs x (inr c) = Contains-append_right a (ps ++ qs) x (Contains-append_right ps qs x c)

before : (a b ps qs : List Expression) (x : Expression) → All (Contains (a ++ ps)) b → Contains b x ⊎ Contains qs x → Contains (a ++ (ps ++ qs)) x
before a b ps qs x h (inl c) = either a ps qs x (inl (All-contains (Contains (a ++ ps)) b x h c))
before a b ps qs x h (inr c) = either a ps qs x (inr c)

-- a table that is filled twice
pub filled_both : (a b c ps qs : List Expression) → IsFilled a b ps → IsFilled b c qs → IsFilled a c (ps ++ qs)
filled_both a b c ps qs g h =
    let l = g.few in
    let m = h.few in
    let many = length-append ps qs in
    record {
      only = λ k d w. before a b ps qs _ g.only (Contains-append_cases b qs _ (h.only k d w));
      few = omega (arith, l, m, many);
    }

-- whether a node is put or not, it is one of those that are there
one_more : (b : Bool) (a c : List Expression) (e : Expression) → c ≡ (if b then a else a ++ e ∷ []) → IsFilled a c (e ∷ [])
one_more true a c e is = subst (λ xs. IsFilled a xs (e ∷ [])) (sym is) (record { only = among_more a (e ∷ []) []; few = omega arith })
one_more false a c e is =
    let many = length-append a (e ∷ []) in
    subst (λ xs. IsFilled a xs (e ∷ [])) (sym is) (record { only = All-contains_itself (a ++ e ∷ []); few = omega (arith, many) })

turned : (a ps : List Expression) (e x : Expression) → Contains (a ++ (ps ++ e ∷ [])) x → Contains (a ++ e ∷ ps) x
turned a ps e x c = back (Contains-append_cases a (ps ++ e ∷ []) x c)
  where
    last : Contains ps x ⊎ Contains (e ∷ []) x → Contains (e ∷ ps) x
    last (inl h) = Contains-append_right (e ∷ []) ps x h
    last (inr h) = Contains-append_left (e ∷ []) ps x h

    back : Contains a x ⊎ Contains (ps ++ e ∷ []) x → Contains (a ++ e ∷ ps) x
    back (inl h) = Contains-append_left a (e ∷ ps) x h
    back (inr h) = Contains-append_right a (e ∷ ps) x (last (Contains-append_cases ps (e ∷ []) x h))

-- a node that is put behind its parts
pub node_filled : (b : Bool) (a m c ps : List Expression) (e : Expression) → IsFilled a m ps → c ≡ (if b then m else m ++ e ∷ []) → IsFilled a c (e ∷ ps)
node_filled b a m c ps e g is =
    let all = filled_both a m c ps (e ∷ []) g (one_more b m c e is) in
    let l = all.few in
    let many = length-append ps (e ∷ []) in
    record { only = λ k d w. turned a ps e _ (all.only k d w); few = omega (arith, l, many) }

-- PUSHES

-- what is behind a push of an expression behind its parts, if it was one
pub push_filled : (r : Result ℕ Memory) (test : ℕ → Bool) (a m c ps : List Expression) (e f : Expression) → f ≡ e → IsFilled a m ps → IfOk r (λ n. c ≡ (if test n then m else m ++ f ∷ [])) → OnOk r (IsFilled a c (e ∷ ps))
push_filled (Ok n) test a m c ps e f same g is = node_filled (test n) a m c ps e g (is ∙ ap (λ x. if test n then m else m ++ x ∷ []) same)
push_filled (Err fault) test a m c ps e f same g is = tt

-- where the node and its parts are these expressions
pub pushed : (r : Result ℕ Memory) (test : ℕ → Bool) (a m c ps es : List Expression) (e f : Expression) → es ≡ e ∷ ps → f ≡ e → IsFilled a m ps → IfOk r (λ n. c ≡ (if test n then m else m ++ f ∷ [])) → OnOk r (IsFilled a c es)
pushed r test a m c ps es e f all same g is = subst (λ qs. OnOk r (IsFilled a c qs)) (sym all) (push_filled r test a m c ps e f same g is)

-- TERMS

-- two terms are put one by one
pub two_filled : (a b c : List Expression) (zs : List Exception) (u v : Expanded) → IsFilled a b (parts_in (process_of zs u)) → IsFilled b c (parts_in (process_of zs v))
    → IsFilled a c (flat_map with_parts (expressions_in (process_of zs u) ++ expressions_in (process_of zs v)))
two_filled a b c zs u v g h =
    subst (IsFilled a c) (sym (flat_map-append with_parts (expressions_in (process_of zs u)) (expressions_in (process_of zs v))))
    (filled_both a b c (parts_in (process_of zs u)) (parts_in (process_of zs v)) g h)

-- ALTERNATIVES

-- the parts of one alternative more
parts_last : (zs : List Exception) (ps : List Part) (d : Part)
    → parts_in_each zs (parts_from (ps ++ d ∷ [])) ≡ parts_in_each zs (parts_from ps) ++ (with_parts (bare (placed d.weight)) ++ parts_in (process_of zs (expanded d.body.value)))
parts_last zs [] d =
    ap (λ es. with_parts (bare (placed d.weight)) ++ flat_map with_parts es) (append-nil (expressions_in (process_of zs (expanded d.body.value))))
parts_last zs (p ∷ ps) d =
    let first = with_parts (bare (placed p.weight)) in
    let body = expressions_in (process_of zs (expanded p.body.value)) in
    let rest = expressions_in_each (choices_of zs (parts_from ps)) in
    let more = expressions_in_each (choices_of zs (parts_from (ps ++ d ∷ []))) in
    let last = with_parts (bare (placed d.weight)) ++ parts_in (process_of zs (expanded d.body.value)) in
    ap (λ es. first ++ es)
    (flat_map-append with_parts body more
    ∙ ap (λ es. flat_map with_parts body ++ es) (parts_last zs ps d)
    ∙ sym (append_assoc (flat_map with_parts body) (flat_map with_parts rest) last)
    ∙ sym (ap (λ es. es ++ last) (flat_map-append with_parts body rest)))
    ∙ sym (append_assoc first (flat_map with_parts (body ++ rest)) last)

-- one more alternative is put
pub alternative_filled : (a b m c : List Expression) (zs : List Exception) (ps : List Part) (i : ℕ) (d : Part) → i < length ps → d ≡ get_or ps i d
    → IsFilled a b (parts_in_each zs (parts_from (take i ps))) → IsFilled b m (with_parts (bare (placed d.weight))) → IsFilled m c (parts_in (process_of zs (expanded d.body.value)))
    → IsFilled a c (parts_in_each zs (parts_from (take (i + 1) ps)))
alternative_filled a b m c zs ps i d l is h g k =
    let more : take (i + 1) ps ≡ take i ps ++ d ∷ [] = take_more ps i d l ∙ ap (λ y. take i ps ++ y ∷ []) (sym is) in
    let weight = with_parts (bare (placed d.weight)) in
    let body = parts_in (process_of zs (expanded d.body.value)) in
    subst (IsFilled a c) (sym (ap (λ q. parts_in_each zs (parts_from q)) more ∙ parts_last zs (take i ps) d))
    (filled_both a b c (parts_in_each zs (parts_from (take i ps))) (weight ++ body) h (filled_both b m c weight body g k))

-- all of them are
pub alternatives_filled : (a c : List Expression) (zs : List Exception) (p : Parts) (ps : List Part) (i : ℕ) → ps ≡ (out-Parts p).items.items → length ps ≤ i
    → IsFilled a c (parts_in_each zs (parts_from (take i ps))) → IsFilled a c (parts_in_each zs (parts p))
alternatives_filled a c zs p ps i listed l h =
    subst (λ q. IsFilled a c (parts_in_each zs q)) (ap parts_from (take_all i ps l ∙ listed) ∙ sym (parts_listed p)) h

-- THE WHOLE TABLE

-- from an empty table on, only what is put is there
pub filled_named : (a c ps : List Expression) → a ≡ [] → IsFilled a c ps → All (Contains ps) c
filled_named a c ps e h = subst (λ xs. All (Contains (xs ++ ps)) c) e h.only

pub filled_few : (a c ps : List Expression) → a ≡ [] → IsFilled a c ps → length c ≤ length ps
filled_few a c ps e h = let l = h.few in let none = ap length e in omega (arith, l, none)
