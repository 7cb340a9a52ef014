-- The instant of a tree that chooses among three constraints, of which the last one can always hold.
use Rattle.std.proofs.Common.{◌≡◌, ℕ, zero, suc, ◌+◌, ◌<◌, inl, inr, Bool, true, false, if◌then◌else◌, List, [], ◌∷◌, ◌++◌, map, get_or, ℤ, Some, None, MatchOption, refl, ap, sym, ◌∙◌, subst, arith}
use Rattle.std.proofs.lemmas.Bool.Decides.{nat_tests}
use Rattle.std.specs.List.{list_any}
use Rattle.std.specs.Prelude.{◌||◌, nat_eq, nat_lt}
use Rattle.std.specs.declared.option.Option.{Option}
use Rattle.lt_draw.specs.declared.directions.Draw as rule
use Rattle.lt_formula.specs.Expression.{Expression}
use Rattle.lt_num.specs.declared.value.Value.{Value}
use Rattle.lt_space.specs.Formula.{Formula}
use Rattle.lt_term.specs.Configuration.{Configuration}
use Rattle.lt_term.specs.Evaluated.{Evaluated, Outlook, Parts, faulty, go, leaf, no_part, node_count, ordered, part, spoilt, vanish, weighted}
use Rattle.lt_term.specs.Live.{IsLegal, IsLegalInOne}
use Rattle.lt_term.specs.Process.{Process}
use Rattle.lt_term.specs.Scene.{Scene}
use Rattle.lt_instant.proofs.Affords.{if_over}
use Rattle.lt_instant.specs.Drawn.{Draw, Met, behind, draw_in, draws_in, first_draw, no_draw, part_weights, tries}
use Rattle.lt_instant.specs.Instant.{Instant, Judged, Leaf, deadlock, drawn_in, drawn_of, go_instant, has_need, instant_of, is_live, is_too_large, judged, leaf_instant, looked_in, may_give_up, next_configuration, taken_in, taken_instant, too_large, values, words_of}
use Rattle.lt_instant.specs.Legal.{DeadlockMeansNoneLive, DrawIsLegal, HasLiveLeaf, IsLegalAt, outlook_at}
use Rattle.lt_instant.specs.Solved.{CanHold, locals_by, need_of, outputs_by, scoped, solution_of}

-- ---- leaves that don't pass a test

-- no leaf of a tree passes it
abbrev mutual
  pub NonePasses : {F N : Type 0} → (Outlook F N → Bool) → Evaluated F N → Type 0
  NonePasses test (leaf o) = test o ≡ false
  NonePasses test (ordered a b) = NonePasses test a × NonePasses test b
  NonePasses test (weighted ps) = NoneOfEachPasses test ps
  NonePasses test (spoilt fault below) = test (faulty fault) ≡ false

  NoneOfEachPasses : {F N : Type 0} → (Outlook F N → Bool) → Parts F N → Type 0
  NoneOfEachPasses test no_part = Unit {0}
  NoneOfEachPasses test (part w t ps) = NonePasses test t × NoneOfEachPasses test ps

module _ {F N : Type 0} (test : Outlook F N → Bool) where
  abbrev NoneOf : List (Met F N) → Type 0
  NoneOf ms = list_any (λ m. test m.outlook) ms ≡ false

  one_more : (a b c : Bool) → (b ≡ false → c ≡ false) → a || b ≡ false → a || c ≡ false
  one_more true b c more h = absurd (cc h)
  one_more false b c more h = more h

  none_of_both : (ms ns : List (Met F N)) → NoneOf ms → NoneOf ns → NoneOf (ms ++ ns)
  none_of_both [] ns h k = k
  none_of_both (m ∷ ms) ns h k = one_more (test m.outlook) (list_any (λ n. test n.outlook) ms) (list_any (λ n. test n.outlook) (ms ++ ns)) (λ e. none_of_both ms ns e k) h

  in_turn : (looked : List (Met F N)) (drawn : Option (Met F N)) (second : Draw F N) → NoneOf looked → NoneOf second.looked_at → NoneOf (behind looked drawn second).looked_at
  in_turn looked (Some m) second h k = h
  in_turn looked None second h k = none_of_both looked second.looked_at h k

  none_of_first : (ds : List (Draw F N)) (ks : List ℕ) → ((k : ℕ) → NoneOf (get_or ds k no_draw).looked_at) → NoneOf (first_draw (map (λ k. get_or ds k no_draw) ks)).looked_at
  none_of_first ds [] h = refl
  none_of_first ds (k ∷ ks) h = in_turn (get_or ds k no_draw).looked_at (get_or ds k no_draw).drawn (first_draw (map (λ j. get_or ds j no_draw) ks)) (h k) (none_of_first ds ks h)

  alone : (m : Met F N) (b : Bool) → test m.outlook ≡ b → b ≡ false → NoneOf (m ∷ [])
  alone m b e h = ap (λ (c : Bool). c || false) (e ∙ h)

  module _ (word : ℕ → ℕ) (live : Outlook F N → Bool) where
    mutual
      none_looked_at : (p : ℕ) (t : Evaluated F N) → NonePasses test t → NoneOf (draw_in word live p t).looked_at
      none_looked_at p (leaf o) h = alone (record { position = p; outlook = o }) (test o) refl h
      none_looked_at p (spoilt fault below) h = alone (record { position = p; outlook = faulty fault }) (test (faulty fault)) refl h
      none_looked_at p (ordered a b) h =
          in_turn (draw_in word live (p + 1) a).looked_at (draw_in word live (p + 1) a).drawn (draw_in word live (p + 1 + node_count a) b)
          (none_looked_at (p + 1) a h.0) (none_looked_at (p + 1 + node_count a) b h.1)
      none_looked_at p (weighted ps) h = none_of_first (draws_in word live (p + 1) ps) (tries word p (part_weights ps)) (none_in_each (p + 1) ps h)

      none_in_each : (q : ℕ) (ps : Parts F N) → NoneOfEachPasses test ps → (k : ℕ) → NoneOf (get_or (draws_in word live q ps) k no_draw).looked_at
      none_in_each q no_part h zero = refl
      none_in_each q no_part h (suc k) = refl
      none_in_each q (part w t ps) h zero = none_looked_at q t h.0
      none_in_each q (part w t ps) h (suc k) = none_in_each (q + node_count t) ps h.1 k

-- ---- the tree

-- a choice between the first constraint and, with the weight 2, the second one or else the third; or nothing
abbrev pub three : ℕ → Formula → Formula → Formula → Process Expression → Judged
three w f g h again =
    ordered (weighted (part w (leaf (go f [] again)) (part 2 (ordered (leaf (go g [] again)) (leaf (go h [] again))) no_part))) (leaf vanish)

module _ (legal : DrawIsLegal) (stuck : DeadlockMeansNoneLive) (s : Scene) (seed : ℕ) (draw : rule.Draw) (c : Configuration) (inputs : List Value)
    (w : ℕ) (f g h : Formula) (again : Process Expression) where
  abbrev tree : Judged
  tree = three w f g h again

  -- a leaf that may be taken is an instant that leads on
  abbrev Leads : Leaf → Type 0
  Leads o = (e : Formula) × (o ≡ go e [] again)

  leads_at : (position : ℕ) (o : Leaf) (at : ℕ) (e : Formula) → position ≡ at → outlook_at tree at ≡ Some (go e [] again) → outlook_at tree position ≡ Some o → Leads o
  leads_at position o at e same there is =
      let found : Some o ≡ Some (go e [] again) = sym is ∙ ap (outlook_at tree) same ∙ there in
      (e, cc found)

  leads_in_second : (o : Leaf) (position k : ℕ) → position ≡ 3 + k → IsLegal (CanHold s) (ordered (leaf (go g [] again)) (leaf (go h [] again))) k → outlook_at tree position ≡ Some o → Leads o
  leads_in_second o position k place (inl p) is = leads_at position o 4 g (omega (arith, place, p.1, p.2.0)) refl is
  leads_in_second o position k place (inr p) is = leads_at position o 5 h (omega (arith, place, p.1.1, p.1.2.0)) refl is

  leads_in_one : (o : Leaf) (position k : ℕ) → position ≡ 2 + k
      → IsLegalInOne (CanHold s) (part w (leaf (go f [] again)) (part 2 (ordered (leaf (go g [] again)) (leaf (go h [] again))) no_part)) k → outlook_at tree position ≡ Some o → Leads o
  leads_in_one o position k place (inl p) is = leads_at position o 2 f (omega (arith, place, p.1.0)) refl is
  leads_in_one o position k place (inr (j, next, inl p)) is = leads_in_second o position j (omega (arith, place, next)) p.1 is
  leads_in_one o position k place (inr (j, next, inr p)) is = absurd p.2

  leads : (o : Leaf) (position : ℕ) → CanHold s h [] → IsLegalAt s tree position → outlook_at tree position ≡ Some o → Leads o
  leads o position holds (inl (n, first, (k, next, p))) is = leads_in_one o position k (omega (arith, first, next)) p is
  leads o position holds (inr p) is = let some : 0 < 2 = omega arith in absurd (p.0 (inr (inl (some, inr holds))))

  -- ---- the instant

  -- there are values, and what is to be done after it
  abbrev HasValues : Instant → Type 0
  HasValues i = (raws : List ℤ) × (i ≡ values (outputs_by s raws) (scoped [] 0 (locals_by s raws)) (next_configuration s c inputs [] again raws))

  has_values : (o : Option (List ℤ)) (i : Instant) → i ≡ go_instant s c inputs [] again o → (i ≡ deadlock → ⊥) → HasValues i
  has_values None i is lives = absurd (lives is)
  has_values (Some raws) i is lives = (raws, is)

  taken : (i : Instant) (drawn : Option (Met Formula (Process Expression))) → CanHold s h []
      → MatchOption drawn (HasLiveLeaf s tree → ⊥) (λ m. HasLiveLeaf s tree × IsLegalAt s tree m.position × (outlook_at tree m.position ≡ Some m.outlook))
      → i ≡ taken_instant s seed draw c inputs drawn → (i ≡ deadlock → ⊥) → HasValues i
  taken i None holds tells is lives = absurd (lives is)
  taken i (Some m) holds tells is lives =
      let on = leads m.outlook m.position holds tells.1 tells.2 in
      has_values (solution_of s draw (words_of seed c) [] on.0) i (is ∙ ap (leaf_instant s seed draw c inputs) on.1) lives

  pub instant_has_values : judged s c inputs ≡ tree → is_too_large s c ≡ false → CanHold s h [] → HasValues (instant_of s seed draw c inputs)
  instant_has_values is small holds =
      let word : ℕ → ℕ = words_of seed c in
      let drawn : Option (Met Formula (Process Expression)) = (drawn_of s draw word tree).drawn in
      let takes : taken_in s seed draw c inputs ≡ drawn = ap (λ (t : Judged). (drawn_of s draw word t).drawn) is in
      let lives : instant_of s seed draw c inputs ≡ deadlock → ⊥ =
      λ e. ((stuck s seed draw c inputs).0 e).1 (subst (HasLiveLeaf s) (sym is) (inr tt)) in
      taken (instant_of s seed draw c inputs) drawn holds (legal s draw word tree)
      (ap (λ (b : Bool). if b then too_large else taken_instant s seed draw c inputs (taken_in s seed draw c inputs)) small ∙ ap (taken_instant s seed draw c inputs) takes)
      lives

-- ---- what may be given up of it

-- a need within the budget is no need over it
other_need : (most need n : ℕ) → nat_lt most need ≡ false → nat_lt most n ≡ true → nat_eq need n ≡ false
other_need most need n h k = grind (arith, nat_tests)

-- where nothing is drawn, no leaf has any need
drawn_or_not : (test : Met Formula (Process Expression) → Bool) (b : Bool) (ms : List (Met Formula (Process Expression))) → list_any test ms ≡ false → list_any test (if b then [] else ms) ≡ false
drawn_or_not test true ms h = refl
drawn_or_not test false ms h = h

-- The searches of its constraints are within the budget: so it isn't given up.
module _ (s : Scene) (seed : ℕ) (draw : rule.Draw) (most : ℕ) (c : Configuration) (inputs : List Value) (w : ℕ) (f g h : Formula) (again : Process Expression) where
  abbrev IsAffordable : Formula → Type 0
  IsAffordable e = nat_lt most (need_of s [] e) ≡ false

  pub nothing_given_up : judged s c inputs ≡ three w f g h again → IsAffordable f → IsAffordable g → IsAffordable h → (n : ℕ) → may_give_up s seed draw most c inputs n ≡ false
  nothing_given_up is cheap_f cheap_g cheap_h n =
      let word : ℕ → ℕ = words_of seed c in
      let other : (e : Formula) → IsAffordable e → nat_lt most n ≡ true → has_need s n (go e [] again) ≡ false = λ e cheap over. other_need most (need_of s [] e) n cheap over in
      if_over (nat_lt most n) (list_any (λ m. has_need s n m.outlook) (looked_in s seed draw c inputs))
      (λ over. drawn_or_not (λ m. has_need s n m.outlook) (is_too_large s c) (drawn_in s seed draw c inputs).looked_at (ap (λ (t : Judged). list_any (λ m. has_need s n m.outlook) (drawn_of s draw word t).looked_at) is
      ∙ none_looked_at (has_need s n) word (is_live s draw word) 0 (three w f g h again) ((other f cheap_f over, ((other g cheap_g over, other h cheap_h over), tt)), refl)))
