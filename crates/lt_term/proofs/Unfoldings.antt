-- What is unfolded, step by step.
use Rattle.std.proofs.Common.{◌≡◌, ◌≤◌, ◌<◌, ℕ, zero, suc, ◌+◌, IsTrue, List, [], ◌∷◌, ◌++◌, length, map, cond, is_ok, IfOk, OnOk, get_or, refl, ap, sym, ◌∙◌, arith, length-append, subst, append-nil, append_assoc}
use Rattle.std.specs.declared.result.Result.{Result}
use Rattle.std.specs.declared.result.Result.TheVariants.{Ok, Err}
use Rattle.lt_num.specs.declared.kind.Kind.{Kind}
use Rattle.lt_term.specs.Offers.{TermTree, offers_of, offers_of_each}
use Rattle.lt_term.specs.Counted.{AreCounted, IsCounted}
use Rattle.lt_term.specs.Process.{Process}
use Rattle.lt_term.specs.declared.term.Term.{Term}
use Rattle.lt_term.specs.Tree.{Branches, Lasts, leaf, nothing, weighted}
use Rattle.lt_term.specs.Unfolded.{Instant, Rule, branch_at, by_rule, each_under, going, in_scope, instant_of, under, with_local_of}
use Rattle.lt_term.specs.UnfoldedView.{branches_of, chain_at, instant_at, leaf_at, rule_of, rules_at, scope_at, term_of, tree_at}
use Rattle.lt_term.specs.UnfoldingView.{Grows, IsWithin, instants_in, parts_of, rules_in, scope_of}
use Rattle.lt_term.specs.View.{choices, process}
use Rattle.lt_term.specs.inner.Linked.{are_linked, is_sound}
use Rattle.lt_term.specs.inner.Stages.{chain_effort, effort, rule_effort}
use Rattle.lt_term.specs.declared.instants.Made.{Made}
use Rattle.lt_term.specs.declared.root.Later.{Later}
use Rattle.lt_term.specs.declared.root.Offer.{Offer}
use Rattle.lt_term.specs.declared.root.Offer.TheVariants as offer
use Rattle.lt_term.specs.declared.root.Parts.{Parts}
use Rattle.lt_term.specs.declared.waiting.Link.{Link}
use Rattle.lt_term.specs.declared.waiting.Waiting.{Waiting}
use Rattle.lt_term.specs.declared.waiting.Waiting.TheVariants as wait
use Rattle.lt_term.specs.inner.Linked.{is_counted}
use Rattle.lt_term.proofs.Counting.{passes-counted}
use Rattle.lt_term.proofs.Numbered.{chain-none, chain-stays, chain-there, instant-stays, link-passes, linked-there, rules-stay}
use Rattle.lt_term.proofs.UnfoldingLaws.{nothing-stays, under-leaf, under-weighted}
use Rattle.lt_term.specs.declared.unfolding.Unfolding.{Unfolding}

-- what holds with more and without holds after a push
pub either_way : {T E A : Type 0} (P : List A → Type 0) (r : Result T E) (now was more : List A) → now ≡ cond (is_ok r) more was → P more → P was → P now
either_way P (Ok x) now was more e m w = subst P (sym e) m
either_way P (Err x) now was more e m w = subst P (sym e) w

pub length_after : {A : Type 0} (xs now : List A) (x : A) → now ≡ xs ++ x ∷ [] → length now ≡ suc (length xs)
length_after xs now x e = ap length e ∙ simp length-append (omega arith)

-- what grows twice grows
pub grows_twice : (a b c : Unfolding) → Grows a b → Grows b c → Grows a c
grows_twice a b c g h = record {
  more_rules = g.more_rules ++ h.more_rules;
  more_instants = g.more_instants ++ h.more_instants;
  rules = h.rules ∙ ap (λ ls. ls ++ h.more_rules) g.rules ∙ append_assoc a.rules.items g.more_rules h.more_rules;
  instants = h.instants ∙ ap (λ ms. ms ++ h.more_instants) g.instants ∙ append_assoc a.instants.items g.more_instants h.more_instants;
}

-- what stays as it is grows
pub grows_not : (a : Unfolding) → Grows a a
grows_not a = record { more_rules = []; more_instants = []; rules = sym (append-nil _); instants = sym (append-nil _) }

-- What grows keeps what it has.

module _ (a b : Unfolding) (g : Grows a b) where
  -- there are no fewer rules
  pub rules-more : rules_in a ≤ rules_in b
  rules-more = let e : rules_in b ≡ rules_in a + length g.more_rules = ap length g.rules ∙ simp length-append refl in omega (arith, e)

  -- and no fewer instants
  pub instants-more : instants_in a ≤ instants_in b
  instants-more = let e : instants_in b ≡ instants_in a + length g.more_instants = ap length g.instants ∙ simp length-append refl in omega (arith, e)

  pub chain-kept : (n : ℕ) → n ≤ rules_in a → chain_at b.rules.items n ≡ chain_at a.rules.items n
  chain-kept n h = ap (λ ls. chain_at ls n) g.rules ∙ chain-stays a.rules.items g.more_rules n h

  pub instant-kept : (kinds : List Kind) (n : ℕ) → n < instants_in a → instant_at kinds b.instants.items n ≡ instant_at kinds a.instants.items n
  instant-kept kinds n h = ap (λ ms. instant_at kinds ms n) g.instants ∙ instant-stays kinds a.instants.items g.more_instants n h

  pub rules-kept : (kinds : List Kind) (n : ℕ) → n ≤ rules_in a → rules_at kinds b.rules.items b.instants.items n ≡ rules_at kinds a.rules.items a.instants.items n
  rules-kept kinds n h =
      ap (λ ls. rules_at kinds ls b.instants.items n) g.rules
      ∙ ap (λ ms. rules_at kinds (a.rules.items ++ g.more_rules) ms n) g.instants
      ∙ rules-stay kinds a.rules.items g.more_rules a.instants.items g.more_instants n a.sound h

  -- what is not unfolded yet stays
  pub within-kept : (later : Later) → IsWithin a later → IsWithin b later
  within-kept later w = record { rules = let r = w.rules in let m = rules-more in omega (arith, r, m); counted = w.counted }

  -- and so does its tree
  pub tree-kept : (kinds : List Kind) (later : Later) → IsWithin a later → tree_at kinds b.rules.items b.instants.items later ≡ tree_at kinds a.rules.items a.instants.items later
  tree-kept kinds later w = ap (λ rs. under kinds rs (offers_of kinds (term_of later))) (rules-kept kinds later.rules w.rules)

  -- and so do the parts of a choice, and the locals in scope
  pub parts-kept : (kinds : List Kind) (ps : Parts) (n : ℕ) → n ≤ rules_in a → parts_of kinds b ps n ≡ parts_of kinds a ps n
  parts-kept kinds ps n h = ap (λ rs. each_under kinds rs (branches_of kinds ps)) (rules-kept kinds n h)

  pub scope-kept : (n : ℕ) → n ≤ rules_in a → scope_of b n ≡ scope_of a n
  scope-kept n h = ap (λ c. in_scope (map (rule_of (λ i. instant_of 0)) c) []) (chain-kept n h)

-- A rule that is put behind the others.

module _ (ls new_ls : List Link) (ms new_ms : List Made) (rule : Waiting) (outer n : ℕ) (chain : chain_at new_ls n ≡ rule ∷ chain_at ls outer) (same : new_ms ≡ ms) where
  pub rules-put : (kinds : List Kind) → rules_at kinds new_ls new_ms n ≡ rule_of (instant_at kinds ms) rule ∷ rules_at kinds ls ms outer
  rules-put kinds =
      ap (map (rule_of (instant_at kinds new_ms))) chain
      ∙ ap (λ is. map (rule_of (instant_at kinds is)) (rule ∷ chain_at ls outer)) same

  pub later-put : (kinds : List Kind) (later : Later) (p : Process ℕ) → term_of later ≡ p → later.rules ≡ n → tree_at kinds new_ls new_ms later ≡ under kinds (rule_of (instant_at kinds ms) rule ∷ rules_at kinds ls ms outer) (offers_of kinds p)
  later-put kinds later p t r =
      ap (λ k. under kinds (rules_at kinds new_ls new_ms k) (offers_of kinds (term_of later))) r
      ∙ ap (λ q. under kinds (rules_at kinds new_ls new_ms n) (offers_of kinds q)) t
      ∙ ap (λ rs. under kinds rs (offers_of kinds p)) (rules-put kinds)

  pub effort-put : (later : Later) (p : Process ℕ) → term_of later ≡ p → later.rules ≡ n → suc (effort (term_of later) + chain_effort (chain_at new_ls later.rules)) ≡ suc (effort p + (rule_effort rule + chain_effort (chain_at ls outer)))
  effort-put later p t r =
      ap (λ k. suc (effort (term_of later) + chain_effort (chain_at new_ls k))) r
      ∙ ap (λ q. suc (effort q + chain_effort (chain_at new_ls n))) t
      ∙ ap (λ c. suc (effort p + chain_effort c)) chain

-- A leaf, where a tree is not unfolded any further.

pub leaf-put : (kinds : List Kind) (rs old : List (Rule ℕ)) (i j : Instant ℕ) → rs ≡ old → i ≡ j → under kinds rs (leaf (going i)) ≡ under kinds old (leaf (going j))
leaf-put kinds rs old i j r e = λ k. under kinds (r k) (leaf (going (e k)))

-- a tree that is not unfolded yet, by its term and its rules
pub later-at : (kinds : List Kind) (ls : List Link) (ms : List Made) (later : Later) (p : Process ℕ) (n : ℕ) → term_of later ≡ p → later.rules ≡ n → tree_at kinds ls ms later ≡ under kinds (rules_at kinds ls ms n) (offers_of kinds p)
later-at kinds ls ms later p n t r = ap (λ k. under kinds (rules_at kinds ls ms k) (offers_of kinds (term_of later))) r ∙ ap (λ q. under kinds (rules_at kinds ls ms n) (offers_of kinds q)) t

-- it is there, where its rules are, and its term is counted
pub later-within : (u : Unfolding) (later : Later) (p : Process ℕ) (n : ℕ) → term_of later ≡ p → later.rules ≡ n → n ≤ rules_in u → IsTrue (is_counted p) → IsWithin u later
later-within u later p n t r l h = record { rules = omega (arith, r, l); counted = passes-counted (term_of later) (subst (λ q. IsTrue (is_counted q)) (sym t) h) }

-- what holds of a value that is there
pub if_ok : {T E : Type 0} (P Q : T → Type 0) (r : Result T E) → ((x : T) → P x → Q x) → IfOk r P → IfOk r Q
if_ok P Q (Ok x) f h = f x h
if_ok P Q (Err e) f h = tt

pub on_ok : {T E A B : Type 0} (r : Result T E) → (A → B) → OnOk r A → OnOk r B
on_ok (Ok x) f h = f h
on_ok (Err e) f h = tt

pub rule_effort-some : (r : Waiting) → 1 ≤ rule_effort r
rule_effort-some (wait.Seq b) = omega arith
rule_effort-some (wait.Turn t) = omega arith
rule_effort-some (wait.Again i done t) = omega arith
rule_effort-some (wait.Par b) = omega arith
rule_effort-some (wait.Joined i) = omega arith
rule_effort-some (wait.Assert c) = omega arith
rule_effort-some (wait.Exist x v) = omega arith
rule_effort-some (wait.Catch z h) = omega arith
rule_effort-some (wait.Try h) = omega arith

-- A link that is there.

module _ (u : Unfolding) (n k : ℕ) (l : Link) (at : suc k ≡ n) (within : n ≤ rules_in u) (is : l ≡ get_or u.rules.items k l) where
  -- it leads to an earlier number
  pub link-earlier : l.outer < n
  link-earlier = let g : l.outer ≤ k = subst (λ (m : Link). m.outer ≤ k) (sym is) (linked-there u.rules.items l k u.linked (omega arith)) in omega arith

  pub link-outer : l.outer ≤ rules_in u
  link-outer = let g = link-earlier in omega (arith, g)

  pub link-sound : IsTrue (is_sound (instants_in u) l.rule)
  link-sound = subst (λ (m : Link). IsTrue (is_sound (instants_in u) m.rule)) (sym is) (link-passes (is_sound (instants_in u)) u.rules.items l k u.sound (omega arith))

  -- its chain
  pub link-chain : chain_at u.rules.items n ≡ l.rule ∷ chain_at u.rules.items l.outer
  link-chain = chain-there u.rules.items l k n at u.linked (omega arith) ∙ ap (λ (m : Link). m.rule ∷ chain_at u.rules.items m.outer) (sym is)

  pub link-effort : chain_effort (chain_at u.rules.items n) ≡ rule_effort l.rule + chain_effort (chain_at u.rules.items l.outer)
  link-effort = ap chain_effort link-chain

  -- what it makes of a leaf
  pub leaf-out : (kinds : List Kind) (o p : Offer) (t : TermTree ℕ) → o ≡ p
      → t ≡ under kinds (rules_at kinds u.rules.items u.instants.items l.outer) (by_rule kinds (rule_of (instant_at kinds u.instants.items) l.rule) (leaf_at kinds u.instants.items p))
      → t ≡ under kinds (rules_at kinds u.rules.items u.instants.items n) (leaf (leaf_at kinds u.instants.items o))
  leaf-out kinds o p t e h =
      h
      ∙ sym (under-leaf kinds (rule_of (instant_at kinds u.instants.items) l.rule) (rules_at kinds u.rules.items u.instants.items l.outer) (leaf_at kinds u.instants.items p))
      ∙ ap (λ c. under kinds (map (rule_of (instant_at kinds u.instants.items)) c) (leaf (leaf_at kinds u.instants.items p))) (sym link-chain)
      ∙ ap (λ q. under kinds (rules_at kinds u.rules.items u.instants.items n) (leaf (leaf_at kinds u.instants.items q))) (sym e)

  -- it passes nothing on
  pub nothing-out : (kinds : List Kind) (o : Offer) → o ≡ offer.Nothing
      → under kinds (rules_at kinds u.rules.items u.instants.items l.outer) (leaf nothing) ≡ under kinds (rules_at kinds u.rules.items u.instants.items n) (leaf (leaf_at kinds u.instants.items o))
  nothing-out kinds o e =
      leaf-out kinds o offer.Nothing _ e (ap (under kinds (rules_at kinds u.rules.items u.instants.items l.outer)) (sym (nothing-stays kinds (rule_of (instant_at kinds u.instants.items) l.rule))))

-- without rules a tree is as it is
pub none-out : (kinds : List Kind) (ls : List Link) (ms : List Made) (n : ℕ) (t : TermTree ℕ) → n ≡ 0 → t ≡ under kinds (rules_at kinds ls ms n) t
none-out kinds ls ms n t e = sym (ap (λ k. under kinds (rules_at kinds ls ms k) t) e ∙ ap (λ c. under kinds (map (rule_of (instant_at kinds ms)) c) t) (chain-none ls))

-- the locals in scope are those of any instants
scope-same : (f g : ℕ → Instant ℕ) (c : List Waiting) (ls : Lasts) → in_scope (map (rule_of f) c) ls ≡ in_scope (map (rule_of g) c) ls
scope-same f g [] ls = refl
scope-same f g (wait.Seq b ∷ c) ls = scope-same f g c ls
scope-same f g (wait.Turn t ∷ c) ls = scope-same f g c ls
scope-same f g (wait.Again i done t ∷ c) ls = scope-same f g c ls
scope-same f g (wait.Par b ∷ c) ls = scope-same f g c ls
scope-same f g (wait.Joined i ∷ c) ls = scope-same f g c ls
scope-same f g (wait.Assert e ∷ c) ls = scope-same f g c ls
scope-same f g (wait.Exist x v ∷ c) ls = scope-same f g c ((x, v) ∷ ls)
scope-same f g (wait.Catch z h ∷ c) ls = scope-same f g c ls
scope-same f g (wait.Try h ∷ c) ls = scope-same f g c ls

-- a choice by weight, under the rules of a number
pub choice-chosen : (kinds : List Kind) (ls : List Link) (ms : List Made) (n : ℕ) (bs : Branches ℕ (Process ℕ)) (p : Process ℕ) → offers_of kinds p ≡ weighted [] bs
    → weighted (scope_at ls n) (each_under kinds (rules_at kinds ls ms n) bs) ≡ under kinds (rules_at kinds ls ms n) (offers_of kinds p)
choice-chosen kinds ls ms n bs p e =
    ap (λ s. weighted s (each_under kinds (rules_at kinds ls ms n) bs)) (scope-same (λ i. instant_of 0) (instant_at kinds ms) (chain_at ls n) [])
    ∙ sym (under-weighted kinds (rules_at kinds ls ms n) [] bs)
    ∙ ap (under kinds (rules_at kinds ls ms n)) (sym e)

-- The parts of a choice among terms.

branch-there : (kinds : List Kind) (rs : List (Rule ℕ)) (cs : List (ℕ × Term)) (n : ℕ) (c : ℕ × Term) → n < length cs → branch_at (each_under kinds rs (offers_of_each kinds (choices cs))) n ≡ under kinds rs (offers_of kinds (process (get_or cs n c).1))
branch-there kinds rs [] n c l = absurd (omega arith)
branch-there kinds rs (d ∷ cs) zero c l = refl
branch-there kinds rs (d ∷ cs) (suc n) c l = branch-there kinds rs cs n c (omega arith)

pub part-there : (kinds : List Kind) (ls : List Link) (ms : List Made) (r : ℕ) (cs : List (ℕ × Term)) (n : ℕ) (c : ℕ × Term) → n < length cs → c ≡ get_or cs n c
    → under kinds (rules_at kinds ls ms r) (offers_of kinds (process c.1)) ≡ branch_at (each_under kinds (rules_at kinds ls ms r) (offers_of_each kinds (choices cs))) n
part-there kinds ls ms r cs n c l e =
    ap (λ (d : ℕ × Term). under kinds (rules_at kinds ls ms r) (offers_of kinds (process d.1))) e
    ∙ sym (branch-there kinds (rules_at kinds ls ms r) cs n c l)

counted-there : (cs : List (ℕ × Term)) (n : ℕ) (c : ℕ × Term) → AreCounted (choices cs) → n < length cs → IsCounted (process (get_or cs n c).1)
counted-there [] n c h l = absurd (omega arith)
counted-there (d ∷ cs) zero c h l = h.0
counted-there (d ∷ cs) (suc n) c h l = counted-there cs n c h.1 (omega arith)

pub part-counted : (u : Unfolding) (later : Later) (cs : List (ℕ × Term)) (n r : ℕ) (c : ℕ × Term) → term_of later ≡ process c.1 → later.rules ≡ r → r ≤ rules_in u → AreCounted (choices cs) → n < length cs → c ≡ get_or cs n c → IsWithin u later
part-counted u later cs n r c t e l h w is =
    let P : Process ℕ → Type 0 = IsCounted in
    record { rules = omega (arith, e, l); counted = subst P (ap (λ (d : ℕ × Term). process d.1) (sym is) ∙ sym t) (counted-there cs n c h w) }

-- The locals in scope, one rule after another.
pub scope-step : (ls : List Link) (n k : ℕ) (l : Link) → suc k ≡ n → n ≤ length ls → IsTrue (are_linked 1 ls) → l ≡ get_or ls k l → (locals : Lasts)
    → in_scope (map (rule_of (λ i. instant_of 0)) (chain_at ls n)) locals ≡ in_scope (map (rule_of (λ i. instant_of 0)) (chain_at ls l.outer)) (with_local_of (rule_of (λ i. instant_of 0) l.rule) locals)
scope-step ls n k l at w h is locals =
    ap (λ c. in_scope (map (rule_of (λ i. instant_of 0)) c) locals) (chain-there ls l k n at h (omega arith) ∙ ap (λ (m : Link). m.rule ∷ chain_at ls m.outer) (sym is))

pub scope-end : (ls : List Link) (n : ℕ) → n ≡ 0 → (locals : Lasts) → in_scope (map (rule_of (λ i. instant_of 0)) (chain_at ls n)) locals ≡ locals
scope-end ls n e locals = ap (λ k. in_scope (map (rule_of (λ i. instant_of 0)) (chain_at ls k)) locals) e ∙ ap (λ c. in_scope (map (rule_of (λ i. instant_of 0)) c) locals) (chain-none ls)

-- a link of a list leads to an earlier number
pub outer-earlier : (ls : List Link) (n k : ℕ) (l : Link) → suc k ≡ n → n ≤ length ls → IsTrue (are_linked 1 ls) → l ≡ get_or ls k l → l.outer < n
outer-earlier ls n k l at w h is = let g : l.outer ≤ k = subst (λ (m : Link). m.outer ≤ k) (sym is) (linked-there ls l k h (omega arith)) in omega arith
