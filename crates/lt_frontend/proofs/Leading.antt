-- The runs of a node, up to the first one whose node has a nest of too many runs.
use Rattle.std.proofs.Common.{◌≡◌, ◌<◌, ◌≤◌, ◌+◌, ℕ, zero, suc, nat_le, Bool, true, false, MatchBool, List, [], ◌∷◌, ◌++◌, Option, Some, None, Ok, Err, map, drop, length, get_or, refl, ap, sym, ◌∙◌, subst}
use Rattle.std.proofs.lemmas.List.{at_drop_all, drop_more}
use Rattle.lt_ast.specs.Syntax.{Run, Declaration}
use Rattle.lt_ast.specs.View.{run}
use Rattle.lt_ast.specs.declared.program.RunDecl.{RunDecl}
use Rattle.lt_expand.specs.Nested.{most_runs, runs_in_nest}
use Rattle.lt_expand.specs.Refusals.{node_refusals, refusals_of}
use Rattle.lt_expand.specs.declared.refusal.ExpandRefusal.{ExpandRefusal}
use Rattle.lt_expand.specs.declared.refusal.ExpandRefusal.TheVariants.{TooManyRuns}
use Rattle.lt_macros.specs.Expanded.{Node}
use Rattle.lt_macros.specs.Failing.{unless}
use Rattle.lt_frontend.specs.Nest.{Nest, IsNestAnswer, AreNestAnswers, LeadsOn, runs_of}
use Rattle.lt_frontend.specs.declared.refusal.Refusal.{Refusal}
use Rattle.lt_frontend.specs.inner.Found.{LeadBelow}

-- one of few runs, before others
leads_behind : (decimals : ℕ) (ds : List Declaration) (r : Run) (rs : List Run) (first : Nest) (found : Option (List ℕ)) → nat_le (runs_in_nest (Some r.node.text) ds) most_runs ≡ true → IsNestAnswer decimals ds (Some r.node.text) (Ok first)
    → LeadsOn decimals ds rs found → LeadsOn decimals ds (r ∷ rs) found
leads_behind decimals ds r rs first None few h k = (first ∷ k.0, AreNestAnswers.all_made r rs first k.0 h k.1)
leads_behind decimals ds r rs first (Some name) few h k =
    subst (λ b. MatchBool b ((first : Nest) × IsNestAnswer decimals ds (Some r.node.text) (Ok first) × LeadsOn decimals ds rs (Some name)) (name ≡ r.node.text)) (sym few) (first, h, k)

-- What is left leads on as all of it does, and what is refused of it is refused of all.
pub record LeadsSo (decimals : ℕ) (ds : List Declaration) (items : List RunDecl) (i : ℕ) : Type 0 where
  pub onward : (found : Option (List ℕ)) → LeadsOn decimals ds (map run (drop i items)) found → LeadsOn decimals ds (map run items) found
  pub refused : (reason : Refusal) → AreNestAnswers decimals ds (map run (drop i items)) (Err reason) → AreNestAnswers decimals ds (map run items) (Err reason)

pub leads_first : (decimals : ℕ) (ds : List Declaration) (items : List RunDecl) → LeadsSo decimals ds items 0
leads_first decimals ds items = record { onward = λ found h. h; refused = λ reason h. h }

next : (items : List RunDecl) (i : ℕ) (x : RunDecl) → i < length items → x ≡ get_or items i x → map run (drop i items) ≡ run x ∷ map run (drop (i + 1) items)
next items i x h is = ap (map run) (drop_more items i x h ∙ ap (λ y. y ∷ drop (i + 1) items) (sym is))

pub leads_next : (decimals : ℕ) (ds : List Declaration) (items : List RunDecl) (i : ℕ) (x : RunDecl) (name : List ℕ) (first : Nest) → i < length items → x ≡ get_or items i x → name ≡ (run x).node.text
    → nat_le (runs_in_nest (Some name) ds) most_runs ≡ true → IsNestAnswer decimals ds (Some name) (Ok first) → LeadsSo decimals ds items i → LeadsSo decimals ds items (i + 1)
leads_next decimals ds items i x name first h is e few answer k =
    let own = subst (λ q. IsNestAnswer decimals ds (Some q) (Ok first)) e answer in
    let few' = subst (λ q. nat_le (runs_in_nest (Some q) ds) most_runs ≡ true) e few in
    record {
      onward = λ found l. k.onward found (subst (λ rs. LeadsOn decimals ds rs found) (sym (next items i x h is)) (leads_behind decimals ds (run x) (map run (drop (i + 1) items)) first found few' own l));
      refused = λ reason l. k.refused reason (subst (λ rs. AreNestAnswers decimals ds rs (Err reason)) (sym (next items i x h is)) (AreNestAnswers.later_refused (run x) (map run (drop (i + 1) items)) first reason own l));
    }

-- one of too many
pub leads_to : (decimals : ℕ) (ds : List Declaration) (items : List RunDecl) (i : ℕ) (x : RunDecl) (name : List ℕ) → i < length items → x ≡ get_or items i x → name ≡ (run x).node.text
    → nat_le (runs_in_nest (Some name) ds) most_runs ≡ false → LeadsSo decimals ds items i → LeadsOn decimals ds (map run items) (Some name)
leads_to decimals ds items i x name h is e many k =
    let r = run x in
    let rs = map run (drop (i + 1) items) in
    let here = subst (λ b. MatchBool b ((first : Nest) × IsNestAnswer decimals ds (Some r.node.text) (Ok first) × LeadsOn decimals ds rs (Some name)) (name ≡ r.node.text)) (sym (subst (λ q. nat_le (runs_in_nest (Some q) ds) most_runs ≡ false) e many)) e in
    k.onward (Some name) (subst (λ l. LeadsOn decimals ds l (Some name)) (sym (next items i x h is)) here)

-- one that is refused
pub refused_on : (decimals : ℕ) (ds : List Declaration) (wanted : Option (List ℕ)) (items : List RunDecl) (i : ℕ) (x : RunDecl) (name : List ℕ) (reason : Refusal) → map run items ≡ runs_of wanted ds → i < length items → x ≡ get_or items i x
    → name ≡ (run x).node.text → LeadsSo decimals ds items i → IsNestAnswer decimals ds (Some name) (Err reason) → IsNestAnswer decimals ds wanted (Err reason)
refused_on decimals ds wanted items i x name reason runs h is e k answer =
    let own = subst (λ q. IsNestAnswer decimals ds (Some q) (Err reason)) e answer in
    let here = AreNestAnswers.first_refused (run x) (map run (drop (i + 1) items)) reason own in
    let all = k.refused reason (subst (λ l. AreNestAnswers decimals ds l (Err reason)) (sym (next items i x h is)) here) in
    IsNestAnswer.inside wanted reason (subst (λ l. AreNestAnswers decimals ds l (Err reason)) runs all)

-- none
pub leads_nowhere : (decimals : ℕ) (ds : List Declaration) (items : List RunDecl) (i : ℕ) → length items ≤ i → LeadsSo decimals ds items i → LeadsOn decimals ds (map run items) None
leads_nowhere decimals ds items i h k =
    k.onward None ([], subst (λ l. AreNestAnswers decimals ds l (Ok [])) (sym (at_drop_all (map run) items i h)) AreNestAnswers.none_left)

-- What is known of the first node whose nest has too many runs.
pub record LeadsFound (decimals : ℕ) (ds : List Declaration) (rs : List Run) (name : List ℕ) : Type 0 where
  pub many : nat_le (runs_in_nest (Some name) ds) most_runs ≡ false
  pub refused : (reason : Refusal) → IsNestAnswer decimals ds (Some name) (Err reason) → AreNestAnswers decimals ds rs (Err reason)
  pub smaller : (most : ℕ) → LeadBelow (λ q. runs_in_nest (Some q) ds) most rs → runs_in_nest (Some name) ds < most

found_by : (b : Bool) (decimals : ℕ) (ds : List Declaration) (r : Run) (rs : List Run) (name : List ℕ) → nat_le (runs_in_nest (Some r.node.text) ds) most_runs ≡ b → (LeadsOn decimals ds rs (Some name) → LeadsFound decimals ds rs name)
    → MatchBool b ((first : Nest) × IsNestAnswer decimals ds (Some r.node.text) (Ok first) × LeadsOn decimals ds rs (Some name)) (name ≡ r.node.text) → LeadsFound decimals ds (r ∷ rs) name
found_by true decimals ds r rs name t f h =
    let rest = f h.2 in
    record {
      many = rest.many;
      refused = λ reason k. AreNestAnswers.later_refused r rs h.0 reason h.1 (rest.refused reason k);
      smaller = λ most l. rest.smaller most l.1;
    }
found_by false decimals ds r rs name t f h = record {
  many = subst (λ q. nat_le (runs_in_nest (Some q) ds) most_runs ≡ false) (sym h) t;
  refused = λ reason k. AreNestAnswers.first_refused r rs reason (subst (λ q. IsNestAnswer decimals ds (Some q) (Err reason)) h k);
  smaller = λ most l. subst (λ q. runs_in_nest (Some q) ds < most) (sym h) l.0;
}

pub leads_found : (decimals : ℕ) (ds : List Declaration) (rs : List Run) (name : List ℕ) → LeadsOn decimals ds rs (Some name) → LeadsFound decimals ds rs name
leads_found decimals ds [] name h = absurd h
leads_found decimals ds (r ∷ rs) name h = found_by (nat_le (runs_in_nest (Some r.node.text) ds) most_runs) decimals ds r rs name refl (leads_found decimals ds rs name) h

last_left : (xs ys : List ExpandRefusal) (r : ExpandRefusal) → ys ≡ r ∷ [] → xs ++ ys ≡ [] → ⊥
last_left [] ys r e h = absurd (cc)
last_left (x ∷ xs) ys r e h = absurd (cc)

-- of a nest of too many runs something is refused
pub too_many : (decimals runs : ℕ) (asked : Option Node) → nat_le runs most_runs ≡ false → refusals_of decimals runs asked ≡ [] → ⊥
too_many decimals runs None h e = absurd (cc)
too_many decimals runs (Some node) h e = last_left (node_refusals decimals node) (unless (nat_le runs most_runs) TooManyRuns) TooManyRuns (ap (λ b. unless b TooManyRuns) h) e
