-- What is told of the nodes that are run, and of the node that runs them, is the answer of the nest.
use Rattle.std.proofs.Common.{◌≡◌, ◌<◌, ◌≤◌, ◌+◌, ℕ, zero, suc, nat_le, true, false, List, [], ◌∷◌, ◌++◌, append_assoc, append-nil, Option, Some, None, Result, Ok, Err, IfErr, IfOk, map, drop, length, get_or, option_map, refl, ap, sym, ◌∙◌, subst, arith}
use Rattle.std.proofs.lemmas.Bool.Decides.{nat_tests}
use Rattle.std.proofs.lemmas.List.{at_drop_all, drop_more}
use Rattle.lt_ast.specs.Syntax.{Run, Declaration}
use Rattle.lt_ast.specs.View.{run}
use Rattle.lt_ast.specs.declared.program.RunDecl.{RunDecl}
use Rattle.lt_expand.specs.Answer.{IsNodeAnswer}
use Rattle.lt_expand.specs.Calls.{call_view, calls_in}
use Rattle.lt_expand.specs.Nested.{runs_in_nest}
use Rattle.lt_expand.specs.Scenes.{scene_of}
use Rattle.lt_expand.specs.declared.calls.ExpandedNode.{ExpandedNode}
use Rattle.lt_macros.specs.Expanded.{Node}
use Rattle.lt_macros.specs.Expansion.{expanded_node}
use Rattle.lt_grammar.specs.Text.{IsProgramOf}
use Rattle.lt_term.specs.Scene.{Scene}
use Rattle.lt_term.specs.SceneView.{scene}
use Rattle.lt_types.specs.Typing.{IsWellTyped}
use Rattle.lt_frontend.specs.Nest.{Nest, IsMade, IsTextsNestAnswer, IsNestAnswer, AreNestAnswers, runs_of, runs_with}
use Rattle.lt_frontend.specs.Prepared.{IfRefused}
use Rattle.lt_frontend.specs.declared.refusal.Refusal.{Refusal}
use Rattle.lt_frontend.specs.declared.refusal.Unprepared.{Unprepared}
use Rattle.lt_frontend.specs.declared.refusal.Unprepared.TheVariants as unprepared
use Rattle.lt_frontend.specs.inner.Found.{LeadBelow}

-- nests before others, if those are there
abbrev pub behind : List Nest → Result (List Nest) Refusal → Result (List Nest) Refusal
behind inner (Ok later) = Ok (inner ++ later)
behind inner (Err reason) = Err reason

-- What the runs from this place on have, all have behind these nests.
pub record IsOnward (decimals : ℕ) (ds : List Declaration) (items : List RunDecl) (i : ℕ) (inner : List Nest) : Type 0 where
  pub onward : (rest : Result (List Nest) Refusal) → AreNestAnswers decimals ds (map run (drop i items)) rest → AreNestAnswers decimals ds (map run items) (behind inner rest)

behind_none : (rest : Result (List Nest) Refusal) → rest ≡ behind [] rest
behind_none (Ok later) = refl
behind_none (Err reason) = refl

pub onward_first : (decimals : ℕ) (ds : List Declaration) (items : List RunDecl) (inner : List Nest) → inner ≡ [] → IsOnward decimals ds items 0 inner
onward_first decimals ds items inner e = record { onward = λ rest h. subst (AreNestAnswers decimals ds (map run items)) (behind_none rest ∙ ap (λ l. behind l rest) (sym e)) h }

-- the next one
next : (items : List RunDecl) (i : ℕ) (x : RunDecl) → i < length items → x ≡ get_or items i x → map run (drop i items) ≡ run x ∷ map run (drop (i + 1) items)
next items i x h is = ap (map run) (drop_more items i x h ∙ ap (λ y. y ∷ drop (i + 1) items) (sym is))

behind_one : (decimals : ℕ) (ds : List Declaration) (r : Run) (rs : List Run) (inner : List Nest) (first : Nest) (rest : Result (List Nest) Refusal) → IsNestAnswer decimals ds (Some r.node.text) (Ok first) → AreNestAnswers decimals ds rs rest
    → AreNestAnswers decimals ds (r ∷ rs) (behind (first ∷ []) rest)
behind_one decimals ds r rs inner first (Ok later) h k = AreNestAnswers.all_made r rs first later h k
behind_one decimals ds r rs inner first (Err reason) h k = AreNestAnswers.later_refused r rs first reason h k

behind_both : (inner : List Nest) (first : Nest) (rest : Result (List Nest) Refusal) → behind inner (behind (first ∷ []) rest) ≡ behind (inner ++ (first ∷ [])) rest
behind_both inner first (Ok later) = ap Ok (sym (append_assoc inner (first ∷ []) later))
behind_both inner first (Err reason) = refl

pub onward_next : (decimals : ℕ) (ds : List Declaration) (items : List RunDecl) (i : ℕ) (inner behind' : List Nest) (x : RunDecl) (name : List ℕ) (first : Nest) → i < length items → x ≡ get_or items i x → name ≡ (run x).node.text
    → IsNestAnswer decimals ds (Some name) (Ok first) → behind' ≡ inner ++ (first ∷ []) → IsOnward decimals ds items i inner → IsOnward decimals ds items (i + 1) behind'
onward_next decimals ds items i inner behind' x name first h is e answer f k = record {
  onward = λ rest later.
      let own = subst (λ q. IsNestAnswer decimals ds (Some q) (Ok first)) e answer in
      let one = behind_one decimals ds (run x) (map run (drop (i + 1) items)) inner first rest own later in
      let all = k.onward (behind (first ∷ []) rest) (subst (λ l. AreNestAnswers decimals ds l (behind (first ∷ []) rest)) (sym (next items i x h is)) one) in
      subst (AreNestAnswers decimals ds (map run items)) (behind_both inner first rest ∙ ap (λ l. behind l rest) (sym f)) all;
}

-- one that is refused
pub refused_inside : (decimals : ℕ) (ds : List Declaration) (wanted : Option (List ℕ)) (items : List RunDecl) (i : ℕ) (inner : List Nest) (x : RunDecl) (name : List ℕ) (reason : Refusal) → map run items ≡ runs_of wanted ds → i < length items → x ≡ get_or items i x
    → name ≡ (run x).node.text → IsOnward decimals ds items i inner → IsNestAnswer decimals ds (Some name) (Err reason) → IsNestAnswer decimals ds wanted (Err reason)
refused_inside decimals ds wanted items i inner x name reason runs h is e k answer =
    let own = subst (λ q. IsNestAnswer decimals ds (Some q) (Err reason)) e answer in
    let here = AreNestAnswers.first_refused (run x) (map run (drop (i + 1) items)) reason own in
    let all = k.onward (Err reason) (subst (λ l. AreNestAnswers decimals ds l (Err reason)) (sym (next items i x h is)) here) in
    IsNestAnswer.inside wanted reason (subst (λ l. AreNestAnswers decimals ds l (Err reason)) runs all)

-- all of them
pub all_inside : (decimals : ℕ) (ds : List Declaration) (wanted : Option (List ℕ)) (items : List RunDecl) (i : ℕ) (inner : List Nest) → map run items ≡ runs_of wanted ds → length items ≤ i → IsOnward decimals ds items i inner → AreNestAnswers decimals ds (runs_of wanted ds) (Ok inner)
all_inside decimals ds wanted items i inner runs h k =
    let none = subst (λ l. AreNestAnswers decimals ds l (Ok [])) (sym (at_drop_all (map run) items i h)) AreNestAnswers.none_left in
    let all = subst (λ l. AreNestAnswers decimals ds (map run items) (Ok l)) (append-nil inner) (k.onward (Ok []) none) in
    subst (λ l. AreNestAnswers decimals ds l (Ok inner)) runs all

-- where a refusal is told, one fact for another
pub told_so : (P Q : Refusal → Type 0) (why : Unprepared) → ((reason : Refusal) → P reason → Q reason) → IfRefused why P → IfRefused why Q
told_so P Q (unprepared.Refused reason) f h = f reason h
told_so P Q unprepared.Memory f h = tt

-- a node of its own
one_scene : (decimals : ℕ) (asked : Option Node) (node : Node) (made : Scene) → asked ≡ Some node → option_map (scene_of decimals) asked ≡ Some made → made ≡ scene_of decimals node
one_scene decimals asked node made e h = let f : option_map (scene_of decimals) (Some node) ≡ Some made = sym (ap (option_map (scene_of decimals)) e) ∙ h in cc

pub is_made : (decimals : ℕ) (ds : List Declaration) (wanted : Option (List ℕ)) (inner : List Nest) (made : Nest) (x : ExpandedNode) → IsNodeAnswer decimals (runs_in_nest wanted ds) (expanded_node decimals wanted ds) (Ok x)
    → made.scene ≡ scene x.scenario → made.own_inputs ≡ x.own_inputs → made.runs ≡ runs_with (map call_view x.calls.items) inner → IsMade decimals ds wanted inner made
is_made decimals ds wanted inner made x h s o r = record {
  unrefused = h.0.0;
  tree = h.1.0;
  expanded = h.1.1;
  scene = s ∙ one_scene decimals (expanded_node decimals wanted ds) h.1.0 (scene x.scenario) h.1.1 h.0.1;
  own_inputs = o ∙ h.1.2;
  runs = r ∙ ap (λ cs. runs_with cs inner) h.1.3;
}

-- fewer runs
pub fewer_at : (total : List ℕ → ℕ) (most : ℕ) (items : List RunDecl) (i : ℕ) (x : RunDecl) → i < length items → x ≡ get_or items i x → LeadBelow total most (map run items) → total (run x).node.text < most
fewer_at total most [] i x h is l = absurd (omega arith)
fewer_at total most (y ∷ ys) zero x h is l = subst (λ z. total (run z).node.text < most) (sym is) l.0
fewer_at total most (y ∷ ys) (suc i) x h is l = fewer_at total most ys i x (omega arith) is l.1

pub still_few : (n m k : ℕ) → n < m → nat_le m k ≡ true → nat_le n k ≡ true
still_few n m k h e = grind (arith, nat_tests)

-- and so where a nest is made
pub made_so : {X E : Type 0} (r : Result X E) (P Q : X → Type 0) → ((x : X) → P x → Q x) → IfOk r P → IfOk r Q
made_so (Ok x) P Q f h = f x h
made_so (Err e) P Q f h = tt

pub refused_so : {X : Type 0} (r : Result X Unprepared) (P Q : Refusal → Type 0) → ((reason : Refusal) → P reason → Q reason) → IfErr r (λ why. IfRefused why P) → IfErr r (λ why. IfRefused why Q)
refused_so (Ok x) P Q f h = tt
refused_so (Err why) P Q f h = told_so P Q why f h

-- what the node of a text's program has, the text has
pub text_has : (decimals checked : ℕ) (text : List ℕ) (wanted asked : Option (List ℕ)) (ds others : List Declaration) (answer : Result Nest Refusal) → IsProgramOf text ds → IsWellTyped decimals ds → checked ≡ decimals → others ≡ ds → wanted ≡ asked
    → IsNestAnswer checked others asked answer → IsTextsNestAnswer decimals wanted text answer
text_has decimals checked text wanted asked ds others answer spells typed e f g h =
    let here = subst (λ n. IsNestAnswer n ds wanted answer) e (subst (λ l. IsNestAnswer checked l wanted answer) f (subst (λ q. IsNestAnswer checked others q answer) (sym g) h)) in
    IsTextsNestAnswer.by_node ds answer spells typed here
