-- What comes after the leaves that are found is what comes after those that are walked to.
use Rattle.std.proofs.Common.{◌≡◌, ◌∙◌, ◌<◌, ◌^◌, ℕ, Bool, List, [], ◌∷◌, ◌++◌, Some, ap, drop, length, map, refl, slice_get, subst, sym}
use Rattle.std.specs.List.{flat_map}
use Rattle.std.proofs.lemmas.List.{append-nil, length-map, map-append}
use Rattle.lt_formula.specs.Expression.{Expression}
use Rattle.lt_num.specs.declared.value.Value.{Value}
use Rattle.lt_term.specs.Mapped.{node_with_constraints, weight_mapped}
use Rattle.lt_term.specs.Offers.{TermTree, offers_of}
use Rattle.lt_term.specs.Process.{Process, with_constraints}
use Rattle.lt_term.specs.Tree as t
use Rattle.lt_term.specs.Tree.{Node, flattened, leaf_node}
use Rattle.lt_term.proofs.Public.{nodes_natural}
use Rattle.lt_legal.proofs.Public.{tells}
use Rattle.lt_legal.specs.Back.{back}
use Rattle.lt_legal.specs.Nodes.{Shape, flat, found_at, has_in, run}
use Rattle.lt_legal.specs.declared.found.Found.{Found}
use Rattle.lt_instant.specs.Instant.{Leaf}
use Rattle.lt_instant.specs.declared.draw_context.DrawContext.{DrawContext}
use Rattle.lt_instant.specs.inner.DrawContextView.{scene_of, worth_of}
use Rattle.lt_check.specs.declared.step.ShownStep.{ShownStep}
use Rattle.lt_check.specs.inner.Finding.{found_in, nodes_by, told_by}
use Rattle.lt_check.specs.inner.Followers.{next_by, nexts_by}
use Rattle.lt_check.specs.inner.QuestionView.{is_step, kinds_in, lives_in, meaning_in, number_sight, number_worth, step_leaves}
use Rattle.lt_check.specs.inner.Searches.{is_alive}
use Rattle.lt_check.specs.inner.Seen.{choice_seen, node_by, node_seen}
use Rattle.lt_check.specs.inner.Shaped.{parts_by, shape_by, shape_seen}
use Rattle.lt_check.specs.inner.Wanted.{for_step}
use Rattle.lt_check.proofs.Flats.{flat_one}
use Rattle.lt_check.proofs.Founds.{found_walked}
use Rattle.lt_check.proofs.Looks.{dropped}
use Rattle.lt_check.proofs.Loose.{here}
use Rattle.lt_check.proofs.Shapes.{count_seen, flat_seen, nodes_are}
use Rattle.lt_check.proofs.Sights.{mapped_worths}
use Rattle.lt_check.proofs.VisitedParts.{choice_lives, order_lives}

module _ (m : DrawContext) (p : Process ℕ) where
  abbrev numbers : TermTree ℕ
  numbers = offers_of (kinds_in m) p

  abbrev meant : TermTree Expression
  meant = offers_of (kinds_in m) (with_constraints (meaning_in m) p)

  -- a node of numbers is seen as the one of their expressions
  node_is : (test : Leaf → Bool) (n : Node ℕ (Process ℕ)) → node_by (number_worth m) (number_sight m test) n ≡ node_seen (worth_of m) test (node_with_constraints (meaning_in m) n)
  node_is test (leaf_node x) = refl
  node_is test t.ordered_node = refl
  node_is test (t.weighted_node ls ws) = λ i. choice_seen (λ f. (number_sight m test).fails f) (mapped_worths m ls ws i) (sym (length-map ws (weight_mapped (meaning_in m))) i)

  nodes_is : (test : Leaf → Bool) (ns : List (Node ℕ (Process ℕ))) → map (node_by (number_worth m) (number_sight m test)) ns ≡ map (node_seen (worth_of m) test) (map (node_with_constraints (meaning_in m)) ns)
  nodes_is test [] = refl
  nodes_is test (n ∷ ns) = λ i. node_is test n i ∷ nodes_is test ns i

  -- so are all nodes
  seen_same : (test : Leaf → Bool) → map (node_by (number_worth m) (number_sight m test)) (flattened numbers) ≡ nodes_by (worth_of m) test meant
  seen_same test = nodes_is test (flattened numbers) ∙ ap (map (node_seen (worth_of m) test)) (nodes_natural (meaning_in m) (kinds_in m) p)

  -- and the shape
  shape_same : (test : Leaf → Bool) → shape_seen (worth_of m) test meant ≡ shape_by (number_worth m) (number_sight m test) numbers
  shape_same test =
      (flat_one (shape_seen (worth_of m) test meant) (shape_by (number_worth m) (number_sight m test) numbers) [] []
      (sym (nodes_are (worth_of m) _ meant) ∙ sym (seen_same test) ∙ nodes_are (number_worth m) (number_sight m test) numbers)).0

  module _ (few : length (flattened numbers) < 2 ^ 32) where
    -- what is told of the left tree of an order is whether it lives
    told_lives : (a : TermTree ℕ) (k : ℕ) (rest : List (Node ℕ (Process ℕ))) → drop k (flattened numbers) ≡ flattened a ++ rest → told_by (worth_of m) (is_alive (scene_of m)) meant k ≡ lives_in m a
    told_lives a k rest h =
        let f = node_by (number_worth m) (number_sight m (is_alive (scene_of m))) in
        let s : Shape = shape_by (number_worth m) (number_sight m (is_alive (scene_of m))) a in
        let at : drop k (map f (flattened numbers)) ≡ flat s (map f rest) = dropped f k (flattened numbers) ∙ ap (map f) h ∙ map-append f (flattened a) rest ∙ flat_seen (number_worth m) (number_sight m (is_alive (scene_of m))) a (map f rest) in
        let long : length (map f (flattened numbers)) < 2 ^ 32 = subst (λ n. n < 2 ^ 32) (sym (length-map (flattened numbers) f)) few in
        ap (λ ns. (found_at (run ns) k).has) (sym (seen_same (is_alive (scene_of m))))
        ∙ ap (λ (x : Found). x.has) (tells (map f (flattened numbers)) k s long (map f rest, at))

    -- what follows
    pub found_nexts : (step : ShownStep) (locals : List Value) →
        flat_map (λ x. next_by locals (Some (leaf_node x))) (step_leaves m step numbers) ≡ nexts_by locals (flattened numbers) (found_in (scene_of m) (worth_of m) (for_step (scene_of m) step.raws.items step.marks.items) meant)
    found_nexts step locals =
        let alive = number_sight m (is_alive (scene_of m)) in
        let live = told_by (worth_of m) (is_alive (scene_of m)) meant in
        sym
        (ap (λ s. nexts_by locals (flattened numbers) (back live 0 s)) (shape_same (is_step m step))
        ∙ found_walked (number_worth m) (number_sight m (is_step m step)) refl (λ x. refl) (lives_in m)
        (order_lives (number_worth m) alive refl) (λ bs vs. has_in (parts_by (number_worth m) alive bs vs)) (choice_lives (number_worth m) alive) (λ w a bs v vs. refl)
        (flattened numbers) (count_seen (number_worth m) (number_sight m (is_step m step))) live told_lives
        (λ x. next_by locals (Some (leaf_node x))) (λ k. next_by locals (slice_get (flattened numbers) k)) (λ x k rest h. ap (next_by locals) (here (flattened numbers) k (leaf_node x) rest h))
        numbers 0 [] (sym (append-nil (flattened numbers))))
