-- What is taken at leaves.
use Rattle.std.proofs.Common.{◌≡◌, ◌≤◌, ◌<◌, ◌+◌, ℕ, Bool, true, false, if◌then◌else◌, List, length, Some, None, ℤ, refl, ap, sym, ◌∙◌, arith}
use Rattle.std.proofs.lemmas.Bool.{lt-ltb, ltb-true}
use Rattle.std.proofs.lemmas.List.{length-map}
use Rattle.std.specs.List.{list_any}
use Rattle.std.specs.declared.option.Option.{Option}
use Rattle.lt_draw.specs.declared.directions.Draw.{Draw}
use Rattle.lt_formula.specs.Expression.{Expression}
use Rattle.lt_num.specs.declared.kind.Kind.{Kind}
use Rattle.lt_num.specs.declared.value.Value.{Value}
use Rattle.lt_space.specs.Formula.{Formula}
use Rattle.lt_term.proofs.Advances.{advanced-natural}
use Rattle.lt_term.proofs.Public.{nodes_natural}
use Rattle.lt_term.specs.Advanced.{advanced}
use Rattle.lt_term.specs.Configuration.{Configuration, Reaction}
use Rattle.lt_term.specs.Evaluated.{vanish, nothing, raised, faulty, go}
use Rattle.lt_term.specs.Limits.{most_tree_nodes}
use Rattle.lt_term.specs.Mapped.{node_with_constraints}
use Rattle.lt_term.specs.Offers.{offers_of}
use Rattle.lt_term.specs.Process.{Process, with_constraints}
use Rattle.lt_term.specs.Scene.{Scene}
use Rattle.lt_term.specs.SceneView.{scene}
use Rattle.lt_term.specs.Size.{capped}
use Rattle.lt_term.specs.Tree.{Lasts, flattened, size}
use Rattle.lt_term.specs.View.{kinds_of}
use Rattle.lt_term.specs.declared.scenario.Scenario.{Scenario}
use Rattle.lt_marks.specs.View as track
use Rattle.lt_instant.specs.Drawn.{Met}
use Rattle.lt_instant.specs.Instant.{Leaf, values, deadlock, too_large, go_instant, drawn_in, has_need, instant_of, is_too_large, leaf_instant, may_give_up, offered, taken_in, taken_instant, words_of}
use Rattle.lt_instant.specs.Solved.{locals_by, outputs_by, scoped, solution_of, values_of}
use Rattle.lt_instant.specs.SolverView.{solver_values}
use Rattle.lt_instant.specs.RunStateView.{configuration, process_of}
use Rattle.lt_instant.specs.declared.explorer.Explorer.{Explorer}
use Rattle.lt_instant.specs.declared.run_state.RunState.{RunState}
use Rattle.lt_instant.specs.inner.Found.{solved, solved_by, found_at}
use Rattle.lt_instant.specs.inner.DrawContextView.{meaning_of}
use Rattle.lt_instant.specs.inner.Takes.{IsBehind, due_leaf}
use Rattle.lt_instant.proofs.Scenes.{kinds-view}

module _ (s : Scene) (seed : ℕ) (draw : Draw) (c : Configuration) (inputs : List Value) where
  -- an instant whose draw arrives at a leaf with this need may be given up with it
  pub may_be_given_up : (most n : ℕ) → is_too_large s c ≡ false → most < n → list_any (λ m. has_need s n m.outlook) (drawn_in s seed draw c inputs).looked_at ≡ true → may_give_up s seed draw most c inputs n ≡ true
  may_be_given_up most n small over there = rw (lt-ltb most n over, small) there

  -- the instant that takes a leaf, by the leaf alone
  pub takes_leaf : (x : Option (Met Formula (Process Expression))) (o : Leaf) → due_leaf x ≡ Some o → taken_instant s seed draw c inputs x ≡ leaf_instant s seed draw c inputs o
  takes_leaf None o h = absurd (cc)
  takes_leaf (Some m) o h = let e : m.outlook ≡ o = cc in ap (leaf_instant s seed draw c inputs) e

  pub takes_none : (x : Option (Met Formula (Process Expression))) → due_leaf x ≡ None → deadlock ≡ taken_instant s seed draw c inputs x
  takes_none None h = refl
  takes_none (Some m) h = absurd (cc)

  -- an instant at which these raw numbers are found
  solved_go : (raws : List ℤ) (ls : Lasts) (n : Process Expression) (solution : Option (List ℤ)) → solved raws ≡ solved_by solution → go_instant s c inputs ls n solution ≡ go_instant s c inputs ls n (Some raws)
  solved_go raws ls n None h = absurd (cc)
  solved_go raws ls n (Some others) h = let e : others ≡ raws = cc in ap (λ rs. go_instant s c inputs ls n (Some rs)) e

-- Values.

module _ (s : Scenario) (seed : ℕ) (draw : Draw) (c : Configuration) (inputs : List Value) (e : Explorer) where
  -- what an instant leaves, by its locals and by what comes next
  pub goes : (o : Leaf) (new : RunState) → IsBehind s.table e o → solved (solver_values e.solver) ≡ found_at (scene s) draw (words_of seed c) o
      → new.past.reaction.inputs.items ≡ inputs → new.past.reaction.outputs.items ≡ outputs_by (scene s) (solver_values e.solver)
      → new.past.locals.items ≡ scoped e.walk.lasts.items 0 (locals_by (scene s) (solver_values e.solver)) → new.past.has_reacted ≡ true
      → process_of new.explorer ≡ advanced (values_of e.walk.lasts.items (locals_by (scene s) (solver_values e.solver))) (track.next e.track) → new.past.step ≡ c.step
      → values new.past.reaction.outputs.items new.past.locals.items (record (configuration s.table new) { step = new.past.step + 1 }) ≡ leaf_instant (scene s) seed draw c inputs o
  goes vanish new b h i u l r p k = absurd (cc)
  goes nothing new b h i u l r p k = absurd (cc)
  goes (raised z) new b h i u l r p k = absurd (cc)
  goes (faulty f) new b h i u l r p k = absurd (cc)
  goes (go f ls n) new b h i u l r p k =
      let rs : List ℤ = solver_values e.solver in
      let meaning : ℕ → Expression = meaning_of s.table in
      let next : with_constraints meaning (process_of new.explorer) ≡ advanced (values_of ls (locals_by (scene s) rs)) n =
      ap (with_constraints meaning) p
      ∙ advanced-natural (values_of e.walk.lasts.items (locals_by (scene s) rs)) meaning (track.next e.track)
      ∙ (λ j. advanced (values_of (b.0 j) (locals_by (scene s) rs)) (b.1 j)) in
      (λ j. values (u j) ((l ∙ ap (λ ms. scoped ms 0 (locals_by (scene s) rs)) b.0) j)
      (record { process = next j; step = k j + 1; previous = (if r j then Some (let x : Reaction = record { inputs = i j; outputs = u j } in x) else None) }))
      ∙ sym (solved_go (scene s) seed draw c inputs rs ls n (solution_of (scene s) draw (words_of seed c) ls f) h)

-- The size of what is offered.

module _ (s : Scenario) (x : RunState) where
  abbrev at : Configuration
  at = configuration s.table x

  -- how many nodes it has
  size_is : size (offered (scene s) at) ≡ size (offers_of (kinds_of s.locals.items) (process_of x.explorer))
  size_is =
      ap (λ ks. size (offers_of ks (with_constraints (meaning_of s.table) (process_of x.explorer)))) (sym (kinds-view s.locals.items))
      ∙ ap length (sym (nodes_natural (meaning_of s.table) (kinds_of s.locals.items) (process_of x.explorer)))
      ∙ length-map (flattened (offers_of (kinds_of s.locals.items) (process_of x.explorer))) (node_with_constraints (meaning_of s.table))

  module _ (seed : ℕ) (draw : Draw) (inputs : List Value) (n : ℕ) (e : (kinds : List Kind) → n ≡ capped (size (offers_of kinds (process_of x.explorer)))) where
    pub is_large : most_tree_nodes < n → too_large ≡ instant_of (scene s) seed draw at inputs
    is_large l =
        let over : most_tree_nodes < size (offered (scene s) at) = omega (arith, e (kinds_of s.locals.items), l, size_is) in
        ap (λ b. if b then too_large else taken_instant (scene s) seed draw at inputs (taken_in (scene s) seed draw at inputs)) (sym (lt-ltb most_tree_nodes (size (offered (scene s) at)) over))

    pub not_large : n ≤ most_tree_nodes → is_too_large (scene s) at ≡ false
    not_large l = by_test (is_too_large (scene s) at) refl
      where
        by_test : (b : Bool) → is_too_large (scene s) at ≡ b → b ≡ false
        by_test true h = absurd (let k = ltb-true most_tree_nodes (size (offered (scene s) at)) h in omega (arith, k, e (kinds_of s.locals.items), l, size_is))
        by_test false h = refl

    -- the instant of what isn't too large
    pub is_small : n ≤ most_tree_nodes → taken_instant (scene s) seed draw at inputs (taken_in (scene s) seed draw at inputs) ≡ instant_of (scene s) seed draw at inputs
    is_small l = ap (λ b. if b then too_large else taken_instant (scene s) seed draw at inputs (taken_in (scene s) seed draw at inputs)) (sym (not_large l))

-- where a run stands while what is still to be done and what is behind it stay
pub stands_still : (s : Scenario) (x y : RunState) → process_of y.explorer ≡ process_of x.explorer → y.past ≡ x.past → configuration s.table y ≡ configuration s.table x
stands_still s x y p b = λ i. record { process = with_constraints (meaning_of s.table) (p i); step = (b i).step; previous = (configuration s.table (record { explorer = x.explorer; past = b i })).previous }
