-- The nest of a node that is run has fewer runs than that of the node that runs it.
use Rattle.std.proofs.Common.{◌≡◌, ◌<◌, ◌+◌, ℕ, suc, nat_le, Bool, true, false, ◌||◌, List, [], ◌∷◌, Option, Some, None, map, bytes_eq, if◌then◌else◌, not, IsTrue, refl, ap, sym, ◌∙◌, subst, arith}
use Rattle.std.proofs.lemmas.Slice.Eq.{bytes_eq-Decides}
use Rattle.lt_ast.specs.Syntax as s
use Rattle.lt_ast.specs.Syntax.{Word, Run, Declaration}
use Rattle.lt_expand.specs.Nested.{Counted, count_of, counted_runs, most_runs, runs_among, runs_in_nest}
use Rattle.lt_macros.specs.Expansion.{is_wanted}
use Rattle.lt_types.specs.Environment as types
use Rattle.lt_types.specs.Environment.{Environment, found_node, is_among, node_names, at_start}
use Rattle.lt_types.specs.Typing.{AreDeclarations, AreRuns}
use Rattle.lt_frontend.specs.Nest.{runs_of}
use Rattle.lt_frontend.specs.inner.Found.{HaveFewer, LeadBelow}
use Rattle.lt_frontend.proofs.Finding.{first_runs, inside_nodes, macro_nodes}

-- a node that is known has a name among those
among_by : (b : Bool) (n node : types.Node) (found : Option types.Node) (other : Bool) → (if b then Some n else found) ≡ Some node → (found ≡ Some node → other ≡ true) → (b || other) ≡ true
among_by true n node found other e h = refl
among_by false n node found other e h = h e

known_among : (ns : List types.Node) (name : List ℕ) (n : types.Node) → found_node ns name ≡ Some n → is_among name (node_names ns) ≡ true
known_among [] name n e = absurd (cc)
known_among (m ∷ ns) name n e = among_by (bytes_eq name m.name) m n (found_node ns name) (is_among name (node_names ns)) e (known_among ns name n)

-- What is known of the numbers of runs at a place of a text: of nodes before it they are counted, and of others they are yet to
-- be.
record IsCounted (total : List ℕ → ℕ) (names : List (List ℕ)) (known : List Counted) (ds : List Declaration) : Type 0 where
  pub before : (q : List ℕ) → is_among q names ≡ true → total q ≡ count_of known q
  pub behind : (q : List ℕ) → is_among q names ≡ false → total q ≡ runs_among known (Some q) ds

-- a node of a new name is counted
before_by : (total : List ℕ → ℕ) (b : Bool) (q name : List ℕ) (names : List (List ℕ)) (runs other : ℕ) → bytes_eq q name ≡ b → total name ≡ runs → (is_among q names ≡ true → total q ≡ other) → (b || is_among q names) ≡ true
    → total q ≡ (if b then runs else other)
before_by total true q name names runs other t e h a = ap total ((bytes_eq-Decides q name).0 t) ∙ e
before_by total false q name names runs other t e h a = h a

behind_by : (b among : Bool) (t runs other : ℕ) → (among ≡ false → t ≡ (if b then runs else other)) → (b || among) ≡ false → t ≡ other
behind_by true among t runs other h a = absurd (cc)
behind_by false among t runs other h a = h a

same_name : (name : List ℕ) → bytes_eq name name ≡ true
same_name name = (bytes_eq-Decides name name).1 refl

not_true : (b : Bool) → not b ≡ true → b ≡ false
not_true true e = absurd (cc)
not_true false e = refl

chosen : (b : Bool) (x y : ℕ) → b ≡ true → (if b then x else y) ≡ x
chosen true x y e = refl
chosen false x y e = absurd (cc)

node_counted : (total : List ℕ → ℕ) (names : List (List ℕ)) (known : List Counted) (w : Word) (ins outs : s.Groupings) (rs : List Run) (x : s.Trace) (ds : List Declaration) → is_among w.text names ≡ false
    → IsCounted total names known (s.node w ins outs rs x ∷ ds) → IsCounted total (w.text ∷ names) (record { name = w.text; runs = counted_runs known rs } ∷ known) ds
node_counted total names known w ins outs rs x ds new h =
    let one : Counted = record { name = w.text; runs = counted_runs known rs } in
    let own : total w.text ≡ counted_runs known rs = h.behind w.text new ∙ chosen (bytes_eq w.text w.text) (counted_runs known rs) (runs_among (one ∷ known) (Some w.text) ds) (same_name w.text) in
    record {
      before = λ q a. before_by total (bytes_eq q w.text) q w.text names (counted_runs known rs) (count_of known q) refl own (h.before q) a;
      behind = λ q a. behind_by (bytes_eq q w.text) (is_among q names) (total q) (counted_runs known rs) (runs_among (one ∷ known) (Some q) ds) (h.behind q) a;
    }

-- each of the runs of a node counts
runs_below : (total : List ℕ → ℕ) (known : List Counted) (env : Environment) (taken : List (List ℕ)) (rs : List Run) (most : ℕ) → ((q : List ℕ) → is_among q (node_names env.nodes) ≡ true → total q ≡ count_of known q)
    → AreRuns env taken rs → (more : ℕ) → most ≡ more + counted_runs known rs → LeadBelow total most rs
runs_below total known env taken [] most t h more e = tt
runs_below total known env taken (r ∷ rs) most t h more e =
    let here : total r.node.text ≡ count_of known r.node.text = t r.node.text (known_among env.nodes r.node.text h.0.1 h.0.2) in (
      omega arith,
      runs_below total known (types.with_run env r) (types.with_names r.names taken) rs most t h.1 (more + suc (count_of known r.node.text)) (omega arith),
    )

below_by : (b : Bool) (total : List ℕ → ℕ) (one other : ℕ) (rs others : List Run) → LeadBelow total one rs → LeadBelow total other others → LeadBelow total (if b then one else other) (if b then rs else others)
below_by true total one other rs others h k = h
below_by false total one other rs others h k = k

-- the runs of the node that is asked for
below_among : (total : List ℕ → ℕ) (known : List Counted) (env : Environment) (wanted : Option (List ℕ)) (ds : List Declaration) → AreDeclarations env ds → IsCounted total (node_names env.nodes) known ds
    → LeadBelow total (runs_among known wanted ds) (runs_of wanted ds)
below_among total known env wanted [] h k = tt
below_among total known env wanted (s.node w ins outs rs x ∷ ds) h k =
    let inside : Environment = types.with_inputs_and_outputs env ins outs in
    let next : List Counted = record { name = w.text; runs = counted_runs known rs } ∷ known in
    let before = subst (λ ns. (q : List ℕ) → is_among q (node_names ns) ≡ true → total q ≡ count_of known q) (sym (inside_nodes env ins outs)) k.before in
    below_by (is_wanted wanted w) total (counted_runs known rs) (runs_among next wanted ds) rs (runs_of wanted ds)
    (runs_below total known inside (types.with_groups_names outs (types.with_groups_names ins [])) rs (counted_runs known rs) before h.0.3 0 (omega arith))
    (below_among total next (types.with_declaration env (s.node w ins outs rs x)) wanted ds h.1 (node_counted total (node_names env.nodes) known w ins outs rs x ds (not_true (is_among w.text (node_names env.nodes)) h.0.0.0) k))
below_among total known env wanted (s.macro_declaration m ∷ ds) h k =
    below_among total known (types.with_macro env m) wanted ds h.1
    (subst (λ ns. IsCounted total (node_names ns) known ds) (sym (macro_nodes env m)) (record { before = k.before; behind = k.behind }))
below_among total known env wanted (s.exception_declaration ws ∷ ds) h k =
    below_among total known (types.with_exceptions env ws) wanted ds h.1 (record { before = k.before; behind = k.behind })

-- in a text that is well typed
pub fewer_runs : (decimals : ℕ) (wanted : Option (List ℕ)) (ds : List Declaration) (rs : List Run) → AreDeclarations (at_start decimals) ds → rs ≡ runs_of wanted ds → HaveFewer ds wanted rs
fewer_runs decimals wanted ds rs h e =
    let total = λ (q : List ℕ). runs_in_nest (Some q) ds in
    subst (LeadBelow total (runs_in_nest wanted ds)) (sym e)
    (below_among total [] (at_start decimals) wanted ds h (record { before = λ q e. absurd (cc); behind = λ q e. refl }))

-- The first node of a text runs none.

first_by : (known : List Counted) (rs : List Run) → rs ≡ [] → counted_runs known rs ≡ 0
first_by known rs e = ap (counted_runs known) e

first_among : (known : List Counted) (ds : List Declaration) → runs_of None ds ≡ [] → runs_among known None ds ≡ 0
first_among known [] e = refl
first_among known (s.node w ins outs rs x ∷ ds) e = first_by known rs e
first_among known (s.macro_declaration m ∷ ds) e = first_among known ds e
first_among known (s.exception_declaration ws ∷ ds) e = first_among known ds e

pub first_few : (decimals : ℕ) (ds : List Declaration) → AreDeclarations (at_start decimals) ds → nat_le (runs_in_nest None ds) most_runs ≡ true
first_few decimals ds h = ap (λ k. nat_le k most_runs) (first_among [] ds (first_runs (at_start decimals) ds refl h))
