-- Runs one after another, as the code has them.
use Rattle.std.proofs.Common.{◌≡◌, Vec, Global, List, [], ◌∷◌, ◌++◌, map, refl, ap, sym, ◌∙◌}
use mathlib.Core.Former.{Count}
use denote.Hole.Carrier.{out}
use Rattle.std.specs.List.{zip}
use Rattle.lt_expand.specs.Calls.{call_view}
use Rattle.lt_expand.specs.declared.calls.Call.{Call}
use Rattle.lt_frontend.specs.Nest as n
use Rattle.lt_frontend.specs.Nest.{Runs, no_run, runs_with}
use Rattle.lt_frontend.specs.NestView.{nest, runs, run_row, run_before}
use Rattle.lt_frontend.specs.declared.nest.Nest.{Nest}
use Rattle.lt_frontend.specs.declared.nest.NestRun.{NestRun}
use Rattle.lt_frontend.specs.declared.nest.NestRuns.{NestRuns, NestRuns', out-NestRuns, out-roll-NestRuns, roll-NestRuns, Row_of-NestRun, end_of-NestRun, more_of-NestRun, items-the_row-NestRun, items_shown-the_row-NestRun-0}
use Rattle.lt_frontend.specs.declared.nest.NestRun.TheBlock.{shown-the_row-NestRun-0}

-- runs before others
abbrev pub runs_before : List NestRun → Runs → Runs
runs_before [] rest = rest
runs_before (x ∷ xs) rest = run_before x (runs_before xs rest)

-- so those that are made of a run and the nest of its node
abbrev pub pair_before : Call × Nest → Runs → Runs
pair_before p rest = n.run (call_view p.0).arguments (nest p.1).scene (nest p.1).own_inputs (nest p.1).runs rest

abbrev pub pairs_before : List (Call × Nest) → Runs → Runs
pairs_before [] rest = rest
pairs_before (p ∷ ps) rest = pair_before p (pairs_before ps rest)

-- of the list in a nest
row_list : {m : Count} (k : Row_of-NestRun m) → run_row k ≡ runs_before (items-the_row-NestRun m k) no_run
row_list end_of-NestRun = refl
row_list (more_of-NestRun r rest) = ap (run_before r) (row_list rest)

pub runs_list : (m : NestRuns) → runs m ≡ runs_before (out-NestRuns m).items.items no_run
unfolding out-NestRuns out shown-the_row-NestRun-0
runs_list (NestRuns' shape row) = row_list row ∙ ap (λ xs. runs_before xs no_run) (sym (items_shown-the_row-NestRun-0 shape row))

pub runs_whole : (xs : Vec NestRun Global) → runs (roll-NestRuns (record { items = xs })) ≡ runs_before xs.items no_run
runs_whole xs = runs_list (roll-NestRuns (record { items = xs })) ∙ ap (λ m. runs_before m.items.items no_run) (out-roll-NestRuns (record { items = xs }))

-- one more
runs_more : (xs : List NestRun) (x : NestRun) (rest : Runs) → runs_before (xs ++ (x ∷ [])) rest ≡ runs_before xs (run_before x rest)
runs_more [] x rest = refl
runs_more (y ∷ ys) x rest = ap (run_before y) (runs_more ys x rest)

pairs_more : (ps : List (Call × Nest)) (p : Call × Nest) (rest : Runs) → pairs_before (ps ++ (p ∷ [])) rest ≡ pairs_before ps (pair_before p rest)
pairs_more [] p rest = refl
pairs_more (q ∷ qs) p rest = ap (pair_before q) (pairs_more qs p rest)

pub pushed : (xs new : List NestRun) (x : NestRun) (ps : List (Call × Nest)) (p : Call × Nest) → new ≡ xs ++ (x ∷ []) → ((rest : Runs) → runs_before xs rest ≡ pairs_before ps rest) → ((rest : Runs) → run_before x rest ≡ pair_before p rest)
    → (rest : Runs) → runs_before new rest ≡ pairs_before (ps ++ (p ∷ [])) rest
pushed xs new x ps p e h k rest =
    ap (λ l. runs_before l rest) e ∙ runs_more xs x rest ∙ h (run_before x rest) ∙ ap (pairs_before ps) (k rest) ∙ sym (pairs_more ps p rest)

-- all of them
pub all_pairs : (cs : List Call) (ns : List Nest) → pairs_before (zip cs ns) no_run ≡ runs_with (map call_view cs) (map nest ns)
all_pairs [] ns = refl
all_pairs (c ∷ cs) [] = refl
all_pairs (c ∷ cs) (m ∷ ms) = ap (pair_before (c, m)) (all_pairs cs ms)

pub same_pairs : (ps : List (Call × Nest)) → map (λ (p : Call × Nest). (p.0, p.1)) ps ≡ ps
same_pairs [] = refl
same_pairs (p ∷ ps) = ap (λ l. p ∷ l) (same_pairs ps)
