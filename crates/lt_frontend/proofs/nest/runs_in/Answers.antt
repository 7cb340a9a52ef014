use Rattle.std.proofs.Common.{◌≡◌, List, None, map, refl, ap, sym, ◌∙◌, subst}
use Rattle.lt_ast.specs.View.{declaration, program, run}
use Rattle.lt_ast.specs.declared.program.Program.{Program}
use Rattle.lt_types.specs.Environment.{at_start}
use Rattle.lt_types.specs.Typing.{AreDeclarations}
use Rattle.lt_macros.specs.Answer.{asked_name}
use Rattle.lt_frontend.specs.Nest.{runs_at, runs_of}
use Rattle.lt_frontend.proofs.Counting.{fewer_runs}
use Rattle.lt_frontend.proofs.Finding.{first_runs, no_runs_found, runs_found}
use Rattle.lt_frontend.proofs.nest.runs_in.Goals as goal

pub returns-in-Some-place : goal.returns-in-Some-place
returns-in-Some-place c =
    let ds = program c.args.typed.now.program in
    let found = runs_found c.in-Some.name.now ds c.in-Some-place.place (sym (c.in-Some-place.ensures ds c.requires)) in
    let asked = ap (λ node. runs_of (asked_name node) ds) c.in-Some.is in
    let same = ap program c.program-program.ensures.same in
    let typed = subst (λ (p : Program). AreDeclarations (at_start c.args.typed.now.decimals) (program p)) c.program-program.ensures.same c.program-program.ensures.typed.0 in
    let runs : map run c.runs_at.result.now ≡ runs_of (asked_name c.args.node) ds =
    c.runs_at.ensures ∙ ap (λ l. runs_at (map declaration l) c.in-Some-place.place) c.deref.ensures.value ∙ ap (λ l. runs_at l c.in-Some-place.place) same ∙ found ∙ sym asked in
    record { runs = runs; fewer = fewer_runs c.args.typed.now.decimals (asked_name c.args.node) ds (map run c.runs_at.result.now) typed runs }

pub returns-in-None-place : goal.returns-in-None-place
returns-in-None-place c =
    let ds = program c.args.typed.now.program in
    let found = no_runs_found c.in-Some.name.now 0 ds (sym (c.in-None-place.ensures ds c.requires)) in
    let asked = ap (λ node. runs_of (asked_name node) ds) c.in-Some.is in
    record { runs = sym (asked ∙ found); fewer = tt }

pub returns-in-None : goal.returns-in-None
returns-in-None c =
    let found = first_runs (at_start c.args.typed.now.decimals) (program c.program-program.result.now) refl c.program-program.ensures.typed.0 in
    let asked = ap (λ node. runs_of (asked_name node) (program c.args.typed.now.program)) c.in-None.is in
    let same = ap (λ p. runs_of None (program p)) c.program-program.ensures.same in
    record { runs = sym (asked ∙ sym same ∙ found); fewer = tt }
