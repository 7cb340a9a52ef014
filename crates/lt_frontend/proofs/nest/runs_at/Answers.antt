use Rattle.std.proofs.Common.{length, refl, sym, ◌∙◌}
use Rattle.std.proofs.lemmas.Option.{slice_get_read}
use Rattle.lt_frontend.proofs.Finding.{no_runs_past, runs_there}
use Rattle.lt_frontend.proofs.nest.runs_at.Goals as goal

pub returns-in-Some : goal.returns-in-Some
returns-in-Some c =
    let ds = c.args.decls.now in
    let read = slice_get_read ds (length ds) c.args.place c.in-Some.decl.now refl c.in-Some.ensures.lookup.3.0 c.in-Some.ensures.lookup.1 in
    c.runs_in_declaration.ensures ∙ sym (runs_there ds c.args.place c.in-Some.decl.now read)

pub returns-in-None : goal.returns-in-None
returns-in-None c = sym (no_runs_past c.args.decls.now c.args.place c.in-None.ensures.lookup.3)
