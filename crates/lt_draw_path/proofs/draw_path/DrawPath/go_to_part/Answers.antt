use Rattle.std.proofs.Common.{◌≡◌, ◌+◌, ◌∷◌, ◌++◌, length, map, reverse, ap, sym, ◌∙◌, arith}
use Rattle.std.specs.List.{slice_get}
use Rattle.lt_draw.specs.Word.{word_at}
use Rattle.lt_draw_path.specs.Going.{part_entry}
use Rattle.lt_draw_path.specs.Order.{tries}
use Rattle.lt_draw_path.proofs.Goings.{goes_first, with_first}
use Rattle.lt_draw_path.proofs.draw_path.DrawPath.go_to_part.Goals as goal

pub returns : goal.returns
returns c =
    let path = c.args.self.now.path.items in
    let position = c.args.self.now.position in
    let places = c.find_tries.new.places.items in
    let es = reverse c.args.self.now.stack.items in
    let f = with_first places c.in_ok-first.first (c.in_ok-first.ensures ∙ c.first.ensures.value ∙ ap (λ xs. slice_get xs 0) c.deref.ensures.value) in
    let depth : c.len-depth.result ≡ length path = omega (arith, c.len-depth.ensures, c.args.self.now.path.ok.0) in
    let puts : reverse c.push_tries.new.stack.items ≡ map (part_entry (position + 1) (length path) c.args.before.now) (c.in_ok-first.first ∷ f.0) ++ es =
    c.push_tries.ensures.puts ∙ (λ i. map (part_entry (position + 1) (depth i) c.args.before.now) (f.1 i) ++ es) in
    let g = goes_first (position + 1) c.args.before.now path f.0 c.in_ok-first.first es _ c.go_to_next.new.self c.go_to_next.result puts c.go_to_next.ensures.turns in (
      f.0,
      sym (ap (tries (word_at c.args.words.now.seed c.args.words.now.step) position) c.deref_mut.ensures.value) ∙ sym c.find_tries.ensures.finds ∙ f.1,
      g.0,
      g.1,
      c.go_to_next.ensures.taken,
      g.2,
    )
