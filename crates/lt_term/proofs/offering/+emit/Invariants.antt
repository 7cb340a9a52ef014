use Rattle.std.proofs.Common.{◌≡◌, ◌++◌, take}
use Rattle.std.specs.List.{flat_map}
use Rattle.lt_term.specs.Offers.{in_catch, in_par, in_seq, offers_of}
use Rattle.lt_term.specs.Replaced.{replaced}
use Rattle.lt_term.specs.Tree.{flattened}
use Rattle.lt_term.specs.TreeView.{tree_nodes}
use Rattle.lt_term.specs.View.{kinds_of, process}
use Rattle.lt_term.proofs.offering.+emit.Given as goal

-- the parts so far were put out
abbrev pub invariant-emit_parts-loop-part : goal.invariant-emit_parts-loop-part
invariant-emit_parts-loop-part l =
    tree_nodes l.out.items ≡ tree_nodes l.fn.out.items ++ flat_map (λ p. flattened (offers_of (kinds_of l.locals) (process p.1))) (take l.part-index l.part-items)

-- what was put out so far is what the nodes so far become
abbrev pub invariant-put_seq-loop-node : goal.invariant-put_seq-loop-node
invariant-put_seq-loop-node l = tree_nodes l.out.items ≡ tree_nodes l.fn.out.items ++ flat_map (replaced (in_seq (process l.second.value) (offers_of (kinds_of l.locals) (process l.second.value)))) (tree_nodes l.yielded)

abbrev pub invariant-put_par-loop-node : goal.invariant-put_par-loop-node
invariant-put_par-loop-node l = tree_nodes l.out.items ≡ tree_nodes l.fn.out.items ++ flat_map (replaced (in_par (offers_of (kinds_of l.locals) (process l.second)))) (tree_nodes l.yielded)

abbrev pub invariant-put_catch-loop-node : goal.invariant-put_catch-loop-node
invariant-put_catch-loop-node l = tree_nodes l.out.items ≡ tree_nodes l.fn.out.items ++ flat_map (replaced (in_catch l.exception (process l.handler.value) (offers_of (kinds_of l.locals) (process l.handler.value)))) (tree_nodes l.yielded)
