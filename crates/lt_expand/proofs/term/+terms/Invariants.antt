use Rattle.std.proofs.Common.{◌+◌, ◌*◌, max, take}
use Rattle.lt_formula.specs.View.{table_expressions}
use Rattle.lt_macros.specs.declared.tree.Expanded.{size-Expanded}
use Rattle.lt_term.specs.View.{choices}
use Rattle.lt_expand.specs.inner.Declarations.{exceptions}
use Rattle.lt_expand.specs.inner.Put.{AreChoices, IsFilled, IsGrown, parts_from, parts_in_each}
use Rattle.lt_expand.proofs.term.+terms.Given as goal

-- the alternatives so far are put
abbrev pub invariant-put_any-loop-alternative : goal.invariant-put_any-loop-alternative
invariant-put_any-loop-alternative l = record {
  put : AreChoices (table_expressions l.table) (exceptions l.known) (parts_from (take l.alternative-index l.alternative-items)) (choices l.made.items);
  grown : IsGrown l.fn.table l.table;
  filled : IsFilled (table_expressions l.fn.table) (table_expressions l.table) (parts_in_each (exceptions l.known) (parts_from (take l.alternative-index l.alternative-items)));
}

-- How deep the traces are. A function that is given two of them, or alternatives, is called for the parts of one.
abbrev pub decreases-put_term : goal.decreases-put_term
decreases-put_term l = 3 * goal.size-put_term l

abbrev pub decreases-put_part : goal.decreases-put_part
decreases-put_part l = 3 * goal.size-put_part l + 1

abbrev pub decreases-put_any : goal.decreases-put_any
decreases-put_any l = 3 * goal.size-put_any l + 2

abbrev pub decreases-put_seq : goal.decreases-put_seq
decreases-put_seq l = 3 * max (size-Expanded l.first.now) (size-Expanded l.second.now) + 2

abbrev pub decreases-put_pri : goal.decreases-put_pri
decreases-put_pri l = 3 * max (size-Expanded l.first.now) (size-Expanded l.second.now) + 2

abbrev pub decreases-put_par : goal.decreases-put_par
decreases-put_par l = 3 * max (size-Expanded l.first.now) (size-Expanded l.second.now) + 2

abbrev pub decreases-put_catch : goal.decreases-put_catch
decreases-put_catch l = 3 * max (size-Expanded l.body.now) (size-Expanded l.otherwise.now) + 2

abbrev pub decreases-put_try : goal.decreases-put_try
decreases-put_try l = 3 * max (size-Expanded l.body.now) (size-Expanded l.otherwise.now) + 2
