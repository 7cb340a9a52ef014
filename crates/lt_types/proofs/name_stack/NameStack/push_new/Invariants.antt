use Rattle.std.proofs.Common.{◌≡◌, ◌≤◌, drop, map, length}
use Rattle.lt_ast.specs.View.{word}
use Rattle.lt_types.specs.Refusals.{new_names}
use Rattle.lt_types.specs.inner.Scoping.{oldest, since}
use Rattle.lt_types.proofs.name_stack.NameStack.push_new.Given as goal

abbrev pub invariant-loop-name : goal.invariant-loop-name
invariant-loop-name l =
    record {
      refusals : new_names (since l.from l.fn.self) (map word l.name-items) ≡ new_names (since l.from l.self) (map word (drop l.name-index l.name-items));
      more : length l.fn.self ≤ length l.self;
      kept : oldest (length l.fn.self) l.self ≡ l.fn.self;
    }
