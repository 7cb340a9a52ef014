-- Tasks of a search for instants.
use Rattle.lt_term.specs.declared.root.Later.{Later}
use Rattle.lt_check.specs.declared.finder.Task.{Task}
use Rattle.lt_check.specs.declared.finder.Task.TheVariants as task

-- the task to visit a tree
abbrev pub visit_task : Later → Task
visit_task tree = task.Visit tree
