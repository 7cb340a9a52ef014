use Rattle.std.proofs.Common.{◌≡◌, ◌∙◌, ap, length, refl, slice_get, sym, Some}
use Rattle.std.proofs.lemmas.Option.{slice_get-map, slice_get_read}
use Rattle.std.specs.Option.{option_map}
use Rattle.lt_term.specs.Advanced.{advanced}
use Rattle.lt_term.specs.TreeView.{tree_node}
use Rattle.lt_term.specs.View.{process}
use Rattle.lt_term.specs.declared.tree.TreeNode.{TreeNode}
use Rattle.lt_check.specs.inner.Followers.{next_by}
use Rattle.lt_instant.specs.Solved.{values_of}
use Rattle.lt_check.specs.inner.TermSet.{terms_of}
use Rattle.lt_check.specs.inner.Terms.{with_each, with_one}
use Rattle.lt_check.proofs.TermSets.{one_more}
use Rattle.lt_check.proofs.following.put_next_of_leaf.Goals as goal

pub returns : goal.returns
returns c =
    let nodes = c.args.nodes.now in
    let keys = c.args.terms.now.keys in
    let locals = c.args.locals.now in
    let go = c.in-Some-Go in
    let node : slice_get nodes c.args.leaf ≡ Some go.field-0.now = slice_get_read nodes (length nodes) c.args.leaf go.field-0.now refl go.ensures.lookup.3.0 go.ensures.lookup.1 in
    let values = c.deref-3.ensures.value ∙ c.in_ok-values.ensures ∙ ap (λ ls. values_of ls locals) c.deref.ensures.value in
    ap terms_of c.in_ok-insert.ensures.keys
    ∙ one_more keys c.new.result
    ∙ ap (with_one (terms_of keys)) (c.new.ensures ∙ c.in_ok-term.ensures.numbers ∙ (λ i. advanced (values i) (process (c.deref-2.ensures i))))
    ∙ ap (λ n. with_each (terms_of keys) (next_by locals n)) (sym (slice_get-map tree_node nodes c.args.leaf ∙ ap (option_map tree_node) node ∙ ap (λ (x : TreeNode). Some (tree_node x)) go.field-0-is))
