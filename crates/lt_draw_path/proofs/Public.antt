-- What the proofs of other crates may cite of this one.
-- how a draw walks through a tree
pub use Rattle.lt_draw_path.proofs.Walks.{begins, entries_few, goes_on, left_first, meets_here, nothing_left, passes_here, sides_within, stops_here, to_none, to_part, to_side, weights_within}
