-- What the proofs of other crates may cite of this one.
-- being alike is an equivalence, and the hash is the same of terms that are alike
pub use Rattle.lt_same_term.proofs.Keys.{alike_equiv, alike_fed, decides}
