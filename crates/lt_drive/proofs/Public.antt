-- What the proofs of other crates may cite of this one.
-- what comes of one event of a run
pub use Rattle.lt_drive.proofs.Events.{broken_listens, fault_served, served_breaks, served_broken, served_proceeds}
-- what a core waits for, whatever may still be given up
pub use Rattle.lt_drive.proofs.Ahead.{wants_back}
-- how what is driven first and then on is driven in all
pub use Rattle.lt_drive.proofs.Drives.{driven_by, goes_on_by, starts}
-- what breaks off behind what went on
pub use Rattle.lt_drive.proofs.Ways.{breaks_both}
