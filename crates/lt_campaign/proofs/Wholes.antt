-- Sessions whose links tell what they have left.
use Rattle.std.proofs.Common.{◌≡◌, ◌≢◌, [], refl, subst, arith}
use Rattle.lt_io.specs.Causes.{Rose}
use Rattle.lt_io.specs.Link.{Link}
use Rattle.lt_io.specs.Outside.{Links, Outside, linked}
use Rattle.lt_rif.specs.declared.end.End.{End}
use Rattle.lt_rif.specs.declared.end.End.TheVariants as end
use Rattle.lt_rif.specs.declared.end.Who.{Who}
use Rattle.lt_rif.specs.declared.end.Who.TheVariants as who
use Rattle.lt_loop.specs.CoreState.{CoreState, core_giving_up}
use Rattle.lt_loop.specs.declared.event.Destination.TheVariants as destination
use Rattle.lt_drive.specs.Drive.{Continuation, IsDriven, continuation_of}
use Rattle.lt_drive.specs.Drive as drive
use Rattle.lt_drive.specs.Interaction.{faults_of, side}
use Rattle.lt_drive.specs.Served.{outside}
use Rattle.lt_drive.specs.Told.{UndisturbedRunsAreWhole}
use Rattle.lt_drive.specs.declared.drive_end.DriveEnd.{DriveEnd}
use Rattle.lt_drive.specs.declared.drive_end.DriveEnd.TheVariants as drive_end
use Rattle.lt_campaign.specs.Alone.{own_trace}
use Rattle.lt_campaign.specs.Run.{text_of}
use Rattle.lt_campaign.specs.Whole.{UndisturbedSessionsAreWhole}
use Rattle.lt_campaign.proofs.Alone.{run_ended}

-- the same link, whose faults were not counted
abbrev uncounted : Link → Link
uncounted l = record l { faults = 0 }

-- and two of them, with a trace
abbrev none_counted : Outside Links → Outside Links
none_counted o = linked (uncounted o.inputs.controller) (uncounted o.inputs.oracle) (record o.trace { faults = 0 })

-- no count is above another one that is 0
none_rose : (w : Who) (old new : Outside Links) → Rose (faults_of (side w) (none_counted old)) (faults_of (side w) (none_counted new)) → ⊥
none_rose who.Controller old new rose = omega arith
none_rose who.Oracle old new rose = omega arith

module _ {State : Type 0} (k : Continuation) (old new : Outside Links) (core : CoreState State) where
  -- Where no fault of a side ended a run, it was driven the same way where no fault is counted.
  uncounted_alike : (how : DriveEnd) (e : End) → IsDriven k old new core how → how ≡ drive_end.Ended e → ((w : Who) → e ≢ end.Device w) →
      IsDriven k (none_counted old) (none_counted new) core (drive_end.Ended e)
  uncounted_alike _ e (drive.ended received ps f is_whole interaction history counts over) is calm =
      let same : f ≡ e = cc is in
      subst (λ (x : End). IsDriven k (none_counted old) (none_counted new) core (drive_end.Ended x)) same
      (drive.ended received ps f is_whole
      (record {
        controller = interaction.controller;
        oracle = interaction.oracle;
        gives = elim [
          | destination.Controller ↦ interaction.gives destination.Controller
          | destination.Oracle ↦ interaction.gives destination.Oracle
          | destination.Trace ↦ interaction.gives destination.Trace
        ];
        blames = elim [ destination.Controller ↦ refl | destination.Oracle ↦ refl | destination.Trace ↦ refl ];
      })
      (record {
        moments = history.moments;
        is_received = history.is_received;
        is_given = history.is_given;
        is_failed = history.is_failed;
        due = history.due;
        controller = history.controller;
        oracle = history.oracle;
      }) counts over)
  uncounted_alike _ e (drive.failed received given v gives interaction history counts over) is calm = absurd (calm v (cc is))
  uncounted_alike _ e (drive.untraced received fault given kind prefix rest gives goes is_part interaction history counts) is calm = absurd (cc is)

-- A session whose links tell what they have left went through its play, as a run that is alone.
pub sessions_whole : {State : Type 0} → UndisturbedRunsAreWhole State → UndisturbedSessionsAreWhole State
sessions_whole law s last parts e c o calm turn wanted took sound ends undisturbed tells_c tells_o u ahead =
    let k = continuation_of (core_giving_up u s.standing.core) in
    let before = outside s.standing (own_trace []) in
    let after = outside last.standing (own_trace (text_of parts)) in
    let now = core_giving_up u last.standing.core in
    let drove = run_ended s last parts calm turn wanted took u ahead e sound ends in
    let alike = uncounted_alike k before after now (drive_end.Ended e) e drove refl undisturbed in
    let whole = law k (none_counted before) (none_counted after) now e c o alike tells_c tells_o (λ w. none_rose w before after) in
    record {
      stop = whole.stop;
      traced = whole.gives destination.Trace;
      controller = whole.gives destination.Controller;
      oracle = whole.gives destination.Oracle;
      steps = whole.steps;
    }
