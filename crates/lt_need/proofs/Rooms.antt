-- Room to gather atoms in.
use Rattle.std.proofs.Common.{ℕ, refl, ◌∙◌, arith}
use Rattle.lt_need.specs.declared.gathering.Gathering.{Gathering}
use Rattle.lt_need.specs.inner.GatheringView.{HasRoom, KeepsRoom}

pub same_room : (n : ℕ) (g : Gathering) → HasRoom n g → KeepsRoom g g
same_room n g h = record { marks = refl; unmarked = h.unmarked; reached = refl; found = refl }

pub still_room : (first second third : Gathering) → KeepsRoom first second → KeepsRoom second third → KeepsRoom first third
still_room first second third h k = record { marks = k.marks ∙ h.marks; unmarked = k.unmarked; reached = k.reached ∙ h.reached; found = k.found ∙ h.found }

pub kept_room : (n : ℕ) (before after : Gathering) → HasRoom n before → KeepsRoom before after → HasRoom n after
kept_room n before after h k = record { marks = omega (arith, h.marks, k.marks); unmarked = k.unmarked; reached = omega (arith, h.reached, k.reached, k.marks); found = omega (arith, h.found, k.found, k.marks) }
