use Rattle.std.proofs.Common.{◌≡◌, ◌*◌, ◌^◌, ◌<◌}
use Rattle.rand_pcg.specs.Lcg.{state_after}
use Rattle.rand_pcg.specs.Pcg.{multiplier_128}
use Rattle.lt_draw.specs.Word.{slots}
use Rattle.lt_draw.proofs.jumps.moved_on.Given as goal

-- what is left to go leads to where all the words lead
abbrev pub invariant-digits : goal.invariant-digits
invariant-digits l = record {
  few : l.rest * 32 ^ l.place < slots;
  state : l.state < 2 ^ 128;
  leads : state_after 128 multiplier_128 l.increment (l.rest * 32 ^ l.place) l.state ≡ state_after 128 multiplier_128 l.increment l.words l.generator.state;
}

abbrev pub decreases-digits : goal.decreases-digits
decreases-digits l = l.rest
