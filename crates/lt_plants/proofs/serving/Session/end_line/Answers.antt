-- A line gets its reply, or ends the service.
use Rattle.std.proofs.Common.{◌≡◌, refl, take}
use Rattle.std.proofs.KnownBytes.{Keeps-refl}
use Rattle.std.specs.Prelude.{[]}
use Rattle.lt_plants.specs.Service.{IsDue, input_of, line}
use Rattle.lt_plants.proofs.Dues.{line_replied, line_refused, written}
use Rattle.lt_plants.proofs.Ways.{sent_ends, where_ok}
use Rattle.lt_plants.proofs.serving.Session.end_line.Goals as goal

pub returns-in_default-clause-takes : goal.returns-in_default-clause-takes
returns-in_default-clause-takes g c = record {
  goes = tt;
  ends = line_refused c.args.self.now.playing.plant c.args.self.now.playing.last c.args.self.now.line _ (rw c.text.ensures.text at c.text.ensures.short) (rw c.text.ensures.text at c.in_default.ensures.none);
  fault = λ e. absurd (cc e);
  calm = λ e. refl;
  left = Keeps-refl _;
}

pub returns-clause-takes : goal.returns-clause-takes
returns-clause-takes g c =
    let some = c.in-Some.ensures.some in
    let prefix : take c.in-Some.count c.reply.new.into ≡ some.0 = written some.0 c.reply.new.into _ c.in-Some.count some.1 some.2 in
    let short = rw c.text.ensures.text at c.text.ensures.short in
    let is_reply = rw c.text.ensures.text at some.3 in
    let sends = c.send_line.ensures.sends in
    let sent = rw prefix at sends.sent in
    record {
      goes = rw (c.clear.ensures, c.reply.ensures.plant)
          (where_ok c.send_line.result _ _ (λ all. line_replied c.args.self.now.playing.plant c.args.self.now.playing.last c.reply.new.playing.last c.args.self.now.line some.0 _ _ short is_reply all) sent);
      ends = sent_ends c.send_line.result _ _ (λ bytes. IsDue c.args.self.now.playing.plant c.args.self.now.playing.last (line c.args.self.now.line (input_of [] bytes))) sends.ends;
      fault = sends.fault;
      calm = sends.calm;
      left = sends.left;
    }
