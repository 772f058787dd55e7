use Rattle.std.proofs.Common.{◌≡◌, ℕ, List, sym, subst, string_bytes}
use Rattle.node_causes.specs.Explained.{IsExplained}
use Rattle.live_farm.specs.Whys.{moment_text}
use Rattle.live_farm.proofs.causes.JournalReplay.tell_of_journal.Goals as goal

pub returns : goal.returns
returns g c user whose = record {
  domain = c.requires.status.0;
  status = c.args.status;
  mark = c.apply_journal.new.self.mark;
  moment = c.apply_journal.new.self.replayed;
  room = c.bytes-room.result;
  causes = c.as_str.result.now;
  session = c.args.session.now;
  listed = c.apply_journal.new.self.listed;
  left = c.apply_journal.new.self.left;
  whose = whose;
  found = c.requires.status.1;
  status_of = c.requires.status.2;
  theirs = c.requires.status.3;
  followed = c.in_ok-apply_journal.ensures.followed;
  far = c.in_ok-apply_journal.ensures.far;
  explained =
      subst (λ (t : List ℕ). IsExplained c.apply_journal.new.self.replayed c.args.node t)
      (sym c.as_str.ensures.value) c.in_ok-causes.ensures;
  text =
      subst
      (λ (done : ℕ). string_bytes c.in_ok-tell.field-0
      ≡ moment_text c.args.status c.bytes-room.result done c.as_str.result.now)
      c.recorded_events-done.ensures c.in_ok-tell.ensures;
}
