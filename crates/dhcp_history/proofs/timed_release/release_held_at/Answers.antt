-- The moment leaves the state of the client as it is.
use Rattle.std.proofs.Common.{rules}
use Rattle.dhcp_history.proofs.TurnLemmas.{on_answer}
use Rattle.dhcp_history.proofs.timed_release.release_held_at.Goals as goal

pub returns-clause-releases : goal.returns-clause-releases
returns-clause-releases g c = record {
  kept = record {
    client = record {
      timeout = search rules;
      state = search rules;
      standing = search rules;
      armed = search rules;
      keeps = rw c.keep_moment.ensures.state c.release_held-released.ensures.kept.keeps;
      dropped = λ drops.
          rw c.keep_moment.ensures.state
          (on_answer c.keep_moment.result c.release_held-released.result _ c.keep_moment.ensures.same (c.release_held-released.ensures.kept.dropped drops));
    };
    cause = search rules;
    moment = search rules;
  };
  released = rw (c.keep_moment.ensures.same, c.keep_moment.ensures.state, c.keep_moment.ensures.standing, c.keep_moment.ensures.timeout) c.release_held-released.ensures.released;
  held = search rules;
  cleaned = search rules;
  anew = search rules;
  needed = search rules;
  unsent = search rules;
  errors = search rules;
}
