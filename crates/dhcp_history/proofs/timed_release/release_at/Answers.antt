-- The clean-up of a release that the link took: its moment leaves the view of the client as it is.
use Rattle.std.proofs.Common.{rules}
use Rattle.dhcp_history.proofs.TurnLemmas.{on_answer}
use Rattle.dhcp_history.proofs.timed_release.release_at.Goals as goal

pub returns-clause-releases : goal.returns-clause-releases
returns-clause-releases g c = record {
  hands = record {
    kept = record {
      client = record {
        timeout = search rules;
        state = search rules;
        standing = search rules;
        armed = search rules;
        keeps = rw c.keep_moment.ensures.state c.release_by-released.ensures.kept.keeps;
        dropped = λ drops.
            rw c.keep_moment.ensures.state
            (on_answer c.keep_moment.result c.release_by-released.result _ c.keep_moment.ensures.same (c.release_by-released.ensures.kept.dropped drops));
      };
      cause = search rules;
      moment = search rules;
    };
    handed = search rules;
    cleaned =
        rw (c.keep_moment.ensures.state, c.keep_moment.ensures.standing, c.keep_moment.ensures.timeout)
        (on_answer c.keep_moment.result c.release_by-released.result _ c.keep_moment.ensures.same c.release_by-released.ensures.cleaned);
    anew = rw c.keep_moment.ensures.standing (on_answer c.keep_moment.result c.release_by-released.result _ c.keep_moment.ensures.same c.release_by-released.ensures.anew);
  };
  errors = search rules;
}
