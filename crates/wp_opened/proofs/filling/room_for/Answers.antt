use Rattle.wp_opened.proofs.OpeningLemmas.{undecided_rise}
use Rattle.wp_opened.proofs.filling.room_for.Goals as goal

pub delaying-requires : goal.delaying-requires
delaying-requires g c = rw c.undecided.ensures (undecided_rise c.args.history.now.entries)

pub returns-clause-prepared : goal.returns-clause-prepared
returns-clause-prepared g c =
    let t = c.in_ok-delaying.ensures in
    rw c.in_ok-new.ensures.ok record { heap = t.heap; delayed = rw c.undecided.ensures at t.delayed; delayed_commits = t.delayed_commits }
