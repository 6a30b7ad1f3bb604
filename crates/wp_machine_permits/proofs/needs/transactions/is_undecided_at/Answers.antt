use Rattle.wp_machine_permits.proofs.needs.transactions.is_undecided_at.Goals as goal

pub returns : goal.returns
returns c =
    let same = rw c.in-Some.is at c.in_ok-history.ensures.entries in
    rw same at c.is_undecided_in.ensures
