use Rattle.wp_machine_permits.proofs.needs.transactions.is_unprepared.Goals as goal

pub returns : goal.returns
returns c =
    let same = rw c.in-Some.is at c.in_ok-history.ensures.entries in
    λ e. (rw same at c.is_unprepared_in.ensures).0 e
