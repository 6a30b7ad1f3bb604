use Rattle.std.proofs.Common.{sym, ◌∙◌}
use Rattle.std.proofs.lemmas.Result.{err_from_is_err_and}
use Rattle.wp_wal.specs.Spelling.{MAGIC}
use Rattle.wp_wal.proofs.AppendLemmas.{appended_reserved, appends_next, loses_nothing, refuses_next}
use Rattle.wp_wal.proofs.wal.Wal.append.Goals as goal

pub returns-in_err-append-clause-appends : goal.returns-in_err-append-clause-appends
returns-in_err-append-clause-appends g c =
    let p = err_from_is_err_and c.from_residual.result c.from_residual.ensures.1 in
    rw (p.1, ← c.self.view_is, c.take.ensures.after) (λ cut entries is. refuses_next c.self.inside.log c.append.new.self c.self.inside.segment c.self.inside.due c.self.inside.reserved c.in-Some.reserved (sym c.take.ensures.value ∙ c.in-Some.is) cut entries is c.in_err-append.field-0.0 _ c.in_err-append.ensures.err (rw c.frame.ensures at c.in_err-append.ensures.appends))

pub returns-clause-appends : goal.returns-clause-appends
returns-clause-appends g c = rw (← c.self.view_is, c.take.ensures.after, c.count.ensures) (λ cut entries is. appends_next c.self.inside.log c.append.new.self c.self.inside.segment c.self.inside.due c.self.inside.reserved c.in-Some.reserved (sym c.take.ensures.value ∙ c.in-Some.is) cut entries is _ _ (rw c.frame.ensures at c.in_ok-append.ensures.ok) (rw c.frame.ensures at c.in_ok-append.ensures.appends))

pub returns-clause-ok : goal.returns-clause-ok
returns-clause-ok g c = rw (← c.self.view_is, c.take.ensures.after, c.count.ensures) (appended_reserved c.self.inside.log c.append.new.self c.self.inside.segment c.self.inside.due c.self.inside.reserved c.in-Some.reserved (sym c.take.ensures.value ∙ c.in-Some.is) (rw c.frame.ensures at c.in_ok-append.ensures.ok))

pub returns-in_err-append-clause-durable : goal.returns-in_err-append-clause-durable
returns-in_err-append-clause-durable g c = rw (← c.self.view_is) (λ cut next stores. loses_nothing c.self.inside.log.moments c.append.new.self.moments c.self.inside.segment.place stores.front stores.begins (c.in_err-append.ensures.appends MAGIC stores.front stores.dead stores.records stores.rests).durable)

pub returns-clause-durable : goal.returns-clause-durable
returns-clause-durable g c = rw (← c.self.view_is) (λ cut next stores. loses_nothing c.self.inside.log.moments c.append.new.self.moments c.self.inside.segment.place stores.front stores.begins (c.in_ok-append.ensures.appends MAGIC stores.front stores.dead stores.records stores.rests).durable)
