use Rattle.std.proofs.Common.{◌≡◌, List, [], ◌∷◌, inl, refl, subst, sym, ap, ◌∙◌}
use Rattle.std.specs.Prelude.{Ok, Err}
use Rattle.wp_model.specs.declared.entry.Entry.{Entry}
use Rattle.wp_model.specs.declared.entry.Entry.TheVariants.{Write}
use Rattle.wp_core.specs.Lists.{IsIn}
use Rattle.wp_core.specs.Views.{unprepared}
use Rattle.wp_core.specs.World.{Participant}
use Rattle.wp_read.specs.Registers.{unregistering}
use Rattle.wp_shared.specs.Calls.{Continues}
use Rattle.wp_shared.proofs.Onward.{continues_none}
use Rattle.wp_open_txns.specs.declared.error.TxnError.TheVariants.{Memory}
use Rattle.wp_open_txns.specs.Calls.{Frees}
use Rattle.wp_open_txns.specs.Txn.{OpenState, HasLocked, HasOpen}
use Rattle.wp_open_txns.proofs.Still.{open_locked}
use Rattle.wp_txn.specs.Recording.{Records}
use Rattle.wp_txn.specs.Writes.{AreUnchanged}
use Rattle.wp_txn.proofs.BeforeLog.{refused_txn_before}
use Rattle.wp_txn.proofs.Ends.{are_unchanged, ended, locked_until, noted_until, refuses_open}
use Rattle.wp_txn.proofs.Recorded.{records_write}
use Rattle.wp_txn.proofs.preparing.commit_now.Goals as goal

-- there was no memory for the record
pub returns-in_default-clause-refused : goal.returns-in_default-clause-refused
returns-in_default-clause-refused g c = let s = c.args.seat.now in refuses_open c.args.store.now s s c.args.txn (Write c.args.txn.batch) Memory c.requires.open (continues_none c.args.store.now s c.requires.free)

pub returns-in_default-clause-before_log : goal.returns-in_default-clause-before_log
returns-in_default-clause-before_log g c = let z = c.args.store.now in let s = c.args.seat.now in refused_txn_before z s s 1 (λ asked. Unit {0}) Memory (continues_none z s c.requires.free) (inl refl)

pub record-requires-clause-may : goal.record-requires-clause-may
record-requires-clause-may g c =
    let s = c.args.seat.now in let x : OpenState = record { name = c.txn.inside.name; batch = c.txn.inside.batch; locked = c.txn.inside.locked.items; pin = c.txn.inside.pin } in
    records_write c.args.store.now s c.in-Ok.write x c.in-Ok.ensures (subst (HasOpen s) (sym c.txn.view_is) c.requires.open) c.shows_batch.ensures

pub unpin-requires-clause-free : goal.unpin-requires-clause-free
unpin-requires-clause-free g c = (c.in-Ok-record.ensures {u = tt}).1.1.put.goes_on.free

pub unpin-requires-clause-registered : goal.unpin-requires-clause-registered
unpin-requires-clause-registered g c pin is =
    let s = c.args.seat.now in let h = subst (HasOpen s) (sym c.txn.view_is) c.requires.open in
    subst (IsIn pin) (sym (ap (λ (p : Participant). p.registered) (c.in-Ok-record.ensures {u = tt}).1.1.put.goes_on.participant)) (h.pinned pin is).0

pub free-requires-clause-free : goal.free-requires-clause-free
free-requires-clause-free g c = c.unpin.ensures.goes_on.free

pub free-requires-clause-has : goal.free-requires-clause-has
free-requires-clause-has g c =
    let z = c.args.store.now in let s = c.args.seat.now in let x = c.args.txn in let mid = c.record.new.seat in let u = c.unpin.new.seat in let n = c.in-Ok-record.number in
    let made = c.in-Ok.ensures ∙ ap (λ (y : OpenState). Write y.batch ∷ []) c.txn.view_is in
    let r = subst (λ (es : List Entry). Records z s es (λ m. []) (Ok n) mid) made (c.in-Ok-record.ensures {u = tt}) in
    let unpinned = subst (λ (y : OpenState). Continues z mid u (unregistering y.pin mid.knows.participant)) c.txn.view_is c.unpin.ensures.goes_on in
    let exact = subst (λ (y : OpenState). u.knows.participant ≡ unregistering y.pin mid.knows.participant) c.txn.view_is c.unpin.ensures.same in
    subst (λ (y : OpenState). HasLocked u y.name y.batch y.locked) (sym c.txn.view_is)
    (locked_until z s s mid u u x.pin (Write x.batch ∷ []) (λ m. []) n (continues_none z s c.requires.free) r unpinned exact x.name x.batch x.locked (open_locked s x c.requires.open))

pub free-requires-clause-noted : goal.free-requires-clause-noted
free-requires-clause-noted g c =
    let z = c.args.store.now in let s = c.args.seat.now in let x = c.args.txn in let mid = c.record.new.seat in let u = c.unpin.new.seat in let n = c.in-Ok-record.number in
    let made = c.in-Ok.ensures ∙ ap (λ (y : OpenState). Write y.batch ∷ []) c.txn.view_is in
    let r = subst (λ (es : List Entry). Records z s es (λ m. []) (Ok n) mid) made (c.in-Ok-record.ensures {u = tt}) in
    subst (λ (y : OpenState). IsIn (unprepared y.name) u.knows.notes) (sym c.txn.view_is) (c.unpin.ensures.goes_on.notes (unprepared x.name) refl (noted_until z s mid x.batch (λ m. []) n x.name r c.requires.open.noted))

pub returns-in-Ok-record-clause-ok : goal.returns-in-Ok-record-clause-ok
returns-in-Ok-record-clause-ok g c =
    let z = c.args.store.now in let s = c.args.seat.now in let x = c.args.txn in let mid = c.record.new.seat in let u = c.unpin.new.seat in let n = c.in-Ok-record.number in
    let made = c.in-Ok.ensures ∙ ap (λ (y : OpenState). Write y.batch ∷ []) c.txn.view_is in
    let r = subst (λ (es : List Entry). Records z s es (λ m. []) (Ok n) mid) made (c.in-Ok-record.ensures {u = tt}) in
    let unpinned = subst (λ (y : OpenState). Continues z mid u (unregistering y.pin mid.knows.participant)) c.txn.view_is c.unpin.ensures.goes_on in
    let exact = subst (λ (y : OpenState). u.knows.participant ≡ unregistering y.pin mid.knows.participant) c.txn.view_is c.unpin.ensures.same in
    let begins = continues_none z s c.requires.free in
    ended z s s mid u c.free.new.seat x.pin (Write x.batch ∷ []) (λ m. []) n begins r unpinned exact x.name (AreUnchanged s x) (are_unchanged z s s mid (Write x.batch ∷ []) (λ m. []) n begins r x c.requires.open)
    (subst (λ (y : OpenState). Frees z u c.free.new.seat y.name) c.txn.view_is c.free.ensures)

pub returns-in-Err-clause-refused : goal.returns-in-Err-clause-refused
returns-in-Err-clause-refused g c =
    let z = c.args.store.now in let s = c.args.seat.now in let new = c.record.new.seat in let x = c.args.txn in
    let made = c.in-Ok.ensures ∙ ap (λ (y : OpenState). Write y.batch ∷ []) c.txn.view_is in
    let r = subst (λ (es : List Entry). Records z s es (λ m. []) (Err c.in-Err.why) new) made (c.in-Err.ensures {u = tt}) in
    refuses_open z s new x (Write x.batch) c.in-Err.why c.requires.open r.0
