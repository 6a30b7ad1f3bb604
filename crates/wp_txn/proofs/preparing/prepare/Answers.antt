use Rattle.std.proofs.Common.{◌≡◌, List, [], ◌∷◌, inl, refl, Ok, subst, sym, ap}
use Rattle.std.specs.Prelude.{Err}
use Rattle.wp_model.specs.declared.change.Change.{Change}
use Rattle.wp_model.specs.declared.entry.Entry.{Entry}
use Rattle.wp_model.specs.declared.entry.Entry.TheVariants.{Prepare}
use Rattle.wp_core.specs.Lists.{IsIn}
use Rattle.wp_core.specs.Views.{undecided_at}
use Rattle.wp_core.specs.World.{Participant}
use Rattle.wp_shared.proofs.Onward.{continues_none}
use Rattle.wp_open_txns.specs.declared.error.TxnError.TheVariants.{Memory}
use Rattle.wp_open_txns.specs.Txn.{OpenState, HasOpen}
use Rattle.wp_txn.specs.Recording.{Records}
use Rattle.wp_txn.specs.Writes.{Prepares}
use Rattle.wp_txn.proofs.BeforeLog.{refused_txn_before}
use Rattle.wp_txn.proofs.Ends.{prepares, refuses_open}
use Rattle.wp_txn.proofs.Recorded.{records_prepare}
use Rattle.wp_txn.proofs.preparing.prepare.Goals as goal

-- there was no memory for the record
pub returns-in_default-clause-refused : goal.returns-in_default-clause-refused
returns-in_default-clause-refused g c = let s = c.args.seat.now in refuses_open c.args.store.now s s c.args.txn (Prepare c.args.txn.name c.args.txn.batch) Memory c.requires.open (continues_none c.args.store.now s c.requires.free)

pub returns-in_default-clause-before_log : goal.returns-in_default-clause-before_log
returns-in_default-clause-before_log g c = let z = c.args.store.now in let s = c.args.seat.now in refused_txn_before z s s 1 (λ asked. Unit {0}) Memory (continues_none z s c.requires.free) (inl refl)

pub record-requires-clause-may : goal.record-requires-clause-may
record-requires-clause-may g c =
    let z = c.args.store.now in let s = c.args.seat.now in let x : OpenState = record { name = c.txn.inside.name; batch = c.txn.inside.batch; locked = c.txn.inside.locked.items; pin = c.txn.inside.pin } in
    let it : (batch : List Change) × (Prepare x.name x.batch ∷ [] ≡ Prepare x.name batch ∷ []) = (x.batch, refl) in
    records_prepare z s c.in-Ok.prepare x _ c.in-Ok.ensures (subst (HasOpen s) (sym c.txn.view_is) c.requires.open) c.shows_batch.ensures (λ history. it)

pub unpin-requires-clause-free : goal.unpin-requires-clause-free
unpin-requires-clause-free g c = (c.in-Ok-record.ensures {u = tt}).1.1.put.goes_on.free

pub unpin-requires-clause-registered : goal.unpin-requires-clause-registered
unpin-requires-clause-registered g c pin is =
    let s = c.args.seat.now in let h = subst (HasOpen s) (sym c.txn.view_is) c.requires.open in
    subst (IsIn pin) (sym (ap (λ (p : Participant). p.registered) (c.in-Ok-record.ensures {u = tt}).1.1.put.goes_on.participant)) (h.pinned pin is).0

pub returns-in-Ok-record-clause-ok : goal.returns-in-Ok-record-clause-ok
returns-in-Ok-record-clause-ok g c =
    let z = c.args.store.now in let s = c.args.seat.now in let t = c.record.new.seat in let n = c.in-Ok-record.number in let new = c.unpin.new.seat in
    let x : OpenState = record { name = c.txn.inside.name; batch = c.txn.inside.batch; locked = c.txn.inside.locked.items; pin = c.txn.inside.pin } in
    let r = subst (λ (es : List Entry). Records z s es (λ m. undecided_at x.name m ∷ []) (Ok n) t) c.in-Ok.ensures (c.in-Ok-record.ensures {u = tt}) in
    subst (λ (y : OpenState). Prepares z s y (record { name = x.name; number = n; batch = x.batch; locked = x.locked }) n new) c.txn.view_is
    (prepares z s t new x n (subst (HasOpen s) (sym c.txn.view_is) c.requires.open) c.requires.free r c.unpin.ensures.goes_on c.unpin.ensures.same)

pub returns-in-Err-clause-refused : goal.returns-in-Err-clause-refused
returns-in-Err-clause-refused g c =
    let z = c.args.store.now in let s = c.args.seat.now in let new = c.record.new.seat in let x = c.args.txn in let why = c.in-Err.why in
    let r = subst (λ (y : OpenState). Records z s (Prepare y.name y.batch ∷ []) (λ m. undecided_at y.name m ∷ []) (Err why) new) c.txn.view_is
    (subst (λ (es : List Entry). Records z s es (λ m. undecided_at c.txn.inside.name m ∷ []) (Err why) new) c.in-Ok.ensures (c.in-Err.ensures {u = tt})) in
    refuses_open z s new x (Prepare x.name x.batch) why c.requires.open r.0
