use Rattle.std.proofs.Common.{◌≡◌, ℕ, ◌≤◌, List, length, Some, None, is_some, refl, sym, ap, subst, ◌∙◌}
use Rattle.std.specs.FinMap as finite
use Rattle.wp_model.specs.History.{named}
use Rattle.wp_model.specs.LockState.{LockState}
use Rattle.wp_model.specs.declared.entry.Entry.{Entry}
use Rattle.wp_model.specs.declared.holder.Holder.TheVariants.{Txn}
use Rattle.wp_locks.specs.Locks.{RefusesTake}
use Rattle.wp_locks.specs.declared.error.LockError.{LockError}
use Rattle.wp_core.specs.Changes.{with_name}
use Rattle.wp_core.specs.Lists.{IsIn}
use Rattle.wp_core.specs.States.{WriteState, writes, locks}
use Rattle.wp_core.specs.World.{Actor}
use Rattle.wp_shared.proofs.Tables.{held_state}
use Rattle.wp_shared.proofs.OneStep.{becomes}
use Rattle.wp_open_txns.specs.Actors.{with_found, with_taken}
use Rattle.wp_shared.specs.Notes.{seat_of}
use Rattle.wp_open_txns.proofs.GoesOn.{held_last, holds_tables}
use Rattle.wp_open_txns.proofs.Taking.{not_named, refused_unknown, refused_used}
use Rattle.wp_open_txns.proofs.prepared.take_under.Goals as goal

pub take_name-requires-in_default-clause-left : goal.take_name-requires-in_default-clause-left
take_name-requires-in_default-clause-left g c = (c.args.tables.now, (held_last c.requires.seat.2), ap (λ (name : List ℕ). finite.get c.args.tables.now.names name) (sym c.requires.names.0) ∙ (c.in_default.ensures {u = tt}).0)

pub returns-in-Unknown-clause-answered : goal.returns-in-Unknown-clause-answered
returns-in-Unknown-clause-answered g c =
    let t = c.args.tables.now in let seen = c.published-at.ensures in let new = c.published-at.new.seat in
    let r = c.in-Err.ensures {u = tt} in
    let f = refused_unknown (finite.get t.names c.args.asked) c.args.asked c.in-Unknown.asked (subst (λ (why : LockError). RefusesTake (finite.get t.names c.args.asked) c.args.asked why) c.in-Unknown.is r.0) in
    let none : finite.get t.names c.args.name.now ≡ None = ap (λ (name : List ℕ). finite.get t.names name) (sym c.requires.names.0) ∙ f.0 in
    let held : IsIn (locks t) new.knows.held = subst (λ (a : Actor). IsIn (locks t) a.held) (sym seen.rest) (held_last c.requires.seat.2) in (
      f.1 ∙ c.requires.names.0,
      none,
      r.2,
      (
        new.knows.participant.seen,
        seen.seen.0,
        ap (λ (h : List Entry). named h c.args.name.now) (sym seen.stands.seen) ∙ not_named _ new.knows seen.stands.world t c.args.name.now seen.stands.there held none,
        seen.seen.1,
        becomes c.args.seat.now new _ seen.same seen.rest,
        λ d there. sym seen.stands.seen ∙ ap (λ (x : WriteState). x.history) (held_state _ new.knows seen.stands.world (writes d) seen.stands.there (subst (λ (a : Actor). IsIn (writes d) a.held) (sym seen.rest) there)),
      ),
    )

pub returns-in-InUse-clause-answered : goal.returns-in-InUse-clause-answered
returns-in-InUse-clause-answered g c =
    let t = c.args.tables.now in let r = c.in-Err.ensures {u = tt} in
    let f = refused_used (finite.get t.names c.args.asked) c.args.asked c.in-InUse.asked (subst (λ (why : LockError). RefusesTake (finite.get t.names c.args.asked) c.args.asked why) c.in-InUse.is r.0) in
    let has : finite.get t.names c.args.name.now ≡ Some (Some f.0.0) = ap (λ (name : List ℕ). finite.get t.names name) (sym c.requires.names.0) ∙ f.0.1 in (
      f.1 ∙ c.requires.names.0,
      (
        ap is_some has,
        r.2,
        subst (λ (l : LockState). (x : ℕ) × (length c.args.seat.now.knows.participant.seen ≤ x) × (c.find_name.new.seat ≡ seat_of c.args.seat.now (with_found l x None (Txn c.args.name.now) c.args.seat.now.knows))) r.2 c.find_name.ensures,
      ),
      (f.0.0, has),
    )

pub returns-in_default-clause-holds : goal.returns-in_default-clause-holds
returns-in_default-clause-holds g c others beneath h =
    let t = c.args.tables.now in let s = c.args.seat.now in let name = c.args.name.now in let took = c.take_name-in_default.ensures t (held_last h) in
    holds_tables (with_taken t took.history name s.knows) (with_name t name (Some s.knows.participant.client)) c.take_name.new.self h
    ((c.in_default.ensures {u = tt}).1 ∙ (λ i. with_name t (c.requires.names.0 i) (Some (c.requires.names.1 i)))) took.seat refl refl
