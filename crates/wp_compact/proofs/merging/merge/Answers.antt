use Rattle.std.proofs.Common.{◌≡◌, true, List, length, take, ◌++◌, ◌∷◌, [], sym, subst, ◌∙◌}
use Rattle.std.specs.List.{list_all}
use Rattle.wp_model.specs.declared.version.Version.{Version}
use Rattle.wp_model.specs.Decision as decision
use Rattle.wp_keep.specs.Keep.{is_committed, retained_of}
use Rattle.wp_replies.specs.Tables.{listed}
use Rattle.wp_table.specs.Table.{is_numbered, is_flushed}
use Rattle.wp_shared.proofs.Onward.{goes_none}
use Rattle.wp_read.specs.Registers.{numbers_of}
use Rattle.wp_compact.proofs.Retained.{all_retained}
use Rattle.wp_compact.proofs.Rounds.{kept_retained}
use Rattle.wp_compact.proofs.merging.merge.Goals as goal

pub make_ready-requires-clause-numbered : goal.make_ready-requires-clause-numbered
make_ready-requires-clause-numbered g c =
    let p = c.args.pinned.now in let d = c.args.decided in let e = c.args.edits.now.state in let front = take p.floor.number c.args.seat.now.knows.participant.seen in
    let kept = kept_retained c.args.seat.now.knows e p.floor p.live.items d.bases d.versions d.committed.items c.requires.decided c.requires.may c.requires.same c.in-Ok.kept
    (c.in-Ok.ensures ∙ (λ i. retained_of (is_committed (c.deref.ensures.value i)) d.versions (numbers_of p.live.items ++ d.bases.opened ∷ (c.segment.ensures i).base ∷ []) p.floor.number)) in
    subst (λ (l : List Version). list_all is_numbered l ≡ true) (sym kept) (all_retained (decision.is_committed front) e.last.versions (listed (numbers_of p.live.items) d.bases.opened e.last) (length front) is_numbered c.requires.may.numbered)

pub make_ready-requires-clause-flushed : goal.make_ready-requires-clause-flushed
make_ready-requires-clause-flushed g c =
    let p = c.args.pinned.now in let d = c.args.decided in let e = c.args.edits.now.state in let front = take p.floor.number c.args.seat.now.knows.participant.seen in
    let kept = kept_retained c.args.seat.now.knows e p.floor p.live.items d.bases d.versions d.committed.items c.requires.decided c.requires.may c.requires.same c.in-Ok.kept
    (c.in-Ok.ensures ∙ (λ i. retained_of (is_committed (c.deref.ensures.value i)) d.versions (numbers_of p.live.items ++ d.bases.opened ∷ (c.segment.ensures i).base ∷ []) p.floor.number)) in
    subst (λ (l : List Version). list_all (is_flushed e.last.flushed) l ≡ true) (sym kept) (all_retained (decision.is_committed front) e.last.versions (listed (numbers_of p.live.items) d.bases.opened e.last) (length front) (is_flushed e.last.flushed) c.requires.may.replace.low)

pub merge_ready-requires-clause-may : goal.merge_ready-requires-clause-may
merge_ready-requires-clause-may g c =
    let p = c.args.pinned.now in let d = c.args.decided in let e = c.args.edits.now.state in (
      d.bases,
      c.requires.opened,
      c.requires.may,
      c.in-Ok-make_ready.ensures.kept
          ∙ kept_retained c.args.seat.now.knows e p.floor p.live.items d.bases d.versions d.committed.items c.requires.decided c.requires.may c.requires.same c.in-Ok.kept
          (c.in-Ok.ensures ∙ (λ i. retained_of (is_committed (c.deref.ensures.value i)) d.versions (numbers_of p.live.items ++ d.bases.opened ∷ (c.segment.ensures i).base ∷ []) p.floor.number)),
    )

pub returns-in_default-clause-in_step : goal.returns-in_default-clause-in_step
returns-in_default-clause-in_step g c = let r = c.requires.may.replace in (r.gone, (r.store_floor, r.named))

pub returns-in_default-clause-says : goal.returns-in_default-clause-says
returns-in_default-clause-says g c = goes_none c.args.seat.now

pub returns-in_default-make_ready-clause-in_step : goal.returns-in_default-make_ready-clause-in_step
returns-in_default-make_ready-clause-in_step g c = let r = c.requires.may.replace in (r.gone, (r.store_floor, r.named))

pub returns-in_default-make_ready-clause-says : goal.returns-in_default-make_ready-clause-says
returns-in_default-make_ready-clause-says g c = goes_none c.args.seat.now
