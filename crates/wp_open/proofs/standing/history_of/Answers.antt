use Rattle.std.proofs.Common.{List, [], ap, ◌∙◌, map}
use Rattle.std.specs.Arc.{arc_value}
use Rattle.wp_model.specs.declared.version.Version.{Version}
use Rattle.wp_history.specs.History.{RoomyHistory}
use Rattle.wp_history.specs.Outline.{cut_in, full_with}
use Rattle.wp_open.proofs.OverTables.{below_either, cause_over, cut_over, full_either, is_below, not_below, not_either, values_over, wrong_over}
use Rattle.wp_open.proofs.standing.history_of.Goals as goal

pub base_store-requires-clause-full : goal.base_store-requires-clause-full
base_store-requires-clause-full c = c.requires

pub base_store-requires-clause-numbered : goal.base_store-requires-clause-numbered
base_store-requires-clause-numbered c = c.versions_below.ensures.numbered

-- ---- a version is not below what is carried

pub not_below-requires : goal.not_below-requires
not_below-requires c =
    let o = c.args.outline in
    let versions : List Version = c.in_ok-versions.versions in
    values_over o versions c.with_versions-outline.result c.in_ok-store.store (c.with_versions-outline.ensures.whole ∙ ap (λ vs. record o { entries = full_with o vs }) c.of-shown.ensures) c.versions_below.ensures.numbered c.are_below.ensures.in_order c.in_ok-store.ensures

pub returns-then-not-below-clause-cause : goal.returns-then-not-below-clause-cause
returns-then-not-below-clause-cause c =
    let o = c.args.outline in
    let versions : List Version = c.in_ok-versions.versions in
    let parts = map arc_value c.args.tables.now in
    let over = c.with_versions-outline.ensures.whole ∙ ap (λ vs. record o { entries = full_with o vs }) c.of-shown.ensures in
    cause_over o versions parts c.in_ok-versions.ensures.either c.with_versions-outline.result c.not_below.result over
    (not_either (cut_in o) versions parts c.in_ok-versions.ensures.either (not_below o [] versions c.are_below.ensures.in_order c.versions_below.ensures.numbered c.requires c.in_ok-below.below c.in_ok-below.ensures.value c.if-not-below.true))
    c.not_below.ensures

-- ---- each is

pub from_outline-requires-clause-order : goal.from_outline-requires-clause-order
from_outline-requires-clause-order c = rw c.of-shown.ensures c.are_below.ensures.in_order

pub from_outline-requires-clause-below : goal.from_outline-requires-clause-below
from_outline-requires-clause-below c =
    rw c.of-shown.ensures (is_below c.args.outline [] c.in_ok-versions.versions c.are_below.ensures.in_order c.versions_below.ensures.numbered c.requires c.in_ok-below.below c.in_ok-below.ensures.value c.if-not-below.false)

pub from_outline-requires-clause-store : goal.from_outline-requires-clause-store
from_outline-requires-clause-store c = rw c.of-shown.ensures c.in_ok-store.ensures

pub returns-in-Ok-clause-base : goal.returns-in-Ok-clause-base
returns-in-Ok-clause-base c = ap (λ (h : RoomyHistory). h.base) c.in-Ok.ensures.whole

pub returns-in-Ok-clause-cut : goal.returns-in-Ok-clause-cut
returns-in-Ok-clause-cut c = ap cut_in (c.in-Ok.ensures.whole) ∙ cut_over c.args.outline c.of-shown.result.value c.versions_below.ensures.numbered

pub returns-in-Ok-clause-full : goal.returns-in-Ok-clause-full
returns-in-Ok-clause-full c =
    let o = c.args.outline in
    ap (λ (h : RoomyHistory). h.entries) c.in-Ok.ensures.whole
    ∙ ap (full_with o) c.of-shown.ensures
    ∙ full_either (cut_in o) c.in_ok-versions.versions (map arc_value c.args.tables.now) c.in_ok-versions.ensures.either

pub returns-in-Ok-clause-below : goal.returns-in-Ok-clause-below
returns-in-Ok-clause-below c =
    let o = c.args.outline in
    below_either (cut_in o) c.in_ok-versions.versions (map arc_value c.args.tables.now) c.in_ok-versions.ensures.either
    (is_below o [] c.in_ok-versions.versions c.are_below.ensures.in_order c.versions_below.ensures.numbered c.requires c.in_ok-below.below c.in_ok-below.ensures.value c.if-not-below.false)

pub returns-in-Err-clause-cause : goal.returns-in-Err-clause-cause
returns-in-Err-clause-cause c =
    let o = c.args.outline in
    wrong_over o c.in_ok-versions.versions (map arc_value c.args.tables.now) c.in_ok-versions.ensures.either c.in-Err.number (rw c.of-shown.ensures at c.in-Err.ensures.wrong)
