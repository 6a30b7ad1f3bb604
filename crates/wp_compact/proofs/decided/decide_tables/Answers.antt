use Rattle.std.proofs.Common.{◌≤◌, List, [], ◌∷◌, length, map, refl, sym, subst, ap, ◌∙◌}
use Rattle.std.specs.Arc.{arc_value}
use Rattle.wp_merge.specs.Merge.{joined, sorted_of}
use Rattle.wp_merge.proofs.Sorted.{merged_is_sorted}
use Rattle.wp_model.specs.declared.version.Version.{Version}
use Rattle.wp_core.specs.Lists.{IsIn}
use Rattle.wp_core.specs.World.{Participant}
use Rattle.wp_read.specs.Registers.{numbers_of}
use Rattle.wp_shared.proofs.Onward.{starts_on, starts_equal, starts_same, continues_still}
use Rattle.wp_compact.specs.Compaction.{HadVersions}
use Rattle.wp_compact.specs.Decided.{AreSeen, Decides, both_bases, version_numbers}
use Rattle.wp_compact.proofs.Decisions.{decides_grown, then_numbers}
use Rattle.wp_compact.proofs.Onward.{bases_between, versions_between}
use Rattle.wp_compact.proofs.Rounds.{numbers_low}
use Rattle.wp_compact.proofs.decided.decide_tables.Goals as goal

pub decide_each-requires-clause-free : goal.decide_each-requires-clause-free
decide_each-requires-clause-free g c = c.tabled.ensures.continues.free

pub decide_each-requires-clause-pinned : goal.decide_each-requires-clause-pinned
decide_each-requires-clause-pinned g c r there = subst (λ (p : Participant). IsIn r p.registered × (r.number ≤ length p.seen)) (sym c.tabled.ensures.same) (c.requires.pinned r there)

pub decide_each-requires-clause-seen : goal.decide_each-requires-clause-seen
decide_each-requires-clause-seen g c =
    let list = ap (λ l. sorted_of (joined (map arc_value l))) c.from_vec-tables.ensures.items in
    let are = c.as_slice.ensures.value ∙ merged_is_sorted _ _ c.in_ok-versions.ensures ∙ list in
    subst (λ (y : Participant × List Version). AreSeen y.0.seen y.1) (λ j. (sym c.tabled.ensures.same j, sym are j)) c.in_ok-tabled.ensures.seen

pub returns-in_err-committed-clause-continues : goal.returns-in_err-committed-clause-continues
returns-in_err-committed-clause-continues g c = let s = c.args.seat.now in continues_still c.args.store.now s c.tabled.new.seat c.decide_each.new.seat s.knows.participant c.tabled.ensures.continues c.decide_each.ensures.continues

pub decide_log-requires-clause-free : goal.decide_log-requires-clause-free
decide_log-requires-clause-free g c = c.decide_each.ensures.continues.free

pub decide_log-requires-clause-pinned : goal.decide_log-requires-clause-pinned
decide_log-requires-clause-pinned g c r there = subst (λ (p : Participant). IsIn r p.registered × (r.number ≤ length p.seen)) (sym (c.decide_each.ensures.same ∙ c.tabled.ensures.same)) (c.requires.pinned r there)

pub returns-in_err-bases-clause-continues : goal.returns-in_err-bases-clause-continues
returns-in_err-bases-clause-continues g c =
    let z = c.args.store.now in let s = c.args.seat.now in let t = c.tabled.new.seat in let u = c.decide_each.new.seat in
    continues_still z s u c.decide_log.new.seat s.knows.participant (continues_still z s t u s.knows.participant c.tabled.ensures.continues c.decide_each.ensures.continues) c.decide_log.ensures.continues

pub returns-clause-continues : goal.returns-clause-continues
returns-clause-continues g c =
    let z = c.args.store.now in let s = c.args.seat.now in let t = c.tabled.new.seat in let u = c.decide_each.new.seat in
    continues_still z s u c.decide_log.new.seat s.knows.participant (continues_still z s t u s.knows.participant c.tabled.ensures.continues c.decide_each.ensures.continues) c.decide_log.ensures.continues

pub returns-clause-bases : goal.returns-clause-bases
returns-clause-bases g c =
    let s = c.args.seat.now in let u = c.decide_each.new.seat in let v = c.decide_log.new.seat in let same = c.decide_each.ensures.same ∙ c.tabled.ensures.same in
    let one = c.tabled.ensures.continues in let two = c.decide_each.ensures.continues in
    bases_between c.args.store.now s u v v (two.same_by ∙ one.same_by, two.made ∙ one.made, two.joined ∙ one.joined) (ap (λ (p : Participant). p.past) same) (starts_equal s.knows.participant.seen u.knows.participant.seen (ap (λ (p : Participant). p.seen) same)) (starts_same v.knows.participant.seen)
    c.args.pinned.now.floor.number c.in_ok-bases.bases c.in_ok-bases.ensures.bases

pub returns-clause-decided : goal.returns-clause-decided
returns-clause-decided g c =
    let s = c.args.seat.now in let u = c.decide_each.new.seat in let v = c.decide_log.new.seat in let seen = s.knows.participant.seen in let same = c.decide_each.ensures.same ∙ c.tabled.ensures.same in
    let p = c.args.pinned.now in let ns = numbers_of (p.floor ∷ p.live.items) in let b = c.in_ok-bases.bases in let vs = c.in_ok-versions.versions in let mid = c.in_ok-committed.committed.items in let after = c.decide_log.new.committed.items in let all = v.knows.participant.seen in
    let first = subst (λ (y : Participant × List Version). Decides y.0.seen (version_numbers y.1) ns [] mid) (λ j. (c.tabled.ensures.same j, c.as_slice.ensures.value j)) c.in_ok-committed.ensures.decided in
    let grown = starts_on seen u.knows.participant.seen all (starts_equal seen u.knows.participant.seen (ap (λ (q : Participant). q.seen) same)) c.decide_log.ensures.continues.seen in
    then_numbers all [] mid after (version_numbers vs) ns (both_bases b) (decides_grown all seen grown c.decide_log.ensures.legal (version_numbers vs) ns [] mid (numbers_low s.knows.participant (p.floor ∷ p.live.items) c.requires.pinned) first)
    (subst (λ (l : List Version). Decides all (version_numbers l) (both_bases b) mid after) c.as_slice-2.ensures.value c.in_ok-bases.ensures.decided)

pub returns-clause-tabled : goal.returns-clause-tabled
returns-clause-tabled g c =
    let s = c.args.seat.now in let t = c.tabled.new.seat in let u = c.decide_each.new.seat in let v = c.decide_log.new.seat in
    let list = ap (λ l. sorted_of (joined (map arc_value l))) c.from_vec-tables.ensures.items in
    let are = merged_is_sorted _ _ c.in_ok-versions.ensures ∙ list in
    subst (HadVersions c.args.store.now s v) (sym are)
    (versions_between c.args.store.now s s t v (refl, refl, refl) refl (starts_same s.knows.participant.seen)
    (starts_on t.knows.participant.seen u.knows.participant.seen v.knows.participant.seen (starts_equal t.knows.participant.seen u.knows.participant.seen (ap (λ (p : Participant). p.seen) c.decide_each.ensures.same)) c.decide_log.ensures.continues.seen) _ c.in_ok-tabled.ensures.tabled)
