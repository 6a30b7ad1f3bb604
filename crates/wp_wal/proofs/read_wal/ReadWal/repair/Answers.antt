use Rattle.std.proofs.Common.{◌≡◌, ◌+◌, ℕ, length, refl, sym, subst, ◌∙◌, arith}
use Rattle.wp_fields.specs.declared.format.Format.{Format}
use Rattle.wp_history.specs.Outline.{cut_in}
use Rattle.wp_wal.specs.Opening.{first_of}
use Rattle.wp_wal.specs.Spelling.{AreCut, MAGIC, new_stamp}
use Rattle.wp_wal.proofs.OpeningLemmas.{begun_by, begun_keeps, begun_numbers, keeps_as, opened_log}
use Rattle.wp_wal.proofs.Told.{due_told}
use Rattle.wp_wal.proofs.read_wal.ReadWal.repair.Goals as goal

pub returns-in-Err-clause-kept : goal.returns-in-Err-clause-kept
returns-in-Err-clause-kept g c =
    rw (← c.self.view_is) (λ asked place old is. keeps_as place asked old _ _ _ (c.in-Err.ensures.kept place MAGIC (new_stamp asked) old is.log))

pub of-requires : goal.of-requires
of-requires g c =
    let inside = c.self.inside in
    let log = c.in-Ok.log in
    let has = c.in-Ok.ensures.has.0 in
    let first : inside.first ≡ first_of log.format log.count = c.self.invariant.begins ∙ (λ i. first_of (sym has.format i) (sym has.counted i)) in
    let begun = begun_by log c.begin_log.new.log _ inside.first first has.running c.in-Ok-begin_log.ensures.none c.in-Ok-begin_log.ensures.some in
    let spelled = subst (λ (f : Format). AreCut f inside.log.place inside.log.records (cut_in inside.outline)) (sym has.format) c.self.invariant.spelled in
    let fits = begun_numbers log c.begin_log.new.log _ inside.log.place inside.log.records (cut_in inside.outline) (length inside.outline.entries + 1) begun spelled (due_told inside.outline (length inside.outline.entries) c.self.invariant.told refl) in
    omega (arith, fits)

pub returns-in-Ok-begin_log-clause-opened : goal.returns-in-Ok-begin_log-clause-opened
returns-in-Ok-begin_log-clause-opened g c =
    let inside = c.self.inside in
    let log = c.in-Ok.log in
    let has = c.in-Ok.ensures.has.0 in
    let first : inside.first ≡ first_of log.format log.count = c.self.invariant.begins ∙ (λ i. first_of (sym has.format i) (sym has.counted i)) in
    let begun = begun_by log c.begin_log.new.log _ inside.first first has.running c.in-Ok-begin_log.ensures.none c.in-Ok-begin_log.ensures.some in
    let cut = cut_in inside.outline in
    rw (← c.self.view_is, c.of.ensures) (λ asked place old is.
    let read = is.log in
    let told = c.self.invariant.told in
    let spelled = subst (λ (f : Format). AreCut f place inside.log.records cut) (sym has.format) (subst (λ (n : ℕ). AreCut inside.log.format n inside.log.records cut) read.placed c.self.invariant.spelled) in
    opened_log place asked old log inside.log.records (c.in-Ok.ensures.opened place MAGIC (new_stamp asked) old read) cut spelled c.begin_log.new.log _ _ _ begun told.judged (c.place-place.ensures ∙ read.placed) refl
    (due_told inside.outline (length inside.outline.entries) told refl))

pub returns-in-Ok-begin_log-clause-kept : goal.returns-in-Ok-begin_log-clause-kept
returns-in-Ok-begin_log-clause-kept g c =
    let inside = c.self.inside in
    let log = c.in-Ok.log in
    let has = c.in-Ok.ensures.has.0 in
    let first : inside.first ≡ first_of log.format log.count = c.self.invariant.begins ∙ (λ i. first_of (sym has.format i) (sym has.counted i)) in
    let begun = begun_by log c.begin_log.new.log _ inside.first first has.running c.in-Ok-begin_log.ensures.none c.in-Ok-begin_log.ensures.some in
    let cut = cut_in inside.outline in
    rw (← c.self.view_is, c.of.ensures) (λ asked place old is.
    let read = is.log in
    let spelled = subst (λ (f : Format). AreCut f place inside.log.records cut) (sym has.format) (subst (λ (n : ℕ). AreCut inside.log.format n inside.log.records cut) read.placed c.self.invariant.spelled) in
    begun_keeps place asked old log inside.log.records (c.in-Ok.ensures.opened place MAGIC (new_stamp asked) old read) cut spelled inside.log.faults (c.in-Ok.ensures.kept place MAGIC (new_stamp asked) old read) c.begin_log.new.log _ begun c.begin_log.ensures.later)

pub returns-in-Err-begin_log-clause-kept : goal.returns-in-Err-begin_log-clause-kept
returns-in-Err-begin_log-clause-kept g c =
    let inside = c.self.inside in
    let log = c.in-Ok.log in
    let has = c.in-Ok.ensures.has.0 in
    let first : inside.first ≡ first_of log.format log.count = c.self.invariant.begins ∙ (λ i. first_of (sym has.format i) (sym has.counted i)) in
    let begun = begun_by log c.begin_log.new.log _ inside.first first has.running c.in-Err-begin_log.ensures.none c.in-Err-begin_log.ensures.some in
    let cut = cut_in inside.outline in
    rw (← c.self.view_is, c.into_disk-disk.ensures.moments, c.into_disk-disk.ensures.faults) (λ asked place old is.
    let read = is.log in
    let spelled = subst (λ (f : Format). AreCut f place inside.log.records cut) (sym has.format) (subst (λ (n : ℕ). AreCut inside.log.format n inside.log.records cut) read.placed c.self.invariant.spelled) in
    begun_keeps place asked old log inside.log.records (c.in-Ok.ensures.opened place MAGIC (new_stamp asked) old read) cut spelled inside.log.faults (c.in-Ok.ensures.kept place MAGIC (new_stamp asked) old read) c.begin_log.new.log _ begun c.begin_log.ensures.later)
