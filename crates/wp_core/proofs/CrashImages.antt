-- What a crash may leave, in a sound world.
use Rattle.std.proofs.Common.{◌≡◌, ◌⊎◌, ⊎_elim, Bool, true, false, List, [], ◌∷◌, ◌++◌, length, refl, sym, ap, subst, ◌∙◌, inl, inr, append_assoc, Some}
use Rattle.std.proofs.lemmas.Bool.{cases_Bool}
use Rattle.std.proofs.lemmas.List.{append-nil}
use Rattle.wp_model.specs.declared.entry.Entry.{Entry}
use Rattle.wp_model.specs.declared.segment.Segment.{Segment}
use Rattle.wp_model.specs.Legal.{IsLegal}
use Rattle.wp_history_laws.proofs.Growth.{legal_before}
use Rattle.wp_core.specs.Images.{MaySpell, MayName}
use Rattle.wp_core.specs.IsSound.{IsSound}
use Rattle.wp_core.specs.Sound.Actors.{StartsWith}
use Rattle.wp_core.specs.Sound.History.{logged_part}
use Rattle.wp_model.specs.Flushed.{IsEditCovered, InstalledEdit}
use Rattle.wp_core.specs.World.{World, history}
use Rattle.wp_core.proofs.PublishesVersions.{edit_part}

-- nothing of a record that is not logged is in the log
not_logged : (logged : Bool) (pending : List Entry) → logged ≡ false → logged_part logged pending ≡ []
not_logged logged pending is = rw is refl

none_pending : (logged : Bool) (pending : List Entry) → pending ≡ [] → logged_part logged pending ≡ []
none_pending true pending is = is
none_pending false pending is = refl

-- what is logged is legal, pending or not
logged_legal : (logged : Bool) (before pending : List Entry) → IsLegal before → IsLegal (before ++ pending) → IsLegal (before ++ logged_part logged pending)
logged_legal true before pending alone both = both
logged_legal false before pending alone both = rw (append-nil before) alone

-- once the log is closed, or with nothing pending, it is the history
log_is : (w : World) → IsSound w → (w.writes.closed ≡ true) ⊎ (w.writes.pending ≡ []) → w.writes.log ≡ history w
log_is w sound still =
    let rest : logged_part w.writes.logged w.writes.pending ≡ [] = elim still [
      | inl closed ↦ elim (sound.faults.not_logged closed) [
        | inl none ↦ none_pending w.writes.logged w.writes.pending none
        | inr not ↦ not_logged w.writes.logged w.writes.pending not
      ]
      | inr none ↦ none_pending w.writes.logged w.writes.pending none
    ] in
    sound.history.log ∙ ap (λ (xs : List Entry). history w ++ xs) rest ∙ append-nil (history w)

pub left_by_crash : (w : World) → IsSound w → (entries : List Entry) → MaySpell w.writes entries → StartsWith entries (history w) × IsLegal entries
left_by_crash w sound entries may =
    elim may [
      | inl logged ↦ (
        (logged_part w.writes.logged w.writes.pending, logged ∙ sound.history.log),
        rw (logged ∙ sound.history.log) (logged_legal w.writes.logged (history w) w.writes.pending sound.history.legal sound.history.legal_next),
      )
      | inr failed ↦
          let all : entries ≡ history w ++ w.writes.failed = failed.1 ∙ ap (λ (xs : List Entry). xs ++ w.writes.failed) (log_is w sound (inl failed.0)) in
          ((w.writes.failed, all), rw all sound.history.legal_failed)
    ]

-- entries that follow legally leave an edit covered
edit_more : (more history : List Entry) (edit : InstalledEdit) → IsLegal (history ++ more) → IsEditCovered history edit → IsEditCovered (history ++ more) edit
edit_more [] history edit legal covered = rw (append-nil history) covered
edit_more (entry ∷ more) history edit legal covered =
    let same : (history ++ entry ∷ []) ++ more ≡ history ++ entry ∷ more = append_assoc history (entry ∷ []) more in
    let whole : IsLegal ((history ++ entry ∷ []) ++ more) = subst IsLegal (sym same) legal in
    subst (λ (es : List Entry). IsEditCovered es edit) same (edit_more more (history ++ entry ∷ []) edit whole (edit_part history entry (legal_before (history ++ entry ∷ []) more whole) edit covered))

edit_named : (w : World) → IsSound w → (edit : InstalledEdit) → MayName w.installed edit → IsEditCovered (history w) edit
edit_named w sound edit may =
    elim may [
      | inl last ↦ rw last sound.versions.last
      | inr failed ↦ sound.versions.failed edit failed
    ]

pub edit_by_crash : (w : World) → IsSound w → (entries : List Entry) (edit : InstalledEdit) → MaySpell w.writes entries → MayName w.installed edit → IsEditCovered entries edit
edit_by_crash w sound entries edit spelled named =
    let left = left_by_crash w sound entries spelled in
    let all : entries ≡ history w ++ left.0.0 = left.0.1 in
    rw all (edit_more left.0.0 (history w) edit (subst IsLegal all left.1) (edit_named w sound edit named))

-- ---- segments

-- a segment that waits has the history, which is what the log spells
next_whole : (w : World) → IsSound w → (segment : Segment) → w.writes.next ≡ Some segment → (segment.base ≡ length (history w)) × MaySpell w.writes (history w)
next_whole w sound segment is =
    let k = sound.coupled.next segment is in
    (k.0, inl (sym (log_is w sound (elim (cases_Bool w.writes.closed) [ inl closed ↦ inl closed | inr running ↦ inr (k.1 running).0 ]))))

pub segment_by_crash : (w : World) → IsSound w → (edit : InstalledEdit) → MayName w.installed edit
    → (edit.segment ≡ w.writes.segment) ⊎ ((w.writes.next ≡ Some edit.segment) × (edit.segment.base ≡ length (history w)) × MaySpell w.writes (history w))
segment_by_crash w sound edit may = ⊎_elim (λ (same : edit.segment ≡ w.writes.segment). inl same) (λ (next : w.writes.next ≡ Some edit.segment). let k = next_whole w sound edit.segment next in inr (next, k.0, k.1)) (named may)
  where
    of_last : (edit.segment ≡ w.installed.last.segment) → (edit.segment ≡ w.writes.segment) ⊎ (w.writes.next ≡ Some edit.segment)
    of_last same = ⊎_elim
        (λ (is : w.installed.last.segment ≡ w.writes.segment). inl (same ∙ is))
        (λ (is : (w.writes.next ≡ Some w.installed.last.segment) × (w.writes.closed ≡ false)). inr (is.0 ∙ ap Some (sym same)))
        sound.coupled.last

    named : MayName w.installed edit → (edit.segment ≡ w.writes.segment) ⊎ (w.writes.next ≡ Some edit.segment)
    named (inl last) = of_last (ap (λ (e : InstalledEdit). e.segment) last)
    named (inr failed) = ⊎_elim (λ (same : edit.segment ≡ w.installed.last.segment). of_last same) (λ (next : w.writes.next ≡ Some edit.segment). inr next) (sound.coupled.failed edit failed)
