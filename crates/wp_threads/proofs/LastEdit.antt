-- What the replies of all clients say of the last edit.
use Rattle.std.proofs.Common.{◌≡◌, ◌⊎◌, inl, inr, ℕ, ◌≤◌, true, false, true≢false, List, [], ◌∷◌, map, refl, sym, subst, ap, ◌∙◌, arith, Some}
use Rattle.std.specs.List.{list_any}
use Rattle.std.proofs.lemmas.Bool.{eqb-true}
use mathlib.Core.Option.{some}
use lib.ListN.{get_elem?}
use Rattle.wp_model.specs.declared.segment.Segment.{Segment}
use Rattle.wp_model.specs.Flushed.{InstalledEdit}
use Rattle.wp_text.specs.declared.script.Part.{Part}
use Rattle.wp_text.specs.declared.reply.Reply.{Reply}
use Rattle.wp_text.specs.declared.reply.Reply.TheVariants as reply
use Rattle.wp_core.specs.Lists.{IsIn}
use Rattle.wp_core.specs.Sound.Pasts.{HasDone, is_install, raised_to, WasInstalled, WasPlaced, last_installed, past_of}
use Rattle.wp_core.specs.Views.{Event, installed, renewed}
use Rattle.wp_model.proofs.Tests.{same_some}
use Rattle.wp_rule.proofs.Knows.{one_was_first}
use Rattle.wp_parts.specs.Devices.{DevicesLeft}
use Rattle.wp_shared.specs.Ended.{IsEnded, of_seats}
use Rattle.wp_parts.specs.Parts.{content}
use Rattle.wp_shared.specs.Seats.{SharedState, SeatState, participant_of}
use Rattle.wp_replies.specs.Client.{new_client}
use Rattle.wp_replies.specs.Explains.{dialogues, all_replies, IsLastEdit}
use Rattle.wp_replies.specs.Kind.{is_flushed, is_based, is_renewed, is_installed, is_compacted}
use Rattle.wp_replies.specs.Known.{Dialogue}
use Rattle.wp_client.specs.Answers.{IsRemembered}
use Rattle.wp_threads.specs.Explained.{found_in}
use Rattle.wp_threads.specs.Over.{Answered, AreOver, replies_of}
use Rattle.wp_threads.proofs.Coming.{comes_answered, renewal_answered, answers_any}
use Rattle.wp_threads.proofs.Counted.{same_replies, remembers}
use Rattle.wp_threads.proofs.Doings.{did}
use Rattle.wp_threads.proofs.Lists.{any_at, any_wider}

flush_installs : (n : ℕ) (answer : Reply) → is_flushed n answer ≡ true → is_installed answer ≡ true
flush_installs n (reply.Flushed m versions) is = refl
flush_installs n (reply.Renewed m carried) is = refl
flush_installs n other is = absurd cc

compaction_installs : (answer : Reply) → is_compacted answer ≡ true → is_installed answer ≡ true
compaction_installs (reply.Compacted m versions) is = refl
compaction_installs other is = absurd cc

base_renews : (n : ℕ) (answer : Reply) → is_based n answer ≡ true → is_renewed answer ≡ true
base_renews n (reply.Renewed m carried) is = refl
base_renews n other is = absurd cc

flush_remembered : (past : List Event) (n : ℕ) (answer : Reply) → is_flushed n answer ≡ true → IsRemembered past answer → (e : Event) × (raised_to e ≡ Some n) × IsIn e past
flush_remembered past n (reply.Flushed m versions) is (edit, same, there) = (installed edit false, ap Some (same ∙ sym (eqb-true n m is)), there)
flush_remembered past n (reply.Renewed m carried) is (edit, based, same, there) = (renewed edit, ap Some (same ∙ sym (eqb-true n m is)), there)
flush_remembered past n other is k = absurd cc

-- nothing was installed, so the edit is the first one
pub none_installed : (first : InstalledEdit) (past : List Event) → ((e : Event) → is_install e ≡ true → IsIn e past → ⊥) → last_installed first past ≡ first
none_installed first [] none = refl
none_installed first (installed edit compacts ∷ past) none = absurd (none (installed edit compacts) refl (inl refl))
none_installed first (renewed edit ∷ past) none = absurd (none (renewed edit) refl (inl refl))
none_installed first (other ∷ past) none = none_installed first past (λ e is there. none e is (inr there))

module _ {D : Type 0} {z : SharedState D} {seats : List SeatState} {history : _} {left : DevicesLeft} (ended : IsEnded z seats history left) (parts : List Part) (answered : List Answered) (over : AreOver z (found_in ended) parts answered seats) where
  abbrev replies : List Reply
  replies = all_replies (replies_of answered)

  -- what was installed, a client was answered
  installed_said : (e : Event) → is_install e ≡ true → (j i : ℕ) → HasDone (of_seats past_of seats) j i e → list_any is_installed replies ≡ true
  installed_said (installed edit false) is j i h =
      let d = (did z (found_in ended) parts answered seats over j i (installed edit false) h).1 in
      let said = any_wider (is_flushed edit.flushed) is_installed d.own.answers (flush_installs edit.flushed) (comes_answered (is_flushed edit.flushed) new_client d.own.part.commands d.own.answers d.told) in
      subst (λ (xs : List Reply). list_any is_installed xs ≡ true) (same_replies z (found_in ended) parts answered seats over)
      (answers_any is_installed (dialogues parts (replies_of answered)) (any_at (λ (x : Dialogue). list_any is_installed x.answers) (dialogues parts (replies_of answered)) i d.own d.there said))
  installed_said (installed edit true) is j i h =
      let d = (did z (found_in ended) parts answered seats over j i (installed edit true) h).1 in
      let said = any_wider is_compacted is_installed d.own.answers compaction_installs (comes_answered is_compacted new_client d.own.part.commands d.own.answers d.told) in
      subst (λ (xs : List Reply). list_any is_installed xs ≡ true) (same_replies z (found_in ended) parts answered seats over)
      (answers_any is_installed (dialogues parts (replies_of answered)) (any_at (λ (x : Dialogue). list_any is_installed x.answers) (dialogues parts (replies_of answered)) i d.own d.there said))
  installed_said (renewed edit) is j i h =
      let d = (did z (found_in ended) parts answered seats over j i (renewed edit) h).1 in
      let said = any_wider (is_flushed edit.flushed) is_installed d.own.answers (flush_installs edit.flushed) (renewal_answered edit.segment.base edit.flushed new_client d.own.part.commands d.own.answers d.told).1 in
      subst (λ (xs : List Reply). list_any is_installed xs ≡ true) (same_replies z (found_in ended) parts answered seats over)
      (answers_any is_installed (dialogues parts (replies_of answered)) (any_at (λ (x : Dialogue). list_any is_installed x.answers) (dialogues parts (replies_of answered)) i d.own d.there said))
  installed_said other is j i h = absurd cc

  raised_said : (n : ℕ) (e : Event) → raised_to e ≡ Some n → (j i : ℕ) → HasDone (of_seats past_of seats) j i e → list_any (is_flushed n) replies ≡ true
  raised_said n (installed edit false) raised j i h =
      let d = (did z (found_in ended) parts answered seats over j i (installed edit false) h).1 in
      let same : edit.flushed ≡ n = same_some edit.flushed n raised in
      let said = subst (λ (m : ℕ). list_any (is_flushed m) d.own.answers ≡ true) same (comes_answered (is_flushed edit.flushed) new_client d.own.part.commands d.own.answers d.told) in
      (subst (λ (xs : List Reply). list_any (is_flushed n) xs ≡ true) (same_replies z (found_in ended) parts answered seats over)
      (answers_any (is_flushed n) (dialogues parts (replies_of answered)) (any_at (λ (x : Dialogue). list_any (is_flushed n) x.answers) (dialogues parts (replies_of answered)) i d.own d.there said)))
  raised_said n (renewed edit) raised j i h =
      let d = (did z (found_in ended) parts answered seats over j i (renewed edit) h).1 in
      let same : edit.flushed ≡ n = same_some edit.flushed n raised in
      let said = subst (λ (m : ℕ). list_any (is_flushed m) d.own.answers ≡ true) same (renewal_answered edit.segment.base edit.flushed new_client d.own.part.commands d.own.answers d.told).1 in
      (subst (λ (xs : List Reply). list_any (is_flushed n) xs ≡ true) (same_replies z (found_in ended) parts answered seats over)
      (answers_any (is_flushed n) (dialogues parts (replies_of answered)) (any_at (λ (x : Dialogue). list_any (is_flushed n) x.answers) (dialogues parts (replies_of answered)) i d.own d.there said)))
  raised_said n other raised j i h = absurd cc

  flushed_said : (n : ℕ) → WasInstalled ended.first_edit (of_seats past_of seats) n → (n ≡ ended.first_edit.flushed) ⊎ (list_any (is_flushed n) replies ≡ true)
  flushed_said n (inl first) = inl first
  flushed_said n (inr (e, raised, (j, i, h))) = inr (raised_said n e raised j i h)

  flushed_low : (n : ℕ) → list_any (is_flushed n) replies ≡ true → n ≤ ended.edits.last.flushed
  flushed_low n said =
      let k = remembers z (found_in ended) (is_flushed n) parts answered seats over said in
      let f = flush_remembered k.past n k.answer k.is k.remembered in
      ended.installed.rises n (inr (f.0, f.1, (0, k.place, (k.past, (map past_of (map participant_of seats), refl, k.there), f.2))))

  -- the segment that the last edit names is that of the opening, or its base was answered
  placed_by : (segment : Segment) → WasPlaced ended.first_edit (of_seats past_of seats) segment → (segment ≡ ended.first_edit.segment) ⊎ (list_any (is_based segment.base) replies ≡ true)
  placed_by segment (inl first) = inl first
  placed_by segment (inr (edit, same, (j, i, h))) =
      let d = (did z (found_in ended) parts answered seats over j i (renewed edit) h).1 in
      let base : edit.segment.base ≡ segment.base = ap (λ (s : Segment). s.base) same in
      let said = subst (λ (m : ℕ). list_any (is_based m) d.own.answers ≡ true) base (renewal_answered edit.segment.base edit.flushed new_client d.own.part.commands d.own.answers d.told).0 in
      inr (subst (λ (xs : List Reply). list_any (is_based segment.base) xs ≡ true) (same_replies z (found_in ended) parts answered seats over)
      (answers_any (is_based segment.base) (dialogues parts (replies_of answered)) (any_at (λ (x : Dialogue). list_any (is_based segment.base) x.answers) (dialogues parts (replies_of answered)) i d.own d.there said)))

  placed_said : (ended.edits.last.segment ≡ ended.first_edit.segment) ⊎ (list_any (is_based ended.edits.last.segment.base) replies ≡ true)
  placed_said = placed_by ended.edits.last.segment ended.installed.placed

  based_said : (ended.edits.last.segment.base ≡ ended.first_edit.segment.base) ⊎ (list_any (is_based ended.edits.last.segment.base) replies ≡ true)
  based_said = elim placed_said [
    | inl first ↦ inl (ap (λ (s : Segment). s.base) first)
    | inr said ↦ inr said
  ]

  -- the log's base never fell
  base_risen : ended.first_edit.segment.base ≤ ended.edits.last.segment.base
  base_risen =
      let o = ended.opened in
      let first = ap (λ (x : InstalledEdit). x.segment.base) (one_was_first content z.first ended.first_edit o.edit ended.first_is o.last) in
      let opened = ap (λ (s : Segment). s.base) o.segment in
      let last = ap (λ (s : Segment). s.base) ended.in_place in let risen = ended.since.log_risen in omega (arith, first, opened, last, risen)

  in_place_said : list_any is_renewed replies ≡ false → ended.edits.last.segment ≡ ended.first_edit.segment
  in_place_said none = elim placed_said [
    | inl first ↦ first
    | inr said ↦ absurd (true≢false (sym (any_wider (is_based ended.edits.last.segment.base) is_renewed replies (base_renews ended.edits.last.segment.base) said) ∙ none))
  ]

  none_said : (past : List Event) → get_elem? (map past_of (map participant_of seats)) 0 ≡ some past → list_any is_installed replies ≡ false → ended.edits.last ≡ ended.first_edit
  none_said past at none = elim (ended.installed.edit 0 0 past (map past_of (map participant_of seats), refl, at)) [
    | inl is ↦ is ∙ none_installed ended.first_edit past (λ e is there. absurd (true≢false (sym (installed_said e is 0 0 (past, (map past_of (map participant_of seats), refl, at), there)) ∙ none)))
    | inr other ↦ absurd (true≢false (sym (installed_said other.0 other.1 other.2.0 other.2.1 other.2.3) ∙ none))
  ]

  pub last_edit : (past : List Event) → get_elem? (map past_of (map participant_of seats)) 0 ≡ some past → IsLastEdit ended.first_edit ended.edits.last replies
  last_edit past at = record {
    said = flushed_said ended.edits.last.flushed ended.installed.last;
    kept = ended.installed.rises ended.first_edit.flushed (inl refl);
    greatest = flushed_low;
    based = based_said;
    risen = base_risen;
    in_place = in_place_said;
    unchanged = none_said past at;
  }
