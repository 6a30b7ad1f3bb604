-- A load of the published number keeps every part of a sound world.
use Rattle.std.proofs.Common.{◌≡◌, ℕ, set, sym, ◌≤◌, ◌++◌, length-append, arith, length}
use mathlib.Core.Option.{some}
use lib.ListN.{get_elem?}
use Rattle.wp_core.proofs.AllParticipants.{mine}
use Rattle.wp_core.specs.Views.{Fact}
use Rattle.wp_core.specs.World.{Actor, Participant, World}
use Rattle.wp_core.specs.Sound.Actors.{seen_of, own_of, AreOwned, participants_of, learned_of, StartsWith}
use Rattle.wp_core.specs.Sound.Snapshots.{registered_of, AreRegistered, view_of, HasSeen}
use Rattle.wp_core.specs.Sound.Views.{IsSo}
use Rattle.wp_core.specs.IsSound.{IsSound}
use Rattle.wp_core.proofs.Frames.{each_map_set}
use Rattle.std.proofs.Common.{List, [], refl, ap, append-nil, filter, not, length}
use Rattle.wp_model.specs.declared.entry.Entry.{Entry}
use Rattle.wp_core.specs.Steps.{load_published}
use Rattle.wp_core.specs.Changes.{sees}
use Rattle.wp_core.specs.Effects.{done}
use Rattle.wp_core.specs.Notes.{forgets, ends}
use Rattle.wp_core.proofs.Participants.{each_person_set}
use Rattle.wp_core.proofs.AllParts.{SoIn, all_parts, tables_of, kept_part, locks_still, pasts_still, readers_still, turns_still, notes_stay, idle_set, led_still}

-- no fact speaks of what was seen
so_after : (w : World) (a : Participant) (fact : Fact) → IsSo w.delayed_flag w.old_flag w.max_evicted w.cache w.writes w.prepared w.snapshots w.store w.locks w.installed a fact → IsSo w.delayed_flag w.old_flag w.max_evicted w.cache w.writes w.prepared w.snapshots w.store w.locks w.installed (record a { seen = w.writes.history }) fact
so_after w a fact k = k

pub whole : (history : List Entry) → StartsWith history history
whole history = ([], sym (append-nil history))

pub shorter : (history seen : List Entry) → StartsWith history seen → length seen ≤ length history
shorter history seen k = let l = length-append seen k.0 in let q : length history ≡ length (seen ++ k.0) = ap length k.1 in omega (arith, l, q)

pub loads_published : (w : World) (by : ℕ) (a : Actor) → get_elem? w.actors by ≡ some a → IsSound w → IsSound (done w by (forgets w.writes.history (length w.cache) load_published a) load_published)
loads_published w by a at s =
    let b : Actor = sees w.writes.history (forgets w.writes.history (length w.cache) load_published a) in
    all_parts w (set w.actors by b) (tables_of w s) (record {
      seen = each_person_set seen_of (StartsWith w.writes.history) w.actors by a b at (whole w.writes.history) refl s.seen;
      learned = each_map_set learned_of (λ j entries. StartsWith w.writes.history entries) w.actors by b (w.writes.history, refl) (λ j x ne there. s.learned j x there);
      owned = kept_part w by a b at (participants_of own_of) (AreOwned w.opened w.writes.history) refl s.owned;
      registrations = kept_part w by a b at (participants_of registered_of) (AreRegistered w.writes.history w.snapshots) refl s.registrations;
      from_base = s.from_base;
      viewed = each_person_set view_of HasSeen w.actors by a b at (λ r h. let low = s.viewed by 0 (view_of a.participant) (mine view_of w.actors by a a at refl) r h in let more = shorter w.writes.history a.participant.seen (s.seen by 0 a.participant.seen (mine seen_of w.actors by a a at refl)) in omega (arith, low, more)) refl s.viewed;
    })
    (locks_still w by a b at refl s) (pasts_still w by a b at refl s) (turns_still w by a b at refl s)
    (readers_still w by a b at refl s)
    (notes_stay w by a b at load_published w.holders (SoIn w) refl (λ fact left m. record { guarded = m.guarded; is_so = so_after w a.participant fact m.is_so }) (λ j x fact ne there m. m) s) (led_still w by a b at refl s)
    (idle_set w by a b at
    (λ dead. let i = s.idle by a at dead in record { participant = ap (λ (z : Participant). record z { seen = w.writes.history }) i.participant; held = i.held; reading = i.reading; notes = ap (λ (z : List Fact). filter (λ f. not (ends w.writes.history (length w.cache) load_published f)) z) i.notes }) s)
