-- The store that one seat alone uses, as it was opened and later.
use Rattle.std.proofs.Common.{◌≡◌, ℕ, true≢false, List, [], refl, sym, ap, ◌∙◌, append-nil, Option, is_some, arith}
use Rattle.std.specs.FinMap as finite
use Rattle.wp_model.specs.Batch.{key_cmp}
use Rattle.wp_model.specs.Flushed.{InstalledEdit}
use Rattle.wp_core.specs.Sound.Pasts.{last_installed}
use Rattle.wp_core.specs.World.{World, new_participant}
use Rattle.wp_rule.specs.Shows.{WasLast}
use Rattle.wp_rule.proofs.Knows.{one_was_first}
use Rattle.wp_parts.specs.Parts.{content}
use Rattle.wp_shared.specs.Limits.{WasOpenedAt}
use Rattle.wp_shared.proofs.Limits.{limit_opened}
use Rattle.wp_shared.specs.Seats.{SharedState, SeatState, Stands}
use Rattle.wp_replies.specs.Current.{opened_store}
use Rattle.wp_replies.specs.Due.{Store}
use Rattle.wp_replies.specs.Known.{StoredState}
use Rattle.wp_client.specs.Alone.{limits_of, IsOnly, IsStoreOf, IsAsStored}
use Rattle.wp_client.proofs.Alone.Published.{same_if}
use Rattle.wp_client.proofs.Alone.Worlds.{only_of}
use Rattle.wp_client.proofs.Alone.Seated.{alone_then, history_then}

pub opened_is_told : {D : Type 0} (z : SharedState D) (found : StoredState) (client : List ℕ) → found.history ≡ z.opened → WasLast content z.first found.edit → WasOpenedAt z found.edit.segment.base → IsStoreOf z found.edit (new_participant client z.opened) (opened_store (limits_of z) found)
opened_is_told z found client same was at = record {
  first_is = was;
  at = at;
  base = refl;
  risen = omega arith;
  history = same;
  opened = ([], sym (append-nil z.opened));
  own = λ n there. absurd there;
  stopped = refl;
  limit = sym (limit_opened z found.edit.segment.base at);
  renewed_limit = refl;
  cells = refl;
  installed = refl;
  halted = refl;
  board = λ label. ((λ known. absurd (true≢false (sym known ∙ ap (λ (o : Option ℕ). is_some o) (finite.get-empty key_cmp label)))), (λ told. absurd told.1));
}

pub tells_the_store : {D : Type 0} (z : SharedState D) (first : InstalledEdit) (s : SeatState) (store : Store) → IsOnly s → IsStoreOf z first s.knows.participant store → WasLast content z.first first → (w : World) → Stands z s w → IsAsStored store w
tells_the_store z first s store only is was_last w at =
    let k = only_of w at.reached s.knows (alone_then z first s only store is w at) in record {
      history = history_then z first s only store is w at;
      closed = same_if w.writes.closed store.stopped (sym k.closed ∙ sym is.stopped);
      halted = same_if w.installed.halted store.halted (sym k.halted ∙ sym is.halted);
      edit = k.edit ∙ (ap (λ (edit : InstalledEdit). last_installed edit s.knows.participant.past) (one_was_first content z.first w.first_edit first at.first_edit was_last) ∙ sym is.installed);
    }
