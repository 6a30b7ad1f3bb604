-- Giving a seat that has no transaction and no direct write to a client keeps a world sound.
use Rattle.std.proofs.Common.{◌≡◌, ⊎_elim, ℕ, true≢false, List, length, map, set, refl, sym, subst, ap, ◌∙◌, Option, Some, None}
use mathlib.Core.Option.{some}
use lib.ListN.{get_elem?}
use Rattle.std.specs.FinMap as finite
use Rattle.wp_model.specs.Batch.{key_cmp}
use Rattle.wp_model.specs.declared.entry.Entry.{Entry}
use Rattle.wp_model.specs.LockState.{LockState}
use Rattle.wp_core.specs.Lists.{IsIn}
use Rattle.wp_core.specs.Views.{Event, Fact, undecided_at, direct_free}
use Rattle.wp_core.specs.World.{Transaction, Transactions, Actor, Participant, World}
use Rattle.wp_core.specs.Steps.{set_client}
use Rattle.wp_core.specs.Effects.{done}
use Rattle.wp_core.specs.Needs.{Needs}
use Rattle.wp_core.specs.Notes.{forgets}
use Rattle.wp_core.specs.Sound.Actors.{participants_of, IsParticipantAt}
use Rattle.wp_core.specs.Sound.Locks.{Owner, owner_of, Has, IsOwner, AreLocked}
use Rattle.wp_core.specs.IsSound.{IsSound}
use Rattle.wp_core.proofs.AllParticipants.{still, each_apart}
use Rattle.wp_core.proofs.AllParts.{SoIn, all_parts, tables_of, views_still, pasts_still, readers_still, turns_still, notes_stay, idle_set, led_still}
use Rattle.wp_core.proofs.OwnerMoves.{owners_apart, key_known, came_apart, beyond_moved}

-- it has no transaction and no direct write
pub record HasNothing (transactions : Transactions) (direct : Option (List ℕ)) : Type 0 where
  pub none : transactions ≡ finite.empty
  pub not_writing : direct ≡ None

no_transaction : (transactions : Transactions) (direct : Option (List ℕ)) (name : List ℕ) (x : Transaction) → HasNothing transactions direct → finite.get transactions name ≡ Some x → ⊥
no_transaction transactions direct name x k h = let q : None ≡ Some x = sym (ap (λ (z : Transactions). finite.get z name) k.none ∙ finite.get-empty key_cmp name) ∙ h in absurd (cc)

no_direct : (transactions : Transactions) (direct : Option (List ℕ)) (key : List ℕ) → HasNothing transactions direct → direct ≡ Some key → ⊥
no_direct transactions direct key k h = let q : None ≡ Some key = sym k.not_writing ∙ h in absurd (cc)

-- names and keys, once the owner changes that has none
module _ (xs : List Actor) (by : ℕ) (a b : Actor) (at : get_elem? xs by ≡ some a) (same : b.joined ≡ a.joined) (before_none : HasNothing a.participant.transactions a.participant.direct) (after_none : HasNothing b.participant.transactions b.participant.direct) (past : (e : Event) → IsIn e a.participant.past → IsIn e b.participant.past) where
  abbrev before : List (List Owner)
  before = map (participants_of owner_of) xs

  abbrev after : List (List Owner)
  after = map (participants_of owner_of) (set xs by b)

  none_now : (o : Owner) (name : List ℕ) (x : Transaction) → o ≡ owner_of b.participant → Has o name x → ⊥
  none_now o name x e h = no_transaction b.participant.transactions b.participant.direct name x after_none (subst (λ (z : Owner). Has z name x) e h)

  none_writes : (o : Owner) (key : List ℕ) → o ≡ owner_of b.participant → o.direct ≡ Some key → ⊥
  none_writes o key e h = no_direct b.participant.transactions b.participant.direct key after_none (subst (λ (z : Owner). z.direct ≡ Some key) e h)

  none_owner : (t : LockState) → IsOwner t (owner_of b.participant)
  none_owner t = record {
    names = λ name x h. absurd (none_now (owner_of b.participant) name x refl h);
    keys = λ name x key h held. absurd (none_now (owner_of b.participant) name x refl h);
    direct = λ key h. absurd (none_writes (owner_of b.participant) key refl h);
  }

  pub locked_none : (opened history : List Entry) (t : LockState) → AreLocked opened history t before → AreLocked opened history t after
  locked_none opened history t k = record {
    prepared_names = k.prepared_names;
    prepared_keys = k.prepared_keys;
    had = each_apart owner_of xs by a b at same (IsOwner t) (none_owner t) (λ j i o elsewhere there. k.had j i o there);
    came = came_apart xs by a b at same past opened history (λ name x key h held. absurd (none_now (owner_of b.participant) name x refl h)) k.came;
    apart = owners_apart xs by a b at same (λ name x h. absurd (none_now (owner_of b.participant) name x refl h)) (λ key h. absurd (none_writes (owner_of b.participant) key refl h)) k.apart;
    names_had = λ name client h.
        let o = k.names_had name client h in
        ⊎_elim
        (λ (c : (o.at ≡ by) × (o.place ≡ 0) × (o.owner ≡ owner_of a.participant)). absurd (no_transaction a.participant.transactions a.participant.direct name o.transaction before_none (subst (λ (z : Owner). Has z name o.transaction) c.2 o.has)))
        (λ (c : IsParticipantAt after o.at o.place o.owner). record { at = o.at; place = o.place; owner = o.owner; transaction = o.transaction; there = c; client_is = o.client_is; has = o.has; began = o.began })
        (still owner_of xs by a b at same o.at o.place o.owner o.there);
    names_left = k.names_left;
    keys_live = k.keys_live;
    keys_known = λ key name h. key_known xs by a b at same (λ n x has. absurd (none_now (owner_of b.participant) n x refl has)) key name (k.keys_known key name h);
    keys_direct = λ key client h.
        let o = k.keys_direct key client h in
        ⊎_elim
        (λ (c : (o.at ≡ by) × (o.place ≡ 0) × (o.owner ≡ owner_of a.participant)). absurd (no_direct a.participant.transactions a.participant.direct key before_none (subst (λ (z : Owner). z.direct ≡ Some key) c.2 o.has)))
        (λ (c : IsParticipantAt after o.at o.place o.owner). record { at = o.at; place = o.place; owner = o.owner; there = c; client_is = o.client_is; has = o.has; began = o.began })
        (still owner_of xs by a b at same o.at o.place o.owner o.there);
    unchanged = k.unchanged;
    beyond = λ key name p is h. beyond_moved xs by a b at same past opened history p name key (k.beyond key name p is h);
  }

-- what one noted that has nothing speaks of no client
so_client : (w : World) (p : Participant) (client : List ℕ) (fact : Fact) → HasNothing p.transactions p.direct → SoIn w p fact → SoIn w (record p { client = client }) fact
so_client w p client (undecided_at name q) nothing k = absurd (no_transaction p.transactions p.direct name k.0.0 nothing k.0.1)
so_client w p client (direct_free key) nothing k = absurd (no_direct p.transactions p.direct key nothing k.0)
so_client w p client fact nothing k = k

pub sets_client : (w : World) (by : ℕ) (a : Actor) (client : List ℕ) → get_elem? w.actors by ≡ some a → Needs w by a (set_client client) → IsSound w
    → IsSound (done w by (forgets w.writes.history (length w.cache) (set_client client) a) (set_client client))
sets_client w by a client at needs s =
    let c : Actor = forgets w.writes.history (length w.cache) (set_client client) a in
    let b : Actor = record c { participant = record c.participant { client = client } } in
    let nothing : HasNothing a.participant.transactions a.participant.direct = record { none = needs.1; not_writing = needs.2 } in
    all_parts w (set w.actors by b) (tables_of w s) (views_still w by a b at refl s) (locked_none w.actors by a b at refl nothing nothing (λ e h. h) w.opened w.writes.history w.locks s.locks) (pasts_still w by a b at refl s) (turns_still w by a b at refl s)
    (readers_still w by a b at refl s)
    (notes_stay w by a b at (set_client client) w.holders (SoIn w) refl (λ fact left m. record { guarded = m.guarded; is_so = so_client w a.participant client fact nothing m.is_so }) (λ j x fact ne there m. m) s)
    (led_still w by a b at refl s) (idle_set w by a b at (λ dead. absurd (true≢false (sym needs.0 ∙ dead))) s)
