-- Whose names and direct writes they stay, where one actor's own participant changed and its past grew.
use Rattle.std.proofs.Common.{◌≡◌, ⊎_elim, inl, inr, ℕ, List, map, set, sym, subst, ap, ◌∙◌, Some, true, ◌⊎◌}
use mathlib.Core.Option.{some}
use lib.ListN.{get_elem?}
use Rattle.std.specs.FinSet as words
use Rattle.wp_model.specs.declared.entry.Entry.{Entry}
use Rattle.wp_model.specs.declared.holder.Holder.TheVariants.{Txn, Client}
use Rattle.wp_core.specs.Lists.{IsIn}
use Rattle.wp_core.specs.Views.{Event, claimed, took, locked}
use Rattle.wp_core.specs.World.{Transaction, Actor}
use Rattle.wp_core.specs.Sound.Actors.{participants_of, IsParticipantAt, EachParticipant}
use Rattle.wp_core.specs.Sound.Locks.{Owner, owner_of, Has, Began, IsNameOf, IsDirectOf, WasLockedFor, CameToKey, CameToKeys, HasOrLocked, AreApart}
use Rattle.wp_core.proofs.AllParticipants.{still, at_after, who_was, each_apart, still_apart}

-- how one came to a key stays so as its past grows
pub came_still : (opened history : List Entry) (owners others : List (List Owner)) (past more : List Event) → ((e : Event) → IsIn e past → IsIn e more) → (name key : List ℕ) → (WasLockedFor owners name key → WasLockedFor others name key)
    → CameToKey opened history owners past name key → CameToKey opened history others more name key
came_still opened history owners others past more grew name key still (inl k) = inl (grew (locked key (Txn name)) k)
came_still opened history owners others past more grew name key still (inr (k, inl has)) = inr (grew (took name) k, inl has)
came_still opened history owners others past more grew name key still (inr (k, inr was)) = inr (grew (took name) k, inr (still was))

-- so does what a prepare has or somebody locked
pub beyond_still : (opened history : List Entry) (owners others : List (List Owner)) (p : ℕ) (name key : List ℕ) → (WasLockedFor owners name key → WasLockedFor others name key) → HasOrLocked opened history owners p name key → HasOrLocked opened history others p name key
beyond_still opened history owners others p name key still (inl has) = inl has
beyond_still opened history owners others p name key still (inr (low, was)) = inr (low, still was)

module _ (xs : List Actor) (by : ℕ) (a b : Actor) (at : get_elem? xs by ≡ some a) (same : b.joined ≡ a.joined) where
  abbrev before : List (List Owner)
  before = map (participants_of owner_of) xs

  abbrev after : List (List Owner)
  after = map (participants_of owner_of) (set xs by b)

  -- no two have the same transaction or direct write, where the changed one has none but what it had, or what nobody had
  pub owners_apart : ((n : List ℕ) (x : Transaction) → Has (owner_of b.participant) n x → ((y : Transaction) × Has (owner_of a.participant) n y) ⊎ ((j i : ℕ) (o : Owner) (y : Transaction) → IsParticipantAt before j i o → Has o n y → ⊥))
      → ((key : List ℕ) → b.participant.direct ≡ Some key → (a.participant.direct ≡ Some key) ⊎ ((j i : ℕ) (o : Owner) → IsParticipantAt before j i o → o.direct ≡ Some key → ⊥)) → AreApart before → AreApart after
  owners_apart names direct k = record {
    names = λ j i l m o q n x y here there first second.
        still_apart owner_of xs by a b at same (λ c. (z : Transaction) × Has c n z)
        (λ h. ⊎_elim (λ (had : (z : Transaction) × Has (owner_of a.participant) n z). inl had) (λ none. inr (λ u v c old has. none u v c has.0 old has.1)) (names n h.0 h.1))
        (λ u v d e c r old also has his. k.names u v d e c r n has.0 his.0 old also has.1 his.1) j i l m o q here there (x, first) (y, second);
    direct = λ j i l m o q key here there first second.
        still_apart owner_of xs by a b at same (λ c. c.direct ≡ Some key) (direct key) (λ u v d e c r old also has his. k.direct u v d e c r key old also has his) j i l m o q here there first second;
  }

  -- a held key is known to who has its transaction, where the changed one has no other transactions than it had
  pub key_known : ((n : List ℕ) (x : Transaction) → Has (owner_of b.participant) n x → Has (owner_of a.participant) n x) → (key n : List ℕ) → EachParticipant (λ o. (x : Transaction) → Has o n x → words.contains x.locked key ≡ true) before
      → EachParticipant (λ o. (x : Transaction) → Has o n x → words.contains x.locked key ≡ true) after
  key_known had key n k j i o there x has =
      let u = who_was owner_of xs by a b at same (λ c d. (v : List ℕ) (z : Transaction) → Has c v z → Has d v z) (λ c v z h. h) had j i o there in
      k j i u.0 u.1 x (u.2 n x has)

  module _ (past : (e : Event) → IsIn e a.participant.past → IsIn e b.participant.past) where
    pub locked_for_still : (name key : List ℕ) → WasLockedFor before name key → WasLockedFor after name key
    locked_for_still name key k = ⊎_elim
        (λ (g : (k.at ≡ by) × (k.place ≡ 0) × (k.owner ≡ owner_of a.participant)). record {
          at = k.at;
          place = k.place;
          owner = owner_of b.participant;
          there = at_after owner_of xs by a b at same k.at k.place g.0 g.1;
          began = past (locked key (Txn name)) (subst (λ (z : Owner). IsIn (locked key (Txn name)) z.past) g.2 k.began);
        })
        (λ (g : IsParticipantAt after k.at k.place k.owner). record { at = k.at; place = k.place; owner = k.owner; there = g; began = k.began })
        (still owner_of xs by a b at same k.at k.place k.owner k.there)

    -- each came to its keys, where the changed one came to its own
    pub came_apart : (opened history : List Entry) → CameToKeys opened history after (owner_of b.participant) → EachParticipant (CameToKeys opened history before) before → EachParticipant (CameToKeys opened history after) after
    came_apart opened history its k =
        each_apart owner_of xs by a b at same (CameToKeys opened history after) its
        (λ j i o elsewhere there name x key has held. came_still opened history before after o.past o.past (λ e h. h) name key (λ was. locked_for_still name key was) (k j i o there name x key has held))

    -- what the changed one had come to it came to
    pub came_itself : (opened history : List Entry) (name key : List ℕ) → CameToKey opened history before a.participant.past name key → CameToKey opened history after b.participant.past name key
    came_itself opened history name key k = came_still opened history before after a.participant.past b.participant.past past name key (λ was. locked_for_still name key was) k

    pub beyond_moved : (opened history : List Entry) (p : ℕ) (name key : List ℕ) → HasOrLocked opened history before p name key → HasOrLocked opened history after p name key
    beyond_moved opened history p name key k = beyond_still opened history before after p name key (λ was. locked_for_still name key was) k

  module _ (client : b.participant.client ≡ a.participant.client) (past : (e : Event) → IsIn e a.participant.past → IsIn e b.participant.past) where
    began_still : (n : List ℕ) → Began a.participant.past n → Began b.participant.past n
    began_still n (inl k) = inl (past (claimed n) k)
    began_still n (inr k) = inr (past (took n) k)

    -- a name that the changed one still has, where it had it
    pub name_kept : (n c : List ℕ) → ((y : Transaction) → Has (owner_of a.participant) n y → (x : Transaction) × Has (owner_of b.participant) n x) → IsNameOf before n c → IsNameOf after n c
    name_kept n c has k = ⊎_elim
        (λ (g : (k.at ≡ by) × (k.place ≡ 0) × (k.owner ≡ owner_of a.participant)).
        let h = has k.transaction (subst (λ (z : Owner). Has z n k.transaction) g.2 k.has) in
        record {
          at = k.at;
          place = k.place;
          owner = owner_of b.participant;
          transaction = h.0;
          there = at_after owner_of xs by a b at same k.at k.place g.0 g.1;
          client_is = client ∙ ap (λ (z : Owner). z.client) (sym g.2) ∙ k.client_is;
          has = h.1;
          began = began_still n (subst (λ (z : Owner). Began z.past n) g.2 k.began);
        })
        (λ (g : IsParticipantAt after k.at k.place k.owner). record { at = k.at; place = k.place; owner = k.owner; transaction = k.transaction; there = g; client_is = k.client_is; has = k.has; began = k.began })
        (still owner_of xs by a b at same k.at k.place k.owner k.there)

    -- a direct write that the changed one still has, where it had it
    pub direct_kept : (k c : List ℕ) → (a.participant.direct ≡ Some k → b.participant.direct ≡ Some k) → IsDirectOf before k c → IsDirectOf after k c
    direct_kept k c has d = ⊎_elim
        (λ (g : (d.at ≡ by) × (d.place ≡ 0) × (d.owner ≡ owner_of a.participant)). record {
          at = d.at;
          place = d.place;
          owner = owner_of b.participant;
          there = at_after owner_of xs by a b at same d.at d.place g.0 g.1;
          client_is = client ∙ ap (λ (z : Owner). z.client) (sym g.2) ∙ d.client_is;
          has = has (ap (λ (z : Owner). z.direct) (sym g.2) ∙ d.has);
          began = past (locked k (Client c)) (subst (λ (z : Owner). IsIn (locked k (Client c)) z.past) g.2 d.began);
        })
        (λ (g : IsParticipantAt after d.at d.place d.owner). record { at = d.at; place = d.place; owner = d.owner; there = g; client_is = d.client_is; has = d.has; began = d.began })
        (still owner_of xs by a b at same d.at d.place d.owner d.there)
