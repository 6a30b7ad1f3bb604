-- What an actor has.
use Rattle.std.proofs.Common.{◌≡◌, true, List, [], ◌∷◌, ap, subst, sym, ◌∙◌, ℕ, Option, Some, None, option_map, length, refl, zero, suc, take, drop, ◌++◌, ◌≤◌, ◌<◌, ◌^◌, arith}
use Rattle.std.specs.Option.{is_some}
use Rattle.std.proofs.Common.{inl, inr}
use Rattle.std.specs.FinSet as set
use Rattle.std.specs.FinMap as finite
use Rattle.wp_core.specs.World.{World, Actor, Transaction}
use Rattle.std.specs.List.{slice_get}
use Rattle.wp_model.specs.declared.entry.Entry.{Entry}
use Rattle.wp_model.specs.declared.entry.Entry.TheVariants.{Prepare}
use Rattle.wp_model.specs.declared.holder.Holder.TheVariants.{Txn}
use Rattle.wp_core.specs.Turns.{Holds, write_turn, snapshots_turn}
use Rattle.wp_core.specs.Steps.{store_published, store_word, begin_reading, release}
use Rattle.wp_machine.specs.Machine.{published_step, released_step}
use Rattle.wp_judge.specs.Words.{CommitPair, commit_pair, fits, numbers_of}
use Rattle.wp_model.specs.declared.change.Change.{Change}
use Rattle.wp_model.specs.History.{is_changed}
use Rattle.wp_core.specs.Cache.{pair_at, cache_place}
use Rattle.wp_core.specs.Conditions.{HasTransaction, MayBeEvicted}
use Rattle.wp_core.specs.Entries.{changes_under, written, transaction_of, pending_pair}
use Rattle.wp_core.specs.Reading.{Registration}
use Rattle.wp_core.specs.Lists.{IsIn}
use Rattle.wp_core.specs.Views.{locked}
use Rattle.wp_core.specs.Sound.Snapshots.{has_versions_at}
use Rattle.wp_machine_permits.specs.Offered.{IsOffered}
use Rattle.wp_machine_permits.specs.Permits.{MayFollow, IsHeldKey, IsOwner, IsOwned, IsEntitled, IsMade, LockedItsKeys}

pub owned : (a : Actor) (name : List ℕ) → is_some (finite.get a.participant.transactions name) ≡ true → IsOwned a name
owned a name there = by (finite.get a.participant.transactions name) refl there
  where
    by : (o : Option Transaction) → finite.get a.participant.transactions name ≡ o → is_some o ≡ true → IsOwned a name
    by None is there = absurd cc
    by (Some t) is there = record { transaction = t; there = is }

-- what is so of the keys of the transaction that the actor has
pub came : (a : Actor) (name : List ℕ) (t : Transaction) → HasTransaction a name t → ((key : List ℕ) → set.contains t.locked key ≡ true → IsIn (locked key (Txn name)) a.participant.past) → LockedItsKeys a name
came a name t there each = record { each = λ x key has in_it. let same : x ≡ t = cc in each key (ap (λ (y : Transaction). set.contains y.locked key) (sym same) ∙ in_it) }

pub none_came : (a : Actor) (name : List ℕ) → finite.get a.participant.transactions name ≡ None → LockedItsKeys a name
none_came a name none = record { each = λ x key has in_it. let apart : Some x ≡ None = sym has ∙ none in absurd cc }

-- the first of the pending entries
pub publishes : (w : World) (by : ℕ) (a : Actor) (entry : Entry) → Some entry ≡ slice_get w.writes.pending 0 → Holds w.holders write_turn by → w.writes.logged ≡ true → IsEntitled w a entry → IsMade w entry → IsOffered w by a (published_step w.writes.pending)
publishes w by a entry first turn logged entitled made = cases w.writes.pending refl
  where
    cases : (pending : List Entry) → w.writes.pending ≡ pending → IsOffered w by a (published_step w.writes.pending)
    cases [] is = let none : Some entry ≡ None = first ∙ ap (λ xs. slice_get xs 0) is in absurd cc
    cases (other ∷ others) is =
        let same : entry ≡ other = cc in
        record {
          step = store_published entry others;
          is = rw (is, same) refl;
          needs =
              record {
                turn = turn;
                pending = rw same is;
                logged = logged;
                legal = entitled.legal;
                versions = rw (is, ← same) made.versions;
                keys = entitled.keys;
                transaction = entitled.transaction;
                came = λ name batch t key is. (entitled.came name batch is).each t key;
                number = made.number;
                pair = made.pair;
              };
        }

pub entitled : (w : World) (a : Actor) (entry : Entry) (history : List Entry) → history ≡ w.writes.history → MayFollow history entry → (batch : List Change) → batch ≡ changes_under history entry → ((key : List ℕ) → is_changed (written entry) key ≡ true → IsHeldKey history w a key)
    → ((name : List ℕ) → transaction_of history entry ≡ Some name → IsOwner w a name batch) → ((name : List ℕ) (changes : List Change) → entry ≡ Prepare name changes → LockedItsKeys a name) → IsEntitled w a entry
entitled w a entry history whole follows batch under held owns itself =
    let all : batch ≡ changes_under w.writes.history entry = under ∙ ap (λ h. changes_under h entry) whole in
    record {
      legal = rw whole at follows.legal;
      keys = λ key changed. (subst (λ (h : List Entry). IsHeldKey h w a key) whole (held key changed)).held;
      came = itself;
      transaction = λ name of. let owner = owns name (rw whole of) in (owner.transaction, owner.there, λ key changed. owner.keys key (rw all changed));
    }

-- the pair of the pending entry
pub stores : (w : World) (by : ℕ) (a : Actor) (p c : ℕ) → Some (p, c) ≡ option_map numbers_of (pending_pair w.writes.history w.writes.pending) → Holds w.holders write_turn by → fits (length w.cache) (commit_pair p c) ≡ true → ((gone : CommitPair) → pair_at w.cache (cache_place (length w.cache) p) ≡ Some gone → MayBeEvicted w gone)
    → IsOffered w by a (option_map store_word (pending_pair w.writes.history w.writes.pending))
stores w by a p c is turn narrow clear = cases (pending_pair w.writes.history w.writes.pending) refl
  where
    cases : (o : Option CommitPair) → pending_pair w.writes.history w.writes.pending ≡ o → IsOffered w by a (option_map store_word (pending_pair w.writes.history w.writes.pending))
    cases None none = let apart : Some (p, c) ≡ None = is ∙ ap (option_map numbers_of) none in absurd cc
    cases (Some pair) there =
        let both : Some (p, c) ≡ Some (pair.number, pair.decision) = is ∙ ap (option_map numbers_of) there in
        let inner : ◌≡◌ {A = ℕ × ℕ} (p, c) (pair.number, pair.decision) = cc in
        let same : p ≡ pair.number = ap (λ x. x.0) inner in let decided : c ≡ pair.decision = ap (λ x. x.1) inner in
        record { step = store_word pair; is = ap (option_map store_word) there; needs = (turn, there, sym (λ i. fits (length w.cache) (commit_pair (same i) (decided i))) ∙ narrow, rw same at clear) }

-- the item at a place is in the list
pub in_list : (registered : List Registration) (place : ℕ) (r : Registration) → slice_get registered place ≡ Some r → IsIn r registered
in_list [] place r is = absurd cc
in_list (first ∷ others) zero r is = inl cc
in_list (first ∷ others) (suc place) r is = inr (in_list others place r is)

pub begins : (w : World) (by : ℕ) (a : Actor) (bits p place : ℕ) (r : Registration) → 2 ^ bits ≡ length w.cache → Some r ≡ slice_get a.participant.registered place → (p ≤ r.number → has_versions_at w.writes.history p ≡ true) → IsOffered w by a (option_map (begin_reading bits p) (slice_get a.participant.registered place))
begins w by a bits p place r words there versions = record { step = begin_reading bits p r; is = ap (option_map (begin_reading bits p)) (sym there); needs = (words, in_list a.participant.registered place r (sym there), versions) }

-- ---- lists in two

pub front_of : {X : Type 0} (xs : List X) (x : X) → Some x ≡ slice_get xs 0 → xs ≡ x ∷ drop 1 xs
front_of [] x is = absurd cc
front_of (y ∷ ys) x is = let same : x ≡ y = cc in rw same refl

record Parted {X : Type 0} (xs : List X) (place : ℕ) : Type 0 where
  item : X
  back : List X
  last : drop place xs ≡ item ∷ back
  whole : xs ≡ take place xs ++ item ∷ back

parted : {X : Type 0} (xs : List X) (place : ℕ) → place < length xs → Parted xs place
parted [] place within = absurd (omega (arith, within))
parted (x ∷ xs) zero within = record { item = x; back = xs; last = refl; whole = refl }
parted (x ∷ xs) (suc place) within = let rest = parted xs place (omega (arith, within)) in record { item = rest.item; back = rest.back; last = rest.last; whole = ap (λ ys. x ∷ ys) rest.whole }

pub releases : (w : World) (by : ℕ) (a : Actor) (place : ℕ) → Holds w.holders snapshots_turn by → place < length a.participant.registered → IsOffered w by a (released_step (take place a.participant.registered) (drop place a.participant.registered))
releases w by a place turn within =
    let at = parted a.participant.registered place within in
    record { step = release (take place a.participant.registered) at.item at.back; is = ap (released_step (take place a.participant.registered)) at.last; needs = (turn, at.whole) }
