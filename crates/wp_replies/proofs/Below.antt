-- The rows look at nothing from below the base of the log that the store was opened from.
use Rattle.std.proofs.Common.{◌≡◌, ℕ, suc, ◌-◌, ◌<◌, ◌≤◌, ◌||◌, Bool, true, false, ◌==◌, eq-eqb, List, [], ◌∷◌, ◌++◌, length, take, drop, Option, Some, None, refl, sym, ap, ◌∙◌, subst, inl, inr, arith}
use Rattle.std.specs.Prelude.{IfSome, min}
use Rattle.std.specs.List.{AllByRecursion, list_any}
use Rattle.std.specs.Str.{bytes_eq}
use Rattle.std.proofs.lemmas.Bool.{cases_Bool, cases_lt, or_right}
use Rattle.std.proofs.lemmas.List.{take-append-drop, length-take-le}
use Rattle.wp_model.specs.declared.entry.Entry.{Entry}
use Rattle.wp_model.specs.declared.version.Version.{Version}
use Rattle.wp_model.specs.declared.holder.Holder.{Holder}
use Rattle.wp_model.specs.declared.holder.Holder.TheVariants as holder
use Rattle.wp_model.specs.Batch.{change_to}
use Rattle.wp_model.specs.Changed.{conflict}
use Rattle.wp_model.specs.Decision.{entry_version, decision_in, is_by, is_committed}
use Rattle.wp_model.specs.Flushed.{InstalledEdit}
use Rattle.wp_model.specs.History.{entry_at, prepared_name, prepared_batch, is_changed, value_at}
use Rattle.wp_model.proofs.Entries.{entry_at_past}
use Rattle.wp_history_laws.proofs.Counting.{entry_version_old}
use Rattle.wp_merge.specs.Merge.{sorted_of}
use Rattle.wp_keep.specs.Keep.{retained_of}
use Rattle.wp_keep.proofs.Tests.{retained_same}
use Rattle.wp_cuts.specs.Agree.{TellAlike}
use Rattle.wp_cuts.specs.Cut.{Cut}
use Rattle.wp_cuts.specs.Kept.{carried_versions, HasKeysAt}
use Rattle.wp_text.specs.declared.script.Command.{Command}
use Rattle.wp_text.specs.declared.script.Command.TheVariants as command
use Rattle.wp_text.specs.declared.reply.Reply.{Reply}
use Rattle.wp_text.specs.declared.reply.Reply.TheVariants as reply
use Rattle.wp_replies.specs.declared.client.LabelledSnapshot.{LabelledSnapshot}
use Rattle.wp_replies.specs.Txn.{Txn, Staged, Idle, Open, Prepared, is_its_key}
use Rattle.wp_replies.specs.Alike.{HasEach, IsLike, TxnIsFrom, AreFrom, IsFrom}
use Rattle.wp_replies.specs.Client.{Client, number_of}
use Rattle.wp_replies.specs.Progress.{ToldKey, Progress}
use Rattle.wp_replies.specs.Replies.{Evidence, IsFresh, IsLoggedAt, WasUndecided, HadKey, WasPreparedSince, IsBusy, IsNameTaken, OwnSays, ConflictsAt, IsKept, AreKept, IsValidated, KeepsKeys, PreparesAt, CommitsAt, RollsBackAt, AsksFor, AreNamed, SettlesAll, AreCrowded, IsFirstRefused, IsFlushCount, IsCompactionCount, RenewsSomething, HasNothingToFlush, FailsFlush, FailsCompaction, FailsRenewal, Condition}
use Rattle.wp_replies.specs.Tables.{unflushed, after_flush, listed, retained, after_compaction, with_table, after_renewal}
use Rattle.wp_replies.proofs.Conditions.{entry_within, logged_within}
use Rattle.wp_replies.proofs.Settles.{zip_map, committed_too, refused_too, asks_too, settled_fresh}

-- ---- snapshots

pub number_from : (base : ℕ) (snapshots : List LabelledSnapshot) (label : List ℕ) → AreFrom base snapshots → IfSome (number_of snapshots label) (λ n. base ≤ n)
number_from base [] label from = tt
number_from base (s ∷ snapshots) label from =
    elim (cases_Bool (bytes_eq s.label label)) [
      | inl same ↦ rw same from.0
      | inr other ↦ rw other (number_from base snapshots label from.1)
    ]

-- ---- numbers that are listed

each_from : (base : ℕ) (numbers : List ℕ) → ((n : ℕ) → list_any (λ m. m == n) numbers ≡ true → base ≤ n) → AllByRecursion (λ n. base ≤ n) numbers
each_from base [] from = tt
each_from base (x ∷ numbers) from =
    (from x (ap (λ (b : Bool). b || list_any (λ m. m == x) numbers) (eq-eqb x x refl)), each_from base numbers (λ n there. from n (or_right (x == n) (list_any (λ m. m == n) numbers) there)))

pub joined_from : (base : ℕ) (front back : List ℕ) → AllByRecursion (λ n. base ≤ n) front → AllByRecursion (λ n. base ≤ n) back → AllByRecursion (λ n. base ≤ n) (front ++ back)
joined_from base [] back all also = also
joined_from base (n ∷ front) back all also = (all.0, joined_from base front back all.1 also)

-- ---- commits

-- nothing is committed that is past the end
none_committed : (history : List Entry) (p n : ℕ) → length history < p → is_committed history p n ≡ false
none_committed history p n past = ap (λ (at : Option Entry). is_by (decision_in history p at) n) (entry_at_past history p past)

front_version : (history : List Entry) (at p : ℕ) (key : List ℕ) → at ≤ length history → p ≤ at → entry_version (take at history) p key ≡ entry_version history p key
front_version history at p key within le =
    let size = length-take-le at history within in
    sym (subst (λ (h : List Entry). entry_version h p key ≡ entry_version (take at history) p key) (take-append-drop at history) (entry_version_old (take at history) (drop at history) p key (omega (arith, size, le))))

module _ (e : Evidence) (other : List Entry) (k : IsLike e other) where
  abbrev a : TellAlike e.history other e.base
  a = k.alike

  abbrev with_other : Evidence
  with_other = record e { history = other }

  base_within : e.base ≤ length e.history
  base_within = let o = k.opened in let w = k.within in omega (arith, o, w)

  within_other : (n : ℕ) → n ≤ length e.history → n ≤ length other
  within_other n le = let long = a.whole.long in omega (arith, long, le)

  -- ---- what rows say

  fresh_other : (last n : ℕ) → IsFresh e.history last n → IsFresh other last n
  fresh_other last n f = (f.0, within_other n f.1)

  logged_other : (last n : ℕ) (x : Entry) → e.base ≤ last → IsLoggedAt e.history last n x → IsLoggedAt other last n x
  logged_other last n x low l = (l.0, sym (a.whole.entries n (omega (arith, low, l.0))) ∙ l.1)

  was_other : (last : ℕ) (name : List ℕ) (p : ℕ) → e.base ≤ last → WasUndecided e.history last name p → WasUndecided other last name p
  was_other last name p low w =
      let from : e.base ≤ w.at = omega (arith, low, w.fresh.0) in record {
        at = w.at;
        fresh = fresh_other last w.at w.fresh;
        undecided = sym (a.undecided p w.at from w.fresh.1) ∙ w.undecided;
        named = ap prepared_name (sym (a.prepared p w.at from w.fresh.1 w.undecided)) ∙ w.named;
      }

  had_other : (last : ℕ) (name key : List ℕ) → e.base ≤ last → HadKey e.history last name key → HadKey other last name key
  unfolding was_other
  had_other last name key low (p, was, changed) =
      let from : e.base ≤ was.at = omega (arith, low, was.fresh.0) in
      (p, was_other last name p low was, ap (λ (x : Option Entry). is_changed (prepared_batch x) key) (sym (a.prepared p was.at from was.fresh.1 was.undecided)) ∙ changed)

  prepared_other : (last : ℕ) (name : List ℕ) → e.base ≤ last → WasPreparedSince e last name → WasPreparedSince with_other last name
  prepared_other last name low (p, was, behind) = (p, was_other last name p low was, behind)

  busy_other : (last : ℕ) (key : List ℕ) (by : Holder) → e.base ≤ last → IsBusy e last key by → IsBusy with_other last key by
  busy_other last key (holder.Txn name) low (inl had) = inl (had_other last name key low had)
  busy_other last key (holder.Txn name) low (inr (inl claim)) = inr (inl claim)
  busy_other last key (holder.Txn name) low (inr (inr (inl (claim, has)))) = inr (inr (inl (claim, had_other e.opened name key k.opened has)))
  busy_other last key (holder.Txn name) low (inr (inr (inr (claim, inl was)))) = inr (inr (inr (claim, inl (prepared_other last name low was))))
  busy_other last key (holder.Txn name) low (inr (inr (inr (claim, inr took)))) = inr (inr (inr (claim, inr took)))
  busy_other last key (holder.Client name) low claim = claim

  taken_other : (last : ℕ) (name : List ℕ) → e.base ≤ last → IsNameTaken e last name → IsNameTaken with_other last name
  taken_other last name low (inl (p, was)) = inl (p, was_other last name p low was)
  taken_other last name low (inr claim) = inr claim

  -- the entry of a prepare that the client has
  own_entry : (p : ℕ) → TxnIsFrom e.base e.history (Prepared p) → entry_at e.history p ≡ entry_at other p
  own_entry p (inl behind) = a.whole.entries p behind
  own_entry p (inr (n, low, high, undecided)) = a.own p n low high undecided

  own_other : (txn : Txn) (key : List ℕ) (said : Option (Option (List ℕ))) → TxnIsFrom e.base e.history txn → OwnSays e.history txn key said → OwnSays other txn key said
  own_other Idle key said from s = s
  own_other (Open own) key said from s = s
  own_other (Prepared p) key said from s = (within_other p s.0, ap (λ (x : Option Entry). change_to (prepared_batch x) key) (sym (own_entry p from)) ∙ s.1)

  value_other : (key : List ℕ) (n : ℕ) (value : Option (List ℕ)) → e.base ≤ n → n ≤ length e.history → value_at e.history key n ≡ value → value_at other key n ≡ value
  value_other key n value low high is = sym (a.whole.values key n low high) ∙ is

  -- ---- keys

  -- what changed a key last, above a number from the base on
  conflict_other : (key : List ℕ) (from n : ℕ) (last : Option ℕ) → e.base ≤ from → n ≤ length e.history → conflict (take n e.history) key from ≡ last → conflict (take n other) key from ≡ last
  conflict_other key from n last low high is = sym (a.conflicts key from n low high) ∙ is

  pin_from : (own : Staged) (pin : ℕ) → TxnIsFrom e.base e.history (Open own) → own.pin ≡ Some pin → e.base ≤ pin
  pin_from own pin from is = subst (λ (o : Option ℕ). IfSome o (λ m. e.base ≤ m)) is from

  conflicts_other : (last : ℕ) (txn : Txn) (key : List ℕ) (n : ℕ) → TxnIsFrom e.base e.history txn → ConflictsAt e.history last txn key n → ConflictsAt other last txn key n
  conflicts_other last (Open own) key n from (new, was) = (
    new,
    record {
      at = was.at;
      fresh = fresh_other last was.at was.fresh;
      pin = was.pin;
      pinned = was.pinned;
      changed = conflict_other key was.pin was.at (Some n) (pin_from own was.pin from was.pinned) was.fresh.1 was.changed;
    },
  )
  conflicts_other last Idle key n from c = absurd c
  conflicts_other last (Prepared p) key n from c = absurd c

  module _ (n : ℕ) (high : n ≤ length e.history) where
    kept_other : (x : ToldKey) → e.base ≤ x.told → IsKept (take n e.history) x → IsKept (take n other) x
    kept_other x low kept = record {
      since = kept.since;
      told = kept.told;
      behind = kept.behind;
      unchanged = let told = kept.told in conflict_other x.key kept.since n None (omega (arith, low, told)) high kept.unchanged;
    }

    all_kept_other : (keys : List ToldKey) → AllByRecursion (λ x. e.base ≤ x.told) keys → AreKept (take n e.history) keys → AreKept (take n other) keys
    all_kept_other [] low kept = tt
    all_kept_other (x ∷ keys) low kept = (kept_other x low.0 kept.0, all_kept_other keys low.1 kept.1)

    validated_other : (own : Staged) → TxnIsFrom e.base e.history (Open own) → IsValidated (take n e.history) own → IsValidated (take n other) own
    validated_other own from valid = by own.pin from valid
      where
        by : (pin : Option ℕ) → IfSome pin (λ m. e.base ≤ m) → IfSome pin (λ m. (key : List ℕ) → is_its_key own key ≡ true → conflict (take n e.history) key m ≡ None) → IfSome pin (λ m. (key : List ℕ) → is_its_key own key ≡ true → conflict (take n other) key m ≡ None)
        by None low none = tt
        by (Some m) low none = λ key its. conflict_other key m n None low high (none key its)

    keeps_other : (own : Staged) (keys : List ToldKey) → TxnIsFrom e.base e.history (Open own) → AllByRecursion (λ x. e.base ≤ x.told) keys → KeepsKeys (take n e.history) own keys → KeepsKeys (take n other) own keys
    keeps_other own keys from low k = record { all = k.all; kept = all_kept_other keys low k.kept; validated = validated_other own from k.validated }

  keeps_before : (last n : ℕ) (x : Entry) (own : Staged) (keys : List ToldKey) → IsLoggedAt e.history last n x → TxnIsFrom e.base e.history (Open own) → AllByRecursion (λ y. e.base ≤ y.told) keys → KeepsKeys (take (n - 1) e.history) own keys → KeepsKeys (take (n - 1) other) own keys
  keeps_before last n x own keys l from low kept = let within = entry_within e.history n x l.1 in keeps_other (n - 1) (omega (arith, within)) own keys from low kept

  prepares_other : (progress : Progress) (client : Client) (n : ℕ) → IsFrom e.base e.history progress client → PreparesAt e.history progress client.txn n → PreparesAt other progress client.txn n
  prepares_other progress client n f l = by client.txn f.txn l
    where
      by : (txn : Txn) → TxnIsFrom e.base e.history txn → PreparesAt e.history progress txn n → PreparesAt other progress txn n
      by (Open own) from (logged, kept) = (logged_other progress.last n _ f.last logged, keeps_before progress.last n _ own progress.keys logged from f.keys kept)
      by Idle from l = absurd l
      by (Prepared p) from l = absurd l

  commits_other : (progress : Progress) (client : Client) (n : ℕ) → IsFrom e.base e.history progress client → CommitsAt e.history progress client.txn n → CommitsAt other progress client.txn n
  commits_other progress client n f l = by client.txn f.txn l
    where
      by : (txn : Txn) → TxnIsFrom e.base e.history txn → CommitsAt e.history progress txn n → CommitsAt other progress txn n
      by Idle from l = absurd l
      by (Open own) from (logged, kept) = (logged_other progress.last n _ f.last logged, keeps_before progress.last n _ own progress.keys logged from f.keys kept)
      by (Prepared p) from l = logged_other progress.last n _ f.last l

  rolls_other : (last : ℕ) (txn : Txn) (n : ℕ) → e.base ≤ last → RollsBackAt e.history last txn n → RollsBackAt other last txn n
  rolls_other last (Prepared p) n low (closed, (batch, undone)) = (logged_other last n _ low closed, (batch, logged_other last (n - 1) _ low undone))
  rolls_other last _ n low l = absurd l

  -- ---- several transactions at once

  named_other : (n : ℕ) (names : List (List ℕ)) (numbers : List ℕ) → e.base ≤ n → n ≤ length e.history → AreNamed (take n e.history) names numbers → AreNamed (take n other) names numbers
  named_other n names numbers low high all = zip_map _ _ (λ name p is. sym (a.whole.names name n low high) ∙ is) names numbers all

  module _ (last : ℕ) (low : e.base ≤ last) where
    logged_there : (n : ℕ) (x : Entry) → IsLoggedAt e.history last n x → IsLoggedAt other last n x
    logged_there n x l = logged_other last n x low l

    was_there : (name : List ℕ) (p : ℕ) → WasUndecided e.history last name p → WasUndecided other last name p
    was_there name p was = was_other last name p low was

    settles_other : (names : List (List ℕ)) (n count : ℕ) → SettlesAll e.history last names n count → SettlesAll other last names n count
    settles_other names n count s =
        let fresh = (settled_fresh e.history last names n count (logged_within e.history last) s).0 in record {
          all = s.all;
          some = s.some;
          published = s.published;
          behind = s.behind;
          numbers = s.numbers;
          named = named_other s.published names s.numbers (omega (arith, low, fresh.0)) fresh.1 s.named;
          committed = committed_too e.history other last logged_there was_there s.published s.numbers s.committed;
        }

    crowded_other : (names : List (List ℕ)) (p q : ℕ) → AreCrowded e last names p q → AreCrowded with_other last names p q
    crowded_other names p q c =
        let fresh = c.fresh in record {
          at = c.at;
          fresh = fresh_other last c.at fresh;
          numbers = c.numbers;
          named = named_other c.at names c.numbers (omega (arith, low, fresh.0)) fresh.1 c.named;
          crowded = c.crowded;
        }

    refused_other : (names : List (List ℕ)) (name : List ℕ) → IsFirstRefused e.history last names name → IsFirstRefused other last names name
    refused_other names name r = refused_too e.history other last logged_there was_there names name r

    asks_other : (txn : Txn) (c : Command) (entries : List Entry) → AsksFor e.history last txn c entries → AsksFor other last txn c entries
    asks_other txn c entries asks = asks_too e.history other last logged_there was_there txn c entries asks

  -- ---- tables

  flush_count_other : (n versions : ℕ) → n ≤ length e.history → IsFlushCount e n versions → IsFlushCount with_other n versions
  flush_count_other n versions le (flushed, was, count) = (flushed, was, ap (λ (vs : List Version). length vs) (sym (a.later flushed n (k.flushed flushed was) le)) ∙ count)

  nothing_to_flush_other : (last : ℕ) → HasNothingToFlush e last → HasNothingToFlush with_other last
  nothing_to_flush_other last (le, (flushed, was, none)) = (within_other last le, (flushed, was, sym (a.later flushed last (k.flushed flushed was) le) ∙ none))

  compaction_count_other : (n versions : ℕ) → n ≤ length e.history → IsCompactionCount e.history e.base n versions → IsCompactionCount other e.base n versions
  compaction_count_other n versions le count = λ keys has.
      let there : HasKeysAt e.history e.base keys = λ key value is. has key value (value_other key e.base (Some value) (omega arith) base_within is) in
      let bound = count keys there in
      let carried = ap (λ (c : Cut). length (carried_versions c.carried)) (a.whole.cuts e.base (omega arith) base_within) in
      let later = ap (λ (vs : List Version). length vs) (a.later e.base n (omega arith) le) in
      omega (arith, bound, carried, later)

  module _ (at : ℕ) (from : e.base ≤ at) (high : at ≤ length e.history) where
    front_long : length (take at e.history) ≡ length (take at other)
    front_long = (a.fronts at from high).long

    unflushed_other : unflushed (take at e.history) e.installed ≡ unflushed (take at other) e.installed
    unflushed_other = a.later e.installed.flushed at k.installed high

    flushed_other : after_flush (take at e.history) e.installed ≡ after_flush (take at other) e.installed
    flushed_other = λ i. record e.installed { flushed = front_long i; versions = sorted_of (unflushed_other i ++ e.installed.versions); tables = suc e.installed.tables }

    renewed_other : (place : ℕ) → after_renewal (take at e.history) place e.installed ≡ after_renewal (take at other) place e.installed
    renewed_other place = λ i. record (with_table (unflushed_other i) e.installed) { segment = record { place = place; base = front_long i }; flushed = front_long i }

    committed_other : (key : List ℕ) (p n : ℕ) (value : Option (List ℕ)) → e.base ≤ n → entry_version e.history p key ≡ Some value → entry_version other p key ≡ Some value → is_committed (take at e.history) p n ≡ is_committed (take at other) p n
    committed_other key p n value low here also =
        elim (cases_lt at p) [
          | inl past ↦
              let size = length-take-le at e.history high in let long = front_long in
              none_committed (take at e.history) p n (omega (arith, size, past)) ∙ sym (none_committed (take at other) p n (omega (arith, size, long, past)))
          | inr le ↦
              (a.fronts at from high).committed key p n value value low (front_version e.history at p key high le ∙ here) (front_version other at p key (within_other at high) le ∙ also)
        ]

    numbers_same : (key : List ℕ) (p : ℕ) (value : Option (List ℕ)) → entry_version e.history p key ≡ Some value → entry_version other p key ≡ Some value → (numbers : List ℕ) → AllByRecursion (λ n. e.base ≤ n) numbers
        → AllByRecursion (λ n. is_committed (take at e.history) p n ≡ is_committed (take at other) p n) numbers
    numbers_same key p value here also [] all = tt
    numbers_same key p value here also (n ∷ numbers) all = (committed_other key p n value all.0 here also, numbers_same key p value here also numbers all.1)

    versions_same : (versions : List Version) (numbers : List ℕ) → HasEach e.history versions → HasEach other versions → AllByRecursion (λ n. e.base ≤ n) numbers
        → AllByRecursion (λ v. AllByRecursion (λ n. is_committed (take at e.history) v.number n ≡ is_committed (take at other) v.number n) numbers) versions
    versions_same [] numbers has also all = tt
    versions_same (v ∷ versions) numbers has also all = (numbers_same v.key v.number v.value has.0 also.0 numbers all, versions_same versions numbers has.1 also.1 all)

    retained_other : (numbers : List ℕ) → AllByRecursion (λ n. e.base ≤ n) numbers → retained (take at e.history) numbers e.installed ≡ retained (take at other) numbers e.installed
    retained_other numbers all =
        let size = length-take-le at e.history high in
        let floor : e.base ≤ length (take at e.history) = omega (arith, size, from) in
        retained_same (is_committed (take at e.history)) (is_committed (take at other)) e.installed.versions numbers (length (take at e.history)) (versions_same e.installed.versions (length (take at e.history) ∷ numbers) k.versions k.also (floor, all))
        ∙ ap (retained_of (is_committed (take at other)) e.installed.versions numbers) front_long

    compacted_other : (numbers : List ℕ) → AllByRecursion (λ n. e.base ≤ n) numbers → after_compaction (take at e.history) numbers e.installed ≡ after_compaction (take at other) numbers e.installed
    compacted_other numbers all = ap (λ (vs : List Version). record e.installed { versions = vs; tables = min (length vs) 1 }) (retained_other numbers all)

  flush_fails_other : (last : ℕ) → e.base ≤ last → FailsFlush e last → FailsFlush with_other last
  flush_fails_other last low f =
      let from : e.base ≤ f.at = omega (arith, low, f.fresh.0) in record {
        at = f.at;
        fresh = fresh_other last f.at f.fresh;
        some = subst (λ (vs : List Version). 1 ≤ length vs) (unflushed_other f.at from f.fresh.1) f.some;
        edit = subst (λ (x : InstalledEdit). IfSome e.failed.edit (λ edit. edit ≡ x)) (flushed_other f.at from f.fresh.1) f.edit;
      }

  compaction_fails_other : (last : ℕ) (client : Client) → e.base ≤ last → FailsCompaction e last client → FailsCompaction with_other last client
  compaction_fails_other last client low f =
      let from : e.base ≤ f.at = omega (arith, low, f.fresh.0) in
      let all = joined_from e.base f.live (e.base ∷ e.installed.segment.base ∷ []) (each_from e.base f.live f.from_base) (omega arith, (k.based, tt)) in record {
        at = f.at;
        fresh = fresh_other last f.at f.fresh;
        two = f.two;
        live = f.live;
        own = f.own;
        from_base = f.from_base;
        edit = subst (λ (x : InstalledEdit). IfSome e.failed.edit (λ edit. edit ≡ x)) (compacted_other f.at from f.fresh.1 (listed f.live e.base e.installed) all) f.edit;
      }

  renewal_fails_other : (last : ℕ) → e.base ≤ last → FailsRenewal e last → FailsRenewal with_other last
  renewal_fails_other last low f =
      let from : e.base ≤ f.at = omega (arith, low, f.fresh.0) in record {
        at = f.at;
        fresh = fresh_other last f.at f.fresh;
        behind = f.behind;
        place = f.place;
        edit = subst (λ (x : InstalledEdit). IfSome e.failed.edit (λ edit. edit ≡ x)) (renewed_other f.at from f.fresh.1 f.place) f.edit;
      }

  renews_other : (c : Command) → RenewsSomething e c → RenewsSomething with_other c
  renews_other command.Renew below = let long = a.whole.long in omega (arith, below, long)
  renews_other other_command below = tt

  -- ---- the rows

  snapshot_from : (client : Client) (label : List ℕ) (n : ℕ) → AreFrom e.base client.snapshots → number_of client.snapshots label ≡ Some n → e.base ≤ n
  snapshot_from client label n from is = subst (λ (o : Option ℕ). IfSome o (λ m. e.base ≤ m)) is (number_from e.base client.snapshots label from)

  pub condition_other : (progress : Progress) (client : Client) (p : ℕ) (c : Command) (r : Reply) → IsFrom e.base e.history progress client → Condition e progress client p c r → Condition with_other progress client p c r
  condition_other progress client p c (reply.Full published most) f k = (k.0, fresh_other progress.last published k.1, k.2, k.3)
  condition_other progress client p c reply.FaultLog f k = (asks_other progress.last f.last client.txn c e.failed.entries k.0, renews_other c k.1)
  condition_other progress client p c (reply.Stopped n) f k = (k.0, fresh_other progress.last n k.1, k.2)
  condition_other progress client p (command.Put key value) (reply.Put n) f k = (k.0, logged_other progress.last n _ f.last k.1)
  condition_other progress client p (command.Put key value) reply.Held f k = k
  condition_other progress client p (command.Put key value) (reply.Busy holder) f k = (k.0, busy_other progress.last key holder f.last k.1)
  condition_other progress client p (command.Put key value) (reply.Conflict n) f k = conflicts_other progress.last client.txn key n f.txn k
  condition_other progress client p (command.Del key) (reply.Del n) f k = (k.0, logged_other progress.last n _ f.last k.1)
  condition_other progress client p (command.Del key) reply.Held f k = k
  condition_other progress client p (command.Del key) (reply.Busy holder) f k = (k.0, busy_other progress.last key holder f.last k.1)
  condition_other progress client p (command.Del key) (reply.Conflict n) f k = conflicts_other progress.last client.txn key n f.txn k
  condition_other progress client p (command.Get key) (reply.Got value n) f k = (own_other client.txn key _ f.txn k.0, fresh_other progress.last n k.1, value_other key n _ (let low = f.last in omega (arith, low, k.1.0)) k.1.1 k.2)
  condition_other progress client p (command.Get key) (reply.Missing n) f k = (own_other client.txn key _ f.txn k.0, fresh_other progress.last n k.1, value_other key n _ (let low = f.last in omega (arith, low, k.1.0)) k.1.1 k.2)
  condition_other progress client p (command.Get key) (reply.GotOwn value) f k = own_other client.txn key _ f.txn k
  condition_other progress client p (command.Get key) reply.MissingOwn f k = own_other client.txn key _ f.txn k
  condition_other progress client p (command.GetAt key label) (reply.Got value n) f k = ((k.0.0, within_other n k.0.1), value_other key n _ (snapshot_from client label n f.snapshots k.0.0) k.0.1 k.1)
  condition_other progress client p (command.GetAt key label) (reply.Missing n) f k = ((k.0.0, within_other n k.0.1), value_other key n _ (snapshot_from client label n f.snapshots k.0.0) k.0.1 k.1)
  condition_other progress client p (command.Scan from to) (reply.Rows pairs n) f k = (k.0, fresh_other progress.last n k.1, k.2 ∙ a.rows from to n (let low = f.last in omega (arith, low, k.1.0)) k.1.1)
  condition_other progress client p (command.ScanAt from to label) (reply.Rows pairs n) f k = (k.0, (k.1.0, within_other n k.1.1), k.2 ∙ a.rows from to n (snapshot_from client label n f.snapshots k.1.0) k.1.1)
  condition_other progress client p (command.Snap label) (reply.Snapped n) f k = fresh_other progress.last n k
  condition_other progress client p (command.Free label) reply.Freed f k = k
  condition_other progress client p (command.Begin name) reply.Begun f k = k
  condition_other progress client p (command.Begin name) (reply.Taken other) f k = (k.0, taken_other progress.last name f.last k.1)
  condition_other progress client p command.Pin (reply.Pinned n) f k = fresh_other progress.last n k
  condition_other progress client p (command.Lock key) (reply.Got value n) f k = (own_other client.txn key _ f.txn k.0, fresh_other progress.last n k.1, value_other key n _ (let low = f.last in omega (arith, low, k.1.0)) k.1.1 k.2)
  condition_other progress client p (command.Lock key) (reply.Missing n) f k = (own_other client.txn key _ f.txn k.0, fresh_other progress.last n k.1, value_other key n _ (let low = f.last in omega (arith, low, k.1.0)) k.1.1 k.2)
  condition_other progress client p (command.Lock key) (reply.GotOwn value) f k = own_other client.txn key _ f.txn k
  condition_other progress client p (command.Lock key) reply.MissingOwn f k = own_other client.txn key _ f.txn k
  condition_other progress client p (command.Lock key) (reply.Busy holder) f k = (k.0, busy_other progress.last key holder f.last k.1)
  condition_other progress client p (command.Lock key) (reply.Conflict n) f k = conflicts_other progress.last client.txn key n f.txn k
  condition_other progress client p command.Prepare (reply.Prepared n) f k = prepares_other progress client n f k
  condition_other progress client p command.Commit (reply.Committed n) f k = commits_other progress client n f k
  condition_other progress client p command.Rollback reply.Dropped f k = k
  condition_other progress client p command.Rollback (reply.RolledBack n) f k = rolls_other progress.last client.txn n f.last k
  condition_other progress client p command.Leave reply.Left f k = k
  condition_other progress client p (command.Take name) reply.Took f k = was_other progress.last name p f.last k
  condition_other progress client p (command.Take name) (reply.Unknown other n) f k = (k.0, fresh_other progress.last n k.1, sym (a.whole.names name n (let low = f.last in omega (arith, low, k.1.0)) k.1.1) ∙ k.2)
  condition_other progress client p (command.Take name) (reply.InUse other) f k = k
  condition_other progress client p (command.Settle names) (reply.Settled n count) f k = (k.0, settles_other progress.last f.last names n count k.1)
  condition_other progress client p (command.Settle names) (reply.Crowded first second) f k = (k.0, crowded_other progress.last f.last names first second k.1)
  condition_other progress client p (command.Settle names) (reply.Unknown name n) f k = (k.0, refused_other progress.last f.last names name k.1, fresh_other progress.last n k.2, sym (a.whole.names name n (let low = f.last in omega (arith, low, k.2.0)) k.2.1) ∙ k.3)
  condition_other progress client p (command.Settle names) (reply.InUse name) f k = (k.0, refused_other progress.last f.last names name k.1, k.2)
  condition_other progress client p command.Flush (reply.Flushed n versions) f k = (fresh_other progress.last n k.0, k.1, flush_count_other n versions k.0.1 k.2)
  condition_other progress client p command.Flush reply.Nothing f k = nothing_to_flush_other progress.last k
  condition_other progress client p command.Flush (reply.Halted flushed) f k = k
  condition_other progress client p command.Flush reply.FaultTables f k = flush_fails_other progress.last f.last k
  condition_other progress client p command.Compact (reply.Compacted n versions) f k = (fresh_other progress.last n k.0, compaction_count_other n versions k.0.1 k.1)
  condition_other progress client p command.Compact reply.Nothing f k = k
  condition_other progress client p command.Compact (reply.Halted flushed) f k = k
  condition_other progress client p command.Compact reply.FaultTables f k = compaction_fails_other progress.last client f.last k
  condition_other progress client p command.Renew (reply.Renewed n carried) f k = (fresh_other progress.last n k.0, k.1, k.2 ∙ ap (λ (ns : List ℕ). length ns) (a.whole.prepares n (let low = f.last in omega (arith, low, k.0.0)) k.0.1))
  condition_other progress client p command.Renew reply.Nothing f k = k
  condition_other progress client p command.Renew (reply.Halted flushed) f k = k
  condition_other progress client p command.Renew reply.FaultTables f k = renewal_fails_other progress.last f.last k
  condition_other progress client p (command.Tell label) (reply.Told n) f k = fresh_other progress.last n k
  condition_other progress client p (command.Hear label) (reply.Heard n) f k = (fresh_other progress.last n k.0, k.1)
  condition_other progress client p (command.Hear label) (reply.Silent other) f k = k
  condition_other progress client p c r f k = absurd k
