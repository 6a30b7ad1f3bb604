-- Prepared transactions that the Commits of one record decide, and that end one after another.
use Rattle.std.proofs.Common.{◌≡◌, ◌≢◌, inl, ℕ, suc, ◌+◌, ◌<◌, ◌≤◌, ◌||◌, Bool, true, false, List, [], ◌∷◌, ◌++◌, length, length-append, refl, sym, subst, ap, ◌∙◌, Some, None, arith}
use Rattle.std.specs.Prelude.{Ok, slice_index_or}
use Rattle.std.specs.FinMap as finite
use Rattle.std.specs.List.{AllByRecursion, remove}
use Rattle.std.specs.Str.{bytes_eq}
use Rattle.std.proofs.lemmas.Bool.{false_from_ne_true}
use Rattle.std.proofs.lemmas.List.{length-map}
use Rattle.std.proofs.lemmas.Slice.Eq.{bytes_eq-Decides}
use Rattle.wp_model.specs.CachePlace.{NoneShare}
use Rattle.wp_model.specs.Decision.{decision_of}
use Rattle.wp_model.specs.History.{entry_at, is_changed, prepared_batch}
use Rattle.wp_model.specs.Legal.{IsLegal}
use Rattle.wp_model.specs.LockState.{is_among_keys}
use Rattle.wp_model.specs.declared.change.Change.{Change}
use Rattle.wp_model.specs.declared.entry.Entry.{Entry}
use Rattle.wp_model.specs.declared.entry.Entry.TheVariants.{Prepare, Commit}
use Rattle.wp_model.specs.declared.holder.Holder.TheVariants.{Txn}
use Rattle.wp_model.proofs.Entries.{entry_at_old}
use Rattle.wp_model.proofs.Keyed.{else_removed}
use Rattle.wp_history_laws.proofs.Growth.{after_front, legal_before, length_next}
use Rattle.wp_history_laws.proofs.Unchanged.{unchanged_grows}
use Rattle.wp_judge.specs.Words.{fits, seq_end}
use Rattle.wp_core.specs.Lists.{IsIn}
use Rattle.wp_core.specs.Views.{Fact, has_left, unprepared}
use Rattle.wp_core.specs.World.{Participant}
use Rattle.wp_core.proofs.KeepsSeen.{shorter}
use Rattle.wp_records.specs.Records.{numbers_behind, putting}
use Rattle.wp_records.specs.Writing.{FoundLog}
use Rattle.wp_shared.specs.Notes.{with_participant}
use Rattle.wp_shared.specs.Seats.{SharedState, SeatState, IsFree, place_at}
use Rattle.wp_shared.proofs.Onward.{continues_none}
use Rattle.wp_open_txns.specs.declared.error.TxnError.{TxnError}
use Rattle.wp_open_txns.specs.declared.error.TxnError.TheVariants.{Memory, Crowded}
use Rattle.wp_open_txns.specs.Calls.{IsFreeName, without_transaction, Frees}
use Rattle.wp_open_txns.specs.Turns.{IsApartFrom}
use Rattle.wp_open_txns.specs.Txn.{PreparedState, has_key, HasLocked, HasPrepared}
use Rattle.wp_open_txns.proofs.Made.{key_there}
use Rattle.wp_open_txns.proofs.Still.{prepared_locked, prepared_still}
use Rattle.wp_txn.specs.Groups.{names_of, numbers_of, their_commits, without_each, without_transactions, AreApartFrom, StayUnchangedEach, FreesEach, IsDecidedBy, AreDecidedBehind, EndsEach, ArePrepared, AreNoGroup, RefusesAll, RefusesGroup, CommitsAll}
use Rattle.wp_txn.specs.Recording.{notes_of_each, Records}
use Rattle.wp_txn.specs.Writes.{Refuses, RefusesBeforeLog, StayUnchanged}
use Rattle.wp_txn.proofs.Committed.{first_of, legal_first, first_decides}
use Rattle.wp_txn.proofs.Ends.{put_and_gone, seen_still, locked_until, locks_as, stands_before, stay_unchanged}
use Rattle.wp_txn.proofs.BeforeLog.{refused_txn_before}
use Rattle.wp_txn.proofs.Goes.{chain, refused_still}
use Rattle.wp_txn.proofs.Each.{all_in, all_of, all_with, in_mapped, HaveOtherNames}

-- ---- they end

-- what is noted of a number is about no transaction
left_apart : (p : ℕ) (names : List (List ℕ)) → AllByRecursion (λ name. IsApartFrom name (has_left p)) names
left_apart p [] = tt
left_apart p (name ∷ others) = ((refl, refl), left_apart p others)

frees_as : {D : Type 0} (z : SharedState D) (s t : SeatState) (names : List (List ℕ)) (p : Participant) → t.by ≡ s.by → t.knows.made ≡ s.knows.made → t.knows.joined ≡ s.knows.joined → FreesEach z s p names → FreesEach z t p names
frees_as z s t [] p by made joined frees = tt
frees_as z s t (name ∷ others) p by made joined frees =
    let q = without_transaction name p in (
      locks_as z (with_participant q s) (with_participant q t) (IsFreeName name) by refl made joined frees.0,
      frees_as z s t others q by made joined frees.1,
    )

pub none_ends : {D : Type 0} (z : SharedState D) (s : SeatState) (n : ℕ) → IsFree z.table s → EndsEach z s [] n s
none_ends z s n free = record { gives_up = continues_none z s free; same = refl; gone = tt; freed = tt }

-- the first of them ends, and then the others
module _ {D : Type 0} (z : SharedState D) (s u : SeatState) (x : PreparedState) (n : ℕ) (frees : Frees z s u x.name) where
  pub first_ends : (fits z.cells (record { number = x.number; decision = suc n }) ≡ true → IsIn (has_left x.number) u.knows.notes) → (others : List PreparedState) (new : SeatState) → EndsEach z u others (suc n) new → EndsEach z s (x ∷ others) n new
  first_ends gone others new ends =
      let names = names_of others in let was = s.knows.participant in let it = without_transaction x.name was in record {
        gives_up = chain (AreApartFrom (x.name ∷ names)) (IsApartFrom x.name) (AreApartFrom names) z s u new it (without_transactions names u.knows.participant) (without_transactions (x.name ∷ names) was)
            (λ fact apart. apart.1.0) (λ fact apart. (apart.0, apart.1.1)) frees.gives_up ends.gives_up
            (ap (λ (p : Participant). record (without_transactions names p) { seen = new.knows.participant.seen }) frees.same);
        same = ends.same ∙ ap (without_transactions names) frees.same;
        gone = ((λ fit. ends.gives_up.notes (has_left x.number) (refl, left_apart x.number names) (gone fit)), ends.gone);
        freed = (
          locks_as z u (with_participant it s) (IsFreeName x.name) (sym frees.gives_up.same_by) (sym frees.same) (sym frees.gives_up.made) (sym frees.gives_up.joined) frees.freed,
          subst (λ (p : Participant). FreesEach z s p names) frees.same (frees_as z u s names u.knows.participant (sym frees.gives_up.same_by) (sym frees.gives_up.made) (sym frees.gives_up.joined) ends.freed),
        );
      }

  -- the others are decided still
  pub decided_still : (others : List PreparedState) (m : ℕ) → AllByRecursion (λ y. x.name ≢ y.name) others → AreDecidedBehind s m others → AreDecidedBehind u m others
  decided_still [] m apart are = tt
  decided_still (y ∷ others) m apart are = (
    record {
      has = record {
        transaction = are.0.has.transaction;
        has = ap (λ (p : Participant). finite.get p.transactions y.name) frees.same ∙ else_removed s.knows.participant.transactions x.name y.name (λ same. apart.0 (sym same)) ∙ are.0.has.has;
        keys = are.0.has.keys;
      };
      noted = frees.gives_up.notes (unprepared y.name) (refl, false_from_ne_true (bytes_eq x.name y.name) (λ same. apart.0 ((bytes_eq-Decides x.name y.name).0 same))) are.0.noted;
      decided = subst (λ (p : Participant). (decision_of p.seen y.number ≡ Some (suc m)) × (y.number ≤ suc m) × (suc m < seq_end)) (sym frees.same) are.0.decided;
    },
    decided_still others (suc m) apart.1 are.1,
  )

-- where the first is taken out of a list, it is the first
pub first_out : (xs : List PreparedState) (d : PreparedState) → 0 < length xs → xs ≡ slice_index_or xs 0 d ∷ remove xs 0
first_out [] d some = absurd (omega (arith, some))
first_out (x ∷ others) d some = refl

-- ---- they are decided

module _ {D : Type 0} (z : SharedState D) (old mid : SeatState) (xs : List PreparedState) (free : IsFree z.table old) (has : AllByRecursion (HasPrepared old) xs) (n : ℕ) (r : Records z old (their_commits xs) (λ m. notes_of_each xs) (Ok n) mid) where
  abbrev before_it : List Entry
  before_it = r.1.0

  abbrev it : Participant
  it = old.knows.participant

  mid_free : IsFree z.table mid
  mid_free = r.1.1.put.goes_on.free

  pub last_is : n ≡ length before_it + length xs
  last_is =
      let long = length-append before_it (their_commits xs) in let many = length-map (numbers_of xs) (λ p. Commit p) in let same = length-map xs (λ x. x.number) in
      let last = r.0 ∙ ap (λ (es : List Entry). length es) r.1.1.put.seen in omega (arith, last, long, many, same)

  -- each has what it is ended with
  abbrev MayEnd : PreparedState → Type 0
  MayEnd x = HasLocked mid x.name x.batch x.locked × IsIn (unprepared x.name) mid.knows.notes

  decided_each : (ys : List PreparedState) (before : List Entry) (m : ℕ) → m ≡ length before → mid.knows.participant.seen ≡ before ++ their_commits ys → IsLegal (before ++ their_commits ys) → AllByRecursion MayEnd ys → AreDecidedBehind mid m ys
  decided_each [] before m is seen legal own = tt
  decided_each (y ∷ others) before m is seen legal own =
      let d = first_decides before y others legal in let long = length_next before (Commit y.number) in (
        record {
          has = own.0.0;
          noted = own.0.1;
          decided = subst (λ (k : ℕ). (decision_of mid.knows.participant.seen y.number ≡ Some (suc k)) × (y.number ≤ suc k) × (suc k < seq_end)) (sym is) (ap (λ (es : List Entry). decision_of es y.number) seen ∙ d.0, d.1, d.2);
        },
        decided_each others (before ++ Commit y.number ∷ []) (suc m) (omega (arith, is, long)) (seen ∙ sym (first_of before y others)) (legal_first before y others legal) own.1,
      )

  pub are_decided : AreDecidedBehind mid (length before_it) xs
  are_decided = decided_each xs before_it (length before_it) refl r.1.1.put.seen r.1.1.legal (all_of MayEnd xs (λ x there. (
    locked_until z old old mid mid mid None (their_commits xs) (λ m. notes_of_each xs) n (continues_none z old free) r (continues_none z mid mid_free) refl x.name x.batch x.locked (prepared_locked old x (all_in (HasPrepared old) xs x has there)),
    r.2 (unprepared x.name) (in_mapped (λ y. unprepared y.name) xs x there),
  )))

  -- ---- none of them changes a key of another

  abbrev found : FoundLog z old it before_it false
  found = r.1.1.put.found_log

  holds : (x : PreparedState) → HasPrepared old x → (key : List ℕ) → has_key x.batch x.locked key ≡ true → finite.get found.world.locks.keys key ≡ Some (Txn x.name)
  holds x h key is =
      key_there (place_at z old.by) found.actor found.world found.there x.name h.transaction (ap (λ (p : Participant). finite.get p.transactions x.name) found.participant ∙ h.has) key (h.keys key ∙ is)

  keys_apart : (x y : PreparedState) → HasPrepared old x → HasPrepared old y → x.name ≢ y.name → (key : List ℕ) → has_key y.batch y.locked key ≡ true → is_changed x.batch key ≡ false
  keys_apart x y hx hy apart key is = false_from_ne_true (is_changed x.batch key) (λ changed.
      let both : Some (Txn x.name) ≡ Some (Txn y.name) = sym (holds x hx key (ap (λ (b : Bool). b || is_among_keys x.locked key) changed)) ∙ holds y hy key is in
      let same : x.name ≡ y.name = cc in apart same)

  -- its prepare stands in this history
  abbrev StandsIn : List Entry → PreparedState → Type 0
  StandsIn before y = (y.number ≤ length before) × (entry_at before y.number ≡ Some (Prepare y.name y.batch))

  unchanged_each : (ys : List PreparedState) (before : List Entry) → IsLegal (before ++ their_commits ys) → AllByRecursion (HasPrepared old) ys → HaveOtherNames ys → AllByRecursion (StandsIn before) ys → AllByRecursion (λ y. StayUnchanged y before) ys
      → StayUnchangedEach ys before
  unchanged_each [] before legal own apart stand stay = tt
  unchanged_each (x ∷ others) before legal own apart stand stay =
      let entry : Entry = Commit x.number in
      let grown : List Entry = before ++ entry ∷ [] in
      let long = length_next before entry in
      let is : prepared_batch (entry_at before x.number) ≡ x.batch = ap prepared_batch stand.0.1 in (
        stay.0,
        unchanged_each others grown (legal_first before x others legal) own.1 apart.1
            (all_of (StandsIn grown) others (λ y there. let k = all_in (StandsIn before) others y stand.1 there in let low = k.0 in (omega (arith, long, low), entry_at_old before (entry ∷ []) y.number k.0 ∙ k.1)))
            (all_of (λ y. StayUnchanged y grown) others (λ y there key has_it.
            unchanged_grows before entry (legal_before before (their_commits (x ∷ others)) legal) (after_front before entry (their_commits others) legal) key y.number
            (ap (λ (b : List Change). is_changed b key) is ∙ keys_apart x y own.0 (all_in (HasPrepared old) others y own.1 there) (all_in (λ w. x.name ≢ w.name) others y apart.0 there) key has_it)
            (all_in (λ w. StayUnchanged w before) others y stay.1 there key has_it))),
      )

  pub stay_unchanged_each : HaveOtherNames xs → StayUnchangedEach xs before_it
  stay_unchanged_each apart =
      let long = shorter before_it it.seen r.1.1.put.grown in
      unchanged_each xs before_it r.1.1.legal has apart
      (all_of (StandsIn before_it) xs (λ x there. let h = all_in (HasPrepared old) xs x has there in let low = h.seen in (omega (arith, long, low), stands_before old x h before_it r.1.1.put.grown)))
      (all_of (λ x. StayUnchanged x before_it) xs (λ x there. stay_unchanged z old old mid (their_commits xs) (λ m. notes_of_each xs) n (continues_none z old free) r x (all_in (HasPrepared old) xs x has there)))

  -- ---- and they are gone

  pub commits_all : NoneShare z.cells (numbers_of xs) → HaveOtherNames xs → (new : SeatState) → EndsEach z mid xs (length before_it) new → CommitsAll z old xs n new
  commits_all share apart new ends =
      let names = names_of xs in let entries = their_commits xs in let notes : ℕ → List Fact = λ m. notes_of_each xs in
      let begins = continues_none z old free in let goes = r.1.1.put.goes_on in
      let is : mid.knows.participant ≡ putting before_it entries it = goes.participant ∙ ap (λ (es : List Entry). record it { seen = es; own = it.own ++ numbers_behind (length before_it) entries }) r.1.1.put.seen in record {
        number = seen_still z old old mid mid new None entries notes n begins r (continues_none z mid mid_free) refl (ap (λ (p : Participant). p.seen) ends.same);
        none_share = share;
        history = before_it;
        put = put_and_gone z old old mid mid new None entries notes n begins r (continues_none z mid mid_free) refl (AreApartFrom names) (λ fact stays. stays.0) (without_each names) ends.gives_up ends.same;
        unchanged = stay_unchanged_each apart;
        gone = ends.gone;
        freed = frees_as z mid old names (putting before_it entries it) (sym goes.same_by) (sym goes.made) (sym goes.joined) (subst (λ (p : Participant). FreesEach z mid p names) is ends.freed);
      }

-- one alone is decided by the last entry
pub one_decided : {D : Type 0} (z : SharedState D) (old mid : SeatState) (x : PreparedState) → IsFree z.table old → HasPrepared old x → (n : ℕ) → Records z old (their_commits (x ∷ [])) (λ m. notes_of_each (x ∷ [])) (Ok n) mid → IsDecidedBy mid n x
one_decided z old mid x free h n r =
    let last = last_is z old mid (x ∷ []) free (h, tt) n r in
    let is : suc (length r.1.0) ≡ n = omega (arith, last) in
    subst (λ (k : ℕ). IsDecidedBy mid k x) is (are_decided z old mid (x ∷ []) free (h, tt) n r).0

-- ---- a refusal

-- they are as they were
pub refuses_group : {D : Type 0} (z : SharedState D) (old new : SeatState) (xs : List PreparedState) (why : TxnError) → ArePrepared old xs → NoneShare z.cells (numbers_of xs)
    → Refuses z old new (length (their_commits xs)) (λ asked. asked ≡ their_commits xs) old.knows.participant old.knows.participant why → RefusesGroup z old xs xs why new
refuses_group z old new xs why has share c =
    let Asks : List Entry → Type 0 = λ asked. asked ≡ their_commits xs in let p = old.knows.participant in
    let still = refused_still z old new (length (their_commits xs)) Asks why c in
    let many = length-map (numbers_of xs) (λ p. Commit p) in let same = length-map xs (λ x. x.number) in
    let long : length (their_commits xs) ≡ length xs = omega (arith, many, same) in (
      refl,
      (all_with (HasPrepared old) (HasPrepared new) xs (λ x h. prepared_still old new still x h) has.0, has.1),
      by why (subst (λ (n : ℕ). Refuses z old new n Asks p p why) long c),
    )
  where
    by : (why : TxnError) → Refuses z old new (length xs) (λ asked. asked ≡ their_commits xs) old.knows.participant old.knows.participant why → RefusesAll z old xs why new
    by Memory c = c
    by (Crowded first second) c = absurd c
    by other c = (share, c)

-- nothing was called where they are no group
module _ {D : Type 0} (z : SharedState D) (s : SeatState) (xs : List PreparedState) (free : IsFree z.table s) where
  pub refuses_uncalled : ArePrepared s xs → (why : TxnError) → AreNoGroup z.cells xs why → RefusesGroup z s xs xs why s
  refuses_uncalled has Memory k = (refl, has, continues_none z s free)
  refuses_uncalled has (Crowded first second) k = (refl, has, (k, continues_none z s free, refl))
  refuses_uncalled has other k = absurd k

  pub uncalled_before : (why : TxnError) → AreNoGroup z.cells xs why → RefusesBeforeLog z s.knows.participant s why s
  uncalled_before Memory k = refused_txn_before z s s 1 (λ asked. Unit {0}) Memory (continues_none z s free) (inl refl)
  uncalled_before (Crowded first second) k = refused_txn_before z s s 1 (λ asked. Unit {0}) Memory (continues_none z s free) (inl refl)
  uncalled_before other k = absurd k
